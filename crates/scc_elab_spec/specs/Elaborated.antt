-- The design of a program: what the run of its top's constructor leaves, or what is refused first (IEEE 1666-2011, 4.1).
use Rattle.std.specs.Prelude.{ℕ, zero, suc, min, Bool, true, false, not, ◌&&◌, List, [], ◌∷◌, ◌++◌, map, filter_map, Option, Some, None, option_map, option_and_then, slice_get, unwrap_or, if◌then◌else◌, pos}
use Rattle.scc_base.specs.declared.refusal.Place.{Place}
use Rattle.scc_base.specs.declared.refusal.Refusal.{Refusal}
use Rattle.scc_base.specs.declared.code.Code.TheVariants as reason
use Rattle.scc_bits_kinds.specs.Numbers.{low}
use Rattle.scc_bits_kinds.specs.Kinds.{width_of}
use Rattle.scc_semantics.specs.Location.{Location, Part, Element}
use Rattle.scc_core_spec.specs.First.{refused}
use Rattle.scc_core_spec.specs.Resolved.{Tried, Made, Stopped, and_made}
use Rattle.scc_elab_spec.specs.Program.{Member, Class, Plain}
use Rattle.scc_elab_spec.specs.Design.{Design, Object, Node, Module, Port, Variable, Pointer, Process, Reset, Target}
use Rattle.scc_elab_spec.specs.Grown.{Grown, Declared, ResetItem, nothing, at_path, object_at, is_thing, path_if_top}
use Rattle.scc_elab_spec.specs.Made.{built, object_levels, none_given, is_name, function_of}
use Rattle.scc_elab_spec.specs.After.{root, levels, clock_of, first_reset, refused_after}

-- a module object or a thing at a path
abbrev pub is_reached : Node → Bool
is_reached (Module c) = true
is_reached n = is_thing n

abbrev pub led_to : Grown → List Part → Option Location
led_to g path = g.store.targets (at_path path)

-- a variable keeps the bits that its kind has; in a program whose values have their targets' kinds there are no others
abbrev pub left_node : Grown → ℕ → Object → Node → Node
left_node g n o (Port k output r) = Port k output (root g n)
left_node g n o (Variable k w) = Variable k (low (width_of k) (pos (g.store.words (at_path o.path))))
left_node g n o (Pointer t) = Pointer (option_and_then (λ l. option_and_then (object_at is_reached g) (path_if_top l)) (led_to g o.path))
left_node g n o node = node

abbrev pub objects_left : Grown → ℕ → List Object → List Object
objects_left g n [] = []
objects_left g n (o ∷ os) = record { path = o.path; place = o.place; node = left_node g n o o.node } ∷ objects_left g (suc n) os

-- No array has so many elements that the greatest index names one: it stands for all that are greater.
abbrev pub kept_part : Part → Part
kept_part (Element i) = Element (min i 4294967295)
kept_part p = p

-- the targets of pointers that aren't null, by the pointers' numbers
abbrev pub target_if : Grown → ℕ → Object → Node → List Target
target_if g n o (Pointer t) = unwrap_or (option_map (λ path. record { object = n; path = map kept_part path } ∷ []) (option_and_then path_if_top (led_to g o.path))) []
target_if g n o node = []

abbrev pub targets_left : Grown → ℕ → List Object → List Target
targets_left g n [] = []
targets_left g n (o ∷ os) = target_if g n o o.node ++ targets_left g (suc n) os

abbrev pub reset_left : Grown → ResetItem → Option Reset
reset_left g r = option_map (λ n. record { root = root g n; level = r.level; asynchronous = r.asynchronous }) r.signal

abbrev pub process_left : Grown → Declared → Process
process_left g d = record {
  object = d.object;
  function = d.function;
  place = d.place;
  is_thread = d.is_thread;
  senses = filter_map (λ i. option_map (root g) i.signal) (levels d);
  edge = option_map (λ c. record { root = c.root; rising = c.rising }) (clock_of g d);
  reset = option_and_then (reset_left g) (first_reset d.resets);
}

abbrev pub design_left : Grown → Design
design_left g = record { objects = objects_left g 0 g.objects; processes = map (process_left g) g.declared; targets = targets_left g 0 g.objects; vectors = g.vectors }

-- the top's constructor has no parameter but its name (E404), before anything is run
abbrev pub other_param : ℕ → Bool → List Member → Option Place
other_param zero named ms = None
other_param (suc n) named [] = None
other_param (suc n) named (m ∷ ms) = if is_name m.shape.base && not named then other_param n true ms else Some m.place

abbrev pub bad_top : Plain → Class → Option Refusal
bad_top p c = let f = function_of p c in option_map (refused reason.Constructor) (other_param f.params false f.locals)

abbrev pub left_unless : Option Refusal → Grown → Tried Design
left_unless (Some r) g = Stopped r
left_unless None g = Made (design_left g)

abbrev pub checked : Bool → Plain → Grown → Tried Design
checked many p g = left_unless (refused_after many p g) g

abbrev pub run_top : Bool → Plain → Class → Option Refusal → Tried Design
run_top many p c (Some r) = Stopped r
run_top many p c None = and_made (built p object_levels nothing [] c.place p.top none_given) (checked many p)

-- `many`: with several clocks
abbrev pub elaborated : (many : Bool) → Plain → Option (Tried Design)
elaborated many p = option_map (λ c. run_top many p c (bad_top p c)) (slice_get p.classes p.top)
