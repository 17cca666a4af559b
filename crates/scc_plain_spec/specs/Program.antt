-- The plain program of a source and a top, or what the static stage refuses first (ISO C++ [temp.inst]): a class for each class with arguments that the top needs, in the
-- order in which they are first needed, and their functions in the order in which the walk meets them.
use Rattle.std.specs.Prelude.{ℕ, suc, nat_eq, Bool, false, ◌&&◌, List, [], ◌∷◌, ◌++◌, length, find, map, flat_map, filter_map, Option, Some, None, option_map, option_and_then, unwrap_or, slice_get, if◌then◌else◌}
use Rattle.std.specs.List.{list_any}
use Rattle.scc_base.specs.declared.refusal.Refusal.{Refusal}
use Rattle.scc_core_spec.specs.Feeding.{reaches}
use Rattle.scc_core_spec.specs.Resolved.{Tried, Made, Stopped}
use Rattle.scc_templates_spec.specs.Walk.{Args, Constructs, Needed, Class, Free, same_args, same_callee}
use Rattle.scc_templates_spec.specs.World.{World}
use Rattle.scc_plain_first.specs.Recursion.{Named as Coming, calls_itself}
use Rattle.scc_plain_first.specs.Static.{Walks, staged, refusal_of}
use Rattle.scc_elab_spec.specs.Program as code
use Rattle.scc_plain_spec.specs.Types.{Base, OfObject}
use Rattle.scc_templates_spec.specs.Source.{Source, Member, Variable, Declares}
use Rattle.scc_plain_spec.specs.Names.{class_at, file_names, meaning_in}
use Rattle.scc_plain_spec.specs.Scope.{Answer, Body, class_body}
use Rattle.scc_plain_spec.specs.Keys.{outermost}
use Rattle.scc_plain_spec.specs.Forms.{Shape, form_of, is_direct}
use Rattle.scc_plain_spec.specs.Room.{Numbering}
use Rattle.scc_plain_spec.specs.Shapes.{field_shape}
use Rattle.scc_plain_spec.specs.Whole.{routed, shape_in, function_in}
use Rattle.scc_templates_spec.specs.Twice.{twice}
use Rattle.scc_plain_spec.specs.ClassWalk.{Met}
use Rattle.scc_plain_spec.specs.Stage.{place_of, functions_of, needed_walk, top_walk, functions_in, bodies_of}

-- a class with arguments of the program
pub record Instance : Type 0 where
  pub class : ℕ
  pub args : Args

abbrev pub instances : List Needed → List Instance
instances [] = []
instances (Class c as_given ∷ q) = record { class = c; args = as_given } ∷ instances q
instances (Free n ∷ q) = instances q

-- the number of the first that a test takes, in a list from a number on
abbrev pub number_from : {A : Type 0} → ℕ → (A → Bool) → List A → ℕ
number_from n test [] = n
number_from n test (x ∷ xs) = if test x then n else number_from (suc n) test xs

abbrev pub is_instance : ℕ → Args → Instance → Bool
is_instance c as_given i = nat_eq i.class c && same_args i.args as_given

module _ (s : Source) (w : World Answer) where
  abbrev pub numbering : List Needed → Numbering
  numbering q = record { class = λ c as_given. number_from 0 (is_instance c as_given) (instances q); function = λ f. number_from 0 (λ m. same_callee f m.callee) (functions_in s w q) }

  -- the member variables of a class with arguments, in declaration order
  abbrev pub variables : List Member → List ℕ
  variables [] = []
  variables (Variable k f ∷ ms) = k ∷ variables ms
  variables (Declares n i ∷ ms) = variables ms

  abbrev pub body_in : Instance → Option Body
  body_in i = (class_body s w i.class i.args (place_of s w i.class)).value

  abbrev pub shapes_in : Instance → List Shape
  shapes_in i = unwrap_or (option_map (λ b. filter_map (λ k. (field_shape s w i.class i.args k (place_of s w i.class)).value) (variables b.class.members)) (body_in i)) []

  -- E309: a class that holds itself, as a member or element, if only by others
  abbrev pub held : Instance → Shape → Bool
  held i h = by_base h.base
    where
      by_base : Base → Bool
      by_base (OfObject c as_given) = is_direct (form_of h) && is_instance c as_given i
      by_base b = false

  abbrev pub holds : List Instance → ℕ → ℕ → Bool
  holds is m n = unwrap_or (option_and_then (λ i. option_map (λ j. list_any (held j) (shapes_in i)) (slice_get is n)) (slice_get is m)) false

  abbrev pub class_coming : List Needed → Needed → List Coming
  class_coming q (Free n) = []
  class_coming q (Class c as_given) = record { place = place_of s w c; returns = reaches (holds (instances q)) (length (instances q)) number number } ∷ []
    where
      number : ℕ
      number = number_from 0 (is_instance c as_given) (instances q)

  abbrev pub function_coming : List Needed → Met → Coming
  function_coming q m = record { place = m.routine.function.place; returns = calls_itself (bodies_of s w q) (number_from 0 (λ o. same_callee m.callee o.callee) (functions_in s w q)) }

  abbrev pub named_in : List Needed → List Coming
  named_in q = flat_map (λ n. class_coming q n ++ map (function_coming q) (functions_of s w n)) q

  abbrev pub walks : ℕ → Walks
  walks top = record { declarations = twice s; top = (top_walk s w (meaning_in (file_names s) top)).walk; needed = needed_walk s w; bodies = bodies_of s w; named = named_in }

  abbrev pub field_member : Numbering → Instance → Member → Option code.Member
  field_member n i (Declares k j) = None
  field_member n i (Variable k f) = option_map (λ h. record { name = f.name; place = f.place; shape = shape_in n h }) (field_shape s w i.class i.args k (place_of s w i.class)).value

  abbrev pub constructor_number : Numbering → List Met → Instance → Option ℕ
  constructor_number n ms i = option_map (λ m. n.function m.callee) (find (λ m. same_callee (Constructs i.class i.args) m.callee) ms)

  abbrev pub class_of : Numbering → List Met → Instance → Option code.Class
  class_of n ms i = option_and_then (λ k. option_map (λ b. record { name = k.name; place = k.place; is_module = b.class.is_module; members = filter_map (field_member n i) b.class.members; constructor = constructor_number n ms i }) (body_in i)) (class_at s i.class)

  abbrev pub function_of : Numbering → Met → Option code.Function
  function_of n m = option_map (function_in n) (routed s w m.callee m.routine m.place).value

  -- the top is the first class
  abbrev pub plain_of : List Needed → code.Plain
  plain_of q = record { classes = filter_map (class_of (numbering q) (functions_in s w q)) (instances q); functions = filter_map (function_of (numbering q)) (functions_in s w q); top = 0 }

  abbrev pub unless_refused : Option Refusal → code.Plain → Tried code.Plain
  unless_refused None p = Made p
  unless_refused (Some r) p = Stopped r

  abbrev pub program_in : ℕ → Tried code.Plain
  program_in top = unless_refused (refusal_of (walks top)) (plain_of (staged (walks top)).tally.queue)

-- the plain program of a source and the name of a top, or the first refusal
abbrev pub program_of : Source → ℕ → Tried code.Plain
program_of s top = program_in s (outermost s) top
