-- The cells of a design's objects, in construction order; modules have none. This project's own.
use Rattle.std.specs.Prelude.{ℕ, suc, Bool, true, false, not, ◌&&◌, nat_eq, nat_lt, List, [], ◌∷◌, filter, length, take, Option, Some, None, option_map, option_and_then, slice_get, unwrap_or, find, position, if◌then◌else◌}
use Rattle.scc_bits_kinds.specs.declared.kind.Kind.{Kind}
use Rattle.scc_bits_kinds.specs.declared.kind.Kind.TheVariants as kind
use Rattle.scc_semantics.specs.Location.{Part, Member, Element, same_part}
use Rattle.scc_core_spec.specs.Program as core
use Rattle.scc_elab_spec.specs.Program.{Plain}
use Rattle.scc_elab_spec.specs.Design.{Design, Object, Node, Module, Port, Signal, Variable, Pointer, is_module, class_of}
use Rattle.scc_elab_spec.specs.Types.{Place, is_direct, is_moved, member_at}

abbrev pub is_front : List Part → List Part → Bool
is_front [] q = true
is_front (a ∷ p) (b ∷ q) = same_part a b && is_front p q
is_front p [] = false

-- the module object with the longest path that is a front part of a path and shorter than it; the top's path is empty
abbrev pub longer : Option Object → Object → Option Object
longer None o = Some o
longer (Some a) o = if nat_lt (length a.path) (length o.path) then Some o else Some a

abbrev pub parent_among : List Part → Option Object → List Object → Option Object
parent_among path best [] = best
parent_among path best (o ∷ os) = parent_among path (if is_module o.node && (is_front o.path path && nat_lt (length o.path) (length path)) then longer best o else best) os

abbrev pub parent : Design → List Part → Option Object
parent d path = parent_among path None d.objects

abbrev pub is_top : Option Object → Bool
is_top (Some o) = nat_eq (length o.path) 0
is_top None = true

-- the number of the member of a class with that name
abbrev pub member_named : Plain → ℕ → Part → Option ℕ
member_named p c (Member name) = option_and_then (λ k. position (λ m. nat_eq m.name name) k.members) (slice_get p.classes c)
member_named p c (Element i) = None

abbrev pub behind : ℕ → List Part → Option Part
behind n path = slice_get path n

-- the member of the innermost object around it that a path goes through
abbrev pub member_of : Plain → Design → List Part → Option Place
member_of p d path = option_and_then (λ o. option_and_then (λ c. option_and_then (λ part. option_map (λ m. record { class = c; member = m }) (member_named p c part)) (behind (length o.path) path)) (class_of o.node)) (parent d path)

-- a variable is fixed that is a member itself, so no number made by `new`, where nothing moves the member
abbrev pub is_fixed : Plain → Design → List Part → Bool
is_fixed p d path = unwrap_or (option_map (λ m. unwrap_or (option_map (λ k. is_direct k.shape.reach) (member_at p (Some m.class) m.member)) false && not (is_moved p m)) (member_of p d path)) false

abbrev pub path_of : Design → ℕ → List Part
path_of d n = unwrap_or (option_map (λ o. o.path) (slice_get d.objects n)) []

-- where a pointer leads: the path of its target, which may name no object
abbrev pub target_of : Design → ℕ → Option ℕ → Option (List Part)
target_of d n root = target_or (option_map (λ t. t.path) (find (λ t. nat_eq t.object n) d.targets)) (option_map (path_of d) root)
  where
    target_or : Option (List Part) → Option (List Part) → Option (List Part)
    target_or (Some path) other = Some path
    target_or None other = other

abbrev pub port_sort : Bool → Bool → List Part → core.Sort
port_sort true true root = core.Output
port_sort true false root = core.Input
port_sort false output root = core.Port root

abbrev pub cell_of : List Part → Kind → core.Sort → Object → core.Cell
cell_of path k s o = record { name = record { path = path; own = None; indices = [] }; kind = k; sort = s; place = o.place }

abbrev pub object_cell : Plain → Design → ℕ → Object → Node → Option core.Cell
object_cell p d n o (Module c) = None
object_cell p d n o (Port k output root) = Some (cell_of o.path k (port_sort (is_top (parent d o.path)) output (path_of d root)) o)
object_cell p d n o (Signal k) = Some (cell_of o.path k core.Signal o)
object_cell p d n o (Variable k word) = Some (cell_of o.path k (core.Variable word (is_fixed p d o.path)) o)
object_cell p d n o (Pointer root) = Some (cell_of o.path kind.Bool (core.Pointer (target_of d n root)) o)

abbrev pub cells_from : Plain → Design → ℕ → List Object → List core.Cell
cells_from p d n [] = []
cells_from p d n (o ∷ os) = with_cell (object_cell p d n o o.node) (cells_from p d (suc n) os)
  where
    with_cell : Option core.Cell → List core.Cell → List core.Cell
    with_cell None cs = cs
    with_cell (Some c) cs = c ∷ cs

abbrev pub object_cells : Plain → Design → List core.Cell
object_cells p d = cells_from p d 0 d.objects

-- the number of an object's cell: so many objects before it are no modules
abbrev pub cell_number : Design → ℕ → ℕ
cell_number d n = length (filter (λ o. not (is_module o.node)) (take n d.objects))
