-- The objects that are made, as the definitions have them, and what stands at a path. This project's own.
use Rattle.std.specs.Prelude.{◌≡◌, ℕ, ◌≤◌, Bool, true, false, ◌&&◌, List, map, length, position, Option, Some, None, unwrap_or}
use Rattle.std.specs.List.{list_any}
use Rattle.scc_semantics.specs.Location.{Part, Location, Root, Top, Local, Answer, same_path}
use Rattle.scc_elab_store.specs.declared.locations.Location.{Location as Held}
use Rattle.scc_elab_store.specs.Locations.{part_of}
use Rattle.scc_elab_store.specs.Stores.{entry_at}
use Rattle.scc_elab_spec.specs.Design as design
use Rattle.scc_elab_spec.specs.Design.{is_module}
use Rattle.scc_elab_spec.specs.Grown.{is_thing, is_pointer}
use Rattle.scc_elab_grown.specs.declared.objects.Node.{Node}
use Rattle.scc_elab_grown.specs.declared.objects.Node.TheVariants as node
use Rattle.scc_elab_grown.specs.declared.objects.Object.{Object}
use Rattle.scc_elab_grown.specs.declared.objects.Here.{Here}

abbrev pub node_of : Node → design.Node
node_of (node.Class c) = design.Module c
node_of (node.Port k output root) = design.Port k output root
node_of (node.Signal k) = design.Signal k
node_of (node.Variable k) = design.Variable k 0
node_of node.Pointer = design.Pointer None

abbrev pub object_of : Object → design.Object
object_of o = record { path = map part_of o.path.items; place = o.place; node = node_of o.node }

abbrev pub nothing_here : Here
nothing_here = record { thing = None; pointer = None; has_class = false }

-- the first thing at a path, the first pointer, and whether an object of a class stands there
abbrev pub stands : List design.Object → List Part → Here
stands os path = record {
  thing = position (λ o. is_thing o.node && same_path o.path path) os;
  pointer = position (λ o. is_pointer o.node && same_path o.path path) os;
  has_class = list_any (λ o. is_module o.node && same_path o.path path) os;
}

abbrev pub stands_at : List design.Object → Location → Root → Here
stands_at os l Top = stands os l.path
stands_at os l (Local o cs n) = nothing_here
stands_at os l (Answer p cs) = nothing_here

abbrev pub first_number : Option ℕ → ℕ → Option ℕ
first_number (Some m) n = Some m
first_number None n = Some n

-- with one more object there, of that number
abbrev pub noted : ℕ → design.Node → Here → Here
noted n (design.Module c) h = record { thing = h.thing; pointer = h.pointer; has_class = true }
noted n (design.Port k output root) h = record { thing = first_number h.thing n; pointer = h.pointer; has_class = h.has_class }
noted n (design.Signal k) h = record { thing = first_number h.thing n; pointer = h.pointer; has_class = h.has_class }
noted n (design.Variable k w) h = record { thing = first_number h.thing n; pointer = h.pointer; has_class = h.has_class }
noted n (design.Pointer t) h = record { thing = h.thing; pointer = first_number h.pointer n; has_class = h.has_class }

abbrev pub here_at : List (Held × Here) → Location → Here
here_at es l = unwrap_or (entry_at es l) nothing_here

-- what is noted by paths is what stands there, and there are no more than there may be
pub record Keeps (objects : List Object) (entries : List (Held × Here)) : Type 0 where
  pub here : (l : Location) → here_at entries l ≡ stands_at (map object_of objects) l l.root
  pub few : length objects ≤ 65536
