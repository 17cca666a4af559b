-- The roots of ports, and what processes have: every design that construction gives keeps both. This project's own.
use Rattle.std.specs.Prelude.{ℕ, Bool, true, false, ◌&&◌, not, List, [], ◌∷◌, Option, Some, None, is_none, slice_get}
use Rattle.std.specs.List.{list_all}
use Rattle.scc_base.specs.declared.path.PathPart.{PathPart}
use Rattle.scc_base.specs.declared.path.PathPart.TheVariants as part
use Rattle.scc_elab_design.specs.declared.Object.{Object}
use Rattle.scc_elab_design.specs.declared.ObjectNode.{ObjectNode}
use Rattle.scc_elab_design.specs.declared.ObjectNode.TheVariants as node
use Rattle.scc_elab_design.specs.declared.Process.{Process}
use Rattle.scc_elab_design.specs.declared.Sort.{Sort}
use Rattle.scc_elab_design.specs.declared.Sort.TheVariants as sort
use Rattle.scc_elab_design.specs.declared.Edge.{Edge}
use Rattle.scc_elab_design.specs.declared.Reset.{Reset}

abbrev pub is_index : PathPart → Bool
is_index (part.Member name) = false
is_index (part.Index at) = true

-- the path of a member of the top, or of an element of one: one member, then only indices
abbrev pub is_top_part : List PathPart → Bool
is_top_part [] = false
is_top_part (first ∷ rest) = not (is_index first) && list_all is_index rest

-- whether an object may be a root: a signal, or a port of the top
abbrev pub may_be_root : List PathPart → ObjectNode → Bool
may_be_root path (node.Module class) = false
may_be_root path (node.Port kind output root) = is_top_part path
may_be_root path (node.Signal kind) = true
may_be_root path (node.Variable kind value) = false
may_be_root path (node.Pointer to) = false

abbrev pub is_top_root_in : Option Object → Bool
is_top_root_in None = false
is_top_root_in (Some o) = may_be_root o.path o.node

-- the number of a signal, or of a port of the top
abbrev pub is_top_root : List Object → ℕ → Bool
is_top_root os k = is_top_root_in (slice_get os k)

abbrev pub is_rooted_node : List Object → ObjectNode → Bool
is_rooted_node os (node.Module class) = true
is_rooted_node os (node.Port kind output root) = is_top_root os root
is_rooted_node os (node.Signal kind) = true
is_rooted_node os (node.Variable kind value) = true
is_rooted_node os (node.Pointer to) = true

abbrev pub is_rooted : List Object → Object → Bool
is_rooted os o = is_rooted_node os o.node

-- each port's root is a signal or a port of the top
abbrev pub are_rooted : List Object → Bool
are_rooted os = list_all (is_rooted os) os

-- a thread has an edge and a reset, a method no reset
abbrev pub fits_sort : Sort → Option Edge → Option Reset → Bool
fits_sort sort.Method edge reset = is_none reset
fits_sort sort.Thread edge reset = not (is_none edge) && not (is_none reset)

abbrev pub process_fits : Process → Bool
process_fits p = fits_sort p.sort p.edge p.reset

abbrev pub processes_fit : List Process → Bool
processes_fit ps = list_all process_fits ps
