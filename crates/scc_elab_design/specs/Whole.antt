-- What every design has: its numbers name what is there, and it keeps the limits on objects and paths.
use Rattle.std.specs.Prelude.{ℕ, Bool, true, false, ◌&&◌, nat_eq, nat_lt, nat_le, List, length, Option, Some, None, slice_get}
use Rattle.std.specs.List.{list_all}
use Rattle.scc_elab_design.specs.declared.Object.{Object}
use Rattle.scc_elab_design.specs.declared.ObjectNode.{ObjectNode}
use Rattle.scc_elab_design.specs.declared.ObjectNode.TheVariants as node
use Rattle.scc_elab_design.specs.declared.Process.{Process}
use Rattle.scc_elab_design.specs.declared.Edge.{Edge}
use Rattle.scc_elab_design.specs.declared.Reset.{Reset}
use Rattle.scc_elab_design.specs.declared.Target.{Target}
use Rattle.scc_elab_design.specs.declared.Design.{Design}

-- a signal, or a port that is its own root
abbrev pub is_own_root : ℕ → ObjectNode → Bool
is_own_root k (node.Module class) = false
is_own_root k (node.Port kind output root) = nat_eq root k
is_own_root k (node.Signal kind) = true
is_own_root k (node.Variable kind value) = false
is_own_root k (node.Pointer to) = false

abbrev pub is_root_in : ℕ → Option Object → Bool
is_root_in k None = false
is_root_in k (Some o) = is_own_root k o.node

-- the number of a root
abbrev pub is_root : List Object → ℕ → Bool
is_root os k = is_root_in k (slice_get os k)

-- what an object's node names, in a program of so many classes
abbrev pub is_whole_node : ℕ → List Object → ObjectNode → Bool
is_whole_node classes os (node.Module class) = nat_lt class classes
is_whole_node classes os (node.Port kind output root) = is_root os root
is_whole_node classes os (node.Signal kind) = true
is_whole_node classes os (node.Variable kind value) = true
is_whole_node classes os (node.Pointer None) = true
is_whole_node classes os (node.Pointer (Some to)) = nat_lt to (length os)

abbrev pub is_whole_object : ℕ → List Object → Object → Bool
is_whole_object classes os o = nat_lt (length o.path) 65 && is_whole_node classes os o.node

abbrev pub is_module_node : ObjectNode → Bool
is_module_node (node.Module class) = true
is_module_node (node.Port kind output root) = false
is_module_node (node.Signal kind) = false
is_module_node (node.Variable kind value) = false
is_module_node (node.Pointer to) = false

abbrev pub is_module_in : Option Object → Bool
is_module_in None = false
is_module_in (Some o) = is_module_node o.node

-- the number of an object of a class
abbrev pub is_module : List Object → ℕ → Bool
is_module os k = is_module_in (slice_get os k)

abbrev pub is_whole_edge : List Object → Option Edge → Bool
is_whole_edge os None = true
is_whole_edge os (Some e) = is_root os e.root

abbrev pub is_whole_reset : List Object → Option Reset → Bool
is_whole_reset os None = true
is_whole_reset os (Some r) = is_root os r.root

-- what a process names, in a program of so many functions
abbrev pub is_whole_process : ℕ → List Object → Process → Bool
is_whole_process functions os p = nat_lt p.function functions && is_module os p.object && list_all (is_root os) p.senses && is_whole_edge os p.edge && is_whole_reset os p.reset

abbrev pub is_whole_target : List Object → Target → Bool
is_whole_target os t = nat_lt t.object (length os)

-- a design of a program of so many classes and functions
abbrev pub is_whole_design : ℕ → ℕ → Design → Bool
is_whole_design classes functions d = nat_le (length d.objects) 65536 && list_all (is_whole_object classes d.objects) d.objects && list_all (is_whole_process functions d.objects) d.processes && list_all (is_whole_target d.objects) d.targets
