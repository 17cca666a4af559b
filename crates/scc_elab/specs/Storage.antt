-- The bits of storage of a design. This project's own.
use Rattle.std.specs.Prelude.{ℕ, List}
use Rattle.std.specs.List.{sum_by}
use Rattle.scc_bits_kinds.specs.Kinds.{width_of}
use Rattle.scc_elab_design.specs.declared.Object.{Object}
use Rattle.scc_elab_design.specs.declared.ObjectNode.{ObjectNode}
use Rattle.scc_elab_design.specs.declared.ObjectNode.TheVariants as variant

-- what an object stores: a signal and a variable a word of its kind, any other nothing
abbrev pub node_bits : ObjectNode → ℕ
node_bits (variant.Module class) = 0
node_bits (variant.Port kind output root) = 0
node_bits (variant.Signal kind) = width_of kind
node_bits (variant.Variable kind value) = width_of kind
node_bits (variant.Pointer to) = 0

abbrev pub object_bits : Object → ℕ
object_bits o = node_bits o.node

-- what all objects of a design store
abbrev pub storage_of : List Object → ℕ
storage_of os = sum_by object_bits os
