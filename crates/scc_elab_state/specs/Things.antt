-- The bits of storage of what construction has made. This project's own.
use Rattle.std.specs.Prelude.{ℕ, ◌≡◌, ◌≤◌, List, length}
use Rattle.std.specs.List.{sum_by}
use Rattle.scc_bits_kinds.specs.Kinds.{width_of}
use Rattle.scc_elab_state.specs.declared.things.Thing.{Thing}
use Rattle.scc_elab_state.specs.declared.things.ThingSort.{ThingSort}
use Rattle.scc_elab_state.specs.declared.things.ThingSort.TheVariants as variant

-- what an object stores: a signal and a variable a word of its kind, any other nothing
abbrev pub sort_bits : ThingSort → ℕ
sort_bits (variant.Module class) = 0
sort_bits (variant.Port kind output bound) = 0
sort_bits (variant.Signal kind) = width_of kind
sort_bits (variant.Variable value) = width_of value.kind
sort_bits (variant.Pointer to) = 0

abbrev pub thing_bits : Thing → ℕ
thing_bits t = sort_bits t.sort

-- objects within the limits, which store so many bits in all
pub record Within (things : List Thing) (bits : ℕ) : Type 0 where
  pub stored : sum_by thing_bits things ≡ bits
  pub few_bits : bits ≤ 1048576
  pub few : length things ≤ 65536
