-- Sets of cells by their slots, 64 slots a word. This project's own.
use Rattle.std.specs.Prelude.{ℕ, ◌/◌, ◌%◌, Bool, nat_eq, List, get_or}
use Rattle.std.specs.Int.{bit_at}
use Rattle.scc_core_flow.specs.declared.set.CellSet.{CellSet}

abbrev pub has_bit : ℕ → ℕ → Bool
has_bit word i = nat_eq (bit_at word i) 1

abbrev pub holds_slot : List ℕ → ℕ → Bool
holds_slot words n = has_bit (get_or words (n / 64) 0) (n % 64)

-- whether a slot's cell is in
unfoldable pub holds : CellSet → ℕ → Bool
holds s n = holds_slot s.words.items n
