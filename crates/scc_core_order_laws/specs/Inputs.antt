-- What no process of a core writes, and on what its settled words rest. This project's own.
use Rattle.std.specs.Prelude.{◌≡◌, ℕ, true, false, ◌||◌, Some, slice_get}
use Rattle.std.specs.List.{list_any}
use Rattle.scc_core_spec.specs.Program.{Program, Cell, is_input}
use Rattle.scc_core_spec.specs.Uses.{has_sort}
use Rattle.scc_core_spec.specs.Constants.{written}
use Rattle.scc_blocks_spec.specs.Names.{is_register}
use Rattle.scc_blocks_spec.specs.Turns.{Regs}

-- no process writes an input of the top
abbrev pub KeepsInputs : Program → Type 0
KeepsInputs p = list_any (has_sort is_input p.cells) (written p) ≡ false

-- the same words at inputs and registers
abbrev pub SameStored : Program → Regs → Regs → Type 0
SameStored p g h = (c : ℕ) (x : Cell) → slice_get p.cells c ≡ Some x → (is_input x.sort || is_register p c) ≡ true → g.word c ≡ h.word c
