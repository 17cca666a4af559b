-- What is asked of signals and ports fits too. This project's own.
use Rattle.std.specs.Prelude.{◌≡◌, ℕ, Some, slice_get}
use Rattle.scc_core_spec.specs.Program.{Cell}
use Rattle.scc_core_spec.specs.Static.{Cells, fixed_word}
use Rattle.scc_core_effect_laws.specs.Sound.{FitWords}
use Rattle.scc_blocks_spec.specs.Acting.{Acting}
use Rattle.scc_blocks_spec.specs.Effect.{Ran, Waits, Ends, Fails}

abbrev pub FitsRan : Cells → Ran → Type 0
FitsRan cs (Waits a place) = FitWords cs a
FitsRan cs (Ends a) = FitWords cs a
FitsRan cs Fails = Unit {0}

-- the registers hold what no process can change
abbrev pub HoldsFixed : Cells → Acting → Type 0
HoldsFixed cs a = (n : ℕ) (x : Cell) (w : ℕ) → slice_get cs n ≡ Some x → fixed_word x.sort ≡ Some w → a.now n ≡ w
