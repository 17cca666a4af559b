-- Cells that are pointers, and how what is done with them is refused.
use Rattle.std.specs.Prelude.{◌≡◌, ◌⊎◌, Bool, true, false}
use Rattle.scc_base.specs.declared.code.Code.TheVariants as code
use Rattle.scc_base.specs.declared.refusal.Refusal.{Refusal}
use Rattle.scc_core.specs.declared.program.Cell.{Cell}
use Rattle.scc_core.specs.declared.program.CellSort.{CellSort}
use Rattle.scc_core.specs.declared.program.CellSort.TheVariants.{Pointer}

abbrev pub is_of_pointer : CellSort → Bool
is_of_pointer (Pointer target) = true
is_of_pointer _ = false

abbrev pub is_pointer : Cell → Bool
is_pointer c = is_of_pointer c.sort

-- null is followed, a pointer is assigned, or an object is chosen by an index that isn't static
abbrev pub IsOfPointers : Refusal → Type 0
IsOfPointers r = (r.code ≡ code.EmptyPointer) ⊎ (r.code ≡ code.PointerAssigned) ⊎ (r.code ≡ code.StaticIndex)
