-- Cores whose cells that are no pointers are of the sorts that their names tell, and hold words of their kinds. This project's own.
use Rattle.std.specs.Prelude.{◌≡◌, ℕ, ◌^◌, Bool, true, false, nat_lt, Some, slice_get}
use Rattle.scc_bits_kinds.specs.Kinds.{width_of}
use Rattle.scc_core_spec.specs.Program.{Program, Cell, Variable, is_pointer}
use Rattle.scc_core_spec.specs.IsResolved.{name_is}

pub record IsSorted (p : Program) : Type 0 where
  -- a local stands behind the name of its process, and nothing else does
  pub names : (n : ℕ) (x : Cell) → slice_get p.cells n ≡ Some x → is_pointer x.sort ≡ false → name_is p.processes x.sort x.name ≡ true
  -- a variable begins with a word of its kind
  pub words : (n : ℕ) (x : Cell) (w : ℕ) (fixed : Bool) → slice_get p.cells n ≡ Some x → x.sort ≡ Variable w fixed → nat_lt w (2 ^ width_of x.kind) ≡ true
