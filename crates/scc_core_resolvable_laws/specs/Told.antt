-- Cores whose names tell their cells apart. This project's own.
use Rattle.std.specs.Prelude.{◌≡◌, ℕ, true, List, Some, slice_get}
use Rattle.scc_semantics.specs.Location.{Part}
use Rattle.scc_core_spec.specs.Term.{Own}
use Rattle.scc_core_spec.specs.Program.{Program, Process, Cell, Port, is_pointer, is_root}
use Rattle.scc_core_spec.specs.Fit.{same_kind}
use Rattle.scc_core_spec.specs.Named.{steps_of, path_steps}

pub record IsTold (p : Program) : Type 0 where
  -- a local's name begins with that of a process
  pub locals : (n : ℕ) (x : Cell) (o : Own) → slice_get p.cells n ≡ Some x → x.name.own ≡ Some o → (j : ℕ) × (q : Process) × (slice_get p.processes j ≡ Some q) × (x.name.path ≡ q.name.path)
  -- no two pointers have one name, nor two of the other cells
  pub names : (n m : ℕ) (x y : Cell) → slice_get p.cells n ≡ Some x → slice_get p.cells m ≡ Some y → is_pointer x.sort ≡ is_pointer y.sort → steps_of x.name ≡ steps_of y.name → n ≡ m
  -- a port below the top stands for a signal or port of the top, of its kind
  pub ports : (n : ℕ) (x : Cell) (path : List Part) → slice_get p.cells n ≡ Some x → x.sort ≡ Port path
      → (m : ℕ) × (y : Cell) × (slice_get p.cells m ≡ Some y) × (steps_of y.name ≡ path_steps path) × (is_root y.sort ≡ true) × (same_kind x.kind y.kind ≡ true)
