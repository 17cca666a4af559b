-- Cores in which clocks and resets are signals and ports of the top, and exits leave blocks that stand around them. This project's own.
use Rattle.std.specs.Prelude.{◌≡◌, ℕ, true, Some, is_some, slice_get}
use Rattle.scc_core_spec.specs.Exits.{exits_within}
use Rattle.scc_core_spec.specs.Program.{Program, Process, Edge, Reset, is_root}
use Rattle.scc_core_spec.specs.Uses.{has_sort}

pub record IsClocked (p : Program) : Type 0 where
  pub threads : (i : ℕ) (q : Process) → slice_get p.processes i ≡ Some q → q.is_thread ≡ true → is_some q.edge ≡ true
  pub edges : (i : ℕ) (q : Process) (e : Edge) → slice_get p.processes i ≡ Some q → q.edge ≡ Some e → has_sort is_root p.cells e.cell ≡ true
  -- a reset is one of a thread
  pub resets : (i : ℕ) (q : Process) (r : Reset) → slice_get p.processes i ≡ Some q → q.reset ≡ Some r → (q.is_thread ≡ true) × (has_sort is_root p.cells r.cell ≡ true)
  pub exits : (i : ℕ) (q : Process) → slice_get p.processes i ≡ Some q → exits_within 0 q.body ≡ true
