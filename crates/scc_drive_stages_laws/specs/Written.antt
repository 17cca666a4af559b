-- How the variables of a module are named that was built of a core, from which follows what stands for what. This project's own.
use Rattle.std.specs.Prelude.{◌≡◌, ◌<◌, ℕ, nat_eq, Bool, true, false, List, length, Some, slice_get, unwrap_or}
use Rattle.std.specs.List.{list_any}
use Rattle.scc_semantics.specs.Location.{Location}
use Rattle.scc_semantics.specs.Design.{is_clock}
use Rattle.scc_svtree.specs.declared.module.SvModule.{SvModule}
use Rattle.scc_blocks_spec.specs.Matches.{registers, name_at}
use Rattle.scc_core_spec.specs.Program.{Program, Process, Cell, Edge, is_held, is_output}
use Rattle.scc_core_spec.specs.Source.{Home, cell_location}
use Rattle.scc_blocks_spec.specs.Names.{cell_at, is_kept_at, is_register}
use Rattle.scc_blocks_spec.specs.Tied.{Registers}
use Rattle.scc_core_effect_laws.specs.Follows.{design_of}

-- the number of the cell at a location
abbrev pub number_at : Home → Program → Location → ℕ
number_at home p l = unwrap_or (cell_at home p l) 0

-- `own` has the names of threads' states and counters.
pub record IsWritten (home : Home) (p : Program) (text : Location → List ℕ) (own : List ℕ → Bool) (r : Registers) (m : SvModule) (clock_variable : ℕ → ℕ) : Type 0 where
  -- a cell's variable has the name of its location
  pub carries : (c v : ℕ) → r.variable c ≡ Some v → (x : Cell) × (slice_get p.cells c ≡ Some x) × (is_held x.sort ≡ true) × (name_at m v ≡ text (cell_location home p x)) × (v < length m.vars)
  -- a register has a variable, which is set at an edge
  pub kept : (c : ℕ) → is_register p c ≡ true → (v : ℕ) × (r.variable c ≡ Some v) × (list_any (nat_eq v) (registers m) ≡ true)
  -- names of cells differ, no location has the name of a register at another, and none a name of a thread's own
  pub apart : (c d : ℕ) (x y : Cell) → slice_get p.cells c ≡ Some x → slice_get p.cells d ≡ Some y → is_held x.sort ≡ true → is_held y.sort ≡ true → text (cell_location home p x) ≡ text (cell_location home p y) → c ≡ d
  pub tells : (l k : Location) → is_kept_at home p k ≡ true → text l ≡ text k → l ≡ k
  pub owned : (l : Location) → own (text l) ≡ false
  -- an output has a variable, and a clock none
  pub shown : (c : ℕ) (x : Cell) → slice_get p.cells c ≡ Some x → is_output x.sort ≡ true → (v : ℕ) × (r.variable c ≡ Some v)
  pub clockless : (c v : ℕ) (x : Cell) → r.variable c ≡ Some v → slice_get p.cells c ≡ Some x → is_clock (design_of home p) (cell_location home p x) ≡ false
  -- a clock's variable has its name
  pub clocks : (i : ℕ) (q : Process) (e : Edge) (x : Cell) → slice_get p.processes i ≡ Some q → q.edge ≡ Some e → slice_get p.cells e.cell ≡ Some x → name_at m (clock_variable e.cell) ≡ text (cell_location home p x)
