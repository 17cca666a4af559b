-- What ties the cells of a core to the names of its module, so that both sides start, step and are observed alike. This project's own.
use Rattle.std.specs.Prelude.{◌≡◌, ℕ, true, false, List, map, take, length, Some, slice_get}
use Rattle.scc_semantics.specs.Location.{Location}
use Rattle.scc_svtree.specs.declared.module.SvModule.{SvModule}
use Rattle.scc_svtree.specs.declared.module.SvVar.{SvVar}
use Rattle.scc_svtree.specs.Steps.{input_at}
use Rattle.scc_blocks_spec.specs.Matches.{register_of, first, var_view, port_view, is_port, name_at}
use Rattle.scc_core_spec.specs.Program.{Program, Process, Cell, Edge, is_root, is_held, is_input}
use Rattle.scc_core_spec.specs.Source.{Home, cell_location}
use Rattle.scc_blocks_spec.specs.Names.{holds_word, is_register}
use Rattle.scc_blocks_spec.specs.Tied.{Registers}
use Rattle.scc_blocks_run_laws.specs.Follows.{Turn}
use Rattle.scc_blocks_laws.specs.Shots.{IsNamed}
use Rattle.scc_core_effect_laws.specs.Follows.{design_of}
use Rattle.scc_core_laws.specs.Given.{takes_word}
use Rattle.scc_core_laws.specs.Stepped.{RegsStep, outputs_from}

-- the two records of a step of registers
abbrev pub turn_of : RegsStep → Turn
turn_of y = record { inputs = y.given; at = y.edge }

-- Names stand for cells on both sides.
pub record IsPlaced (home : Home) (p : Program) (text : Location → List ℕ) (at : Location → ℕ) (r : Registers) (m : SvModule) : Type 0 where
  pub named : IsNamed text at r m (outputs_from 0 p.cells)
  -- the cell of a register that has a location's name stands there, and holds a word from step to step
  pub stands : (l : Location) (v : ℕ) → first (register_of text m l) ≡ Some v → (x : Cell) × (slice_get p.cells (at l) ≡ Some x) × (cell_location home p x ≡ l) × (holds_word p (at l) ≡ true)
  -- a register's variable has the name of its location
  pub registers : (c v : ℕ) (x : Cell) → r.variable c ≡ Some v → is_register p c ≡ true → slice_get p.cells c ≡ Some x → first (register_of text m (cell_location home p x)) ≡ Some v
  -- only cells that are held have variables
  pub held : (c v : ℕ) → r.variable c ≡ Some v → (x : Cell) × (slice_get p.cells c ≡ Some x) × (is_held x.sort ≡ true)
  -- and no two of them one
  pub apart : (c d v : ℕ) → r.variable c ≡ Some v → r.variable d ≡ Some v → c ≡ d

-- The ports of the module are those of the top in their order, and inputs and clocks are told by their names.
pub record IsWired (home : Home) (p : Program) (text : Location → List ℕ) (r : Registers) (m : SvModule) (clock_variable : ℕ → ℕ) : Type 0 where
  pub ports : map var_view (take (length (design_of home p).ports) m.vars) ≡ map (port_view text (design_of home p)) (design_of home p).ports
  pub inner : (v : ℕ) (x : SvVar) → slice_get m.vars v ≡ Some x → is_port x.dir ≡ true → slice_get (take (length (design_of home p).ports) m.vars) v ≡ Some x
  -- names of signals and ports of the top differ
  pub apart : (c d : ℕ) (x y : Cell) → slice_get p.cells c ≡ Some x → slice_get p.cells d ≡ Some y → is_root x.sort ≡ true → is_root y.sort ≡ true → text (cell_location home p x) ≡ text (cell_location home p y) → c ≡ d
  -- an input's variable is that of an input that is no clock, with its name, and no other input has one
  pub inputs : (c v : ℕ) (x : Cell) → r.variable c ≡ Some v → slice_get p.cells c ≡ Some x → input_at m.vars v ≡ true → (takes_word home p x ≡ true) × (name_at m v ≡ text (cell_location home p x))
  pub others : (c v : ℕ) (x : Cell) → r.variable c ≡ Some v → slice_get p.cells c ≡ Some x → input_at m.vars v ≡ false → is_input x.sort ≡ false
  pub clocks : (i : ℕ) (q : Process) (e : Edge) (x : Cell) → slice_get p.processes i ≡ Some q → q.edge ≡ Some e → slice_get p.cells e.cell ≡ Some x → name_at m (clock_variable e.cell) ≡ text (cell_location home p x)

-- Names tell on both sides what stands for what.
pub record IsJoined (home : Home) (p : Program) (text : Location → List ℕ) (at : Location → ℕ) (r : Registers) (m : SvModule) (clock_variable : ℕ → ℕ) : Type 0 where
  pub placed : IsPlaced home p text at r m
  pub wired : IsWired home p text r m clock_variable
