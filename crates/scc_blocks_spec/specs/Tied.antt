-- What ties the registers to the source's state on one side, and to a valuation of the module on the other. This project's own.
use Rattle.std.specs.Prelude.{◌≡◌, ◌<◌, ◌^◌, ℕ, true, [], Option, Some, None, slice_get}
use Rattle.scc_bits_kinds.specs.Kinds.{width_of}
use Rattle.scc_semantics.specs.Scene.{Names}
use Rattle.scc_semantics.specs.Machine.{Frames, Stop, Go, Inner}
use Rattle.scc_semantics.specs.Process.{State}
use Rattle.scc_core_spec.specs.Program.{Program, Process, Cell, is_held}
use Rattle.scc_core_spec.specs.Source.{Home, at_top, cell_location, body_of}
use Rattle.scc_blocks_spec.specs.Turns.{Regs, constant_at}
use Rattle.scc_blocks_spec.specs.Effect.{Place}
use Rattle.scc_blocks_spec.specs.Places.{frames_at}
use Rattle.scc_blocks_spec.specs.Names.{holds_word, is_register}

-- the names of a process whose calls are copied: it has no object and stands in no call
abbrev pub own_names : ℕ → Names
own_names i = record { process = i; calls = []; object = Some (at_top []) }

-- a process whose calls are copied before its first statement
abbrev pub first_frames : Home → Program → ℕ → Process → Frames
first_frames home p i q = Go Inner (own_names i) (body_of home p.cells i q.body) Stop

-- Words fit on both sides; roots and registers hold the same words; what no process writes holds its constant; the frames of a thread are those of its place, and
-- one that has none stands before its first statement.
pub record Tied (home : Home) (p : Program) (s : State) (g : Regs) : Type 0 where
  pub fits : (c : ℕ) (x : Cell) → slice_get p.cells c ≡ Some x → is_held x.sort ≡ true → g.word c < 2 ^ width_of x.kind
  pub proper : (c : ℕ) (x : Cell) → slice_get p.cells c ≡ Some x → is_held x.sort ≡ true → s.store.words (cell_location home p x) < 2 ^ width_of x.kind
  pub words : (c : ℕ) (x : Cell) → slice_get p.cells c ≡ Some x → holds_word p c ≡ true → s.store.words (cell_location home p x) ≡ g.word c
  pub constants : (c : ℕ) (x : Cell) (w : ℕ) → slice_get p.cells c ≡ Some x → constant_at p c ≡ Some w → s.store.words (cell_location home p x) ≡ w
  pub places : (i : ℕ) (q : Process) (place : Place) → slice_get p.processes i ≡ Some q → q.is_thread ≡ true → g.place i ≡ Some place → frames_at home p.cells i (own_names i) q.body place ≡ Some (s.frames i)
  pub begins : (i : ℕ) (q : Process) → slice_get p.processes i ≡ Some q → q.is_thread ≡ true → g.place i ≡ None → s.frames i ≡ first_frames home p i q

-- Where cells stand among the variables, but clocks and what has no variable, and where a thread's state and counter do; one without any is always in state 0, and waits
-- for no further edge.
pub record Registers : Type 0 where
  pub variable : ℕ → Option ℕ
  pub state : ℕ → Option ℕ
  pub counter : ℕ → Option ℕ

abbrev pub HoldsNumber : (ℕ → ℕ) → Option ℕ → ℕ → Type 0
HoldsNumber y None n = n ≡ 0
HoldsNumber y (Some v) n = y v ≡ n

-- roots but clocks, and registers, have the same words; a thread that has a place has its number and its count
pub record Mirrors (p : Program) (r : Registers) (y : ℕ → ℕ) (g : Regs) : Type 0 where
  pub words : (c v : ℕ) → r.variable c ≡ Some v → y v ≡ g.word c
  pub states : (i : ℕ) (q : Process) (place : Place) → slice_get p.processes i ≡ Some q → q.is_thread ≡ true → g.place i ≡ Some place → HoldsNumber y (r.state i) place.number
  pub counters : (i : ℕ) (q : Process) (place : Place) → slice_get p.processes i ≡ Some q → q.is_thread ≡ true → g.place i ≡ Some place → HoldsNumber y (r.counter i) place.left

-- between steps only registers count
pub record MirrorsRegisters (p : Program) (r : Registers) (y : ℕ → ℕ) (g : Regs) : Type 0 where
  pub words : (c v : ℕ) → r.variable c ≡ Some v → is_register p c ≡ true → y v ≡ g.word c
  pub states : (i : ℕ) (q : Process) (place : Place) → slice_get p.processes i ≡ Some q → q.is_thread ≡ true → g.place i ≡ Some place → HoldsNumber y (r.state i) place.number
  pub counters : (i : ℕ) (q : Process) (place : Place) → slice_get p.processes i ≡ Some q → q.is_thread ≡ true → g.place i ≡ Some place → HoldsNumber y (r.counter i) place.left
