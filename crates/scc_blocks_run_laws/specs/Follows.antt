-- What follows: registers are mirrored by valuations, step by step. This project's own.
use Rattle.std.specs.Prelude.{◌≡◌, ◌<◌, ◌^◌, ℕ, suc, Bool, true, false, filter, length, List, [], ◌∷◌, Option, Some, None, slice_get}
use Rattle.scc_svtree.specs.declared.module.SvModule.{SvModule}
use Rattle.scc_svtree.specs.Steps.{StepInput, Step, Steps, input_at}
use Rattle.scc_svtree.specs.Sound.{IsSound}
use Rattle.scc_core_spec.specs.Program.{Program, Process, Edge, is_combinational, is_root, is_held}
use Rattle.scc_core_spec.specs.Kept.{written_by}
use Rattle.scc_core_spec.specs.Live.{live}
use Rattle.scc_core_spec.specs.Segments.{Segment, Plain, Test, Halt, Finish, counts}
use Rattle.scc_core_spec.specs.Sizes.{live_body}
use Rattle.scc_core_spec.specs.Uses.{among, has_sort, width_at}
use Rattle.scc_blocks_spec.specs.Acting.{latest}
use Rattle.scc_blocks_spec.specs.Effect.{Place}
use Rattle.scc_blocks_spec.specs.Tied.{Registers, Mirrors, MirrorsRegisters}
use Rattle.scc_blocks_spec.specs.Turns.{Regs, Left, turn, found, constant_at, reset_at, has_clock, segment_at, begun, edged}
use Rattle.scc_blocks_spec.specs.Shown.{Driven, Sight, mine, view_of, sight_of}
use Rattle.scc_blocks_spec.specs.Lowered.{KeepsFit}
use Rattle.scc_blocks_run_laws.specs.Blocks.{IsProper, Built}

-- ---- what a core has to keep, whatever its module

-- each part of a segment keeps what fits, and its waits are those of the thread
abbrev pub KeepsSegment : Sight → Process → Segment → Type 0
KeepsSegment s q (Plain c r) = KeepsFit s c × KeepsSegment s q r
KeepsSegment s q (Test p t a b) = KeepsSegment s q a × KeepsSegment s q b
KeepsSegment s q (Halt p n count) = (slice_get (counts (live_body s.cells q.body)) n ≡ Some count) × (0 < count)
KeepsSegment s q Finish = Unit {0}

pub record IsSteady (p : Program) (r : Registers) : Type 0 where
  pub constants : (c w : ℕ) → constant_at p c ≡ Some w → w < 2 ^ width_at p.cells c
  -- what a process names is held
  pub named : (i c : ℕ) (q : Process) → slice_get p.processes i ≡ Some q → mine p q c ≡ true → has_sort is_held p.cells c ≡ true
  pub methods : (i : ℕ) (q : Process) → slice_get p.processes i ≡ Some q → q.is_thread ≡ false → KeepsFit (sight_of p i q) (live p.cells q.body)
  pub threads : (i n : ℕ) (q : Process) (s : Segment) → slice_get p.processes i ≡ Some q → q.is_thread ≡ true → segment_at p.cells q n ≡ Some s → KeepsSegment (sight_of p i q) q s
  -- each process makes its turn, and a thread comes to a wait
  pub goes : (i : ℕ) (q : Process) (g : Regs) → IsProper p r g → slice_get p.processes i ≡ Some q → (l : Left) × (turn p i q g ≡ Some l)
  pub waits : (i : ℕ) (q : Process) (g : Regs) (l : Left) → IsProper p r g → slice_get p.processes i ≡ Some q → turn p i q g ≡ Some l → q.is_thread ≡ true → (place : Place) × (l.place ≡ Some place)
  -- a combinational method asks each root that it writes
  pub asks : (i c : ℕ) (q : Process) (g : Regs) (l : Left) → IsProper p r g → slice_get p.processes i ≡ Some q → turn p i q g ≡ Some l → view_of p i q c ≡ Driven
      → (w : ℕ) × (l.acting.asked c ≡ Some w)
  -- what isn't written stays
  pub stays : (i c : ℕ) (q : Process) (g : Regs) (l : Left) → IsProper p r g → slice_get p.processes i ≡ Some q → turn p i q g ≡ Some l → among c (written_by p.cells q) ≡ false
      → latest l.acting c ≡ (found p i q g).now c

-- The methods have places in an order in which each stands behind those that write what it reads.
pub record IsRanked (p : Program) (rank : ℕ → ℕ) : Type 0 where
  pub below : (i : ℕ) (q : Process) → slice_get p.processes i ≡ Some q → is_combinational q ≡ true → rank i < suc (length (filter is_combinational p.processes))
  pub behind : (i j c : ℕ) (q o : Process) → slice_get p.processes i ≡ Some q → slice_get p.processes j ≡ Some o → is_combinational q ≡ true → is_combinational o ≡ true
      → has_sort is_root p.cells c ≡ true → mine p q c ≡ true → among c (written_by p.cells q) ≡ false → among c (written_by p.cells o) ≡ true → rank j < rank i

-- ---- steps

pub record Turn : Type 0 where
  pub inputs : ℕ → Option ℕ
  pub at : Option (List ℕ)

abbrev pub SameEdge : Program → (ℕ → ℕ) → Option (List ℕ) → (ℕ → Bool) → Bool → Type 0
SameEdge p clock_variable None clocks has_edge = has_edge ≡ false
SameEdge p clock_variable (Some at) clocks has_edge = (has_edge ≡ true) × ((i : ℕ) (q : Process) (e : Edge) → slice_get p.processes i ≡ Some q → q.edge ≡ Some e → clocks (clock_variable e.cell) ≡ among e.cell at)

-- the inputs but the clocks take the same words, which fit
pub record SameTurn (p : Program) (r : Registers) (m : SvModule) (clock_variable : ℕ → ℕ) (t : Turn) (s : StepInput) : Type 0 where
  pub given : (c v : ℕ) → r.variable c ≡ Some v → input_at m.vars v ≡ true → (t.inputs c ≡ Some (s.inputs v)) × (s.inputs v < 2 ^ width_at p.cells c)
  pub others : (c v : ℕ) → r.variable c ≡ Some v → input_at m.vars v ≡ false → t.inputs c ≡ None
  pub constants : (c w : ℕ) → constant_at p c ≡ Some w → t.inputs c ≡ None
  pub fits : (c w : ℕ) → has_sort is_held p.cells c ≡ true → t.inputs c ≡ Some w → w < 2 ^ width_at p.cells c
  pub edge : SameEdge p clock_variable t.at s.clocks s.has_edge

abbrev pub AllSameTurns : Program → Registers → SvModule → (ℕ → ℕ) → List Turn → List StepInput → Type 0
AllSameTurns p r m k [] [] = Unit {0}
AllSameTurns p r m k (t ∷ ts) (s ∷ ss) = SameTurn p r m k t s × AllSameTurns p r m k ts ss
AllSameTurns p r m k _ _ = ⊥

abbrev pub after_turn : Program → Option (List ℕ) → Regs → Regs
after_turn p None g = g
after_turn p (Some at) g = edged p at g

abbrev pub seen_after : Program → Option (List ℕ) → Regs → List Regs
seen_after p None g = []
seen_after p (Some at) g = edged p at g ∷ []

-- what the registers show over steps: before each edge, and behind it
abbrev pub registers_shown : Program → List Turn → Regs → List (List Regs)
registers_shown p [] g = []
registers_shown p (t ∷ ts) g = let h = begun p t.inputs g in (h ∷ seen_after p t.at h) ∷ registers_shown p ts (after_turn p t.at h)

-- a thread that has no place yet finds its reset active at its clock's edge
abbrev pub FindsReset : Program → Option (List ℕ) → Regs → Type 0
FindsReset p None g = Unit {0}
FindsReset p (Some at) g = (i : ℕ) (q : Process) → slice_get p.processes i ≡ Some q → q.is_thread ≡ true → has_clock at q.edge ≡ true → g.place i ≡ None → reset_at g.word q.reset ≡ true

abbrev pub FindResets : Program → List Turn → Regs → Type 0
FindResets p [] g = Unit {0}
FindResets p (t ∷ ts) g = let h = begun p t.inputs g in FindsReset p t.at h × FindResets p ts (after_turn p t.at h)

abbrev pub AllMirror : Program → Registers → List (ℕ → ℕ) → List Regs → Type 0
AllMirror p r [] [] = Unit {0}
AllMirror p r (y ∷ ys) (g ∷ gs) = Mirrors p r y g × AllMirror p r ys gs
AllMirror p r _ _ = ⊥

abbrev pub AllMirrorSteps : Program → Registers → List (List (ℕ → ℕ)) → List (List Regs) → Type 0
AllMirrorSteps p r [] [] = Unit {0}
AllMirrorSteps p r (ys ∷ yss) (gs ∷ gss) = AllMirror p r ys gs × AllMirrorSteps p r yss gss
AllMirrorSteps p r _ _ = ⊥

-- ---- the statement

-- A step of the module from a valuation that mirrors registers shows what the step of the registers shows, and ends mirroring them.
pub record Follows (p : Program) (r : Registers) (t : Turn) (g : Regs) (z : ℕ → ℕ) (seen : List (ℕ → ℕ)) : Type 0 where
  pub shows : AllMirror p r seen (begun p t.inputs g ∷ seen_after p t.at (begun p t.inputs g))
  pub mirrors : MirrorsRegisters p r z (after_turn p t.at (begun p t.inputs g))
  pub proper : IsProper p r (after_turn p t.at (begun p t.inputs g))

abbrev pub ModuleFollows : Program → Registers → SvModule → (ℕ → ℕ) → Type 0
ModuleFollows p r m clock_variable = (t : Turn) (s : StepInput) (x z : ℕ → ℕ) (seen : List (ℕ → ℕ)) (g : Regs) → SameTurn p r m clock_variable t s → IsProper p r g → MirrorsRegisters p r x g
    → FindsReset p t.at (begun p t.inputs g) → Step m s x z seen → Follows p r t g z seen

-- and over steps, each observation mirrors the registers
abbrev pub StepsFollow : Program → Registers → SvModule → (ℕ → ℕ) → Type 0
StepsFollow p r m clock_variable = (ts : List Turn) (ss : List StepInput) (x : ℕ → ℕ) (g : Regs) (seen : List (List (ℕ → ℕ))) → AllSameTurns p r m clock_variable ts ss → IsProper p r g → MirrorsRegisters p r x g
    → FindResets p ts g → Steps m x ss seen → AllMirrorSteps p r seen (registers_shown p ts g)

-- what a module of a core has to be, with what holds of the core
pub record IsModuleOf (many : Bool) (p : Program) (r : Registers) (m : SvModule) : Type 0 where
  pub sound : IsSound many m
  pub built : Built p r m
  pub steady : IsSteady p r
  pub rank : ℕ → ℕ
  pub ranked : IsRanked p rank
