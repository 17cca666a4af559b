-- What a run of a process's block is given and leaves, and what stands stored from what went before. This project's own.
use Rattle.std.specs.Prelude.{◌≡◌, ◌*◌, ◌+◌, ℕ, zero, suc, true, false, Some, slice_get}
use Rattle.scc_svtree.specs.declared.module.SvModule.{SvModule}
use Rattle.scc_core_spec.specs.Program.{Program, Process, Reset}
use Rattle.scc_blocks_spec.specs.Acting.{Acting, latest}
use Rattle.scc_blocks_spec.specs.Effect.{Place}
use Rattle.scc_blocks_spec.specs.Tied.{Registers, HoldsNumber}
use Rattle.scc_blocks_spec.specs.Turns.{Regs, Left, reset_at}
use Rattle.scc_blocks_spec.specs.Shown.{View, Read, Driven, Delayed, Next, mine, view_of, IsAsked, next_state_number, next_counter_number}
use Rattle.scc_blocks_run_laws.specs.Pieces.{Wide}
use Rattle.scc_blocks_run_laws.specs.Blocks.{Numbering, Built, Origin}

-- what a valuation of the module has of the cells that a process finds
abbrev pub SeesCell : Registers → (ℕ → ℕ) → Regs → View → ℕ → Type 0
SeesCell r x g Read c = (u : ℕ) → r.variable c ≡ Some u → x u ≡ g.word c
SeesCell r x g Delayed c = (u : ℕ) → r.variable c ≡ Some u → x u ≡ g.word c
SeesCell r x g Next c = (u : ℕ) → r.variable c ≡ Some u → x u ≡ g.word c
SeesCell r x g v c = Unit {0}

-- what it has of them once the process's block has run
abbrev pub LeavesCell : Numbering → (ℕ → ℕ) → Acting → View → ℕ → Type 0
LeavesCell n z a Driven c = IsAsked (a.asked c) (z (n.id (2 * c)))
LeavesCell n z a Delayed c = z (n.id (2 * c + 1)) ≡ latest a c
LeavesCell n z a Next c = z (n.id (2 * c + 1)) ≡ a.now c
LeavesCell n z a v c = Unit {0}

abbrev pub LeavesOwn : Numbering → (ℕ → ℕ) → (width next number : ℕ) → Type 0
LeavesOwn n z zero v number = Unit {0}
LeavesOwn n z (suc w) v number = z (n.id v) ≡ number

pub record Sees (p : Program) (r : Registers) (i : ℕ) (q : Process) (x : ℕ → ℕ) (g : Regs) : Type 0 where
  pub cells : (c : ℕ) → mine p q c ≡ true → SeesCell r x g (view_of p i q c) c
  pub state : (place : Place) → q.is_thread ≡ true → g.place i ≡ Some place → HoldsNumber x (r.state i) place.number
  pub counter : (place : Place) → q.is_thread ≡ true → g.place i ≡ Some place → HoldsNumber x (r.counter i) place.left

-- A thread's block makes its turn: it has a place, or a reset that isn't asynchronous is active.
pub record IsReady (i : ℕ) (q : Process) (g : Regs) : Type 0 where
  pub reset : (o : Reset) → q.reset ≡ Some o → reset_at g.word q.reset ≡ true → o.asynchronous ≡ false
  pub place : reset_at g.word q.reset ≡ false → (place : Place) × (g.place i ≡ Some place)

pub record LeavesTurn (p : Program) (i : ℕ) (q : Process) (w : Wide) (n : Numbering) (l : Left) (z : ℕ → ℕ) : Type 0 where
  pub cells : (c : ℕ) → mine p q c ≡ true → LeavesCell n z l.acting (view_of p i q c) c
  pub state : (place : Place) → q.is_thread ≡ true → l.place ≡ Some place → LeavesOwn n z w.state next_state_number place.number
  pub counter : (place : Place) → q.is_thread ≡ true → l.place ≡ Some place → LeavesOwn n z w.counter next_counter_number place.left

-- whether a variable's word stands from what went before, and doesn't come from a combinational block
abbrev pub IsStored : (p : Program) (m : SvModule) (c v : ℕ) → Origin p m c v → Type 0
IsStored p m c v (Origin.given a k n) = Unit {0}
IsStored p m c v (Origin.constant y a k n) = ⊥
IsStored p m c v (Origin.driven i q s k h w o) = ⊥
IsStored p m c v (Origin.register i q k s a h w x o) = Unit {0}

-- what is to settle: inputs and registers have the same words
pub record Stores (p : Program) (r : Registers) (m : SvModule) (b : Built p r m) (x : ℕ → ℕ) (g : Regs) : Type 0 where
  pub words : (c v : ℕ) (e : r.variable c ≡ Some v) → IsStored p m c v (b.origins c v e) → x v ≡ g.word c
  pub states : (i : ℕ) (q : Process) (place : Place) → slice_get p.processes i ≡ Some q → q.is_thread ≡ true → g.place i ≡ Some place → HoldsNumber x (r.state i) place.number
  pub counters : (i : ℕ) (q : Process) (place : Place) → slice_get p.processes i ≡ Some q → q.is_thread ≡ true → g.place i ≡ Some place → HoldsNumber x (r.counter i) place.left
