-- By which codes the rules of processes are broken.
use Rattle.std.specs.Prelude.{ℕ, Bool, true, false, ◌≡◌, Option, IfSome}
use Rattle.scc_base.specs.declared.code.Code.{Code}
use Rattle.scc_base.specs.declared.code.Code.TheVariants.{ClockAsData, TwoWriters, SharedVariable, MissingSensitivity, Latch, CombLoop, CombState, WaitInMethod, LoopMayNotWait, EndReached, SignalIndex}
use Rattle.scc_base.specs.declared.refusal.Refusal.{Refusal}
use Rattle.scc_base.specs.declared.refusal.Stop.{Stop}
use Rattle.scc_base.specs.declared.refusal.Stop.TheVariants as stop

abbrev pub is_refusal : Code → Bool
is_refusal ClockAsData = true
is_refusal TwoWriters = true
is_refusal SharedVariable = true
is_refusal MissingSensitivity = true
is_refusal Latch = true
is_refusal CombLoop = true
is_refusal CombState = true
is_refusal WaitInMethod = true
is_refusal LoopMayNotWait = true
is_refusal EndReached = true
is_refusal SignalIndex = true
is_refusal _ = false

-- 1 for the rules on waits, 2 for the one behind them, and 0 for those before
abbrev pub phase : Code → ℕ
phase WaitInMethod = 1
phase LoopMayNotWait = 1
phase EndReached = 1
phase SignalIndex = 2
phase _ = 0

-- What rules of a phase find has a code of theirs.
pub record IsOf (n : ℕ) (r : Refusal) : Type 0 where
  pub refuses : is_refusal r.code ≡ true
  pub phase_is : phase r.code ≡ n

abbrev pub MayFind : ℕ → Option Refusal → Type 0
MayFind n found = IfSome found (IsOf n)

-- One of these codes, or want of memory.
abbrev pub MayStop : Stop → Type 0
MayStop (stop.Refused r) = is_refusal r.code ≡ true
MayStop stop.NoMemory = Unit {0}

-- What one rule finds has its code.
abbrev pub Finds : Code → Option Refusal → Type 0
Finds code found = IfSome found (λ r. r.code ≡ code)
