-- By which codes a thread that is cut into segments is refused.
use Rattle.std.specs.Prelude.{Bool, true, false, ◌≡◌}
use Rattle.scc_base.specs.declared.code.Code.{Code}
use Rattle.scc_base.specs.declared.code.Code.TheVariants.{ResetValue, TooManyStates, SegmentsTooLarge}
use Rattle.scc_base.specs.declared.refusal.Stop.{Stop}
use Rattle.scc_base.specs.declared.refusal.Stop.TheVariants as stop

abbrev pub is_refusal : Code → Bool
is_refusal ResetValue = true
is_refusal TooManyStates = true
is_refusal SegmentsTooLarge = true
is_refusal _ = false

-- One of these codes, or want of memory.
abbrev pub MayStop : Stop → Type 0
MayStop (stop.Refused r) = is_refusal r.code ≡ true
MayStop stop.NoMemory = Unit {0}
