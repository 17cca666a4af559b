-- By which codes templates, types and constants are refused.
use Rattle.std.specs.Prelude.{Bool, true, false, ◌≡◌}
use Rattle.scc_base.specs.declared.code.Code.{Code}
use Rattle.scc_base.specs.declared.code.Code.TheVariants.{UnknownName, Width, Mismatch, NotConstant, ConstRange, Arguments, TemplateDepth, WideLoss, Divisor, TooManyInstances}
use Rattle.scc_base.specs.declared.refusal.Stop.{Stop}
use Rattle.scc_base.specs.declared.refusal.Stop.TheVariants as stop

abbrev pub is_refusal : Code → Bool
is_refusal UnknownName = true
is_refusal Width = true
is_refusal Mismatch = true
is_refusal NotConstant = true
is_refusal ConstRange = true
is_refusal Arguments = true
is_refusal TemplateDepth = true
is_refusal WideLoss = true
is_refusal Divisor = true
is_refusal TooManyInstances = true
is_refusal _ = false

-- One of these codes, or want of memory.
abbrev pub MayStop : Stop → Type 0
MayStop (stop.Refused r) = is_refusal r.code ≡ true
MayStop stop.NoMemory = Unit {0}
