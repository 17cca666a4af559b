-- By which codes the static stage refuses.
use Rattle.std.specs.Prelude.{Bool, true, false, ◌≡◌}
use Rattle.scc_base.specs.declared.code.Code.{Code}
use Rattle.scc_base.specs.declared.code.Code.TheVariants.{UnknownName, DuplicateName, Width, Mismatch, NotConstant, ConstRange, Arguments, TemplateDepth, Recursion, WideLoss, Divisor, RangeOrder, CallPlace, TooManyInstances}
use Rattle.scc_base.specs.declared.refusal.Stop.{Stop}
use Rattle.scc_base.specs.declared.refusal.Stop.TheVariants as stop

-- E301 to E314.
abbrev pub is_static : Code → Bool
is_static UnknownName = true
is_static DuplicateName = true
is_static Width = true
is_static Mismatch = true
is_static NotConstant = true
is_static ConstRange = true
is_static Arguments = true
is_static TemplateDepth = true
is_static Recursion = true
is_static WideLoss = true
is_static Divisor = true
is_static RangeOrder = true
is_static CallPlace = true
is_static TooManyInstances = true
is_static _ = false

-- One of these codes, or want of memory.
abbrev pub MayStop : Stop → Type 0
MayStop (stop.Refused r) = is_static r.code ≡ true
MayStop stop.NoMemory = Unit {0}
