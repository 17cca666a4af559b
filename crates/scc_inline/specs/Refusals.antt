-- By which codes copied bodies are refused.
use Rattle.std.specs.Prelude.{Bool, true, false, ◌≡◌, Option, Some, None, Result, Ok, Err}
use Rattle.scc_base.specs.declared.code.Code.{Code}
use Rattle.scc_base.specs.declared.code.Code.TheVariants.{StaticIndex, TooLarge}
use Rattle.scc_base.specs.declared.refusal.Refusal.{Refusal}
use Rattle.scc_base.specs.declared.refusal.Stop.{Stop}
use Rattle.scc_base.specs.declared.refusal.Stop.TheVariants as stop
use Rattle.scc_core_spec.specs.First.{first_numbered}
use Rattle.scc_elab_spec.specs.Design.{Design}
use Rattle.scc_elab_spec.specs.Program.{Plain}
use Rattle.scc_inline_spec.specs.Inlined.{too_large}

abbrev pub is_refusal : Code → Bool
is_refusal StaticIndex = true
is_refusal TooLarge = true
is_refusal _ = false

-- One of these codes, or want of memory.
abbrev pub MayStop : Stop → Type 0
MayStop (stop.Refused r) = is_refusal r.code ≡ true
MayStop stop.NoMemory = Unit {0}

-- An index that isn't static, or want of memory.
abbrev pub MayChoose : Stop → Type 0
MayChoose (stop.Refused r) = r.code ≡ StaticIndex
MayChoose stop.NoMemory = Unit {0}

-- this is refused, or nothing; or want of memory
abbrev pub JudgedStop : Option Refusal → Stop → Type 0
JudgedStop o (stop.Refused r) = o ≡ Some r
JudgedStop o stop.NoMemory = Unit {0}

abbrev pub Judges : {A : Type 0} → Option Refusal → Result A Stop → Type 0
Judges o (Ok a) = o ≡ None
Judges o (Err s) = JudgedStop o s

-- nothing is refused for its size where there is an answer, and what is refused for its size is this
abbrev pub SizedStop : Option Refusal → Stop → Type 0
SizedStop o (stop.Refused r) = r.code ≡ TooLarge → o ≡ Some r
SizedStop o stop.NoMemory = Unit {0}

abbrev pub IsSized : {A : Type 0} → Option Refusal → Result A Stop → Type 0
IsSized o (Ok a) = o ≡ None
IsSized o (Err s) = SizedStop o s

-- E601 at the first process whose body is too large
abbrev pub AreSized : {A : Type 0} → Plain → Design → Result A Stop → Type 0
AreSized p d r = IsSized (first_numbered (too_large p d) 0 d.processes) r
