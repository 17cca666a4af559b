-- What a reader of emitted texts answers.
use Rattle.std.specs.Prelude.{◌≡◌, ℕ, length, Option, Some, None, Result, Ok, Err}
use Rattle.scc_reading.specs.Claim.{IsUnexpected, IsTooDeep}
use Rattle.scc_svread_grammar.specs.declared.halt.Halt.{Halt}
use Rattle.scc_svread_grammar.specs.declared.halt.Halt.TheVariants as halt
use Rattle.scc_svread_grammar.specs.declared.raw.RawModule.{RawModule}
use Rattle.scc_svread_grammar.specs.Lexical.{Bytes}
use Rattle.scc_svread_grammar.specs.Grammar.{Reads}
use Rattle.scc_svread_grammar.specs.Levels.{deep}

-- The bytes are the text of this module, in which nothing stands deeper than the limit.
abbrev pub IsRead : ℕ → Bytes → RawModule → Type 0
IsRead limit ts m = (d : Reads ts m) × (deep limit d ≡ None)

-- The fault stands at the first byte of `r`, or at the end: some module's text begins with the bytes before it, and none with that byte, too. No
-- byte before it begins a part past the limit.
abbrev pub StopsAt : ℕ → Bytes → Bytes → Type 0
StopsAt limit ts r = IsUnexpected Reads (λ ts m d. deep limit d) ts r

-- The first byte of `r` begins a statement or expression past the limit, and nothing before it does, in every module's text
-- that begins with the bytes up to and with it; and there are such.
abbrev pub PassesLimitAt : ℕ → Bytes → Bytes → Type 0
PassesLimitAt limit ts r = IsTooDeep Reads (λ ts m d. deep limit d) ts r

-- where a fault stands, by the number of bytes from it on
abbrev pub FaultAt : ℕ → Bytes → Halt → Type 0
FaultAt limit ts halt.NoMemory = Unit {0}
FaultAt limit ts (halt.Unexpected left) = (r : Bytes) × StopsAt limit ts r × (left ≡ length r)
FaultAt limit ts (halt.TooDeep left) = (r : Bytes) × PassesLimitAt limit ts r × (left ≡ length r)

-- the module, or the first part that stands too deep, unless memory ran out
abbrev pub Judged : Option Bytes → RawModule → Result RawModule Halt → Type 0
Judged None m (Ok found) = found ≡ m
Judged (Some at) m (Ok found) = ⊥
Judged deep m (Err halt.NoMemory) = Unit {0}
Judged None m (Err (halt.Unexpected left)) = ⊥
Judged (Some at) m (Err (halt.Unexpected left)) = ⊥
Judged None m (Err (halt.TooDeep left)) = ⊥
Judged (Some at) m (Err (halt.TooDeep left)) = left ≡ length at

abbrev pub IsAnswer : (limit : ℕ) {ts : Bytes} {m : RawModule} → Reads ts m → Result RawModule Halt → Type 0
IsAnswer limit {ts} {m} d result = Judged (deep limit d) m result

-- No bytes are the texts of two modules.
abbrev pub OneModule : Type 0
OneModule = (ts : Bytes) (a b : RawModule) → Reads ts a → Reads ts b → a ≡ b
