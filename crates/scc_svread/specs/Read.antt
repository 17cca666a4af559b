-- What reading an emitted text answers: the module that it says, or the one refusal that it has coming.
use Rattle.std.specs.Prelude.{◌≡◌, ℕ, ◌-◌, ◌^◌, min, Bool, List, length, slice_index, Option, Some, None, Result, Ok, Err, ◌⊎◌}
use Rattle.scc_base.specs.declared.code.Code.{Code as Reason}
use Rattle.scc_base.specs.declared.code.Code.TheVariants.{SvUnexpected, SvSize, SvName, SvDriver, SvLoop, SvDepth}
use Rattle.scc_base.specs.declared.refusal.Stop.{Stop}
use Rattle.scc_base.specs.declared.refusal.Stop.TheVariants as stop
use Rattle.scc_svtree.specs.declared.module.SvModule.{SvModule}
use Rattle.scc_svtree.specs.Code.{Code}
use Rattle.scc_svtree.specs.Settled.{combs_of, Order}
use Rattle.scc_svtext.specs.Emitted.{SvReads}
use Rattle.scc_svread_grammar.specs.declared.halt.Halt.{Halt}
use Rattle.scc_svread_grammar.specs.declared.halt.Halt.TheVariants as halt
use Rattle.scc_svread_grammar.specs.declared.raw.RawModule.{RawModule}
use Rattle.scc_svread_grammar.specs.Lexical.{Bytes}
use Rattle.scc_svread_grammar.specs.Grammar.{Reads}
use Rattle.scc_svread_grammar.specs.Levels.{deep}
use Rattle.scc_svread_grammar.specs.Claim.{IsRead, FaultAt}
use Rattle.scc_svread_check.specs.declared.wrong.Wrong.{Wrong}
use Rattle.scc_svread_check.specs.declared.wrong.Wrong.TheVariants.{Size, Name, Driver}
use Rattle.scc_svread_written.specs.Written.{raw_of}
use Rattle.scc_svread_written.specs.Resolved.{module_of}
use Rattle.scc_svread_check.specs.First.{wrong_of, starts_of}
use Rattle.scc_svtree_order.specs.Cycles.{FirstCycle}

-- a refusal at a byte of the one text
abbrev pub refusal : Reason → ℕ → Stop
refusal code at = stop.Refused (record { code = code; place = record { file = 0; at = min at (2 ^ 32 - 1) }; other = None })

abbrev pub stop_at : Bytes → Halt → Stop
stop_at bytes halt.NoMemory = stop.NoMemory
stop_at bytes (halt.Unexpected left) = refusal SvUnexpected (length bytes - left)
stop_at bytes (halt.TooDeep left) = refusal SvDepth (length bytes - left)

abbrev pub stop_of : Wrong → Stop
stop_of (Size at) = refusal SvSize at
stop_of (Name at) = refusal SvName at
stop_of (Driver at) = refusal SvDriver at

-- A size, a name or a driver is wrong.
pub record IsWrong (many : Bool) (raw : RawModule) (e : Stop) : Type 0 where
  pub first : Wrong
  pub found : wrong_of many raw ≡ Some first
  pub said : e ≡ stop_of first

-- Blocks read in a cycle what others assign: the refusal stands at the first of them that is on one.
pub record LoopsAt (raw : RawModule) (cs : List Code) (e : Stop) : Type 0 where
  pub block : ℕ
  pub cycle : FirstCycle cs block
  pub said : e ≡ refusal SvLoop (slice_index (starts_of raw) block)

-- an order of blocks, or the refusal
abbrev pub Ordered : RawModule → List Code → Option Stop → Type 0
Ordered raw cs None = Order cs
Ordered raw cs (Some e) = LoopsAt raw cs e

-- No size, name or driver is wrong, but there is no order.
pub record IsLooping (many : Bool) (raw : RawModule) (e : Stop) : Type 0 where
  pub right : wrong_of many raw ≡ None
  pub loops : LoopsAt raw (combs_of (module_of raw).blocks) e

-- A module as it is written is the module that it says, unless something is wrong in it.
pub record IsRight (many : Bool) (raw : RawModule) (m : SvModule) : Type 0 where
  pub said : m ≡ module_of raw
  pub right : wrong_of many raw ≡ None
  pub order : Order (combs_of m.blocks)

abbrev pub IsFaulty : Bool → RawModule → Stop → Type 0
IsFaulty many raw e = e ≡ stop.NoMemory ⊎ IsWrong many raw e ⊎ IsLooping many raw e

-- The bytes are a module as it is written, within the limit.
pub record Taken (bytes : Bytes) (P : RawModule → Type 0) : Type 0 where
  pub raw : RawModule
  pub read : IsRead 8192 bytes raw
  pub holds : P raw

-- The bytes are none, or have a part that stands too deep.
pub record IsStopped (bytes : Bytes) (e : Stop) : Type 0 where
  pub fault : Halt
  pub stands : FaultAt 8192 bytes fault
  pub said : e ≡ stop_at bytes fault

-- The bytes are the text of this module, which is without faults, and in which no statement or expression stands deeper than the limit.
pub record ReadAs (many : Bool) (bytes : Bytes) (m : SvModule) : Type 0 where
  pub text : SvReads many bytes m
  pub within : (d : Reads bytes (raw_of m)) → deep 8192 d ≡ None

-- the refusal
abbrev pub RefusedAs : Bool → Bytes → Stop → Type 0
RefusedAs many bytes e = IsStopped bytes e ⊎ Taken bytes (λ raw. IsFaulty many raw e)

-- what is answered where the bytes are the text of this module: the module itself, or a refusal at its first part that stands too deep
abbrev pub Answered : Option Bytes → Bytes → SvModule → Result SvModule Stop → Type 0
Answered None bytes m (Ok found) = found ≡ m
Answered (Some at) bytes m (Ok found) = ⊥
Answered deep bytes m (Err stop.NoMemory) = Unit {0}
Answered None bytes m (Err (stop.Refused r)) = ⊥
Answered (Some at) bytes m (Err (stop.Refused r)) = stop.Refused r ≡ refusal SvDepth (length bytes - length at)

-- The text of a module without faults is read as that module, unless memory ran out.
abbrev pub ReadBack : Bool → Bytes → Result SvModule Stop → Type 0
ReadBack many bytes result = (m : SvModule) → SvReads many bytes m → (d : Reads bytes (raw_of m)) → Answered (deep 8192 d) bytes m result
