-- How a call answers its definition, where what it gives is seen by a view. This project's own.
use Rattle.std.specs.Prelude.{Result, Ok, Err, Option, Some, None}
use Rattle.scc_base.specs.declared.refusal.Refusal.{Refusal}
use Rattle.scc_base.specs.declared.refusal.Stop.{Stop}
use Rattle.scc_trace.specs.Answer as call
use Rattle.scc_core_spec.specs.Resolved.{Tried, Made, Stopped}

-- The call gives what the definition says, seen by the view, or refuses as the definition does; want of memory tells nothing.
abbrev pub Answers : {A B : Type 0} → (A → B) → Result B Refusal → Result A Stop → Type 0
Answers view said result = call.Answers view result said

-- what a pass of the definitions says
abbrev pub said_by : {B : Type 0} → Tried B → Result B Refusal
said_by (Made b) = Ok b
said_by (Stopped r) = Err r

-- the first refusal, or else what there is
abbrev pub unless : {B : Type 0} → Option Refusal → B → Result B Refusal
unless None b = Ok b
unless (Some r) b = Err r
