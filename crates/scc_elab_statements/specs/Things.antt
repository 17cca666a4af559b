-- What a left side names. This project's own.
use Rattle.std.specs.Prelude.{◌≡◌, ℕ, Option, Result, Ok, Err}
use Rattle.scc_base.specs.declared.refusal.Stop.{Stop}
use Rattle.scc_base.specs.declared.refusal.Stop.TheVariants as stop
use Rattle.scc_core_spec.specs.Resolved.{Tried, Made, Stopped}

-- the answer is the object that is named, if any, or the refusal; or memory is wanted
abbrev pub IsThing : Result (Option ℕ) Stop → Tried (Option ℕ) → Type 0
IsThing (Ok o) t = t ≡ Made o
IsThing (Err (stop.Refused r)) t = t ≡ Stopped r
IsThing (Err stop.NoMemory) t = Unit {0}
