-- What the code answers, seen by a view: what its definition says, unless memory ran out. This project's own.
use Rattle.std.specs.Prelude.{◌≡◌, Result, Ok, Err}
use Rattle.scc_base.specs.declared.refusal.Stop.{Stop}
use Rattle.scc_base.specs.declared.refusal.Stop.TheVariants as stop
use Rattle.scc_trace.specs.Head.{Outcome}

abbrev pub Fails : {Y : Type 0} → Stop → Outcome Y → Type 0
Fails stop.NoMemory o = Unit {0}
Fails (stop.Refused r) o = o ≡ Err r

abbrev pub Answers : {X Y : Type 0} → (X → Y) → Result X Stop → Outcome Y → Type 0
Answers view (Ok x) o = o ≡ Ok (view x)
Answers view (Err e) o = Fails e o
