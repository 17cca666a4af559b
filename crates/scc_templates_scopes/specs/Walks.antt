-- Answers that are those of a definition: the value that it has, with nothing met on the way, or the fault that it meets. This project's own.
use Rattle.std.specs.Prelude.{◌≡◌, [], ◌∷◌, None, Result, Ok, Err}
use Rattle.scc_base.specs.declared.refusal.Stop.{Stop}
use Rattle.scc_base.specs.declared.refusal.Stop.TheVariants as stop
use Rattle.scc_base.specs.declared.refusal.Refusal.{Refusal}
use Rattle.scc_templates_spec.specs.Walk.{Fault}
use Rattle.scc_templates_spec.specs.Walked.{Walked, pure}

-- a walk that a refusal ends at once
abbrev pub refuses : {A : Type 0} → Refusal → Walked A
refuses r = record { value = None; walk = Fault r.code r.place r.other ∷ [] }

-- the answer, seen by view, is that of the definition; or memory is wanted
abbrev pub Gives : {X A : Type 0} → (X → A) → Result X Stop → Walked A → Type 0
Gives view (Ok x) w = w ≡ pure (view x)
Gives view (Err (stop.Refused r)) w = w ≡ refuses r
Gives view (Err stop.NoMemory) w = Unit {0}
