-- A value with the walk that finds it: parts, and what comes behind them. There is a value exactly where the walk meets no fault. This
-- project's own.
use Rattle.std.specs.Prelude.{List, [], ◌∷◌, ◌++◌, Option, Some, None, option_and_then}
use Rattle.scc_base.specs.declared.refusal.Place.{Place}
use Rattle.scc_base.specs.declared.code.Code.{Code as Reason}
use Rattle.scc_templates_spec.specs.Walk.{Event, Fault}

pub record Walked (A : Type 0) : Type 0 where
  pub value : Option A
  pub walk : List Event

abbrev pub pure : {A : Type 0} → A → Walked A
pure x = record { value = Some x; walk = [] }

abbrev pub fault : {A : Type 0} → Reason → Place → Walked A
fault code place = record { value = None; walk = Fault code place None ∷ [] }

abbrev pub fault_beside : {A : Type 0} → Reason → Place → Place → Walked A
fault_beside code place other = record { value = None; walk = Fault code place (Some other) ∷ [] }

-- something is met, and nothing is refused
abbrev pub meets : Event → Walked (Unit {0})
meets e = record { value = Some tt; walk = e ∷ [] }

-- what comes behind a part that has a value
abbrev pub behind : {A : Type 0} → Option A → (A → List Event) → List Event
behind None f = []
behind (Some x) f = f x

abbrev pub and_walk : {A B : Type 0} → Walked A → (A → Walked B) → Walked B
and_walk x f = record { value = option_and_then (λ a. (f a).value) x.value; walk = x.walk ++ behind x.value (λ a. (f a).walk) }
