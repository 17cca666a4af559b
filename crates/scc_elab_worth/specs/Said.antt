-- What is said of something: what it is, a refusal, or nothing. This project's own.
use Rattle.std.specs.Prelude.{◌≡◌, Result, Ok, Err}
use Rattle.scc_base.specs.declared.refusal.Refusal.{Refusal}
use Rattle.scc_base.specs.declared.refusal.Stop.{Stop}
use Rattle.scc_base.specs.declared.refusal.Stop.TheVariants as stop

pub data Said (A : Type 0) : Type 0 where
  Is : A → Said A
  Refuses : Refusal → Said A
  Nothing : Said A

abbrev pub and_said : {A B : Type 0} → Said A → (A → Said B) → Said B
and_said (Is a) f = f a
and_said (Refuses r) f = Refuses r
and_said Nothing f = Nothing

-- the answer is what is said, seen by view, or memory is wanted
abbrev pub Gives : {X Y : Type 0} → (X → Y) → Result X Stop → Said Y → Type 0
Gives view (Ok x) s = s ≡ Is (view x)
Gives view (Err (stop.Refused r)) s = s ≡ Refuses r
Gives view (Err stop.NoMemory) s = Unit {0}
