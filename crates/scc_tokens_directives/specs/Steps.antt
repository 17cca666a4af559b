-- Steps of joining: what a step makes of a state, and why it stops where it does.
use Rattle.std.specs.Prelude.{◌≡◌, ℕ, List, Option, Some, None, Result, Ok, Err}
use Rattle.scc_base.specs.declared.code.Code.{Code}
use Rattle.scc_base.specs.declared.refusal.Place.{Place}
use Rattle.scc_tokens_directives.specs.declared.halt.Halt.{Halt}
use Rattle.scc_tokens_directives.specs.declared.halt.Halt.TheVariants as halt

-- why joining stops: a refusal, or a name of a file that isn't held
pub data Stopped : Type 0 where
  Refuses : Code → Place → Stopped
  Absent : List ℕ → Stopped

-- the state after a step, and why joining stops there, if it does
abbrev pub Step : Type 0 → Type 0
Step S = S × Option Stopped

abbrev pub goes : {S : Type 0} → S → Step S
goes s = (s, None)

abbrev pub stops : {S : Type 0} → S → Code → Place → Step S
stops s c p = (s, Some (Refuses c p))

-- a step, and another where the first doesn't stop
abbrev pub after : {S : Type 0} → Option Stopped → S → (S → Step S) → Step S
after None s f = f s
after (Some h) s f = (s, Some h)

-- the answer says why the step stops; want of memory says nothing
abbrev pub Says : {A : Type 0} → Result A Halt → Option Stopped → Type 0
Says (Ok x) o = o ≡ None
Says (Err (halt.Refused c p)) o = o ≡ Some (Refuses c p)
Says (Err (halt.Missing n)) o = ⊥
Says (Err (halt.Failed n)) o = ⊥
Says (Err halt.NoMemory) o = Unit {0}

-- the step was made, and the answer says why it stops
abbrev pub Does : {S A : Type 0} → S → Result A Halt → Step S → Type 0
Does s (Ok x) step = step ≡ (s, None)
Does s (Err (halt.Refused c p)) step = step ≡ (s, Some (Refuses c p))
Does s (Err (halt.Missing n)) step = ⊥
Does s (Err (halt.Failed n)) step = ⊥
Does s (Err halt.NoMemory) step = Unit {0}

-- the answer is what is found
abbrev pub Finds : {A B : Type 0} → (A → B) → Result A Halt → Result B Stopped → Type 0
Finds view (Ok x) r = r ≡ Ok (view x)
Finds view (Err (halt.Refused c p)) r = r ≡ Err (Refuses c p)
Finds view (Err (halt.Missing n)) r = ⊥
Finds view (Err (halt.Failed n)) r = ⊥
Finds view (Err halt.NoMemory) r = Unit {0}

-- the step was made, and the answer is what it gives
abbrev pub Makes : {S A B : Type 0} → (A → B) → S → Result A Halt → S × Result B Stopped → Type 0
Makes view s (Ok x) step = step ≡ (s, Ok (view x))
Makes view s (Err (halt.Refused c p)) step = step ≡ (s, Err (Refuses c p))
Makes view s (Err (halt.Missing n)) step = ⊥
Makes view s (Err (halt.Failed n)) step = ⊥
Makes view s (Err halt.NoMemory) step = Unit {0}
