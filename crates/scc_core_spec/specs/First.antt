-- The first of a walk that has a property, and refusals. In a stage the first that is met decides; this project's own.
use Rattle.std.specs.Prelude.{◌≡◌, ℕ, suc, Bool, true, false, List, [], ◌∷◌, ◌++◌, Option, Some, None}
use Rattle.scc_base.specs.declared.refusal.Place.{Place}
use Rattle.scc_base.specs.declared.refusal.Refusal.{Refusal}
use Rattle.scc_base.specs.declared.code.Code.{Code as Reason}

abbrev pub refused : Reason → Place → Refusal
refused code place = record { code = code; place = place; other = None }

abbrev pub refused_beside : Reason → Place → Place → Refusal
refused_beside code place other = record { code = code; place = place; other = Some other }

abbrev pub or_else : {A : Type 0} → Option A → Option A → Option A
or_else (Some a) b = Some a
or_else None b = b

-- the first of these that there is
abbrev pub first_some : {A : Type 0} → List (Option A) → Option A
first_some [] = None
first_some (a ∷ more) = or_else a (first_some more)

-- the first answer of a walk
abbrev pub first_of : {A B : Type 0} → (A → Option B) → List A → Option B
first_of f [] = None
first_of f (x ∷ xs) = or_else (f x) (first_of f xs)

-- the same, with the number of each in the list, from n on
abbrev pub first_numbered : {A B : Type 0} → (ℕ → A → Option B) → ℕ → List A → Option B
first_numbered f n [] = None
first_numbered f n (x ∷ xs) = or_else (f n x) (first_numbered f (suc n) xs)

abbrev pub when : {A : Type 0} → Bool → A → Option A
when true a = Some a
when false a = None

-- nothing of these has an answer
abbrev pub NoneOf : {A B : Type 0} → (A → Option B) → List A → Type 0
NoneOf f [] = Unit {0}
NoneOf f (x ∷ xs) = (f x ≡ None) × NoneOf f xs

-- This answer stands, and nothing before it in the walk has one.
pub record IsFirst {A B : Type 0} (f : A → Option B) (walk : List A) (answer : B) : Type 0 where
  pub front : List A
  pub here : A
  pub back : List A
  pub stands : walk ≡ front ++ here ∷ back
  pub answers : f here ≡ Some answer
  pub none_before : NoneOf f front

-- what the first answer of a walk tells
abbrev pub TellsFirst : {A B : Type 0} → (A → Option B) → List A → Option B → Type 0
TellsFirst f walk None = NoneOf f walk
TellsFirst f walk (Some b) = IsFirst f walk b
