-- What a reader answers, seen by a view: what its definition says, unless memory ran out.
use Rattle.std.specs.Prelude.{◌≡◌, Option, Some, None, Result, Ok, Err, List, [], ◌∷◌}
use Rattle.scc_thin.specs.declared.halt.Halt.{Halt}
use Rattle.scc_thin.specs.declared.halt.Halt.TheVariants.{Other, Memory}

abbrev pub Fails : {Y : Type 0} → Halt → Option Y → Type 0
Fails Memory read = Unit {0}
Fails Other read = read ≡ None

abbrev pub Gives : {X Y : Type 0} → (X → Y) → Result X Halt → Option Y → Type 0
Gives view (Ok x) read = read ≡ Some (view x)
Gives view (Err e) read = Fails e read

infixl 10 ◌>>=◌
abbrev pub ◌>>=◌ : {A B : Type 0} → Option A → (A → Option B) → Option B
None >>= f = None
(Some x) >>= f = f x

-- what f gives for each element, where it gives something for all
abbrev pub before : {Y : Type 0} → Y → Option (List Y) → Option (List Y)
before y None = None
before y (Some ys) = Some (y ∷ ys)

unfoldable pub each : {X Y : Type 0} → (X → Option Y) → List X → Option (List Y)
each f [] = Some []
each f (x ∷ xs) = f x >>= (λ y. before y (each f xs))
