-- Chains of what may be refused, taken apart.
use Rattle.std.proofs.Common.{◌≡◌, Bool, true, false, ◌&&◌, refl}
use Rattle.scc_core_spec.specs.Resolved.{Tried, Made, Stopped, and_made, made_map}

pub made_same : {A : Type 0} {a b : A} → Made a ≡ Made b → a ≡ b
made_same e = cc

pub and_made-is : {A B : Type 0} (t : Tried A) (f : A → Tried B) (y : B) → and_made t f ≡ Made y → (x : A) × (t ≡ Made x) × (f x ≡ Made y)
and_made-is (Made x) f y e = (x, refl, e)
and_made-is (Stopped r) f y e = cc

pub made_map-is : {A B : Type 0} (f : A → B) (t : Tried A) (y : B) → made_map f t ≡ Made y → (x : A) × (t ≡ Made x) × (f x ≡ y)
made_map-is f (Made x) y e = (x, refl, made_same e)
made_map-is f (Stopped r) y e = cc

pub and-first : (a b : Bool) → (a && b) ≡ true → a ≡ true
and-first true b e = refl
and-first false b e = cc

pub and-second : (a b : Bool) → (a && b) ≡ true → b ≡ true
and-second true b e = e
and-second false b e = cc
