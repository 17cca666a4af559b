-- What stands behind an answer that there is.
use Rattle.std.specs.Prelude.{◌≡◌, ℕ, Option, Some, None, option_map, option_and_then}
use Rattle.std.proofs.Common.{refl}
use Rattle.scc_semantics.specs.Scene.{with_two}

pub some_same : {A : Type 0} {x y : A} → Some x ≡ Some y → x ≡ y
some_same e = cc

pub map_is : {A : Type 0} {B : Type 0} (o : Option A) (f : A → B) (y : B) → option_map f o ≡ Some y → (x : A) × (o ≡ Some x) × (f x ≡ y)
map_is None f y e = absurd (cc)
map_is (Some x) f y e = (x, refl, some_same e)

pub then_is : {A : Type 0} {B : Type 0} (o : Option A) (f : A → Option B) (y : B) → option_and_then f o ≡ Some y → (x : A) × (o ≡ Some x) × (f x ≡ Some y)
then_is None f y e = absurd (cc)
then_is (Some x) f y e = (x, refl, e)

pub two_is : (a b : Option ℕ) (f : ℕ → ℕ → Option ℕ) (z : ℕ) → with_two a b f ≡ Some z → (x : ℕ) × (y : ℕ) × (a ≡ Some x) × (b ≡ Some y) × (f x y ≡ Some z)
two_is None b f z e = absurd (cc)
two_is (Some x) None f z e = absurd (cc)
two_is (Some x) (Some y) f z e = (x, y, refl, refl, e)
