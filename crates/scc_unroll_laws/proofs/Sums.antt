-- Steps of sums and of searches.
use Rattle.std.proofs.Common.{◌≡◌, refl, sym, ap, ◌∙◌, arith, ℕ, ◌+◌, Bool, true, false, ◌||◌}

pub sum_step : (s h n x r d t : ℕ) → n ≡ s + h → h ≡ x → d ≡ x + r → s + d ≡ t → n + r ≡ t
sum_step s h n x r d t a b c e = omega arith

pub nothing_left : (s t : ℕ) → s + 0 ≡ t → s ≡ t
nothing_left s t e = omega arith

pub use_step : (o n x r d t : ℕ) → n ≡ o + x → d ≡ x + r → o + d ≡ t → n + r ≡ t
use_step o n x r d t a b c = omega arith

or_assoc : (f x r : Bool) → ((f || x) || r) ≡ (f || (x || r))
or_assoc true x r = refl
or_assoc false x r = refl

pub or_step : (f h n x r d t : Bool) → n ≡ (f || h) → h ≡ x → d ≡ (x || r) → (f || d) ≡ t → (n || r) ≡ t
or_step f h n x r d t a b c e = ap (λ z. z || r) (a ∙ ap (λ z. f || z) b) ∙ or_assoc f x r ∙ ap (λ z. f || z) (sym c) ∙ e

pub none_behind : (f t : Bool) → (f || false) ≡ t → f ≡ t
none_behind true t e = e
none_behind false t e = e
