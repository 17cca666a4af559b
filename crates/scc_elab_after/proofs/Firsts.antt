-- Lists of which the first that is refused is told.
use Rattle.std.proofs.Common.{◌≡◌, refl, sym, ap, ◌∙◌, arith, ℕ, zero, suc, ◌+◌, drop, List, [], ◌∷◌, map, Option, Some, None, option_map, slice_get, Err}
use Rattle.std.proofs.lemmas.Option.{slice_get-map}
use Rattle.scc_base.specs.declared.refusal.Refusal.{Refusal}
use Rattle.scc_base.specs.declared.refusal.Stop.{Stop}
use Rattle.scc_base.specs.declared.refusal.Stop.TheVariants as stop
use Rattle.scc_core_spec.specs.First.{or_else, first_numbered}
use Rattle.scc_elab_ports.specs.Unbound.{Says}

drop-at : {A : Type 0} (xs : List A) (i : ℕ) (x : A) → slice_get xs i ≡ Some x → drop i xs ≡ x ∷ drop (suc i) xs
drop-at [] i x e = cc
drop-at (y ∷ ys) zero x e = let same : y ≡ x = cc in ap (λ z. z ∷ ys) same
drop-at (y ∷ ys) (suc i) x e = drop-at ys i x e

module _ {A B : Type 0} (view : A → B) (f : ℕ → B → Option Refusal) (xs : List A) (n : ℕ) (x : A) (there : slice_get xs n ≡ Some x) where
  abbrev pub from : ℕ → Option Refusal
  from m = first_numbered f m (drop m (map view xs))

  next : (i : ℕ) → suc i ≡ i + 1
  next i = omega arith

  at_one : from n ≡ or_else (f n (view x)) (from (n + 1))
  at_one = ap (first_numbered f n) (drop-at (map view xs) n (view x) (slice_get-map view xs n ∙ ap (option_map view) there))
      ∙ ap (λ m. or_else (f n (view x)) (first_numbered f m (drop m (map view xs)))) (next n)

  pub passed : f n (view x) ≡ None → from n ≡ from (n + 1)
  passed e = at_one ∙ ap (λ o. or_else o (from (n + 1))) e

  pub says_first : (z : Stop) (whole : Option Refusal) → whole ≡ from n → Says {A = Unit {0}} (f n (view x)) (Err z) → Says {A = Unit {0}} whole (Err z)
  says_first (stop.Refused r) whole e a = e ∙ at_one ∙ ap (λ o. or_else o (from (n + 1))) a
  says_first stop.NoMemory whole e a = tt
