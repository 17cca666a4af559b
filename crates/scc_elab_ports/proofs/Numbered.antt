-- Objects one after another.
use Rattle.std.proofs.Common.{◌≡◌, ℕ, zero, suc, ◌+◌, List, [], ◌∷◌, drop, map, Option, Some, None, option_map, Err, slice_get, ap, refl, sym, ◌∙◌, arith}
use Rattle.std.proofs.lemmas.Option.{slice_get-map}
use Rattle.scc_base.specs.declared.refusal.Refusal.{Refusal}
use Rattle.scc_base.specs.declared.refusal.Stop.{Stop}
use Rattle.scc_base.specs.declared.refusal.Stop.TheVariants as stop
use Rattle.scc_core_spec.specs.First.{or_else, first_numbered}
use Rattle.scc_elab_spec.specs.Design.{Object}
use Rattle.scc_elab_grown.specs.declared.objects.Object.{Object as Held}
use Rattle.scc_elab_grown.specs.Objects.{object_of}
use Rattle.scc_elab_ports.specs.Unbound.{Says}

drop-at : {A : Type 0} (xs : List A) (i : ℕ) (x : A) → slice_get xs i ≡ Some x → drop i xs ≡ x ∷ drop (suc i) xs
drop-at [] i x e = cc
drop-at (y ∷ ys) zero x e = let same : y ≡ x = cc in ap (λ z. z ∷ ys) same
drop-at (y ∷ ys) (suc i) x e = drop-at ys i x e

module _ (f : ℕ → Object → Option Refusal) (xs : List Held) (n : ℕ) (x : Held) (there : slice_get xs n ≡ Some x) where
  abbrev pub from : ℕ → Option Refusal
  from m = first_numbered f m (drop m (map object_of xs))

  next : (i : ℕ) → suc i ≡ i + 1
  next i = omega arith

  at_one : from n ≡ or_else (f n (object_of x)) (from (n + 1))
  at_one = ap (first_numbered f n) (drop-at (map object_of xs) n (object_of x) (slice_get-map object_of xs n ∙ ap (option_map object_of) there))
      ∙ ap (λ m. or_else (f n (object_of x)) (first_numbered f m (drop m (map object_of xs)))) (next n)

  pub passed : f n (object_of x) ≡ None → from n ≡ from (n + 1)
  passed e = at_one ∙ ap (λ o. or_else o (from (n + 1))) e

  pub says_first : (z : Stop) (whole : Option Refusal) → whole ≡ from n → Says {A = Unit {0}} (f n (object_of x)) (Err z) → Says {A = Unit {0}} whole (Err z)
  says_first (stop.Refused r) whole e a = e ∙ at_one ∙ ap (λ o. or_else o (from (n + 1))) a
  says_first stop.NoMemory whole e a = tt
