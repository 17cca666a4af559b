-- What is left of objects, one after another.
use Rattle.std.proofs.Common.{◌≡◌, refl, sym, ap, ◌∙◌, arith, ℕ, zero, suc, ◌+◌, take, drop, List, [], ◌∷◌, ◌++◌, map, length, Option, Some, option_map, slice_get, append_assoc}
use Rattle.std.proofs.lemmas.Option.{slice_get-map}
use Rattle.scc_elab_spec.specs.Design.{Object, Target}
use Rattle.scc_elab_spec.specs.Grown.{Grown}
use Rattle.scc_elab_spec.specs.Elaborated.{objects_left, targets_left, target_if}
use Rattle.scc_elab_left.specs.Lefts.{object_left}

drop-at : {A : Type 0} (xs : List A) (i : ℕ) (x : A) → slice_get xs i ≡ Some x → drop i xs ≡ x ∷ drop (suc i) xs
drop-at [] i x e = cc
drop-at (y ∷ ys) zero x e = let same : y ≡ x = cc in ap (λ z. z ∷ ys) same
drop-at (y ∷ ys) (suc i) x e = drop-at ys i x e

pub take-next : {A : Type 0} (xs : List A) (i : ℕ) (x : A) → slice_get xs i ≡ Some x → take (suc i) xs ≡ take i xs ++ x ∷ []
take-next [] i x e = cc
take-next (y ∷ ys) zero x e = let same : y ≡ x = cc in ap (λ z. z ∷ []) same
take-next (y ∷ ys) (suc i) x e = ap (λ zs. y ∷ zs) (take-next ys i x e)

pub take-long : {A : Type 0} (xs : List A) (i : ℕ) (x : A) → slice_get xs i ≡ Some x → length (take i xs) ≡ i
take-long [] i x e = cc
take-long (y ∷ ys) zero x e = refl
take-long (y ∷ ys) (suc i) x e = ap suc (take-long ys i x e)

module _ {A : Type 0} (view : A → Object) (g : Grown) (xs : List A) (n : ℕ) (x : A) (there : slice_get xs n ≡ Some x) where
  behind : drop n (map view xs) ≡ view x ∷ drop (suc n) (map view xs)
  behind = drop-at (map view xs) n (view x) (slice_get-map view xs n ∙ ap (option_map view) there)

  next : suc n ≡ n + 1
  next = omega arith

  pub object_next : (done : List Object) → (done ++ object_left g n (view x) ∷ []) ++ objects_left g (n + 1) (drop (n + 1) (map view xs)) ≡ done ++ objects_left g n (drop n (map view xs))
  object_next done = append_assoc done (object_left g n (view x) ∷ []) (objects_left g (n + 1) (drop (n + 1) (map view xs)))
      ∙ ap (λ m. done ++ object_left g n (view x) ∷ objects_left g m (drop m (map view xs))) (sym next)
      ∙ ap (λ zs. done ++ objects_left g n zs) (sym behind)

  pub target_next : (done : List Target) → (done ++ target_if g n (view x) (view x).node) ++ targets_left g (n + 1) (drop (n + 1) (map view xs)) ≡ done ++ targets_left g n (drop n (map view xs))
  target_next done = append_assoc done (target_if g n (view x) (view x).node) (targets_left g (n + 1) (drop (n + 1) (map view xs)))
      ∙ ap (λ m. done ++ (target_if g n (view x) (view x).node ++ targets_left g m (drop m (map view xs)))) (sym next)
      ∙ ap (λ zs. done ++ targets_left g n zs) (sym behind)

  map_last : {B : Type 0} (seen : B → Object) (bs : List B) (b : B) → map seen (bs ++ b ∷ []) ≡ map seen bs ++ seen b ∷ []
  map_last seen [] b = refl
  map_last seen (c ∷ bs) b = ap (λ zs. seen c ∷ zs) (map_last seen bs b)

  pub object_step : {B : Type 0} (seen : B → Object) (old new : List B) (b : B) (whole : List Object) → new ≡ old ++ b ∷ [] → seen b ≡ object_left g n (view x) → map seen old ++ objects_left g n (drop n (map view xs)) ≡ whole
      → map seen new ++ objects_left g (n + 1) (drop (n + 1) (map view xs)) ≡ whole
  object_step seen old new b whole e f inv = ap (λ zs. zs ++ objects_left g (n + 1) (drop (n + 1) (map view xs))) (ap (map seen) e ∙ map_last seen old b ∙ ap (λ z. map seen old ++ z ∷ []) f) ∙ object_next (map seen old) ∙ inv

  pub target_step : (done ts one whole : List Target) → ts ≡ done ++ one → one ≡ target_if g n (view x) (view x).node → done ++ targets_left g n (drop n (map view xs)) ≡ whole → ts ++ targets_left g (n + 1) (drop (n + 1) (map view xs)) ≡ whole
  target_step done ts one whole e f inv = ap (λ zs. zs ++ targets_left g (n + 1) (drop (n + 1) (map view xs))) (e ∙ ap (λ z. done ++ z) f) ∙ target_next done ∙ inv

  pub taken_next : take n (map view xs) ++ view x ∷ [] ≡ take (n + 1) (map view xs)
  taken_next = sym (take-next (map view xs) n (view x) (slice_get-map view xs n ∙ ap (option_map view) there)) ∙ ap (λ m. take m (map view xs)) next

  pub taken_long : length (take n (map view xs)) ≡ n
  taken_long = take-long (map view xs) n (view x) (slice_get-map view xs n ∙ ap (option_map view) there)
