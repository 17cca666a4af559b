-- Parameters one after another.
use Rattle.std.proofs.Common.{◌≡◌, refl, sym, ap, ◌∙◌, arith, ℕ, zero, suc, ◌+◌, ◌-◌, ◌<◌, ◌≤◌, nat_lt, get_or, length, true, false, if◌then◌else◌, drop, slice_get, List, [], ◌∷◌, map, Option, Some, None, option_map}
use Rattle.std.proofs.lemmas.Option.{slice_get-map}
use Rattle.scc_elab_spec.specs.Program.{Member}
use Rattle.scc_elab_spec.specs.Grown.{Grown}
use Rattle.scc_elab_spec.specs.Worth.{Given}
use Rattle.scc_elab_spec.specs.Made.{is_name, param_given, params_given}

drop_some : {A : Type 0} (xs : List A) (i : ℕ) (x : A) → Some x ≡ slice_get xs i → drop i xs ≡ x ∷ drop (i + 1) xs
drop_some [] i x e = cc
drop_some (y ∷ ys) zero x e = let same : y ≡ x = cc in ap (λ z. z ∷ ys) same
drop_some (y ∷ ys) (suc i) x e = let d : suc i + 1 ≡ suc (i + 1) = omega arith in drop_some ys i x e ∙ ap (λ n. x ∷ drop n (y ∷ ys)) (sym d)

drop_none : {A : Type 0} (xs : List A) (i : ℕ) → None ≡ slice_get xs i → drop i xs ≡ []
drop_none [] zero e = refl
drop_none [] (suc i) e = refl
drop_none (y ∷ ys) zero e = cc
drop_none (y ∷ ys) (suc i) e = drop_none ys i e

mapped : {A B : Type 0} (f : A → B) (xs : List A) (i : ℕ) (o : Option A) → o ≡ slice_get xs i → option_map f o ≡ slice_get (map f xs) i
mapped f xs i o e = ap (option_map f) e ∙ sym (slice_get-map f xs i)

below_of : (i n : ℕ) → true ≡ nat_lt i n → i < n
below_of i n e = grind (arith, e)

-- what a look-up by a number finds, or doesn't
pub got : {A : Type 0} (xs : List A) (i : ℕ) (x : A) → true ≡ nat_lt i (length xs) → x ≡ get_or xs i x → Some x ≡ slice_get xs i
got xs i x e d = at xs i x (below_of i (length xs) e) d
  where
    at : {A : Type 0} (xs : List A) (i : ℕ) (x : A) → i < length xs → x ≡ get_or xs i x → Some x ≡ slice_get xs i
    at [] i x h e = absurd (omega arith)
    at (y ∷ ys) zero x h e = let d : x ≡ y = e in ap Some d
    at (y ∷ ys) (suc i) x h e = let a : i < length ys = omega arith in at ys i x a e

pub missed : {A : Type 0} (xs : List A) (i : ℕ) → length xs ≤ i → None ≡ slice_get xs i
missed [] zero h = refl
missed [] (suc i) h = refl
missed (y ∷ ys) zero h = absurd (omega arith)
missed (y ∷ ys) (suc i) h = let a : length ys ≤ i = omega arith in missed ys i a

module _ {A B : Type 0} (f : A → Member) (h : B → Given) (o p n k : ℕ) (xs : List A) (ys : List B) (g t : Grown) (below : n < p)
    (inv : params_given o n (p - n) (drop n (map f xs)) (drop k (map h ys)) g ≡ t) where
  more : p - n ≡ suc (p - (n + 1))
  more = omega arith

  pub no_member : None ≡ slice_get xs n → g ≡ t
  no_member e = sym (λ i. params_given o n (more i) (drop_none (map f xs) n (mapped f xs n None e) i) (drop k (map h ys)) g) ∙ inv

  module _ (m : A) (there : Some m ≡ slice_get xs n) where
    pub no_argument : None ≡ slice_get ys k → g ≡ t
    no_argument e = sym (λ i. params_given o n (more i) (drop_some (map f xs) n (f m) (mapped f xs n (Some m) there) i) (drop_none (map h ys) k (mapped h ys k None e) i) g) ∙ inv

    module _ (x : B) (given : Some x ≡ slice_get ys k) where
      at_both : params_given o n (p - n) (drop n (map f xs)) (drop k (map h ys)) g
          ≡ (if is_name (f m).shape.base then params_given o (n + 1) (p - (n + 1)) (drop (n + 1) (map f xs)) (h x ∷ drop (k + 1) (map h ys)) g
          else params_given o (n + 1) (p - (n + 1)) (drop (n + 1) (map f xs)) (drop (k + 1) (map h ys)) (param_given g o n (f m) (h x)))
      at_both = λ i. params_given o n (more i) (drop_some (map f xs) n (f m) (mapped f xs n (Some m) there) i) (drop_some (map h ys) k (h x) (mapped h ys k (Some x) given) i) g

      pub past_name : is_name (f m).shape.base ≡ true → params_given o (n + 1) (p - (n + 1)) (drop (n + 1) (map f xs)) (drop k (map h ys)) g ≡ t
      past_name e = ap (λ z. params_given o (n + 1) (p - (n + 1)) (drop (n + 1) (map f xs)) z g) (drop_some (map h ys) k (h x) (mapped h ys k (Some x) given))
          ∙ sym (at_both ∙ ap (λ b. if b then params_given o (n + 1) (p - (n + 1)) (drop (n + 1) (map f xs)) (h x ∷ drop (k + 1) (map h ys)) g
          else params_given o (n + 1) (p - (n + 1)) (drop (n + 1) (map f xs)) (drop (k + 1) (map h ys)) (param_given g o n (f m) (h x))) e) ∙ inv

      pub past_one : is_name (f m).shape.base ≡ false → (new : Grown) → new ≡ param_given g o n (f m) (h x) → params_given o (n + 1) (p - (n + 1)) (drop (n + 1) (map f xs)) (drop (k + 1) (map h ys)) new ≡ t
      past_one e new is = ap (λ z. params_given o (n + 1) (p - (n + 1)) (drop (n + 1) (map f xs)) (drop (k + 1) (map h ys)) z) is
          ∙ sym (at_both ∙ ap (λ b. if b then params_given o (n + 1) (p - (n + 1)) (drop (n + 1) (map f xs)) (h x ∷ drop (k + 1) (map h ys)) g
          else params_given o (n + 1) (p - (n + 1)) (drop (n + 1) (map f xs)) (drop (k + 1) (map h ys)) (param_given g o n (f m) (h x))) e) ∙ inv
