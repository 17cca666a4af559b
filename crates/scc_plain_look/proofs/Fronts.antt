-- Lists from one element on.
use Rattle.std.proofs.Common.{◌≡◌, ◌∙◌, ◌<◌, ◌+◌, ◌&&◌, ℕ, suc, Bool, true, List, ◌∷◌, length, drop, drop-cons, add-one, get_or, ap, sym}
use Rattle.std.specs.List.{list_all}

pub front : {A : Type 0} (xs : List A) (i : ℕ) (x : A) → i < length xs → x ≡ get_or xs i x → drop i xs ≡ x ∷ drop (i + 1) xs
front xs i x h is = drop-cons xs i x h ∙ ap (λ d. d ∷ drop (suc i) xs) (sym is) ∙ ap (λ k. x ∷ drop k xs) (sym (add-one i))

pub next_all : {A : Type 0} (p : A → Bool) (xs : List A) (i : ℕ) (x : A) → i < length xs → x ≡ get_or xs i x → p x ≡ true
    → list_all p (drop i xs) ≡ list_all p xs → list_all p (drop (i + 1) xs) ≡ list_all p xs
next_all p xs i x h is t e = sym (ap (list_all p) (front xs i x h is) ∙ ap (λ b. b && list_all p (drop (i + 1) xs)) t) ∙ e
