-- Sets of cells, and rows of them.
use Rattle.std.proofs.Common.{◌≡◌, refl, ℕ, zero, suc, ◌+◌, ◌<◌, arith, subst, ap, sym, ◌∙◌, nat_eq, Bool, true, false, ◌||◌, List, [], ◌∷◌, ◌++◌, map, drop, drop-cons, add-one, get_or, length, slice_get, unwrap_or, if◌then◌else◌}
use Rattle.std.specs.Prelude.{slice_set, flat_map}
use Rattle.std.specs.List.{list_any}
use Rattle.std.proofs.lemmas.Bool.{eqb-true, eq-eqb}
use Rattle.scc_core.specs.declared.named.Dim.{Dim}
use Rattle.scc_rules_walks.specs.Cells.{has_flag, spread, stretched}

put_here : (set : List Bool) (k : ℕ) (is : Bool) → k < length set → has_flag (slice_set set k is) k ≡ is
put_here [] k is h = absurd (omega arith)
put_here (b ∷ set) zero is h = refl
put_here (b ∷ set) (suc k) is h = put_here set k is (omega arith)

put_there : (set : List Bool) (k n : ℕ) (is : Bool) → (n ≡ k → ⊥) → has_flag (slice_set set k is) n ≡ has_flag set n
put_there [] k n is h = refl
put_there (b ∷ set) zero zero is h = absurd (h refl)
put_there (b ∷ set) zero (suc n) is h = refl
put_there (b ∷ set) (suc k) zero is h = refl
put_there (b ∷ set) (suc k) (suc n) is h = put_there set k n is (λ e. h (ap (λ m. suc m) e))

pub put_told : (set : List Bool) (k : ℕ) (is : Bool) → k < length set → (n : ℕ) → has_flag (slice_set set k is) n ≡ (if nat_eq n k then is else has_flag set n)
put_told set k is h n = go (nat_eq n k) refl
  where
    go : (b : Bool) → nat_eq n k ≡ b → has_flag (slice_set set k is) n ≡ (if b then is else has_flag set n)
    go true e = ap (λ m. has_flag (slice_set set k is) m) (eqb-true n k e) ∙ put_here set k is h
    go false e = put_there set k n is (λ s. let P : ℕ → Type 0 = λ m. nat_eq n m ≡ true in let t : nat_eq n k ≡ true = subst P s (eq-eqb n n refl) in absurd (cc))

pub spread_next : (dims : List Dim) (i : ℕ) (d : Dim) (cells all : List ℕ) → i < length dims → d ≡ get_or dims i d → spread cells (drop i dims) ≡ all → spread (stretched d.size d.stride cells) (drop (i + 1) dims) ≡ all
spread_next dims i d cells all h is told =
    ap (spread (stretched d.size d.stride cells)) (ap (λ n. drop n dims) (add-one i))
    ∙ ap (λ e. spread (stretched e.size e.stride cells) (drop (suc i) dims)) is
    ∙ sym (ap (spread cells) (drop-cons dims i d h)) ∙ told

pub any_next : {A : Type 0} (f : A → Bool) (xs : List A) (i : ℕ) (x : A) (t : Bool) → i < length xs → x ≡ get_or xs i x → f x ≡ false → list_any f (drop i xs) ≡ t → list_any f (drop (i + 1) xs) ≡ t
any_next f xs i x t h is none told =
    ap (λ n. list_any f (drop n xs)) (add-one i) ∙ ap (λ b. b || list_any f (drop (suc i) xs)) (sym none) ∙ ap (λ y. f y || list_any f (drop (suc i) xs)) is
    ∙ sym (ap (list_any f) (drop-cons xs i x h)) ∙ told

pub any_found : {A : Type 0} (f : A → Bool) (xs : List A) (i : ℕ) (x : A) (t : Bool) → i < length xs → x ≡ get_or xs i x → f x ≡ true → list_any f (drop i xs) ≡ t → true ≡ t
any_found f xs i x t h is some told =
    ap (λ b. b || list_any f (drop (suc i) xs)) (sym some) ∙ ap (λ y. f y || list_any f (drop (suc i) xs)) is ∙ sym (ap (list_any f) (drop-cons xs i x h)) ∙ told

pub none_more : (xs : List Bool) → ((n : ℕ) → has_flag xs n ≡ false) → (n : ℕ) → has_flag (xs ++ false ∷ []) n ≡ false
none_more [] h zero = refl
none_more [] h (suc n) = refl
none_more (x ∷ xs) h zero = h zero
none_more (x ∷ xs) h (suc n) = none_more xs (λ m. h (suc m)) n
