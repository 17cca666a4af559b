-- The elements of an array, by its first index.
use Rattle.std.proofs.Common.{◌≡◌, refl, sym, ap, ◌∙◌, ℕ, zero, suc, ◌+◌, ◌-◌, ◌<◌, ◌≤◌, length, take, drop, get_or, slice_index_or, List, [], ◌∷◌, ◌++◌, map, append_assoc, arith}
use Rattle.std.specs.Prelude.{flat_map}
use Rattle.std.specs.List.{range_with_len}
use Rattle.scc_semantics.specs.Location.{Part, Element}
use Rattle.scc_elab_spec.specs.Bodies.{elements}
use Rattle.scc_elab_spec.specs.Made.{elements_at}
use Rattle.scc_elab_works.specs.Paths.{rows}

map_append : {A B : Type 0} (f : A → B) (xs ys : List A) → map f (xs ++ ys) ≡ map f xs ++ map f ys
map_append f [] ys = refl
map_append f (x ∷ xs) ys = ap (λ zs. f x ∷ zs) (map_append f xs ys)

module _ (path : List Part) (ns : List ℕ) where
  one_row : (i : ℕ) (all : List (List ℕ)) → map (λ is. path ++ map Element is) (map (λ is. i ∷ is) all) ≡ map (λ is. (path ++ Element i ∷ []) ++ map Element is) all
  one_row i [] = refl
  one_row i (is ∷ all) = λ j. sym (append_assoc path (Element i ∷ []) (map Element is)) j ∷ one_row i all j

  all_rows : (k n : ℕ) → map (λ is. path ++ map Element is) (flat_map (λ i. map (λ is. i ∷ is) (elements ns)) (range_with_len k n)) ≡ rows path ns k n
  all_rows k zero = refl
  all_rows k (suc n) = map_append (λ is. path ++ map Element is) (map (λ is. k ∷ is) (elements ns)) (flat_map (λ i. map (λ is. i ∷ is) (elements ns)) (range_with_len (k + 1) n))
      ∙ (λ j. one_row k (elements ns) j ++ all_rows (k + 1) n j)

  pub rows_are : (n : ℕ) → elements_at path (n ∷ ns) ≡ rows path ns 0 n
  rows_are n = all_rows 0 n

  left_is : (k n : ℕ) → k < n → n - k ≡ suc (n - (k + 1))
  left_is k n h = omega (arith, h)

  pub next_row : (k n : ℕ) → k < n → rows path ns k (n - k) ≡ elements_at (path ++ Element k ∷ []) ns ++ rows path ns (k + 1) (n - (k + 1))
  next_row k n h = ap (rows path ns k) (left_is k n h)

  pub no_row : (n : ℕ) → rows path ns n (n - n) ≡ []
  no_row n = ap (rows path ns n) (none n)
    where
      none : (n : ℕ) → n - n ≡ zero
      none n = omega arith

take_all : {A : Type 0} (xs : List A) → take (length xs) xs ≡ xs
take_all [] = refl
take_all (x ∷ xs) = ap (λ ys. x ∷ ys) (take_all xs)

pub first_rows : (xs : List ℕ) (path : List Part) (front : List (List Part)) → 1 ≤ length xs → front ++ rows path (take (length xs - 1) (drop 1 xs)) 0 (slice_index_or xs 0 0 - 0) ≡ front ++ elements_at path xs
first_rows [] path front h = absurd (omega arith)
first_rows (x ∷ xs) path front h = (λ i. front ++ rows path ((ap (λ n. take n xs) (less (length xs)) ∙ take_all xs) i) 0 (whole x i)) ∙ ap (λ r. front ++ r) (sym (rows_are path xs x))
  where
    less : (n : ℕ) → suc n - 1 ≡ n
    less n = omega arith

    whole : (n : ℕ) → n - 0 ≡ n
    whole n = omega arith

pub row_done : (path part : List Part) (ns : List ℕ) (new front t : List (List Part)) (i k n : ℕ) → i < n → k ≡ i → part ≡ path ++ Element k ∷ [] → new ≡ front ++ elements_at part ns → front ++ rows path ns i (n - i) ≡ t
    → new ++ rows path ns (i + 1) (n - (i + 1)) ≡ t
row_done path part ns new front t i k n h e f g inv =
    ap (λ z. z ++ rows path ns (i + 1) (n - (i + 1))) (g ∙ ap (λ z. front ++ elements_at z ns) (f ∙ ap (λ z. path ++ Element z ∷ []) e))
    ∙ append_assoc front (elements_at (path ++ Element i ∷ []) ns) (rows path ns (i + 1) (n - (i + 1)))
    ∙ ap (λ z. front ++ z) (sym (next_row path ns i n h)) ∙ inv

-- a list by its first and the others
pub slice_is : {A : Type 0} (xs : List A) (s : A) → 1 ≤ length xs → s ≡ get_or xs 0 s → s ∷ take (length xs - 1) (drop 1 xs) ≡ xs
slice_is [] s a e = absurd (omega arith)
slice_is (x ∷ xs) s a e = λ i. e i ∷ (ap (λ n. take n xs) (less (length xs)) ∙ take_all xs) i
  where
    less : (n : ℕ) → suc n - 1 ≡ n
    less n = omega arith

pub empty_is : {A : Type 0} (xs : List A) → length xs < 1 → xs ≡ []
empty_is [] a = refl
empty_is (x ∷ xs) a = absurd (omega arith)

pub first_is : (xs : List ℕ) → 1 ≤ length xs → slice_index_or xs 0 0 ∷ take (length xs - 1) (drop 1 xs) ≡ xs
first_is [] a = absurd (omega arith)
first_is (x ∷ xs) a = λ i. x ∷ (ap (λ n. take n xs) (less (length xs)) ∙ take_all xs) i
  where
    less : (n : ℕ) → suc n - 1 ≡ n
    less n = omega arith
