-- The keys of a set of texts, as texts.
use Rattle.std.proofs.Common.{◌≡◌, ℕ, zero, suc, Bool, true, false, cond, ◌||◌, List, [], ◌∷◌, ◌++◌, map, slice_get, position, length, nat_lt, not, ◌+◌, None, Some, refl, sym, ap, subst, ◌∙◌, true≢false, string_bytes, bytes_eq, string_eq}
use Rattle.std.specs.List.{list_any, prefix_len, IsDistinct, AllByRecursion}
use Rattle.std.specs.declared.string.String.{String}
use Rattle.std.specs.declared.alloc.Global.{Global}
use Rattle.std.proofs.lemmas.Slice.Eq.{bytes_eq-Decides}
use Rattle.std.proofs.lemmas.Option.{slice_get-get_or}
use Rattle.std.proofs.lemmas.List.Quantifiers.{position-Some}
use Rattle.std.proofs.lemmas.List.Folds.{list_any_at}
use Rattle.indexmap.specs.IndexSet.{insert_key}
use Rattle.scc_base.specs.Names.{with_name, AllDiffer}

map_append : {A B : Type 0} (f : A → B) (xs ys : List A) → map f (xs ++ ys) ≡ map f xs ++ map f ys
map_append f [] ys = refl
map_append f (x ∷ xs) ys = ap (λ l. f x ∷ l) (map_append f xs ys)

any_texts : (k : String Global) (ks : List (String Global)) → list_any (string_eq k) ks ≡ list_any (bytes_eq (string_bytes k)) (map string_bytes ks)
any_texts k [] = refl
any_texts k (x ∷ xs) = ap (λ b. bytes_eq (string_bytes k) (string_bytes x) || b) (any_texts k xs)

-- an inserted text goes last where it is new
pub texts_with : (ks : List (String Global)) (k : String Global) (text : List ℕ) → string_bytes k ≡ text
    → map string_bytes (insert_key string_eq ks k) ≡ with_name (map string_bytes ks) text
texts_with ks k text e = subst (λ t. map string_bytes (insert_key string_eq ks k) ≡ with_name (map string_bytes ks) t) e
    (by (list_any (string_eq k) ks) refl ∙ ap (λ b. cond b (map string_bytes ks) (map string_bytes ks ++ string_bytes k ∷ [])) (any_texts k ks))
  where
    by : (b : Bool) → list_any (string_eq k) ks ≡ b → map string_bytes (cond b ks (ks ++ k ∷ [])) ≡ cond b (map string_bytes ks) (map string_bytes ks ++ string_bytes k ∷ [])
    by true h = refl
    by false h = map_append string_bytes ks (k ∷ [])

all_texts : (k : String Global) (ks : List (String Global)) → AllByRecursion (λ y. string_eq k y ≡ false) ks → AllByRecursion (λ t. bytes_eq (string_bytes k) t ≡ false) (map string_bytes ks)
all_texts k [] h = h
all_texts k (x ∷ xs) h = (h.0, all_texts k xs h.1)

distinct_texts : (ks : List (String Global)) → IsDistinct string_eq ks → IsDistinct bytes_eq (map string_bytes ks)
unfolding IsDistinct
distinct_texts [] h = h
distinct_texts (k ∷ ks) h = (all_texts k ks h.0, distinct_texts ks h.1)

all_at : {A : Type 0} (P : A → Type 0) (xs : List A) → AllByRecursion P xs → (i : ℕ) (x : A) → slice_get xs i ≡ Some x → P x
all_at P [] h i x e = cc
all_at P (y ∷ ys) h zero x e = let same : y ≡ x = cc in subst P same h.0
all_at P (y ∷ ys) h (suc i) x e = all_at P ys h.1 i x e

same_bytes : (t : List ℕ) → bytes_eq t t ≡ true
same_bytes t = (bytes_eq-Decides t t).1 refl

-- where no text equals a later one, no text has two numbers
pub differ : (ts : List (List ℕ)) → IsDistinct bytes_eq ts → AllDiffer ts
unfolding IsDistinct
differ [] h i j text a b = cc
differ (t ∷ ts) h zero zero text a b = refl
differ (t ∷ ts) h zero (suc j) text a b =
    let same : t ≡ text = cc in
    absurd (true≢false (sym (same_bytes text) ∙ subst (λ u. bytes_eq u text ≡ false) same (all_at (λ y. bytes_eq t y ≡ false) ts h.0 j text b)))
differ (t ∷ ts) h (suc i) zero text a b =
    let same : t ≡ text = cc in
    absurd (true≢false (sym (same_bytes text) ∙ subst (λ u. bytes_eq u text ≡ false) same (all_at (λ y. bytes_eq t y ≡ false) ts h.0 i text a)))
differ (t ∷ ts) h (suc i) (suc j) text a b = ap suc (differ ts h.1 i j text a b)

pub texts_differ : (ks : List (String Global)) → IsDistinct string_eq ks → AllDiffer (map string_bytes ks)
texts_differ ks h = differ (map string_bytes ks) (distinct_texts ks h)

pub length_map : {X Y : Type 0} (f : X → Y) (xs : List X) → length (map f xs) ≡ length xs
length_map f [] = refl
length_map f (x ∷ xs) = ap suc (length_map f xs)

prefix_len_map : {X Y : Type 0} (p : Y → Bool) (f : X → Y) (xs : List X) → prefix_len p (map f xs) ≡ prefix_len (λ x. p (f x)) xs
prefix_len_map p f [] = refl
prefix_len_map p f (x ∷ xs) = ap (λ n. cond (p (f x)) (1 + n) 0) (prefix_len_map p f xs)

pub position_map : {X Y : Type 0} (p : Y → Bool) (f : X → Y) (xs : List X) → position p (map f xs) ≡ position (λ x. p (f x)) xs
position_map p f xs =
    ap (λ n. cond (nat_lt n (length (map f xs))) (Some n) None) (prefix_len_map (λ y. not (p y)) f xs)
    ∙ ap (λ n. cond (nat_lt (prefix_len (λ x. not (p (f x))) xs) n) (Some (prefix_len (λ x. not (p (f x))) xs)) None) (length_map f xs)

-- a text that is found has this number, and the table stays as it is
pub found_text : (names : List (List ℕ)) (text : List ℕ) (i : ℕ) → position (bytes_eq text) names ≡ Some i → slice_get names i ≡ Some text
found_text names text i e =
    let p = position-Some (bytes_eq text) names i [] e in
    slice_get-get_or names i [] p.0 ∙ ap Some (sym ((bytes_eq-Decides text _).0 p.1))

pub found_stays : (names : List (List ℕ)) (text : List ℕ) (i : ℕ) → position (bytes_eq text) names ≡ Some i → names ≡ with_name names text
found_stays names text i e =
    let p = position-Some (bytes_eq text) names i [] e in
    sym (ap (λ b. cond b names (names ++ text ∷ [])) (list_any_at (bytes_eq text) names i [] p.0 p.1))
