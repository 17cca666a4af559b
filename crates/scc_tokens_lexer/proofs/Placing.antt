-- What stands in the slot of a text is where the text stands in the list.
use Rattle.std.proofs.Common.{◌≡◌, ◌<◌, ℕ, zero, suc, ◌+◌, Bool, true, false, not, ◌&&◌, ◌==◌, cond, List, [], ◌∷◌, length, position, Option, Some, None, bytes_eq, slice_get, slice_index, nat_lt, refl, sym, ap, subst, ◌∙◌, arith, eqb-true}
use Rattle.std.specs.List.{prefix_len}
use Rattle.std.proofs.lemmas.Bool.Decides.{nat_tests}
use Rattle.std.proofs.lemmas.Slice.Eq.{bytes_eq-Decides}
use Rattle.scc_tokens_lexer.specs.Slots.{slot_of, placed_from, placed, tried, at_slot}

lt-true : (a b : ℕ) → nat_lt a b ≡ true → a < b
lt-true a b h = grind (arith, nat_tests)

-- how many words stand before the first that is the text
abbrev before : {A : Type 0} (f : A → List ℕ) (t : List ℕ) (ws : List A) → ℕ
before f t ws = prefix_len (λ w. not (bytes_eq (f w) t)) ws

-- its number stands in the slot of the text
in_slot : {A : Type 0} (f : A → List ℕ) (t slots : List ℕ) (i : ℕ) (ws : List A) → placed_from f i ws slots ≡ true
    → before f t ws < length ws → slice_index slots (slot_of t) ≡ i + before f t ws
in_slot f t slots i [] p h = absurd (omega arith)
in_slot {A} f t slots i (w ∷ ws) p h = by (slice_index slots (slot_of (f w)) == i) (bytes_eq (f w) t) refl refl p h (λ q k. in_slot f t slots (i + 1) ws q k)
  where
    by : (a b : Bool) → (slice_index slots (slot_of (f w)) == i) ≡ a → bytes_eq (f w) t ≡ b → (a && placed_from f (i + 1) ws slots) ≡ true
        → cond (not b) (1 + before f t ws) 0 < suc (length ws)
        → (placed_from f (i + 1) ws slots ≡ true → before f t ws < length ws → slice_index slots (slot_of t) ≡ i + 1 + before f t ws)
        → slice_index slots (slot_of t) ≡ i + cond (not b) (1 + before f t ws) 0
    by false b e g p h rest = cc
    by true true e g p h rest =
        let same : f w ≡ t = (bytes_eq-Decides (f w) t).0 g in
        let here : slice_index slots (slot_of (f w)) ≡ i = eqb-true _ i e in
        let there : slice_index slots (slot_of t) ≡ i = subst (λ u. slice_index slots (slot_of u) ≡ i) same here in
        omega (arith, there)
    by true false e g p h rest = let next = rest p (omega arith) in omega (arith, next)

-- the first word that is the text
record First {A : Type 0} (f : A → List ℕ) (t : List ℕ) (ws : List A) : Type 0 where
  word : A
  stands : slice_get ws (before f t ws) ≡ Some word
  is_text : bytes_eq (f word) t ≡ true

first_is : {A : Type 0} (f : A → List ℕ) (t : List ℕ) (ws : List A) → before f t ws < length ws → First f t ws
first_is f t [] h = absurd (omega arith)
first_is {A} f t (w ∷ ws) h = by (bytes_eq (f w) t) refl h (λ k. first_is f t ws k)
  where
    by : (b : Bool) → bytes_eq (f w) t ≡ b → cond (not b) (1 + before f t ws) 0 < suc (length ws) → (before f t ws < length ws → First f t ws) → First f t (w ∷ ws)
    by true g h rest = record { word = w; stands = rw g refl; is_text = g }
    by false g h rest =
        let r = rest (omega arith) in
        let next : 1 + before f t ws ≡ suc (before f t ws) = omega arith in
        record { word = r.word; stands = rw g (ap (slice_get (w ∷ ws)) next ∙ r.stands); is_text = r.is_text }

-- where a word is the text, one is the first
some_first : {A : Type 0} (f : A → List ℕ) (t : List ℕ) (ws : List A) (i : ℕ) (w : A) → slice_get ws i ≡ Some w → bytes_eq (f w) t ≡ true → before f t ws < length ws
some_first f t [] i w e g = cc
some_first f t (x ∷ xs) zero w e g = let same : x ≡ w = cc in rw (ap (λ y. bytes_eq (f y) t) same ∙ g) (omega arith)
some_first {A} f t (x ∷ xs) (suc i) w e g = by (bytes_eq (f x) t) refl (some_first f t xs i w e g)
  where
    by : (b : Bool) → bytes_eq (f x) t ≡ b → before f t xs < length xs → before f t (x ∷ xs) < suc (length xs)
    by true h r = rw h (omega arith)
    by false h r = rw h (omega arith)

pub index_is : {A : Type 0} (f : A → List ℕ) (words : List A) (slots t : List ℕ) → placed f words slots ≡ true → at_slot f words slots t ≡ position (λ w. bytes_eq (f w) t) words
index_is {A} f words slots t p = by (nat_lt (before f t words) (length words)) (slice_get words (slice_index slots (slot_of t))) refl refl
  where
    none_of : (w : A) (b : Bool) → bytes_eq (f w) t ≡ b → slice_get words (slice_index slots (slot_of t)) ≡ Some w → nat_lt (before f t words) (length words) ≡ false
        → cond b (Some (slice_index slots (slot_of t))) None ≡ None
    none_of w true g o e = let k = some_first f t words (slice_index slots (slot_of t)) w o g in absurd (grind (arith, nat_tests, k, e))
    none_of w false g o e = refl

    by : (v : Bool) (o : Option A) → nat_lt (before f t words) (length words) ≡ v → slice_get words (slice_index slots (slot_of t)) ≡ o
        → tried f t (slice_index slots (slot_of t)) o ≡ cond v (Some (before f t words)) None
    by false None e g = refl
    by false (Some w) e g = none_of w (bytes_eq (f w) t) refl g e
    by true o e g =
        let within : before f t words < length words = lt-true _ _ e in
        let same : slice_index slots (slot_of t) ≡ before f t words = (let k = in_slot f t slots 0 words p within in omega (arith, k)) in
        let first = first_is f t words within in
        let found : o ≡ Some first.word = sym g ∙ ap (slice_get words) same ∙ first.stands in
        ap (tried f t (slice_index slots (slot_of t))) found ∙ rw first.is_text (ap Some same)
