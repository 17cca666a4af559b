-- The token that is found at the front of a text is the longest one.
use Rattle.std.proofs.Common.{◌≡◌, ◌<◌, ◌≤◌, ℕ, zero, suc, ◌+◌, ◌-◌, min, List, [], ◌∷◌, length, take, Bool, true, false, cond, not, ◌&&◌, ◌==◌, nat_le, nat_lt, Option, Some, None, option_map, bytes_eq, refl, sym, ap, subst, ◌∙◌, eqb-true, eq-eqb, arith}
use Rattle.std.specs.List.{list_all, prefix_len}
use Rattle.std.proofs.lemmas.List.{length-take-le, take_min}
use Rattle.std.proofs.lemmas.List.Sums.{prefix_len-le-length}
use Rattle.std.proofs.lemmas.Slice.Eq.{bytes_eq-Decides}
use Rattle.std.proofs.lemmas.Bool.Decides.{nat_tests}
use Rattle.scc_tokens_lexer.specs.declared.piece.Form.{Form}
use Rattle.scc_tokens_lexer.specs.declared.piece.Form.TheVariants as form
use Rattle.scc_tokens_lexer.specs.declared.words.TheConstants.{MARKS}
use Rattle.scc_tokens_lexer.specs.Bytes.{is_digit, is_letter, is_word_byte, is_number_byte}
use Rattle.scc_tokens_lexer.specs.Enclosed.{text_end}
use Rattle.scc_tokens_lexer.specs.Lexes.{form_of, form_where, ends_at, IsLongest, BeginsNone}
use Rattle.scc_tokens_lexer.specs.Piece.{word_form, literal_form, front_token, enclosed}
use Rattle.scc_tokens_lexer.specs.Words.{mark_index, mark_of, mark_at, first_some}

unequal : (a b : ℕ) → (a ≡ b → ⊥) → (a == b) ≡ false
unequal a b differ = by (a == b) refl
  where
    by : (v : Bool) → (a == b) ≡ v → v ≡ false
    by false e = refl
    by true e = absurd (differ (eqb-true a b e))

pub le-true : (a b : ℕ) → nat_le a b ≡ true → a ≤ b
le-true a b h = grind (arith, nat_tests)

pub lt-true : (a b : ℕ) → nat_lt a b ≡ true → a < b
lt-true a b h = grind (arith, nat_tests)

-- the class of a first byte
data Class (b : ℕ) : Type 0 where
  letter : is_letter b ≡ true → Class b
  digit : is_letter b ≡ false → is_digit b ≡ true → Class b
  quote : is_letter b ≡ false → is_digit b ≡ false → (b == 34) ≡ true → Class b
  apostrophe : is_letter b ≡ false → is_digit b ≡ false → (b == 34) ≡ false → (b == 39) ≡ true → Class b
  other : is_letter b ≡ false → is_digit b ≡ false → (b == 34) ≡ false → (b == 39) ≡ false → Class b

class_of : (b : ℕ) → Class b
class_of b = by (is_letter b) (is_digit b) (b == 34) (b == 39) refl refl refl refl
  where
    by : (l d q a : Bool) → is_letter b ≡ l → is_digit b ≡ d → (b == 34) ≡ q → (b == 39) ≡ a → Class b
    by true d q a el ed eq ea = letter el
    by false true q a el ed eq ea = digit el ed
    by false false true a el ed eq ea = quote el ed eq
    by false false false true el ed eq ea = apostrophe el ed eq ea
    by false false false false el ed eq ea = other el ed eq ea

all_run : (p : ℕ → Bool) (bs : List ℕ) → list_all p (take (prefix_len p bs) bs) ≡ true
all_run p [] = refl
all_run p (b ∷ bs) = by (p b) refl (all_run p bs)
  where
    by : (v : Bool) → p b ≡ v → list_all p (take (prefix_len p bs) bs) ≡ true → list_all p (take (cond v (1 + prefix_len p bs) 0) (b ∷ bs)) ≡ true
    by false e rest = refl
    by true e rest = let n : 1 + prefix_len p bs ≡ suc (prefix_len p bs) = omega arith in
        subst (λ k. list_all p (take k (b ∷ bs)) ≡ true) (sym n) (ap (λ v. v && list_all p (take (prefix_len p bs) bs)) e ∙ rest)

not_all_past : (p : ℕ → Bool) (bs : List ℕ) (m : ℕ) → prefix_len p bs < m → m ≤ length bs → list_all p (take m bs) ≡ false
not_all_past p [] m h k = absurd (omega arith)
not_all_past p (b ∷ bs) zero h k = absurd (omega arith)
not_all_past p (b ∷ bs) (suc m) h k = by (p b) refl h (λ l. not_all_past p bs m l (omega arith))
  where
    by : (v : Bool) → p b ≡ v → cond v (1 + prefix_len p bs) 0 < suc m → (prefix_len p bs < m → list_all p (take m bs) ≡ false) → (p b && list_all p (take m bs)) ≡ false
    by false e l rest = ap (λ v. v && list_all p (take m bs)) e
    by true e l rest = ap (λ v. v && list_all p (take m bs)) e ∙ rest (omega arith)

-- a run is the longest token that begins with its byte
run_longest : (p : ℕ → Bool) (g : List ℕ → Form) (b : ℕ) (bs : List ℕ) → prefix_len p bs ≤ length bs → ((cs : List ℕ) → form_of (b ∷ cs) ≡ form_where (list_all p cs) (g (b ∷ cs)))
    → IsLongest (b ∷ bs) (g (take (prefix_len p bs + 1) (b ∷ bs))) (prefix_len p bs + 1)
run_longest p g b bs short form_is = record {
  is_token = subst (λ k. form_of (take k (b ∷ bs)) ≡ Some (g (take k (b ∷ bs)))) (sym more)
      (form_is (take (prefix_len p bs) bs) ∙ ap (λ v. form_where v (g (b ∷ take (prefix_len p bs) bs))) (all_run p bs));
  within = omega arith;
  longest = past;
}
  where
    more : prefix_len p bs + 1 ≡ suc (prefix_len p bs)
    more = omega arith

    past : (m : ℕ) → prefix_len p bs + 1 < m → m ≤ length (b ∷ bs) → form_of (take m (b ∷ bs)) ≡ None
    past zero h k = absurd (omega arith)
    past (suc m) h k = form_is (take m bs) ∙ ap (λ v. form_where v (g (b ∷ take m bs))) (not_all_past p bs m (omega arith) (omega arith))

map_some : (o : Option ℕ) (k : ℕ) → option_map (λ n. n + 1) o ≡ Some k → o ≡ Some (k - 1)
map_some None k e = cc
map_some (Some n) k e = let same : n + 1 ≡ k = cc in ap Some (omega arith)

map_positive : (o : Option ℕ) (k : ℕ) → option_map (λ n. n + 1) o ≡ Some k → 0 < k
map_positive None k e = cc
map_positive (Some n) k e = let same : n + 1 ≡ k = cc in omega arith

map_none : (o : Option ℕ) → option_map (λ n. n + 1) o ≡ None → o ≡ None
map_none None e = refl
map_none (Some n) e = cc

-- the end of a text stays where it is when bytes behind it are left out, or when there is none
pub text_end_within : (q : ℕ) (kept : Bool) (bs : List ℕ) (k : ℕ) → text_end q kept bs ≡ Some k → k ≤ length bs
text_end_within q kept [] k e = cc
text_end_within q kept (b ∷ bs) k e = by (b == 10) (not kept && b == q) (λ j. text_end_within q (not kept && b == 92) bs j) e
  where
    by : (v w : Bool) → ((j : ℕ) → text_end q (not kept && b == 92) bs ≡ Some j → j ≤ length bs)
        → cond v None (cond w (Some 1) (option_map (λ n. n + 1) (text_end q (not kept && b == 92) bs))) ≡ Some k → k ≤ length (b ∷ bs)
    by true w rest e = cc
    by false true rest e = let same : 1 ≡ k = cc in omega arith
    by false false rest e = let h = rest (k - 1) (map_some (text_end q (not kept && b == 92) bs) k e) in omega arith

text_end_take : (q : ℕ) (kept : Bool) (bs : List ℕ) (k j : ℕ) → text_end q kept bs ≡ Some k → k ≤ j → text_end q kept (take j bs) ≡ Some k
text_end_take q kept [] k j e h = cc
text_end_take q kept (b ∷ bs) k zero e h = by (b == 10) (not kept && b == q) e h
  where
    by : (v w : Bool) → cond v None (cond w (Some 1) (option_map (λ n. n + 1) (text_end q (not kept && b == 92) bs))) ≡ Some k → k ≤ zero → None ≡ Some k
    by true w e h = e
    by false true e h = let same : 1 ≡ k = cc in absurd (omega arith)
    by false false e h = let some : 0 < k = map_positive (text_end q (not kept && b == 92) bs) k e in absurd (omega arith)
text_end_take q kept (b ∷ bs) k (suc j) e h = by (b == 10) (not kept && b == q) (λ i l. text_end_take q (not kept && b == 92) bs i j l) e h
  where
    by : (v w : Bool) → ((i : ℕ) → text_end q (not kept && b == 92) bs ≡ Some i → i ≤ j → text_end q (not kept && b == 92) (take j bs) ≡ Some i)
        → cond v None (cond w (Some 1) (option_map (λ n. n + 1) (text_end q (not kept && b == 92) bs))) ≡ Some k → k ≤ suc j
        → cond v None (cond w (Some 1) (option_map (λ n. n + 1) (text_end q (not kept && b == 92) (take j bs)))) ≡ Some k
    by true w rest e h = e
    by false true rest e h = e
    by false false rest e h =
        let some : 0 < k = map_positive (text_end q (not kept && b == 92) bs) k e in
        ap (option_map (λ n. n + 1)) (rest (k - 1) (map_some (text_end q (not kept && b == 92) bs) k e) (omega arith)) ∙ ap Some (omega arith)

text_end_none : (q : ℕ) (kept : Bool) (bs : List ℕ) (j : ℕ) → text_end q kept bs ≡ None → text_end q kept (take j bs) ≡ None
text_end_none q kept [] zero e = refl
text_end_none q kept [] (suc j) e = refl
text_end_none q kept (b ∷ bs) zero e = refl
text_end_none q kept (b ∷ bs) (suc j) e = by (b == 10) (not kept && b == q) (text_end_none q (not kept && b == 92) bs j) e
  where
    by : (v w : Bool) → (text_end q (not kept && b == 92) bs ≡ None → text_end q (not kept && b == 92) (take j bs) ≡ None)
        → cond v None (cond w (Some 1) (option_map (λ n. n + 1) (text_end q (not kept && b == 92) bs))) ≡ None
        → cond v None (cond w (Some 1) (option_map (λ n. n + 1) (text_end q (not kept && b == 92) (take j bs)))) ≡ None
    by true w rest e = e
    by false true rest e = e
    by false false rest e = ap (option_map (λ n. n + 1)) (rest (map_none (text_end q (not kept && b == 92) bs) e))

-- what a quote opens and closes is the longest token that begins with it
text_longest : (q : ℕ) (f : Form) (b : ℕ) (bs : List ℕ) (k : ℕ) → ((cs : List ℕ) → form_of (b ∷ cs) ≡ form_where (ends_at (text_end q false cs) (length cs)) f)
    → text_end q false bs ≡ Some k → IsLongest (b ∷ bs) f (k + 1)
text_longest q f b bs k form_is e = record {
  is_token = subst (λ m. form_of (take m (b ∷ bs)) ≡ Some f) (sym more)
      (form_is (take k bs) ∙ ap (λ o. form_where (ends_at o (length (take k bs))) f) (text_end_take q false bs k k e (omega arith))
      ∙ ap (λ v. form_where v f) (eq-eqb k (length (take k bs)) (sym (length-take-le k bs within))));
  within = let w : k ≤ length bs = text_end_within q false bs k e in omega arith;
  longest = past;
}
  where
    more : k + 1 ≡ suc k
    more = omega arith

    within : k ≤ length bs
    within = text_end_within q false bs k e

    past : (m : ℕ) → k + 1 < m → m ≤ length (b ∷ bs) → form_of (take m (b ∷ bs)) ≡ None
    past zero h l = absurd (omega arith)
    past (suc m) h l =
        form_is (take m bs) ∙ ap (λ o. form_where (ends_at o (length (take m bs))) f) (text_end_take q false bs k m e (omega arith))
        ∙ ap (λ v. form_where v f) (unequal k (length (take m bs)) (λ s. omega (arith, length-take-le m bs (omega arith))))

text_begins_none : (q : ℕ) (f : Form) (b : ℕ) (bs : List ℕ) → ((cs : List ℕ) → form_of (b ∷ cs) ≡ form_where (ends_at (text_end q false cs) (length cs)) f)
    → text_end q false bs ≡ None → BeginsNone (b ∷ bs)
unfolding form_of
text_begins_none q f b bs form_is e zero = refl
text_begins_none q f b bs form_is e (suc m) = form_is (take m bs) ∙ ap (λ o. form_where (ends_at o (length (take m bs))) f) (text_end_none q false bs m e)

-- no mark has more than three bytes
short_words : {X : Type 0} (ws : List X) (v : X → List ℕ) (w : List ℕ) → list_all (λ x. nat_le (length (v x)) 3) ws ≡ true → prefix_len (λ x. not (bytes_eq (v x) w)) ws < length ws → length w ≤ 3
short_words [] v w h l = absurd (omega arith)
short_words (x ∷ xs) v w h l = by (bytes_eq (v x) w) (nat_le (length (v x)) 3) refl refl h l (λ k j. short_words xs v w k j)
  where
    by : (e u : Bool) → bytes_eq (v x) w ≡ e → nat_le (length (v x)) 3 ≡ u → (u && list_all (λ y. nat_le (length (v y)) 3) xs) ≡ true
        → cond (not e) (1 + prefix_len (λ y. not (bytes_eq (v y) w)) xs) 0 < suc (length xs)
        → (list_all (λ y. nat_le (length (v y)) 3) xs ≡ true → prefix_len (λ y. not (bytes_eq (v y) w)) xs < length xs → length w ≤ 3) → length w ≤ 3
    by e false a b h l rest = cc
    by true true a b h l rest = let same = ap length ((bytes_eq-Decides (v x) w).0 a) in let short : length (v x) ≤ 3 = le-true (length (v x)) 3 b in omega arith
    by false true a b h l rest = rest h (omega arith)

short_marks : (w : List ℕ) (i : ℕ) → mark_index w ≡ Some i → length w ≤ 3
short_marks w i e = by (nat_lt (prefix_len (λ x. not (bytes_eq x.now w)) MARKS) (length MARKS)) refl e
  where
    by : (v : Bool) → nat_lt (prefix_len (λ x. not (bytes_eq x.now w)) MARKS) (length MARKS) ≡ v → cond v (Some (prefix_len (λ x. not (bytes_eq x.now w)) MARKS)) None ≡ Some i → length w ≤ 3
    by true h e = short_words MARKS (λ x. x.now) w refl (lt-true _ _ h)
    by false h e = cc

past_marks : (s : List ℕ) (m : ℕ) → 3 < m → m ≤ length s → mark_index (take m s) ≡ None
past_marks s m h l = by (mark_index (take m s)) refl
  where
    by : (o : Option ℕ) → mark_index (take m s) ≡ o → o ≡ None
    by None e = refl
    by (Some i) e = absurd (omega (arith, short_marks (take m s) i e, length-take-le m s l))

-- one count of bytes is no mark
mark_none : (s : List ℕ) (n : ℕ) → mark_of s n ≡ None → mark_index (take n s) ≡ None
mark_none s n e = by (mark_index (take (min n (length s)) s)) refl e
  where
    by : (o : Option ℕ) → mark_index (take (min n (length s)) s) ≡ o → option_map {U = ℕ × ℕ} (λ i. (i, min n (length s))) o ≡ None → mark_index (take n s) ≡ None
    by None h e = ap mark_index (sym (take_min n s)) ∙ h
    by (Some i) h e = cc

mark_some : (s : List ℕ) (n : ℕ) (x : ℕ × ℕ) → mark_of s n ≡ Some x → (x.1 ≡ min n (length s)) × (mark_index (take x.1 s) ≡ Some x.0)
mark_some s n x e = by (mark_index (take (min n (length s)) s)) refl e
  where
    by : (o : Option ℕ) → mark_index (take (min n (length s)) s) ≡ o → option_map {U = ℕ × ℕ} (λ i. (i, min n (length s))) o ≡ Some x → (x.1 ≡ min n (length s)) × (mark_index (take x.1 s) ≡ Some x.0)
    by None h e = cc
    by (Some i) h e = let pair : ℕ × ℕ = (i, min n (length s)) in let same : pair ≡ x = cc in subst (λ (y : ℕ × ℕ). (y.1 ≡ min n (length s)) × (mark_index (take y.1 s) ≡ Some y.0)) same (refl, h)

-- every front part of these bytes is no mark
NoMark : List ℕ → ℕ → Type 0
NoMark s m = mark_index (take m s) ≡ None

record Mark (s : List ℕ) (x : ℕ × ℕ) : Type 0 where
  is_mark : mark_index (take x.1 s) ≡ Some x.0
  within : x.1 ≤ length s
  longest : (m : ℕ) → x.1 < m → m ≤ length s → mark_index (take m s) ≡ None

mark_longest : (s : List ℕ) (x : ℕ × ℕ) → mark_at s ≡ Some x → Mark s x
unfolding mark_at
mark_longest s x e = by (mark_of s 3) (mark_of s 2) (mark_of s 1) refl refl refl e
  where
    by : (a b c : Option (ℕ × ℕ)) → mark_of s 3 ≡ a → mark_of s 2 ≡ b → mark_of s 1 ≡ c → first_some a (first_some b c) ≡ Some x → Mark s x
    by (Some y) b c ea eb ec e =
        let m = mark_some s 3 x (ea ∙ e) in
        record { is_mark = m.1; within = omega arith; longest = λ k h l. past_marks s k (omega arith) l }
    by None (Some y) c ea eb ec e =
        let m = mark_some s 2 x (eb ∙ e) in
        let three = mark_none s 3 ea in
        record { is_mark = m.1; within = omega arith; longest = λ k h l. two k h l (omega arith) three }
      where
        two : (k : ℕ) → x.1 < k → k ≤ length s → 2 < k → mark_index (take 3 s) ≡ None → mark_index (take k s) ≡ None
        two k h l g three = pick (nat_le k 3) refl
          where
            pick : (v : Bool) → nat_le k 3 ≡ v → mark_index (take k s) ≡ None
            pick true e = let same : k ≡ 3 = omega (arith, le-true k 3 e) in ap (λ n. mark_index (take n s)) same ∙ three
            pick false e = past_marks s k (grind (arith, nat_tests)) l
    by None None c ea eb ec e =
        let m = mark_some s 1 x (ec ∙ e) in
        record { is_mark = m.1; within = omega arith; longest = λ k h l. one k l (omega arith) (mark_none s 3 ea) (mark_none s 2 eb) }
      where
        one : (k : ℕ) → k ≤ length s → 1 < k → mark_index (take 3 s) ≡ None → mark_index (take 2 s) ≡ None → mark_index (take k s) ≡ None
        one k l g three two = pick (nat_le k 3) (k == 2) refl refl
          where
            pick : (v w : Bool) → nat_le k 3 ≡ v → (k == 2) ≡ w → mark_index (take k s) ≡ None
            pick true true e f = let same : k ≡ 2 = eqb-true k 2 f in ap (λ n. mark_index (take n s)) same ∙ two
            pick true false e f = let same : k ≡ 3 = grind (arith, nat_tests) in ap (λ n. mark_index (take n s)) same ∙ three
            pick false w e f = past_marks s k (grind (arith, nat_tests)) l

mark_begins_none : (s : List ℕ) → mark_at s ≡ None → (m : ℕ) → mark_index (take m s) ≡ None
unfolding mark_at
mark_begins_none s e m = by (mark_of s 3) (mark_of s 2) (mark_of s 1) refl refl refl e
  where
    by : (a b c : Option (ℕ × ℕ)) → mark_of s 3 ≡ a → mark_of s 2 ≡ b → mark_of s 1 ≡ c → first_some a (first_some b c) ≡ None → mark_index (take m s) ≡ None
    by (Some y) b c ea eb ec e = cc
    by None (Some y) c ea eb ec e = cc
    by None None (Some y) ea eb ec e = cc
    by None None None ea eb ec e = small (min m (length s)) (omega arith) (take_min m s) (mark_none s 3 ea) (mark_none s 2 eb) (mark_none s 1 ec)
      where
        small : (k : ℕ) → k ≤ length s → take k s ≡ take m s → mark_index (take 3 s) ≡ None → mark_index (take 2 s) ≡ None → mark_index (take 1 s) ≡ None → mark_index (take m s) ≡ None
        small zero l t three two one = ap mark_index (sym t)
        small (suc zero) l t three two one = ap mark_index (sym t) ∙ one
        small (suc (suc zero)) l t three two one = ap mark_index (sym t) ∙ two
        small (suc (suc (suc zero))) l t three two one = ap mark_index (sym t) ∙ three
        small (suc (suc (suc (suc k)))) l t three two one = ap mark_index (sym t) ∙ past_marks s (suc (suc (suc (suc k)))) (omega arith) l

form_letter : (b : ℕ) (cs : List ℕ) → is_letter b ≡ true → form_of (b ∷ cs) ≡ form_where (list_all is_word_byte cs) (word_form (b ∷ cs))
unfolding form_of
form_letter b cs e = simp e

form_digit : (b : ℕ) (cs : List ℕ) → is_letter b ≡ false → is_digit b ≡ true → form_of (b ∷ cs) ≡ form_where (list_all is_number_byte cs) (literal_form (b ∷ cs))
unfolding form_of
form_digit b cs e f = simp (e, f)

form_quote : (b : ℕ) (cs : List ℕ) → is_letter b ≡ false → is_digit b ≡ false → (b == 34) ≡ true → form_of (b ∷ cs) ≡ form_where (ends_at (text_end 34 false cs) (length cs)) form.Text
unfolding form_of
form_quote b cs e f g = simp (e, f, g)

form_apostrophe : (b : ℕ) (cs : List ℕ) → is_letter b ≡ false → is_digit b ≡ false → (b == 34) ≡ false → (b == 39) ≡ true
    → form_of (b ∷ cs) ≡ form_where (ends_at (text_end 39 false cs) (length cs)) form.Character
unfolding form_of
form_apostrophe b cs e f g h = simp (e, f, g, h)

form_other : (b : ℕ) (cs : List ℕ) → is_letter b ≡ false → is_digit b ≡ false → (b == 34) ≡ false → (b == 39) ≡ false → form_of (b ∷ cs) ≡ option_map form.Mark (mark_index (b ∷ cs))
unfolding form_of
form_other b cs e f g h = simp (e, f, g, h)

-- what is found at the front is the longest token there, and where nothing is found none begins
abbrev pub FrontIs : List ℕ → Option (Form × ℕ) → Type 0
FrontIs s None = BeginsNone s
FrontIs s (Some x) = IsLongest s x.0 x.1

pub front_is : (s : List ℕ) → FrontIs s (front_token s)
unfolding front_token form_of
front_is [] = none
  where
    none : (m : ℕ) → form_of (take m []) ≡ None
    none zero = refl
    none (suc m) = refl
front_is (b ∷ bs) = by (class_of b)
  where
    enclosed_is : (q : ℕ) (f : Form) → ((cs : List ℕ) → form_of (b ∷ cs) ≡ form_where (ends_at (text_end q false cs) (length cs)) f)
        → (o : Option ℕ) → text_end q false bs ≡ o → FrontIs (b ∷ bs) (enclosed f o)
    enclosed_is q f h None e = text_begins_none q f b bs h e
    enclosed_is q f h (Some k) e = text_longest q f b bs k h e

    mark_is : ((cs : List ℕ) → form_of (b ∷ cs) ≡ option_map form.Mark (mark_index (b ∷ cs)))
        → (o : Option (ℕ × ℕ)) → mark_at (b ∷ bs) ≡ o → FrontIs (b ∷ bs) (option_map (λ x. (form.Mark x.0, x.1)) o)
    mark_is h None e = none
      where
        none : (m : ℕ) → form_of (take m (b ∷ bs)) ≡ None
        none zero = refl
        none (suc m) = h (take m bs) ∙ ap (option_map form.Mark) (mark_begins_none (b ∷ bs) e (suc m))
    mark_is h (Some x) e =
        let m = mark_longest (b ∷ bs) x e in
        record { is_token = found x.1 x.0 m.is_mark; within = m.within; longest = λ k l w. past k (m.longest k l w) }
      where
        found : (n i : ℕ) → mark_index (take n (b ∷ bs)) ≡ Some i → form_of (take n (b ∷ bs)) ≡ Some (form.Mark i)
        found zero i g = let no_mark : mark_index [] ≡ None = refl in cc
        found (suc n) i g = h (take n bs) ∙ ap (option_map form.Mark) g

        past : (k : ℕ) → mark_index (take k (b ∷ bs)) ≡ None → form_of (take k (b ∷ bs)) ≡ None
        past zero g = refl
        past (suc k) g = h (take k bs) ∙ ap (option_map form.Mark) g

    by : Class b → FrontIs (b ∷ bs) (front_token (b ∷ bs))
    by (letter e) = simp e (run_longest is_word_byte word_form b bs (prefix_len-le-length is_word_byte bs) (λ cs. form_letter b cs e))
    by (digit e f) = simp (e, f) (run_longest is_number_byte literal_form b bs (prefix_len-le-length is_number_byte bs) (λ cs. form_digit b cs e f))
    by (quote e f g) = simp (e, f, g) (enclosed_is 34 form.Text (λ cs. form_quote b cs e f g) (text_end 34 false bs) refl)
    by (apostrophe e f g h) = simp (e, f, g, h) (enclosed_is 39 form.Character (λ cs. form_apostrophe b cs e f g h) (text_end 39 false bs) refl)
    by (other e f g h) = simp (e, f, g, h) (mark_is (λ cs. form_other b cs e f g h) (mark_at (b ∷ bs)) refl)

-- a text has one longest token at its front
pub same_longest : (s : List ℕ) (f g : Form) (n m : ℕ) → IsLongest s f n → IsLongest s g m → (f ≡ g) × (n ≡ m)
same_longest s f g n m a b = by (nat_lt n m) (nat_lt m n) refl refl
  where
    by : (v w : Bool) → nat_lt n m ≡ v → nat_lt m n ≡ w → (f ≡ g) × (n ≡ m)
    by true w e h = let no_token = a.longest m (lt-true n m e) b.within in let token = b.is_token in cc
    by false true e h = let no_token = b.longest n (lt-true m n h) a.within in let token = a.is_token in cc
    by false false e h =
        let same : n ≡ m = grind (arith, nat_tests) in
        let x = a.is_token in let y = b.is_token in let at = ap (λ k. form_of (take k s)) same in
        let forms : f ≡ g = cc in (forms, same)

-- so it is the one that is found
pub front_longest : (s : List ℕ) (f : Form) (n : ℕ) → IsLongest s f n → front_token s ≡ Some (f, n)
front_longest s f n a = by (front_token s) (front_is s)
  where
    by : (o : Option (Form × ℕ)) → FrontIs s o → o ≡ Some (f, n)
    by None h = let no_token = h n in let token = a.is_token in cc
    by (Some x) h = let same = same_longest s x.0 f x.1 n h a in let forms = same.0 in let sizes = same.1 in let y : Form × ℕ = (f, n) in ap Some (λ i. (forms i, sizes i))

pub front_nothing : (s : List ℕ) → BeginsNone s → front_token s ≡ None
front_nothing s a = by (front_token s) (front_is s)
  where
    by : (o : Option (Form × ℕ)) → FrontIs s o → o ≡ None
    by None h = refl
    by (Some x) h = let token = h.is_token in let no_token = a x.1 in cc
