-- Reading names, selects and left sides: what is read is right, and what is right is read.
use Rattle.std.specs.Prelude.{◌≡◌, ℕ, nat_lt, Bool, true, false, cond, ◌&&◌, if◌then◌else◌, [], ◌∷◌, ◌++◌, length, codes, Option, Some, None, Ok, refl}
use Rattle.std.proofs.Common.{sym, ◌∙◌, ap, arith, append_assoc, append-nil, eqb-true}
use Rattle.scc_reading.specs.Reading.{Parser, and_then, ◌>>=◌, ◌>>◌, pure, fail, take_at, is_next, by_test}
use Rattle.scc_reading.proofs.Answer.{Front, no_front, SameHead, Rule, Completes, Answers}
use Rattle.scc_reading.proofs.Answer as answer
use Rattle.scc_reading.proofs.Core.{answers_by, answers_choose, answers_fail}
use Rattle.scc_reading.proofs.Steps.{answers_seq, answers_head, answers_pure_at, answers_if}
use Rattle.scc_svtree.specs.Sound.{is_simple, is_letter, is_word_byte, all_word_bytes}
use Rattle.scc_svtext.specs.Keyword.{is_keyword, begins_keyword}
use Rattle.scc_svtext.specs.Pieces.{spelled}
use Rattle.scc_svtext.proofs.Keywords.{ends_well, usual, begins_is, begins_front}
use Rattle.scc_svread_grammar.specs.declared.raw.RawSelect.{RawSelect}
use Rattle.scc_svread_grammar.specs.declared.raw.RawSelect.TheVariants.{Whole, Bit, Range}
use Rattle.scc_svread_grammar.specs.declared.raw.RawLeft.{RawLeft}
use Rattle.scc_svread_grammar.specs.Lexical.{Bytes, all_pass, is_decimal, ReadsName, ReadsSelect, ReadsLeft, ReadsRange}
use Rattle.scc_svread_grammar.specs.Leaves.{text, run, keyword_word, keyword_rest, closed_word, escaped, named, plain_word, plain_name, name, is_back, is_bracket, is_colon, positive, decimal, select_behind, select, left_of, left_behind, left, range}
use Rattle.scc_svread_grammar.proofs.Runs.{and_left, and_right, same_next, passes_is, answers_run, answers_text_0, answers_text_1, reads_run}
use Rattle.scc_svread_grammar.proofs.Numbers.{sound_positive, RDecimal, sound_decimal, reads_positive, reads_decimal}

-- ---- reserved words

usual_simple : (w : Bytes) → is_keyword w ≡ true → is_simple w ≡ true
usual_simple w h = and_left (is_simple w) _ (and_left (is_simple w && nat_lt 1 (length w)) _ (usual w h))

usual_long : (w : Bytes) → is_keyword w ≡ true → nat_lt 1 (length w) ≡ true
usual_long w h = and_right (is_simple w) _ (and_left (is_simple w && nat_lt 1 (length w)) _ (usual w h))

usual_end : (w : Bytes) → is_keyword w ≡ true → ends_well w ≡ true
usual_end w h = and_right (is_simple w && nat_lt 1 (length w)) _ (usual w h)

ends_badly : (w : Bytes) → ends_well (w ++ 95 ∷ []) ≡ false
ends_badly [] = refl
ends_badly (b ∷ []) = refl
ends_badly (b ∷ c ∷ w) = ends_badly (c ∷ w)

pub false_by : (a b : Bool) → (a ≡ true → b ≡ true) → b ≡ false → a ≡ false
false_by true b h k = let e : b ≡ true = h refl in cc
false_by false b h k = refl

-- with a `_` behind it, it is no reserved word
pub no_keyword : (w : Bytes) → is_keyword (w ++ 95 ∷ []) ≡ false
no_keyword w = false_by (is_keyword (w ++ 95 ∷ [])) (ends_well (w ++ 95 ∷ [])) (usual_end (w ++ 95 ∷ [])) (ends_badly w)

pub no_short_keyword : (b : ℕ) → is_keyword (b ∷ []) ≡ false
no_short_keyword b = false_by (is_keyword (b ∷ [])) false (usual_long (b ∷ [])) refl

word_bytes : (w : Bytes) → all_pass is_word_byte w ≡ true → all_word_bytes w ≡ true
word_bytes [] h = refl
word_bytes (b ∷ w) h = rw (and_left (is_word_byte b) _ h) (word_bytes w (and_right (is_word_byte b) _ h))

bytes_word : (w : Bytes) → all_word_bytes w ≡ true → all_pass is_word_byte w ≡ true
bytes_word [] h = refl
bytes_word (b ∷ w) h = rw (and_left (is_word_byte b) _ h) (bytes_word w (and_right (is_word_byte b) _ h))

more_word_bytes : (w : Bytes) → all_word_bytes w ≡ true → all_word_bytes (w ++ 95 ∷ []) ≡ true
more_word_bytes [] h = refl
more_word_bytes (b ∷ w) h = rw (and_left (is_word_byte b) _ h) (more_word_bytes w (and_right (is_word_byte b) _ h))

no_word_byte : (w m : Bytes) → all_word_bytes ((w ++ 32 ∷ []) ++ m) ≡ false
no_word_byte [] m = refl
no_word_byte (b ∷ w) m = go (is_word_byte b) (no_word_byte w m)
  where
    go : (c : Bool) → all_word_bytes ((w ++ 32 ∷ []) ++ m) ≡ false → (c && all_word_bytes ((w ++ 32 ∷ []) ++ m)) ≡ false
    go true h = h
    go false h = refl

no_blank_in_name : (w m : Bytes) → is_simple ((w ++ 32 ∷ []) ++ m) ≡ false
no_blank_in_name [] m = refl
no_blank_in_name (b ∷ w) m = go (is_letter b)
  where
    go : (c : Bool) → (c && all_word_bytes ((w ++ 32 ∷ []) ++ m)) ≡ false
    go true = no_word_byte w m
    go false = refl

pub spelled_plain : (w : Bytes) → is_keyword w ≡ false → spelled w ≡ w
spelled_plain w h = ap (λ c. if c then (codes "\\" ++ w) ++ codes " " else w) h

pub spelled_escaped : (w r : Bytes) → is_keyword w ≡ true → spelled w ++ r ≡ 92 ∷ (w ++ (32 ∷ r))
spelled_escaped w r h = ap (λ c. (if c then (codes "\\" ++ w) ++ codes " " else w) ++ r) h ∙ ap (λ u. 92 ∷ u) (append_assoc w (32 ∷ []) r)

-- ---- names that are no reserved words

abbrev pub RWord : Rule ℕ Bytes
RWord = λ w ts r. (ts ≡ w ++ r) × (is_simple w ≡ true)

pub sound_plain_word : Answers 1 RWord plain_word
unfolding plain_word
sound_plain_word = answers_head 97 97 refl (λ b. answers_seq (answers_run is_word_byte) (λ more. answers_pure_at (λ y ts d t h.
    let p : (t ≡ b) × (is_letter t ≡ true) = passes_is is_letter t b h in
    let pb : is_letter b ≡ true = ap is_letter (sym p.0) ∙ p.1 in
    (rw (p.0, d.0) refl, rw pb (word_bytes more d.1)))))

abbrev pub RNamed : Bytes → Rule ℕ Bytes
RNamed w = λ x mid r. is_simple w ≡ true → ReadsName (w ++ mid) r x

more_simple : (w : Bytes) → is_simple w ≡ true → is_simple (w ++ 95 ∷ []) ≡ true
more_simple [] h = cc
more_simple (b ∷ w) h = rw (and_left (is_letter b) _ h) (more_word_bytes w (and_right (is_letter b) _ h))

goes_on : (w : Bytes) → Completes (RNamed w) no_front
goes_on w = record {
  by = answer.text (95 ∷ []);
  tree = w ++ 95 ∷ [];
  reads = λ y h.
      (sym (append_assoc w (95 ∷ []) y) ∙ ap (λ u. u ++ y) (sym (spelled_plain (w ++ 95 ∷ []) (no_keyword w))), more_simple w h);
}

pub sound_named : (w : Bytes) → Answers 0 (RNamed w) (named w)
unfolding named
sound_named w = answers_if (is_keyword w) (λ e. answers_fail 0 (RNamed w) (goes_on w)) (λ e. answers_pure_at (λ y h. (ap (λ u. u ++ y) (sym (spelled_plain w e)), h)))

abbrev pub RName : Rule ℕ Bytes
RName = λ w ts r. ReadsName ts r w

named_by : (w x : Bytes) (mid r : Bytes) → RNamed w x mid r → (ts : Bytes) → RWord w ts mid → ReadsName ts r x
named_by w x mid r h ts d = let k : ReadsName (w ++ mid) r x = h d.1 in (d.0 ∙ k.0, k.1)

pub sound_plain_name : Answers 1 RName plain_name
unfolding plain_name
sound_plain_name = answers_seq sound_plain_word (λ w. answers_by (RNamed w) (λ x mid r. (ts : Bytes) → RWord w ts mid → ReadsName ts r x) (named_by w) (sound_named w))

-- ---- reserved words

-- what begins a reserved word, its front parts do
begins_less : (f m : Bytes) → begins_keyword (f ++ m) ≡ true → begins_keyword f ≡ true
begins_less f m h = let k : (n : Bytes) × (is_keyword ((f ++ m) ++ n) ≡ true) = begins_is (f ++ m) h in
    begins_front f (m ++ k.0) (ap is_keyword (sym (append_assoc f m k.0)) ∙ k.1)

keyword_whole : (before ts : Bytes) → ts ≡ keyword_word before ts ++ keyword_rest before ts
unfolding keyword_word keyword_rest
keyword_whole before [] = refl
keyword_whole before (b ∷ bs) = pick (begins_keyword (before ++ b ∷ [])) (keyword_whole (before ++ b ∷ []) bs)
  where
    pick : (t : Bool) → bs ≡ keyword_word (before ++ b ∷ []) bs ++ keyword_rest (before ++ b ∷ []) bs
        → b ∷ bs ≡ cond t (b ∷ keyword_word (before ++ b ∷ []) bs) [] ++ cond t (keyword_rest (before ++ b ∷ []) bs) (b ∷ bs)
    pick true h = ap (λ us. b ∷ us) h
    pick false h = refl

keyword_begins : (before ts : Bytes) → begins_keyword before ≡ true → begins_keyword (before ++ keyword_word before ts) ≡ true
unfolding keyword_word
keyword_begins before [] h = ap begins_keyword (append-nil before) ∙ h
keyword_begins before (b ∷ bs) h = pick (begins_keyword (before ++ b ∷ [])) refl (keyword_begins (before ++ b ∷ []) bs)
  where
    pick : (t : Bool) → begins_keyword (before ++ b ∷ []) ≡ t
        → (begins_keyword (before ++ b ∷ []) ≡ true → begins_keyword ((before ++ b ∷ []) ++ keyword_word (before ++ b ∷ []) bs) ≡ true)
        → begins_keyword (before ++ cond t (b ∷ keyword_word (before ++ b ∷ []) bs) []) ≡ true
    pick true e f = ap begins_keyword (sym (append_assoc before (b ∷ []) (keyword_word (before ++ b ∷ []) bs))) ∙ f e
    pick false e f = ap begins_keyword (append-nil before) ∙ h

abbrev goes_on_by : Bytes → ℕ → Bool
goes_on_by w b = begins_keyword (w ++ b ∷ [])

keyword_stops : (before ts : Bytes) → is_next (goes_on_by (before ++ keyword_word before ts)) (keyword_rest before ts) ≡ false
unfolding keyword_word keyword_rest
keyword_stops before [] = refl
keyword_stops before (b ∷ bs) = pick (begins_keyword (before ++ b ∷ [])) refl (keyword_stops (before ++ b ∷ []) bs)
  where
    pick : (t : Bool) → begins_keyword (before ++ b ∷ []) ≡ t
        → is_next (goes_on_by ((before ++ b ∷ []) ++ keyword_word (before ++ b ∷ []) bs)) (keyword_rest (before ++ b ∷ []) bs) ≡ false
        → is_next (goes_on_by (before ++ cond t (b ∷ keyword_word (before ++ b ∷ []) bs) [])) (cond t (keyword_rest (before ++ b ∷ []) bs) (b ∷ bs)) ≡ false
    pick true e f = ap (λ w. is_next (goes_on_by w) (keyword_rest (before ++ b ∷ []) bs)) (sym (append_assoc before (b ∷ []) (keyword_word (before ++ b ∷ []) bs))) ∙ f
    pick false e f = ap (λ w. goes_on_by w b) (append-nil before) ∙ e

word_again : (before w s : Bytes) → begins_keyword (before ++ w) ≡ true → is_next (goes_on_by (before ++ w)) s ≡ false → keyword_word before (w ++ s) ≡ w
unfolding keyword_word
word_again before [] [] h k = refl
word_again before [] (b ∷ s) h k = ap (λ t. cond t (b ∷ keyword_word (before ++ b ∷ []) s) []) (ap (λ w. goes_on_by w b) (sym (append-nil before)) ∙ k)
word_again before (b ∷ w) s h k =
    let same : (before ++ b ∷ []) ++ w ≡ before ++ b ∷ w = append_assoc before (b ∷ []) w in
    ap (λ t. cond t (b ∷ keyword_word (before ++ b ∷ []) (w ++ s)) []) (begins_less (before ++ b ∷ []) w (ap begins_keyword same ∙ h))
    ∙ ap (λ us. b ∷ us) (word_again (before ++ b ∷ []) w s (ap begins_keyword same ∙ h) (ap (λ v. is_next (goes_on_by v) s) same ∙ k))

rest_again : (before w s : Bytes) → begins_keyword (before ++ w) ≡ true → is_next (goes_on_by (before ++ w)) s ≡ false → keyword_rest before (w ++ s) ≡ s
unfolding keyword_rest
rest_again before [] [] h k = refl
rest_again before [] (b ∷ s) h k = ap (λ t. cond t (keyword_rest (before ++ b ∷ []) s) (b ∷ s)) (ap (λ w. goes_on_by w b) (sym (append-nil before)) ∙ k)
rest_again before (b ∷ w) s h k =
    let same : (before ++ b ∷ []) ++ w ≡ before ++ b ∷ w = append_assoc before (b ∷ []) w in
    ap (λ t. cond t (keyword_rest (before ++ b ∷ []) (w ++ s)) (b ∷ (w ++ s))) (begins_less (before ++ b ∷ []) w (ap begins_keyword same ∙ h))
    ∙ rest_again (before ++ b ∷ []) w s (ap begins_keyword same ∙ h) (ap (λ v. is_next (goes_on_by v) s) same ∙ k)

abbrev keyword_front : Parser ℕ Bytes
keyword_front ts = Ok (keyword_word [] ts, keyword_rest [] ts)

front_again : (w s : Bytes) → begins_keyword w ≡ true → is_next (goes_on_by w) s ≡ false → keyword_front (w ++ s) ≡ Ok (w, s)
front_again w s h k = ap (λ u. Ok (u, keyword_rest [] (w ++ s))) (word_again [] w s h k) ∙ ap (λ u. Ok (w, u)) (rest_again [] w s h k)

abbrev RFront : Rule ℕ Bytes
RFront = λ w ts r. (ts ≡ w ++ r) × (begins_keyword w ≡ true)

nothing_begins : begins_keyword [] ≡ true
unfolding is_keyword
nothing_begins = begins_front [] (codes "do") refl

answers_front : Answers 0 RFront keyword_front
answers_front = record {
  some = record { by = no_front; tree = []; reads = λ y. (refl, nothing_begins) };
  at = λ ts. record {
    w = answer.text (keyword_word [] ts);
    long = omega arith;
    whole = keyword_whole [] ts;
    reads = λ y. (refl, keyword_begins [] ts nothing_begins);
    alike = λ s h. front_again (keyword_word [] ts) s (keyword_begins [] ts nothing_begins) (sym (same_next (goes_on_by (keyword_word [] ts)) (keyword_rest [] ts) s h) ∙ keyword_stops [] ts);
  };
}

abbrev REscaped : Rule ℕ Bytes
REscaped = λ x ts r. (ts ≡ x ++ 32 ∷ r) × (is_keyword x ≡ true)

abbrev RClosed : Bytes → Rule ℕ Bytes
RClosed w = λ x mid r. begins_keyword w ≡ true → REscaped x (w ++ mid) r

goes_on_closed : (w : Bytes) (b : Bool) → begins_keyword w ≡ b → Completes (RClosed w) no_front
goes_on_closed w true e = let k : (m : Bytes) × (is_keyword (w ++ m) ≡ true) = begins_is w e in
    record { by = answer.text (k.0 ++ 32 ∷ []); tree = w ++ k.0; reads = λ y h. (ap (λ u. w ++ u) (append_assoc k.0 (32 ∷ []) y) ∙ sym (append_assoc w k.0 (32 ∷ y)), k.1) }
goes_on_closed w false e = record { by = no_front; tree = []; reads = λ y h. absurd (let both : true ≡ false = sym h ∙ e in cc) }

sound_closed : (w : Bytes) → Answers 0 (RClosed w) (closed_word w)
unfolding closed_word
sound_closed w = answers_if (is_keyword w) (λ e. answers_text_0 (32 ∷ []) (answers_pure_at (λ y h. (refl, e)))) (λ e. answers_fail 0 (RClosed w) (goes_on_closed w (begins_keyword w) refl))

closed_by : (w x mid r : Bytes) → RClosed w x mid r → (ts : Bytes) → RFront w ts mid → REscaped x ts r
closed_by w x mid r h ts d = let k : REscaped x (w ++ mid) r = h d.1 in (d.0 ∙ k.0, k.1)

sound_escaped : Answers 0 REscaped escaped
unfolding escaped
sound_escaped = answers_seq answers_front (λ w. answers_by (RClosed w) (λ x mid r. (ts : Bytes) → RFront w ts mid → REscaped x ts r) (closed_by w) (sound_closed w))

pub sound_name : Answers 1 RName name
unfolding name
sound_name = answers_choose 1 is_back _ _ _
    (answers_text_1 92 [] (answers_by REscaped (λ x mid r. ReadsName (92 ∷ mid) r x) (λ x mid r d. (ap (λ u. 92 ∷ u) d.0 ∙ sym (spelled_escaped x r d.1), usual_simple x d.1)) sound_escaped))
    sound_plain_name

-- ---- selects, left sides and ranges

abbrev pub RSelect : Rule ℕ RawSelect
RSelect = λ s ts r. ReadsSelect ts r s

abbrev RSelectBehind : Bytes → Rule ℕ RawSelect
RSelectBehind h = λ s mid r. is_decimal h ≡ true → ReadsSelect (91 ∷ (h ++ mid)) r s

sound_select_behind : (h : Bytes) → Answers 0 (RSelectBehind h) (select_behind h)
unfolding select_behind
sound_select_behind h = answers_choose 0 is_colon _ _ _
    (answers_text_0 (58 ∷ []) (answers_seq sound_decimal (λ l. answers_text_0 (93 ∷ []) (answers_pure_at (λ y ts d k. (rw d.0 refl, k, d.1))))))
    (answers_text_0 (93 ∷ []) (answers_pure_at (λ y k. (refl, k))))

pub sound_select : Answers 0 RSelect select
unfolding select
sound_select = answers_choose 0 is_bracket _ _ _
    (answers_text_0 (91 ∷ []) (answers_seq sound_decimal (λ h. answers_by (RSelectBehind h) (λ s mid r. (ts : Bytes) → RDecimal h ts mid → ReadsSelect (91 ∷ ts) r s) (λ s mid r f ts d. rw d.0 (f d.1)) (sound_select_behind h))))
    (answers_pure_at (λ y. refl))

abbrev pub RLeft : Rule ℕ RawLeft
RLeft = λ l ts r. ReadsLeft ts r l

abbrev pub RLeftBehind : Bytes → Rule ℕ RawLeft
RLeftBehind w = λ l mid r. (ts : Bytes) → ReadsName ts mid w → ReadsLeft ts r l

pub sound_left_behind : (w : Bytes) → Answers 0 (RLeftBehind w) (left_behind w)
unfolding left_behind
sound_left_behind w = answers_seq sound_select (λ s. answers_pure_at (λ y mid d ts n. (mid, n, d)))

pub sound_left : Answers 1 RLeft left
unfolding left
sound_left = answers_seq sound_name (λ w. sound_left_behind w)

abbrev pub RRange : Rule ℕ (Option Bytes)
RRange = λ h ts r. ReadsRange ts r h

pub sound_range : Answers 0 RRange range
unfolding range
sound_range = answers_choose 0 is_bracket _ _ _
    (answers_text_0 (91 ∷ []) (answers_seq sound_positive (λ high. answers_text_0 (codes ":0] ") (answers_pure_at (λ y ts d. (rw d.0 refl, d.1))))))
    (answers_pure_at (λ y. refl))

-- ---- what is right is read

abbrev pub NoWord : Bytes → Type 0
NoWord r = is_next is_word_byte r ≡ false

abbrev pub NoBracket : Bytes → Type 0
NoBracket r = is_next is_bracket r ≡ false

pub reads_plain_word : (w r : Bytes) → is_simple w ≡ true → NoWord r → plain_word (w ++ r) ≡ Ok (w, r)
unfolding plain_word
reads_plain_word [] r h k = cc
reads_plain_word (b ∷ w) r h k =
    ap (λ c. and_then (take_at (if c then Some b else None) b (w ++ r)) (λ b. run is_word_byte >>= λ more. pure (b ∷ more))) (and_left (is_letter b) _ h)
    ∙ ap (λ o. and_then o (λ more. pure (b ∷ more))) (reads_run is_word_byte w r (bytes_word w (and_right (is_letter b) _ h)) k)

pub letter_no_back : (b : ℕ) → is_letter b ≡ true → is_back b ≡ false
letter_no_back b h = false_by (is_back b) (is_letter 92 && false) (λ e. let same : b ≡ 92 = eqb-true b 92 e in let k : is_letter 92 ≡ true = ap is_letter (sym same) ∙ h in cc) refl

no_blank_begins : (w : Bytes) → begins_keyword (w ++ 32 ∷ []) ≡ false
no_blank_begins w = go (begins_keyword (w ++ 32 ∷ [])) refl
  where
    go : (c : Bool) → begins_keyword (w ++ 32 ∷ []) ≡ c → c ≡ false
    go false e = refl
    go true e = let k : (m : Bytes) × (is_keyword ((w ++ 32 ∷ []) ++ m) ≡ true) = begins_is (w ++ 32 ∷ []) e in
        let s : is_simple ((w ++ 32 ∷ []) ++ k.0) ≡ true = usual_simple _ k.1 in
        sym s ∙ no_blank_in_name w k.0

reads_escaped : (w r : Bytes) → is_keyword w ≡ true → escaped (w ++ 32 ∷ r) ≡ Ok (w, r)
unfolding escaped closed_word text
reads_escaped w r h =
    ap (λ o. and_then o closed_word) (front_again w (32 ∷ r) (begins_front w [] (ap is_keyword (append-nil w) ∙ h)) (no_blank_begins w))
    ∙ ap (λ c. (if c then (text (codes " ") >> pure w) else fail) (32 ∷ r)) h

pub reads_name : (ts r : Bytes) (w : Bytes) → ReadsName ts r w → NoWord r → name ts ≡ Ok (w, r)
unfolding name plain_name named text
reads_name ts r w d k = rw d.0 (go (is_keyword w) refl)
  where
    of_plain : (w : Bytes) → is_keyword w ≡ false → is_simple w ≡ true → name (w ++ r) ≡ Ok (w, r)
    of_plain [] e h = cc
    of_plain (b ∷ w) e h = ap (λ c. by_test c (text (codes "\\") >> escaped) plain_name (b ∷ (w ++ r))) (letter_no_back b (and_left (is_letter b) _ h))
        ∙ ap (λ o. and_then o named) (reads_plain_word (b ∷ w) r h k) ∙ ap (λ c. (if c then fail else pure (b ∷ w)) r) e

    of_escaped : is_keyword w ≡ true → name (92 ∷ (w ++ 32 ∷ r)) ≡ Ok (w, r)
    of_escaped e = reads_escaped w r e

    go : (c : Bool) → is_keyword w ≡ c → name (spelled w ++ r) ≡ Ok (w, r)
    go true e = ap name (spelled_escaped w r e) ∙ of_escaped e
    go false e = ap (λ u. name (u ++ r)) (spelled_plain w e) ∙ of_plain w e d.1

pub reads_select : (ts r : Bytes) (s : RawSelect) → ReadsSelect ts r s → NoBracket r → select ts ≡ Ok (s, r)
unfolding select select_behind text
reads_select ts r Whole d k = rw d (ap (λ c. by_test c (text (codes "[") >> (decimal >>= λ h. select_behind h)) (pure Whole) r) k)
reads_select ts r (Bit at) d k = rw d.0 (ap (λ o. and_then o (λ h. select_behind h)) (reads_decimal at (93 ∷ r) d.1 refl))
reads_select ts r (Range h l) d k = rw d.0 (ap (λ o. and_then o (λ h. select_behind h)) (reads_decimal h (58 ∷ (l ++ (93 ∷ r))) d.1 refl)
    ∙ ap (λ o. and_then o (λ l. text (codes "]") >> pure (Range h l))) (reads_decimal l (93 ∷ r) d.2 refl))

pub select_no_word : (ts r : Bytes) (s : RawSelect) → ReadsSelect ts r s → NoWord r → NoWord ts
select_no_word ts r Whole d k = rw d k
select_no_word ts r (Bit at) d k = rw d.0 refl
select_no_word ts r (Range h l) d k = rw d.0 refl

pub reads_left_behind : (mid r : Bytes) (w : Bytes) (s : RawSelect) → ReadsSelect mid r s → NoBracket r → left_behind w mid ≡ Ok (left_of w s, r)
unfolding left_behind
reads_left_behind mid r w s d k = ap (λ o. and_then o (λ s. pure (left_of w s))) (reads_select mid r s d k)

pub reads_left : (ts r : Bytes) (l : RawLeft) → ReadsLeft ts r l → NoWord r → NoBracket r → left ts ≡ Ok (l, r)
unfolding left
reads_left ts r l d h k = ap (λ o. and_then o (λ w. left_behind w)) (reads_name ts d.0 l.name d.1 (select_no_word d.0 r l.select d.2 h)) ∙ reads_left_behind d.0 r l.name l.select d.2 k

-- a name doesn't begin with a bracket
pub name_no_bracket : (ts r : Bytes) (w : Bytes) → ReadsName ts r w → NoBracket ts
name_no_bracket ts r w d = rw d.0 (go (is_keyword w) refl)
  where
    of_plain : (w : Bytes) → is_simple w ≡ true → NoBracket (w ++ r)
    of_plain [] h = cc
    of_plain (b ∷ w) h = false_by (is_bracket b) false (λ e. let same : b ≡ 91 = eqb-true b 91 e in let k : is_letter 91 ≡ true = ap is_letter (sym same) ∙ and_left (is_letter b) _ h in cc) refl

    go : (c : Bool) → is_keyword w ≡ c → NoBracket (spelled w ++ r)
    go true e = ap (is_next is_bracket) (spelled_escaped w r e)
    go false e = ap (λ u. is_next is_bracket (u ++ r)) (spelled_plain w e) ∙ of_plain w d.1

pub reads_range : (ts r : Bytes) (h : Option Bytes) → ReadsRange ts r h → NoBracket r → range ts ≡ Ok (h, r)
unfolding range text
reads_range ts r None d k = rw d (ap (λ c. by_test c (text (codes "[") >> (positive >>= λ high. text (codes ":0] ") >> pure (Some high))) (pure None) r) k)
reads_range ts r (Some high) d k = rw d.0 (ap (λ o. and_then o (λ high. text (codes ":0] ") >> pure (Some high))) (reads_positive high (codes ":0] " ++ r) d.1 refl))
