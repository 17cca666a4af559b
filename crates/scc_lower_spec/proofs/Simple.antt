-- A joined text that begins with a member is an identifier of the emitted text.
use Rattle.std.proofs.Common.{◌≡◌, ℕ, ◌+◌, ◌%◌, ◌^◌, ◌<◌, nat_eq, Bool, true, false, ◌&&◌, ◌||◌, List, [], ◌∷◌, ◌++◌, decimal, refl, ap, ◌∙◌, arith}
use Rattle.std.specs.List.{list_all}
use Rattle.std.proofs.lemmas.Fmt.{decimal_by_steps}
use Rattle.scc_base.specs.declared.names.Name.{Name}
use Rattle.scc_base.specs.declared.path.PathPart.{PathPart}
use Rattle.scc_base.specs.declared.path.PathPart.TheVariants.{Member, Index}
use Rattle.scc_svtree.specs.Sound as sv
use Rattle.scc_svtree.specs.Sound.{all_word_bytes, is_simple}
use Rattle.scc_lower_spec.specs.Parts.{part_text, behind, joined, is_digit, is_letter, is_word_byte, is_identifier, IsPart, AreParts}
use Rattle.scc_lower_spec.proofs.Bytes.{and_left, and_right, digit_is}
use Rattle.scc_lower_spec.proofs.Pieces.{text_is}

word_byte : (b : ℕ) → is_word_byte b ≡ true → sv.is_word_byte b ≡ true
word_byte b e = by (is_letter b) (is_digit b) (nat_eq b 36) e
  where
    by : (l d m : Bool) → (l || d) ≡ true → (l || d || m) ≡ true
    by true d m e = refl
    by false true m e = refl
    by false false m e = absurd (cc)

words : (bs : List ℕ) → list_all is_word_byte bs ≡ true → all_word_bytes bs ≡ true
words [] e = refl
words (b ∷ bs) e = ap (λ t. t && all_word_bytes bs) (word_byte b (and_left (is_word_byte b) (list_all is_word_byte bs) e)) ∙ words bs (and_right (is_word_byte b) (list_all is_word_byte bs) e)

words_append : (a b : List ℕ) → all_word_bytes a ≡ true → all_word_bytes b ≡ true → all_word_bytes (a ++ b) ≡ true
words_append [] b p q = q
words_append (x ∷ a) b p q = ap (λ t. t && all_word_bytes (a ++ b)) (and_left (sv.is_word_byte x) (all_word_bytes a) p) ∙ words_append a b (and_right (sv.is_word_byte x) (all_word_bytes a) p) q

digit_word : (k : ℕ) → k < 10 → all_word_bytes ((48 + k) ∷ []) ≡ true
digit_word k h = ap (λ t. t && true) (word_byte (48 + k) (by (is_letter (48 + k)) (is_digit (48 + k)) (digit_is k h)))
  where
    by : (l d : Bool) → d ≡ true → (l || d) ≡ true
    by true d e = refl
    by false d e = e

decimal_words : (n : ℕ) → n < 2 ^ 32 → all_word_bytes (decimal n) ≡ true
decimal_words n h = decimal_by_steps (λ m ds. all_word_bytes ds ≡ true) (λ m l. digit_word m l) (λ m ds l p. words_append ds ((48 + m % 10) ∷ []) p (digit_word (m % 10) (omega arith))) n (omega arith)

identifier_words : (bs : List ℕ) → is_identifier bs ≡ true → all_word_bytes bs ≡ true
identifier_words [] e = absurd (cc)
identifier_words (b ∷ bs) e = words (b ∷ bs) (ap (λ t. (t || is_digit b) && list_all is_word_byte bs) (and_left (is_letter b) (list_all is_word_byte bs) e) ∙ and_right (is_letter b) (list_all is_word_byte bs) e)

part_words : (names : List (List ℕ)) (p : PathPart) → IsPart names p → all_word_bytes (part_text names p) ≡ true
part_words names (Member name) h = ap all_word_bytes (text_is names name.0 h.0 h.1) ∙ identifier_words h.0 h.2
part_words names (Index i) h = decimal_words i h

behind_words : (names : List (List ℕ)) (ps : List PathPart) → AreParts names ps → all_word_bytes (behind names ps) ≡ true
behind_words names [] h = refl
behind_words names (p ∷ ps) h = words_append (part_text names p) (behind names ps) (part_words names p h.0) (behind_words names ps h.1)

simple : (bs more : List ℕ) → is_identifier bs ≡ true → all_word_bytes more ≡ true → is_simple (bs ++ more) ≡ true
simple [] more e h = absurd (cc)
simple (b ∷ bs) more e h = ap (λ t. t && all_word_bytes (bs ++ more)) (and_left (is_letter b) (list_all is_word_byte bs) e) ∙ words_append bs more (words bs (and_right (is_letter b) (list_all is_word_byte bs) e)) h

pub joined_simple : (names : List (List ℕ)) (name : Name) (ps : List PathPart) → AreParts names (Member name ∷ ps) → is_simple (joined names (Member name ∷ ps)) ≡ true
joined_simple names name ps h = ap (λ t. is_simple (t ++ behind names ps)) (text_is names name.0 h.0.0 h.0.1) ∙ simple h.0.0 (behind names ps) h.0.2 (behind_words names ps h.1)
