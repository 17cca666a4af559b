-- Names are ASCII.
use Rattle.std.proofs.Common.{◌≡◌, ◌<◌, ℕ, zero, suc, ◌+◌, List, [], ◌∷◌, take, drop, Bool, true, false, cond, slice_index, length, Option, Some, None, refl, sym, ap, ◌∙◌, subst, arith}
use Rattle.std.specs.Str.{IsAscii}
use Rattle.std.proofs.lemmas.Bool.Decides.{nat_tests}
use Rattle.scc_tokens_lexer.specs.Bytes.{is_letter, is_word_byte}
use Rattle.scc_tokens_lexer.specs.Piece.{word_form, word_form_by, word_len}
use Rattle.scc_tokens_lexer.specs.Words.{word_index, is_outside}
use Rattle.scc_tokens_lexer.specs.Named.{IsNamed}

letter_below : (b : ℕ) → is_letter b ≡ true → b < 128
letter_below b h = grind (arith, nat_tests)

word_below : (b : ℕ) → is_word_byte b ≡ true → b < 128
word_below b h = grind (arith, nat_tests)

ascii_nil : IsAscii []
ascii_nil i = omega arith

ascii_cons : (b : ℕ) (bs : List ℕ) → b < 128 → IsAscii bs → IsAscii (b ∷ bs)
ascii_cons b bs h k zero = h
ascii_cons b bs h k (suc i) = k i

ascii_run : (bs : List ℕ) → IsAscii (take (word_len bs) bs)
ascii_run [] = ascii_nil
ascii_run (b ∷ bs) = by (is_word_byte b) refl (ascii_run bs)
  where
    by : (v : Bool) → is_word_byte b ≡ v → IsAscii (take (word_len bs) bs) → IsAscii (take (cond v (1 + word_len bs) 0) (b ∷ bs))
    by false e rest = ascii_nil
    by true e rest = let n : 1 + word_len bs ≡ suc (word_len bs) = omega arith in
        subst (λ k. IsAscii (take k (b ∷ bs))) (sym n) (ascii_cons b (take (word_len bs) bs) (word_below b e) rest)

-- a run that begins with a letter is ASCII
pub word_ascii : (b : ℕ) (bs : List ℕ) → is_letter b ≡ true → IsAscii (take (word_len bs + 1) (b ∷ bs))
word_ascii b bs e = let n : word_len bs + 1 ≡ suc (word_len bs) = omega arith in
    subst (λ k. IsAscii (take k (b ∷ bs))) (sym n) (ascii_cons b (take (word_len bs) bs) (letter_below b e) (ascii_run bs))

pub named_word : (w : List ℕ) → IsAscii w → IsNamed (word_form w) w
named_word w h = by (word_index w) (is_outside w)
  where
    by : (i : Option ℕ) (o : Bool) → IsNamed (word_form_by i o) w
    by (Some i) o = tt
    by None true = h
    by None false = h

pub front_named : (s others : List ℕ) (n : ℕ) → 0 < length s → others ≡ drop 1 s → is_letter (slice_index s 0) ≡ true → n ≡ word_len others
    → IsNamed (word_form (take (n + 1) s)) (take (n + 1) s)
front_named [] others n h o e k = absurd (omega arith)
front_named (b ∷ bs) others n h o e k =
    named_word (take (n + 1) (b ∷ bs)) (subst (λ m. IsAscii (take (m + 1) (b ∷ bs))) (sym (k ∙ ap word_len o)) (word_ascii b bs e))
