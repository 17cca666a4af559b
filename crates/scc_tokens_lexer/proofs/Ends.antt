-- The end of what is enclosed, byte by byte.
use Rattle.std.proofs.Common.{◌≡◌, ℕ, ◌+◌, ◌<◌, List, length, get_or, drop, Bool, false, cond, not, ◌&&◌, ◌==◌, Option, Some, None, option_map, refl, ap, sym, ◌∙◌, arith}
use Rattle.std.proofs.lemmas.List.{at_drop_more}
use Rattle.scc_tokens_lexer.specs.Enclosed.{text_end, comment_end}

option_later : (o : Option ℕ) (i : ℕ) → option_map (λ n. n + i) (option_map (λ n. n + 1) o) ≡ option_map (λ n. n + (i + 1)) o
option_later None i = refl
option_later (Some n) i = ap Some (omega arith)

-- one byte of a text
pub text_more : (quote : ℕ) (kept : Bool) (bs : List ℕ) (i : ℕ) (r : Option ℕ) → i < length bs
    → (get_or bs i 0 == 10) ≡ false → (not kept && (get_or bs i 0 == quote)) ≡ false
    → option_map (λ n. n + i) (text_end quote kept (drop i bs)) ≡ r
    → option_map (λ n. n + (i + 1)) (text_end quote (not kept && (get_or bs i 0 == 92)) (drop (i + 1) bs)) ≡ r
text_more quote kept bs i r h e f g =
    let rest = text_end quote (not kept && (get_or bs i 0 == 92)) (drop (i + 1) bs) in
    sym (option_later rest i)
    ∙ ap (option_map (λ n. n + i)) (sym (at_drop_more (text_end quote kept) bs i 0 h
    ∙ ap (λ v. cond v None (cond (not kept && (get_or bs i 0 == quote)) (Some 1) (option_map (λ n. n + 1) rest))) e
    ∙ ap (λ v. cond v (Some 1) (option_map (λ n. n + 1) rest)) f))
    ∙ g

-- one byte of a comment
pub comment_more : (star : Bool) (bs : List ℕ) (i : ℕ) (r : Option ℕ) → i < length bs
    → (star && (get_or bs i 0 == 47)) ≡ false
    → option_map (λ n. n + i) (comment_end star (drop i bs)) ≡ r
    → option_map (λ n. n + (i + 1)) (comment_end (get_or bs i 0 == 42) (drop (i + 1) bs)) ≡ r
comment_more star bs i r h e g =
    let rest = comment_end (get_or bs i 0 == 42) (drop (i + 1) bs) in
    sym (option_later rest i)
    ∙ ap (option_map (λ n. n + i)) (sym (at_drop_more (comment_end star) bs i 0 h ∙ ap (λ v. cond v (Some 1) (option_map (λ n. n + 1) rest)) e))
    ∙ g
