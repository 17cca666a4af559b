-- The names of a text are identifiers.
use Rattle.std.proofs.Common.{◌≡◌, ℕ, zero, suc, ◌+◌, ◌-◌, List, [], ◌∷◌, ◌++◌, take, drop, Bool, true, false, cond, ◌&&◌, ◌||◌, ◌==◌, nat_lt, nat_le, nat_eq, slice_index, length, Option, Some, None, bytes_eq, refl, ap, ◌∙◌, arith}
use Rattle.std.specs.Prelude.{option_map}
use Rattle.std.specs.List.{list_any, list_all}
use Rattle.scc_base.specs.Names.{with_name, fixed_names}
use Rattle.scc_base.specs.declared.code.Code.{Code}
use Rattle.scc_base.specs.declared.code.Code.TheVariants as code
use Rattle.scc_bits_kinds.specs.declared.kind.Kind.{Kind}
use Rattle.scc_bits_kinds.specs.declared.kind.Word as bits
use Rattle.scc_svtree.specs.Sound as sv
use Rattle.scc_svtree.specs.Sound.{Each, is_simple, all_word_bytes}
use Rattle.scc_tokens_lexer.specs.declared.piece.Form.{Form}
use Rattle.scc_tokens_lexer.specs.declared.piece.Form.TheVariants as form
use Rattle.scc_tokens_lexer.specs.declared.piece.Line.{Line}
use Rattle.scc_tokens_lexer.specs.declared.piece.Line.TheVariants.{Start, Middle, Directive}
use Rattle.scc_tokens_lexer.specs.declared.piece.Piece.{Piece}
use Rattle.scc_tokens_lexer.specs.declared.piece.Piece.TheVariants.{Taken, Fault}
use Rattle.scc_tokens_lexer.specs.Bytes.{is_letter, is_word_byte, is_digit, is_blank}
use Rattle.scc_tokens_directives.specs.Directive.{with_names, word_texts}
use Rattle.scc_tokens.specs.Files.{names_read}
use Rattle.scc_tokens_lexer.specs.Numbering.{with_form, names_on, names_behind, names_after}
use Rattle.scc_tokens_lexer.specs.Number.{literal_of}
use Rattle.scc_tokens_lexer.specs.Piece.{word_form_by, literal_form_by, word_len, number_len, enclosed, front_token, line_end, hash_piece, comment_piece_by, first_is, sound_token, flaw_of, token_piece_by, token_piece, piece_at}
use Rattle.scc_tokens_lexer.specs.Words.{word_index, is_outside, mark_at}
use Rattle.scc_tokens_lexer.specs.Enclosed.{text_end, comment_end}
use Rattle.scc_thin_module.specs.Identifiers.{AreIdentifiers}
use Rattle.scc_thin_module.proofs.Chains.{and_first, and_second}
use Rattle.scc_thin_module.proofs.Plain.{each_append}

-- ---- identifiers in both languages

letter_simple : (b : ℕ) → is_letter b ≡ true → sv.is_letter b ≡ true
letter_simple b e = by (nat_le 65 b && nat_le b 90) (nat_le 97 b && nat_le b 122) (nat_eq b 95) e
  where
    by : (upper lower under : Bool) → ((upper || lower) || under) ≡ true → (lower || upper || under) ≡ true
    by true true under e = refl
    by true false under e = refl
    by false true under e = refl
    by false false under e = e

word_simple : (b : ℕ) → is_word_byte b ≡ true → sv.is_word_byte b ≡ true
word_simple b e = by (is_letter b) (is_digit b) (sv.is_letter b) (nat_eq b 36) (letter_simple b) e
  where
    by : (letter digit simple dollar : Bool) → (letter ≡ true → simple ≡ true) → (letter || digit) ≡ true → (simple || digit || dollar) ≡ true
    by letter digit true dollar h e = refl
    by true digit false dollar h e = let f : false ≡ true = h refl in cc
    by false true false dollar h e = refl
    by false false false dollar h e = cc

run_simple : (bs : List ℕ) → all_word_bytes (take (word_len bs) bs) ≡ true
run_simple [] = refl
run_simple (b ∷ bs) = by (is_word_byte b) refl (run_simple bs)
  where
    by : (v : Bool) → is_word_byte b ≡ v → all_word_bytes (take (word_len bs) bs) ≡ true → all_word_bytes (take (cond v (1 + word_len bs) 0) (b ∷ bs)) ≡ true
    by false e rest = refl
    by true e rest =
        let n : 1 + word_len bs ≡ suc (word_len bs) = omega arith in
        ap (λ k. all_word_bytes (take k (b ∷ bs))) n ∙ ap (λ v. v && all_word_bytes (take (word_len bs) bs)) (word_simple b e) ∙ rest

front_simple : (b : ℕ) (bs : List ℕ) → is_letter b ≡ true → is_simple (take (word_len bs + 1) (b ∷ bs)) ≡ true
front_simple b bs e =
    let n : word_len bs + 1 ≡ suc (word_len bs) = omega arith in
    ap (λ k. is_simple (take k (b ∷ bs))) n ∙ ap (λ v. v && all_word_bytes (take (word_len bs) bs)) (letter_simple b e) ∙ run_simple bs

-- ---- names of pieces

-- what is a name is an identifier
abbrev IsSpelt : Form → List ℕ → Type 0
IsSpelt form.Ident text = is_simple text ≡ true
IsSpelt form.Outside text = is_simple text ≡ true
IsSpelt _ text = Unit {0}

abbrev IsSpeltPiece : List ℕ → Piece → Type 0
IsSpeltPiece text (Taken None len line) = Unit {0}
IsSpeltPiece text (Taken (Some f) len line) = IsSpelt f (take len text)
IsSpeltPiece text (Fault c at) = Unit {0}

abbrev IsSpeltFront : List ℕ → Option (Form × ℕ) → Type 0
IsSpeltFront text None = Unit {0}
IsSpeltFront text (Some x) = IsSpelt x.0 (take x.1 text)

pick : {A : Type 0} (P : A → Type 0) (b : Bool) (x y : A) → (b ≡ true → P x) → P y → P (cond b x y)
pick P true x y f g = f refl
pick P false x y f g = g

spelt_word : (w : List ℕ) → is_simple w ≡ true → (i : Option ℕ) (o : Bool) → IsSpelt (word_form_by i o) w
spelt_word w h (Some i) o = tt
spelt_word w h None true = h
spelt_word w h None false = h

spelt_literal : (text : List ℕ) (o : Option (Kind × bits.Word)) → IsSpelt (literal_form_by o) text
spelt_literal text None = tt
spelt_literal text (Some x) = tt

spelt_text : (text : List ℕ) (o : Option ℕ) → IsSpeltFront text (enclosed form.Text o)
spelt_text text None = tt
spelt_text text (Some n) = tt

spelt_character : (text : List ℕ) (o : Option ℕ) → IsSpeltFront text (enclosed form.Character o)
spelt_character text None = tt
spelt_character text (Some n) = tt

spelt_mark : (text : List ℕ) (o : Option (ℕ × ℕ)) → IsSpeltFront text (option_map (λ x. (form.Mark x.0, x.1)) o)
spelt_mark text None = tt
spelt_mark text (Some x) = tt

spelt_front : (b : ℕ) (bs : List ℕ) → IsSpeltFront (b ∷ bs) (front_token (b ∷ bs))
unfolding front_token
spelt_front b bs =
    pick (IsSpeltFront (b ∷ bs)) (is_letter b) _ _
    (λ e. spelt_word (take (word_len bs + 1) (b ∷ bs)) (front_simple b bs e) (word_index (take (word_len bs + 1) (b ∷ bs))) (is_outside (take (word_len bs + 1) (b ∷ bs))))
    (pick (IsSpeltFront (b ∷ bs)) (is_digit b) _ _ (λ _. spelt_literal (take (number_len bs + 1) (b ∷ bs)) (literal_of (take (number_len bs + 1) (b ∷ bs))))
    (pick (IsSpeltFront (b ∷ bs)) (b == 34) _ _ (λ _. spelt_text (b ∷ bs) (text_end 34 false bs))
    (pick (IsSpeltFront (b ∷ bs)) (b == 39) _ _ (λ _. spelt_character (b ∷ bs) (text_end 39 false bs)) (spelt_mark (b ∷ bs) (mark_at (b ∷ bs))))))

spelt_token : (line : Line) (text : List ℕ) (o : Option (Form × ℕ)) → IsSpeltFront text o → IsSpeltPiece text (token_piece_by line text o)
spelt_token line text None h = pick (IsSpeltPiece text) (slice_index text 0 == 34 || slice_index text 0 == 39) (Fault code.BadLiteral 0) (Fault code.BadByte 0) (λ _. tt) tt
spelt_token line text (Some x) h = by (flaw_of x.0 (take x.1 text))
  where
    by : (o : Option (Code × ℕ)) → IsSpeltPiece text (sound_token line x.0 x.1 o)
    by None = h
    by (Some y) = tt

spelt_end : (line : Line) (text : List ℕ) → IsSpeltPiece text (line_end line)
spelt_end Start text = tt
spelt_end Middle text = tt
spelt_end Directive text = tt

spelt_hash : (line : Line) (text : List ℕ) → IsSpeltPiece text (hash_piece line)
spelt_hash Start text = tt
spelt_hash Middle text = tt
spelt_hash Directive text = tt

spelt_comment : (line : Line) (text : List ℕ) (o : Option ℕ) → IsSpeltPiece text (comment_piece_by line o)
spelt_comment line text None = tt
spelt_comment line text (Some n) = tt

spelt_piece : (line : Line) (b : ℕ) (bs : List ℕ) → IsSpeltPiece (b ∷ bs) (piece_at line (b ∷ bs))
unfolding piece_at token_piece
spelt_piece line b bs =
    pick (IsSpeltPiece (b ∷ bs)) (b == 10) _ _ (λ _. spelt_end line (b ∷ bs)) (pick (IsSpeltPiece (b ∷ bs)) (is_blank b) _ _ (λ _. tt)
    (pick (IsSpeltPiece (b ∷ bs)) (b == 47 && first_is 47 bs) _ _ (λ _. tt)
    (pick (IsSpeltPiece (b ∷ bs)) (b == 47 && first_is 42 bs) _ _ (λ _. spelt_comment line (b ∷ bs) (comment_end false (drop 2 (b ∷ bs))))
    (pick (IsSpeltPiece (b ∷ bs)) (b == 35) _ _ (λ _. spelt_hash line (b ∷ bs)) (spelt_token line (b ∷ bs) (front_token (b ∷ bs)) (spelt_front b bs))))))

-- ---- tables of names

name_kept : (names : List (List ℕ)) (text : List ℕ) → AreIdentifiers names → is_simple text ≡ true → AreIdentifiers (with_name names text)
name_kept names text h e = pick AreIdentifiers (list_any (bytes_eq text) names) names (names ++ text ∷ []) (λ _. h) (each_append (λ n. is_simple n ≡ true) names (text ∷ []) h (e, tt))

form_kept : (names : List (List ℕ)) (f : Form) (text : List ℕ) → AreIdentifiers names → IsSpelt f text → AreIdentifiers (with_form names f text)
form_kept names form.Ident text h e = name_kept names text h e
form_kept names form.Outside text h e = name_kept names text h e
form_kept names (form.Word i) text h e = h
form_kept names (form.Mark i) text h e = h
form_kept names (form.Number k w) text h e = h
form_kept names form.BadNumber text h e = h
form_kept names form.Text text h e = h
form_kept names form.Character text h e = h
form_kept names form.LineHash text h e = h
form_kept names form.LineEnd text h e = h

behind_kept : (bs : List ℕ) (names : List (List ℕ)) (n : ℕ) (line : Line) → AreIdentifiers names → AreIdentifiers (names_behind names n line bs)
unfolding names_behind
behind_kept [] names n line h = h
behind_kept (b ∷ bs) names (suc n) line h = behind_kept bs names n line h
behind_kept (b ∷ bs) names zero line h = by (piece_at line (b ∷ bs)) (spelt_piece line b bs) (λ ns n l. behind_kept bs ns n l)
  where
    by : (p : Piece) → IsSpeltPiece (b ∷ bs) p → ((ns : List (List ℕ)) (n : ℕ) (l : Line) → AreIdentifiers ns → AreIdentifiers (names_behind ns n l bs))
        → AreIdentifiers (names_on names (b ∷ bs) p (λ ns n l. names_behind ns n l bs))
    by (Fault c k) e more = h
    by (Taken None len l) e more = more names (len - 1) l h
    by (Taken (Some f) len l) e more = more (with_form names f (take len (b ∷ bs))) (len - 1) l (form_kept names f (take len (b ∷ bs)) h e)

pub read_kept : (names : List (List ℕ)) (bytes : List ℕ) → AreIdentifiers names → AreIdentifiers (names_read names bytes)
read_kept names bytes h = pick AreIdentifiers (nat_lt 1048576 (length bytes)) names (names_after names bytes) (λ _. h) (behind_kept bytes names 0 Start h)

-- the names of the directives
names_kept : (texts names : List (List ℕ)) → AreIdentifiers names → AreIdentifiers texts → AreIdentifiers (with_names names texts)
names_kept [] names h e = h
names_kept (t ∷ ts) names h e = names_kept ts (with_name names t) (name_kept names t h e.0) e.1

all_simple : (names : List (List ℕ)) → list_all is_simple names ≡ true → AreIdentifiers names
all_simple [] e = tt
all_simple (n ∷ ns) e = (and_first (is_simple n) (list_all is_simple ns) e, all_simple ns (and_second (is_simple n) (list_all is_simple ns) e))

pub first_names : AreIdentifiers (with_names fixed_names word_texts)
first_names = names_kept word_texts fixed_names (all_simple fixed_names refl) (all_simple word_texts refl)
