-- Tokens of a text (C++, "Phases of translation", "Preprocessing tokens", "Comments"): blanks, comments, tokens and directive lines,
-- end to end, each token the longest that the text has at its place. And the faults of a text: what no such list explains.
use Rattle.std.specs.Prelude.{◌≡◌, ℕ, ◌+◌, ◌<◌, ◌≤◌, List, [], ◌∷◌, ◌++◌, take, drop, length, Bool, true, false, ◌||◌, ◌&&◌, not, ◌==◌, if◌then◌else◌, Option, Some, None, option_map, slice_index}
use Rattle.std.specs.List.{list_all}
use Rattle.scc_base.specs.declared.code.Code.{Code}
use Rattle.scc_base.specs.declared.code.Code.TheVariants as code
use Rattle.scc_base.specs.declared.refusal.Place.{Place}
use Rattle.scc_tokens_lexer.specs.declared.piece.Line.{Line}
use Rattle.scc_tokens_lexer.specs.declared.piece.Line.TheVariants.{Start, Middle, Directive}
use Rattle.scc_tokens_lexer.specs.declared.piece.Form.{Form}
use Rattle.scc_tokens_lexer.specs.declared.piece.Form.TheVariants as form
use Rattle.scc_tokens_lexer.specs.Bytes.{is_blank, is_digit, is_letter, is_word_byte, is_number_byte}
use Rattle.scc_tokens_lexer.specs.Enclosed.{text_end, comment_end}
use Rattle.scc_tokens_lexer.specs.Piece.{word_form, literal_form, behind, first_is, line_len, unprintable}
use Rattle.scc_tokens_lexer.specs.Scan.{piece_tokens, end_tokens}
use Rattle.scc_tokens_lexer.specs.Spelled.{Spelled}
use Rattle.scc_tokens_lexer.specs.Words.{mark_index}

abbrev pub form_where : Bool → Form → Option Form
form_where b f = if b then Some f else None

-- all the bytes are up to the quote that ends them
abbrev pub ends_at : Option ℕ → ℕ → Bool
ends_at None n = false
ends_at (Some m) n = m == n

-- the token that a whole list of bytes is, if it is one
unfoldable pub form_of : List ℕ → Option Form
form_of [] = None
form_of (b ∷ bs) =
    if is_letter b then form_where (list_all is_word_byte bs) (word_form (b ∷ bs))
    else if is_digit b then form_where (list_all is_number_byte bs) (literal_form (b ∷ bs))
    else if b == 34 then form_where (ends_at (text_end 34 false bs) (length bs)) form.Text
    else if b == 39 then form_where (ends_at (text_end 39 false bs) (length bs)) form.Character
    else option_map form.Mark (mark_index (b ∷ bs))

-- the first n bytes are a token, and no longer front part of the text is one
pub record IsLongest (text : List ℕ) (f : Form) (n : ℕ) : Type 0 where
  pub is_token : form_of (take n text) ≡ Some f
  pub within : n ≤ length text
  pub longest : (m : ℕ) → n < m → m ≤ length text → form_of (take m text) ≡ None

-- no front part of the text is a token
abbrev pub BeginsNone : List ℕ → Type 0
BeginsNone text = (m : ℕ) → form_of (take m text) ≡ None

-- a text at whose front neither a line's end, a blank, a comment nor a `#` stands
abbrev pub is_unlike : ℕ → List ℕ → Bool
is_unlike b others = b == 10 || is_blank b || (b == 47 && (first_is 47 others || first_is 42 others)) || b == 35

abbrev pub begins_token : List ℕ → Bool
begins_token text = not (is_unlike (slice_index text 0) (drop 1 text))

-- The first n bytes of a text, standing on such a line, are a piece: a blank, a comment, a token (whose form is given), the
-- `#` that begins a directive, or a line's end; and what follows stands on such a line.
pub data IsPiece : Line → List ℕ → Option Form → ℕ → Line → Type 0 where
  blank : {line : Line} {b : ℕ} {bs : List ℕ} → is_blank b ≡ true → IsPiece line (b ∷ bs) None 1 line
  start_ends : {bs : List ℕ} → IsPiece Start (10 ∷ bs) None 1 Start
  middle_ends : {bs : List ℕ} → IsPiece Middle (10 ∷ bs) None 1 Start
  directive_ends : {bs : List ℕ} → IsPiece Directive (10 ∷ bs) (Some form.LineEnd) 1 Start
  line_comment : {line : Line} {bs : List ℕ} → IsPiece line (47 ∷ 47 ∷ bs) None (line_len (47 ∷ 47 ∷ bs)) line
  block_comment : {line : Line} {bs : List ℕ} {n : ℕ} → comment_end false bs ≡ Some n → IsPiece line (47 ∷ 42 ∷ bs) None (n + 2) line
  hash : {bs : List ℕ} → IsPiece Start (35 ∷ bs) (Some form.LineHash) 1 Directive
  token : {line : Line} {text : List ℕ} {f : Form} {n : ℕ} → begins_token text ≡ true → IsLongest text f n
      → (f ≡ form.Text → unprintable (take n text) ≡ None) → (f ≡ form.Ident → n ≤ 255)
      → IsPiece line text (Some f) n (behind line)

-- At the front of a text a fault stands, its place so many bytes further on.
pub data IsFault : Line → List ℕ → Code → ℕ → Type 0 where
  -- a comment that no `*/` ends
  open_comment : {line : Line} {bs : List ℕ} → comment_end false bs ≡ None → IsFault line (47 ∷ 42 ∷ bs) code.OpenComment 0
  -- a text or character literal that isn't closed on its line
  open_text : {line : Line} {b : ℕ} {bs : List ℕ} → (b == 34 || b == 39) ≡ true → BeginsNone (b ∷ bs) → IsFault line (b ∷ bs) code.BadLiteral 0
  -- an identifier of more than 255 bytes
  long_name : {line : Line} {text : List ℕ} {n : ℕ} → begins_token text ≡ true → IsLongest text form.Ident n → 255 < n → IsFault line text code.BadLiteral 0
  -- a text with a byte that can't be printed
  bad_text : {line : Line} {text : List ℕ} {n k : ℕ} → begins_token text ≡ true → IsLongest text form.Text n → unprintable (take n text) ≡ Some k → IsFault line text code.BadByte k
  -- a byte that begins neither a blank, a comment nor a token
  bad_byte : {line : Line} {b : ℕ} {bs : List ℕ} → begins_token (b ∷ bs) ≡ true → (b == 34 || b == 39) ≡ false → BeginsNone (b ∷ bs) → IsFault line (b ∷ bs) code.BadByte 0
  -- a `#` that isn't the first on its line
  late_hash : {bs : List ℕ} → IsFault Middle (35 ∷ bs) code.BadByte 0
  second_hash : {bs : List ℕ} → IsFault Directive (35 ∷ bs) code.BadByte 0

-- pieces end to end from a place of the file to its end
pub data Lexes : ℕ → Line → ℕ → List ℕ → List Spelled → Type 0 where
  end : {file : ℕ} {line : Line} {at : ℕ} → Lexes file line at [] (end_tokens line (record { file = file; at = at }))
  piece : {file : ℕ} {line : Line} {at : ℕ} {text : List ℕ} {f : Option Form} {n : ℕ} {next : Line} {ts : List Spelled}
      → IsPiece line text f n next → Lexes file next (at + n) (drop n text) ts
      → Lexes file line at text (piece_tokens f (take n text) (record { file = file; at = at }) ++ ts)

-- pieces end to end, and then a fault
pub data Faults : ℕ → Line → ℕ → List ℕ → Code → Place → Type 0 where
  here : {file : ℕ} {line : Line} {at : ℕ} {text : List ℕ} {c : Code} {k : ℕ} → IsFault line text c k → Faults file line at text c (record { file = file; at = at + k })
  later : {file : ℕ} {line : Line} {at : ℕ} {text : List ℕ} {f : Option Form} {n : ℕ} {next : Line} {c : Code} {place : Place}
      → IsPiece line text f n next → Faults file next (at + n) (drop n text) c place → Faults file line at text c place

-- the tokens of a file's text
abbrev pub IsTokensOf : ℕ → List ℕ → List Spelled → Type 0
IsTokensOf file text ts = Lexes file Start 0 text ts

-- the first fault of a file's text
abbrev pub IsFaultOf : ℕ → List ℕ → Code → Place → Type 0
IsFaultOf file text c place = Faults file Start 0 text c place
