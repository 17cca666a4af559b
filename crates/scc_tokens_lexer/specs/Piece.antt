-- What stands at the front of a text: a blank, a comment, a token, a directive's `#`, the end of a line, or a fault.
use Rattle.std.specs.Prelude.{ℕ, ◌+◌, ◌<◌, ◌≤◌, List, [], ◌∷◌, take, drop, length, Bool, false, ◌||◌, ◌&&◌, not, ◌==◌, nat_lt, if◌then◌else◌, Option, Some, None, option_map, position, slice_index}
use Rattle.std.specs.List.{prefix_len}
use Rattle.scc_base.specs.declared.code.Code.{Code}
use Rattle.scc_base.specs.declared.code.Code.TheVariants as code
use Rattle.scc_bits_kinds.specs.declared.kind.Kind.{Kind}
use Rattle.scc_bits_kinds.specs.declared.kind.Word.{Word}
use Rattle.scc_tokens_lexer.specs.declared.piece.Line.{Line}
use Rattle.scc_tokens_lexer.specs.declared.piece.Line.TheVariants.{Start, Middle, Directive}
use Rattle.scc_tokens_lexer.specs.declared.piece.Form.{Form}
use Rattle.scc_tokens_lexer.specs.declared.piece.Form.TheVariants as form
use Rattle.scc_tokens_lexer.specs.declared.piece.Piece.{Piece}
use Rattle.scc_tokens_lexer.specs.declared.piece.Piece.TheVariants.{Taken, Fault}
use Rattle.scc_tokens_lexer.specs.Bytes.{is_blank, is_digit, is_letter, is_word_byte, is_number_byte, is_printable}
use Rattle.scc_tokens_lexer.specs.Enclosed.{text_end, comment_end}
use Rattle.scc_tokens_lexer.specs.Number.{literal_of}
use Rattle.scc_tokens_lexer.specs.Named.{IsNamed}
use Rattle.scc_tokens_lexer.specs.Words.{word_index, is_outside, mark_at}

-- a run of letters, digits and underscores
abbrev pub word_form_by : Option ℕ → Bool → Form
word_form_by (Some i) outside = form.Word i
word_form_by None outside = if outside then form.Outside else form.Ident

abbrev pub word_form : List ℕ → Form
word_form text = word_form_by (word_index text) (is_outside text)

-- a run that begins with a digit
abbrev pub literal_form_by : Option (Kind × Word) → Form
literal_form_by (Some x) = form.Number x.0 x.1
literal_form_by None = form.BadNumber

abbrev pub literal_form : List ℕ → Form
literal_form text = literal_form_by (literal_of text)

abbrev pub word_len : List ℕ → ℕ
word_len bytes = prefix_len is_word_byte bytes

abbrev pub number_len : List ℕ → ℕ
number_len bytes = prefix_len is_number_byte bytes

abbrev pub line_len : List ℕ → ℕ
line_len bytes = prefix_len (λ b. not (b == 10)) bytes

abbrev pub enclosed : Form → Option ℕ → Option (Form × ℕ)
enclosed f end = option_map (λ n. (f, n + 1)) end

-- the longest token at the front, with its length
unfoldable pub front_token : List ℕ → Option (Form × ℕ)
front_token [] = None
front_token (b ∷ bs) =
    if is_letter b then Some (word_form (take (word_len bs + 1) (b ∷ bs)), word_len bs + 1)
    else if is_digit b then Some (literal_form (take (number_len bs + 1) (b ∷ bs)), number_len bs + 1)
    else if b == 34 then enclosed form.Text (text_end 34 false bs)
    else if b == 39 then enclosed form.Character (text_end 39 false bs)
    else option_map (λ x. (form.Mark x.0, x.1)) (mark_at (b ∷ bs))

-- where the byte behind a token stands
abbrev pub behind : Line → Line
behind Start = Middle
behind Middle = Middle
behind Directive = Directive

abbrev pub first_is : ℕ → List ℕ → Bool
first_is b [] = false
first_is b (c ∷ cs) = c == b

-- the end of a line, which ends a directive
abbrev pub line_end : Line → Piece
line_end Start = Taken None 1 Start
line_end Middle = Taken None 1 Start
line_end Directive = Taken (Some form.LineEnd) 1 Start

-- a `#`, which begins a directive at the start of a line
abbrev pub hash_piece : Line → Piece
hash_piece Start = Taken (Some form.LineHash) 1 Directive
hash_piece Middle = Fault code.BadByte 0
hash_piece Directive = Fault code.BadByte 0

abbrev pub comment_piece_by : Line → Option ℕ → Piece
comment_piece_by line None = Fault code.OpenComment 0
comment_piece_by line (Some n) = Taken None (n + 2) line

-- a comment whose bytes behind its `/*` are these
abbrev pub comment_piece : Line → List ℕ → Piece
comment_piece line bytes = comment_piece_by line (comment_end false bytes)

-- where the first byte stands that may not stand in a text
abbrev pub unprintable : List ℕ → Option ℕ
unprintable token = position (λ b. not (is_printable b)) token

-- what is wrong with a token: a byte in a text that cannot be printed, or the length of an identifier
abbrev pub flaw_of : Form → List ℕ → Option (Code × ℕ)
flaw_of form.Text token = option_map (λ i. (code.BadByte, i)) (unprintable token)
flaw_of form.Ident token = if nat_lt 255 (length token) then Some (code.BadLiteral, 0) else None
flaw_of _ token = None

abbrev pub unread : ℕ → Piece
unread b = if b == 34 || b == 39 then Fault code.BadLiteral 0 else Fault code.BadByte 0

abbrev pub sound_token : Line → Form → ℕ → Option (Code × ℕ) → Piece
sound_token line f len None = Taken (Some f) len (behind line)
sound_token line f len (Some x) = Fault x.0 x.1

abbrev pub token_piece_by : Line → List ℕ → Option (Form × ℕ) → Piece
token_piece_by line text None = unread (slice_index text 0)
token_piece_by line text (Some x) = sound_token line x.0 x.1 (flaw_of x.0 (take x.1 text))

-- a token, or what stands where none begins
unfoldable pub token_piece : Line → List ℕ → Piece
token_piece line text = token_piece_by line text (front_token text)

-- what stands at the front of a text that is not empty
unfoldable pub piece_at : Line → List ℕ → Piece
piece_at line text =
    let b = slice_index text 0 in
    let others = drop 1 text in
    if b == 10 then line_end line
    else if is_blank b then Taken None 1 line
    else if b == 47 && first_is 47 others then Taken None (line_len text) line
    else if b == 47 && first_is 42 others then comment_piece line (drop 2 text)
    else if b == 35 then hash_piece line
    else token_piece line text

-- what takes so many bytes at most
abbrev pub StaysWithin : ℕ → Piece → Type 0
StaysWithin most (Taken f len line) = (0 < len) × (len ≤ most)
StaysWithin most (Fault c at) = at ≤ most

-- a name that is taken is ASCII
abbrev pub IsNamedPiece : List ℕ → Piece → Type 0
IsNamedPiece text (Taken None len line) = Unit {0}
IsNamedPiece text (Taken (Some f) len line) = IsNamed f (take len text)
IsNamedPiece text (Fault c at) = Unit {0}
