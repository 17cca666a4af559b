-- The tokens of a text, from its front on.
use Rattle.std.specs.Prelude.{ℕ, zero, suc, ◌+◌, ◌-◌, List, [], ◌∷◌, ◌++◌, take, Option, Some, None, Result, Ok, Err}
use Rattle.scc_base.specs.declared.code.Code.{Code}
use Rattle.scc_base.specs.declared.refusal.Place.{Place}
use Rattle.scc_tokens_lexer.specs.declared.piece.Line.{Line}
use Rattle.scc_tokens_lexer.specs.declared.piece.Line.TheVariants.{Start, Middle, Directive}
use Rattle.scc_tokens_lexer.specs.declared.piece.Form.{Form}
use Rattle.scc_tokens_lexer.specs.declared.piece.Form.TheVariants as form
use Rattle.scc_tokens_lexer.specs.declared.piece.Piece.{Piece}
use Rattle.scc_tokens_lexer.specs.declared.piece.Piece.TheVariants.{Taken, Fault}
use Rattle.scc_tokens_lexer.specs.Piece.{piece_at}
use Rattle.scc_tokens_lexer.specs.Spelled.{Spelled, spelled_as}

-- the tokens, or the code of the first fault with its place
abbrev pub Scanned : Type 0
Scanned = Result (List Spelled) (Code × Place)

abbrev pub put_front : List Spelled → Scanned → Scanned
put_front front (Ok ts) = Ok (front ++ ts)
put_front front (Err e) = Err e

-- the token that a piece is, if it is one
abbrev pub piece_tokens : Option Form → List ℕ → Place → List Spelled
piece_tokens None text place = []
piece_tokens (Some f) text place = spelled_as f text place ∷ []

-- what is left at the end of a text: the end of a directive that no line's end has ended
abbrev pub end_tokens : Line → Place → List Spelled
end_tokens Start place = []
end_tokens Middle place = []
end_tokens Directive place = spelled_as form.LineEnd [] place ∷ []

-- a piece and what follows it, where `rest` are the tokens behind so many bytes and one more
abbrev pub go_on : ℕ → ℕ → List ℕ → Piece → (ℕ → Line → Scanned) → Scanned
go_on file at text (Fault c k) rest = Err (c, record { file = file; at = at + k })
go_on file at text (Taken f len line) rest = put_front (piece_tokens f (take len text) (record { file = file; at = at })) (rest (len - 1) line)

-- the tokens behind so many bytes of a text that begins at a place of its file
unfoldable pub scan_behind : ℕ → ℕ → Line → ℕ → List ℕ → Scanned
scan_behind n file line at [] = Ok (end_tokens line (record { file = file; at = at }))
scan_behind (suc n) file line at (b ∷ bs) = scan_behind n file line (at + 1) bs
scan_behind zero file line at (b ∷ bs) = go_on file at (b ∷ bs) (piece_at line (b ∷ bs)) (λ n l. scan_behind n file l (at + 1) bs)

-- the tokens of a file's text, or its first fault
abbrev pub scan : ℕ → List ℕ → Scanned
scan file text = scan_behind 0 file Start 0 text
