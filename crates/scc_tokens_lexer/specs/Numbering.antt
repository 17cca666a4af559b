-- The names that a text adds to a table: its identifiers and the words that are left out, in the order in which they stand.
use Rattle.std.specs.Prelude.{◌≡◌, ℕ, zero, suc, ◌-◌, List, [], ◌∷◌, take, Option, Some, None, Result, Ok, Err}
use Rattle.scc_base.specs.Names.{with_name}
use Rattle.scc_base.specs.declared.refusal.Stop.{Stop}
use Rattle.scc_base.specs.declared.refusal.Stop.TheVariants.{Refused, NoMemory}
use Rattle.scc_tokens_lexer.specs.declared.piece.Line.{Line}
use Rattle.scc_tokens_lexer.specs.declared.piece.Line.TheVariants.{Start}
use Rattle.scc_tokens_lexer.specs.declared.piece.Form.{Form}
use Rattle.scc_tokens_lexer.specs.declared.piece.Form.TheVariants as form
use Rattle.scc_tokens_lexer.specs.declared.piece.Piece.{Piece}
use Rattle.scc_tokens_lexer.specs.declared.piece.Piece.TheVariants.{Taken, Fault}
use Rattle.scc_tokens_lexer.specs.Piece.{piece_at}

-- a token's text is a name where it is an identifier or a word that is left out
abbrev pub with_form : List (List ℕ) → Form → List ℕ → List (List ℕ)
with_form names form.Ident text = with_name names text
with_form names form.Outside text = with_name names text
with_form names _ text = names

abbrev pub with_piece : List (List ℕ) → Option Form → List ℕ → List (List ℕ)
with_piece names None text = names
with_piece names (Some f) text = with_form names f text

abbrev pub names_on : List (List ℕ) → List ℕ → Piece → (List (List ℕ) → ℕ → Line → List (List ℕ)) → List (List ℕ)
names_on names text (Fault c k) rest = names
names_on names text (Taken f len line) rest = rest (with_piece names f (take len text)) (len - 1) line

-- the names after a text behind so many bytes, up to its first fault
unfoldable pub names_behind : List (List ℕ) → ℕ → Line → List ℕ → List (List ℕ)
names_behind names n line [] = names
names_behind names (suc n) line (b ∷ bs) = names_behind names n line bs
names_behind names zero line (b ∷ bs) = names_on names (b ∷ bs) (piece_at line (b ∷ bs)) (λ ns n l. names_behind ns n l bs)

-- the names after a text
abbrev pub names_after : List (List ℕ) → List ℕ → List (List ℕ)
names_after names text = names_behind names 0 Start text

-- these are the names, unless memory ran out
abbrev pub NamesAre : {A : Type 0} → Result A Stop → List (List ℕ) → List (List ℕ) → Type 0
NamesAre (Ok x) names n = names ≡ n
NamesAre (Err (Refused r)) names n = names ≡ n
NamesAre (Err NoMemory) names n = Unit {0}
