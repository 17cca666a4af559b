-- Tokens with the texts of their names in place of the names' numbers.
use Rattle.std.specs.Prelude.{ℕ, List, [], ◌∷◌, length, Option, Some, None, option_map, slice_get}
use Rattle.scc_base.specs.declared.refusal.Place.{Place}
use Rattle.scc_tokens_lexer.specs.declared.piece.Form.{Form}
use Rattle.scc_tokens_lexer.specs.declared.piece.Form.TheVariants as form
use Rattle.scc_tokens_lexer.specs.declared.token.Token.{Token}
use Rattle.scc_tokens_lexer.specs.declared.token.TokenKind.{TokenKind}
use Rattle.scc_tokens_lexer.specs.declared.token.TokenKind.TheVariants as kind

-- a token with the text of its name; other tokens have none
pub record Spelled : Type 0 where
  pub form : Form
  pub text : List ℕ
  pub place : Place
  pub len : ℕ

-- the form and the text of a kind, none where a number names nothing
abbrev pub spelled_kind : List (List ℕ) → TokenKind → Option (Form × List ℕ)
spelled_kind names (kind.Ident n) = option_map (λ t. (form.Ident, t)) (slice_get names n.0)
spelled_kind names (kind.Outside n) = option_map (λ t. (form.Outside, t)) (slice_get names n.0)
spelled_kind names (kind.Word i) = Some (form.Word i, [])
spelled_kind names (kind.Mark i) = Some (form.Mark i, [])
spelled_kind names (kind.Number k w) = Some (form.Number k w, [])
spelled_kind names kind.BadNumber = Some (form.BadNumber, [])
spelled_kind names kind.Text = Some (form.Text, [])
spelled_kind names kind.Character = Some (form.Character, [])
spelled_kind names kind.LineHash = Some (form.LineHash, [])
spelled_kind names kind.LineEnd = Some (form.LineEnd, [])

abbrev pub spelled : List (List ℕ) → Token → Option Spelled
spelled names t = option_map (λ x. record { form = x.0; text = x.1; place = t.place; len = t.len }) (spelled_kind names t.kind)

-- the tokens spelled, none where a number names nothing
abbrev pub put_spelled : Option Spelled → Option (List Spelled) → Option (List Spelled)
put_spelled None rest = None
put_spelled (Some s) rest = option_map (λ ss. s ∷ ss) rest

abbrev pub spelled_all : List (List ℕ) → List Token → Option (List Spelled)
spelled_all names [] = Some []
spelled_all names (t ∷ ts) = put_spelled (spelled names t) (spelled_all names ts)

-- the text that a token of this form has as its name
abbrev pub name_text : Form → List ℕ → List ℕ
name_text form.Ident text = text
name_text form.Outside text = text
name_text _ text = []

-- the token that these bytes of a file are
abbrev pub spelled_as : Form → List ℕ → Place → Spelled
spelled_as f text place = record { form = f; text = name_text f text; place = place; len = length text }
