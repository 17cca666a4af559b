-- The tokens of a thin text, among joined tokens.
use Rattle.std.specs.Prelude.{ℕ, List, Option, Some, None, option_map, slice_get}
use Rattle.scc_base.specs.declared.names.Name.{Name}
use Rattle.scc_tokens_lexer.specs.declared.token.Token as joined
use Rattle.scc_tokens_lexer.specs.declared.token.TokenKind.{TokenKind}
use Rattle.scc_tokens_lexer.specs.declared.token.TokenKind.TheVariants as token
use Rattle.scc_thin.specs.declared.thin.token.Token.{Token}
use Rattle.scc_thin.specs.declared.thin.token.Token.TheVariants as thin
use Rattle.scc_thin.specs.Gives.{each}

abbrev pub name_of : List (List ℕ) → Name → Option Token
name_of names n = option_map thin.Name (slice_get names n.0)

abbrev pub kind_token : List (List ℕ) → ℕ → TokenKind → Option Token
kind_token names len (token.Word i) = Some (thin.Word i)
kind_token names len (token.Mark i) = Some (thin.Mark i)
kind_token names len (token.Ident n) = name_of names n
kind_token names len (token.Number k w) = Some (thin.Number k w len)
kind_token names len _ = None

abbrev pub token_of : List (List ℕ) → joined.Token → Option Token
token_of names t = kind_token names t.len t.kind

-- the thin tokens that joined tokens are, where each of them is one
unfoldable pub tokens_of : List (List ℕ) → List joined.Token → Option (List Token)
tokens_of names tokens = each (token_of names) tokens
