-- Expansion of macros, by derivations (C++, "Macro replacement"): which macros tokens use and which tokens they give, in turn.
use Rattle.std.specs.Prelude.{◌≡◌, ℕ, List, [], ◌∷◌, ◌++◌, if◌then◌else◌, Option, Some, None, option_map, nat_eq}
use Rattle.std.specs.List.{list_any}
use Rattle.scc_base.specs.declared.refusal.Place.{Place}
use Rattle.scc_tokens_lexer.specs.declared.token.Token.{Token}
use Rattle.scc_tokens_lexer.specs.declared.token.TokenKind.{TokenKind}
use Rattle.scc_tokens_lexer.specs.declared.token.TokenKind.TheVariants as kind
use Rattle.scc_tokens_directives.specs.Macros.{Table, macro_of, Event, Use, Put, placed}

-- the macro that a token uses, with its tokens, where these names are being expanded
abbrev pub used_in : Table → List ℕ → TokenKind → Option (ℕ × List Token)
used_in table hidden (kind.Ident n) = option_map (λ body. (n.0, body)) (if list_any (nat_eq n.0) hidden then None else macro_of table n.0)
used_in table hidden _ = None

-- what tokens give where these names are being expanded, each given token at the place of the outermost use
pub data Expands (table : Table) (place : Place) : (hidden : List ℕ) → List Token → List Event → Type 0 where
  no_more : {hidden : List ℕ} → Expands table place hidden [] []
  stays : {hidden : List ℕ} {t : Token} {ts : List Token} {es : List Event} → used_in table hidden t.kind ≡ None
      → Expands table place hidden ts es → Expands table place hidden (t ∷ ts) (Put (placed place t) ∷ es)
  replaced : {hidden : List ℕ} {t : Token} {ts body : List Token} {n : ℕ} {inner es : List Event} → used_in table hidden t.kind ≡ Some (n, body)
      → Expands table place (n ∷ hidden) body inner → Expands table place hidden ts es → Expands table place hidden (t ∷ ts) (Use ∷ inner ++ es)
