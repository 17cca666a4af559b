-- The conditionals of a file that it doesn't close (C++, "Conditional inclusion").
use Rattle.std.specs.Prelude.{ℕ, ◌+◌, ◌-◌, List, [], ◌∷◌, Bool, true, false, ◌==◌, if◌then◌else◌, Option, Some, None}
use Rattle.scc_tokens_directives.specs.declared.directive.Words.{Words}
use Rattle.scc_tokens_directives.specs.declared.directive.Directive.{Directive}
use Rattle.scc_tokens_directives.specs.declared.directive.Directive.TheVariants as directive
use Rattle.scc_tokens_lexer.specs.declared.token.Token.{Token}
use Rattle.scc_tokens_lexer.specs.declared.token.TokenKind.{TokenKind}
use Rattle.scc_tokens_lexer.specs.declared.token.TokenKind.TheVariants as kind
use Rattle.scc_tokens_directives.specs.Directive.{directive_of}

abbrev pub is_hash : TokenKind → Bool
is_hash kind.LineHash = true
is_hash _ = false

-- the directive that begins at the front, if one does
abbrev pub line_of : Words → List Token → Directive
line_of w [] = directive.Unknown
line_of w (t ∷ []) = directive.Unknown
line_of w (t ∷ u ∷ us) = if is_hash t.kind then directive_of w u.kind else directive.Unknown

abbrev pub ends_with : Directive → ℕ → ℕ
ends_with directive.Ifdef n = n - 1
ends_with directive.Ifndef n = n - 1
ends_with directive.Endif n = n + 1
ends_with _ n = n

-- how many `#endif` close a conditional that begins before these tokens
abbrev pub ends_open : Words → List Token → ℕ
ends_open w [] = 0
ends_open w (t ∷ ts) = ends_with (line_of w (t ∷ ts)) (ends_open w ts)

abbrev pub unclosed_with : Directive → ℕ → ℕ → Option ℕ → Option ℕ
unclosed_with directive.Ifdef n at later = if n == 0 then Some at else later
unclosed_with directive.Ifndef n at later = if n == 0 then Some at else later
unclosed_with _ n at later = later

-- where the first conditional begins that no `#endif` closes
abbrev pub first_unclosed : Words → List Token → Option ℕ
first_unclosed w [] = None
first_unclosed w (t ∷ ts) = unclosed_with (line_of w (t ∷ ts)) (ends_open w ts) t.place.at (first_unclosed w ts)
