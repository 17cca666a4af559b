-- The joined tokens as they are made.
use Rattle.std.specs.Prelude.{ℕ, ◌+◌, [], ◌∷◌, ◌++◌, length, Bool, false, ◌&&◌, ◌||◌, ◌==◌, nat_lt, if◌then◌else◌, Option, Some, None, is_some}
use Rattle.scc_base.specs.declared.code.Code.TheVariants.{TooManyTokens}
use Rattle.scc_base.specs.declared.refusal.Place.{Place}
use Rattle.scc_tokens_directives.specs.declared.numbers.TheConstants.{SC_CORE, SC_DT, SCOPE}
use Rattle.scc_tokens_directives.specs.declared.out.Out.{Out}
use Rattle.scc_tokens_lexer.specs.declared.token.Token.{Token}
use Rattle.scc_tokens_lexer.specs.declared.token.TokenKind.{TokenKind}
use Rattle.scc_tokens_lexer.specs.declared.token.TokenKind.TheVariants as kind
use Rattle.scc_tokens_directives.specs.Steps.{Step, goes, stops, after}

abbrev pub is_word_kind : TokenKind → ℕ → Bool
is_word_kind (kind.Word i) n = i == n
is_word_kind _ n = false

abbrev pub is_mark_kind : TokenKind → ℕ → Bool
is_mark_kind (kind.Mark i) n = i == n
is_mark_kind _ n = false

-- `sc_core` or `sc_dt`
abbrev pub is_scope_word : Token → Bool
is_scope_word t = is_word_kind t.kind SC_CORE || is_word_kind t.kind SC_DT

-- `::`
abbrev pub is_scope_mark : Token → Bool
is_scope_mark t = is_mark_kind t.kind SCOPE

abbrev pub pushed : Out → Token → Step Out
pushed o t = if nat_lt (length o.tokens) 262144 then goes (record o { tokens = o.tokens ++ t ∷ [] }) else stops o TooManyTokens t.place

abbrev pub flushed_by : Out → Option Token → Step Out
flushed_by o None = goes o
flushed_by o (Some t) = pushed (record o { scope = None }) t

-- the word that waits for a `::` is a token where none comes
abbrev pub flushed : Out → Step Out
flushed o = flushed_by o o.scope

-- one more joined token: `sc_core ::` and `sc_dt ::` are dropped
abbrev pub put_token : Out → Token → Step Out
put_token o t =
    if is_some o.scope && is_scope_mark t then goes (record o { scope = None })
    else after (flushed o).1 (flushed o).0 (λ p. if is_scope_word t then goes (record p { scope = Some t }) else pushed p t)

-- one more macro use
abbrev pub counted : Out → Place → Step Out
counted o place = if nat_lt o.uses 262144 then goes (record o { uses = o.uses + 1 }) else stops o TooManyTokens place
