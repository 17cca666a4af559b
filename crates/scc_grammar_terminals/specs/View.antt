-- Joined tokens as the grammar sees them: words and marks are terminals by the numbers that they have in their lists.
use Rattle.std.specs.Prelude.{ℕ, List, map, Option, Some, None, slice_get}
use Rattle.scc_tokens_lexer.specs.declared.token.Token.{Token}
use Rattle.scc_tokens_lexer.specs.declared.token.TokenKind.{TokenKind}
use Rattle.scc_tokens_lexer.specs.declared.token.TokenKind.TheVariants as kind
use Rattle.scc_grammar_terminals.specs.declared.terminal.Seen.{Seen}
use Rattle.scc_grammar_terminals.specs.declared.terminal.Terminal.{Terminal}
use Rattle.scc_grammar_terminals.specs.declared.terminal.Terminal.TheVariants as t
use Rattle.scc_grammar_terminals.specs.declared.view.TheConstants.{WORDS, MARKS}

abbrev pub or_other : Option Terminal → Terminal
or_other (Some terminal) = terminal
or_other None = t.Other

abbrev pub word_of : ℕ → Terminal
word_of i = or_other (slice_get WORDS i)

abbrev pub mark_of : ℕ → Terminal
mark_of i = or_other (slice_get MARKS i)

abbrev pub terminal_of : TokenKind → Terminal
terminal_of (kind.Word i) = word_of i
terminal_of (kind.Mark i) = mark_of i
terminal_of (kind.Ident x) = t.Ident x
terminal_of (kind.Number k w) = t.Number k w
terminal_of kind.Text = t.Text
terminal_of _ = t.Other

abbrev pub seen_of : Token → Seen
seen_of token = record { terminal = terminal_of token.kind; place = token.place }

abbrev pub seen_all : List Token → List Seen
seen_all tokens = map seen_of tokens
