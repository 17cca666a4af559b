-- Names.
use Rattle.std.specs.Prelude.{ℕ, List}
use Rattle.std.specs.Str.{IsAscii}
use Rattle.scc_tokens_lexer.specs.declared.piece.Form.{Form}
use Rattle.scc_tokens_lexer.specs.declared.piece.Form.TheVariants as form

-- a name is ASCII
abbrev pub IsNamed : Form → List ℕ → Type 0
IsNamed form.Ident text = IsAscii text
IsNamed form.Outside text = IsAscii text
IsNamed _ text = Unit {0}
