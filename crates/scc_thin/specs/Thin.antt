-- The design that joined tokens denote, where they are a thin text.
use Rattle.std.specs.Prelude.{ℕ, List, Option}
use Rattle.scc_tokens_lexer.specs.declared.token.Token.{Token}
use Rattle.scc_thin.specs.declared.design.Design.{Design}
use Rattle.scc_thin.specs.Gives.{◌>>=◌}
use Rattle.scc_thin.specs.Tokens.{tokens_of}
use Rattle.scc_thin.specs.Reading.{tree_at}
use Rattle.scc_thin.specs.Resolved.{design_of}

unfoldable pub thin_of : List (List ℕ) → List ℕ → List Token → Option Design
thin_of names top tokens = tokens_of names tokens >>= tree_at >>= design_of top
