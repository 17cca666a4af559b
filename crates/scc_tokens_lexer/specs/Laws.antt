-- What holds of every text.
use Rattle.std.specs.Prelude.{◌≡◌, ℕ, List, Ok, Err}
use Rattle.scc_base.specs.declared.code.Code.{Code}
use Rattle.scc_base.specs.declared.refusal.Place.{Place}
use Rattle.scc_tokens_lexer.specs.Lexes.{IsTokensOf, IsFaultOf}
use Rattle.scc_tokens_lexer.specs.Scan.{scan}
use Rattle.scc_tokens_lexer.specs.Spelled.{Spelled}

-- the tokens that are found are the text's tokens
abbrev pub FindsTokens : Type 0
FindsTokens = (file : ℕ) (text : List ℕ) (ts : List Spelled) → (scan file text ≡ Ok ts → IsTokensOf file text ts) × (IsTokensOf file text ts → scan file text ≡ Ok ts)

-- the fault that is found is the text's first fault
abbrev pub FindsFault : Type 0
FindsFault = (file : ℕ) (text : List ℕ) (c : Code) (place : Place) → (scan file text ≡ Err (c, place) → IsFaultOf file text c place) × (IsFaultOf file text c place → scan file text ≡ Err (c, place))
