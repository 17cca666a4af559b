-- What an answer says of the scanned tokens.
use Rattle.std.specs.Prelude.{◌≡◌, List, Some, None, Result, Ok, Err, ℕ}
use Rattle.scc_base.specs.declared.code.Code.{Code}
use Rattle.scc_base.specs.declared.refusal.Place.{Place}
use Rattle.scc_base.specs.declared.refusal.Stop.{Stop}
use Rattle.scc_base.specs.declared.refusal.Stop.TheVariants.{Refused, NoMemory}
use Rattle.scc_tokens_lexer.specs.declared.token.Token.{Token}
use Rattle.scc_tokens_lexer.specs.Spelled.{Spelled, spelled_all}
use Rattle.scc_tokens_lexer.specs.Scan.{Scanned}

-- the tokens are those, spelled
pub record SpellsOk (names : List (List ℕ)) (ts : List Token) (scanned : Scanned) : Type 0 where
  pub done : List Spelled
  pub spelled : spelled_all names ts ≡ Some done
  pub scanned_is : scanned ≡ Ok done

abbrev pub IsScanned : List (List ℕ) → Result (List Token) Stop → Scanned → Type 0
IsScanned names (Ok ts) scanned = SpellsOk names ts scanned
IsScanned names (Err (Refused r)) scanned = (scanned ≡ Err (r.code, r.place)) × (r.other ≡ None)
IsScanned names (Err NoMemory) scanned = Unit {0}

-- the tokens, spelled, are such a list
pub record SpellsOne (names : List (List ℕ)) (ts : List Token) (P : List Spelled → Type 0) : Type 0 where
  pub done : List Spelled
  pub spelled : spelled_all names ts ≡ Some done
  pub holds : P done

-- the refusal is such a code at such a place
abbrev pub IsStopFor : (Code → Place → Type 0) → Stop → Type 0
IsStopFor P (Refused r) = P r.code r.place × (r.other ≡ None)
IsStopFor P NoMemory = Unit {0}
