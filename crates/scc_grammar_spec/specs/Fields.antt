-- Fields of one type, each of which has the type of its own: the tokens of the type are read again.
use Rattle.std.specs.Prelude.{◌≡◌, ℕ, false, List, ◌++◌, map, Ok}
use Rattle.scc_tree.specs.declared.item.Field.{Field}
use Rattle.scc_tree.specs.declared.local.Decl.{Decl}
use Rattle.scc_tree.specs.declared.ty.Ty.{Ty}
use Rattle.scc_reading.specs.Reading.{◌>>=◌, pure}
use Rattle.scc_grammar_terminals.specs.declared.part.TypeRead.{TypeRead}
use Rattle.scc_grammar_spec.specs.Bodies.{Body, field_of}
use Rattle.scc_grammar_terminals.specs.Names.{Names}
use Rattle.scc_grammar_spec.specs.ParseExpressions as e
use Rattle.scc_grammar_spec.specs.ParseStatements.{inner}
use Rattle.scc_grammar_terminals.specs.Text.{Text, Parser}

-- the tokens begin with this type
pub record Again (names : Names) (n : ℕ) (typed : Text) (ty : Ty) : Type 0 where
  pub read : TypeRead
  pub rest : Text
  pub is : e.type_at names (inner names n) false typed ≡ Ok (read, rest)
  pub ty_is : read.ty ≡ ty

-- the fields so far, and behind them those of the names that are read
abbrev pub fields_onto : Body → Ty → List Field → Parser (List Decl) → Parser (List Field)
fields_onto b ty found p = p >>= λ more. pure (found ++ map (field_of b ty) more)
