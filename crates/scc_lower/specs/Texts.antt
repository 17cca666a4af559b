-- The text of an expression as a whole, and statements that run where no block is being left.
use Rattle.std.specs.Prelude.{◌≡◌, ◌⊎◌, ℕ}
use Rattle.scc_core.specs.declared.expr.CoreExpr.{CoreExpr}
use Rattle.scc_svtree.specs.declared.expr.SvExpr.{SvExpr}
use Rattle.scc_svtree.specs.Code.{Code, End}
use Rattle.scc_svtree.specs.Term.{term_of}
use Rattle.scc_lower_laws.specs.Outcome.{Outcome, text_of}
use Rattle.scc_lower_laws.specs.Sequence.{then_code}
use Rattle.scc_lower_tree_laws.specs.Becoming.{Becomes}
use Rattle.scc_lower_tree_laws.specs.Stating.{guard}
use Rattle.scc_lower_expressions.specs.declared.lowering.Cells.{Cells}
use Rattle.scc_lower_expressions.specs.declared.lowering.Lowering.{Lowering}
use Rattle.scc_lower_expressions.specs.Becoming.{given_of, state_of}

-- the text of what becomes of it
pub record IsTextOf (c : Cells) (e : CoreExpr) (old : Lowering) (t : SvExpr) (new : Lowering) : Type 0 where
  pub outcome : Outcome
  pub becomes : Becomes (given_of c) e (state_of old) outcome (state_of new)
  pub text : term_of t ≡ text_of outcome

-- behind what stood there, the code runs where no block is being left; where there is none, nothing comes
abbrev pub IsGuarded : (cells exit : ℕ) → (code old new : Code) → Type 0
IsGuarded n exit code old new = ((code ≡ End) × (new ≡ old)) ⊎ (new ≡ then_code old (guard n exit code))
