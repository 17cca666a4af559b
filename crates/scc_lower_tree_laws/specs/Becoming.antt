-- What becomes of expressions, from one state of a lowering to another. This project's own.
use Rattle.std.specs.Prelude.{ℕ, length}
use Rattle.scc_core.specs.declared.expr.CoreExpr.{CoreExpr}
use Rattle.scc_blocks_spec.specs.Shown.{Sight}
use Rattle.scc_lower_laws.specs.Lowers.{Lowers}
use Rattle.scc_lower_laws.specs.Outcome.{Outcome}
use Rattle.scc_core_view.specs.Terms.{term_of}
use Rattle.scc_lower_tree_laws.specs.States.{State, Given, Leaves, Sees, Agrees}
use Rattle.scc_lower_tree_laws.specs.Sound.{IsSound}

-- The expression is lowered: whatever a process sees there, the code that is added makes further temporaries, and the outcome has the word of the value.
pub record Becomes (g : Given) (e : CoreExpr) (old : State) (o : Outcome) (new : State) : Type 0 where
  pub leaves : Leaves old new
  pub lowers : (s : Sight) (width : ℕ → ℕ) → Sees g.cells old.views s width → Agrees s width new.temporaries → IsSound g s e
      → Lowers s width (length old.temporaries) (length new.temporaries) (term_of e) leaves.front o
