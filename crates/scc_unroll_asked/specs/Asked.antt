-- The expressions of statements of which values are asked: tests, what is assigned, and by what loops count.
use Rattle.std.specs.Prelude.{◌≡◌, List, [], ◌∷◌, ◌++◌, map, Option, Some, None}
use Rattle.scc_core.specs.declared.expr.CoreExpr.{CoreExpr}
use Rattle.scc_core.specs.declared.statics.Known.{Known}
use Rattle.scc_core.specs.declared.stmt.CoreStmt.{CoreStmt, fold-CoreStmt}
use Rattle.scc_core.specs.declared.stmt.CoreNode.TheOpen.{CoreNode-F, CoreStmt-F}
use Rattle.scc_core.specs.declared.stmt.CoreNode.TheOpen as node
use Rattle.scc_core.specs.declared.stmt.Count.{Count}
use Rattle.scc_core_spec.specs.Term.{kind_of, place_of}
use Rattle.scc_core_view.specs.Terms.{term_of}
use Rattle.scc_unroll_asked.specs.Read.{IsRead}

abbrev pub asked_count : Option Count → List CoreExpr
asked_count None = []
asked_count (Some c) = c.start ∷ c.bound ∷ c.step ∷ []

abbrev pub joined : List (List CoreExpr) → List CoreExpr
joined [] = []
joined (es ∷ more) = es ++ joined more

abbrev pub asked_node : CoreNode-F (List CoreExpr) (List CoreExpr) → List CoreExpr
asked_node (node.Assign l e) = e ∷ []
asked_node (node.If t a b) = t ∷ (joined a ++ joined b)
asked_node (node.Block b) = joined b
asked_node (node.Loop n b) = asked_count n ++ joined b
asked_node (node.Exit n) = []
asked_node (node.Wait n) = []
asked_node (node.Alias to target) = []

abbrev pub asked_step : CoreStmt-F (List CoreExpr) (List CoreExpr) → List CoreExpr
asked_step s = s.node

abbrev pub asked_in : CoreStmt → List CoreExpr
asked_in = fold-CoreStmt (List CoreExpr) (List CoreExpr) asked_node asked_step

abbrev pub asked : List CoreStmt → List CoreExpr
asked ss = joined (map asked_in ss)

abbrev pub AreAll : (CoreExpr → Type 0) → List CoreExpr → Type 0
AreAll Q [] = Unit {0}
AreAll Q (e ∷ es) = Q e × AreAll Q es

-- each has the value that the code finds for it
abbrev pub AreRead : Known → List CoreExpr → Type 0
AreRead known = AreAll (IsRead known)

-- its term has its place and its kind
pub record IsItself (e : CoreExpr) : Type 0 where
  pub place : place_of (term_of e) ≡ e.place
  pub kind : kind_of (term_of e) ≡ e.kind

pub record IsTaken (known : Known) (e : CoreExpr) : Type 0 where
  pub read : IsRead known e
  pub itself : IsItself e

abbrev pub AreTaken : Known → List CoreExpr → Type 0
AreTaken known = AreAll (IsTaken known)
