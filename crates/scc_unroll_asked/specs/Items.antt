-- The expressions and locations of statements, in text order.
use Rattle.std.specs.Prelude.{List, [], ◌∷◌, ◌++◌, map, Option, Some, None}
use Rattle.scc_core.specs.declared.expr.CoreExpr.{CoreExpr}
use Rattle.scc_core.specs.declared.expr.CoreLeft.{CoreLeft}
use Rattle.scc_core.specs.declared.stmt.CoreStmt.{CoreStmt, fold-CoreStmt}
use Rattle.scc_core.specs.declared.stmt.CoreNode.TheOpen.{CoreNode-F, CoreStmt-F}
use Rattle.scc_core.specs.declared.stmt.CoreNode.TheOpen as node
use Rattle.scc_core.specs.declared.stmt.Count.{Count}
use Rattle.scc_core.specs.declared.stmt.Pointed.{Pointed}
use Rattle.scc_core.specs.declared.stmt.Pointed.TheVariants as aimed

pub data Item : Type 0 where
  Value : CoreExpr → Item
  Place : CoreLeft → Item

abbrev pub asked_count : Option Count → List Item
asked_count None = []
asked_count (Some c) = Value c.start ∷ Value c.bound ∷ Value c.step ∷ []

abbrev pub asked_to : Pointed → List Item
asked_to (aimed.Declared n) = []
asked_to (aimed.Assigned l) = Place l ∷ []

abbrev pub joined : List (List Item) → List Item
joined [] = []
joined (es ∷ more) = es ++ joined more

abbrev pub asked_node : CoreNode-F (List Item) (List Item) → List Item
asked_node (node.Assign l e) = Place l ∷ Value e ∷ []
asked_node (node.If t a b) = Value t ∷ (joined a ++ joined b)
asked_node (node.Block b) = joined b
asked_node (node.Loop n b) = asked_count n ++ joined b
asked_node (node.Exit n) = []
asked_node (node.Wait n) = []
asked_node (node.Alias to target) = Place target ∷ asked_to to

abbrev pub asked_step : CoreStmt-F (List Item) (List Item) → List Item
asked_step s = s.node

abbrev pub asked_in : CoreStmt → List Item
asked_in = fold-CoreStmt (List Item) (List Item) asked_node asked_step

abbrev pub asked : List CoreStmt → List Item
asked ss = joined (map asked_in ss)

abbrev pub AreAll : (Item → Type 0) → List Item → Type 0
AreAll Q [] = Unit {0}
AreAll Q (e ∷ es) = Q e × AreAll Q es
