-- A statement before what follows, by its node.
use Rattle.std.proofs.Common.{◌≡◌, sym, ap, ◌∙◌, ℕ, List, Option}
use Rattle.scc_core.specs.declared.expr.CoreExpr.{CoreExpr}
use Rattle.scc_core.specs.declared.expr.CoreLeft.{CoreLeft}
use Rattle.scc_core.specs.declared.stmt.Count.{Count}
use Rattle.scc_core.specs.declared.stmt.Pointed.{Pointed}
use Rattle.scc_core.specs.declared.stmt.CoreStmt.{CoreStmt, fold-roll-CoreStmt}
use Rattle.scc_core.specs.declared.stmt.CoreNode.{CoreNode, fold-CoreNode, fold-roll-CoreNode}
use Rattle.scc_core.specs.declared.stmt.CoreNode.TheVariants as node
use Rattle.scc_core.specs.declared.stmt.CoreNode.TheOpen as tree
use Rattle.scc_core_spec.specs.Code as code
use Rattle.scc_core_spec.specs.Code.{Code}
use Rattle.scc_core_view.specs.Codes.{Node, code_of, counted, pointed_of, stmt_node, stmt_step, stmt_code}
use Rattle.scc_core_view.specs.Terms.{taken_of, term_of}

abbrev by_node : CoreNode → Node
by_node = fold-CoreNode Node (Code → Code) stmt_node stmt_step

module _ (s : CoreStmt) where
  stands : (n m : CoreNode) → s.node ≡ n → n ≡ m → stmt_code s ≡ by_node m s.place
  stands n m is rolls = fold-roll-CoreStmt Node (Code → Code) stmt_node stmt_step (record { place = s.place; node = s.node }) ∙ ap (λ x. by_node x s.place) (is ∙ rolls)

  pub as_put : (l : CoreLeft) (e : CoreExpr) → s.node ≡ node.Assign l e → stmt_code s ≡ (λ r. code.Put s.place (taken_of l).left (taken_of l).pick (term_of e) r)
  as_put l e is = stands _ _ is (sym (node.rolls-Assign l e)) ∙ ap (λ f. f s.place) (fold-roll-CoreNode Node (Code → Code) stmt_node stmt_step (tree.Assign l e))

  pub as_aim : (to : Pointed) (l : CoreLeft) → s.node ≡ node.Alias to l → stmt_code s ≡ (λ r. code.Aim s.place (pointed_of to) (taken_of l).left r)
  as_aim to l is = stands _ _ is (sym (node.rolls-Alias to l)) ∙ ap (λ f. f s.place) (fold-roll-CoreNode Node (Code → Code) stmt_node stmt_step (tree.Alias to l))

  pub as_if : (t : CoreExpr) (a b : List CoreStmt) → s.node ≡ node.If t a b → stmt_code s ≡ (λ r. code.If s.place (term_of t) (code_of a) (code_of b) r)
  as_if t a b is = stands _ _ is (sym (node.rolls-If t a b)) ∙ ap (λ f. f s.place) (fold-roll-CoreNode Node (Code → Code) stmt_node stmt_step (tree.If t a b))

  pub as_block : (b : List CoreStmt) → s.node ≡ node.Block b → stmt_code s ≡ (λ r. code.Block s.place (code_of b) r)
  as_block b is = stands _ _ is (sym (node.rolls-Block b)) ∙ ap (λ f. f s.place) (fold-roll-CoreNode Node (Code → Code) stmt_node stmt_step (tree.Block b))

  pub as_loop : (n : Option Count) (b : List CoreStmt) → s.node ≡ node.Loop n b → stmt_code s ≡ (λ r. code.Loop s.place (counted n) (code_of b) r)
  as_loop n b is = stands _ _ is (sym (node.rolls-Loop n b)) ∙ ap (λ f. f s.place) (fold-roll-CoreNode Node (Code → Code) stmt_node stmt_step (tree.Loop n b))

  pub as_exit : (n : ℕ) → s.node ≡ node.Exit n → stmt_code s ≡ (λ r. code.Exit s.place n r)
  as_exit n is = stands _ _ is (sym (node.rolls-Exit n)) ∙ ap (λ f. f s.place) (fold-roll-CoreNode Node (Code → Code) stmt_node stmt_step (tree.Exit n))

  pub as_wait : (n : ℕ) → s.node ≡ node.Wait n → stmt_code s ≡ (λ r. code.Wait s.place 0 n r)
  as_wait n is = stands _ _ is (sym (node.rolls-Wait n)) ∙ ap (λ f. f s.place) (fold-roll-CoreNode Node (Code → Code) stmt_node stmt_step (tree.Wait n))
