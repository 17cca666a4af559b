-- The code of a statement by its node, before others.
use Rattle.std.proofs.Common.{◌≡◌, ℕ, List, [], ◌∷◌, map, Option, ap, sym, ◌∙◌}
use Rattle.scc_base.specs.declared.refusal.Place.{Place}
use Rattle.scc_core.specs.declared.expr.CoreExpr.{CoreExpr}
use Rattle.scc_core.specs.declared.expr.CoreLeft.{CoreLeft}
use Rattle.scc_core.specs.declared.stmt.Count.{Count as Counting}
use Rattle.scc_core.specs.declared.stmt.Pointed.{Pointed as Aimed}
use Rattle.scc_core.specs.declared.stmt.CoreStmt.{CoreStmt, fold-roll-CoreStmt}
use Rattle.scc_core.specs.declared.stmt.CoreNode.{CoreNode, fold-CoreNode, fold-roll-CoreNode, roll-CoreNode}
use Rattle.scc_core.specs.declared.stmt.CoreNode.TheVariants as node
use Rattle.scc_core.specs.declared.stmt.CoreNode.TheOpen.{CoreNode-F}
use Rattle.scc_core.specs.declared.stmt.CoreNode.TheOpen as tree
use Rattle.scc_core_spec.specs.Code.{Code, End, Put, Aim, If, Block, Loop, Exit, Wait}
use Rattle.scc_core_view.specs.Codes.{Node, stmt_node, stmt_step, stmt_code, before, code_of, counted, pointed_of}
use Rattle.scc_core_view.specs.Terms.{term_of, taken_of}

abbrev by_node : CoreNode → Node
by_node = fold-CoreNode Node (Code → Code) stmt_node stmt_step

stands : (s : CoreStmt) (n : CoreNode) (m : CoreNode) (c : Code) → s.node ≡ n → n ≡ m → stmt_code s c ≡ by_node m s.place c
stands s n m c is rolls =
    ap (λ f. f c) (fold-roll-CoreStmt Node (Code → Code) stmt_node stmt_step (record { place = s.place; node = s.node })) ∙ ap (λ x. by_node x s.place c) (is ∙ rolls)

pub assigns : (s : CoreStmt) (l : CoreLeft) (e : CoreExpr) → s.node ≡ node.Assign l e → (c : Code)
    → stmt_code s c ≡ Put s.place (taken_of l).left (taken_of l).pick (term_of e) c
assigns s l e is c = stands s _ _ c is (sym (node.rolls-Assign l e)) ∙ ap (λ f. f s.place c) (fold-roll-CoreNode Node (Code → Code) stmt_node stmt_step (tree.Assign l e))

pub tests : (s : CoreStmt) (t : CoreExpr) (a b : List CoreStmt) → s.node ≡ node.If t a b → (c : Code)
    → stmt_code s c ≡ If s.place (term_of t) (code_of a) (code_of b) c
tests s t a b is c = stands s _ _ c is (sym (node.rolls-If t a b)) ∙ ap (λ f. f s.place c) (fold-roll-CoreNode Node (Code → Code) stmt_node stmt_step (tree.If t a b))

pub blocks : (s : CoreStmt) (b : List CoreStmt) → s.node ≡ node.Block b → (c : Code) → stmt_code s c ≡ Block s.place (code_of b) c
blocks s b is c = stands s _ _ c is (sym (node.rolls-Block b)) ∙ ap (λ f. f s.place c) (fold-roll-CoreNode Node (Code → Code) stmt_node stmt_step (tree.Block b))

pub loops : (s : CoreStmt) (n : Option Counting) (b : List CoreStmt) → s.node ≡ node.Loop n b → (c : Code)
    → stmt_code s c ≡ Loop s.place (counted n) (code_of b) c
loops s n b is c = stands s _ _ c is (sym (node.rolls-Loop n b)) ∙ ap (λ f. f s.place c) (fold-roll-CoreNode Node (Code → Code) stmt_node stmt_step (tree.Loop n b))

pub exits : (s : CoreStmt) (n : ℕ) → s.node ≡ node.Exit n → (c : Code) → stmt_code s c ≡ Exit s.place n c
exits s n is c = stands s _ _ c is (sym (node.rolls-Exit n)) ∙ ap (λ f. f s.place c) (fold-roll-CoreNode Node (Code → Code) stmt_node stmt_step (tree.Exit n))

pub waits : (s : CoreStmt) (n : ℕ) → s.node ≡ node.Wait n → (c : Code) → stmt_code s c ≡ Wait s.place 0 n c
waits s n is c = stands s _ _ c is (sym (node.rolls-Wait n)) ∙ ap (λ f. f s.place c) (fold-roll-CoreNode Node (Code → Code) stmt_node stmt_step (tree.Wait n))

pub aims : (s : CoreStmt) (to : Aimed) (l : CoreLeft) → s.node ≡ node.Alias to l → (c : Code) → stmt_code s c ≡ Aim s.place (pointed_of to) (taken_of l).left c
aims s to l is c = stands s _ _ c is (sym (node.rolls-Alias to l)) ∙ ap (λ f. f s.place c) (fold-roll-CoreNode Node (Code → Code) stmt_node stmt_step (tree.Alias to l))
