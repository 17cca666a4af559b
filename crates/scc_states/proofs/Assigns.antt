-- The assignments in statements, one by one.
use Rattle.std.proofs.Common.{◌≡◌, arith, ℕ, zero, suc, ◌<◌, subst, ap, sym, ◌∙◌, List, [], ◌∷◌, ◌++◌, get_or, length, Option}
use Rattle.scc_core.specs.declared.expr.CoreExpr.{CoreExpr}
use Rattle.scc_core.specs.declared.expr.CoreLeft.{CoreLeft}
use Rattle.scc_core.specs.declared.stmt.CoreStmt.{CoreStmt, fold-roll-CoreStmt}
use Rattle.scc_core.specs.declared.stmt.CoreNode.{CoreNode, fold-CoreNode, fold-roll-CoreNode}
use Rattle.scc_core.specs.declared.stmt.CoreNode.TheVariants as node
use Rattle.scc_core.specs.declared.stmt.CoreNode.TheOpen as tree
use Rattle.scc_core.specs.declared.stmt.Count.{Count as Counting}
use Rattle.scc_core_flow.specs.Live.{Each}
use Rattle.scc_core_flow.proofs.Tests.{each_first, each_second, each_both}
use Rattle.scc_states.specs.Resets.{Given, node_assigns, assigns_step, assigns_of, assigns_in}

less : (i : ℕ) (s : CoreStmt) (ss : List CoreStmt) → suc i < length (s ∷ ss) → i < length ss
less i s ss h = omega arith

not_below : (i : ℕ) → i < 0 → ⊥
not_below i h = omega arith

pub assigns_here : (P : Given → Type 0) (ss : List CoreStmt) (i : ℕ) (s : CoreStmt) → i < length ss → s ≡ get_or ss i s → Each P (assigns_in ss) → Each P (assigns_in (s ∷ []))
assigns_here P [] i s h is e = absurd (not_below i h)
assigns_here P (x ∷ xs) zero s h is e = subst (λ z. Each P (assigns_in (z ∷ []))) (sym is) (each_both P (assigns_of x) [] (each_first P (assigns_of x) (assigns_in xs) e) tt)
assigns_here P (x ∷ xs) (suc i) s h is e = assigns_here P xs i s (less i x xs h) is (each_second P (assigns_of x) (assigns_in xs) e)

abbrev by_node : CoreNode → List Given
by_node = fold-CoreNode (List Given) (List Given) node_assigns assigns_step

stands : (s : CoreStmt) (n m : CoreNode) → s.node ≡ n → n ≡ m → assigns_of s ≡ by_node m
stands s n m is rolls = fold-roll-CoreStmt (List Given) (List Given) node_assigns assigns_step (record { place = s.place; node = s.node }) ∙ ap by_node (is ∙ rolls)

of_assign : (s : CoreStmt) (l : CoreLeft) (e : CoreExpr) → s.node ≡ node.Assign l e → assigns_of s ≡ (l, e) ∷ []
of_assign s l e is = stands s _ _ is (sym (node.rolls-Assign l e)) ∙ fold-roll-CoreNode (List Given) (List Given) node_assigns assigns_step (tree.Assign l e)

of_if : (s : CoreStmt) (t : CoreExpr) (a b : List CoreStmt) → s.node ≡ node.If t a b → assigns_of s ≡ assigns_in a ++ assigns_in b
of_if s t a b is = stands s _ _ is (sym (node.rolls-If t a b)) ∙ fold-roll-CoreNode (List Given) (List Given) node_assigns assigns_step (tree.If t a b)

of_block : (s : CoreStmt) (b : List CoreStmt) → s.node ≡ node.Block b → assigns_of s ≡ assigns_in b
of_block s b is = stands s _ _ is (sym (node.rolls-Block b)) ∙ fold-roll-CoreNode (List Given) (List Given) node_assigns assigns_step (tree.Block b)

of_loop : (s : CoreStmt) (n : Option Counting) (b : List CoreStmt) → s.node ≡ node.Loop n b → assigns_of s ≡ assigns_in b
of_loop s n b is = stands s _ _ is (sym (node.rolls-Loop n b)) ∙ fold-roll-CoreNode (List Given) (List Given) node_assigns assigns_step (tree.Loop n b)

-- what holds of the assignments in a statement, taken apart
pub given_assign : (P : Given → Type 0) (s : CoreStmt) (l : CoreLeft) (e : CoreExpr) → s.node ≡ node.Assign l e → Each P (assigns_in (s ∷ [])) → P (l, e)
given_assign P s l e is h = (subst (Each P) (of_assign s l e is) (each_first P (assigns_of s) [] h)).0

pub given_if : (P : Given → Type 0) (s : CoreStmt) (t : CoreExpr) (a b : List CoreStmt) → s.node ≡ node.If t a b → Each P (assigns_in (s ∷ [])) → Each P (assigns_in a) × Each P (assigns_in b)
given_if P s t a b is h =
    let d = subst (Each P) (of_if s t a b is) (each_first P (assigns_of s) [] h) in
    (each_first P (assigns_in a) (assigns_in b) d, each_second P (assigns_in a) (assigns_in b) d)

pub given_block : (P : Given → Type 0) (s : CoreStmt) (b : List CoreStmt) → s.node ≡ node.Block b → Each P (assigns_in (s ∷ [])) → Each P (assigns_in b)
given_block P s b is h = subst (Each P) (of_block s b is) (each_first P (assigns_of s) [] h)

pub given_loop : (P : Given → Type 0) (s : CoreStmt) (n : Option Counting) (b : List CoreStmt) → s.node ≡ node.Loop n b → Each P (assigns_in (s ∷ [])) → Each P (assigns_in b)
given_loop P s n b is h = subst (Each P) (of_loop s n b is) (each_first P (assigns_of s) [] h)
