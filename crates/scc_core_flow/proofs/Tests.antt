-- The tests of statements, one by one.
use Rattle.std.proofs.Common.{◌≡◌, arith, ℕ, zero, suc, ◌<◌, subst, ap, sym, ◌∙◌, List, [], ◌∷◌, ◌++◌, get_or, length, Option}
use Rattle.scc_core.specs.declared.expr.CoreExpr.{CoreExpr}
use Rattle.scc_core.specs.declared.stmt.CoreStmt.{CoreStmt, fold-roll-CoreStmt}
use Rattle.scc_core.specs.declared.stmt.CoreNode.{CoreNode, fold-CoreNode, fold-roll-CoreNode}
use Rattle.scc_core.specs.declared.stmt.CoreNode.TheVariants as node
use Rattle.scc_core.specs.declared.stmt.CoreNode.TheOpen as tree
use Rattle.scc_core.specs.declared.stmt.Count.{Count as Counting}
use Rattle.scc_core_flow.specs.Live.{node_tests, tests_step, tests_of, tests_in, Each}

pub each_first : {A : Type 0} (P : A → Type 0) (xs ys : List A) → Each P (xs ++ ys) → Each P xs
each_first P [] ys e = tt
each_first P (x ∷ xs) ys e = (e.0, each_first P xs ys e.1)

pub each_second : {A : Type 0} (P : A → Type 0) (xs ys : List A) → Each P (xs ++ ys) → Each P ys
each_second P [] ys e = e
each_second P (x ∷ xs) ys e = each_second P xs ys e.1

pub each_both : {A : Type 0} (P : A → Type 0) (xs ys : List A) → Each P xs → Each P ys → Each P (xs ++ ys)
each_both P [] ys d e = e
each_both P (x ∷ xs) ys d e = (d.0, each_both P xs ys d.1 e)

pub each_turned : {A : Type 0} (P Q : A → Type 0) → ((x : A) → P x → Q x) → (xs : List A) → Each P xs → Each Q xs
each_turned P Q f [] e = tt
each_turned P Q f (x ∷ xs) e = (f x e.0, each_turned P Q f xs e.1)

less : (i : ℕ) (s : CoreStmt) (ss : List CoreStmt) → suc i < length (s ∷ ss) → i < length ss
less i s ss h = omega arith

not_below : (i : ℕ) → i < 0 → ⊥
not_below i h = omega arith

pub tests_here : (P : CoreExpr → Type 0) (ss : List CoreStmt) (i : ℕ) (s : CoreStmt) → i < length ss → s ≡ get_or ss i s → Each P (tests_in ss) → Each P (tests_in (s ∷ []))
tests_here P [] i s h is e = absurd (not_below i h)
tests_here P (x ∷ xs) zero s h is e = subst (λ z. Each P (tests_in (z ∷ []))) (sym is) (each_both P (tests_of x) [] (each_first P (tests_of x) (tests_in xs) e) tt)
tests_here P (x ∷ xs) (suc i) s h is e = tests_here P xs i s (less i x xs h) is (each_second P (tests_of x) (tests_in xs) e)

abbrev by_node : CoreNode → List CoreExpr
by_node = fold-CoreNode (List CoreExpr) (List CoreExpr) node_tests tests_step

stands : (s : CoreStmt) (n m : CoreNode) → s.node ≡ n → n ≡ m → tests_of s ≡ by_node m
stands s n m is rolls = fold-roll-CoreStmt (List CoreExpr) (List CoreExpr) node_tests tests_step (record { place = s.place; node = s.node }) ∙ ap by_node (is ∙ rolls)

of_if : (s : CoreStmt) (t : CoreExpr) (a b : List CoreStmt) → s.node ≡ node.If t a b → tests_of s ≡ t ∷ (tests_in a ++ tests_in b)
of_if s t a b is = stands s _ _ is (sym (node.rolls-If t a b)) ∙ fold-roll-CoreNode (List CoreExpr) (List CoreExpr) node_tests tests_step (tree.If t a b)

of_block : (s : CoreStmt) (b : List CoreStmt) → s.node ≡ node.Block b → tests_of s ≡ tests_in b
of_block s b is = stands s _ _ is (sym (node.rolls-Block b)) ∙ fold-roll-CoreNode (List CoreExpr) (List CoreExpr) node_tests tests_step (tree.Block b)

of_loop : (s : CoreStmt) (n : Option Counting) (b : List CoreStmt) → s.node ≡ node.Loop n b → tests_of s ≡ tests_in b
of_loop s n b is = stands s _ _ is (sym (node.rolls-Loop n b)) ∙ fold-roll-CoreNode (List CoreExpr) (List CoreExpr) node_tests tests_step (tree.Loop n b)

-- what holds of the tests in a statement, taken apart
pub each_if : (P : CoreExpr → Type 0) (s : CoreStmt) (t : CoreExpr) (a b : List CoreStmt) → s.node ≡ node.If t a b → Each P (tests_in (s ∷ []))
    → P t × Each P (tests_in a) × Each P (tests_in b)
each_if P s t a b is e =
    let d = subst (Each P) (of_if s t a b is) (each_first P (tests_of s) [] e) in
    (d.0, each_first P (tests_in a) (tests_in b) d.1, each_second P (tests_in a) (tests_in b) d.1)

pub each_block : (P : CoreExpr → Type 0) (s : CoreStmt) (b : List CoreStmt) → s.node ≡ node.Block b → Each P (tests_in (s ∷ [])) → Each P (tests_in b)
each_block P s b is e = subst (Each P) (of_block s b is) (each_first P (tests_of s) [] e)

pub each_loop : (P : CoreExpr → Type 0) (s : CoreStmt) (n : Option Counting) (b : List CoreStmt) → s.node ≡ node.Loop n b → Each P (tests_in (s ∷ [])) → Each P (tests_in b)
each_loop P s n b is e = subst (Each P) (of_loop s n b is) (each_first P (tests_of s) [] e)
