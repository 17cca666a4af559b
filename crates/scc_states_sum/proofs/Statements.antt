-- What is said of a test and of a block, and of the statements along a body.
use Rattle.std.proofs.Common.{◌≡◌, sym, ap, ◌∙◌, subst, ℕ, suc, List, map, drop, get_or, length, add-one, drop-cons, ◌+◌, ◌<◌, ◌≤◌, max, Bool, Option}
use Rattle.scc_bits.specs.Value.{Number}
use Rattle.scc_core.specs.declared.expr.CoreExpr.{CoreExpr}
use Rattle.scc_core.specs.declared.stmt.CoreStmt.{CoreStmt, fold-CoreStmt, fold-roll-CoreStmt}
use Rattle.scc_core.specs.declared.stmt.CoreNode.{fold-CoreNode, fold-roll-CoreNode}
use Rattle.scc_core.specs.declared.stmt.CoreNode.TheVariants as node
use Rattle.scc_core.specs.declared.stmt.CoreNode.TheOpen.{CoreNode-F}
use Rattle.scc_core.specs.declared.stmt.CoreNode.TheOpen as tree
use Rattle.scc_states_sum.specs.declared.sum.Seen.{Seen}
use Rattle.scc_states_sum.specs.Elements.{expr_elements}
use Rattle.scc_states_sum.specs.Live.{Live, behind, tested, block, live_node, live_statement, live_body, deep_node, blocks_deep, body_deep}
use Rattle.scc_states_sum.specs.Paths.{Lives}

module _ (A : Type 0) (step : CoreNode-F A A → A) where
  abbrev folded : CoreStmt → A
  folded = fold-CoreStmt A A step (λ s. s.node)

  folded_node : (s : CoreStmt) → folded s ≡ fold-CoreNode A A step (λ s. s.node) s.node
  folded_node s = fold-roll-CoreStmt A A step (λ s. s.node) (record { place = s.place; node = s.node })

  at_test : (s : CoreStmt) (t : CoreExpr) (a b : List CoreStmt) → s.node ≡ node.If t a b → folded s ≡ step (tree.If t (map folded a) (map folded b))
  at_test s t a b is =
      folded_node s ∙ ap (fold-CoreNode A A step (λ s. s.node)) (is ∙ sym (node.rolls-If t a b)) ∙ fold-roll-CoreNode A A step (λ s. s.node) (tree.If t a b)

  at_block : (s : CoreStmt) (b : List CoreStmt) → s.node ≡ node.Block b → folded s ≡ step (tree.Block (map folded b))
  at_block s b is =
      folded_node s ∙ ap (fold-CoreNode A A step (λ s. s.node)) (is ∙ sym (node.rolls-Block b)) ∙ fold-roll-CoreNode A A step (λ s. s.node) (tree.Block b)

pub live_test : (known : CoreExpr → Option Number) (s : CoreStmt) (t : CoreExpr) (a b : List CoreStmt) → s.node ≡ node.If t a b
    → live_statement known s ≡ tested (known t) (expr_elements known t) (live_body known a) (live_body known b)
live_test known s t a b is = at_test Live (live_node known) s t a b is

pub deep_test : (s : CoreStmt) (t : CoreExpr) (a b : List CoreStmt) → s.node ≡ node.If t a b → blocks_deep s ≡ max (body_deep a) (body_deep b)
deep_test s t a b is = at_test ℕ deep_node s t a b is

pub live_block : (known : CoreExpr → Option Number) (s : CoreStmt) (b : List CoreStmt) → s.node ≡ node.Block b
    → live_statement known s ≡ block (live_body known b)
live_block known s b is = at_block Live (live_node known) s b is

pub deep_block : (s : CoreStmt) (b : List CoreStmt) → s.node ≡ node.Block b → blocks_deep s ≡ 1 + body_deep b
deep_block s b is = at_block ℕ deep_node s b is

-- the same statements under another name
pub branch : (known : CoreExpr → Option Number) (d m : ℕ) (old new : List Bool) (s : Seen) (ss ts : List CoreStmt) → ts ≡ ss
    → (d + body_deep ts ≤ m → Lives d old new s (live_body known ts)) → d + body_deep ss ≤ m → Lives d old new s (live_body known ss)
branch known d m old new s ss ts is f h =
    subst (λ x. Lives d old new s (live_body known x)) is (f (subst (λ x. d + body_deep x ≤ m) (sym is) h))

-- a statement and those behind it
pub from_here : (known : CoreExpr → Option Number) (ss : List CoreStmt) (i : ℕ) (s : CoreStmt) → i < length ss → s ≡ get_or ss i s
    → live_body known (drop i ss) ≡ behind (live_statement known s) (live_body known (drop (i + 1) ss))
from_here known ss i s h is =
    ap (live_body known) (drop-cons ss i s h)
    ∙ ap (λ x. behind (live_statement known x) (live_body known (drop (suc i) ss))) (sym is)
    ∙ ap (λ n. behind (live_statement known s) (live_body known (drop n ss))) (sym (add-one i))
