-- The nodes of expressions and picks by their layers.
use Rattle.std.proofs.Common.{◌≡◌, ℕ, List, Some, None, ap, sym, ◌∙◌}
use Rattle.scc_bits_kinds.specs.declared.kind.Kind.{Kind}
use Rattle.scc_bits_kinds.specs.declared.kind.Word.{Word}
use Rattle.scc_bits_kinds.specs.declared.op.Op.{Op}
use Rattle.scc_core.specs.declared.expr.CoreBase.TheOpen as tree
use Rattle.scc_core.specs.declared.expr.CoreExpr.{CoreExpr}
use Rattle.scc_core.specs.declared.expr.CoreExprNode.{CoreExprNode, out-CoreExprNode, out-roll-CoreExprNode}
use Rattle.scc_core.specs.declared.expr.CoreExprNode.TheVariants as node
use Rattle.scc_core.specs.declared.expr.CorePick.{CorePick, out-CorePick, out-roll-CorePick}
use Rattle.scc_core.specs.declared.expr.CorePick.TheVariants as pick

pub out-literal : (e : CoreExprNode) (w : Word) → e ≡ node.Lit w → out-CoreExprNode e ≡ tree.Lit w
out-literal e w is = ap out-CoreExprNode (is ∙ sym (node.rolls-Lit w)) ∙ out-roll-CoreExprNode (tree.Lit w)

pub out-convert : (e : CoreExprNode) (f : CoreExpr) → e ≡ node.Convert f → out-CoreExprNode e ≡ tree.Convert f
out-convert e f is = ap out-CoreExprNode (is ∙ sym (node.rolls-Convert f)) ∙ out-roll-CoreExprNode (tree.Convert f)

pub out-alone : (e : CoreExprNode) (o : Op) (f : CoreExpr) → e ≡ node.Operate o f None → out-CoreExprNode e ≡ tree.Operate o f None
out-alone e o f is = ap out-CoreExprNode (is ∙ sym (node.rolls-Operate o f None)) ∙ out-roll-CoreExprNode (tree.Operate o f None)

pub out-two : (e : CoreExprNode) (o : Op) (f r : CoreExpr) → e ≡ node.Operate o f (Some r) → out-CoreExprNode e ≡ tree.Operate o f (Some r)
out-two e o f r is = ap out-CoreExprNode (is ∙ sym (node.rolls-Operate o f (Some r))) ∙ out-roll-CoreExprNode (tree.Operate o f (Some r))

pub out-choice : (e : CoreExprNode) (t f r : CoreExpr) → e ≡ node.Choose t f r → out-CoreExprNode e ≡ tree.Choose t f r
out-choice e t f r is = ap out-CoreExprNode (is ∙ sym (node.rolls-Choose t f r)) ∙ out-roll-CoreExprNode (tree.Choose t f r)

pub out-pick : (e : CoreExprNode) (f : CoreExpr) (q : CorePick) → e ≡ node.Pick f q → out-CoreExprNode e ≡ tree.Pick f q
out-pick e f q is = ap out-CoreExprNode (is ∙ sym (node.rolls-Pick f q)) ∙ out-roll-CoreExprNode (tree.Pick f q)

pub out-join : (e : CoreExprNode) (fs : List CoreExpr) → e ≡ node.Join fs → out-CoreExprNode e ≡ tree.Join fs
out-join e fs is = ap out-CoreExprNode (is ∙ sym (node.rolls-Join fs)) ∙ out-roll-CoreExprNode (tree.Join fs)

pub out-bit : (q : CorePick) (k : Kind) (i : CoreExpr) → q ≡ pick.Bit k i → out-CorePick q ≡ tree.Bit k i
out-bit q k i is = ap out-CorePick (is ∙ sym (pick.rolls-Bit k i)) ∙ out-roll-CorePick (tree.Bit k i)

pub out-range : (q : CorePick) (k : Kind) (h l : ℕ) → q ≡ pick.Range k h l → out-CorePick q ≡ tree.Range k h l
out-range q k h l is = ap out-CorePick (is ∙ sym (pick.rolls-Range k h l)) ∙ out-roll-CorePick (tree.Range k h l)
