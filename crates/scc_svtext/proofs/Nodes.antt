-- The text of an expression, by its node.
use Rattle.std.proofs.Common.{◌≡◌, ℕ, Bool, List, ◌++◌, map, ap, ◌∙◌, decimal, true}
use Rattle.scc_svtree.specs.declared.expr.SvExpr.{SvExpr, fold-roll-SvExpr}
use Rattle.scc_svtree.specs.declared.expr.SvExprNode.{SvExprNode, roll-SvExprNode, fold-roll-SvExprNode}
use Rattle.scc_svtree.specs.declared.expr.SvExprNode.TheVariants as variant
use Rattle.scc_svtree.specs.declared.expr.SvExprNode.TheOpen as node
use Rattle.scc_svtree.specs.declared.expr.SvLiteral.{SvLiteral}
use Rattle.scc_svtree.specs.declared.expr.SvLeft.{SvLeft}
use Rattle.scc_svtree.specs.declared.expr.SvUnary.{SvUnary}
use Rattle.scc_svtree.specs.declared.expr.SvBinary.{SvBinary}
use denote.Hole.Carrier.{roll}
use Rattle.scc_svtext.specs.declared.fixed.Fixed.TheVariants as piece
use Rattle.scc_svtext.specs.Fixed.{fixed_text}
use Rattle.scc_svtext.specs.Pieces.{literal_text, left_text}
use Rattle.scc_svtext.specs.ExprText.{node_text, expr_text, unary_text, binary_text, sign_text, joined}

abbrev boxed : SvExprNode → SvExpr
boxed n = record { node = n }

pub expr_literal : (names : List (List ℕ)) (e : SvExpr) (l : SvLiteral) → e.node ≡ variant.Literal l → expr_text names e ≡ literal_text l.width l.value.bits
unfolding roll-SvExprNode roll
expr_literal names e l h =
    ap (λ n. expr_text names (boxed n)) h ∙ ap (λ n. expr_text names (boxed n)) (variant.rolls-Literal l)
    ∙ fold-roll-SvExpr (List ℕ) (List ℕ) (node_text names) (λ e. e.node) (record { node = roll-SvExprNode (node.Literal l) })
    ∙ fold-roll-SvExprNode (List ℕ) (List ℕ) (node_text names) (λ e. e.node) (node.Literal l)

pub expr_left : (names : List (List ℕ)) (e : SvExpr) (l : SvLeft) → e.node ≡ variant.Left l → expr_text names e ≡ left_text names l
unfolding roll-SvExprNode roll
expr_left names e l h =
    ap (λ n. expr_text names (boxed n)) h ∙ ap (λ n. expr_text names (boxed n)) (variant.rolls-Left l)
    ∙ fold-roll-SvExpr (List ℕ) (List ℕ) (node_text names) (λ e. e.node) (record { node = roll-SvExprNode (node.Left l) })
    ∙ fold-roll-SvExprNode (List ℕ) (List ℕ) (node_text names) (λ e. e.node) (node.Left l)

pub expr_unary : (names : List (List ℕ)) (e : SvExpr) (o : SvUnary) (a : SvExpr) → e.node ≡ variant.Unary o a → expr_text names e ≡ fixed_text piece.Open ++ unary_text o ++ expr_text names a ++ fixed_text piece.Close
unfolding roll-SvExprNode roll
expr_unary names e o a h =
    ap (λ n. expr_text names (boxed n)) h ∙ ap (λ n. expr_text names (boxed n)) (variant.rolls-Unary o a)
    ∙ fold-roll-SvExpr (List ℕ) (List ℕ) (node_text names) (λ e. e.node) (record { node = roll-SvExprNode (node.Unary o a) })
    ∙ fold-roll-SvExprNode (List ℕ) (List ℕ) (node_text names) (λ e. e.node) (node.Unary o a)

pub expr_binary : (names : List (List ℕ)) (e : SvExpr) (o : SvBinary) (a b : SvExpr) → e.node ≡ variant.Binary o a b → expr_text names e ≡ fixed_text piece.Open ++ expr_text names a ++ fixed_text piece.Space ++ binary_text o ++ fixed_text piece.Space ++ expr_text names b ++ fixed_text piece.Close
unfolding roll-SvExprNode roll
expr_binary names e o a b h =
    ap (λ n. expr_text names (boxed n)) h ∙ ap (λ n. expr_text names (boxed n)) (variant.rolls-Binary o a b)
    ∙ fold-roll-SvExpr (List ℕ) (List ℕ) (node_text names) (λ e. e.node) (record { node = roll-SvExprNode (node.Binary o a b) })
    ∙ fold-roll-SvExprNode (List ℕ) (List ℕ) (node_text names) (λ e. e.node) (node.Binary o a b)

pub expr_cond : (names : List (List ℕ)) (e : SvExpr) (c a b : SvExpr) → e.node ≡ variant.Cond c a b → expr_text names e ≡ fixed_text piece.Open ++ expr_text names c ++ fixed_text piece.Question ++ expr_text names a ++ fixed_text piece.Colon ++ expr_text names b ++ fixed_text piece.Close
unfolding roll-SvExprNode roll
expr_cond names e c a b h =
    ap (λ n. expr_text names (boxed n)) h ∙ ap (λ n. expr_text names (boxed n)) (variant.rolls-Cond c a b)
    ∙ fold-roll-SvExpr (List ℕ) (List ℕ) (node_text names) (λ e. e.node) (record { node = roll-SvExprNode (node.Cond c a b) })
    ∙ fold-roll-SvExprNode (List ℕ) (List ℕ) (node_text names) (λ e. e.node) (node.Cond c a b)

pub expr_concat : (names : List (List ℕ)) (e : SvExpr) (ps : List SvExpr) → e.node ≡ variant.Concat ps → expr_text names e ≡ fixed_text piece.BraceOpen ++ joined true (map (expr_text names) ps) ++ fixed_text piece.BraceClose
unfolding roll-SvExprNode roll
expr_concat names e ps h =
    ap (λ n. expr_text names (boxed n)) h ∙ ap (λ n. expr_text names (boxed n)) (variant.rolls-Concat ps)
    ∙ fold-roll-SvExpr (List ℕ) (List ℕ) (node_text names) (λ e. e.node) (record { node = roll-SvExprNode (node.Concat ps) })
    ∙ fold-roll-SvExprNode (List ℕ) (List ℕ) (node_text names) (λ e. e.node) (node.Concat ps)

pub expr_cast : (names : List (List ℕ)) (e : SvExpr) (w : ℕ) (a : SvExpr) → e.node ≡ variant.Cast w a → expr_text names e ≡ decimal w ++ fixed_text piece.CastOpen ++ expr_text names a ++ fixed_text piece.Close
unfolding roll-SvExprNode roll
expr_cast names e w a h =
    ap (λ n. expr_text names (boxed n)) h ∙ ap (λ n. expr_text names (boxed n)) (variant.rolls-Cast w a)
    ∙ fold-roll-SvExpr (List ℕ) (List ℕ) (node_text names) (λ e. e.node) (record { node = roll-SvExprNode (node.Cast w a) })
    ∙ fold-roll-SvExprNode (List ℕ) (List ℕ) (node_text names) (λ e. e.node) (node.Cast w a)

pub expr_sign : (names : List (List ℕ)) (e : SvExpr) (s : Bool) (a : SvExpr) → e.node ≡ variant.Sign s a → expr_text names e ≡ sign_text s ++ expr_text names a ++ fixed_text piece.Close
unfolding roll-SvExprNode roll
expr_sign names e s a h =
    ap (λ n. expr_text names (boxed n)) h ∙ ap (λ n. expr_text names (boxed n)) (variant.rolls-Sign s a)
    ∙ fold-roll-SvExpr (List ℕ) (List ℕ) (node_text names) (λ e. e.node) (record { node = roll-SvExprNode (node.Sign s a) })
    ∙ fold-roll-SvExprNode (List ℕ) (List ℕ) (node_text names) (λ e. e.node) (node.Sign s a)
