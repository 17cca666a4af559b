-- What the parts of emitted expressions stand for, by their nodes.
use Rattle.std.proofs.Common.{◌≡◌, ℕ, Bool, true, List, [], ◌∷◌, map, ap, ◌∙◌, refl}
use Rattle.scc_svtree.specs.declared.expr.SvExpr.{SvExpr, fold-roll-SvExpr}
use Rattle.scc_svtree.specs.declared.expr.SvExprNode.{SvExprNode, roll-SvExprNode, fold-roll-SvExprNode}
use Rattle.scc_svtree.specs.declared.expr.SvExprNode.TheVariants as variant
use Rattle.scc_svtree.specs.declared.expr.SvExprNode.TheOpen as node
use denote.Hole.Carrier.{roll}
use Rattle.scc_svtree.specs.declared.expr.SvLiteral.{SvLiteral}
use Rattle.scc_svtree.specs.declared.expr.SvLeft.{SvLeft}
use Rattle.scc_svtree.specs.declared.expr.SvUnary.{SvUnary}
use Rattle.scc_svtree.specs.declared.expr.SvBinary.{SvBinary}
use Rattle.scc_svtree.specs.Term as term
use Rattle.scc_svtree.specs.Term.{Term, term_node, term_of, joined}
use Rattle.scc_lower_spec.specs.Conversion.{takes_own_size}

abbrev boxed : SvExprNode → SvExpr
boxed n = record { node = n }

pub term_literal : (e : SvExpr) (l : SvLiteral) → e.node ≡ variant.Literal l → term_of e ≡ term.Literal l.width l.value.bits
unfolding roll-SvExprNode roll
term_literal e l h =
    ap (λ n. term_of (boxed n)) h ∙ ap (λ n. term_of (boxed n)) (variant.rolls-Literal l)
    ∙ fold-roll-SvExpr Term Term term_node (λ e. e.node) (record { node = roll-SvExprNode (node.Literal l) })
    ∙ fold-roll-SvExprNode Term Term term_node (λ e. e.node) (node.Literal l)

pub term_left : (e : SvExpr) (l : SvLeft) → e.node ≡ variant.Left l → term_of e ≡ term.Part l
unfolding roll-SvExprNode roll
term_left e l h =
    ap (λ n. term_of (boxed n)) h ∙ ap (λ n. term_of (boxed n)) (variant.rolls-Left l)
    ∙ fold-roll-SvExpr Term Term term_node (λ e. e.node) (record { node = roll-SvExprNode (node.Left l) })
    ∙ fold-roll-SvExprNode Term Term term_node (λ e. e.node) (node.Left l)

pub term_unary : (e : SvExpr) (o : SvUnary) (a : SvExpr) → e.node ≡ variant.Unary o a → term_of e ≡ term.Unary o (term_of a)
unfolding roll-SvExprNode roll
term_unary e o a h =
    ap (λ n. term_of (boxed n)) h ∙ ap (λ n. term_of (boxed n)) (variant.rolls-Unary o a)
    ∙ fold-roll-SvExpr Term Term term_node (λ e. e.node) (record { node = roll-SvExprNode (node.Unary o a) })
    ∙ fold-roll-SvExprNode Term Term term_node (λ e. e.node) (node.Unary o a)

pub term_binary : (e : SvExpr) (o : SvBinary) (a b : SvExpr) → e.node ≡ variant.Binary o a b → term_of e ≡ term.Binary o (term_of a) (term_of b)
unfolding roll-SvExprNode roll
term_binary e o a b h =
    ap (λ n. term_of (boxed n)) h ∙ ap (λ n. term_of (boxed n)) (variant.rolls-Binary o a b)
    ∙ fold-roll-SvExpr Term Term term_node (λ e. e.node) (record { node = roll-SvExprNode (node.Binary o a b) })
    ∙ fold-roll-SvExprNode Term Term term_node (λ e. e.node) (node.Binary o a b)

pub term_cond : (e : SvExpr) (c a b : SvExpr) → e.node ≡ variant.Cond c a b → term_of e ≡ term.Cond (term_of c) (term_of a) (term_of b)
unfolding roll-SvExprNode roll
term_cond e c a b h =
    ap (λ n. term_of (boxed n)) h ∙ ap (λ n. term_of (boxed n)) (variant.rolls-Cond c a b)
    ∙ fold-roll-SvExpr Term Term term_node (λ e. e.node) (record { node = roll-SvExprNode (node.Cond c a b) })
    ∙ fold-roll-SvExprNode Term Term term_node (λ e. e.node) (node.Cond c a b)

pub term_concat : (e : SvExpr) (ps : List SvExpr) → e.node ≡ variant.Concat ps → term_of e ≡ joined (map term_of ps)
unfolding roll-SvExprNode roll
term_concat e ps h =
    ap (λ n. term_of (boxed n)) h ∙ ap (λ n. term_of (boxed n)) (variant.rolls-Concat ps)
    ∙ fold-roll-SvExpr Term Term term_node (λ e. e.node) (record { node = roll-SvExprNode (node.Concat ps) })
    ∙ fold-roll-SvExprNode Term Term term_node (λ e. e.node) (node.Concat ps)

pub term_cast : (e : SvExpr) (w : ℕ) (a : SvExpr) → e.node ≡ variant.Cast w a → term_of e ≡ term.Cast w (term_of a)
unfolding roll-SvExprNode roll
term_cast e w a h =
    ap (λ n. term_of (boxed n)) h ∙ ap (λ n. term_of (boxed n)) (variant.rolls-Cast w a)
    ∙ fold-roll-SvExpr Term Term term_node (λ e. e.node) (record { node = roll-SvExprNode (node.Cast w a) })
    ∙ fold-roll-SvExprNode Term Term term_node (λ e. e.node) (node.Cast w a)

pub term_sign : (e : SvExpr) (s : Bool) (a : SvExpr) → e.node ≡ variant.Sign s a → term_of e ≡ term.Sign s (term_of a)
unfolding roll-SvExprNode roll
term_sign e s a h =
    ap (λ n. term_of (boxed n)) h ∙ ap (λ n. term_of (boxed n)) (variant.rolls-Sign s a)
    ∙ fold-roll-SvExpr Term Term term_node (λ e. e.node) (record { node = roll-SvExprNode (node.Sign s a) })
    ∙ fold-roll-SvExprNode Term Term term_node (λ e. e.node) (node.Sign s a)

pub joined_own : (ts : List Term) → takes_own_size (joined ts) ≡ true
joined_own [] = refl
joined_own (t ∷ []) = refl
joined_own (t ∷ u ∷ ts) = refl
