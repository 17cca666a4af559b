-- What a tree stands for, by its node.
use Rattle.std.proofs.Common.{◌≡◌, List, map, ap, ◌∙◌}
use Rattle.scc_svtree.specs.declared.expr.SvExpr.{SvExpr, fold-roll-SvExpr}
use Rattle.scc_svtree.specs.declared.expr.SvExprNode.{SvExprNode, roll-SvExprNode, fold-roll-SvExprNode}
use Rattle.scc_svtree.specs.declared.expr.SvExprNode.TheVariants.{Concat, rolls-Concat, Binary, rolls-Binary}
use Rattle.scc_svtree.specs.declared.expr.SvExprNode.TheOpen as node
use denote.Hole.Carrier.{roll}
use Rattle.scc_svtree.specs.declared.expr.SvBinary.{SvBinary}
use Rattle.scc_svtree.specs.Term as term
use Rattle.scc_svtree.specs.Term.{Term, term_node, term_of, joined}

abbrev boxed : SvExprNode → SvExpr
boxed n = record { node = n }

pub term_concat : (e : SvExpr) (ps : List SvExpr) → e.node ≡ Concat ps → term_of e ≡ joined (map term_of ps)
unfolding roll-SvExprNode roll
term_concat e ps h =
    ap (λ n. term_of (boxed n)) h ∙ ap (λ n. term_of (boxed n)) (rolls-Concat ps)
    ∙ fold-roll-SvExpr Term Term term_node (λ e. e.node) (record { node = roll-SvExprNode (node.Concat ps) })
    ∙ fold-roll-SvExprNode Term Term term_node (λ e. e.node) (node.Concat ps)

pub term_binary : (e : SvExpr) (o : SvBinary) (a b : SvExpr) → e.node ≡ Binary o a b → term_of e ≡ term.Binary o (term_of a) (term_of b)
unfolding roll-SvExprNode roll
term_binary e o a b h =
    ap (λ n. term_of (boxed n)) h ∙ ap (λ n. term_of (boxed n)) (rolls-Binary o a b)
    ∙ fold-roll-SvExpr Term Term term_node (λ e. e.node) (record { node = roll-SvExprNode (node.Binary o a b) })
    ∙ fold-roll-SvExprNode Term Term term_node (λ e. e.node) (node.Binary o a b)
