-- Whether a place is one of a node of an expression or a type.
use Rattle.std.specs.Prelude.{Bool, false, ◌&&◌, ◌||◌, nat_eq, List, [], ◌∷◌, Option, Some, None}
use Rattle.scc_base.specs.declared.refusal.Place.{Place}
use Rattle.scc_tree.specs.declared.expr.Expr.{Expr, fold-Expr}
use Rattle.scc_tree.specs.declared.expr.ExprNode.{ExprNode, fold-ExprNode}
use Rattle.scc_tree.specs.declared.expr.Link.{Link, fold-Link}
use Rattle.scc_tree.specs.declared.expr.Part.{Part, fold-Part}
use Rattle.scc_tree.specs.declared.expr.PartNode.{PartNode, fold-PartNode}
use Rattle.scc_tree.specs.declared.ty.Ty.{Ty, fold-Ty}
use Rattle.scc_tree.specs.declared.ty.TyNode.{TyNode, fold-TyNode}
use Rattle.scc_tree.specs.declared.ty.TyArg.{TyArg, fold-TyArg}
use Rattle.scc_tree.specs.declared.expr.ExprNode.TheOpen.{ExprNode-F, PartNode-F, TyArg-F, TyNode-F, Expr-F, Link-F, Part-F, Ty-F}
use Rattle.scc_tree.specs.declared.expr.ExprNode.TheOpen as layer

-- the places of nodes
abbrev pub Places : Type 0
Places = Place → Bool

abbrev pub is_at : Place → Places
is_at a b = nat_eq a.file b.file && nat_eq a.at b.at

abbrev pub none : Places
none p = false

abbrev pub or : Places → Places → Places
or a b p = a p || b p

abbrev pub any : List Places → Places
any [] p = false
any (x ∷ xs) p = x p || any xs p

abbrev pub any_if : Option (List Places) → Places
any_if None p = false
any_if (Some xs) p = any xs p

abbrev pub one_if : Option Places → Places
one_if None p = false
one_if (Some x) p = x p

abbrev pub of_node : ExprNode-F Places Places Places Places Places Places Places Places → Places
of_node (layer.ExprNode::Number kind word) = none
of_node layer.This = none
of_node layer.Null = none
of_node layer.Text = none
of_node (layer.Ident name) = none
of_node (layer.Scoped ty member) = ty
of_node (layer.Chain first rest) = or first (any rest)
of_node (layer.Unary op of) = of
of_node (layer.Cond test x y) = or test (or x y)
of_node (layer.Cast ty of) = or ty of
of_node (layer.Parts of parts) = or of (any parts)
of_node (layer.Concat list) = any list
of_node (layer.Make ty args) = or ty (any args)

abbrev pub of_part_node : PartNode-F Places Places Places Places Places Places Places Places → Places
of_part_node (layer.Index e) = e
of_part_node (layer.Member name) = none
of_part_node (layer.Arrow name) = none
of_part_node (layer.Call args) = any args

abbrev pub of_arg : TyArg-F Places Places Places Places Places Places Places Places → Places
of_arg (layer.Value e) = e
of_arg (layer.TyArg::Named t) = t

abbrev pub of_ty_node : TyNode-F Places Places Places Places Places Places Places Places → Places
of_ty_node (layer.TyNode::Number kind) = none
of_ty_node (layer.Sized family width) = width
of_ty_node (layer.Input t) = t
of_ty_node (layer.Output t) = t
of_ty_node (layer.Signal t) = t
of_ty_node (layer.Vector t) = t
of_ty_node layer.ModuleName = none
of_ty_node (layer.TyNode::Named name args) = any_if args

abbrev pub of_expr : Expr-F Places Places Places Places Places Places Places Places → Places
of_expr e = or (is_at e.place) e.node

abbrev pub of_link : Link-F Places Places Places Places Places Places Places Places → Places
of_link l = or (is_at l.place) l.operand

abbrev pub of_part : Part-F Places Places Places Places Places Places Places Places → Places
of_part l = or (is_at l.place) l.node

abbrev pub of_ty : Ty-F Places Places Places Places Places Places Places Places → Places
of_ty t = or (is_at t.place) t.node

abbrev pub expr : Expr → Places
expr = fold-Expr Places Places Places Places Places Places Places Places of_node of_part_node of_arg of_ty_node of_expr of_link of_part of_ty

abbrev pub node : ExprNode → Places
node = fold-ExprNode Places Places Places Places Places Places Places Places of_node of_part_node of_arg of_ty_node of_expr of_link of_part of_ty

abbrev pub link : Link → Places
link = fold-Link Places Places Places Places Places Places Places Places of_node of_part_node of_arg of_ty_node of_expr of_link of_part of_ty

abbrev pub part : Part → Places
part = fold-Part Places Places Places Places Places Places Places Places of_node of_part_node of_arg of_ty_node of_expr of_link of_part of_ty

abbrev pub part_node : PartNode → Places
part_node = fold-PartNode Places Places Places Places Places Places Places Places of_node of_part_node of_arg of_ty_node of_expr of_link of_part of_ty

abbrev pub ty : Ty → Places
ty = fold-Ty Places Places Places Places Places Places Places Places of_node of_part_node of_arg of_ty_node of_expr of_link of_part of_ty

abbrev pub ty_node : TyNode → Places
ty_node = fold-TyNode Places Places Places Places Places Places Places Places of_node of_part_node of_arg of_ty_node of_expr of_link of_part of_ty

abbrev pub arg : TyArg → Places
arg = fold-TyArg Places Places Places Places Places Places Places Places of_node of_part_node of_arg of_ty_node of_expr of_link of_part of_ty
