-- The expressions and types of a source's tree, without their boxes. This project's own.
use Rattle.std.specs.Prelude.{Bool, true, false, List, [], ◌∷◌, map, Option, Some, None}
use Rattle.scc_base.specs.declared.refusal.Place.{Place}
use Rattle.scc_tree.specs.declared.expr.Expr.{Expr, fold-Expr}
use Rattle.scc_tree.specs.declared.ty.Ty.{Ty as Typed, fold-Ty}
use Rattle.scc_tree.specs.declared.ty.TyArg.{TyArg, fold-TyArg}
use Rattle.scc_tree.specs.declared.expr.ExprNode.TheOpen.{ExprNode-F, PartNode-F, TyArg-F, TyNode-F, Expr-F, Link-F, Part-F, Ty-F}
use Rattle.scc_tree.specs.declared.expr.ExprNode.TheOpen as layer
use Rattle.scc_templates_spec.specs.Tree.{Tree, Trees, Ty, TyArgs}
use Rattle.scc_templates_spec.specs.Tree as tree

-- what a node stands for, given its place; what stands behind an expression, given the place of the whole
abbrev pub Node : Type 0
Node = Place → Tree

abbrev pub Behind : Type 0
Behind = Place → Tree → Tree

abbrev pub PartNode : Type 0
PartNode = Place → Behind

abbrev pub TyNode : Type 0
TyNode = Place → Ty

abbrev pub all_of : List Tree → Trees
all_of [] = tree.Nil
all_of (t ∷ ts) = tree.Cons t (all_of ts)

abbrev pub args_of : List (TyArgs → TyArgs) → TyArgs
args_of [] = tree.NoArgs
args_of (f ∷ fs) = f (args_of fs)

abbrev pub from_left : Place → Tree → List Behind → Tree
from_left p t [] = t
from_left p t (f ∷ fs) = from_left p (f p t) fs

abbrev pub named : Option (List (TyArgs → TyArgs)) → Bool
named None = false
named (Some as_given) = true

abbrev pub given : Option (List (TyArgs → TyArgs)) → TyArgs
given None = tree.NoArgs
given (Some as_given) = args_of as_given

abbrev pub of_node : ExprNode-F Node PartNode (TyArgs → TyArgs) TyNode Tree Behind Behind Ty → Node
of_node (layer.ExprNode::Number kind word) p = tree.Number p kind word.bits
of_node layer.This p = tree.This p
of_node layer.Null p = tree.Null p
of_node layer.Text p = tree.Text p
of_node (layer.Ident name) p = tree.Name p name.0
of_node (layer.Scoped ty member) p = tree.Scoped p ty member.0
of_node (layer.Chain first rest) p = from_left p first rest
of_node (layer.Unary op of) p = tree.Before p op of
of_node (layer.Cond test x y) p = tree.Choose p test x y
of_node (layer.Cast ty of) p = tree.Cast p ty of
of_node (layer.Parts of parts) p = from_left p of parts
of_node (layer.Concat list) p = tree.Concat p (all_of list)
of_node (layer.Make ty args) p = tree.Make p ty (all_of args)

abbrev pub of_part_node : PartNode-F Node PartNode (TyArgs → TyArgs) TyNode Tree Behind Behind Ty → PartNode
of_part_node (layer.Index e) own p t = tree.Index p t e
of_part_node (layer.Member name) own p t = tree.Dot p own t name.0
of_part_node (layer.Arrow name) own p t = tree.Arrow p own t name.0
of_part_node (layer.Call args) own p t = tree.Call p t (all_of args)

abbrev pub of_arg : TyArg-F Node PartNode (TyArgs → TyArgs) TyNode Tree Behind Behind Ty → TyArgs → TyArgs
of_arg (layer.Value e) rest = tree.ByValue e rest
of_arg (layer.TyArg::Named t) rest = tree.ByType t rest

abbrev pub of_ty_node : TyNode-F Node PartNode (TyArgs → TyArgs) TyNode Tree Behind Behind Ty → TyNode
of_ty_node (layer.TyNode::Number kind) p = tree.OfKind p kind
of_ty_node (layer.Sized family width) p = tree.Sized p family width
of_ty_node (layer.Input t) p = tree.Input p t
of_ty_node (layer.Output t) p = tree.Output p t
of_ty_node (layer.Signal t) p = tree.Signal p t
of_ty_node (layer.Vector t) p = tree.Vector p t
of_ty_node layer.ModuleName p = tree.ModuleName p
of_ty_node (layer.TyNode::Named name args) p = tree.Named p name.0 (named args) (given args)

abbrev pub of_expr : Expr-F Node PartNode (TyArgs → TyArgs) TyNode Tree Behind Behind Ty → Tree
of_expr e = e.node e.place

abbrev pub of_link : Link-F Node PartNode (TyArgs → TyArgs) TyNode Tree Behind Behind Ty → Behind
of_link l p t = tree.Operate p l.place l.op t l.operand

abbrev pub of_part : Part-F Node PartNode (TyArgs → TyArgs) TyNode Tree Behind Behind Ty → Behind
of_part l = l.node l.place

abbrev pub of_ty : Ty-F Node PartNode (TyArgs → TyArgs) TyNode Tree Behind Behind Ty → Ty
of_ty t = t.node t.place

abbrev pub tree_of : Expr → Tree
tree_of = fold-Expr Node PartNode (TyArgs → TyArgs) TyNode Tree Behind Behind Ty of_node of_part_node of_arg of_ty_node of_expr of_link of_part of_ty

abbrev pub type_of : Typed → Ty
type_of = fold-Ty Node PartNode (TyArgs → TyArgs) TyNode Tree Behind Behind Ty of_node of_part_node of_arg of_ty_node of_expr of_link of_part of_ty

-- an argument before others
abbrev pub arg_of : TyArg → TyArgs → TyArgs
arg_of = fold-TyArg Node PartNode (TyArgs → TyArgs) TyNode Tree Behind Behind Ty of_node of_part_node of_arg of_ty_node of_expr of_link of_part of_ty

abbrev pub trees_of : List Expr → Trees
trees_of es = all_of (map tree_of es)

abbrev pub type_args_of : List TyArg → TyArgs
type_args_of as_given = args_of (map arg_of as_given)
