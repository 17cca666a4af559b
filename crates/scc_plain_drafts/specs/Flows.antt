-- What stands round a statement, as the definitions have it, and what types, shapes and trees say. This project's own.
use Rattle.std.specs.Prelude.{Bool, true, false, length}
use Rattle.scc_templates_scopes.specs.declared.ty.Base.{Base as Named}
use Rattle.scc_templates_scopes.specs.declared.ty.Base.TheVariants as named
use Rattle.scc_templates_scopes.specs.declared.ty.TypeOf.{TypeOf}
use Rattle.scc_tree.specs.declared.expr.Part.{Part, fold-Part}
use Rattle.scc_tree.specs.declared.expr.Link.{Link, fold-Link}
use Rattle.scc_templates_spec.specs.Tree.{Tree, Ty, TyArgs, Index, Text}
use Rattle.scc_templates_spec.specs.View.{Node, PartNode, TyNode, Behind, of_node, of_part_node, of_arg, of_ty_node, of_expr, of_link, of_part, of_ty}
use Rattle.scc_plain_tree.specs.declared.program.Shape.{Shape as Held}
use Rattle.scc_plain_view.specs.Plains.{reach_of}
use Rattle.scc_plain_spec.specs.Types.{Base, OfNumber, OfObject, InPort, OutPort, OfSignal, OfName, Typed}
use Rattle.scc_plain_spec.specs.Forms.{Shape}
use Rattle.scc_plain_spec.specs.Switch.{Flow}
use Rattle.scc_plain_drafts.specs.declared.flow.Flow.{Flow as Round}
use Rattle.scc_plain_drafts.specs.declared.form.Form.{Form as Formed}
use Rattle.scc_plain_drafts.specs.Forms.{Classes, base_in}

abbrev pub flow_in : Round → Flow
flow_in f = record { leave = f.leave; next = f.next; late = f.forbidden }

abbrev pub type_base_in : Classes → Named → Base
type_base_in n (named.Number k) = OfNumber k
type_base_in n (named.Class i) = OfObject (n i.0).class (n i.0).args
type_base_in n (named.Input k) = InPort k
type_base_in n (named.Output k) = OutPort k
type_base_in n (named.Signal k) = OfSignal k
type_base_in n named.ModuleName = OfName

abbrev pub typed_in : Classes → TypeOf → Typed
typed_in n t = record { base = type_base_in n t.base; vector = t.vector }

abbrev pub formed : Held → Formed
formed s = record { base = s.base; reach = s.reach; vector = s.vector; dims = length s.sizes }

abbrev pub shape_in : Classes → Held → Shape
shape_in n s = record { base = base_in n s.base; reach = reach_of s.reach; vector = s.vector; sizes = s.sizes }

-- an index stands at its end
abbrev pub is_index : Tree → Bool
is_index (Index p of at) = true
is_index t = false

abbrev pub is_text : Tree → Bool
is_text (Text p) = true
is_text t = false

-- what stands behind an expression: a part, and an operator with its operand
abbrev pub behind_of : Part → Behind
behind_of = fold-Part Node PartNode (TyArgs → TyArgs) TyNode Tree Behind Behind Ty of_node of_part_node of_arg of_ty_node of_expr of_link of_part of_ty

abbrev pub link_of : Link → Behind
link_of = fold-Link Node PartNode (TyArgs → TyArgs) TyNode Tree Behind Behind Ty of_node of_part_node of_arg of_ty_node of_expr of_link of_part of_ty
