-- Trees of expressions and types, as the grammar builds them.
use Rattle.std.specs.Prelude.{ℕ, Bool, true, false, List, [], ◌∷◌, if◌then◌else◌}
use Rattle.scc_base.specs.declared.refusal.Place.{Place}
use Rattle.scc_bits_kinds.specs.declared.kind.Kind.{Kind}
use Rattle.scc_bits_kinds.specs.declared.kind.Kind.TheVariants as kind
use Rattle.scc_bits_kinds.specs.declared.op.Op.{Op}
use Rattle.scc_tree.specs.declared.expr.Expr.{Expr}
use Rattle.scc_tree.specs.declared.expr.ExprNode.TheVariants as node
use Rattle.scc_tree.specs.declared.expr.Link.{Link, roll-Link}
use Rattle.scc_tree.specs.declared.expr.Part.{Part, roll-Part}
use Rattle.scc_tree.specs.declared.expr.PartNode.{PartNode}
use Rattle.scc_tree.specs.declared.ty.Ty.{Ty}
use Rattle.scc_tree.specs.declared.ty.TyNode.{TyNode}
use Rattle.scc_tree.specs.declared.ty.TyNode.TheVariants as ty
use Rattle.scc_tree.specs.Node.{expr_of, ty_of}
use Rattle.scc_grammar_terminals.specs.declared.terminal.Holder.{Holder}
use Rattle.scc_grammar_terminals.specs.declared.terminal.Holder.TheVariants as holder

-- a type without `const`
abbrev pub base_of : Place → TyNode → Ty
base_of place n = ty_of place false n

-- the type with a `const` at the place before it
abbrev pub constant_of : Place → Ty → Ty
constant_of place of = ty_of place true of.node

abbrev pub native : ℕ → Bool → Kind
native bits signed = kind.Native bits signed

abbrev pub held : Holder → Ty → TyNode
held holder.Input of = ty.Input of
held holder.Output of = ty.Output of
held holder.Signal of = ty.Signal of
held holder.Vector of = ty.Vector of

abbrev pub clock_of : Place → Ty
clock_of place = base_of place (ty.Input (base_of place (ty.Number kind.Bool)))

-- `true` and `false` are the numbers 1 and 0
abbrev pub truth_of : Place → Bool → Expr
truth_of place b = expr_of place (node.Number kind.Bool (record { bits = if b then 1 else 0 }))

abbrev pub link : Op → Place → Expr → Link
link op place operand = roll-Link (record { op = op; place = place; operand = operand })

abbrev pub part_of : Place → PartNode → Part
part_of place n = roll-Part (record { place = place; node = n })

-- operands without operators are the one operand
abbrev pub chain_of : Place → Expr → List Link → Expr
chain_of place first [] = first
chain_of place first (l ∷ ls) = expr_of place (node.Chain first (l ∷ ls))

abbrev pub parts_of : Place → Expr → List Part → Expr
parts_of place first [] = first
parts_of place first (p ∷ ps) = expr_of place (node.Parts first (p ∷ ps))

-- brackets round one expression make no node
abbrev pub brackets_of : Place → Expr → List Expr → Expr
brackets_of place first [] = first
brackets_of place first (e ∷ es) = expr_of place (node.Concat (first ∷ e ∷ es))
