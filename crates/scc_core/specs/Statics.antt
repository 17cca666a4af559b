-- Values of expressions that are made of literals and fixed cells. This project's own rule; C++ has constant expressions ([expr.const]) alone.
use Rattle.std.specs.Prelude.{not, nat_eq, if◌then◌else◌, List, Option, Some, None, option_and_then}
use Rattle.scc_bits_kinds.specs.declared.kind.Kind.{Kind}
use Rattle.scc_bits_kinds.specs.declared.op.Op.{Op}
use Rattle.scc_bits.specs.Value.{Number}
use Rattle.scc_core.specs.declared.expr.CoreExpr.{CoreExpr, fold-CoreExpr}
use Rattle.scc_core.specs.declared.expr.CoreLeft.{CoreLeft, fold-CoreLeft}
use Rattle.scc_core.specs.declared.expr.CorePart.{CorePart, fold-CorePart}
use Rattle.scc_core.specs.declared.expr.CorePick.{CorePick, fold-CorePick}
use Rattle.scc_core.specs.declared.expr.CoreBase.TheOpen.{CoreBase-F, CoreExprNode-F, CorePart-F, CorePick-F, CoreExpr-F, CoreLeft-F}
use Rattle.scc_core.specs.declared.expr.CoreBase.TheOpen as tree
use Rattle.scc_core.specs.declared.program.Cell.{Cell}
use Rattle.scc_core.specs.Elements.{Part, Member, Element, Facts, element, fixed, whole_cell}
use Rattle.scc_core.specs.Names.{sought}
use Rattle.scc_core.specs.Numbers.{valued, stored_in, answer, selected, bit, all_joined}

-- the operand of a unary operator stands for both
abbrev pub operated : Kind → Op → Number → Option (Option Number) → Option Number
operated k o x None = option_and_then (valued k) (answer o x x)
operated k o x (Some b) = option_and_then (λ y. option_and_then (valued k) (answer o x y)) b

abbrev pub chosen : Kind → Number → Number → Number → Option Number
chosen k t a b = stored_in k (if not (nat_eq t.word 0) then a else b)

-- the layers of a tree over what its parts stand for
abbrev pub Base : Type 0
Base = List Part → Option Number

abbrev pub Node : Type 0
Node = Kind → Option Number

abbrev pub Pick : Type 0
Pick = Number → Kind → Option Number

abbrev pub Left : Type 0
Left = Kind → Option Number

abbrev pub Expr : Type 0
Expr = Option Number

abbrev pub picked : Option Pick → Kind → Number → Option Number
picked None k v = Some v
picked (Some pick) k v = pick v k

abbrev pub base_node : Facts → CoreBase-F Base Node Part Pick Expr Left → Base
base_node g (tree.Cell n) ps = whole_cell g n ps
base_node g (tree.Prefix name) ps = element g ps name
base_node g (tree.Follow pointer soft) ps = None
base_node g tree.Null ps = None

abbrev pub expr_node : CoreExprNode-F Base Node Part Pick Expr Left → Node
expr_node (tree.Lit w) k = valued k w.bits
expr_node (tree.Load l) k = l k
expr_node (tree.Read l) k = None
expr_node (tree.Convert e) k = option_and_then (stored_in k) e
expr_node (tree.Operate o a b) k = option_and_then (λ x. operated k o x b) a
expr_node (tree.Choose t a b) k = option_and_then (λ x. option_and_then (λ y. option_and_then (λ z. chosen k x y z) b) a) t
expr_node (tree.Pick e pick) k = option_and_then (λ x. pick x k) e
expr_node (tree.Join parts) k = option_and_then (λ v. valued k v.word) (all_joined parts)

abbrev pub part_node : CorePart-F Base Node Part Pick Expr Left → Part
part_node (tree.Member n) = Member n
part_node (tree.Index size at) = Element size at

abbrev pub pick_node : CorePick-F Base Node Part Pick Expr Left → Pick
pick_node (tree.Bit of at) v k = option_and_then (λ i. valued k (bit v i)) at
pick_node (tree.Range of h l) v k = option_and_then (valued k) (selected h l v)

abbrev pub expr_step : CoreExpr-F Base Node Part Pick Expr Left → Expr
expr_step e = e.node e.kind

abbrev pub left_step : CoreLeft-F Base Node Part Pick Expr Left → Left
left_step l k = option_and_then (picked l.pick k) (l.base l.parts)

-- the value of an expression, and what a location, a part and a pick stand for
abbrev pub value_in : Facts → CoreExpr → Option Number
value_in g = fold-CoreExpr Base Node Part Pick Expr Left (base_node g) expr_node part_node pick_node expr_step left_step

abbrev pub left_value : Facts → CoreLeft → Left
left_value g = fold-CoreLeft Base Node Part Pick Expr Left (base_node g) expr_node part_node pick_node expr_step left_step

abbrev pub part_in : Facts → CorePart → Part
part_in g = fold-CorePart Base Node Part Pick Expr Left (base_node g) expr_node part_node pick_node expr_step left_step

abbrev pub pick_in : Facts → CorePick → Pick
pick_in g = fold-CorePick Base Node Part Pick Expr Left (base_node g) expr_node part_node pick_node expr_step left_step

-- by the fixed cells alone
abbrev pub facts_of : List Cell → Facts
facts_of cells = record { held = fixed cells; fixed_at = fixed cells; place = λ ss name. sought ss name cells }

-- the value of an expression of literals and fixed cells
unfoldable pub static_of : List Cell → CoreExpr → Option Number
static_of cells e = value_in (facts_of cells) e
