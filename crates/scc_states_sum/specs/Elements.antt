-- How many elements stand under indices that aren't static.
use Rattle.std.specs.Prelude.{ℕ, ◌+◌, ◌*◌, min, List, [], ◌∷◌, map, Bool, true, false, ◌||◌, Option, Some, None, if◌then◌else◌}
use Rattle.scc_bits.specs.Value.{Number}
use Rattle.scc_core.specs.declared.expr.CoreBase.{CoreBase}
use Rattle.scc_core.specs.declared.expr.CoreExprNode.{CoreExprNode}
use Rattle.scc_core.specs.declared.expr.CorePart.{CorePart, para-CorePart}
use Rattle.scc_core.specs.declared.expr.CorePick.{CorePick, para-CorePick}
use Rattle.scc_core.specs.declared.expr.CoreExpr.{CoreExpr, para-CoreExpr}
use Rattle.scc_core.specs.declared.expr.CoreLeft.{CoreLeft, para-CoreLeft}
use Rattle.scc_core.specs.declared.expr.CoreBase.TheOpen.{CoreBase-F, CoreExprNode-F, CorePart-F, CorePick-F, CoreExpr-F, CoreLeft-F}
use Rattle.scc_core.specs.declared.expr.CoreBase.TheOpen as tree

-- where the count stops
abbrev pub most : ℕ
most = 1048577

abbrev pub cut : ℕ → ℕ
cut n = min n most

-- the sum of a list
abbrev pub total : List ℕ → ℕ
total [] = 0
total (n ∷ ns) = n + total ns

-- an index of a location: what stands inside it, and over how many elements it goes where it isn't static
pub record Part : Type 0 where
  pub inside : ℕ
  pub size : Option ℕ

abbrev pub is_open : Option ℕ → Bool
is_open None = false
is_open (Some n) = true

abbrev pub factor : Option ℕ → ℕ
factor None = 1
factor (Some n) = n

abbrev pub product : List ℕ → ℕ
product [] = 1
product (n ∷ ns) = n * product ns

abbrev pub some_open : List (Option ℕ) → Bool
some_open [] = false
some_open (o ∷ os) = is_open o || some_open os

-- the product of the sizes under indices that aren't static; nothing where there is none
abbrev pub under : List (Option ℕ) → ℕ
under sizes = if some_open sizes then product (map factor sizes) else 0

abbrev pub optional : {A : Type 0} → (A → ℕ) → Option A → ℕ
optional f None = 0
optional f (Some x) = f x

-- the layers of a tree, each part with what is counted in it; what a pointer leads to isn't looked at
abbrev pub Base : Type 0
Base = CoreBase × ℕ

abbrev pub Node : Type 0
Node = CoreExprNode × ℕ

abbrev pub Index : Type 0
Index = CorePart × Part

abbrev pub Pick : Type 0
Pick = CorePick × ℕ

abbrev pub Expr : Type 0
Expr = CoreExpr × ℕ

abbrev pub Left : Type 0
Left = CoreLeft × ℕ

abbrev pub in_base : CoreBase-F Base Node Index Pick Expr Left → ℕ
in_base b = 0

abbrev pub in_node : CoreExprNode-F Base Node Index Pick Expr Left → ℕ
in_node (tree.Lit w) = 0
in_node (tree.Load l) = l.1
in_node (tree.Read l) = l.1
in_node (tree.Convert e) = e.1
in_node (tree.Operate o a b) = a.1 + optional (λ e. e.1) b
in_node (tree.Choose t a b) = t.1 + (a.1 + b.1)
in_node (tree.Pick e k) = e.1 + k.1
in_node (tree.Join es) = total (map (λ e. e.1) es)

-- the size where a number isn't known
abbrev pub unknown : ℕ → Option Number → Option ℕ
unknown size None = Some size
unknown size (Some v) = None

abbrev pub in_part : (CoreExpr → Option Number) → CorePart-F Base Node Index Pick Expr Left → Part
in_part known (tree.Member n) = record { inside = 0; size = None }
in_part known (tree.Index size at) = record { inside = at.1; size = unknown size (known at.0) }

abbrev pub in_pick : CorePick-F Base Node Index Pick Expr Left → ℕ
in_pick (tree.Bit of at) = at.1
in_pick (tree.Range of h l) = 0

abbrev pub in_expr : CoreExpr-F Base Node Index Pick Expr Left → ℕ
in_expr e = e.node.1

abbrev pub in_left : CoreLeft-F Base Node Index Pick Expr Left → ℕ
in_left l = under (map (λ p. p.1.size) l.parts) + (total (map (λ p. p.1.inside) l.parts) + optional (λ k. k.1) l.pick)

-- the elements under the indices of an expression, of which `known` tells the numbers
unfoldable pub expr_elements : (CoreExpr → Option Number) → CoreExpr → ℕ
expr_elements known = para-CoreExpr ℕ ℕ Part ℕ ℕ ℕ in_base in_node (in_part known) in_pick in_expr in_left

unfoldable pub left_elements : (CoreExpr → Option Number) → CoreLeft → ℕ
left_elements known = para-CoreLeft ℕ ℕ Part ℕ ℕ ℕ in_base in_node (in_part known) in_pick in_expr in_left

unfoldable pub pick_elements : (CoreExpr → Option Number) → CorePick → ℕ
pick_elements known = para-CorePick ℕ ℕ Part ℕ ℕ ℕ in_base in_node (in_part known) in_pick in_expr in_left

unfoldable pub part_of : (CoreExpr → Option Number) → CorePart → Part
part_of known = para-CorePart ℕ ℕ Part ℕ ℕ ℕ in_base in_node (in_part known) in_pick in_expr in_left
