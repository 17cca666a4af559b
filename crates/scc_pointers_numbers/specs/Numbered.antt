-- Copies in which cells have other numbers. This project's own.
use Rattle.std.specs.Prelude.{◌≡◌, ℕ, nat_eq, if◌then◌else◌, List, [], ◌∷◌, map, Option, Some, None, option_map, option_and_then, slice_get}
use Rattle.scc_base.specs.declared.refusal.Place.{Place}
use Rattle.scc_bits_kinds.specs.declared.kind.Kind.{Kind}
use Rattle.scc_core.specs.declared.expr.CoreBase.{CoreBase, roll-CoreBase}
use Rattle.scc_core.specs.declared.expr.CoreExpr.{CoreExpr, fold-CoreExpr}
use Rattle.scc_core.specs.declared.expr.CoreExprNode.{CoreExprNode, roll-CoreExprNode}
use Rattle.scc_core.specs.declared.expr.CoreLeft.{CoreLeft, fold-CoreLeft}
use Rattle.scc_core.specs.declared.expr.CorePart.{CorePart, roll-CorePart, fold-CorePart}
use Rattle.scc_core.specs.declared.expr.CorePick.{CorePick, roll-CorePick, fold-CorePick}
use Rattle.scc_core.specs.declared.expr.CoreBase.TheOpen.{CoreBase-F, CoreExprNode-F, CorePart-F, CorePick-F, CoreExpr-F, CoreLeft-F}
use Rattle.scc_core.specs.declared.expr.CoreBase.TheOpen as tree
use Rattle.scc_core.specs.declared.stmt.Count.{Count}
use Rattle.scc_core.specs.declared.stmt.CoreNode.TheVariants as node
use Rattle.scc_core.specs.declared.stmt.CoreStmt.{CoreStmt}
use Rattle.scc_core.specs.declared.stmt.Pointed.{Pointed}
use Rattle.scc_core.specs.declared.stmt.Pointed.TheVariants as to

-- what stands in the place of a number where the cell goes
abbrev pub gone : ℕ
gone = 4294967295

-- the new number of a cell that stays
abbrev pub number_in : List ℕ → ℕ → Option ℕ
number_in numbers n = option_and_then (λ k. if nat_eq k gone then None else Some k) (slice_get numbers n)

-- the numbers that are found are these
abbrev pub Found : List ℕ → (ℕ → ℕ) → Type 0
Found numbers f = (i k : ℕ) → number_in numbers i ≡ Some k → f i ≡ k

-- an expression by its node
abbrev pub expression : Place → Kind → CoreExprNode-F CoreBase CoreExprNode CorePart CorePick CoreExpr CoreLeft → CoreExpr
expression p k x = record { place = p; kind = k; node = roll-CoreExprNode x }

-- the layers of a tree over copies of its parts
abbrev pub Node : Type 0
Node = Place → Kind → CoreExpr

abbrev pub base_node : (ℕ → ℕ) → CoreBase-F CoreBase Node CorePart CorePick CoreExpr CoreLeft → CoreBase
base_node f (tree.Cell n) = roll-CoreBase (tree.Cell (f n))
base_node f (tree.Prefix name) = roll-CoreBase (tree.Prefix name)
base_node f (tree.Follow pointer soft) = roll-CoreBase (tree.Follow pointer soft)
base_node f tree.Null = roll-CoreBase tree.Null

abbrev pub expr_node : CoreExprNode-F CoreBase Node CorePart CorePick CoreExpr CoreLeft → Node
expr_node (tree.Lit w) p k = expression p k (tree.Lit w)
expr_node (tree.Load l) p k = expression p k (tree.Load l)
expr_node (tree.Read l) p k = expression p k (tree.Read l)
expr_node (tree.Convert e) p k = expression p k (tree.Convert e)
expr_node (tree.Operate o a b) p k = expression p k (tree.Operate o a b)
expr_node (tree.Choose t a b) p k = expression p k (tree.Choose t a b)
expr_node (tree.Pick e q) p k = expression p k (tree.Pick e q)
expr_node (tree.Join es) p k = expression p k (tree.Join es)

abbrev pub part_node : CorePart-F CoreBase Node CorePart CorePick CoreExpr CoreLeft → CorePart
part_node (tree.Member n) = roll-CorePart (tree.Member n)
part_node (tree.Index size at) = roll-CorePart (tree.Index size at)

abbrev pub pick_node : CorePick-F CoreBase Node CorePart CorePick CoreExpr CoreLeft → CorePick
pick_node (tree.Bit of at) = roll-CorePick (tree.Bit of at)
pick_node (tree.Range of h l) = roll-CorePick (tree.Range of h l)

abbrev pub expr_step : CoreExpr-F CoreBase Node CorePart CorePick CoreExpr CoreLeft → CoreExpr
expr_step e = e.node e.place e.kind

abbrev pub left_step : CoreLeft-F CoreBase Node CorePart CorePick CoreExpr CoreLeft → CoreLeft
left_step l = record { place = l.place; base = l.base; parts = l.parts; pick = l.pick }

abbrev pub numbered : (ℕ → ℕ) → CoreExpr → CoreExpr
numbered f = fold-CoreExpr CoreBase Node CorePart CorePick CoreExpr CoreLeft (base_node f) expr_node part_node pick_node expr_step left_step

abbrev pub numbered_left : (ℕ → ℕ) → CoreLeft → CoreLeft
numbered_left f = fold-CoreLeft CoreBase Node CorePart CorePick CoreExpr CoreLeft (base_node f) expr_node part_node pick_node expr_step left_step

abbrev pub numbered_part : (ℕ → ℕ) → CorePart → CorePart
numbered_part f = fold-CorePart CoreBase Node CorePart CorePick CoreExpr CoreLeft (base_node f) expr_node part_node pick_node expr_step left_step

abbrev pub numbered_pick : (ℕ → ℕ) → CorePick → CorePick
numbered_pick f = fold-CorePick CoreBase Node CorePart CorePick CoreExpr CoreLeft (base_node f) expr_node part_node pick_node expr_step left_step

abbrev pub numbered_count : (ℕ → ℕ) → Count → Count
numbered_count f c = record { cell = f c.cell; start = numbered f c.start; compare = c.compare; bound = numbered f c.bound; step_op = c.step_op; step = numbered f c.step }

abbrev pub numbered_pointed : (ℕ → ℕ) → Pointed → Pointed
numbered_pointed f (to.Declared n) = to.Declared (f n)
numbered_pointed f (to.Assigned l) = to.Assigned (numbered_left f l)

-- single statements
abbrev pub put_in : Place → CoreLeft → CoreExpr → CoreStmt
put_in p l e = record { place = p; node = node.Assign l e }

abbrev pub aim_in : Place → Pointed → CoreLeft → CoreStmt
aim_in p to l = record { place = p; node = node.Alias to l }
