-- Copies in which counters stand as literals. This project's own.
use Rattle.std.specs.Prelude.{ℕ, nat_eq, List, [], ◌∷◌, map, find, Option, Some, None, option_map}
use denote.Ref.{Bor}
use Rattle.scc_base.specs.declared.refusal.Place.{Place}
use Rattle.scc_bits_kinds.specs.declared.kind.Kind.{Kind}
use Rattle.scc_bits.specs.Value.{Number}
use Rattle.scc_core.specs.declared.copy.Copies.{Copies}
use Rattle.scc_core.specs.declared.copy.Counter.{Counter}
use Rattle.scc_core.specs.declared.expr.CoreBase.{CoreBase, roll-CoreBase, out-CoreBase}
use Rattle.scc_core.specs.declared.expr.CoreExpr.{CoreExpr, fold-CoreExpr}
use Rattle.scc_core.specs.declared.expr.CoreExprNode.{CoreExprNode, roll-CoreExprNode}
use Rattle.scc_core.specs.declared.expr.CoreLeft.{CoreLeft, fold-CoreLeft}
use Rattle.scc_core.specs.declared.expr.CorePart.{CorePart, roll-CorePart, fold-CorePart}
use Rattle.scc_core.specs.declared.expr.CorePick.{CorePick, roll-CorePick, out-CorePick, fold-CorePick}
use Rattle.scc_core.specs.declared.expr.CoreBase.TheOpen.{CoreBase-F, CoreExprNode-F, CorePart-F, CorePick-F, CoreExpr-F, CoreLeft-F}
use Rattle.scc_core.specs.declared.expr.CoreBase.TheOpen as tree
use Rattle.scc_core.specs.declared.stmt.Count.{Count}
use Rattle.scc_core.specs.declared.stmt.Pointed.{Pointed}
use Rattle.scc_core.specs.declared.stmt.Pointed.TheVariants as to

-- the number of the counter that a cell is
abbrev pub number_of : List Counter → ℕ → Option Number
number_of ns n = option_map (λ c. c.now) (find (λ c. nat_eq n c.cell) ns)

abbrev pub lent : Option (Bor (List Counter)) → List Counter
lent None = []
lent (Some b) = b.now

-- the counters of a copy
abbrev pub counters_of : Copies → List Counter
counters_of c = lent c.counters

-- an expression by its node
abbrev pub expression : Place → Kind → CoreExprNode-F CoreBase CoreExprNode CorePart CorePick CoreExpr CoreLeft → CoreExpr
expression p k x = record { place = p; kind = k; node = roll-CoreExprNode x }

-- the kind that bits are taken of
abbrev pub kind_in : CorePick-F CoreBase CoreExprNode CorePart CorePick CoreExpr CoreLeft → Kind
kind_in (tree.Bit of at) = of
kind_in (tree.Range of h l) = of

abbrev pub kind_of : CorePick → Kind
kind_of p = kind_in (out-CorePick p)

-- a word in place of what is loaded, or bits of it
abbrev pub literal : Place → Kind → ℕ → Option CorePick → CoreExpr
literal p k w None = expression p k (tree.Lit (record { bits = w }))
literal p k w (Some q) = expression p k (tree.Pick (expression p (kind_of q) (tree.Lit (record { bits = w }))) q)

abbrev pub whole_number : List Counter → CoreBase-F CoreBase CoreExprNode CorePart CorePick CoreExpr CoreLeft → List CorePart → Option Number
whole_number ns (tree.Cell n) [] = number_of ns n
whole_number ns _ _ = None

-- the number of the counter that a location is, or is bits of
abbrev pub number_at : List Counter → CoreLeft → Option Number
number_at ns l = whole_number ns (out-CoreBase l.base) l.parts

abbrev pub load_or : Place → Kind → CoreLeft → Option Number → CoreExpr
load_or p k l None = expression p k (tree.Load l)
load_or p k l (Some v) = literal p k v.word l.pick

-- the layers of a tree over copies of its parts
abbrev pub Node : Type 0
Node = Place → Kind → CoreExpr

abbrev pub base_node : CoreBase-F CoreBase Node CorePart CorePick CoreExpr CoreLeft → CoreBase
base_node (tree.Cell n) = roll-CoreBase (tree.Cell n)
base_node (tree.Prefix name) = roll-CoreBase (tree.Prefix name)
base_node (tree.Follow pointer soft) = roll-CoreBase (tree.Follow pointer soft)
base_node tree.Null = roll-CoreBase tree.Null

abbrev pub expr_node : List Counter → CoreExprNode-F CoreBase Node CorePart CorePick CoreExpr CoreLeft → Node
expr_node ns (tree.Lit w) p k = expression p k (tree.Lit w)
expr_node ns (tree.Load l) p k = load_or p k l (number_at ns l)
expr_node ns (tree.Read l) p k = expression p k (tree.Read l)
expr_node ns (tree.Convert e) p k = expression p k (tree.Convert e)
expr_node ns (tree.Operate o a b) p k = expression p k (tree.Operate o a b)
expr_node ns (tree.Choose t a b) p k = expression p k (tree.Choose t a b)
expr_node ns (tree.Pick e q) p k = expression p k (tree.Pick e q)
expr_node ns (tree.Join es) p k = expression p k (tree.Join es)

abbrev pub part_node : CorePart-F CoreBase Node CorePart CorePick CoreExpr CoreLeft → CorePart
part_node (tree.Member n) = roll-CorePart (tree.Member n)
part_node (tree.Index size at) = roll-CorePart (tree.Index size at)

abbrev pub pick_node : CorePick-F CoreBase Node CorePart CorePick CoreExpr CoreLeft → CorePick
pick_node (tree.Bit of at) = roll-CorePick (tree.Bit of at)
pick_node (tree.Range of h l) = roll-CorePick (tree.Range of h l)

abbrev pub expr_step : CoreExpr-F CoreBase Node CorePart CorePick CoreExpr CoreLeft → CoreExpr
expr_step e = e.node e.place e.kind

abbrev pub left_step : CoreLeft-F CoreBase Node CorePart CorePick CoreExpr CoreLeft → CoreLeft
left_step l = record { place = l.place; base = l.base; parts = l.parts; pick = l.pick }

-- with the counters as literals
abbrev pub counted : List Counter → CoreExpr → CoreExpr
counted ns = fold-CoreExpr CoreBase Node CorePart CorePick CoreExpr CoreLeft base_node (expr_node ns) part_node pick_node expr_step left_step

abbrev pub counted_left : List Counter → CoreLeft → CoreLeft
counted_left ns = fold-CoreLeft CoreBase Node CorePart CorePick CoreExpr CoreLeft base_node (expr_node ns) part_node pick_node expr_step left_step

abbrev pub counted_part : List Counter → CorePart → CorePart
counted_part ns = fold-CorePart CoreBase Node CorePart CorePick CoreExpr CoreLeft base_node (expr_node ns) part_node pick_node expr_step left_step

abbrev pub counted_pick : List Counter → CorePick → CorePick
counted_pick ns = fold-CorePick CoreBase Node CorePart CorePick CoreExpr CoreLeft base_node (expr_node ns) part_node pick_node expr_step left_step

abbrev pub counted_count : List Counter → Count → Count
counted_count ns c = record { cell = c.cell; start = counted ns c.start; compare = c.compare; bound = counted ns c.bound; step_op = c.step_op; step = counted ns c.step }

abbrev pub counted_pointed : List Counter → Pointed → Pointed
counted_pointed ns (to.Declared n) = to.Declared n
counted_pointed ns (to.Assigned l) = to.Assigned (counted_left ns l)
