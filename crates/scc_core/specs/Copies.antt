-- Copies that change nothing, and the operands and pointers along which they are made.
use Rattle.std.specs.Prelude.{◌≡◌, List, [], ◌∷◌, Option, Some, None}
use Rattle.scc_core.specs.declared.copy.Copies.{Copies}
use Rattle.scc_core.specs.declared.expr.CoreBase.{CoreBase, out-CoreBase}
use Rattle.scc_core.specs.declared.expr.CoreExpr.{CoreExpr}
use Rattle.scc_core.specs.declared.expr.CoreExprNode.{CoreExprNode, roll-CoreExprNode}
use Rattle.scc_core.specs.declared.expr.CoreLeft.{CoreLeft}
use Rattle.scc_core.specs.declared.expr.CorePart.{CorePart}
use Rattle.scc_core.specs.declared.expr.CorePick.{CorePick}
use Rattle.scc_core.specs.declared.expr.CoreBase.TheOpen.{CoreBase-F}
use Rattle.scc_core.specs.declared.expr.CoreBase.TheOpen as tree

-- no counter stands as a literal, and each cell has its number
pub record IsPlain (c : Copies) : Type 0 where
  pub counters : c.counters ≡ None
  pub numbers : c.numbers ≡ None

-- a list is what is met from there on: each tells what comes next
abbrev pub Follows : {A : Type 0} → (A → Option A) → Option A → List A → Type 0
Follows next None [] = Unit {0}
Follows next (Some x) (y ∷ ys) = (y ≡ x) × Follows next (next y) ys
Follows next _ _ = ⊥

abbrev pub IsChain : {A : Type 0} → (A → Option A) → A → List A → Type 0
IsChain next x xs = Follows next (Some x) xs

-- the pointer by which a location is reached
abbrev pub pointer_in : CoreBase-F CoreBase CoreExprNode CorePart CorePick CoreExpr CoreLeft → Option CoreLeft
pointer_in (tree.Follow pointer soft) = Some pointer
pointer_in _ = None

abbrev pub pointer_in_left : CoreLeft → Option CoreLeft
pointer_in_left l = pointer_in (out-CoreBase l.base)

-- the expression with a load of that location
abbrev pub loaded : CoreExpr → CoreLeft → CoreExpr
loaded e l = record { place = e.place; kind = e.kind; node = roll-CoreExprNode (tree.Load l) }
