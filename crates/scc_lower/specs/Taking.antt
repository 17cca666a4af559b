-- Which bits of its cells an assignment writes.
use Rattle.std.specs.Prelude.{◌≡◌, ℕ, ◌+◌, ◌<◌, ◌≤◌, Option, Some, None}
use Rattle.scc_bits.specs.Value.{Number}
use Rattle.scc_core.specs.declared.expr.CoreBase.{CoreBase}
use Rattle.scc_core.specs.declared.expr.CoreBase.TheOpen.{CorePick-F}
use Rattle.scc_core.specs.declared.expr.CoreBase.TheOpen as tree
use Rattle.scc_core.specs.declared.expr.CoreExpr.{CoreExpr}
use Rattle.scc_core.specs.declared.expr.CoreExprNode.{CoreExprNode}
use Rattle.scc_core.specs.declared.expr.CoreLeft.{CoreLeft}
use Rattle.scc_core.specs.declared.expr.CorePart.{CorePart}
use Rattle.scc_core.specs.declared.expr.CorePick.{CorePick, out-CorePick}
use Rattle.scc_core.specs.Known.{facts_in}
use Rattle.scc_core.specs.Numbers.{small}
use Rattle.scc_core.specs.Statics.{value_in}
use Rattle.scc_lower_tree_laws.specs.States.{Given}
use Rattle.scc_lower.specs.declared.assign.Taken.{Taken}
use Rattle.scc_lower.specs.declared.assign.Taken.TheVariants.{Open, Past, These}

-- the bit of a known number, of so many, which may be past the end
abbrev pub IsNumberTaken : Number → ℕ → Taken → Type 0
IsNumberTaken v all (These b) = (small v ≡ Some b.h) × (b.l ≡ b.h) × (b.h < all)
IsNumberTaken v all (Open e) = ⊥
IsNumberTaken v all Past = (n : ℕ) → small v ≡ Some n → all ≤ n

-- that at an index
abbrev pub IsBitTaken : Given → CoreExpr → ℕ → Taken → Type 0
IsBitTaken g i all (These b) = (v : Number) × (value_in (facts_in g.known) i ≡ Some v) × IsNumberTaken v all (These b)
IsBitTaken g i all (Open e) = e.now ≡ i
IsBitTaken g i all Past = (v : Number) × (value_in (facts_in g.known) i ≡ Some v) × IsNumberTaken v all Past

abbrev pub ArePicked : Given → CorePick-F CoreBase CoreExprNode CorePart CorePick CoreExpr CoreLeft → ℕ → Taken → Type 0
ArePicked g (tree.Bit j i) all t = IsBitTaken g i all t
ArePicked g (tree.Range j h l) all (These b) = (b.h ≡ h) × (b.l ≡ l)
ArePicked g (tree.Range j h l) all (Open e) = ⊥
ArePicked g (tree.Range j h l) all Past = ⊥

-- all bits of so many, those of a range, or one
abbrev pub IsTaken : Given → Option CorePick → ℕ → Taken → Type 0
IsTaken g None all (These b) = (b.h + 1 ≡ all) × (b.l ≡ 0)
IsTaken g None all (Open e) = ⊥
IsTaken g None all Past = ⊥
IsTaken g (Some q) all t = ArePicked g (out-CorePick q) all t
