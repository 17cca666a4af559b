-- Sets of a thread's cells, by their slots. This project's own.
use Rattle.std.specs.Prelude.{◌≡◌, ℕ, Bool, true, false, nat_eq, position, List, ◌++◌, Option, Some, None}
use Rattle.scc_core.specs.declared.expr.CoreExpr.{CoreExpr}
use Rattle.scc_core.specs.declared.expr.CoreLeft.{CoreLeft}
use Rattle.scc_core.specs.declared.statics.Known.{Known}
use Rattle.scc_core_spec.specs.Kept.{OneOf}
use Rattle.scc_core_spec.specs.Static.{Cells}
use Rattle.scc_core_spec.specs.Uses.{Use, among, cells_of, inside, loads, picked, whole_writes}
use Rattle.scc_core_view.specs.Terms.{taken_of, term_of}
use Rattle.scc_core_flow.specs.declared.set.CellSet.{CellSet}
use Rattle.scc_core_flow.specs.Sets.{holds}
use Rattle.scc_states_kept.specs.declared.own.Own.{Own}
use Rattle.scc_states_kept.specs.Filled.{filled_in}
use Rattle.scc_states_kept.specs.Rows.{cells_in}

abbrev pub is_at : ℕ → Option ℕ → Bool
is_at x None = false
is_at x (Some n) = nat_eq x n

-- the slot of a cell
unfoldable pub slot_in : Own → ℕ → Option ℕ
slot_in own x = position (nat_eq x) own.cells.keys

-- Of the cells that are asked for, and have a slot, the set has just those for which f is true.
pub record Keeps (only : ℕ → Bool) (own : Own) (set : CellSet) (f : ℕ → Bool) : Type 0 where
  pub told : (x s : ℕ) → only x ≡ true → slot_in own x ≡ Some s → holds set s ≡ f x

-- what an assignment reads, as the definition has it
abbrev pub put_reads : CoreLeft → CoreExpr → List Use
put_reads l e = inside (taken_of l).left ++ (picked (taken_of l).pick ++ loads (term_of e))

-- Of the cells that are asked for, what is known tells which of them these uses may name as the definition does.
abbrev pub TellsUses : Known → Cells → (ℕ → Bool) → List Use → Type 0
TellsUses known cs only us = (l : CoreLeft) (u : Use) → OneOf u us → u.left ≡ (taken_of l).left → (x : ℕ) → only x ≡ true → among x (cells_in known l) ≡ among x (cells_of cs u.left)

-- the same of an assignment, and to which of them it gives a whole value
pub record TellsPut (known : Known) (cs : Cells) (only : ℕ → Bool) (l : CoreLeft) (e : CoreExpr) : Type 0 where
  pub reads : TellsUses known cs only (put_reads l e)
  pub fills : (x : ℕ) → only x ≡ true → is_at x (filled_in known l) ≡ among x (whole_writes cs (taken_of l).left (taken_of l).pick)
