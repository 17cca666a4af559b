use Rattle.std.proofs.Common.{◌≡◌, ◌≤◌, ℕ, Bool, drop, length}
use Rattle.scc_core_spec.specs.Static.{Cells}
use Rattle.scc_core_view.specs.Codes.{code_of}
use Rattle.scc_states_kept.specs.Slots.{Keeps}
use Rattle.scc_states_kept.specs.Walks.{Around, Outs, TellsCode, needs}
use Rattle.scc_states_kept.proofs.kept.+kept_stmts.Given as goal

abbrev pub invariant-each-loop-left : goal.invariant-each-loop-left
invariant-each-loop-left l = (l.left ≤ length l.body) × (l.behind.items ≡ l.fn.behind.items)
    × ((cs : Cells) (only f : ℕ → Bool) (outs : Outs) → TellsCode l.fn.own.known cs only (code_of l.body) → Keeps only l.fn.own l.fn.live f → Around only l.fn.own l.fn.behind.items outs
    → Keeps only l.fn.own l.live (needs cs (code_of (drop l.left l.body)) f outs))

abbrev pub decreases-each-loop-left : goal.decreases-each-loop-left
decreases-each-loop-left l = l.left
