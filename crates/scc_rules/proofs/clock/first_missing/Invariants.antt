use Rattle.std.proofs.Common.{◌≡◌, drop}
use Rattle.scc_core_view.specs.Programs.{process_of}
use Rattle.scc_rules_laws.specs.Found.{first_along}
use Rattle.scc_rules_walks.specs.Cells.{has_flag}
use Rattle.scc_rules.specs.Marks.{HasSame, seen_all, unlisted_by}
use Rattle.scc_rules.proofs.clock.first_missing.Given as goal

abbrev pub invariant-loop-k : goal.invariant-loop-k
invariant-loop-k l =
    HasSame l.initial.set.items l.roots → HasSame l.set.items l.roots
    × (first_along (λ q. unlisted_by (has_flag l.roots) (process_of q)) (drop l.k l.processes) (drop l.k (seen_all l.f))
    ≡ first_along (λ q. unlisted_by (has_flag l.roots) (process_of q)) l.processes (seen_all l.f))
