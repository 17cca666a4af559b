use Rattle.std.proofs.Common.{◌≡◌, drop}
use Rattle.scc_core_view.specs.Programs.{process_of}
use Rattle.scc_rules_laws.specs.Found.{clock_used, first_along}
use Rattle.scc_rules_walks.specs.Cells.{has_flag}
use Rattle.scc_rules.specs.Marks.{seen_all}
use Rattle.scc_rules.proofs.clock.first_clock.Given as goal

abbrev pub invariant-loop-k : goal.invariant-loop-k
invariant-loop-k l =
    first_along (λ q. clock_used (has_flag l.clocks) (process_of q)) (drop l.k l.processes) (drop l.k (seen_all l.f))
    ≡ first_along (λ q. clock_used (has_flag l.clocks) (process_of q)) l.processes (seen_all l.f)
