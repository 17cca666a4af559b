use Rattle.std.proofs.Common.{◌≡◌, drop}
use Rattle.scc_core_spec.specs.First.{first_of}
use Rattle.scc_rules_laws.specs.Found.{read_found}
use Rattle.scc_rules_walks.specs.Cells.{has_flag}
use Rattle.scc_rules.specs.Marks.{seen_of}
use Rattle.scc_rules.proofs.clock.first_read.Given as goal

abbrev pub invariant-loop-mark : goal.invariant-loop-mark
invariant-loop-mark l =
    first_of (λ m. read_found l.code (has_flag l.set) (seen_of l.f m)) (drop l.mark-index l.marks) ≡ first_of (λ m. read_found l.code (has_flag l.set) (seen_of l.f m)) l.marks
