use Rattle.std.proofs.Common.{map, length}
use Rattle.scc_templates_spec.specs.SourceView.{enumerator_of}
use Rattle.scc_templates_scopes.specs.Indexed.{enumerators}
use Rattle.scc_templates_scopes.proofs.Indexing.{Leads}
use Rattle.scc_templates_scopes.proofs.index.Index.take_numbers.Given as goal

abbrev pub invariant-loop-e : goal.invariant-loop-e
invariant-loop-e l = Leads l.fn.self l.self (enumerators l.class l.item l.at (map enumerator_of l.rest)) (enumerators l.class l.item 0 (map enumerator_of l.all))

abbrev pub decreases-loop-e : goal.decreases-loop-e
decreases-loop-e l = length l.rest
