use Rattle.std.proofs.Common.{map, length}
use Rattle.scc_templates_spec.specs.SourceView.{top_of}
use Rattle.scc_templates_scopes.specs.Indexed.{tops}
use Rattle.scc_templates_scopes.proofs.Indexing.{Leads}
use Rattle.scc_templates_scopes.proofs.index.Index.take_file.Given as goal

abbrev pub invariant-loop-item : goal.invariant-loop-item
invariant-loop-item l = Leads l.fn.self l.self (tops l.k (map top_of l.rest)) (tops 0 (map top_of l.items))

abbrev pub decreases-loop-item : goal.decreases-loop-item
decreases-loop-item l = length l.rest
