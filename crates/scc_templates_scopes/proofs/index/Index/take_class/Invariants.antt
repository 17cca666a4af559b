use Rattle.std.proofs.Common.{map, length}
use Rattle.scc_templates_spec.specs.SourceView.{merged, top_of}
use Rattle.scc_templates_scopes.specs.Indexed.{members}
use Rattle.scc_templates_scopes.proofs.Indexing.{Leads}
use Rattle.scc_templates_scopes.proofs.index.Index.take_class.Given as goal

abbrev pub invariant-loop-item : goal.invariant-loop-item
invariant-loop-item l = Leads l.fn.self l.self (members l.class (merged l.n l.taken l.fields (map top_of l.rest))) (members l.class (merged 0 0 l.fn.fields (map top_of l.items)))

abbrev pub decreases-loop-item : goal.decreases-loop-item
decreases-loop-item l = length l.rest
