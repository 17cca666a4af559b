use Rattle.std.proofs.Common.{length}
use Rattle.scc_templates_spec.specs.SourceView.{variables}
use Rattle.scc_templates_scopes.specs.Indexed.{members}
use Rattle.scc_templates_scopes.proofs.Indexing.{Leads}
use Rattle.scc_templates_scopes.proofs.index.Index.take_fields.Given as goal

abbrev pub invariant-loop-field : goal.invariant-loop-field
invariant-loop-field l = Leads l.fn.self l.self (members l.class (variables l.at l.rest)) (members l.class (variables l.from l.fields))

abbrev pub decreases-loop-field : goal.decreases-loop-field
decreases-loop-field l = length l.rest
