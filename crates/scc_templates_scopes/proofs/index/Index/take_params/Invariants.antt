use Rattle.std.proofs.Common.{map, length}
use Rattle.scc_templates_spec.specs.SourceView.{param_of}
use Rattle.scc_templates_scopes.specs.Indexed.{parameters}
use Rattle.scc_templates_scopes.proofs.Indexing.{Leads}
use Rattle.scc_templates_scopes.proofs.index.Index.take_params.Given as goal

abbrev pub invariant-loop-p : goal.invariant-loop-p
invariant-loop-p l = Leads l.fn.self l.self (parameters l.class l.at (map param_of l.rest)) (parameters l.class 0 (map param_of l.params))

abbrev pub decreases-loop-p : goal.decreases-loop-p
decreases-loop-p l = length l.rest
