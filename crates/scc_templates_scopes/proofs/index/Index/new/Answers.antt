use Rattle.std.proofs.Common.{subst, map}
use Rattle.scc_templates_spec.specs.SourceView.{source_of, top_of}
use Rattle.scc_templates_scopes.specs.Indexed.{Adds, tops}
use Rattle.scc_templates_scopes.proofs.Indices.{index_is}
use Rattle.scc_templates_scopes.proofs.index.Index.new.Goals as goal

pub returns : goal.returns
returns c = index_is c.empty-index.result c.take_file.new.self (source_of c.args.tree.now) (subst (λ z. Adds c.empty-index.result c.take_file.new.self (tops 0 (map top_of z))) c.as_slice.ensures.elements c.in_ok-take_file.ensures) c.empty-index.ensures.names c.empty-index.ensures.params
