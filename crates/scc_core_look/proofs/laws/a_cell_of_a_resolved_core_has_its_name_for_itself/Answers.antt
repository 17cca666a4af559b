use Rattle.scc_core_look.proofs.Itself.{is-first, is-found, is-only}
use Rattle.scc_core_look.proofs.laws.a_cell_of_a_resolved_core_has_its_name_for_itself.Goals as goal

pub returns : goal.returns
returns c = record { first = λ p n d r e. is-first p r n d e; only = λ p n d r e. is-only p r n d e; found = λ p n d r e. is-found p r n d e }
