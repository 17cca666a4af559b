use Rattle.scc_semantics_laws.proofs.Two.{is-steady, pointer-resolved}
use Rattle.scc_semantics_laws.proofs.Refuting.{refuted}
use Rattle.scc_semantics_laws.proofs.laws.the_old_definition_is_too_weak.Goals as goal

pub returns-clause-steady : goal.returns-clause-steady
returns-clause-steady c = is-steady

pub returns-clause-same : goal.returns-clause-same
returns-clause-same c = pointer-resolved

pub returns-clause-refuted : goal.returns-clause-refuted
returns-clause-refuted c = refuted
