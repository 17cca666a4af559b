use Rattle.scc_unroll_asked.proofs.Wholes.{core_asked}
use Rattle.scc_unroll_asked.proofs.laws.whole_cores_are_asked.Goals as goal

pub returns : goal.returns
returns c = λ m w. core_asked m (λ known e k x. c.static_values_by_a_table_are_those_of_terms.ensures.values known m.cells e k w.cells x) w
