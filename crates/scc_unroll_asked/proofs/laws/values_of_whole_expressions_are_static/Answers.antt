use Rattle.scc_unroll_asked.proofs.Wholes.{all_read}
use Rattle.scc_unroll_asked.proofs.laws.values_of_whole_expressions_are_static.Goals as goal

pub returns : goal.returns
returns c = λ known cells es k w h. all_read known cells k (λ e x. c.static_values_by_a_table_are_those_of_terms.ensures.values known cells e k w x) es h
