use Rattle.scc_inline_size_laws.proofs.Counting.{comes_next}
use Rattle.scc_inline_size_laws.proofs.laws.a_function_comes_to_what_it_calls.Goals as goal

pub returns : goal.returns
returns c = λ p heights sizes are. comes_next p heights sizes are
