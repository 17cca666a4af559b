use Rattle.scc_plain_bounds_laws.proofs.Needed.{staged-has}
use Rattle.scc_plain_bounds_laws.proofs.laws.what_is_needed_is_in_the_queue.Goals as goal

pub returns-clause-first : goal.returns-clause-first
returns-clause-first c = λ w e. (staged-has w.needed w.top e).0

pub returns-clause-entries : goal.returns-clause-entries
returns-clause-entries c = λ w i x e a g. (staged-has w.needed w.top e).1 i x a g
