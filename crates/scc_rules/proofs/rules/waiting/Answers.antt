use Rattle.scc_rules.proofs.Firsts.{waits_told}
use Rattle.scc_rules.proofs.rules.waiting.Goals as goal

pub returns-clause-found : goal.returns-clause-found
returns-clause-found c = waits_told c.args.p.now c.is_thread.result c.first_wait.result _ c.as_slice.result.now c.is_thread.ensures c.as_slice.ensures.elements c.first_wait.ensures c.in_method.ensures.found
