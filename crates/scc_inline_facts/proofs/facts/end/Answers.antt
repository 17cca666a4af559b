use Rattle.scc_inline_facts.proofs.Walking.{end_high, end_long}
use Rattle.scc_inline_facts.proofs.facts.end.Goals as goal

pub returns-in-Loop-clause-size : goal.returns-in-Loop-clause-size
returns-in-Loop-clause-size c = end_long c.push.result c.args.tasks.now c.push.new.self c.push.ensures.ok

pub returns-in-Loop-clause-height : goal.returns-in-Loop-clause-height
returns-in-Loop-clause-height c = end_high c.push.result c.args.tasks.now c.push.new.self c.push.ensures.ok
