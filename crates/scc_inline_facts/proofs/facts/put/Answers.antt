use Rattle.scc_inline_facts.proofs.Walking.{put_high, put_long}
use Rattle.scc_inline_facts.proofs.facts.put.Goals as goal

pub returns-in-Some-clause-size : goal.returns-in-Some-clause-size
returns-in-Some-clause-size c = put_long c.push.result c.args.tasks.now c.push.new.self c.args.list c.in-Some.list c.args.depth c.in-Some.is c.push.ensures.ok

pub returns-in-Some-clause-height : goal.returns-in-Some-clause-height
returns-in-Some-clause-height c = put_high c.push.result c.args.tasks.now c.push.new.self c.args.list c.in-Some.list c.args.depth c.in-Some.is c.push.ensures.ok
