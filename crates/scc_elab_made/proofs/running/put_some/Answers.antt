use Rattle.scc_elab_made.proofs.Stepping.{puts_run}
use Rattle.scc_elab_made.proofs.running.put_some.Goals as goal

pub returns : goal.returns
returns c = puts_run c.push.result c.args.works.now.items c.push.new.items.items c.in_ok-at.at c.args.at.now c.args.list c.push.ensures.ok c.in_ok-at.ensures
