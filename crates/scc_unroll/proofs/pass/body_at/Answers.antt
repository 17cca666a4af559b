use Rattle.scc_unroll_asked.specs.Items.{asked as items}
use Rattle.scc_unroll_asked.proofs.Items.{all_of_them}
use Rattle.scc_unroll.proofs.pass.body_at.Goals as goal

pub returns-in_ok-written-in-None-clause-copies : goal.returns-in_ok-written-in-None-clause-copies
returns-in_ok-written-in-None-clause-copies c = c.in_ok-written-in-None.ensures.copies (items c.args.body.now) tt (all_of_them (items c.args.body.now))
