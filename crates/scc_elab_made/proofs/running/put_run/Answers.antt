use Rattle.scc_elab_works.specs.Works.{at_in}
use Rattle.scc_elab_works.proofs.Rows.{empty_is}
use Rattle.scc_elab_made.proofs.Going.{puts_none}
use Rattle.scc_elab_made.proofs.running.put_run.Goals as goal

pub returns-in-empty : goal.returns-in-empty
returns-in-empty c = λ p x. puts_none c.args.works.now.items (at_in c.args.at.now) c.args.list.now (empty_is c.args.list.now c.in-empty.len_below) p x
