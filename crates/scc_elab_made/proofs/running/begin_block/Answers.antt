use Rattle.scc_elab_spec.specs.Construct.{then_run}
use Rattle.scc_elab_works.specs.declared.works.Work.TheVariants as work
use Rattle.scc_elab_works.specs.Works.{at_in, run_at}
use Rattle.scc_plain_view.specs.Codes.{code_of}
use Rattle.scc_elab_made.proofs.Stepping.{puts_over}
use Rattle.scc_elab_made.proofs.running.begin_block.Goals as goal

pub returns : goal.returns
returns c = puts_over c.put_run.result c.args.works.now.items c.push.new.items.items c.put_run.new.works.items work.Shut (λ p x. then_run x (run_at p (at_in c.args.at.now) (code_of c.args.body.now))) c.in_ok-push.ensures.ok c.put_run.ensures
