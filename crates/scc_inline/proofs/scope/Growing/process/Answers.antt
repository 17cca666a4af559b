use Rattle.scc_plain_view.specs.Designs.{design_of, process_of}
use Rattle.scc_plain_view.specs.Plains.{plain_of}
use Rattle.scc_inline_spec.specs.Inlined.{too_large}
use Rattle.scc_inline.proofs.Judging.{sized_fits, sized_judged}
use Rattle.scc_inline.proofs.scope.Growing.process.Goals as goal

pub returns-in-Err-clause-sized : goal.returns-in-Err-clause-sized
returns-in-Err-clause-sized c = λ facts i. sized_judged (too_large (plain_of c.args.source.plain.now) (design_of c.args.d.now) i (process_of c.args.process.now)) c.in-Err.stop (c.in-Err.ensures.judges facts (design_of c.args.d.now) i)

pub returns-in-Ok-clause-sized : goal.returns-in-Ok-clause-sized
returns-in-Ok-clause-sized c = λ facts i. sized_fits (too_large (plain_of c.args.source.plain.now) (design_of c.args.d.now) i (process_of c.args.process.now)) c.fitting.result (c.in-Ok.ensures.judges facts (design_of c.args.d.now) i) c.fitting.ensures.stop
