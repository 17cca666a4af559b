use Rattle.std.proofs.Common.{sym}
use Rattle.scc_core_spec.specs.First.{first_numbered}
use Rattle.scc_plain_view.specs.Designs.{design_of}
use Rattle.scc_plain_view.specs.Plains.{plain_of}
use Rattle.scc_inline_spec.specs.Inlined.{too_large}
use Rattle.scc_inline.specs.Begun.{copied_headings}
use Rattle.scc_inline.proofs.Beginning.{heading_next}
use Rattle.scc_inline.proofs.Judging.{sized_next, sized_stops}
use Rattle.scc_inline.proofs.scope.Growing.processes.Goals as goal

pub loop-number-preserved : goal.loop-number-preserved
loop-number-preserved c = (
  (λ front h. c.in-Ok.ensures.keeps front (c.loop-number.invariant.0 front h)),
  (λ h. heading_next (plain_of c.args.source.plain.now) (design_of c.args.d.now) c.loop-number.made c.push.new.self c.in-Ok.copied (copied_headings (plain_of c.args.source.plain.now) (design_of c.args.d.now)) c.args.d.now.processes c.loop-number.number c.in-Some.process.now
      (sym c.in-Some.ensures.element) (c.in-Ok.ensures.headings h) c.in_ok-push.ensures.ok (c.loop-number.invariant.1 h)),
  (λ h. sized_next (plain_of c.args.source.plain.now) (design_of c.args.d.now) c.args.d.now.processes c.loop-number.number c.in-Some.process.now (first_numbered (too_large (plain_of c.args.source.plain.now) (design_of c.args.d.now)) 0 (design_of c.args.d.now).processes)
      (sym c.in-Some.ensures.element) (c.in-Ok.ensures.sized h c.loop-number.number) (c.loop-number.invariant.2 h)),
)

pub returns-in-Err-clause-sized : goal.returns-in-Err-clause-sized
returns-in-Err-clause-sized c = λ h. sized_stops (plain_of c.args.source.plain.now) (design_of c.args.d.now) c.args.d.now.processes c.loop-number.number c.in-Some.process.now (first_numbered (too_large (plain_of c.args.source.plain.now) (design_of c.args.d.now)) 0 (design_of c.args.d.now).processes) c.in-Err.stop
    (sym c.in-Some.ensures.element) (c.in-Err.ensures.sized h c.loop-number.number) (c.loop-number.invariant.2 h)
