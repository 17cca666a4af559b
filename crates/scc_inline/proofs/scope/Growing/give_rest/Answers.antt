use Rattle.std.proofs.Common.{◌≡◌, arith, length}
use Rattle.scc_elab_spec.specs.Numbering.{first_locals}
use Rattle.scc_inline.specs.Named.{added}
use Rattle.scc_inline.proofs.Naming.{rest_ends, rest_goes}
use Rattle.scc_inline.proofs.scope.Growing.give_rest.Goals as goal

pub loop-local-preserved : goal.loop-local-preserved
loop-local-preserved c = (
  (λ front h. c.in_ok-give.ensures.keeps front (c.loop-local.invariant.0 front h)),
  (λ p f front cs i roots is st. rest_goes p f front cs i roots c.give.new.self c.give.new.scope c.loop-local.local c.in_ok-numbered.field-0 c.in_ok-numbered.ensures
      (c.in_ok-give.ensures.names p f front cs i (added roots (first_locals i cs c.loop-local.local)) is (c.loop-local.invariant.1 p f front cs i roots is st))),
)

pub returns-clause-names : goal.returns-clause-names
returns-clause-names c = λ p f front cs i roots is st.
    let e : c.loop-local.local ≡ length c.args.function.now.locals = grind (arith, c.loop-local-test.false, c.loop-local.auto.local-end, c.len-local-end.ensures.length) in
    rest_ends p f front cs i roots c.loop-local.self c.loop-local.scope c.loop-local.local c.args.function.now.locals e (c.loop-local.invariant.1 p f front cs i roots is st)
