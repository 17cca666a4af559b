use Rattle.std.proofs.Common.{◌≡◌, arith, subst}
use Rattle.scc_elab_spec.specs.Numbering.{first_locals}
use Rattle.scc_inline.specs.Named.{Stands, added}
use Rattle.scc_inline.proofs.Naming.{params_next}
use Rattle.scc_inline.proofs.scope.Growing.give_params.Goals as goal

pub loop-param-preserved : goal.loop-param-preserved
loop-param-preserved c = (
  (λ front h. c.in_ok-give.ensures.keeps front (c.loop-param.invariant.0 front h)),
  (λ p f front cs i roots is st. params_next p f front cs i roots c.give.new.self c.give.new.scope c.loop-param.param
      (c.in_ok-give.ensures.names p f front cs i (added roots (first_locals i cs c.loop-param.param)) is (c.loop-param.invariant.1 p f front cs i roots is st))),
)

pub returns-clause-names : goal.returns-clause-names
returns-clause-names c = λ p f front cs i roots is st.
    let e : c.loop-param.param ≡ c.args.callee.now.params = grind (arith, c.loop-param-test.false, c.loop-param.auto.param-end) in
    subst (λ n. Stands p f front cs i c.loop-param.self c.loop-param.child (added roots (first_locals i cs n))) e (c.loop-param.invariant.1 p f front cs i roots is st)
