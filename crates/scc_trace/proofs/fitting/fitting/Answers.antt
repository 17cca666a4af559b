use Rattle.std.proofs.Common.{true, false, sym, ◌∙◌}
use Rattle.scc_trace.proofs.Pairs.{fit_few, fit_next, fit_end}
use Rattle.scc_trace.proofs.fitting.fitting.Goals as goal

pub returns-in_default : goal.returns-in_default
returns-in_default c = fit_few c.args.ports.now c.loop-port.port-index c.port-item.result c.loop-port-test.true (sym c.port-item.is) c.loop-port.rest.now _ c.in_default.len_below c.loop-port.invariant

pub returns-then-not-fits : goal.returns-then-not-fits
returns-then-not-fits c =
    fit_next c.args.ports.now c.loop-port.port-index c.port-item.result c.loop-port-test.true (sym c.port-item.is) c.loop-port.rest.now (record { bits = 0 }) false _ c.in-len1-up.len_at_least (sym c.if-not-fits.ensures) c.loop-port.invariant

pub loop-port-preserved : goal.loop-port-preserved
loop-port-preserved c =
    fit_next c.args.ports.now c.loop-port.port-index c.port-item.result c.loop-port-test.true (sym c.port-item.is) c.loop-port.rest.now (record { bits = 0 }) true _ c.in-len1-up.len_at_least (sym c.if-not-fits.ensures) c.loop-port.invariant

pub returns : goal.returns
returns c = c.is_empty.ensures ∙ fit_end c.args.ports.now c.loop-port.port-index c.loop-port.rest.now _ c.loop-port-test.false c.loop-port.invariant
