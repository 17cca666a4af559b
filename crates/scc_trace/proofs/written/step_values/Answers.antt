use Rattle.std.proofs.Common.{sym}
use Rattle.scc_trace.specs.Text.{value_text, values_text}
use Rattle.scc_trace.proofs.Pairs.{put_few, put_more, put_end, values_next, values_none, values_done}
use Rattle.scc_trace.proofs.written.step_values.Goals as goal

pub returns-in_default : goal.returns-in_default
returns-in_default c =
    put_few c.args.ports.now c.loop-port.port-index c.port-item.result c.loop-port-test.true (sym c.port-item.is) values_text value_text values_none c.loop-port.rest.now _ _ c.in_default.len_below c.loop-port.invariant

pub loop-port-preserved : goal.loop-port-preserved
loop-port-preserved c =
    put_more c.args.ports.now c.loop-port.port-index c.port-item.result c.loop-port-test.true (sym c.port-item.is) values_text value_text values_next c.loop-port.rest.now (record { bits = 0 }) _ _ _ c.in-len1-up.len_at_least c.in_ok-value.ensures c.loop-port.invariant

pub returns : goal.returns
returns c = put_end values_text values_done c.args.ports.now c.loop-port.port-index c.loop-port.rest.now _ _ c.loop-port-test.false c.loop-port.invariant
