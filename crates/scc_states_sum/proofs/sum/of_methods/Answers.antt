use Rattle.std.proofs.Common.{◌<◌, ◌≤◌, length, arith}
use Rattle.scc_core.specs.declared.program.CoreProcess.{CoreProcess}
use Rattle.scc_states_sum.specs.Told.{numbers_in}
use Rattle.scc_states_sum.specs.Live.{method_elements, body_deep, most_deep}
use Rattle.scc_states_sum.proofs.Counts.{one_further}
use Rattle.scc_states_sum.proofs.Paths.{within_deepest}
use Rattle.scc_states_sum.proofs.sum.of_methods.Goals as goal

pub loop-process-preserved : goal.loop-process-preserved
loop-process-preserved c = λ k.
    let i : c.loop-process.process-index < length c.args.processes.now = omega arith in
    let d : body_deep c.process-item.result.body ≤ most_deep =
    within_deepest (λ (p : CoreProcess). body_deep p.body) c.args.processes.now c.loop-process.process-index c.process-item.result most_deep i
    c.process-item.is k in
    one_further (method_elements (numbers_in c.args.known)) c.args.processes.now c.loop-process.process-index c.process-item.result i c.process-item.is
    c.loop-process.all c.of_process.result c.plus-all.result (c.loop-process.invariant k) (c.of_process.ensures d) c.plus-all.ensures
