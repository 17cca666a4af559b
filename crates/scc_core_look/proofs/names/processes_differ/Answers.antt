use Rattle.std.proofs.Common.{◌<◌, length, arith}
use Rattle.scc_core_look.proofs.Noted.{noted-on}
use Rattle.scc_core_look.proofs.names.processes_differ.Goals as goal

pub loop-process-preserved : goal.loop-process-preserved
loop-process-preserved c =
    let h : c.loop-process.process-index < length c.args.processes.now = omega arith in
    noted-on c.loop-process.names c.add_vector.new.self c.args.processes.now c.loop-process.process-index c.process-item.result c.as_slice-path.result.now 1 h c.process-item.is c.as_slice-path.ensures.parts c.loop-process.differ c.is_noted.result c.both-differ.result
    c.loop-process.invariant c.is_noted.ensures c.both-differ.ensures (c.in_ok-add_vector.ensures c.loop-process.invariant.tree)
