use Rattle.std.proofs.Common.{◌<◌, length, map, arith}
use Rattle.scc_core_view.specs.Programs.{cell_of, process_of}
use Rattle.scc_core_look.specs.Clocked.{is_clocked}
use Rattle.scc_core_look.proofs.Alike.{all-on}
use Rattle.scc_core_look.proofs.processes.are_clocked.Goals as goal

pub loop-process-preserved : goal.loop-process-preserved
loop-process-preserved c =
    let h : c.loop-process.process-index < length c.args.processes.now = omega arith in
    all-on (is_clocked (map cell_of c.args.cells.now)) process_of c.args.processes.now c.loop-process.process-index c.process-item.result h c.process-item.is c.loop-process.all c.is_clocked.result c.both-all.result c.loop-process.invariant c.is_clocked.ensures c.both-all.ensures
