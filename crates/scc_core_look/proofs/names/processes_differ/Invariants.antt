use Rattle.std.proofs.Common.{take}
use Rattle.scc_core_look.proofs.Noted.{IsNoted}
use Rattle.scc_core_look.proofs.names.processes_differ.Given as goal

abbrev pub invariant-loop-process : goal.invariant-loop-process
invariant-loop-process l = IsNoted l.names (take l.process-index l.processes) l.differ
