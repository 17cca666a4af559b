use Rattle.std.proofs.Common.{◌≡◌, true, map, take}
use Rattle.std.specs.List.{list_all}
use Rattle.scc_core_view.specs.Programs.{cell_of, process_of}
use Rattle.scc_core_look.specs.Clocked.{is_clocked}
use Rattle.scc_core_look.proofs.processes.are_clocked.Given as goal

abbrev pub invariant-loop-process : goal.invariant-loop-process
invariant-loop-process l = l.all ≡ true → list_all (is_clocked (map cell_of l.cells)) (map process_of (take l.process-index l.processes)) ≡ true
