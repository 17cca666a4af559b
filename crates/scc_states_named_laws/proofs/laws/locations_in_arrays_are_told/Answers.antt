use Rattle.std.specs.List.{list_all}
use Rattle.scc_core_spec.specs.IsResolved.{cells_apart, fit_cell, processes_apart}
use Rattle.scc_core_view.specs.Programs.{program_of}
use Rattle.scc_states_named_laws.proofs.Closed.{and_first, and_second}
use Rattle.scc_states_named_laws.proofs.Ranged.{in_array}
use Rattle.scc_states_named_laws.proofs.laws.locations_in_arrays_are_told.Goals as goal

pub returns : goal.returns
returns c = λ core known i x first l resolved knows at number.
    let p = program_of core in
    let rest = and_second (processes_apart p.processes) _ resolved in
    let apart = and_first (cells_apart p.cells) _ rest in
    let fit = and_first (list_all (fit_cell p.processes p.cells) p.cells) _ (and_second (cells_apart p.cells) _ rest) in
    in_array known core knows p.processes apart fit l first at i x number
