use Rattle.std.proofs.Common.{◌≡◌, Bool, List}
use Rattle.std.specs.List.{list_all}
use Rattle.scc_core.specs.declared.program.CellName.{CellName}
use Rattle.scc_core.specs.Elements.{Part, found}
use Rattle.scc_core.specs.Known.{facts_in}
use Rattle.scc_core.specs.Statics.{facts_of}
use Rattle.scc_core_view.specs.Whole.{IsName}
use Rattle.scc_core_spec.specs.IsResolved.{cells_apart, fit_cell, processes_apart}
use Rattle.scc_core_view.specs.Programs.{program_of}
use Rattle.scc_states_named_laws.proofs.Closed.{and_first, and_second}
use Rattle.scc_states_named_laws.proofs.Filling.{put_same}
use Rattle.scc_states_named_laws.proofs.Told.{names}
use Rattle.scc_states_named_laws.proofs.laws.assignments_without_indices_are_told.Goals as goal

pub returns : goal.returns
returns c = λ core known l resolved whole narrow knows plain pick.
    let p = program_of core in
    let rest = and_second (processes_apart p.processes) _ resolved in
    let apart = and_first (cells_apart p.cells) _ rest in
    let fit = and_first (list_all (fit_cell p.processes p.cells) p.cells) _ (and_second (cells_apart p.cells) _ rest) in
    let same : (first : Bool) (qs : List Part) (name : CellName) → IsName name → found (facts_in known) first qs name ≡ found (facts_of core.cells) first qs name =
    λ first qs name named. c.static_values_by_a_table_are_those_by_names.ensures.found known core.cells first qs name knows named in
    put_same known core.cells knows p.processes apart fit narrow same l pick (names known core.cells knows p.processes apart fit same l plain)
