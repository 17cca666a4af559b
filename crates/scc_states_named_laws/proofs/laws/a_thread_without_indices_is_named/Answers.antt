use Rattle.std.proofs.Common.{◌≡◌, Bool, List}
use Rattle.std.specs.List.{list_all}
use Rattle.scc_core.specs.declared.program.CellName.{CellName}
use Rattle.scc_core.specs.Elements.{Part, found}
use Rattle.scc_core.specs.Known.{facts_in}
use Rattle.scc_core.specs.Statics.{facts_of}
use Rattle.scc_core_spec.specs.IsResolved.{cells_apart, fit_cell, processes_apart}
use Rattle.scc_core_spec.specs.Uses.{acts}
use Rattle.scc_core_view.specs.Codes.{code_of}
use Rattle.scc_core_view.specs.Programs.{program_of}
use Rattle.scc_core_view.specs.Whole.{IsName}
use Rattle.scc_states_named_laws.proofs.Closed.{and_first, and_second}
use Rattle.scc_states_named_laws.proofs.Filling.{told_acts}
use Rattle.scc_states_named_laws.proofs.laws.a_thread_without_indices_is_named.Goals as goal

pub returns : goal.returns
returns c = λ core i p resolved whole narrow plain.
    let q = program_of core in
    let rest = and_second (processes_apart q.processes) _ resolved in
    let apart = and_first (cells_apart q.cells) _ rest in
    let fit = and_first (list_all (fit_cell q.processes q.cells) q.cells) _ (and_second (cells_apart q.cells) _ rest) in
    record {
      told = λ known knows.
          let same : (first : Bool) (qs : List Part) (name : CellName) → IsName name → found (facts_in known) first qs name ≡ found (facts_of core.cells) first qs name =
          λ first qs name named. c.static_values_by_a_table_are_those_by_names.ensures.found known core.cells first qs name knows named in
          record { cells = knows.cells_are; acts = told_acts known core.cells knows q.processes apart fit narrow same i (acts (code_of p.body)) plain };
    }
