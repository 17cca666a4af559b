use Rattle.std.proofs.Common.{◌≡◌, refl, sym, ap, subst, ◌∙◌, map, Err}
use Rattle.std.specs.Prelude.{filter}
use Rattle.std.proofs.lemmas.Result.{err_from_is_err_and}
use Rattle.scc_core_spec.specs.Program.{Process, Program}
use Rattle.scc_core_spec.specs.Renumbered.{is_kept_cell, new_number}
use Rattle.scc_core_spec.specs.Resolved.{made_map}
use Rattle.scc_core.specs.declared.program.Core.{Core}
use Rattle.scc_core_view.specs.Programs.{cell_of, process_of, program_of}
use Rattle.scc_pointers_spec.specs.Freed.{all_freed}
use Rattle.scc_pointers.specs.Resolved.{new_numbers, title_in}
use Rattle.scc_pointers_laws.specs.Ready.{IsOver}
use Rattle.scc_pointers_numbers.specs.Numbered.{Found}
use Rattle.scc_pointers_laws.proofs.Ready.{err_same, ready_is}
use Rattle.scc_pointers.proofs.Titles.{keeps_objects, numbered, program_is}
use Rattle.scc_pointers.proofs.pass.ResolvePass.run.Goals as goal
use Rattle.scc_pointers.proofs.Begun.{with_processes}

pub returns-clause-given : goal.returns-clause-given
returns-clause-given c =
    let n = c.new-known.ensures in
    let over : IsOver (program_of c.args.c) c.new-known.result c.args.c.vectors = record { cells = ap (map cell_of) (sym n.cells); vectors = refl } in record {
      keeps = keeps_objects c.args.c (record { top = c.args.c.top; cells = c.in_ok-cells.cells; processes = c.in_ok-processes.processes; vectors = c.args.c.vectors })
          refl c.in_ok-cells.ensures refl
          (c.in_ok-processes.ensures.titles
          ∙ ap (λ ns. map (title_in ns) c.args.c.processes) (c.as_slice-2.ensures.value ∙ c.in_ok-numbers.ensures ∙ ap (new_numbers 0) c.as_slice.ensures.elements));
      program = λ h.
          let m : Core = record { top = c.args.c.top; cells = c.in_ok-cells.cells; processes = c.in_ok-processes.processes; vectors = c.args.c.vectors } in
          let ns = c.as_slice-2.ensures.value ∙ c.in_ok-numbers.ensures ∙ ap (new_numbers 0) c.as_slice.ensures.elements in
          program_is c.args.c m refl c.in_ok-cells.ensures refl
          (c.in_ok-processes.ensures.given (program_of c.args.c) over (subst (λ x. Found x (new_number (map cell_of c.args.c.cells))) (sym ns) (numbered c.args.c.cells))
          (ready_is c.args.c c.new-known.result _ c.in_ok-places.places n.cells n.places refl n.counters c.in_ok-places.ensures h));
    }

pub returns-in_err-processes-clause-refused : goal.returns-in_err-processes-clause-refused
returns-in_err-processes-clause-refused c = λ r is.
    let n = c.new-known.ensures in
    let over : IsOver (program_of c.args.c) c.new-known.result c.args.c.vectors = record { cells = ap (map cell_of) (sym n.cells); vectors = refl } in
    let e = c.in_err-processes.ensures in
    let x = err_from_is_err_and c.from_residual-in_err-processes.result c.from_residual-in_err-processes.ensures.1 in
    let so = ap (λ y. Err y) (sym x.2 ∙ err_same x.0 _ c.from_residual-in_err-processes.result x.1 is) in record {
      code = e.stop r so;
      refusal = λ h. ap (made_map (with_processes (program_of c.args.c))) (e.refused (program_of c.args.c) r over (ready_is c.args.c c.new-known.result _ c.in_ok-places.places n.cells n.places refl n.counters c.in_ok-places.ensures h) so);
    }
