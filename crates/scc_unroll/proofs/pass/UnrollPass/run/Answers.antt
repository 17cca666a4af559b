use Rattle.std.proofs.Common.{subst, refl, sym, ap, ◌∙◌, map, Err}
use Rattle.std.proofs.lemmas.Result.{err_from_is_err_and}
use Rattle.scc_core_spec.specs.First.{first_of}
use Rattle.scc_core_spec.specs.Unrolled.{first_unrolled, with_body}
use Rattle.scc_core_view.specs.Programs.{cell_of, process_of}
use Rattle.scc_unroll.specs.Unrolled.{body_of}
use Rattle.scc_unroll_asked.specs.Cores.{IsKnown}
use Rattle.scc_unroll_asked.proofs.Given.{err_same}
use Rattle.scc_unroll.proofs.Programs.{known_is, program_is}
use Rattle.scc_unroll_asked.specs.Copied.{HaveCopies}
use Rattle.scc_unroll.proofs.pass.UnrollPass.run.Goals as goal

pub returns-clause-given : goal.returns-clause-given
returns-clause-given c =
    let n = c.new.ensures in
    let ps = c.args.c.processes in
    let known : IsKnown c.new.result c.args.c = known_is c.new.result c.args.c _ n.cells n.places n.counters c.in_ok-places.ensures in
    let e = c.in_ok-processes.ensures in record {
      keeps = record { top = refl; cells = refl; vectors = refl; processes = e.heads };
      copies = subst (λ cs. HaveCopies cs ps c.in_ok-processes.processes) n.cells e.copies;
      accepted = λ h. ap (λ cs. first_of (first_unrolled (map cell_of cs)) (map process_of ps)) (sym n.cells) ∙ e.passed (h c.new.result known);
      program = λ h. program_is c.args.c c.in_ok-processes.processes (e.given (h c.new.result known) ∙ ap (λ cs. map (with_body (body_of (map cell_of cs))) (map process_of ps)) n.cells);
    }

pub returns-in_err-processes-clause-refused : goal.returns-in_err-processes-clause-refused
returns-in_err-processes-clause-refused c = λ r is.
    let n = c.new.ensures in
    let ps = c.args.c.processes in
    let known : IsKnown c.new.result c.args.c = known_is c.new.result c.args.c _ n.cells n.places n.counters c.in_ok-places.ensures in
    let e = c.in_err-processes.ensures in
    let x = err_from_is_err_and c.from_residual-in_err-processes.result c.from_residual-in_err-processes.ensures.1 in
    let so = ap (λ y. Err y) (sym x.2 ∙ err_same x.0 _ c.from_residual-in_err-processes.result x.1 is) in record {
      code = e.stop r so;
      refusal = λ h. ap (λ cs. first_of (first_unrolled (map cell_of cs)) (map process_of ps)) (sym n.cells) ∙ e.refused r (h c.new.result known) so;
    }
