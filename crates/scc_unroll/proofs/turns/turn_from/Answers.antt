use Rattle.std.proofs.Common.{refl, sym, ap, ◌∙◌, option_map}
use Rattle.scc_core_spec.specs.Counted.{Counter, counter, counting}
use Rattle.scc_core_spec.specs.Static.{is_true, static}
use Rattle.scc_core_view.specs.Terms.{term_of}
use Rattle.scc_unroll_laws.specs.Counters.{counters_of}
use Rattle.scc_unroll.specs.Shape.{cells_at, turned}
use Rattle.scc_unroll_asked.specs.Read.{read}
use Rattle.scc_unroll.proofs.EachTurn.{turn_is}
use Rattle.scc_unroll.proofs.turns.turn_from.Goals as goal

pub returns : goal.returns
returns c = λ told left.
    let cs = cells_at c.args.at.now in
    let g = c.args.of.now in
    let k = c.in_ok-counters.counters.items in
    let are = c.in_ok-counters.ensures.counters told.counters in
    let is = c.in_ok-counters.ensures.is in
    let test = ap (option_map is_true) (ap (λ z. static cs (counting z (term_of g.turning.test.now))) (sym is) ∙ sym (told.test k are) ∙ ap (λ x. read c.args.at.now.known x g.turning.test.now) (sym c.as_slice.ensures.value) ∙ sym c.in_ok-test.ensures) ∙ sym c.goes-on.ensures in
    let step = ap (λ z. static cs (counting z (term_of g.turning.step.now))) (sym is) ∙ sym (told.step k are) ∙ ap (λ x. read c.args.at.now.known x g.turning.step.now) (sym c.as_slice-2.ensures.value) ∙ sym c.in_ok-next.ensures in
    turn_is cs (counters_of c.args.around.now) g.cell (turned g.turning) c.args.now.bits left c.goes-on.result c.args.now c.in_ok-next.next refl test step
    ∙ ap (λ z. Rattle.scc_unroll.specs.Turns.went z (Rattle.scc_core_spec.specs.Counted.turns_from cs (counters_of c.args.around.now) g.cell (turned g.turning) left)) (sym c.way.ensures)
