use Rattle.std.proofs.lemmas.Result.{on_ok_weaker}
use Rattle.scc_svtree.specs.Term.{term_of}
use Rattle.scc_lower_expressions.specs.Becoming.{given_of, slot_of}
use Rattle.scc_lower.proofs.Writing.{bit-added}
use Rattle.scc_lower.proofs.assign.bit_of.Goals as goal

pub returns : goal.returns
returns c = λ i.
    on_ok_weaker c.push.result
    (λ put. bit-added (given_of c.args.cells) c.args.cx.now.views.now c.args.cell c.in_ok-cell.field-0.now c.in_ok-from.from.0 c.in_ok-written_to.field-0.0 c.in_ok-view.field-0 c.width-all.result i (slot_of c.args.at) (term_of c.args.value.now) c.in_ok-value.value
    c.in_ok-stmt.stmt c.args.out.now c.push.new.self c.in_ok-view.ensures c.in_ok-from.ensures c.in_ok-written_to.ensures c.in_ok-cell.ensures c.width-all.ensures c.in_ok-value.ensures c.in_ok-stmt.ensures put)
    c.push.ensures.ok
