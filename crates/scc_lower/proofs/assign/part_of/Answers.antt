use Rattle.std.proofs.Common.{◌∙◌, ap, map}
use Rattle.std.proofs.lemmas.Result.{on_ok_weaker}
use Rattle.scc_lower_spec.specs.Selected.{part_left}
use Rattle.scc_lower_expressions.specs.Becoming.{given_of, seen_of}
use Rattle.scc_lower.proofs.Writing.{part-added}
use Rattle.scc_lower.proofs.assign.part_of.Goals as goal

pub returns : goal.returns
returns c = λ k e.
    on_ok_weaker c.push.result
    (λ put. part-added (given_of c.args.cells) (map seen_of c.args.cx.now.views.now) c.args.cell c.in_ok-cell.field-0.now c.in_ok-var.var.0 c.args.bits.h c.args.bits.l k e c.part-left.result c.args.value.now c.in_ok-value.value c.args.out.now c.push.new.self c.in_ok-var.ensures
    c.in_ok-cell.ensures (c.part-left.ensures ∙ ap (λ n. part_left c.in_ok-var.var n c.args.bits.h c.args.bits.l) c.width.ensures) (c.in_ok-value.ensures c.same.ensures) put)
    c.push.ensures.ok
