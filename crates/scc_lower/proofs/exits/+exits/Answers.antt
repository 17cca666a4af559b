use Rattle.std.proofs.Common.{◌<◌, ap, sym, ◌∙◌, max, length, take, arith}
use Rattle.scc_core_view.specs.Codes.{code_of}
use Rattle.scc_lower_tree_laws.specs.Stating.{greatest}
use Rattle.scc_lower.proofs.Greatest.{greatest-more}
use Rattle.scc_lower_expressions.proofs.Steps.{take-next}
use Rattle.scc_lower.proofs.exits.+exits.Goals as goal

pub greatest_exit-loop-s-preserved : goal.greatest_exit-loop-s-preserved
greatest_exit-loop-s-preserved t c =
    let i : c.loop-s.s-index < length c.args.body.now = omega arith in
    let next = ap (λ ss. greatest c.args.depth (code_of ss)) (take-next c.args.body.now c.loop-s.s-index c.s-item.result i c.s-item.is) in
    let more = greatest-more c.args.depth (take c.loop-s.s-index c.args.body.now) c.s-item.result in
    c.max-greatest.ensures ∙ (λ j. max (c.in_ok-greatest_exit_of.ensures j) (c.loop-s.invariant j)) ∙ sym more ∙ sym next
