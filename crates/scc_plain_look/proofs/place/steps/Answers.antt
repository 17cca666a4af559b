use Rattle.std.proofs.Common.{rules, ◌≡◌, ◌∙◌, ◌+◌, ◌∷◌, Some, None, List, map, drop, ap, sym}
use Rattle.scc_plain_tree.specs.declared.expr.PlainPart.{PlainPart}
use Rattle.scc_plain_look.specs.Held.{Around, around}
use Rattle.scc_plain_look.specs.Seen as seen
use Rattle.scc_plain_look.proofs.Chains.{steps_none}
use Rattle.scc_plain_look.proofs.Fronts.{front}
use Rattle.scc_plain_look.proofs.place.steps.Goals as goal

pub returns-in_err-h : goal.returns-in_err-h
returns-in_err-h c =
    let a : Around = around c.args.s.now.plain.now c.args.s.now.function.now c.args.s.now.calls.now in
    let x : PlainPart = c.part-item.result in
    let rest : List PlainPart = drop (c.loop-part.part-index + 1) c.args.parts.now in
    let n : c.step.result ≡ None = search rules in
    let r : c.from_residual.result ≡ None = search rules in
    let s : (seen.part x).step a c.loop-part.h ≡ None = sym c.step.ensures ∙ n in
    let f : drop c.loop-part.part-index c.args.parts.now ≡ x ∷ rest = front c.args.parts.now c.loop-part.part-index x c.loop-part-test.true c.part-item.is in
    let e : seen.steps a (map seen.part (drop c.loop-part.part-index c.args.parts.now)) (Some c.loop-part.h) ≡ None =
    ap (λ d. seen.steps a (map seen.part d) (Some c.loop-part.h)) f ∙ ap (seen.steps a (map seen.part rest)) s ∙ steps_none a (map seen.part rest) in
    r ∙ sym e ∙ c.loop-part.invariant
