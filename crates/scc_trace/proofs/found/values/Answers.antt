use Rattle.std.proofs.Common.{arith, length, ◌<◌, ◌+◌, drop, ◌++◌, ◌∷◌, [], sym, ◌∙◌, ap}
use Rattle.std.proofs.lemmas.Bool.{eqb-true, eqb-false}
use Rattle.scc_trace.specs.Spans.{words_behind_in, words_next}
use Rattle.scc_trace.specs.Stimulus.{found_of, widths_of, word}
use Rattle.scc_trace.proofs.Turns.{merged, values_more, values_bad, values_few, values_end, values_many}
use Rattle.scc_trace.proofs.found.values.Goals as goal

pub returns-in_default : goal.returns-in_default
returns-in_default c = values_few _ _ _ c.loop-port-test.true (sym c.port-item.is) _ _ _ _ c.loop-port.invariant (c.behind.ensures.words ∙ ap words_next c.in_default.is)

pub returns-in_default-hex : goal.returns-in_default-hex
returns-in_default-hex c =
    values_bad _ _ _ c.loop-port-test.true (sym c.port-item.is) _ _ _ _ c.loop-port.invariant _ _ (c.in-Some.ensures.words ∙ c.first_word.ensures.words) (sym c.hex.ensures ∙ c.in_default-hex.is)

pub loop-port-preserved : goal.loop-port-preserved
loop-port-preserved c =
    let rest = found_of (widths_of (drop (c.loop-port.port-index + 1) c.args.ports.now)) (words_behind_in c.first_word.result.1) in
    ap (λ us. merged us c.note-wide.result rest) c.in_ok-push.ensures.ok
    ∙ ap (λ w. merged (c.loop-port.words ++ word c.in-Some-hex.bits ∷ []) w rest) c.note-wide.ensures
    ∙ values_more _ _ _ c.loop-port-test.true (sym c.port-item.is) _ _ _ _ c.loop-port.invariant _ _ c.in-Some-hex.bits (c.in-Some.ensures.words ∙ c.first_word.ensures.words) (sym c.in-Some-hex.ensures)

pub returns-then-is_empty : goal.returns-then-is_empty
returns-then-is_empty c = values_end _ _ c.loop-port-test.false _ _ _ _ _ c.loop-port.invariant (eqb-true _ _ (sym c.if-is_empty.ensures))

pub returns-else-is_empty : goal.returns-else-is_empty
returns-else-is_empty c =
    let e = eqb-false _ _ (sym c.if-is_empty.ensures) in
    let some : 0 < length c.loop-port.rest.bytes.now = omega (arith, e) in
    values_many _ _ c.loop-port-test.false _ _ _ _ _ c.loop-port.invariant some
