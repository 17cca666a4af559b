use Rattle.std.proofs.Common.{◌≡◌, ◌<◌, ◌-◌, ◌*◌, ◌/◌, ◌%◌, ◌^◌, ◌++◌, ◌∷◌, [], arith, ap, sym, ◌∙◌, append_assoc}
use Rattle.std.proofs.lemmas.List.{append-nil}
use Rattle.scc_trace.specs.Text.{digit, hex_text}
use Rattle.scc_trace.proofs.Nibble.{hex_more, hex_none}
use Rattle.scc_trace.proofs.hex.hex_digits.Goals as goal

pub loop-left-preserved : goal.loop-left-preserved
loop-left-preserved c =
    let v = c.args.value in
    let left = c.loop-left.left in
    let out = c.loop-left.out in
    let some : 0 < left = omega arith in
    let d : c.letter.result ≡ digit (v / 2 ^ (4 * (left - 1)) % 16) = c.letter.ensures ∙ ap digit c.nibble.ensures.is in
    let e : c.push_bytes.new.self ≡ out ++ c.letter.result ∷ [] = c.in_ok-push_bytes.ensures.ok in
    ap (λ o. o ++ hex_text (left - 1) v) e ∙ append_assoc out (c.letter.result ∷ []) (hex_text (left - 1) v)
    ∙ ap (λ b. out ++ b ∷ hex_text (left - 1) v) d ∙ ap (λ t. out ++ t) (sym (hex_more left v some)) ∙ c.loop-left.invariant

pub returns : goal.returns
returns c =
    let v = c.args.value in
    let none : c.loop-left.left ≡ 0 = omega arith in
    let e : hex_text c.loop-left.left v ≡ [] = ap (λ n. hex_text n v) none ∙ hex_none v in
    sym (append-nil c.loop-left.out) ∙ ap (λ t. c.loop-left.out ++ t) (sym e) ∙ c.loop-left.invariant
