use Rattle.std.proofs.Common.{◌≡◌, sym, ap, ◌∙◌, arith, ◌+◌, ◌<◌, max, length, drop, [], ◌∷◌, Some, None}
use Rattle.std.proofs.lemmas.List.{drop_all}
use Rattle.scc_core_view.specs.Codes.{code_of}
use Rattle.scc_states_segments.specs.Reach.{both, reach}
use Rattle.scc_states_segments.proofs.Adds.{reach_here, none_both, both_assoc, both_none}
use Rattle.scc_states_segments.proofs.opening.+reach.Goals as goal

pub reach_of-loop-s-init : goal.reach_of-loop-s-init
reach_of-loop-s-init t c = none_both _

pub reach_of-loop-s-preserved : goal.reach_of-loop-s-preserved
reach_of-loop-s-preserved t c =
    let i : c.loop-s.s-index < length c.args.body.now = omega arith in
    let here = reach_here c.args.body.now c.loop-s.s-index c.s-item.result i c.s-item.is in
    let rest = reach (code_of (drop (c.loop-s.s-index + 1) c.args.body.now)) in
    let one : reach (code_of (c.s-item.result ∷ [])) ≡ Some c.in-Some.here = sym c.reach_in.ensures ∙ c.in-Some.is in
    ap (λ n. both (Some n) rest) c.max-most.ensures
    ∙ sym (both_assoc (Some c.loop-s.most) (Some c.in-Some.here) rest)
    ∙ ap (λ o. both (Some c.loop-s.most) (both o rest)) (sym one)
    ∙ ap (both (Some c.loop-s.most)) (sym here) ∙ c.loop-s.invariant

pub reach_of-returns-in-None : goal.reach_of-returns-in-None
reach_of-returns-in-None t c =
    let i : c.loop-s.s-index < length c.args.body.now = omega arith in
    let here = reach_here c.args.body.now c.loop-s.s-index c.s-item.result i c.s-item.is in
    let rest = reach (code_of (drop (c.loop-s.s-index + 1) c.args.body.now)) in
    let one : reach (code_of (c.s-item.result ∷ [])) ≡ None = sym c.reach_in.ensures ∙ c.in-None.is in
    ap (λ o. both (Some c.loop-s.most) (both o rest)) (sym one) ∙ ap (both (Some c.loop-s.most)) (sym here) ∙ c.loop-s.invariant

pub reach_of-returns : goal.reach_of-returns
reach_of-returns t c =
    let none = drop_all c.loop-s.s-index c.args.body.now (omega arith) in
    sym (both_none (Some c.loop-s.most)) ∙ ap (λ ss. both (Some c.loop-s.most) (reach (code_of ss))) (sym none) ∙ c.loop-s.invariant
