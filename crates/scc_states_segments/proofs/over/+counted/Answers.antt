use Rattle.std.proofs.Common.{◌≡◌, sym, ap, ◌∙◌, arith, ◌+◌, ◌<◌, ◌++◌, length, drop, append_assoc, [], ◌∷◌}
use Rattle.scc_core_spec.specs.Split.{stood}
use Rattle.scc_core_view.specs.Codes.{code_of}
use Rattle.scc_states_segments.specs.Limits.{first_after}
use Rattle.scc_states_segments.proofs.Adds.{stood_here}
use Rattle.scc_states_segments.proofs.over.+counted.Goals as goal

pub each-loop-s-preserved : goal.each-loop-s-preserved
each-loop-s-preserved t c =
    let i : c.loop-s.s-index < length c.args.body.now = omega arith in
    let here = stood_here c.args.depth c.args.body.now c.loop-s.s-index c.s-item.result i c.s-item.is in
    let rest = stood c.args.depth (code_of (drop (c.loop-s.s-index + 1) c.args.body.now)) in
    λ ss. c.counted.ensures (rest ++ ss)
    ∙ ap (first_after c.loop-s.count) (sym (append_assoc (stood c.args.depth (code_of (c.s-item.result ∷ []))) rest ss) ∙ ap (λ xs. xs ++ ss) (sym here))
    ∙ c.loop-s.invariant ss
