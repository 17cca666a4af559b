use Rattle.std.proofs.Common.{◌≡◌, sym, ap, ◌∙◌, arith, ◌+◌, ◌<◌, ◌++◌, List, ℕ, map, length, drop, append_assoc}
use Rattle.scc_base.specs.declared.refusal.Place.{Place}
use Rattle.scc_states_segments.specs.declared.waits.Halt.{Halt}
use Rattle.scc_states_segments.proofs.Adds.{counts_here, places_here}
use Rattle.scc_states_segments.proofs.waits.+halts.Goals as goal

joined : {A : Type 0} (a b d e f t : List A) → d ≡ a ++ b → e ≡ b ++ f → a ++ e ≡ t → d ++ f ≡ t
joined a b d e f t h i j = ap (λ x. x ++ f) h ∙ append_assoc a b f ∙ ap (λ x. a ++ x) (sym i) ∙ j

pub halts-loop-s-preserved : goal.halts-loop-s-preserved
halts-loop-s-preserved t c =
    let i : c.loop-s.s-index < length c.args.body.now = omega arith in (
      joined _ _ _ _ _ _ c.in_ok-halts_in.ensures.counts (counts_here c.args.body.now c.loop-s.s-index c.s-item.result i c.s-item.is) c.loop-s.invariant.0,
      joined _ _ _ _ _ _ c.in_ok-halts_in.ensures.places (places_here c.args.body.now c.loop-s.s-index c.s-item.result i c.s-item.is) c.loop-s.invariant.1,
    )
