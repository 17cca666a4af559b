use Rattle.std.proofs.Common.{◌≡◌, refl, sym, ap, ◌∙◌, arith, ◌+◌, ◌++◌, [], ◌∷◌, List, subst}
use Rattle.scc_core_spec.specs.Segments.{Finish}
use Rattle.scc_core_spec.specs.Split.{Stood, stood, stood_in}
use Rattle.scc_core_view.specs.Codes.{code_of}
use Rattle.scc_states_segments.specs.Frames.{from, scene, came, comes}
use Rattle.scc_states_segments.specs.Limits.{first_after}
use Rattle.scc_states_segments.proofs.Came.{came_plain}
use Rattle.scc_states_cut.proofs.Statements.{one_more, test_is}
use Rattle.scc_states_cut.proofs.Counting.{counts_then, counts_left, left_then}
use Rattle.scc_states_cut.proofs.unfold.+unfold.Goals as goal

pub tested-returns : goal.tested-returns
tested-returns t c =
    let inner = c.in_ok-inner.ensures in
    let yes = c.in_ok-yes.ensures in
    let no = c.in_ok-no.ensures in
    let around : scene c.in_ok-other.other ≡ scene c.args.around = ap scene (c.in_ok-other.ensures ∙ c.as_slice.ensures.elements) in
    let first : List Stood = record { place = c.args.place; depth = c.args.depth } ∷ [] in
    let a = stood_in (c.args.depth + 1) (from c.args.yes.now (scene c.args.around)) in
    let b = stood_in (c.args.depth + 1) (from c.args.no.now (scene c.args.around)) in (
      test_is c.args.waits.now c.args.place c.args.test c.in_ok-yes.yes c.in_ok-no.no _ _ (yes.0 ∙ ap (from c.args.yes.now) around) no.0,
      counts_then c.args.count.now c.unfolded.new.count c.unfolded-2.new.count (first ++ a) b
          (counts_then c.args.count.now c.take.new.self c.unfolded.new.count first a c.take.ensures.takes
          (subst (λ d. (more : List Stood) → first_after c.unfolded.new.count more ≡ first_after c.take.new.self (stood_in d (from c.args.yes.now (scene c.args.around)) ++ more)) inner
          (λ more. yes.1 more ∙ ap (λ s. first_after c.take.new.self (stood_in c.in_ok-inner.inner (from c.args.yes.now s) ++ more)) around)))
          (subst (λ d. (more : List Stood) → first_after c.unfolded-2.new.count more ≡ first_after c.unfolded.new.count (stood_in d (from c.args.no.now (scene c.args.around)) ++ more)) inner no.1),
    )

pub unfolded-returns-in_default-node : goal.unfolded-returns-in_default-node
unfolded-returns-in_default-node t c =
    let now = from c.loop.here.now (scene c.loop.around) in
    let here : now ≡ came c.in-Some.part.now c.in-Some.rest.now (scene c.next_part.new.around) = c.in_ok-part.ensures ∙ ap (λ o. comes o (scene c.next_part.new.around)) c.in-Some.is in (
      one_more c.args.waits.now c.loop.out c.push-in_default-node.new.self c.in_ok-last.field-0 Finish _ now _ c.in_ok-push-2.ensures.ok c.in_ok-last.ensures.0 here c.loop.invariant.0,
      counts_left c.args.count.now c.loop.count c.last.new.count _ (stood_in c.args.depth now) c.loop.invariant.1
          (λ more. c.in_ok-last.ensures.1 more ∙ ap (λ s. first_after c.loop.count (stood_in c.args.depth s ++ more)) (sym here)),
    )

pub unfolded-loop-preserved : goal.unfolded-loop-preserved
unfolded-loop-preserved t c =
    let now = from c.loop.here.now (scene c.loop.around) in
    let rest = from c.in-Some.rest.now (scene c.next_part.new.around) in
    let here = c.in_ok-part.ensures ∙ ap (λ o. comes o (scene c.next_part.new.around)) c.in-Some.is ∙ came_plain c.in-Some.part.now c.in-Some.rest.now (scene c.next_part.new.around) c.in-Plain.stmt c.in-Plain.is in (
      one_more c.args.waits.now c.loop.out c.push.new.self c.in_ok-whole.field-0 rest _ now _ c.in_ok-push.ensures.ok (c.in_ok-whole.ensures.0 c.args.waits.now rest) here c.loop.invariant.0,
      left_then c.args.count.now c.loop.count c.whole.new.count _ (stood c.args.depth (code_of (c.in-Plain.stmt ∷ []))) (stood_in c.args.depth rest) (stood_in c.args.depth now)
          (ap (stood_in c.args.depth) here) c.loop.invariant.1 c.in_ok-whole.ensures.1,
    )
