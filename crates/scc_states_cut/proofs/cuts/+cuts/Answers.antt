use Rattle.std.proofs.Common.{◌≡◌, refl, sym, ap, subst, ◌∙◌, arith, ◌+◌, ◌<◌, ◌++◌, [], ◌∷◌, List, map, flat_map, drop, length}
use Rattle.std.proofs.lemmas.Result.{err_from_is_err_and}
use Rattle.scc_core_spec.specs.Segments.{Segment}
use Rattle.scc_states_segments.specs.declared.path.Frame.{Frame}
use Rattle.scc_states_segments.specs.declared.path.Sort.TheVariants as sort
use Rattle.scc_states_segments.specs.Frames.{scene, framed}
use Rattle.scc_states_segments.specs.Behind.{behind_waits, own_waits}
use Rattle.scc_states_segments.proofs.Behind.{waits_here, test_waits}
use Rattle.scc_states_cut.specs.Cut.{AreUnfolded, Counts, IsPast, segment_of}
use Rattle.scc_states_cut.proofs.Behind.{all_stood, then_unfolded, past_first, one_turn, stood_here}
use Rattle.scc_states_cut.proofs.Counting.{left_then, past_left, past_before}
use Rattle.scc_states_cut.proofs.cuts.+cuts.Goals as goal

pub cuts-loop-k-preserved : goal.cuts-loop-k-preserved
cuts-loop-k-preserved t c =
    let ss = c.args.body.now in
    let s = scene c.args.around.now in
    let i : c.loop-k.k < length ss = omega arith in
    let rest = behind_waits (drop (c.loop-k.k + 1) ss) s in
    let own = own_waits c.index-body-k.result (drop (c.loop-k.k + 1) ss) s in
    let here = waits_here ss c.loop-k.k c.index-body-k.result s i c.index-body-k.is in
    let cut = subst (λ l. (map (segment_of c.args.waits.now) c.cut.new.out ≡ map (segment_of c.args.waits.now) c.loop-k.out ++ own_waits c.index-body-k.result l s) × Counts c.loop-k.count c.cut.new.count (all_stood (own_waits c.index-body-k.result l s))) c.split_at.ensures.back c.in_ok-cut.ensures in (
      one_turn c.args.waits.now c.loop-k.out c.cut.new.out (behind_waits (drop c.loop-k.k ss) s) own rest _ here cut.0 c.loop-k.invariant.0,
      left_then c.args.count.now c.loop-k.count c.cut.new.count _ (all_stood own) (all_stood rest) (all_stood (behind_waits (drop c.loop-k.k ss) s)) (stood_here _ own rest here) c.loop-k.invariant.1 cut.1,
    )

pub cuts-returns-in_err-cut : goal.cuts-returns-in_err-cut
cuts-returns-in_err-cut t c =
    let ss = c.args.body.now in
    let s = scene c.args.around.now in
    let i : c.loop-k.k < length ss = omega arith in
    let rest = behind_waits (drop (c.loop-k.k + 1) ss) s in
    let own = own_waits c.index-body-k.result (drop (c.loop-k.k + 1) ss) s in
    let here = waits_here ss c.loop-k.k c.index-body-k.result s i c.index-body-k.is in
    let cut = subst (λ l. IsPast c.loop-k.count (all_stood (own_waits c.index-body-k.result l s)) c.in_err-cut.field-0.0) c.split_at.ensures.back c.in_err-cut.ensures in
    let p = err_from_is_err_and c.from_residual.result c.from_residual.ensures.1 in
    rw (p.1, p.2) (past_left c.args.count.now c.loop-k.count (all_stood (behind_waits ss s)) (all_stood (behind_waits (drop c.loop-k.k ss) s)) c.in_err-cut.field-0.0 c.loop-k.invariant.1
    (past_first (behind_waits (drop c.loop-k.k ss) s) own rest c.loop-k.count c.in_err-cut.field-0.0 here cut))

-- those of both branches
pub cut-returns-in_ok-cuts-in-Test : goal.cut-returns-in_ok-cuts-in-Test
cut-returns-in_ok-cuts-in-Test t c =
    let ns = c.args.waits.now in
    let f : Frame = record { sort = sort.Rest; rest = c.args.rest } in
    let inner = framed f (scene c.args.around.now) in
    let around : scene c.in_ok-inner-in-Test.inner ≡ inner = c.in_ok-inner-in-Test.ensures in
    let same = test_waits c.args.part.now c.args.rest.now (scene c.args.around.now) c.in-Test.test c.in-Test.yes c.in-Test.no c.in-Test.is f refl refl in
    then_unfolded ns _ (behind_waits c.in-Test.yes inner) (behind_waits c.in-Test.no inner) c.args.out.now c.cuts.new.out c.cuts-in-Test.new.out c.args.count.now c.cuts.new.count c.cuts-in-Test.new.count c.cuts-in-Test.result same
    (subst (λ l. (map (segment_of ns) c.cuts.new.out ≡ map (segment_of ns) c.args.out.now ++ behind_waits c.in-Test.yes l) × Counts c.args.count.now c.cuts.new.count (all_stood (behind_waits c.in-Test.yes l))) (ap scene c.as_slice-in-Test.ensures.elements ∙ around)
    (subst (λ b. (map (segment_of ns) c.cuts.new.out ≡ map (segment_of ns) c.args.out.now ++ behind_waits b (scene c.as_slice-in-Test.result.now)) × Counts c.args.count.now c.cuts.new.count (all_stood (behind_waits b (scene c.as_slice-in-Test.result.now)))) c.as_slice.ensures.elements c.in_ok-cuts-in-Test.ensures))
    (subst (λ l. AreUnfolded ns (behind_waits c.in-Test.no l) c.cuts.new.out c.cuts-in-Test.new.out c.cuts.new.count c.cuts-in-Test.new.count c.cuts-in-Test.result) (ap scene c.as_slice-in-Test-3.ensures.elements ∙ around)
    (subst (λ b. AreUnfolded ns (behind_waits b (scene c.as_slice-in-Test-3.result.now)) c.cuts.new.out c.cuts-in-Test.new.out c.cuts.new.count c.cuts-in-Test.new.count c.cuts-in-Test.result) c.as_slice-in-Test-2.ensures.elements c.cuts-in-Test.ensures))

pub cut-returns-in_err-cuts-in-Test : goal.cut-returns-in_err-cuts-in-Test
cut-returns-in_err-cuts-in-Test t c =
    let f : Frame = record { sort = sort.Rest; rest = c.args.rest } in
    let inner = framed f (scene c.args.around.now) in
    let around : scene c.in_ok-inner-in-Test.inner ≡ inner = c.in_ok-inner-in-Test.ensures in
    let same = test_waits c.args.part.now c.args.rest.now (scene c.args.around.now) c.in-Test.test c.in-Test.yes c.in-Test.no c.in-Test.is f refl refl in
    let e = c.in_err-cuts-in-Test.field-0.0 in
    let first = subst (λ l. IsPast c.args.count.now (all_stood (behind_waits c.in-Test.yes l)) e) (ap scene c.as_slice-in-Test.ensures.elements ∙ around)
    (subst (λ b. IsPast c.args.count.now (all_stood (behind_waits b (scene c.as_slice-in-Test.result.now))) e) c.as_slice.ensures.elements c.in_err-cuts-in-Test.ensures) in
    let p = err_from_is_err_and c.from_residual-in_err-cuts-in-Test.result c.from_residual-in_err-cuts-in-Test.ensures.1 in
    rw (p.1, p.2) (past_first (own_waits c.args.part.now c.args.rest.now (scene c.args.around.now)) (behind_waits c.in-Test.yes inner) (behind_waits c.in-Test.no inner ++ []) c.args.count.now e same first)
