use Rattle.std.proofs.Common.{subst, [], ◌≡◌, sym, ap, ◌∙◌, ◌∷◌, ◌++◌, map, Err}
use Rattle.std.proofs.lemmas.Result.{err_from_is_err_and}
use Rattle.std.specs.Vec.Iter.{into_iter_items}
use Rattle.scc_core_spec.specs.Unrolled.{first_unrolled, with_body}
use Rattle.scc_core_view.specs.Programs.{cell_of, process_of}
use Rattle.scc_unroll.specs.Unrolled.{body_of, head_of}
use Rattle.scc_unroll_asked.proofs.Given.{err_same, given_front}
use Rattle.scc_unroll_laws.proofs.Firsts.{map_both, map_changed, none_more, first_here}
use Rattle.scc_unroll_asked.specs.Copied.{HaveCopies}
use Rattle.scc_unroll_asked.proofs.Items.{one_more_copied}
use Rattle.scc_unroll.proofs.pass.all.Goals as goal

pub loop-p-preserved : goal.loop-p-preserved
loop-p-preserved c =
    let cs = map cell_of c.args.known.cells.now in
    let ys = c.loop-p.yielded in
    let p = c.in-Some.p in
    let q = c.in_ok-new.new in
    let us = c.push.new.self in
    let there : c.args.processes ≡ ys ++ p ∷ into_iter_items c.next.new.self =
    sym c.into_vec-p-items.ensures.elements ∙ sym c.into_iter-p-iterator.ensures.into_iter_gives.0
    ∙ given_front c.into_iter-p-iterator.result ys c.loop-p.p-iterator c.loop-p.yielded_by ∙ ap (λ l. ys ++ l) c.in-Some.ensures.steps.0 in (
      map_both head_of c.loop-p.out us ys q p c.in_ok-push.ensures.ok c.loop-p.invariant.0 c.in_ok-new.ensures.head,
      λ h. none_more (first_unrolled cs) process_of ys p (c.loop-p.invariant.1 h) (c.in_ok-new.ensures.passed (h ys _ p there)),
      λ h. map_changed process_of (with_body (body_of cs)) c.loop-p.out us ys q p c.in_ok-push.ensures.ok (c.loop-p.invariant.2 h) (c.in_ok-new.ensures.given (h ys _ p there)),
      subst (HaveCopies c.args.known.cells.now (ys ++ p ∷ [])) (sym c.in_ok-push.ensures.ok) (one_more_copied c.args.known.cells.now ys c.loop-p.out p q c.loop-p.invariant.3 c.in_ok-new.ensures.copies),
    )

pub returns-in_err-new-clause-refused : goal.returns-in_err-new-clause-refused
returns-in_err-new-clause-refused c = λ r h e.
    let cs = map cell_of c.args.known.cells.now in
    let ys = c.loop-p.yielded in
    let p = c.in-Some.p in
    let there : c.args.processes ≡ ys ++ p ∷ into_iter_items c.next.new.self =
    sym c.into_vec-p-items.ensures.elements ∙ sym c.into_iter-p-iterator.ensures.into_iter_gives.0
    ∙ given_front c.into_iter-p-iterator.result ys c.loop-p.p-iterator c.loop-p.yielded_by ∙ ap (λ l. ys ++ l) c.in-Some.ensures.steps.0 in
    let x = err_from_is_err_and c.from_residual.result c.from_residual.ensures.1 in
    first_here (first_unrolled cs) process_of c.args.processes ys _ p r there (c.loop-p.invariant.1 h) (c.in_err-new.ensures.refused r (h ys _ p there) (ap (λ y. Err y) (sym x.2 ∙ err_same x.0 _ c.from_residual.result x.1 e)))
