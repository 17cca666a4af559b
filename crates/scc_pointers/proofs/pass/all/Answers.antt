use Rattle.std.proofs.Common.{◌≡◌, sym, ap, subst, ◌∙◌, ◌∷◌, ◌++◌, map, Err}
use Rattle.std.proofs.lemmas.Result.{err_from_is_err_and}
use Rattle.std.specs.Vec.Iter.{into_iter_items}
use Rattle.scc_base.specs.declared.refusal.Stop.{Stop}
use Rattle.scc_base.specs.declared.refusal.Stop.TheVariants as stop
use Rattle.scc_core_spec.specs.Resolved.{Stopped}
use Rattle.scc_core_view.specs.Codes.{code_of}
use Rattle.scc_core_view.specs.Programs.{process_of}
use Rattle.scc_pointers_spec.specs.Freed.{all_freed, freed}
use Rattle.scc_pointers_walk.specs.Led.{Gives}
use Rattle.scc_pointers.specs.Resolved.{title_in, title_of}
use Rattle.scc_pointers_laws.specs.Ready.{first_leads}
use Rattle.scc_pointers_laws.proofs.Ready.{accepted_more, body_at, err_same, stops_at}
use Rattle.scc_core_spec.specs.Renumbered.{new_number}
use Rattle.scc_pointers.proofs.Begun.{given_front, titles_more}
use Rattle.scc_pointers.proofs.Titles.{given_more}
use Rattle.scc_pointers.proofs.pass.all.Goals as goal

pub loop-p-preserved : goal.loop-p-preserved
loop-p-preserved c =
    let k = c.args.known in
    let v = c.args.vectors.now in
    let ys = c.loop-p.yielded in
    let q = c.in-Some.p in
    let us = c.push.new.self in
    let there : c.args.processes ≡ ys ++ q ∷ into_iter_items c.next.new.self =
    sym c.into_vec-p-items.ensures.elements ∙ sym c.into_iter-p-iterator.ensures.into_iter_gives.0
    ∙ given_front c.into_iter-p-iterator.result ys c.loop-p.p-iterator c.loop-p.yielded_by ∙ ap (λ l. ys ++ l) c.in-Some.ensures.steps.0 in (
      titles_more (title_in c.args.numbers.now) c.loop-p.out us ys _ q c.in_ok-push.ensures.ok c.loop-p.invariant.0 c.in_ok-renumbered_process.ensures.title,
      λ p over h.
          let e = c.in_ok-body.ensures.freed (subst (λ b. Rattle.scc_pointers_laws.specs.Ready.AreReady k c.args.places.now v b) (sym c.as_slice.ensures.elements) (h ys _ q there)) in
          accepted_more p ys q (c.loop-p.invariant.1 p over h) _ (body_at p k v over (code_of q.body) ∙ (ap (λ b. freed (first_leads k v) (code_of b)) (sym c.as_slice.ensures.elements) ∙ e)),
      λ p over found h.
          let e = c.in_ok-body.ensures.freed (subst (λ b. Rattle.scc_pointers_laws.specs.Ready.AreReady k c.args.places.now v b) (sym c.as_slice.ensures.elements) (h ys _ q there)) in
          given_more p c.args.numbers.now found c.loop-p.out us ys _ q c.in_ok-push.ensures.ok (c.loop-p.invariant.2 p over found h) _ (body_at p k v over (code_of q.body) ∙ (ap (λ b. freed (first_leads k v) (code_of b)) (sym c.as_slice.ensures.elements) ∙ e))
          c.in_ok-renumbered_process.ensures.title (c.in_ok-renumbered_process.ensures.body (new_number p.cells) found),
    )

pub returns-in_err-body-clause-refused : goal.returns-in_err-body-clause-refused
returns-in_err-body-clause-refused c = λ p r over h e.
    let k = c.args.known in
    let v = c.args.vectors.now in
    let ys = c.loop-p.yielded in
    let q = c.in-Some.p in
    let there : c.args.processes ≡ ys ++ q ∷ into_iter_items c.next.new.self =
    sym c.into_vec-p-items.ensures.elements ∙ sym c.into_iter-p-iterator.ensures.into_iter_gives.0
    ∙ given_front c.into_iter-p-iterator.result ys c.loop-p.p-iterator c.loop-p.yielded_by ∙ ap (λ l. ys ++ l) c.in-Some.ensures.steps.0 in
    let x = err_from_is_err_and c.from_residual.result c.from_residual.ensures.1 in
    let so : c.in_err-body.field-0.0 ≡ stop.Refused r = sym x.2 ∙ err_same x.0 _ c.from_residual.result x.1 e in
    let g = c.in_err-body.ensures.freed (subst (λ b. Rattle.scc_pointers_laws.specs.Ready.AreReady k c.args.places.now v b) (sym c.as_slice.ensures.elements) (h ys _ q there)) in
    let f : freed (first_leads k v) (code_of c.as_slice.result.now) ≡ Stopped r = subst (λ z. Gives code_of (Err z) (freed (first_leads k v) (code_of c.as_slice.result.now))) so g in
    ap (λ l. all_freed p (map process_of l)) there
    ∙ stops_at p ys (into_iter_items c.next.new.self) q r (c.loop-p.invariant.1 p over h) (body_at p k v over (code_of q.body) ∙ (ap (λ b. freed (first_leads k v) (code_of b)) (sym c.as_slice.ensures.elements) ∙ f))
