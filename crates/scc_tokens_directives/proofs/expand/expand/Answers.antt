use Rattle.std.proofs.Common.{◌≡◌, ◌∷◌, [], ap, sym, ◌∙◌, subst, Err, length, arith}
use Rattle.std.proofs.lemmas.Result.{err_from_is_err_and}
use Rattle.scc_tokens_directives.proofs.Expansion.{work_falls, deep_next, popped_is, popped_none, does_after, begins, expanded_is, ends, goes_on, stops_at}
use Rattle.scc_tokens_directives.specs.declared.frames.Frame.{Frame}
use Rattle.scc_tokens_directives.specs.Steps.{Does}
use Rattle.scc_tokens_directives.proofs.expand.expand.Goals as goal

pub returns-in_err-count_use : goal.returns-in_err-count_use
returns-in_err-count_use c =
    let p = err_from_is_err_and c.from_residual.result c.from_residual.ensures.1 in
    rw (p.1, p.2) (subst (Does {A = Unit {0}} c.count_use.new.self (Err c.in_err-count_use.field-0.0)) (sym (expanded_is _ _ c.args.name.0 c.args.out.now))
    (does_after c.count_use.new.self c.in_err-count_use.field-0.0 _ _ c.in_err-count_use.ensures.value))

pub expansions-init : goal.expansions-init
expansions-init c =
    let f : Frame = record { name = c.args.name.0; at = 0 } in
    let first : c.push.new.self ≡ f ∷ [] = c.in_ok-push.ensures ∙ ap (λ l. f ∷ l) c.new-frames.ensures in
    record {
      left = begins _ _ c.args.name.0 c.args.out.now c.count_use.new.self c.push.new.self c.in_ok-count_use.ensures.value first;
      deep = omega (arith, ap length first, c.in_ok-count_use.ensures.more);
      few = c.in_ok-count_use.ensures.few;
    }

pub expansions-smaller : goal.expansions-smaller
expansions-smaller c = work_falls _ c.in-Some.frame c.pop.new.self _ _ _ _ (popped_is _ _ _ _ c.pop.ensures c.in-Some.is) c.in_ok-take_next.ensures.frames c.in_ok-take_next.ensures.uses (c.in_ok-take_next.ensures.few c.expansions.invariant.few)

pub expansions-preserved : goal.expansions-preserved
expansions-preserved c =
    let deep = c.expansions.invariant.deep in
    let few = c.expansions.invariant.few in
    record {
      left = goes_on _ _ _ _ c.in-Some.frame c.pop.new.self _ _ _ (omega arith) (popped_is _ _ _ _ c.pop.ensures c.in-Some.is) c.in_ok-take_next.ensures.frames c.in_ok-take_next.ensures.value c.expansions.invariant.left;
      deep = deep_next _ c.in-Some.frame c.pop.new.self _ _ _ _ (popped_is _ _ _ _ c.pop.ensures c.in-Some.is) c.in_ok-take_next.ensures.frames c.in_ok-take_next.ensures.uses c.expansions.invariant.deep;
      few = c.in_ok-take_next.ensures.few c.expansions.invariant.few;
    }

pub returns-in_err-take_next : goal.returns-in_err-take_next
returns-in_err-take_next c =
    let p = err_from_is_err_and c.from_residual-in_err-take_next.result c.from_residual-in_err-take_next.ensures.1 in
    let deep = c.expansions.invariant.deep in
    let few = c.expansions.invariant.few in
    rw (p.1, p.2) (stops_at _ _ c.expansions.frames c.in-Some.frame c.pop.new.self _ _ _ _ (omega arith) (popped_is _ _ _ _ c.pop.ensures c.in-Some.is) c.in_err-take_next.ensures.value c.expansions.invariant.left)

pub returns : goal.returns
returns c = ends _ _ c.expansions.frames _ _ (popped_none _ _ _ c.pop.ensures c.in_default.is) c.expansions.invariant.left
