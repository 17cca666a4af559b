use Rattle.std.proofs.Common.{◌≡◌, ◌+◌, ◌<◌, arith, refl, sym, ap, ◌∙◌, length}
use Rattle.std.proofs.lemmas.List.{drop_all}
use Rattle.scc_rules_walks.proofs.Acting.{acts_all, acts_next}
use Rattle.scc_rules_walks.proofs.acts.+acts.Goals as goal

pub add_all-loop-s-preserved : goal.add_all-loop-s-preserved
add_all-loop-s-preserved t c =
    let h : c.loop-s.s-index < length c.args.body.now = omega arith in
    acts_next c.args.body.now c.loop-s.s-index c.s-item.result _ _ _ h c.s-item.is c.in_ok-add.ensures c.loop-s.invariant

pub add_all-returns : goal.add_all-returns
add_all-returns t c = acts_all _ _ _ (drop_all c.loop-s.s-index c.args.body.now (omega arith)) c.loop-s.invariant
