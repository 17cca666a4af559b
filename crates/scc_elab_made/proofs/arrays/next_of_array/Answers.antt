use Rattle.std.proofs.Common.{◌≡◌, refl, sym, ap, subst, ◌∙◌, ◌+◌, ◌-◌, length, take, drop, map, true, false, None, Some, [], ◌∷◌, ◌++◌, List}
use Rattle.scc_plain_view.specs.Plains.{plain_of}
use Rattle.scc_elab_store.specs.Locations.{part_of}
use Rattle.scc_elab_works.specs.Runs.{now_of}
use Rattle.scc_elab_works.specs.Works.{passed_in}
use Rattle.scc_elab_made.proofs.Making.{rows_go}
use Rattle.scc_elab_made.proofs.Stepping.{one_less}
use Rattle.scc_elab_made.proofs.arrays.next_of_array.Goals as goal

pub returns : goal.returns
returns c = rows_go (plain_of c.args.p.now) c.args.e.now.form (passed_in c.args.e.now.args) (map part_of c.args.e.now.path.items) c.args.works.now.items c.put_others.new.works.items c.put_first.new.works.items c.args.e.now.sizes.now c.args.e.now.next c.args.e.now.count (c.args.e.now.count - 1) (now_of c.args.m.now)
    (one_less c.args.e.now.count c.if-e-eq0.false) c.in_ok-put_others.ensures c.in_ok-put_first.ensures
