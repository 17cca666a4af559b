use Rattle.std.proofs.Common.{refl, ◌+◌, ◌-◌, ◌∙◌}
use Rattle.scc_elab_grown.specs.Grown.{grown_of}
use Rattle.scc_elab_works.specs.Runs.{now_of}
use Rattle.scc_plain_view.specs.Plains.{plain_of}
use Rattle.scc_elab_made.proofs.Stepping.{one_less}
use Rattle.scc_elab_made.proofs.Vectoring.{vector_done, same_elements, element_goes}
use Rattle.scc_elab_made.proofs.vectors.next_of_vector.Goals as goal

pub returns-then-v-eq0 : goal.returns-then-v-eq0
returns-then-v-eq0 c = vector_done (plain_of c.args.p.now) c.args.v.now c.args.works.now.items (now_of c.args.m.now) c.if-v-eq0.true

pub returns : goal.returns
returns c = element_goes (plain_of c.args.p.now) c.args.v.now (record { levels = c.args.v.now.levels; path = c.in_ok-path.path; next = c.args.v.now.next + 1; count = c.args.v.now.count - 1; base = c.args.v.now.base; place = c.args.v.now.place }) c.args.works.now.items c.push.new.items.items (now_of c.args.m.now) (c.args.v.now.count - 1)
    (one_less c.args.v.now.count c.if-v-eq0.false)
    (same_elements (plain_of c.args.p.now) c.args.v.now (record { levels = c.args.v.now.levels; path = c.in_ok-path.path; next = c.args.v.now.next + 1; count = c.args.v.now.count - 1; base = c.args.v.now.base; place = c.args.v.now.place }) refl (c.in_ok-path.ensures ∙ c.as_slice.ensures.value) refl refl)
    refl refl c.in_ok-push.ensures.ok (Unit {0}) c.make_element.result c.make_element.new.works.items (now_of c.make_element.new.m) c.make_element.ensures
