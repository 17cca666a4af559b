use Rattle.std.proofs.Common.{◌<◌, sym, ◌∙◌, arith, map}
use Rattle.scc_elab_spec.specs.Grown.{nothing, with_store}
use Rattle.scc_elab_spec.specs.Made.{params_given}
use Rattle.scc_elab_store.specs.Stores.{store_of}
use Rattle.scc_elab_worth.specs.Arguments.{given_in}
use Rattle.scc_plain_view.specs.Plains.{member_of}
use Rattle.scc_elab_worth.proofs.Handing.{got, missed, no_member, no_argument, past_name, past_one}
use Rattle.scc_elab_worth.proofs.params.pass.Goals as goal

pub returns-in_default : goal.returns-in_default
returns-in_default c =
    let h : c.loop-local.local < c.args.params = omega arith in
    no_member member_of given_in c.args.object c.args.params c.loop-local.local c.loop-local.next c.args.locals.now c.args.list.now (with_store nothing (store_of c.loop-local.store))
    (params_given c.args.object 0 c.args.params (map member_of c.args.locals.now) (map given_in c.args.list.now) (with_store nothing (store_of c.args.store.now))) h c.loop-local.invariant (missed c.args.locals.now c.loop-local.local c.in_default.ensures.lookup.3)

pub returns-in_default-get : goal.returns-in_default-get
returns-in_default-get c =
    let h : c.loop-local.local < c.args.params = omega arith in
    no_argument member_of given_in c.args.object c.args.params c.loop-local.local c.loop-local.next c.args.locals.now c.args.list.now (with_store nothing (store_of c.loop-local.store))
    (params_given c.args.object 0 c.args.params (map member_of c.args.locals.now) (map given_in c.args.list.now) (with_store nothing (store_of c.args.store.now))) h c.loop-local.invariant c.in-Some.m.now (got c.args.locals.now c.loop-local.local c.in-Some.m.now c.in-Some.ensures.lookup.0 c.in-Some.ensures.lookup.1) (missed c.args.list.now c.loop-local.next c.in_default-get.ensures.lookup.3)

pub loop-local-preserved-then-is_name : goal.loop-local-preserved-then-is_name
loop-local-preserved-then-is_name c =
    let h : c.loop-local.local < c.args.params = omega arith in
    past_name member_of given_in c.args.object c.args.params c.loop-local.local c.loop-local.next c.args.locals.now c.args.list.now (with_store nothing (store_of c.loop-local.store))
    (params_given c.args.object 0 c.args.params (map member_of c.args.locals.now) (map given_in c.args.list.now) (with_store nothing (store_of c.args.store.now))) h c.loop-local.invariant c.in-Some.m.now (got c.args.locals.now c.loop-local.local c.in-Some.m.now c.in-Some.ensures.lookup.0 c.in-Some.ensures.lookup.1) c.in-Some-get.x.now (got c.args.list.now c.loop-local.next c.in-Some-get.x.now c.in-Some-get.ensures.lookup.0 c.in-Some-get.ensures.lookup.1)
    (sym c.is_name.ensures ∙ c.if-is_name.true)

pub loop-local-preserved : goal.loop-local-preserved
loop-local-preserved c =
    let h : c.loop-local.local < c.args.params = omega arith in
    past_one member_of given_in c.args.object c.args.params c.loop-local.local c.loop-local.next c.args.locals.now c.args.list.now (with_store nothing (store_of c.loop-local.store))
    (params_given c.args.object 0 c.args.params (map member_of c.args.locals.now) (map given_in c.args.list.now) (with_store nothing (store_of c.args.store.now))) h c.loop-local.invariant c.in-Some.m.now (got c.args.locals.now c.loop-local.local c.in-Some.m.now c.in-Some.ensures.lookup.0 c.in-Some.ensures.lookup.1) c.in-Some-get.x.now (got c.args.list.now c.loop-local.next c.in-Some-get.x.now c.in-Some-get.ensures.lookup.0 c.in-Some-get.ensures.lookup.1)
    (sym c.is_name.ensures ∙ c.if-is_name.false) (with_store nothing (store_of c.give.new.store)) c.in_default-give.ensures
