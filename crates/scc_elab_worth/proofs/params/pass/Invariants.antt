use Rattle.std.proofs.Common.{◌≡◌, ◌-◌, map, drop}
use Rattle.scc_elab_spec.specs.Grown.{nothing, with_store}
use Rattle.scc_elab_spec.specs.Made.{params_given}
use Rattle.scc_elab_store.specs.Stores.{store_of}
use Rattle.scc_elab_worth.specs.Arguments.{given_in}
use Rattle.scc_plain_view.specs.Plains.{member_of}
use Rattle.scc_elab_worth.proofs.params.pass.Given as goal

abbrev pub invariant-loop-local : goal.invariant-loop-local
invariant-loop-local l = params_given l.object l.local (l.params - l.local) (drop l.local (map member_of l.locals)) (drop l.next (map given_in l.list)) (with_store nothing (store_of l.store))
    ≡ params_given l.object 0 l.params (map member_of l.locals) (map given_in l.list) (with_store nothing (store_of l.initial.store))
