use Rattle.std.proofs.Common.{map}
use Rattle.scc_elab_grown.specs.Grown.{grown_of}
use Rattle.scc_elab_store.specs.Stores.{store_of}
use Rattle.scc_elab_worth.specs.Arguments.{given_in}
use Rattle.scc_plain_view.specs.Plains.{member_of}
use Rattle.scc_elab_works.proofs.Params.{params_whole}
use Rattle.scc_elab_works.proofs.things.pass_all.Goals as goal

pub returns : goal.returns
returns c = params_whole c.pass.result c.args.object c.args.params (map member_of c.args.locals.now) (map given_in c.args.list.now) (grown_of c.args.g.now) (store_of c.pass.new.store) c.pass.ensures
