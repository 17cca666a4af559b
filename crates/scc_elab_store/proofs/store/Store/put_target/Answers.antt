use Rattle.scc_elab_store.proofs.Puts.{targets_put}
use Rattle.scc_elab_store.proofs.store.Store.put_target.Goals as goal

pub returns : goal.returns
returns c = targets_put c.args.self.now c.insert.new.self.entries c.args.at c.args.to c.turn-since.result c.in_ok-insert.ensures.entries c.turn-since.ensures
