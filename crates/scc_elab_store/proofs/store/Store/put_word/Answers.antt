use Rattle.scc_elab_store.proofs.Puts.{words_put}
use Rattle.scc_elab_store.proofs.store.Store.put_word.Goals as goal

pub returns : goal.returns
returns c = words_put c.args.self.now c.insert.new.self.entries c.args.at c.args.word c.turn-since.result c.in_ok-insert.ensures.entries c.turn-since.ensures
