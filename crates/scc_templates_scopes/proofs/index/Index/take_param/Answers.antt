use Rattle.std.proofs.Common.{rules, refl}
use Rattle.scc_templates_scopes.proofs.Indexing.{adds_param}
use Rattle.scc_templates_scopes.proofs.index.Index.take_param.Goals as goal

pub returns : goal.returns
returns c = adds_param c.args.self.now (record { alloc = c.args.self.now.alloc; file = c.args.self.now.file; members = c.args.self.now.members; params = c.insert.new.self; routines = c.args.self.now.routines; groups = c.args.self.now.groups }) (record { class = c.args.class; name = c.args.name }) c.args.at c.in_ok-insert.ensures.updates (search rules) refl refl refl
