use Rattle.std.proofs.Common.{rules, refl}
use Rattle.scc_templates_scopes.proofs.Indexing.{means_in_class}
use Rattle.scc_templates_scopes.proofs.index.Index.mean_in_class.Goals as goal

pub returns : goal.returns
returns c = means_in_class c.args.self.now (record { alloc = c.args.self.now.alloc; file = c.args.self.now.file; members = c.insert.new.self; params = c.args.self.now.params; routines = c.args.self.now.routines; groups = c.args.self.now.groups }) (record { class = c.args.class; name = c.args.name }) c.args.said c.in_ok-insert.ensures.updates (search rules) refl refl refl
