use Rattle.std.proofs.Common.{rules, refl}
use Rattle.scc_templates_scopes.proofs.Indexing.{means_in_file}
use Rattle.scc_templates_scopes.proofs.index.Index.mean_in_file.Goals as goal

pub returns : goal.returns
returns c = means_in_file c.args.self.now (record { alloc = c.args.self.now.alloc; file = c.insert.new.self; members = c.args.self.now.members; params = c.args.self.now.params; routines = c.args.self.now.routines; groups = c.args.self.now.groups }) c.args.name c.args.said c.in_ok-insert.ensures.updates (search rules) refl refl refl
