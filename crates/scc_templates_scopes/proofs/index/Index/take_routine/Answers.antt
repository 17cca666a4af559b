use Rattle.std.proofs.Common.{rules, refl}
use Rattle.scc_templates_scopes.proofs.Indexing.{adds_routine}
use Rattle.scc_templates_scopes.proofs.index.Index.take_routine.Goals as goal

pub returns : goal.returns
returns c = adds_routine c.args.self.now (record { alloc = c.args.self.now.alloc; file = c.args.self.now.file; members = c.args.self.now.members; params = c.args.self.now.params; routines = c.insert.new.self; groups = c.args.self.now.groups }) c.args.key c.declared_again-declared.result c.args.k c.args.body c.in_ok-insert.ensures.updates (search rules) (search rules) refl refl refl
