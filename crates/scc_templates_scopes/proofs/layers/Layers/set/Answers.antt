use Rattle.scc_templates_scopes.proofs.Layering.{set_one}
use Rattle.scc_templates_scopes.proofs.layers.Layers.set.Goals as goal

pub returns : goal.returns
returns c = set_one c.args.self.now.meanings c.insert.new.self c.args.name c.args.meaning c.in_ok-insert.ensures.updates
