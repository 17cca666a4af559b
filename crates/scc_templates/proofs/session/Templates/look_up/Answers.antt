use Rattle.std.proofs.Common.{rules, ap, ◌∙◌, option_map, option_and_then}
use Rattle.scc_templates_scopes.specs.Layered.{known_in}
use Rattle.scc_templates.specs.Sessions.{objects, sight_in}
use Rattle.scc_templates.proofs.Seeing.{sees}
use Rattle.scc_templates.proofs.session.Templates.look_up.Goals as goal

pub returns : goal.returns
returns c = λ s b index stands open_. ap (option_map (λ f. sight_in (objects c.args.self.now.table) f)) (c.look.ensures ∙ (search rules)) ∙ sees c.args.self.now s c.args.cx.now.scope b c.args.cx.now.given (option_and_then (λ l. known_in l.now c.args.name.0) c.args.cx.now.locals) c.args.name.0 index stands open_
