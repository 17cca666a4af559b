use Rattle.std.proofs.Common.{ap, ◌∙◌, Some}
use Rattle.scc_templates.proofs.Seeing.{member_some, member_none}
use Rattle.scc_templates.proofs.session.Templates.member.Goals as goal

pub returns-in-Some : goal.returns-in-Some
returns-in-Some c = λ s b index counts. ap Some c.of_instance.ensures ∙ member_some c.args.self.now s c.args.i.0 b index counts c.args.i c.args.name.0 c.declared_in.result c.in-Some.entry c.declared_in.ensures c.in-Some.is

pub returns-in-None : goal.returns-in-None
returns-in-None c = λ s b index counts. member_none c.args.self.now s c.args.i.0 b index counts c.args.i c.args.name.0 c.declared_in.result c.declared_in.ensures c.in-None.is
