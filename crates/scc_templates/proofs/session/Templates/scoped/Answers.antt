use Rattle.std.proofs.Common.{rules, ap, ◌∙◌, Some, None}
use Rattle.scc_templates.specs.Sessions.{objects, owner_in, sight_in}
use Rattle.scc_templates.proofs.Seeing.{scoped_some, scoped_none}
use Rattle.scc_templates.proofs.session.Templates.scoped.Goals as goal

pub returns-in-Some : goal.returns-in-Some
returns-in-Some c = λ s b index counts. ap (λ f. Some (sight_in (objects c.args.self.now.table) f)) c.of_instance.ensures ∙ scoped_some c.args.self.now s c.args.i.0 b index counts c.args.i c.args.name.0 c.declared_in.result c.in-Some.entry c.declared_in.ensures c.in-Some.is

pub returns-in-Some-own : goal.returns-in-Some-own
returns-in-Some-own c = λ s b index counts. ap (λ f. Some (sight_in (objects c.args.self.now.table) f)) c.of_file.ensures ∙ scoped_none c.args.self.now s c.args.i.0 b index counts (owner_in (objects c.args.self.now.table) (Some c.args.i)) c.args.name.0 c.declared_in.result (Some c.in-Some-own.arg) c.declared_in.ensures c.in-None.is (search rules)

pub returns-in-None-own : goal.returns-in-None-own
returns-in-None-own c = λ s b index counts. scoped_none c.args.self.now s c.args.i.0 b index counts (owner_in (objects c.args.self.now.table) (Some c.args.i)) c.args.name.0 c.declared_in.result None c.declared_in.ensures c.in-None.is (search rules)
