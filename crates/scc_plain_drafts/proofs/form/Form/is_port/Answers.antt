use Rattle.std.proofs.Common.{sym, ◌∙◌}
use Rattle.scc_plain_drafts.proofs.Standing.{port_by, no_port}
use Rattle.scc_plain_drafts.proofs.form.Form.is_port.Goals as goal

pub returns-then-not-is_whole : goal.returns-then-not-is_whole
returns-then-not-is_whole c = λ n. no_port n c.args.self (sym (c.is_whole.ensures n) ∙ c.if-not-is_whole.true)

pub returns : goal.returns
returns c = λ n. c.is_some.ensures ∙ port_by n c.args.self c.port_kind.result (c.port_kind.ensures n) (sym (c.is_whole.ensures n) ∙ c.if-not-is_whole.false)
