use Rattle.scc_plain_view.specs.Plains.{plain_of, function_of}
use Rattle.scc_inline_facts.proofs.Counted.{saturated}
use Rattle.scc_inline_facts.proofs.Walking.{slice_is, statement_ok}
use Rattle.scc_inline_facts.proofs.facts.Look.statements.Goals as goal

pub returns-in_ok-stmt-in-len1-up : goal.returns-in_ok-stmt-in-len1-up
returns-in_ok-stmt-in-len1-up c = λ sizes heights agrees. statement_ok sizes heights (plain_of c.args.s.now.plain.now) (function_of c.args.s.now.function.now) c.enter.result c.args.self.now.extent c.in_ok-self-in-len1-up.field-0
    c.args.tasks.now c.push.new.self c.enter.new.tasks _ c.first-item.result c.args.list.now c.parts_of-parts.result c.args.depth c.saturating_add.result
    c.in_ok-push-in-len1-up.ensures.ok (c.parts_of-parts.ensures.size sizes (plain_of c.args.s.now.plain.now) (function_of c.args.s.now.function.now)) (c.parts_of-parts.ensures.height heights (plain_of c.args.s.now.plain.now) (function_of c.args.s.now.function.now))
    (c.in_ok-self-in-len1-up.ensures sizes heights agrees) (slice_is c.args.list.now c.first-item.result c.in-len1-up.len_at_least c.first-item.is) (saturated c.args.depth c.saturating_add.result c.saturating_add.ensures) c.enter.ensures.size c.enter.ensures.height
