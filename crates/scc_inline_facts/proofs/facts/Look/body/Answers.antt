use Rattle.std.proofs.Common.{◌+◌, max}
use Rattle.scc_inline_size_laws.specs.Counts.{height_in, size_in}
use Rattle.scc_plain_view.specs.Codes.{code_of}
use Rattle.scc_plain_view.specs.Plains.{plain_of, function_of}
use Rattle.scc_inline_facts.proofs.Walking.{turn_goes}
use Rattle.scc_inline_facts.proofs.facts.Look.body.Goals as goal

pub loop-preserved : goal.loop-preserved
loop-preserved c = λ sizes heights agrees. turn_goes sizes heights (plain_of c.args.s.now.plain.now) (function_of c.args.s.now.function.now) c.loop.self.extent c.turn.new.self.extent c.pop.new.self c.loop.tasks c.turn.new.tasks c.in-Some.task
    (c.args.self.now.extent.size + size_in sizes (plain_of c.args.s.now.plain.now) (function_of c.args.s.now.function.now) (code_of c.args.body.now)) (max c.args.self.now.extent.height (height_in heights (plain_of c.args.s.now.plain.now) (function_of c.args.s.now.function.now) (code_of c.args.body.now)))
    c.in-Some.ensures.last (c.loop.invariant sizes heights agrees) (c.in_ok-turn.ensures sizes heights agrees)
