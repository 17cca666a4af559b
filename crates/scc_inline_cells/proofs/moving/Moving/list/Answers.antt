use Rattle.std.proofs.Common.{◌∙◌}
use Rattle.scc_plain_view.specs.Plains.{plain_of, function_of}
use Rattle.scc_inline_cells.proofs.Noting.{list_goes}
use Rattle.scc_inline_cells.proofs.moving.Moving.list.Goals as goal

pub loop-preserved : goal.loop-preserved
loop-preserved c = λ m. list_goes (plain_of c.args.s.now.plain.now) (function_of c.args.s.now.function.now) c.args.constructor c.loop.self c.next.new.self c.pop.new.self c.loop.lists c.in-Some.list c.next.new.lists m
    c.in-Some.ensures.last (c.in_ok-next.ensures m) ∙ c.loop.invariant m
