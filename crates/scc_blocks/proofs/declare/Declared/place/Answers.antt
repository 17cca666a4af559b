use Rattle.std.proofs.Common.{ap, ◌∙◌}
use Rattle.std.specs.Prelude.{slice_set}
use Rattle.scc_blocks.proofs.Declaring.{adds_one}
use Rattle.scc_blocks.proofs.declare.Declared.place.Goals as goal

pub returns-clause-adds : goal.returns-clause-adds
returns-clause-adds c = adds_one c.args.lowered c.in_ok-id.id c.args.var c.args.self.now c.number.new.self c.in_ok-id.ensures.declared c.in_ok-id.ensures.number (c.in_ok-number.ensures.vars ∙ c.in_ok-id.ensures.vars)
    (c.in_ok-number.ensures.cells ∙ ap (λ ns. slice_set ns c.args.lowered c.in_ok-id.id) c.in_ok-id.ensures.cells)
