use Rattle.std.proofs.Common.{◌<◌, arith, length}
use Rattle.scc_unroll_asked.specs.Asked.{IsItself}
use Rattle.scc_unroll_asked.proofs.Asked.{all_few, first_read, rest_taken, test_read}
use Rattle.scc_unroll_asked.specs.Copied.{OneOf}
use Rattle.scc_unroll_asked.proofs.Items.{all_few as few_items}
use Rattle.scc_unroll.proofs.shape.turning_in.Goals as goal

pub returns-then-leaves_block-clause-read : goal.returns-then-leaves_block-clause-read
returns-then-leaves_block-clause-read c = λ known reads.
    let i : 0 < length c.args.body.now = omega (arith, c.in-len1-up.len_at_least) in
    let first = first_read known c.args.body.now 0 c.first-item.result i c.first-item.is reads in
    c.turn.ensures.read known (test_read known c.first-item.result first c.in-If.test c.in-If.yes c.in-If.no c.in-If.is).0 (rest_taken known c.args.body.now _ reads)

pub returns-then-leaves_block-clause-itself : goal.returns-then-leaves_block-clause-itself
returns-then-leaves_block-clause-itself c = λ all. c.turn.ensures.itself (all_few IsItself c.args.body.now _ all)

pub returns-then-leaves_block-clause-within : goal.returns-then-leaves_block-clause-within
returns-then-leaves_block-clause-within c = λ xs all. c.turn.ensures.within xs (few_items (λ x. OneOf x xs) c.args.body.now _ all)
