use Rattle.scc_unroll_asked.specs.Asked.{IsItself}
use Rattle.scc_unroll_asked.proofs.Asked.{all_few, rest_taken}
use Rattle.scc_unroll_asked.specs.Copied.{OneOf}
use Rattle.scc_unroll_asked.proofs.Items.{all_few as few_items}
use Rattle.scc_unroll.proofs.shape.turn.Goals as goal

pub returns-in-Block-clause-read : goal.returns-in-Block-clause-read
returns-in-Block-clause-read c = λ known test reads. c.step.ensures.read known test (rest_taken known c.args.body.now _ reads)

pub returns-in-Block-clause-itself : goal.returns-in-Block-clause-itself
returns-in-Block-clause-itself c = λ all. c.step.ensures.itself (all_few IsItself c.args.body.now _ all)

pub returns-in-Block-clause-within : goal.returns-in-Block-clause-within
returns-in-Block-clause-within c = λ xs all. c.step.ensures.within xs (few_items (λ x. OneOf x xs) c.args.body.now _ all)
