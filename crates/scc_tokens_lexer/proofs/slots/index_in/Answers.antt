use Rattle.std.proofs.Common.{◌∙◌}
use Rattle.scc_tokens_lexer.proofs.Placing.{index_is}
use Rattle.scc_tokens_lexer.proofs.slots.index_in.Goals as goal

pub returns-clause-value : goal.returns-clause-value
returns-clause-value c = c.at_slot.ensures ∙ index_is (λ w. w.now) c.args.words.now c.args.slots.now c.args.text.now c.requires.placed
