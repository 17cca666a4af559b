use Rattle.std.proofs.Common.{sym, ◌∙◌}
use Rattle.std.specs.Prelude.{unwrap_or}
use Rattle.scc_plain_view.specs.Terms.{taken_of}
use Rattle.scc_plain_drafts.proofs.Picking.{taken_part, taken_whole}
use Rattle.scc_plain_drafts.proofs.draft.is_answer_at.Goals as goal

pub returns-then-takes_part : goal.returns-then-takes_part
returns-then-takes_part c = λ p k. let t = taken_of c.args.left.now in taken_part p k (unwrap_or t.of k) t.left t.pick (sym c.takes_part.ensures ∙ c.if-takes_part.true)

pub returns : goal.returns
returns c = λ p k. let t = taken_of c.args.left.now in c.names_answer.ensures ∙ taken_whole p k (unwrap_or t.of k) t.left t.pick (sym c.takes_part.ensures ∙ c.if-takes_part.false)
