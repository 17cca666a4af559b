use Rattle.std.proofs.Common.{sym, ◌∙◌}
use Rattle.scc_plain_drafts.proofs.Picking.{not_whole, not_all, bits_by}
use Rattle.scc_plain_drafts.proofs.pick.bits_at.Goals as goal

pub returns-then-not-is_whole : goal.returns-then-not-is_whole
returns-then-not-is_whole c = λ n. not_whole n c.args.l.now (sym (c.is_whole.ensures n) ∙ c.if-not-is_whole.true)

pub returns-then-not-is_all : goal.returns-then-not-is_all
returns-then-not-is_all c = λ n. not_all n c.args.l.now (sym (c.is_whole.ensures n) ∙ c.if-not-is_whole.false) (sym (c.is_all.ensures n) ∙ c.if-not-is_all.true)

pub returns-in-Some : goal.returns-in-Some
returns-in-Some c = λ n. bits_by n c.args.l.now c.in-Some.kind c.with_bits.result (sym (c.is_whole.ensures n) ∙ c.if-not-is_whole.false) (sym (c.is_all.ensures n) ∙ c.if-not-is_all.false) (sym (c.value_kind.ensures n) ∙ c.in-Some.is) c.with_bits.ensures
