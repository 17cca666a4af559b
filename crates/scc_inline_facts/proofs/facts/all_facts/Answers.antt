use Rattle.std.proofs.Common.{subst, sym}
use Rattle.scc_plain_view.specs.Plains.{plain_of}
use Rattle.scc_inline_facts.specs.Known.{AreFacts, AreKnown}
use Rattle.scc_inline_facts.proofs.facts.all_facts.Goals as goal

pub returns-then-all_told : goal.returns-then-all_told
returns-then-all_told c = subst (AreFacts (plain_of c.args.plain.now)) c.as_slice.ensures.value (c.all_told.ensures c.if-all_told.true (subst (AreKnown (plain_of c.args.plain.now)) (sym c.as_slice.ensures.value) (c.in_ok-look_at_all.ensures c.in_ok-known.ensures)))
