use Rattle.scc_plain_view.specs.Plains.{plain_of}
use Rattle.scc_inline_facts.specs.Known.{AreKnown}
use Rattle.scc_inline_facts.proofs.facts.look_at_all.Given as goal

abbrev pub invariant-loop-number : goal.invariant-loop-number
invariant-loop-number l = AreKnown (plain_of l.plain) l.initial.known.items → AreKnown (plain_of l.plain) l.known.items
