use Rattle.std.proofs.Common.{take}
use Rattle.scc_plain_view.specs.Plains.{member_of}
use Rattle.scc_inline.specs.Begun.{Keeps}
use Rattle.scc_inline.specs.Locals.{AreAdded}
use Rattle.scc_inline.proofs.scope.Growing.add_elements.Given as goal

abbrev pub invariant-loop-indices : goal.invariant-loop-indices
invariant-loop-indices l = Keeps l.initial.self l.self × AreAdded l.initial.self l.self l.number (member_of l.member) (take l.indices-index l.all)
