use Rattle.std.proofs.Common.{map}
use Rattle.scc_elab_groups.specs.Groups.{AreEmpty, tails_of}
use Rattle.scc_elab_groups.proofs.groups.no_members.Given as goal

abbrev pub invariant-loop : goal.invariant-loop
invariant-loop l = AreEmpty (map tails_of l.members.items)
