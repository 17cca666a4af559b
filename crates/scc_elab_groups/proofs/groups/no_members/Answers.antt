use Rattle.std.proofs.Common.{sym, ap, subst, map}
use Rattle.scc_elab_groups.specs.Groups.{AreEmpty, tails_of}
use Rattle.scc_elab_groups.proofs.Grouping.{more_empty}
use Rattle.scc_elab_groups.proofs.groups.no_members.Goals as goal

pub loop-preserved : goal.loop-preserved
loop-preserved c = subst (λ z. AreEmpty (map tails_of z)) (sym c.in_ok-push.ensures.ok) (more_empty c.loop.members.items (record { tails = c.new.result }) (ap (map (λ t. t.now)) c.new.ensures.items) c.loop.invariant)
