use Rattle.std.proofs.Common.{rules, ◌<◌, ◌≤◌, length, refl, subst}
use Rattle.scc_elab_groups.proofs.Grouping.{member_noted, none_noted}
use Rattle.scc_elab_groups.proofs.groups.note_member.Goals as goal

pub returns-in-Some : goal.returns-in-Some
returns-in-Some c = member_noted c.push.result c.args.members.now.items c.args.number c.in-Some.group.now (record { tails = c.push.new.items }) c.args.tail (subst (λ n. c.args.number < n) c.args.members.now.ok.0 (c.in-Some.ensures.variant.0 refl)) c.in-Some.ensures.value c.push.ensures.ok

pub returns-in-None : goal.returns-in-None
returns-in-None c = let l : length c.args.members.now.items ≤ c.args.number = search rules in none_noted c.args.members.now.items c.args.number c.args.tail.now l
