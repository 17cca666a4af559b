use Rattle.std.proofs.Common.{sym, ap, map}
use Rattle.scc_elab_groups.proofs.Grouping.{behind_is, grouped_all, grouped_first, grouped_step, owner_first, owner_next}
use Rattle.scc_elab_groups.proofs.groups.groups_of.Goals as goal

pub loop-i-init : goal.loop-i-init
loop-i-init c = (grouped_first c.args.list.now (record { members = c.in_ok-no_members.field-0; none = record { tails = c.new.result } }) c.in_ok-no_members.ensures (ap (map (λ t. t.now)) c.new.ensures.items), owner_first c.args.list.now)

pub owner_by-member-requires : goal.owner_by-member-requires
owner_by-member-requires c = behind_is c.args.list.now c.loop-i.i c.loop-i-test.true c.from-tail.result.now c.loop-i.member c.from-tail.ensures c.loop-i.invariant.1

pub loop-i-preserved : goal.loop-i-preserved
loop-i-preserved c = (
  grouped_step c.args.list.now c.loop-i.i c.loop-i-test.true c.from-tail.result.now c.loop-i.groups c.note.new.groups c.owner_by-member.result c.from-tail.ensures c.owner_by-member.ensures c.loop-i.invariant.0 c.in_ok-note.ensures,
  owner_next c.args.list.now c.loop-i.i c.loop-i-test.true c.from-tail.result.now c.owner_by-member.result c.from-tail.ensures c.owner_by-member.ensures,
)
