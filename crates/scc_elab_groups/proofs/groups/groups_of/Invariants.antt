use Rattle.std.proofs.Common.{◌≡◌, ◌-◌, drop, length}
use Rattle.scc_elab_spec.specs.Inits.{owner}
use Rattle.scc_plain_view.specs.Codes.{code_of}
use Rattle.scc_elab_groups.specs.Groups.{Grouped}
use Rattle.scc_elab_groups.proofs.groups.groups_of.Given as goal

abbrev pub invariant-loop-i : goal.invariant-loop-i
invariant-loop-i l = Grouped (drop (length l.list - l.i) l.list) l.groups × (l.member ≡ owner (code_of (drop (length l.list - l.i) l.list)))
