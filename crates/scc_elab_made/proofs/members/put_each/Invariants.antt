use Rattle.std.proofs.Common.{◌-◌, length, map, List}
use Rattle.scc_plain_tree.specs.declared.stmt.PlainStmt.{PlainStmt}
use Rattle.scc_plain_view.specs.Codes.{code_of}
use Rattle.scc_plain_view.specs.Plains.{member_of}
use Rattle.scc_elab_groups.specs.Groups.{Grouped}
use Rattle.scc_elab_works.specs.declared.works.Work.{Work}
use Rattle.scc_elab_works.specs.Works.{at_in}
use Rattle.scc_elab_made.specs.Objects.{AreLeft, IsShut}
use Rattle.scc_elab_made.proofs.members.put_each.Given as goal

abbrev pub invariant-loop-i : goal.invariant-loop-i
invariant-loop-i l = (list : List PlainStmt) → Grouped list l.groups → (before : List Work) → IsShut before l.initial.works.items → AreLeft (at_in l.at) (map member_of l.members) (code_of list) before (length l.members - l.i) l.works.items
