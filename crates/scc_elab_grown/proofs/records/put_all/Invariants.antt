use Rattle.std.proofs.Common.{◌≡◌, ◌++◌, take}
use Rattle.scc_elab_grown.proofs.records.put_all.Given as goal

abbrev pub invariant-loop-item : goal.invariant-loop-item
invariant-loop-item l = l.list.items ≡ l.initial.list.items ++ take l.item-index l.items
