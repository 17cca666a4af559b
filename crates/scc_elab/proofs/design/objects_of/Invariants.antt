use Rattle.std.proofs.Common.{◌≡◌, take}
use Rattle.std.specs.List.{sum_by}
use Rattle.scc_elab.specs.Storage.{storage_of}
use Rattle.scc_elab_state.specs.Things.{thing_bits}
use Rattle.scc_elab.proofs.design.objects_of.Given as goal

abbrev pub invariant-loop-thing : goal.invariant-loop-thing
invariant-loop-thing l = storage_of l.list ≡ sum_by thing_bits (take l.thing-index l.g.things)
