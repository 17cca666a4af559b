use Rattle.std.proofs.Common.{◌≡◌, map, take}
use Rattle.scc_elab_grown.specs.Grown.{vector_of as vector_in}
use Rattle.scc_plain_view.specs.Designs.{vector_of}
use Rattle.scc_elab_left.proofs.design.vectors_of.Given as goal

abbrev pub invariant-loop-v : goal.invariant-loop-v
invariant-loop-v l = map vector_of l.list ≡ map vector_in (take l.v-index l.g.vectors.items)
