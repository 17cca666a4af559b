use Rattle.std.proofs.Common.{◌≡◌, drop}
use Rattle.scc_pointers_walk.specs.Located.{first_size, may_name, seen}
use Rattle.scc_pointers_walk.proofs.sizes.open_size.Given as goal

abbrev pub invariant-loop-v : goal.invariant-loop-v
invariant-loop-v l = first_size (λ v. may_name l.front (seen l.r l.parts) v.path) (drop l.v-index l.v-items) ≡ first_size (λ v. may_name l.front (seen l.r l.parts) v.path) l.v-items
