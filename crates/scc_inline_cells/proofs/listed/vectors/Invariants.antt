use Rattle.std.proofs.Common.{◌≡◌, map, drop, ◌++◌}
use Rattle.scc_core_view.specs.Programs.{vector_of as core_vector}
use Rattle.scc_inline_spec.specs.Inlined.{core_vectors}
use Rattle.scc_plain_view.specs.Designs.{design_of, vector_of as vector_in}
use Rattle.scc_inline_cells.specs.Views.{as_core}
use Rattle.scc_inline_cells.proofs.listed.vectors.Given as goal

abbrev pub invariant-loop-v : goal.invariant-loop-v
invariant-loop-v l = map core_vector l.made ++ map (λ v. as_core (vector_in v)) (drop l.v-index l.v-items) ≡ core_vectors (design_of l.d)
