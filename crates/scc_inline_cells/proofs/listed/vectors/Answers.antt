use Rattle.std.proofs.Common.{ap, sym, ◌∙◌, ◌++◌, map}
use Rattle.scc_core_view.specs.Programs.{vector_of as core_vector}
use Rattle.scc_plain_view.specs.Designs.{vector_of as vector_in}
use Rattle.scc_inline_cells.specs.Views.{as_core}
use Rattle.scc_inline_cells.proofs.Views.{vectors_are}
use Rattle.scc_inline_cells.proofs.listed.vectors.Goals as goal

pub loop-v-init : goal.loop-v-init
loop-v-init c = ap (λ z. map core_vector z ++ map (λ v. as_core (vector_in v)) c.as_slice-v-items.result.now) c.new-made.ensures.empty
    ∙ ap (map (λ v. as_core (vector_in v))) c.as_slice-v-items.ensures.elements ∙ sym (vectors_are c.args.d.now.vectors)
