use Rattle.std.proofs.Common.{ap, ◌∙◌, map, sym, refl, true, false, None}
use Rattle.scc_elab_inits.specs.Lefts as spec
use Rattle.scc_elab_inits.proofs.Trees.{first_when}
use Rattle.scc_elab_inits.proofs.lefts.first_seen.Goals as goal

pub returns-then-is_this : goal.returns-then-is_this
returns-then-is_this c = λ t f. first_when t f c.args.left.now true c.first_of.result (sym c.if-is_this.true ∙ c.is_this.ensures t f) (c.first_of.ensures t f ∙ ap (λ z. spec.first_of (map (spec.part t f) z)) c.as_slice.ensures.elements)

pub returns-else-is_this : goal.returns-else-is_this
returns-else-is_this c = λ t f. first_when t f c.args.left.now false None (sym c.if-is_this.false ∙ c.is_this.ensures t f) refl
