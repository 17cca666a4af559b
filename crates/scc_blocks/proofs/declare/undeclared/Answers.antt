use Rattle.std.proofs.Common.{ap, sym, subst, ◌∙◌, ◌++◌, ◌∷◌, []}
use Rattle.scc_blocks.specs.Declaring.{AreUndeclared, undeclared}
use Rattle.scc_blocks.proofs.Declaring.{undeclared_more}
use Rattle.scc_blocks.proofs.declare.undeclared.Goals as goal

pub loop-preserved : goal.loop-preserved
loop-preserved c =
    let xs = c.loop.numbers.items in
    subst AreUndeclared (sym (c.in_ok-push-2.ensures.ok ∙ ap (λ ns. ns ++ undeclared ∷ []) c.in_ok-push.ensures.ok)) (undeclared_more (xs ++ undeclared ∷ []) (undeclared_more xs c.loop.invariant))
