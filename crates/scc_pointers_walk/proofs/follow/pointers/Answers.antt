use Rattle.std.proofs.Common.{sym, ap, ◌∙◌, ◌++◌, ◌∷◌, [], Bool, List, Bor}
use Rattle.scc_core.specs.declared.expr.CoreLeft.{CoreLeft}
use Rattle.scc_core.proofs.Chains.{begun, goes_on, ended}
use Rattle.scc_pointers_walk.specs.Walked.{pointer_of}
use Rattle.scc_pointers_walk.proofs.follow.pointers.Goals as goal

abbrev lent : Bor CoreLeft × Bool → CoreLeft × Bool
lent x = (x.0.now, x.1)

pub loop-pointer-init : goal.loop-pointer-init
loop-pointer-init c = λ ys h.
    begun pointer_of lent (c.args.left, c.args.soft) c.push.new.items.items ys
    (c.in_ok-push.ensures.ok ∙ ap (λ (xs : List (Bor CoreLeft × Bool)). xs ++ (c.args.left, c.args.soft) ∷ []) c.new-found.ensures.items) h

pub loop-pointer-preserved : goal.loop-pointer-preserved
loop-pointer-preserved c =
    goes_on pointer_of lent (c.args.left.now, c.args.soft) (c.loop-pointer.here.0.now, c.loop-pointer.here.1) c.loop-pointer.found.items c.push-in-Some.new.items.items c.in-Some.pointer c.loop-pointer.invariant
    (sym c.in-Some.ensures.pointer) (c.in_ok-push-in-Some.ensures.ok)

pub returns-in-None : goal.returns-in-None
returns-in-None c = ended pointer_of lent (c.args.left.now, c.args.soft) (c.loop-pointer.here.0.now, c.loop-pointer.here.1) c.loop-pointer.found.items c.loop-pointer.invariant (sym c.in-None.ensures.pointer)
