use Rattle.std.proofs.Common.{sym, ap, ◌∙◌, ◌++◌, ◌∷◌, [], List, Bor}
use Rattle.scc_core.specs.declared.expr.CoreLeft.{CoreLeft}
use Rattle.scc_core.specs.Copies.{pointer_in_left}
use Rattle.scc_core.proofs.Chains.{begun, goes_on, ended}
use Rattle.scc_core.proofs.copy.pointers.Goals as goal

abbrev lent : Bor CoreLeft → CoreLeft
lent x = x.now

pub loop-pointer-init : goal.loop-pointer-init
loop-pointer-init c = λ ys h.
    begun pointer_in_left lent c.args.left c.push.new.items.items ys
    (c.in_ok-push.ensures.ok ∙ ap (λ (xs : List (Bor CoreLeft)). xs ++ c.args.left ∷ []) c.new-found.ensures.items) h

pub loop-pointer-preserved : goal.loop-pointer-preserved
loop-pointer-preserved c =
    goes_on pointer_in_left lent c.args.left.now c.loop-pointer.here.now c.loop-pointer.found.items c.push-in-Some.new.items.items c.in-Some.pointer c.loop-pointer.invariant
    (sym c.in-Some.ensures.pointer) (c.in_ok-push-in-Some.ensures.ok)

pub returns-in-None : goal.returns-in-None
returns-in-None c = ended pointer_in_left lent c.args.left.now c.loop-pointer.here.now c.loop-pointer.found.items c.loop-pointer.invariant (sym c.in-None.ensures.pointer)
