use Rattle.std.proofs.Common.{sym, ap, ◌∙◌, ◌++◌, ◌∷◌, [], List, Bor}
use Rattle.scc_core.specs.declared.expr.CoreExpr.{CoreExpr}
use Rattle.scc_pointers_walk.specs.Walked.{first_of}
use Rattle.scc_core.proofs.Chains.{begun, goes_on, ended}
use Rattle.scc_pointers_walk.proofs.walk.spine.Goals as goal

abbrev lent : Bor CoreExpr → CoreExpr
lent x = x.now

pub loop-inner-init : goal.loop-inner-init
loop-inner-init c = λ ys h.
    begun first_of lent c.args.e c.push.new.items.items ys
    (c.in_ok-push.ensures.ok ∙ ap (λ (xs : List (Bor CoreExpr)). xs ++ c.args.e ∷ []) c.new-found.ensures.items) h

pub loop-inner-preserved : goal.loop-inner-preserved
loop-inner-preserved c =
    goes_on first_of lent c.args.e.now c.loop-inner.here.now c.loop-inner.found.items c.push-in-Some.new.items.items c.in-Some.inner c.loop-inner.invariant
    (sym c.in-Some.ensures.operand) (c.in_ok-push-in-Some.ensures.ok)

pub returns-in-None : goal.returns-in-None
returns-in-None c = ended first_of lent c.args.e.now c.loop-inner.here.now c.loop-inner.found.items c.loop-inner.invariant (sym c.in-None.ensures.operand)
