use Rattle.std.proofs.Common.{◌≡◌, refl, sym, ap, subst, ◌∙◌, ◌+◌, ◌-◌, length, take, drop, map, option_and_then, slice_get, true, false, None, Some, [], ◌∷◌, ◌++◌, List}
use Rattle.scc_elab_made.proofs.Making.{constructor_is, copied_is}
use Rattle.scc_elab_made.proofs.objects.constructor_of.Goals as goal

pub returns-in-Some : goal.returns-in-Some
returns-in-Some c = constructor_is c.args.p.now c.args.c.now c.get.result (copied_is c.get.result ∙ c.get.ensures.element ∙ ap (λ o. option_and_then (λ n. slice_get c.args.p.now.functions n) o) (sym c.in-Some.is))

pub returns-in-None : goal.returns-in-None
returns-in-None c = constructor_is c.args.p.now c.args.c.now None (ap (λ o. option_and_then (λ n. slice_get c.args.p.now.functions n) o) (sym c.in-None.is))
