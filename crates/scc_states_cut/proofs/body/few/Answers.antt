use Rattle.std.proofs.Common.{sym, subst, map}
use Rattle.scc_core_spec.specs.Split.{most_waits}
use Rattle.scc_states_cut.specs.Limits.{Stops, too_many}
use Rattle.scc_states_cut.proofs.Refusing.{few_where, many_where}
use Rattle.scc_states_cut.proofs.body.few.Goals as goal

pub returns-in-Some : goal.returns-in-Some
returns-in-Some c = subst (Stops (too_many (map (λ h. h.place) c.args.waits.now))) (sym c.refused.ensures) (many_where c.args.waits.now most_waits c.in-Some.wait.now (sym c.in-Some.ensures.element))

pub returns-in-None : goal.returns-in-None
returns-in-None c = few_where c.args.waits.now most_waits (sym c.in-None.ensures.element)
