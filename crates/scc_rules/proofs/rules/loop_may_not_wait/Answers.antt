use Rattle.std.proofs.Common.{◌≡◌, ap, ◌∙◌}
use Rattle.scc_core_spec.specs.First.{first_of}
use Rattle.scc_rules.specs.Stands.{idling}
use Rattle.scc_rules.proofs.Firsts.{each_ok, idle_all}
use Rattle.scc_rules.proofs.rules.loop_may_not_wait.Goals as goal

pub returns-clause-first : goal.returns-clause-first
returns-clause-first c = λ p h. each_ok _ _ c.first_idling.result c.first_idling.ensures.first (λ found is. is ∙ ap (first_of idling) c.as_slice.ensures.value ∙ idle_all c.args.f.now p h)
