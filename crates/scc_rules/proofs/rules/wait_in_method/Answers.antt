use Rattle.std.proofs.Common.{◌≡◌, ap, ◌∙◌}
use Rattle.scc_core_spec.specs.First.{first_of}
use Rattle.scc_rules.specs.Stands.{waiting}
use Rattle.scc_rules.proofs.Firsts.{wait_all}
use Rattle.scc_rules.proofs.rules.wait_in_method.Goals as goal

pub returns-clause-first : goal.returns-clause-first
returns-clause-first c = c.first_waiting.ensures.first ∙ ap (first_of waiting) c.as_slice.ensures.elements ∙ wait_all c.args.f.now.core.now
