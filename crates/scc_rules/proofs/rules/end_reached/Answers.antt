use Rattle.std.proofs.Common.{◌≡◌, ap, ◌∙◌}
use Rattle.scc_rules_laws.specs.Found.{first_along}
use Rattle.scc_rules.specs.Stands.{ending}
use Rattle.scc_rules.proofs.Firsts.{end_all}
use Rattle.scc_rules.proofs.rules.end_reached.Goals as goal

pub returns-clause-first : goal.returns-clause-first
returns-clause-first c = λ p is h.
    c.first_ending.ensures.first
    ∙ ap (λ ps. first_along ending ps c.as_slice-2.result.now) c.as_slice.ensures.elements
    ∙ ap (first_along ending c.args.f.now.core.now.processes) c.as_slice-2.ensures.value
    ∙ end_all c.args.f.now p is h
