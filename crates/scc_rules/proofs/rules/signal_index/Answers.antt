use Rattle.std.proofs.Common.{◌≡◌, sym, ap, ◌∙◌, subst}
use Rattle.scc_core_flow.specs.Live.{Each}
use Rattle.scc_core_spec.specs.First.{first_of}
use Rattle.scc_core_spec.specs.Rules.{signal_index}
use Rattle.scc_core_view.specs.Programs.{program_of}
use Rattle.scc_rules.specs.Chosen.{AreLocated, chosen_by, own_in}
use Rattle.scc_rules.proofs.Choosing.{chosen_all}
use Rattle.scc_rules.proofs.Firsts.{each_ok}
use Rattle.scc_rules.proofs.rules.signal_index.Goals as goal

pub returns-clause-first : goal.returns-clause-first
returns-clause-first c = λ p is a.
    let core = c.args.f.now.core.now in
    let cells = (program_of core).cells in
    let located = subst (λ q. Each (λ r. AreLocated c.args.f.now q.cells (own_in r)) core.processes) is a in
    each_ok _ _ c.first_choosing.result (c.first_choosing.ensures.first cells (subst (Each (λ r. AreLocated c.args.f.now cells (own_in r))) (sym c.as_slice.ensures.elements) located))
    (λ found h. h ∙ ap (first_of (chosen_by cells)) c.as_slice.ensures.elements ∙ chosen_all core ∙ ap signal_index (sym is))
