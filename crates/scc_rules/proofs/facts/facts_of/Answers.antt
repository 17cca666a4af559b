use Rattle.std.proofs.Common.{◌≡◌, refl, sym, subst}
use Rattle.scc_core_flow.specs.Live.{DecidesAll, Each}
use Rattle.scc_core_view.specs.Programs.{cells_of}
use Rattle.scc_rules.specs.Stands.{HasBodies}
use Rattle.scc_rules.proofs.Lives.{each_decided, lives_told}
use Rattle.scc_rules.proofs.facts.facts_of.Goals as goal

pub returns-clause-lives : goal.returns-clause-lives
returns-clause-lives c = λ k h.
    let core = c.args.core.now in
    let decided = each_decided core c.args.known (λ ss w. c.whole_tests_are_decided.ensures c.args.known core.cells ss k h.cells w) h in
    lives_told core _ c.in_ok-bodies.field-0
    (subst (λ ps. HasBodies (cells_of core) ps c.in_ok-bodies.field-0) c.as_slice.ensures.elements
    (c.in_ok-bodies.ensures (cells_of core) (subst (Each (λ p. DecidesAll c.args.known (cells_of core) p.body)) (sym c.as_slice.ensures.elements) decided)))
    refl refl
