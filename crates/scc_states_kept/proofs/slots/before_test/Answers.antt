use Rattle.std.proofs.Common.{◌≡◌, ap, ◌∙◌}
use Rattle.std.specs.Prelude.{◌||◌}
use Rattle.scc_core_spec.specs.Uses.{loads}
use Rattle.scc_core_view.specs.Terms.{term_of}
use Rattle.scc_rules_walks.specs.Loads.{uses_of}
use Rattle.scc_states_kept.proofs.Standing.{keeps_told, loads_as, on_ok}
use Rattle.scc_states_kept.proofs.slots.before_test.Goals as goal

pub returns : goal.returns
returns c = λ cs only f h k.
    on_ok c.add_reads.result (keeps_told only c.args.own.now c.add_reads.new.live _ _ (λ x o. ap (λ b. b || f x)
    (loads_as c.args.own.now.known cs only c.as_slice.result.now (loads (term_of c.args.test.now)) (ap uses_of c.as_slice.ensures.value ∙ c.in_ok-loads.ensures) h x o)))
    (c.add_reads.ensures only f k)
