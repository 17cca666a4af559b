use Rattle.std.proofs.Common.{ap, ◌∙◌}
use Rattle.scc_rules_walks.specs.Loads.{uses_of}
use Rattle.scc_states_kept.proofs.Noting.{test_noted}
use Rattle.scc_states_kept.proofs.Standing.{on_ok}
use Rattle.scc_states_kept.proofs.own.note_test.Goals as goal

pub returns : goal.returns
returns c = λ p f t k.
    on_ok c.note_reads.result (λ m. test_noted c.args.known c.args.process p c.args.test.now c.as_slice.result.now c.note_reads.new.cells.keys f (ap uses_of c.as_slice.ensures.value ∙ c.in_ok-loads.ensures) t m)
    (c.note_reads.ensures f k)
