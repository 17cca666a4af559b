use Rattle.std.proofs.Common.{sym, ap, ◌∙◌}
use Rattle.std.specs.Prelude.{is_some}
use Rattle.scc_core_spec.specs.Counted.{is_cell, is_whole}
use Rattle.scc_core_view.specs.Terms.{taken_of}
use Rattle.scc_unroll.proofs.Forms.{all_tests}
use Rattle.scc_unroll.proofs.counted.counts.Goals as goal

pub returns : goal.returns
returns c = λ b r v a reads e.
    let ns = c.args.counters.now in
    c.are_all.ensures
    ∙ all_tests (is_cell c.args.count.now.cell (taken_of c.args.left.now).left) (is_whole (taken_of c.args.left.now).pick) c.holds_wait-waits.ensures (c.in_ok-start.ensures ∙ ap is_some (reads.0 ns a.counters)) (c.in_ok-bound.ensures ∙ ap is_some (reads.1.0 ns a.counters)) (c.in_ok-step.ensures ∙ ap is_some (reads.1.1.0 ns a.counters))
    c.is_cell-cell.ensures (sym e) c.has_form-form.ensures (c.is_seldom-seldom.ensures b a.knows)
