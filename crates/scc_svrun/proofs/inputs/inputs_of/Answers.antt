use Rattle.std.proofs.Common.{◌≡◌, ◌<◌, ◌+◌, ℕ, length, ap, ◌∙◌, arith}
use Rattle.scc_svtree_order.specs.Search.{is_seen}
use Rattle.scc_svtree.specs.Steps as steps
use Rattle.scc_svrun.specs.Runs as runs
use Rattle.scc_svrun.proofs.Running.{inputs_agree}
use Rattle.scc_svrun.proofs.inputs.inputs_of.Goals as goal

pub returns : goal.returns
returns c =
    let m = c.args.m.now in
    let vars = c.as_slice-vars.result.now in
    let blocks = c.as_slice.result.now in
    c.in_ok-list.ensures ∙ ap (λ k. runs.inputs_from 0 (is_seen k) vars) c.as_slice-2.ensures.value
    ∙ inputs_agree (is_seen c.in_ok-marks.marks.items) (steps.is_clock blocks) vars 0 (λ v l. c.in_ok-marks.ensures v (omega (arith, l)))
    ∙ ap (λ b. runs.inputs_from 0 (steps.is_clock b) vars) c.as_slice.ensures.elements
    ∙ ap (λ l. runs.inputs_from 0 (steps.is_clock m.blocks) l) c.as_slice-vars.ensures.elements
