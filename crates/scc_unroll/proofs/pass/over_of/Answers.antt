use Rattle.std.proofs.Common.{ap, ◌∙◌, []}
use Rattle.scc_core_spec.specs.Counted.{Elsewhere}
use Rattle.scc_core_spec.specs.Unrolled.{run_turns}
use Rattle.scc_core_view.specs.Codes.{code_of}
use Rattle.scc_unroll.specs.Budgets.{after}
use Rattle.scc_unroll.specs.Shape.{setting_of}
use Rattle.scc_unroll.proofs.Budgets.{first_over}
use Rattle.scc_unroll.proofs.pass.over_of.Goals as goal

pub returns : goal.returns
returns c = λ b a reads.
    let ss = run_turns (setting_of c.args.at.now b) [] Elsewhere 0 (code_of c.args.body.now) in
    ap (λ z. z.over) (c.in_ok-budget.ensures b a reads tt ∙ ap (λ z. after z ss) c.new.ensures) ∙ first_over 4096 ss
