use Rattle.std.proofs.Common.{sym, ◌∙◌}
use Rattle.scc_states_kept.proofs.Standing.{keeps_removed, on_ok}
use Rattle.scc_states_kept.proofs.slots.remove_cell.Goals as goal

pub returns-in-Some : goal.returns-in-Some
returns-in-Some c = λ only f k.
    on_ok c.remove.result (λ takes. keeps_removed only c.args.own.now c.args.live.now c.remove.new.self f c.args.cell c.in-Some.slot (sym c.in_ok-slot.ensures ∙ c.in-Some.is) takes k) c.remove.ensures
