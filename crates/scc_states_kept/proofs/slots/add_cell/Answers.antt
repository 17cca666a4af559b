use Rattle.std.proofs.Common.{sym, ◌∙◌}
use Rattle.scc_states_kept.proofs.Standing.{keeps_added, keeps_absent, on_ok}
use Rattle.scc_states_kept.proofs.slots.add_cell.Goals as goal

pub returns-in-Some : goal.returns-in-Some
returns-in-Some c = λ only f k.
    on_ok c.add.result (λ adds. keeps_added only c.args.own.now c.args.live.now c.add.new.self f c.args.cell c.in-Some.slot (sym c.in_ok-slot.ensures ∙ c.in-Some.is) adds k) c.add.ensures
