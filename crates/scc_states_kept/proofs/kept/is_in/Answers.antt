use Rattle.std.proofs.Common.{sym, ◌∙◌}
use Rattle.scc_states_kept.proofs.kept.is_in.Goals as goal

pub returns-in-Some : goal.returns-in-Some
returns-in-Some c = λ only f k o. c.has.ensures ∙ k.told c.args.cell c.in-Some.slot o (sym c.in_ok-slot.ensures ∙ c.in-Some.is)
