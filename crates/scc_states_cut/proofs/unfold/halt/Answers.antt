use Rattle.std.proofs.Common.{refl, ap, ◌∙◌, length, Some}
use Rattle.std.proofs.lemmas.Option.{slice_get_read}
use Rattle.scc_states_cut.proofs.Statements.{wait_is}
use Rattle.scc_states_cut.proofs.unfold.halt.Goals as goal

pub returns-in-Some : goal.returns-in-Some
returns-in-Some c =
    let there = slice_get_read c.args.waits.now (length c.args.waits.now) c.args.number c.in-Some.n.now refl c.in-Some.ensures.lookup.3.0 c.in-Some.ensures.lookup.1 in (
      wait_is c.args.waits.now c.args.place c.args.number c.args.edges (there ∙ ap Some c.if-n-edges.true),
      c.take.ensures.takes,
    )
