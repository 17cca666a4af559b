use Rattle.scc_core_look.proofs.Apart.{names_apart}
use Rattle.scc_core_look.proofs.Itself.{have_names}
use Rattle.scc_core_look.proofs.cells.names_differ.Goals as goal

pub returns-clause-apart : goal.returns-clause-apart
returns-clause-apart c = λ vectors table e. names_apart c.args.places.now c.args.cells.now vectors table (c.are_own.ensures e)

pub returns-clause-names : goal.returns-clause-names
returns-clause-names c = λ vectors table e. have_names c.args.places.now c.args.cells.now (names_apart c.args.places.now c.args.cells.now vectors table (c.are_own.ensures e)) (c.are_own.ensures e)
