use Rattle.std.proofs.Common.{length, refl}
use Rattle.std.proofs.lemmas.Option.{slice_get_read}
use Rattle.scc_blocks.specs.Declaring.{wants_of}
use Rattle.scc_blocks.proofs.Declaring.{inner_then}
use Rattle.scc_blocks.proofs.declare.Declared.cell.Goals as goal

pub returns-clause-adds : goal.returns-clause-adds
returns-clause-adds c =
    let cells = c.args.cells.now in
    let found = c.in-Some.ensures.lookup in
    let at = slice_get_read cells (length cells) c.args.at c.in-Some.cell.now refl found.3.0 found.1 in
    inner_then (wants_of c.args.names.now cells) c.args.self.now c.present.new.self c.next_value.new.self (c.in_ok-present.ensures.adds cells at) (c.in_ok-next_value.ensures.adds cells at)
