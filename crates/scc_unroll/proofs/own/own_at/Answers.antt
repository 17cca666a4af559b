use Rattle.std.proofs.Common.{◌≡◌, sym, ◌∙◌, arith, nat_eq, true, length, map}
use Rattle.std.proofs.lemmas.Grind.{common_steps}
use Rattle.scc_core_view.specs.Programs.{cell_of}
use Rattle.scc_unroll_laws.proofs.Lefts.{own_from_cell, own_from_front, own_from_null}
use Rattle.scc_unroll.proofs.own.own_at.Goals as goal

pub returns-in-Cell : goal.returns-in-Cell
returns-in-Cell c =
    let h : nat_eq (length c.args.left.now.parts) 0 ≡ true = grind (arith, common_steps, c.is_empty.ensures.empty, c.if-not-is_empty.false) in
    c.own_of_cell.ensures ∙ sym (own_from_cell c.args.left.now h c.args.cells.now c.in-Cell.n c.in-Cell.is)

pub returns-in-Prefix : goal.returns-in-Prefix
returns-in-Prefix c =
    let h : nat_eq (length c.args.left.now.parts) 0 ≡ true = grind (arith, common_steps, c.is_empty.ensures.empty, c.if-not-is_empty.false) in
    c.own_of.ensures ∙ sym (own_from_front c.args.left.now h (map cell_of c.args.cells.now) c.in-Prefix.name c.in-Prefix.is)

pub returns-in-Null : goal.returns-in-Null
returns-in-Null c =
    let h : nat_eq (length c.args.left.now.parts) 0 ≡ true = grind (arith, common_steps, c.is_empty.ensures.empty, c.if-not-is_empty.false) in
    sym (own_from_null c.args.left.now h (map cell_of c.args.cells.now) c.in-Null.is)
