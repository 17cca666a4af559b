use Rattle.std.proofs.Common.{◌≡◌, ◌&&◌, ◌∙◌, Bool, sym, map, not, true, false, refl}
use Rattle.scc_core_view.specs.Programs.{cell_of, process_of}
use Rattle.scc_core_look.proofs.Apart.{first, second}
use Rattle.scc_core_look.proofs.Sorts.{cell-fits}
use Rattle.scc_core_look.proofs.locals.cell_fits.Goals as goal

no-pointer : (b : Bool) → not b ≡ true → b ≡ false
no-pointer true e = absurd cc
no-pointer false e = refl

pub returns : goal.returns
returns c = λ vectors table e.
    let a = not c.is_pointer.result in
    let n = c.name_fits-named.result in
    let s = c.sort_fits-sorted.result in
    let one : (a && c.both.result) ≡ true = sym c.both-2.ensures ∙ e in
    let two : (n && s) ≡ true = sym c.both.ensures ∙ second a c.both.result one in
    cell-fits (map process_of c.args.processes.now) (map cell_of c.args.cells.now) c.args.cell.now (sym c.is_pointer.ensures ∙ no-pointer c.is_pointer.result (first a c.both.result one))
    (c.name_fits-named.ensures (first n s two)) (c.sort_fits-sorted.ensures vectors table (second n s two))
