use Rattle.std.proofs.Common.{sym, ap, ◌∙◌, map, slice_get}
use Rattle.std.specs.Prelude.{nat_le}
use Rattle.scc_core_spec.specs.Counted.{number_of, is_seldom}
use Rattle.scc_core_view.specs.Programs.{cell_of, path_of}
use Rattle.scc_unroll.specs.Shape.{setting_of}
use Rattle.scc_unroll.proofs.counted.is_seldom.Goals as goal

pub returns-in-Some : goal.returns-in-Some
returns-in-Some c = λ b k.
    c.assigned_twice.ensures ∙ ap (λ n. nat_le n 2) (k c.in-Some.own)
    ∙ sym (ap (is_seldom (setting_of c.args.at.now b)) (ap (λ cs. number_of (path_of c.args.at.now.path.now) (slice_get (map cell_of cs) c.args.cell)) (sym c.cells.ensures.cells) ∙ sym c.counter_number.ensures ∙ c.in-Some.is))

pub returns-in-None : goal.returns-in-None
returns-in-None c = λ b k.
    sym (ap (is_seldom (setting_of c.args.at.now b)) (ap (λ cs. number_of (path_of c.args.at.now.path.now) (slice_get (map cell_of cs) c.args.cell)) (sym c.cells.ensures.cells) ∙ sym c.counter_number.ensures ∙ c.in-None.is))
