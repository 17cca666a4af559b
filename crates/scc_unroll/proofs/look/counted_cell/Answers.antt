use Rattle.std.proofs.Common.{sym, ap, ◌∙◌, ℕ, Option, option_map}
use Rattle.scc_core_spec.specs.Counted as spec
use Rattle.scc_unroll_laws.specs.Counters.{counters_of}
use Rattle.scc_unroll.specs.Shape.{cells_at, counting_of}
use Rattle.scc_unroll.proofs.look.counted_cell.Goals as goal

abbrev cell_in : Option spec.Counting → Option ℕ
cell_in o = option_map (λ g. g.cell) o

pub returns-in-Some : goal.returns-in-Some
returns-in-Some c = λ b r a reads e.
    ap (λ o. cell_in (option_map (counting_of (cells_at c.args.at.now) (counters_of c.args.counters.now)) o)) (sym c.in-Some.is) ∙ ap cell_in (c.in_ok-of.ensures.counted b r a reads e)

pub returns-in-None : goal.returns-in-None
returns-in-None c = λ b r a reads e.
    ap (λ o. cell_in (option_map (counting_of (cells_at c.args.at.now) (counters_of c.args.counters.now)) o)) (sym c.in-None.is) ∙ ap cell_in (c.in_ok-of.ensures.counted b r a reads e)
