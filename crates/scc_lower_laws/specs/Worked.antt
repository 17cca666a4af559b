-- A worked value: `m[a]` with a `bool a` in cell 0 and m in cells 1 and 2. This project's own.
use Rattle.std.specs.Prelude.{ℕ, zero, suc, nat_lt}
use Rattle.scc_svtree.specs.Term as emitted
use Rattle.scc_blocks_spec.specs.Shown.{Sight, View, Read, Driven, Plain}
use Rattle.scc_blocks_spec.specs.Worked.{some_cells}
use Rattle.scc_lower_spec.specs.Selected.{halves_term}
use Rattle.scc_lower_laws.specs.Elements.{variable_of}

-- a is read, the output in cell 3 is written
abbrev pub some_view : ℕ → View
some_view zero = Read
some_view (suc zero) = Plain
some_view (suc (suc zero)) = Plain
some_view c = Driven

abbrev pub some_sight : Sight
some_sight = record { cells = some_cells; mine = λ c. nat_lt c 4; view = some_view }

abbrev pub some_widths : ℕ → ℕ
some_widths zero = 1
some_widths (suc zero) = 1
some_widths v = 8

-- `a < 1'd1 ? m$0 : m$1`
abbrev pub chosen_text : emitted.Term
chosen_text = halves_term 1 (variable_of 0) 1 (variable_of 2) (variable_of 4)
