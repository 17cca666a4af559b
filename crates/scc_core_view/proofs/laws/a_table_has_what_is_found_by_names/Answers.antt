use Rattle.std.proofs.Common.{◌∙◌, ap, true, false}
use Rattle.std.specs.Prelude.{unwrap_or}
use Rattle.scc_core_view.proofs.Tables.{cells_same, sizes_same}
use Rattle.scc_core_view.proofs.laws.a_table_has_what_is_found_by_names.Goals as goal

pub returns-clause-cells : goal.returns-clause-cells
returns-clause-cells c = λ p cells vectors t ss. t.cells_by ss ∙ cells_same false ss 0 cells

pub returns-clause-pointers : goal.returns-clause-pointers
returns-clause-pointers c = λ p cells vectors t ss. t.pointers_by ss ∙ cells_same true ss 0 cells

pub returns-clause-sizes : goal.returns-clause-sizes
returns-clause-sizes c = λ p cells vectors t ss. ap (λ o. unwrap_or o 0) (t.sizes_by ss) ∙ sizes_same ss vectors
