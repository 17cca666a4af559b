use Rattle.std.proofs.Common.{map}
use Rattle.scc_core_view.specs.Programs.{cell_of}
use Rattle.scc_core_view.specs.Whole.{IsWhole}
use Rattle.scc_core_flow.specs.Live.{Decides, tests_in}
use Rattle.scc_core_flow.proofs.Tests.{each_turned}
use Rattle.scc_core_flow.proofs.laws.whole_tests_are_decided.Goals as goal

pub returns : goal.returns
returns c = λ known cells ss k h w. each_turned (IsWhole cells) (Decides known (map cell_of cells)) (λ e is. c.static_values_by_a_table_are_those_of_terms.ensures.goes known cells e k h is) (tests_in ss) w
