use Rattle.std.proofs.Common.{sym, ◌∙◌, map}
use Rattle.scc_core_spec.specs.Named.{elements}
use Rattle.scc_core_spec.specs.Sizes.{all_patterns}
use Rattle.scc_core_view.specs.Programs.{cells_of, program_of}
use Rattle.scc_states_sum.proofs.Summing.{of_all, sum_total}
use Rattle.scc_states_sum.proofs.laws.elements_of_a_core_are_those_of_its_program.Goals as goal

pub returns : goal.returns
returns c = λ known core splits h. of_all (cells_of core) known h ∙ sym (sum_total (map elements (all_patterns (program_of core))))
