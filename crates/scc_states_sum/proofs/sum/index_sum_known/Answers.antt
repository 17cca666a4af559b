use Rattle.std.proofs.Common.{ap, sym, ◌∙◌, map}
use Rattle.scc_core_spec.specs.Named.{elements}
use Rattle.scc_core_spec.specs.Sizes.{all_patterns}
use Rattle.scc_core_view.specs.Programs.{cells_of, program_of}
use Rattle.scc_states_sum.specs.Elements.{cut}
use Rattle.scc_states_sum.specs.Told.{numbers_in}
use Rattle.scc_states_sum.proofs.Alone.{elements_alone}
use Rattle.scc_states_sum.proofs.Summing.{of_all, sum_total}
use Rattle.scc_states_sum.proofs.sum.index_sum_known.Goals as goal

pub returns-clause-alone : goal.returns-clause-alone
returns-clause-alone c = λ h k. c.all.ensures k ∙ ap cut (elements_alone c.args.known c.args.c.now c.args.s.now h)

pub returns-clause-program : goal.returns-clause-program
returns-clause-program c = λ h k. c.all.ensures k ∙ ap cut (of_all (cells_of c.args.c.now) (numbers_in c.args.known) h ∙ sym (sum_total (map elements (all_patterns (program_of c.args.c.now)))))
