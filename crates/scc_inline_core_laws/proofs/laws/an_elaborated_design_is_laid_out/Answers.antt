use Rattle.scc_inline_core_laws.proofs.LeftDesign.{laid-out}
use Rattle.scc_inline_core_laws.proofs.laws.an_elaborated_design_is_laid_out.Goals as goal

pub returns : goal.returns
returns c = λ many p d is whole. laid-out many p d is whole
