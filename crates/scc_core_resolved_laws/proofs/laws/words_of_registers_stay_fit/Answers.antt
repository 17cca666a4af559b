use Rattle.scc_core_resolved_laws.proofs.Acting.{acting-fits, fell-fits, thread-fits, method-fits}
use Rattle.scc_core_resolved_laws.proofs.Parts.{code-fit}
use Rattle.scc_core_resolved_laws.proofs.laws.words_of_registers_stay_fit.Goals as goal

pub returns-clause-terms : goal.returns-clause-terms
returns-clause-terms c p q a e x r f t v = acting-fits p r q a f e x t v

pub returns-clause-code : goal.returns-clause-code
returns-clause-code c p q d a b r t f e = fell-fits p r q d a b t f e

pub returns-clause-segments : goal.returns-clause-segments
returns-clause-segments c p i n q s a r g e f = thread-fits p r q n s a (code-fit p r i q g) e f

pub returns-clause-methods : goal.returns-clause-methods
returns-clause-methods c p i q a b r g f e = method-fits p r q a b (code-fit p r i q g) f e
