use Rattle.scc_passes_laws.proofs.Passed.{law-of, same-of}
use Rattle.scc_passes_laws.proofs.laws.both_passes_keep_the_meaning.Goals as goal

pub returns-clause-law : goal.returns-clause-law
returns-clause-law c = λ p r constant named resolvable first gives. law-of p r named resolvable first gives constant

pub returns-clause-same : goal.returns-clause-same
returns-clause-same c = λ home p r is named resolvable first gives resolved. same-of p r named resolvable first gives home is resolved
