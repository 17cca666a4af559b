use Rattle.scc_semantics_laws.proofs.Runs.{slow-runs, fast-runs}
use Rattle.scc_semantics_laws.proofs.laws.what_means_the_same_runs_alike.Goals as goal

pub returns-clause-slower : goal.returns-clause-slower
returns-clause-slower c = λ k d e same steady s t start start_too words xs fit b os h. slow-runs k d e same steady s t start start_too words xs fit b os h

pub returns-clause-back : goal.returns-clause-back
returns-clause-back c = λ k d e same steady s t start start_too words xs fit b os h. fast-runs k d e same steady s t start start_too words xs fit b os h
