use Rattle.std.specs.Prelude.{ℕ, []}
use Rattle.scc_semantics.specs.Statement.{AllSame}
use Rattle.scc_semantics_laws.proofs.Carried.{carried}
use Rattle.scc_semantics_laws.proofs.laws.what_means_the_same_is_shown_the_same.Goals as goal

pub returns : goal.returns
returns c = λ k d e register same steady m. carried k d e same steady ℕ register (λ x xs seen. AllSame [] seen) m
