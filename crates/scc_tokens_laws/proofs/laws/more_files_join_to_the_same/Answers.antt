use Rattle.scc_tokens_laws.proofs.Larger.{joined_again}
use Rattle.scc_tokens_laws.proofs.laws.more_files_join_to_the_same.Goals as goal

pub returns : goal.returns
returns c = λ f g before roots names sources j m d. joined_again g f before roots names sources j m d
