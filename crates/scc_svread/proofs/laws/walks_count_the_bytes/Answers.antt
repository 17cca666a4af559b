use Rattle.scc_svread_written.proofs.CountedSizes.{sizes_counted}
use Rattle.scc_svread_written.proofs.CountedNames.{names_counted}
use Rattle.scc_svread.proofs.laws.walks_count_the_bytes.Goals as goal

pub returns-clause-sizes : goal.returns-clause-sizes
returns-clause-sizes c bytes raw = sizes_counted

pub returns-clause-names : goal.returns-clause-names
returns-clause-names c many bytes raw d = names_counted d many
