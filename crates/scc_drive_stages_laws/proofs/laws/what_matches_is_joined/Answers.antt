use Rattle.scc_drive_stages_laws.proofs.Written.{joined}
use Rattle.scc_drive_stages_laws.proofs.laws.what_matches_is_joined.Goals as goal

pub returns : goal.returns
returns c = λ home p text own many r m clock_variable top sound matches written. joined home p text own r m clock_variable top sound.names matches written
