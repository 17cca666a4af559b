use Rattle.scc_svread.proofs.Linked.{sound_text}
use Rattle.scc_svread.proofs.laws.a_text_with_nothing_wrong_is_sound.Goals as goal

pub returns : goal.returns
returns c many bytes raw = sound_text many
