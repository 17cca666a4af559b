-- The verdict on the tokens of a file.
use Rattle.scc_reading.specs.Claim.{Verdict}
use Rattle.scc_reading.proofs.Whole.{verdict_at}
use Rattle.scc_grammar_spec.specs.LevelsOfItems.{depth}
use Rattle.scc_grammar_spec.specs.Items.{Reads}
use Rattle.scc_grammar_spec.specs.ParseFile as p
use Rattle.scc_grammar_terminals.specs.Text.{Text}
use Rattle.scc_grammar_complete.proofs.CompleteFiles.{complete_program}
use Rattle.scc_grammar_sound.proofs.SoundFile.{RFile, sound_file, file_alone}

pub verdict_of : (ts : Text) → Verdict Reads depth ts (p.program 128 ts)
unfolding p.program
verdict_of ts = verdict_at Reads depth 0 (RFile 128) (p.file 128) (sound_file 128) (file_alone 128) (λ ts of d. complete_program 128 d) ts
