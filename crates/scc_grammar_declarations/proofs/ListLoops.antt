-- The loops of the code that reads lists within declarations.
use Rattle.std.specs.Prelude.{ℕ}
use Rattle.scc_grammar_terminals.specs.Marks as m
use Rattle.scc_grammar_terminals.specs.Names.{Names}
use Rattle.scc_grammar_terminals.specs.Text.{next_is, next_says}
use Rattle.scc_grammar_spec.specs.ParseItems as i
use Rattle.scc_grammar_spec.specs.ParseFile as p
use Rattle.scc_reading.proofs.Loop.{turns_of, turns_in_of}
use Rattle.scc_grammar_sound.proofs.Loops.{Loop, loop_of, LoopIn, loop_in_of}
use Rattle.scc_grammar_sound.proofs.SoundItems.{sound_front, sound_one_enumerator, sound_one_prm, sound_one_init}
use Rattle.scc_grammar_sound.proofs.SoundFile.{sound_one_param}

pub loop_fronts : Loop (next_says i.front) i.one_front
loop_fronts = loop_of (turns_of _ 0 _ _ sound_front)

module _ (names : Names) (n : ℕ) where
  pub loop_enumerators : Loop (next_is m.comma) (i.one_enumerator n names)
  loop_enumerators = loop_of (turns_of _ 0 _ _ (sound_one_enumerator n names))

  pub loop_prms : Loop (next_is m.comma) (i.one_prm n names)
  loop_prms = loop_of (turns_of _ 0 _ _ (sound_one_prm n names))

  pub loop_inits : Loop (next_is m.comma) (i.one_init n names)
  loop_inits = loop_of (turns_of _ 0 _ _ (sound_one_init n names))

pub loop_params : (n : ℕ) → LoopIn (p.next_param n) (p.one_param n)
loop_params n = loop_in_of (turns_in_of _ 0 _ _ (sound_one_param n))
