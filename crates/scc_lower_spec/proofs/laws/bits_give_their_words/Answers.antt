use Rattle.scc_lower_spec.proofs.Selected.{part_gives, bit_gives, concat_gives, halves_give}
use Rattle.scc_lower_spec.proofs.laws.bits_give_their_words.Goals as goal

pub returns : goal.returns
returns c = record {
  part = λ width x v w h l e s a b. part_gives width x v w h l e s a b;
  bit = λ wide width x t at w m y k o g h. bit_gives wide width x t at w m y k o g h;
  concat = λ wide width x ts ps g. concat_gives wide width x ts ps g;
  halves = λ wide width x at t u m k n w y z h g a b. halves_give wide width x at t u m k n w y z h g a b;
}
