use Rattle.scc_lower_spec.proofs.Converted.{converted_gives}
use Rattle.scc_lower_spec.proofs.laws.conversions_give_converted_words.Goals as goal

pub returns : goal.returns
returns c = λ wide width x from to t y h g. converted_gives wide width x from to t y h g
