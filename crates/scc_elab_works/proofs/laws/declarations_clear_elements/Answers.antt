use Rattle.std.proofs.Common.{[]}
use Rattle.scc_elab_spec.specs.Made.{elements_at}
use Rattle.scc_elab_works.proofs.Declaring.{words_cleared, targets_cleared, words_stay, targets_stay}
use Rattle.scc_elab_works.proofs.laws.declarations_clear_elements.Goals as goal

pub returns : goal.returns
returns c = record {
  words = λ o n sizes g l. words_cleared o n l sizes g;
  targets = λ o n sizes g l. targets_cleared o n l sizes g;
  other_words = λ o n sizes g. words_stay o n (elements_at [] sizes) g;
  other_targets = λ o n sizes g. targets_stay o n (elements_at [] sizes) g;
}
