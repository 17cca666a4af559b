use Rattle.std.proofs.Common.{sym, ◌∙◌}
use Rattle.scc_svtext.proofs.laws.a_module_has_one_text.Goals as goal

pub returns : goal.returns
returns c = λ many m a b x y. x.text ∙ sym y.text
