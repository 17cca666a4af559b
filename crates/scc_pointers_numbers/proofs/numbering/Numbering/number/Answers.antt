use Rattle.std.proofs.Common.{◌≡◌, sym}
use Rattle.std.proofs.lemmas.Result.{IfOk-weaker}
use Rattle.scc_pointers_numbers.proofs.numbering.Numbering.number.Goals as goal

pub returns : goal.returns
returns c = λ f h. IfOk-weaker c.number_at.result _ _ (λ n e. sym (h c.args.cell n e)) c.number_at.ensures
