use Rattle.scc_plain_drafts.proofs.Picking.{elements_by}
use Rattle.scc_plain_drafts.proofs.pick.has_elements.Goals as goal

pub returns : goal.returns
returns c = λ n. elements_by n c.args.form c.is_pointer.result c.if-form-ne0.false c.if-not-form.false (c.is_pointer.ensures n)
