use Rattle.scc_plain_drafts.proofs.Standing.{whole_by}
use Rattle.scc_plain_drafts.proofs.form.Form.is_whole.Goals as goal

pub returns : goal.returns
returns c = λ n. whole_by n c.args.self c.is_pointer.result c.if-self-ne0.false c.if-self.false (c.is_pointer.ensures n)
