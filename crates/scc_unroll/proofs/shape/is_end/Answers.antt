use Rattle.std.proofs.Common.{◌∙◌, sym}
use Rattle.scc_unroll_laws.proofs.Heads.{end_of}
use Rattle.scc_unroll.proofs.shape.is_end.Goals as goal

pub returns : goal.returns
returns c = c.is_empty.ensures ∙ sym (end_of c.args.body.now)
