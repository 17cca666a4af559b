use Rattle.std.proofs.Common.{Some, None, ap, ◌∙◌}
use Rattle.scc_core.proofs.Numbers.{selected_is}
use Rattle.scc_core.proofs.statics.selected.Goals as goal

pub returns-in-Some : goal.returns-in-Some
returns-in-Some c = ap Some c.word.ensures.word ∙ selected_is (Some c.in-Some.v) c.args.h c.args.l c.args.of c.in-Some.ensures.word c.in-Some.ensures.is

pub returns-in-None : goal.returns-in-None
returns-in-None c = selected_is None c.args.h c.args.l c.args.of c.in-None.ensures.word c.in-None.ensures.is
