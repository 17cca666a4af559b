use Rattle.std.proofs.Common.{sym, ◌∙◌}
use Rattle.scc_drive_stages.proofs.Looking.{is_sound, is_deep}
use Rattle.scc_drive_stages.proofs.look.is_read_back.Goals as goal

pub returns-in-Ok : goal.returns-in-Ok
returns-in-Ok c = λ e. is_sound c.args.many c.args.top.now c.args.text.now c.in-Ok.found c.in-Ok.ensures.read (c.is_named.ensures e)

pub returns-in-Err : goal.returns-in-Err
returns-in-Err c = λ e. is_deep c.args.many c.args.top.now c.args.text.now c.args.written.now c.in-Err.stop c.requires.text c.requires.named c.in-Err.ensures.refused (sym c.is_too_deep.ensures ∙ e)
