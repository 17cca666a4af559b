use Rattle.std.proofs.Common.{sym, ap, ◌∙◌}
use Rattle.std.specs.Option.{option_copied}
use Rattle.scc_elab_grown.specs.Grown.{grown_of}
use Rattle.scc_elab_after.proofs.Heads.{led_in, led_out, no_first, synchronous}
use Rattle.scc_elab_after.proofs.processes.check_asynchronous.Goals as goal

pub returns-then-branch : goal.returns-then-branch
returns-then-branch c = led_in (grown_of c.args.g.now) c.args.r.now c.in-Some.reset.now c.in_ok-is_input-in-Some.field-0 (sym c.reset_at.ensures ∙ ap option_copied c.in-Some.is) c.if-reset.true (c.in_ok-is_input-in-Some.ensures {u = tt}) c.if-branch.true

pub returns-else-branch : goal.returns-else-branch
returns-else-branch c = led_out (grown_of c.args.g.now) c.args.r.now c.in-Some.reset.now c.in_ok-is_input-in-Some.field-0 c.refused.result (sym c.reset_at.ensures ∙ ap option_copied c.in-Some.is) c.if-reset.true (c.in_ok-is_input-in-Some.ensures {u = tt}) c.if-branch.false c.refused.ensures

pub returns-else-reset : goal.returns-else-reset
returns-else-reset c = synchronous (grown_of c.args.g.now) c.args.r.now c.in-Some.reset.now (sym c.reset_at.ensures ∙ ap option_copied c.in-Some.is) c.if-reset.false

pub returns-in-None : goal.returns-in-None
returns-in-None c = no_first (grown_of c.args.g.now) c.args.r.now (sym c.reset_at.ensures ∙ ap option_copied c.in-None.is)
