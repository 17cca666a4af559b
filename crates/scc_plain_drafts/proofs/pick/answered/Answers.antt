use Rattle.std.proofs.Common.{sym, ◌∙◌}
use Rattle.scc_plain_drafts.specs.Views.{draft_of}
use Rattle.scc_plain_drafts.specs.Forms.{method_number, subject_in}
use Rattle.scc_plain_drafts.proofs.Standing.{read_port}
use Rattle.scc_plain_drafts.proofs.pick.answered.Goals as goal

pub returns-then-is_port-clause-is : goal.returns-then-is_port-clause-is
returns-then-is_port-clause-is c = λ n s. let h = c.in_ok-x.ensures.is n s in
    (read_port c.args.place (method_number c.args.method) (subject_in n c.args.of) (draft_of c.in_ok-x.x) h.0 (sym c.is_read_call.ensures ∙ c.if-is_read_call.true) (sym (c.is_port-is_port.ensures n) ∙ c.if-is_port.true), h.1)
