use Rattle.std.proofs.Common.{◌∙◌, Err, subst, sym, false, true≢false}
use Rattle.std.proofs.lemmas.Slice.Eq.{bytes_eq-Decides}
use Rattle.scc_svread.specs.Read.{ReadAs, RefusedAs, ReadBack}
use Rattle.scc_drive.proofs.Emitting.{is_unread, is_misnamed}
use Rattle.scc_drive.proofs.svsim.module_in.Goals as goal

pub returns-then-eq-clause-read : goal.returns-then-eq-clause-read
returns-then-eq-clause-read c = subst (λ b. ReadAs false b c.in-Ok.module) c.bytes.ensures.bytes c.in-Ok.ensures.read

pub returns-else-eq-clause-refused : goal.returns-else-eq-clause-refused
returns-else-eq-clause-refused c =
    is_misnamed c.args.top.now c.args.text.now c.in-Ok.module c.refused.result (subst (λ b. ReadAs false b c.in-Ok.module) c.bytes.ensures.bytes c.in-Ok.ensures.read)
    (λ e. true≢false (sym ((bytes_eq-Decides _ _).1 (c.bytes-in-Ok.ensures.bytes ∙ e)) ∙ sym c.eq.ensures ∙ c.if-eq.false)) c.refused.ensures

pub returns-in-Err-clause-refused : goal.returns-in-Err-clause-refused
returns-in-Err-clause-refused c =
    is_unread c.args.top.now c.args.text.now c.in-Err.stop c.stopped_in.result
    (subst (λ b. RefusedAs false b c.in-Err.stop) c.bytes.ensures.bytes c.in-Err.ensures.refused)
    (subst (λ b. ReadBack false b (Err c.in-Err.stop)) c.bytes.ensures.bytes c.in-Err.ensures.back) c.stopped_in.ensures
