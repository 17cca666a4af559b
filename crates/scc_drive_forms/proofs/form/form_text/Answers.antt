use Rattle.std.proofs.Common.{◌≡◌, sym, subst}
use Rattle.std.specs.Prelude.{IfOk}
use Rattle.scc_drive_forms.specs.Formed.{IsFormed}
use Rattle.scc_drive_forms.proofs.Any.{any}
use Rattle.scc_drive_forms.proofs.form.form_text.Goals as goal

pub returns-in-Hier : goal.returns-in-Hier
returns-in-Hier c = subst (λ f. IfOk c.hier_text.result (λ t. IsFormed f c.args.top.now t)) (sym c.in-Hier.is) (any c.hier_text.result)

pub returns-in-Clocks : goal.returns-in-Clocks
returns-in-Clocks c = subst (λ f. IfOk c.clocks_text.result (λ t. IsFormed f c.args.top.now t)) (sym c.in-Clocks.is) c.clocks_text.ensures

pub returns-in-Memory : goal.returns-in-Memory
returns-in-Memory c = subst (λ f. IfOk c.memory_text.result (λ t. IsFormed f c.args.top.now t)) (sym c.in-Memory.is) (any c.memory_text.result)
