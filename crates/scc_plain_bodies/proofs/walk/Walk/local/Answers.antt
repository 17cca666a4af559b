use Rattle.std.proofs.Common.{sym, ◌∙◌}
use Rattle.scc_plain_bodies.proofs.Naming.{local_is}
use Rattle.scc_plain_bodies.proofs.walk.Walk.local.Goals as goal

pub returns-in-Some : goal.returns-in-Some
returns-in-Some c = λ n h. rw c.new.ensures (local_is n c.args.place c.args.n c.args.b.now c.in-Some.form c.local_at.result (sym c.form_of.ensures ∙ c.in-Some.is) h c.local_at.ensures)
