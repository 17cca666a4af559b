use Rattle.scc_plain_bodies.proofs.Naming.{is_led}
use Rattle.scc_plain_drafts.specs.Meaning.{meant_in, owner_in}
use Rattle.scc_plain_drafts.specs.Forms.{loc_in}
use Rattle.scc_templates_spec.specs.View.{tree_of}
use Rattle.scc_plain_bodies.proofs.walk.Walk.unary.Goals as goal

pub returns-in_ok-followed-in-Deref-clause-is : goal.returns-in_ok-followed-in-Deref-clause-is
returns-in_ok-followed-in-Deref-clause-is c = λ n s h. let v = c.in_ok-followed-in-Deref.ensures.is n s in
    rw c.in-Deref.is (is_led c.args.place (tree_of c.args.of.now) (owner_in n c.args.b.now.scope) (meant_in n c.args.m) (loc_in n c.in_ok-followed-in-Deref.field-0) v.0, v.1)
