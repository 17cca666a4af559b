-- What a pointer leads to.
use Rattle.std.specs.Prelude.{◌≡◌, true, false, None}
use Rattle.std.proofs.Common.{refl, sym, ap}
use Rattle.scc_base.specs.declared.refusal.Place.{Place}
use Rattle.scc_base.specs.declared.code.Code.TheVariants as reason
use Rattle.scc_templates_spec.specs.Walked.{pure, fault}
use Rattle.scc_plain_tree.specs.declared.expr.PlainLeft.{PlainLeft}
use Rattle.scc_plain_tree.specs.declared.program.Reach.TheVariants as reach
use Rattle.scc_elab_spec.specs.Term.{Follow, Whole}
use Rattle.scc_plain_view.specs.Terms.{left_of, taken_of}
use Rattle.scc_plain_spec.specs.Forms as spec
use Rattle.scc_plain_spec.specs.Meant.{behind}
use Rattle.scc_plain_drafts.specs.declared.form.Loc.{Loc}
use Rattle.scc_plain_drafts.specs.Forms.{Classes, form_in, loc_in, SoundLoc}

pub no_pointer : (n : Classes) (p : Place) (l : Loc) → spec.is_pointer (form_in n l.form) ≡ false → behind p (loc_in n l) ≡ fault reason.Mismatch p
no_pointer n p l w = rw w refl

abbrev led : Loc → PlainLeft → Loc
led l x = record { left = x; form = record { base = l.form.base; reach = reach.Direct; vector = l.form.vector; dims = 0 }; pick = None }

pub behind_is : (n : Classes) (p : Place) (l : Loc) (x : PlainLeft) → spec.is_pointer (form_in n l.form) ≡ true → l.form.dims ≡ 0 → taken_of x ≡ record { left = Follow p (left_of l.left); pick = Whole; of = None }
    → (behind p (loc_in n l) ≡ pure (loc_in n (led l x))) × SoundLoc (led l x)
behind_is n p l x w d e = ((rw (w, d) (ap (λ q. pure (spec.located q (form_in n (led l x).form))) (sym (ap (λ t. t.left) e)))), (ap (λ t. t.pick) e, ap (λ t. t.of) e))
