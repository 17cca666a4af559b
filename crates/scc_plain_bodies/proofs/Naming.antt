-- What operators before an operand give, addresses, and local variables.
use Rattle.std.specs.Prelude.{◌≡◌, ℕ, nat_eq, true, false, List, [], map, Option, Some, None, option_map, slice_get}
use Rattle.std.proofs.Common.{refl, sym, ◌∙◌, ap, subst}
use Rattle.std.proofs.lemmas.Option.{slice_get-map}
use Rattle.scc_base.specs.declared.refusal.Place.{Place}
use Rattle.scc_base.specs.declared.code.Code.TheVariants as reason
use Rattle.scc_bits_kinds.specs.declared.op.Op.{Op}
use Rattle.scc_tree.specs.declared.expr.UnaryOp.{UnaryOp}
use Rattle.scc_tree.specs.declared.expr.UnaryOp.TheVariants as before
use Rattle.scc_templates_spec.specs.Tree.{Tree, place_of}
use Rattle.scc_templates_spec.specs.Walked.{Walked, pure, fault, and_walk}
use Rattle.scc_templates_spec.specs.World.{Owner}
use Rattle.scc_plain_tree.specs.declared.expr.PlainLeft.{PlainLeft}
use Rattle.scc_plain_tree.specs.declared.program.PlainMember.{PlainMember}
use Rattle.scc_elab_spec.specs.Term.{Local, Whole}
use Rattle.scc_plain_view.specs.Terms.{taken_of}
use Rattle.scc_plain_spec.specs.Drafts.{Draft, operate_one}
use Rattle.scc_plain_spec.specs.Forms as spec
use Rattle.scc_plain_spec.specs.Meant.{Meant, Valued, Stands, At, addressed, followed, taken}
use Rattle.scc_plain_spec.specs.Calls.{operator_on, unary}
use Rattle.scc_plain_spec.specs.Room.{local_form, Local as Stood}
use Rattle.scc_plain_spec.specs.Things.{local_at}
use Rattle.scc_plain_drafts.specs.declared.form.Form.{Form}
use Rattle.scc_plain_drafts.specs.declared.form.Loc.{Loc}
use Rattle.scc_plain_drafts.specs.Forms.{Classes, form_in, loc_in}
use Rattle.scc_plain_drafts.specs.Flows.{formed}
use Rattle.scc_plain_bodies.specs.declared.body.Body.{Body}
use Rattle.scc_plain_bodies.specs.Rooms.{IsFormed, local_in, room_in}
use Rattle.scc_plain_bodies.specs.Walking.{IsLocal, is_pointing}

abbrev a_value : Walked Draft → Walked Meant
a_value w = and_walk w (λ x. pure (Valued x))

abbrev by_operator : Place → Tree → Meant → Option Op → Walked Meant
by_operator p t m None = fault reason.Mismatch p
by_operator p t m (Some o) = a_value (and_walk (taken (place_of t) m) (operate_one p o))

unary_by : (p : Place) (t : Tree) (b : UnaryOp) (o : Owner) (m : Meant) → is_pointing b ≡ false → unary p t b o m ≡ by_operator p t m (operator_on t m b)
unary_by p t before.Plus o m e = refl
unary_by p t before.Neg o m e = refl
unary_by p t before.LogNot o m e = refl
unary_by p t before.Not o m e = refl
unary_by p t before.Deref o m e = absurd (cc)
unary_by p t before.Address o m e = absurd (cc)

pub unary_none : (p : Place) (t : Tree) (b : UnaryOp) (o : Owner) (m : Meant) → is_pointing b ≡ false → operator_on t m b ≡ None → unary p t b o m ≡ fault reason.Mismatch p
unary_none p t b o m e n = unary_by p t b o m e ∙ ap (by_operator p t m) n

pub unary_is : (p q : Place) (t : Tree) (b : UnaryOp) (o : Owner) (m : Meant) (y : Op) (d : Draft) → is_pointing b ≡ false → operator_on t m b ≡ Some y → place_of t ≡ q → taken q m ≡ pure d → a_value (operate_one p y d) ≡ unary p t b o m
unary_is p q t b o m y d e n at is =
    ap (λ w. a_value (and_walk w (operate_one p y))) (sym is)
    ∙ ap (λ r. a_value (and_walk (taken r m) (operate_one p y))) (sym at)
    ∙ ap (by_operator p t m) (sym n)
    ∙ sym (unary_by p t b o m e)

pub not_addressed : (n : Classes) (p : Place) (l : Loc) → l.form.dims ≡ 0 → spec.is_all (loc_in n l).taken ≡ false → addressed p (Stands (loc_in n l)) ≡ fault reason.Mismatch p
not_addressed n p l d a = rw (d, a) refl

pub is_addressed : (n : Classes) (p : Place) (l : Loc) → l.form.dims ≡ 0 → spec.is_all (loc_in n l).taken ≡ true → addressed p (Stands (loc_in n l)) ≡ pure (At (loc_in n l))
is_addressed n p l d a = rw (d, a) refl

formed_by : (n : Classes) (o : Option PlainMember) (f : Form) → option_map (λ (m : PlainMember). formed m.shape) o ≡ Some f → option_map (λ (l : Stood). spec.form_of l.shape) (option_map (local_in n) o) ≡ Some (form_in n f)
formed_by n None f e = absurd (cc)
formed_by n (Some m) f e = let q : formed m.shape ≡ f = cc in ap (λ f. Some (form_in n f)) q

pub local_is : (n : Classes) (p : Place) (k : ℕ) (b : Body) (f : Form) (x : PlainLeft) → slice_get b.forms.items k ≡ Some f → IsFormed b → taken_of x ≡ record { left = Local p k; pick = Whole; of = None }
    → IsLocal n (record { left = x; form = f; pick = None }) (local_at p k (local_form (room_in n b) k))
local_is n p k b f x e h t =
    let g = sym (slice_get-map (λ (m : PlainMember). formed m.shape) b.locals k) ∙ ap (λ fs. slice_get fs k) (sym h) ∙ e in
    let s = ap (option_map (λ (l : Stood). spec.form_of l.shape)) (slice_get-map (local_in n) b.locals k) ∙ formed_by n (slice_get b.locals k) f g in
    (ap (local_at p k) s ∙ ap (λ l. pure (Stands (spec.located l (form_in n f)))) (sym (ap (λ t. t.left) t)), (ap (λ t. t.pick) t, ap (λ t. t.of) t))

pub is_led : (p : Place) (t : Tree) (o : Owner) (m : Meant) (l : spec.Loc) → followed p o m ≡ pure l → unary p t before.Deref o m ≡ pure (Stands l)
is_led p t o m l e = ap (λ w. and_walk w (λ l. pure (Stands l))) e
