-- Bits and elements that are taken, and pointers that are given.
use Rattle.std.specs.Prelude.{◌≡◌, ◌≤◌, ℕ, zero, suc, length, nat_eq, nat_lt, Bool, true, false, not, ◌&&◌, List, [], ◌∷◌, ◌++◌, map, Option, Some, None, option_map, if◌then◌else◌}
use Rattle.std.proofs.Common.{refl, sym, ◌∙◌, ap, subst, arith}
use Rattle.std.proofs.lemmas.Bool.{eqb-true}
use Rattle.scc_base.proofs.NameLemmas.{length_map}
use Rattle.scc_plain_tree.specs.declared.expr.PlainExpr.{PlainExpr}
use Rattle.scc_plain_tree.specs.declared.expr.PlainExprNode.{PlainExprNode}
use Rattle.scc_plain_tree.specs.declared.expr.PlainExprNode.TheVariants as variant
use Rattle.scc_plain_drafts.proofs.Terms.{join_term}
use Rattle.scc_base.specs.declared.refusal.Place.{Place}
use Rattle.scc_base.specs.declared.code.Code.TheVariants as reason
use Rattle.scc_bits_kinds.specs.declared.kind.Kind.{Kind}
use Rattle.scc_bits_kinds.specs.Groups.{group_of}
use Rattle.scc_bits_kinds.specs.Table.{has_bits}
use Rattle.scc_templates_spec.specs.Walked.{Walked, pure, fault}
use Rattle.scc_templates_spec.specs.World.{Owner, File, In}
use Rattle.scc_templates_scopes.specs.declared.ty.InstanceId.{InstanceId}
use Rattle.scc_plain_tree.specs.declared.expr.PlainBase.{PlainBase}
use Rattle.scc_plain_tree.specs.declared.expr.PlainLeft.{PlainLeft, fold-roll-PlainLeft}
use Rattle.scc_plain_tree.specs.declared.expr.PlainPart.{PlainPart}
use Rattle.scc_plain_tree.specs.declared.expr.PlainPick.{PlainPick}
use Rattle.scc_plain_tree.specs.declared.program.Base.{Base as Held}
use Rattle.scc_plain_tree.specs.declared.program.Base.TheVariants as held
use Rattle.scc_plain_tree.specs.declared.program.Reach.TheVariants as reach
use Rattle.scc_elab_spec.specs.Term.{Term, Left, Pick, Whole, OneBit, Bits, Local, Answer, This, Follow, Member, Index, Load, Join, Bit, Target, Null, Address, Copy}
use Rattle.scc_plain_view.specs.Terms.{Base, Node, Picking, Taken, base_node, expr_node, part_node, pick_node, expr_step, left_step, pick_of, extended, picked as spec_picked, joined, joined_behind, left_of, taken_of, term_of}
use Rattle.scc_plain_spec.specs.Types.{OfObject}
use Rattle.scc_plain_spec.specs.Forms as spec
use Rattle.scc_plain_spec.specs.Forms.{OfLoc, BitsOf}
use Rattle.scc_plain_view.specs.Plains.{reach_of}
use Rattle.scc_plain_spec.specs.Drafts.{Draft}
use Rattle.scc_plain_spec.specs.Meant.{Meant, Stands, At, Nothing, Own, aimed, at_index, bit, bits_of, has_elements, inner_form, is_answer, is_name, is_read, some_bits, with_bits}
use Rattle.scc_plain_drafts.specs.declared.form.Form.{Form}
use Rattle.scc_plain_drafts.specs.declared.form.Loc.{Loc}
use Rattle.scc_plain_drafts.specs.Forms.{Classes, ArePicked, StandsBy, SoundLoc, base_in, form_in, loc_in, taken_by}
use Rattle.scc_plain_drafts.specs.Picks.{IsLoc, IsTaking, base_of, is_bit, is_part, is_result, picking_of, step_of}

-- ---- parts of locations

left_is : (p : Place) (b : PlainBase) (ps : List PlainPart) (q : Option PlainPick) → taken_of (record { place = p; base = b; parts = ps; pick = q }) ≡ left_step (record { place = p; base = base_of b; parts = map step_of ps; pick = option_map picking_of q })
left_is p b ps None = fold-roll-PlainLeft Base Node (Left → Left) Picking Term Taken base_node expr_node part_node pick_node expr_step left_step (record { place = p; base = b; parts = ps; pick = None })
left_is p b ps (Some q) = fold-roll-PlainLeft Base Node (Left → Left) Picking Term Taken base_node expr_node part_node pick_node expr_step left_step (record { place = p; base = b; parts = ps; pick = Some q })

pushed : (l : Left) (ps : List PlainPart) (x : PlainPart) → extended l (map step_of (ps ++ x ∷ [])) ≡ step_of x (extended l (map step_of ps))
pushed l [] x = refl
pushed l (y ∷ ys) x = pushed (step_of y l) ys x

pub taken_pushed : (p : Place) (b : PlainBase) (ps : List PlainPart) (q : Option PlainPick) (x : PlainPart) (all : List PlainPart) → all ≡ ps ++ x ∷ [] →
    let t = taken_of (record { place = p; base = b; parts = ps; pick = q }) in taken_of (record { place = p; base = b; parts = all; pick = q }) ≡ record { left = step_of x t.left; pick = t.pick; of = t.of }
taken_pushed p b ps q x all e =
    ap (λ xs. taken_of (record { place = p; base = b; parts = xs; pick = q })) e
    ∙ left_is p b (ps ++ x ∷ []) q
    ∙ ap (λ l. record { left = l; pick = pick_of (option_map picking_of q); of = option_map (λ (t : Picking). t.of) (option_map picking_of q) }) (pushed (base_of b p) ps x)
    ∙ ap (λ (t : Taken). record { left = step_of x t.left; pick = t.pick; of = t.of }) (sym (left_is p b ps q))

pub ends_in_step : (x : PlainLeft) (rest : List PlainPart) (part : PlainPart) (qs : List PlainPart) → qs ≡ x.parts → qs ≡ rest ++ part ∷ [] → left_of x ≡ step_of part (extended (base_of x.base x.place) (map step_of rest))
ends_in_step x rest part qs same last = ap (λ t. t.left) (left_is x.place x.base x.parts x.pick) ∙ ap (λ ps. extended (base_of x.base x.place) (map step_of ps)) (sym same ∙ last) ∙ pushed (base_of x.base x.place) rest part

none : {A : Type 0} → (xs : List A) → length xs ≡ 0 → xs ≡ []
none [] e = refl
none (x ∷ xs) e = absurd (cc)

pub is_base : (x : PlainLeft) (qs : List PlainPart) → qs ≡ x.parts → length qs ≡ 0 → left_of x ≡ base_of x.base x.place
is_base x qs same e = ap (λ t. t.left) (left_is x.place x.base x.parts x.pick) ∙ ap (λ ps. extended (base_of x.base x.place) (map step_of ps)) (sym same ∙ none qs e)

answer_of : (p : Place) (k : Kind) (l : Left) → is_answer (Load p k l) ≡ is_result l
answer_of p k (Local q m) = refl
answer_of p k (Answer q m) = refl
answer_of p k (This q) = refl
answer_of p k (Follow q m) = refl
answer_of p k (Member m i) = refl
answer_of p k (Index m i) = refl

pub taken_part : (p : Place) (k j : Kind) (l : Left) (q : Pick) → is_part q ≡ true → false ≡ is_answer (spec_picked p k (Load p j l) q)
taken_part p k j l Whole e = absurd (cc)
taken_part p k j l (OneBit i) e = refl
taken_part p k j l (Bits a b) e = refl

pub taken_whole : (p : Place) (k j : Kind) (l : Left) (q : Pick) → is_part q ≡ false → is_result l ≡ is_answer (spec_picked p k (Load p j l) q)
taken_whole p k j l Whole e = sym (answer_of p j l)
taken_whole p k j l (OneBit i) e = absurd (cc)
taken_whole p k j l (Bits a b) e = absurd (cc)

-- ---- bits at a location

pub not_whole : (n : Classes) (l : Loc) → spec.is_whole (form_in n l.form) ≡ false → None ≡ bits_of (OfLoc (loc_in n l))
not_whole n l w = rw w refl

pub not_all : (n : Classes) (l : Loc) → spec.is_whole (form_in n l.form) ≡ true → spec.is_all (loc_in n l).taken ≡ false → None ≡ bits_of (OfLoc (loc_in n l))
not_all n l w a = rw (w, a) refl

pub bits_by : (n : Classes) (l : Loc) (k : Kind) (o : Option Kind) → spec.is_whole (form_in n l.form) ≡ true → spec.is_all (loc_in n l).taken ≡ true → spec.value_kind (base_in n l.form.base) ≡ Some k → o ≡ with_bits k → o ≡ bits_of (OfLoc (loc_in n l))
bits_by n l k o w a v e = e ∙ rw (w, a, v) refl

by_has : (b : Bool) (k i : Kind) → (if b then Some k else None) ≡ Some i → k ≡ i
by_has true k i e = cc
by_has false k i e = absurd (cc)

by_both : (a : Bool) (k i : Kind) → (if a then with_bits k else None) ≡ Some i → (a ≡ true) × (k ≡ i)
by_both true k i e = (refl, by_has (has_bits (group_of k)) k i e)
by_both false k i e = absurd (cc)

and_first : (x y : Bool) → (x && y) ≡ true → (x ≡ true) × (y ≡ true)
and_first true y e = (refl, e)
and_first false y e = let z : false ≡ true = e in absurd (cc)

no_vector : (v w : Bool) → (not v && w) ≡ true → v ≡ false
no_vector true w e = let z : false ≡ true = e in absurd (cc)
no_vector false w e = refl

by_parts : (d : ℕ) (v w a : Bool) → ((nat_eq d 0 && (not v && w)) && a) ≡ true → (d ≡ 0) × (v ≡ false)
by_parts d v w a e = let h = and_first (nat_eq d 0) (not v && w) (and_first (nat_eq d 0 && (not v && w)) a e).0 in (eqb-true d 0 h.0, no_vector v w h.1)

abbrev stood : Classes → Form → Option Kind → Taken → Walked Meant
stood n f o t = pure (Stands (record { left = t.left; form = form_in n f; taken = taken_by o t.pick }))

at_number : (n : Classes) (p : Place) (l : Loc) (j k : Kind) (y : Pick) (b : Held) → b ≡ held.Number j → some_bits p k y (OfLoc (record { left = left_of l.left; form = record { base = base_in n b; reach = reach_of l.form.reach; vector = l.form.vector; dims = l.form.dims }; taken = taken_by l.pick (taken_of l.left).pick }))
    ≡ pure (Stands (record { left = left_of l.left; form = record { base = base_in n b; reach = reach_of l.form.reach; vector = l.form.vector; dims = l.form.dims }; taken = BitsOf y k }))
at_number n p l j k y b e = rw e refl

pub taking_is : (n : Classes) (p : Place) (l x : Loc) (q : PlainPick) (j k : Kind) → l.form.base ≡ held.Number j → IsTaking x l q k → bits_of (OfLoc (loc_in n l)) ≡ Some (picking_of q).of → ArePicked (picking_of q).pick k
    → (some_bits p k (picking_of q).pick (OfLoc (loc_in n l)) ≡ pure (Stands (loc_in n x))) × SoundLoc x
taking_is n p l x q j k e h b a =
    let f = h.form in
    let o = h.pick in
    let t = h.taken in
    let c : (if spec.is_whole (form_in n l.form) && spec.is_all (loc_in n l).taken then with_bits j else None) ≡ Some (picking_of q).of = rw e at b in
    let u = by_both (spec.is_whole (form_in n l.form) && spec.is_all (loc_in n l).taken) j (picking_of q).of c in
    let v = by_parts l.form.dims l.form.vector (not (spec.is_pointer (form_in n l.form))) (spec.is_all (loc_in n l).taken) u.0 in (
      at_number n p l j k (picking_of q).pick l.form.base e ∙ sym (ap (λ f. stood n f x.pick (taken_of x.left)) f ∙ ap (λ o. stood n l.form o (taken_of x.left)) o ∙ ap (λ t. stood n l.form (Some k) t) t),
      subst (λ o. StandsBy o x) (sym o) (record {
        number = j;
        base = ap (λ f. f.base) f ∙ e;
        of = ap (λ t. t.of) t ∙ ap Some (sym u.1);
        dims = ap (λ f. f.dims) f ∙ v.0;
        single = ap (λ f. f.vector) f ∙ v.1;
        bits = subst (λ y. ArePicked y k) (sym (ap (λ t. t.pick) t)) a;
      }),
    )

-- ---- elements

from_not : (v : Bool) → not v ≡ false → v ≡ true
from_not true e = refl
from_not false e = let z : true ≡ false = e in absurd (cc)

pub elements_by : (n : Classes) (f : Form) (b : Bool) → f.dims ≡ 0 → not f.vector ≡ false → b ≡ spec.is_pointer (form_in n f) → not b ≡ has_elements (form_in n f)
elements_by n f b d v e = let u = from_not f.vector v in rw (d, u) (ap not e)

pub element_is : (n : Classes) (p : Place) (i : Draft) (l x : Loc) → has_elements (form_in n l.form) ≡ true → IsLoc n x (spec.located (Index (left_of l.left) i.term) (inner_form (form_in n l.form)))
    → (at_index p i (Stands (loc_in n l)) ≡ pure (Stands (loc_in n x))) × SoundLoc x
element_is n p i l x e h = (rw e (ap (λ l. pure (Stands l)) (sym h.loc)), h.sound)

pub bit_is : (n : Classes) (p : Place) (i : Draft) (l : Loc) → has_elements (form_in n l.form) ≡ false → bit p i (OfLoc (loc_in n l)) ≡ at_index p i (Stands (loc_in n l))
bit_is n p i l e = rw e refl

-- ---- concatenations of several parts

bit_behind : (p : Place) (k : Kind) (a b : Term) (ts : List Term) → is_bit (joined_behind p k (Join p k a b) ts) ≡ false
bit_behind p k a b [] = refl
bit_behind p k a b (t ∷ ts) = bit_behind p k (Join p k a b) t ts

read_behind : (p : Place) (k : Kind) (a b : Term) (ts : List Term) → is_read (joined_behind p k (Join p k a b) ts) ≡ false
read_behind p k a b [] = refl
read_behind p k a b (t ∷ ts) = read_behind p k (Join p k a b) t ts

bit_joined : (p : Place) (k : Kind) (ts : List Term) → 2 ≤ length ts → false ≡ is_bit (joined p k ts)
bit_joined p k [] h = refl
bit_joined p k (t ∷ []) h = let z : 2 ≤ 1 = h in absurd (omega arith)
bit_joined p k (t ∷ u ∷ ts) h = sym (bit_behind p k t u ts)

answer_behind : (p : Place) (k : Kind) (a b : Term) (ts : List Term) → is_answer (joined_behind p k (Join p k a b) ts) ≡ false
answer_behind p k a b [] = refl
answer_behind p k a b (t ∷ ts) = answer_behind p k (Join p k a b) t ts

answer_joined : (p : Place) (k : Kind) (ts : List Term) → 2 ≤ length ts → false ≡ is_answer (joined p k ts)
answer_joined p k [] h = refl
answer_joined p k (t ∷ []) h = let z : 2 ≤ 1 = h in absurd (omega arith)
answer_joined p k (t ∷ u ∷ ts) h = sym (answer_behind p k t u ts)

read_joined : (p : Place) (k : Kind) (ts : List Term) → 2 ≤ length ts → false ≡ is_read (joined p k ts)
read_joined p k [] h = refl
read_joined p k (t ∷ []) h = let z : 2 ≤ 1 = h in absurd (omega arith)
read_joined p k (t ∷ u ∷ ts) h = sym (read_behind p k t u ts)

module _ (x : PlainExpr) (node : PlainExprNode) (ps qs : List PlainExpr) (at : node ≡ x.node) (is : node ≡ variant.Join ps) (same : qs ≡ ps) (several : 2 ≤ length qs) where
  term_is : term_of x ≡ joined x.place x.kind (map term_of ps)
  term_is = ap (λ m. term_of (record { place = x.place; kind = x.kind; node = m })) (sym at ∙ is) ∙ join_term x.place x.kind ps

  long : 2 ≤ length (map term_of ps)
  long = subst (λ m. 2 ≤ m) (ap length same ∙ sym (length_map term_of ps)) several

  pub no_bit : false ≡ is_bit (term_of x)
  no_bit = bit_joined x.place x.kind (map term_of ps) long ∙ ap is_bit (sym term_is)

  pub no_answer : false ≡ is_answer (term_of x)
  no_answer = answer_joined x.place x.kind (map term_of ps) long ∙ ap is_answer (sym term_is)

  pub no_read : false ≡ is_read (term_of x)
  no_read = read_joined x.place x.kind (map term_of ps) long ∙ ap is_read (sym term_is)

-- ---- what pointers and references are given

pub name_by : (n : Classes) (l : Loc) (b : Bool) → true ≡ is_name (base_in n l.form.base) → b ≡ spec.is_whole (form_in n l.form) → b ≡ (is_name (base_in n l.form.base) && spec.is_whole (form_in n l.form))
name_by n l b e w = rw (sym e) w

own_if : (n : Classes) (p : Place) (f : Form) (i : InstanceId) → spec.is_pointer (form_in n f) ≡ true → aimed p (In (n i.0).class (n i.0).args) (form_in n f) Own ≡ (if spec.is_like (form_in n f) (spec.direct (OfObject (n i.0).class (n i.0).args)) then pure (Address (This p)) else fault reason.Mismatch p)
own_if n p f i w = rw w refl

pub null_given : (n : Classes) (p : Place) (o : Owner) (f : Form) → spec.is_pointer (form_in n f) ≡ true → aimed p o (form_in n f) Nothing ≡ pure Null
null_given n p o f w = rw w refl

pub null_flat : (n : Classes) (p : Place) (o : Owner) (f : Form) → spec.is_pointer (form_in n f) ≡ false → aimed p o (form_in n f) Nothing ≡ fault reason.Mismatch p
null_flat n p o f w = rw w refl

pub own_flat : (n : Classes) (p : Place) (o : Owner) (f : Form) → spec.is_pointer (form_in n f) ≡ false → aimed p o (form_in n f) Own ≡ fault reason.Mismatch p
own_flat n p o f w = rw w refl

pub at_flat : (n : Classes) (p : Place) (o : Owner) (l : Loc) (f : Form) → spec.is_pointer (form_in n f) ≡ false → aimed p o (form_in n f) (At (loc_in n l)) ≡ fault reason.Mismatch p
at_flat n p o l f w = rw w refl

pub own_unlike : (n : Classes) (p : Place) (f : Form) (i : InstanceId) → spec.is_pointer (form_in n f) ≡ true → spec.is_like (form_in n f) (spec.direct (OfObject (n i.0).class (n i.0).args)) ≡ false → aimed p (In (n i.0).class (n i.0).args) (form_in n f) Own ≡ fault reason.Mismatch p
own_unlike n p f i w e = own_if n p f i w ∙ rw e refl

pub own_like : (n : Classes) (p : Place) (f : Form) (i : InstanceId) → spec.is_pointer (form_in n f) ≡ true → spec.is_like (form_in n f) (spec.direct (OfObject (n i.0).class (n i.0).args)) ≡ true → aimed p (In (n i.0).class (n i.0).args) (form_in n f) Own ≡ pure (Address (This p))
own_like n p f i w e = own_if n p f i w ∙ rw e refl

pub at_pointer : (n : Classes) (p : Place) (o : Owner) (l : Loc) (f : Form) → spec.is_pointer (form_in n f) ≡ true → spec.is_pointer (form_in n l.form) ≡ true → aimed p o (form_in n f) (At (loc_in n l)) ≡ fault reason.Mismatch p
at_pointer n p o l f w e = rw (w, e) refl

pub at_unlike : (n : Classes) (p : Place) (o : Owner) (l : Loc) (f : Form) → spec.is_pointer (form_in n f) ≡ true → spec.is_pointer (form_in n l.form) ≡ false → spec.is_like (form_in n l.form) (form_in n f) ≡ false → aimed p o (form_in n f) (At (loc_in n l)) ≡ fault reason.Mismatch p
at_unlike n p o l f w e k = rw (w, e, k) refl

pub at_like : (n : Classes) (p : Place) (o : Owner) (l : Loc) (f : Form) → spec.is_pointer (form_in n f) ≡ true → spec.is_pointer (form_in n l.form) ≡ false → spec.is_like (form_in n l.form) (form_in n f) ≡ true → aimed p o (form_in n f) (At (loc_in n l)) ≡ pure (Address (left_of l.left))
at_like n p o l f w e k = rw (w, e, k) refl

module _ (n : Classes) (p : Place) (o : Owner) (l : Loc) (f : Form) where
  abbrev given : Target → Type 0
  given t = aimed p o (form_in n f) (Stands (loc_in n l)) ≡ pure t

  abbrev refused : Type 0
  refused = aimed p o (form_in n f) (Stands (loc_in n l)) ≡ fault reason.Mismatch p

  pub arrays : nat_eq l.form.dims 0 ≡ false → refused
  arrays d = rw d refl

  pub bits : l.form.dims ≡ 0 → spec.is_all (loc_in n l).taken ≡ false → refused
  bits d a = rw (d, a) refl

  pub unlike : l.form.dims ≡ 0 → spec.is_all (loc_in n l).taken ≡ true → spec.is_like (form_in n l.form) (form_in n f) ≡ false → refused
  unlike d a k = rw (d, a, k) refl

  pub refers : l.form.dims ≡ 0 → spec.is_all (loc_in n l).taken ≡ true → spec.is_like (form_in n l.form) (form_in n f) ≡ true → f.reach ≡ reach.Reference → spec.is_pointer (form_in n l.form) ≡ false → given (Address (left_of l.left))
  refers d a k r w = rw (d, a, k, r, w) refl

  pub refers_wrong : l.form.dims ≡ 0 → spec.is_all (loc_in n l).taken ≡ true → spec.is_like (form_in n l.form) (form_in n f) ≡ true → f.reach ≡ reach.Reference → spec.is_pointer (form_in n l.form) ≡ true → refused
  refers_wrong d a k r w = rw (d, a, k, r, w) refl

  pub points : l.form.dims ≡ 0 → spec.is_all (loc_in n l).taken ≡ true → spec.is_like (form_in n l.form) (form_in n f) ≡ true → f.reach ≡ reach.Pointer → spec.is_pointer (form_in n l.form) ≡ true → given (Copy (left_of l.left))
  points d a k r w = rw (d, a, k, r, w) refl

  pub points_wrong : l.form.dims ≡ 0 → spec.is_all (loc_in n l).taken ≡ true → spec.is_like (form_in n l.form) (form_in n f) ≡ true → f.reach ≡ reach.Pointer → spec.is_pointer (form_in n l.form) ≡ false → refused
  points_wrong d a k r w = rw (d, a, k, r, w) refl

  pub directly : l.form.dims ≡ 0 → spec.is_all (loc_in n l).taken ≡ true → spec.is_like (form_in n l.form) (form_in n f) ≡ true → f.reach ≡ reach.Direct → refused
  directly d a k r = rw (d, a, k, r) refl
