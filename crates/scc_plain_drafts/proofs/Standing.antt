-- What stands at a location as a value.
use Rattle.std.specs.Prelude.{◌≡◌, ℕ, nat_eq, not, Bool, true, false, Option, Some, None, IfSome, is_some, unwrap_or, if◌then◌else◌}
use Rattle.std.proofs.Common.{refl, sym, ◌∙◌, ap, subst}
use Rattle.scc_base.specs.declared.refusal.Place.{Place}
use Rattle.scc_base.specs.declared.code.Code.TheVariants as reason
use Rattle.scc_bits_kinds.specs.declared.kind.Kind.{Kind}
use Rattle.scc_bits_kinds.specs.Groups.{group_of}
use Rattle.scc_bits_kinds.specs.Table.{has_bits}
use Rattle.scc_templates_spec.specs.Walked.{Walked, pure, fault, and_walk}
use Rattle.scc_plain_tree.specs.declared.program.Base.{Base}
use Rattle.scc_plain_tree.specs.declared.program.Base.TheVariants as held
use Rattle.scc_elab_spec.specs.Term.{Term, Left, Pick, Whole, OneBit, Bits, Load, Read, kind_of, place_of}
use Rattle.scc_plain_view.specs.Terms as view
use Rattle.scc_plain_view.specs.Terms.{term_of, taken_of}
use Rattle.scc_plain_spec.specs.Drafts.{Draft as Drafted, drafted, kind_in}
use Rattle.scc_plain_spec.specs.Methods.{subject_is_port, converting, method}
use Rattle.scc_plain_spec.specs.Forms as spec
use Rattle.scc_plain_drafts.specs.declared.draft.Draft.{Draft}
use Rattle.scc_plain_drafts.specs.declared.form.Loc.{Loc}
use Rattle.scc_plain_drafts.specs.declared.form.Form.{Form}
use Rattle.scc_plain_drafts.specs.Views.{Sound, draft_of}
use Rattle.scc_plain_drafts.specs.Forms.{Classes, base_in, number_in, form_in, taken_by, loc_in, ArePicked, StandsBy, SoundLoc}

abbrev Stands : Option Kind → Pick → Option Kind → Kind → Type 0
Stands None q f k = (q ≡ Whole) × (f ≡ None)
Stands (Some j) q f k = (f ≡ Some k) × ArePicked q j

abbrev loading : Place → Kind → Left → Option Kind → Pick → Option Kind → Term
loading p k l o q f = view.picked p (unwrap_or o k) (Load p (unwrap_or f (unwrap_or o k)) l) q

loading_is : (p : Place) (k : Kind) (l : Left) (o : Option Kind) (q : Pick) (f : Option Kind) → Stands o q f k → spec.loaded p k l (taken_by o q) ≡ loading p k l o q f
loading_is p k l None q f h = let a = h.0 in let b = h.1 in rw (a, b) refl
loading_is p k l (Some j) Whole f h = absurd h.1
loading_is p k l (Some j) (OneBit i) f h = let a = h.0 in rw a refl
loading_is p k l (Some j) (Bits m n) f h = let a = h.0 in rw a refl

loading_kind : (p : Place) (k : Kind) (l : Left) (o : Option Kind) (q : Pick) (f : Option Kind) → Stands o q f k → (kind_of (loading p k l o q f) ≡ unwrap_or o k) × (place_of (loading p k l o q f) ≡ p)
loading_kind p k l None q f h = let a = h.0 in let b = h.1 in rw (a, b) (refl, refl)
loading_kind p k l (Some j) Whole f h = absurd h.1
loading_kind p k l (Some j) (OneBit i) f h = (sym h.1, refl)
loading_kind p k l (Some j) (Bits m n) f h = (refl, refl)

-- a draft of such a term is sound
sound_by : (x : Draft) (p : Place) (k : Kind) (t : Term) → draft_of x ≡ drafted p t → x.expr.kind ≡ k → x.expr.place ≡ p → kind_of t ≡ k → place_of t ≡ p → Sound x
sound_by x p k t e as_kind as_place i j = record {
  kind = ap (λ d. kind_of d.term) e ∙ i ∙ sym as_kind;
  place = ap (λ d. place_of d.term) e ∙ j ∙ sym as_place;
  number = subst (λ m. IfSome m (λ n. n.kind ≡ x.expr.kind)) (sym (ap (λ d. d.known) e)) tt;
}

stands_number : (l : Loc) (k : Kind) → number_in l.form.base ≡ Some k → (o : Option Kind) → StandsBy o l → Stands o (taken_of l.left).pick (taken_of l.left).of k
stands_number l k e None h = h
stands_number l k e (Some j) h = let b : number_in l.form.base ≡ Some h.number = ap number_in h.base in let s : Some h.number ≡ Some k = sym b ∙ e in (h.of ∙ s, h.bits)

abbrev valued : Classes → Place → Loc → Base → spec.Loc
valued n p l b = record { left = (taken_of l.left).left; form = record { base = base_in n b; reach = (form_in n l.form).reach; vector = l.form.vector; dims = l.form.dims }; taken = taken_by l.pick (taken_of l.left).pick }

at_number : (n : Classes) (p : Place) (l : Loc) (k : Kind) (b : Base) → number_in b ≡ Some k → spec.is_whole (form_in n l.form) ≡ true → spec.value_at p (valued n p l b) ≡ pure (drafted p (spec.loaded p k (taken_of l.left).left (taken_by l.pick (taken_of l.left).pick)))
at_number n p l k (held.Number j) e w = rw w (ap (λ j. pure (drafted p (spec.loaded p j (taken_of l.left).left (taken_by l.pick (taken_of l.left).pick)))) same)
  where
    same : j ≡ k
    same = cc
at_number n p l k (held.Class c) e w = absurd (cc)
at_number n p l k (held.Input j) e w = absurd (cc)
at_number n p l k (held.Output j) e w = absurd (cc)
at_number n p l k (held.Signal j) e w = absurd (cc)
at_number n p l k held.ModuleName e w = absurd (cc)

pub number_is : (n : Classes) (p : Place) (l : Loc) (k : Kind) (x : Draft) → spec.is_whole (form_in n l.form) ≡ true → number_in l.form.base ≡ Some k
    → draft_of x ≡ drafted p (loading p k (taken_of l.left).left l.pick (taken_of l.left).pick (taken_of l.left).of) → x.expr.kind ≡ unwrap_or l.pick k → x.expr.place ≡ p → SoundLoc l
    → (spec.value_at p (loc_in n l) ≡ pure (draft_of x)) × Sound x
number_is n p l k x w b e as_kind as_place h =
    let t = taken_of l.left in
    let s = stands_number l k b l.pick h in
    let i = loading_kind p k t.left l.pick t.pick t.of s in (
      at_number n p l k l.form.base b w ∙ ap (λ u. pure (drafted p u)) (loading_is p k t.left l.pick t.pick t.of s) ∙ ap pure (sym e),
      sound_by x p (unwrap_or l.pick k) (loading p k t.left l.pick t.pick t.of) e as_kind as_place i.0 i.1,
    )

at_port : (n : Classes) (p : Place) (l : Loc) (k : Kind) (b : Base) → number_in b ≡ None → spec.port_kind (base_in n b) ≡ Some k → spec.is_whole (form_in n l.form) ≡ true → spec.value_at p (valued n p l b) ≡ pure (drafted p (Read p k (taken_of l.left).left))
at_port n p l k (held.Number j) e i w = absurd (cc)
at_port n p l k (held.Class c) e i w = absurd (cc)
at_port n p l k (held.Input j) e i w = let same : j ≡ k = cc in rw w (ap (λ j. pure (drafted p (Read p j (taken_of l.left).left))) same)
at_port n p l k (held.Output j) e i w = let same : j ≡ k = cc in rw w (ap (λ j. pure (drafted p (Read p j (taken_of l.left).left))) same)
at_port n p l k (held.Signal j) e i w = let same : j ≡ k = cc in rw w (ap (λ j. pure (drafted p (Read p j (taken_of l.left).left))) same)
at_port n p l k held.ModuleName e i w = absurd (cc)

-- no bits are picked of what is no number
unpicked : (l : Loc) (o : Option Kind) → number_in l.form.base ≡ None → StandsBy o l → ((taken_of l.left).pick ≡ Whole) × ((taken_of l.left).of ≡ None)
unpicked l None e h = h
unpicked l (Some j) e h = let b : number_in l.form.base ≡ Some h.number = ap number_in h.base in absurd (cc)

pub port_is : (n : Classes) (p : Place) (l : Loc) (k : Kind) (x : Draft) → spec.is_whole (form_in n l.form) ≡ true → number_in l.form.base ≡ None → spec.port_kind (base_in n l.form.base) ≡ Some k
    → draft_of x ≡ drafted p (view.picked p k (Read p (unwrap_or (taken_of l.left).of k) (taken_of l.left).left) (taken_of l.left).pick) → x.expr.kind ≡ k → x.expr.place ≡ p → SoundLoc l
    → (spec.value_at p (loc_in n l) ≡ pure (draft_of x)) × Sound x
port_is n p l k x w b i e as_kind as_place h =
    let t = taken_of l.left in
    let u = unpicked l l.pick b h in
    let a = u.0 in
    let f = u.1 in
    let is : view.picked p k (Read p (unwrap_or t.of k) t.left) t.pick ≡ Read p k t.left = rw (a, f) refl in
    let d = e ∙ ap (drafted p) is in
    (at_port n p l k l.form.base b i w ∙ ap pure (sym d), sound_by x p k (Read p k t.left) d as_kind as_place refl refl)

at_none : (n : Classes) (p : Place) (l : Loc) (b : Base) → number_in b ≡ None → spec.port_kind (base_in n b) ≡ None → spec.is_whole (form_in n l.form) ≡ true → spec.value_at p (valued n p l b) ≡ fault reason.Mismatch p
at_none n p l (held.Number j) e i w = absurd (cc)
at_none n p l (held.Class c) e i w = rw w refl
at_none n p l (held.Input j) e i w = absurd (cc)
at_none n p l (held.Output j) e i w = absurd (cc)
at_none n p l (held.Signal j) e i w = absurd (cc)
at_none n p l held.ModuleName e i w = rw w refl

pub none_is : (n : Classes) (p : Place) (l : Loc) → spec.is_whole (form_in n l.form) ≡ true → number_in l.form.base ≡ None → spec.port_kind (base_in n l.form.base) ≡ None → spec.value_at p (loc_in n l) ≡ fault reason.Mismatch p
none_is n p l w b i = at_none n p l l.form.base b i w

pub not_whole_is : (n : Classes) (p : Place) (l : Loc) → spec.is_whole (form_in n l.form) ≡ false → spec.value_at p (loc_in n l) ≡ fault reason.Mismatch p
not_whole_is n p l w = rw w refl

pub port_by : (n : Classes) (f : Form) (o : Option Kind) → o ≡ spec.port_kind (base_in n f.base) → spec.is_whole (form_in n f) ≡ true → is_some o ≡ spec.is_port (form_in n f)
port_by n f None e w = rw (w, sym e) refl
port_by n f (Some k) e w = rw (w, sym e) refl

pub no_port : (n : Classes) (f : Form) → spec.is_whole (form_in n f) ≡ false → false ≡ spec.is_port (form_in n f)
no_port n f w = rw w refl

-- ---- calls of the language

abbrev by_value : Place → ℕ → spec.Subject → Drafted → Walked Drafted
by_value p k s d = if nat_eq k 0 then (if subject_is_port s then pure d else fault reason.Mismatch p) else (if has_bits (group_of (kind_in d)) then converting p k d else fault reason.Mismatch p)

method_at : (p : Place) (k : ℕ) (s : spec.Subject) (d : Drafted) → spec.subject_value p s ≡ pure d → method p k s ≡ by_value p k s d
method_at p k s d e = ap (λ w. and_walk w (by_value p k s)) e

pub read_port : (p : Place) (k : ℕ) (s : spec.Subject) (d : Drafted) → spec.subject_value p s ≡ pure d → nat_eq k 0 ≡ true → subject_is_port s ≡ true → method p k s ≡ pure d
read_port p k s d e z i = method_at p k s d e ∙ rw (z, i) refl

pub read_none : (p : Place) (k : ℕ) (s : spec.Subject) (d : Drafted) → spec.subject_value p s ≡ pure d → nat_eq k 0 ≡ true → subject_is_port s ≡ false → method p k s ≡ fault reason.Mismatch p
read_none p k s d e z i = method_at p k s d e ∙ rw (z, i) refl

pub no_bits : (p : Place) (k : ℕ) (s : spec.Subject) (d : Drafted) → spec.subject_value p s ≡ pure d → nat_eq k 0 ≡ false → has_bits (group_of (kind_in d)) ≡ false → method p k s ≡ fault reason.Mismatch p
no_bits p k s d e z i = method_at p k s d e ∙ rw (z, i) refl

pub converts_it : (p : Place) (k : ℕ) (s : spec.Subject) (d : Drafted) → spec.subject_value p s ≡ pure d → nat_eq k 0 ≡ false → has_bits (group_of (kind_in d)) ≡ true → method p k s ≡ converting p k d
converts_it p k s d e z i = method_at p k s d e ∙ rw (z, i) refl

pub whole_by : (n : Classes) (f : Form) (b : Bool) → f.dims ≡ 0 → f.vector ≡ false → b ≡ spec.is_pointer (form_in n f) → not b ≡ spec.is_whole (form_in n f)
whole_by n f b d v e = rw (d, v) (ap not e)
