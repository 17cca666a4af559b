-- What is made of drafts whose operators have the kinds that they say has them, too.
use Rattle.std.proofs.Common.{◌≡◌, ℕ, Bool, true, false, ◌&&◌, nat_eq, List, [], ◌∷◌, Option, Some, None, option_map, option_and_then, refl, ap, ◌∙◌, subst, arith, if◌then◌else◌}
use Rattle.scc_base.specs.declared.refusal.Place.{Place}
use Rattle.scc_base.specs.declared.code.Code.TheVariants as reason
use Rattle.scc_bits_kinds.specs.declared.kind.Kind.{Kind}
use Rattle.scc_bits_kinds.specs.declared.kind.Kind.TheVariants as kind
use Rattle.scc_bits_kinds.specs.declared.op.Op.{Op}
use Rattle.scc_bits_kinds.specs.Bits.{is_convertible}
use Rattle.scc_bits.specs.Values.{kind_of as operator_kind, is_too_wide}
use Rattle.scc_templates_spec.specs.Walk.{same_bool, same_kind}
use Rattle.scc_templates_spec.specs.Walked.{Walked, pure, fault, and_walk}
use Rattle.scc_elab_spec.specs.Term.{Term, Unary, Binary, Join, place_of}
use Rattle.scc_plain_spec.specs.Numbers.{by_table, choice_of, divides, answered, concat_kind}
use Rattle.scc_plain_spec.specs.Drafts.{Draft, kind_in, wrapped, converted, cast, draft_beside, left_beside, right_beside, both_known, operate, operate_one, choose, kinds_of, joined_terms, all_known, known_of, concat}
use Rattle.scc_plain_laws.proofs.Named.{Namable, AllNames, Names}

pub some-is : {A : Type 0} {x y : A} → Some x ≡ Some y → x ≡ y
some-is e = cc

and-first : (a b : Bool) → (a && b) ≡ true → a ≡ true
and-first true b e = refl
and-first false b e = absurd cc

and-second : (a b : Bool) → (a && b) ≡ true → b ≡ true
and-second true b e = e
and-second false b e = absurd cc

number-is : (m n : ℕ) → nat_eq m n ≡ true → m ≡ n
number-is m n e = grind arith

bool-is : (a b : Bool) → same_bool a b ≡ true → a ≡ b
bool-is true true e = refl
bool-is true false e = absurd cc
bool-is false true e = absurd cc
bool-is false false e = refl

kind-is : (j k : Kind) → same_kind j k ≡ true → j ≡ k
kind-is kind.Bool kind.Bool e = refl
kind-is (kind.Native w s) (kind.Native v t) e = λ i. kind.Native (number-is w v (and-first (nat_eq w v) (same_bool s t) e) i) (bool-is s t (and-second (nat_eq w v) (same_bool s t) e) i)
kind-is (kind.Int w) (kind.Int v) e = ap kind.Int (number-is w v e)
kind-is (kind.Uint w) (kind.Uint v) e = ap kind.Uint (number-is w v e)
kind-is (kind.Big w) (kind.Big v) e = ap kind.Big (number-is w v e)
kind-is (kind.BigInt w) (kind.BigInt v) e = ap kind.BigInt (number-is w v e)
kind-is (kind.Bv w) (kind.Bv v) e = ap kind.Bv (number-is w v e)
kind-is (kind.Wide b s) (kind.Wide c t) e = λ i. kind.Wide (number-is b c (and-first (nat_eq b c) (same_bool s t) e) i) (bool-is s t (and-second (nat_eq b c) (same_bool s t) e) i)
kind-is j k e = absurd cc

-- what comes of a walk has a part of each step
pub walk-is : {A B : Type 0} (w : Walked A) (f : A → Walked B) (y : B) → (and_walk w f).value ≡ Some y → (x : A) × (w.value ≡ Some x) × ((f x).value ≡ Some y)
walk-is w f y e = by w.value refl e
  where
    by : (o : Option _) → w.value ≡ o → option_and_then (λ a. (f a).value) o ≡ Some y → (x : _) × (w.value ≡ Some x) × ((f x).value ≡ Some y)
    by None h e = absurd cc
    by (Some x) h e = (x, h, e)

-- the operator table has a row
table-is : {A : Type 0} (p : Place) (o : Op) (j k : Kind) (f : Kind → Walked A) (x : A) → (by_table p o j k f).value ≡ Some x → (answer : Kind) × (operator_kind o j k ≡ Some answer) × ((f answer).value ≡ Some x)
table-is p o j k f x e = by (operator_kind o j k) refl
  where
    wide : (answer : Kind) (b : Bool) → (if b then fault reason.WideLoss p else f answer).value ≡ Some x → (f answer).value ≡ Some x
    wide answer true h = absurd cc
    wide answer false h = h

    by : (q : Option Kind) → operator_kind o j k ≡ q → (answer : Kind) × (operator_kind o j k ≡ Some answer) × ((f answer).value ≡ Some x)
    by None h = absurd (let z = rw h at e in cc)
    by (Some answer) h = (answer, h, wide answer (is_too_wide o j k) (let z = rw h at e in z))

module _ (some : Namable) where
  pub converted-is : (k : Kind) (a x : Draft) → Names some a.term → (converted k a).value ≡ Some x → (kind_in x ≡ k) × Names some x.term
  converted-is k a x t e = by (same_kind (kind_in a) k) refl (is_convertible (kind_in a) k) e
    where
      by : (b : Bool) → same_kind (kind_in a) k ≡ b → (c : Bool) → (if b then pure a else (if c then pure (wrapped (place_of a.term) k a) else fault reason.Mismatch a.place)).value ≡ Some x → (kind_in x ≡ k) × Names some x.term
      by true h c e = subst (λ (x : Draft). (kind_in x ≡ k) × Names some x.term) (some-is e) (kind-is (kind_in a) k h, t)
      by false h true e = subst (λ (x : Draft). (kind_in x ≡ k) × Names some x.term) (some-is e) (refl, t)
      by false h false e = absurd cc

  pub cast-is : (p : Place) (k : Kind) (a x : Draft) → Names some a.term → (cast p k a).value ≡ Some x → Names some x.term
  cast-is p k a x t e = by (same_kind (kind_in a) k) (is_convertible (kind_in a) k) e
    where
      by : (b c : Bool) → (if b then pure (record { term = a.term; known = a.known; place = p }) else (if c then pure (wrapped p k a) else fault reason.Mismatch p)).value ≡ Some x → Names some x.term
      by true c e = subst (λ (x : Draft). Names some x.term) (some-is e) t
      by false true e = subst (λ (x : Draft). Names some x.term) (some-is e) t
      by false false e = absurd cc

  pub operate-one-is : (p : Place) (o : Op) (a x : Draft) → Names some a.term → (operate_one p o a).value ≡ Some x → Names some x.term
  operate-one-is p o a x t e =
      let y = table-is p o (kind_in a) (kind_in a) (λ k. pure (record { term = Unary p k o a.term; known = option_map (λ n. answered o k n n) a.known; place = p })) x e in
      subst (λ (x : Draft). Names some x.term) (some-is y.2) (y.1, t)

  pub operate-is : (p at : Place) (o : Op) (a b x : Draft) → Names some a.term → Names some b.term → (operate p at o a b).value ≡ Some x → Names some x.term
  operate-is p at o a b x s t e =
      let y = table-is at o i j (λ k. if divides o b.known then joined k else fault reason.Divisor at) x e in
      by y.0 y.1 (divides o b.known) y.2
    where
      i : Kind
      i = left_beside o a b

      j : Kind
      j = right_beside o a b

      joined : Kind → Walked Draft
      joined k = and_walk (converted i a) (λ x. and_walk (converted j b) (λ y. pure (record { term = Binary p k o x.term y.term; known = both_known x.known y.known (answered o k); place = p })))

      by : (k : Kind) → operator_kind o i j ≡ Some k → (c : Bool) → (if c then joined k else fault reason.Divisor at).value ≡ Some x → Names some x.term
      by k h false e = absurd cc
      by k h true e =
          let u = walk-is (converted i a) (λ x. and_walk (converted j b) (λ y. pure (record { term = Binary p k o x.term y.term; known = both_known x.known y.known (answered o k); place = p }))) x e in
          let v = walk-is (converted j b) (λ y. pure (record { term = Binary p k o u.0.term y.term; known = both_known u.0.known y.known (answered o k); place = p })) x u.2 in
          let l = converted-is i a u.0 s u.1 in
          let r = converted-is j b v.0 t v.1 in
          subst (λ (x : Draft). Names some x.term) (some-is v.2) ((λ z. operator_kind o (l.0 z) (r.0 z)) ∙ h, l.1, r.1)

  pub choose-is : (p : Place) (test a b x : Draft) → Names some test.term → Names some a.term → Names some b.term → (choose p test a b).value ≡ Some x → Names some x.term
  choose-is p test a b x n s t e = by (choice_of i j) refl
    where
      i : Kind
      i = draft_beside a (kind_in b)

      j : Kind
      j = draft_beside b (kind_in a)

      both : (f : Draft → Draft → Draft) → ((x y : Draft) → Names some x.term → Names some y.term → Names some (f x y).term) → (and_walk (converted i a) (λ x. and_walk (converted j b) (λ y. pure (f x y)))).value ≡ Some x → Names some x.term
      both f h e =
          let u = walk-is (converted i a) (λ x. and_walk (converted j b) (λ y. pure (f x y))) x e in
          let v = walk-is (converted j b) (λ y. pure (f u.0 y)) x u.2 in
          subst (λ (x : Draft). Names some x.term) (some-is v.2) (h u.0 v.0 (converted-is i a u.0 s u.1).1 (converted-is j b v.0 t v.1).1)

      by : (k : Option Kind) → choice_of i j ≡ k → Names some x.term
      by None h = absurd (let z = rw h at e in cc)
      by (Some k) h = both _ (λ x y f g. (n, f, g)) (let z = rw h at e in z)

  pub concat-is : (p : Place) (xs : List Draft) (x : Draft) → AllNames some xs → (concat p xs).value ≡ Some x → Names some x.term
  concat-is p [] x t e = absurd cc
  concat-is p (y ∷ ys) x t e =
      let u = walk-is (concat_kind p (kinds_of (y ∷ ys))) (λ k. pure (record { term = joined_terms p k y.term ys; known = known_of p (all_known (y ∷ ys)); place = p })) x e in
      subst (λ (x : Draft). Names some x.term) (some-is u.2) (terms u.0 y.term ys t.0 t.1)
    where
      terms : (k : Kind) (e : Term) (ys : List Draft) → Names some e → AllNames some ys → Names some (joined_terms p k e ys)
      terms k e [] s t = s
      terms k e (z ∷ ys) s t = terms k (Join p k e z.term) ys (s, t.0) t.1
