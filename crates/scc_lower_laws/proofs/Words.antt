-- What conversions, operators and choices of outcomes give.
use Rattle.std.specs.Prelude.{◌≡◌, ℕ, nat_eq, not, cond, Bool, true, false, if◌then◌else◌, Option, Some, None, option_map, option_and_then}
use Rattle.std.proofs.Common.{refl, sym, ◌∙◌, ap, subst}
use Rattle.scc_bits_kinds.specs.declared.op.Op.{Op}
use Rattle.scc_bits_kinds.specs.declared.op.Op.TheVariants as op
use Rattle.scc_bits_kinds.specs.declared.kind.Kind.{Kind}
use Rattle.scc_bits_kinds.specs.declared.kind.Kind.TheVariants as sorts
use Rattle.scc_bits_kinds.specs.declared.rule.Rule.{Rule}
use Rattle.scc_bits_kinds.specs.Operators.{exact, truth}
use Rattle.scc_bits_kinds.specs.Kinds.{IsValid, Fits, width_of, is_signed, number_of, stored}
use Rattle.scc_bits_kinds.specs.Kinds as kinds
use Rattle.scc_bits_kinds.proofs.Words.{truth_reading}
use Rattle.scc_bits.specs.declared.operands.Operands.{Operands}
use Rattle.scc_bits.specs.Placed.{operands_of}
use Rattle.scc_bits.specs.Value.{Number, exactly}
use Rattle.scc_bits.specs.Values.{applied, is_too_wide, kind_of, rule_at, answer_of, computed, left_of, right_of}
use Rattle.scc_bits.proofs.Lowered.{answer_is}
use Rattle.scc_svtree.specs.declared.expr.SvBinary.{SvBinary}
use Rattle.scc_svtree.specs.declared.expr.SvUnary.{SvUnary}
use Rattle.scc_svtree.specs.Sizes.{Sized, sized}
use Rattle.scc_svtree.specs.Term.{Term, Literal, Unary}
use Rattle.scc_lower_spec.specs.Gives.{Gives}
use Rattle.scc_lower_spec.specs.Conversion.{converted_term}
use Rattle.scc_lower_spec.specs.Operating.{binary_of, is_shift, operated_term, unary_of}
use Rattle.scc_lower_spec.proofs.Gives.{gives_fixed, gives_cond}
use Rattle.scc_lower_spec.proofs.Converted.{converted_gives}
use Rattle.scc_lower_spec.proofs.Shapes.{shape}
use Rattle.scc_lower_spec.proofs.Operators.{stored_fits, amount_gives, operator_gives, unary_operator_gives, plus_operator_gives}
use Rattle.scc_lower_laws.specs.Outcome.{Outcome, Known, Made, HasWord, text_of, text_in, number, converted, answered, joined_text, right_text, between_text, operated, is_plus, alone_text, operated_alone, choice_text, chosen}

same_kind : (j k : Kind) → ◌≡◌ {A = Option Kind} (Some j) (Some k) → j ≡ k
same_kind j k e = cc

same_outcome : (a b : Outcome) → ◌≡◌ {A = Option Outcome} (Some a) (Some b) → a ≡ b
same_outcome a b e = cc

same_word : (a b : ℕ) → ◌≡◌ {A = Option ℕ} (Some a) (Some b) → a ≡ b
same_word a b e = cc

computed_fits : (o : Op) (left right answer j k : Kind) (y z : ℕ) → Fits answer (computed o left right answer j y k z)
computed_fits o left right answer j k y z = stored_fits answer (exact o (width_of left) (kinds.converted left (number_of j y)) (kinds.converted right (number_of k z)))

-- an operator's answer fits its kind
pub applied_fits : (o : Op) (j k kind : Kind) (y z v : ℕ) → kind_of o j k ≡ Some kind → applied o j y k z ≡ Some v → Fits kind v
applied_fits o j k kind y z v = by (rule_at o j k)
  where
    with_rule : (r : Rule) (a : Option Kind) → a ≡ Some kind → option_map (λ answer. computed o (left_of r j k) (right_of r j k) answer j y k z) a ≡ Some v → Fits kind v
    with_rule r None e f = absurd (cc)
    with_rule r (Some answer) e f =
        let is : answer ≡ kind = same_kind answer kind e in
        let w : computed o (left_of r j k) (right_of r j k) answer j y k z ≡ v = same_word (computed o (left_of r j k) (right_of r j k) answer j y k z) v f in
        subst (λ n. Fits kind n) w (subst (λ n. Fits n (computed o (left_of r j k) (right_of r j k) answer j y k z)) is (computed_fits o (left_of r j k) (right_of r j k) answer j k y z))

    by : (r : Option Rule) → option_and_then (λ r. answer_of r j k) r ≡ Some kind → option_and_then (λ r. option_map (λ answer. computed o (left_of r j k) (right_of r j k) answer j y k z) (answer_of r j k)) r ≡ Some v → Fits kind v
    by None e f = absurd (cc)
    by (Some r) e f = with_rule r (answer_of r j k) e f

module _ (wide : Bool) (width x : ℕ → ℕ) where
  abbrev of : Term → Sized
  of t = sized wide width x t

  abbrev Has : Kind → Outcome → ℕ → Type 0
  Has k a v = HasWord wide width x k a v

  -- the text by itself, and in another kind
  pub text_gives : (k : Kind) (a : Outcome) (y : ℕ) → Fits k y → Has k a y → Gives false (of (text_of a)) (width_of k) y
  text_gives k (Known n) y f h = subst (λ j. Gives false (of (Literal (width_of j) n.word)) (width_of k) y) (sym h.0) (subst (λ w. Gives false (of (Literal (width_of k) w)) (width_of k) y) (sym h.1) (gives_fixed false (width_of k) y f))
  text_gives k (Made t) y f h = h

  pub text_in_gives : (from to : Kind) (a : Outcome) (y : ℕ) → Fits from y → Has from a y → Gives false (of (text_in from to a)) (width_of to) (stored to (number_of from y))
  text_in_gives from to (Known n) y f h =
      subst (λ w. Gives false (of (Literal (width_of to) w)) (width_of to) (stored to (number_of from y))) (λ i. stored to (number_of (sym h.0 i) (sym h.1 i)))
      (gives_fixed false (width_of to) (stored to (number_of from y)) (stored_fits to (number_of from y)))
  text_in_gives from to (Made t) y f h = converted_gives wide width x from to t y f h

  -- ---- conversions

  pub converted_has : (from to : Kind) (a : Outcome) (y : ℕ) → Fits from y → Has from a y → Has to (converted from to a) (stored to (number_of from y))
  converted_has from to (Known n) y f h = (refl, λ i. stored to (number_of (h.0 i) (h.1 i)))
  converted_has from to (Made t) y f h = converted_gives wide width x from to t y f h

  -- ---- operators between two operands

  answer_has : (o : Op) (n m : Number) (j k kind : Kind) (y z v : ℕ) (out : Outcome) → n.kind ≡ j → n.word ≡ y → m.kind ≡ k → m.word ≡ z → kind_of o j k ≡ Some kind → applied o j y k z ≡ Some v → answered o n m ≡ Some out → Has kind out v
  answer_has o n m j k kind y z v out a b c d q r h =
      let moved : answered o n m ≡ answered o (number j y) (number k z) = λ i. answered o (number (a i) (b i)) (number (c i) (d i)) in
      let first : answered o (number j y) (number k z) ≡ option_map (λ w. Known (number kind w)) (applied o j y k z) = ap (option_and_then (λ k'. option_map (λ w. Known (number k' w)) (applied o j y k z))) q in
      let second : option_map (λ w. Known (number kind w)) (applied o j y k z) ≡ Some (Known (number kind v)) = ap (option_map (λ w. Known (number kind w))) r in
      subst (λ u. Has kind u v) (same_outcome (Known (number kind v)) out (sym (moved ∙ first ∙ second) ∙ h)) (refl, refl)

  right_gives : (o : Op) (k : Kind) (j : Kind) (p : Operands) (b : Outcome) (z : ℕ) → operands_of o j k ≡ Some p → IsValid k → Fits k z → Has k b z → Gives false (of (right_text o p.right k b)) (width_of p.right) (stored p.right (number_of k z))
  right_gives o k j p b z e v f h = by (is_shift o) refl
    where
      by : (t : Bool) → is_shift o ≡ t → Gives false (of (if t then text_of b else text_in k p.right b)) (width_of p.right) (stored p.right (number_of k z))
      by true d = amount_gives wide width x o k p (text_of b) z d (shape o j k p e) v f (text_gives k b z f h)
      by false d = text_in_gives k p.right b z f h

  at_kind : (o : Op) (j k kind : Kind) (p : Operands) (t : Term) (v : ℕ) → operands_of o j k ≡ Some p → kind_of o j k ≡ Some kind → Gives false (of t) (width_of p.answer) v → Gives false (of t) (width_of kind) v
  at_kind o j k kind p t v e q g = subst (λ r. Gives false (of t) (width_of r) v) (same_kind p.answer kind (sym (answer_is o j k p e) ∙ q)) g

  abbrev text : Op → Kind → Outcome → Kind → Outcome → Operands → SvBinary → Term
  text o j a k b p t = operated_term o (is_signed p.left) t (text_in j p.left a) (right_text o p.right k b)

  between_has : (o : Op) (j k kind : Kind) (y z v : ℕ) (a b out : Outcome) → IsValid j → IsValid k → Fits j y → Fits k z → is_too_wide o j k ≡ false → kind_of o j k ≡ Some kind → Has j a y → Has k b z → applied o j y k z ≡ Some v
      → option_map Made (between_text o j a k b) ≡ Some out → Has kind out v
  between_has o j k kind y z v a b out c d f g w q h m r s = first (operands_of o j k) refl s
    where
      second : (p : Operands) → operands_of o j k ≡ Some p → (t : Option SvBinary) → binary_of o (is_signed p.left) ≡ t → option_map Made (option_map (text o j a k b p) t) ≡ Some out → Has kind out v
      second p e None i l = absurd (cc)
      second p e (Some t) i l =
          subst (λ u. Has kind u v) (same_outcome (Made (text o j a k b p t)) out l)
          (at_kind o j k kind p (text o j a k b p t) v e q
          (operator_gives wide width x o j k y z p t (text_in j p.left a) (right_text o p.right k b) v c d f g w e i (text_in_gives j p.left a y f h) (right_gives o k j p b z e d g m) r))

      first : (t : Option Operands) → operands_of o j k ≡ t → option_map Made (option_and_then (λ p. joined_text o (is_signed p.left) (text_in j p.left a) (right_text o p.right k b)) t) ≡ Some out → Has kind out v
      first None e l = absurd (cc)
      first (Some p) e l = second p e (binary_of o (is_signed p.left)) refl l

  pub operated_has : (o : Op) (j k kind : Kind) (y z v : ℕ) (a b out : Outcome) → IsValid j → IsValid k → Fits j y → Fits k z → is_too_wide o j k ≡ false → kind_of o j k ≡ Some kind → Has j a y → Has k b z → applied o j y k z ≡ Some v
      → operated o j a k b ≡ Some out → Has kind out v
  operated_has o j k kind y z v (Known n) (Known m) out c d f g w q h i r s = answer_has o n m j k kind y z v out h.0 h.1 i.0 i.1 q r s
  operated_has o j k kind y z v (Known n) (Made e) out c d f g w q h i r s = between_has o j k kind y z v (Known n) (Made e) out c d f g w q h i r s
  operated_has o j k kind y z v (Made e) (Known m) out c d f g w q h i r s = between_has o j k kind y z v (Made e) (Known m) out c d f g w q h i r s
  operated_has o j k kind y z v (Made e) (Made u) out c d f g w q h i r s = between_has o j k kind y z v (Made e) (Made u) out c d f g w q h i r s

  -- ---- operators before one operand

  plus_only : (o : Op) → is_plus o ≡ true → o ≡ op.Plus
  plus_only op.Plus e = refl
  plus_only _ e = absurd (cc)

  before_has : (o : Op) (j kind : Kind) (y v : ℕ) (t : Term) (out : Outcome) → IsValid j → Fits j y → is_too_wide o j j ≡ false → kind_of o j j ≡ Some kind → Has j (Made t) y → applied o j y j y ≡ Some v
      → option_map Made (option_and_then (λ p. alone_text o (converted_term j p.left t)) (operands_of o j j)) ≡ Some out → Has kind out v
  before_has o j kind y v t out c f w q h r s = first (operands_of o j j) refl s
    where
      inner : (p : Operands) → Gives false (of (converted_term j p.left t)) (width_of p.left) (stored p.left (number_of j y))
      inner p = text_in_gives j p.left (Made t) y f h

      made : (p : Operands) (u : Term) → operands_of o j j ≡ Some p → Gives false (of u) (width_of p.answer) v → option_map Made (Some u) ≡ Some out → Has kind out v
      made p u e g l = subst (λ z. Has kind z v) (same_outcome (Made u) out l) (at_kind o j j kind p u v e q g)

      third : (p : Operands) → operands_of o j j ≡ Some p → (u : Option SvUnary) → unary_of o ≡ u → option_map Made (option_map (λ text. Unary text (converted_term j p.left t)) u) ≡ Some out → Has kind out v
      third p e None i l = absurd (cc)
      third p e (Some text) i l = made p (Unary text (converted_term j p.left t)) e (unary_operator_gives wide width x o j y p text (converted_term j p.left t) v c f w e i (inner p) r) l

      plus : (p : Operands) → operands_of o j j ≡ Some p → o ≡ op.Plus → Gives false (of (converted_term j p.left t)) (width_of p.answer) v
      plus p e d = plus_operator_gives wide width x j y p (converted_term j p.left t) v c f (ap (λ u. is_too_wide u j j) (sym d) ∙ w) (ap (λ u. operands_of u j j) (sym d) ∙ e) (inner p) (ap (λ u. applied u j y j y) (sym d) ∙ r)

      second : (p : Operands) → operands_of o j j ≡ Some p → (b : Bool) → is_plus o ≡ b → option_map Made (if b then Some (converted_term j p.left t) else option_map (λ text. Unary text (converted_term j p.left t)) (unary_of o)) ≡ Some out → Has kind out v
      second p e true d l = made p (converted_term j p.left t) e (plus p e (plus_only o d)) l
      second p e false d l = third p e (unary_of o) refl l

      first : (p : Option Operands) → operands_of o j j ≡ p → option_map Made (option_and_then (λ p. alone_text o (converted_term j p.left t)) p) ≡ Some out → Has kind out v
      first None e l = absurd (cc)
      first (Some p) e l = second p e (is_plus o) refl l

  pub alone_has : (o : Op) (j kind : Kind) (y v : ℕ) (a out : Outcome) → IsValid j → Fits j y → is_too_wide o j j ≡ false → kind_of o j j ≡ Some kind → Has j a y → applied o j y j y ≡ Some v → operated_alone o j a ≡ Some out → Has kind out v
  alone_has o j kind y v (Known n) out c f w q h r s = answer_has o n n j j kind y y v out h.0 h.1 h.0 h.1 q r s
  alone_has o j kind y v (Made t) out c f w q h r s = before_has o j kind y v t out c f w q h r s

  -- ---- choices

  -- the word of a choice: of the one branch or the other, converted
  abbrev pub chosen_word : Kind → Kind → Kind → ℕ → ℕ → ℕ → ℕ
  chosen_word j k kind c y z = cond (nat_eq c 0) (stored kind (number_of k z)) (stored kind (number_of j y))

  bool_test : (t : Kind) (c : ℕ) → Fits t c → nat_eq (stored sorts.Bool (number_of t c)) 0 ≡ nat_eq c 0
  bool_test t c f = by (nat_eq c 0) (truth (number_of t c)) (truth_reading (is_signed t) (width_of t) c f)
    where
      by : (b s : Bool) → not b ≡ s → nat_eq (if s then 1 else 0) 0 ≡ b
      by true true e = absurd (cc)
      by true false e = refl
      by false true e = refl
      by false false e = absurd (cc)

  choice_has : (t j k kind : Kind) (c y z : ℕ) (d a b : Outcome) → Fits t c → Fits j y → Fits k z → Has t d c → Has j a y → Has k b z → Has kind (Made (choice_text t d j a k b kind)) (chosen_word j k kind c y z)
  choice_has t j k kind c y z d a b f g i h m l =
      let test = text_in_gives t sorts.Bool d c f h in
      let yes = text_in_gives j kind a y g m in
      let no = text_in_gives k kind b z i l in
      let w = gives_cond false false (of (text_in t sorts.Bool d)) (of (text_in j kind a)) (of (text_in k kind b)) 1 (width_of kind) (stored sorts.Bool (number_of t c)) (stored kind (number_of j y)) (stored kind (number_of k z)) test yes no in
      (w.0, w.1, w.2 ∙ ap (λ q. cond q (stored kind (number_of k z)) (stored kind (number_of j y))) (bool_test t c f))

  known_choice : (j k kind : Kind) (c y z : ℕ) (n p q : Number) → n.word ≡ c → p.kind ≡ j → p.word ≡ y → q.kind ≡ k → q.word ≡ z → stored kind (exactly (if not (nat_eq n.word 0) then p else q)) ≡ chosen_word j k kind c y z
  known_choice j k kind c y z n p q a b d e f = by (nat_eq n.word 0) ∙ (λ i. cond (nat_eq (a i) 0) (stored kind (number_of (e i) (f i))) (stored kind (number_of (b i) (d i))))
    where
      by : (t : Bool) → stored kind (exactly (if not t then p else q)) ≡ cond t (stored kind (number_of q.kind q.word)) (stored kind (number_of p.kind p.word))
      by true = refl
      by false = refl

  pub chosen_has : (t j k kind : Kind) (c y z : ℕ) (d a b : Outcome) → Fits t c → Fits j y → Fits k z → Has t d c → Has j a y → Has k b z → Has kind (chosen t d j a k b kind) (chosen_word j k kind c y z)
  chosen_has t j k kind c y z (Known n) (Known p) (Known q) f g i h u l = (refl, known_choice j k kind c y z n p q h.1 u.0 u.1 l.0 l.1)
  chosen_has t j k kind c y z (Known n) (Known p) (Made w) f g i h u l = choice_has t j k kind c y z (Known n) (Known p) (Made w) f g i h u l
  chosen_has t j k kind c y z (Known n) (Made w) b f g i h u l = choice_has t j k kind c y z (Known n) (Made w) b f g i h u l
  chosen_has t j k kind c y z (Made w) a b f g i h u l = choice_has t j k kind c y z (Made w) a b f g i h u l
