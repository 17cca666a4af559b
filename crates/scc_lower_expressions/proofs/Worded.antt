-- What conversions, operators and choices of lowered operands give.
use Rattle.std.specs.Prelude.{◌≡◌, ℕ, nat_eq, not, cond, Bool, true, false, if◌then◌else◌, Option, Some, None, option_map, option_and_then}
use Rattle.std.proofs.Common.{refl, sym, ◌∙◌, ap, subst}
use Rattle.scc_bits_kinds.specs.declared.op.Op.{Op}
use Rattle.scc_bits_kinds.specs.declared.op.Op.TheVariants as op
use Rattle.scc_bits_kinds.specs.declared.kind.Kind.{Kind}
use Rattle.scc_bits_kinds.specs.declared.kind.Kind.TheVariants as sorts
use Rattle.scc_bits_kinds.specs.Operators.{truth}
use Rattle.scc_bits_kinds.specs.Kinds.{IsValid, Fits, width_of, is_signed, number_of, stored}
use Rattle.scc_bits_kinds.proofs.Words.{truth_reading}
use Rattle.scc_bits.specs.declared.operands.Operands.{Operands}
use Rattle.scc_bits.specs.Placed.{operands_of}
use Rattle.scc_bits.specs.Value.{Number, exactly}
use Rattle.scc_bits.specs.Values.{applied, is_too_wide, kind_of}
use Rattle.scc_bits.proofs.Lowered.{answer_is}
use Rattle.scc_svtree.specs.declared.expr.SvBinary.{SvBinary}
use Rattle.scc_svtree.specs.declared.expr.SvUnary.{SvUnary}
use Rattle.scc_svtree.specs.Sizes.{Sized, sized}
use Rattle.scc_svtree.specs.Term.{Term, Literal, Unary, term_of}
use Rattle.scc_lower_spec.specs.Gives.{Gives}
use Rattle.scc_lower_spec.specs.Operating.{binary_of, is_shift, operated_term, unary_of}
use Rattle.scc_lower_spec.proofs.Gives.{gives_fixed, gives_cond}
use Rattle.scc_lower_spec.proofs.Converted.{converted_gives}
use Rattle.scc_lower_spec.proofs.Shapes.{shape}
use Rattle.scc_lower_spec.proofs.Operators.{stored_fits, amount_gives, operator_gives, unary_operator_gives, plus_operator_gives}
use Rattle.scc_lower_expressions.specs.declared.convert.Lowered.{Lowered}
use Rattle.scc_lower_expressions.specs.declared.convert.Lowered.TheVariants.{Known, Made}
use Rattle.scc_lower_expressions.specs.declared.operator.Operand.{Operand}
use Rattle.scc_lower_expressions.specs.Lowered.{text_of, text_in, Converts, HasWord, IsText}
use Rattle.scc_lower_laws.specs.Outcome.{alone_text, is_plus, joined_text}
use Rattle.scc_lower_expressions.specs.Operated.{IsAnswer, Makes, right_text, between_text, before_text, Operated, OperatedAlone, choice_text, Chosen}

same_kind : (j k : Kind) → ◌≡◌ {A = Option Kind} (Some j) (Some k) → j ≡ k
same_kind j k e = cc

same_word : (v w : ℕ) → ◌≡◌ {A = Option ℕ} (Some v) (Some w) → v ≡ w
same_word v w e = cc

same_term : (t u : Term) → ◌≡◌ {A = Option Term} (Some t) (Some u) → t ≡ u
same_term t u e = cc

abbrev operand : Lowered → Kind → Operand
operand a k = record { of = a; kind = k }

module _ (wide : Bool) (width x : ℕ → ℕ) where
  abbrev of : Term → Sized
  of t = sized wide width x t

  abbrev Has : Kind → Lowered → ℕ → Type 0
  Has k a v = HasWord wide width x k a v

  -- the text by itself, and in another kind
  pub text_gives : (k : Kind) (a : Lowered) (y : ℕ) → Fits k y → Has k a y → Gives false (of (text_of a)) (width_of k) y
  text_gives k (Known n) y f h = subst (λ j. Gives false (of (Literal (width_of j) n.word)) (width_of k) y) (sym h.0) (subst (λ w. Gives false (of (Literal (width_of k) w)) (width_of k) y) (sym h.1) (gives_fixed false (width_of k) y f))
  text_gives k (Made e) y f h = h

  pub text_in_gives : (from to : Kind) (a : Lowered) (y : ℕ) → Fits from y → Has from a y → Gives false (of (text_in from to a)) (width_of to) (stored to (number_of from y))
  text_in_gives from to (Known n) y f h =
      subst (λ w. Gives false (of (Literal (width_of to) w)) (width_of to) (stored to (number_of from y))) (λ i. stored to (number_of (sym h.0 i) (sym h.1 i)))
      (gives_fixed false (width_of to) (stored to (number_of from y)) (stored_fits to (number_of from y)))
  text_in_gives from to (Made e) y f h = converted_gives wide width x from to (term_of e) y f h

  -- ---- conversions

  pub converts_has : (from to : Kind) (a out : Lowered) (y : ℕ) → Fits from y → Has from a y → Converts from to a out → Has to out (stored to (number_of from y))
  converts_has from to (Known n) (Known m) y f h c = (c.0, c.1 ∙ (λ i. stored to (number_of (h.0 i) (h.1 i))))
  converts_has from to (Known n) (Made e) y f h c = absurd c
  converts_has from to (Made e) (Known n) y f h c = absurd c
  converts_has from to (Made e) (Made g) y f h c = subst (λ t. Gives false (of t) (width_of to) (stored to (number_of from y))) (sym c) (converted_gives wide width x from to (term_of e) y f h)

  -- ---- operators between two operands

  answer_has : (o : Op) (n m : Number) (j k kind : Kind) (y z v : ℕ) (out : Lowered) → n.kind ≡ j → n.word ≡ y → m.kind ≡ k → m.word ≡ z → kind_of o j k ≡ Some kind → applied o j y k z ≡ Some v → IsAnswer o n m out → Has kind out v
  answer_has o n m j k kind y z v (Made e) a b c d q r h = absurd h
  answer_has o n m j k kind y z v (Known w) a b c d q r h = (
    same_kind w.kind kind (sym h.0 ∙ (λ i. kind_of o (a i) (c i)) ∙ q),
    same_word w.word v (sym h.1 ∙ (λ i. applied o (a i) (b i) (c i) (d i)) ∙ r),
  )

  right_gives : (o : Op) (k : Kind) (j : Kind) (p : Operands) (b : Lowered) (z : ℕ) → operands_of o j k ≡ Some p → IsValid k → Fits k z → Has k b z → Gives false (of (right_text o p.right (operand b k))) (width_of p.right) (stored p.right (number_of k z))
  right_gives o k j p b z e v f h = by (is_shift o) refl
    where
      by : (t : Bool) → is_shift o ≡ t → Gives false (of (if t then text_of b else text_in k p.right b)) (width_of p.right) (stored p.right (number_of k z))
      by true d = amount_gives wide width x o k p (text_of b) z d (shape o j k p e) v f (text_gives k b z f h)
      by false d = text_in_gives k p.right b z f h

  at_kind : (o : Op) (j k kind : Kind) (p : Operands) (t : Term) (v : ℕ) → operands_of o j k ≡ Some p → kind_of o j k ≡ Some kind → Gives false (of t) (width_of p.answer) v → Gives false (of t) (width_of kind) v
  at_kind o j k kind p t v e q g = subst (λ r. Gives false (of t) (width_of r) v) (same_kind p.answer kind (sym (answer_is o j k p e) ∙ q)) g

  between_has : (o : Op) (j k kind : Kind) (y z v : ℕ) (a b out : Lowered) → IsValid j → IsValid k → Fits j y → Fits k z → is_too_wide o j k ≡ false → kind_of o j k ≡ Some kind → Has j a y → Has k b z → applied o j y k z ≡ Some v → Makes (between_text o (operand a j) (operand b k)) out → Has kind out v
  between_has o j k kind y z v a b (Known n) c d f g w q h m r s = absurd s
  between_has o j k kind y z v a b (Made out) c d f g w q h m r s = first (operands_of o j k) refl s
    where
      second : (p : Operands) → operands_of o j k ≡ Some p → (t : Option SvBinary) → binary_of o (is_signed p.left) ≡ t
          → ◌≡◌ {A = Option Term} (option_map (λ text. operated_term o (is_signed p.left) text (text_in j p.left a) (right_text o p.right (operand b k))) t) (Some (term_of out))
          → Gives false (of (term_of out)) (width_of kind) v
      second p e None i l = absurd (cc)
      second p e (Some text) i l =
          at_kind o j k kind p (term_of out) v e q
          (subst (λ t. Gives false (of t) (width_of p.answer) v) (same_term _ (term_of out) l)
          (operator_gives wide width x o j k y z p text (text_in j p.left a) (right_text o p.right (operand b k)) v c d f g w e i (text_in_gives j p.left a y f h) (right_gives o k j p b z e d g m) r))

      first : (t : Option Operands) → operands_of o j k ≡ t
          → ◌≡◌ {A = Option Term} (option_and_then (λ (p : Operands). joined_text o (is_signed p.left) (text_in j p.left a) (right_text o p.right (operand b k))) t) (Some (term_of out))
          → Gives false (of (term_of out)) (width_of kind) v
      first None e l = absurd (cc)
      first (Some p) e l = second p e (binary_of o (is_signed p.left)) refl l

  pub operated_has : (o : Op) (j k kind : Kind) (y z v : ℕ) (a b out : Lowered) → IsValid j → IsValid k → Fits j y → Fits k z → is_too_wide o j k ≡ false → kind_of o j k ≡ Some kind → Has j a y → Has k b z → applied o j y k z ≡ Some v → Operated o (operand a j) (operand b k) out → Has kind out v
  operated_has o j k kind y z v (Known n) (Known m) out c d f g w q h i r s = answer_has o n m j k kind y z v out h.0 h.1 i.0 i.1 q r s
  operated_has o j k kind y z v (Known n) (Made e) out c d f g w q h i r s = between_has o j k kind y z v (Known n) (Made e) out c d f g w q h i r s
  operated_has o j k kind y z v (Made e) (Known m) out c d f g w q h i r s = between_has o j k kind y z v (Made e) (Known m) out c d f g w q h i r s
  operated_has o j k kind y z v (Made e) (Made u) out c d f g w q h i r s = between_has o j k kind y z v (Made e) (Made u) out c d f g w q h i r s

  -- ---- operators before one operand

  plus_only : (o : Op) → is_plus o ≡ true → o ≡ op.Plus
  plus_only op.Plus e = refl
  plus_only _ e = absurd (cc)

  before_has : (o : Op) (j kind : Kind) (y v : ℕ) (a out : Lowered) → IsValid j → Fits j y → is_too_wide o j j ≡ false → kind_of o j j ≡ Some kind → Has j a y → applied o j y j y ≡ Some v → Makes (before_text o (operand a j)) out → Has kind out v
  before_has o j kind y v a (Known n) c f w q h r s = absurd s
  before_has o j kind y v a (Made out) c f w q h r s = first (operands_of o j j) refl s
    where
      third : (p : Operands) → operands_of o j j ≡ Some p → (t : Option SvUnary) → unary_of o ≡ t
          → ◌≡◌ {A = Option Term} (option_map (λ text. Unary text (text_in j p.left a)) t) (Some (term_of out)) → Gives false (of (term_of out)) (width_of p.answer) v
      third p e None i l = absurd (cc)
      third p e (Some text) i l =
          subst (λ t. Gives false (of t) (width_of p.answer) v) (same_term _ (term_of out) l) (unary_operator_gives wide width x o j y p text (text_in j p.left a) v c f w e i (text_in_gives j p.left a y f h) r)

      plus : (p : Operands) → operands_of o j j ≡ Some p → o ≡ op.Plus → Gives false (of (text_in j p.left a)) (width_of p.answer) v
      plus p e d =
          plus_operator_gives wide width x j y p (text_in j p.left a) v c f (ap (λ u. is_too_wide u j j) (sym d) ∙ w) (ap (λ u. operands_of u j j) (sym d) ∙ e) (text_in_gives j p.left a y f h) (ap (λ u. applied u j y j y) (sym d) ∙ r)

      second : (p : Operands) → operands_of o j j ≡ Some p → (t : Bool) → is_plus o ≡ t
          → ◌≡◌ {A = Option Term} (if t then Some (text_in j p.left a) else option_map (λ text. Unary text (text_in j p.left a)) (unary_of o)) (Some (term_of out)) → Gives false (of (term_of out)) (width_of p.answer) v
      second p e true d l = subst (λ t. Gives false (of t) (width_of p.answer) v) (same_term _ (term_of out) l) (plus p e (plus_only o d))
      second p e false d l = third p e (unary_of o) refl l

      first : (t : Option Operands) → operands_of o j j ≡ t → ◌≡◌ {A = Option Term} (option_and_then (λ (p : Operands). alone_text o (text_in j p.left a)) t) (Some (term_of out)) → Gives false (of (term_of out)) (width_of kind) v
      first None e l = absurd (cc)
      first (Some p) e l = at_kind o j j kind p (term_of out) v e q (second p e (is_plus o) refl l)

  pub alone_has : (o : Op) (j kind : Kind) (y v : ℕ) (a out : Lowered) → IsValid j → Fits j y → is_too_wide o j j ≡ false → kind_of o j j ≡ Some kind → Has j a y → applied o j y j y ≡ Some v → OperatedAlone o (operand a j) out → Has kind out v
  alone_has o j kind y v (Known n) out c f w q h r s = answer_has o n n j j kind y y v out h.0 h.1 h.0 h.1 q r s
  alone_has o j kind y v (Made e) out c f w q h r s = before_has o j kind y v (Made e) out c f w q h r s

  -- ---- choices

  -- the word of a choice: of the one branch or the other, converted
  abbrev chosen_word : Kind → Kind → Kind → ℕ → ℕ → ℕ → ℕ
  chosen_word j k kind c y z = cond (nat_eq c 0) (stored kind (number_of k z)) (stored kind (number_of j y))

  bool_test : (t : Kind) (c : ℕ) → Fits t c → nat_eq (stored sorts.Bool (number_of t c)) 0 ≡ nat_eq c 0
  bool_test t c f = by (nat_eq c 0) (truth (number_of t c)) (truth_reading (is_signed t) (width_of t) c f)
    where
      by : (b s : Bool) → not b ≡ s → nat_eq (if s then 1 else 0) 0 ≡ b
      by true true e = absurd (cc)
      by true false e = refl
      by false true e = refl
      by false false e = absurd (cc)

  choice_has : (t j k kind : Kind) (c y z : ℕ) (d a b out : Lowered) → Fits t c → Fits j y → Fits k z → Has t d c → Has j a y → Has k b z → IsText (choice_text (operand d t) (operand a j) (operand b k) kind) out → Has kind out (chosen_word j k kind c y z)
  choice_has t j k kind c y z d a b (Known n) f g i h m l s = absurd s
  choice_has t j k kind c y z d a b (Made e) f g i h m l s =
      let test = text_in_gives t sorts.Bool d c f h in
      let yes = text_in_gives j kind a y g m in
      let no = text_in_gives k kind b z i l in
      let w = gives_cond false false (of (text_in t sorts.Bool d)) (of (text_in j kind a)) (of (text_in k kind b)) 1 (width_of kind) (stored sorts.Bool (number_of t c)) (stored kind (number_of j y)) (stored kind (number_of k z)) test yes no in
      subst (λ u. Gives false (of u) (width_of kind) (chosen_word j k kind c y z)) (sym s)
      (w.0, w.1, w.2 ∙ ap (λ q. cond q (stored kind (number_of k z)) (stored kind (number_of j y))) (bool_test t c f))

  known_choice : (j k kind : Kind) (c y z : ℕ) (n p q m : Number) → n.word ≡ c → p.kind ≡ j → p.word ≡ y → q.kind ≡ k → q.word ≡ z → (m.kind ≡ kind) × (m.word ≡ stored kind (exactly (if not (nat_eq n.word 0) then p else q))) → (m.kind ≡ kind) × (m.word ≡ chosen_word j k kind c y z)
  known_choice j k kind c y z n p q m a b d e f h = (h.0, h.1 ∙ by (nat_eq n.word 0) ∙ (λ i. cond (nat_eq (a i) 0) (stored kind (number_of (e i) (f i))) (stored kind (number_of (b i) (d i)))))
    where
      by : (t : Bool) → stored kind (exactly (if not t then p else q)) ≡ cond t (stored kind (number_of q.kind q.word)) (stored kind (number_of p.kind p.word))
      by true = refl
      by false = refl

  pub chosen_has : (t j k kind : Kind) (c y z : ℕ) (d a b out : Lowered) → Fits t c → Fits j y → Fits k z → Has t d c → Has j a y → Has k b z → Chosen (operand d t) (operand a j) (operand b k) kind out → Has kind out (chosen_word j k kind c y z)
  chosen_has t j k kind c y z (Known n) (Known p) (Known q) (Known m) f g i h u l s = known_choice j k kind c y z n p q m h.1 u.0 u.1 l.0 l.1 s
  chosen_has t j k kind c y z (Known n) (Known p) (Known q) (Made e) f g i h u l s = absurd s
  chosen_has t j k kind c y z (Known n) (Known p) (Made w) out f g i h u l s = choice_has t j k kind c y z (Known n) (Known p) (Made w) out f g i h u l s
  chosen_has t j k kind c y z (Known n) (Made w) b out f g i h u l s = choice_has t j k kind c y z (Known n) (Made w) b out f g i h u l s
  chosen_has t j k kind c y z (Made w) a b out f g i h u l s = choice_has t j k kind c y z (Made w) a b out f g i h u l s
