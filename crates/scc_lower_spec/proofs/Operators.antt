-- An operator's text on operands of two kinds gives what the operator answers for their words.
use Rattle.std.specs.Prelude.{◌≡◌, ℕ, ◌^◌, ◌<◌, Bool, true, false, if◌then◌else◌, ℤ, Option, Some}
use Rattle.std.proofs.Common.{refl, sym, ◌∙◌, ap, subst, arith}
use Rattle.scc_bits_kinds.specs.declared.op.Op.{Op}
use Rattle.scc_bits_kinds.specs.declared.op.Op.TheVariants as op
use Rattle.scc_bits_kinds.specs.declared.kind.Kind.{Kind}
use Rattle.scc_bits_kinds.specs.Numbers.{low}
use Rattle.scc_bits_kinds.specs.Operators.{truth}
use Rattle.scc_bits_kinds.specs.Kinds.{IsValid, Fits, width_of, is_signed, is_bool, number_of, stored}
use Rattle.scc_bits_kinds.proofs.Low.{low_less, low_reading}
use Rattle.scc_bits.specs.declared.operands.Operands.{Operands}
use Rattle.scc_bits.specs.Values.{amount_kind, is_too_wide, applied}
use Rattle.scc_bits.specs.Placed.{operands_of}
use Rattle.scc_bits.proofs.Agreement.{bool_form}
use Rattle.scc_bits.proofs.Validity.{width_valid}
use Rattle.scc_bits.proofs.Lowered.{signs, keeps}
use Rattle.scc_svtree.specs.Term.{Term, Unary}
use Rattle.scc_svtree.specs.declared.expr.SvUnary.{SvUnary}
use Rattle.scc_svtree.specs.declared.expr.SvBinary.{SvBinary}
use Rattle.scc_svtree.specs.Sizes.{Sized, sized}
use Rattle.scc_lower_spec.specs.Gives.{Gives}
use Rattle.scc_lower_spec.specs.Conversion.{converted_term}
use Rattle.scc_lower_spec.specs.Operating.{binary_of, unary_of, is_shift, operated_term, between}
use Rattle.scc_lower_spec.proofs.Converted.{converted_gives}
use Rattle.scc_lower_spec.proofs.Shapes.{Shape, shape}
use Rattle.scc_lower_spec.proofs.Operates.{answer, operates, operates_alone, keeps_alone}

pub stored_fits : (k : Kind) (z : ℤ) → Fits k (stored k z)
stored_fits k z = by (is_bool k) refl
  where
    one : (t : Bool) → (if t then 1 else 0) < 2
    one true = omega arith
    one false = omega arith

    by : (t : Bool) → is_bool k ≡ t → (if t then (if truth z then 1 else 0) else low (width_of k) z) < 2 ^ width_of k
    by false e = low_less (width_of k) z
    by true e = subst (λ n. (if truth z then 1 else 0) < 2 ^ n) (sym (bool_form k e).0) (one (truth z))

same_word : (v w : ℕ) → ◌≡◌ {A = Option ℕ} (Some v) (Some w) → v ≡ w
same_word v w e = cc

-- a shift's amount stays
amount_width : (k : Kind) → IsValid k → width_of (amount_kind k) ≡ width_of k
amount_width k v = let w = width_valid k v in omega (arith, w.1)

amount_word : (k : Kind) (z : ℕ) → IsValid k → Fits k z → stored (amount_kind k) (number_of k z) ≡ z
amount_word k z v h = ap (λ n. low n (number_of k z)) (amount_width k v) ∙ low_reading (is_signed k) (width_of k) z h

shift_right : (o : Op) (k : Kind) (p : Operands) → is_shift o ≡ true → Shape o k p → p.right ≡ amount_kind k
shift_right op.Shl k p e h = h.1
shift_right op.Shr k p e h = h.1
shift_right _ k p e h = absurd (cc)

module _ (wide : Bool) (width x : ℕ → ℕ) where
  abbrev of : Term → Sized
  of t = sized wide width x t

  -- the amount of a shift stands as it is
  pub amount_gives : (o : Op) (k : Kind) (p : Operands) (u : Term) (z : ℕ) → is_shift o ≡ true → Shape o k p → IsValid k → Fits k z → Gives false (of u) (width_of k) z → Gives false (of u) (width_of p.right) (stored p.right (number_of k z))
  amount_gives o k p u z e h v f g =
      let amount : Gives false (of u) (width_of (amount_kind k)) (stored (amount_kind k) (number_of k z)) =
      (g.0 ∙ sym (amount_width k v), g.1, ap (λ n. (of u).word n false) (amount_width k v) ∙ g.2 ∙ sym (amount_word k z v f)) in
      subst (λ q. Gives false (of u) (width_of q) (stored q (number_of k z))) (sym (shift_right o k p e h)) amount

  right_gives : (o : Op) (k : Kind) (p : Operands) (u : Term) (z : ℕ) → Shape o k p → IsValid k → Fits k z → Gives false (of u) (width_of k) z
      → Gives false (of (if is_shift o then u else converted_term k p.right u)) (width_of p.right) (stored p.right (number_of k z))
  right_gives o k p u z h v f g = by (is_shift o) refl
    where
      by : (t : Bool) → is_shift o ≡ t → Gives false (of (if t then u else converted_term k p.right u)) (width_of p.right) (stored p.right (number_of k z))
      by false e = converted_gives wide width x k p.right u z f g
      by true e = amount_gives o k p u z e h v f g

  -- ---- on operands that are converted

  pub operator_gives : (o : Op) (j k : Kind) (y z : ℕ) (p : Operands) (text : SvBinary) (t u : Term) (v : ℕ) → IsValid j → IsValid k → Fits j y → Fits k z → is_too_wide o j k ≡ false → operands_of o j k ≡ Some p → binary_of o (is_signed p.left) ≡ Some text
      → Gives false (of t) (width_of p.left) (stored p.left (number_of j y)) → Gives false (of u) (width_of p.right) (stored p.right (number_of k z)) → applied o j y k z ≡ Some v → Gives false (of (operated_term o (is_signed p.left) text t u)) (width_of p.answer) v
  operator_gives o j k y z p text t u v c d f h n e b left right is =
      let a = stored p.left (number_of j y) in
      let r = stored p.right (number_of k z) in
      let w = operates wide width x o (is_signed p.left) k p text b refl (shape o j k p e) (signs o j k p e) t u a r (stored_fits p.left (number_of j y), stored_fits p.right (number_of k z), left, right) in
      let same : answer o p a r ≡ v = same_word (answer o p a r) v (sym (keeps o j y k z p c d f h n e) ∙ is) in
      (w.0, w.1, w.2 ∙ same)

  pub unary_operator_gives : (o : Op) (j : Kind) (y : ℕ) (p : Operands) (text : SvUnary) (t : Term) (v : ℕ) → IsValid j → Fits j y → is_too_wide o j j ≡ false → operands_of o j j ≡ Some p → unary_of o ≡ Some text
      → Gives false (of t) (width_of p.left) (stored p.left (number_of j y)) → applied o j y j y ≡ Some v → Gives false (of (Unary text t)) (width_of p.answer) v
  unary_operator_gives o j y p text t v c f n e b left is =
      let a = stored p.left (number_of j y) in
      let r = stored p.right (number_of j y) in
      let w = operates_alone wide width x o j p text b (shape o j j p e) t a r (stored_fits p.left (number_of j y)) left in
      let same : answer o p a r ≡ v = same_word (answer o p a r) v (sym (keeps o j y j y p c c f f n e) ∙ is) in
      (w.0, w.1, w.2 ∙ same)

  pub plus_operator_gives : (j : Kind) (y : ℕ) (p : Operands) (t : Term) (v : ℕ) → IsValid j → Fits j y → is_too_wide op.Plus j j ≡ false → operands_of op.Plus j j ≡ Some p
      → Gives false (of t) (width_of p.left) (stored p.left (number_of j y)) → applied op.Plus j y j y ≡ Some v → Gives false (of t) (width_of p.answer) v
  plus_operator_gives j y p t v c f n e left is =
      let a = stored p.left (number_of j y) in
      let r = stored p.right (number_of j y) in
      let w = keeps_alone wide width x p t a r (shape op.Plus j j p e) (stored_fits p.left (number_of j y)) left in
      let same : answer op.Plus p a r ≡ v = same_word (answer op.Plus p a r) v (sym (keeps op.Plus j y j y p c c f f n e) ∙ is) in
      (w.0, w.1, w.2 ∙ same)

  -- ---- on operands in their own kinds

  pub binary_gives : (o : Op) (j k : Kind) (y z : ℕ) (p : Operands) (text : SvBinary) (t u : Term) (v : ℕ) → IsValid j → IsValid k → Fits j y → Fits k z → is_too_wide o j k ≡ false → operands_of o j k ≡ Some p → binary_of o (is_signed p.left) ≡ Some text
      → Gives false (of t) (width_of j) y → Gives false (of u) (width_of k) z → applied o j y k z ≡ Some v → Gives false (of (between o j k p text t u)) (width_of p.answer) v
  binary_gives o j k y z p text t u v c d f h n e b g m is =
      operator_gives o j k y z p text (converted_term j p.left t) (if is_shift o then u else converted_term k p.right u) v c d f h n e b (converted_gives wide width x j p.left t y f g) (right_gives o k p u z (shape o j k p e) d h m) is

  pub unary_gives : (o : Op) (j : Kind) (y : ℕ) (p : Operands) (text : SvUnary) (t : Term) (v : ℕ) → IsValid j → Fits j y → is_too_wide o j j ≡ false → operands_of o j j ≡ Some p → unary_of o ≡ Some text
      → Gives false (of t) (width_of j) y → applied o j y j y ≡ Some v → Gives false (of (Unary text (converted_term j p.left t))) (width_of p.answer) v
  unary_gives o j y p text t v c f n e b g is = unary_operator_gives o j y p text (converted_term j p.left t) v c f n e b (converted_gives wide width x j p.left t y f g) is

  pub plus_gives : (j : Kind) (y : ℕ) (p : Operands) (t : Term) (v : ℕ) → IsValid j → Fits j y → is_too_wide op.Plus j j ≡ false → operands_of op.Plus j j ≡ Some p
      → Gives false (of t) (width_of j) y → applied op.Plus j y j y ≡ Some v → Gives false (of (converted_term j p.left t)) (width_of p.answer) v
  plus_gives j y p t v c f n e g is = plus_operator_gives j y p (converted_term j p.left t) v c f n e (converted_gives wide width x j p.left t y f g) is
