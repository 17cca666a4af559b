-- What operators, selections and conversions give fits its kind.
use Rattle.std.specs.Prelude.{◌≡◌, ℕ, zero, suc, ◌+◌, ◌-◌, ◌/◌, ◌^◌, ◌<◌, Bool, true, false, if◌then◌else◌, nat_lt, Option, Some, None, option_map, option_and_then, ℤ}
use Rattle.std.proofs.Common.{refl, sym, subst, arith}
use Rattle.std.proofs.lemmas.Nat.{pow_pos}
use Rattle.std.proofs.Math.Nat.{mod-lt}
use Rattle.scc_bits_kinds.specs.declared.op.Op.{Op}
use Rattle.scc_bits_kinds.specs.declared.rule.Rule.{Rule}
use Rattle.scc_bits_kinds.specs.declared.kind.Kind.{Kind}
use Rattle.scc_bits_kinds.specs.Kinds.{width_of, is_bool, number_of, stored, converted}
use Rattle.scc_bits_kinds.specs.Numbers.{low}
use Rattle.scc_bits_kinds.specs.Operators.{truth, exact}
use Rattle.scc_bits_kinds.specs.Bits.{part, replaced}
use Rattle.scc_bits_kinds.proofs.Low.{low_less}
use Rattle.scc_bits.proofs.Agreement.{bool_form}
use Rattle.scc_bits.proofs.Parts.{replaced_fits}
use Rattle.scc_bits.specs.Values.{rule_at, answer_of, left_of, right_of, computed, applied, kind_of as operator_kind}
use Rattle.scc_semantics.specs.Scene.{chosen, bit_at, with_bit}
use Rattle.scc_states_laws.proofs.Values.{some_same}
use Rattle.scc_core_resolved_laws.proofs.Bools.{nat_lt-is}

pub nought : (w : ℕ) → 0 < 2 ^ w
nought w = pow_pos w

pub stored-fits : (k : Kind) (z : ℤ) → stored k z < 2 ^ width_of k
stored-fits k z = by (is_bool k) refl
  where
    one : (t : Bool) → (if t then 1 else 0) < 2
    one true = omega arith
    one false = omega arith

    by : (t : Bool) → is_bool k ≡ t → (if t then (if truth z then 1 else 0) else low (width_of k) z) < 2 ^ width_of k
    by false e = low_less (width_of k) z
    by true e = subst (λ n. (if truth z then 1 else 0) < 2 ^ n) (sym (bool_form k e).0) (one (truth z))

pub applied-fits : (o : Op) (j k a : Kind) (x y z : ℕ) → operator_kind o j k ≡ Some a → applied o j x k y ≡ Some z → z < 2 ^ width_of a
applied-fits o j k a x y z e g = by (rule_at o j k) e g
  where
    answered : (r : Rule) (b : Option Kind) → b ≡ Some a → option_map (λ answer. computed o (left_of r j k) (right_of r j k) answer j x k y) b ≡ Some z → z < 2 ^ width_of a
    answered r None e g = absurd cc
    answered r (Some b) e g = subst (λ n. n < 2 ^ width_of a) (some_same g) (subst (λ c. computed o (left_of r j k) (right_of r j k) b j x k y < 2 ^ width_of c) (some_same e) (stored-fits b (exact o (width_of (left_of r j k)) (converted (left_of r j k) (number_of j x)) (converted (right_of r j k) (number_of k y)))))

    by : (r : Option Rule) → option_and_then (λ r. answer_of r j k) r ≡ Some a
        → option_and_then (λ r. option_map (λ answer. computed o (left_of r j k) (right_of r j k) answer j x k y) (answer_of r j k)) r ≡ Some z → z < 2 ^ width_of a
    by None e g = absurd cc
    by (Some r) e g = answered r (answer_of r j k) e g

pub chosen-fits : (n x y w : ℕ) → x < 2 ^ w → y < 2 ^ w → chosen n x y < 2 ^ w
chosen-fits zero x y w f g = g
chosen-fits (suc n) x y w f g = f

pub part-fits : (h l x w : ℕ) → w ≡ h - l + 1 → part h l x < 2 ^ w
part-fits h l x w e = subst (λ n. part h l x < 2 ^ n) (sym e) (mod-lt (x / 2 ^ l) (pow_pos (h - l + 1)))

pub bit-fits : (w x i : ℕ) → bit_at w x i < 2 ^ 1
bit-fits w x i = by (nat_lt i w)
  where
    by : (t : Bool) → (if t then part i i x else 0) < 2 ^ 1
    by true = let e : 1 ≡ i - i + 1 = omega arith in part-fits i i x 1 e
    by false = nought 1

pub with-bit-fits : (w x i y : ℕ) → x < 2 ^ w → y < 2 ^ 1 → with_bit w x i y < 2 ^ w
with-bit-fits w x i y f g = by (nat_lt i w) refl
  where
    by : (t : Bool) → nat_lt i w ≡ t → (if t then replaced i i x y else x) < 2 ^ w
    by true e =
        let d : 1 ≡ i - i + 1 = omega arith in
        replaced_fits w i i x y (omega arith) (nat_lt-is i w e) f (subst (λ n. y < 2 ^ n) d g)
    by false e = f
