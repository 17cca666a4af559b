-- Facts of numbers with their kinds.
use Rattle.std.specs.Prelude.{◌≡◌, ℕ, ◌≤◌, ◌<◌, ◌+◌, ◌-◌, ◌^◌, Bool, true, false, not, ◌&&◌, ◌||◌, nat_le, if◌then◌else◌, Option, Some, None, option_map, option_and_then, unwrap_or}
use Rattle.std.proofs.Common.{refl, arith, pow_mono}
use Rattle.scc_bits_kinds.specs.declared.kind.Kind.{Kind}
use Rattle.scc_bits_kinds.specs.declared.op.Op.{Op}
use Rattle.scc_bits_kinds.specs.declared.kind.Kind.TheVariants as kind
use Rattle.scc_bits_kinds.specs.declared.rule.Rule.{Rule}
use Rattle.scc_bits_kinds.specs.declared.rule.Rule.TheVariants as rule
use Rattle.scc_bits_kinds.specs.Groups.{group_of, is_large, is_bits}
use Rattle.scc_bits_kinds.specs.Kinds.{IsValid, Fits, width_of}
use Rattle.scc_bits_kinds.specs.Bits.{is_part, joined_kind, concat_of}
use Rattle.scc_bits.specs.Values.{answer_of, kind_of, rule_at, passes, is_too_wide}
use Rattle.scc_bits.proofs.Validity.{width_valid, answer_valid, at_answer_if}

at_rule : (r : Option Rule) (j k a : Kind) → IsValid j → IsValid k → option_and_then (λ r. answer_of r j k) r ≡ Some a → IsValid a
at_rule None j k a u v e = absurd (cc)
at_rule (Some r) j k a u v e = answer_valid r j k a u v e

-- the kind of an operator's answer is valid
pub kind_valid : (o : Op) (j k a : Kind) → IsValid j → IsValid k → kind_of o j k ≡ Some a → IsValid a
kind_valid o j k a u v e = at_rule (rule_at o j k) j k a u v e

-- a word that stands above another one fits where both have room together
pub upper_fits : (k : Kind) (low x : ℕ) → Fits k x → width_of k + low ≤ 128 → x < 2 ^ (128 - low)
upper_fits k low x f h =
    let m : 2 ^ width_of k ≤ 2 ^ (128 - low) = pow_mono {i = width_of k} {j = 128 - low} (omega (arith, h)) in
    omega (arith, f, m)

-- a rule that demands at most 128 bits has an answer for all kinds
narrow_without_answer : (r : Rule) (j k : Kind) → answer_of r j k ≡ None → passes r j k ≡ false
narrow_without_answer rule.WideQuotient j k e = absurd (cc)
narrow_without_answer rule.WideTest j k e = absurd (cc)
narrow_without_answer rule.WideRight j k e = absurd (cc)
narrow_without_answer _ j k e = refl

-- so an operator without a row isn't too wide
pub narrow_without_row : (o : Op) (j k : Kind) → kind_of o j k ≡ None → is_too_wide o j k ≡ false
narrow_without_row o j k e = by (rule_at o j k) e
  where
    by : (t : Option Rule) → option_and_then (λ r. answer_of r j k) t ≡ None → unwrap_or (option_map (λ r. passes r j k) t) false ≡ false
    by None e = refl
    by (Some r) e = narrow_without_answer r j k e

-- the bits of two parts are a number of their kind
pub parts_fit : (j k a : Kind) (x : ℕ) → IsValid j → IsValid k → width_of j + width_of k ≤ 128 → concat_of j k ≡ Some a → x < 2 ^ (width_of j + width_of k) → IsValid a × Fits a x
parts_fit j k a x u v h e f = at_answer_if (λ b. IsValid b × Fits b x) (is_part j && is_part k) (joined_kind j k (width_of j + width_of k)) a (by (width_of j + width_of k) (omega (arith, width_valid j u)) h f (is_bits (group_of j) || is_bits (group_of k)) (nat_le (width_of j + width_of k) 64) (is_large (group_of j) || is_large (group_of k)) refl) e
  where
    by : (n : ℕ) → 1 ≤ n → n ≤ 128 → x < 2 ^ n → (s t r : Bool) → nat_le n 64 ≡ t → IsValid (if s then kind.Bv n else (if t && not r then kind.Uint n else kind.Big n)) × Fits (if s then kind.Bv n else (if t && not r then kind.Uint n else kind.Big n)) x
    by n o h f true t r i = ((o, h), f)
    by n o h f false true false i = ((o, grind arith), f)
    by n o h f false true true i = ((o, h), f)
    by n o h f false false r i = ((o, h), f)
