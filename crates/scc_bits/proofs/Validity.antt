-- Facts of kinds.
use Rattle.std.specs.Prelude.{◌≡◌, ℕ, ◌≤◌, min, Bool, true, false, not, ◌&&◌, ◌||◌, nat_eq, nat_lt, if◌then◌else◌, Option, Some, None}
use Rattle.std.proofs.Common.{refl, subst, arith, inl, inr}
use Rattle.scc_bits_kinds.specs.declared.kind.Kind.{Kind}
use Rattle.scc_bits_kinds.specs.declared.kind.Kind.TheVariants as kind
use Rattle.scc_bits_kinds.specs.declared.rule.Rule.{Rule}
use Rattle.scc_bits_kinds.specs.declared.rule.Rule.TheVariants as rule
use Rattle.scc_bits_kinds.specs.Kinds.{IsValid, width_of, is_signed}
use Rattle.scc_bits_kinds.specs.Counts.{promoted, is_long, meeting, count_of, some_signed, wide}
use Rattle.scc_bits.specs.Values.{answer_of, amount_kind}
use Rattle.scc_bits.specs.Placed.{placed_left, placed_right}

pub width_valid : (k : Kind) → IsValid k → (1 ≤ width_of k) × (width_of k ≤ 128)
width_valid kind.Bool v = (omega arith, omega arith)
width_valid (kind.Native w s) v = grind arith
width_valid (kind.Int w) v = (v.0, omega (arith, v.1))
width_valid (kind.Uint w) v = (v.0, omega (arith, v.1))
width_valid (kind.Big w) v = v
width_valid (kind.BigInt w) v = v
width_valid (kind.Bv w) v = v
width_valid (kind.Wide b s) v = (omega (arith, v.0), omega arith)

pub count_some : (k : Kind) → IsValid k → 1 ≤ count_of k
count_some kind.Bool v = omega arith
count_some (kind.Native w s) v = grind arith
count_some (kind.Int w) v = v.0
count_some (kind.Uint w) v = v.0
count_some (kind.Big w) v = v.0
count_some (kind.BigInt w) v = v.0
count_some (kind.Bv w) v = v.0
count_some (kind.Wide b s) v = v.0

-- a kind's words have as many bits as it counts, or 128
pub width_count : (k : Kind) → IsValid k → width_of k ≡ min (count_of k) 128
width_count kind.Bool v = refl
width_count (kind.Native w s) v = grind arith
width_count (kind.Int w) v = omega (arith, v.1)
width_count (kind.Uint w) v = omega (arith, v.1)
width_count (kind.Big w) v = omega (arith, v.1)
width_count (kind.BigInt w) v = omega (arith, v.1)
width_count (kind.Bv w) v = omega (arith, v.1)
width_count (kind.Wide b s) v = refl

pub wide_valid : (b : ℕ) (s : Bool) → 1 ≤ b → IsValid (wide b s)
wide_valid b s h = (omega arith, omega arith)

pub promoted_valid : (k : Kind) → IsValid k → IsValid (promoted k)
promoted_valid kind.Bool v = inr (inr (inl refl))
promoted_valid (kind.Native w s) v = by (nat_lt w 32)
  where
    by : (t : Bool) → IsValid (if t then kind.Native 32 true else kind.Native w s)
    by true = inr (inr (inl refl))
    by false = v
promoted_valid (kind.Int w) v = inr (inr (inr refl))
promoted_valid (kind.Uint w) v = inr (inr (inr refl))
promoted_valid (kind.Big w) v = v
promoted_valid (kind.BigInt w) v = v
promoted_valid (kind.Bv w) v = v
promoted_valid (kind.Wide b s) v = v

pub meeting_valid : (j k : Kind) → IsValid (meeting j k)
meeting_valid j k = by (is_long j || is_long k)
  where
    by : (t : Bool) → IsValid (if t then kind.Native 64 (not ((is_long j && not (is_signed j)) || (is_long k && not (is_signed k)))) else kind.Native 32 (is_signed j && is_signed k))
    by true = inr (inr (inr refl))
    by false = inr (inr (inl refl))

pub amount_valid : (k : Kind) → IsValid k → IsValid (amount_kind k)
amount_valid k v = let w = width_valid k v in (w.0, omega arith)

bits_valid : (k : Kind) → IsValid k → IsValid (kind.Bv (width_of k))
bits_valid k v = width_valid k v

pub left_valid : (r : Rule) (j k : Kind) → IsValid j → IsValid k → IsValid (placed_left r j k)
left_valid rule.Common j k u v = meeting_valid (promoted j) (promoted k)
left_valid rule.CommonTest j k u v = meeting_valid (promoted j) (promoted k)
left_valid rule.Promoted j k u v = promoted_valid j u
left_valid rule.PromotedShift j k u v = promoted_valid j u
left_valid rule.Logical j k u v = tt
left_valid rule.Reduction j k u v = u
left_valid rule.WideSum j k u v = wide_valid _ (some_signed j k) (omega arith)
left_valid rule.WideDifference j k u v = wide_valid _ true (omega arith)
left_valid rule.WideProduct j k u v = wide_valid _ (some_signed j k) (omega (arith, count_some j u))
left_valid rule.WideQuotient j k u v = wide_valid _ (some_signed j k) (omega (arith, count_some j u))
left_valid rule.WideBits j k u v = wide_valid _ (some_signed j k) (omega (arith, count_some j u))
left_valid rule.WideTest j k u v = wide_valid _ (some_signed j k) (omega (arith, count_some j u))
left_valid rule.WideLeft j k u v = wide_valid 255 (is_signed j) (omega arith)
left_valid rule.WideRight j k u v = wide_valid (count_of j) (is_signed j) (count_some j u)
left_valid rule.WideSame j k u v = wide_valid (count_of j) (is_signed j) (count_some j u)
left_valid rule.WideNegation j k u v = wide_valid _ true (omega arith)
left_valid rule.WideComplement j k u v = wide_valid _ true (omega (arith, count_some j u))
left_valid rule.BitsBoth j k u v = u
left_valid rule.BitsTest j k u v = u
left_valid rule.BitsShift j k u v = u
left_valid rule.BitsComplement j k u v = u

pub right_valid : (r : Rule) (j k : Kind) → IsValid j → IsValid k → IsValid (placed_right r j k)
right_valid rule.Common j k u v = meeting_valid (promoted j) (promoted k)
right_valid rule.CommonTest j k u v = meeting_valid (promoted j) (promoted k)
right_valid rule.Promoted j k u v = v
right_valid rule.PromotedShift j k u v = amount_valid k v
right_valid rule.Logical j k u v = tt
right_valid rule.Reduction j k u v = v
right_valid rule.WideSum j k u v = left_valid rule.WideSum j k u v
right_valid rule.WideDifference j k u v = left_valid rule.WideDifference j k u v
right_valid rule.WideProduct j k u v = left_valid rule.WideProduct j k u v
right_valid rule.WideQuotient j k u v = left_valid rule.WideQuotient j k u v
right_valid rule.WideBits j k u v = left_valid rule.WideBits j k u v
right_valid rule.WideTest j k u v = left_valid rule.WideTest j k u v
right_valid rule.WideLeft j k u v = amount_valid k v
right_valid rule.WideRight j k u v = amount_valid k v
right_valid rule.WideSame j k u v = v
right_valid rule.WideNegation j k u v = v
right_valid rule.WideComplement j k u v = v
right_valid rule.BitsBoth j k u v = v
right_valid rule.BitsTest j k u v = v
right_valid rule.BitsShift j k u v = amount_valid k v
right_valid rule.BitsComplement j k u v = v

-- from a fact of the kind that is answered
pub at_answer : (P : Kind → Type 0) (m k : Kind) → P m → ◌≡◌ {A = Option Kind} (Some m) (Some k) → P k
at_answer P m k p e = subst P (cc) p

pub at_answer_if : (P : Kind → Type 0) (t : Bool) (m k : Kind) → P m → ◌≡◌ {A = Option Kind} (if t then Some m else None) (Some k) → P k
at_answer_if P true m k p e = subst P (cc) p
at_answer_if P false m k p e = absurd (cc)

pub answer_valid : (r : Rule) (j k a : Kind) → IsValid j → IsValid k → answer_of r j k ≡ Some a → IsValid a
answer_valid rule.Common j k a u v = at_answer IsValid _ a (meeting_valid (promoted j) (promoted k))
answer_valid rule.CommonTest j k a u v = at_answer IsValid kind.Bool a tt
answer_valid rule.Promoted j k a u v = at_answer IsValid _ a (promoted_valid j u)
answer_valid rule.PromotedShift j k a u v = at_answer IsValid _ a (promoted_valid j u)
answer_valid rule.Logical j k a u v = at_answer IsValid kind.Bool a tt
answer_valid rule.Reduction j k a u v = at_answer IsValid kind.Bool a tt
answer_valid rule.WideSum j k a u v = at_answer IsValid _ a (left_valid rule.WideSum j k u v)
answer_valid rule.WideDifference j k a u v = at_answer IsValid _ a (left_valid rule.WideDifference j k u v)
answer_valid rule.WideProduct j k a u v = at_answer IsValid _ a (left_valid rule.WideProduct j k u v)
answer_valid rule.WideQuotient j k a u v = at_answer IsValid _ a (left_valid rule.WideQuotient j k u v)
answer_valid rule.WideBits j k a u v = at_answer IsValid _ a (left_valid rule.WideBits j k u v)
answer_valid rule.WideTest j k a u v = at_answer IsValid kind.Bool a tt
answer_valid rule.WideLeft j k a u v = at_answer IsValid _ a (left_valid rule.WideLeft j k u v)
answer_valid rule.WideRight j k a u v = at_answer IsValid _ a (left_valid rule.WideRight j k u v)
answer_valid rule.WideSame j k a u v = at_answer IsValid _ a (left_valid rule.WideSame j k u v)
answer_valid rule.WideNegation j k a u v = at_answer IsValid _ a (left_valid rule.WideNegation j k u v)
answer_valid rule.WideComplement j k a u v = at_answer IsValid _ a (left_valid rule.WideComplement j k u v)
answer_valid rule.BitsBoth j k a u v = at_answer_if IsValid (nat_eq (width_of j) (width_of k)) _ a (bits_valid j u)
answer_valid rule.BitsTest j k a u v = at_answer_if IsValid (nat_eq (width_of j) (width_of k)) kind.Bool a tt
answer_valid rule.BitsShift j k a u v = at_answer IsValid _ a (bits_valid j u)
answer_valid rule.BitsComplement j k a u v = at_answer IsValid _ a (bits_valid j u)
