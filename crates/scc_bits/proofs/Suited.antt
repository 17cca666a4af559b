-- What holds of each operator's rules.
use Rattle.std.specs.Prelude.{◌≡◌, ℕ, ◌<◌, ◌≤◌, Bool, true, false, not, ◌&&◌, ◌||◌, nat_lt, if◌then◌else◌, ◌⊎◌, Option, Some, None}
use Rattle.std.proofs.Common.{refl, sym, ◌∙◌, subst, arith, inl, inr}
use Rattle.scc_bits_kinds.specs.declared.kind.Kind.{Kind}
use Rattle.scc_bits_kinds.specs.declared.kind.Kind.TheVariants as kind
use Rattle.scc_bits_kinds.specs.declared.op.Op.{Op}
use Rattle.scc_bits_kinds.specs.declared.op.Op.TheVariants as op
use Rattle.scc_bits_kinds.specs.declared.rule.Rule.{Rule}
use Rattle.scc_bits_kinds.specs.declared.rule.Rule.TheVariants as rule
use Rattle.scc_bits_kinds.specs.Groups.{group_of, is_small, is_bits}
use Rattle.scc_bits_kinds.specs.Kinds.{IsValid, Fits, width_of, is_signed, number_of, stored}
use Rattle.scc_bits_kinds.specs.Counts.{promoted, is_long, meeting, common_of, some_signed, quotient_bits, wide}
use Rattle.scc_bits_kinds.specs.Operators.{Signs, Divisor}
use Rattle.scc_bits.specs.Values.{rule_at}
use Rattle.scc_bits.specs.Placed.{placed_left, placed_right}
use Rattle.scc_bits_kinds.proofs.Operated.{not_lost}
use Rattle.scc_bits_kinds.proofs.Alike.{low_only_add, low_only_sub, low_only_mul, low_only_and, low_only_or, low_only_xor, low_only_plus, low_only_neg, low_only_not}
use Rattle.scc_bits_kinds.proofs.Rules.{OnRule, by_groups_all, by_left_all, alone_all, bits_all}
use Rattle.scc_bits.proofs.Validity.{width_count}
use Rattle.scc_bits.proofs.Agreement.{Given, Agrees, IsTest, stored_bit, stored_low, meeting_number, common_agrees, promoted_agrees, shift_agrees, test_agrees, logical_agrees, reduction_agrees, bits_both_agrees, bits_test_agrees, bits_shift_agrees, bits_complement_agrees, sum_agrees, difference_agrees, product_agrees, wide_bits_agrees, same_agrees, negation_agrees, complement_agrees, quotient_agrees, wide_test_agrees, wide_left_agrees, wide_right_agrees}

-- ---- the kinds in which answers are computed agree with the table

abbrev Sound : Op → Kind → ℕ → Kind → ℕ → Rule → Type 0
Sound o j x k y r = Given r j x k y → Agrees o r j x k y

test_Eq : IsTest op.Eq
test_Eq w x y = stored_bit _

test_Ne : IsTest op.Ne
test_Ne w x y = stored_bit _

test_Lt : IsTest op.Lt
test_Lt w x y = stored_bit _

test_Le : IsTest op.Le
test_Le w x y = stored_bit _

test_Gt : IsTest op.Gt
test_Gt w x y = stored_bit _

test_Ge : IsTest op.Ge
test_Ge w x y = stored_bit _

test_LogAnd : IsTest op.LogAnd
test_LogAnd w x y = stored_bit _

test_LogOr : IsTest op.LogOr
test_LogOr w x y = stored_bit _

test_LogNot : IsTest op.LogNot
test_LogNot w x y = stored_bit _

test_AndReduce : IsTest op.AndReduce
test_AndReduce w x y = stored_bit _

test_OrReduce : IsTest op.OrReduce
test_OrReduce w x y = stored_bit _

test_XorReduce : IsTest op.XorReduce
test_XorReduce w x y = stored_bit _

each_sound : (o : Op) (j : Kind) (x : ℕ) (k : Kind) (y : ℕ) → OnRule (Sound o j x k y) (rule_at o j k)
each_sound op.Add j x k y = by_groups_all (Sound op.Add j x k y) (Some rule.Common) (Some rule.WideSum) None (group_of j) (group_of k) (λ s t. λ g. common_agrees op.Add j x k y) (λ g. sum_agrees j x k y low_only_add g.left_fits g.right_fits) (λ s t. tt)
each_sound op.Sub j x k y = by_groups_all (Sound op.Sub j x k y) (Some rule.Common) (Some rule.WideDifference) None (group_of j) (group_of k) (λ s t. λ g. common_agrees op.Sub j x k y) (λ g. difference_agrees j x k y low_only_sub g.left_fits g.right_fits) (λ s t. tt)
each_sound op.Mul j x k y = by_groups_all (Sound op.Mul j x k y) (Some rule.Common) (Some rule.WideProduct) None (group_of j) (group_of k) (λ s t. λ g. common_agrees op.Mul j x k y) (λ g. product_agrees j x k y low_only_mul g.left_fits g.right_fits) (λ s t. tt)
each_sound op.Div j x k y = by_groups_all (Sound op.Div j x k y) (Some rule.Common) (Some rule.WideQuotient) None (group_of j) (group_of k) (λ s t. λ g. common_agrees op.Div j x k y) (quotient_agrees op.Div (λ v w a b. refl) j x k y) (λ s t. tt)
each_sound op.Rem j x k y = by_groups_all (Sound op.Rem j x k y) (Some rule.Common) (Some rule.WideQuotient) None (group_of j) (group_of k) (λ s t. λ g. common_agrees op.Rem j x k y) (quotient_agrees op.Rem (λ v w a b. refl) j x k y) (λ s t. tt)
each_sound op.And j x k y = by_groups_all (Sound op.And j x k y) (Some rule.Common) (Some rule.WideBits) (Some rule.BitsBoth) (group_of j) (group_of k) (λ s t. λ g. common_agrees op.And j x k y) (λ g. wide_bits_agrees op.And low_only_and j x k y g.left_fits g.right_fits) (λ s t. λ g. bits_both_agrees op.And j x k y)
each_sound op.Or j x k y = by_groups_all (Sound op.Or j x k y) (Some rule.Common) (Some rule.WideBits) (Some rule.BitsBoth) (group_of j) (group_of k) (λ s t. λ g. common_agrees op.Or j x k y) (λ g. wide_bits_agrees op.Or low_only_or j x k y g.left_fits g.right_fits) (λ s t. λ g. bits_both_agrees op.Or j x k y)
each_sound op.Xor j x k y = by_groups_all (Sound op.Xor j x k y) (Some rule.Common) (Some rule.WideBits) (Some rule.BitsBoth) (group_of j) (group_of k) (λ s t. λ g. common_agrees op.Xor j x k y) (λ g. wide_bits_agrees op.Xor low_only_xor j x k y g.left_fits g.right_fits) (λ s t. λ g. bits_both_agrees op.Xor j x k y)
each_sound op.Eq j x k y = by_groups_all (Sound op.Eq j x k y) (Some rule.CommonTest) (Some rule.WideTest) (Some rule.BitsTest) (group_of j) (group_of k) (λ s t. λ g. test_agrees op.Eq test_Eq j x k y) (wide_test_agrees op.Eq (λ v w a b. refl) test_Eq j x k y) (λ s t. λ g. bits_test_agrees op.Eq test_Eq j x k y)
each_sound op.Ne j x k y = by_groups_all (Sound op.Ne j x k y) (Some rule.CommonTest) (Some rule.WideTest) (Some rule.BitsTest) (group_of j) (group_of k) (λ s t. λ g. test_agrees op.Ne test_Ne j x k y) (wide_test_agrees op.Ne (λ v w a b. refl) test_Ne j x k y) (λ s t. λ g. bits_test_agrees op.Ne test_Ne j x k y)
each_sound op.Lt j x k y = by_groups_all (Sound op.Lt j x k y) (Some rule.CommonTest) (Some rule.WideTest) None (group_of j) (group_of k) (λ s t. λ g. test_agrees op.Lt test_Lt j x k y) (wide_test_agrees op.Lt (λ v w a b. refl) test_Lt j x k y) (λ s t. tt)
each_sound op.Le j x k y = by_groups_all (Sound op.Le j x k y) (Some rule.CommonTest) (Some rule.WideTest) None (group_of j) (group_of k) (λ s t. λ g. test_agrees op.Le test_Le j x k y) (wide_test_agrees op.Le (λ v w a b. refl) test_Le j x k y) (λ s t. tt)
each_sound op.Gt j x k y = by_groups_all (Sound op.Gt j x k y) (Some rule.CommonTest) (Some rule.WideTest) None (group_of j) (group_of k) (λ s t. λ g. test_agrees op.Gt test_Gt j x k y) (wide_test_agrees op.Gt (λ v w a b. refl) test_Gt j x k y) (λ s t. tt)
each_sound op.Ge j x k y = by_groups_all (Sound op.Ge j x k y) (Some rule.CommonTest) (Some rule.WideTest) None (group_of j) (group_of k) (λ s t. λ g. test_agrees op.Ge test_Ge j x k y) (wide_test_agrees op.Ge (λ v w a b. refl) test_Ge j x k y) (λ s t. tt)
each_sound op.Shl j x k y = by_left_all (Sound op.Shl j x k y) rule.PromotedShift rule.WideLeft rule.BitsShift (group_of j) (group_of k) (λ g. shift_agrees op.Shl j x k y) (wide_left_agrees j x k y) (λ g. bits_shift_agrees op.Shl j x k y)
each_sound op.Shr j x k y = by_left_all (Sound op.Shr j x k y) rule.PromotedShift rule.WideRight rule.BitsShift (group_of j) (group_of k) (λ g. shift_agrees op.Shr j x k y) (wide_right_agrees j x k y) (λ g. bits_shift_agrees op.Shr j x k y)
each_sound op.LogAnd j x k y = by_groups_all (Sound op.LogAnd j x k y) (Some rule.Logical) None None (group_of j) (group_of k) (λ s t. λ g. logical_agrees op.LogAnd test_LogAnd j x k y) (tt) (λ s t. tt)
each_sound op.LogOr j x k y = by_groups_all (Sound op.LogOr j x k y) (Some rule.Logical) None None (group_of j) (group_of k) (λ s t. λ g. logical_agrees op.LogOr test_LogOr j x k y) (tt) (λ s t. tt)
each_sound op.Plus j x k y = alone_all (Sound op.Plus j x k y) (Some rule.Promoted) (Some rule.WideSame) None (group_of j) (group_of k) (λ g. promoted_agrees op.Plus j x k y) (λ g. same_agrees j x k y low_only_plus g.left_fits g.right_fits) (tt)
each_sound op.Neg j x k y = alone_all (Sound op.Neg j x k y) (Some rule.Promoted) (Some rule.WideNegation) None (group_of j) (group_of k) (λ g. promoted_agrees op.Neg j x k y) (λ g. negation_agrees j x k y low_only_neg g.left_fits g.right_fits) (tt)
each_sound op.Not j x k y = alone_all (Sound op.Not j x k y) (Some rule.Promoted) (Some rule.WideComplement) (Some rule.BitsComplement) (group_of j) (group_of k) (λ g. promoted_agrees op.Not j x k y) (λ g. complement_agrees j x k y low_only_not g.left_fits g.right_fits) (λ g. bits_complement_agrees op.Not j x k y)
each_sound op.LogNot j x k y = alone_all (Sound op.LogNot j x k y) (Some rule.Logical) None None (group_of j) (group_of k) (λ g. logical_agrees op.LogNot test_LogNot j x k y) (tt) (tt)
each_sound op.AndReduce j x k y = bits_all (Sound op.AndReduce j x k y) rule.Reduction (group_of j) (group_of k) (λ g. reduction_agrees op.AndReduce test_AndReduce j x k y)
each_sound op.OrReduce j x k y = bits_all (Sound op.OrReduce j x k y) rule.Reduction (group_of j) (group_of k) (λ g. reduction_agrees op.OrReduce test_OrReduce j x k y)
each_sound op.XorReduce j x k y = bits_all (Sound op.XorReduce j x k y) rule.Reduction (group_of j) (group_of k) (λ g. reduction_agrees op.XorReduce test_XorReduce j x k y)

pub sound : (o : Op) (j : Kind) (x : ℕ) (k : Kind) (y : ℕ) (r : Rule) → rule_at o j k ≡ Some r → Given r j x k y → Agrees o r j x k y
sound o j x k y r e = subst (OnRule (Sound o j x k y)) e (each_sound o j x k y)

-- ---- and they have the signs that the operator needs

abbrev Signed : Op → Kind → Kind → Rule → Type 0
Signed o j k r = Signs o (is_signed (placed_left r j k)) (is_signed (placed_right r j k))

bits_unsigned : (k : Kind) → is_bits (group_of k) ≡ true → is_signed k ≡ false
bits_unsigned (kind.Bv w) e = refl
bits_unsigned kind.Bool e = absurd (cc)
bits_unsigned (kind.Native w s) e = absurd (cc)
bits_unsigned (kind.Int w) e = absurd (cc)
bits_unsigned (kind.Uint w) e = absurd (cc)
bits_unsigned (kind.Big w) e = absurd (cc)
bits_unsigned (kind.BigInt w) e = absurd (cc)
bits_unsigned (kind.Wide b s) e = absurd (cc)

each_signed : (o : Op) (j k : Kind) → OnRule (Signed o j k) (rule_at o j k)
each_signed op.Add j k = by_groups_all (Signed op.Add j k) (Some rule.Common) (Some rule.WideSum) None (group_of j) (group_of k) (λ s t. tt) (tt) (λ s t. tt)
each_signed op.Sub j k = by_groups_all (Signed op.Sub j k) (Some rule.Common) (Some rule.WideDifference) None (group_of j) (group_of k) (λ s t. tt) (tt) (λ s t. tt)
each_signed op.Mul j k = by_groups_all (Signed op.Mul j k) (Some rule.Common) (Some rule.WideProduct) None (group_of j) (group_of k) (λ s t. tt) (tt) (λ s t. tt)
each_signed op.Div j k = by_groups_all (Signed op.Div j k) (Some rule.Common) (Some rule.WideQuotient) None (group_of j) (group_of k) (λ s t. refl) (refl) (λ s t. tt)
each_signed op.Rem j k = by_groups_all (Signed op.Rem j k) (Some rule.Common) (Some rule.WideQuotient) None (group_of j) (group_of k) (λ s t. refl) (refl) (λ s t. tt)
each_signed op.And j k = by_groups_all (Signed op.And j k) (Some rule.Common) (Some rule.WideBits) (Some rule.BitsBoth) (group_of j) (group_of k) (λ s t. tt) (tt) (λ s t. tt)
each_signed op.Or j k = by_groups_all (Signed op.Or j k) (Some rule.Common) (Some rule.WideBits) (Some rule.BitsBoth) (group_of j) (group_of k) (λ s t. tt) (tt) (λ s t. tt)
each_signed op.Xor j k = by_groups_all (Signed op.Xor j k) (Some rule.Common) (Some rule.WideBits) (Some rule.BitsBoth) (group_of j) (group_of k) (λ s t. tt) (tt) (λ s t. tt)
each_signed op.Eq j k = by_groups_all (Signed op.Eq j k) (Some rule.CommonTest) (Some rule.WideTest) (Some rule.BitsTest) (group_of j) (group_of k) (λ s t. refl) (refl) (λ s t. bits_unsigned j s ∙ sym (bits_unsigned k t))
each_signed op.Ne j k = by_groups_all (Signed op.Ne j k) (Some rule.CommonTest) (Some rule.WideTest) (Some rule.BitsTest) (group_of j) (group_of k) (λ s t. refl) (refl) (λ s t. bits_unsigned j s ∙ sym (bits_unsigned k t))
each_signed op.Lt j k = by_groups_all (Signed op.Lt j k) (Some rule.CommonTest) (Some rule.WideTest) None (group_of j) (group_of k) (λ s t. refl) (refl) (λ s t. tt)
each_signed op.Le j k = by_groups_all (Signed op.Le j k) (Some rule.CommonTest) (Some rule.WideTest) None (group_of j) (group_of k) (λ s t. refl) (refl) (λ s t. tt)
each_signed op.Gt j k = by_groups_all (Signed op.Gt j k) (Some rule.CommonTest) (Some rule.WideTest) None (group_of j) (group_of k) (λ s t. refl) (refl) (λ s t. tt)
each_signed op.Ge j k = by_groups_all (Signed op.Ge j k) (Some rule.CommonTest) (Some rule.WideTest) None (group_of j) (group_of k) (λ s t. refl) (refl) (λ s t. tt)
each_signed op.Shl j k = by_left_all (Signed op.Shl j k) rule.PromotedShift rule.WideLeft rule.BitsShift (group_of j) (group_of k) refl refl refl
each_signed op.Shr j k = by_left_all (Signed op.Shr j k) rule.PromotedShift rule.WideRight rule.BitsShift (group_of j) (group_of k) refl refl refl
each_signed op.LogAnd j k = by_groups_all (Signed op.LogAnd j k) (Some rule.Logical) None None (group_of j) (group_of k) (λ s t. tt) (tt) (λ s t. tt)
each_signed op.LogOr j k = by_groups_all (Signed op.LogOr j k) (Some rule.Logical) None None (group_of j) (group_of k) (λ s t. tt) (tt) (λ s t. tt)
each_signed op.Plus j k = alone_all (Signed op.Plus j k) (Some rule.Promoted) (Some rule.WideSame) None (group_of j) (group_of k) tt tt tt
each_signed op.Neg j k = alone_all (Signed op.Neg j k) (Some rule.Promoted) (Some rule.WideNegation) None (group_of j) (group_of k) tt tt tt
each_signed op.Not j k = alone_all (Signed op.Not j k) (Some rule.Promoted) (Some rule.WideComplement) (Some rule.BitsComplement) (group_of j) (group_of k) tt tt tt
each_signed op.LogNot j k = alone_all (Signed op.LogNot j k) (Some rule.Logical) None None (group_of j) (group_of k) tt tt tt
each_signed op.AndReduce j k = bits_all (Signed op.AndReduce j k) rule.Reduction (group_of j) (group_of k) tt
each_signed op.OrReduce j k = bits_all (Signed op.OrReduce j k) rule.Reduction (group_of j) (group_of k) tt
each_signed op.XorReduce j k = bits_all (Signed op.XorReduce j k) rule.Reduction (group_of j) (group_of k) tt

pub signed_right : (o : Op) (j k : Kind) (r : Rule) → rule_at o j k ≡ Some r → Signs o (is_signed (placed_left r j k)) (is_signed (placed_right r j k))
signed_right o j k r e = subst (OnRule (Signed o j k)) e (each_signed o j k)

-- ---- and a divisor that isn't 0 stays so

abbrev Divided : Op → Kind → Kind → ℕ → Rule → Type 0
Divided o j k y r = IsValid j → IsValid k → Fits k y → Divisor o y → Divisor o (stored (placed_right r j k) (number_of k y))

pub promoted_width : (k : Kind) → IsValid k → is_small (group_of k) ≡ true → (width_of k ≤ width_of (promoted k)) × ((width_of (promoted k) ≡ 32) ⊎ (width_of (promoted k) ≡ 64))
promoted_width kind.Bool v e = (omega arith, inl refl)
promoted_width (kind.Native w s) v e = by (nat_lt w 32) refl
  where
    by : (t : Bool) → nat_lt w 32 ≡ t → (w ≤ width_of (if t then kind.Native 32 true else kind.Native w s)) × ((width_of (if t then kind.Native 32 true else kind.Native w s) ≡ 32) ⊎ (width_of (if t then kind.Native 32 true else kind.Native w s) ≡ 64))
    by true f = (grind arith, inl refl)
    by false f = (omega arith, grind (arith, v))
promoted_width (kind.Int w) v e = (omega (arith, v.1), inr refl)
promoted_width (kind.Uint w) v e = (omega (arith, v.1), inr refl)
promoted_width (kind.Big w) v e = absurd (cc)
promoted_width (kind.BigInt w) v e = absurd (cc)
promoted_width (kind.Bv w) v e = absurd (cc)
promoted_width (kind.Wide b s) v e = absurd (cc)

meeting_width : (j k : Kind) → (width_of k ≡ 32) ⊎ (width_of k ≡ 64) → width_of k ≤ width_of (meeting j k)
meeting_width j k h = by (is_long j) (is_long k) refl h
  where
    by : (s t : Bool) → is_long k ≡ t → (width_of k ≡ 32) ⊎ (width_of k ≡ 64) → width_of k ≤ width_of (if s || t then kind.Native 64 (not ((s && not (is_signed j)) || (t && not (is_signed k)))) else kind.Native 32 (is_signed j && is_signed k))
    by true t e (inl p) = omega arith
    by true t e (inr p) = omega arith
    by false true e (inl p) = omega arith
    by false true e (inr p) = omega arith
    by false false e (inl p) = omega arith
    by false false e (inr p) = absurd (grind arith)

common_divisor : (j k : Kind) (y : ℕ) → is_small (group_of k) ≡ true → IsValid k → Fits k y → 0 < y → 0 < stored (common_of j k) (number_of k y)
common_divisor j k y t v h o =
    let p = promoted_width k v t in
    let m = meeting_width (promoted j) (promoted k) p.1 in
    let low_one = not_lost (is_signed k) (width_of k) (width_of (common_of j k)) y (omega (arith, p.0)) h o in
    subst (λ n. 0 < n) (sym (stored_low (common_of j k) (number_of k y) (meeting_number (promoted j) (promoted k)))) low_one

quotient_divisor : (j k : Kind) (y : ℕ) → IsValid k → Fits k y → 0 < y → 0 < stored (placed_right rule.WideQuotient j k) (number_of k y)
quotient_divisor j k y v h o =
    not_lost (is_signed k) (width_of k) (width_of (wide (quotient_bits j k) (some_signed j k))) y (omega (arith, width_count k v)) h o

pub on_any : (P : Rule → Type 0) → ((r : Rule) → P r) → (t : Option Rule) → OnRule P t
on_any P f None = tt
on_any P f (Some r) = f r

each_divided : (o : Op) (j k : Kind) (y : ℕ) → OnRule (Divided o j k y) (rule_at o j k)
each_divided op.Div j k y = by_groups_all (Divided op.Div j k y) (Some rule.Common) (Some rule.WideQuotient) None (group_of j) (group_of k) (λ s t u v. common_divisor j k y t v) (λ u v. quotient_divisor j k y v) (λ s t. tt)
each_divided op.Rem j k y = by_groups_all (Divided op.Rem j k y) (Some rule.Common) (Some rule.WideQuotient) None (group_of j) (group_of k) (λ s t u v. common_divisor j k y t v) (λ u v. quotient_divisor j k y v) (λ s t. tt)
each_divided op.Add j k y = on_any (Divided op.Add j k y) (λ r u v h o. tt) (rule_at op.Add j k)
each_divided op.Sub j k y = on_any (Divided op.Sub j k y) (λ r u v h o. tt) (rule_at op.Sub j k)
each_divided op.Mul j k y = on_any (Divided op.Mul j k y) (λ r u v h o. tt) (rule_at op.Mul j k)
each_divided op.And j k y = on_any (Divided op.And j k y) (λ r u v h o. tt) (rule_at op.And j k)
each_divided op.Or j k y = on_any (Divided op.Or j k y) (λ r u v h o. tt) (rule_at op.Or j k)
each_divided op.Xor j k y = on_any (Divided op.Xor j k y) (λ r u v h o. tt) (rule_at op.Xor j k)
each_divided op.Eq j k y = on_any (Divided op.Eq j k y) (λ r u v h o. tt) (rule_at op.Eq j k)
each_divided op.Ne j k y = on_any (Divided op.Ne j k y) (λ r u v h o. tt) (rule_at op.Ne j k)
each_divided op.Lt j k y = on_any (Divided op.Lt j k y) (λ r u v h o. tt) (rule_at op.Lt j k)
each_divided op.Le j k y = on_any (Divided op.Le j k y) (λ r u v h o. tt) (rule_at op.Le j k)
each_divided op.Gt j k y = on_any (Divided op.Gt j k y) (λ r u v h o. tt) (rule_at op.Gt j k)
each_divided op.Ge j k y = on_any (Divided op.Ge j k y) (λ r u v h o. tt) (rule_at op.Ge j k)
each_divided op.Shl j k y = on_any (Divided op.Shl j k y) (λ r u v h o. tt) (rule_at op.Shl j k)
each_divided op.Shr j k y = on_any (Divided op.Shr j k y) (λ r u v h o. tt) (rule_at op.Shr j k)
each_divided op.LogAnd j k y = on_any (Divided op.LogAnd j k y) (λ r u v h o. tt) (rule_at op.LogAnd j k)
each_divided op.LogOr j k y = on_any (Divided op.LogOr j k y) (λ r u v h o. tt) (rule_at op.LogOr j k)
each_divided op.Plus j k y = on_any (Divided op.Plus j k y) (λ r u v h o. tt) (rule_at op.Plus j k)
each_divided op.Neg j k y = on_any (Divided op.Neg j k y) (λ r u v h o. tt) (rule_at op.Neg j k)
each_divided op.Not j k y = on_any (Divided op.Not j k y) (λ r u v h o. tt) (rule_at op.Not j k)
each_divided op.LogNot j k y = on_any (Divided op.LogNot j k y) (λ r u v h o. tt) (rule_at op.LogNot j k)
each_divided op.AndReduce j k y = on_any (Divided op.AndReduce j k y) (λ r u v h o. tt) (rule_at op.AndReduce j k)
each_divided op.OrReduce j k y = on_any (Divided op.OrReduce j k y) (λ r u v h o. tt) (rule_at op.OrReduce j k)
each_divided op.XorReduce j k y = on_any (Divided op.XorReduce j k y) (λ r u v h o. tt) (rule_at op.XorReduce j k)

pub divided : (o : Op) (j k : Kind) (y : ℕ) (r : Rule) → rule_at o j k ≡ Some r → IsValid j → IsValid k → Fits k y → Divisor o y → Divisor o (stored (placed_right r j k) (number_of k y))
divided o j k y r e = subst (OnRule (Divided o j k y)) e (each_divided o j k y)
