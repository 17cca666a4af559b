-- The widths of the kinds in which an operator is computed.
use Rattle.std.specs.Prelude.{◌≡◌, ℕ, Bool, true, false, nat_eq, if◌then◌else◌, Option, Some, None}
use Rattle.std.proofs.Common.{refl, subst, arith}
use Rattle.scc_bits_kinds.specs.declared.op.Op.{Op}
use Rattle.scc_bits_kinds.specs.declared.op.Op.TheVariants as op
use Rattle.scc_bits_kinds.specs.declared.kind.Kind.{Kind}
use Rattle.scc_bits_kinds.specs.declared.kind.Kind.TheVariants as kind
use Rattle.scc_bits_kinds.specs.declared.rule.Rule.{Rule}
use Rattle.scc_bits_kinds.specs.declared.rule.Rule.TheVariants as rule
use Rattle.scc_bits_kinds.specs.Groups.{group_of}
use Rattle.scc_bits_kinds.specs.Kinds.{width_of}
use Rattle.scc_bits_kinds.specs.Counts.{common_of, wide_room}
use Rattle.scc_bits_kinds.proofs.Rules.{OnRule, by_groups_all, by_left_all, alone_all, bits_all}
use Rattle.scc_bits.specs.declared.operands.Operands.{Operands}
use Rattle.scc_bits.specs.Values.{rule_at, answer_of, amount_kind}
use Rattle.scc_bits.specs.Placed.{operands_of}
use Rattle.scc_bits.proofs.Validity.{at_answer}
use Rattle.scc_bits.proofs.Lowered.{of_answer, row}

-- both operands have the answer's width
abbrev pub Alike : Operands → Type 0
Alike p = (width_of p.left ≡ width_of p.answer) × (width_of p.right ≡ width_of p.answer)

-- both operands have one width, the answer is one bit
abbrev pub Compared : Operands → Type 0
Compared p = (width_of p.right ≡ width_of p.left) × (width_of p.answer ≡ 1)

abbrev pub Logical : Operands → Type 0
Logical p = (p.left ≡ kind.Bool) × (p.right ≡ kind.Bool) × (p.answer ≡ kind.Bool)

-- the left operand has the answer's width, the right one is the amount of a shift
abbrev pub Shifted : Kind → Operands → Type 0
Shifted k p = (width_of p.left ≡ width_of p.answer) × (p.right ≡ amount_kind k)

abbrev pub OnLeft : Operands → Type 0
OnLeft p = width_of p.left ≡ width_of p.answer

abbrev pub Reduced : Operands → Type 0
Reduced p = width_of p.answer ≡ 1

abbrev pub Shape : Op → Kind → Operands → Type 0
Shape op.Add k p = Alike p
Shape op.Sub k p = Alike p
Shape op.Mul k p = Alike p
Shape op.Div k p = Alike p
Shape op.Rem k p = Alike p
Shape op.And k p = Alike p
Shape op.Or k p = Alike p
Shape op.Xor k p = Alike p
Shape op.Eq k p = Compared p
Shape op.Ne k p = Compared p
Shape op.Lt k p = Compared p
Shape op.Le k p = Compared p
Shape op.Gt k p = Compared p
Shape op.Ge k p = Compared p
Shape op.Shl k p = Shifted k p
Shape op.Shr k p = Shifted k p
Shape op.LogAnd k p = Logical p
Shape op.LogOr k p = Logical p
Shape op.Plus k p = OnLeft p
Shape op.Neg k p = OnLeft p
Shape op.Not k p = OnLeft p
Shape op.LogNot k p = Logical p
Shape op.AndReduce k p = Reduced p
Shape op.OrReduce k p = Reduced p
Shape op.XorReduce k p = Reduced p

-- ---- by rules

abbrev Under : (Operands → Type 0) → Kind → Kind → Rule → Type 0
Under P j k r = (a : Kind) → answer_of r j k ≡ Some a → P (of_answer r j k a)

both_at : (m a : Kind) → ◌≡◌ {A = Option Kind} (Some m) (Some a) → (width_of m ≡ width_of a) × (width_of m ≡ width_of a)
both_at m a = at_answer (λ q. (width_of m ≡ width_of q) × (width_of m ≡ width_of q)) m a (refl, refl)

left_at : (m a : Kind) → ◌≡◌ {A = Option Kind} (Some m) (Some a) → width_of m ≡ width_of a
left_at m a = at_answer (λ q. width_of m ≡ width_of q) m a refl

bits_at : (j k a : Kind) (t : Bool) → nat_eq (width_of j) (width_of k) ≡ t → ◌≡◌ {A = Option Kind} (if t then Some (kind.Bv (width_of j)) else None) (Some a) → (width_of j ≡ width_of a) × (width_of k ≡ width_of a)
bits_at j k a true e = at_answer (λ q. (width_of j ≡ width_of q) × (width_of k ≡ width_of q)) (kind.Bv (width_of j)) a (refl, equal (width_of j) (width_of k) e)
  where
    equal : (m n : ℕ) → nat_eq m n ≡ true → n ≡ m
    equal m n e = grind arith
bits_at j k a false e = λ d. absurd (cc)

test_at : (m a : Kind) → ◌≡◌ {A = Option Kind} (Some kind.Bool) (Some a) → (width_of m ≡ width_of m) × (width_of a ≡ 1)
test_at m a = at_answer (λ q. (width_of m ≡ width_of m) × (width_of q ≡ 1)) kind.Bool a (refl, refl)

bits_test_at : (j k a : Kind) (t : Bool) → nat_eq (width_of j) (width_of k) ≡ t → ◌≡◌ {A = Option Kind} (if t then Some kind.Bool else None) (Some a) → (width_of k ≡ width_of j) × (width_of a ≡ 1)
bits_test_at j k a true e = at_answer (λ q. (width_of k ≡ width_of j) × (width_of q ≡ 1)) kind.Bool a (equal (width_of j) (width_of k) e, refl)
  where
    equal : (m n : ℕ) → nat_eq m n ≡ true → n ≡ m
    equal m n e = grind arith
bits_test_at j k a false e = λ d. absurd (cc)

common : (j k : Kind) → Under Alike j k rule.Common
common j k a = both_at _ a

sum : (j k : Kind) → Under Alike j k rule.WideSum
sum j k a = both_at _ a

difference : (j k : Kind) → Under Alike j k rule.WideDifference
difference j k a = both_at _ a

product : (j k : Kind) → Under Alike j k rule.WideProduct
product j k a = both_at _ a

quotient : (j k : Kind) → Under Alike j k rule.WideQuotient
quotient j k a = both_at _ a

wide_bits : (j k : Kind) → Under Alike j k rule.WideBits
wide_bits j k a = both_at _ a

bits_both : (j k : Kind) → Under Alike j k rule.BitsBoth
bits_both j k a = bits_at j k a (nat_eq (width_of j) (width_of k)) refl

common_test : (j k : Kind) → Under Compared j k rule.CommonTest
common_test j k a = test_at (common_of j k) a

wide_test : (j k : Kind) → Under Compared j k rule.WideTest
wide_test j k a = test_at (wide_room j k) a

bits_test : (j k : Kind) → Under Compared j k rule.BitsTest
bits_test j k a = bits_test_at j k a (nat_eq (width_of j) (width_of k)) refl

logical : (j k : Kind) → Under Logical j k rule.Logical
logical j k a = at_answer (λ q. (kind.Bool ≡ kind.Bool) × (kind.Bool ≡ kind.Bool) × (q ≡ kind.Bool)) kind.Bool a (refl, refl, refl)

shift_at : (m n a : Kind) → ◌≡◌ {A = Option Kind} (Some m) (Some a) → (width_of m ≡ width_of a) × (n ≡ n)
shift_at m n a = at_answer (λ q. (width_of m ≡ width_of q) × (n ≡ n)) m a (refl, refl)

promoted_shift : (j k : Kind) → Under (Shifted k) j k rule.PromotedShift
promoted_shift j k a = shift_at _ (amount_kind k) a

wide_left : (j k : Kind) → Under (Shifted k) j k rule.WideLeft
wide_left j k a = shift_at _ (amount_kind k) a

wide_right : (j k : Kind) → Under (Shifted k) j k rule.WideRight
wide_right j k a = shift_at _ (amount_kind k) a

bits_shift : (j k : Kind) → Under (Shifted k) j k rule.BitsShift
bits_shift j k a = at_answer (λ q. (width_of j ≡ width_of q) × (amount_kind k ≡ amount_kind k)) (kind.Bv (width_of j)) a (refl, refl)

promotion : (j k : Kind) → Under OnLeft j k rule.Promoted
promotion j k a = left_at _ a

wide_same : (j k : Kind) → Under OnLeft j k rule.WideSame
wide_same j k a = left_at _ a

negation : (j k : Kind) → Under OnLeft j k rule.WideNegation
negation j k a = left_at _ a

complement : (j k : Kind) → Under OnLeft j k rule.WideComplement
complement j k a = left_at _ a

bits_complement : (j k : Kind) → Under OnLeft j k rule.BitsComplement
bits_complement j k a = at_answer (λ q. width_of j ≡ width_of q) (kind.Bv (width_of j)) a refl

reduction : (j k : Kind) → Under Reduced j k rule.Reduction
reduction j k a = at_answer (λ q. width_of q ≡ 1) kind.Bool a refl

-- ---- by operators

abbrev IsShape : Op → Kind → Kind → Rule → Type 0
IsShape o j k r = Under (Shape o k) j k r

each : (o : Op) (j k : Kind) → OnRule (IsShape o j k) (rule_at o j k)
each op.Add j k = by_groups_all (IsShape op.Add j k) (Some rule.Common) (Some rule.WideSum) None (group_of j) (group_of k) (λ s t. common j k) (sum j k) (λ s t. tt)
each op.Sub j k = by_groups_all (IsShape op.Sub j k) (Some rule.Common) (Some rule.WideDifference) None (group_of j) (group_of k) (λ s t. common j k) (difference j k) (λ s t. tt)
each op.Mul j k = by_groups_all (IsShape op.Mul j k) (Some rule.Common) (Some rule.WideProduct) None (group_of j) (group_of k) (λ s t. common j k) (product j k) (λ s t. tt)
each op.Div j k = by_groups_all (IsShape op.Div j k) (Some rule.Common) (Some rule.WideQuotient) None (group_of j) (group_of k) (λ s t. common j k) (quotient j k) (λ s t. tt)
each op.Rem j k = by_groups_all (IsShape op.Rem j k) (Some rule.Common) (Some rule.WideQuotient) None (group_of j) (group_of k) (λ s t. common j k) (quotient j k) (λ s t. tt)
each op.And j k = by_groups_all (IsShape op.And j k) (Some rule.Common) (Some rule.WideBits) (Some rule.BitsBoth) (group_of j) (group_of k) (λ s t. common j k) (wide_bits j k) (λ s t. bits_both j k)
each op.Or j k = by_groups_all (IsShape op.Or j k) (Some rule.Common) (Some rule.WideBits) (Some rule.BitsBoth) (group_of j) (group_of k) (λ s t. common j k) (wide_bits j k) (λ s t. bits_both j k)
each op.Xor j k = by_groups_all (IsShape op.Xor j k) (Some rule.Common) (Some rule.WideBits) (Some rule.BitsBoth) (group_of j) (group_of k) (λ s t. common j k) (wide_bits j k) (λ s t. bits_both j k)
each op.Eq j k = by_groups_all (IsShape op.Eq j k) (Some rule.CommonTest) (Some rule.WideTest) (Some rule.BitsTest) (group_of j) (group_of k) (λ s t. common_test j k) (wide_test j k) (λ s t. bits_test j k)
each op.Ne j k = by_groups_all (IsShape op.Ne j k) (Some rule.CommonTest) (Some rule.WideTest) (Some rule.BitsTest) (group_of j) (group_of k) (λ s t. common_test j k) (wide_test j k) (λ s t. bits_test j k)
each op.Lt j k = by_groups_all (IsShape op.Lt j k) (Some rule.CommonTest) (Some rule.WideTest) None (group_of j) (group_of k) (λ s t. common_test j k) (wide_test j k) (λ s t. tt)
each op.Le j k = by_groups_all (IsShape op.Le j k) (Some rule.CommonTest) (Some rule.WideTest) None (group_of j) (group_of k) (λ s t. common_test j k) (wide_test j k) (λ s t. tt)
each op.Gt j k = by_groups_all (IsShape op.Gt j k) (Some rule.CommonTest) (Some rule.WideTest) None (group_of j) (group_of k) (λ s t. common_test j k) (wide_test j k) (λ s t. tt)
each op.Ge j k = by_groups_all (IsShape op.Ge j k) (Some rule.CommonTest) (Some rule.WideTest) None (group_of j) (group_of k) (λ s t. common_test j k) (wide_test j k) (λ s t. tt)
each op.Shl j k = by_left_all (IsShape op.Shl j k) rule.PromotedShift rule.WideLeft rule.BitsShift (group_of j) (group_of k) (promoted_shift j k) (wide_left j k) (bits_shift j k)
each op.Shr j k = by_left_all (IsShape op.Shr j k) rule.PromotedShift rule.WideRight rule.BitsShift (group_of j) (group_of k) (promoted_shift j k) (wide_right j k) (bits_shift j k)
each op.LogAnd j k = by_groups_all (IsShape op.LogAnd j k) (Some rule.Logical) None None (group_of j) (group_of k) (λ s t. logical j k) tt (λ s t. tt)
each op.LogOr j k = by_groups_all (IsShape op.LogOr j k) (Some rule.Logical) None None (group_of j) (group_of k) (λ s t. logical j k) tt (λ s t. tt)
each op.Plus j k = alone_all (IsShape op.Plus j k) (Some rule.Promoted) (Some rule.WideSame) None (group_of j) (group_of k) (promotion j k) (wide_same j k) tt
each op.Neg j k = alone_all (IsShape op.Neg j k) (Some rule.Promoted) (Some rule.WideNegation) None (group_of j) (group_of k) (promotion j k) (negation j k) tt
each op.Not j k = alone_all (IsShape op.Not j k) (Some rule.Promoted) (Some rule.WideComplement) (Some rule.BitsComplement) (group_of j) (group_of k) (promotion j k) (complement j k) (bits_complement j k)
each op.LogNot j k = alone_all (IsShape op.LogNot j k) (Some rule.Logical) None None (group_of j) (group_of k) (logical j k) tt tt
each op.AndReduce j k = bits_all (IsShape op.AndReduce j k) rule.Reduction (group_of j) (group_of k) (reduction j k)
each op.OrReduce j k = bits_all (IsShape op.OrReduce j k) rule.Reduction (group_of j) (group_of k) (reduction j k)
each op.XorReduce j k = bits_all (IsShape op.XorReduce j k) rule.Reduction (group_of j) (group_of k) (reduction j k)

pub shape : (o : Op) (j k : Kind) (p : Operands) → operands_of o j k ≡ Some p → Shape o k p
shape o j k p e =
    let t = row o j k p e in
    subst (Shape o k) t.operands (subst (OnRule (IsShape o j k)) t.has (each o j k) p.answer t.answers)
