-- What is known of the rule by which an operator is applied.
use Rattle.std.specs.Prelude.{◌≡◌, ℕ, ◌<◌, ◌^◌, Bool, true, false, if◌then◌else◌, ℤ, Option, Some, None, IsSome, option_map, option_and_then}
use Rattle.std.proofs.Common.{refl, sym, ◌∙◌, ap, subst, arith}
use Rattle.scc_bits_kinds.specs.declared.op.Op.{Op}
use Rattle.scc_bits_kinds.specs.declared.op.Op.TheVariants as op
use Rattle.scc_bits_kinds.specs.declared.kind.Kind.{Kind}
use Rattle.scc_bits_kinds.specs.declared.rule.Rule.{Rule}
use Rattle.scc_bits_kinds.specs.declared.rule.Rule.TheVariants as rule
use Rattle.scc_bits.specs.declared.operands.Operands.{Operands}
use Rattle.scc_bits.specs.declared.taken.Taken.{Taken}
use Rattle.scc_bits_kinds.specs.Groups.{group_of}
use Rattle.scc_bits_kinds.specs.Numbers.{low, reading}
use Rattle.scc_bits_kinds.specs.Operators.{exact, Divisor, Signs, truth}
use Rattle.scc_bits_kinds.specs.Kinds.{IsValid, Fits, width_of, is_signed, is_bool, number_of, stored, converted}
use Rattle.scc_bits.specs.Values.{rule_at, kind_of, answer_of, is_too_wide, applied}
use Rattle.scc_bits.specs.Placed.{placed_left, placed_of, operands_of}
use Rattle.scc_bits.specs.Standing.{Small, Stands}
use Rattle.scc_bits_kinds.proofs.Low.{low_less}
use Rattle.scc_bits_kinds.proofs.Operated.{divisor_extended}
use Rattle.scc_bits.proofs.Agreement.{bool_form}
use Rattle.scc_bits_kinds.proofs.Rules.{OnRule, by_groups_all, by_left_all, alone_all, bits_all}
use Rattle.scc_bits.proofs.Suited.{on_any}
use Rattle.scc_bits.proofs.Lowered.{of_answer, row, divisor, signs, keeps}

-- ---- small operands

abbrev IsSmall : Kind → Kind → Rule → Type 0
IsSmall j k r = Small r j k

each_small : (o : Op) (j k : Kind) → OnRule (IsSmall j k) (rule_at o j k)
each_small op.Add j k = by_groups_all (IsSmall j k) (Some rule.Common) (Some rule.WideSum) None (group_of j) (group_of k) (λ s t. (s, t)) tt (λ s t. tt)
each_small op.Sub j k = by_groups_all (IsSmall j k) (Some rule.Common) (Some rule.WideDifference) None (group_of j) (group_of k) (λ s t. (s, t)) tt (λ s t. tt)
each_small op.Mul j k = by_groups_all (IsSmall j k) (Some rule.Common) (Some rule.WideProduct) None (group_of j) (group_of k) (λ s t. (s, t)) tt (λ s t. tt)
each_small op.Div j k = by_groups_all (IsSmall j k) (Some rule.Common) (Some rule.WideQuotient) None (group_of j) (group_of k) (λ s t. (s, t)) tt (λ s t. tt)
each_small op.Rem j k = by_groups_all (IsSmall j k) (Some rule.Common) (Some rule.WideQuotient) None (group_of j) (group_of k) (λ s t. (s, t)) tt (λ s t. tt)
each_small op.And j k = by_groups_all (IsSmall j k) (Some rule.Common) (Some rule.WideBits) (Some rule.BitsBoth) (group_of j) (group_of k) (λ s t. (s, t)) tt (λ s t. tt)
each_small op.Or j k = by_groups_all (IsSmall j k) (Some rule.Common) (Some rule.WideBits) (Some rule.BitsBoth) (group_of j) (group_of k) (λ s t. (s, t)) tt (λ s t. tt)
each_small op.Xor j k = by_groups_all (IsSmall j k) (Some rule.Common) (Some rule.WideBits) (Some rule.BitsBoth) (group_of j) (group_of k) (λ s t. (s, t)) tt (λ s t. tt)
each_small op.Eq j k = by_groups_all (IsSmall j k) (Some rule.CommonTest) (Some rule.WideTest) (Some rule.BitsTest) (group_of j) (group_of k) (λ s t. (s, t)) tt (λ s t. tt)
each_small op.Ne j k = by_groups_all (IsSmall j k) (Some rule.CommonTest) (Some rule.WideTest) (Some rule.BitsTest) (group_of j) (group_of k) (λ s t. (s, t)) tt (λ s t. tt)
each_small op.Lt j k = by_groups_all (IsSmall j k) (Some rule.CommonTest) (Some rule.WideTest) None (group_of j) (group_of k) (λ s t. (s, t)) tt (λ s t. tt)
each_small op.Le j k = by_groups_all (IsSmall j k) (Some rule.CommonTest) (Some rule.WideTest) None (group_of j) (group_of k) (λ s t. (s, t)) tt (λ s t. tt)
each_small op.Gt j k = by_groups_all (IsSmall j k) (Some rule.CommonTest) (Some rule.WideTest) None (group_of j) (group_of k) (λ s t. (s, t)) tt (λ s t. tt)
each_small op.Ge j k = by_groups_all (IsSmall j k) (Some rule.CommonTest) (Some rule.WideTest) None (group_of j) (group_of k) (λ s t. (s, t)) tt (λ s t. tt)
each_small op.Shl j k = by_left_all (IsSmall j k) rule.PromotedShift rule.WideLeft rule.BitsShift (group_of j) (group_of k) tt tt tt
each_small op.Shr j k = by_left_all (IsSmall j k) rule.PromotedShift rule.WideRight rule.BitsShift (group_of j) (group_of k) tt tt tt
each_small op.LogAnd j k = by_groups_all (IsSmall j k) (Some rule.Logical) None None (group_of j) (group_of k) (λ s t. tt) tt (λ s t. tt)
each_small op.LogOr j k = by_groups_all (IsSmall j k) (Some rule.Logical) None None (group_of j) (group_of k) (λ s t. tt) tt (λ s t. tt)
each_small op.Plus j k = alone_all (IsSmall j k) (Some rule.Promoted) (Some rule.WideSame) None (group_of j) (group_of k) tt tt tt
each_small op.Neg j k = alone_all (IsSmall j k) (Some rule.Promoted) (Some rule.WideNegation) None (group_of j) (group_of k) tt tt tt
each_small op.Not j k = alone_all (IsSmall j k) (Some rule.Promoted) (Some rule.WideComplement) (Some rule.BitsComplement) (group_of j) (group_of k) tt tt tt
each_small op.LogNot j k = alone_all (IsSmall j k) (Some rule.Logical) None None (group_of j) (group_of k) tt tt tt
each_small op.AndReduce j k = bits_all (IsSmall j k) rule.Reduction (group_of j) (group_of k) tt
each_small op.OrReduce j k = bits_all (IsSmall j k) rule.Reduction (group_of j) (group_of k) tt
each_small op.XorReduce j k = bits_all (IsSmall j k) rule.Reduction (group_of j) (group_of k) tt

pub small_rule : (o : Op) (j k : Kind) (r : Rule) → rule_at o j k ≡ Some r → Small r j k
small_rule o j k r e = subst (OnRule (IsSmall j k)) e (each_small o j k)

-- ---- the width of the left operand's bits, of which only reductions speak, and these take it as it is

abbrev Seen : Op → Kind → Kind → ℤ → ℤ → Rule → Type 0
Seen o j k x y r = exact o (width_of j) x y ≡ exact o (width_of (placed_left r j k)) x y

each_seen : (o : Op) (j k : Kind) (x y : ℤ) → OnRule (Seen o j k x y) (rule_at o j k)
each_seen op.Add j k x y = on_any (Seen op.Add j k x y) (λ r. refl) (rule_at op.Add j k)
each_seen op.Sub j k x y = on_any (Seen op.Sub j k x y) (λ r. refl) (rule_at op.Sub j k)
each_seen op.Mul j k x y = on_any (Seen op.Mul j k x y) (λ r. refl) (rule_at op.Mul j k)
each_seen op.Div j k x y = on_any (Seen op.Div j k x y) (λ r. refl) (rule_at op.Div j k)
each_seen op.Rem j k x y = on_any (Seen op.Rem j k x y) (λ r. refl) (rule_at op.Rem j k)
each_seen op.And j k x y = on_any (Seen op.And j k x y) (λ r. refl) (rule_at op.And j k)
each_seen op.Or j k x y = on_any (Seen op.Or j k x y) (λ r. refl) (rule_at op.Or j k)
each_seen op.Xor j k x y = on_any (Seen op.Xor j k x y) (λ r. refl) (rule_at op.Xor j k)
each_seen op.Eq j k x y = on_any (Seen op.Eq j k x y) (λ r. refl) (rule_at op.Eq j k)
each_seen op.Ne j k x y = on_any (Seen op.Ne j k x y) (λ r. refl) (rule_at op.Ne j k)
each_seen op.Lt j k x y = on_any (Seen op.Lt j k x y) (λ r. refl) (rule_at op.Lt j k)
each_seen op.Le j k x y = on_any (Seen op.Le j k x y) (λ r. refl) (rule_at op.Le j k)
each_seen op.Gt j k x y = on_any (Seen op.Gt j k x y) (λ r. refl) (rule_at op.Gt j k)
each_seen op.Ge j k x y = on_any (Seen op.Ge j k x y) (λ r. refl) (rule_at op.Ge j k)
each_seen op.Shl j k x y = on_any (Seen op.Shl j k x y) (λ r. refl) (rule_at op.Shl j k)
each_seen op.Shr j k x y = on_any (Seen op.Shr j k x y) (λ r. refl) (rule_at op.Shr j k)
each_seen op.LogAnd j k x y = on_any (Seen op.LogAnd j k x y) (λ r. refl) (rule_at op.LogAnd j k)
each_seen op.LogOr j k x y = on_any (Seen op.LogOr j k x y) (λ r. refl) (rule_at op.LogOr j k)
each_seen op.Plus j k x y = on_any (Seen op.Plus j k x y) (λ r. refl) (rule_at op.Plus j k)
each_seen op.Neg j k x y = on_any (Seen op.Neg j k x y) (λ r. refl) (rule_at op.Neg j k)
each_seen op.Not j k x y = on_any (Seen op.Not j k x y) (λ r. refl) (rule_at op.Not j k)
each_seen op.LogNot j k x y = on_any (Seen op.LogNot j k x y) (λ r. refl) (rule_at op.LogNot j k)
each_seen op.AndReduce j k x y = bits_all (Seen op.AndReduce j k x y) rule.Reduction (group_of j) (group_of k) refl
each_seen op.OrReduce j k x y = bits_all (Seen op.OrReduce j k x y) rule.Reduction (group_of j) (group_of k) refl
each_seen op.XorReduce j k x y = bits_all (Seen op.XorReduce j k x y) rule.Reduction (group_of j) (group_of k) refl

seen : (o : Op) (j k : Kind) (p : Operands) (x y : ℤ) → operands_of o j k ≡ Some p → exact o (width_of j) x y ≡ exact o (width_of p.left) x y
seen o j k p x y e =
    let t = row o j k p e in
    subst (OnRule (Seen o j k x y)) t.has (each_seen o j k x y) ∙ ap (λ (q : Operands). exact o (width_of q.left) x y) t.operands

-- ---- the operands of a rule

pub operands_are : (o : Op) (j k : Kind) (r : Rule) → rule_at o j k ≡ Some r → IsSome (kind_of o j k) → (p : Operands) × (placed_of r j k ≡ Some p) × (operands_of o j k ≡ Some p)
operands_are o j k r e h =
    let q = by (answer_of r j k) (subst (λ t. IsSome (option_and_then (λ s. answer_of s j k) t)) e h) in
    (q.0, q.1, ap (option_and_then (λ s. placed_of s j k)) e ∙ q.1)
  where
    by : (t : Option Kind) → IsSome t → (p : Operands) × (option_map (of_answer r j k) t ≡ Some p)
    by None h = absurd (cc)
    by (Some a) h = (of_answer r j k a, refl)

stored_fits : (k : Kind) (z : ℤ) → Fits k (stored k z)
stored_fits k z = by (is_bool k) refl
  where
    one : (t : Bool) → (if t then 1 else 0) < 2
    one true = omega arith
    one false = omega arith

    by : (t : Bool) → is_bool k ≡ t → (if t then (if truth z then 1 else 0) else low (width_of k) z) < 2 ^ width_of k
    by false e = low_less (width_of k) z
    by true e = subst (λ n. (if truth z then 1 else 0) < 2 ^ n) (sym (bool_form k e).0) (one (truth z))

pub divisor_stands : (o : Op) (j : Kind) (x : ℕ) (k : Kind) (y : ℕ) (p : Operands) (t : Taken) → IsValid j → IsValid k → Fits k y → operands_of o j k ≡ Some p → Stands p j x k y t → Divisor o y → Divisor o t.right
divisor_stands o j x k y p t u v h e s d =
    divisor_extended o (is_signed p.right) (width_of p.right) t.right (stored p.right (number_of k y)) (divisor o j k y p u v h e d) s.right (stored_fits p.right (number_of k y))

pub applied_stands : (o : Op) (j : Kind) (x : ℕ) (k : Kind) (y : ℕ) (p : Operands) (t : Taken) (w : ℕ) → IsValid j → IsValid k → Fits j x → Fits k y → is_too_wide o j k ≡ false → operands_of o j k ≡ Some p → Stands p j x k y t → ((s : Bool) → Signs o t.signed s → w ≡ low t.answer (exact o (width_of j) (reading t.signed 128 t.left) (reading s 128 t.right))) → applied o j x k y ≡ Some w
applied_stands o j x k y p t w u v f g n e s h =
    let sign : Signs o t.signed (is_signed p.right) = subst (λ i. Signs o i (is_signed p.right)) (sym s.sign) (signs o j k p e) in
    let left : reading t.signed 128 t.left ≡ converted p.left (number_of j x) = ap (λ i. reading i 128 t.left) s.sign ∙ s.left in
    let word : w ≡ low (width_of p.answer) (exact o (width_of p.left) (converted p.left (number_of j x)) (converted p.right (number_of k y))) =
    h (is_signed p.right) sign ∙ (λ i. low (s.answer i) (exact o (width_of j) (left i) (s.right i))) ∙ ap (low (width_of p.answer)) (seen o j k p _ _ e) in
    keeps o j x k y p u v f g n e ∙ ap (λ (i : ℕ). Some i) (sym word)
