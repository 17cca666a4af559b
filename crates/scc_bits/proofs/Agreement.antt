-- The kinds in which answers are computed give what the table says.
use Rattle.std.specs.Prelude.{◌≡◌, ℕ, ◌+◌, ◌^◌, ◌<◌, ◌≤◌, Bool, true, false, not, ◌&&◌, ◌||◌, nat_eq, nat_lt, if◌then◌else◌, ℤ, pos, ◌*ℤ◌, unsigned_abs, Some}
use Rattle.std.proofs.Common.{refl, sym, ◌∙◌, ap, subst, arith}
use Rattle.scc_bits_kinds.specs.declared.kind.Kind.{Kind}
use Rattle.scc_bits_kinds.specs.declared.kind.Kind.TheVariants as kind
use Rattle.scc_bits_kinds.specs.declared.op.Op.{Op}
use Rattle.scc_bits_kinds.specs.declared.op.Op.TheVariants as op
use Rattle.scc_bits_kinds.specs.declared.rule.Rule.{Rule}
use Rattle.scc_bits_kinds.specs.declared.rule.Rule.TheVariants as rule
use Rattle.scc_bits_kinds.specs.Numbers.{low, reading, Holds, bit}
use Rattle.scc_bits_kinds.specs.Operators.{exact, truth}
use Rattle.scc_bits_kinds.specs.Kinds.{IsValid, Fits, width_of, is_signed, is_bool, number_of, stored, converted}
use Rattle.scc_bits_kinds.specs.Counts.{promoted, is_long, meeting, common_of, count_of, some_signed, padded, room, quotient_bits, wide}
use Rattle.scc_bits.specs.Values.{answer_of, amount_kind, left_of, right_of, passes}
use Rattle.scc_bits.specs.Placed.{placed_left, placed_right}
use Rattle.scc_bits_kinds.proofs.Low.{low_less, low_reading, low_mul, holds_reading, read_low}
use Rattle.scc_bits_kinds.proofs.Words.{truth_reading}
use Rattle.scc_bits_kinds.proofs.Alike.{IsLow, low_forms, holds_more}
use Rattle.scc_bits.proofs.Validity.{width_valid, width_count, at_answer, at_answer_if}

-- ---- words and numbers of a kind

pub bool_form : (k : Kind) → is_bool k ≡ true → (width_of k ≡ 1) × (is_signed k ≡ false)
bool_form kind.Bool e = (refl, refl)
bool_form (kind.Native w s) e = absurd (cc)
bool_form (kind.Int w) e = absurd (cc)
bool_form (kind.Uint w) e = absurd (cc)
bool_form (kind.Big w) e = absurd (cc)
bool_form (kind.BigInt w) e = absurd (cc)
bool_form (kind.Bv w) e = absurd (cc)
bool_form (kind.Wide b s) e = absurd (cc)

-- a word's number is stored as that word
pub stored_own : (k : Kind) (x : ℕ) → Fits k x → stored k (number_of k x) ≡ x
stored_own k x h = by (is_bool k) refl
  where
    one : (t : Bool) (n : ℕ) → nat_eq n 0 ≡ t → n < 2 → (if not t then 1 else 0) ≡ n
    one true n e p = grind arith
    one false n e p = grind arith

    by : (t : Bool) → is_bool k ≡ t → (if t then (if truth (number_of k x) then 1 else 0) else low (width_of k) (number_of k x)) ≡ x
    by false e = low_reading (is_signed k) (width_of k) x h
    by true e =
        let w = bool_form k e in
        let p : x < 2 = subst (λ n. x < 2 ^ n) w.0 h in
        ap (λ t. if t then 1 else 0) (sym (truth_reading (is_signed k) (width_of k) x h)) ∙ one (nat_eq x 0) x refl p

-- a kind converted to itself keeps its numbers
pub own : (k : Kind) (x : ℕ) → Fits k x → converted k (number_of k x) ≡ number_of k x
own k x h = ap (number_of k) (stored_own k x h)

pub stored_low : (k : Kind) (z : ℤ) → is_bool k ≡ false → stored k z ≡ low (width_of k) z
stored_low k z e = ap (λ t. if t then (if truth z then 1 else 0) else low (width_of k) z) e

pub stored_bit : (t : Bool) → stored kind.Bool (bit t) ≡ low 1 (bit t)
stored_bit true = refl
stored_bit false = refl

pub promoted_number : (k : Kind) → is_bool (promoted k) ≡ false
promoted_number kind.Bool = refl
promoted_number (kind.Native w s) = by (nat_lt w 32)
  where
    by : (t : Bool) → is_bool (if t then kind.Native 32 true else kind.Native w s) ≡ false
    by true = refl
    by false = refl
promoted_number (kind.Int w) = refl
promoted_number (kind.Uint w) = refl
promoted_number (kind.Big w) = refl
promoted_number (kind.BigInt w) = refl
promoted_number (kind.Bv w) = refl
promoted_number (kind.Wide b s) = refl

pub meeting_number : (j k : Kind) → is_bool (meeting j k) ≡ false
meeting_number j k = by (is_long j || is_long k)
  where
    by : (t : Bool) → is_bool (if t then kind.Native 64 (not ((is_long j && not (is_signed j)) || (is_long k && not (is_signed k)))) else kind.Native 32 (is_signed j && is_signed k)) ≡ false
    by true = refl
    by false = refl

-- ---- what a rule's answer is computed as

-- what is known of an operator's words
pub record Given (r : Rule) (j : Kind) (x : ℕ) (k : Kind) (y : ℕ) : Type 0 where
  pub left_valid : IsValid j
  pub right_valid : IsValid k
  pub left_fits : Fits j x
  pub right_fits : Fits k y
  pub narrow : passes r j k ≡ false

-- the number that a rule gives to the operator's words
abbrev pub meant : Op → Rule → Kind → ℕ → Kind → ℕ → ℤ
meant o r j x k y = exact o (width_of (left_of r j k)) (converted (left_of r j k) (number_of j x)) (converted (right_of r j k) (number_of k y))

abbrev pub placed : Op → Rule → Kind → ℕ → Kind → ℕ → ℤ
placed o r j x k y = exact o (width_of (placed_left r j k)) (converted (placed_left r j k) (number_of j x)) (converted (placed_right r j k) (number_of k y))

abbrev pub Agrees : Op → Rule → Kind → ℕ → Kind → ℕ → Type 0
Agrees o r j x k y = (a : Kind) → answer_of r j k ≡ Some a → low (width_of a) (placed o r j x k y) ≡ stored a (meant o r j x k y)

-- operators that answer a truth value
abbrev pub IsTest : Op → Type 0
IsTest o = (w : ℕ) (x y : ℤ) → stored kind.Bool (exact o w x y) ≡ low 1 (exact o w x y)

-- operators other than reductions
abbrev pub IsWhole : Op → Type 0
IsWhole o = (v w : ℕ) (x y : ℤ) → exact o v x y ≡ exact o w x y

-- small operands
pub common_agrees : (o : Op) (j : Kind) (x : ℕ) (k : Kind) (y : ℕ) → Agrees o rule.Common j x k y
common_agrees o j x k y a = let z = meant o rule.Common j x k y in at_answer (λ m. low (width_of m) z ≡ stored m z) (common_of j k) a (sym (stored_low (common_of j k) z (meeting_number (promoted j) (promoted k))))

pub promoted_agrees : (o : Op) (j : Kind) (x : ℕ) (k : Kind) (y : ℕ) → Agrees o rule.Promoted j x k y
promoted_agrees o j x k y a = let z = meant o rule.Promoted j x k y in at_answer (λ m. low (width_of m) z ≡ stored m z) (promoted j) a (sym (stored_low (promoted j) z (promoted_number j)))

pub shift_agrees : (o : Op) (j : Kind) (x : ℕ) (k : Kind) (y : ℕ) → Agrees o rule.PromotedShift j x k y
shift_agrees o j x k y a = let z = meant o rule.PromotedShift j x k y in at_answer (λ m. low (width_of m) z ≡ stored m z) (promoted j) a (sym (stored_low (promoted j) z (promoted_number j)))

pub test_agrees : (o : Op) → IsTest o → (j : Kind) (x : ℕ) (k : Kind) (y : ℕ) → Agrees o rule.CommonTest j x k y
test_agrees o f j x k y a = let z = meant o rule.CommonTest j x k y in at_answer (λ m. low (width_of m) z ≡ stored m z) kind.Bool a (sym (f _ _ _))

pub logical_agrees : (o : Op) → IsTest o → (j : Kind) (x : ℕ) (k : Kind) (y : ℕ) → Agrees o rule.Logical j x k y
logical_agrees o f j x k y a = let z = meant o rule.Logical j x k y in at_answer (λ m. low (width_of m) z ≡ stored m z) kind.Bool a (sym (f _ _ _))

pub reduction_agrees : (o : Op) → IsTest o → (j : Kind) (x : ℕ) (k : Kind) (y : ℕ) → Agrees o rule.Reduction j x k y
reduction_agrees o f j x k y a = let z = meant o rule.Reduction j x k y in at_answer (λ m. low (width_of m) z ≡ stored m z) kind.Bool a (sym (f _ _ _))

-- bit vectors
pub bits_both_agrees : (o : Op) (j : Kind) (x : ℕ) (k : Kind) (y : ℕ) → Agrees o rule.BitsBoth j x k y
bits_both_agrees o j x k y a = let z = meant o rule.BitsBoth j x k y in at_answer_if (λ m. low (width_of m) z ≡ stored m z) (nat_eq (width_of j) (width_of k)) (kind.Bv (width_of j)) a refl

pub bits_test_agrees : (o : Op) → IsTest o → (j : Kind) (x : ℕ) (k : Kind) (y : ℕ) → Agrees o rule.BitsTest j x k y
bits_test_agrees o f j x k y a = let z = meant o rule.BitsTest j x k y in at_answer_if (λ m. low (width_of m) z ≡ stored m z) (nat_eq (width_of j) (width_of k)) kind.Bool a (sym (f _ _ _))

pub bits_shift_agrees : (o : Op) (j : Kind) (x : ℕ) (k : Kind) (y : ℕ) → Agrees o rule.BitsShift j x k y
bits_shift_agrees o j x k y a = let z = meant o rule.BitsShift j x k y in at_answer (λ m. low (width_of m) z ≡ stored m z) (kind.Bv (width_of j)) a refl

pub bits_complement_agrees : (o : Op) (j : Kind) (x : ℕ) (k : Kind) (y : ℕ) → Agrees o rule.BitsComplement j x k y
bits_complement_agrees o j x k y a = let z = meant o rule.BitsComplement j x k y in at_answer (λ m. low (width_of m) z ≡ stored m z) (kind.Bv (width_of j)) a refl

-- large operands whose low bits are enough, in any large kind
in_wide : (o : Op) → IsLow o → (j : Kind) (x : ℕ) (k : Kind) (y : ℕ) → Fits j x → Fits k y → (b : ℕ) (s : Bool) → low (width_of (wide b s)) (exact o (width_of (wide b s)) (converted (wide b s) (number_of j x)) (converted (wide b s) (number_of k y))) ≡ stored (wide b s) (exact o (width_of j) (converted j (number_of j x)) (converted k (number_of k y)))
in_wide o f j x k y p q b s =
    low_forms o f (width_of (wide b s)) (width_of j) (width_of (wide b s)) s s (number_of j x) (number_of k y) ∙ (λ i. low (width_of (wide b s)) (exact o (width_of j) (sym (own j x p) i) (sym (own k y q) i)))

pub sum_agrees : (j : Kind) (x : ℕ) (k : Kind) (y : ℕ) → IsLow op.Add → Fits j x → Fits k y → Agrees op.Add rule.WideSum j x k y
sum_agrees j x k y f p q a = at_answer (λ m. low (width_of m) (placed op.Add rule.WideSum j x k y) ≡ stored m (meant op.Add rule.WideSum j x k y)) _ a (in_wide op.Add f j x k y p q (room j k + 1) (some_signed j k))

pub difference_agrees : (j : Kind) (x : ℕ) (k : Kind) (y : ℕ) → IsLow op.Sub → Fits j x → Fits k y → Agrees op.Sub rule.WideDifference j x k y
difference_agrees j x k y f p q a = at_answer (λ m. low (width_of m) (placed op.Sub rule.WideDifference j x k y) ≡ stored m (meant op.Sub rule.WideDifference j x k y)) _ a (in_wide op.Sub f j x k y p q (room j k + 1) true)

pub product_agrees : (j : Kind) (x : ℕ) (k : Kind) (y : ℕ) → IsLow op.Mul → Fits j x → Fits k y → Agrees op.Mul rule.WideProduct j x k y
product_agrees j x k y f p q a = at_answer (λ m. low (width_of m) (placed op.Mul rule.WideProduct j x k y) ≡ stored m (meant op.Mul rule.WideProduct j x k y)) _ a (in_wide op.Mul f j x k y p q (count_of j + count_of k) (some_signed j k))

pub wide_bits_agrees : (o : Op) → IsLow o → (j : Kind) (x : ℕ) (k : Kind) (y : ℕ) → Fits j x → Fits k y → Agrees o rule.WideBits j x k y
wide_bits_agrees o f j x k y p q a = at_answer (λ m. low (width_of m) (placed o rule.WideBits j x k y) ≡ stored m (meant o rule.WideBits j x k y)) _ a (in_wide o f j x k y p q (room j k) (some_signed j k))

pub same_agrees : (j : Kind) (x : ℕ) (k : Kind) (y : ℕ) → IsLow op.Plus → Fits j x → Fits k y → Agrees op.Plus rule.WideSame j x k y
same_agrees j x k y f p q a = at_answer (λ m. low (width_of m) (placed op.Plus rule.WideSame j x k y) ≡ stored m (meant op.Plus rule.WideSame j x k y)) _ a (in_wide op.Plus f j x k y p q (count_of j) (is_signed j))

pub negation_agrees : (j : Kind) (x : ℕ) (k : Kind) (y : ℕ) → IsLow op.Neg → Fits j x → Fits k y → Agrees op.Neg rule.WideNegation j x k y
negation_agrees j x k y f p q a = at_answer (λ m. low (width_of m) (placed op.Neg rule.WideNegation j x k y) ≡ stored m (meant op.Neg rule.WideNegation j x k y)) _ a (in_wide op.Neg f j x k y p q (count_of j + 1) true)

pub complement_agrees : (j : Kind) (x : ℕ) (k : Kind) (y : ℕ) → IsLow op.Not → Fits j x → Fits k y → Agrees op.Not rule.WideComplement j x k y
complement_agrees j x k y f p q a = at_answer (λ m. low (width_of m) (placed op.Not rule.WideComplement j x k y) ≡ stored m (meant op.Not rule.WideComplement j x k y)) _ a (in_wide op.Not f j x k y p q (count_of j + (if is_signed j then 0 else 1)) true)

-- a large kind with room for a kind's numbers keeps them
pub kept : (k : Kind) (x : ℕ) (b : ℕ) (s : Bool) → IsValid k → Fits k x → padded s k ≤ b → b ≤ 128 → (is_signed k ≡ true → s ≡ true) → converted (wide b s) (number_of k x) ≡ number_of k x
kept k x b s v h p q e =
    let w = width_valid k v in
    let c : width_of k ≡ count_of k = omega (arith, width_count k v) in
    let n : width_of (wide b s) ≡ b = omega arith in
    let holds = holds_reading (is_signed k) (width_of k) x w.0 h in
    let z = number_of k x in
    let more : Holds s (width_of (wide b s)) z = holds_more (is_signed k) s (width_of k) (width_of (wide b s)) z (omega arith) e holds in
    read_low s (width_of (wide b s)) z (omega arith) more

pub left_signed : (s t : Bool) → s ≡ true → (s || t) ≡ true
left_signed true t e = refl
left_signed false t e = absurd (cc)

pub right_signed : (s t : Bool) → t ≡ true → (s || t) ≡ true
right_signed true t e = refl
right_signed false t e = e

pub same_sign : (s : Bool) (w : ℕ) → w + (if s && not s then 1 else 0) ≤ w
same_sign true w = omega arith
same_sign false w = omega arith

at_most : (m n : ℕ) → nat_lt m n ≡ false → n ≤ m
at_most m n e = grind arith

-- large operands taken by their exact values
exactly : (o : Op) → IsWhole o → (j : Kind) (x : ℕ) (k : Kind) (y : ℕ) (b : ℕ) → IsValid j → IsValid k → Fits j x → Fits k y → room j k ≤ b → b ≤ 128 → exact o (width_of (wide b (some_signed j k))) (converted (wide b (some_signed j k)) (number_of j x)) (converted (wide b (some_signed j k)) (number_of k y)) ≡ exact o (width_of j) (converted j (number_of j x)) (converted k (number_of k y))
exactly o f j x k y b u v p q r n =
    let s = some_signed j k in
    let l = kept j x b s u p (omega arith) n (left_signed (is_signed j) (is_signed k)) in
    let m = kept k y b s v q (omega arith) n (right_signed (is_signed j) (is_signed k)) in
    f (width_of (wide b s)) (width_of j) _ _ ∙ (λ i. exact o (width_of j) (l i) (m i)) ∙ (λ i. exact o (width_of j) (sym (own j x p) i) (sym (own k y q) i))

pub quotient_agrees : (o : Op) → IsWhole o → (j : Kind) (x : ℕ) (k : Kind) (y : ℕ) → Given rule.WideQuotient j x k y → Agrees o rule.WideQuotient j x k y
quotient_agrees o f j x k y g a =
    let n = at_most 128 (quotient_bits j k) g.narrow in
    at_answer (λ m. low (width_of m) (placed o rule.WideQuotient j x k y) ≡ stored m (meant o rule.WideQuotient j x k y)) _ a (ap (low (width_of (wide (quotient_bits j k) (some_signed j k)))) (exactly o f j x k y (quotient_bits j k) g.left_valid g.right_valid g.left_fits g.right_fits (omega arith) n))

pub wide_test_agrees : (o : Op) → IsWhole o → IsTest o → (j : Kind) (x : ℕ) (k : Kind) (y : ℕ) → Given rule.WideTest j x k y → Agrees o rule.WideTest j x k y
wide_test_agrees o f t j x k y g a =
    let n = at_most 128 (room j k) g.narrow in
    at_answer (λ m. low (width_of m) (placed o rule.WideTest j x k y) ≡ stored m (meant o rule.WideTest j x k y)) kind.Bool a (ap (low 1) (exactly o f j x k y (room j k) g.left_valid g.right_valid g.left_fits g.right_fits (omega arith) n) ∙ sym (t _ _ _))

-- shifts of large operands
left_low : (n : ℕ) (s : Bool) (a b : ℤ) → low n (reading s n (low n a) *ℤ b) ≡ low n (a *ℤ b)
left_low n s a b = sym (low_mul n (reading s n (low n a)) b) ∙ ap (λ m. low n (pos m *ℤ b)) (low_reading s n (low n a) (low_less n a)) ∙ low_mul n a b

pub wide_left_agrees : (j : Kind) (x : ℕ) (k : Kind) (y : ℕ) → Given rule.WideLeft j x k y → Agrees op.Shl rule.WideLeft j x k y
wide_left_agrees j x k y g a =
    let factor = pos (2 ^ unsigned_abs (converted (amount_kind k) (number_of k y))) in
    at_answer (λ m. low (width_of m) (placed op.Shl rule.WideLeft j x k y) ≡ stored m (meant op.Shl rule.WideLeft j x k y)) _ a (left_low 128 (is_signed j) (number_of j x) factor ∙ ap (λ z. low 128 (z *ℤ factor)) (sym (own j x g.left_fits)))

pub wide_right_agrees : (j : Kind) (x : ℕ) (k : Kind) (y : ℕ) → Given rule.WideRight j x k y → Agrees op.Shr rule.WideRight j x k y
wide_right_agrees j x k y g a =
    let n = at_most 128 (count_of j) g.narrow in
    let l = kept j x (count_of j) (is_signed j) g.left_valid g.left_fits (same_sign (is_signed j) (count_of j)) n (λ e. e) in
    let amount = converted (amount_kind k) (number_of k y) in
    at_answer (λ m. low (width_of m) (placed op.Shr rule.WideRight j x k y) ≡ stored m (meant op.Shr rule.WideRight j x k y)) _ a (ap (λ z. low (width_of (wide (count_of j) (is_signed j))) (exact op.Shr 0 z amount)) (l ∙ sym (own j x g.left_fits)))
