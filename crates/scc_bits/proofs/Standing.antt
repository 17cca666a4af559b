-- Numbers of 128 bits that stand for operands in the kinds that they are converted to.
use Rattle.std.specs.Prelude.{◌≡◌, ℕ, ◌+◌, ◌%◌, ◌^◌, ◌<◌, ◌≤◌, min, Bool, true, false, not, ◌&&◌, ◌||◌, nat_eq, nat_le, nat_lt, if◌then◌else◌, ◌⊎◌, ℤ, pos, Option, Some, None, option_map}
use Rattle.std.proofs.Common.{refl, sym, ◌∙◌, ap, subst, arith, inl, inr}
use Rattle.scc_bits_kinds.specs.declared.kind.Kind.{Kind}
use Rattle.scc_bits_kinds.specs.declared.kind.Kind.TheVariants as kind
use Rattle.scc_bits.specs.declared.form.Form.{Form}
use Rattle.scc_bits.specs.declared.number.Number.{Number}
use Rattle.scc_bits.specs.declared.operands.Operands.{Operands}
use Rattle.scc_bits_kinds.specs.declared.rule.Rule.{Rule}
use Rattle.scc_bits_kinds.specs.declared.rule.Rule.TheVariants as rule
use Rattle.scc_bits.specs.declared.taken.Taken.{Taken}
use Rattle.scc_bits_kinds.specs.Numbers.{low, reading, Holds}
use Rattle.scc_bits_kinds.specs.Groups.{group_of, is_small}
use Rattle.scc_bits_kinds.specs.Counts.{promoted, is_long, meeting, common_of, count_of, some_signed, padded, room, wide}
use Rattle.scc_bits.specs.Values.{amount_kind}
use Rattle.scc_bits_kinds.specs.Kinds.{IsValid, Fits, width_of, is_signed, is_bool, number_of, converted}
use Rattle.scc_bits.specs.Placed.{placed_of}
use Rattle.scc_bits.specs.Standing.{Reads, Stands, IsOther, form_of, room_by}
use Rattle.scc_bits_kinds.proofs.Low.{low_reading, low_low, holds_reading, read_low}
use Rattle.scc_bits_kinds.proofs.Alike.{holds_more}
use Rattle.scc_bits.proofs.Validity.{promoted_valid, meeting_valid, wide_valid, width_valid, width_count}
use Rattle.scc_bits.proofs.Agreement.{stored_low, left_signed, right_signed, same_sign, own, promoted_number, meeting_number}
use Rattle.scc_bits.proofs.Suited.{promoted_width}

-- a number that a kind holds is kept in it, and stands in 128 bits in either sign that holds it
stands_held : (k : Kind) (z : ℤ) (s : Bool) (r : ℕ) → IsValid k → is_bool k ≡ false → r < 2 ^ 128 → reading s 128 r ≡ z → Holds (is_signed k) (width_of k) z → reading (is_signed k) 128 r ≡ converted k z
stands_held k z s r v b l e h =
    let w = width_valid k v in
    let word : r ≡ low 128 z = sym (low_reading s 128 r l) ∙ ap (low 128) e in
    let more : Holds (is_signed k) 128 z = holds_more (is_signed k) (is_signed k) (width_of k) 128 z (no_more (is_signed k) (width_of k) w.1) (λ t. t) h in
    ap (reading (is_signed k) 128) word ∙ read_low (is_signed k) 128 z (omega arith) more ∙ sym (read_low (is_signed k) (width_of k) z w.0 h) ∙ ap (number_of k) (sym (stored_low k z b))
  where
    no_more : (s : Bool) (c : ℕ) → c ≤ 128 → c + (if s && not s then 1 else 0) ≤ 128
    no_more true c p = omega arith
    no_more false c p = omega arith

-- ---- small kinds

promoted_holds : (k : Kind) (x : ℕ) → IsValid k → Fits k x → Holds (is_signed (promoted k)) (width_of (promoted k)) (number_of k x)
promoted_holds kind.Bool x v h = omega arith
promoted_holds (kind.Native w s) x v h = by (nat_lt w 32) refl
  where
    one_more : (s : Bool) (w : ℕ) → w < 32 → w + (if true && not s then 1 else 0) ≤ 32
    one_more true w p = omega arith
    one_more false w p = omega arith

    by : (t : Bool) → nat_lt w 32 ≡ t → Holds (is_signed (if t then kind.Native 32 true else kind.Native w s)) (width_of (if t then kind.Native 32 true else kind.Native w s)) (reading s w x)
    by true e = holds_more s true w 32 (reading s w x) (one_more s w (grind arith)) (λ t. refl) (holds_reading s w x (width_valid (kind.Native w s) v).0 h)
    by false e = holds_reading s w x (width_valid (kind.Native w s) v).0 h
promoted_holds (kind.Int w) x v h = holds_more true true w 64 (reading true w x) (omega (arith, v.1)) (λ t. t) (holds_reading true w x v.0 h)
promoted_holds (kind.Uint w) x v h = holds_more false false w 64 (reading false w x) (omega (arith, v.1)) (λ t. t) (holds_reading false w x v.0 h)
promoted_holds (kind.Big w) x v h = h
promoted_holds (kind.BigInt w) x v h = holds_reading true w x v.0 h
promoted_holds (kind.Bv w) x v h = h
promoted_holds (kind.Wide b s) x v h = holds_reading s (min b 128) x (omega (arith, v.0)) h

pub stands_promoted : (k : Kind) (x : ℕ) (n : Number) (r : ℕ) → IsValid k → Fits k x → Reads k x n → r ≡ n.bits → reading (is_signed (promoted k)) 128 r ≡ converted (promoted k) (number_of k x)
stands_promoted k x n r v h f e = ap (reading (is_signed (promoted k)) 128) e ∙ stands_held (promoted k) (number_of k x) (is_signed k) n.bits (promoted_valid k v) (promoted_number k) f.word f.value (promoted_holds k x v h)

-- a signed common kind holds the numbers of both promoted ones: those that are as wide are signed
meeting_holds_left : (j k : Kind) (z : ℤ) → (width_of j ≡ 32) ⊎ (width_of j ≡ 64) → is_signed (meeting j k) ≡ true → Holds (is_signed j) (width_of j) z → Holds true (width_of (meeting j k)) z
meeting_holds_left j k z w e h = by (is_long j) (is_signed j) (is_long k) (is_signed k) refl w e h
  where
    one_more : (s : Bool) (w : ℕ) → w ≡ 32 → w + (if true && not s then 1 else 0) ≤ 64
    one_more true w p = omega arith
    one_more false w p = omega arith

    by : (a b c d : Bool) → is_long j ≡ a → (width_of j ≡ 32) ⊎ (width_of j ≡ 64) → is_signed (if a || c then kind.Native 64 (not ((a && not b) || (c && not d))) else kind.Native 32 (b && d)) ≡ true → Holds b (width_of j) z → Holds true (width_of (if a || c then kind.Native 64 (not ((a && not b) || (c && not d))) else kind.Native 32 (b && d))) z
    by true true c d l w e h = holds_more true true (width_of j) 64 z (grind arith) (λ t. t) h
    by true false c d l w e h = absurd (cc)
    by false b true d l (inl w) e h = holds_more b true (width_of j) 64 z (one_more b (width_of j) w) (λ t. refl) h
    by false b true d l (inr w) e h = absurd (grind arith)
    by false true false d l (inl w) e h = holds_more true true (width_of j) 32 z (omega arith) (λ t. t) h
    by false true false d l (inr w) e h = absurd (grind arith)
    by false false false d l w e h = absurd (cc)

meeting_turned : (j k : Kind) → meeting j k ≡ meeting k j
meeting_turned j k = by (is_long j) (is_signed j) (is_long k) (is_signed k)
  where
    by : (a b c d : Bool) → (if a || c then kind.Native 64 (not ((a && not b) || (c && not d))) else kind.Native 32 (b && d)) ≡ (if c || a then kind.Native 64 (not ((c && not d) || (a && not b))) else kind.Native 32 (d && b))
    by true true true true = refl
    by true true true false = refl
    by true true false true = refl
    by true true false false = refl
    by true false true true = refl
    by true false true false = refl
    by true false false true = refl
    by true false false false = refl
    by false true true true = refl
    by false true true false = refl
    by false true false true = refl
    by false true false false = refl
    by false false true true = refl
    by false false true false = refl
    by false false false true = refl
    by false false false false = refl

-- an operand in the common kind: as it is where that is signed, else by its low bits
stands_common : (j k : Kind) (x : ℕ) (n : Number) (r : ℕ) → IsValid j → Fits j x → is_small (group_of j) ≡ true → Reads j x n → (is_signed (common_of j k) ≡ true → r ≡ n.bits) → (is_signed (common_of j k) ≡ false → r ≡ n.bits % 2 ^ width_of (common_of j k)) → reading (is_signed (common_of j k)) 128 r ≡ converted (common_of j k) (number_of j x)
stands_common j k x n r v h m f p q = by (common_of j k) (meeting_valid (promoted j) (promoted k)) (meeting_number (promoted j) (promoted k)) (λ e. meeting_holds_left (promoted j) (promoted k) (number_of j x) (promoted_width j v m).1 e (promoted_holds j x v h)) p q (is_signed (common_of j k)) refl
  where
    by : (c : Kind) → IsValid c → is_bool c ≡ false → (is_signed c ≡ true → Holds true (width_of c) (number_of j x)) → (is_signed c ≡ true → r ≡ n.bits) → (is_signed c ≡ false → r ≡ n.bits % 2 ^ width_of c) → (t : Bool) → is_signed c ≡ t → reading (is_signed c) 128 r ≡ converted c (number_of j x)
    by c u b g p q true e = ap (reading (is_signed c) 128) (p e) ∙ stands_held c (number_of j x) (is_signed j) n.bits u b f.word f.value (subst (λ s. Holds s (width_of c) (number_of j x)) (sym e) (g e))
    by c u b g p q false e =
        let w = width_valid c u in
        let word : n.bits ≡ low 128 (number_of j x) = sym (low_reading (is_signed j) 128 n.bits f.word) ∙ ap (low 128) f.value in
        let cut : r ≡ low (width_of c) (number_of j x) = q e ∙ ap (λ i. i % 2 ^ width_of c) word ∙ low_low (width_of c) 128 (number_of j x) w.1 in
        ap (λ s. reading s 128 r) e ∙ ap pos cut ∙ sym (ap (λ s. reading s (width_of c) (low (width_of c) (number_of j x))) e) ∙ ap (number_of c) (sym (stored_low c (number_of j x) b))

common_in : (j k : Kind) (x : ℕ) (n : Number) (to : Form) (r : ℕ) → IsValid j → Fits j x → is_small (group_of j) ≡ true → Reads j x n → to ≡ form_of (common_of j k) → (to.signed ≡ true → r ≡ n.bits) → (to.signed ≡ false → r ≡ n.bits % 2 ^ to.width) → reading (is_signed (common_of j k)) 128 r ≡ converted (common_of j k) (number_of j x)
common_in j k x n to r v h m f e p q =
    let sign : to.signed ≡ is_signed (common_of j k) = ap (λ (t : Form). t.signed) e in
    stands_common j k x n r v h m f (λ d. p (sign ∙ d)) (λ d. q (sign ∙ d) ∙ ap (λ (t : Form). n.bits % 2 ^ t.width) e)

pub common_width : (j k : Kind) (to : Form) → to ≡ form_of (common_of j k) → (1 ≤ to.width) × (to.width ≤ 64)
common_width j k to e = subst (λ (t : Form). (1 ≤ t.width) × (t.width ≤ 64)) (sym e) (by (is_long (promoted j) || is_long (promoted k)))
  where
    by : (t : Bool) → (1 ≤ width_of (if t then kind.Native 64 (not ((is_long (promoted j) && not (is_signed (promoted j))) || (is_long (promoted k) && not (is_signed (promoted k))))) else kind.Native 32 (is_signed (promoted j) && is_signed (promoted k)))) × (width_of (if t then kind.Native 64 (not ((is_long (promoted j) && not (is_signed (promoted j))) || (is_long (promoted k) && not (is_signed (promoted k))))) else kind.Native 32 (is_signed (promoted j) && is_signed (promoted k))) ≤ 64)
    by true = (omega arith, omega arith)
    by false = (omega arith, omega arith)

-- both operands in their common kind
pub common_stands : (j k : Kind) (x y : ℕ) (m n : Number) (to : Form) (r s : ℕ) → IsValid j × IsValid k → Fits j x → Fits k y → (is_small (group_of j) ≡ true) × (is_small (group_of k) ≡ true) → Reads j x m → Reads k y n → to ≡ form_of (common_of j k) → (to.signed ≡ true → r ≡ m.bits) → (to.signed ≡ false → r ≡ m.bits % 2 ^ to.width) → (to.signed ≡ true → s ≡ n.bits) → (to.signed ≡ false → s ≡ n.bits % 2 ^ to.width) → Stands (record { left = common_of j k; right = common_of j k; answer = common_of j k }) j x k y (record { left = r; right = s; signed = to.signed; answer = min to.width 128 })
common_stands j k x y m n to r s v g h small f d e p q t u =
    let turned : common_of k j ≡ common_of j k = meeting_turned (promoted k) (promoted j) in
    let w = common_width j k to e in
    record {
      left = common_in j k x m to r v.0 g small.0 f e p q;
      right = subst (λ (c : Kind). reading (is_signed c) 128 s ≡ converted c (number_of k y)) turned (common_in k j y n to s v.1 h small.1 d (e ∙ ap form_of (sym turned)) t u);
      sign = ap (λ (i : Form). i.signed) e;
      answer = omega (arith, w.1) ∙ ap (λ (i : Form). i.width) e;
    }

-- ---- kinds with room

-- a large kind with room for a number, or of 128 bits
in_wide : (k : Kind) (x : ℕ) (n : Number) (b : ℕ) (s : Bool) → IsValid k → Fits k x → Reads k x n → padded s k ≤ b → (is_signed k ≡ true → s ≡ true) → reading s 128 n.bits ≡ converted (wide b s) (number_of k x)
in_wide k x n b s v h f p e = by (nat_le b 128) refl
  where
    some : (s : Bool) → 1 ≤ width_of k → padded s k ≤ b → 1 ≤ b
    some s o p = let c = width_count k v in omega arith

    by : (t : Bool) → nat_le b 128 ≡ t → reading s 128 n.bits ≡ converted (wide b s) (number_of k x)
    by true d =
        let within : b ≤ 128 = grind arith in
        let w = width_valid k v in
        let c : width_of k ≡ count_of k = width_count k v ∙ omega arith in
        let is : width_of (wide b s) ≡ b = omega arith in
        let holds = holds_more (is_signed k) s (width_of k) (width_of (wide b s)) (number_of k x) (omega arith) e (holds_reading (is_signed k) (width_of k) x w.0 h) in
        stands_held (wide b s) (number_of k x) (is_signed k) n.bits (wide_valid b s (some s w.0 p)) refl f.word f.value holds
    by false d =
        let is : width_of (wide b s) ≡ 128 = grind arith in
        let word : n.bits ≡ low 128 (number_of k x) = sym (low_reading (is_signed k) 128 n.bits f.word) ∙ ap (low 128) f.value in
        ap (reading s 128) word ∙ ap (λ w. reading s w (low w (number_of k x))) (sym is)

-- a shift's amount
pub amount : (k : Kind) (y : ℕ) → IsValid k → Fits k y → reading false 128 y ≡ converted (amount_kind k) (number_of k y)
amount k y v h =
    let w = width_valid k v in
    let is : min (width_of k) 128 ≡ width_of k = omega (arith, w.1) in
    ap pos (sym (low_reading (is_signed k) (width_of k) y h)) ∙ ap (λ i. pos (low i (number_of k y))) (sym is)

-- two operands and the numbers that are read of them
pub record Pair (j : Kind) (x : ℕ) (k : Kind) (y : ℕ) (m n : Number) : Type 0 where
  pub valid : IsValid j × IsValid k
  pub left_fits : Fits j x
  pub right_fits : Fits k y
  pub left : Reads j x m
  pub right : Reads k y n

pub some_is : (j : Kind) (x : ℕ) (k : Kind) (y : ℕ) (m n : Number) (i : Bool) → Pair j x k y m n → i ≡ (m.signed || n.signed) → i ≡ some_signed j k
some_is j x k y m n i g e = e ∙ (λ i. g.left.sign i || g.right.sign i)

pub room_is : (j : Kind) (x : ℕ) (k : Kind) (y : ℕ) (m n : Number) (b : ℕ) → Pair j x k y m n → b ≡ room_by m.count m.signed n.count n.signed → b ≡ room j k
room_is j x k y m n b g e = e ∙ (λ i. room_by (g.left.count i) (g.left.sign i) (g.right.count i) (g.right.sign i))

-- from the operands of a rule to those that are asked of
pub finish : (r q : Rule) (j : Kind) (x : ℕ) (k : Kind) (y : ℕ) (o : Operands) (t u : Taken) → r ≡ q → placed_of q j k ≡ Some o → t ≡ u → Stands o j x k y u → (p : Operands) → placed_of r j k ≡ Some p → Stands p j x k y t
finish r q j x k y o t u d f e h p g =
    let same : o ≡ p = some_same (sym f ∙ ap (λ s. placed_of s j k) (sym d) ∙ g) in
    subst (λ (q : Operands). Stands q j x k y t) same (subst (Stands o j x k y) (sym e) h)
  where
    some_same : {a b : Operands} → ◌≡◌ {A = Option Operands} (Some a) (Some b) → a ≡ b
    some_same e = cc

-- both operands in one large kind
pub both_stand : (j : Kind) (x : ℕ) (k : Kind) (y : ℕ) (m n : Number) (b : ℕ) (s i : Bool) (w : ℕ) (a : Kind) → Pair j x k y m n → padded s j ≤ b → padded s k ≤ b → (is_signed j ≡ true → s ≡ true) → (is_signed k ≡ true → s ≡ true) → i ≡ s → min w 128 ≡ width_of a → Stands (record { left = wide b s; right = wide b s; answer = a }) j x k y (record { left = m.bits; right = n.bits; signed = i; answer = min w 128 })
both_stand j x k y m n b s i w a g p q d e f h = record {
  left = in_wide j x m b s g.valid.0 g.left_fits g.left p d;
  right = in_wide k y n b s g.valid.1 g.right_fits g.right q e;
  sign = f;
  answer = h;
}

-- the rules that the larger of both operands gives room
pub sum_stands : (j : Kind) (x : ℕ) (k : Kind) (y : ℕ) (m n : Number) (b : ℕ) (i : Bool) (w : ℕ) (a : Kind) → Pair j x k y m n → i ≡ (m.signed || n.signed) → room j k ≤ b → min w 128 ≡ width_of a → Stands (record { left = wide b (some_signed j k); right = wide b (some_signed j k); answer = a }) j x k y (record { left = m.bits; right = n.bits; signed = i; answer = min w 128 })
sum_stands j x k y m n b i w a g e p h = both_stand j x k y m n b (some_signed j k) i w a g (omega arith) (omega arith) (left_signed (is_signed j) (is_signed k)) (right_signed (is_signed j) (is_signed k)) (some_is j x k y m n i g e) h

pub padded_more : (k : Kind) (s : Bool) → padded s k ≤ count_of k + 1
padded_more k s = by (s && not (is_signed k))
  where
    by : (t : Bool) → count_of k + (if t then 1 else 0) ≤ count_of k + 1
    by true = omega arith
    by false = omega arith

pub in_own : (k : Kind) (x : ℕ) (n : Number) → Fits k x → Reads k x n → reading (is_signed k) 128 n.bits ≡ converted k (number_of k x)
in_own k x n h f = f.value ∙ sym (own k x h)

-- a large left operand, beside the amount of a shift
pub shift_stands : (j : Kind) (x : ℕ) (k : Kind) (y : ℕ) (m n : Number) (b : ℕ) (i : Bool) (w : ℕ) → Pair j x k y m n → i ≡ is_signed j → padded (is_signed j) j ≤ b → min w 128 ≡ width_of (wide b (is_signed j)) → Stands (record { left = wide b (is_signed j); right = amount_kind k; answer = wide b (is_signed j) }) j x k y (record { left = m.bits; right = y; signed = i; answer = min w 128 })
shift_stands j x k y m n b i w g e p h = record {
  left = in_wide j x m b (is_signed j) g.valid.0 g.left_fits g.left p (λ t. t);
  right = amount k y g.valid.1 g.right_fits;
  sign = e;
  answer = h;
}

-- and beside an operand that isn't looked at
pub alone_stands : (j : Kind) (x : ℕ) (k : Kind) (y : ℕ) (m n : Number) (b : ℕ) (s i : Bool) (w : ℕ) → Pair j x k y m n → i ≡ s → padded s j ≤ b → (is_signed j ≡ true → s ≡ true) → min w 128 ≡ width_of (wide b s) → Stands (record { left = wide b s; right = k; answer = wide b s }) j x k y (record { left = m.bits; right = n.bits; signed = i; answer = min w 128 })
alone_stands j x k y m n b s i w g e p t h = record {
  left = in_wide j x m b s g.valid.0 g.left_fits g.left p t;
  right = in_own k y n g.right_fits g.right;
  sign = e;
  answer = h;
}

-- operands in their own kinds
pub own_stand : (j : Kind) (x : ℕ) (k : Kind) (y : ℕ) (m n : Number) (a : Kind) (i : Bool) (w : ℕ) → Pair j x k y m n → i ≡ m.signed → min w 128 ≡ width_of a → Stands (record { left = j; right = k; answer = a }) j x k y (record { left = m.bits; right = n.bits; signed = i; answer = min w 128 })
own_stand j x k y m n a i w g e h = record {
  left = in_own j x m g.left_fits g.left;
  right = in_own k y n g.right_fits g.right;
  sign = e ∙ g.left.sign;
  answer = h;
}

pub own_shift_stands : (j : Kind) (x : ℕ) (k : Kind) (y : ℕ) (m n : Number) (a : Kind) (i : Bool) (w : ℕ) → Pair j x k y m n → i ≡ m.signed → min w 128 ≡ width_of a → Stands (record { left = j; right = amount_kind k; answer = a }) j x k y (record { left = m.bits; right = y; signed = i; answer = min w 128 })
own_shift_stands j x k y m n a i w g e h = record {
  left = in_own j x m g.left_fits g.left;
  right = amount k y g.valid.1 g.right_fits;
  sign = e ∙ g.left.sign;
  answer = h;
}

pub own_padded : (k : Kind) → padded (is_signed k) k ≤ count_of k
own_padded k = same_sign (is_signed k) (count_of k)

-- a complement has a bit more where the operand is unsigned
pub complement_padded : (k : Kind) → padded true k ≤ count_of k + (if is_signed k then 0 else 1)
complement_padded k = by (is_signed k)
  where
    by : (s : Bool) → count_of k + (if true && not s then 1 else 0) ≤ count_of k + (if s then 0 else 1)
    by true = omega arith
    by false = omega arith

pub width_is : (k : Kind) (x : ℕ) (n : Number) → IsValid k → Reads k x n → min n.count 128 ≡ width_of k
width_is k x n v f = ap (λ c. min c 128) f.count ∙ sym (width_count k v)

-- bit vectors of equal width
pub finish_bits : (r q : Rule) (j : Kind) (x : ℕ) (k : Kind) (y : ℕ) (a : Kind) (t u : Taken) → r ≡ q → ((s : Bool) → nat_eq (width_of j) (width_of k) ≡ s → placed_of q j k ≡ (if s then Some (record { left = j; right = k; answer = a }) else None)) → t ≡ u → Stands (record { left = j; right = k; answer = a }) j x k y u → (p : Operands) → placed_of r j k ≡ Some p → Stands p j x k y t
finish_bits r q j x k y a t u d f e h p g = by (nat_eq (width_of j) (width_of k)) refl
  where
    by : (s : Bool) → nat_eq (width_of j) (width_of k) ≡ s → Stands p j x k y t
    by true w = finish r q j x k y (record { left = j; right = k; answer = a }) t u d (f true w) e h p g
    by false w = absurd (no (sym (f false w) ∙ ap (λ s. placed_of s j k) (sym d) ∙ g))
      where
        no : ◌≡◌ {A = Option Operands} None (Some p) → ⊥
        no e = cc

pub last : (r : Rule) → IsOther r → (r ≡ rule.Reduction → ⊥) → (r ≡ rule.WideSum → ⊥) → (r ≡ rule.WideDifference → ⊥) → (r ≡ rule.WideProduct → ⊥) → (r ≡ rule.WideQuotient → ⊥) → (r ≡ rule.WideBits → ⊥) → (r ≡ rule.WideTest → ⊥) → (r ≡ rule.WideLeft → ⊥) → (r ≡ rule.WideRight → ⊥) → (r ≡ rule.WideNegation → ⊥) → (r ≡ rule.WideComplement → ⊥) → (r ≡ rule.BitsTest → ⊥) → (r ≡ rule.BitsShift → ⊥) → (r ≡ rule.WideSame) ⊎ ((r ≡ rule.BitsBoth) ⊎ (r ≡ rule.BitsComplement))
last rule.Common o a b c d e f g h i k l m n = absurd o
last rule.CommonTest o a b c d e f g h i k l m n = absurd o
last rule.Promoted o a b c d e f g h i k l m n = absurd o
last rule.PromotedShift o a b c d e f g h i k l m n = absurd o
last rule.Logical o a b c d e f g h i k l m n = absurd o
last rule.Reduction o a b c d e f g h i k l m n = absurd (a refl)
last rule.WideSum o a b c d e f g h i k l m n = absurd (b refl)
last rule.WideDifference o a b c d e f g h i k l m n = absurd (c refl)
last rule.WideProduct o a b c d e f g h i k l m n = absurd (d refl)
last rule.WideQuotient o a b c d e f g h i k l m n = absurd (e refl)
last rule.WideBits o a b c d e f g h i k l m n = absurd (f refl)
last rule.WideTest o a b c d e f g h i k l m n = absurd (g refl)
last rule.WideLeft o a b c d e f g h i k l m n = absurd (h refl)
last rule.WideRight o a b c d e f g h i k l m n = absurd (i refl)
last rule.WideSame o a b c d e f g h i k l m n = inl refl
last rule.WideNegation o a b c d e f g h i k l m n = absurd (k refl)
last rule.WideComplement o a b c d e f g h i k l m n = absurd (l refl)
last rule.BitsBoth o a b c d e f g h i k l m n = inr (inl refl)
last rule.BitsTest o a b c d e f g h i k l m n = absurd (m refl)
last rule.BitsShift o a b c d e f g h i k l m n = absurd (n refl)
last rule.BitsComplement o a b c d e f g h i k l m n = inr (inr refl)

pub less_signed : (k : Kind) (x : ℕ) (n : Number) (v : ℕ) → Reads k x n → v ≡ (if not n.signed then 1 else 0) → v ≡ (if is_signed k then 0 else 1)
less_signed k x n v f e = e ∙ ap (λ s. if not s then 1 else 0) f.sign ∙ by (is_signed k)
  where
    by : (s : Bool) → ◌≡◌ {A = ℕ} (if not s then 1 else 0) (if s then 0 else 1)
    by true = refl
    by false = refl

abbrev own_kinds : Kind → Kind → Kind → Operands
own_kinds j k a = record { left = j; right = k; answer = a }

bits_placed : (j k a : Kind) (t s : Bool) → t ≡ s → ◌≡◌ {A = Option Operands} (option_map (own_kinds j k) (if t then Some a else None)) (if s then Some (own_kinds j k a) else None)
bits_placed j k a true true e = refl
bits_placed j k a false false e = refl
bits_placed j k a true false e = absurd (cc)
bits_placed j k a false true e = absurd (cc)

pub test_placed : (j k : Kind) (s : Bool) → nat_eq (width_of j) (width_of k) ≡ s → placed_of rule.BitsTest j k ≡ (if s then Some (own_kinds j k kind.Bool) else None)
test_placed j k s e = bits_placed j k kind.Bool (nat_eq (width_of j) (width_of k)) s e

pub both_placed : (j k : Kind) (s : Bool) → nat_eq (width_of j) (width_of k) ≡ s → placed_of rule.BitsBoth j k ≡ (if s then Some (own_kinds j k (kind.Bv (width_of j))) else None)
both_placed j k s e = bits_placed j k (kind.Bv (width_of j)) (nat_eq (width_of j) (width_of k)) s e
