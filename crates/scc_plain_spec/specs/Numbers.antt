-- Constants and operators on them (ISO C++ [expr.const]; IEEE 1666-2011, 7.2; how constants count beside large operands is this project's own).
use Rattle.std.specs.Prelude.{ℕ, zero, suc, ◌+◌, ◌^◌, nat_eq, nat_lt, nat_le, Bool, true, false, not, ℤ, pos, negsuc, List, [], ◌∷◌, Option, Some, None, unwrap_or, if◌then◌else◌}
use Rattle.std.specs.List.{list_all}
use Rattle.std.specs.Ordering.{int_eq}
use Rattle.scc_base.specs.declared.refusal.Place.{Place}
use Rattle.scc_base.specs.declared.code.Code.TheVariants as reason
use Rattle.scc_bits_kinds.specs.declared.kind.Kind.{Kind}
use Rattle.scc_bits_kinds.specs.declared.kind.Kind.TheVariants as kind
use Rattle.scc_bits_kinds.specs.declared.op.Op.{Op}
use Rattle.scc_bits_kinds.specs.declared.op.Op.TheVariants as op
use Rattle.scc_bits_kinds.specs.Kinds.{width_of, stored}
use Rattle.scc_bits_kinds.specs.Counts.{wide}
use Rattle.scc_bits_kinds.specs.Bits.{joined, concat_of, is_part, is_convertible, mixed_of}
use Rattle.scc_bits.specs.Value.{Number, exactly, counts_beside}
use Rattle.scc_bits.specs.Values.{kind_of, is_too_wide, applied}
use Rattle.scc_templates_spec.specs.Walk.{same_kind}
use Rattle.scc_templates_spec.specs.Walked.{Walked, pure, fault, and_walk}

abbrev pub int : Kind
int = kind.Native 32 true

abbrev pub number : Kind → ℕ → Number
number k w = record { kind = k; word = w }

-- the number in another kind, which may hold another one
abbrev pub stored_in : Kind → Number → Number
stored_in k n = number k (stored k (exactly n))

-- a conversion, refused at a place where there is none (E304)
abbrev pub converted : Place → Kind → Number → Walked Number
converted p k n = if is_convertible n.kind k then pure (stored_in k n) else fault reason.Mismatch p

-- the same number in another kind, refused where that doesn't hold it (E306)
abbrev pub held : Place → Kind → Number → Walked Number
held p k n = if int_eq (exactly (stored_in k n)) (exactly n) then pure (stored_in k n) else fault reason.ConstRange p

-- the number, where it is from 0 to 2^32 - 1
abbrev pub small : Number → Option ℕ
small n = below (exactly n)
  where
    below : ℤ → Option ℕ
    below (pos z) = if nat_lt z (2 ^ 32) then Some z else None
    below (negsuc z) = None

abbrev pub is_true : Number → Bool
is_true n = not (nat_eq n.word 0)

-- the least of so many widths, from one on, whose words hold a natural number
abbrev pub fewest : ℕ → ℕ → ℕ → ℕ
fewest zero w n = w
fewest (suc more) w n = if nat_lt n (2 ^ w) then w else fewest more (w + 1) n

-- the kind by which a constant counts beside a large operand (`CountsBy` of scc_bits_kinds)
abbrev pub counted_kind : ℤ → Kind
counted_kind (pos n) = wide (fewest 128 1 n) false
counted_kind (negsuc n) = wide (fewest 128 0 n + 1) true

abbrev pub kind_beside : Number → Kind → Kind
kind_beside n other = if counts_beside n.kind other then counted_kind (exactly n) else n.kind

abbrev pub is_shift : Op → Bool
is_shift op.Shl = true
is_shift op.Shr = true
is_shift _ = false

-- What the operator table refuses at a place for two kinds: no row (E304), more than 128 bits (E310); else the answer's kind goes on.
abbrev pub by_table : {A : Type 0} → Place → Op → Kind → Kind → (Kind → Walked A) → Walked A
by_table {A = A} p o j k f = by_answer (kind_of o j k)
  where
    by_answer : Option Kind → Walked A
    by_answer None = fault reason.Mismatch p
    by_answer (Some answer) = if is_too_wide o j k then fault reason.WideLoss p else f answer

-- a divisor is a constant that isn't 0
abbrev pub divides : Op → Option Number → Bool
divides op.Div None = false
divides op.Div (Some n) = is_true n
divides op.Rem None = false
divides op.Rem (Some n) = is_true n
divides _ n = true

abbrev pub answered : Op → Kind → Number → Number → Number
answered o k a b = number k (unwrap_or (applied o a.kind a.word b.kind b.word) 0)

-- an operator at a place on two constants; each counts by its value beside a large one, but not in a shift
abbrev pub operated : Place → Op → Number → Number → Walked Number
operated p o a b = if is_shift o then at_kinds a b else at_kinds (stored_in (kind_beside a b.kind) a) (stored_in (kind_beside b a.kind) b)
  where
    at_kinds : Number → Number → Walked Number
    at_kinds a b = by_table p o a.kind b.kind (λ k. if divides o (Some b) then pure (answered o k a b) else fault reason.Divisor p)

abbrev pub operated_alone : Place → Op → Number → Walked Number
operated_alone p o a = by_table p o a.kind a.kind (λ k. pure (answered o k a a))

-- the kind of `c ? a : b` for two kinds
abbrev pub choice_of : Kind → Kind → Option Kind
choice_of j k = if same_kind j k then Some j else mixed_of j k

abbrev pub chosen : Place → Bool → Number → Number → Walked Number
chosen p test a b = by_kind (choice_of (kind_beside a b.kind) (kind_beside b a.kind))
  where
    by_kind : Option Kind → Walked Number
    by_kind None = fault reason.Mismatch p
    by_kind (Some k) = pure (stored_in k (if test then a else b))

-- Concatenations: each part may be one, and all have at most 128 bits.
abbrev pub widths : List Kind → ℕ
widths [] = 0
widths (k ∷ ks) = width_of k + widths ks

-- the kind of the parts from the left, the first ones together being of a kind
abbrev pub joined_kinds : Kind → List Kind → Kind
joined_kinds j [] = j
joined_kinds j (k ∷ ks) = joined_kinds (unwrap_or (concat_of j k) j) ks

-- what is refused of a concatenation at a place, or its kind
abbrev pub concat_kind : Place → List Kind → Walked Kind
concat_kind p [] = fault reason.Mismatch p
concat_kind p (k ∷ ks) = if list_all is_part (k ∷ ks)
    then (if nat_le (widths (k ∷ ks)) 128 then pure (joined_kinds k ks) else fault reason.Width p)
    else fault reason.Mismatch p

abbrev pub joined_words : ℕ → List Number → ℕ
joined_words x [] = x
joined_words x (n ∷ ns) = joined_words (joined (width_of n.kind) x n.word) ns

abbrev pub kinds_of : List Number → List Kind
kinds_of [] = []
kinds_of (n ∷ ns) = n.kind ∷ kinds_of ns

abbrev pub concatenated : Place → List Number → Walked Number
concatenated p ns = and_walk (concat_kind p (kinds_of ns)) (λ k. pure (number k (joined_words 0 ns)))
