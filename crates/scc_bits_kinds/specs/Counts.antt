-- Promotion, the common kind of small operands, and how operands count beside a large one.
-- C++ [conv.prom] and [expr.arith.conv] for 32 and 64 bits; IEEE 1666-2011, 7.5: limited integers compute as 64 bits.
-- All that stands of large operands is this project's profile of IEEE 1666-2011, 7.6.
use Rattle.std.specs.Prelude.{ℕ, ◌+◌, max, min, Bool, true, false, not, ◌&&◌, ◌||◌, nat_eq, nat_lt, if◌then◌else◌}
use Rattle.scc_bits_kinds.specs.declared.kind.Kind.{Kind}
use Rattle.scc_bits_kinds.specs.declared.kind.Kind.TheVariants as kind
use Rattle.scc_bits_kinds.specs.Kinds.{width_of, is_signed}

-- the kind that a small operand is promoted to
abbrev pub promoted : Kind → Kind
promoted kind.Bool = kind.Native 32 true
promoted (kind.Native w s) = if nat_lt w 32 then kind.Native 32 true else kind.Native w s
promoted (kind.Int w) = kind.Native 64 true
promoted (kind.Uint w) = kind.Native 64 false
promoted k = k

abbrev pub is_long : Kind → Bool
is_long k = nat_eq (width_of k) 64

-- the common kind of two promoted ones
abbrev pub meeting : Kind → Kind → Kind
meeting j k =
    if is_long j || is_long k
    then kind.Native 64 (not ((is_long j && not (is_signed j)) || (is_long k && not (is_signed k))))
    else kind.Native 32 (is_signed j && is_signed k)

-- the common kind of two small operands
abbrev pub common_of : Kind → Kind → Kind
common_of j k = meeting (promoted j) (promoted k)

-- b: the bits that a kind counts with beside a large operand
abbrev pub count_of : Kind → ℕ
count_of (kind.Wide b s) = b
count_of k = width_of k

-- s: whether one of both operands is signed
abbrev pub some_signed : Kind → Kind → Bool
some_signed j k = is_signed j || is_signed k

-- b': the bits that hold a kind's numbers beside signed ones, where s
abbrev pub padded : Bool → Kind → ℕ
padded s k = count_of k + (if s && not (is_signed k) then 1 else 0)

-- max b': the bits that hold the numbers of both kinds
abbrev pub room : Kind → Kind → ℕ
room j k = max (padded (some_signed j k) j) (padded (some_signed j k) k)

-- the bits of a quotient
abbrev pub quotient_bits : Kind → Kind → ℕ
quotient_bits j k = room j k + (if some_signed j k then 1 else 0)

-- the kind of a large number of so many bits: sums past 255 are 255
abbrev pub wide : ℕ → Bool → Kind
wide b s = kind.Wide (min b 255) s

-- the kind in which large operands are compared
abbrev pub wide_room : Kind → Kind → Kind
wide_room j k = wide (room j k) (some_signed j k)
