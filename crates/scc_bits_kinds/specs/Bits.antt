-- Bits of words: selects, concatenations, and the kinds of both (IEEE 1666-2011, 7.2.5 to 7.2.7: bit-select, part-select, concatenation).
use Rattle.std.specs.Prelude.{ℕ, ◌+◌, ◌-◌, ◌*◌, ◌/◌, ◌%◌, ◌^◌, Bool, not, ◌&&◌, ◌||◌, nat_le, if◌then◌else◌, Option, Some, None}
use Rattle.scc_bits_kinds.specs.declared.kind.Kind.{Kind}
use Rattle.scc_bits_kinds.specs.declared.kind.Kind.TheVariants as kind
use Rattle.scc_bits_kinds.specs.Groups.{group_of, is_small, is_large, is_bits}
use Rattle.scc_bits_kinds.specs.Kinds.{width_of, is_bool}
use Rattle.scc_bits_kinds.specs.Counts.{common_of, wide_room}
use Rattle.scc_bits_kinds.specs.Table.{has_bits}

-- bits h down to l
abbrev pub part : ℕ → ℕ → ℕ → ℕ
part h l x = x / 2 ^ l % 2 ^ (h - l + 1)

-- the bits of x above h, then y, then the bits of x below l
abbrev pub replaced : ℕ → ℕ → ℕ → ℕ → ℕ
replaced h l x y = x / 2 ^ (h + 1) * 2 ^ (h + 1) + y * 2 ^ l + x % 2 ^ l

-- x above the low bits of y
abbrev pub joined : ℕ → ℕ → ℕ → ℕ
joined low x y = x * 2 ^ low + y

-- the kind of a range of so many bits, where a kind's bits have names
abbrev pub range_of : Kind → ℕ → Option Kind
range_of (kind.Int w) n = Some (kind.Uint n)
range_of (kind.Uint w) n = Some (kind.Uint n)
range_of (kind.Big w) n = Some (kind.Big n)
range_of (kind.BigInt w) n = Some (kind.Big n)
range_of (kind.Bv w) n = Some (kind.Bv n)
range_of _ n = None

-- the kinds that a concatenation may have as parts
abbrev pub is_part : Kind → Bool
is_part k = is_bool k || has_bits (group_of k)

-- the kind of two parts with n bits in all
abbrev pub joined_kind : Kind → Kind → ℕ → Kind
joined_kind j k n = if is_bits (group_of j) || is_bits (group_of k) then kind.Bv n else (if nat_le n 64 && not (is_large (group_of j) || is_large (group_of k)) then kind.Uint n else kind.Big n)

-- the kind of a concatenation of two parts
abbrev pub concat_of : Kind → Kind → Option Kind
concat_of j k = if is_part j && is_part k then Some (joined_kind j k (width_of j + width_of k)) else None

-- the kind of `c ? a : b` for two different kinds
abbrev pub mixed_of : Kind → Kind → Option Kind
mixed_of j k =
    if is_small (group_of j) && is_small (group_of k) then Some (common_of j k)
    else (if is_bits (group_of j) || is_bits (group_of k) then None else Some (wide_room j k))

-- the conversions that there are
abbrev pub is_convertible : Kind → Kind → Bool
is_convertible j k = not (is_bool k) || is_small (group_of j)
