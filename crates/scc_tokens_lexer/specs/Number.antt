-- Integer literals: their forms, and the first kind that holds each (C++, "Integer literals").
use Rattle.std.specs.Prelude.{ℕ, ◌+◌, ◌-◌, ◌*◌, ◌^◌, List, [], ◌∷◌, take, drop, length, Bool, true, false, ◌||◌, ◌&&◌, not, ◌==◌, nat_le, nat_lt, if◌then◌else◌, Option, Some, None, option_and_then, option_map, codes, bytes_eq, slice_index}
use Rattle.std.specs.List.{prefix_len}
use Rattle.scc_bits_kinds.specs.declared.kind.Kind.{Kind}
use Rattle.scc_bits_kinds.specs.declared.kind.Kind.TheVariants.{Native}
use Rattle.scc_bits_kinds.specs.declared.kind.Word.{Word}

-- the value of a digit, 36 where the byte is a digit of no base
abbrev pub digit_of : ℕ → ℕ
digit_of b = if nat_le 48 b && nat_le b 57 then b - 48 else if nat_le 97 b && nat_le b 122 then b - 97 + 10 else if nat_le 65 b && nat_le b 90 then b - 65 + 10 else 36

-- how many digits of the base stand at the front
abbrev pub digits_len : ℕ → List ℕ → ℕ
digits_len base bytes = prefix_len (λ b. nat_lt (digit_of b) base) bytes

-- the base, and the bytes in which the digits stand: an octal literal begins with its first digit, 0
abbrev pub radix_of : List ℕ → ℕ × List ℕ
radix_of [] = (10, [])
radix_of (a ∷ []) = if a == 48 then (8, a ∷ []) else (10, a ∷ [])
radix_of (a ∷ b ∷ s) =
    if a == 48 then (if b == 120 || b == 88 then (16, s) else if b == 98 || b == 66 then (2, s) else (8, a ∷ b ∷ s))
    else (10, a ∷ b ∷ s)

-- `u` or `U`
abbrev pub is_unsigned_mark : ℕ → Bool
is_unsigned_mark b = b == 117 || b == 85

abbrev pub is_long : List ℕ → Bool
is_long s = bytes_eq s (codes "l") || bytes_eq s (codes "L") || bytes_eq s (codes "ll") || bytes_eq s (codes "LL")

-- what stands behind the digits: whether it has a `u`, and whether it has an `l` or `ll`; none where it is neither order of these
abbrev pub suffix_of : List ℕ → Option (Bool × Bool)
suffix_of s =
    if length s == 0 then Some (false, false)
    else if is_long s then Some (false, true)
    else if is_unsigned_mark (slice_index s 0) && length s == 1 then Some (true, false)
    else if is_unsigned_mark (slice_index s 0) && is_long (drop 1 s) then Some (true, true)
    else if is_unsigned_mark (slice_index s (length s - 1)) && is_long (take (length s - 1) s) then Some (true, true)
    else None

-- the number that digits write behind a number
abbrev pub digits_value : ℕ → ℕ → List ℕ → ℕ
digits_value base n [] = n
digits_value base n (d ∷ ds) = digits_value base (n * base + digit_of d) ds

-- the first kind that holds the number, of those that the base and the suffix allow
abbrev pub literal_kind : Bool → Bool → Bool → ℕ → Option Kind
literal_kind decimal unsigned long n =
    if not unsigned && not long && nat_lt n (2 ^ 31) then Some (Native 32 true)
    else if (unsigned || not decimal) && not long && nat_lt n (2 ^ 32) then Some (Native 32 false)
    else if not unsigned && nat_lt n (2 ^ 63) then Some (Native 64 true)
    else if (unsigned || not decimal) && nat_lt n (2 ^ 64) then Some (Native 64 false)
    else None

abbrev pub with_word : ℕ → Kind → Kind × Word
with_word n k = (k, record { bits = n })

-- the kind and the word of a literal, none where it has no form or no kind holds it
unfoldable pub literal_of : List ℕ → Option (Kind × Word)
literal_of s =
    let r = radix_of s in
    let n = digits_len r.0 r.1 in
    if n == 0 then None
    else option_and_then (λ x. option_map (with_word (digits_value r.0 0 (take n r.1))) (literal_kind (r.0 == 10) x.0 x.1 (digits_value r.0 0 (take n r.1)))) (suffix_of (drop n r.1))
