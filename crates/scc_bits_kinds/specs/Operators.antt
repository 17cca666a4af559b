-- The operators on exact whole numbers (C++ [expr]; IEEE 1666-2011, 7.2.2 and 7.2.8: precision of arithmetic, reductions).
use Rattle.std.specs.Prelude.{◌≡◌, ◌<◌, ℕ, ◌-◌, ◌%◌, ◌^◌, Bool, false, not, ◌&&◌, ◌||◌, ℤ, pos, ◌+ℤ◌, ◌-ℤ◌, ◌*ℤ◌, neg_ℤ, nat_eq, unsigned_abs, int_lt, int_div, int_rem, count_ones}
use Rattle.std.specs.Ordering.{int_eq}
use Rattle.scc_bits_kinds.specs.declared.op.Op.{Op}
use Rattle.scc_bits_kinds.specs.declared.op.Op.TheVariants as op
use Rattle.scc_bits_kinds.specs.Numbers.{low, both, either, differing, halved, bit}

-- a number as a condition
abbrev pub truth : ℤ → Bool
truth x = not (int_eq x (pos 0))

-- The operator's number for x and y. A unary operator takes x alone.
-- Div and Rem truncate toward zero. A shift's amount y isn't negative.
-- w is the width of x's bits, of which only a reduction speaks.
abbrev pub exact : Op → ℕ → ℤ → ℤ → ℤ
exact op.Add w x y = x +ℤ y
exact op.Sub w x y = x -ℤ y
exact op.Mul w x y = x *ℤ y
exact op.Div w x y = int_div x y
exact op.Rem w x y = int_rem x y
exact op.And w x y = both x y
exact op.Or w x y = either x y
exact op.Xor w x y = differing x y
exact op.Eq w x y = bit (int_eq x y)
exact op.Ne w x y = bit (not (int_eq x y))
exact op.Lt w x y = bit (int_lt x y)
exact op.Le w x y = bit (not (int_lt y x))
exact op.Gt w x y = bit (int_lt y x)
exact op.Ge w x y = bit (not (int_lt x y))
exact op.Shl w x y = x *ℤ pos (2 ^ unsigned_abs y)
exact op.Shr w x y = halved x (unsigned_abs y)
exact op.LogAnd w x y = bit (truth x && truth y)
exact op.LogOr w x y = bit (truth x || truth y)
exact op.Plus w x y = x
exact op.Neg w x y = neg_ℤ x
exact op.Not w x y = neg_ℤ x -ℤ pos 1
exact op.LogNot w x y = bit (not (truth x))
exact op.AndReduce w x y = bit (nat_eq (low w x) (2 ^ w - 1))
exact op.OrReduce w x y = bit (not (nat_eq (low w x) 0))
exact op.XorReduce w x y = bit (nat_eq (count_ones (low w x) % 2) 1)

-- the signs in which an operator takes its operands: both in one, or the amount of a shift unsigned
abbrev pub Signs : Op → Bool → Bool → Type 0
Signs op.Div s t = s ≡ t
Signs op.Rem s t = s ≡ t
Signs op.Eq s t = s ≡ t
Signs op.Ne s t = s ≡ t
Signs op.Lt s t = s ≡ t
Signs op.Le s t = s ≡ t
Signs op.Gt s t = s ≡ t
Signs op.Ge s t = s ≡ t
Signs op.Shl s t = t ≡ false
Signs op.Shr s t = t ≡ false
Signs _ s t = Unit {0}

-- a divisor isn't 0
abbrev pub Divisor : Op → ℕ → Type 0
Divisor op.Div y = 0 < y
Divisor op.Rem y = 0 < y
Divisor _ y = Unit {0}
