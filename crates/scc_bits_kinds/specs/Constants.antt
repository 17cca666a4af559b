-- How a constant counts beside a large operand: by its value, in place of its own kind.
use Rattle.std.specs.Prelude.{◌≡◌, ℕ, ◌≤◌, Bool, true, false, ℤ, pos, negsuc}
use Rattle.scc_bits_kinds.specs.declared.kind.Kind.{Kind}
use Rattle.scc_bits_kinds.specs.Numbers.{Holds}
use Rattle.scc_bits_kinds.specs.Kinds.{IsValid, is_signed, converted}
use Rattle.scc_bits_kinds.specs.Counts.{count_of, wide}

abbrev pub is_negative : ℤ → Bool
is_negative (pos n) = false
is_negative (negsuc n) = true

-- the kind by which a constant of value z counts: unsigned where z isn't negative, with the fewest bits that hold z
pub record CountsBy (z : ℤ) (k : Kind) : Type 0 where
  pub is_wide : k ≡ wide (count_of k) (is_negative z)
  pub is_valid : IsValid k
  pub holds : Holds (is_signed k) (count_of k) z
  pub least : (n : ℕ) → 1 ≤ n → Holds (is_signed k) n z → count_of k ≤ n
  pub keeps : converted k z ≡ z
