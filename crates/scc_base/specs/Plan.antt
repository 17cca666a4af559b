-- Calls that are to fail, by their numbers.
use Rattle.std.specs.Prelude.{ℕ, ◌+◌, ◌-◌, ◌^◌, min, List, Bool, nat_eq}
use Rattle.std.specs.List.{list_any}

-- a count of 64 bits, which stands still at its end
abbrev pub one_more : ℕ → ℕ
one_more count = min (count + 1) (2 ^ 64 - 1)

-- whether a call of this number is to fail
abbrev pub fails_at : List ℕ → ℕ → Bool
fails_at failing nth = list_any (nat_eq nth) failing
