-- Where numbers stand first in lists. This project's own.
use Rattle.std.specs.Prelude.{ℕ, suc, nat_eq, List, [], ◌∷◌, Option, Some, None, if◌then◌else◌}

-- where a number stands first in a list, counted from k on
abbrev pub first_from : ℕ → ℕ → List ℕ → Option ℕ
first_from n k [] = None
first_from n k (x ∷ xs) = if nat_eq x n then Some k else first_from n (suc k) xs
