-- Texts by number.
use Rattle.std.specs.Prelude.{◌≡◌, ℕ, List, [], ◌∷◌, ◌++◌, Some, slice_get, codes, bytes_eq, if◌then◌else◌}
use Rattle.std.specs.List.{list_any}

-- the names 0 to 13
abbrev pub fixed_names : List (List ℕ)
fixed_names = codes "read" ∷ codes "write" ∷ codes "bind" ∷ codes "pos" ∷ codes "neg" ∷ codes "range" ∷ codes "and_reduce" ∷ codes "or_reduce" ∷ codes "xor_reduce" ∷ codes "to_int" ∷ codes "to_uint" ∷ codes "to_int64" ∷ codes "to_uint64" ∷ codes "switch" ∷ []

-- the table stays where it has the text, which else goes last
abbrev pub with_name : List (List ℕ) → List ℕ → List (List ℕ)
with_name names text = if list_any (bytes_eq text) names then names else names ++ text ∷ []

-- no text has two numbers
abbrev pub AllDiffer : List (List ℕ) → Type 0
AllDiffer names = (i j : ℕ) (text : List ℕ) → slice_get names i ≡ Some text → slice_get names j ≡ Some text → i ≡ j

-- names were added at the end alone
abbrev pub Keeps : List (List ℕ) → List (List ℕ) → Type 0
Keeps old new = (more : List (List ℕ)) × (new ≡ old ++ more)
