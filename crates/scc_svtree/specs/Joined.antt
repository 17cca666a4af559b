-- The bits of a concatenation, part by part.
use Rattle.std.specs.Prelude.{ℕ, ◌+◌, ◌*◌, ◌^◌, List, [], ◌∷◌}
use Rattle.scc_svtree.specs.Term.{Term}
use Rattle.scc_svtree.specs.Sizes.{value_of}
use Rattle.scc_svtree.specs.Sized.{total_length}

-- the first part stands at the top
abbrev pub joined_word : (ℕ → ℕ) → (ℕ → ℕ) → List Term → ℕ
joined_word width x [] = 0
joined_word width x (t ∷ ts) = value_of width x t * 2 ^ total_length width ts + joined_word width x ts
