-- Names that may stand in emitted text.
use Rattle.std.specs.Prelude.{◌≡◌, ℕ, List, true}
use Rattle.scc_svtree.specs.Sound.{Each, is_simple}

-- each name is an identifier
abbrev pub AreIdentifiers : List (List ℕ) → Type 0
AreIdentifiers names = Each (λ n. is_simple n ≡ true) names
