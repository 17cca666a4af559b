-- Stores, and requests to signals (IEEE 1666-2011, 4.2.1 and 6.4: evaluation, and update of signals).
use Rattle.std.specs.Prelude.{ℕ, List, [], ◌∷◌, Option, if◌then◌else◌}
use Rattle.scc_semantics.specs.Location.{Location, same}

-- the word of each numeric location, and what each pointer holds, None for null
pub record Store : Type 0 where
  pub words : Location → ℕ
  pub targets : Location → Option Location

-- a value that a signal or output is to take
pub record Request : Type 0 where
  pub root : Location
  pub word : ℕ

-- f, but v at l
abbrev pub changed : {A : Type 0} → Location → A → (Location → A) → Location → A
changed l v f m = if same l m then v else f m

-- the requests take effect, the last one of a root counting
abbrev pub updated : List Request → (Location → ℕ) → Location → ℕ
updated [] words = words
updated (r ∷ rs) words = updated rs (changed r.root r.word words)
