-- Indices: the value that the code finds, and the number that the definitions have. This project's own.
use Rattle.std.specs.Prelude.{◌≡◌, ℕ, ◌≤◌, Option, Some, None}
use Rattle.scc_bits.specs.Value.{Number}
use Rattle.scc_core.specs.Numbers.{small}

-- none of both, the same number, or one that is no number of an element
pub data Finds : Option Number → Option ℕ → Type 0 where
  unknown : Finds None None
  number : {v : Number} {i : ℕ} → small v ≡ Some i → Finds (Some v) (Some i)
  past : {v : Number} {i : ℕ} → small v ≡ None → 4294967296 ≤ i → Finds (Some v) (Some i)
