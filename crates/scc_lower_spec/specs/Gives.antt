-- What an emitted expression gives (IEEE 1800-2017, 11.6 and 11.8).
use Rattle.std.specs.Prelude.{◌≡◌, ℕ, Bool}
use Rattle.scc_svtree.specs.Sizes.{Sized}

-- an expression of this sign and length by itself, with this word
abbrev pub Gives : Bool → Sized → ℕ → ℕ → Type 0
Gives s e w v = (e.len ≡ w) × (e.signed ≡ s) × (e.word w s ≡ v)
