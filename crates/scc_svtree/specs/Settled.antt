-- Settled valuations: running any combinational block leaves the valuation as it is.
use Rattle.std.specs.Prelude.{◌≡◌, ℕ, ◌<◌, true, false, List, [], ◌∷◌, length, slice_index_or}
use Rattle.scc_svtree.specs.declared.module.SvBlock.{SvBlock}
use Rattle.scc_svtree.specs.declared.module.SvBlock.TheVariants.{Comb, Edge}
use Rattle.scc_svtree.specs.Code.{Code, End, code_of}
use Rattle.scc_svtree.specs.Running.{run}
use Rattle.scc_svtree.specs.Mentions.{code_reads, assigns}
use Rattle.scc_svtree.specs.Fresh.{IsFresh}

-- the code of the combinational blocks, in the module's order
abbrev pub combs_of : List SvBlock → List Code
combs_of [] = []
combs_of (Comb ss ∷ bs) = code_of ss ∷ combs_of bs
combs_of (Edge rising clock reset sets ∷ bs) = combs_of bs

abbrev pub block_at : List Code → ℕ → Code
block_at cs k = slice_index_or cs k End

-- Running each block leaves the valuation as it is.
abbrev pub Leaves : (ℕ → ℕ) → List Code → (ℕ → ℕ) → Type 0
Leaves width cs x = (k : ℕ) → k < length cs → (v : ℕ) → run width (block_at cs k) x v ≡ x v

-- the valuations are alike on what no block assigns: the inputs and the registers
abbrev pub AlikeOutside : List Code → (ℕ → ℕ) → (ℕ → ℕ) → Type 0
AlikeOutside cs x y = (v : ℕ) → ((k : ℕ) → k < length cs → assigns (block_at cs k) v ≡ false) → x v ≡ y v

-- x is settled, for the inputs and registers of `given`
pub record IsSettledFor (width : ℕ → ℕ) (cs : List Code) (given x : ℕ → ℕ) : Type 0 where
  pub leaves : Leaves width cs x
  pub alike : AlikeOutside cs given x

-- An order in which each block reads only what blocks before it assign, or no block, or it itself: `rank k` is the place of
-- block k. Exactly where there is none, blocks read in a cycle what others assign.
pub record Order (cs : List Code) : Type 0 where
  pub rank : ℕ → ℕ
  pub below : (k : ℕ) → k < length cs → rank k < length cs
  pub ordered : (j k v : ℕ) → j < length cs → k < length cs → assigns (block_at cs j) v ≡ true → code_reads (block_at cs k) v ≡ true → assigns (block_at cs k) v ≡ false → rank j < rank k

-- No two blocks assign one variable, each begins with whole values, and no cycle of them reads what it assigns.
pub record AreCombinational (cs : List Code) : Type 0 where
  pub drivers : (j k v : ℕ) → j < length cs → k < length cs → assigns (block_at cs j) v ≡ true → assigns (block_at cs k) v ≡ true → j ≡ k
  pub fresh : (k : ℕ) → k < length cs → IsFresh (block_at cs k)
  pub order : Order cs

-- For given inputs and registers there is exactly one settled valuation.
pub record SettlesOnce (width : ℕ → ℕ) (cs : List Code) (given : ℕ → ℕ) : Type 0 where
  pub settled : ℕ → ℕ
  pub is_settled : IsSettledFor width cs given settled
  pub only : (x : ℕ → ℕ) → IsSettledFor width cs given x → (v : ℕ) → x v ≡ settled v
