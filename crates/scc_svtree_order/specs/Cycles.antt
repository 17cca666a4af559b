-- Combinational blocks that read in a cycle what others assign. A block that reads what it assigns itself is none: it doesn't
-- wait for what it assigns (IEEE 1800-2017, 9.2.2.2.1).
use Rattle.std.specs.Prelude.{◌≡◌, ℕ, ◌<◌, true, false, List, length, Option, Some, None}
use Rattle.scc_svtree.specs.Code.{Code}
use Rattle.scc_svtree.specs.Mentions.{code_reads, assigns}
use Rattle.scc_svtree.specs.Settled.{block_at, Order}

-- from one to another by one step or more
pub data Path (step : ℕ → ℕ → Type 0) : ℕ → ℕ → Type 0 where
  one : (j k : ℕ) → step j k → Path step j k
  more : (i j k : ℕ) → step i j → Path step j k → Path step i k

-- Block j assigns a variable that block k reads and doesn't assign.
pub record Feeds (cs : List Code) (j k : ℕ) : Type 0 where
  pub first : j < length cs
  pub second : k < length cs
  pub variable : ℕ
  pub assigned : assigns (block_at cs j) variable ≡ true
  pub read : code_reads (block_at cs k) variable ≡ true
  pub other : assigns (block_at cs k) variable ≡ false

abbrev pub Reaches : List Code → ℕ → ℕ → Type 0
Reaches cs = Path (Feeds cs)

abbrev pub OnCycle : List Code → ℕ → Type 0
OnCycle cs k = Reaches cs k k

pub record FirstCycle (cs : List Code) (k : ℕ) : Type 0 where
  pub within : k < length cs
  pub cycle : OnCycle cs k
  pub none_before : (j : ℕ) → j < k → OnCycle cs j → ⊥

-- An order of the blocks, or the first that is on a cycle.
abbrev pub Said : List Code → Option ℕ → Type 0
Said cs None = Order cs
Said cs (Some k) = FirstCycle cs k
