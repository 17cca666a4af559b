-- Cycles, ranks and the search over rows of numbers, where row k has the numbers of what feeds block k.
use Rattle.std.specs.Prelude.{◌≡◌, ℕ, ◌<◌, ◌≤◌, nat_lt, Bool, true, false, not, ◌&&◌, if◌then◌else◌, List, ◌++◌, length, slice_index, slice_index_or, slice_set, Option, Some, None}
use Rattle.scc_svtree_order.specs.Fed.{Rows, has, row_at}
use Rattle.scc_svtree_order.specs.Cycles.{Path}

abbrev pub Step : Rows → ℕ → ℕ → Type 0
Step g j k = has (row_at g k) j ≡ true

abbrev pub Decides : Bool → Type 0 → Type 0
Decides true P = P
Decides false P = P → ⊥

-- Row k is on no cycle.
abbrev pub IsFree : Rows → ℕ → Type 0
IsFree g k = Path (Step g) k k → ⊥

pub record FirstRow (g : Rows) (k : ℕ) : Type 0 where
  pub within : k < length g
  pub cycle : Path (Step g) k k
  pub none_before : (j : ℕ) → j < k → IsFree g j

-- no row is on a cycle, or the first that is
abbrev pub Found : Rows → Option ℕ → Type 0
Found g None = (k : ℕ) → k < length g → IsFree g k
Found g (Some k) = FirstRow g k

-- Row k has a rank that is a place, above those of what feeds it.
pub record IsAbove (g : Rows) (rank : List ℕ) (k : ℕ) : Type 0 where
  pub below : slice_index rank k < length g
  pub above : (j : ℕ) → has (row_at g k) j ≡ true → slice_index rank j < slice_index rank k

abbrev pub Ranked : Rows → List ℕ → Type 0
Ranked g rank = (k : ℕ) → k < length g → IsAbove g rank k

-- No row has a rank below one that feeds it.
abbrev pub IsUpTo : Rows → List ℕ → ℕ → Type 0
IsUpTo g rank k = (j : ℕ) → has (row_at g k) j ≡ true → slice_index rank j ≤ slice_index rank k

abbrev pub Sorted : Rows → List ℕ → Type 0
Sorted g rank = (k : ℕ) → k < length g → IsUpTo g rank k

-- ---- the search from a row

abbrev pub is_seen : List Bool → ℕ → Bool
is_seen seen i = slice_index_or seen i false

abbrev pub is_new : Rows → List Bool → ℕ → Bool
is_new g seen j = nat_lt j (length g) && not (is_seen seen j)

-- A row from the stack is seen, and where it is new, those that feed it wait.
abbrev pub seen_after : Rows → ℕ → List Bool → List Bool
seen_after g j seen = if is_new g seen j then slice_set seen j true else seen

abbrev pub stack_after : Rows → ℕ → List Bool → List ℕ → List ℕ
stack_after g j seen stack = if is_new g seen j then stack ++ row_at g j else stack
