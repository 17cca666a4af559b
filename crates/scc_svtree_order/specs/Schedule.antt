-- Lists of combinational blocks in which each stands behind those that feed it.
use Rattle.std.specs.Prelude.{◌≡◌, ℕ, ◌<◌, nat_eq, Bool, true, false, not, ◌||◌, ◌&&◌, if◌then◌else◌, List, [], ◌∷◌, ◌++◌, length, slice_set}
use Rattle.std.specs.List.{list_all}
use Rattle.scc_svtree.specs.Code.{Code}
use Rattle.scc_svtree_order.specs.Cycles.{Feeds}
use Rattle.scc_svtree_order.specs.Fed.{Rows, has, row_at}
use Rattle.scc_svtree_order.specs.Search.{is_seen}

-- Once the list is done, every block is; each of its blocks has those that feed it done before.
abbrev pub Placed : List Code → (ℕ → Bool) → List ℕ → Type 0
Placed cs done [] = (k : ℕ) → k < length cs → done k ≡ true
Placed cs done (k ∷ ks) = (k < length cs) × ((j : ℕ) → Feeds cs j k → done j ≡ true) × Placed cs (λ i. nat_eq i k || done i) ks

abbrev pub IsSchedule : List Code → List ℕ → Type 0
IsSchedule cs ks = Placed cs (λ i. false) ks

-- ---- how it is made

-- not done, while what feeds it is
abbrev pub is_ready : Rows → List Bool → ℕ → Bool
is_ready g done k = not (is_seen done k) && list_all (λ j. is_seen done j) (row_at g k)

abbrev pub done_after : Rows → ℕ → List Bool → List Bool
done_after g k done = if is_ready g done k then slice_set done k true else done

abbrev pub list_after : Rows → ℕ → List Bool → List ℕ → List ℕ
list_after g k done list = if is_ready g done k then list ++ k ∷ [] else list

pub record RowsTell (g : Rows) (cs : List Code) : Type 0 where
  pub long : length g ≡ length cs
  pub feeds : (j k : ℕ) → Feeds cs j k → has (row_at g k) j ≡ true
  pub fed : (j k : ℕ) → has (row_at g k) j ≡ true → Feeds cs j k

abbrev pub Going : List Code → List Bool → List ℕ → Type 0
Going cs done list = (rest : List ℕ) → Placed cs (is_seen done) rest → IsSchedule cs (list ++ rest)

abbrev pub AreDone : Rows → List Bool → ℕ → Type 0
AreDone g done k = (j : ℕ) → has (row_at g k) j ≡ true → is_seen done j ≡ true

-- what a sweep over the blocks below n leaves
pub record Swept (g : Rows) (n : ℕ) (old : List Bool) (before : List ℕ) (done : List Bool) (list : List ℕ) : Type 0 where
  pub long : length done ≡ length old
  pub going : (cs : List Code) → RowsTell g cs → Going cs old before → Going cs done list
  pub kept : (i : ℕ) → is_seen old i ≡ true → is_seen done i ≡ true
  pub all : (i : ℕ) → i < n → AreDone g old i → is_seen done i ≡ true
