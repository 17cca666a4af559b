-- Which combinational method feeds which, cycles of them, and their order (IEEE 1666-2011, 4.2.1: the evaluation phase runs methods in any
-- order; that there is no cycle is this project's own).
use Rattle.std.specs.Prelude.{◌≡◌, ◌⊎◌, ◌<◌, ℕ, zero, suc, Bool, true, false, ◌&&◌, ◌||◌, not, nat_eq, List, [], ◌∷◌, ◌++◌, flat_map, filter, length, option_map, slice_get, unwrap_or}
use Rattle.std.specs.List.{list_any, list_all, range_with_len}
use Rattle.scc_core_spec.specs.Program.{Process, Program, is_root, is_combinational}
use Rattle.scc_core_spec.specs.Live.{live}
use Rattle.scc_core_spec.specs.Uses.{acts, reads_of, writes_of, among, has_sort}

-- a property of the process of that number
abbrev pub of_process : {A : Type 0} → A → (Process → A) → Program → ℕ → A
of_process none f p i = unwrap_or (option_map f (slice_get p.processes i)) none

abbrev pub reads_in : Program → ℕ → List ℕ
reads_in p i = of_process [] (λ q. flat_map (reads_of p.cells) (acts (live p.cells q.body))) p i

abbrev pub writes_in : Program → ℕ → List ℕ
writes_in p i = of_process [] (λ q. flat_map (writes_of p.cells) (acts (live p.cells q.body))) p i

abbrev pub is_method : Program → ℕ → Bool
is_method p i = of_process false is_combinational p i

-- the combinational methods, by their numbers
abbrev pub methods : Program → List ℕ
methods p = filter (is_method p) (range_with_len 0 (length p.processes))

-- i writes a root that j reads, both being combinational methods
abbrev pub feeds : Program → ℕ → ℕ → Bool
feeds p i j = is_method p i && (is_method p j && list_any (λ x. has_sort is_root p.cells x && among x (reads_in p j)) (writes_in p i))

abbrev pub Feeds : Type 0
Feeds = ℕ → ℕ → Bool

-- from one method to another along what is written and read, in one step or more
pub data Reaches (f : Feeds) : ℕ → ℕ → Type 0 where
  one : (i j : ℕ) → f i j ≡ true → Reaches f i j
  more : {k : ℕ} → (i j : ℕ) → f i j ≡ true → Reaches f j k → Reaches f i k

-- the same, over at most so many methods in between: the numbers below n
abbrev pub reaches : Feeds → ℕ → ℕ → ℕ → Bool
reaches f zero i j = f i j
reaches f (suc n) i j = let w = reaches f n in w i j || (w i n && w n j)

abbrev pub reaches_in : Program → ℕ → ℕ → Bool
reaches_in p i j = reaches (feeds p) (length p.processes) i j

-- the first method on a cycle, and the first method that reads a root which it writes and stands on a cycle with it, itself included
pub record IsFirstLoop (f : Feeds) (i j : ℕ) : Type 0 where
  pub cycle : Reaches f i i
  pub none_before : (k : ℕ) → k < i → Reaches f k k → ⊥
  pub beside : f i j ≡ true
  pub back : (j ≡ i) ⊎ Reaches f j i
  pub other_first : (k : ℕ) → k < j → f i k ≡ true → ((k ≡ i) ⊎ Reaches f k i) → ⊥

-- An order lists the methods; each comes after the others that write what it reads.
abbrev pub ready : Feeds → List ℕ → List ℕ → ℕ → Bool
ready f all placed i = not (among i placed) && list_all (λ j. nat_eq i j || (not (f j i) || among j placed)) all

-- at each place stands the least number that is ready there
pub data IsOrderFrom (f : Feeds) (all : List ℕ) : List ℕ → List ℕ → Type 0 where
  done : (placed : List ℕ) → ((i : ℕ) → among i all ≡ true → among i placed ≡ true) → IsOrderFrom f all placed []
  next : {rest : List ℕ} → (placed : List ℕ) (i : ℕ) → among i all ≡ true → ready f all placed i ≡ true
      → ((k : ℕ) → k < i → among k all ≡ true → ready f all placed k ≡ false) → IsOrderFrom f all (placed ++ i ∷ []) rest → IsOrderFrom f all placed (i ∷ rest)

abbrev pub IsOrder : Program → List ℕ → Type 0
IsOrder p order = IsOrderFrom (feeds p) (methods p) [] order
