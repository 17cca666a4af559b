-- How a process views its cells, and what a valuation then shows: how the cells of a process stand among the variables of its block. This project's own.
-- With n cells the variable 2c is cell c, 2c + 1 its next value, 2n the number of the block that is being left; temporaries follow; a thread's state and counter stand
-- at the end of the numbers.
use Rattle.std.specs.Prelude.{◌≡◌, ℕ, ◌+◌, ◌*◌, ◌<◌, Bool, true, false, length, Option, Some, None, is_some}
use Rattle.scc_core_spec.specs.Program.{Program, Process, is_root}
use Rattle.scc_core_spec.specs.Static.{Cells}
use Rattle.scc_core_spec.specs.Kept.{written_by}
use Rattle.scc_core_spec.specs.Uses.{has_sort, among}
use Rattle.scc_blocks_spec.specs.Acting.{Acting, latest}
use Rattle.scc_blocks_spec.specs.Turns.{constant_at, lasts}
use Rattle.scc_blocks_spec.specs.Built.{cells_named}

pub data View : Type 0 where
  -- read as this literal, never written
  Constant : (word : ℕ) → View
  -- a root, read as itself, not written
  Read : View
  -- a root, written as itself, never read
  Driven : View
  -- a root, read as itself, written as its next value
  Delayed : View
  -- read and written as itself, 0 at first
  Plain : View
  -- read and written as its next value
  Next : View

abbrev pub view_of_root : Bool → Bool → View
view_of_root false clocked = Read
view_of_root true false = Driven
view_of_root true true = Delayed

abbrev pub view_by : Option ℕ → Bool → Bool → Bool → Bool → View
view_by (Some w) root written clocked last = Constant w
view_by None true written clocked last = view_of_root written clocked
view_by None false written clocked true = Next
view_by None false written clocked false = Plain

-- how a process views a cell
abbrev pub view_of : Program → ℕ → Process → ℕ → View
view_of p i q c = view_by (constant_at p c) (has_sort is_root p.cells c) (among c (written_by p.cells q)) (is_some q.edge) (lasts p.cells i q c)

-- what stands behind a view
abbrev pub IsView : Program → ℕ → Process → ℕ → View → Type 0
IsView p i q c (Constant w) = constant_at p c ≡ Some w
IsView p i q c Read = (constant_at p c ≡ None) × (has_sort is_root p.cells c ≡ true) × (among c (written_by p.cells q) ≡ false)
IsView p i q c Driven = (constant_at p c ≡ None) × (has_sort is_root p.cells c ≡ true) × (among c (written_by p.cells q) ≡ true) × (is_some q.edge ≡ false)
IsView p i q c Delayed = (constant_at p c ≡ None) × (has_sort is_root p.cells c ≡ true) × (among c (written_by p.cells q) ≡ true) × (is_some q.edge ≡ true)
IsView p i q c Plain = (constant_at p c ≡ None) × (has_sort is_root p.cells c ≡ false) × (lasts p.cells i q c ≡ false)
IsView p i q c Next = (constant_at p c ≡ None) × (has_sort is_root p.cells c ≡ false) × (lasts p.cells i q c ≡ true)

-- the word that was asked of a cell
abbrev pub IsAsked : Option ℕ → ℕ → Type 0
IsAsked None x = Unit {0}
IsAsked (Some w) x = x ≡ w

abbrev pub ShowsCell : View → ℕ → Acting → (ℕ → ℕ) → Type 0
ShowsCell (Constant w) c a x = a.now c ≡ w
ShowsCell Read c a x = x (2 * c) ≡ a.now c
ShowsCell Driven c a x = IsAsked (a.asked c) (x (2 * c))
ShowsCell Delayed c a x = (x (2 * c) ≡ a.now c) × (x (2 * c + 1) ≡ latest a c)
ShowsCell Plain c a x = x (2 * c) ≡ a.now c
ShowsCell Next c a x = x (2 * c + 1) ≡ a.now c

-- the cells that a process names
abbrev pub mine : Program → Process → ℕ → Bool
mine p q c = among c (cells_named p.cells q)

-- What lowered text speaks of: the cells, which of them the process names and how it views them.
pub record Sight : Type 0 where
  pub cells : Cells
  pub mine : ℕ → Bool
  pub view : ℕ → View

abbrev pub sight_of : Program → ℕ → Process → Sight
sight_of p i q = record { cells = p.cells; mine = mine p q; view = view_of p i q }

-- A valuation shows a store with requests, and no block is being left.
pub record Shows (s : Sight) (a : Acting) (x : ℕ → ℕ) : Type 0 where
  pub cells : (c : ℕ) → s.mine c ≡ true → ShowsCell (s.view c) c a x
  pub leaving : x (2 * length s.cells) ≡ 0

-- the numbers of a thread's own variables; those of the lowering are smaller
abbrev pub state_number : ℕ
state_number = 4294967295

abbrev pub next_state_number : ℕ
next_state_number = 4294967294

abbrev pub counter_number : ℕ
counter_number = 4294967293

abbrev pub next_counter_number : ℕ
next_counter_number = 4294967292

abbrev pub top_number : ℕ
top_number = 4294967292

-- the numbers of what is shown are those of the lowering
pub record IsSmall (s : Sight) : Type 0 where
  pub cells : (c : ℕ) → s.mine c ≡ true → 2 * c + 1 < top_number
  pub leaving : 2 * length s.cells < top_number
