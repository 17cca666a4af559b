-- The locals of a process in the order in which they get their numbers, and their cells. This project's own.
use Rattle.std.specs.Prelude.{◌≡◌, ℕ, Bool, true, false, List, [], ◌∷◌, ◌++◌, map, length, Option, Some, None, slice_get, if◌then◌else◌}
use Rattle.std.specs.List.{list_any}
use Rattle.scc_semantics.specs.Location.{Root, same_root}
use Rattle.scc_semantics.specs.Location as location
use Rattle.scc_core_spec.specs.Program as prog
use Rattle.scc_core_view.specs.Programs.{cell_of, path_of}
use Rattle.scc_elab_spec.specs.Numbering.{function_at}
use Rattle.scc_elab_spec.specs.Program.{Function, Plain}
use Rattle.scc_inline_spec.specs.Inlined.{own_cells}
use Rattle.scc_inline.specs.declared.scope.Growing.{Growing}
use Rattle.scc_inline.specs.declared.scope.Scope.{Scope}

-- a local or result that is named already, or is one more
abbrev pub one_more : List Root → Root → List Root
one_more rs r = if list_any (same_root r) rs then rs else rs ++ r ∷ []

abbrev pub added : List Root → List Root → List Root
added rs [] = rs
added rs (x ∷ xs) = added (one_more rs x) xs

abbrev pub has_cell : Option (Option ℕ) → Bool
has_cell (Some (Some c)) = true
has_cell (Some None) = false
has_cell None = false

abbrev pub is_given : Scope → ℕ → Bool
is_given s n = has_cell (slice_get s.locals.items n)

-- the function to which these calls of a process's function lead
pub record IsHere (p : Plain) (f : ℕ) (cs : List ℕ) (g : Function) : Type 0 where
  pub number : ℕ
  pub leads : function_at p f cs ≡ Some number
  pub is : slice_get p.functions number ≡ Some g

-- So far a process has these locals: each has its cells behind those in front, and the copy of a function knows which of its own have theirs.
pub record Stands (p : Plain) (f : ℕ) (front : List prog.Cell) (cs : List ℕ) (i : ℕ) (g : Growing) (s : Scope) (roots : List Root) : Type 0 where
  pub number : g.number ≡ i
  pub cells : map cell_of g.cells ≡ front ++ own_cells p i f (path_of g.process) 0 roots
  pub next : g.next ≡ length roots
  pub given : (n : ℕ) → is_given s n ≡ true → list_any (same_root (location.Local i cs n)) roots ≡ true
  pub free : (n : ℕ) → is_given s n ≡ false → list_any (same_root (location.Local i cs n)) roots ≡ false
  pub numbers : (n k : ℕ) → is_given s n ≡ true → slice_get s.numbers.items n ≡ Some k → slice_get roots k ≡ Some (location.Local i cs n)

-- one local more has its first cell and its number
pub record IsNumbered (old new : Scope) (n cell number : ℕ) : Type 0 where
  pub cell_here : slice_get new.locals.items n ≡ Some (Some cell)
  pub cells : (m : ℕ) → (m ≡ n → ⊥) → slice_get new.locals.items m ≡ slice_get old.locals.items m
  pub number_here : slice_get new.numbers.items n ≡ Some number
  pub numbers : (m : ℕ) → (m ≡ n → ⊥) → slice_get new.numbers.items m ≡ slice_get old.numbers.items m

pub record IsPut {A : Type 0} (old new : List A) (n : ℕ) (x : A) : Type 0 where
  pub here : slice_get new n ≡ Some x
  pub others : (m : ℕ) → (m ≡ n → ⊥) → slice_get new m ≡ slice_get old m

-- the same locals have their cells and numbers
pub record IsKept (old new : Scope) : Type 0 where
  pub cells : new.locals.items ≡ old.locals.items
  pub numbers : new.numbers.items ≡ old.numbers.items

-- nothing of these calls has its number
pub record IsFresh (i : ℕ) (cs : List ℕ) (roots : List Root) : Type 0 where
  pub answer : list_any (same_root (location.Answer i cs)) roots ≡ false
  pub locals : (n : ℕ) → list_any (same_root (location.Local i cs n)) roots ≡ false

-- no local has its number
abbrev pub IsNew : Scope → Type 0
IsNew s = (n : ℕ) → is_given s n ≡ false
