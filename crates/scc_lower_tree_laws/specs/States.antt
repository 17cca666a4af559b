-- What a lowering is given and has made so far, and what it adds. This project's own.
use Rattle.std.specs.Prelude.{◌≡◌, ℕ, ◌*◌, ◌+◌, true, List, ◌++◌, map, Some, slice_get}
use Rattle.scc_core.specs.declared.program.Cell.{Cell as Held}
use Rattle.scc_core.specs.declared.statics.Known.{Known}
use Rattle.scc_core_spec.specs.Uses.{width_at}
use Rattle.scc_core_view.specs.Programs.{cell_of}
use Rattle.scc_svtree.specs.Code as emitted_code
use Rattle.scc_blocks_spec.specs.Shown.{Sight}
use Rattle.scc_blocks_spec.specs.Shown as shown
use Rattle.scc_lower_laws.specs.Sequence.{then_code}
use Rattle.scc_lower_laws.specs.Lowers.{IsNumbered, temporary}

-- how a cell is read and written: as a literal, as itself, as its next value, or read as itself and written as its next value
pub data Seen : Type 0 where
  Constant : (word : ℕ) → Seen
  Plain : Seen
  Next : Seen
  Delayed : Seen

-- how cells are viewed, the width of the number of the block that is being left, the widths of the temporaries, and the code that stands before
pub record State : Type 0 where
  pub views : List Seen
  pub exit : ℕ
  pub temporaries : List ℕ
  pub before : emitted_code.Code

-- More temporaries and more code before; all else stays.
pub record Leaves (old new : State) : Type 0 where
  pub more : List ℕ
  pub front : emitted_code.Code
  pub views : new.views ≡ old.views
  pub exit : new.exit ≡ old.exit
  pub temporaries : new.temporaries ≡ old.temporaries ++ more
  pub before : new.before ≡ then_code old.before front

-- the cells, and what is known of them before a run
pub record Given : Type 0 where
  pub cells : List Held
  pub known : Known

-- a cell that is read and written as itself
abbrev pub IsPlain : shown.View → Type 0
IsPlain (shown.Constant w) = ⊥
IsPlain shown.Read = Unit {0}
IsPlain shown.Driven = Unit {0}
IsPlain shown.Delayed = ⊥
IsPlain shown.Plain = Unit {0}
IsPlain shown.Next = ⊥

-- the view of the code is that of a process
abbrev pub IsView : Seen → shown.View → Type 0
IsView (Constant w) v = v ≡ shown.Constant w
IsView Plain v = IsPlain v
IsView Next v = v ≡ shown.Next
IsView Delayed v = v ≡ shown.Delayed

-- What the code is given is what a process sees, and the variables of its cells have their widths.
pub record Sees (held : List Held) (seen : List Seen) (s : Sight) (width : ℕ → ℕ) : Type 0 where
  pub cells : s.cells ≡ map cell_of held
  pub number : IsNumbered s
  pub views : (c : ℕ) (v : Seen) → s.mine c ≡ true → slice_get seen c ≡ Some v → IsView v (s.view c)
  pub present : (c : ℕ) → s.mine c ≡ true → width (2 * c) ≡ width_at s.cells c
  pub next : (c : ℕ) → s.mine c ≡ true → width (2 * c + 1) ≡ width_at s.cells c

-- the temporaries have these widths
abbrev pub Agrees : Sight → (ℕ → ℕ) → List ℕ → Type 0
Agrees s width ts = (i w : ℕ) → slice_get ts i ≡ Some w → width (temporary s i) ≡ w
