-- When combinational methods settle: they have an order, miss no root that they write, and name a root alone. This project's own.
use Rattle.std.specs.Prelude.{◌≡◌, ◌≤◌, ℕ, true, false, List, length, filter, slice_get, Some}
use Rattle.scc_core_spec.specs.Term.{Term, Left, Pick}
use Rattle.scc_core_spec.specs.Program.{Program, Process, Cell, is_root, is_held, is_combinational}
use Rattle.scc_core_spec.specs.Static.{Cells}
use Rattle.scc_core_spec.specs.Live.{live}
use Rattle.scc_core_spec.specs.Flow.{flow, every}
use Rattle.scc_core_spec.specs.Feeding.{feeds, IsOrder}
use Rattle.scc_core_spec.specs.Uses.{cells_of, is_single, has_sort, among}
use Rattle.scc_core_spec.specs.Kept.{written_by}
use Rattle.scc_blocks_spec.specs.Names.{holds_word}
use Rattle.scc_blocks_spec.specs.Passed.{all_reads}
use Rattle.scc_blocks_spec.specs.Acting.{Acting}
use Rattle.scc_blocks_spec.specs.Effect.{effect, Fell}
use Rattle.scc_blocks_spec.specs.Turns.{Regs, acted, found}
use Rattle.scc_core_effect_laws.specs.Sound.{SoundPut, Each, FitWords, FixedWords}

-- sound, and a root that it names it names alone
pub record Alone (cs : Cells) (l : Left) (k : Pick) (e : Term) : Type 0 where
  pub sound : SoundPut cs l k e
  pub single : (c : ℕ) → among c (cells_of cs l) ≡ true → has_sort is_root cs c ≡ true → is_single cs l ≡ true

abbrev pub AnyTest : Term → Type 0
AnyTest t = Unit {0}

pub record IsOrdered (p : Program) (order : List ℕ) : Type 0 where
  pub stands : IsOrder p order
  pub short : length order ≤ length (filter is_combinational p.processes)
  pub no_self : (i : ℕ) → feeds p i i ≡ false
  pub alone : (i : ℕ) (q : Process) → slice_get p.processes i ≡ Some q → is_combinational q ≡ true → Each (Alone p.cells) AnyTest (live p.cells q.body)
  pub misses : (i x : ℕ) (q : Process) → slice_get p.processes i ≡ Some q → is_combinational q ≡ true → has_sort is_root p.cells x ≡ true → among x (written_by p.cells q) ≡ true
      → (flow p.cells (live p.cells q.body) every).fall x ≡ false
  pub reads_held : (i c : ℕ) (q : Process) → slice_get p.processes i ≡ Some q → among c (all_reads p.cells q) ≡ true → has_sort is_held p.cells c ≡ true

-- Each combinational method comes to its end from what it finds in these registers, whose words fit.
pub record Answers (p : Program) (g : Regs) : Type 0 where
  pub fit : (i : ℕ) (q : Process) → slice_get p.processes i ≡ Some q → is_combinational q ≡ true → FitWords p.cells (found p i q g)
  pub fixed : (i : ℕ) (q : Process) → slice_get p.processes i ≡ Some q → is_combinational q ≡ true → FixedWords p.cells (found p i q g)
  pub falls : (i : ℕ) (q : Process) → slice_get p.processes i ≡ Some q → is_combinational q ≡ true → (b : Acting) × (effect p.cells (live p.cells q.body) (found p i q g) ≡ Fell b)

-- one more round of all combinational methods changes nothing
abbrev pub IsSettled : Program → Regs → Type 0
IsSettled p g = (c : ℕ) (x : Cell) → slice_get p.cells c ≡ Some x → holds_word p c ≡ true → (acted p (λ i q. is_combinational q) g).word c ≡ g.word c

-- the same words at roots that no combinational method writes
abbrev pub SameInputs : Program → Regs → Regs → Type 0
SameInputs p g h = (c : ℕ) → has_sort is_root p.cells c ≡ true
    → ((i : ℕ) (q : Process) → slice_get p.processes i ≡ Some q → is_combinational q ≡ true → among c (written_by p.cells q) ≡ true → ⊥) → g.word c ≡ h.word c

-- What is asked of an order, and of what processes read, beside the rules.
pub record HasOrder (p : Program) (order : List ℕ) : Type 0 where
  pub stands : IsOrder p order
  pub reads_held : (i c : ℕ) (q : Process) → slice_get p.processes i ≡ Some q → among c (all_reads p.cells q) ≡ true → has_sort is_held p.cells c ≡ true
