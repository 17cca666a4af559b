-- What passes over cores keep, what a core is that the rules accept, and how a thread is cut. This project's own.
use Rattle.std.specs.Prelude.{◌≡◌, ℕ, Bool, true, false, not, List, [], ◌∷◌, ◌++◌, map, filter, flat_map, Option, Some, None, option_map, slice_get}
use Rattle.scc_base.specs.declared.refusal.Place.{Place}
use Rattle.scc_semantics.specs.Location.{Location}
use Rattle.scc_semantics.specs.Same.{is_own, SameDesign}
use Rattle.scc_core_spec.specs.Term.{CellName}
use Rattle.scc_core_spec.specs.Code.{Code, End, Put, Aim, If, Block, Loop, Exit, Wait, waits_in}
use Rattle.scc_core_spec.specs.Program.{Program, Process, Cell, is_pointer, is_combinational, is_root, is_variable}
use Rattle.scc_core_spec.specs.Static.{Cells}
use Rattle.scc_core_spec.specs.Live.{live}
use Rattle.scc_core_spec.specs.Uses.{Use, reads_of, among, has_sort, is_single, cells_of}
use Rattle.scc_core_spec.specs.Clashes.{live_acts, names_of}
use Rattle.scc_core_spec.specs.Paths.{Misses, Early, MayNotWait, ReachesEnd}
use Rattle.scc_core_spec.specs.Feeding.{feeds, Reaches}
use Rattle.scc_core_spec.specs.Rules.{clocks, reset_cells, watched, own_uses, first_rule}
use Rattle.scc_core_spec.specs.Kept.{OneOf, written_by, kept}
use Rattle.scc_core_spec.specs.Segments.{Segment, all_segments, counts}
use Rattle.scc_core_spec.specs.Sizes.{live_body}
use Rattle.scc_core_spec.specs.Source.{Home, source_of}
use Rattle.scc_blocks_spec.specs.Comes.{Keeps}

-- the cells that are no pointers
abbrev pub plain_cells : Program → List Cell
plain_cells p = filter (λ c. not (is_pointer c.sort)) p.cells

-- a process but for its body; its sensitivity, edge and reset by the names of their cells
pub record Heading : Type 0 where
  pub is_thread : Bool
  pub name : CellName
  pub place : Place
  pub senses : List (Option CellName)
  pub edge : Option (Option CellName × Bool)
  pub reset : Option (Option CellName × Bool × Bool)

abbrev pub name_at : Cells → ℕ → Option CellName
name_at cs n = option_map (λ c. c.name) (slice_get cs n)

abbrev pub heading : Cells → Process → Heading
heading cs q = record {
  is_thread = q.is_thread;
  name = q.name;
  place = q.place;
  senses = map (name_at cs) q.senses;
  edge = option_map (λ e. (name_at cs e.cell, e.rising)) q.edge;
  reset = option_map (λ r. (name_at cs r.cell, r.level, r.asynchronous)) q.reset;
}

pub record SameShape (c m : Program) : Type 0 where
  pub top : c.top ≡ m.top
  pub cells : plain_cells c ≡ plain_cells m
  pub vectors : c.vectors ≡ m.vectors
  pub processes : map (heading c.cells) c.processes ≡ map (heading m.cells) m.processes

-- each local of each process has a root of its own, which is one of that process
pub record IsHome (home : Home) : Type 0 where
  pub injective : (i j m n : ℕ) → home i m ≡ home j n → (i ≡ j) × (m ≡ n)
  pub own : (i n : ℕ) → is_own i (home i n) ≡ true

-- The law of a pass: what it is given and what it gives mean the same, k statements at most for one.
pub record Law (k : ℕ) (constant : Location → Option ℕ) (c m : Program) : Type 0 where
  pub shape : SameShape c m
  pub keeps : (home : Home) → IsHome home → Keeps (source_of home m constant) → Keeps (source_of home c constant)
  pub same : (home : Home) → IsHome home → Keeps (source_of home m constant) → SameDesign k (source_of home c constant) (source_of home m constant)

-- the bodies of loops, at every depth
abbrev pub loops_in : Code → List Code
loops_in End = []
loops_in (Put p l k e r) = loops_in r
loops_in (Aim p to t r) = loops_in r
loops_in (If p t a b r) = loops_in a ++ (loops_in b ++ loops_in r)
loops_in (Block p b r) = loops_in b ++ loops_in r
loops_in (Loop p n b r) = b ∷ (loops_in b ++ loops_in r)
loops_in (Exit p n r) = loops_in r
loops_in (Wait p l n r) = loops_in r

abbrev pub all_reads : Cells → Process → List ℕ
all_reads cs q = flat_map (reads_of cs) (live_acts cs q)

abbrev pub all_named : Cells → Process → List ℕ
all_named cs q = flat_map (names_of cs) (live_acts cs q)

-- A core of which no rule is broken, by what paths do.
pub record Accepted (p : Program) : Type 0 where
  pub clock_data : (i x : ℕ) (q : Process) → slice_get p.processes i ≡ Some q → among x (clocks p) ≡ true → among x (reset_cells q.reset ++ (q.senses ++ all_reads p.cells q)) ≡ false
  pub writers : (i j x : ℕ) (q r : Process) → slice_get p.processes i ≡ Some q → slice_get p.processes j ≡ Some r → has_sort is_root p.cells x ≡ true
      → among x (written_by p.cells q) ≡ true → among x (written_by p.cells r) ≡ true → i ≡ j
  pub shared : (i j x : ℕ) (q r : Process) → slice_get p.processes i ≡ Some q → slice_get p.processes j ≡ Some r → has_sort is_variable p.cells x ≡ true
      → among x (all_named p.cells q) ≡ true → among x (written_by p.cells r) ≡ true → i ≡ j
  pub senses : (i x : ℕ) (q : Process) → slice_get p.processes i ≡ Some q → is_combinational q ≡ true → has_sort is_root p.cells x ≡ true
      → among x (all_reads p.cells q) ≡ true → among x q.senses ≡ true
  pub latches : (i x : ℕ) (q : Process) → slice_get p.processes i ≡ Some q → is_combinational q ≡ true → has_sort is_root p.cells x ≡ true
      → among x (written_by p.cells q) ≡ true → Misses p.cells (live p.cells q.body) x → ⊥
  pub cycles : (i : ℕ) → Reaches (feeds p) i i → ⊥
  pub early : (i x : ℕ) (q : Process) (at : Place) → slice_get p.processes i ≡ Some q → q.is_thread ≡ false → watched p q x ≡ true → Early p.cells (live p.cells q.body) x at → ⊥
  pub waits : (i : ℕ) (q : Process) → slice_get p.processes i ≡ Some q → q.is_thread ≡ false → waits_in q.body ≡ 0
  pub loops : (i : ℕ) (q : Process) (b : Code) → slice_get p.processes i ≡ Some q → OneOf b (loops_in (live p.cells q.body)) → MayNotWait p.cells b → ⊥
  pub ends : (i : ℕ) (q : Process) → slice_get p.processes i ≡ Some q → q.is_thread ≡ true → ReachesEnd p.cells (live p.cells q.body) → ⊥
  pub single : (i n x : ℕ) (q : Process) (u : Use) → slice_get p.processes i ≡ Some q → slice_get (own_uses q.body) n ≡ Some u
      → among x (cells_of p.cells u.left) ≡ true → has_sort is_root p.cells x ≡ true → is_single p.cells u.left ≡ true

-- the rules refuse nothing exactly where nothing stands that they speak of; to be proved where it is used
pub record TellsAccepted (p : Program) : Type 0 where
  pub seen : first_rule p ≡ None → Accepted p
  pub only : Accepted p → first_rule p ≡ None

-- a thread that is cut: its segments, of which the first is the reset segment, the counts of its waits, and what it keeps
pub record Thread : Type 0 where
  pub segments : List Segment
  pub waits : List ℕ
  pub kept : List ℕ

abbrev pub thread_of : Cells → ℕ → Process → Thread
thread_of cs i q = record { segments = all_segments (live_body cs q.body); waits = counts (live_body cs q.body); kept = kept cs i q }
