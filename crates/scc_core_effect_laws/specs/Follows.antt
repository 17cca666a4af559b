-- What the steps of a core's design and those of its registers rest on: that its names are apart, what the rules tell, and that its processes do what their effects and
-- segments say. This project's own.
use Rattle.std.specs.Prelude.{◌≡◌, ◌<◌, ℕ, suc, Bool, true, false, nat_eq, Option, Some, None, slice_get, is_some, unwrap_or, if◌then◌else◌}
use Rattle.scc_semantics.specs.Location.{Location, same}
use Rattle.scc_semantics.specs.Store.{updated}
use Rattle.scc_semantics.specs.Design.{Design}
use Rattle.scc_semantics.specs.Start.{IsProper}
use Rattle.scc_semantics.specs.Value.{Held}
use Rattle.scc_semantics.specs.Machine.{Frames, Suspended, Ended, run}
use Rattle.scc_semantics.specs.Process.{State, Well, settle}
use Rattle.scc_core_spec.specs.Program.{Program, Process, Cell, Edge, Reset, is_root, is_variable, is_local, is_number, is_pointer}
use Rattle.scc_core_spec.specs.Static.{fixed_word}
use Rattle.scc_core_spec.specs.Live.{live}
use Rattle.scc_core_spec.specs.Uses.{among, has_sort}
use Rattle.scc_core_spec.specs.Kept.{written_by, is_local_of}
use Rattle.scc_core_spec.specs.Constants.{written, constants_of}
use Rattle.scc_core_spec.specs.Rules.{watched}
use Rattle.scc_core_spec.specs.Source.{Home, cell_location, source_of}
use Rattle.scc_blocks_spec.specs.Acting.{Acting}
use Rattle.scc_blocks_spec.specs.Effect.{Place, effect, Fell}
use Rattle.scc_blocks_spec.specs.Places.{frames_at}
use Rattle.scc_blocks_spec.specs.Passed.{all_named}
use Rattle.scc_blocks_spec.specs.Tied.{Tied, own_names, first_frames}
use Rattle.scc_blocks_spec.specs.Turns.{Regs, thread_turn, ran_segment, segment_at}
use Rattle.scc_core_effect_laws.specs.Sound.{FitWords, FixedWords, Sound}
use Rattle.scc_core_effect_laws.specs.Alike.{Late}

-- A sound core: the locations of its cells are apart, its live parts are sound, edges and resets are signals or ports of the top, threads have edges, a process names
-- no other's locals, and what no process can change is written by none.
pub record IsSoundCore (home : Home) (p : Program) : Type 0 where
  pub apart : (c d : ℕ) (x y : Cell) → slice_get p.cells c ≡ Some x → slice_get p.cells d ≡ Some y → is_pointer x.sort ≡ false → is_pointer y.sort ≡ false
      → same (cell_location home p x) (cell_location home p y) ≡ true → c ≡ d
  pub sound : (i : ℕ) (q : Process) → slice_get p.processes i ≡ Some q → Sound p.cells (live p.cells q.body)
  pub edges : (i : ℕ) (q : Process) → slice_get p.processes i ≡ Some q → q.is_thread ≡ true → is_some q.edge ≡ true
  pub edge_roots : (i : ℕ) (q : Process) (e : Edge) → slice_get p.processes i ≡ Some q → q.edge ≡ Some e → has_sort is_root p.cells e.cell ≡ true
  pub reset_roots : (i : ℕ) (q : Process) (r : Reset) → slice_get p.processes i ≡ Some q → q.reset ≡ Some r → has_sort is_root p.cells r.cell ≡ true
  pub own_locals : (i c : ℕ) (q : Process) → slice_get p.processes i ≡ Some q → has_sort is_local p.cells c ≡ true → among c (all_named p.cells q) ≡ true → has_sort (is_local_of i) p.cells c ≡ true
  pub fixed : (c : ℕ) (x : Cell) (w : ℕ) → slice_get p.cells c ≡ Some x → fixed_word x.sort ≡ Some w → among c (written p) ≡ false

-- What the rules tell: one writer of each root; a variable that a process writes no other names; a method reads no local, and a combinational one no variable that
-- some process writes, before it writes it whole.
pub record Obeys (p : Program) : Type 0 where
  pub writers : (i j x : ℕ) (q r : Process) → slice_get p.processes i ≡ Some q → slice_get p.processes j ≡ Some r → has_sort is_root p.cells x ≡ true
      → among x (written_by p.cells q) ≡ true → among x (written_by p.cells r) ≡ true → i ≡ j
  pub shared : (i j x : ℕ) (q r : Process) → slice_get p.processes i ≡ Some q → slice_get p.processes j ≡ Some r → has_sort is_variable p.cells x ≡ true
      → among x (all_named p.cells q) ≡ true → among x (written_by p.cells r) ≡ true → i ≡ j
  pub late : (i x : ℕ) (q : Process) → slice_get p.processes i ≡ Some q → q.is_thread ≡ false → watched p q x ≡ true → Late p.cells (nat_eq x) (live p.cells q.body)

abbrev pub design_of : Home → Program → Design
design_of home p = source_of home p (constants_of home p)

-- what a process finds: proper signals at roots, the store's words, which are proper too, at variables and locals, and nothing asked yet
pub record Meets (home : Home) (p : Program) (signals words : Location → ℕ) (a : Acting) : Type 0 where
  pub shown : IsProper (design_of home p) signals
  pub held : IsProper (design_of home p) words
  pub roots : (c : ℕ) (x : Cell) → slice_get p.cells c ≡ Some x → is_root x.sort ≡ true → a.now c ≡ signals (cell_location home p x)
  pub numbers : (c : ℕ) (x : Cell) → slice_get p.cells c ≡ Some x → is_number x.sort ≡ true → a.now c ≡ words (cell_location home p x)
  pub calm : (c : ℕ) → a.asked c ≡ None
  pub fit : FitWords p.cells a
  pub fixed : FixedWords p.cells a

-- what it leaves, from the store and requests that it found: the words of variables and locals, and the requests to roots behind those before
pub record Leaves (home : Home) (p : Program) (old new : Held) (a : Acting) : Type 0 where
  pub numbers : (c : ℕ) (x : Cell) → slice_get p.cells c ≡ Some x → is_number x.sort ≡ true → new.store.words (cell_location home p x) ≡ a.now c
  pub roots : (c : ℕ) (x : Cell) → slice_get p.cells c ≡ Some x → is_root x.sort ≡ true → new.store.words (cell_location home p x) ≡ old.store.words (cell_location home p x)
  pub asked : (c : ℕ) (x : Cell) (w : Location → ℕ) → slice_get p.cells c ≡ Some x → is_root x.sort ≡ true
      → updated new.requests w (cell_location home p x) ≡ unwrap_or (a.asked c) (updated old.requests w (cell_location home p x))
  pub unasked : (c : ℕ) (x : Cell) (w : Location → ℕ) → slice_get p.cells c ≡ Some x → is_number x.sort ≡ true
      → updated new.requests w (cell_location home p x) ≡ updated old.requests w (cell_location home p x)

abbrev pub runs : Home → Program → (Location → ℕ) → ℕ → Frames → Held → Rattle.scc_semantics.specs.Machine.Outcome
runs home p signals n f h = run (design_of home p).places (design_of home p).functions signals n f h

-- A method's run is the effect of its live body, within these bounds.
pub record Does (home : Home) (p : Program) (bounds : ℕ → ℕ) : Type 0 where
  pub does : (i : ℕ) (q : Process) (signals : Location → ℕ) (h : Held) (a : Acting) → slice_get p.processes i ≡ Some q → q.is_thread ≡ false → Meets home p signals h.store.words a
      → (b : Acting) × (k : Held) × (effect p.cells (live p.cells q.body) a ≡ Fell b) × (runs home p signals (bounds i) (first_frames home p i q) h ≡ Ended k) × Leaves home p h k b

-- a thread stands at its place, or before its first statement
abbrev pub StandsAt : Home → Program → ℕ → Process → Option Place → Frames → Type 0
StandsAt home p i q None f = f ≡ first_frames home p i q
StandsAt home p i q (Some place) f = frames_at home p.cells i (own_names i) q.body place ≡ Some f

-- A thread's resume, under reset or from its place, is its segment, or counts: it comes to a wait, within these bounds.
pub record Tracks (home : Home) (p : Program) (bounds : ℕ → ℕ) : Type 0 where
  pub tracks : (i : ℕ) (q : Process) (reset : Bool) (place : Option Place) (f : Frames) (signals : Location → ℕ) (h : Held) (a : Acting) → slice_get p.processes i ≡ Some q → q.is_thread ≡ true
      → StandsAt home p i q place f → Meets home p signals h.store.words a
      → (b : Acting) × (to : Place) × (g : Frames) × (k : Held) × (thread_turn p.cells q reset place a ≡ Some (record { acting = b; place = Some to }))
      × (runs home p signals (bounds i) (if reset then first_frames home p i q else f) h ≡ Suspended g k) × Leaves home p h k b × StandsAt home p i q (Some to) g

-- the design settles, in a state that is tied to these registers
pub record SettleFollows (home : Home) (p : Program) (bounds : ℕ → ℕ) (s : State) (g : Regs) : Type 0 where
  pub to : State
  pub goes : settle bounds (design_of home p) s ≡ Well to
  pub tied : Tied home p to g

-- A thread's resume before its first statement, or behind a wait that is over, is its segment: it comes to a wait, within these bounds.
pub record RunsSegments (home : Home) (p : Program) (bounds : ℕ → ℕ) : Type 0 where
  pub enough : (i : ℕ) (q : Process) → slice_get p.processes i ≡ Some q → q.is_thread ≡ true → 0 < bounds i
  pub begins : (i : ℕ) (q : Process) (signals : Location → ℕ) (h : Held) (a : Acting) → slice_get p.processes i ≡ Some q → q.is_thread ≡ true → Meets home p signals h.store.words a
      → (b : Acting) × (to : Place) × (g : Frames) × (k : Held) × (ran_segment p.cells (segment_at p.cells q 0) a ≡ Some (record { acting = b; place = Some to }))
      × (runs home p signals (bounds i) (first_frames home p i q) h ≡ Suspended g k) × Leaves home p h k b × StandsAt home p i q (Some to) g
  pub goes_on : (i : ℕ) (q : Process) (number : ℕ) (f : Frames) (signals : Location → ℕ) (h : Held) (a : Acting) → slice_get p.processes i ≡ Some q → q.is_thread ≡ true
      → frames_at home p.cells i (own_names i) q.body (record { number = number; left = 0 }) ≡ Some f → Meets home p signals h.store.words a
      → (b : Acting) × (to : Place) × (g : Frames) × (k : Held) × (ran_segment p.cells (segment_at p.cells q (suc number)) a ≡ Some (record { acting = b; place = Some to }))
      × (runs home p signals (bounds i) f h ≡ Suspended g k) × Leaves home p h k b × StandsAt home p i q (Some to) g
