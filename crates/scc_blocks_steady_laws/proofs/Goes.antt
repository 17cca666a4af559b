-- Each process of a resolved core makes its turn, and a thread comes to a wait.
use Rattle.std.proofs.Common.{◌≡◌, ◌<◌, ◌+◌, ℕ, zero, suc, Bool, true, false, not, ◌&&◌, [], ◌∷◌, length, Option, Some, None, refl, sym, ap, ◌∙◌, subst, slice_get, if◌then◌else◌, arith}
use Rattle.std.specs.Prelude.{option_map, unwrap_or}
use Rattle.std.proofs.lemmas.Option.{slice_get_within}
use Rattle.scc_semantics.specs.Location.{Location, same}
use Rattle.scc_semantics.specs.Value.{Held}
use Rattle.scc_semantics_laws.proofs.Places.{same-self}
use Rattle.scc_core_spec.specs.Code.{waits_in}
use Rattle.scc_core_spec.specs.Constants.{constants_of}
use Rattle.scc_core_spec.specs.IsResolved.{IsResolved}
use Rattle.scc_core_spec.specs.Live.{live}
use Rattle.scc_core_spec.specs.Program as program
use Rattle.scc_core_spec.specs.Program.{Program, Process, is_pointer}
use Rattle.scc_core_spec.specs.Rules.{first_rule}
use Rattle.scc_core_spec.specs.Segments.{Segment, all_segments, counts}
use Rattle.scc_core_spec.specs.Sizes.{live_body, states}
use Rattle.scc_core_spec.specs.Source.{source_of, cell_location}
use Rattle.scc_core_spec.specs.Static.{Cells}
use Rattle.scc_core_spec.specs.WorkedRun.{home}
use Rattle.scc_blocks_spec.specs.Acting.{Acting}
use Rattle.scc_blocks_spec.specs.Effect as effects
use Rattle.scc_blocks_spec.specs.Effect.{Place, Ran, effect, run_segment}
use Rattle.scc_blocks_spec.specs.Names.{cell_numbered}
use Rattle.scc_blocks_spec.specs.Tied.{Registers}
use Rattle.scc_blocks_spec.specs.Turns.{Regs, Left, turn, thread_turn, method_left, reset_at, found, left_by, ran_segment, segment_at, behind_wait}
use Rattle.scc_states_path_laws.specs.Moved as moved
use Rattle.scc_states_path_laws.specs.Moved.{World, Halted, run_on}
use Rattle.scc_states_path_laws.specs.Tracks.{Tracks, MayEnd, Stands, segment_numbered, segment_or}
use Rattle.scc_states_path_laws.proofs.Exits.{never_ends}
use Rattle.scc_states_laws.specs.Alike.{Alike, TellsApart}
use Rattle.scc_states_laws.specs.Processes.{Reached, running_of, world_of}
use Rattle.scc_states_laws.specs.Same.{SameRan}
use Rattle.scc_states_laws.specs.Turned.{IsPlace}
use Rattle.scc_states_laws.proofs.Acts.{runs_alike}
use Rattle.scc_states_laws.proofs.Closed.{alone}
use Rattle.scc_states_laws.proofs.Fits.{fit_all, fit_at}
use Rattle.scc_states_laws.proofs.InTime.{ends_nowhere}
use Rattle.scc_states_laws.proofs.Standing.{quiet_loops, stands}
use Rattle.scc_states_laws.proofs.Statics.{tests_hold}
use Rattle.scc_states_laws.proofs.Tracking.{thread_is_tracked}
use Rattle.scc_states_laws.proofs.Unstuck.{turn_there, method_there}
use Rattle.scc_states_laws.proofs.Values.{some_same}
use Rattle.scc_core_resolved_laws.proofs.Apart.{tells-apart, locations-apart}
use Rattle.scc_core_resolved_laws.proofs.Bools.{and-first, and-both, not-false, nat_eq-is}
use Rattle.scc_core_resolved_laws.proofs.Homes.{own-home}
use Rattle.scc_core_resolved_laws.proofs.Inputs.{all-kept}
use Rattle.scc_core_resolved_laws.proofs.Parts.{exits, fits, cell-fits}
use Rattle.scc_core_runs_laws.proofs.Unbroken.{no-waits, no-loops, no-ends}
use Rattle.scc_blocks_run_laws.specs.Blocks.{IsProper, IsPlaceOf}
use Rattle.scc_blocks_steady_laws.proofs.Halts.{length-counts, counts-numbered}

module _ (p : Program) (core : IsResolved p) (none : first_rule p ≡ None) where
  -- ---- a store that holds what a process finds

  numbered-some : (l : Location) (m k : ℕ) (cs : Cells) (x : program.Cell) → slice_get cs k ≡ Some x → (same (cell_location home p x) l && not (is_pointer x.sort)) ≡ true → (n : ℕ) × (cell_numbered home p l m cs ≡ Some n)
  numbered-some l m k [] x e t = absurd (cc)
  numbered-some l m zero (c ∷ cs) x e t =
      (m, ap (λ b. if b then Some m else cell_numbered home p l (suc m) cs) (ap (λ z. same (cell_location home p z) l && not (is_pointer z.sort)) (some_same e) ∙ t))
  numbered-some l m (suc k) (c ∷ cs) x e t = by (same (cell_location home p c) l && not (is_pointer c.sort)) (numbered-some l (suc m) k cs x e t)
    where
      by : (b : Bool) → (n : ℕ) × (cell_numbered home p l (suc m) cs ≡ Some n) → (n : ℕ) × ((if b then Some m else cell_numbered home p l (suc m) cs) ≡ Some n)
      by true u = (m, refl)
      by false u = u

  numbered-is : (l : Location) (m n : ℕ) (cs : Cells) → cell_numbered home p l m cs ≡ Some n → (k : ℕ) × (x : program.Cell) × (n ≡ m + k) × (slice_get cs k ≡ Some x) × (same (cell_location home p x) l ≡ true)
  numbered-is l m n [] e = absurd (cc)
  numbered-is l m n (c ∷ cs) e = by (same (cell_location home p c) l && not (is_pointer c.sort)) refl e (numbered-is l (suc m) n cs)
    where
      by : (b : Bool) → (same (cell_location home p c) l && not (is_pointer c.sort)) ≡ b → (if b then Some m else cell_numbered home p l (suc m) cs) ≡ Some n
          → (cell_numbered home p l (suc m) cs ≡ Some n → (k : ℕ) × (x : program.Cell) × (n ≡ suc m + k) × (slice_get cs k ≡ Some x) × (same (cell_location home p x) l ≡ true))
          → (k : ℕ) × (x : program.Cell) × (n ≡ m + k) × (slice_get (c ∷ cs) k ≡ Some x) × (same (cell_location home p x) l ≡ true)
      by true t h more = let q = some_same h in (0, c, omega (arith, q), refl, and-first (same (cell_location home p c) l) (not (is_pointer c.sort)) t)
      by false t h more = let u = more h in (suc u.0, u.1, (let q = u.2 in omega (arith, q)), u.3, u.4)

  -- the cell that stands where it does
  numbered-there : (c : ℕ) (x : program.Cell) → slice_get p.cells c ≡ Some x → cell_numbered home p (cell_location home p x) 0 p.cells ≡ Some c
  numbered-there c x e =
      let plain = not-false (is_pointer x.sort) (and-first (not (is_pointer x.sort)) _ (cell-fits p core c x e)) in
      let u = numbered-some (cell_location home p x) 0 c p.cells x e (and-both (same (cell_location home p x) (cell_location home p x)) (not (is_pointer x.sort)) (same-self (cell_location home p x)) (ap not plain)) in
      let v = numbered-is (cell_location home p x) 0 u.0 p.cells u.1 in
      let one : v.0 ≡ c = nat_eq-is v.0 c (sym (locations-apart home own-home p core v.0 c v.1 x v.3 e) ∙ v.4) in
      let n : u.0 ≡ c = let q = v.2 in omega (arith, q, one) in
      u.1 ∙ ap Some n

  words : Acting → Location → ℕ
  words a l = unwrap_or (option_map a.now (cell_numbered home p l 0 p.cells)) 0

  abbrev holding : Acting → Held
  holding a = record { store = record { words = words a; targets = λ l. None }; requests = [] }

  alike-there : (a : Acting) → ((c : ℕ) → a.asked c ≡ None) → Alike home p (words a) a (holding a)
  unfolding words
  alike-there a calm = record {
    roots = λ c x e r. ap (λ o. unwrap_or (option_map a.now o) 0) (numbered-there c x e);
    numbers = λ c x e n. ap (λ o. unwrap_or (option_map a.now o) 0) (numbered-there c x e);
    asked = λ c x e r. sym (calm c);
  }

  module _ (i : ℕ) (q : Process) (g : slice_get p.processes i ≡ Some q) where
    abbrev cs : Cells
    cs = p.cells

    apart : TellsApart home p i q
    apart = tells-apart home own-home p core i q g

    tracked : (signals : Location → ℕ) → Tracks (world_of home (constants_of home p) p i signals) q.body (Reached (source_of home p (constants_of home p)) i (running_of home p i q) signals)
    tracked signals = thread_is_tracked home (constants_of home p) p i (running_of home p i q) signals q.body (all-kept home own-home p core) (stands home (constants_of home p) p i q g)
        (tests_hold home (constants_of home p) p i q signals apart q.body (fits p i q core g)) (quiet_loops p i q (no-loops p none) g)

    -- a place is one of the waits
    place-number : (place : Place) → IsPlaceOf cs q place → place.number < states cs q.body
    place-number place o =
        let n = slice_get_within (counts (live_body cs q.body)) place.number o.0 o.1 in
        let l : length (counts (live_body cs q.body)) ≡ waits_in (live cs q.body) = ap length (counts-numbered (live cs q.body) 0) ∙ length-counts (live cs q.body) in
        omega (arith, n, l)

    module _ (r : Registers) (regs : Regs) (pr : IsProper p r regs) where
      abbrev a : Acting
      a = found p i q regs

      placed : (o : Option Place) → regs.place i ≡ o → IsPlace cs q o
      placed None e = tt
      placed (Some at) e = place-number at (pr.places i q at g e)

      abbrev turned : Bool → Option Left
      turned b = if b then thread_turn cs q (reset_at regs.word q.reset) (regs.place i) a else method_left (effect cs (live cs q.body) a)

      pub goes : (l : Left) × (turn p i q regs ≡ Some l)
      goes = there q.is_thread refl
        where
          there : (b : Bool) → q.is_thread ≡ b → (l : Left) × (turned b ≡ Some l)
          there true e = turn_there q cs (fits p i q core g) (quiet_loops p i q (no-loops p none) g) (reset_at regs.word q.reset) (regs.place i) a (placed (regs.place i) refl)
          there false e = method_there q cs (fits p i q core g) (quiet_loops p i q (no-loops p none) g) a (alone p i q (no-waits p none) g e (exits p i q core g))

      -- ---- no segment comes to the end

      abbrev W : World
      W = world_of home (constants_of home p) p i (words a)

      no-end : q.is_thread ≡ true → MayEnd cs q.body → ⊥
      no-end t = never_ends cs q.body (exits p i q core g) (ends_nowhere p i q (no-ends p none) g t)

      not-ended : q.is_thread ≡ true → (b : Acting) (o : Halted) → SameRan home p (words a) (effects.Ends b) o → Stands W q.body o → ⊥
      not-ended t b (moved.Ends h) s st = no-end t st
      not-ended t b (moved.Waits n l h) s st = absurd s
      not-ended t b (moved.Fails h) s st = absurd s

      ended : q.is_thread ≡ true → (n : ℕ) (seg : Segment) (b : Acting) → segment_at cs q n ≡ Some seg → Stands W q.body (run_on W (segment_numbered W q.body n) (holding a)) → run_segment cs seg a ≡ effects.Ends b → ⊥
      ended t n seg b e st r =
          let same = runs_alike home (constants_of home p) p i q (words a) apart seg a (holding a) (alike-there a (λ c. refl)) (fit_at q cs (all_segments (live_body cs q.body)) n seg (fit_all q cs q.body (fits p i q core g)) e) in
          not-ended t b (run_on W seg (holding a)) (subst (λ o. SameRan home p (words a) o (run_on W seg (holding a))) r same) (subst (λ o. Stands W q.body (run_on W (segment_or W q.body o) (holding a))) e st)

      HasPlace : Left → Type 0
      HasPlace l = (place : Place) × (l.place ≡ Some place)

      from-ran : (b : Ran) (l : Left) → left_by None b ≡ Some l → ((c : Acting) → b ≡ effects.Ends c → ⊥) → HasPlace l
      unfolding HasPlace
      from-ran (effects.Waits c to) l e never = (to, ap (λ l. l.place) (sym (some_same e)))
      from-ran (effects.Ends c) l e never = absurd (never c refl)
      from-ran effects.Fails l e never = absurd (cc)

      from-segment : q.is_thread ≡ true → (n : ℕ) (l : Left) → Stands W q.body (run_on W (segment_numbered W q.body n) (holding a)) → ran_segment cs (segment_at cs q n) a ≡ Some l → HasPlace l
      from-segment t n l st e = by (segment_at cs q n) refl e
        where
          by : (o : Option Segment) → segment_at cs q n ≡ o → ran_segment cs o a ≡ Some l → HasPlace l
          by None f h = absurd (cc)
          by (Some seg) f h = from-ran (run_segment cs seg a) l h (λ c r. ended t n seg c f st r)

      from-begin : q.is_thread ≡ true → (l : Left) → ran_segment cs (segment_at cs q 0) a ≡ Some l → HasPlace l
      from-begin t l e = from-segment t 0 l ((tracked (words a)).stands (holding a)) e

      from-wait : q.is_thread ≡ true → (number left : ℕ) (l : Left) → number < states cs q.body → behind_wait cs q (record { number = number; left = left }) a ≡ Some l → HasPlace l
      unfolding HasPlace
      from-wait t number zero l below e = from-segment t (suc number) l ((tracked (words a)).stays false (record { number = number; left = 0 }) (holding a) below) e
      from-wait t number (suc left) l below e = (record { number = number; left = left }, ap (λ l. l.place) (sym (some_same e)))

      from-turn : q.is_thread ≡ true → (reset : Bool) (o : Option Place) (l : Left) → regs.place i ≡ o → thread_turn cs q reset o a ≡ Some l → HasPlace l
      from-turn t true o l e h = from-begin t l h
      from-turn t false None l e h = from-begin t l h
      from-turn t false (Some at) l e h = from-wait t at.number at.left l (place-number at (pr.places i q at g e)) h

      pub waits : (l : Left) → turn p i q regs ≡ Some l → q.is_thread ≡ true → (place : Place) × (l.place ≡ Some place)
      unfolding HasPlace
      waits l e t = from-turn t (reset_at regs.word q.reset) (regs.place i) l refl (sym (ap turned t) ∙ e)
