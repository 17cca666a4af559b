-- Runs of a resolved core's processes are effects and segments, whatever other processes asked before in the phase.
use Rattle.std.proofs.Common.{◌≡◌, ℕ, ◌≤◌, ◌<◌, ◌+◌, ◌*◌, Bool, true, false, List, [], ◌∷◌, ◌++◌, Option, Some, None, refl, sym, ap, ◌∙◌, subst, slice_get, if◌then◌else◌, arith}
use Rattle.std.specs.Prelude.{option_and_then, unwrap_or}
use Rattle.scc_semantics.specs.Location.{Location, Part, same}
use Rattle.scc_semantics.specs.Design.{Design}
use Rattle.scc_semantics.specs.Places.{Thing, Port}
use Rattle.scc_semantics.specs.Store.{Request, changed, updated}
use Rattle.scc_semantics.specs.Machine.{Frames, Suspended, Ended}
use Rattle.scc_semantics.specs.Start.{IsProper}
use Rattle.scc_semantics.specs.Value.{Held}
use Rattle.scc_semantics_laws.specs.Words.{PlainFrames}
use Rattle.scc_semantics_laws.proofs.Places.{same-self}
use Rattle.scc_core_spec.specs.Code.{Code, End, Put, Aim, If, Block, Loop, Exit, Wait, size}
use Rattle.scc_core_spec.specs.Constants.{constants_of}
use Rattle.scc_core_spec.specs.IsResolved.{IsResolved}
use Rattle.scc_core_spec.specs.Live.{live, alive}
use Rattle.scc_core_spec.specs.Named.{path_steps}
use Rattle.scc_core_spec.specs.Program as program
use Rattle.scc_core_spec.specs.Program.{Program, Process, Cell, Sort, is_root, is_number, is_pointer}
use Rattle.scc_core_spec.specs.Rules.{loop_may_not_wait, wait_in_method, end_reached}
use Rattle.scc_core_spec.specs.Sizes.{loops_deep}
use Rattle.scc_core_spec.specs.Static.{Cells}
use Rattle.scc_core_spec.specs.Source.{Home, at_top, thing_of, cell_there, cell_location}
use Rattle.scc_blocks_spec.specs.Acting.{Acting}
use Rattle.scc_blocks_spec.specs.Effect.{Place, Effect, Fell, Left_out, Lost, effect}
use Rattle.scc_blocks_spec.specs.Passed.{IsHome}
use Rattle.scc_blocks_spec.specs.Places.{frames_at}
use Rattle.scc_blocks_spec.specs.Tied.{own_names, first_frames}
use Rattle.scc_blocks_spec.specs.Turns.{Left, thread_turn, method_left}
use Rattle.scc_states_path_laws.specs.Aside.{aside, behind}
use Rattle.scc_states_path_laws.specs.Tracks.{steps_of}
use Rattle.scc_states_path_laws.proofs.Aside.{runs_aside}
use Rattle.scc_states_path_laws.proofs.Exits.{never_ends}
use Rattle.scc_states_laws.specs.Alike.{Alike, last_to, or_before}
use Rattle.scc_states_laws.specs.Turned.{LeftSo}
use Rattle.scc_states_laws.proofs.Closed.{alone}
use Rattle.scc_states_laws.proofs.InTime.{ends_nowhere}
use Rattle.scc_states_laws.proofs.Standing.{quiet_loops}
use Rattle.scc_states_laws.proofs.Unstuck.{turn_there, method_there}
use Rattle.scc_states_laws.proofs.Values.{some_same, thing_at, port_names}
use Rattle.scc_core_effect_laws.specs.Follows.{Meets, Leaves, Does, RunsSegments, design_of, runs}
use Rattle.scc_core_resolved_laws.proofs.Apart.{find-is, tells-apart}
use Rattle.scc_core_resolved_laws.proofs.Assigned.{Proper}
use Rattle.scc_core_resolved_laws.proofs.Coming.{first-stands}
use Rattle.scc_core_resolved_laws.proofs.Freed.{written-free}
use Rattle.scc_core_resolved_laws.proofs.Parts.{exits, fits}
use Rattle.scc_core_resolved_laws.proofs.Starting.{there-is}
use Rattle.scc_core_resolved_laws.proofs.Steady.{plain-code}
use Rattle.scc_core_resolved_laws.proofs.Valued.{root-of}
use Rattle.scc_core_runs_laws.specs.Spared.{holds_number, PortsLead, Spared, SparesTo}
use Rattle.scc_core_runs_laws.proofs.Spared.{updated-two, run-spares}
use Rattle.scc_core_runs_laws.proofs.Turning.{Is, tracks, thread-turns, method-turns}
use Rattle.scc_core_runs_laws.proofs.Waiting.{place-stands}

no-more : (rs : List Request) → rs ++ [] ≡ rs
no-more [] = refl
no-more (r ∷ rs) = ap (λ z. r ∷ z) (no-more rs)

updated-last : (qs : List Request) (w : Location → ℕ) (l : Location) → updated qs w l ≡ unwrap_or (last_to l qs) (w l)
updated-last [] w l = refl
updated-last (r ∷ qs) w l = updated-last qs (changed r.root r.word w) l ∙ by (last_to l qs) (same r.root l) refl
  where
    by : (o : Option ℕ) (b : Bool) → same r.root l ≡ b → unwrap_or o (changed r.root r.word w l) ≡ unwrap_or (or_before o (if same r.root l then Some r.word else None)) (w l)
    by (Some x) b e = refl
    by None true e = (λ z. if e z then r.word else w l) ∙ sym (ap (λ b. unwrap_or (if b then Some r.word else None) (w l)) e)
    by None false e = (λ z. if e z then r.word else w l) ∙ sym (ap (λ b. unwrap_or (if b then Some r.word else None) (w l)) e)

fell : (o : Effect) (l : Left) → method_left o ≡ Some l → (b : Acting) × (o ≡ Fell b) × (l.acting ≡ b)
fell (Fell b) l e = let one : record { acting = b; place = None } ≡ l = cc in (b, refl, ap (λ l. l.acting) (sym one))
fell (Left_out n b) l e = absurd (cc)
fell Lost l e = absurd (cc)

no-number : (home : Home) (p : Program) (x : Cell) (s : Sort) → is_root s ≡ true → holds_number (thing_of home p x s) ≡ false
no-number home p x program.Input e = refl
no-number home p x program.Output e = refl
no-number home p x program.Signal e = refl
no-number home p x (program.Variable w f) e = absurd cc
no-number home p x (program.Local i) e = absurd cc
no-number home p x (program.Pointer t) e = refl
no-number home p x (program.Port r) e = refl

a-number : (home : Home) (p : Program) (x : Cell) (s : Sort) → is_number s ≡ true → holds_number (thing_of home p x s) ≡ true
a-number home p x program.Input e = absurd cc
a-number home p x program.Output e = absurd cc
a-number home p x program.Signal e = absurd cc
a-number home p x (program.Variable w f) e = refl
a-number home p x (program.Local i) e = refl
a-number home p x (program.Pointer t) e = absurd cc
a-number home p x (program.Port r) e = absurd cc

module _ (home : Home) (is : IsHome home) (p : Program) (r : IsResolved p) (loops : loop_may_not_wait p ≡ None) where
  abbrev D : Design
  D = design_of home p

  -- what stands where a cell does
  thing-here : (c : ℕ) (x : Cell) → slice_get p.cells c ≡ Some x → D.places.things (cell_location home p x) ≡ thing_of home p x x.sort
  thing-here c x g = ap (option_and_then (λ c. thing_of home p c c.sort)) (there-is home is p r (cell_location home p x) c x g (same-self (cell_location home p x)))

  -- ports below the top lead to roots
  module _ (i : ℕ) (q : Process) (g : slice_get p.processes i ≡ Some q) where
    at-root : (path : List Part) (n : ℕ) (c : Cell) → slice_get p.cells n ≡ Some c → c.sort ≡ program.Port path → holds_number (D.places.things (at_top path)) ≡ false
    at-root path n c d e =
        let u = root-of p r n c path d e in
        let t = thing_at home (constants_of home p) p i q (λ l. 0) (tells-apart home is p r i q g) (at_top path) (path_steps path) u.0 u.1 (port_names home (constants_of home p) p i q (λ l. 0) (tells-apart home is p r i q g) path) u.2 u.3 in
        ap holds_number t.0 ∙ no-number home p u.1 u.1.sort u.4

    lead : PortsLead D.places
    lead l root k e = by (cell_there home p false l) refl e
      where
        root-is : {A B : Type 0} (f : A → B) (x y : A) → Some x ≡ Some y → f x ≡ f y
        root-is f x y h = ap f (some_same h)

        port : Thing → Location
        port (Port k root) = root
        port _ = at_top []

        to : (n : ℕ) (c : Cell) (s : Sort) → slice_get p.cells n ≡ Some c → c.sort ≡ s → thing_of home p c s ≡ Some (Port k root) → holds_number (D.places.things root) ≡ false
        to n c (program.Port path) d f h = subst (λ z. holds_number (D.places.things z) ≡ false) (root-is port _ _ h) (at-root path n c d f)
        to n c program.Input d f h = absurd cc
        to n c program.Output d f h = absurd cc
        to n c program.Signal d f h = absurd cc
        to n c (program.Variable w b) d f h = absurd cc
        to n c (program.Local j) d f h = absurd cc
        to n c (program.Pointer t) d f h = absurd cc

        by : (o : Option Cell) → cell_there home p false l ≡ o → option_and_then (λ c. thing_of home p c c.sort) o ≡ Some (Port k root) → holds_number (D.places.things root) ≡ false
        by None f h = absurd cc
        by (Some c) f h = let u = find-is _ p.cells c f in to u.0 c c.sort u.1 refl h

    -- as if nothing was asked before
    begun : Held → Held
    begun h = record { store = h.store; requests = [] }

    begun-is : (h : Held) → behind h.requests (begun h) ≡ h
    unfolding begun
    begun-is h = λ z. record { store = h.store; requests = no-more h.requests z }

    begun-proper : (h : Held) → IsProper D h.store.words → Proper D (begun h)
    unfolding begun Proper
    begun-proper h w = (w, tt)

    begun-alike : (signals : Location → ℕ) (h : Held) (a : Acting) → Meets home p signals h.store.words a → Alike home p signals a (begun h)
    unfolding begun
    begun-alike signals h a m = record { roots = λ c x e r. sym (m.roots c x e r); numbers = λ c x e n. sym (m.numbers c x e n); asked = λ c x e r. sym (m.calm c) }

    -- what a run leaves beside what was asked before
    left-here : (signals : Location → ℕ) (h k : Held) (b : Acting) → Spared D.places h (behind h.requests k) → Alike home p signals b k → Leaves home p h (behind h.requests k) b
    left-here signals h k b spared alike = record {
      numbers = λ c x e n. alike.numbers c x e n;
      roots = λ c x e r. spared.words (cell_location home p x) (ap holds_number (thing-here c x e) ∙ no-number home p x x.sort r);
      asked = λ c x w e r. (λ z. updated-two h.requests k.requests w z (cell_location home p x)) ∙ updated-last k.requests (updated h.requests w) (cell_location home p x)
          ∙ ap (λ o. unwrap_or o (updated h.requests w (cell_location home p x))) (alike.asked c x e r);
      unasked = λ c x w e n. spared.asked (cell_location home p x) w (ap holds_number (thing-here c x e) ∙ a-number home p x x.sort n);
    }

    ran-aside : (signals : Location → ℕ) (n : ℕ) (f : Frames) (h : Held) → runs home p signals n f h ≡ aside h.requests (runs home p signals n f (begun h))
    ran-aside signals n f h = ap (runs home p signals n f) (sym (begun-is h)) ∙ runs_aside h.requests D.places D.functions signals n f (begun h)

    spares : (signals : Location → ℕ) (n : ℕ) (f : Frames) (h : Held) → PlainFrames f → SparesTo D.places h (runs home p signals n f h)
    spares signals n f h plain = run-spares D.places lead D.functions signals n f h plain

    plain-first : PlainFrames (first_frames home p i q)
    plain-first = (plain-code home p.cells i q q.body (fits p i q r g), tt)

    first-is : (signals : Location → ℕ) (shown : IsProper D signals) (h : Held) → IsProper D h.store.words → Is home is p r i q g loops signals shown (first_frames home p i q) (begun h)
    first-is signals shown h w = (first-stands home (constants_of home p) p i q (tells-apart home is p r i q g) r g (λ n w. written-free home is p r i n q g w), begun-proper h w)

    method-done : wait_in_method p ≡ None → q.is_thread ≡ false → (n : ℕ) → size q.body ≤ n → (signals : Location → ℕ) (h : Held) (a : Acting) → Meets home p signals h.store.words a
        → (b : Acting) × (k : Held) × (effect p.cells (live p.cells q.body) a ≡ Fell b) × (runs home p signals n (first_frames home p i q) h ≡ Ended k) × Leaves home p h k b
    method-done waits t n le signals h a m =
        let shut = alone p i q waits g t (exits p i q r g) in
        let l = method_there q p.cells (fits p i q r g) (quiet_loops p i q loops g) a shut in
        let f = fell (effect p.cells (live p.cells q.body) a) l.0 l.1 in
        let o = method-turns home is p r i q g loops signals m.shown shut a (begun h) l.0 (first-is signals m.shown h m.held) (begun-alike signals h a m) l.1 n le in
        let goes : runs home p signals n (first_frames home p i q) h ≡ Ended (behind h.requests o.0) = ran-aside signals n (first_frames home p i q) h ∙ ap (aside h.requests) o.1 in
        let spared = subst (SparesTo D.places h) goes (spares signals n (first_frames home p i q) h plain-first) in
        (f.0, behind h.requests o.0, f.1, goes, left-here signals h o.0 f.0 spared (subst (λ b. Alike home p signals b o.0) f.2 o.2))

    abbrev Comes : (signals : Location → ℕ) (n : ℕ) (h : Held) (a : Acting) (reset : Bool) (place : Option Place) (f : Frames) → Type 0
    Comes signals n h a reset place f = (b : Acting) × (to : Place) × (g : Frames) × (k : Held) × (thread_turn p.cells q reset place a ≡ Some (record { acting = b; place = Some to }))
        × (runs home p signals n f h ≡ Suspended g k) × Leaves home p h k b × (frames_at home p.cells i (own_names i) q.body to ≡ Some g)

    comes-by : end_reached p ≡ None → q.is_thread ≡ true → (signals : Location → ℕ) (n : ℕ) (h : Held) (a : Acting) (reset : Bool) (place : Option Place) (f : Frames) (l : Left) → PlainFrames f
        → thread_turn p.cells q reset place a ≡ Some l → (o : Option Place) → l.place ≡ o → LeftSo home (constants_of home p) p i q signals o l.acting (runs home p signals n f (begun h)) → Comes signals n h a reset place f
    comes-by ends t signals n h a reset place f l plain e None d o = absurd (never_ends p.cells q.body (exits p i q r g) (ends_nowhere p i q ends g t) o.2)
    comes-by ends t signals n h a reset place f l plain e (Some to) d o =
        let goes : runs home p signals n f h ≡ Suspended o.0 (behind h.requests o.1) = ran-aside signals n f h ∙ ap (aside h.requests) o.2 in
        let spared = subst (SparesTo D.places h) goes (spares signals n f h plain) in
        (l.acting, to, o.0, behind h.requests o.1, e ∙ ap Some (λ z. record { acting = l.acting; place = d z }), goes, left-here signals h o.1 l.acting spared o.4, o.3)

    begins-here : end_reached p ≡ None → q.is_thread ≡ true → (n : ℕ) → steps_of q.body ≤ n → (signals : Location → ℕ) (h : Held) (a : Acting) → Meets home p signals h.store.words a
        → Comes signals n h a true None (first_frames home p i q)
    begins-here ends t n le signals h a m =
        let l = turn_there q p.cells (fits p i q r g) (quiet_loops p i q loops g) true None a tt in
        comes-by ends t signals n h a true None (first_frames home p i q) l.0 plain-first l.1 l.0.place refl
        (thread-turns home is p r i q g loops signals m.shown true None (first_frames home p i q) a (begun h) l.0 refl (first-is signals m.shown h m.held) (begun-alike signals h a m) l.1 n le)

    goes-on-here : end_reached p ≡ None → q.is_thread ≡ true → (n : ℕ) → steps_of q.body ≤ n → (at : Place) (f : Frames) → frames_at home p.cells i (own_names i) q.body at ≡ Some f
        → (signals : Location → ℕ) (h : Held) (a : Acting) → Meets home p signals h.store.words a → Comes signals n h a false (Some at) f
    goes-on-here ends t n le at f st signals h a m =
        let s = place-stands home is p r i q g at f st in
        let l = turn_there q p.cells (fits p i q r g) (quiet_loops p i q loops g) false (Some at) a ((tracks home is p r i q g loops signals m.shown).is_wait at f st) in
        comes-by ends t signals n h a false (Some at) f l.0 s.1 l.1 l.0.place refl
        (thread-turns home is p r i q g loops signals m.shown false (Some at) f a (begun h) l.0 st (s.0, begun-proper h m.held) (begun-alike signals h a m) l.1 n le)

  pub does : wait_in_method p ≡ None → (bounds : ℕ → ℕ) → ((i : ℕ) (q : Process) → slice_get p.processes i ≡ Some q → size q.body ≤ bounds i) → Does home p bounds
  does waits bounds enough = record { does = λ i q signals h a g t m. method-done i q g waits t (bounds i) (enough i q g) signals h a m }

  more : (d s : ℕ) → 0 < (d + 1) * (1 + s)
  more d s = omega arith

  -- a body that doesn't end at once has a statement
  some-steps : (cs : Cells) (c : Code) → (alive cs c).ends ≡ false → 0 < steps_of c
  some-steps cs End e = absurd cc
  some-steps cs (Put o l k v c) e = more (loops_deep (Put o l k v c)) (size c)
  some-steps cs (Aim o to t c) e = more (loops_deep (Aim o to t c)) (size c)
  some-steps cs (If o t a b c) e = more (loops_deep (If o t a b c)) (size a + (size b + size c))
  some-steps cs (Block o b c) e = more (loops_deep (Block o b c)) (size b + size c)
  some-steps cs (Loop o n b c) e = more (loops_deep (Loop o n b c)) (size b + size c)
  some-steps cs (Exit o n c) e = more (loops_deep (Exit o n c)) (size c)
  some-steps cs (Wait o l n c) e = more (loops_deep (Wait o l n c)) (size c)

  pub segments : end_reached p ≡ None → (bounds : ℕ → ℕ) → ((i : ℕ) (q : Process) → slice_get p.processes i ≡ Some q → steps_of q.body ≤ bounds i) → RunsSegments home p bounds
  segments ends bounds enough = record {
    enough = λ i q g t. let a = some-steps p.cells q.body (ends_nowhere p i q ends g t) in let b = enough i q g in omega (arith, a, b);
    begins = λ i q signals h a g t m. begins-here i q g ends t (bounds i) (enough i q g) signals h a m;
    goes_on = λ i q number f signals h a g t st m. goes-on-here i q g ends t (bounds i) (enough i q g) (record { number = number; left = 0 }) f st signals h a m;
  }
