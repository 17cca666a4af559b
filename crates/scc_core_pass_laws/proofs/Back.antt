-- What a resolved core keeps, the core keeps: whatever its processes come to, those of the resolved core stand beside them.
use Rattle.std.proofs.Common.{◌≡◌, ℕ, zero, suc, true, false, List, [], Option, Some, None, refl, sym, ap, ◌∙◌, subst}
use Rattle.std.specs.Prelude.{slice_get, if◌then◌else◌}
use Rattle.scc_semantics.specs.Location.{Location}
use Rattle.scc_semantics.specs.Body as machine
use Rattle.scc_semantics.specs.Design as running
use Rattle.scc_semantics.specs.Design.{Design}
use Rattle.scc_semantics.specs.Value.{Held}
use Rattle.scc_semantics.specs.Machine.{Frames, Stop, Go, Inner, Outcome, Suspended, Ended, Stuck, Unfinished, Next, one_less, waiting as stopped, act, after}
use Rattle.scc_semantics.specs.Process.{first_frames}
use Rattle.scc_semantics.specs.Start.{IsProper}
use Rattle.scc_semantics.specs.Same.{Turn, Middle, is_others}
use Rattle.scc_semantics_laws.specs.Words.{PlainFrames, PlainLeft, aimed as all-aimed-held, all_aimed}
use Rattle.scc_core_spec.specs.Code.{Code}
use Rattle.scc_core_spec.specs.Program.{Program, Process}
use Rattle.scc_core_spec.specs.Resolved.{Made}
use Rattle.scc_core_spec.specs.Unpointed.{unpointed}
use Rattle.scc_core_spec.specs.Unpointed as first
use Rattle.scc_core_spec.specs.Renumbered.{all_unpointed}
use Rattle.scc_core_spec.specs.Source.{Home, at_top, body_of, source_of}
use Rattle.scc_blocks_spec.specs.Passed.{IsHome}
use Rattle.scc_blocks_spec.specs.Comes.{Comes, begins, goes_on, resumes, restarts, repeats, elsewhere, Keeps as KeepsDesign, next_waits, next_points, fresh}
use Rattle.scc_core_unroll_laws.specs.Unrolling.{Around, IsKept, along, Keeps}
use Rattle.scc_core_unroll_laws.specs.Named.{IsNamed}
use Rattle.scc_core_unroll_laws.proofs.Coming.{Steps, leads, waits, sticks, ends, steps, IsKeptAt, kept}
use Rattle.scc_core_pass_laws.specs.Pointing.{Known, w_of}
use Rattle.scc_core_pass_laws.specs.Resolving.{Locals, Matching, SameHeld, Beside}
use Rattle.scc_core_pass_laws.specs.Renumbering.{IsResolvable}
use Rattle.scc_core_pass_laws.proofs.Placed.{after-blind, after-there}
use Rattle.scc_core_pass_laws.proofs.Renumber.{m, places-same, fixed-same}
use Rattle.scc_core_pass_laws.proofs.Still.{popped, waits-popped, points-popped, act-popped, matching-heads, matching-popped, once-follows}
use Rattle.scc_core_pass_laws.proofs.Resumed.{first-matching, known-led, known-nowhere, known-first, plain-matching, proper}

-- the signals of what a process comes to are proper
proper-signals : (d : Design) (i : ℕ) (p : running.Process) {signals : Location → ℕ} {f : Frames} {h : Held} → Comes d i p signals f h → IsProper d signals
proper-signals d i p (begins signals words ps pw) = ps
proper-signals d i p (goes_on c free e) = proper-signals d i p c
proper-signals d i p (resumes signals words ps pw c wt e) = ps
proper-signals d i p (restarts signals words ps pw c wt) = ps
proper-signals d i p (repeats signals words ps pw c e) = ps
proper-signals d i p (elsewhere others c) = proper-signals d i p c

module _ (home : Home) (is_home : IsHome home) (p : Program) (constant : Location → Option ℕ) (named : IsNamed p) (qs : List Process) (made : all_unpointed p p.processes ≡ Made qs)
    (keeps : KeepsDesign (source_of home (m home p qs made constant) constant)) where
  abbrev M : Program
  M = m home p qs made constant

  abbrev d : Design
  d = source_of home p constant

  abbrev e : Design
  e = source_of home M constant

  module _ (i : ℕ) (q : Process) (at : slice_get p.processes i ≡ Some q) (able : IsResolvable home p i q) (new : Code) (is_new : unpointed (first.at_first p) q.body ≡ Made new) (run_d run_e : running.Process)
      (object_d : run_d.object ≡ at_top []) (object_e : run_e.object ≡ at_top []) (body_d : run_d.body ≡ body_of home p.cells i q.body) (body_e : run_e.body ≡ body_of home p.cells i new) (at_e : slice_get e.processes i ≡ Some run_e) where
    abbrev w : Around
    w = w_of home p constant i q

    abbrev Is-known : Locals → (Location → Option Location) → Type 0
    Is-known local t = Known home p constant i q local t

    abbrev Alike : Locals → Frames → Frames → Type 0
    Alike local f g = Matching home p constant i q local f g

    -- the resolved core stands beside it, but for pointers and empty lists
    pub record Back (signals : Location → ℕ) (g : Frames) (h : Held) : Type 0 where
      pub local : Locals
      pub front : Frames
      pub targets : Location → Option Location
      pub alike : Alike local (popped g) (popped front)
      pub known : Is-known local h.store.targets
      pub plain : PlainFrames front
      pub comes : Comes e i run_e signals front (all-aimed-held targets h)

    passed : (signals : Location → ℕ) (t : Location → Option Location) (n : ℕ) (g : Frames) (h : Held) → PlainFrames g
        → after e.places (λ f. machine.End) signals n g (all-aimed-held t h) ≡ all_aimed t (along w signals n g h)
    passed signals t n g h plain = ap (λ x. after x (λ f. machine.End) signals n g (all-aimed-held t h)) (places-same home p qs made constant)
        ∙ (after-there (λ l. false) w.places (λ f. machine.End) signals n g (all-aimed-held t h) plain
        ∙ (after-blind w.places (λ f. machine.End) signals t n g h plain).same)

    kept-at : (t : Location → Option Location) (o : Outcome) → IsKeptAt e i run_e keeps at_e (all_aimed t o) → IsKept w o
    kept-at t (Suspended g b) h = ((λ l v u. h.0 l v (ap (λ g. g l) (fixed-same home p qs made constant) ∙ u)), h.1)
    kept-at t (Ended b) h = tt
    kept-at t (Stuck b) h = tt
    kept-at t Unfinished h = tt

    keep : {signals : Location → ℕ} {g : Frames} {h : Held} → (b : Back signals g h) → Keeps w signals (popped b.front) h
    keep {signals} {g} {h} b = by
      where
        there : (j : ℕ) → IsKept w (along w signals j b.front h)
        there j = kept-at b.targets (along w signals j b.front h) (subst (IsKeptAt e i run_e keeps at_e) (passed signals b.targets j b.front h b.plain)
            (kept e i run_e keeps at_e j signals (proper-signals e i run_e b.comes) b.front (all-aimed-held b.targets h) b.comes))

        by : (j : ℕ) → IsKept w (along w signals j (popped b.front) h)
        by zero = ((there 0).0, points-popped b.front ∙ (there 0).1)
        by (suc j) = subst (IsKept w) (sym (act-popped w.places signals (along w signals j) b.front h)) (there (suc j))

    abbrev stands : Next
    stands f a = Suspended (popped f) a

    abbrev once : (Location → ℕ) → Frames → Held → Outcome
    once signals f a = act w.places (λ f. machine.End) signals (λ f a. Suspended (popped f) a) f a

    -- one statement on both sides
    both : {signals : Location → ℕ} {g : Frames} {h : Held} → (b : Back signals g h) → Beside home p constant i q h.store.targets (once signals g h) (once signals b.front h)
    both {signals} {g} {h} b = subst (λ x. Beside home p constant i q h.store.targets x (once signals b.front h)) (act-popped w.places signals stands g h)
        (subst (λ z. Beside home p constant i q h.store.targets (once signals (popped g) h) z) (act-popped w.places signals stands b.front h)
        (once-follows home p constant i q is_home named able.apart signals h.store.targets at b.local (popped g) (popped b.front) h b.alike b.known (λ l z. refl) (keep b)))

    -- both wait, or neither
    waits-same : {signals : Location → ℕ} {g : Frames} {h : Held} → (b : Back signals g h) → next_waits g ≡ next_waits b.front
    waits-same {signals} {g} {h} b = sym (waits-popped g) ∙ ((matching-heads home p constant i q b.local b.alike).0 ∙ waits-popped b.front)

    not-both : {A : Type 0} → true ≡ false → A
    not-both z = absurd cc

    -- where statements come to
    abbrev To : (Location → ℕ) → Outcome → Type 0
    To signals (Suspended k a) = Back signals k a
    To signals (Ended a) = Unit {0}
    To signals _ = Unit {0}

    held-same : (t : Location → Option Location) (a c : Held) → SameHeld home p constant i q a c → all-aimed-held t c ≡ all-aimed-held t a
    held-same t a c s = λ z. record { store = record { words = sym s.0 z; targets = t }; requests = sym s.1 z }

    going : {signals : Location → ℕ} {g : Frames} {h : Held} → (b : Back signals g h) → next_waits g ≡ false → To signals (along w signals 1 g h)
    going {signals} {g} {h} b free = by (steps d signals g h) (steps d signals b.front h)
      where
        P1 : Outcome → Type 0
        P1 o = To signals o

        leads-to : (g1 g2 : Frames) (k1 k2 : Held) → ((next : Next) → act w.places (λ f. machine.End) signals next g h ≡ next g1 k1) → next_waits b.front ≡ false
            → ((next : Next) → act w.places (λ f. machine.End) signals next b.front h ≡ next g2 k2) → Back signals g1 k1
        leads-to g1 g2 k1 k2 e1 free2 e2 =
            let s : Beside home p constant i q h.store.targets (Suspended (popped g1) k1) (Suspended (popped g2) k2) =
            subst (λ x. Beside home p constant i q h.store.targets x (Suspended (popped g2) k2)) (e1 stands) (subst (λ z. Beside home p constant i q h.store.targets (once signals g h) z) (e2 stands) (both b)) in
            let came : after e.places (λ f. machine.End) signals 1 b.front (all-aimed-held b.targets h) ≡ Suspended g2 (all-aimed-held b.targets k2) =
            passed signals b.targets 1 b.front h b.plain ∙ ap (all_aimed b.targets) (e2 (along w signals 0)) in
            record {
              local = s.0;
              front = g2;
              targets = b.targets;
              alike = s.2;
              known = s.3;
              plain = subst PlainLeft (e2 (along w signals 0)) (after-blind w.places (λ f. machine.End) signals b.targets 1 b.front h b.plain).plain;
              comes = subst (λ x. Comes e i run_e signals g2 x) (held-same b.targets k1 k2 s.1) (goes_on b.comes free2 came);
            }

        other : (o z : Outcome) → ((f : Frames) (a : Held) → z ≡ Suspended f a → ⊥) → (g1 : Frames) (k1 : Held) → o ≡ Suspended (popped g1) k1 → Beside home p constant i q h.store.targets o z → ⊥
        other o (Suspended f a) never g1 k1 eo s = never f a refl
        other o (Ended a) never g1 k1 eo s = subst (λ o. Beside home p constant i q h.store.targets o (Ended a)) eo s
        other o (Stuck a) never g1 k1 eo s = subst (λ o. Beside home p constant i q h.store.targets o (Stuck a)) eo s
        other o Unfinished never g1 k1 eo s = subst (λ o. Beside home p constant i q h.store.targets o Unfinished) eo s

        by : Steps g h (λ next. act w.places (λ f. machine.End) signals next g h) → Steps b.front h (λ next. act w.places (λ f. machine.End) signals next b.front h) → To signals (along w signals 1 g h)
        by (leads g1 k1 f1 e1) (leads g2 k2 f2 e2) = subst P1 (sym (e1 (along w signals 0))) (leads-to g1 g2 k1 k2 e1 f2 e2)
        by (leads g1 k1 f1 e1) (waits g2 w2 e2) = not-both (sym w2 ∙ (sym (waits-same b) ∙ free))
        by (leads g1 k1 f1 e1) (sticks e2) = absurd (other (once signals g h) (once signals b.front h) (λ f a z. let y : Stuck h ≡ Suspended f a = sym (e2 stands) ∙ z in cc) g1 k1 (e1 stands) (both b))
        by (leads g1 k1 f1 e1) (ends e2) = absurd (other (once signals g h) (once signals b.front h) (λ f a z. let y : Ended h ≡ Suspended f a = sym (e2 stands) ∙ z in cc) g1 k1 (e1 stands) (both b))
        by (waits g1 w1 e1) s = not-both (sym w1 ∙ free)
        by (sticks e1) s = subst P1 (sym (e1 (along w signals 0))) tt
        by (ends e1) s = subst P1 (sym (e1 (along w signals 0))) tt

    -- a wait on both sides
    abbrev Waited : (Location → ℕ) → Frames → (Location → Option Location) → Held → Outcome → Type 0
    Waited signals front t h (Suspended k a) = (local : Locals) × (g : Frames) × Alike local (popped k) (popped g) × Is-known local a.store.targets × PlainFrames g
        × (after e.places (λ f. machine.End) signals 1 front (all-aimed-held t h) ≡ Suspended g (all-aimed-held t h))
    Waited signals front t h _ = ⊥

    -- a wait whatever comes next
    waits-there : (signals : Location → ℕ) (f : Frames) (h : Held) → next_waits f ≡ true → (g : Frames) × ((next : Next) → act w.places (λ f. machine.End) signals next f h ≡ Suspended g h)
    waits-there signals Stop h z = not-both (sym z)
    waits-there signals (Go mark m machine.End k) h z = waits-there signals k h z
    waits-there signals (Go mark m (machine.Wait number count r) k) h z = (stopped number (one_less count) (Go Inner m r k), λ next. refl)
    waits-there signals (Go mark m (machine.Assign l x e r) k) h z = not-both (sym z)
    waits-there signals (Go mark m (machine.Point declares l t r) k) h z = not-both (sym z)
    waits-there signals (Go mark m (machine.Clear l r) k) h z = not-both (sym z)
    waits-there signals (Go mark m (machine.If t a b r) k) h z = not-both (sym z)
    waits-there signals (Go mark m (machine.Block b r) k) h z = not-both (sym z)
    waits-there signals (Go mark m (machine.Loop b r) k) h z = not-both (sym z)
    waits-there signals (Go mark m (machine.Exit n r) k) h z = not-both (sym z)
    waits-there signals (Go mark m (machine.Call number object enter function r) k) h z = not-both (sym z)
    waits-there signals (Go mark m (machine.Begin r) k) h z = not-both (sym z)
    waits-there signals (Go mark m (machine.Pass n x r) k) h z = not-both (sym z)
    waits-there signals (Go mark m (machine.Return v r) k) h z = not-both (sym z)

    waiting : {signals : Location → ℕ} {g : Frames} {h : Held} → (b : Back signals g h) → next_waits g ≡ true → Waited signals b.front b.targets h (along w signals 1 g h)
    waiting {signals} {g} {h} b wt =
        let x = waits-there signals g h wt in
        let y = waits-there signals b.front h (sym (waits-same b) ∙ wt) in
        let s : Beside home p constant i q h.store.targets (Suspended x.0 h) (Suspended y.0 h) =
        subst (λ o. Beside home p constant i q h.store.targets o (Suspended y.0 h)) (x.1 stands) (subst (λ z. Beside home p constant i q h.store.targets (once signals g h) z) (y.1 stands) (both b)) in
        let u = matching-popped home p constant i q is_home named able.apart signals h.store.targets at s.0 x.0 y.0 h s.2 s.3 (λ l z. refl) in
        subst (Waited signals b.front b.targets h) (sym (x.1 (along w signals 0))) (
          u.0,
          y.0,
          u.2,
          u.3,
          subst PlainLeft (y.1 (along w signals 0)) (after-blind w.places (λ f. machine.End) signals b.targets 1 b.front h b.plain).plain,
          passed signals b.targets 1 b.front h b.plain ∙ ap (all_aimed b.targets) (y.1 (along w signals 0)),
        )

    -- an end on both sides
    abbrev Over : (Location → ℕ) → Frames → (Location → Option Location) → Held → Outcome → Type 0
    Over signals front t h (Ended a) = (local : Locals) × Is-known local a.store.targets × (c : Held) × (after e.places (λ f. machine.End) signals 1 front (all-aimed-held t h) ≡ Ended (all-aimed-held t c))
    Over signals front t h _ = Unit {0}

    ending : {signals : Location → ℕ} {g : Frames} {h : Held} → (b : Back signals g h) → Over signals b.front b.targets h (along w signals 1 g h)
    ending {signals} {g} {h} b = by (steps d signals g h) (steps d signals b.front h)
      where
        here : (o z : Outcome) → once signals g h ≡ o → once signals b.front h ≡ z → Beside home p constant i q h.store.targets o z
        here o z eo ez = subst (λ x. Beside home p constant i q h.store.targets x z) eo (subst (λ z. Beside home p constant i q h.store.targets (once signals g h) z) ez (both b))

        by : Steps g h (λ next. act w.places (λ f. machine.End) signals next g h) → Steps b.front h (λ next. act w.places (λ f. machine.End) signals next b.front h) → Over signals b.front b.targets h (along w signals 1 g h)
        by (leads g1 k1 f1 e1) s = subst (Over signals b.front b.targets h) (sym (e1 (along w signals 0))) tt
        by (waits g1 w1 e1) s = subst (Over signals b.front b.targets h) (sym (e1 (along w signals 0))) tt
        by (sticks e1) s = subst (Over signals b.front b.targets h) (sym (e1 (along w signals 0))) tt
        by (ends e1) (ends e2) =
            let s = here (Ended h) (Ended h) (e1 stands) (e2 stands) in
            subst (Over signals b.front b.targets h) (sym (e1 (along w signals 0))) (s.0, s.2, h, passed signals b.targets 1 b.front h b.plain ∙ ap (all_aimed b.targets) (e2 (along w signals 0)))
        by (ends e1) (leads g2 k2 f2 e2) = absurd (here (Ended h) (Suspended (popped g2) k2) (e1 stands) (e2 stands))
        by (ends e1) (waits g2 w2 e2) = absurd (here (Ended h) (Suspended g2 h) (e1 stands) (e2 stands))
        by (ends e1) (sticks e2) = absurd (here (Ended h) (Stuck h) (e1 stands) (e2 stands))

    abbrev nowhere : Locals
    nowhere = λ n. None

    -- a beginning
    start-at : (signals words : Location → ℕ) (local : Locals) (t u : Location → Option Location) → Is-known local t → Comes e i run_e signals (first_frames i run_e) (fresh words u) → Back signals (first_frames i run_d) (fresh words t)
    start-at signals words local t u k c =
        let f = first-matching home is_home p constant named qs made keeps i q at able new is_new run_d run_e object_d object_e body_d body_e at_e in
        let n = known-nowhere home is_home p constant named qs made keeps i q at able new is_new run_d run_e object_d object_e body_d body_e at_e local t k in
        let s = matching-popped home p constant i q is_home named able.apart signals t at nowhere (first_frames i run_d) (first_frames i run_e) (fresh words t) f n (λ l z. refl) in
        record {
          local = s.0;
          front = first_frames i run_e;
          targets = u;
          alike = s.2;
          known = s.3;
          plain = plain-matching home is_home p constant named qs made keeps i q at able new is_new run_d run_e object_d object_e body_d body_e at_e nowhere f;
          comes = c;
        }

    now-proper : (words : Location → ℕ) → IsProper d words → IsProper e words
    now-proper = proper home is_home p constant named qs made keeps

    turned : {signals : Location → ℕ} {g : Frames} {h : Held} → (others : Location → Option Location) → Back signals g h
        → Back signals g (record { store = record { words = h.store.words; targets = λ l. if is_others i l.root then others l else h.store.targets l }; requests = h.requests })
    turned {signals} {g} {h} others b =
        let t : Turn = record { restarts = false; words = h.store.words; signals = signals; others = others } in
        let n : Middle = record { frames = g; targets = h.store.targets } in
        record {
          local = b.local;
          front = b.front;
          targets = λ l. if is_others i l.root then others l else b.targets l;
          alike = b.alike;
          known = known-led home is_home p constant named qs made keeps i q at able new is_new run_d run_e object_d object_e body_d body_e at_e b.local t n b.known;
          plain = b.plain;
          comes = elsewhere others b.comes;
        }

    resuming : {old : Location → ℕ} {g k : Frames} {h a : Held} → (signals words : Location → ℕ) → IsProper d signals → IsProper d words → (b : Back old g h) → next_waits g ≡ true → along w old 1 g h ≡ Suspended k a → Back signals k (fresh words a.store.targets)
    resuming {old} {g} {k} {h} {a} signals words ps pw b wt eq =
        let r : Waited old b.front b.targets h (Suspended k a) = subst (Waited old b.front b.targets h) eq (waiting b wt) in
        record {
          local = r.0;
          front = r.1;
          targets = b.targets;
          alike = r.2;
          known = r.3;
          plain = r.4;
          comes = resumes signals words (now-proper signals ps) (now-proper words pw) b.comes (sym (waits-same b) ∙ wt) r.5;
        }

    pub back : {signals : Location → ℕ} {g : Frames} {h : Held} → Comes d i run_d signals g h → Back signals g h
    back (begins signals words ps pw) = start-at signals words nowhere d.targets e.targets (known-first home is_home p constant named qs made keeps i q at able new is_new run_d run_e object_d object_e body_d body_e at_e)
        (begins signals words (now-proper signals ps) (now-proper words pw))
    back (goes_on {signals} c free eq) = subst (To signals) eq (going (back c) free)
    back (resumes signals words ps pw c wt eq) = resuming signals words ps pw (back c) wt eq
    back (restarts {h = h} signals words ps pw c wt) = let b = back c in
        start-at signals words b.local h.store.targets b.targets b.known (restarts signals words (now-proper signals ps) (now-proper words pw) b.comes (sym (waits-same b) ∙ wt))
    back (repeats {old} {f} {h} {k} signals words ps pw c eq) = let b = back c in
        let r : Over old b.front b.targets h (Ended k) = subst (Over old b.front b.targets h) eq (ending b) in
        start-at signals words r.0 k.store.targets b.targets r.1 (repeats signals words (now-proper signals ps) (now-proper words pw) b.comes r.3)
    back (elsewhere others c) = turned others (back c)

    -- the words that are fixed, and no pointer but at its declaration
    pub fixed-back : {signals : Location → ℕ} {g : Frames} {h : Held} → Comes d i run_d signals g h → (l : Location) (v : ℕ) → d.fixed l ≡ Some v → h.store.words l ≡ v
    fixed-back {signals} {g} {h} c l v fx = let b = back c in
        keeps.fixed i run_e signals b.front (all-aimed-held b.targets h) l v at_e b.comes (ap (λ g. g l) (fixed-same home p qs made constant) ∙ fx)

    pub points-back : {signals : Location → ℕ} {g : Frames} {h : Held} → Comes d i run_d signals g h → next_points g ≡ false
    points-back {signals} {g} {h} c = let b = back c in sym (points-popped g) ∙ (matching-heads home p constant i q b.local b.alike).1
