-- What an unrolled core keeps, the core keeps: whatever its processes come to, those of the unrolled core stand near.
use Rattle.std.proofs.Common.{◌≡◌, ◌⊎◌, inl, inr, ℕ, zero, suc, ◌+◌, Bool, true, false, List, [], ◌∷◌, map, Option, Some, refl, sym, ap, ◌∙◌, subst, arith}
use Rattle.std.specs.Prelude.{slice_get, if◌then◌else◌}
use Rattle.scc_semantics.specs.Location.{Location}
use Rattle.scc_semantics.specs.Body as machine
use Rattle.scc_semantics.specs.Design as running
use Rattle.scc_semantics.specs.Design.{Design}
use Rattle.scc_semantics.specs.Value.{Held}
use Rattle.scc_semantics.specs.Machine.{Frames, Stop, Go, Inner, Suspended, Ended, after}
use Rattle.scc_semantics.specs.Process.{first_frames}
use Rattle.scc_semantics.specs.Start.{IsProper, HoldsConstant}
use Rattle.scc_semantics.specs.Run.{FitsThing}
use Rattle.scc_semantics.specs.Same.{is_others}
use Rattle.scc_core_spec.specs.Code.{Code}
use Rattle.scc_core_spec.specs.Program.{Program, Process}
use Rattle.scc_core_spec.specs.Counted.{Elsewhere}
use Rattle.scc_core_spec.specs.Unrolled.{unrolled, unrolled_program, setting_of, with_body}
use Rattle.scc_core_spec.specs.Source.{Home, at_top, body_of, sort_of, source_of, processes_from}
use Rattle.scc_blocks_spec.specs.Passed.{IsHome, heading, SameShape, Law}
use Rattle.scc_blocks_spec.specs.Comes.{Comes, begins, goes_on, resumes, restarts, repeats, elsewhere, Keeps as KeepsDesign, next_waits, fresh}
use Rattle.scc_core_unroll_laws.specs.Unrolling.{Around, own, LeadsWell, HoldsFixed, B, U, Alike, alike_on, below_stop, along}
use Rattle.scc_core_unroll_laws.specs.Named.{IsNamed, AreKinded, around_of}
use Rattle.scc_core_unroll_laws.proofs.Counters.{some-is}
use Rattle.scc_core_unroll_laws.proofs.Knowing.{knows, counters}
use Rattle.scc_core_unroll_laws.proofs.Designs.{places-same, fixed-same, targets-same}
use Rattle.scc_core_unroll_laws.proofs.Near.{Near, near_on, near-moved, Going, Waiting, Step, Leads, Waits, step}
use Rattle.scc_core_unroll_laws.proofs.Unroll.{run-of, running-at, mapped-at, sound, first-d, first-e, leads-first, same-unrolled}

-- a process of a core's design is one of the core
pub found-at : (home : Home) (r : Program) (i n : ℕ) (qs : List Process) (x : running.Process) → slice_get (processes_from home r i qs) n ≡ Some x
    → (q : Process) × (slice_get qs n ≡ Some q) × (record { object = at_top []; sort = sort_of home r q q.is_thread q.edge; body = body_of home r.cells (i + n) q.body } ≡ x)
found-at home r i n [] x e = absurd cc
found-at home r i zero (q ∷ qs) x e = let z : i ≡ i + 0 = omega arith in (q, refl, (λ k. record { object = at_top []; sort = sort_of home r q q.is_thread q.edge; body = body_of home r.cells (sym z k) q.body }) ∙ some-is e)
found-at home r i (suc n) (q ∷ qs) x e = let z : suc i + n ≡ i + suc n = omega arith in let u = found-at home r (suc i) n qs x e in
    (u.0, u.1, (λ k. record { object = at_top []; sort = sort_of home r u.0 u.0.is_thread u.0.edge; body = body_of home r.cells (sym z k) u.0.body }) ∙ u.2)

module _ (home : Home) (is_home : IsHome home) (p : Program) (constant : Location → Option ℕ) (named : IsNamed p) (kinded : AreKinded p) (keeps : KeepsDesign (source_of home (unrolled_program p) constant)) where
  abbrev new : Process → Code
  new q = unrolled (setting_of p.cells q) [] Elsewhere q.body

  abbrev d : Design
  d = source_of home p constant

  abbrev e : Design
  e = source_of home (unrolled_program p) constant

  proper : (words : Location → ℕ) → IsProper d words → IsProper e words
  proper words r = record {
    fits = λ l. subst (λ x. FitsThing (x.things l) (words l)) (sym (places-same home new p constant)) (r.fits l);
    fixed = λ l. subst (λ x. HoldsConstant (x l) (words l)) (sym (fixed-same home new p constant)) (r.fixed l);
    constants = r.constants;
  }

  module _ (i : ℕ) (q : Process) (at : slice_get p.processes i ≡ Some q) (run_d run_e : running.Process) (object_d : run_d.object ≡ at_top []) (object_e : run_e.object ≡ at_top [])
      (body_d : run_d.body ≡ body_of home p.cells i q.body) (body_e : run_e.body ≡ body_of home p.cells i (new q)) (at_e : slice_get e.processes i ≡ Some run_e) where
    abbrev w : Around
    w = around_of home p constant i q

    -- the unrolled core stands near
    pub record Back (signals : Location → ℕ) (g : Frames) (h : Held) : Type 0 where
      pub front : Frames
      pub near : Near w g front h
      pub leads : LeadsWell w h.store.targets
      pub comes : Comes e i run_e signals front h

    went : (signals : Location → ℕ) (n : ℕ) (g : Frames) (h : Held) → after e.places e.functions signals n g h ≡ along w signals n g h
    went signals n g h = ap (λ x. after x (λ f. machine.End) signals n g h) (places-same home new p constant)

    fixed-of : {signals : Location → ℕ} {g : Frames} {h : Held} → Comes e i run_e signals g h → HoldsFixed w h
    fixed-of {signals} {g} {h} c l x u = keeps.fixed i run_e signals g h l x at_e c (ap (λ g. g l) (fixed-same home new p constant) ∙ u)

    pub stepped : {signals : Location → ℕ} {g : Frames} {h : Held} → (b : Back signals g h) → Step w signals g b.front h
    stepped {signals} {g} {h} b = step w signals (counters home is_home p constant i q named at) (knows home is_home p constant i q named) g b.front h b.near b.leads (fixed-of b.comes)
        (keeps.pointers i run_e signals b.front h at_e b.comes)

    first-near : (h : Held) → Near w (first_frames i run_d) (first_frames i run_e) h
    first-near h = near_on (subst (λ g. Alike w 0 [] g (first_frames i run_e)) (sym fd) (subst (λ g. Alike w 0 [] (Go Inner (own w) (B w q.body) Stop) g) (sym fe) (alike_on Inner Inner q.body (sound home is_home p constant named kinded keeps i q at run_d run_e object_d object_e body_d body_e at_e) below_stop))) tt
      where
        fd : first_frames i run_d ≡ Go Inner (own w) (B w q.body) Stop
        fd = first-d home is_home p constant named kinded keeps i q at run_d run_e object_d object_e body_d body_e at_e

        fe : first_frames i run_e ≡ Go Inner (own w) (B w (U w [] false q.body)) Stop
        fe = first-e home is_home p constant named kinded keeps i q at run_d run_e object_d object_e body_d body_e at_e

    going : {signals : Location → ℕ} {g k : Frames} {h a : Held} → (b : Back signals g h) → next_waits g ≡ false → along w signals 1 g h ≡ Suspended k a → Back signals k a
    going {signals} {g} {k} {h} {a} b free eq = by (subst (Leads w signals b.front h) eq ((stepped b).goes free))
      where
        by : Going w signals b.front h k a → Back signals k a
        by r = record { front = r.front; near = r.near; leads = r.leads; comes = to r.reached }
          where
            to : ((b.front ≡ r.front) × (h ≡ a)) ⊎ ((next_waits b.front ≡ false) × (along w signals 1 b.front h ≡ Suspended r.front a)) → Comes e i run_e signals r.front a
            to (inl u) = subst (λ x. Comes e i run_e signals x a) u.0 (subst (λ y. Comes e i run_e signals b.front y) u.1 b.comes)
            to (inr u) = goes_on b.comes u.0 (went signals 1 b.front h ∙ u.1)

    resuming : {old : Location → ℕ} {g k : Frames} {h a : Held} → (signals words : Location → ℕ) → IsProper d signals → IsProper d words → (b : Back old g h) → next_waits g ≡ true
        → along w old 1 g h ≡ Suspended k a → Back signals k (fresh words a.store.targets)
    resuming {old} {g} {k} {h} {a} signals words ps pw b wt eq = by (subst (Waits w old b.front h) eq ((stepped b).waits wt))
      where
        by : Waiting w old b.front h k a → Back signals k (fresh words a.store.targets)
        by r = record {
          front = r.front;
          near = r.near (fresh words a.store.targets);
          leads = r.leads;
          comes = resumes signals words (proper signals ps) (proper words pw) b.comes ((stepped b).stays wt) (went old 1 b.front h ∙ r.reached);
        }

    repeating : {old : Location → ℕ} {g : Frames} {h a : Held} → (signals words : Location → ℕ) → IsProper d signals → IsProper d words → (b : Back old g h)
        → along w old 1 g h ≡ Ended a → Back signals (first_frames i run_d) (fresh words a.store.targets)
    repeating {old} {g} {h} {a} signals words ps pw b eq = by (next_waits g) refl
      where
        by : (t : Bool) → next_waits g ≡ t → Back signals (first_frames i run_d) (fresh words a.store.targets)
        by true t = absurd (subst (Waits w old b.front h) eq ((stepped b).waits t))
        by false t =
            let r : (along w old 1 b.front h ≡ Ended a) × LeadsWell w a.store.targets = subst (Leads w old b.front h) eq ((stepped b).goes t) in
            record {
              front = first_frames i run_e;
              near = first-near (fresh words a.store.targets);
              leads = r.1;
              comes = repeats signals words (proper signals ps) (proper words pw) b.comes (went old 1 b.front h ∙ r.0);
            }

    begun : (signals words : Location → ℕ) → IsProper d signals → IsProper d words → Back signals (first_frames i run_d) (fresh words d.targets)
    begun signals words ps pw = record {
      front = first_frames i run_e;
      near = first-near (fresh words d.targets);
      leads = subst (λ t. LeadsWell w t) (targets-same home new p constant) (leads-first home is_home p constant named kinded keeps i q at run_d run_e object_d object_e body_d body_e at_e);
      comes = subst (λ t. Comes e i run_e signals (first_frames i run_e) (fresh words t)) (targets-same home new p constant) (begins signals words (proper signals ps) (proper words pw));
    }

    restarting : {old : Location → ℕ} {g : Frames} {h : Held} → (signals words : Location → ℕ) → IsProper d signals → IsProper d words → (b : Back old g h) → next_waits g ≡ true
        → Back signals (first_frames i run_d) (fresh words h.store.targets)
    restarting {old} {g} {h} signals words ps pw b wt = record {
      front = first_frames i run_e;
      near = first-near (fresh words h.store.targets);
      leads = b.leads;
      comes = restarts signals words (proper signals ps) (proper words pw) b.comes ((stepped b).stays wt);
    }

    turned : {signals : Location → ℕ} {g : Frames} {h : Held} → (others : Location → Option Location) → Back signals g h
        → Back signals g (record { store = record { words = h.store.words; targets = λ l. if is_others i l.root then others l else h.store.targets l }; requests = h.requests })
    turned {signals} {g} {h} others b = record {
      front = b.front;
      near = near-moved w (record { store = record { words = h.store.words; targets = λ l. if is_others i l.root then others l else h.store.targets l }; requests = h.requests }) refl b.near;
      leads = λ l m near ek. b.leads l m near (sym (ap (λ x. if x then others l else h.store.targets l) near) ∙ ek);
      comes = elsewhere others b.comes;
    }

    pub back : {signals : Location → ℕ} {g : Frames} {h : Held} → Comes d i run_d signals g h → Back signals g h
    back (begins signals words ps pw) = begun signals words ps pw
    back (goes_on c free eq) = going (back c) free eq
    back (resumes signals words ps pw c wt eq) = resuming signals words ps pw (back c) wt eq
    back (restarts signals words ps pw c wt) = restarting signals words ps pw (back c) wt
    back (repeats signals words ps pw c eq) = repeating signals words ps pw (back c) eq
    back (elsewhere others c) = turned others (back c)

  -- a process of the core's design with that of the unrolled core
  module _ (i : ℕ) (x : running.Process) (at_x : slice_get d.processes i ≡ Some x) where
    pub record Both : Type 0 where
      pub body : Process
      pub at : slice_get p.processes i ≡ Some body
      pub is : run-of home is_home p constant named kinded keeps p i body ≡ x
      pub at_e : slice_get e.processes i ≡ Some (run-of home is_home p constant named kinded keeps (unrolled_program p) i (with_body new body))

    both : Both
    both =
        let u = found-at home p 0 i p.processes x at_x in
        let z : 0 + i ≡ i = omega arith in
        record {
          body = u.0;
          at = u.1;
          is = (λ k. record { object = at_top []; sort = sort_of home p u.0 u.0.is_thread u.0.edge; body = body_of home p.cells (sym z k) u.0.body }) ∙ u.2;
          at_e = subst (λ j. slice_get e.processes i ≡ Some (run-of home is_home p constant named kinded keeps (unrolled_program p) j (with_body new u.0))) z
              (running-at home is_home p constant named kinded keeps (unrolled_program p) 0 i (map (with_body new) p.processes) (with_body new u.0) (mapped-at home is_home p constant named kinded keeps i p.processes u.0 u.1));
        }

  pub kept-back : KeepsDesign d
  kept-back = record {
    fixed = λ i x signals g h l y at_x c fx.
        let u = both i x at_x in
        let b = back i u.body u.at (run-of home is_home p constant named kinded keeps p i u.body) (run-of home is_home p constant named kinded keeps (unrolled_program p) i (with_body new u.body)) refl refl refl refl u.at_e
        (subst (λ x. Comes d i x signals g h) (sym u.is) c) in
        keeps.fixed i (run-of home is_home p constant named kinded keeps (unrolled_program p) i (with_body new u.body)) signals b.front h l y u.at_e b.comes (ap (λ g. g l) (fixed-same home new p constant) ∙ fx);
    pointers = λ i x signals g h at_x c.
        let u = both i x at_x in
        let b = back i u.body u.at (run-of home is_home p constant named kinded keeps p i u.body) (run-of home is_home p constant named kinded keeps (unrolled_program p) i (with_body new u.body)) refl refl refl refl u.at_e
        (subst (λ x. Comes d i x signals g h) (sym u.is) c) in
        (stepped i u.body u.at (run-of home is_home p constant named kinded keeps p i u.body) (run-of home is_home p constant named kinded keeps (unrolled_program p) i (with_body new u.body)) refl refl refl refl u.at_e b).points;
  }

module _ (p : Program) where
  same-headings : (qs : List Process) → map (heading p.cells) qs ≡ map (heading p.cells) (map (with_body (λ q. unrolled (setting_of p.cells q) [] Elsewhere q.body)) qs)
  same-headings [] = refl
  same-headings (q ∷ qs) = ap (λ hs. heading p.cells q ∷ hs) (same-headings qs)

  same-shape : SameShape p (unrolled_program p)
  same-shape = record { top = refl; cells = refl; vectors = refl; processes = same-headings p.processes }

  pub law : (constant : Location → Option ℕ) → IsNamed p → AreKinded p → Law 3 constant p (unrolled_program p)
  law constant named kinded = record {
    shape = same-shape;
    keeps = λ home is_home keeps. kept-back home is_home p constant named kinded keeps;
    same = λ home is_home keeps. same-unrolled home is_home p constant named kinded keeps;
  }
