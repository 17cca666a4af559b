-- A resolved core means what the core means, statement for statement.
use Rattle.std.proofs.Common.{◌≡◌, ◌⊎◌, inl, inr, ℕ, zero, suc, ◌*◌, Bool, true, false, List, [], Option, Some, None, option_map, refl, sym, ap, ◌∙◌, subst, arith}
use Rattle.std.specs.Prelude.{not, slice_get, option_and_then, if◌then◌else◌}
use Rattle.scc_semantics.specs.Location.{Location, Root, Top, Local, Answer, Part}
use Rattle.scc_semantics.specs.Body as machine
use Rattle.scc_semantics.specs.Design as running
use Rattle.scc_semantics.specs.Design.{Design}
use Rattle.scc_semantics.specs.Value.{Held}
use Rattle.scc_semantics.specs.Machine.{Frames, Stop, Go, Inner, Outcome, Suspended, Ended, Stuck, Unfinished, run, after}
use Rattle.scc_semantics.specs.Process.{first_frames}
use Rattle.scc_semantics.specs.Start.{IsProper, HoldsConstant}
use Rattle.scc_semantics.specs.Run.{FitsThing}
use Rattle.scc_semantics.specs.Same.{Turn, Seen, Waits, Ends, Sticks, Middle, is_own, is_others, same_target, moved, seen_of, leading, left_in, resumed, MeansTheSame}
use Rattle.scc_semantics_laws.specs.Words.{PlainFrames, all_aimed}
use Rattle.scc_semantics_laws.proofs.Means.{Similar, means-by}
use Rattle.scc_semantics_laws.proofs.Places.{same-self}
use Rattle.scc_semantics_laws.proofs.Blind.{run-blind}
use Rattle.scc_core_spec.specs.Term.{Own}
use Rattle.scc_core_spec.specs.Code.{Code}
use Rattle.scc_core_spec.specs.Named.{steps_of}
use Rattle.scc_core_spec.specs.Program.{Program, Process, Cell, Pointer, is_pointer}
use Rattle.scc_core_spec.specs.Resolved.{Made}
use Rattle.scc_core_spec.specs.Unpointed.{unpointed}
use Rattle.scc_core_spec.specs.Unpointed as first
use Rattle.scc_core_spec.specs.Renumbered.{all_unpointed}
use Rattle.scc_core_spec.specs.Source.{Home, at_top, body_of, source_of, location_in, location_of, process_named, cell_location, cell_there, target_there}
use Rattle.scc_blocks_spec.specs.Passed.{IsHome}
use Rattle.scc_blocks_spec.specs.Comes.{Comes, Keeps as KeepsDesign, fresh}
use Rattle.scc_core_unroll_laws.specs.Unrolling.{Around, own, IsKept, go, along, Keeps}
use Rattle.scc_core_unroll_laws.specs.Named.{IsNamed}
use Rattle.scc_core_unroll_laws.proofs.Counters.{some-is}
use Rattle.scc_core_unroll_laws.proofs.Coming.{Along, along-first, along-next, IsKeptAt, kept}
use Rattle.scc_core_pass_laws.specs.Pointing.{base, LeadsTo, Known, w_of}
use Rattle.scc_core_pass_laws.specs.Resolving.{Locals, Matching, matching_stop, matching_go, Beneath, beneath_stop, beneath_go, Stayed, Beside}
use Rattle.scc_core_pass_laws.specs.Renumbering.{IsResolvable}
use Rattle.scc_core_pass_laws.proofs.Clean.{IsCleanCode, code-clean, clean-plain-code}
use Rattle.scc_core_pass_laws.proofs.Placed.{after-blind, run-there, after-there}
use Rattle.scc_core_pass_laws.proofs.Renumber.{m, places-same, fixed-same}
use Rattle.scc_core_pass_laws.proofs.Still.{run-follows}

-- its own is no other's
not-others : (i : ℕ) (r : Root) → is_own i r ≡ true → is_others i r ≡ false
not-others i Top h = refl
not-others i (Local j calls n) h = ap not h
not-others i (Answer j calls) h = ap not h

target-self : (o : Option Location) → same_target o o ≡ true
target-self None = refl
target-self (Some l) = same-self l

module _ (home : Home) (is_home : IsHome home) (p : Program) (constant : Location → Option ℕ) (named : IsNamed p) (qs : List Process) (made : all_unpointed p p.processes ≡ Made qs)
    (keeps : KeepsDesign (source_of home (m home p qs made constant) constant)) where
  abbrev M : Program
  M = m home p qs made constant

  abbrev d : Design
  d = source_of home p constant

  abbrev e : Design
  e = source_of home M constant

  pub proper : (words : Location → ℕ) → IsProper d words → IsProper e words
  proper words r = record {
    fits = λ l. subst (λ x. FitsThing (x.things l) (words l)) (sym (places-same home p qs made constant)) (r.fits l);
    fixed = λ l. subst (λ x. HoldsConstant (x l) (words l)) (sym (fixed-same home p qs made constant)) (r.fixed l);
    constants = r.constants;
  }

  module _ (i : ℕ) (q : Process) (at : slice_get p.processes i ≡ Some q) (able : IsResolvable home p i q) (new : Code) (is_new : unpointed (first.at_first p) q.body ≡ Made new) (run_d run_e : running.Process)
      (object_d : run_d.object ≡ at_top []) (object_e : run_e.object ≡ at_top []) (body_d : run_d.body ≡ body_of home p.cells i q.body) (body_e : run_e.body ≡ body_of home p.cells i new) (at_e : slice_get e.processes i ≡ Some run_e) where
    abbrev w : Around
    w = w_of home p constant i q

    abbrev nowhere : Locals
    nowhere = λ n. None

    first-d : first_frames i run_d ≡ Go Inner (own w) (body_of home p.cells i q.body) Stop
    first-d = λ z. Go Inner (record { process = i; calls = []; object = Some (object_d z) }) (body_d z) Stop

    first-e : first_frames i run_e ≡ Go Inner (own w) (body_of home p.cells i new) Stop
    first-e = λ z. Go Inner (record { process = i; calls = []; object = Some (object_e z) }) (body_e z) Stop

    clean : IsCleanCode p.cells new
    clean = code-clean p.cells p.vectors nowhere (λ n t z. absurd cc) q.body new is_new

    pub first-matching : Matching home p constant i q nowhere (first_frames i run_d) (first_frames i run_e)
    first-matching = subst (λ g. Matching home p constant i q nowhere g (first_frames i run_e)) (sym first-d) (subst (λ g. Matching home p constant i q nowhere (Go Inner (own w) (body_of home p.cells i q.body) Stop) g) (sym first-e)
        (matching_go Inner Inner q.body new (record { own = able.own; made = is_new; plain = clean-plain-code p.cells home i new clean }) beneath_stop))

    -- a top's pointer stands at the top
    at-root : (c : Cell) → c.name.own ≡ None → (cell_location home p c).root ≡ Top
    at-root c none = ap (λ o. (location_in home (process_named 0 c.name.path p.processes) o c.name).root) none

    -- pointers of other processes may lead elsewhere
    pub known-led : (local : Locals) (t : Turn) (n : Middle) → Known home p constant i q local n.targets → Known home p constant i q local (leading i t n)
    known-led local t n k = record {
      here = λ j c x atj ptr el. subst (LeadsTo home p constant i q x) (sym (ap (λ b. if b then t.others (cell_location home p c) else n.targets (cell_location home p c)) (not-others i (cell_location home p c).root (k.ours j c x atj el)))) (k.here j c x atj ptr el);
      ours = k.ours;
      top = λ j c x atj none sort. ap (λ r. if is_others i r then t.others (cell_location home p c) else n.targets (cell_location home p c)) (at-root c none) ∙ k.top j c x atj none sort;
    }

    -- at a beginning nothing is known of local pointers
    pub known-nowhere : (local : Locals) (t : Location → Option Location) → Known home p constant i q local t → Known home p constant i q nowhere t
    known-nowhere local t k = record { here = λ j c x atj ptr el. absurd cc; ours = λ j c x atj el. absurd cc; top = k.top }

    pub known-first : Known home p constant i q nowhere d.targets
    known-first = record {
      here = λ j c x atj ptr el. absurd cc;
      ours = λ j c x atj el. absurd cc;
      top = λ j c x atj none sort.
          let pointer : is_pointer c.sort ≡ true = ap is_pointer sort in
          let place : cell_location home p c ≡ location_of home i c.name = (λ z. location_in home (process_named 0 c.name.path p.processes) (none z) c.name) ∙ (λ z. location_in home i (sym none z) c.name) in
          let name : (o : Own) → c.name.own ≡ Some o → c.name.path ≡ q.name.path = λ o eo. let z : None ≡ Some o = sym none ∙ eo in absurd cc in
          let there : cell_there home p true (location_of home i c.name) ≡ Some c = able.apart.found true (location_of home i c.name) (steps_of c.name) (base c.name name)
          ∙ (ap (option_and_then (slice_get p.cells)) (able.apart.whole true j c atj pointer) ∙ atj) in
          ap (λ l. target_there home p (cell_there home p true l)) place ∙ (ap (target_there home p) there ∙ lead c x sort);
    }
      where
        lead : (c : Cell) (x : Option (List Part)) → c.sort ≡ Pointer x → target_there home p (Some c) ≡ option_map at_top x
        lead c x sort = ap (λ u. target_there home p (Some (record c { sort = u }))) sort

    pub record Standing (n k : Middle) : Type 0 where
      pub local : Locals
      pub alike : Matching home p constant i q local n.frames k.frames
      pub known : Known home p constant i q local n.targets
      pub along : Along e i run_e k

    plain-beneath : (local : Locals) {f g : Frames} → Beneath home p constant i q local f g → PlainFrames g
    plain-beneath local beneath_stop = tt
    plain-beneath local (beneath_go mark old c c' sub r b) = (r.plain, plain-beneath old b)

    pub plain-matching : (local : Locals) {f g : Frames} → Matching home p constant i q local f g → PlainFrames g
    plain-matching local matching_stop = tt
    plain-matching local (matching_go mark mark' c c' r b) = (r.plain, plain-beneath local b)

    module _ (t : Turn) (n k : Middle) (s : Standing n k) (pw : IsProper e t.words) (ps : IsProper e t.signals) where
      abbrev a : Held
      a = fresh t.words (leading i t n)

      abbrev fd : Frames
      fd = if t.restarts then first_frames i run_d else n.frames

      abbrev fe : Frames
      fe = if t.restarts then first_frames i run_e else k.frames

      -- where the resume begins
      record Begun : Type 0 where
        pub local : Locals
        pub alike : Matching home p constant i q local fd fe
        pub known : Known home p constant i q local (leading i t n)

      begun : Begun
      begun = by t.restarts refl
        where
          by : (b : Bool) → t.restarts ≡ b → Begun
          by true z = record {
            local = nowhere;
            alike = subst (λ b. Matching home p constant i q nowhere (if b then first_frames i run_d else n.frames) (if b then first_frames i run_e else k.frames)) (sym z) first-matching;
            known = known-nowhere s.local (leading i t n) (known-led s.local t n s.known);
          }
          by false z = record {
            local = s.local;
            alike = subst (λ b. Matching home p constant i q s.local (if b then first_frames i run_d else n.frames) (if b then first_frames i run_e else k.frames)) (sym z) s.alike;
            known = known-led s.local t n s.known;
          }

      plain : PlainFrames fe
      plain = plain-matching begun.local begun.alike

      abbrev x : ℕ → Outcome
      x c = go w t.signals c fe a

      abbrev y : ℕ → Outcome
      y c = go w t.signals c fd a

      -- the resolved core's resume, on its pointers
      went-e : (c : ℕ) → resumed e i run_e c t k ≡ all_aimed (leading i t k) (x c)
      went-e c = ap (λ x. run x (λ f. machine.End) t.signals c fe (fresh t.words (leading i t k))) (places-same home p qs made constant)
          ∙ (run-there (λ l. false) w.places (λ f. machine.End) t.signals c fe (fresh t.words (leading i t k)) plain
          ∙ (run-blind w.places (λ f. machine.End) t.signals (leading i t k) c fe a plain).same)

      passed : (c : ℕ) → after e.places (λ f. machine.End) t.signals c fe (fresh t.words (leading i t k)) ≡ all_aimed (leading i t k) (along w t.signals c fe a)
      passed c = ap (λ x. after x (λ f. machine.End) t.signals c fe (fresh t.words (leading i t k))) (places-same home p qs made constant)
          ∙ (after-there (λ l. false) w.places (λ f. machine.End) t.signals c fe (fresh t.words (leading i t k)) plain
          ∙ (after-blind w.places (λ f. machine.End) t.signals (leading i t k) c fe a plain).same)

      kept-at : (o : Outcome) → IsKeptAt e i run_e keeps at_e (all_aimed (leading i t k) o) → IsKept w o
      kept-at (Suspended g b) h = ((λ l v u. h.0 l v (ap (λ g. g l) (fixed-same home p qs made constant) ∙ u)), h.1)
      kept-at (Ended b) h = tt
      kept-at (Stuck b) h = tt
      kept-at Unfinished h = tt

      fixed-words : (o : Option ℕ) (u v : ℕ) → HoldsConstant o u → o ≡ Some v → u ≡ v
      fixed-words None u v h z = absurd cc
      fixed-words (Some c) u v h z = h ∙ some-is z

      kept-stop : Keeps w t.signals Stop a
      kept-stop zero = ((λ l v u. fixed-words (e.fixed l) (t.words l) v (pw.fixed l) (ap (λ g. g l) (fixed-same home p qs made constant) ∙ u)), refl)
      kept-stop (suc j) = tt

      keep : Keeps w t.signals fe a
      keep = by standing
        where
          standing : (fe ≡ Stop) ⊎ Comes e i run_e t.signals fe (fresh t.words (leading i t k))
          standing = begins t.restarts
            where
              begins : (b : Bool) → ((if b then first_frames i run_e else k.frames) ≡ Stop) ⊎ Comes e i run_e t.signals (if b then first_frames i run_e else k.frames) (fresh t.words (leading i t k))
              begins true = inr (s.along.first t.signals t.words t.others ps pw)
              begins false = s.along.on t.signals t.words t.others ps pw

          by : (fe ≡ Stop) ⊎ Comes e i run_e t.signals fe (fresh t.words (leading i t k)) → Keeps w t.signals fe a
          by (inl z) = subst (λ g. Keeps w t.signals g a) (sym z) kept-stop
          by (inr c) = λ j. kept-at (along w t.signals j fe a) (subst (IsKeptAt e i run_e keeps at_e) (passed j) (kept e i run_e keeps at_e j t.signals ps fe (fresh t.words (leading i t k)) c))

      sim : (c : ℕ) → Beside home p constant i q (leading i t n) (y c) (x c)
      sim c = run-follows home p constant i q is_home named able.apart t.signals (leading i t n) at c begun.local fd fe a begun.alike begun.known (λ l z. refl) keep

      still-d : (u : Location → Option Location) → Stayed home p constant i q (leading i t n) u → moved i (leading i t n) u ≡ λ l. false
      still-d u h = λ z l. by l (is_own i l.root) refl z
        where
          by : (l : Location) (b : Bool) → is_own i l.root ≡ b → (if b then false else not (same_target (leading i t n l) (u l))) ≡ false
          by l true g = refl
          by l false g = ap (λ v. not (same_target (leading i t n l) v)) (h l g) ∙ ap not (target-self (leading i t n l))

      still-e : moved i (leading i t k) (leading i t k) ≡ λ l. false
      still-e = λ z l. by l (is_own i l.root) z
        where
          by : (l : Location) (b : Bool) → (if b then false else not (same_target (leading i t k l) (leading i t k l))) ≡ false
          by l true = refl
          by l false = ap not (target-self (leading i t k l))

      seen-same : (o o' : Outcome) → Beside home p constant i q (leading i t n) o o' → seen_of i (leading i t n) o ≡ seen_of i (leading i t k) (all_aimed (leading i t k) o')
      seen-same (Suspended f b) (Suspended g c) h = λ z. let s : Seen = record { ending = Waits; words = h.1.0 z; requests = h.1.1 z; moved = (still-d b.store.targets h.4 ∙ sym still-e) z } in Some s
      seen-same (Ended b) (Ended c) h = λ z. let s : Seen = record { ending = Ends; words = h.1.0 z; requests = h.1.1 z; moved = (still-d b.store.targets h.3 ∙ sym still-e) z } in Some s
      seen-same (Stuck b) (Stuck c) h = λ z. let s : Seen = record { ending = Sticks; words = h.0.0 z; requests = h.0.1 z; moved = (still-d b.store.targets h.1 ∙ sym still-e) z } in Some s
      seen-same Unfinished Unfinished h = refl
      seen-same (Suspended f b) (Ended c) h = absurd h
      seen-same (Suspended f b) (Stuck c) h = absurd h
      seen-same (Suspended f b) Unfinished h = absurd h
      seen-same (Ended b) (Suspended g c) h = absurd h
      seen-same (Ended b) (Stuck c) h = absurd h
      seen-same (Ended b) Unfinished h = absurd h
      seen-same (Stuck b) (Suspended g c) h = absurd h
      seen-same (Stuck b) (Ended c) h = absurd h
      seen-same (Stuck b) Unfinished h = absurd h
      seen-same Unfinished (Suspended g c) h = absurd h
      seen-same Unfinished (Ended c) h = absurd h
      seen-same Unfinished (Stuck c) h = absurd h

      stands : (o o' : Outcome) → Beside home p constant i q (leading i t n) o o' → Along e i run_e (left_in (all_aimed (leading i t k) o') k) → Standing (left_in o n) (left_in (all_aimed (leading i t k) o') k)
      stands (Suspended f b) (Suspended g c) h al = record { local = h.0; alike = h.2; known = h.3; along = al }
      stands (Ended b) (Ended c) h al = record { local = h.0; alike = matching_stop; known = h.2; along = al }
      stands (Stuck b) (Stuck c) h al = s
      stands Unfinished Unfinished h al = s
      stands (Suspended f b) (Ended c) h al = absurd h
      stands (Suspended f b) (Stuck c) h al = absurd h
      stands (Suspended f b) Unfinished h al = absurd h
      stands (Ended b) (Suspended g c) h al = absurd h
      stands (Ended b) (Stuck c) h al = absurd h
      stands (Ended b) Unfinished h al = absurd h
      stands (Stuck b) (Suspended g c) h al = absurd h
      stands (Stuck b) (Ended c) h al = absurd h
      stands (Stuck b) Unfinished h al = absurd h
      stands Unfinished (Suspended g c) h al = absurd h
      stands Unfinished (Ended c) h al = absurd h
      stands Unfinished (Stuck c) h al = absurd h

      both-seen : (c : ℕ) → seen_of i (leading i t n) (resumed d i run_d c t n) ≡ seen_of i (leading i t k) (resumed e i run_e c t k)
      both-seen c = seen-same (y c) (x c) (sim c) ∙ ap (seen_of i (leading i t k)) (sym (went-e c))

      both-stand : (c : ℕ) → Standing (left_in (resumed d i run_d c t n) n) (left_in (resumed e i run_e c t k) k)
      both-stand c = subst (λ o. Standing (left_in (y c) n) (left_in o k)) (sym (went-e c))
          (stands (y c) (x c) (sim c) (subst (λ o. Along e i run_e (left_in o k)) (went-e c) (along-next e i run_e c t k pw ps s.along)))

    similar : Similar 1 d e i run_d run_e Standing
    similar = record {
      first = record { local = nowhere; alike = first-matching; known = known-first; along = along-first e i run_e };
      fast = λ n k s t pw ps c o seen. (c, sym (both-seen t n k s (proper t.words pw) (proper t.signals ps) c) ∙ seen, both-stand t n k s (proper t.words pw) (proper t.signals ps) c);
      slow = λ n k s t pw ps c o seen.
          let z : 1 * c ≡ c = omega arith in
          subst (λ b. (seen_of i (leading i t n) (resumed d i run_d b t n) ≡ Some o) × Standing (left_in (resumed d i run_d b t n) n) (left_in (resumed e i run_e c t k) k)) (sym z)
          (both-seen t n k s (proper t.words pw) (proper t.signals ps) c ∙ seen, both-stand t n k s (proper t.words pw) (proper t.signals ps) c);
    }

    pub means : MeansTheSame 1 d e i run_d run_e
    means = means-by 1 d e i run_d run_e Standing similar
