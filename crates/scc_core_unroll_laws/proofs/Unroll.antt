-- An unrolled core means what the core means, three statements for one.
use Rattle.std.proofs.Common.{◌≡◌, ◌⊎◌, inl, inr, ℕ, zero, suc, ◌+◌, ◌*◌, Bool, true, false, List, [], ◌∷◌, map, Option, Some, None, refl, sym, ap, ◌∙◌, subst, arith}
use Rattle.std.specs.Prelude.{nat_le, slice_get, if◌then◌else◌}
use Rattle.scc_semantics.specs.Location.{Location, Top}
use Rattle.scc_semantics.specs.Body as machine
use Rattle.scc_semantics.specs.Design as running
use Rattle.scc_semantics.specs.Design.{Design}
use Rattle.scc_semantics.specs.Value.{Held}
use Rattle.scc_semantics.specs.Machine.{Frames, Stop, Go, Inner, Outcome, Suspended, Ended, Stuck, Unfinished, run, after}
use Rattle.scc_semantics.specs.Process.{first_frames}
use Rattle.scc_semantics.specs.Start.{IsProper, HoldsConstant}
use Rattle.scc_semantics.specs.Run.{FitsThing}
use Rattle.scc_semantics.specs.Same.{Turn, Seen, Middle, is_own, is_others, seen_of, leading, left_in, resumed, MeansTheSame, AllTheSame, SameDesign}
use Rattle.scc_semantics_laws.specs.Words.{IsOver}
use Rattle.scc_semantics_laws.proofs.Bound.{run-one}
use Rattle.scc_semantics_laws.proofs.Means.{Similar, means-by}
use Rattle.scc_core_spec.specs.Code.{Code}
use Rattle.scc_core_spec.specs.Program.{Program, Process, Cell, Sort, Input, Output, Signal, Variable, Local, Pointer, Port}
use Rattle.scc_core_spec.specs.Counted.{Elsewhere, uses}
use Rattle.scc_core_spec.specs.Unrolled.{with_body, setting_of, unrolled, unrolled_program}
use Rattle.scc_core_spec.specs.Source.{Home, at_top, body_of, sort_of, source_of, processes_from, target_there, cell_there}
use Rattle.scc_blocks_spec.specs.Passed.{IsHome}
use Rattle.scc_blocks_spec.specs.Comes.{Comes, Keeps as KeepsDesign, fresh}
use Rattle.scc_core_unroll_laws.specs.Unrolling.{Around, own, local_at, LeadsWell, Sound, B, U, below_stop, Alike, alike_stop, alike_on, Tells, IsKept, thrice, go, Keeps, Sim}
use Rattle.scc_core_unroll_laws.specs.Named.{IsNamed, AreKinded, around_of}
use Rattle.scc_core_unroll_laws.proofs.Counters.{some-is}
use Rattle.scc_core_unroll_laws.proofs.Steps.{thrice-is}
use Rattle.scc_core_unroll_laws.proofs.Follow.{follows}
use Rattle.scc_core_unroll_laws.proofs.Coming.{Along, along-first, along-next, IsKeptAt, kept}
use Rattle.scc_core_unroll_laws.proofs.Knowing.{knows, counters}
use Rattle.scc_core_unroll_laws.proofs.Designs.{places-same, fixed-same, targets-same, ports-same, sort-same}

module _ (home : Home) (is_home : IsHome home) (p : Program) (constant : Location → Option ℕ) (named : IsNamed p) (kinded : AreKinded p) (keeps : KeepsDesign (source_of home (unrolled_program p) constant)) where
  abbrev pub f : Process → Code
  f q = unrolled (setting_of p.cells q) [] Elsewhere q.body

  abbrev d : Design
  d = source_of home p constant

  abbrev e : Design
  e = source_of home (unrolled_program p) constant

  module _ (i : ℕ) (q : Process) (at : slice_get p.processes i ≡ Some q) (run_d run_e : running.Process) (object_d : run_d.object ≡ at_top []) (object_e : run_e.object ≡ at_top [])
      (body_d : run_d.body ≡ body_of home p.cells i q.body) (body_e : run_e.body ≡ body_of home p.cells i (f q)) (at_e : slice_get e.processes i ≡ Some run_e) where
    abbrev w : Around
    w = around_of home p constant i q

    pub sound : Sound w [] q.body
    sound = record { seldom = tt; untouched = tt; part = λ o. omega arith; waits = tt; kinds = kinded i q at }

    pub first-d : first_frames i run_d ≡ Go Inner (own w) (B w q.body) Stop
    first-d = λ z. Go Inner (record { process = i; calls = []; object = Some (object_d z) }) (body_d z) Stop

    pub first-e : first_frames i run_e ≡ Go Inner (own w) (B w (U w [] false q.body)) Stop
    first-e = λ z. Go Inner (record { process = i; calls = []; object = Some (object_e z) }) (body_e z) Stop

    pub record Standing (m n : Middle) : Type 0 where
      pub targets : m.targets ≡ n.targets
      pub leads : LeadsWell w n.targets
      pub alike : Alike w 0 [] m.frames n.frames
      pub along : Along e i run_e n

    module _ (t : Turn) (m n : Middle) (s : Standing m n) (pw : IsProper e t.words) (ps : IsProper e t.signals) where
      abbrev h : Held
      h = fresh t.words (leading i t n)

      abbrev fd : Frames
      fd = if t.restarts then first_frames i run_d else m.frames

      abbrev fe : Frames
      fe = if t.restarts then first_frames i run_e else n.frames

      started : Alike w 0 [] fd fe
      started = by t.restarts
        where
          by : (b : Bool) → Alike w 0 [] (if b then first_frames i run_d else m.frames) (if b then first_frames i run_e else n.frames)
          by true = subst (λ f. Alike w 0 [] f (first_frames i run_e)) (sym first-d) (subst (λ f. Alike w 0 [] (Go Inner (own w) (B w q.body) Stop) f) (sym first-e) (alike_on Inner Inner q.body sound below_stop))
          by false = s.alike

      led-well : LeadsWell w h.store.targets
      led-well l k near ek = s.leads l k near (sym (ap (λ b. if b then t.others l else n.targets l) near) ∙ ek)

      went-e : (c : ℕ) → resumed e i run_e c t n ≡ go w t.signals c fe h
      went-e c = ap (λ x. run x (λ f. machine.End) t.signals c fe h) (places-same home f p constant)

      went-d : (c : ℕ) → resumed d i run_d c t m ≡ go w t.signals c fd h
      went-d c = λ z. run d.places (λ f. machine.End) t.signals c fd (fresh t.words (λ l. if is_others i l.root then t.others l else s.targets z l))

      kept-at : (x : Outcome) → IsKeptAt e i run_e keeps at_e x → IsKept w x
      kept-at (Suspended g a) k = ((λ l x u. k.0 l x (ap (λ g. g l) (fixed-same home f p constant) ∙ u)), k.1)
      kept-at (Ended a) k = tt
      kept-at (Stuck a) k = tt
      kept-at Unfinished k = tt

      kept-from : (g : Frames) → Comes e i run_e t.signals g h → Keeps w t.signals g h
      kept-from g c j = subst (IsKept w) (ap (λ x. after x (λ f. machine.End) t.signals j g h) (places-same home f p constant))
          (kept-at (after e.places (λ f. machine.End) t.signals j g h) (kept e i run_e keeps at_e j t.signals ps g h c))

      fixed-words : (o : Option ℕ) (x y : ℕ) → HoldsConstant o x → o ≡ Some y → x ≡ y
      fixed-words None x y k e = absurd cc
      fixed-words (Some c) x y k e = k ∙ some-is e

      kept-stop : Keeps w t.signals Stop h
      kept-stop zero = ((λ l x u. fixed-words (e.fixed l) (t.words l) x (pw.fixed l) (ap (λ g. g l) (fixed-same home f p constant) ∙ u)), refl)
      kept-stop (suc j) = tt

      keep : Keeps w t.signals fe h
      keep = by t.restarts
        where
          standing : (n.frames ≡ Stop) ⊎ Comes e i run_e t.signals n.frames h → Keeps w t.signals n.frames h
          standing (inl x) = subst (λ g. Keeps w t.signals g h) (sym x) kept-stop
          standing (inr c) = kept-from n.frames c

          by : (b : Bool) → Keeps w t.signals (if b then first_frames i run_e else n.frames) h
          by true = kept-from (first_frames i run_e) (s.along.first t.signals t.words t.others ps pw)
          by false = standing (s.along.on t.signals t.words t.others ps pw)

      sim : (c : ℕ) → Sim w t.signals c 0 fd fe h
      sim c = follows w (counters home is_home p constant i q named at) (knows home is_home p constant i q named) t.signals c 0 [] fd fe h started tt led-well keep

      abbrev x : ℕ → Outcome
      x c = go w t.signals c fe h

      abbrev y : ℕ → Outcome
      y c = go w t.signals c fd h

      along-on : (c : ℕ) → Along e i run_e (left_in (x c) n)
      along-on c = subst (λ u. Along e i run_e (left_in u n)) (went-e c) (along-next e i run_e c t n pw ps s.along)

      lead-same : leading i t m ≡ leading i t n
      lead-same = λ z l. if is_others i l.root then t.others l else s.targets z l

      record Stands (u v : Outcome) : Type 0 where
        pub seen : seen_of i (leading i t m) v ≡ seen_of i (leading i t n) u
        pub over : IsOver v
        pub standing : Standing (left_in v m) (left_in u n)

      stands : (u y v : Outcome) → Tells w u y v → IsOver u → Along e i run_e (left_in u n) → Stands u v
      stands (Suspended g a) y (Suspended k b) r o al = record {
        seen = λ z. seen_of i (lead-same z) (Suspended k (r.0 z));
        over = tt;
        standing = record { targets = ap (λ a. a.store.targets) r.0; leads = r.2; alike = r.1; along = al };
      }
      stands (Ended a) y (Ended b) r o al = record {
        seen = λ z. seen_of i (lead-same z) (Ended (r.0 z));
        over = tt;
        standing = record { targets = ap (λ a. a.store.targets) r.0; leads = r.1; alike = alike_stop; along = al };
      }
      stands (Stuck a) y (Stuck b) r o al = record { seen = λ z. seen_of i (lead-same z) (Stuck (r z)); over = tt; standing = s }
      stands Unfinished y v r o al = absurd o
      stands (Suspended g a) y (Ended b) r o al = absurd r
      stands (Suspended g a) y (Stuck b) r o al = absurd r
      stands (Suspended g a) y Unfinished r o al = absurd r
      stands (Ended a) y (Suspended g b) r o al = absurd r
      stands (Ended a) y (Stuck b) r o al = absurd r
      stands (Ended a) y Unfinished r o al = absurd r
      stands (Stuck a) y (Suspended g b) r o al = absurd r
      stands (Stuck a) y (Ended b) r o al = absurd r
      stands (Stuck a) y Unfinished r o al = absurd r

      seen-over : (before : Location → Option Location) (u : Outcome) (o : Seen) → seen_of i before u ≡ Some o → IsOver u
      seen-over before (Suspended g a) o e = tt
      seen-over before (Ended a) o e = tt
      seen-over before (Stuck a) o e = tt
      seen-over before Unfinished o e = absurd cc

      abbrev Slow : ℕ → Seen → Type 0
      Slow c o = (seen_of i (leading i t m) (resumed d i run_d (3 * c) t m) ≡ Some o) × Standing (left_in (resumed d i run_d (3 * c) t m) m) (left_in (resumed e i run_e c t n) n)

      slow : (c : ℕ) (o : Seen) → seen_of i (leading i t n) (resumed e i run_e c t n) ≡ Some o → Slow c o
      slow c o seen =
          let hc : 3 * c ≡ thrice c 0 = let k = thrice-is c 0 in omega (arith, k) in
          let here : seen_of i (leading i t n) (x c) ≡ Some o = sym (ap (seen_of i (leading i t n)) (went-e c)) ∙ seen in
          let r = stands (x c) (y c) (y (thrice c 0)) (sim c) (seen-over (leading i t n) (x c) o here) (along-on c) in
          let same : resumed d i run_d (3 * c) t m ≡ y (thrice c 0) = went-d (3 * c) ∙ ap y hc in (
            ap (seen_of i (leading i t m)) same ∙ (r.seen ∙ here),
            subst (λ u. Standing (left_in u m) (left_in (resumed e i run_e c t n) n)) (sym same) (subst (λ u. Standing (left_in (y (thrice c 0)) m) (left_in u n)) (sym (went-e c)) r.standing),
          )

      abbrev Fast : ℕ → Seen → Type 0
      Fast c o = (b : ℕ) × (seen_of i (leading i t n) (resumed e i run_e b t n) ≡ Some o) × Standing (left_in (resumed d i run_d c t m) m) (left_in (resumed e i run_e b t n) n)

      also-over : (u y v : Outcome) → Tells w u y v → IsOver y → IsOver u
      also-over (Suspended g a) y v r o = tt
      also-over (Ended a) y v r o = tt
      also-over (Stuck a) y v r o = tt
      also-over Unfinished y v r o = subst IsOver r o

      fast : (c : ℕ) (o : Seen) → seen_of i (leading i t m) (resumed d i run_d c t m) ≡ Some o → Fast c o
      fast c o seen =
          let here : seen_of i (leading i t m) (y c) ≡ Some o = sym (ap (seen_of i (leading i t m)) (went-d c)) ∙ seen in
          let over = seen-over (leading i t m) (y c) o here in
          let r = stands (x c) (y c) (y (thrice c 0)) (sim c) (also-over (x c) (y c) (y (thrice c 0)) (sim c) over) (along-on c) in
          let one : y (thrice c 0) ≡ y c = run-one w.places (λ f. machine.End) t.signals (thrice c 0) c fd h r.over over in (
            c,
            ap (seen_of i (leading i t n)) (went-e c) ∙ (sym r.seen ∙ (ap (seen_of i (leading i t m)) one ∙ here)),
            subst (λ u. Standing (left_in u m) (left_in (resumed e i run_e c t n) n)) (sym (went-d c))
                (subst (λ u. Standing (left_in (y c) m) (left_in u n)) (sym (went-e c)) (subst (λ u. Standing (left_in u m) (left_in (x c) n)) one r.standing)),
          )

    -- construction left no pointer at a local
    pub leads-first : LeadsWell w e.targets
    leads-first l k near ek = by (cell_there home (unrolled_program p) true l) ek
      where
        sorts : (c : Cell) (u : Sort) → target_there home (unrolled_program p) (Some c) ≡ Some k → k.root ≡ Top
        sorts c u ek = by c.sort ek
          where
            by : (u : Sort) → target_there home (unrolled_program p) (Some (record c { sort = u })) ≡ Some k → k.root ≡ Top
            by (Pointer (Some path)) ek = sym (ap (λ l. l.root) (some-is ek))
            by (Pointer None) ek = absurd cc
            by Input ek = absurd cc
            by Output ek = absurd cc
            by Signal ek = absurd cc
            by (Variable x b) ek = absurd cc
            by (Local j) ek = absurd cc
            by (Port r) ek = absurd cc

        by : (c : Option Cell) → target_there home (unrolled_program p) c ≡ Some k → (is_others i k.root ≡ false) × ((o : ℕ) → nat_le (uses w.setting.cells o w.setting.body) 2 ≡ true → k ≡ local_at w o → ⊥)
        by None ek = absurd cc
        by (Some c) ek =
            let r = sorts c c.sort ek in
            (ap (is_others i) r, λ o few h. let z : is_own i Top ≡ true = ap (is_own i) (sym r ∙ ap (λ l. l.root) h) ∙ is_home.own i o in cc)

    similar : Similar 3 d e i run_d run_e Standing
    similar = record {
      first = record {
        targets = sym (targets-same home f p constant);
        leads = leads-first;
        alike = subst (λ g. Alike w 0 [] g (first_frames i run_e)) (sym first-d) (subst (λ g. Alike w 0 [] (Go Inner (own w) (B w q.body) Stop) g) (sym first-e) (alike_on Inner Inner q.body sound below_stop));
        along = along-first e i run_e;
      };
      fast = λ m n s t pw ps c o seen. fast t m n s (proper t.words pw) (proper t.signals ps) c o seen;
      slow = λ m n s t pw ps c o seen. slow t m n s (proper t.words pw) (proper t.signals ps) c o seen;
    }
      where
        proper : (words : Location → ℕ) → IsProper d words → IsProper e words
        proper words r = record {
          fits = λ l. subst (λ x. FitsThing (x.things l) (words l)) (sym (places-same home f p constant)) (r.fits l);
          fixed = λ l. subst (λ x. HoldsConstant (x l) (words l)) (sym (fixed-same home f p constant)) (r.fixed l);
          constants = r.constants;
        }

    pub means : MeansTheSame 3 d e i run_d run_e
    means = means-by 3 d e i run_d run_e Standing similar

  abbrev pub run-of : Program → ℕ → Process → running.Process
  run-of r i q = record { object = at_top []; sort = sort_of home r q q.is_thread q.edge; body = body_of home r.cells i q.body }

  pub running-at : (r : Program) (i n : ℕ) (qs : List Process) (q : Process) → slice_get qs n ≡ Some q → slice_get (processes_from home r i qs) n ≡ Some (run-of r (i + n) q)
  running-at r i n [] q g = absurd cc
  running-at r i zero (x ∷ qs) q g = let z : i ≡ i + 0 = omega arith in λ k. Some (run-of r (z k) (some-is g k))
  running-at r i (suc n) (x ∷ qs) q g =
      let z : suc i + n ≡ i + suc n = omega arith in
      subst (λ j. slice_get (processes_from home r (suc i) qs) n ≡ Some (run-of r j q)) z (running-at r (suc i) n qs q g)

  pub mapped-at : (n : ℕ) (qs : List Process) (q : Process) → slice_get qs n ≡ Some q → slice_get (map (with_body f) qs) n ≡ Some (with_body f q)
  mapped-at n [] q g = absurd cc
  mapped-at zero (x ∷ qs) q g = ap (λ q. Some (with_body f q)) (some-is g)
  mapped-at (suc n) (x ∷ qs) q g = mapped-at n qs q g

  all-same : (j : ℕ) (qs : List Process) → ((n : ℕ) (q : Process) → slice_get qs n ≡ Some q → slice_get p.processes (j + n) ≡ Some q)
      → AllTheSame 3 d e j (processes_from home p j qs) (processes_from home (unrolled_program p) j (map (with_body f) qs))
  all-same j [] at = tt
  all-same j (q ∷ qs) at =
      let z : j + 0 ≡ j = omega arith in
      let here : slice_get p.processes j ≡ Some q = subst (λ i. slice_get p.processes i ≡ Some q) z (at 0 q refl) in
      let there : slice_get e.processes j ≡ Some (run-of (unrolled_program p) j (with_body f q)) =
      let y : 0 + j ≡ j = omega arith in
      subst (λ i. slice_get e.processes j ≡ Some (run-of (unrolled_program p) i (with_body f q))) y (running-at (unrolled_program p) 0 j (map (with_body f) p.processes) (with_body f q) (mapped-at j p.processes q here)) in
      let next : suc j ≡ j + 1 = omega arith in (
        sym (sort-same home f p constant q q.is_thread q.edge),
        means j q here (run-of p j q) (run-of (unrolled_program p) j (with_body f q)) refl refl refl refl there,
        subst (λ k. AllTheSame 3 d e k (processes_from home p (suc j) qs) (processes_from home (unrolled_program p) (suc j) (map (with_body f) qs))) next
            (all-same (suc j) qs (λ n r g. let y : j + suc n ≡ suc j + n = omega arith in subst (λ i. slice_get p.processes i ≡ Some r) y (at (suc n) r g))),
      )

  pub same-unrolled : SameDesign 3 d e
  same-unrolled = record {
    things = λ l. ap (λ x. x.things l) (sym (places-same home f p constant));
    ports = sym (ports-same home f p constant);
    fixed = λ l. ap (λ x. x l) (sym (fixed-same home f p constant));
    constants = λ l. refl;
    processes = all-same 0 p.processes (λ n q g. let y : n ≡ 0 + n = omega arith in subst (λ i. slice_get p.processes i ≡ Some q) y g);
  }
