-- Steps of a free scheduler end tied to the registers that the standard steps end in.
use Rattle.std.proofs.Common.{◌≡◌, ℕ, Bool, true, false, ◌&&◌, List, [], ◌∷◌, Option, Some, None, refl, sym, ap, ◌∙◌, slice_get}
use Rattle.std.specs.Prelude.{unwrap_or}
use Rattle.scc_semantics.specs.Location.{Location}
use Rattle.scc_semantics.specs.Design.{Design}
use Rattle.scc_semantics.specs.Process.{State, Well}
use Rattle.scc_semantics.specs.Run as run
use Rattle.scc_semantics.specs.Run.{Step, Shown, observed, restarts, resumes_at}
use Rattle.scc_semantics.specs.Schedule.{Running, EachOnce, Settles, Begins, Edged, Scheduled, done, held, edged, round}
use Rattle.scc_core_spec.specs.Program.{Program, Process, Edge, is_root, is_combinational, is_combinational_by, is_input}
use Rattle.scc_core_spec.specs.Uses.{has_sort, among}
use Rattle.scc_core_spec.specs.Kept.{written_by}
use Rattle.scc_core_spec.specs.Constants.{written}
use Rattle.scc_core_spec.specs.Source.{Home}
use Rattle.scc_blocks_spec.specs.Turns.{Regs, Taking, acted, settled, is_loaded, has_clock}
use Rattle.scc_blocks_spec.specs.Turns as turns
use Rattle.scc_blocks_spec.specs.Tied.{Tied}
use Rattle.scc_core_effect_laws.specs.Follows.{IsSoundCore, Obeys, Does, Tracks, design_of}
use Rattle.scc_core_effect_laws.specs.Ordering.{IsOrdered}
use Rattle.scc_core_effect_laws.proofs.Names.{and-first, true-false}
use Rattle.scc_core_effect_laws.proofs.Unsure.{flat-has, has-sort, sort-of}
use Rattle.scc_core_effect_laws.proofs.Told.{any-true}
use Rattle.scc_core_laws.specs.Stepped.{IsStepOf, RegsStep, SameEdge, regs_shown, AreStepsOf, SeesAll}
use Rattle.scc_core_laws.proofs.Seeing.{sees}
use Rattle.scc_core_laws.proofs.Settling.{given-tied, restarts-are, edges-are}
use Rattle.scc_core_order_laws.specs.Inputs.{KeepsInputs}
use Rattle.scc_core_order_laws.proofs.Rounds.{once-fresh, once-is, round-follows}
use Rattle.scc_core_order_laws.proofs.Asked.{Senses, HasRun, others-keep}
use Rattle.scc_core_order_laws.proofs.Settled.{settles-there}

module _ (home : Home) (p : Program) (resolved : IsSoundCore home p) (obeys : Obeys p) (bounds : ℕ → ℕ) (does : Does home p bounds) (tracks : Tracks home p bounds) (order : List ℕ) (ordered : IsOrdered p order) (senses : Senses p)
    (kept : KeepsInputs p) (b : ℕ → ℕ) where
  abbrev D : Design
  D = design_of home p

  -- tied, with what its methods left
  pub record Follows (r : Running) (g : Regs) : Type 0 where
    pub tied : Tied home p r.state g
    pub has : HasRun home p r g

  no-thread : (q : Process) (t : Bool) (o : Option Edge) → is_combinational_by t o ≡ true → t ≡ true → ⊥
  no-thread q true o e t = true-false (sym e)
  no-thread q false o e t = true-false (sym t)

  no-clock : (cells : List ℕ) (t : Bool) (o : Option Edge) → is_combinational_by t o ≡ true → has_clock cells o ≡ true → ⊥
  no-clock cells t None e h = true-false (sym h)
  no-clock cells true (Some d) e h = true-false (sym e)
  no-clock cells false (Some d) e h = true-false (sym e)

  -- new inputs leave alone what methods left
  pub inputs-keep : (x : Step) (y : RegsStep) → IsStepOf home p x y → (r : Running) (g : Regs) → Follows r g → Follows (record { state = run.with_inputs D x.inputs r.state; found = r.found }) (turns.with_inputs y.given g)
  inputs-keep x y ok r g f = record {
    tied = given-tied home p resolved obeys bounds does tracks x y ok r.state g f.tied;
    has = record {
      ran = λ i q l here comb e. let m = f.has.ran i q l here comb e in record {
        start = m.start;
        answers = m.answers;
        met = m.met;
        stands = λ c root w. same i q c here root w (y.given c) refl ∙ m.stands c root w;
      };
    };
  }
    where
      same : (i : ℕ) (q : Process) (c : ℕ) → slice_get p.processes i ≡ Some q → has_sort is_root p.cells c ≡ true → among c (written_by p.cells q) ≡ true → (o : Option ℕ) → y.given c ≡ o → unwrap_or (y.given c) (g.word c) ≡ g.word c
      same i q c here root w None e = ap (λ o. unwrap_or o (g.word c)) e
      same i q c here root w (Some v) e =
          let z = sort-of is_root p.cells c root in
          true-false (sym (any-true (has_sort is_input p.cells) c (written p) (flat-has (written_by p.cells) c p.processes i q here w) (has-sort is_input p.cells c z.0 z.1 ∙ (ok.fit c v z.0 z.1 e).0)) ∙ kept)

  -- processes that are no methods, once each and in any order
  pub others-follow : (test : Rattle.scc_semantics.specs.Design.Process → Bool) (takes : Taking) → ((i : ℕ) (q : Process) → slice_get p.processes i ≡ Some q → test (Rattle.scc_core_laws.proofs.Resumes.source_process home p i q) ≡ takes i q)
      → ((i : ℕ) (q : Process) → slice_get p.processes i ≡ Some q → takes i q ≡ true → is_combinational q ≡ true → ⊥) → (runs : List ℕ) → EachOnce b D test runs
      → (r : Running) (g : Regs) → Follows r g → (s : State) → round b D runs r.state ≡ Well s → Follows (record { state = s; found = r.found }) (acted p takes g)
  others-follow test takes tests none runs once r g f s went = record {
    tied = round-follows home p resolved obeys bounds does tracks b r.state g f.tied runs takes (once-fresh home p b test runs once) (λ i q here. sym (tests i q here) ∙ once-is home p b test runs once i q here) s went;
    has = others-keep home p resolved obeys bounds does tracks takes none r s g f.has;
  }

  pub restarts-follow : (runs : List ℕ) (r : Running) (g : Regs) → Follows r g → EachOnce b D (restarts r.state) runs → (s : State) → round b D runs r.state ≡ Well s
      → Follows (record { state = s; found = r.found }) (acted p (λ i q. q.is_thread && is_loaded g.word q.reset) g)
  restarts-follow runs r g f once s went =
      others-follow (restarts r.state) (λ i q. q.is_thread && is_loaded g.word q.reset) (restarts-are home p resolved obeys bounds does tracks r.state g f.tied) (λ i q here e c. no-thread q q.is_thread q.edge c (and-first q.is_thread _ e))
      runs once r g f s went

  pub edges-follow : (at : List Location) (cells : List ℕ) → SameEdge home p (Some at) (Some cells) → (runs : List ℕ) (r : Running) (g : Regs) → Follows r g → EachOnce b D (resumes_at at) runs → (s : State) → round b D runs r.state ≡ Well s
      → Follows (record { state = s; found = r.found }) (acted p (λ i q. has_clock cells q.edge) g)
  edges-follow at cells agree runs r g f once s went =
      others-follow (resumes_at at) (λ i q. has_clock cells q.edge) (edges-are home p resolved obeys bounds does tracks at cells agree) (λ i q here e c. no-clock cells q.is_thread q.edge c e) runs once r g f s went

  settled-follow : {n : ℕ} {r t : Running} → Settles b D n r t → (g : Regs) → Follows r g → Follows t (settled p g)
  settled-follow settles g f = let m = settles-there home p resolved obeys bounds does tracks order ordered senses b settles g f.tied f.has in record { tied = m.0; has = m.1 }

  pub begins-follow : (x : Step) (y : RegsStep) → IsStepOf home p x y → (r t : Running) (g : Regs) → Follows r g → Begins b D x.inputs r t → Follows t (turns.begun p y.given g)
  begins-follow x y ok r t g f begins =
      settled-follow begins.settles (acted p (λ i q. q.is_thread && is_loaded (turns.with_inputs y.given g).word q.reset) (turns.with_inputs y.given g))
      (restarts-follow begins.order (record { state = run.with_inputs D x.inputs r.state; found = r.found }) (turns.with_inputs y.given g) (inputs-keep x y ok r g f) begins.once begins.state begins.runs)

  pub edged-follow : (at : List Location) (cells : List ℕ) → SameEdge home p (Some at) (Some cells) → (r t : Running) (g : Regs) → Follows r g → Edged b D at r t → Follows t (turns.edged p cells g)
  edged-follow at cells agree r t g f edges =
      settled-follow edges.settles (acted p (λ i q. has_clock cells q.edge) g) (edges-follow at cells agree edges.order r g f edges.once edges.state edges.runs)

  -- what it shows is what the registers show
  pub scheduled-sees : {r : Running} {xs : List Step} {os : List Shown} → Scheduled b D r xs os → (ys : List RegsStep) → AreStepsOf home p xs ys → (g : Regs) → Follows r g → SeesAll home p os (regs_shown p ys g)
  scheduled-sees (done r) [] ok g f = tt
  scheduled-sees (done r) (y ∷ ys) ok g f = absurd ok
  scheduled-sees (held words r begins more) [] ok g f = absurd ok
  scheduled-sees (edged words at r begins edges more) [] ok g f = absurd ok
  scheduled-sees (held {t = t} {xs = xs} {os = os} words r begins more) (y ∷ ys) ok g f =
      by y.edge ok.0.edge (begins-follow (record { inputs = words; edge = None }) y ok.0 r t g f begins) (λ h k. scheduled-sees more ys ok.1 h k)
    where
      by : (e : Option (List ℕ)) → SameEdge home p None e → Follows t (turns.begun p y.given g) → ((h : Regs) → Follows t h → SeesAll home p os (regs_shown p ys h))
          → SeesAll home p (record { before = observed D t.state; after = None } ∷ os) (regs_shown p (record { given = y.given; edge = e } ∷ ys) g)
      by None same k rest = ((sees home p resolved t.state (turns.begun p y.given g) k.tied, tt), rest (turns.begun p y.given g) k)
      by (Some cells) same k rest = absurd same
  scheduled-sees (edged {t = t} {u = u} {xs = xs} {os = os} words at r begins edges more) (y ∷ ys) ok g f =
      by y.edge ok.0.edge (begins-follow (record { inputs = words; edge = Some at }) y ok.0 r t g f begins) (λ h k. scheduled-sees more ys ok.1 h k)
    where
      by : (e : Option (List ℕ)) → SameEdge home p (Some at) e → Follows t (turns.begun p y.given g) → ((h : Regs) → Follows u h → SeesAll home p os (regs_shown p ys h))
          → SeesAll home p (record { before = observed D t.state; after = Some (observed D u.state) } ∷ os) (regs_shown p (record { given = y.given; edge = e } ∷ ys) g)
      by None same k rest = absurd same
      by (Some cells) same k rest =
          let m = edged-follow at cells same t u (turns.begun p y.given g) k edges in
          ((sees home p resolved t.state (turns.begun p y.given g) k.tied, sees home p resolved u.state (turns.edged p cells (turns.begun p y.given g)) m.tied), rest (turns.edged p cells (turns.begun p y.given g)) m)
