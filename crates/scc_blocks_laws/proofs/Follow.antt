-- The module follows the registers.
use Rattle.std.proofs.Common.{◌≡◌, ◌*◌, ◌+◌, ℕ, zero, suc, Bool, true, false, List, [], ◌∷◌, Option, Some, None, slice_get, refl, sym, ◌∙◌, subst}
use Rattle.scc_svtree.specs.declared.module.SvModule.{SvModule}
use Rattle.scc_svtree.specs.Code.{code_of}
use Rattle.scc_svtree.specs.Running.{run}
use Rattle.scc_svtree.specs.Steps.{StepInput, Step, Steps, SettlesTo, IsEdgeStep, EdgePart, after_edges, after_resets}
use Rattle.scc_svtree.specs.Steps as sv
use Rattle.scc_svtree.specs.Variables.{width_at as width_of_variable}
use Rattle.scc_svtree.proofs.Combs.{sound_settles}
use Rattle.scc_core_spec.specs.Program.{Program, Process}
use Rattle.scc_core_spec.specs.Program as program
use Rattle.scc_core_spec.specs.Uses.{among}
use Rattle.scc_blocks_spec.specs.Acting.{Acting}
use Rattle.scc_blocks_spec.specs.Tied.{Registers, HoldsNumber}
use Rattle.scc_blocks_spec.specs.Turns.{Regs, Left, turn, acted, begun, edged, has_clock}
use Rattle.scc_blocks_spec.specs.Shown.{View, Constant, Read, Driven, Delayed, Plain, Next, view_of, IsAsked, next_state_number, next_counter_number}
use Rattle.scc_blocks_run_laws.specs.Pieces.{Wide}
use Rattle.scc_blocks_run_laws.specs.Blocks.{IsProper, Built, Numbering}
use Rattle.scc_blocks_run_laws.specs.Follows.{SameEdge, after_turn, seen_after, FindsReset, AllMirror, ModuleFollows, StepsFollow, IsModuleOf}
use Rattle.scc_blocks_spec.specs.Tied.{Mirrors, MirrorsRegisters}
use Rattle.scc_blocks_run_laws.specs.Leaves.{IsReady, LeavesTurn, LeavesCell, LeavesOwn}
use Rattle.scc_blocks_laws.proofs.Proper.{acted-proper}
use Rattle.scc_blocks_laws.proofs.Settles.{block-rests, settled-mirrors, settled-proper, settled-leaves}
use Rattle.scc_blocks_laws.proofs.Stored.{edges-store}
use Rattle.scc_blocks_laws.proofs.Begun.{resets-store, given-fits, given_registers, reset_registers, reset_words, takes}

-- ---- valuations with the same words

module _ (y z : ℕ → ℕ) (same : (v : ℕ) → y v ≡ z v) where
  cell-same : (n : Numbering) (a : Acting) (v : View) (c : ℕ) → LeavesCell n y a v c → LeavesCell n z a v c
  cell-same n a (Constant w) c h = tt
  cell-same n a Read c h = tt
  cell-same n a Driven c h = let P : ℕ → Type 0 = λ w. IsAsked (a.asked c) w in subst P (same (n.id (2 * c))) h
  cell-same n a Delayed c h = sym (same (n.id (2 * c + 1))) ∙ h
  cell-same n a Plain c h = tt
  cell-same n a Next c h = sym (same (n.id (2 * c + 1))) ∙ h

  own-same : (n : Numbering) (w v number : ℕ) → LeavesOwn n y w v number → LeavesOwn n z w v number
  own-same n zero v number h = tt
  own-same n (suc w) v number h = sym (same (n.id v)) ∙ h

  leaves-same : (p : Program) (i : ℕ) (q : Process) (w : Wide) (n : Numbering) (l : Left) → LeavesTurn p i q w n l y → LeavesTurn p i q w n l z
  leaves-same p i q w n l h = record {
    cells = λ c k. cell-same n l.acting (view_of p i q c) c (h.cells c k);
    state = λ place t e. own-same n w.state next_state_number place.number (h.state place t e);
    counter = λ place t e. own-same n w.counter next_counter_number place.left (h.counter place t e);
  }

  number-same : (o : Option ℕ) (k : ℕ) → HoldsNumber y o k → HoldsNumber z o k
  number-same None k h = h
  number-same (Some v) k h = sym (same v) ∙ h

  mirrors-same : (p : Program) (r : Registers) (g : Regs) → Mirrors p r y g → Mirrors p r z g
  mirrors-same p r g h = record {
    words = λ c v e. sym (same v) ∙ h.words c v e;
    states = λ i q place s t e. number-same (r.state i) place.number (h.states i q place s t e);
    counters = λ i q place s t e. number-same (r.counter i) place.left (h.counters i q place s t e);
  }

only-registers : (p : Program) (r : Registers) (y : ℕ → ℕ) (g : Regs) → Mirrors p r y g → MirrorsRegisters p r y g
only-registers p r y g h = record { words = λ c v e k. h.words c v e; states = h.states; counters = h.counters }

module _ (many : Bool) (p : Program) (r : Registers) (m : SvModule) (mo : IsModuleOf many p r m) where
  abbrev b : Built p r m
  b = mo.built

  -- what is behind an edge, or behind none
  record Behind (at : Option (List ℕ)) (g : Regs) (z : ℕ → ℕ) (later : List (ℕ → ℕ)) : Type 0 where
    shows : AllMirror p r later (seen_after p at g)
    mirrors : MirrorsRegisters p r z (after_turn p at g)
    proper : IsProper p r (after_turn p at g)

  edge-follows : (at : List ℕ) (clocks : ℕ → Bool) (y z : ℕ → ℕ) (g : Regs) → IsProper p r g → Mirrors p r y g
      → ((i : ℕ) (q : Process) (e : program.Edge) → slice_get p.processes i ≡ Some q → q.edge ≡ Some e → clocks (b.clock_variable e.cell) ≡ among e.cell at) → FindsReset p (Some at) g
      → ((i : ℕ) (q : Process) (s : slice_get p.processes i ≡ Some q) (l : Left) → (q.is_thread ≡ true → IsReady i q g) → turn p i q g ≡ Some l → LeavesTurn p i q (b.acts i q s).is_block.wide (b.acts i q s).is_block.numbers l y)
      → IsEdgeStep m clocks y z → Mirrors p r z (edged p at g) × IsProper p r (edged p at g)
  edge-follows at clocks y z g pr mir same finds leaves step =
      let st = edges-store many p r m b mo.sound mo.steady at clocks y g pr mir same finds leaves in
      let pa = acted-proper p r m b mo.steady (λ i q. has_clock at q.edge) g pr in
      let x' = after_edges (width_of_variable m.vars) clocks m.blocks y in (
        settled-mirrors many p r m b mo.sound x' z step mo.steady mo.rank mo.ranked (acted p (λ i q. has_clock at q.edge) g) pa st,
        settled-proper many p r m b mo.sound x' z step mo.steady mo.rank mo.ranked (acted p (λ i q. has_clock at q.edge) g) pa st,
      )

  behind-follows : (at : Option (List ℕ)) (has : Bool) (clocks : ℕ → Bool) (y z : ℕ → ℕ) (later : List (ℕ → ℕ)) (g : Regs) → IsProper p r g → Mirrors p r y g → SameEdge p b.clock_variable at clocks has → FindsReset p at g
      → ((i : ℕ) (q : Process) (s : slice_get p.processes i ≡ Some q) (l : Left) → (q.is_thread ≡ true → IsReady i q g) → turn p i q g ≡ Some l → LeavesTurn p i q (b.acts i q s).is_block.wide (b.acts i q s).is_block.numbers l y)
      → EdgePart has m clocks y z later → Behind at g z later
  behind-follows None true clocks y z later g pr mir same finds leaves part = absurd (cc)
  behind-follows None false clocks y z later g pr mir same finds leaves part =
      let P : List (ℕ → ℕ) → Type 0 = λ l. AllMirror p r l [] in
      record { shows = subst P (sym part.1) tt; mirrors = only-registers p r z g (mirrors-same y z (λ v. sym (part.0 v)) p r g mir); proper = pr }
  behind-follows (Some at) false clocks y z later g pr mir same finds leaves part = let z : false ≡ true = same.0 in absurd (cc)
  behind-follows (Some at) true clocks y z later g pr mir same finds leaves part =
      let f = edge-follows at clocks y z g pr mir same.1 finds leaves part.0 in
      let P : List (ℕ → ℕ) → Type 0 = λ l. AllMirror p r l (edged p at g ∷ []) in
      record { shows = subst P (sym part.1) (f.0, tt); mirrors = only-registers p r z (edged p at g) f.0; proper = f.1 }

  pub module-follows : ModuleFollows p r m b.clock_variable
  module-follows t s x z seen g same pr mir finds step =
      let st = resets-store many p r m b mo.sound mo.steady t s same x g pr mir in
      let fg = given-fits many p r m b mo.sound mo.steady t s same x g pr mir in
      let h = given_registers many p r m b mo.sound mo.steady t s same x g pr mir in
      let k = takes many p r m b mo.sound mo.steady t s same x g pr mir in
      let x' = reset_words many p r m b mo.sound mo.steady t s same x g pr mir in
      let h' = reset_registers many p r m b mo.sound mo.steady t s same x g pr mir in
      let pa = acted-proper p r m b mo.steady k h fg in
      let y = step.settled in
      let mi = settled-mirrors many p r m b mo.sound x' y step.first mo.steady mo.rank mo.ranked h' pa st in
      let ps = settled-proper many p r m b mo.sound x' y step.first mo.steady mo.rank mo.ranked h' pa st in
      let g' = begun p t.inputs g in
      let leaves : (i : ℕ) (q : Process) (e : slice_get p.processes i ≡ Some q) (l : Left) → (q.is_thread ≡ true → IsReady i q g') → turn p i q g' ≡ Some l
      → LeavesTurn p i q (b.acts i q e).is_block.wide (b.acts i q e).is_block.numbers l y =
      λ i q e l ready u. leaves-same (run (width_of_variable m.vars) (code_of (b.acts i q e).stmts) y) y (block-rests many p r m b mo.sound x' y step.first (b.acts i q e).at (b.acts i q e).stmts (b.acts i q e).stands) p i q
      (b.acts i q e).is_block.wide (b.acts i q e).is_block.numbers l (settled-leaves many p r m b mo.sound x' y step.first mo.steady mo.rank mo.ranked h' pa st i q e l ready u) in
      let f = behind-follows t.at s.has_edge s.clocks y z step.later g' ps mi same.edge finds leaves step.second in
      let P : List (ℕ → ℕ) → Type 0 = λ l. AllMirror p r l (g' ∷ seen_after p t.at g') in
      record { shows = subst P (sym step.observed) (mi, f.shows); mirrors = f.mirrors; proper = f.proper }

  pub steps-follow : StepsFollow p r m b.clock_variable
  steps-follow [] [] x g [] same pr mir finds steps = tt
  steps-follow [] [] x g (o ∷ os) same pr mir finds steps = absurd steps
  steps-follow [] (s ∷ ss) x g seen same pr mir finds steps = absurd same
  steps-follow (t ∷ ts) [] x g seen same pr mir finds steps = absurd same
  steps-follow (t ∷ ts) (s ∷ ss) x g [] same pr mir finds steps = absurd steps
  steps-follow (t ∷ ts) (s ∷ ss) x g (o ∷ os) same pr mir finds steps =
      let f = module-follows t s x steps.0 o g same.0 pr mir finds.0 steps.1 in
      (f.shows, steps-follow ts ss steps.0 (after_turn p t.at (begun p t.inputs g)) os same.1 f.proper f.mirrors finds.1 steps.2)

  -- the module goes through all steps
  settles : (x : ℕ → ℕ) → (y : ℕ → ℕ) × SettlesTo m x y
  settles x = let s = sound_settles many m mo.sound x in (s.settled, s.is_settled)

  -- the second part of a step from a settled valuation
  record Second (h : Bool) (clocks : ℕ → Bool) (y : ℕ → ℕ) : Type 0 where
    to : ℕ → ℕ
    later : List (ℕ → ℕ)
    part : EdgePart h m clocks y to later

  second-exists : (h : Bool) (clocks : ℕ → Bool) (y : ℕ → ℕ) → Second h clocks y
  second-exists false clocks y = record { to = y; later = []; part = (λ v. refl, refl) }
  second-exists true clocks y = let z = settles (after_edges (width_of_variable m.vars) clocks m.blocks y) in record { to = z.0; later = z.0 ∷ []; part = (z.1, refl) }

  step-exists : (s : StepInput) (x : ℕ → ℕ) → (z : ℕ → ℕ) × (seen : List (ℕ → ℕ)) × Step m s x z seen
  step-exists s x =
      let y = settles (after_resets m.blocks (sv.with_inputs m s.inputs x)) in
      let z = second-exists s.has_edge s.clocks y.0 in
      (z.to, y.0 ∷ z.later, record { settled = y.0; first = y.1; later = z.later; second = z.part; observed = refl })

  pub steps-exist : (ss : List StepInput) (x : ℕ → ℕ) → (seen : List (List (ℕ → ℕ))) × Steps m x ss seen
  steps-exist [] x = ([], tt)
  steps-exist (s ∷ ss) x = let a = step-exists s x in let r = steps-exist ss a.0 in (a.1 ∷ r.0, (a.0, a.2, r.1))
