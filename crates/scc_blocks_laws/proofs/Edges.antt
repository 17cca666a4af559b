-- Edges and asynchronous resets give registers the words that turns leave.
use Rattle.std.proofs.Common.{◌≡◌, ◌<◌, ◌^◌, ◌&&◌, ℕ, zero, suc, nat_eq, Bool, true, false, cond, List, Option, Some, None, slice_get, refl, sym, ap, ◌∙◌, subst, arith, if◌then◌else◌}
use Rattle.std.specs.Prelude.{not}
use Rattle.scc_svtree.specs.declared.module.SvModule.{SvModule}
use Rattle.scc_svtree.specs.declared.module.SvBlock.TheVariants.{Edge}
use Rattle.scc_svtree.specs.declared.module.SvSet.{SvSet}
use Rattle.scc_svtree.specs.declared.module.SvReset.{SvReset}
use Rattle.scc_svtree.specs.declared.expr.VarId.{VarId}
use Rattle.scc_svtree.specs.Code.{code_of}
use Rattle.scc_svtree.specs.Sizes.{assigned, fixed}
use Rattle.scc_svtree.specs.Steps.{or_old, loaded, is_active, reset_word, is_reset, set_word, after_edges, after_resets, input_at}
use Rattle.scc_svtree.specs.Sound.{IsSound, IsSoundEdge, IsSoundReset, block_assigns}
use Rattle.scc_svtree.specs.Variables.{width_at as width_of_variable}
use Rattle.scc_core_spec.specs.Program.{Program, Process, Reset, is_root}
use Rattle.scc_core_spec.specs.Program as program
use Rattle.scc_blocks_spec.specs.Effect.{effect}
use Rattle.scc_core_spec.specs.Live.{live}
use Rattle.scc_blocks_spec.specs.Tied.{Registers}
use Rattle.scc_blocks_spec.specs.Turns.{Regs, Left, turn, found, reset_at, is_loaded, ran_segment, segment_at, thread_turn, method_left}
use Rattle.scc_blocks_run_laws.specs.Pieces.{Wide, variable}
use Rattle.scc_blocks_run_laws.specs.Blocks.{IsProper, Built, IsEdge, IsBlock, Loads, IsBranch, BranchBy, BranchIf, Numbering, set_term}
use Rattle.scc_blocks_run_laws.specs.Follows.{IsSteady}
use Rattle.scc_blocks_run_laws.proofs.Firsts.{fixed_assigned}
use Rattle.scc_blocks_laws.proofs.Placed.{each-at, edges-none, edges-at, resets-at, set-at}
use Rattle.scc_blocks_laws.proofs.Settles.{set-alone}

level-test : (up : Bool) (k : ℕ) → k < 2 → cond up (not (nat_eq k 0)) (nat_eq k 0) ≡ nat_eq k (if up then 1 else 0)
level-test true zero l = refl
level-test true (suc zero) l = refl
level-test true (suc (suc k)) l = absurd (omega arith)
level-test false k l = refl

-- whether an asynchronous reset is active at a block, and in the registers
pub data Activity (p : Program) (r : Registers) (i : ℕ) (q : Process) (w : Wide) (n : Numbering) (reset : Option SvReset) (y : ℕ → ℕ) (g : Regs) : Type 0 where
  calm : is_reset reset y ≡ false → (q.is_thread && is_loaded g.word q.reset) ≡ false → Activity p r i q w n reset y g
  active : (br : SvReset) → reset ≡ Some br → is_active br y ≡ true → (q.is_thread && is_loaded g.word q.reset) ≡ true → Loads p r i q w n br → Activity p r i q w n reset y g

module _ (p : Program) (r : Registers) (i : ℕ) (q : Process) (w : Wide) (n : Numbering) (reset : Option SvReset) (y : ℕ → ℕ) (g : Regs) (pr : IsProper p r g) where
  none-calm : reset ≡ None → (q.is_thread && is_loaded g.word q.reset) ≡ false → Activity p r i q w n reset y g
  none-calm e u = Activity.calm (ap (λ o. is_reset o y) e) u

  branch-active : (o : Reset) → q.is_thread ≡ true → q.reset ≡ Some o → o.asynchronous ≡ true → (br : IsBranch p r i q w n o reset) → y br.branch.signal.0 ≡ g.word o.cell → Activity p r i q w n reset y g
  branch-active o t e a br s = go (reset_at g.word (Some o)) refl
    where
      bit : g.word o.cell < 2
      bit = let P : ℕ → Type 0 = λ k. g.word o.cell < 2 ^ k in subst P br.one_bit (pr.fits o.cell br.branch.signal.0 br.signal)

      same : is_active br.branch y ≡ reset_at g.word (Some o)
      same = (λ j. cond (br.level j) (not (nat_eq (s j) 0)) (nat_eq (s j) 0)) ∙ level-test o.level (g.word o.cell) bit

      is : (q.is_thread && is_loaded g.word q.reset) ≡ (o.asynchronous && reset_at g.word (Some o))
      is = λ j. t j && is_loaded g.word (e j)

      go : (k : Bool) → reset_at g.word (Some o) ≡ k → Activity p r i q w n reset y g
      go true k = Activity.active br.branch br.stands (same ∙ k) (is ∙ (λ j. a j && k j)) br.loads
      go false k = Activity.calm (ap (λ o. is_reset o y) br.stands ∙ same ∙ k) (is ∙ (λ j. a j && k j))

  pub activity : BranchBy p r i q w n q.is_thread q.reset reset → ((br : SvReset) → reset ≡ Some br → (c : ℕ) → r.variable c ≡ Some br.signal.0 → y br.signal.0 ≡ g.word c) → Activity p r i q w n reset y g
  activity b s = go q.is_thread refl q.reset refl b
    where
      by : (o : Reset) → q.is_thread ≡ true → q.reset ≡ Some o → (a : Bool) → o.asynchronous ≡ a → BranchIf p r i q w n o reset a → Activity p r i q w n reset y g
      by o t e true a f = branch-active o t e a f (s f.branch f.stands o.cell f.signal)
      by o t e false a f = none-calm f ((λ j. t j && is_loaded g.word (e j)) ∙ ap (λ k. k && reset_at g.word (Some o)) a)

      go : (t : Bool) → q.is_thread ≡ t → (o : Option Reset) → q.reset ≡ o → BranchBy p r i q w n t o reset → Activity p r i q w n reset y g
      go true t (Some o) e f = by o t e o.asynchronous refl f
      go true t None e f = none-calm f (λ j. t j && is_loaded g.word (e j))
      go false t o e f = none-calm f (ap (λ k. k && is_loaded g.word q.reset) t)

-- what it is that a reset loads
pub loaded-parts : (q : Process) (g : Regs) → (q.is_thread && is_loaded g.word q.reset) ≡ true → (q.is_thread ≡ true) × (reset_at g.word q.reset ≡ true)
loaded-parts q g h = go q.is_thread refl q.reset refl
  where
    by : (o : Reset) → q.is_thread ≡ true → q.reset ≡ Some o → (a : Bool) → o.asynchronous ≡ a → (k : Bool) → reset_at g.word (Some o) ≡ k → (q.is_thread ≡ true) × (reset_at g.word q.reset ≡ true)
    by o t e a f true k = (t, ap (λ o. reset_at g.word o) e ∙ k)
    by o t e true f false k = let z : (q.is_thread && is_loaded g.word q.reset) ≡ false = (λ j. t j && is_loaded g.word (e j)) ∙ (λ j. f j && k j) in absurd (cc)
    by o t e false f false k = let z : (q.is_thread && is_loaded g.word q.reset) ≡ false = (λ j. t j && is_loaded g.word (e j)) ∙ (λ j. f j && k j) in absurd (cc)

    go : (t : Bool) → q.is_thread ≡ t → (o : Option Reset) → q.reset ≡ o → (q.is_thread ≡ true) × (reset_at g.word q.reset ≡ true)
    go true t (Some o) e = by o t e o.asynchronous refl (reset_at g.word (Some o)) refl
    go true t None e = let z : (q.is_thread && is_loaded g.word q.reset) ≡ false = (λ j. t j && is_loaded g.word (e j)) in absurd (cc)
    go false t o e = let z : (q.is_thread && is_loaded g.word q.reset) ≡ false = ap (λ k. k && is_loaded g.word q.reset) t in absurd (cc)

pub unloaded-sequential : (q : Process) (g : Regs) (o : Reset) → (q.is_thread && is_loaded g.word q.reset) ≡ false → q.is_thread ≡ true → q.reset ≡ Some o → reset_at g.word q.reset ≡ true → o.asynchronous ≡ false
unloaded-sequential q g o h t e k = go o.asynchronous refl
  where
    go : (a : Bool) → o.asynchronous ≡ a → o.asynchronous ≡ false
    go false a = a
    go true a =
        let k' : reset_at g.word (Some o) ≡ true = sym (ap (λ o. reset_at g.word o) e) ∙ k in
        let z : (q.is_thread && is_loaded g.word q.reset) ≡ true = (λ j. t j && is_loaded g.word (e j)) ∙ (λ j. a j && k' j) in absurd (cc)

pub reset-runs : (p : Program) (i : ℕ) (q : Process) (g : Regs) (l : Left) → (q.is_thread && is_loaded g.word q.reset) ≡ true → turn p i q g ≡ Some l → ran_segment p.cells (segment_at p.cells q 0) (found p i q g) ≡ Some l
reset-runs p i q g l h t =
    let z = loaded-parts q g h in
    sym (ap (λ k. thread_turn p.cells q k (g.place i) (found p i q g)) z.1)
    ∙ sym (ap (λ k. if k then thread_turn p.cells q (reset_at g.word q.reset) (g.place i) (found p i q g) else method_left (effect p.cells (live p.cells q.body) (found p i q g))) z.0) ∙ t

module _ (many : Bool) (p : Program) (r : Registers) (m : SvModule) (b : Built p r m) (sound : IsSound many m) (st : IsSteady p r) (i : ℕ) (q : Process) (e : program.Edge) (s : slice_get p.processes i ≡ Some q) (h : q.edge ≡ Some e) where
  abbrev d : IsEdge p r m b.clock_variable i q e (b.acts i q s).is_block.wide (b.acts i q s).is_block.numbers
  d = (b.acts i q s).edge e h

  abbrev B : IsBlock p r m i q (code_of (b.acts i q s).stmts)
  B = (b.acts i q s).is_block

  abbrev n : Numbering
  n = B.numbers

  abbrev W : ℕ → ℕ
  W = width_of_variable m.vars

  abbrev Active : (ℕ → ℕ) → Regs → Type 0
  Active y g = Activity p r i q B.wide n d.reset y g

  -- the signal of a reset is an input
  pub signal-input : (br : SvReset) → d.reset ≡ Some br → input_at m.vars br.signal.0 ≡ true
  signal-input br k =
      let z : IsSoundEdge m (Edge d.rising d.clock d.reset d.sets) = each-at (IsSoundEdge m) m.blocks d.at (Edge d.rising d.clock d.reset d.sets) sound.edges d.stands in
      let P : Option SvReset → Type 0 = λ o. IsSoundReset m o d.sets in
      let t : IsSoundReset m (Some br) d.sets = subst P k z.2 in t.0.0

  module _ (clocks : ℕ → Bool) (y : ℕ → ℕ) (g : Regs) (pr : IsProper p r g) (v u width word : ℕ) (set : set_term d.sets v ≡ Some (variable u)) where
    -- a variable that the block sets at its clock's edge
    pub edge-gives : clocks d.clock.0 ≡ true → W v ≡ width → W u ≡ width → word < 2 ^ width → ((q.is_thread && is_loaded g.word q.reset) ≡ false → y u ≡ word)
        → ((br : SvReset) → d.reset ≡ Some br → (q.is_thread && is_loaded g.word q.reset) ≡ true → Loads p r i q B.wide n br → or_old (loaded br.values v) (y v) ≡ word) → Active y g → after_edges W clocks m.blocks y v ≡ word
    edge-gives c a f l next load (Activity.calm x z) =
        edges-at W clocks y v m.blocks d.at d.rising d.clock d.reset d.sets d.stands c (set-alone many p r m b sound i q e s h v (variable u) set)
        ∙ ap (λ k. or_old (cond k (reset_word d.reset y v) (set_word W d.sets y v)) (y v)) x
        ∙ ap (λ o. or_old o (y v)) (set-at W d.sets y v (variable u) set)
        ∙ (λ j. assigned (a j) (fixed (f j) false (next z j))) ∙ fixed_assigned width word l
    edge-gives c a f l next load (Activity.active br t x z ld) =
        edges-at W clocks y v m.blocks d.at d.rising d.clock d.reset d.sets d.stands c (set-alone many p r m b sound i q e s h v (variable u) set)
        ∙ (λ j. or_old (cond (is_reset (t j) y) (reset_word (t j) y v) (set_word W d.sets y v)) (y v))
        ∙ (λ j. or_old (cond (x j) (cond (x j) (loaded br.values v) None) (set_word W d.sets y v)) (y v)) ∙ load br t z ld

    -- at other clocks' edges it keeps its word
    pub edge-rests : clocks d.clock.0 ≡ false → after_edges W clocks m.blocks y v ≡ y v
    edge-rests c = edges-none W clocks y v m.blocks (λ j a k t ss f on. go j a k t ss f on (block_assigns (Edge a k t ss) v) refl)
      where
        go : (j : ℕ) (a : Bool) (k : VarId) (t : Option SvReset) (ss : List SvSet) → slice_get m.blocks j ≡ Some (Edge a k t ss) → clocks k.0 ≡ true → (x : Bool) → block_assigns (Edge a k t ss) v ≡ x → block_assigns (Edge a k t ss) v ≡ false
        go j a k t ss f on false x = x
        go j a k t ss f on true x =
            let z : j ≡ d.at = set-alone many p r m b sound i q e s h v (variable u) set j (Edge a k t ss) f x in
            let P : ℕ → Type 0 = λ j. slice_get m.blocks j ≡ Some (Edge a k t ss) in
            let f' : slice_get m.blocks d.at ≡ Some (Edge a k t ss) = subst P z f in
            let w : Some (Edge a k t ss) ≡ Some (Edge d.rising d.clock d.reset d.sets) = sym f' ∙ d.stands in
            let o : k ≡ d.clock = cc in
            let on' : clocks d.clock.0 ≡ true = sym (ap (λ k. clocks k.0) o) ∙ on in absurd (cc)

    -- what an asynchronous reset loads
    pub reset-gives : ((br : SvReset) → d.reset ≡ Some br → (q.is_thread && is_loaded g.word q.reset) ≡ true → Loads p r i q B.wide n br → or_old (loaded br.values v) (y v) ≡ word) → ((q.is_thread && is_loaded g.word q.reset) ≡ false → y v ≡ word) → Active y g → after_resets m.blocks y v ≡ word
    reset-gives load old (Activity.calm x z) =
        resets-at y v m.blocks d.at d.rising d.clock d.reset d.sets d.stands (set-alone many p r m b sound i q e s h v (variable u) set)
        ∙ ap (λ o. or_old o (y v)) (none d.reset x) ∙ old z
      where
        none : (o : Option SvReset) → is_reset o y ≡ false → reset_word o y v ≡ None
        none None x = refl
        none (Some br) x = ap (λ k. cond k (loaded br.values v) None) x
    reset-gives load old (Activity.active br t x z ld) =
        resets-at y v m.blocks d.at d.rising d.clock d.reset d.sets d.stands (set-alone many p r m b sound i q e s h v (variable u) set)
        ∙ (λ j. or_old (reset_word (t j) y v) (y v)) ∙ ap (λ k. or_old (cond k (loaded br.values v) None) (y v)) x ∙ load br t z ld
