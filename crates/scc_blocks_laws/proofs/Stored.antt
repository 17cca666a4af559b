-- Behind edges, and behind resets, registers and valuation have the same words stored.
use Rattle.std.proofs.Common.{◌≡◌, ◌<◌, ◌*◌, ◌+◌, ◌-◌, ◌^◌, ◌&&◌, ◌⊎◌, inl, inr, ℕ, zero, suc, Bool, true, false, List, Option, Some, None, slice_get, refl, sym, ap, ◌∙◌, subst, arith}
use Rattle.std.specs.Prelude.{unwrap_or}
use Rattle.scc_svtree.specs.declared.module.SvModule.{SvModule}
use Rattle.scc_svtree.specs.declared.module.SvBlock.TheVariants.{Edge}
use Rattle.scc_svtree.specs.declared.module.SvReset.{SvReset}
use Rattle.scc_svtree.specs.Code.{code_of}
use Rattle.scc_svtree.specs.Steps.{or_old, loaded, after_edges, input_at}
use Rattle.scc_svtree.specs.Sound.{IsSound, block_assigns}
use Rattle.scc_svtree.specs.Variables.{width_at as width_of_variable}
use Rattle.scc_core_spec.specs.Program.{Program, Process, Reset, is_root}
use Rattle.scc_core_spec.specs.Program as program
use Rattle.scc_core_spec.specs.Kept.{written_by}
use Rattle.scc_core_spec.specs.Uses.{among, width_at}
use Rattle.scc_blocks_spec.specs.Acting.{latest}
use Rattle.scc_blocks_spec.specs.Effect.{Place}
use Rattle.scc_blocks_spec.specs.Tied.{Registers, HoldsNumber}
use Rattle.scc_blocks_spec.specs.Turns.{Regs, Left, Taking, turn, reset_at, is_loaded, has_clock, acted}
use Rattle.scc_blocks_spec.specs.Shown.{View, Delayed, Next, mine, view_of, sight_of, IsView, state_number, next_state_number, counter_number, next_counter_number}
use Rattle.scc_blocks_run_laws.specs.Pieces.{variable, IsThreadCode, BodyBy}
use Rattle.scc_blocks_run_laws.specs.Blocks.{IsProper, IsPlaceOf, Built, Origin, OnlyWriter, IsEdge, IsBlock, Loads, LoadsCell, LoadsOwn, SetsOwn, HasVariables, HasOwn, Numbering, if_wide, set_term}
use Rattle.scc_blocks_run_laws.specs.Follows.{IsSteady, FindsReset}
use Rattle.scc_blocks_spec.specs.Tied.{Mirrors}
use Rattle.scc_blocks_run_laws.specs.Leaves.{IsReady, LeavesTurn, LeavesCell, LeavesOwn, IsStored, Stores}
use Rattle.scc_blocks_run_laws.proofs.Blockruns.{view-is, find-kept}
use Rattle.scc_blocks_run_laws.proofs.Fitting.{thread-fits}
use Rattle.scc_blocks_run_laws.proofs.Acted.{unwritten-stays, writer-gives, writer-rests, place-taken, place-rests}
use Rattle.scc_blocks_laws.proofs.Proper.{fits-found, turn-fits, latest-fits}
use Rattle.scc_blocks_laws.proofs.Placed.{each-at, edges-none}
use Rattle.scc_blocks_laws.proofs.Settles.{register-set, thread-edge}
use Rattle.scc_blocks_laws.proofs.Edges.{Activity, activity, edge-gives, edge-rests, reset-runs, unloaded-sequential}

module _ (many : Bool) (p : Program) (r : Registers) (m : SvModule) (b : Built p r m) (sound : IsSound many m) (st : IsSteady p r) where
  abbrev W : ℕ → ℕ
  W = width_of_variable m.vars

  -- a register of a process
  module _ (i : ℕ) (q : Process) (e : program.Edge) (s : slice_get p.processes i ≡ Some q) (h : q.edge ≡ Some e) where
    abbrev B : IsBlock p r m i q (code_of (b.acts i q s).stmts)
    B = (b.acts i q s).is_block

    abbrev n : Numbering
    n = B.numbers

    module _ (c : ℕ) (k : mine p q c ≡ true) (w : (view_of p i q c ≡ Delayed) ⊎ (view_of p i q c ≡ Next)) (only : OnlyWriter p i c) where
      view-parts : (v : View) → view_of p i q c ≡ v → IsView p i q c v
      view-parts v x = let P : View → Type 0 = λ v. IsView p i q c v in subst P x (view-is p i q c)

      has-parts : (v : View) → view_of p i q c ≡ v → HasVariables r n (width_at p.cells c) v c
      has-parts v x = let P : View → Type 0 = λ v. HasVariables r n (width_at p.cells c) v c in subst P x (B.cells c k)

      -- where its process acts, the word that the turn leaves is the register's
      pub acted-latest : (takes : Taking) (g : Regs) (l : Left) → IsProper p r g → takes i q ≡ true → turn p i q g ≡ Some l → (acted p takes g).word c ≡ latest l.acting c
      acted-latest takes g l pr t x = go w (among c (written_by p.cells q)) refl
        where
          go : (view_of p i q c ≡ Delayed) ⊎ (view_of p i q c ≡ Next) → (a : Bool) → among c (written_by p.cells q) ≡ a → (acted p takes g).word c ≡ latest l.acting c
          go y true a = writer-gives p takes g c i q l s t a x only
          go (inl y) false a = let z : among c (written_by p.cells q) ≡ true = (view-parts Delayed y).2 in absurd (cc)
          go (inr y) false a =
              let z = view-parts Next y in
              writer-rests p takes g c i q s (λ j. t j && a j) only ∙ sym (st.stays i c q g l pr s x a ∙ find-kept p r i q g c z.0 z.2)

      pub now-wide : W (n.id (2 * c)) ≡ width_at p.cells c
      now-wide = go w
        where
          go : (view_of p i q c ≡ Delayed) ⊎ (view_of p i q c ≡ Next) → W (n.id (2 * c)) ≡ width_at p.cells c
          go (inl y) = let z = has-parts Delayed y in B.widths (2 * c) z.0.0 ∙ z.0.2
          go (inr y) = let z = has-parts Next y in B.widths (2 * c) z.0.0 ∙ z.0.2

      pub next-wide : W (n.id (2 * c + 1)) ≡ width_at p.cells c
      next-wide = go w
        where
          go : (view_of p i q c ≡ Delayed) ⊎ (view_of p i q c ≡ Next) → W (n.id (2 * c + 1)) ≡ width_at p.cells c
          go (inl y) = let z = has-parts Delayed y in B.widths (2 * c + 1) z.2.0 ∙ z.2.2
          go (inr y) = let z = has-parts Next y in B.widths (2 * c + 1) z.2.0 ∙ z.2.2

      -- the next value that the block leaves
      pub next-word : (y : ℕ → ℕ) (g : Regs) (l : Left) → IsProper p r g → turn p i q g ≡ Some l → LeavesTurn p i q B.wide n l y → y (n.id (2 * c + 1)) ≡ latest l.acting c
      next-word y g l pr x left = go w
        where
          L : View → Type 0
          L = λ v. LeavesCell n y l.acting v c

          go : (view_of p i q c ≡ Delayed) ⊎ (view_of p i q c ≡ Next) → y (n.id (2 * c + 1)) ≡ latest l.acting c
          go (inl z) = subst L z (left.cells c k)
          go (inr z) =
              let t : y (n.id (2 * c + 1)) ≡ l.acting.now c = subst L z (left.cells c k) in
              t ∙ sym (ap (λ o. unwrap_or o (l.acting.now c)) ((turn-fits p r m b st g pr i q s l x).roots c (view-parts Next z).1))

      pub load-word : (y : ℕ → ℕ) (g : Regs) (l : Left) (br : SvReset) → IsProper p r g → (q.is_thread && is_loaded g.word q.reset) ≡ true → turn p i q g ≡ Some l → y (n.id (2 * c)) ≡ g.word c → Loads p r i q B.wide n br
          → or_old (loaded br.values (n.id (2 * c))) (y (n.id (2 * c))) ≡ latest l.acting c
      load-word y g l br pr a x old ld = ap (λ o. or_old (loaded br.values (n.id (2 * c))) o) old ∙ go w
        where
          L : View → Type 0
          L = λ v. LoadsCell g l n br v c

          all : LoadsCell g l n br (view_of p i q c) c
          all = ld.cells g l c pr (reset-runs p i q g l a x) k

          go : (view_of p i q c ≡ Delayed) ⊎ (view_of p i q c ≡ Next) → or_old (loaded br.values (n.id (2 * c))) (g.word c) ≡ latest l.acting c
          go (inl z) = subst L z all
          go (inr z) = subst L z all

    -- states and counters fit
    pub place-fits : (g : Regs) (l : Left) (place : Place) → IsProper p r g → q.is_thread ≡ true → turn p i q g ≡ Some l → l.place ≡ Some place → (place.number < 2 ^ B.wide.state) × (place.left < 2 ^ B.wide.counter)
    place-fits g l place pr t x o =
        let P : Bool → Type 0 = λ k. BodyBy k (sight_of p i q) n.width B.wide q B.body in
        let code : IsThreadCode (sight_of p i q) n.width B.wide q B.body = subst P t B.is_body in
        let f : IsPlaceOf p.cells q place = (thread-fits p r i q g l place st pr s (fits-found p r m b st g pr i q s) t x o).stands in
        let top : f.0 - 1 < 2 ^ B.wide.counter = code.states.count_fits place.number f.0 f.1 in
        let less : place.left < f.0 = f.2 in
        (code.states.number_fits place.number f.0 f.1, omega arith)

  -- an input keeps its word
  input-edge : (clocks : ℕ → Bool) (y : ℕ → ℕ) (v : ℕ) → input_at m.vars v ≡ true → after_edges W clocks m.blocks y v ≡ y v
  input-edge clocks y v a = edges-none W clocks y v m.blocks (λ j x k t ss f on. each-at (λ b. block_assigns b v ≡ false) m.blocks j (Edge x k t ss) (sound.inputs_kept v a) f)

  -- ---- an edge

  module _ (at : List ℕ) (clocks : ℕ → Bool) (y : ℕ → ℕ) (g : Regs) (pr : IsProper p r g) (mir : Mirrors p r y g)
      (same : (i : ℕ) (q : Process) (e : program.Edge) → slice_get p.processes i ≡ Some q → q.edge ≡ Some e → clocks (b.clock_variable e.cell) ≡ among e.cell at)
      (finds : FindsReset p (Some at) g)
      (leaves : (i : ℕ) (q : Process) (s : slice_get p.processes i ≡ Some q) (l : Left) → (q.is_thread ≡ true → IsReady i q g) → turn p i q g ≡ Some l → LeavesTurn p i q (b.acts i q s).is_block.wide (b.acts i q s).is_block.numbers l y) where
    abbrev takes : Taking
    takes i q = has_clock at q.edge

    abbrev pub edge_words : ℕ → ℕ
    edge_words = after_edges W clocks m.blocks y

    ready : (i : ℕ) (q : Process) → slice_get p.processes i ≡ Some q → has_clock at q.edge ≡ true → (q.is_thread && is_loaded g.word q.reset) ≡ false → q.is_thread ≡ true → IsReady i q g
    ready i q s t u th = record {
      reset = λ o e a. unloaded-sequential q g o u th e a;
      place = λ a. go a (g.place i) refl;
    }
      where
        go : reset_at g.word q.reset ≡ false → (o : Option Place) → g.place i ≡ o → (place : Place) × (g.place i ≡ Some place)
        go a (Some pl) e = (pl, e)
        go a None e = let z : reset_at g.word q.reset ≡ true = finds i q s th t e in absurd (cc)

    module _ (i : ℕ) (q : Process) (e : program.Edge) (s : slice_get p.processes i ≡ Some q) (h : q.edge ≡ Some e) where
      abbrev d : IsEdge p r m b.clock_variable i q e (b.acts i q s).is_block.wide (b.acts i q s).is_block.numbers
      d = (b.acts i q s).edge e h

      clocked : clocks d.clock.0 ≡ has_clock at q.edge
      clocked = ap clocks d.is_clock ∙ same i q e s h ∙ sym (ap (λ o. has_clock at o) h)

      acts : Activity p r i q (b.acts i q s).is_block.wide (b.acts i q s).is_block.numbers d.reset y g
      acts = activity p r i q (b.acts i q s).is_block.wide (b.acts i q s).is_block.numbers d.reset y g pr d.branch (λ br k c a. mir.words c br.signal.0 a)

      register-edge : (c v : ℕ) → r.variable c ≡ Some v → mine p q c ≡ true → (view_of p i q c ≡ Delayed) ⊎ (view_of p i q c ≡ Next) → OnlyWriter p i c → edge_words v ≡ (acted p takes g).word c
      register-edge c v a k w only = go (has_clock at q.edge) refl
        where
          t : (v ≡ (b.acts i q s).is_block.numbers.id (2 * c)) × (set_term d.sets v ≡ Some (variable ((b.acts i q s).is_block.numbers.id (2 * c + 1))))
          t = register-set many p r m b sound i q e s h c v a k w

          go : (x : Bool) → has_clock at q.edge ≡ x → edge_words v ≡ (acted p takes g).word c
          go true x =
              let l = st.goes i q g pr s in
              let old : y ((b.acts i q s).is_block.numbers.id (2 * c)) ≡ g.word c = ap y (sym t.0) ∙ mir.words c v a in
              edge-gives many p r m b sound st i q e s h clocks y g pr v ((b.acts i q s).is_block.numbers.id (2 * c + 1)) (width_at p.cells c) (latest l.0.acting c) t.1 (clocked ∙ x)
              (ap W t.0 ∙ now-wide i q e s h c k w only) (next-wide i q e s h c k w only) (latest-fits p r m b st g pr i q s l.0 c l.1 (st.named i c q s k))
              (λ u. next-word i q e s h c k w only y g l.0 pr l.1 (leaves i q s l.0 (ready i q s x u) l.1))
              (λ br z f ld. ap (λ v. or_old (loaded br.values v) (y v)) t.0 ∙ load-word i q e s h c k w only y g l.0 br pr f l.1 old ld) acts
              ∙ sym (acted-latest i q e s h c k w only takes g l.0 pr x l.1)
          go false x =
              edge-rests many p r m b sound st i q e s h clocks y g pr v ((b.acts i q s).is_block.numbers.id (2 * c + 1)) (width_at p.cells c) 0 t.1 (clocked ∙ x) ∙ mir.words c v a
              ∙ sym (writer-rests p takes g c i q s (ap (λ z. z && among c (written_by p.cells q)) x) only)

      own-edge : (wd now nxt number : ℕ) (l : Left) → HasOwn (b.acts i q s).is_block.numbers wd now nxt → SetsOwn (b.acts i q s).is_block.numbers d.sets wd now nxt → number < 2 ^ wd → has_clock at q.edge ≡ true
          → ((q.is_thread && is_loaded g.word q.reset) ≡ false → LeavesOwn (b.acts i q s).is_block.numbers y wd nxt number)
          → ((br : SvReset) → (q.is_thread && is_loaded g.word q.reset) ≡ true → Loads p r i q (b.acts i q s).is_block.wide (b.acts i q s).is_block.numbers br → LoadsOwn (b.acts i q s).is_block.numbers br wd now number)
          → HoldsNumber edge_words (if_wide wd ((b.acts i q s).is_block.numbers.id now)) number
      own-edge zero now nxt number l own set less x left load = let less' : number < 1 = less in omega arith
      own-edge (suc wd) now nxt number l own set less x left load =
          let N = (b.acts i q s).is_block.numbers in
          edge-gives many p r m b sound st i q e s h clocks y g pr (N.id now) (N.id nxt) (suc wd) number set (clocked ∙ x)
          ((b.acts i q s).is_block.widths now own.0 ∙ own.1) ((b.acts i q s).is_block.widths nxt own.3.0 ∙ own.3.2) less left
          (λ br z f ld. ap (λ o. or_old o (y (N.id now))) (load br f ld)) acts

      own-rests : (wd now nxt number : ℕ) → SetsOwn (b.acts i q s).is_block.numbers d.sets wd now nxt → has_clock at q.edge ≡ false → HoldsNumber y (if_wide wd ((b.acts i q s).is_block.numbers.id now)) number
          → HoldsNumber edge_words (if_wide wd ((b.acts i q s).is_block.numbers.id now)) number
      own-rests zero now nxt number set x k = k
      own-rests (suc wd) now nxt number set x k =
          edge-rests many p r m b sound st i q e s h clocks y g pr ((b.acts i q s).is_block.numbers.id now) ((b.acts i q s).is_block.numbers.id nxt) (suc wd) number set (clocked ∙ x) ∙ k

      module _ (th : q.is_thread ≡ true) (place : Place) (pl : (acted p takes g).place i ≡ Some place) where
        taken-place : (l : Left) → has_clock at q.edge ≡ true → turn p i q g ≡ Some l → l.place ≡ Some place
        taken-place l x t = sym (place-taken p takes g i q l s (λ j. x j && th j) t) ∙ pl

        rests-place : has_clock at q.edge ≡ false → g.place i ≡ Some place
        rests-place x = sym (place-rests p takes g i q s (ap (λ z. z && q.is_thread) x)) ∙ pl

        state-edge : HoldsNumber edge_words (r.state i) place.number
        state-edge = go (has_clock at q.edge) refl
          where
            A : IsBlock p r m i q (code_of (b.acts i q s).stmts)
            A = (b.acts i q s).is_block

            E : Option ℕ → Type 0
            E = λ o. HoldsNumber edge_words o place.number

            Y : Option ℕ → Type 0
            Y = λ o. HoldsNumber y o place.number

            go : (x : Bool) → has_clock at q.edge ≡ x → HoldsNumber edge_words (r.state i) place.number
            go true x =
                let l = st.goes i q g pr s in
                let o = taken-place l.0 x l.1 in
                subst E (sym A.is_state) (own-edge A.wide.state state_number next_state_number place.number l.0 A.state d.sets_state (place-fits i q e s h g l.0 place pr th l.1 o).0 x
                (λ u. (leaves i q s l.0 (ready i q s x u) l.1).state place th o) (λ br u ld. ld.state g l.0 place pr (reset-runs p i q g l.0 u l.1) o))
            go false x = subst E (sym A.is_state) (own-rests A.wide.state state_number next_state_number place.number d.sets_state x (subst Y A.is_state (mir.states i q place s th (rests-place x))))

        counter-edge : HoldsNumber edge_words (r.counter i) place.left
        counter-edge = go (has_clock at q.edge) refl
          where
            A : IsBlock p r m i q (code_of (b.acts i q s).stmts)
            A = (b.acts i q s).is_block

            E : Option ℕ → Type 0
            E = λ o. HoldsNumber edge_words o place.left

            Y : Option ℕ → Type 0
            Y = λ o. HoldsNumber y o place.left

            go : (x : Bool) → has_clock at q.edge ≡ x → HoldsNumber edge_words (r.counter i) place.left
            go true x =
                let l = st.goes i q g pr s in
                let o = taken-place l.0 x l.1 in
                subst E (sym A.is_counter) (own-edge A.wide.counter counter_number next_counter_number place.left l.0 A.counter d.sets_counter (place-fits i q e s h g l.0 place pr th l.1 o).1 x
                (λ u. (leaves i q s l.0 (ready i q s x u) l.1).counter place th o) (λ br u ld. ld.counter g l.0 place pr (reset-runs p i q g l.0 u l.1) o))
            go false x = subst E (sym A.is_counter) (own-rests A.wide.counter counter_number next_counter_number place.left d.sets_counter x (subst Y A.is_counter (mir.counters i q place s th (rests-place x))))

    word-edge : (c v : ℕ) → r.variable c ≡ Some v → (o : Origin p m c v) → IsStored p m c v o → edge_words v ≡ (acted p takes g).word c
    word-edge c v a (Origin.given k t n) u = input-edge clocks y v k ∙ mir.words c v a ∙ sym (unwritten-stays p takes g c n)
    word-edge c v a (Origin.constant f k t n) u = absurd u
    word-edge c v a (Origin.driven i q s k h w o) u = absurd u
    word-edge c v a (Origin.register i q e s h k w z o) u = register-edge i q e s h c v a k w o

    pub edges-store : Stores p r m b edge_words (acted p takes g)
    edges-store = record {
      words = λ c v a u. word-edge c v a (b.origins c v a) u;
      states = λ i q place s t o. let e = thread-edge many p r m b sound i q s t in state-edge i q e.0 s e.1 t place o;
      counters = λ i q place s t o. let e = thread-edge many p r m b sound i q s t in counter-edge i q e.0 s e.1 t place o;
    }
