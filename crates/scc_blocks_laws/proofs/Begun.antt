-- Inputs and asynchronous resets.
use Rattle.std.proofs.Common.{◌≡◌, ◌<◌, ◌*◌, ◌+◌, ◌^◌, ◌&&◌, ◌⊎◌, ℕ, zero, suc, Bool, true, false, cond, List, Option, Some, None, slice_get, refl, sym, ap, ◌∙◌, subst, arith}
use Rattle.std.specs.Prelude.{not, unwrap_or}
use Rattle.scc_svtree.specs.declared.module.SvModule.{SvModule}
use Rattle.scc_svtree.specs.declared.module.SvBlock.TheVariants.{Edge}
use Rattle.scc_svtree.specs.declared.module.SvReset.{SvReset}
use Rattle.scc_svtree.specs.declared.module.SvSet.{SvSet}
use Rattle.scc_svtree.specs.Term as emitted
use Rattle.scc_svtree.specs.Code.{code_of}
use Rattle.scc_svtree.specs.Steps.{StepInput, or_old, loaded, is_active, reset_word, after_resets, input_at, is_clock}
use Rattle.scc_svtree.specs.Steps as sv
use Rattle.scc_svtree.specs.Sound.{IsSound, IsSoundEdge, IsSoundReset, block_assigns, targets, load_targets, loads_of, is_among}
use Rattle.scc_svtree.proofs.Agree.{or_first, or_both_false}
use Rattle.scc_core_spec.specs.Program.{Program, Process, Reset, is_held}
use Rattle.scc_core_spec.specs.Program as program
use Rattle.scc_core_spec.specs.Kept.{written_by}
use Rattle.scc_core_spec.specs.Uses.{among, has_sort, width_at}
use Rattle.scc_blocks_spec.specs.Acting.{latest}
use Rattle.scc_blocks_spec.specs.Effect.{Place}
use Rattle.scc_blocks_spec.specs.Names.{is_register}
use Rattle.scc_blocks_spec.specs.Tied.{Registers, HoldsNumber}
use Rattle.scc_blocks_spec.specs.Turns.{Regs, Left, Taking, turn, is_loaded, with_inputs, acted}
use Rattle.scc_blocks_spec.specs.Shown.{Delayed, Next, mine, view_of, state_number, next_state_number, counter_number, next_counter_number}
use Rattle.scc_blocks_run_laws.specs.Pieces.{variable}
use Rattle.scc_blocks_run_laws.specs.Blocks.{IsProper, Built, Origin, OnlyWriter, IsEdge, IsBlock, Loads, LoadsOwn, SetsOwn, if_wide, set_term}
use Rattle.scc_blocks_run_laws.specs.Follows.{IsSteady, Turn, SameTurn}
use Rattle.scc_blocks_spec.specs.Tied.{MirrorsRegisters}
use Rattle.scc_blocks_run_laws.proofs.Acted.{unwritten-stays, writer-rests, place-taken, place-rests}
use Rattle.scc_blocks_laws.proofs.Placed.{each-at, resets-none, set-among, loaded-none}
use Rattle.scc_blocks_run_laws.specs.Leaves.{IsStored, Stores}
use Rattle.scc_blocks_laws.proofs.Settles.{register-set, thread-edge}
use Rattle.scc_blocks_laws.proofs.Edges.{Activity, activity, reset-gives, reset-runs, signal-input}
use Rattle.scc_blocks_laws.proofs.Stored.{acted-latest, load-word, place-fits}

module _ (many : Bool) (p : Program) (r : Registers) (m : SvModule) (b : Built p r m) (sound : IsSound many m) (st : IsSteady p r) (t : Turn) (step : StepInput) (same : SameTurn p r m b.clock_variable t step)
    (x : ℕ → ℕ) (g : Regs) (pr : IsProper p r g) (mir : MirrorsRegisters p r x g) where
  -- with the inputs of the step
  abbrev pub given_words : ℕ → ℕ
  given_words = sv.with_inputs m step.inputs x

  abbrev pub given_registers : Regs
  given_registers = with_inputs t.inputs g

  given-proper : IsProper p r given_registers
  given-proper = record {
    fits = λ c v e. fits c v e (input_at m.vars v) refl;
    held = λ c h. held c h (t.inputs c) refl;
    constants = λ c w s e. ap (λ o. unwrap_or o (g.word c)) (same.constants c w e) ∙ pr.constants c w s e;
    places = pr.places;
  }
    where
      held : (c : ℕ) → has_sort is_held p.cells c ≡ true → (o : Option ℕ) → t.inputs c ≡ o → unwrap_or (t.inputs c) (g.word c) < 2 ^ width_at p.cells c
      held c h None k = let P : ℕ → Type 0 = λ y. y < 2 ^ width_at p.cells c in subst P (sym (ap (λ o. unwrap_or o (g.word c)) k)) (pr.held c h)
      held c h (Some w) k = let P : ℕ → Type 0 = λ y. y < 2 ^ width_at p.cells c in subst P (sym (ap (λ o. unwrap_or o (g.word c)) k)) (same.fits c w h k)

      fits : (c v : ℕ) → r.variable c ≡ Some v → (k : Bool) → input_at m.vars v ≡ k → unwrap_or (t.inputs c) (g.word c) < 2 ^ width_at p.cells c
      fits c v e true k = let z = same.given c v e k in let P : ℕ → Type 0 = λ y. y < 2 ^ width_at p.cells c in subst P (sym (ap (λ o. unwrap_or o (g.word c)) z.0)) z.1
      fits c v e false k = let P : ℕ → Type 0 = λ y. y < 2 ^ width_at p.cells c in subst P (sym (ap (λ o. unwrap_or o (g.word c)) (same.others c v e k))) (pr.fits c v e)

  input-word : (c v : ℕ) → r.variable c ≡ Some v → input_at m.vars v ≡ true → is_clock m.blocks v ≡ false → given_words v ≡ given_registers.word c
  input-word c v e a k = (λ j. cond (a j && not (k j)) (step.inputs v) (x v)) ∙ sym (ap (λ o. unwrap_or o (g.word c)) (same.given c v e a).0)

  no-input : (v : ℕ) → input_at m.vars v ≡ false → given_words v ≡ x v
  no-input v a = ap (λ k. cond (k && not (is_clock m.blocks v)) (step.inputs v) (x v)) a

  module _ (i : ℕ) (q : Process) (e : program.Edge) (s : slice_get p.processes i ≡ Some q) (h : q.edge ≡ Some e) where
    abbrev d : IsEdge p r m b.clock_variable i q e (b.acts i q s).is_block.wide (b.acts i q s).is_block.numbers
    d = (b.acts i q s).edge e h

    abbrev B : IsBlock p r m i q (code_of (b.acts i q s).stmts)
    B = (b.acts i q s).is_block

    -- what is set at an edge is no input
    set-input : (v : ℕ) (u : emitted.Term) → set_term d.sets v ≡ Some u → input_at m.vars v ≡ false
    set-input v u k = go (input_at m.vars v) refl
      where
        go : (a : Bool) → input_at m.vars v ≡ a → input_at m.vars v ≡ false
        go false a = a
        go true a =
            let z : block_assigns (Edge d.rising d.clock d.reset d.sets) v ≡ false = each-at (λ b. block_assigns b v ≡ false) m.blocks d.at (Edge d.rising d.clock d.reset d.sets) (sound.inputs_kept v a) d.stands in
            let y : block_assigns (Edge d.rising d.clock d.reset d.sets) v ≡ true = or_first (is_among (targets d.sets) v) (is_among (load_targets (loads_of d.reset)) v) (set-among d.sets v u k) in absurd (cc)

    set-given : (v : ℕ) (u : emitted.Term) → set_term d.sets v ≡ Some u → given_words v ≡ x v
    set-given v u k = no-input v (set-input v u k)

    register-given : (c v : ℕ) → r.variable c ≡ Some v → mine p q c ≡ true → (view_of p i q c ≡ Delayed) ⊎ (view_of p i q c ≡ Next) → is_register p c ≡ true → given_words v ≡ given_registers.word c
    register-given c v a k w o =
        let z = register-set many p r m b sound i q e s h c v a k w in
        set-given v (variable (B.numbers.id (2 * c + 1))) z.1 ∙ mir.words c v a o ∙ sym (ap (λ y. unwrap_or y (g.word c)) (same.others c v a (set-input v (variable (B.numbers.id (2 * c + 1))) z.1)))

    acts : Activity p r i q B.wide B.numbers d.reset given_words given_registers
    acts = activity p r i q B.wide B.numbers d.reset given_words given_registers given-proper d.branch (λ br k c a. input-word c br.signal.0 a (signal-input many p r m b sound st i q e s h br k) (no-clock br k))
      where
        no-clock : (br : SvReset) → d.reset ≡ Some br → is_clock m.blocks br.signal.0 ≡ false
        no-clock br k =
            let z : IsSoundEdge m (Edge d.rising d.clock d.reset d.sets) = each-at (IsSoundEdge m) m.blocks d.at (Edge d.rising d.clock d.reset d.sets) sound.edges d.stands in
            let P : Option SvReset → Type 0 = λ o. IsSoundReset m o d.sets in
            let t : IsSoundReset m (Some br) d.sets = subst P k z.2 in t.1

  -- ---- asynchronous resets

  abbrev pub takes : Taking
  takes i q = q.is_thread && is_loaded given_registers.word q.reset

  abbrev pub reset_words : ℕ → ℕ
  reset_words = after_resets m.blocks given_words

  abbrev pub reset_registers : Regs
  reset_registers = acted p takes given_registers

  module _ (i : ℕ) (q : Process) (e : program.Edge) (s : slice_get p.processes i ≡ Some q) (h : q.edge ≡ Some e) where
    abbrev d' : IsEdge p r m b.clock_variable i q e (b.acts i q s).is_block.wide (b.acts i q s).is_block.numbers
    d' = (b.acts i q s).edge e h

    abbrev A : IsBlock p r m i q (code_of (b.acts i q s).stmts)
    A = (b.acts i q s).is_block

    register-reset : (c v : ℕ) → r.variable c ≡ Some v → mine p q c ≡ true → (view_of p i q c ≡ Delayed) ⊎ (view_of p i q c ≡ Next) → is_register p c ≡ true → OnlyWriter p i c → reset_words v ≡ reset_registers.word c
    register-reset c v a k w o only = go (takes i q) refl
      where
        z : (v ≡ A.numbers.id (2 * c)) × (set_term d'.sets v ≡ Some (variable (A.numbers.id (2 * c + 1))))
        z = register-set many p r m b sound i q e s h c v a k w

        old : given_words v ≡ given_registers.word c
        old = register-given i q e s h c v a k w o

        go : (y : Bool) → takes i q ≡ y → reset_words v ≡ reset_registers.word c
        go true y =
            let l = st.goes i q given_registers given-proper s in
            reset-gives many p r m b sound st i q e s h (λ n. false) given_words given_registers given-proper v (A.numbers.id (2 * c + 1)) 0 (latest l.0.acting c) z.1
            (λ br f u ld. ap (λ v. or_old (loaded br.values v) (given_words v)) z.0 ∙ load-word many p r m b sound st i q e s h c k w only given_words given_registers l.0 br given-proper u l.1 (ap given_words (sym z.0) ∙ old) ld)
            (λ f. absurd (cc)) (acts i q e s h)
            ∙ sym (acted-latest many p r m b sound st i q e s h c k w only takes given_registers l.0 given-proper y l.1)
        go false y =
            reset-gives many p r m b sound st i q e s h (λ n. false) given_words given_registers given-proper v (A.numbers.id (2 * c + 1)) 0 (given_registers.word c) z.1
            (λ br f u ld. absurd (cc)) (λ f. old) (acts i q e s h)
            ∙ sym (writer-rests p takes given_registers c i q s (ap (λ y. y && among c (written_by p.cells q)) y) only)

    own-reset : (wd now nxt number : ℕ) → SetsOwn A.numbers d'.sets wd now nxt → number < 2 ^ wd
        → ((br : SvReset) → takes i q ≡ true → Loads p r i q A.wide A.numbers br → LoadsOwn A.numbers br wd now number) → takes i q ≡ true → HoldsNumber reset_words (if_wide wd (A.numbers.id now)) number
    own-reset zero now nxt number set less load y = let less' : number < 1 = less in omega arith
    own-reset (suc wd) now nxt number set less load y =
        reset-gives many p r m b sound st i q e s h (λ n. false) given_words given_registers given-proper (A.numbers.id now) (A.numbers.id nxt) 0 number set
        (λ br f u ld. ap (λ o. or_old o (given_words (A.numbers.id now))) (load br u ld)) (λ f. absurd (cc)) (acts i q e s h)

    own-old : (wd now nxt number : ℕ) → SetsOwn A.numbers d'.sets wd now nxt → HoldsNumber x (if_wide wd (A.numbers.id now)) number → takes i q ≡ false → HoldsNumber reset_words (if_wide wd (A.numbers.id now)) number
    own-old zero now nxt number set k y = k
    own-old (suc wd) now nxt number set k y =
        reset-gives many p r m b sound st i q e s h (λ n. false) given_words given_registers given-proper (A.numbers.id now) (A.numbers.id nxt) 0 number set
        (λ br f u ld. absurd (cc)) (λ f. set-given i q e s h (A.numbers.id now) (variable (A.numbers.id nxt)) set ∙ k) (acts i q e s h)

    module _ (th : q.is_thread ≡ true) (place : Place) (pl : reset_registers.place i ≡ Some place) where
      taken-place : (l : Left) → takes i q ≡ true → turn p i q given_registers ≡ Some l → l.place ≡ Some place
      taken-place l y u = sym (place-taken p takes given_registers i q l s (λ j. y j && th j) u) ∙ pl

      rests-place : takes i q ≡ false → g.place i ≡ Some place
      rests-place y = sym (place-rests p takes given_registers i q s (ap (λ z. z && q.is_thread) y)) ∙ pl

      state-reset : HoldsNumber reset_words (r.state i) place.number
      state-reset = go (takes i q) refl
        where
          E : Option ℕ → Type 0
          E = λ o. HoldsNumber reset_words o place.number

          Y : Option ℕ → Type 0
          Y = λ o. HoldsNumber x o place.number

          go : (y : Bool) → takes i q ≡ y → HoldsNumber reset_words (r.state i) place.number
          go true y =
              let l = st.goes i q given_registers given-proper s in
              let o = taken-place l.0 y l.1 in
              subst E (sym A.is_state) (own-reset A.wide.state state_number next_state_number place.number d'.sets_state (place-fits many p r m b sound st i q e s h given_registers l.0 place given-proper th l.1 o).0
              (λ br u ld. ld.state given_registers l.0 place given-proper (reset-runs p i q given_registers l.0 u l.1) o) y)
          go false y = subst E (sym A.is_state) (own-old A.wide.state state_number next_state_number place.number d'.sets_state (subst Y A.is_state (mir.states i q place s th (rests-place y))) y)

      counter-reset : HoldsNumber reset_words (r.counter i) place.left
      counter-reset = go (takes i q) refl
        where
          E : Option ℕ → Type 0
          E = λ o. HoldsNumber reset_words o place.left

          Y : Option ℕ → Type 0
          Y = λ o. HoldsNumber x o place.left

          go : (y : Bool) → takes i q ≡ y → HoldsNumber reset_words (r.counter i) place.left
          go true y =
              let l = st.goes i q given_registers given-proper s in
              let o = taken-place l.0 y l.1 in
              subst E (sym A.is_counter) (own-reset A.wide.counter counter_number next_counter_number place.left d'.sets_counter (place-fits many p r m b sound st i q e s h given_registers l.0 place given-proper th l.1 o).1
              (λ br u ld. ld.counter given_registers l.0 place given-proper (reset-runs p i q given_registers l.0 u l.1) o) y)
          go false y = subst E (sym A.is_counter) (own-old A.wide.counter counter_number next_counter_number place.left d'.sets_counter (subst Y A.is_counter (mir.counters i q place s th (rests-place y))) y)

  -- no reset loads an input
  input-reset : (v : ℕ) → input_at m.vars v ≡ true → reset_words v ≡ given_words v
  input-reset v a = resets-none given_words v m.blocks (λ j c k o ss f. none o ss (or_both_false (is_among (targets ss) v) (is_among (load_targets (loads_of o)) v) (each-at (λ b. block_assigns b v ≡ false) m.blocks j (Edge c k o ss) (sound.inputs_kept v a) f)).1)
    where
      none : (o : Option SvReset) (ss : List SvSet) → is_among (load_targets (loads_of o)) v ≡ false → reset_word o given_words v ≡ None
      none None ss k = refl
      none (Some br) ss k = ap (λ o. cond (is_active br given_words) o None) (loaded-none br.values v k) ∙ by (is_active br given_words)
        where
          nothing : Option ℕ
          nothing = None

          by : (y : Bool) → cond y nothing nothing ≡ nothing
          by true = refl
          by false = refl

  word-reset : (c v : ℕ) → r.variable c ≡ Some v → (o : Origin p m c v) → IsStored p m c v o → reset_words v ≡ reset_registers.word c
  word-reset c v a (Origin.given k t n) u = input-reset v k ∙ input-word c v a k t ∙ sym (unwritten-stays p takes given_registers c n)
  word-reset c v a (Origin.constant f k t n) u = absurd u
  word-reset c v a (Origin.driven i q s k h w o) u = absurd u
  word-reset c v a (Origin.register i q e s h k w z o) u = register-reset i q e s h c v a k w z o

  pub resets-store : Stores p r m b reset_words reset_registers
  resets-store = record {
    words = λ c v a u. word-reset c v a (b.origins c v a) u;
    states = λ i q place s t o. let e = thread-edge many p r m b sound i q s t in state-reset i q e.0 s e.1 t place o;
    counters = λ i q place s t o. let e = thread-edge many p r m b sound i q s t in counter-reset i q e.0 s e.1 t place o;
  }

  pub given-fits : IsProper p r given_registers
  given-fits = given-proper
