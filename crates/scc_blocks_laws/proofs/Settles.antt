-- The settled valuation mirrors the settled registers.
use Rattle.std.proofs.Common.{◌≡◌, ◌<◌, ◌*◌, ◌+◌, ◌&&◌, ◌⊎◌, inl, inr, ℕ, zero, suc, Bool, true, false, length, List, Option, Some, None, slice_get, refl, sym, ap, ◌∙◌, subst, arith}
use Rattle.std.specs.Prelude.{filter, is_some, unwrap_or}
use Rattle.scc_svtree.specs.declared.module.SvModule.{SvModule}
use Rattle.scc_svtree.specs.declared.module.SvBlock.TheVariants.{Comb, Edge}
use Rattle.scc_svtree.specs.declared.stmt.SvStmt.{SvStmt}
use Rattle.scc_svtree.specs.Term as emitted
use Rattle.scc_svtree.specs.Code.{code_of}
use Rattle.scc_svtree.specs.Running.{run}
use Rattle.scc_svtree.specs.Mentions.{assigns}
use Rattle.scc_svtree.specs.Steps.{SettlesTo, input_at}
use Rattle.scc_svtree.specs.Sound.{IsSound, block_assigns, targets, load_targets, loads_of, is_among}
use Rattle.scc_svtree.specs.Variables.{width_at as width_of_variable}
use Rattle.scc_svtree.proofs.Agree.{or_first}
use Rattle.scc_core_spec.specs.Program.{Program, Process, is_combinational, is_combinational_by, is_root}
use Rattle.scc_core_spec.specs.Program as program
use Rattle.scc_core_spec.specs.Kept.{written_by}
use Rattle.scc_core_spec.specs.Uses.{among, has_sort, width_at}
use Rattle.scc_blocks_spec.specs.Tied.{Registers, HoldsNumber}
use Rattle.scc_blocks_spec.specs.Turns.{Regs, Left, turn, acted, rounds, settled}
use Rattle.scc_blocks_spec.specs.Shown.{View, Constant, Read, Driven, Delayed, Plain, Next, mine, view_of, IsView, IsAsked, state_number, next_state_number, counter_number, next_counter_number}
use Rattle.scc_blocks_run_laws.specs.Pieces.{variable}
use Rattle.scc_blocks_run_laws.specs.Blocks.{IsProper, Built, Origin, OnlyWriter, SetsZero, SetsCell, SetsOwn, HasVariables, Numbering, if_wide, set_term}
use Rattle.scc_blocks_run_laws.specs.Follows.{IsSteady, IsRanked}
use Rattle.scc_blocks_spec.specs.Tied.{Mirrors}
use Rattle.scc_blocks_run_laws.proofs.Firsts.{first-zero}
use Rattle.scc_blocks_run_laws.specs.Leaves.{Sees, SeesCell, IsReady, LeavesTurn, LeavesCell, IsStored, Stores}
use Rattle.scc_blocks_run_laws.proofs.Blockruns.{view-is, block-leaves}
use Rattle.scc_blocks_run_laws.proofs.Acted.{unwritten-stays, writer-gives, writer-rests, place-rests, rounds-last}
use Rattle.scc_blocks_laws.proofs.Proper.{rounds-proper}
use Rattle.scc_blocks_laws.proofs.Placed.{each-at, comb-place, combs-none, set-among, NoOther, one-block}

pub method-edge : (q : Process) → is_combinational q ≡ true → is_some q.edge ≡ false
method-edge q h = go q.is_thread refl q.edge refl
  where
    go : (t : Bool) → q.is_thread ≡ t → (e : Option program.Edge) → q.edge ≡ e → is_some q.edge ≡ false
    go t k None e = ap is_some e
    go true k (Some x) e = let z : is_combinational q ≡ false = (λ i. is_combinational_by (k i) (e i)) in absurd (cc)
    go false k (Some x) e = let z : is_combinational q ≡ false = (λ i. is_combinational_by (k i) (e i)) in absurd (cc)

pub clocked-method : (q : Process) (e : program.Edge) → q.edge ≡ Some e → is_combinational q ≡ false
clocked-method q e h = go q.is_thread refl
  where
    go : (t : Bool) → q.is_thread ≡ t → is_combinational q ≡ false
    go true k = λ i. is_combinational_by (k i) (h i)
    go false k = λ i. is_combinational_by (k i) (h i)

pub thread-method : (q : Process) → q.is_thread ≡ true → is_combinational q ≡ false
thread-method q h = ap (λ t. is_combinational_by t q.edge) h

pub method-thread : (q : Process) → is_combinational q ≡ true → q.is_thread ≡ false
method-thread q h = go q.is_thread refl
  where
    go : (t : Bool) → q.is_thread ≡ t → q.is_thread ≡ false
    go false k = k
    go true k = let z : is_combinational q ≡ false = thread-method q k in absurd (cc)

module _ (many : Bool) (p : Program) (r : Registers) (m : SvModule) (b : Built p r m) (sound : IsSound many m) where
  -- the edge of a clocked process
  pub thread-edge : (i : ℕ) (q : Process) → slice_get p.processes i ≡ Some q → q.is_thread ≡ true → (e : program.Edge) × (q.edge ≡ Some e)
  thread-edge i q s h = go q.edge refl
    where
      go : (o : Option program.Edge) → q.edge ≡ o → (e : program.Edge) × (q.edge ≡ Some e)
      go (Some e) k = (e, k)
      go None k = let z : is_combinational q ≡ true = b.sorts i q s k in let y : is_combinational q ≡ false = thread-method q h in absurd (cc)

  -- a variable that a block at an edge sets is set by no other
  pub set-alone : (i : ℕ) (q : Process) (e : program.Edge) (s : slice_get p.processes i ≡ Some q) (h : q.edge ≡ Some e) (v : ℕ) (t : emitted.Term) → set_term ((b.acts i q s).edge e h).sets v ≡ Some t → NoOther m.blocks ((b.acts i q s).edge e h).at v
  set-alone i q e s h v t k =
      let d = (b.acts i q s).edge e h in
      one-block many m sound d.at v (Edge d.rising d.clock d.reset d.sets) d.stands (or_first (is_among (targets d.sets) v) (is_among (load_targets (loads_of d.reset)) v) (set-among d.sets v t k))

  set-no-comb : (i : ℕ) (q : Process) (e : program.Edge) (s : slice_get p.processes i ≡ Some q) (h : q.edge ≡ Some e) (v : ℕ) (t : emitted.Term) → set_term ((b.acts i q s).edge e h).sets v ≡ Some t
      → (k : ℕ) (ss : List SvStmt) → slice_get m.blocks k ≡ Some (Comb ss) → assigns (code_of ss) v ≡ false
  set-no-comb i q e s h v t w k ss c = go (assigns (code_of ss) v) refl
    where
      go : (a : Bool) → assigns (code_of ss) v ≡ a → assigns (code_of ss) v ≡ false
      go false f = f
      go true f =
          let d = (b.acts i q s).edge e h in
          let z : k ≡ d.at = set-alone i q e s h v t w k (Comb ss) c f in
          let y : slice_get m.blocks d.at ≡ Some (Comb ss) = let P : ℕ → Type 0 = λ k. slice_get m.blocks k ≡ Some (Comb ss) in subst P z c in
          let x : Some (Comb ss) ≡ Some (Edge d.rising d.clock d.reset d.sets) = sym y ∙ d.stands in absurd (cc)

  -- the variable of a register is set by its process's edge
  pub register-set : (i : ℕ) (q : Process) (e : program.Edge) (s : slice_get p.processes i ≡ Some q) (h : q.edge ≡ Some e) (c v : ℕ) → r.variable c ≡ Some v → mine p q c ≡ true
      → (view_of p i q c ≡ Delayed) ⊎ (view_of p i q c ≡ Next)
      → (v ≡ (b.acts i q s).is_block.numbers.id (2 * c)) × (set_term ((b.acts i q s).edge e h).sets v ≡ Some (variable ((b.acts i q s).is_block.numbers.id (2 * c + 1))))
  register-set i q e s h c v a k w = go w
    where
      n : Numbering
      n = (b.acts i q s).is_block.numbers

      has : HasVariables r n (width_at p.cells c) (view_of p i q c) c
      has = (b.acts i q s).is_block.cells c k

      sets : SetsCell n ((b.acts i q s).edge e h).sets (view_of p i q c) c
      sets = ((b.acts i q s).edge e h).sets_cells c k

      at : r.variable c ≡ Some (n.id (2 * c)) → set_term ((b.acts i q s).edge e h).sets (n.id (2 * c)) ≡ Some (variable (n.id (2 * c + 1))) → (v ≡ n.id (2 * c)) × (set_term ((b.acts i q s).edge e h).sets v ≡ Some (variable (n.id (2 * c + 1))))
      at y z = let same : v ≡ n.id (2 * c) = cc in (same, ap (λ u. set_term ((b.acts i q s).edge e h).sets u) same ∙ z)

      H : View → Type 0
      H = λ u. HasVariables r n (width_at p.cells c) u c

      S : View → Type 0
      S = λ u. SetsCell n ((b.acts i q s).edge e h).sets u c

      go : (view_of p i q c ≡ Delayed) ⊎ (view_of p i q c ≡ Next) → (v ≡ n.id (2 * c)) × (set_term ((b.acts i q s).edge e h).sets v ≡ Some (variable (n.id (2 * c + 1))))
      go (inl f) = let y : HasVariables r n (width_at p.cells c) Delayed c = subst H f has in at y.0.1 (subst S f sets)
      go (inr f) = let y : HasVariables r n (width_at p.cells c) Next c = subst H f has in at y.0.1 (subst S f sets)

  module _ (x z : ℕ → ℕ) (se : SettlesTo m x z) where
    input-stays : (v : ℕ) → input_at m.vars v ≡ true → x v ≡ z v
    input-stays v h = se.alike v (combs-none m.blocks v (λ k ss e. each-at (λ b. block_assigns b v ≡ false) m.blocks k (Comb ss) (sound.inputs_kept v h) e))

    pub set-stays : (i : ℕ) (q : Process) (e : program.Edge) (s : slice_get p.processes i ≡ Some q) (h : q.edge ≡ Some e) (v : ℕ) (t : emitted.Term) → set_term ((b.acts i q s).edge e h).sets v ≡ Some t → x v ≡ z v
    set-stays i q e s h v t w = se.alike v (combs-none m.blocks v (set-no-comb i q e s h v t w))

    stored-stays : (c v : ℕ) → r.variable c ≡ Some v → (o : Origin p m c v) → IsStored p m c v o → x v ≡ z v
    stored-stays c v a (Origin.given h k n) u = input-stays v h
    stored-stays c v a (Origin.constant y h k n) u = absurd u
    stored-stays c v a (Origin.driven i q s k h w o) u = absurd u
    stored-stays c v a (Origin.register i q e s h k w y o) u = set-stays i q e s h v (variable ((b.acts i q s).is_block.numbers.id (2 * c + 1))) (register-set i q e s h c v a k w).1

    -- running a block changes nothing
    pub block-rests : (k : ℕ) (ss : List SvStmt) → slice_get m.blocks k ≡ Some (Comb ss) → (v : ℕ) → run (width_of_variable m.vars) (code_of ss) z v ≡ z v
    block-rests k ss e v = let t = comb-place m.blocks k ss e in ap (λ c. run (width_of_variable m.vars) c z v) (sym t.2) ∙ se.leaves t.0 t.1 v

    zero-rests : (v : ℕ) → SetsZero m v → z v ≡ 0
    zero-rests v s = sym (block-rests s.at s.stmts s.stands v) ∙ ap (λ c. run (width_of_variable m.vars) c z v) s.is_code ∙ first-zero (width_of_variable m.vars) s.firsts z v s.is_zero

    -- states and counters
    own-stays : (i : ℕ) (q : Process) (e : program.Edge) (s : slice_get p.processes i ≡ Some q) (h : q.edge ≡ Some e) (w v u number : ℕ) → SetsOwn (b.acts i q s).is_block.numbers ((b.acts i q s).edge e h).sets w v u
        → HoldsNumber x (if_wide w ((b.acts i q s).is_block.numbers.id v)) number → HoldsNumber z (if_wide w ((b.acts i q s).is_block.numbers.id v)) number
    own-stays i q e s h zero v u number t k = k
    own-stays i q e s h (suc w) v u number t k = sym (set-stays i q e s h ((b.acts i q s).is_block.numbers.id v) (variable ((b.acts i q s).is_block.numbers.id u)) t) ∙ k

    pub state-stays : (i : ℕ) (q : Process) (number : ℕ) (s : slice_get p.processes i ≡ Some q) → q.is_thread ≡ true → HoldsNumber x (r.state i) number → HoldsNumber z (r.state i) number
    state-stays i q number s h k =
        let e = thread-edge i q s h in
        let B = (b.acts i q s).is_block in
        let X : Option ℕ → Type 0 = λ o. HoldsNumber x o number in
        let Z : Option ℕ → Type 0 = λ o. HoldsNumber z o number in
        subst Z (sym B.is_state) (own-stays i q e.0 s e.1 B.wide.state state_number next_state_number number ((b.acts i q s).edge e.0 e.1).sets_state (subst X B.is_state k))

    pub counter-stays : (i : ℕ) (q : Process) (number : ℕ) (s : slice_get p.processes i ≡ Some q) → q.is_thread ≡ true → HoldsNumber x (r.counter i) number → HoldsNumber z (r.counter i) number
    counter-stays i q number s h k =
        let e = thread-edge i q s h in
        let B = (b.acts i q s).is_block in
        let X : Option ℕ → Type 0 = λ o. HoldsNumber x o number in
        let Z : Option ℕ → Type 0 = λ o. HoldsNumber z o number in
        subst Z (sym B.is_counter) (own-stays i q e.0 s e.1 B.wide.counter counter_number next_counter_number number ((b.acts i q s).edge e.0 e.1).sets_counter (subst X B.is_counter k))

    module _ (st : IsSteady p r) (rank : ℕ → ℕ) (rk : IsRanked p rank) (h : Regs) (pr : IsProper p r h) (stores : Stores p r m b x h) where
      -- no combinational method writes there
      abbrev Rests : (c v : ℕ) → Origin p m c v → Type 0
      Rests c v (Origin.given a k n) = Unit {0}
      Rests c v (Origin.constant y a k n) = Unit {0}
      Rests c v (Origin.driven i q s k h w o) = ⊥
      Rests c v (Origin.register i q k s a h w x o) = Unit {0}

      round-rests : (g : Regs) (c v : ℕ) (o : Origin p m c v) → Rests c v o → (acted p (λ i q. is_combinational q) g).word c ≡ g.word c
      round-rests g c v (Origin.given a k n) u = unwritten-stays p (λ i q. is_combinational q) g c n
      round-rests g c v (Origin.constant y a k n) u = unwritten-stays p (λ i q. is_combinational q) g c n
      round-rests g c v (Origin.driven i q s k h w o) u = absurd u
      round-rests g c v (Origin.register i q e s a h w y o) u = writer-rests p (λ i q. is_combinational q) g c i q s (ap (λ t. t && among c (written_by p.cells q)) (clocked-method q e a)) o

      rounds-rest : (n : ℕ) (c v : ℕ) (o : Origin p m c v) → Rests c v o → (rounds p n h).word c ≡ h.word c
      rounds-rest zero c v o u = refl
      rounds-rest (suc n) c v o u = ap (λ g. g.word c) (rounds-last p n h) ∙ round-rests (rounds p n h) c v o u ∙ rounds-rest n c v o u

      rounds-place : (n i : ℕ) (q : Process) → slice_get p.processes i ≡ Some q → q.is_thread ≡ true → (rounds p n h).place i ≡ h.place i
      rounds-place zero i q s t = refl
      rounds-place (suc n) i q s t = ap (λ g. g.place i) (rounds-last p n h) ∙ place-rests p (λ i q. is_combinational q) (rounds p n h) i q s (ap (λ k. k && q.is_thread) (thread-method q t)) ∙ rounds-place n i q s t

      settled-word : (c v : ℕ) → r.variable c ≡ Some v → (o : Origin p m c v) → Rests c v o → (IsStored p m c v o → x v ≡ h.word c) → z v ≡ h.word c
      settled-word c v e (Origin.given a k n) u w = sym (stored-stays c v e (Origin.given a k n) tt) ∙ w tt
      settled-word c v e (Origin.constant y a k n) u w = zero-rests v k ∙ sym (pr.constants c 0 y a)
      settled-word c v e (Origin.driven i q s k h a o) u w = absurd u
      settled-word c v e (Origin.register i q k s a h y f o) u w = sym (stored-stays c v e (Origin.register i q k s a h y f o) tt) ∙ w tt

      rests-agrees : (n c v : ℕ) (e : r.variable c ≡ Some v) → (o : Origin p m c v) → Rests c v o → (IsStored p m c v o → x v ≡ h.word c) → z v ≡ (rounds p n h).word c
      rests-agrees n c v e o u w = settled-word c v e o u w ∙ sym (rounds-rest n c v o u)

      -- what combinational methods of a rank below n drive agrees behind n rounds
      abbrev pub Agrees : ℕ → (ℕ → ℕ → Type 0) → Type 0
      Agrees n Below = (c v j : ℕ) (o : Process) → r.variable c ≡ Some v → slice_get p.processes j ≡ Some o → is_combinational o ≡ true → mine p o c ≡ true → view_of p j o c ≡ Driven → OnlyWriter p j c → Below c j
          → z v ≡ (rounds p n h).word c

      written-of : (j c : ℕ) (o : Process) → view_of p j o c ≡ Driven → (has_sort is_root p.cells c ≡ true) × (among c (written_by p.cells o) ≡ true)
      written-of j c o w = let P : View → Type 0 = λ v. IsView p j o c v in let t : IsView p j o c Driven = subst P w (view-is p j o c) in (t.1, t.2)

      module _ (n i : ℕ) (q : Process) (s : slice_get p.processes i ≡ Some q) (agrees : Agrees n (λ c j. (mine p q c ≡ true) × (among c (written_by p.cells q) ≡ false))) where
        -- a root that the process reads and doesn't write
        read-agrees : (c v : ℕ) (e : r.variable c ≡ Some v) → mine p q c ≡ true → among c (written_by p.cells q) ≡ false → (o : Origin p m c v) → (IsStored p m c v o → x v ≡ h.word c) → z v ≡ (rounds p n h).word c
        read-agrees c v e k w (Origin.given a l y) t = rests-agrees n c v e (Origin.given a l y) tt t
        read-agrees c v e k w (Origin.constant y a l o) t = rests-agrees n c v e (Origin.constant y a l o) tt t
        read-agrees c v e k w (Origin.driven j o a l f y u) t = agrees c v j o e a l f y u (k, w)
        read-agrees c v e k w (Origin.register j o a l f y u d g) t = rests-agrees n c v e (Origin.register j o a l f y u d g) tt t

        delayed-agrees : (c v : ℕ) (e : r.variable c ≡ Some v) → among c (written_by p.cells q) ≡ true → is_some q.edge ≡ true → (o : Origin p m c v) → (IsStored p m c v o → x v ≡ h.word c) → z v ≡ (rounds p n h).word c
        delayed-agrees c v e k w (Origin.given a l y) t = rests-agrees n c v e (Origin.given a l y) tt t
        delayed-agrees c v e k w (Origin.constant y a l o) t = rests-agrees n c v e (Origin.constant y a l o) tt t
        delayed-agrees c v e k w (Origin.driven j o a l f y u) t =
            let at : i ≡ j = u i q s k in
            let P : ℕ → Type 0 = λ k. slice_get p.processes k ≡ Some q in
            let a' : slice_get p.processes j ≡ Some q = subst P at s in
            let same : o ≡ q = cc in
            let z : is_some q.edge ≡ false = method-edge q (ap is_combinational (sym same) ∙ l) in absurd (cc)
        delayed-agrees c v e k w (Origin.register j o a l f y u d g) t = rests-agrees n c v e (Origin.register j o a l f y u d g) tt t

        next-agrees : (c v : ℕ) (e : r.variable c ≡ Some v) → has_sort is_root p.cells c ≡ false → (o : Origin p m c v) → (IsStored p m c v o → x v ≡ h.word c) → z v ≡ (rounds p n h).word c
        next-agrees c v e w (Origin.given a l y) t = rests-agrees n c v e (Origin.given a l y) tt t
        next-agrees c v e w (Origin.constant y a l o) t = rests-agrees n c v e (Origin.constant y a l o) tt t
        next-agrees c v e w (Origin.driven j o a l f y u) t = let z : has_sort is_root p.cells c ≡ true = (written-of j c o y).0 in absurd (cc)
        next-agrees c v e w (Origin.register j o a l f y u d g) t = rests-agrees n c v e (Origin.register j o a l f y u d g) tt t

        cell-sees : (c : ℕ) (v : View) → mine p q c ≡ true → IsView p i q c v → SeesCell r z (rounds p n h) v c
        cell-sees c (Constant w) k a = tt
        cell-sees c Read k a = λ u e. read-agrees c u e k a.2 (b.origins c u e) (stores.words c u e)
        cell-sees c Driven k a = tt
        cell-sees c Delayed k a = λ u e. delayed-agrees c u e a.2 a.3 (b.origins c u e) (stores.words c u e)
        cell-sees c Plain k a = tt
        cell-sees c Next k a = λ u e. next-agrees c u e a.1 (b.origins c u e) (stores.words c u e)

        pub process-sees : Sees p r i q z (rounds p n h)
        process-sees = record {
          cells = λ c k. cell-sees c (view_of p i q c) k (view-is p i q c);
          state = λ place t e. state-stays i q place.number s t (stores.states i q place s t (sym (rounds-place n i q s t) ∙ e));
          counter = λ place t e. counter-stays i q place.left s t (stores.counters i q place s t (sym (rounds-place n i q s t) ∙ e));
        }

        -- what the process's block leaves in the settled valuation
        pub process-leaves : (l : Left) → (q.is_thread ≡ true → IsReady i q (rounds p n h)) → turn p i q (rounds p n h) ≡ Some l
            → LeavesTurn p i q (b.acts i q s).is_block.wide (b.acts i q s).is_block.numbers l (run (width_of_variable m.vars) (code_of (b.acts i q s).stmts) z)
        process-leaves l ready t = block-leaves p r m i q (code_of (b.acts i q s).stmts) (b.acts i q s).is_block (rounds p n h) st (rounds-proper p r m b st n h pr) z process-sees l ready s t

      all-agree : (n : ℕ) → Agrees n (λ c j. rank j < n)
      all-agree zero c v j o e s k f w u l = absurd (omega arith)
      all-agree (suc n) c v j o e s k f w u l =
          let g : Regs = rounds p n h in
          let before : Agrees n (λ c k. rank k < n) = all-agree n in
          let agrees : Agrees n (λ c k. (mine p o c ≡ true) × (among c (written_by p.cells o) ≡ false)) =
          λ c' v' j' o' e' s' k' f' w' u' t. before c' v' j' o' e' s' k' f' w' u' (let d : rank j' < rank j = rk.behind j j' c' o o' s s' k k' (written-of j' c' o' w').0 t.0 t.1 (written-of j' c' o' w').1 in omega arith) in
          let pg : IsProper p r g = rounds-proper p r m b st n h pr in
          let t = st.goes j o g pg s in
          let a = st.asks j c o g t.0 pg s t.1 w in
          let B = b.acts j o s in
          let N : Numbering = B.is_block.numbers in
          let left = process-leaves n j o s agrees t.0 (λ y. let y' : o.is_thread ≡ false = method-thread o k in absurd (cc)) t.1 in
          let L : View → Type 0 = λ v. LeavesCell N (run (width_of_variable m.vars) (code_of B.stmts) z) t.0.acting v c in
          let asked : IsAsked (t.0.acting.asked c) (run (width_of_variable m.vars) (code_of B.stmts) z (N.id (2 * c))) = subst L w (left.cells c f) in
          let A : Option ℕ → Type 0 = λ q. IsAsked q (run (width_of_variable m.vars) (code_of B.stmts) z (N.id (2 * c))) in
          let word : run (width_of_variable m.vars) (code_of B.stmts) z (N.id (2 * c)) ≡ a.0 = subst A a.1 asked in
          let H : View → Type 0 = λ v. HasVariables r N (width_at p.cells c) v c in
          let has : HasVariables r N (width_at p.cells c) Driven c = subst H w (B.is_block.cells c f) in
          let here : r.variable c ≡ Some (N.id (2 * c)) = has.1 in
          let same : v ≡ N.id (2 * c) = cc in
          ap z same ∙ sym (block-rests B.at B.stmts B.stands (N.id (2 * c))) ∙ word
          ∙ sym (ap (λ g. g.word c) (rounds-last p n h) ∙ writer-gives p (λ i q. is_combinational q) g c j o t.0 s k (written-of j c o w).1 t.1 u ∙ ap (λ q. unwrap_or q (t.0.acting.now c)) a.1)

      abbrev enough : ℕ
      enough = suc (length (filter is_combinational p.processes))

      word-mirrors : (c v : ℕ) → r.variable c ≡ Some v → (o : Origin p m c v) → (IsStored p m c v o → x v ≡ h.word c) → z v ≡ (settled p h).word c
      word-mirrors c v e (Origin.given a l y) t = rests-agrees enough c v e (Origin.given a l y) tt t
      word-mirrors c v e (Origin.constant y a l o) t = rests-agrees enough c v e (Origin.constant y a l o) tt t
      word-mirrors c v e (Origin.driven j o a l f y u) t = all-agree enough c v j o e a l f y u (rk.below j o a l)
      word-mirrors c v e (Origin.register j o a l f y u d g) t = rests-agrees enough c v e (Origin.register j o a l f y u d g) tt t

      -- the settled valuation mirrors the settled registers
      pub settled-mirrors : Mirrors p r z (settled p h)
      settled-mirrors = record {
        words = λ c v e. word-mirrors c v e (b.origins c v e) (stores.words c v e);
        states = λ i q place s t e. state-stays i q place.number s t (stores.states i q place s t (sym (rounds-place enough i q s t) ∙ e));
        counters = λ i q place s t e. counter-stays i q place.left s t (stores.counters i q place s t (sym (rounds-place enough i q s t) ∙ e));
      }

      pub settled-proper : IsProper p r (settled p h)
      settled-proper = rounds-proper p r m b st enough h pr

      -- and each process's block leaves its turn of the settled registers
      pub settled-leaves : (i : ℕ) (q : Process) (s : slice_get p.processes i ≡ Some q) (l : Left) → (q.is_thread ≡ true → IsReady i q (settled p h)) → turn p i q (settled p h) ≡ Some l
          → LeavesTurn p i q (b.acts i q s).is_block.wide (b.acts i q s).is_block.numbers l (run (width_of_variable m.vars) (code_of (b.acts i q s).stmts) z)
      settled-leaves i q s l ready t =
          process-leaves enough i q s (λ c' v' j' o' e' s' k' f' w' u' t. all-agree enough c' v' j' o' e' s' k' f' w' u' (rk.below j' o' s' k')) l ready t
