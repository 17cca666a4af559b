-- What the walk asks of blocks, one after the other, and the variables that none assigns: together these are what `Driven` says.
use Rattle.std.proofs.Common.{◌≡◌, ◌<◌, ℕ, zero, suc, nat_eq, Bool, true, false, ◌&&◌, List, [], ◌∷◌, length, Option, Some, None, inl, inr, refl, sym, ap, ◌∙◌, arith, ne_eqb}
use Rattle.std.proofs.lemmas.Bool.{both_ways, or_parts, or_from, or_cases, or_left, or_right, and_right, false_from_ne_true, cases_order}
use Rattle.scc_svtree.specs.declared.module.SvModule.{SvModule}
use Rattle.scc_svtree.specs.declared.module.SvBlock.{SvBlock}
use Rattle.scc_svtree.specs.declared.module.SvBlock.TheVariants.{Comb, Edge}
use Rattle.scc_svtree.specs.declared.module.SvSet.{SvSet}
use Rattle.scc_svtree.specs.declared.module.SvReset.{SvReset}
use Rattle.scc_svtree.specs.Steps.{input_at, is_clock}
use Rattle.scc_svtree.specs.Sound.{Each, block_assigns, block_reads, at_block, targets, load_targets, IsPartOf, IsOneBitInput, IsFreshBlock, IsSoundReset, IsSoundEdge, AgreesWith, AgreeOnClock}
use Rattle.scc_svread_written.proofs.Formed.{Driven}
use Rattle.scc_svread_drivers.proofs.DrivenLists.{Apart, self_eq}
use Rattle.scc_svread_drivers.proofs.DrivenClocks.{each_to, each_where, any, Agrees, AllAgree, Following, all_more, one_clock_of, following_of, other_clock, agrees_of, of_agrees, clock_of, any_clock, none_of}

-- ---- some block and its number

any_at : (f : SvBlock → ℕ → Bool) (bs : List SvBlock) (k v : ℕ) → k < length bs → f (at_block bs k) v ≡ true → any f bs v ≡ true
any_at f [] k v h e = absurd (omega arith)
any_at f (b ∷ bs) zero v h e = or_left (f b v) (any f bs v) e
any_at f (b ∷ bs) (suc k) v h e = or_right (f b v) (any f bs v) (any_at f bs k v (omega arith) e)

at_any : (f : SvBlock → ℕ → Bool) (bs : List SvBlock) (v : ℕ) → any f bs v ≡ true → (k : ℕ) × (k < length bs) × (f (at_block bs k) v ≡ true)
at_any f [] v e = cc
at_any f (b ∷ bs) v e = elim (or_cases (f b v) (any f bs v) e) [
  | inl h ↦ (0, omega arith, h)
  | inr h ↦ let r = at_any f bs v h in (suc r.0, let l = r.1 in omega arith, r.2)
]

each_false : (f : SvBlock → ℕ → Bool) (bs : List SvBlock) (v : ℕ) → any f bs v ≡ false → Each (λ b. f b v ≡ false) bs
each_false f [] v h = tt
each_false f (b ∷ bs) v h = let p = or_parts (f b v) (any f bs v) h in (p.0, each_false f bs v p.1)

any_false : (f : SvBlock → ℕ → Bool) (bs : List SvBlock) (v : ℕ) → Each (λ b. f b v ≡ false) bs → any f bs v ≡ false
any_false f [] v h = refl
any_false f (b ∷ bs) v h = or_from (f b v) (any f bs v) h.0 (any_false f bs v h.1)

-- the clock of a block is the clock of some block
own_clocks : (bs : List SvBlock) → Each (λ b. (v : ℕ) → clock_of b v ≡ true → any clock_of bs v ≡ true) bs
own_clocks [] = tt
own_clocks (b ∷ bs) = (λ v e. or_left (clock_of b v) (any clock_of bs v) e, each_to (λ c h v e. or_right (clock_of b v) (any clock_of bs v) (h v e)) bs (own_clocks bs))

-- ---- what is asked of each block

module _ (many : Bool) (m : SvModule) where
  abbrev pub SignalAsked : ℕ → Option SvReset → List SvSet → Type 0
  SignalAsked clock None sets = Unit {0}
  SignalAsked clock (Some r) sets =
      IsOneBitInput m.vars r.signal.0 × (nat_eq clock r.signal.0 ≡ false) × ((many && is_clock m.blocks r.signal.0) ≡ false) × IsPartOf (load_targets r.values) (targets sets)

  abbrev pub ClockAsked : List SvBlock → SvBlock → Type 0
  ClockAsked before (Comb ss) = Unit {0}
  ClockAsked before (Edge rising clock reset sets) =
      IsOneBitInput m.vars clock.0 × (any block_reads m.blocks clock.0 ≡ false) × (other_clock many before rising clock.0 ≡ false) × SignalAsked clock.0 reset sets

  -- what is asked of a block behind others
  pub record Part (before : List SvBlock) (b : SvBlock) : Type 0 where
    pub inputs : Apart (block_assigns b) (input_at m.vars)
    pub taken : Apart (block_assigns b) (any block_assigns before)
    pub fresh : IsFreshBlock b
    pub clock : ClockAsked before b

  -- of the blocks before these the last stand first
  abbrev pub Parts : List SvBlock → List SvBlock → Type 0
  Parts before [] = Unit {0}
  Parts before (b ∷ bs) = Part before b × Parts (b ∷ before) bs

  abbrev pub AllDriven : Type 0
  AllDriven = (v : ℕ) → v < length m.vars → input_at m.vars v ≡ false → any block_assigns m.blocks v ≡ true

  -- ---- from the walk

  inputs_of : (before bs : List SvBlock) → Parts before bs → Each (λ b. Apart (block_assigns b) (input_at m.vars)) bs
  inputs_of before [] p = tt
  inputs_of before (b ∷ bs) p = (p.0.inputs, inputs_of (b ∷ before) bs p.1)

  fresh_of : (before bs : List SvBlock) → Parts before bs → Each IsFreshBlock bs
  fresh_of before [] p = tt
  fresh_of before (b ∷ bs) p = (p.0.fresh, fresh_of (b ∷ before) bs p.1)

  new_at : (before bs : List SvBlock) → Parts before bs → (k v : ℕ) → k < length bs → block_assigns (at_block bs k) v ≡ true → any block_assigns before v ≡ false
  new_at before [] p k v h e = absurd (omega arith)
  new_at before (b ∷ bs) p zero v h e = p.0.taken v e
  new_at before (b ∷ bs) p (suc k) v h e = (or_parts (block_assigns b v) (any block_assigns before v) (new_at (b ∷ before) bs p.1 k v (omega arith) e)).1

  one_before : (before bs : List SvBlock) → Parts before bs → (j k v : ℕ) → j < k → k < length bs → block_assigns (at_block bs j) v ≡ true → block_assigns (at_block bs k) v ≡ true → ⊥
  one_before before [] p j k v l h d e = absurd (omega arith)
  one_before before (b ∷ bs) p j zero v l h d e = absurd (omega arith)
  one_before before (b ∷ bs) p zero (suc k) v l h d e =
      both_ways (block_assigns b v) (or_parts (block_assigns b v) (any block_assigns before v) (new_at (b ∷ before) bs p.1 k v (omega arith) e)).0 d
  one_before before (b ∷ bs) p (suc j) (suc k) v l h d e = one_before (b ∷ before) bs p.1 j k v (omega arith) (omega arith) d e

  one_driver_of : Parts [] m.blocks → (j k v : ℕ) → j < length m.blocks → k < length m.blocks → block_assigns (at_block m.blocks j) v ≡ true → block_assigns (at_block m.blocks k) v ≡ true → j ≡ k
  one_driver_of p j k v h i d e = elim (cases_order j k) [
    | inl s ↦ s
    | inr r ↦ elim r [
      | inl l ↦ absurd (one_before [] m.blocks p j k v l i d e)
      | inr l ↦ absurd (one_before [] m.blocks p k j v l h e d)
    ]
  ]

  agrees_with : (before : List SvBlock) (b : SvBlock) → AllAgree many before → Part before b → Each (Agrees many b) before
  agrees_with before (Comb ss) a p = each_where (λ c. tt) before
  agrees_with before (Edge rising clock reset sets) a p = agrees_of many rising clock.0 before a p.clock.2

  following : (before bs : List SvBlock) → AllAgree many before → Parts before bs → Following many before bs
  following before [] a p = tt
  following before (b ∷ bs) a p =
      let h : Each (Agrees many b) before = agrees_with before b a p.0 in
      (h, following (b ∷ before) bs (all_more many b before h a) p.1)

  sound_reset : (rising : Bool) (clock : ℕ) (reset : Option SvReset) (sets : List SvSet) → Each (AgreesWith many rising clock) m.blocks → SignalAsked clock reset sets → IsSoundReset m reset sets
  sound_reset rising clock None sets h s = tt
  sound_reset rising clock (Some r) sets h s = (s.0, none_of many rising clock r.signal.0 m.blocks h s.1 s.2, s.3)

  sound_edge : (before : List SvBlock) (b : SvBlock) → AgreeOnClock many b m.blocks → Part before b → IsSoundEdge m b
  sound_edge before (Comb ss) h p = tt
  sound_edge before (Edge rising clock reset sets) h p = (p.clock.0, each_false block_reads m.blocks clock.0 p.clock.1, sound_reset rising clock.0 reset sets h p.clock.3)

  edges_of : (before bs : List SvBlock) → Each (λ b. AgreeOnClock many b m.blocks) bs → Parts before bs → Each (IsSoundEdge m) bs
  edges_of before [] h p = tt
  edges_of before (b ∷ bs) h p = (sound_edge before b h.0 p.0, edges_of (b ∷ before) bs h.1 p.1)

  pub driven_from : AllDriven × Parts [] m.blocks → Driven many m
  driven_from (d, p) =
      let one : Each (λ b. AgreeOnClock many b m.blocks) m.blocks = one_clock_of many m.blocks (following [] m.blocks tt p) in
      record {
        inputs_kept = λ v e. each_to (λ b h. false_from_ne_true (block_assigns b v) (λ a. both_ways (input_at m.vars v) (h v a) e)) m.blocks (inputs_of [] m.blocks p);
        one_driver = one_driver_of p;
        driven = λ v h e. at_any block_assigns m.blocks v (d v h e);
        fresh = fresh_of [] m.blocks p;
        edges = edges_of [] m.blocks one p;
        one_clock = one;
      }

  -- ---- to the walk

  -- what is known of the blocks from one on
  record Rest (before bs : List SvBlock) : Type 0 where
    inputs : Each (λ b. Apart (block_assigns b) (input_at m.vars)) bs
    new : (k v : ℕ) → k < length bs → block_assigns (at_block bs k) v ≡ true → any block_assigns before v ≡ false
    one : (j k v : ℕ) → j < length bs → k < length bs → block_assigns (at_block bs j) v ≡ true → block_assigns (at_block bs k) v ≡ true → j ≡ k
    fresh : Each IsFreshBlock bs
    edges : Each (IsSoundEdge m) bs
    clocks : Each (λ b. (v : ℕ) → clock_of b v ≡ true → any clock_of m.blocks v ≡ true) bs
    follow : Following many before bs

  signal_of : (clock : ℕ) (reset : Option SvReset) (sets : List SvSet) → any clock_of m.blocks clock ≡ true → IsSoundReset m reset sets → SignalAsked clock reset sets
  signal_of clock None sets h s = tt
  signal_of clock (Some r) sets h s = (
    s.0,
    ne_eqb clock r.signal.0 (λ e. both_ways (is_clock m.blocks r.signal.0) s.1 (sym (any_clock m.blocks r.signal.0) ∙ ap (any clock_of m.blocks) (sym e) ∙ h)),
    and_right many (is_clock m.blocks r.signal.0) s.1,
    s.2,
  )

  clock_part : (before : List SvBlock) (b : SvBlock) → IsSoundEdge m b → ((v : ℕ) → clock_of b v ≡ true → any clock_of m.blocks v ≡ true) → Each (Agrees many b) before → ClockAsked before b
  clock_part before (Comb ss) s c h = tt
  clock_part before (Edge rising clock reset sets) s c h =
      (s.0, any_false block_reads m.blocks clock.0 s.1, of_agrees many rising clock.0 before h, signal_of clock.0 reset sets (c clock.0 (self_eq clock.0)) s.2)

  parts_of : (before bs : List SvBlock) → Rest before bs → Parts before bs
  parts_of before [] r = tt
  parts_of before (b ∷ bs) r = (
    record { inputs = r.inputs.0; taken = λ v e. r.new 0 v (omega arith) e; fresh = r.fresh.0; clock = clock_part before b r.edges.0 r.clocks.0 r.follow.0 },
    parts_of (b ∷ before) bs (record {
      inputs = r.inputs.1;
      new = λ k v h e. or_from (block_assigns b v) (any block_assigns before v)
          (false_from_ne_true (block_assigns b v) (λ d. let s = r.one 0 (suc k) v (omega arith) (omega arith) d e in omega arith))
          (r.new (suc k) v (omega arith) e);
      one = λ j k v h i d e. let s = r.one (suc j) (suc k) v (omega arith) (omega arith) d e in omega arith;
      fresh = r.fresh.1;
      edges = r.edges.1;
      clocks = r.clocks.1;
      follow = r.follow.1;
    }),
  )

  pub parts_from : Driven many m → AllDriven × Parts [] m.blocks
  parts_from d = (
    λ v h e. let k = d.driven v h e in any_at block_assigns m.blocks k.0 v k.1 k.2,
    parts_of [] m.blocks (record {
      inputs = kept m.blocks d.inputs_kept;
      new = λ k v h e. refl;
      one = d.one_driver;
      fresh = d.fresh;
      edges = d.edges;
      clocks = own_clocks m.blocks;
      follow = following_of many m.blocks d.one_clock;
    }),
  )
    where
      kept : (bs : List SvBlock) → ((v : ℕ) → input_at m.vars v ≡ true → Each (λ b. block_assigns b v ≡ false) bs) → Each (λ b. Apart (block_assigns b) (input_at m.vars)) bs
      kept [] h = tt
      kept (b ∷ bs) h = (λ v e. false_from_ne_true (input_at m.vars v) (λ i. both_ways (block_assigns b v) (h v i).0 e), kept bs (λ v i. (h v i).1))
