-- What the walk asks of a block behind others.
use Rattle.std.proofs.Common.{◌≡◌, ◌<◌, ℕ, nat_eq, Bool, true, false, not, ◌||◌, ◌&&◌, List, [], length, map, Option, Some, None, inl, inr, refl, ap, ◌∙◌}
use Rattle.std.specs.Prelude.{bytes_eq, option_map}
use Rattle.std.proofs.lemmas.Bool.{or_parts, or_from, or_cases, or_left, or_right}
use Rattle.scc_svtree.specs.declared.expr.VarId.{VarId}
use Rattle.scc_svtree.specs.declared.module.SvModule.{SvModule}
use Rattle.scc_svtree.specs.declared.module.SvBlock.{SvBlock}
use Rattle.scc_svtree.specs.declared.module.SvBlock.TheVariants.{Comb, Edge}
use Rattle.scc_svtree.specs.declared.module.SvSet.{SvSet}
use Rattle.scc_svtree.specs.declared.module.SvReset.{SvReset}
use Rattle.scc_svtree.specs.declared.stmt.SvStmt.{SvStmt}
use Rattle.scc_svtree.specs.Code.{code_of}
use Rattle.scc_svtree.specs.Mentions.{code_reads, assigns}
use Rattle.scc_svtree.specs.Steps.{input_at, is_clock}
use Rattle.scc_svtree.specs.Sound.{AreNamed, IsOneBitInput, IsPartOf, is_among, targets, load_targets, loads_of, reset_names, block_assigns, block_reads}
use Rattle.scc_svread_grammar.specs.Lexical.{Bytes}
use Rattle.scc_svread_check.specs.declared.facts.Facts.{Facts}
use Rattle.scc_svread_check.specs.declared.facts.Taken.{Taken}
use Rattle.scc_svread_written.specs.Written.{name_of, raw_set, raw_reset, raw_block, raw_stmt}
use Rattle.scc_svread_check.specs.Mentioned.{each, assigned_in}
use Rattle.scc_svread_check.specs.Within.{mention}
use Rattle.scc_svread_check.specs.Drivers as drivers
use Rattle.scc_svread_check.specs.Drivers.{same, is_wrong_level, is_wrong_signal, is_wrong_clock, sets_names, edge_names}
use Rattle.scc_svread_written.proofs.Clear.{Asks, asks_by, asks_pass, asks_name}
use Rattle.scc_svread_written.proofs.Leaves.{same_bytes}
use Rattle.scc_svread_drivers.proofs.NamedLists.{Tells, code_assigned_tells}
use Rattle.scc_svread_drivers.proofs.NamedBlocks.{comb_asks}
use Rattle.scc_svread_drivers.proofs.DrivenLists.{Apart, Kept, kept_apart, kept_distinct, kept_from, part_distinct}
use Rattle.scc_svread_drivers.proofs.DrivenClocks.{any, other_clock}
use Rattle.scc_svread_drivers.proofs.DrivenBlocks.{InVars, IsNamedBlock, in_clock, in_reset, in_targets, in_signal, in_loads}
use Rattle.scc_svread_drivers.proofs.DrivenEdges.{◌next◌, asks_mention, said_so, sets_asks, loads_asks}
use Rattle.scc_svread_drivers.proofs.DrivenKnown.{Given, Behind, is_level, clock_is, signal_is, right_clock, clock_right, right_signal, signal_right}
use Rattle.scc_svread_drivers.proofs.DrivenParts.{SignalAsked, Part}

-- a reset is written with its edge's level
right_level : (name : Bytes) (rising : Bool) → (not (bytes_eq name name) || same rising (not rising)) ≡ false
right_level name rising = ap (λ b. not b || same rising (not rising)) (same_bytes name) ∙ go rising
  where
    go : (r : Bool) → same r (not r) ≡ false
    go true = refl
    go false = refl

module _ (many : Bool) (m : SvModule) (named : AreNamed m.vars) (f : Facts) (given : Given m named f) (before : List SvBlock) (t : Taken) (back : Behind m named before t) where
  abbrev outside : ℕ → Bool
  outside v = input_at m.vars v || any block_assigns before v

  -- nothing is loaded or set yet
  abbrev none : ℕ → Bool
  none v = false

  no_names : Tells m.vars named [] none
  no_names = record { tells = λ i h. refl }

  abbrev LoadsAsked : Option SvReset → List SvSet → Type 0
  LoadsAsked None sets = Unit {0}
  LoadsAsked (Some r) sets = Kept outside none (load_targets r.values) × IsPartOf (load_targets r.values) (targets sets)

  abbrev SignalRight : ℕ → Option SvReset → Type 0
  SignalRight c None = Unit {0}
  SignalRight c (Some r) = IsOneBitInput m.vars r.signal.0 × (nat_eq c r.signal.0 ≡ false) × ((many && is_clock m.blocks r.signal.0) ≡ false)

  -- what is asked behind a clock's name
  record Later (clock : ℕ) (reset : Option SvReset) (sets : List SvSet) : Type 0 where
    signal : SignalRight clock reset
    loads : LoadsAsked reset sets
    kept : Kept outside none (targets sets)

  signal_asks : (c s : ℕ) → c < length m.vars → s < length m.vars
      → Asks (mention (is_wrong_signal many f (name_of m.vars c) (name_of m.vars s)) (name_of m.vars s)) (IsOneBitInput m.vars s × (nat_eq c s ≡ false) × ((many && is_clock m.blocks s) ≡ false))
  signal_asks c s h k = asks_by (right_signal m named many c s) (signal_right m named many c s)
      (said_so (is_wrong_signal many f (name_of m.vars c) (name_of m.vars s)) ((not (is_level m named s) || nat_eq c s) || (many && is_clock m.blocks s)) (signal_is m named many f given before t back c s h k) (asks_mention _ (name_of m.vars s)))

  set_asks : (sets : List SvSet) → InVars m.vars named (is_among (targets sets)) → (n : ℕ) → Asks (sets_names f t.names [] (map (raw_set m.vars) sets) n) (Kept outside none (targets sets))
  set_asks sets k n = sets_asks m.vars named f t.names (input_at m.vars) (any block_assigns before) given.inputs back.names [] none no_names sets k n

  reset_asks : (clock : ℕ) → clock < length m.vars → (r : SvReset) → InVars m.vars named (reset_names (Some r)) → (sets : List SvSet) → InVars m.vars named (is_among (targets sets))
      → Asks (drivers.reset_names many f t (name_of m.vars clock) (raw_reset m.vars r) (map (raw_set m.vars) sets)) (SignalRight clock (Some r) × LoadsAsked (Some r) sets)
  reset_asks clock c r h sets k = asks_by
      (λ p. (p.0.0.0.0.0.1, p.0.1))
      (λ p. ((((((tt, p.0), tt), right_level (name_of m.vars r.signal.0) r.rising), tt), p.1), tt))
      (asks_pass 12 next signal_asks clock r.signal.0 c (in_signal m.vars named r h) next asks_pass 16 next asks_name (is_wrong_level (raw_reset m.vars r)) next asks_pass _
      next loads_asks m.vars named f t.names (input_at m.vars) (any block_assigns before) given.inputs back.names [] none no_names sets k r.values (in_loads m.vars named r h) 6
      next asks_pass 19)

  later_asks : (clock : ℕ) → clock < length m.vars → (reset : Option SvReset) → InVars m.vars named (reset_names reset) → (sets : List SvSet) → InVars m.vars named (is_among (targets sets))
      → Asks (edge_names many f t (name_of m.vars clock) (option_map (raw_reset m.vars) reset) (map (raw_set m.vars) sets)) (Later clock reset sets)
  later_asks clock c None h sets k = asks_by (λ p. record { signal = tt; loads = tt; kept = p.0.1 }) (λ p. ((tt, p.kept), tt)) (asks_pass 8 next set_asks sets k 4 next asks_pass 6)
  later_asks clock c (Some r) h sets k = asks_by (λ p. record { signal = p.0.0.0; loads = p.0.0.1; kept = p.0.1 }) (λ p. (((p.signal, p.loads), p.kept), tt))
      (reset_asks clock c r h sets k next set_asks sets k 6 next asks_pass 14)

  -- ---- the parts

  abbrev ClockRight : Bool → ℕ → Type 0
  ClockRight rising c = IsOneBitInput m.vars c × (any block_reads m.blocks c ≡ false) × (other_clock many before rising c ≡ false)

  loads_apart : (reset : Option SvReset) (sets : List SvSet) → LoadsAsked reset sets → Apart (is_among (load_targets (loads_of reset))) outside
  loads_apart None sets h = λ v e. cc
  loads_apart (Some r) sets h = kept_apart outside none (load_targets r.values) h.0

  signal_part : (c : ℕ) (reset : Option SvReset) (sets : List SvSet) → SignalRight c reset → LoadsAsked reset sets → SignalAsked many m c reset sets
  signal_part c None sets s l = tt
  signal_part c (Some r) sets s l = (s.0, s.1, s.2, l.1)

  part_signal : (c : ℕ) (reset : Option SvReset) (sets : List SvSet) → SignalAsked many m c reset sets → SignalRight c reset
  part_signal c None sets s = tt
  part_signal c (Some r) sets s = (s.0, s.1, s.2)

  module _ (rising : Bool) (clock : VarId) (reset : Option SvReset) (sets : List SvSet) where
    abbrev block : SvBlock
    block = Edge rising clock reset sets

    to_edge : ClockRight rising clock.0 × Later clock.0 reset sets → Part many m before block
    to_edge (c, l) = record {
      inputs = λ v e. (or_parts (input_at m.vars v) (any block_assigns before v) (apart v e)).0;
      taken = λ v e. (or_parts (input_at m.vars v) (any block_assigns before v) (apart v e)).1;
      fresh = kept_distinct outside none (targets sets) l.kept;
      clock = (c.0, c.1, c.2, signal_part clock.0 reset sets l.signal l.loads);
    }
      where
        apart : Apart (block_assigns block) outside
        apart v e = elim (or_cases (is_among (targets sets) v) (is_among (load_targets (loads_of reset)) v) e) [
          | inl a ↦ kept_apart outside none (targets sets) l.kept v a
          | inr b ↦ loads_apart reset sets l.loads v b
        ]

    from_edge : Part many m before block → ClockRight rising clock.0 × Later clock.0 reset sets
    from_edge p = (
      (p.clock.0, p.clock.1, p.clock.2),
      record {
        signal = part_signal clock.0 reset sets p.clock.3;
        loads = loads reset (λ v e. apart v (or_right (is_among (targets sets) v) (is_among (load_targets (loads_of reset)) v) e)) p.clock.3;
        kept = kept_from outside none (targets sets) (λ v e. apart v (or_left (is_among (targets sets) v) (is_among (load_targets (loads_of reset)) v) e)) (λ v e. refl) p.fresh;
      },
    )
      where
        apart : Apart (block_assigns block) outside
        apart v e = or_from (input_at m.vars v) (any block_assigns before v) (p.inputs v e) (p.taken v e)

        loads : (o : Option SvReset) → Apart (is_among (load_targets (loads_of o))) outside → SignalAsked many m clock.0 o sets → LoadsAsked o sets
        loads None a s = tt
        loads (Some r) a s = (kept_from outside none (load_targets r.values) a (λ v e. refl) (part_distinct (load_targets r.values) (targets sets) s.3 p.fresh), s.3)

    clock_asks : clock.0 < length m.vars → Asks (mention (is_wrong_clock many f t rising (name_of m.vars clock.0)) (name_of m.vars clock.0)) (ClockRight rising clock.0)
    clock_asks h = asks_by (right_clock m named many before rising clock.0) (clock_right m named many before rising clock.0)
        (said_so (is_wrong_clock many f t rising (name_of m.vars clock.0)) ((not (is_level m named clock.0) || any block_reads m.blocks clock.0) || other_clock many before rising clock.0)
        (clock_is m named many f given before t back rising clock.0 h) (asks_mention _ (name_of m.vars clock.0)))

    edge_asks : IsNamedBlock m.vars named block → Asks (drivers.block_names many f t (raw_block m.vars block)) (Part many m before block)
    edge_asks h = asks_by (λ p. to_edge (p.0.1, p.1)) (λ p. let q = from_edge p in ((tt, q.0), q.1))
        (asks_pass 22 next clock_asks (in_clock m.vars named rising clock reset sets h)
        next later_asks clock.0 (in_clock m.vars named rising clock reset sets h) reset (in_reset m.vars named rising clock reset sets h) sets (in_targets m.vars named rising clock reset sets h))

  comb_part : (ss : List SvStmt) → IsNamedBlock m.vars named (Comb ss) → Asks (drivers.block_names many f t (raw_block m.vars (Comb ss))) (Part many m before (Comb ss))
  comb_part ss h =
      let all : Tells m.vars named (each (map assigned_in (map (raw_stmt m.vars) ss)) []) (assigns (code_of ss)) =
      code_assigned_tells m.vars named ss (λ v e. h v (or_right (code_reads (code_of ss) v) (assigns (code_of ss) v) e)) [] none no_names in
      asks_by (λ p. record { inputs = p.0.1.0; taken = p.0.1.1; fresh = p.0.1.2; clock = tt }) (λ p. ((tt, (p.inputs, p.taken, p.fresh)), tt))
      (asks_pass 20
      next comb_asks m.vars named f.inputs t.names (each (map assigned_in (map (raw_stmt m.vars) ss)) []) (input_at m.vars) (any block_assigns before) given.inputs back.names ss all h 4 next asks_pass 6)

  pub block_asks : (b : SvBlock) → IsNamedBlock m.vars named b → Asks (drivers.block_names many f t (raw_block m.vars b)) (Part many m before b)
  block_asks (Comb ss) h = comb_part ss h
  block_asks (Edge rising clock reset sets) h = edge_asks rising clock reset sets h
