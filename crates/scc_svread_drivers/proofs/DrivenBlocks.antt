-- What blocks add to names: what they read and assign, and their clocks.
use Rattle.std.proofs.Common.{◌≡◌, ◌<◌, ℕ, nat_eq, Bool, true, false, ◌||◌, ◌&&◌, if◌then◌else◌, List, [], ◌∷◌, ◌++◌, length, map, Option, Some, None, refl, sym, ap, subst, ◌∙◌}
use Rattle.std.specs.Prelude.{option_map}
use Rattle.std.proofs.Math.Bool.{or_assoc, or_comm, or-false}
use Rattle.std.proofs.lemmas.Bool.{or_left, or_right}
use Rattle.scc_svtree.specs.declared.expr.VarId.{VarId}
use Rattle.scc_svtree.specs.declared.module.SvVar.{SvVar}
use Rattle.scc_svtree.specs.declared.module.SvBlock.{SvBlock}
use Rattle.scc_svtree.specs.declared.module.SvBlock.TheVariants.{Comb, Edge}
use Rattle.scc_svtree.specs.declared.module.SvSet.{SvSet}
use Rattle.scc_svtree.specs.declared.module.SvLoad.{SvLoad}
use Rattle.scc_svtree.specs.declared.module.SvReset.{SvReset}
use Rattle.scc_svtree.specs.Term.{term_of}
use Rattle.scc_svtree.specs.Code.{code_of}
use Rattle.scc_svtree.specs.Mentions.{reads, code_reads, assigns}
use Rattle.scc_svtree.specs.Steps.{is_clock}
use Rattle.scc_svtree.specs.Sound.{Each, AreNamed, is_among, targets, load_targets, loads_of, sets_read, reset_names, block_names, block_assigns, block_reads}
use Rattle.scc_svtext.specs.ModuleText.{is_port}
use Rattle.scc_svread_grammar.specs.declared.raw.RawVar.{RawVar}
use Rattle.scc_svread_grammar.specs.declared.raw.RawItem.{RawItem}
use Rattle.scc_svread_grammar.specs.declared.raw.RawItem.TheVariants.{Var, Block}
use Rattle.scc_svread_written.specs.Written.{name_of, raw_set, raw_load, raw_reset, raw_block, raw_var, raw_declarations, raw_blocks}
use Rattle.scc_svread_check.specs.Mentioned.{Names, Adding, each, set_read, set_assigned, load_assigned, reset_assigned, block_read, block_assigned, item_read, item_assigned}
use Rattle.scc_svread_check.specs.Drivers.{with_name_if, same, block_clock, item_clock, clock_at}
use Rattle.scc_svread_drivers.proofs.NamedLists.{Tells, with_tells, read_tells, code_read_tells, code_assigned_tells}
use Rattle.scc_svread_drivers.proofs.DrivenLists.{self_eq}
use Rattle.scc_svread_drivers.proofs.DrivenClocks.{any, clock_up, clock_of, any_clock}
use Rattle.scc_svread_drivers.proofs.DrivenFacts.{tells_by}

-- ---- declarations add no names

skip : (f : RawItem → Adding) → ((v : RawVar) (ns : Names) → f (Var v) ns ≡ ns) → (vs : List SvVar) (items : List RawItem) (ns : Names) → each (map f (raw_declarations vs ++ items)) ns ≡ each (map f items) ns
skip f k [] items ns = refl
skip f k (v ∷ vs) items ns = go (is_port v.dir) (skip f k vs items ns)
  where
    go : (b : Bool) → each (map f (raw_declarations vs ++ items)) ns ≡ each (map f items) ns → each (map f ((if b then raw_declarations vs else Var (raw_var v) ∷ raw_declarations vs) ++ items)) ns ≡ each (map f items) ns
    go true h = h
    go false h = ap (each (map f (raw_declarations vs ++ items))) (k (raw_var v) ns) ∙ h

module _ (vars : List SvVar) (named : AreNamed vars) where
  -- ---- what blocks add

  abbrev pub InVars : (ℕ → Bool) → Type 0
  InVars q = (v : ℕ) → q v ≡ true → v < length vars

  abbrev pub Adds : Adding → (ℕ → Bool) → Type 0
  Adds f g = (ns : Names) (q : ℕ → Bool) → Tells vars named ns q → Tells vars named (f ns) (λ v. q v || g v)

  nothing_added : Adds (λ ns. ns) (λ v. false)
  nothing_added ns q t = tells_by vars named ns q (λ v. q v || false) (λ v. sym (or-false (q v))) t

  more_added : (f h : Adding) (g k : ℕ → Bool) → Adds f g → Adds h k → Adds (λ ns. h (f ns)) (λ v. g v || k v)
  more_added f h g k a b ns q t = tells_by vars named (h (f ns)) (λ v. (q v || g v) || k v) (λ v. q v || (g v || k v)) (λ v. or_assoc (q v) (g v) (k v)) (b (f ns) (λ v. q v || g v) (a ns q t))

  sets_read_added : (us : List SvSet) → InVars (sets_read us) → Adds (each (map set_read (map (raw_set vars) us))) (sets_read us)
  sets_read_added [] h = nothing_added
  sets_read_added (u ∷ us) h =
      more_added (set_read (raw_set vars u)) (each (map set_read (map (raw_set vars) us))) (reads (term_of u.value)) (sets_read us)
      (read_tells vars named u.value (λ v e. h v (or_left (reads (term_of u.value) v) (sets_read us v) e)))
      (sets_read_added us (λ v e. h v (or_right (reads (term_of u.value) v) (sets_read us v) e)))

  sets_added : (us : List SvSet) → InVars (is_among (targets us)) → Adds (each (map set_assigned (map (raw_set vars) us))) (is_among (targets us))
  sets_added [] h = nothing_added
  sets_added (u ∷ us) h =
      more_added (set_assigned (raw_set vars u)) (each (map set_assigned (map (raw_set vars) us))) (nat_eq u.target.0) (is_among (targets us))
      (with_tells vars named u.target.0 (h u.target.0 (or_left (nat_eq u.target.0 u.target.0) (is_among (targets us) u.target.0) (self_eq u.target.0))))
      (sets_added us (λ v e. h v (or_right (nat_eq u.target.0 v) (is_among (targets us) v) e)))

  loads_added : (ls : List SvLoad) → InVars (is_among (load_targets ls)) → Adds (each (map load_assigned (map (raw_load vars) ls))) (is_among (load_targets ls))
  loads_added [] h = nothing_added
  loads_added (l ∷ ls) h =
      more_added (load_assigned (raw_load vars l)) (each (map load_assigned (map (raw_load vars) ls))) (nat_eq l.target.0) (is_among (load_targets ls))
      (with_tells vars named l.target.0 (h l.target.0 (or_left (nat_eq l.target.0 l.target.0) (is_among (load_targets ls) l.target.0) (self_eq l.target.0))))
      (loads_added ls (λ v e. h v (or_right (nat_eq l.target.0 v) (is_among (load_targets ls) v) e)))

  abbrev pub IsNamedBlock : SvBlock → Type 0
  IsNamedBlock b = InVars (block_names b)

  -- what is named in a block at an edge
  module _ (rising : Bool) (clock : VarId) (reset : Option SvReset) (sets : List SvSet) (h : IsNamedBlock (Edge rising clock reset sets)) where
    pub in_clock : clock.0 < length vars
    in_clock = h clock.0 (or_left _ (sets_read sets clock.0) (or_left _ (is_among (targets sets) clock.0) (or_left _ (reset_names reset clock.0) (self_eq clock.0))))

    pub in_reset : InVars (reset_names reset)
    in_reset v e = h v (or_left _ (sets_read sets v) (or_left _ (is_among (targets sets) v) (or_right (nat_eq clock.0 v) (reset_names reset v) e)))

    pub in_targets : InVars (is_among (targets sets))
    in_targets v e = h v (or_left _ (sets_read sets v) (or_right _ (is_among (targets sets) v) e))

    in_reads : InVars (sets_read sets)
    in_reads v e = h v (or_right _ (sets_read sets v) e)

  pub in_signal : (r : SvReset) → InVars (reset_names (Some r)) → r.signal.0 < length vars
  in_signal r h = h r.signal.0 (or_left _ (is_among (load_targets r.values) r.signal.0) (self_eq r.signal.0))

  pub in_loads : (r : SvReset) → InVars (reset_names (Some r)) → InVars (is_among (load_targets r.values))
  in_loads r h v e = h v (or_right (nat_eq r.signal.0 v) (is_among (load_targets r.values) v) e)

  -- ---- what one block adds

  reset_added : (reset : Option SvReset) → InVars (reset_names reset) → Adds (reset_assigned (option_map (raw_reset vars) reset)) (is_among (load_targets (loads_of reset)))
  reset_added None h = nothing_added
  reset_added (Some r) h = loads_added r.values (in_loads r h)

  read_added : (b : SvBlock) → IsNamedBlock b → Adds (block_read (raw_block vars b)) (block_reads b)
  read_added (Comb ss) h = code_read_tells vars named ss (λ v e. h v (or_left (code_reads (code_of ss) v) (assigns (code_of ss) v) e))
  read_added (Edge rising clock reset sets) h = sets_read_added sets (in_reads rising clock reset sets h)

  pub assigned_added : (b : SvBlock) → IsNamedBlock b → Adds (block_assigned (raw_block vars b)) (block_assigns b)
  assigned_added (Comb ss) h = code_assigned_tells vars named ss (λ v e. h v (or_right (code_reads (code_of ss) v) (assigns (code_of ss) v) e))
  assigned_added (Edge rising clock reset sets) h = λ ns q t.
      tells_by vars named _ _ _ (λ v. ap (λ c. q v || c) (or_comm (is_among (load_targets (loads_of reset)) v) (is_among (targets sets) v)))
      (more_added (reset_assigned (option_map (raw_reset vars) reset)) (each (map set_assigned (map (raw_set vars) sets))) (is_among (load_targets (loads_of reset))) (is_among (targets sets))
      (reset_added reset (in_reset rising clock reset sets h)) (sets_added sets (in_targets rising clock reset sets h)) ns q t)

  clock_added : (b : SvBlock) → IsNamedBlock b → Adds (block_clock (raw_block vars b)) (clock_of b)
  clock_added (Comb ss) h = nothing_added
  clock_added (Edge rising clock reset sets) h = with_tells vars named clock.0 (in_clock rising clock reset sets h)

  pub up_added : (up : Bool) (b : SvBlock) → IsNamedBlock b → Adds (clock_at up (raw_block vars b)) (clock_up up b)
  up_added up (Comb ss) h = nothing_added
  up_added up (Edge rising clock reset sets) h = go (same up rising)
    where
      go : (b : Bool) → Adds (with_name_if b (name_of vars clock.0)) (λ v. b && nat_eq clock.0 v)
      go true = with_tells vars named clock.0 (in_clock rising clock reset sets h)
      go false = nothing_added

  -- ---- what all add

  blocks_added : (f : RawItem → Adding) (g : SvBlock → ℕ → Bool) → ((b : SvBlock) → IsNamedBlock b → Adds (f (Block (raw_block vars b))) (g b))
      → (bs : List SvBlock) → Each IsNamedBlock bs → Adds (each (map f (raw_blocks vars bs))) (any g bs)
  blocks_added f g k [] h = nothing_added
  blocks_added f g k (b ∷ bs) h = more_added (f (Block (raw_block vars b))) (each (map f (raw_blocks vars bs))) (g b) (any g bs) (k b h.0) (blocks_added f g k bs h.1)

  items_tell : (f : RawItem → Adding) (g : SvBlock → ℕ → Bool) → ((v : RawVar) (ns : Names) → f (Var v) ns ≡ ns) → ((b : SvBlock) → IsNamedBlock b → Adds (f (Block (raw_block vars b))) (g b))
      → (bs : List SvBlock) → Each IsNamedBlock bs → Tells vars named (each (map f (raw_declarations vars ++ raw_blocks vars bs)) []) (any g bs)
  items_tell f g u k bs h =
      let none : Tells vars named [] (λ v. false) = record { tells = λ i l. refl } in
      let P : Names → Type 0 = λ ns. Tells vars named ns (any g bs) in
      subst P (sym (skip f u vars (raw_blocks vars bs) [])) (blocks_added f g k bs h [] (λ v. false) none)

  pub reads_tell : (bs : List SvBlock) → Each IsNamedBlock bs → Tells vars named (each (map item_read (raw_declarations vars ++ raw_blocks vars bs)) []) (any block_reads bs)
  reads_tell = items_tell item_read block_reads (λ v ns. refl) read_added

  pub assigned_tell : (bs : List SvBlock) → Each IsNamedBlock bs → Tells vars named (each (map item_assigned (raw_declarations vars ++ raw_blocks vars bs)) []) (any block_assigns bs)
  assigned_tell = items_tell item_assigned block_assigns (λ v ns. refl) assigned_added

  pub clocks_tell : (bs : List SvBlock) → Each IsNamedBlock bs → Tells vars named (each (map item_clock (raw_declarations vars ++ raw_blocks vars bs)) []) (is_clock bs)
  clocks_tell bs h = tells_by vars named _ (any clock_of bs) (is_clock bs) (any_clock bs) (items_tell item_clock clock_of (λ v ns. refl) clock_added bs h)
