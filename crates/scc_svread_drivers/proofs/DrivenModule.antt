-- The walk over a module's drivers notes nothing exactly where its drivers and clocks are right.
use Rattle.std.proofs.Common.{◌≡◌, ◌<◌, ℕ, zero, suc, Bool, true, false, not, ◌&&◌, if◌then◌else◌, List, [], ◌∷◌, ◌++◌, length, refl, sym, ap, ◌∙◌, arith}
use Rattle.std.proofs.lemmas.Bool.{both_ways, not-false, not_from_true}
use Rattle.scc_svtree.specs.declared.module.SvModule.{SvModule}
use Rattle.scc_svtree.specs.declared.module.SvVar.{SvVar}
use Rattle.scc_svtree.specs.declared.module.SvBlock.{SvBlock}
use Rattle.scc_svtree.specs.Steps.{input_at}
use Rattle.scc_svtree.specs.Sound.{Each, AreNamed}
use Rattle.scc_svtext.specs.ModuleText.{is_port}
use Rattle.scc_svread_grammar.specs.declared.raw.RawVar.{RawVar}
use Rattle.scc_svread_grammar.specs.declared.raw.RawItem.{RawItem}
use Rattle.scc_svread_grammar.specs.declared.raw.RawItem.TheVariants.{Var}
use Rattle.scc_svread_check.specs.declared.facts.Facts.{Facts}
use Rattle.scc_svread_check.specs.declared.facts.Taken.{Taken}
use Rattle.scc_svread_written.specs.Written.{name_of, raw_block, raw_var, raw_ports, raw_declarations, raw_blocks, raw_of}
use Rattle.scc_svread_check.specs.Mentioned.{is_among}
use Rattle.scc_svread_check.specs.Drivers.{is_undriven, var_names, further_names, ports_names, taken_after, items_walk, nothing, facts_of, names_of}
use Rattle.scc_svread_written.proofs.Clear.{Asks, asks_by, asks_pass, asks_then}
use Rattle.scc_svread_written.proofs.Formed.{Formed, Driven}
use Rattle.scc_svread_drivers.proofs.DrivenFacts.{input_top}
use Rattle.scc_svread_drivers.proofs.DrivenBlocks.{IsNamedBlock}
use Rattle.scc_svread_drivers.proofs.DrivenEdges.{◌next◌, asks_none, asks_mention}
use Rattle.scc_svread_drivers.proofs.DrivenKnown.{Given, Behind, given, named_blocks, nothing_behind, behind_more}
use Rattle.scc_svread_drivers.proofs.DrivenParts.{Parts, AllDriven, driven_from, parts_from}
use Rattle.scc_svread_drivers.proofs.DrivenWalk.{block_asks}

-- ---- declarations

module _ (f : Facts) where
  abbrev IsDriven : RawVar → Type 0
  IsDriven v = is_undriven f v ≡ false

  var_asks : (v : RawVar) → Asks (var_names f v) (IsDriven v)
  var_asks v = asks_by (λ p. p.1) (λ e. (tt, e)) (asks_pass _ next asks_mention (is_undriven f v) v.name)

  further_asks : (vs : List RawVar) → Asks (further_names f vs) (Each IsDriven vs)
  further_asks [] = asks_none
  further_asks (v ∷ vs) = asks_by (λ p. (p.0.1, p.1)) (λ p. ((tt, p.0), p.1)) (asks_pass _ next var_asks v next further_asks vs)

  ports_asks : (vs : List RawVar) → Asks (ports_names f vs) (Each IsDriven vs)
  ports_asks [] = asks_pass 0
  ports_asks (v ∷ vs) = asks_by (λ p. (p.0.0.1, p.0.1)) (λ p. (((tt, p.0), p.1), tt)) (asks_pass _ next var_asks v next further_asks vs next asks_pass 1)

  -- variables that are no ports
  abbrev InnerDriven : List SvVar → Type 0
  InnerDriven vs = Each (λ v. is_port v.dir ≡ false → IsDriven (raw_var v)) vs

  inner_asks : (many : Bool) (t : Taken) (items : List RawItem) (P : Type 0) → Asks (items_walk many f t items) P → (vs : List SvVar) → Asks (items_walk many f t (raw_declarations vs ++ items)) (InnerDriven vs × P)
  inner_asks many t items P a [] = asks_by (λ p. (tt, p)) (λ p. p.1) a
  inner_asks many t items P a (v ∷ vs) = go (is_port v.dir) refl (inner_asks many t items P a vs)
    where
      go : (b : Bool) → is_port v.dir ≡ b → Asks (items_walk many f t (raw_declarations vs ++ items)) (InnerDriven vs × P)
          → Asks (items_walk many f t ((if b then raw_declarations vs else Var (raw_var v) ∷ raw_declarations vs) ++ items)) (InnerDriven (v ∷ vs) × P)
      go true e h = asks_by (λ p. ((λ n. absurd (both_ways (is_port v.dir) n e), p.0), p.1)) (λ p. (p.0.1, p.1)) h
      go false e h = asks_by (λ p. ((λ n. p.0.0.1, p.1.0), p.1.1)) (λ p. (((tt, p.0.0 e), tt), (p.0.1, p.1))) (asks_pass 8 next var_asks (raw_var v) next asks_pass 2 next h)

  all_of : (vs : List SvVar) → Each IsDriven (raw_ports vs) → InnerDriven vs → Each (λ v. IsDriven (raw_var v)) vs
  all_of [] p n = tt
  all_of (v ∷ vs) p n = go (is_port v.dir) refl p (all_of vs)
    where
      go : (b : Bool) → is_port v.dir ≡ b → Each IsDriven (if b then raw_var v ∷ raw_ports vs else raw_ports vs) → (Each IsDriven (raw_ports vs) → InnerDriven vs → Each (λ v. IsDriven (raw_var v)) vs) → Each (λ v. IsDriven (raw_var v)) (v ∷ vs)
      go true e q k = (q.0, k q.1 n.1)
      go false e q k = (n.0 e, k q n.1)

  ports_of : (vs : List SvVar) → Each (λ v. IsDriven (raw_var v)) vs → Each IsDriven (raw_ports vs)
  ports_of [] h = tt
  ports_of (v ∷ vs) h = go (is_port v.dir) (ports_of vs h.1)
    where
      go : (b : Bool) → Each IsDriven (raw_ports vs) → Each IsDriven (if b then raw_var v ∷ raw_ports vs else raw_ports vs)
      go true k = (h.0, k)
      go false k = k

  inner_of : (vs : List SvVar) → Each (λ v. IsDriven (raw_var v)) vs → InnerDriven vs
  inner_of [] h = tt
  inner_of (v ∷ vs) h = (λ n. h.0, inner_of vs h.1)

  -- ---- by number

  abbrev undriven_at : List SvVar → ℕ → Bool
  undriven_at vs i = not (input_at vs i) && not (is_among f.driven (name_of vs i))

  top_is : (v : SvVar) (vs : List SvVar) → is_undriven f (raw_var v) ≡ undriven_at (v ∷ vs) 0
  top_is v vs = ap (λ b. not b && not (is_among f.driven v.name)) (input_top v vs)

  by_number : (vs : List SvVar) → Each (λ v. IsDriven (raw_var v)) vs → (i : ℕ) → i < length vs → undriven_at vs i ≡ false
  by_number [] h i l = absurd (omega arith)
  by_number (v ∷ vs) h zero l = sym (top_is v vs) ∙ h.0
  by_number (v ∷ vs) h (suc i) l = by_number vs h.1 i (omega arith)

  numbered : (vs : List SvVar) → ((i : ℕ) → i < length vs → undriven_at vs i ≡ false) → Each (λ v. IsDriven (raw_var v)) vs
  numbered [] h = tt
  numbered (v ∷ vs) h = (top_is v vs ∙ h 0 (omega arith), numbered vs (λ i l. h (suc i) (omega arith)))

-- ---- the whole

module _ (many : Bool) (m : SvModule) (named : AreNamed m.vars) (f : Facts) (facts : Given m named f) where
  items_ask : (before : List SvBlock) (t : Taken) → Behind m named before t → (bs : List SvBlock) → Each (IsNamedBlock m.vars named) bs → Asks (items_walk many f t (raw_blocks m.vars bs)) (Parts many m before bs)
  items_ask before t k [] h = asks_none
  items_ask before t k (b ∷ bs) h = asks_then (block_asks many m named f facts before t k b h.0) (items_ask (b ∷ before) (taken_after t (raw_block m.vars b)) (behind_more m named before t k b h.0) bs h.1)

  all_driven : Each (λ v. is_undriven f (raw_var v) ≡ false) m.vars → AllDriven many m
  all_driven h v l e = sym (facts.driven.tells v l) ∙ go (input_at m.vars v) e (is_among f.driven (name_of m.vars v)) (by_number f m.vars h v l)
    where
      go : (b : Bool) → b ≡ false → (d : Bool) → (not b && not d) ≡ false → d ≡ true
      go true e d k = cc
      go false e d k = not-false d k

  driven_all : AllDriven many m → Each (λ v. is_undriven f (raw_var v) ≡ false) m.vars
  driven_all h = numbered f m.vars (λ v l. go v l (input_at m.vars v) refl)
    where
      go : (v : ℕ) → v < length m.vars → (b : Bool) → input_at m.vars v ≡ b → (not b && not (is_among f.driven (name_of m.vars v))) ≡ false
      go v l true e = refl
      go v l false e = not_from_true (is_among f.driven (name_of m.vars v)) (facts.driven.tells v l ∙ h v l e)

pub driven_asks : (many : Bool) (m : SvModule) → Formed m → Asks (names_of many (raw_of m)) (Driven many m)
driven_asks many m formed =
    let f : Facts = facts_of (raw_of m) in
    let facts : Given m formed.names f = given m formed in
    asks_by
    (λ p. driven_from many m (all_driven many m formed.names f facts (all_of f m.vars p.0.0.1 p.1.0), p.1.1))
    (λ d. let p = parts_from many m d in let h = driven_all many m formed.names f facts p.0 in ((((((tt, tt), tt), ports_of f m.vars h), tt)), (inner_of f m.vars h, p.1)))
    (asks_pass 7 next asks_pass _ next asks_pass 3 next ports_asks f (raw_ports m.vars) next asks_pass 3
    next inner_asks f many nothing (raw_blocks m.vars m.blocks) (Parts many m [] m.blocks) (items_ask many m formed.names f facts [] nothing (nothing_behind m formed.names) m.blocks (named_blocks m formed)) m.vars)
