-- What is known of a module's names and of the blocks before one, and what the tests of clocks and of resets' signals say with that.
use Rattle.std.proofs.Common.{◌≡◌, ◌<◌, ℕ, suc, nat_eq, Bool, true, false, not, ◌||◌, ◌&&◌, if◌then◌else◌, List, [], ◌∷◌, ◌++◌, length, refl, ap, ◌∙◌, arith, eq-eqb, ne_eqb}
use Rattle.std.specs.Prelude.{bytes_eq}
use Rattle.std.specs.List.{list_any}
use Rattle.std.proofs.Math.Bool.{or_comm}
use Rattle.std.proofs.lemmas.Bool.{or_parts, or_from, and_parts, and_from, and_left, and_right, not-false, not_from_true, eqb-true}
use Rattle.scc_svtree.specs.declared.module.SvModule.{SvModule}
use Rattle.scc_svtree.specs.declared.module.SvBlock.{SvBlock}
use Rattle.scc_svtree.specs.declared.module.SvBlock.TheVariants.{Comb, Edge}
use Rattle.scc_svtree.specs.Variables.{width_at}
use Rattle.scc_svtree.specs.Steps.{input_at, is_clock}
use Rattle.scc_svtree.specs.Sound.{Each, AreNamed, IsOneBitInput, block_names, block_assigns, block_reads}
use Rattle.scc_svread_grammar.specs.Lexical.{Bytes}
use Rattle.scc_svread_check.specs.declared.facts.Facts.{Facts}
use Rattle.scc_svread_check.specs.declared.facts.Taken.{Taken}
use Rattle.scc_svread_written.specs.Written.{name_of, raw_block, raw_of}
use Rattle.scc_svread_check.specs.Mentioned.{with_name}
use Rattle.scc_svread_check.specs.Mentioned.{Names, is_among, block_assigned}
use Rattle.scc_svread_check.specs.Drivers.{facts_of, clocks_at, is_first, is_other_clock, is_wrong_clock, is_wrong_signal, clock_at, taken_after, nothing}
use Rattle.scc_svread_written.proofs.Formed.{Formed}
use Rattle.scc_svread_drivers.proofs.NamedLists.{Tells}
use Rattle.scc_svread_drivers.proofs.DrivenClocks.{any, clock_up, is_edge, other_clock}
use Rattle.scc_svread_drivers.proofs.DrivenFacts.{names_eq, tells_by, inputs_tell, levels_tell}
use Rattle.scc_svread_drivers.proofs.DrivenBlocks.{IsNamedBlock, reads_tell, assigned_tell, clocks_tell, assigned_added, up_added}

-- ---- names with a further one are some

longer : (ns : Names) (n : Bytes) → nat_eq (length (ns ++ n ∷ [])) 0 ≡ false
longer [] n = refl
longer (x ∷ xs) n = ne_eqb (suc (length (xs ++ n ∷ []))) 0 (λ e. omega arith)

among_some : (ns : Names) (n : Bytes) → is_among ns n ≡ true → nat_eq (length ns) 0 ≡ false
among_some [] n h = cc
among_some (x ∷ xs) n h = ne_eqb (suc (length xs)) 0 (λ e. omega arith)

with_some : (ns : Names) (n : Bytes) → nat_eq (length (with_name ns n)) 0 ≡ false
with_some ns n = go (is_among ns n) refl
  where
    go : (b : Bool) → is_among ns n ≡ b → nat_eq (length (if b then ns else ns ++ n ∷ [])) 0 ≡ false
    go true e = among_some ns n e
    go false e = longer ns n

not_not : (b : Bool) → not (not b) ≡ b
not_not true = refl
not_not false = refl

-- every block names only the module's variables
pub named_blocks : (m : SvModule) (formed : Formed m) → Each (IsNamedBlock m.vars formed.names) m.blocks
named_blocks m formed = go m.blocks formed.declared
  where
    go : (bs : List SvBlock) → ((v : ℕ) → Each (λ b. block_names b v ≡ true → v < length m.vars) bs) → Each (IsNamedBlock m.vars formed.names) bs
    go [] h = tt
    go (b ∷ bs) h = (λ v. (h v).0, go bs (λ v. (h v).1))

module _ (m : SvModule) (named : AreNamed m.vars) where
  abbrev pub is_level : ℕ → Bool
  is_level v = input_at m.vars v && nat_eq (width_at m.vars v) 1

  pub record Given (f : Facts) : Type 0 where
    pub inputs : Tells m.vars named f.inputs (input_at m.vars)
    pub levels : Tells m.vars named f.levels is_level
    pub read : Tells m.vars named f.read (any block_reads m.blocks)
    pub driven : Tells m.vars named f.driven (any block_assigns m.blocks)
    pub clocks : Tells m.vars named f.clocks (is_clock m.blocks)

  -- what is known behind these blocks
  pub record Behind (before : List SvBlock) (t : Taken) : Type 0 where
    pub names : Tells m.vars named t.names (any block_assigns before)
    pub rising : Tells m.vars named t.rising (any (clock_up true) before)
    pub falling : Tells m.vars named t.falling (any (clock_up false) before)
    pub first : is_first t ≡ not (list_any is_edge before)

  pub nothing_behind : Behind [] nothing
  nothing_behind = record { names = none; rising = none; falling = none; first = refl }
    where
      none : Tells m.vars named [] (λ v. false)
      none = record { tells = λ i h. refl }

  first_more : (before : List SvBlock) (t : Taken) → Behind before t → (b : SvBlock) → is_first (taken_after t (raw_block m.vars b)) ≡ not (list_any is_edge (b ∷ before))
  first_more before t k (Comb ss) = k.first
  first_more before t k (Edge true clock reset sets) = and_left (nat_eq (length (with_name t.rising (name_of m.vars clock.0))) 0) (nat_eq (length t.falling) 0) (with_some t.rising (name_of m.vars clock.0))
  first_more before t k (Edge false clock reset sets) = and_right (nat_eq (length t.rising) 0) (nat_eq (length (with_name t.falling (name_of m.vars clock.0))) 0) (with_some t.falling (name_of m.vars clock.0))

  pub behind_more : (before : List SvBlock) (t : Taken) → Behind before t → (b : SvBlock) → IsNamedBlock m.vars named b → Behind (b ∷ before) (taken_after t (raw_block m.vars b))
  behind_more before t k b h = record {
    names = turned (block_assigned (raw_block m.vars b) t.names) (any block_assigns before) (block_assigns b) (assigned_added m.vars named b h t.names (any block_assigns before) k.names);
    rising = turned (clock_at true (raw_block m.vars b) t.rising) (any (clock_up true) before) (clock_up true b) (up_added m.vars named true b h t.rising (any (clock_up true) before) k.rising);
    falling = turned (clock_at false (raw_block m.vars b) t.falling) (any (clock_up false) before) (clock_up false b) (up_added m.vars named false b h t.falling (any (clock_up false) before) k.falling);
    first = first_more before t k b;
  }
    where
      turned : (ns : Names) (q g : ℕ → Bool) → Tells m.vars named ns (λ v. q v || g v) → Tells m.vars named ns (λ v. g v || q v)
      turned ns q g a = tells_by m.vars named ns (λ v. q v || g v) (λ v. g v || q v) (λ v. or_comm (q v) (g v)) a

  -- ---- what the tests say

  level_of : (v : ℕ) → not (is_level v) ≡ false → IsOneBitInput m.vars v
  level_of v h = let p = and_parts (input_at m.vars v) (nat_eq (width_at m.vars v) 1) (not-false (is_level v) h) in (p.0, eqb-true (width_at m.vars v) 1 p.1)

  of_level : (v : ℕ) → IsOneBitInput m.vars v → not (is_level v) ≡ false
  of_level v h = not_from_true (is_level v) (and_from (input_at m.vars v) (nat_eq (width_at m.vars v) 1) h.0 (eq-eqb (width_at m.vars v) 1 h.1))

  pub right_clock : (many : Bool) (before : List SvBlock) (rising : Bool) (c : ℕ) → ((not (is_level c) || any block_reads m.blocks c) || other_clock many before rising c) ≡ false
      → IsOneBitInput m.vars c × (any block_reads m.blocks c ≡ false) × (other_clock many before rising c ≡ false)
  right_clock many before rising c h =
      let p = or_parts (not (is_level c) || any block_reads m.blocks c) (other_clock many before rising c) h in
      let q = or_parts (not (is_level c)) (any block_reads m.blocks c) p.0 in
      (level_of c q.0, q.1, p.1)

  pub clock_right : (many : Bool) (before : List SvBlock) (rising : Bool) (c : ℕ) → IsOneBitInput m.vars c × (any block_reads m.blocks c ≡ false) × (other_clock many before rising c ≡ false)
      → ((not (is_level c) || any block_reads m.blocks c) || other_clock many before rising c) ≡ false
  clock_right many before rising c h = or_from (not (is_level c) || any block_reads m.blocks c) (other_clock many before rising c) (or_from (not (is_level c)) (any block_reads m.blocks c) (of_level c h.0) h.1) h.2

  pub right_signal : (many : Bool) (c s : ℕ) → ((not (is_level s) || nat_eq c s) || (many && is_clock m.blocks s)) ≡ false → IsOneBitInput m.vars s × (nat_eq c s ≡ false) × ((many && is_clock m.blocks s) ≡ false)
  right_signal many c s h =
      let p = or_parts (not (is_level s) || nat_eq c s) (many && is_clock m.blocks s) h in
      let q = or_parts (not (is_level s)) (nat_eq c s) p.0 in
      (level_of s q.0, q.1, p.1)

  pub signal_right : (many : Bool) (c s : ℕ) → IsOneBitInput m.vars s × (nat_eq c s ≡ false) × ((many && is_clock m.blocks s) ≡ false) → ((not (is_level s) || nat_eq c s) || (many && is_clock m.blocks s)) ≡ false
  signal_right many c s h = or_from (not (is_level s) || nat_eq c s) (many && is_clock m.blocks s) (or_from (not (is_level s)) (nat_eq c s) (of_level s h.0) h.1) h.2

  module _ (many : Bool) (f : Facts) (given : Given f) (before : List SvBlock) (t : Taken) (back : Behind before t) where
    at_edge : (up : Bool) → Tells m.vars named (clocks_at up t) (any (clock_up up) before)
    at_edge true = back.rising
    at_edge false = back.falling

    other_is : (b rising : Bool) (c : ℕ) → c < length m.vars → is_other_clock b t rising (name_of m.vars c) ≡ other_clock b before rising c
    other_is true rising c h = (at_edge (not rising)).tells c h
    other_is false rising c h =
        ap (λ a. not a && not (is_among (clocks_at rising t) (name_of m.vars c))) back.first ∙ ap (λ a. a && not (is_among (clocks_at rising t) (name_of m.vars c))) (not_not (list_any is_edge before))
        ∙ ap (λ a. list_any is_edge before && not a) ((at_edge rising).tells c h)

    pub clock_is : (rising : Bool) (c : ℕ) → c < length m.vars → is_wrong_clock many f t rising (name_of m.vars c) ≡ ((not (is_level c) || any block_reads m.blocks c) || other_clock many before rising c)
    clock_is rising c h = let a = given.levels.tells c h in let b = given.read.tells c h in let d = other_is many rising c h in
        ap (λ x. (not x || is_among f.read (name_of m.vars c)) || is_other_clock many t rising (name_of m.vars c)) a
        ∙ ap (λ x. (not (is_level c) || x) || is_other_clock many t rising (name_of m.vars c)) b ∙ ap (λ x. (not (is_level c) || any block_reads m.blocks c) || x) d

    pub signal_is : (c s : ℕ) → c < length m.vars → s < length m.vars → is_wrong_signal many f (name_of m.vars c) (name_of m.vars s) ≡ ((not (is_level s) || nat_eq c s) || (many && is_clock m.blocks s))
    signal_is c s h k = let a = given.levels.tells s k in let b = names_eq m.vars named c s h k in let d = given.clocks.tells s k in
        ap (λ x. (not x || bytes_eq (name_of m.vars c) (name_of m.vars s)) || (many && is_among f.clocks (name_of m.vars s))) a
        ∙ ap (λ x. (not (is_level s) || x) || (many && is_among f.clocks (name_of m.vars s))) b ∙ ap (λ x. (not (is_level s) || nat_eq c s) || (many && x)) d

pub given : (m : SvModule) (formed : Formed m) → Given m formed.names (facts_of (raw_of m))
given m formed = record {
  inputs = inputs_tell m.vars formed.names;
  levels = levels_tell m.vars formed.names formed.widths;
  read = reads_tell m.vars formed.names m.blocks (named_blocks m formed);
  driven = assigned_tell m.vars formed.names m.blocks (named_blocks m formed);
  clocks = clocks_tell m.vars formed.names m.blocks (named_blocks m formed);
}
