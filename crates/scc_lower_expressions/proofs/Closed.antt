-- Elements that are read as a whole, in a range, or at a bit that is known.
use Rattle.std.proofs.Common.{◌≡◌, ℕ, ◌+◌, ◌<◌, ◌≤◌, List, Option, Some, None, refl, sym, subst, inl, inr, slice_get}
use Rattle.scc_bits_kinds.specs.declared.kind.Kind.{Kind}
use Rattle.scc_bits_kinds.specs.Kinds.{width_of}
use Rattle.scc_bits.specs.Value.{Number}
use Rattle.scc_core.specs.declared.expr.CoreBase.TheOpen as tree
use Rattle.scc_core.specs.declared.expr.CoreExpr.{CoreExpr}
use Rattle.scc_core.specs.declared.expr.CoreLeft.{CoreLeft}
use Rattle.scc_core.specs.declared.expr.CorePick.{CorePick, out-CorePick}
use Rattle.scc_core.specs.declared.program.Cell.{Cell}
use Rattle.scc_core.specs.Known.{facts_in}
use Rattle.scc_core.specs.Numbers.{small}
use Rattle.scc_core.specs.Statics.{value_in}
use Rattle.scc_svtree.specs.Term as emitted
use Rattle.scc_lower_tree_laws.specs.Choosing.{Opened, ReadsElement}
use Rattle.scc_lower_tree_laws.specs.Finding.{BitAt, Found, IsFoundAt, IsKnownBit, Opening, Reading}
use Rattle.scc_lower_tree_laws.specs.States.{Given, Seen, State}
use Rattle.scc_lower_tree_laws.proofs.Picks.{reading-whole, reading-range, reading-known, reading-open}
use Rattle.scc_lower_expressions.specs.Becoming.{IsBitAt, IsWholeRead}

-- ---- the bit of a number

module _ (g : Given) (views : List Seen) (v : Number) (h : ℕ) (os : List Opened) (first : ℕ) (t : emitted.Term) where
  pub bit-in : (i : ℕ) → small v ≡ Some i → i ≤ h → ReadsElement g views os first i i t → IsKnownBit g views (small v) h os first t
  bit-in i is low r = let P : Option ℕ → Type 0 = λ o. IsKnownBit g views o h os first t in subst P (sym is) (inl (low, r))

  pub bit-past : (i : ℕ) → small v ≡ Some i → h < i → t ≡ emitted.Literal 1 0 → IsKnownBit g views (small v) h os first t
  bit-past i is high z = let P : Option ℕ → Type 0 = λ o. IsKnownBit g views o h os first t in subst P (sym is) (inr (high, z))

  pub bit-none : small v ≡ None → t ≡ emitted.Literal 1 0 → IsKnownBit g views (small v) h os first t
  bit-none is z = let P : Option ℕ → Type 0 = λ o. IsKnownBit g views o h os first t in subst P (sym is) z

-- ---- reads

module _ (g : Given) (l : CoreLeft) (k : Kind) (f : Found) (os : List Opened) (a b : State) (first : ℕ) (pick : Option CorePick) (t : emitted.Term) where
  pub closed-whole : pick ≡ None → f.first ≡ first → IsFoundAt g l f → Opening g f.dims a os b → IsWholeRead g b.views os first t → Reading g l pick k a t b
  closed-whole p i h o w =
      let P : ℕ → Type 0 = λ n. IsWholeRead g b.views os n t in
      let Q : Option CorePick → Type 0 = λ q. Reading g l q k a t b in
      let r = subst P (sym i) w in
      subst Q (sym p) (reading-whole g l k f os a b r.high 0 t r.cell h o r.stands r.wide refl r.reads)

  pub closed-range : (q : CorePick) (j : Kind) (hi lo : ℕ) → pick ≡ Some q → out-CorePick q ≡ tree.Range j hi lo → f.first ≡ first → IsFoundAt g l f → Opening g f.dims a os b → ReadsElement g b.views os first hi lo t → Reading g l pick k a t b
  closed-range q j hi lo p is i h o w =
      let P : ℕ → Type 0 = λ n. ReadsElement g b.views os n hi lo t in
      let Q : Option CorePick → Type 0 = λ u. Reading g l u k a t b in
      subst Q (sym p) (reading-range g l k f os a b q j hi lo t is h o (subst P (sym i) w))

  pub closed-bit : (q : CorePick) (j : Kind) (i : CoreExpr) (v : Number) (hi : ℕ) (cell : Cell) → pick ≡ Some q → out-CorePick q ≡ tree.Bit j i → value_in (facts_in g.known) i ≡ Some v → f.first ≡ first → IsFoundAt g l f
      → Opening g f.dims a os b → slice_get g.cells first ≡ Some cell → hi + 1 ≡ width_of cell.kind → IsKnownBit g b.views (small v) hi os first t → Reading g l pick k a t b
  closed-bit q j i v hi cell p is known at h o stands wide w =
      let P : ℕ → Type 0 = λ n. IsKnownBit g b.views (small v) hi os n t in
      let R : ℕ → Type 0 = λ n. slice_get g.cells n ≡ Some cell in
      let Q : Option CorePick → Type 0 = λ u. Reading g l u k a t b in
      subst Q (sym p) (reading-known g l k f os a b q j i v hi t cell is known h o (subst R (sym at) stands) wide (subst P (sym at) w))

  pub closed-open : (c : State) (i : CoreExpr) (r : emitted.Term) → IsBitAt pick i → f.first ≡ first → IsFoundAt g l f → Opening g f.dims a os b → IsWholeRead g b.views os first t → BitAt g t i b r c → Reading g l pick k a r c
  closed-open c i r is at h o w x = by pick is
    where
      by : (q : Option CorePick) → IsBitAt q i → Reading g l q k a r c
      by None n = absurd n
      by (Some q) n =
          let P : ℕ → Type 0 = λ m. IsWholeRead g b.views os m t in
          let z = subst P (sym at) w in
          reading-open g l k f os a b c q n.0 i z.high 0 t r z.cell n.1 h o z.stands z.wide refl z.reads x
