-- Which bits of its cells an assignment writes.
use Rattle.std.proofs.Common.{◌≡◌, ℕ, ◌+◌, ◌<◌, ◌≤◌, List, Option, Some, None, refl, sym, ◌∙◌, ap, subst, slice_get, arith}
use Rattle.scc_bits_kinds.specs.declared.kind.Kind.{Kind}
use Rattle.scc_bits_kinds.specs.Kinds.{width_of}
use Rattle.scc_bits.specs.Value.{Number}
use Rattle.scc_core.specs.declared.expr.CoreBase.{CoreBase}
use Rattle.scc_core.specs.declared.expr.CoreBase.TheOpen.{CorePick-F}
use Rattle.scc_core.specs.declared.expr.CoreBase.TheOpen as tree
use Rattle.scc_core.specs.declared.expr.CoreExpr.{CoreExpr}
use Rattle.scc_core.specs.declared.expr.CoreExprNode.{CoreExprNode}
use Rattle.scc_core.specs.declared.expr.CoreLeft.{CoreLeft}
use Rattle.scc_core.specs.declared.expr.CorePart.{CorePart}
use Rattle.scc_core.specs.declared.expr.CorePick.{CorePick, out-CorePick}
use Rattle.scc_core.specs.declared.program.Cell.{Cell}
use Rattle.scc_core.specs.Known.{facts_in}
use Rattle.scc_core.specs.Numbers.{small}
use Rattle.scc_core.specs.Statics.{value_in}
use Rattle.scc_lower_tree_laws.specs.Assigning.{Assigning, Takes}
use Rattle.scc_lower_tree_laws.specs.Finding.{Found, IsFoundAt}
use Rattle.scc_lower_tree_laws.specs.States.{Given, Seen, State}
use Rattle.scc_lower_tree_laws.proofs.Assigning.{assigning-past, takes-bit, takes-range, takes-whole}
use Rattle.scc_svtree.specs.Code.{End}
use Rattle.scc_lower.specs.declared.assign.Taken.{Taken}
use Rattle.scc_lower.specs.declared.assign.Taken.TheVariants.{Open, Past, These}
use Rattle.scc_lower_expressions.specs.declared.select.Bits.{Bits}
use Rattle.scc_lower.specs.Taking.{ArePicked, IsBitTaken, IsNumberTaken, IsTaken}
use denote.Ref.{Bor}

abbrev Layer : Type 0
Layer = CorePick-F CoreBase CoreExprNode CorePart CorePick CoreExpr CoreLeft

same-number : (m n : ℕ) → ◌≡◌ {A = Option ℕ} (Some m) (Some n) → m ≡ n
same-number m n e = cc

-- ---- what a number tells

pub told-past : (v : Number) (i all : ℕ) → small v ≡ Some i → all ≤ i → (n : ℕ) → small v ≡ Some n → all ≤ n
told-past v i all is past n e = let same : i ≡ n = same-number i n (sym is ∙ e) in omega (arith, past, same)

pub untold-past : (v : Number) (all : ℕ) → small v ≡ None → (n : ℕ) → small v ≡ Some n → all ≤ n
untold-past v all is n e = absurd (cc)

pub bit-told : (g : Given) (i : CoreExpr) (all : ℕ) (v : Number) (t : Taken) → value_in (facts_in g.known) i ≡ Some v → IsNumberTaken v all t → IsBitTaken g i all t
bit-told g i all v (These b) is h = (v, is, h)
bit-told g i all v (Open e) is h = absurd h
bit-told g i all v Past is h = (v, is, h)

-- ---- what a pick takes

pub range-taken : (g : Given) (q : CorePick) (all : ℕ) (j : Kind) (h l : ℕ) → out-CorePick q ≡ tree.Range j h l → ArePicked g (out-CorePick q) all (These (record { h = h; l = l }))
range-taken g q all j h l is = let P : Layer → Type 0 = λ y. ArePicked g y all (These (record { h = h; l = l })) in subst P (sym is) (refl, refl)

pub index-taken : (g : Given) (q : CorePick) (all : ℕ) (j : Kind) (i : CoreExpr) (t : Taken) → out-CorePick q ≡ tree.Bit j i → IsBitTaken g i all t → ArePicked g (out-CorePick q) all t
index-taken g q all j i t is h = let P : Layer → Type 0 = λ y. ArePicked g y all t in subst P (sym is) h

pub whole-taken : (g : Given) (o : Option CorePick) (all : ℕ) (b : Bits) → o ≡ None → b.h + 1 ≡ all → b.l ≡ 0 → IsTaken g o all (These b)
whole-taken g o all b is high low = let P : Option CorePick → Type 0 = λ y. IsTaken g y all (These b) in subst P (sym is) (high, low)

pub some-taken : (g : Given) (o : Option CorePick) (q : CorePick) (all : ℕ) (t : Taken) → o ≡ Some q → ArePicked g (out-CorePick q) all t → IsTaken g o all t
some-taken g o q all t is h = let P : Option CorePick → Type 0 = λ y. IsTaken g y all t in subst P (sym is) h

-- ---- what it means for the assignment

module _ (g : Given) (l : CoreLeft) (e : CoreExpr) (f : Found) (cell : Cell) (all : ℕ) (found : IsFoundAt g l f) (stands : slice_get g.cells f.first ≡ Some cell) (wide : all ≡ width_of cell.kind) where
  pub takes-these : (views : List Seen) (b : Bits) → IsTaken g l.pick all (These b) → Takes g l e views b.h b.l
  takes-these views b t = by l.pick refl t
    where
      in-layer : (q : CorePick) → l.pick ≡ Some q → (y : Layer) → out-CorePick q ≡ y → ArePicked g y all (These b) → Takes g l e views b.h b.l
      in-layer q is (tree.Bit j i) at h =
          let P : ℕ → Type 0 = λ n. Takes g l e views b.h n in
          let R : ℕ → Type 0 = λ n. b.h < n in
          subst P (sym h.2.1) (takes-bit g l e views f q j i h.0 b.h cell found stands is at h.1 h.2.0 (subst R wide h.2.2))
      in-layer q is (tree.Range j hi lo) at h =
          let P : ℕ → Type 0 = λ n. Takes g l e views n b.l in
          let Q : ℕ → Type 0 = λ n. Takes g l e views hi n in
          subst P (sym h.0) (subst Q (sym h.1) (takes-range g l e views q j hi lo is at))

      by : (o : Option CorePick) → l.pick ≡ o → IsTaken g o all (These b) → Takes g l e views b.h b.l
      by None is h = takes-whole g l e views f b.h b.l cell found stands is (h.0 ∙ wide) h.1
      by (Some q) is h = in-layer q is (out-CorePick q) refl h

  pub past-these : (a : State) → IsTaken g l.pick all Past → Assigning g l e a End a
  past-these a t = by l.pick refl t
    where
      in-layer : (q : CorePick) → l.pick ≡ Some q → (y : Layer) → out-CorePick q ≡ y → ArePicked g y all Past → Assigning g l e a End a
      in-layer q is (tree.Bit j i) at h = assigning-past g l e f a q j i h.0 cell is at h.1 found stands (λ n told. (let P : ℕ → Type 0 = λ m. m ≤ n in subst P wide (h.2 n told)))
      in-layer q is (tree.Range j hi lo) at h = absurd h

      by : (o : Option CorePick) → l.pick ≡ o → IsTaken g o all Past → Assigning g l e a End a
      by None is h = absurd h
      by (Some q) is h = in-layer q is (out-CorePick q) refl h

-- the pick of an index that isn't known
pub record OpenPick (l : CoreLeft) (i : CoreExpr) : Type 0 where
  pub pick : CorePick
  pub kind : Kind
  pub is : l.pick ≡ Some pick
  pub at : out-CorePick pick ≡ tree.Bit kind i

pub open-pick : (g : Given) (l : CoreLeft) (all : ℕ) (i : Bor CoreExpr) → IsTaken g l.pick all (Open i) → OpenPick l i.now
open-pick g l all i t = by l.pick refl t
  where
    in-layer : (q : CorePick) → l.pick ≡ Some q → (y : Layer) → out-CorePick q ≡ y → ArePicked g y all (Open i) → OpenPick l i.now
    in-layer q is (tree.Bit j x) at h = record { pick = q; kind = j; is = is; at = at ∙ ap (tree.Bit j) (sym h) }
    in-layer q is (tree.Range j hi lo) at h = absurd h

    by : (o : Option CorePick) → l.pick ≡ o → IsTaken g o all (Open i) → OpenPick l i.now
    by None is h = absurd h
    by (Some q) is h = in-layer q is (out-CorePick q) refl h
