-- Assignments become code that does what they do.
use Rattle.std.proofs.Common.{◌≡◌, ◌⊎◌, inl, inr, ℕ, zero, suc, ◌+◌, ◌-◌, ◌*◌, ◌<◌, ◌≤◌, ◌^◌, min, nat_eq, nat_lt, Bool, true, false, if◌then◌else◌, List, [], ◌∷◌, ◌++◌, length, Option, Some, None, slice_get, refl, sym, ◌∙◌, ap, subst, arith}
use Rattle.std.specs.Prelude.{option_map, option_and_then}
use Rattle.scc_base.specs.declared.refusal.Place.{Place}
use Rattle.scc_bits_kinds.specs.declared.kind.Kind.{Kind}
use Rattle.scc_bits_kinds.specs.Bits.{replaced}
use Rattle.scc_bits_kinds.specs.Kinds.{width_of}
use Rattle.scc_bits.specs.Value.{Number}
use Rattle.scc_core.specs.declared.expr.CoreBase.{CoreBase}
use Rattle.scc_core.specs.declared.expr.CoreBase.TheOpen.{CorePick-F}
use Rattle.scc_core.specs.declared.expr.CoreBase.TheOpen as tree
use Rattle.scc_core.specs.declared.expr.CoreExpr.{CoreExpr}
use Rattle.scc_core.specs.declared.expr.CoreExprNode.{CoreExprNode}
use Rattle.scc_core.specs.declared.expr.CoreLeft.{CoreLeft, fold-roll-CoreLeft}
use Rattle.scc_core.specs.declared.expr.CorePart.{CorePart}
use Rattle.scc_core.specs.declared.expr.CorePick.{CorePick, out-CorePick, map-CorePick, fold_out-CorePick}
use Rattle.scc_core.specs.declared.named.Named.{Named}
use Rattle.scc_core.specs.declared.program.Cell.{Cell as Held}
use Rattle.scc_core.specs.Known.{facts_in}
use Rattle.scc_core.specs.Located.{named_in}
use Rattle.scc_core.specs.Numbers.{small}
use Rattle.scc_core.specs.Statics.{value_in}
use Rattle.scc_core_spec.specs.Program.{is_root}
use Rattle.scc_core_spec.specs.Term.{Term, Left, Pick, Whole, OneBit, Bits, kind_of}
use Rattle.scc_core_spec.specs.Uses.{has_sort, width_at}
use Rattle.scc_core_view.specs.Terms as to
use Rattle.scc_core_view.specs.Terms.{term_of}
use Rattle.scc_svtree.specs.declared.expr.SvLeft.{SvLeft}
use Rattle.scc_svtree.specs.Code.{Code, Assign, End}
use Rattle.scc_svtree.specs.Term as emitted
use Rattle.scc_semantics.specs.Scene.{index_of, with_bit}
use Rattle.scc_blocks_spec.specs.Acting.{Acting, cell_named, picked, put_in, steps_in, with_asked, with_word, word_in}
use Rattle.scc_blocks_spec.specs.Lowered.{Fits}
use Rattle.scc_blocks_spec.specs.Shown.{Shows, Sight}
use Rattle.scc_blocks_spec.specs.Shown as shown
use Rattle.scc_lower_spec.specs.Selected.{part_left}
use Rattle.scc_lower_laws.specs.Elements.{Dimension, KnowsIndex, Slot, cell_in}
use Rattle.scc_lower_laws.specs.Outcome.{Outcome, text_of}
use Rattle.scc_lower_laws.specs.Puts.{Assigns, IsPut, IsPutBit, IsWritten, IsWrittenBy, PicksBits, Puts, PutsEach, bit_code, bit_value, case_code, written_variable}
use Rattle.scc_lower_laws.specs.Sequence.{then_code, whole}
use Rattle.scc_lower_laws.proofs.Bits.{put-bit}
use Rattle.scc_lower_laws.proofs.Cells.{part-all}
use Rattle.scc_lower_laws.proofs.Indices.{index-extended, index-behind}
use Rattle.scc_lower_laws.proofs.Leaves.{put-whole, put-part, picks-range, picks-bit}
use Rattle.scc_lower_laws.proofs.Frames.{makes-then}
use Rattle.scc_lower_laws.proofs.Options.{map_is, then_is}
use Rattle.scc_lower_laws.proofs.Rules.{behind}
use Rattle.scc_lower_laws.proofs.Spread.{put-case, put-nothing, put-no-bit, assigns-found, assigns-nowhere, assigns-bit}
use Rattle.scc_lower_tree_laws.specs.Sound.{IsSound}
use Rattle.scc_lower_tree_laws.specs.Assigning.{AreNoRoots, AreWritten, Assigning, At, IsAllowed, IsDelayed, IsMeant, IsPutBits, IsPutPick, IsRightPut, IsTarget, IsTargeted, IsWriteCell, Part, PutsElement, PutsElements, Takes, Wanted, written_by}
use Rattle.scc_lower_tree_laws.specs.Becoming.{Becomes}
use Rattle.scc_lower_tree_laws.specs.Choosing.{AreOpen, Opened, slots_of}
use Rattle.scc_lower_tree_laws.specs.Finding.{AreChosen, Found, IsFoundAt, Indexing, Opening}
use Rattle.scc_lower_tree_laws.specs.Sound.{left_of}
use Rattle.scc_lower_tree_laws.specs.States.{Given, IsPlain, IsView, Seen, Sees, State, Agrees}
use Rattle.scc_lower_tree_laws.specs.States as view
use Rattle.scc_lower_tree_laws.proofs.Expressions.{term_base, term_node, term_part, term_pick}
use Rattle.scc_lower_tree_laws.proofs.Leaving.{none-left, both-left, agrees-before, sees-on}
use Rattle.scc_lower_tree_laws.proofs.Opening.{each-extended, matched}
use Rattle.scc_lower_tree_laws.proofs.Picks.{chosen-sound, index-number, knows-index}
use Rattle.scc_lower_tree_laws.proofs.Trees.{cell-wide}

-- ---- the pick of an assignment

abbrev PickLayer : Type 0
PickLayer = CorePick-F CoreBase CoreExprNode CorePart CorePick CoreExpr CoreLeft

abbrev pick_by : PickLayer → Pick
pick_by (tree.Bit j i) = OneBit (term_of i)
pick_by (tree.Range j h l) = Bits h l

abbrev pick_in : Option CorePick → Pick
pick_in None = Whole
pick_in (Some q) = pick_by (out-CorePick q)

pick-layer : (q : CorePick) → (term_pick q).pick ≡ pick_by (out-CorePick q)
pick-layer q =
    ap (λ z. z.pick) (fold_out-CorePick to.Base to.Node (Left → Left) to.Picking Term to.Taken to.base_node to.expr_node to.part_node to.pick_node to.expr_step to.left_step q)
    ∙ by (out-CorePick q)
  where
    by : (y : PickLayer)
        → (to.pick_node (map-CorePick CoreBase CoreExprNode CorePart CorePick CoreExpr CoreLeft to.Base to.Node (Left → Left) to.Picking Term to.Taken term_base term_node term_part term_pick to.term_of to.taken_of y)).pick ≡ pick_by y
    by (tree.Bit j i) = refl
    by (tree.Range j h l) = refl

pick-left : (l : CoreLeft) → (to.taken_of l).pick ≡ pick_in l.pick
pick-left l = by l.place l.base l.parts l.pick
  where
    by : (place : Place) (base : CoreBase) (parts : List CorePart) (q : Option CorePick) → (to.taken_of (record { place = place; base = base; parts = parts; pick = q })).pick ≡ pick_in q
    by place base parts None =
        ap (λ z. z.pick) (fold-roll-CoreLeft to.Base to.Node (Left → Left) to.Picking Term to.Taken to.base_node to.expr_node to.part_node to.pick_node to.expr_step to.left_step (record { place = place; base = base; parts = parts; pick = None }))
    by place base parts (Some q) =
        ap (λ z. z.pick) (fold-roll-CoreLeft to.Base to.Node (Left → Left) to.Picking Term to.Taken to.base_node to.expr_node to.part_node to.pick_node to.expr_step to.left_step (record { place = place; base = base; parts = parts; pick = Some q }))
        ∙ pick-layer q

-- ---- one cell

same-number : (m n : ℕ) → ◌≡◌ {A = Option ℕ} (Some m) (Some n) → m ≡ n
same-number m n e = cc

variable-written : (v : Seen) (u : shown.View) (c var : ℕ) → IsView v u → written_by v c ≡ Some var → written_variable u c ≡ var
variable-written (view.Constant w) u c var e h = absurd (cc)
variable-written view.Plain u c var e h = by u e
  where
    there : 2 * c ≡ var
    there = (let d : c * 2 + 0 ≡ var = same-number (c * 2 + 0) var h in omega (arith, d))

    by : (u : shown.View) → IsPlain u → written_variable u c ≡ var
    by (shown.Constant w) e = absurd e
    by shown.Read e = there
    by shown.Driven e = there
    by shown.Delayed e = absurd e
    by shown.Plain e = there
    by shown.Next e = absurd e
variable-written view.Next u c var e h =
    let d : c * 2 + 1 ≡ var = same-number (c * 2 + 1) var h in
    let f : 2 * c + 1 ≡ var = omega (arith, d) in
    ap (λ z. written_variable z c) e ∙ f
variable-written view.Delayed u c var e h =
    let d : c * 2 + 1 ≡ var = same-number (c * 2 + 1) var h in
    let f : 2 * c + 1 ≡ var = omega (arith, d) in
    ap (λ z. written_variable z c) e ∙ f

-- a variable of a cell has its width
write-wide : (s : Sight) (width : ℕ → ℕ) (held : List Held) (views : List Seen) (c bits : ℕ) → Sees held views s width → s.mine c ≡ true → width_at s.cells c ≡ bits → width (written_variable (s.view c) c) ≡ bits
write-wide s width held views c bits sees mine e = by (s.view c)
  where
    by : (u : shown.View) → width (written_variable u c) ≡ bits
    by (shown.Constant w) = sees.present c mine ∙ e
    by shown.Read = sees.present c mine ∙ e
    by shown.Driven = sees.present c mine ∙ e
    by shown.Delayed = sees.next c mine ∙ e
    by shown.Plain = sees.present c mine ∙ e
    by shown.Next = sees.next c mine ∙ e

written : (s : Sight) (width : ℕ → ℕ) (held : List Held) (views : List Seen) (c bits : ℕ) → Sees held views s width → IsWriteCell s bits c → IsWritten s width bits c
written s width held views c bits sees r = record { is_named = r.is_named; is_held = r.is_held; is_written = r.is_written; is_wide = r.is_wide; variable = write-wide s width held views c bits sees r.is_named r.is_wide }

-- a root alone is written so that it is read as another variable
not-delayed : (v : Seen) (u : shown.View) (root : Bool) → IsView v u → IsWrittenBy u root → root ≡ false → IsDelayed v → ⊥
not-delayed (view.Constant w) u root e h f d = d
not-delayed view.Plain u root e h f d = d
not-delayed view.Next u root e h f d = d
not-delayed view.Delayed u root e h f d = (let P : shown.View → Type 0 = λ z. IsWrittenBy z root in let t : root ≡ true = subst P e h in absurd (cc))

module _ (g : Given) (views : List Seen) where
  -- the variable that the code writes
  record Written (s : Sight) (width : ℕ → ℕ) (bits c var : ℕ) (cell : Held) (v : Seen) : Type 0 where
    is : IsWritten s width bits c
    variable : written_variable (s.view c) c ≡ var
    wide : width_of cell.kind ≡ bits
    seen : IsView v (s.view c)

  written-here : (s : Sight) (width : ℕ → ℕ) (bits c var : ℕ) (cell : Held) (v : Seen) → Sees g.cells views s width → IsWriteCell s bits c → slice_get g.cells c ≡ Some cell → slice_get views c ≡ Some v → written_by v c ≡ Some var → Written s width bits c var cell v
  written-here s width bits c var cell v sees r e f h =
      let seen = sees.views c v r.is_named f in record {
        is = written s width g.cells views c bits sees r;
        variable = variable-written v (s.view c) c var seen h;
        wide = sym (cell-wide g.cells views s width c cell sees e) ∙ r.is_wide;
        seen = seen;
      }

  pub puts-part : (c var : ℕ) (cell : Held) (v : Seen) (h l : ℕ) (k : Pick) (e : Term) (t : emitted.Term) → slice_get g.cells c ≡ Some cell → slice_get views c ≡ Some v → written_by v c ≡ Some var
      → PutsElement g views [] c (Part h l k e t) (Assign (part_left (record { 0 = var }) (width_of cell.kind) h l) t End)
  puts-part c var cell v h l k e t is seen to s width m bits (d ∷ ds) sees opened all allowed = absurd opened
  puts-part c var cell v h l k e t is seen to s width m bits [] sees opened all allowed = by allowed.3
    where
      by : ((k ≡ Whole) × (h + 1 ≡ bits) × (l ≡ 0)) ⊎ (AreNoRoots s c [] × PicksBits s k bits h l) → Puts s width m (IsPut s width k e t) [] [] c (Assign (part_left (record { 0 = var }) (width_of cell.kind) h l) t End)
      by (inl p) =
          let w = written-here s width bits c var cell v sees (all [] c refl) is seen to in
          let wide : width_of (kind_of e) ≡ bits = omega (arith, allowed.2, p.1, p.2) in
          let top : bits - 1 ≡ h = omega (arith, p.1) in
          let q = put-whole s width sees.number m bits c e t w.is wide in
          let Q : SvLeft → Type 0 = λ z. Puts s width m (IsPut s width Whole e t) [] [] c (Assign z t End) in
          let r = subst Q (ap whole w.variable ∙ sym (part-all (record { 0 = var }) bits)) q in
          let R : ℕ → Type 0 = λ z. Puts s width m (IsPut s width Whole e t) [] [] c (Assign (part_left (record { 0 = var }) z h l) t End) in
          let S : ℕ → ℕ → Type 0 = λ y z. Puts s width m (IsPut s width Whole e t) [] [] c (Assign (part_left (record { 0 = var }) bits y z) t End) in
          let T : Pick → Type 0 = λ z. Puts s width m (IsPut s width z e t) [] [] c (Assign (part_left (record { 0 = var }) (width_of cell.kind) h l) t End) in
          let a = subst (λ z. S z 0) top r in
          let b = subst (λ z. S h z) (sym p.2) a in
          subst T (sym p.0) (subst R (sym w.wide) b)
      by (inr p) =
          let w = written-here s width bits c var cell v sees (all [] c refl) is seen to in
          let some : 1 ≤ bits = omega (arith, allowed.1) in
          let q = put-part s width sees.number m bits c h l k e t w.is (p.0 [] c refl) some allowed.0 allowed.1 allowed.2 p.1 in
          let Q : ℕ → Type 0 = λ z. Puts s width m (IsPut s width k e t) [] [] c (Assign (part_left (record { 0 = z }) bits h l) t End) in
          let R : ℕ → Type 0 = λ z. Puts s width m (IsPut s width k e t) [] [] c (Assign (part_left (record { 0 = var }) z h l) t End) in
          subst R (sym w.wide) (subst Q w.variable q)

  pub puts-bit : (c var : ℕ) (cell : Held) (v : Seen) (i : Term) (u : Slot) (t : emitted.Term) (code : Code) → slice_get g.cells c ≡ Some cell → slice_get views c ≡ Some v → written_by v c ≡ Some var
      → ((IsDelayed v → ⊥) → code ≡ bit_code (width_of cell.kind) var u t) → PutsElement g views [] c (At i u t) code
  puts-bit c var cell v i u t code is seen to same s width m bits (d ∷ ds) sees opened all allowed = absurd opened
  puts-bit c var cell v i u t code is seen to same s width m bits [] sees opened all allowed =
      let r = all [] c refl in
      let w = written-here s width bits c var cell v sees r is seen to in
      let root = allowed.0 [] c refl in
      let q = put-bit s width m bits c i u t sees.number w.is root allowed.1 allowed.2 in
      let P : Code → Type 0 = λ z. Puts s width m (IsPutBit s width bits i u t) [] [] c z in
      subst P (ap (λ z. bit_code bits z u t) w.variable ∙ ap (λ z. bit_code z var u t) (sym w.wide) ∙ sym (same (not-delayed v (s.view c) (has_sort is_root s.cells c) w.seen r.is_written root))) q

  -- ---- elements in arms

  none-put : (s : Sight) (width : ℕ → ℕ) (bits : ℕ) (z : Wanted) (a b : Acting) (x : ℕ → ℕ) → IsMeant s width bits z a x None b → b ≡ a
  none-put s width bits (Part h l k e t) a b x p = put-nothing s width k e t a b x p
  none-put s width bits (At i u t) a b x p = put-no-bit s width bits i u t a b x p

  inner-allowed : (s : Sight) (bits first low : ℕ) (d : Dimension) (ds : List Dimension) (z : Wanted) → nat_lt low d.size ≡ true → IsAllowed s bits first (d ∷ ds) z → IsAllowed s bits (first + low * d.stride) ds z
  inner-allowed s bits first low d ds (Part h l k e t) inside p = (p.0, p.1, p.2, by p.3)
    where
      by : ((k ≡ Whole) × (h + 1 ≡ bits) × (l ≡ 0)) ⊎ (AreNoRoots s first (d ∷ ds) × PicksBits s k bits h l) → ((k ≡ Whole) × (h + 1 ≡ bits) × (l ≡ 0)) ⊎ (AreNoRoots s (first + low * d.stride) ds × PicksBits s k bits h l)
      by (inl q) = inl q
      by (inr q) = inr ((λ is c r. q.0 (low ∷ is) c (ap (λ b. if b then cell_in (first + low * d.stride) ds is else None) inside ∙ r)), q.1)
  inner-allowed s bits first low d ds (At i u t) inside p = ((λ is c r. p.0 (low ∷ is) c (ap (λ b. if b then cell_in (first + low * d.stride) ds is else None) inside ∙ r)), p.1, p.2)

  puts-each : (o : Opened) (os : List Opened) (first low : ℕ) (z : Wanted) (cs : List Code) → PutsElements g views o os first low z cs
      → (s : Sight) (width : ℕ → ℕ) (m bits : ℕ) (d : Dimension) (ds : List Dimension) → Sees g.cells views s width → AreOpen (d ∷ ds) (o ∷ os) → AreWritten s bits first (d ∷ ds) → IsAllowed s bits first (d ∷ ds) z → low + length cs ≤ d.size
      → PutsEach s width m (IsMeant s width bits z) (slots_of os) d ds first low cs
  puts-each o os first low z [] h s width m bits d ds sees opened all allowed few = tt
  puts-each o os first low z (c ∷ cs) h s width m bits d ds sees opened all allowed few =
      let inside : nat_lt low d.size ≡ true = (let q : low < d.size = omega (arith, few) in grind (arith, q)) in
      let here : AreWritten s bits (first + low * d.stride) ds = λ is c r. all (low ∷ is) c (ap (λ b. if b then cell_in (first + low * d.stride) ds is else None) inside ∙ r) in
      let P : ℕ → Type 0 = λ n. PutsElement g views os n z c in
      let stands : first + low * o.stride ≡ first + low * d.stride = ap (λ n. first + low * n) (sym opened.1) in (
        subst P stands h.0 s width m bits ds sees opened.2 here (inner-allowed s bits first low d ds z inside allowed),
        puts-each o os first (suc low) z cs h.1 s width m bits d ds sees opened all allowed (omega (arith, few)),
      )

  pub puts-case : (o : Opened) (os : List Opened) (first : ℕ) (z : Wanted) (cs : List Code) → length cs ≡ min o.size (2 ^ o.slot.width) → PutsElements g views o os first 0 z cs → PutsElement g views (o ∷ os) first z (case_code o.slot cs)
  puts-case o os first z cs many h s width m bits [] sees opened all allowed = absurd opened
  puts-case o os first z cs many h s width m bits (d ∷ ds) sees opened all allowed =
      let there : length cs ≡ min d.size (2 ^ o.slot.width) = many ∙ ap (λ n. min n (2 ^ o.slot.width)) (sym opened.0) in
      let few : 0 + length cs ≤ d.size = omega (arith, there) in
      put-case s width m (IsMeant s width bits z) o.slot (slots_of os) d ds first cs (none-put s width bits z) there
      (puts-each o os first 0 z cs h s width m bits d ds sees opened all allowed few)

  pub puts-more : (o : Opened) (os : List Opened) (first low : ℕ) (z : Wanted) (cs : List Code) (c : Code) → PutsElements g views o os first low z cs → PutsElement g views os (first + (low + length cs) * o.stride) z c → PutsElements g views o os first low z (cs ++ c ∷ [])
  puts-more o os first low z [] c h k = let P : ℕ → Type 0 = λ n. PutsElement g views os (first + n * o.stride) z c in (subst P (omega arith) k, tt)
  puts-more o os first low z (x ∷ cs) c h k =
      let P : ℕ → Type 0 = λ n. PutsElement g views os (first + n * o.stride) z c in
      let same : low + suc (length cs) ≡ suc low + length cs = omega arith in
      (h.0, puts-more o os first (suc low) z cs c h.1 (subst P same k))

-- ---- assignments

-- a cell takes the word that it has
same-word : (a : Acting) (c : ℕ) → with_word c (a.now c) a ≡ a
same-word a c = λ i. record { now = λ d. by d (nat_eq c d) refl i; asked = a.asked }
  where
    by : (d : ℕ) (q : Bool) → nat_eq c d ≡ q → (if q then a.now c else a.now d) ≡ a.now d
    by d true e = let same : c ≡ d = grind (arith, e) in ap a.now same
    by d false e = refl

module _ (g : Given) (l : CoreLeft) (e : CoreExpr) where
  abbrev kept : Pick
  kept = (to.taken_of l).pick

  target-of : (s : Sight) (bits : ℕ) (f : Found) → (h : IsFoundAt g l f) → IsTargeted s bits l (named_in g.known l) → IsTarget s bits l h.named
  target-of s bits f h p = let P : Option Named → Type 0 = λ o. IsTargeted s bits l o in subst P h.is p

  -- the width of what is found is that of its first cell
  target-wide : (s : Sight) (width : ℕ → ℕ) (views : List Seen) (bits : ℕ) (f : Found) (cell : Held) → (h : IsFoundAt g l f) → Sees g.cells views s width → IsTargeted s bits l (named_in g.known l) → slice_get g.cells f.first ≡ Some cell → width_of cell.kind ≡ bits
  target-wide s width views bits f cell h sees p is = sym (cell-wide g.cells views s width f.first cell sees is) ∙ ap (λ n. width_at s.cells n) h.first ∙ (target-of s bits f h p).first

  pub assigning-nowhere : (a : State) → named_in g.known l ≡ None → Assigning g l e a End a
  assigning-nowhere a n = record {
    leaves = none-left a;
    assigns = λ s width sees agrees right. (let P : Option Named → Type 0 = λ o. IsTargeted s right.bits l o in assigns-nowhere s width (length a.temporaries) (left_of l) kept (term_of e) (subst P n right.placed));
  }

  pub assigning-part : (f : Found) (os : List Opened) (a b c : State) (hi lo : ℕ) (o : Outcome) (code : Code) → IsFoundAt g l f → Opening g f.dims a os b → Becomes g e b o c → Takes g l e a.views hi lo
      → PutsElement g c.views os f.first (Part hi lo kept (term_of e) (text_of o)) code → Assigning g l e a code c
  assigning-part f os a b c hi lo o code h op k takes put = record {
    leaves = both-left a b c op.leaves k.leaves;
    assigns = λ s width sees agrees right. (
        let target = target-of s right.bits f h right.placed in
        let n = length a.temporaries in
        let m = length b.temporaries in
        let p = length c.temporaries in
        let sees-b = sees-on g.cells s width a b op.leaves sees in
        let sees-c = sees-on g.cells s width b c k.leaves sees-b in
        let y = op.opens s width sees (agrees-before s width b c k.leaves agrees) (chosen-sound g s l h.named.dims f.dims h.dims right.indices) in
        let x = k.lowers s width sees-b agrees right.value in
        let front = then_code op.leaves.front k.leaves.front in
        let each = each-extended s width n m p f.dims op.leaves.front k.leaves.front os y.all x.grows x.makes in
        let r = matched s width n p l.parts h.named.dims target.dimensions f.dims os front target.are h.dims op.sizes each in
        let value = behind s width n m p (term_of e) op.leaves.front k.leaves.front o sees.number y.grows y.makes x in
        let P : ℕ → Type 0 = λ z. PutsElement g c.views os z (Part hi lo kept (term_of e) (text_of o)) code in
        let t = takes s width sees right in
        assigns-found s width n p (left_of l) kept (term_of e) front code o h.named.base target.dimensions (slots_of os) sees.number target.found r.indices value
        (subst P h.first put s width p right.bits target.dimensions sees-c r.open_ target.cells (t.0, t.1, t.2, by s right.bits h.named.base target.dimensions hi lo t.3 target.parts)));
  }
    where
      by : (s : Sight) (bits first : ℕ) (ds : List Dimension) (hi lo : ℕ) → ((l.pick ≡ None) × (hi + 1 ≡ bits) × (lo ≡ 0)) ⊎ ((l.pick ≡ None → ⊥) × PicksBits s kept bits hi lo) → (l.pick ≡ None) ⊎ AreNoRoots s first ds
          → ((kept ≡ Whole) × (hi + 1 ≡ bits) × (lo ≡ 0)) ⊎ (AreNoRoots s first ds × PicksBits s kept bits hi lo)
      by s bits first ds hi lo (inl q) parts = inl (pick-left l ∙ ap pick_in q.0, q.1, q.2)
      by s bits first ds hi lo (inr q) (inl none) = absurd (q.0 none)
      by s bits first ds hi lo (inr q) (inr roots) = inr (roots, q.1)

  -- all bits, those of a range, and that of a known number
  picked-rule : (s : Sight) (r : IsRightPut g s l e) (o : Option CorePick) → l.pick ≡ o → IsPutPick g s r.bits (term_of e) o
  picked-rule s r o is = let P : Option CorePick → Type 0 = λ z. IsPutPick g s r.bits (term_of e) z in subst P is r.picked

  bits-rule : (s : Sight) (r : IsRightPut g s l e) (q : CorePick) (y : PickLayer) → l.pick ≡ Some q → out-CorePick q ≡ y → IsPutBits g s r.bits (term_of e) y
  bits-rule s r q y is at = let P : PickLayer → Type 0 = λ z. IsPutBits g s r.bits (term_of e) z in subst P at (picked-rule s r (Some q) is)

  not-none : (q : CorePick) → l.pick ≡ Some q → l.pick ≡ None → ⊥
  not-none q is none = absurd (cc)

  pub takes-whole : (views : List Seen) (f : Found) (hi lo : ℕ) (cell : Held) → IsFoundAt g l f → slice_get g.cells f.first ≡ Some cell → l.pick ≡ None → hi + 1 ≡ width_of cell.kind → lo ≡ 0 → Takes g l e views hi lo
  takes-whole views f hi lo cell h get none high low s width sees r =
      let same = target-wide s width views r.bits f cell h sees r.placed get in
      let wide : width_of (kind_of (term_of e)) ≡ r.bits = picked-rule s r None none in
      (omega (arith, low), omega (arith, high, same), omega (arith, high, low, same, wide), inl (none, high ∙ same, low))

  pub takes-range : (views : List Seen) (q : CorePick) (j : Kind) (hi lo : ℕ) → l.pick ≡ Some q → out-CorePick q ≡ tree.Range j hi lo → Takes g l e views hi lo
  takes-range views q j hi lo is at s width sees r =
      let rule : IsPutBits g s r.bits (term_of e) (tree.Range j hi lo) = bits-rule s r q (tree.Range j hi lo) is at in
      let P : Pick → Type 0 = λ z. PicksBits s z r.bits hi lo in
      (rule.1, rule.2, rule.0, inr (not-none q is, subst P (sym (pick-left l ∙ ap pick_in is ∙ ap pick_by at)) (picks-range s r.bits hi lo)))

  -- a known index is that number
  known-index : (s : Sight) (i : CoreExpr) (v : Number) (n : ℕ) → value_in (facts_in g.known) i ≡ Some v → IsSound g s i → small v ≡ Some n → KnowsIndex s (term_of i) n
  known-index s i v n value sound is = by (index-number g s i v value sound)
    where
      by : ((m : ℕ) × (small v ≡ Some m) × (index_of v.kind v.word ≡ m)) ⊎ ((small v ≡ None) × (4294967296 ≤ index_of v.kind v.word)) → KnowsIndex s (term_of i) n
      by (inl told) = knows-index g s i v n value sound (told.2 ∙ sym (same-number n told.0 (sym is ∙ told.1)))
      by (inr told) = absurd (cc)

  pub takes-bit : (views : List Seen) (f : Found) (q : CorePick) (j : Kind) (i : CoreExpr) (v : Number) (n : ℕ) (cell : Held) → IsFoundAt g l f → slice_get g.cells f.first ≡ Some cell → l.pick ≡ Some q → out-CorePick q ≡ tree.Bit j i
      → value_in (facts_in g.known) i ≡ Some v → small v ≡ Some n → n < width_of cell.kind → Takes g l e views n n
  takes-bit views f q j i v n cell h get is at value number below s width sees r =
      let rule : IsPutBits g s r.bits (term_of e) (tree.Bit j i) = bits-rule s r q (tree.Bit j i) is at in
      let same = target-wide s width views r.bits f cell h sees r.placed get in
      let top : n < r.bits = omega (arith, below, same) in
      let P : Pick → Type 0 = λ z. PicksBits s z r.bits n n in
      let one : n - n + 1 ≡ 1 = omega arith in
      (omega arith, top, rule.0 ∙ sym one, inr (not-none q is, subst P (sym (pick-left l ∙ ap pick_in is ∙ ap pick_by at)) (picks-bit s r.bits n (term_of i) (known-index s i v n value rule.2 number) top)))

  -- ---- a bit under an index in a variable

  pub assigning-bit : (f : Found) (os : List Opened) (a b c d : State) (q : CorePick) (j : Kind) (i : CoreExpr) (u : Slot) (o : Outcome) (cell : Held) (code : Code) → l.pick ≡ Some q → out-CorePick q ≡ tree.Bit j i → IsFoundAt g l f → slice_get g.cells f.first ≡ Some cell
      → Opening g f.dims a os b → Indexing g i b u c → Becomes g e c o d → PutsElement g d.views os f.first (At (term_of i) u (bit_value (width_of cell.kind) o)) code → Assigning g l e a code d
  assigning-bit f os a b c d q j i u o cell code is at h get op ix k put = record {
    leaves = both-left a b d op.leaves (both-left b c d ix.leaves k.leaves);
    assigns = λ s width sees agrees right. (
        let rule : IsPutBits g s right.bits (term_of e) (tree.Bit j i) = bits-rule s right q (tree.Bit j i) is at in
        let target = target-of s right.bits f h right.placed in
        let n0 = length a.temporaries in
        let n1 = length b.temporaries in
        let n2 = length c.temporaries in
        let n3 = length d.temporaries in
        let tail = both-left b c d ix.leaves k.leaves in
        let sees-b = sees-on g.cells s width a b op.leaves sees in
        let sees-c = sees-on g.cells s width b c ix.leaves sees-b in
        let sees-d = sees-on g.cells s width c d k.leaves sees-c in
        let agrees-c = agrees-before s width c d k.leaves agrees in
        let y = op.opens s width sees (agrees-before s width b d tail agrees) (chosen-sound g s l h.named.dims f.dims h.dims right.indices) in
        let z = ix.indexes s width sees-b agrees-c rule.2 in
        let x = k.lowers s width sees-c agrees right.value in
        let front1 = op.leaves.front in
        let front2 = ix.leaves.front in
        let front3 = k.leaves.front in
        let rest = then_code front2 front3 in
        let more : n1 ≤ n3 = omega (arith, z.grows, x.grows) in
        let making = makes-then s n1 n2 n3 front2 front3 z.grows x.grows z.makes x.makes in
        let each = each-extended s width n0 n1 n3 f.dims front1 rest os y.all more making in
        let front = then_code front1 rest in
        let r = matched s width n0 n3 l.parts h.named.dims target.dimensions f.dims os front target.are h.dims op.sizes each in
        let index = index-behind s width n0 n1 n3 (term_of i) front1 rest u sees.number y.grows y.makes (index-extended s width n1 n2 n3 (term_of i) front2 front3 u z x.grows x.makes) in
        let value = behind s width n0 n1 n3 (term_of e) front1 rest o sees.number y.grows y.makes (behind s width n1 n2 n3 (term_of e) front2 front3 o sees.number z.grows z.makes x) in
        let same = target-wide s width a.views right.bits f cell h sees right.placed get in
        let P : ℕ → Type 0 = λ v. PutsElement g d.views os v (At (term_of i) u (bit_value (width_of cell.kind) o)) code in
        let Q : ℕ → Type 0 = λ v. PutsElement g d.views os h.named.base (At (term_of i) u (bit_value v o)) code in
        let R : Pick → Type 0 = λ v. Assigns s width n3 (left_of l) v (term_of e) (then_code front code) in
        subst R (sym (pick-left l ∙ ap pick_in is ∙ ap pick_by at))
        (assigns-bit s width n0 n3 right.bits (left_of l) (term_of i) (term_of e) front code o u h.named.base target.dimensions (slots_of os) sees.number right.some rule.0 target.found r.indices index value
        (subst Q same (subst P h.first put) s width n3 right.bits target.dimensions sees-d r.open_ target.cells (roots s h.named.base target.dimensions target.parts, right.few, rule.1))));
  }
    where
      roots : (s : Sight) (first : ℕ) (ds : List Dimension) → (l.pick ≡ None) ⊎ AreNoRoots s first ds → AreNoRoots s first ds
      roots s first ds (inl none) = absurd (not-none q is none)
      roots s first ds (inr r) = r

  -- ---- a bit past the end

  past-end : (s : Sight) (i : Term) (n : ℕ) (c : Option ℕ) (bits w : ℕ) (a b : Acting) (x : ℕ → ℕ) → KnowsIndex s i n → bits ≤ n → ((d : ℕ) → c ≡ Some d → (has_sort is_root s.cells d ≡ false) × (width_at s.cells d ≡ bits)) → Fits s a → Shows s a x → put_in s.cells a c (OneBit i) w ≡ Some b → b ≡ a
  past-end s i n None bits w a b x knows past cells f v is =
      let r = map_is (option_map (λ j. with_bit 1 0 (index_of (kind_of i) j) w) (word_in s.cells a i)) (λ y. a) b is in
      sym r.2
  past-end s i n (Some d) bits w a b x knows past cells f v is =
      let here = cells d refl in
      let put = ap (λ q. if q then option_map (λ y. with_asked d w a) (picked s.cells a (width_at s.cells d) (OneBit i) 0 w) else option_map (λ y. with_word d y a) (picked s.cells a (width_at s.cells d) (OneBit i) (a.now d) w)) (sym here.0) ∙ is in
      let r = map_is (option_map (λ j. with_bit (width_at s.cells d) (a.now d) (index_of (kind_of i) j) w) (word_in s.cells a i)) (λ y. with_word d y a) b put in
      let t = map_is (word_in s.cells a i) (λ j. with_bit (width_at s.cells d) (a.now d) (index_of (kind_of i) j) w) r.0 r.1 in
      let number : index_of (kind_of i) t.0 ≡ n = knows a x t.0 f v t.1 in
      let outside : nat_lt (index_of (kind_of i) t.0) (width_at s.cells d) ≡ false = grind (arith, number, here.1, past) in
      let stays : a.now d ≡ r.0 = sym (ap (λ q. if q then replaced (index_of (kind_of i) t.0) (index_of (kind_of i) t.0) (a.now d) w else a.now d) outside) ∙ t.2 in
      sym r.2 ∙ ap (λ y. with_word d y a) (sym stays) ∙ same-word a d

  pub assigning-past : (f : Found) (a : State) (q : CorePick) (j : Kind) (i : CoreExpr) (v : Number) (cell : Held) → l.pick ≡ Some q → out-CorePick q ≡ tree.Bit j i → value_in (facts_in g.known) i ≡ Some v → IsFoundAt g l f → slice_get g.cells f.first ≡ Some cell
      → ((n : ℕ) → small v ≡ Some n → width_of cell.kind ≤ n) → Assigning g l e a End a
  assigning-past f a q j i v cell is at value h get past = record {
    leaves = none-left a;
    assigns = λ s width sees agrees right. (
        let rule : IsPutBits g s right.bits (term_of e) (tree.Bit j i) = bits-rule s right q (tree.Bit j i) is at in
        let target = target-of s right.bits f h right.placed in
        let same = target-wide s width a.views right.bits f cell h sees right.placed get in
        let knows = far s right.bits same right.few rule.2 (index-number g s i v value rule.2) in
        let R : Pick → Type 0 = λ z. Assigns s width (length a.temporaries) (left_of l) z (term_of e) End in
        subst R (sym (pick-left l ∙ ap pick_in is ∙ ap pick_by at)) (record {
          does = λ x y v fits shows put. (
              let m = then_is (word_in s.cells x (term_of e)) (λ w. option_and_then (λ z. put_in s.cells x (cell_named s.cells (Some z)) (OneBit (term_of i)) w) (steps_in s.cells x (left_of l))) y put in
              let n = then_is (steps_in s.cells x (left_of l)) (λ z. put_in s.cells x (cell_named s.cells (Some z)) (OneBit (term_of i)) m.0) y m.2 in
              let place = target.found x v fits shows (cell_named s.cells (Some n.0)) n.0 n.1 refl in
              let stays = past-end s (term_of i) knows.0 (cell_named s.cells (Some n.0)) right.bits m.0 x y v knows.1 knows.2 (λ d there. (no-root s h.named.base target.dimensions target.parts place.0 d (sym place.2 ∙ there), (target.cells place.0 d (sym place.2 ∙ there)).is_wide)) fits shows n.2 in
              let P : Acting → Type 0 = λ z. Fits s z × Shows s z v in
              subst P (sym stays) (fits, shows));
          framed = λ z assigned. absurd (cc);
        }));
  }
    where
      no-root : (s : Sight) (first : ℕ) (ds : List Dimension) → (l.pick ≡ None) ⊎ AreNoRoots s first ds → (ks : List ℕ) (d : ℕ) → cell_in first ds ks ≡ Some d → has_sort is_root s.cells d ≡ false
      no-root s first ds (inl none) ks d there = absurd (not-none q is none)
      no-root s first ds (inr r) ks d there = r ks d there

      far : (s : Sight) (bits : ℕ) → width_of cell.kind ≡ bits → bits ≤ 128 → IsSound g s i → ((m : ℕ) × (small v ≡ Some m) × (index_of v.kind v.word ≡ m)) ⊎ ((small v ≡ None) × (4294967296 ≤ index_of v.kind v.word)) → (n : ℕ) × KnowsIndex s (term_of i) n × (bits ≤ n)
      far s bits same few sound (inl told) = (told.0, knows-index g s i v told.0 value sound told.2, (let p = past told.0 told.1 in omega (arith, p, same)))
      far s bits same few sound (inr told) = (index_of v.kind v.word, knows-index g s i v (index_of v.kind v.word) value sound refl, omega (arith, few, told.1))
