-- Assignments to elements, in the arms of a `case` for each dimension, and what they do as statements.
use Rattle.scc_bits_kinds.specs.declared.kind.Kind.{Kind}
use Rattle.scc_bits_kinds.specs.Kinds.{width_of}
use Rattle.scc_semantics.specs.Scene.{index_of, with_bit}
use Rattle.scc_core_spec.specs.Program.{is_root}
use Rattle.scc_core_spec.specs.Uses.{has_sort, width_at}
use Rattle.scc_bits_kinds.proofs.Low.{low_word}
use Rattle.std.proofs.Math.Nat.{pow-le-pow_right}
use Rattle.std.specs.Prelude.{option_map, option_and_then}
use Rattle.std.proofs.Common.{◌≡◌, ◌<◌, ◌≤◌, ◌^◌, ◌*◌, ◌+◌, ℕ, suc, nat_eq, nat_lt, Bool, true, false, cond, min, if◌then◌else◌, List, [], ◌∷◌, length, Option, Some, None, refl, sym, ap, ◌∙◌, subst, arith}
use Rattle.scc_svtree.specs.Code.{Code, End}
use Rattle.scc_svtree.specs.Term as emitted
use Rattle.scc_svtree.specs.Mentions.{assigns, arms_assign}
use Rattle.scc_svtree.specs.Running.{run, run_arms}
use Rattle.scc_svtree.specs.Sizes.{sized, fixed}
use Rattle.scc_core_spec.specs.Named.{Step}
use Rattle.scc_core_spec.specs.Term.{Term, Left, Pick, OneBit, kind_of}
use Rattle.scc_blocks_spec.specs.Acting.{Acting, word_in, steps_in, cell_named, put_in, picked, with_word, with_asked}
use Rattle.scc_blocks_spec.specs.Effect.{assigned}
use Rattle.scc_blocks_spec.specs.Shown.{Sight, Shows}
use Rattle.scc_blocks_spec.specs.Lowered.{Fits}
use Rattle.scc_lower_spec.specs.Gives.{Gives}
use Rattle.scc_lower_spec.proofs.Gives.{gives_own, gives_fixed}
use Rattle.scc_lower_spec.proofs.Converted.{widened_gives}
use Rattle.scc_lower_laws.specs.Sequence.{then_code}
use Rattle.scc_lower_laws.specs.Outcome.{Outcome, Known, Made, HasWord, text_of}
use Rattle.scc_lower_laws.specs.Lowers.{temporary, IsNumbered, Makes, Lowers}
use Rattle.scc_lower_laws.specs.Elements.{Dimension, Slot, variable_of, HoldsIndex, HoldIndices, cell_in, Indexes, IndexAll, IsFound, IsNowhere}
use Rattle.scc_lower_laws.specs.Puts.{AssignsBelow, IsPut, Puts, PutsEach, arms_from, case_code, Assigns, IsPutBit, bit_value}
use Rattle.scc_lower_laws.proofs.Options.{map_is, then_is}
use Rattle.scc_lower_laws.proofs.Sequence.{then-run}
use Rattle.scc_lower_laws.proofs.Frames.{shows-stays, text-gives, either_assigns}
use Rattle.scc_lower_laws.proofs.Rules.{or_by}
use Rattle.scc_lower_laws.proofs.Indices.{held-all}
use Rattle.scc_lower_laws.proofs.Elements.{index-small}

module _ (s : Sight) (width : ℕ → ℕ) (m : ℕ) (H : Acting → (ℕ → ℕ) → Option ℕ → Acting → Type 0) where
  -- the arm of an index is run
  arm-runs : (v : Slot) (vs : List Slot) (d : Dimension) (ds : List Dimension) (first low : ℕ) (cs : List Code) (a b : Acting) (x : ℕ → ℕ) (i : ℕ) (is : List ℕ) → PutsEach s width m H vs d ds first low cs → Fits s a → Shows s a x → HoldIndices width x vs is
      → low ≤ i → i < low + length cs → H a x (cell_in (first + i * d.stride) ds is) b → Fits s b × Shows s b (run_arms width i (arms_from v.width low cs) x)
  arm-runs v vs d ds first low [] a b x i is p f g h o t w = absurd (omega (arith, o, t))
  arm-runs v vs d ds first low (c ∷ cs) a b x i is p f g h o t w = by (nat_eq i low) refl (λ e. arm-runs v vs d ds first (suc low) cs a b x i is p.1 f g h (grind (arith, e, o)) (omega (arith, t)) w)
    where
      by : (q : Bool) → nat_eq i low ≡ q → (nat_eq i low ≡ false → Fits s b × Shows s b (run_arms width i (arms_from v.width (suc low) cs) x)) → Fits s b × Shows s b (cond (nat_eq i low) (run width c x) (run_arms width i (arms_from v.width (suc low) cs) x))
      by true e more =
          let same : i ≡ low = grind (arith, e) in
          let P : ℕ → Type 0 = λ i. H a x (cell_in (first + i * d.stride) ds is) b in
          let r = p.0.puts a b x is f g h (subst P same w) in
          (r.0, subst (λ q. Shows s b (cond q (run width c x) (run_arms width i (arms_from v.width (suc low) cs) x))) (sym e) r.1)
      by false e more =
          let r = more e in
          (r.0, subst (λ q. Shows s b (cond q (run width c x) (run_arms width i (arms_from v.width (suc low) cs) x))) (sym e) r.1)

  -- no arm is run past the end
  no-arm : (k low : ℕ) (cs : List Code) (x : ℕ → ℕ) (i : ℕ) → low + length cs ≤ i → run_arms width i (arms_from k low cs) x ≡ x
  no-arm k low [] x i o = refl
  no-arm k low (c ∷ cs) x i o =
      let e : nat_eq i low ≡ false = grind (arith, o) in
      ap (λ q. cond q (run width c x) (run_arms width i (arms_from k (suc low) cs) x)) e ∙ no-arm k (suc low) cs x i (omega (arith, o))

  arms-below : (k low : ℕ) (vs : List Slot) (d : Dimension) (ds : List Dimension) (first : ℕ) (cs : List Code) → PutsEach s width m H vs d ds first low cs → (v : ℕ) → arms_assign (arms_from k low cs) v ≡ true → v < temporary s m
  arms-below k low vs d ds first [] p v e = absurd (cc)
  arms-below k low vs d ds first (c ∷ cs) p v e = or_by (v < temporary s m) (assigns c v) (arms_assign (arms_from k (suc low) cs) v) e (p.0.framed v) (arms-below k (suc low) vs d ds first cs p.1 v)

  pub put-case : (v : Slot) (vs : List Slot) (d : Dimension) (ds : List Dimension) (first : ℕ) (cs : List Code) → ((a b : Acting) (x : ℕ → ℕ) → H a x None b → b ≡ a) → length cs ≡ min d.size (2 ^ v.width) → PutsEach s width m H vs d ds first 0 cs
      → Puts s width m H (v ∷ vs) (d ∷ ds) first (case_code v cs)
  put-case v vs d ds first cs nothing many p = record {
    puts = puts;
    framed = λ u e. or_by (u < temporary s m) (arms_assign (arms_from v.width 0 cs) u) false e (arms-below v.width 0 vs d ds first cs p u) (λ e. absurd (cc));
  }
    where
      run-case : (x : ℕ → ℕ) (i : ℕ) → HoldsIndex width x v i → run width (case_code v cs) x ≡ run_arms width i (arms_from v.width 0 cs) x
      run-case x i h = ap (λ n. run_arms width n (arms_from v.width 0 cs) x) (gives_own false (sized false width x (variable_of v.variable)) v.width i h)

      by : (a b : Acting) (x : ℕ → ℕ) (i : ℕ) (is : List ℕ) → Fits s a → Shows s a x → HoldsIndex width x v i → HoldIndices width x vs is → (q : Bool) → nat_lt i d.size ≡ q
          → H a x (if q then cell_in (first + i * d.stride) ds is else None) b → Fits s b × Shows s b (run width (case_code v cs) x)
      by a b x i is f g h k true e w =
          let small = index-small s width x v i h in
          let inside : i < d.size = grind (arith, e) in
          let r = arm-runs v vs d ds first 0 cs a b x i is p f g k (omega arith) (omega (arith, many, small, inside)) w in
          (r.0, subst (λ y. Shows s b y) (sym (run-case x i h)) r.1)
      by a b x i is f g h k false e w =
          let past : d.size ≤ i = grind (arith, e) in
          let same : b ≡ a = nothing a b x w in
          let stays : run width (case_code v cs) x ≡ x = run-case x i h ∙ no-arm v.width 0 cs x i (omega (arith, many, past)) in
          (subst (λ b. Fits s b) (sym same) f, subst (λ y. Shows s b y) (sym stays) (subst (λ b. Shows s b x) (sym same) g))

      puts : (a b : Acting) (x : ℕ → ℕ) (is : List ℕ) → Fits s a → Shows s a x → HoldIndices width x (v ∷ vs) is → H a x (cell_in first (d ∷ ds) is) b → Fits s b × Shows s b (run width (case_code v cs) x)
      puts a b x [] f g h w = absurd h
      puts a b x (i ∷ is) f g h w = by a b x i is f g h.0 h.1 (nat_lt i d.size) refl w

module _ (s : Sight) (width : ℕ → ℕ) where
  -- what is put nowhere changes nothing
  pub put-nothing : (k : Pick) (e : Term) (t : emitted.Term) (a b : Acting) (x : ℕ → ℕ) → IsPut s width k e t a x None b → b ≡ a
  put-nothing k e t a b x p = let m = map_is (picked s.cells a 1 k 0 p.word) (λ w. a) b p.is in sym m.2

  -- the parts of an assignment
  record Parts (l : Left) (k : Pick) (e : Term) (a b : Acting) : Type 0 where
    word : ℕ
    of_word : word_in s.cells a e ≡ Some word
    steps : List Step
    of_steps : steps_in s.cells a l ≡ Some steps
    is : put_in s.cells a (cell_named s.cells (Some steps)) k word ≡ Some b

  parts-of : (l : Left) (k : Pick) (e : Term) (a b : Acting) → assigned s.cells a l k e ≡ Some b → Parts l k e a b
  parts-of l k e a b h =
      let u = then_is (word_in s.cells a e) (λ w. option_and_then (λ z. put_in s.cells a (cell_named s.cells (Some z)) k w) (steps_in s.cells a l)) b h in
      let v = then_is (steps_in s.cells a l) (λ z. put_in s.cells a (cell_named s.cells (Some z)) k u.0) b u.2 in
      record { word = u.0; of_word = u.1; steps = v.0; of_steps = v.1; is = v.2 }

  front-below : (n m : ℕ) (c d : Code) → Makes s n m c → AssignsBelow s m d → AssignsBelow s m (then_code c d)
  front-below n m c d p q v e = either_assigns (v < temporary s m) c d v e (λ e. (p v e).1) (q v)

  -- an assignment to an array's element, or to a cell
  pub assigns-found : (n m : ℕ) (l : Left) (k : Pick) (e : Term) (c d : Code) (o : Outcome) (first : ℕ) (ds : List Dimension) (vs : List Slot) → IsNumbered s → IsFound s l first ds → IndexAll s width n m ds c vs → Lowers s width n m e c o
      → Puts s width m (IsPut s width k e (text_of o)) vs ds first d → Assigns s width m l k e (then_code c d)
  assigns-found n m l k e c d o first ds vs number found indices value put = record {
    does = λ a b x f g h. (
        let r = parts-of l k e a b h in
        let z = found a x f g (cell_named s.cells (Some r.steps)) r.steps r.of_steps refl in
        let i = held-all s width n m ds c vs a x z.0 indices f g z.1 in
        let here : cell_named s.cells (Some r.steps) ≡ cell_in first ds i.words = z.2 ∙ i.same first in
        let small = value.fits a x r.word f g r.of_word in
        let given = text-gives width (run width c x) (kind_of e) o r.word small (value.gives a x r.word f g r.of_word) in
        let w = put.puts a b (run width c x) i.words f (shows-stays s width n m c a x number value.makes g) i.hold (record { word = r.word; fits = small; gives = given; is = ap (λ z. put_in s.cells a z k r.word) (sym here) ∙ r.is }) in
        (w.0, subst (λ y. Shows s b y) (sym (then-run width c d x)) w.1));
    framed = front-below n m c d value.makes put.framed;
  }

  -- nothing is written where no cell is named
  pub assigns-nowhere : (m : ℕ) (l : Left) (k : Pick) (e : Term) → IsNowhere s l → Assigns s width m l k e End
  assigns-nowhere m l k e none = record {
    does = λ a b x f g h. (
        let r = parts-of l k e a b h in
        let z = none a x f g r.steps r.of_steps in
        let u : put_in s.cells a None k r.word ≡ Some b = ap (λ z. put_in s.cells a z k r.word) (sym z) ∙ r.is in
        let m = map_is (picked s.cells a 1 k 0 r.word) (λ w. a) b u in
        (subst (λ b. Fits s b) m.2 f, subst (λ b. Shows s b x) m.2 g));
    framed = λ v e. absurd (cc);
  }

  -- the new bit in the width of the cells
  bit-gives : (w : ℕ) (k : Kind) (o : Outcome) (x : ℕ → ℕ) (y : ℕ) → width_of k ≡ 1 → 1 ≤ w → y < 2 ^ width_of k → HasWord false width x k o y → Gives false (sized false width x (bit_value w o)) w y
  bit-gives w k (Known n) x y one some l h =
      let P : ℕ → Type 0 = λ z. y < 2 ^ z in
      let small : y < 2 ^ 1 = subst P one l in
      let more : 2 ^ 1 ≤ 2 ^ w = pow-le-pow_right (omega arith) some in
      subst (λ z. Gives false (fixed w false z) w y) (sym h.1) (gives_fixed false w y (omega (arith, small, more)))
  bit-gives w k (Made t) x y one some l h =
      let less : width_of k ≤ w = omega (arith, one, some) in
      let g = widened_gives false width x (width_of k) w t y less l h in
      let more : 2 ^ width_of k ≤ 2 ^ w = pow-le-pow_right (omega arith) less in
      (g.0, g.1, g.2 ∙ low_word w y (omega (arith, l, more)))

  -- what a nowhere bit changes
  pub put-no-bit : (w : ℕ) (i : Term) (u : Slot) (t : emitted.Term) (a b : Acting) (x : ℕ → ℕ) → IsPutBit s width w i u t a x None b → b ≡ a
  put-no-bit w i u t a b x p = let m = map_is (picked s.cells a 1 (OneBit i) 0 p.word) (λ w. a) b p.is in sym m.2

  -- the index of what is put has a word
  put-index : (i : Term) (a b : Acting) (c : Option ℕ) (w : ℕ) → put_in s.cells a c (OneBit i) w ≡ Some b → (j : ℕ) × (word_in s.cells a i ≡ Some j)
  put-index i a b None w h =
      let m = map_is (picked s.cells a 1 (OneBit i) 0 w) (λ w. a) b h in
      let n = map_is (word_in s.cells a i) (λ j. with_bit 1 0 (index_of (kind_of i) j) w) m.0 m.1 in
      (n.0, n.1)
  put-index i a b (Some c) w h = by (has_sort is_root s.cells c) h
    where
      of_picked : (width old v : ℕ) → picked s.cells a width (OneBit i) old w ≡ Some v → (j : ℕ) × (word_in s.cells a i ≡ Some j)
      of_picked width old v h = let n = map_is (word_in s.cells a i) (λ j. with_bit width old (index_of (kind_of i) j) w) v h in (n.0, n.1)

      by : (q : Bool) → (if q then option_map (λ u. with_asked c w a) (picked s.cells a (width_at s.cells c) (OneBit i) 0 w) else option_map (λ u. with_word c u a) (picked s.cells a (width_at s.cells c) (OneBit i) (a.now c) w)) ≡ Some b
          → (j : ℕ) × (word_in s.cells a i ≡ Some j)
      by true h = let m = map_is (picked s.cells a (width_at s.cells c) (OneBit i) 0 w) (λ u. with_asked c w a) b h in of_picked (width_at s.cells c) 0 m.0 m.1
      by false h = let m = map_is (picked s.cells a (width_at s.cells c) (OneBit i) (a.now c) w) (λ u. with_word c u a) b h in of_picked (width_at s.cells c) (a.now c) m.0 m.1

  -- an assignment to a bit at an index that isn't known
  pub assigns-bit : (n m w : ℕ) (l : Left) (i e : Term) (c d : Code) (o : Outcome) (u : Slot) (first : ℕ) (ds : List Dimension) (vs : List Slot) → IsNumbered s → 1 ≤ w → width_of (kind_of e) ≡ 1 → IsFound s l first ds → IndexAll s width n m ds c vs → Indexes s width n m i c u → Lowers s width n m e c o
      → Puts s width m (IsPutBit s width w i u (bit_value w o)) vs ds first d → Assigns s width m l (OneBit i) e (then_code c d)
  assigns-bit n m w l i e c d o u first ds vs number some one found indices index value put = record {
    does = λ a b x f g h. (
        let r = parts-of l (OneBit i) e a b h in
        let j = put-index i a b (cell_named s.cells (Some r.steps)) r.word r.is in
        let z = found a x f g (cell_named s.cells (Some r.steps)) r.steps r.of_steps refl in
        let k = held-all s width n m ds c vs a x z.0 indices f g z.1 in
        let here : cell_named s.cells (Some r.steps) ≡ cell_in first ds k.words = z.2 ∙ k.same first in
        let small = value.fits a x r.word f g r.of_word in
        let P : ℕ → Type 0 = λ z. r.word < 2 ^ z in
        let bit : r.word < 2 ^ 1 = subst P one small in
        let given = bit-gives w (kind_of e) o (run width c x) r.word one some small (value.gives a x r.word f g r.of_word) in
        let y = put.puts a b (run width c x) k.words f (shows-stays s width n m c a x number value.makes g) k.hold (record {
          word = r.word;
          fits = omega (arith, bit);
          gives = given;
          number = j.0;
          is_number = j.1;
          number_fits = index.fits a x j.0 f g j.1;
          holds = index.holds a x j.0 f g j.1;
          is = ap (λ z. put_in s.cells a z (OneBit i) r.word) (sym here) ∙ r.is;
        }) in
        (y.0, subst (λ y. Shows s b y) (sym (then-run width c d x)) y.1));
    framed = front-below n m c d value.makes put.framed;
  }
