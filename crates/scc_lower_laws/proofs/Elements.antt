-- The text that reads an element of an array.
use Rattle.std.specs.Prelude.{pos}
use Rattle.std.proofs.Common.{◌≡◌, ◌<◌, ◌≤◌, ◌^◌, ◌*◌, ◌+◌, ◌-◌, ◌/◌, ◌%◌, ℕ, nat_eq, nat_lt, Bool, true, false, ◌&&◌, ◌||◌, max, min, if◌then◌else◌, List, [], ◌∷◌, Option, None, refl, sym, ap, ◌∙◌, subst, arith}
use Rattle.std.proofs.Math.Nat.{mod-lt, mod-eq_of_lt, div-eq_of_lt}
use Rattle.std.proofs.lemmas.Nat.{pow_pos}
use Rattle.scc_bits_kinds.specs.Bits.{part}
use Rattle.scc_bits_kinds.specs.Numbers.{low, reading}
use Rattle.scc_bits_kinds.proofs.Low.{low_less}
use Rattle.scc_svtree.specs.declared.expr.VarId.{VarId}
use Rattle.scc_svtree.specs.declared.expr.SvLeft.{SvLeft}
use Rattle.scc_svtree.specs.declared.expr.SvLeft.TheVariants.{Whole, Bit, Range}
use Rattle.scc_svtree.specs.Term as emitted
use Rattle.scc_svtree.specs.Mentions.{reads}
use Rattle.scc_svtree.specs.Running.{var_of}
use Rattle.scc_svtree.specs.Sizes.{sized, sized_left, fixed}
use Rattle.scc_svtree.proofs.Agree.{same_of_eq}
use Rattle.scc_blocks_spec.specs.Acting.{Acting, word_or_zero}
use Rattle.scc_blocks_spec.specs.Shown.{Sight, Shows, ShowsCell, View, Constant, Read, Driven, Delayed, Plain, Next}
use Rattle.scc_blocks_spec.specs.Lowered.{Fits}
use Rattle.scc_lower_spec.specs.Gives.{Gives}
use Rattle.scc_lower_spec.specs.Selected.{part_left, below_term, halves_term}
use Rattle.scc_lower_spec.proofs.Gives.{gives_fixed}
use Rattle.scc_lower_spec.proofs.Selected.{part_gives, halves_give}
use Rattle.scc_lower_laws.specs.Lowers.{temporary, ReadsBelow, IsNumbered}
use Rattle.scc_lower_laws.specs.Elements.{Dimension, cell_in, Slot, variable_of, HoldsIndex, HoldIndices, read_variable, read_text, IsRead, IsReadable, HasShape, ShowsElement, ShowsSpan, within_text}
use Rattle.scc_lower_laws.proofs.Rules.{or_by}

-- ---- a cell by itself

module _ (n : ℕ) where
  either-left : (b : Bool) (p q : SvLeft) → var_of p ≡ n → var_of q ≡ n → var_of (if b then p else q) ≡ n
  either-left true p q e f = e
  either-left false p q e f = f

pub part-var : (v : VarId) (w h l : ℕ) → var_of (part_left v w h l) ≡ v.0
part-var v w h l = either-left v.0 (nat_eq l 0 && nat_eq h (w - 1)) (Whole v) (if nat_eq h l then Bit v h else Range v h l) refl (either-left v.0 (nat_eq h l) (Bit v h) (Range v h l) refl refl)

-- words have no influence on lengths and signs of variables
left-shape : (width x y : ℕ → ℕ) (l : SvLeft) → ((sized_left width x l).len ≡ (sized_left width y l).len) × ((sized_left width x l).signed ≡ (sized_left width y l).signed)
left-shape width x y (Whole v) = (refl, refl)
left-shape width x y (Bit v h) = (refl, refl)
left-shape width x y (Range v h l) = (refl, refl)

zero-part : (h l : ℕ) → part h l 0 ≡ 0
zero-part h l = let d : 0 / 2 ^ l ≡ 0 = div-eq_of_lt (pow_pos l) in ap (λ z. z % 2 ^ (h - l + 1)) d ∙ mod-eq_of_lt (pow_pos (h - l + 1))

module _ (s : Sight) (width : ℕ → ℕ) where
  part-shape : (v w h l : ℕ) → width v ≡ w → l ≤ h → h < w → HasShape width (emitted.Part (part_left (record { 0 = v }) w h l)) (h - l + 1)
  part-shape v w h l e o b x =
      let g = part_gives width (λ _. 0) (record { 0 = v }) w h l e (pow_pos w) o b in
      let k = left-shape width x (λ _. 0) (part_left (record { 0 = v }) w h l) in
      (k.0 ∙ g.0, k.1 ∙ g.1)

  -- a variable that shows the cell's word
  variable-part : (x : ℕ → ℕ) (v w h l y : ℕ) → width v ≡ w → x v ≡ y → y < 2 ^ w → l ≤ h → h < w → Gives false (sized false width x (emitted.Part (part_left (record { 0 = v }) w h l))) (h - l + 1) (part h l y)
  variable-part x v w h l y e f small o b =
      let Q : ℕ → Type 0 = λ z. Gives false (sized false width x (emitted.Part (part_left (record { 0 = v }) w h l))) (h - l + 1) (part h l z) in
      let P : ℕ → Type 0 = λ z. z < 2 ^ w in
      subst Q f (part_gives width x (record { 0 = v }) w h l e (subst P (sym f) small) o b)

  cell-gives : (v : View) (a : Acting) (x : ℕ → ℕ) (c w h l : ℕ) → IsRead v → ShowsCell v c a x → width (read_variable v c) ≡ w → a.now c < 2 ^ w → l ≤ h → h < w → Gives false (sized false width x (read_text v w c h l)) (h - l + 1) (part h l (a.now c))
  cell-gives (Constant u) a x c w h l r e k f o b =
      let Q : ℕ → Type 0 = λ z. Gives false (fixed (h - l + 1) false (part h l z)) (h - l + 1) (part h l (a.now c)) in
      subst Q e (gives_fixed false (h - l + 1) (part h l (a.now c)) (mod-lt (a.now c / 2 ^ l) (pow_pos (h - l + 1))))
  cell-gives Read a x c w h l r e k f o b = variable-part x (2 * c) w h l (a.now c) k e f o b
  cell-gives Driven a x c w h l r e k f o b = absurd r
  cell-gives Delayed a x c w h l r e k f o b = variable-part x (2 * c) w h l (a.now c) k e.0 f o b
  cell-gives Plain a x c w h l r e k f o b = variable-part x (2 * c) w h l (a.now c) k e f o b
  cell-gives Next a x c w h l r e k f o b = variable-part x (2 * c + 1) w h l (a.now c) k e f o b

  cell-shape : (v : View) (c w h l : ℕ) → IsRead v → width (read_variable v c) ≡ w → l ≤ h → h < w → HasShape width (read_text v w c h l) (h - l + 1)
  cell-shape (Constant u) c w h l r k o b x = (refl, refl)
  cell-shape Read c w h l r k o b x = part-shape (2 * c) w h l k o b x
  cell-shape Driven c w h l r k o b x = absurd r
  cell-shape Delayed c w h l r k o b x = part-shape (2 * c) w h l k o b x
  cell-shape Plain c w h l r k o b x = part-shape (2 * c) w h l k o b x
  cell-shape Next c w h l r k o b x = part-shape (2 * c + 1) w h l k o b x

  part-reads : (v w h l u : ℕ) → reads (emitted.Part (part_left (record { 0 = v }) w h l)) u ≡ true → u ≡ v
  part-reads v w h l u e = sym (same_of_eq (var_of (part_left (record { 0 = v }) w h l)) u e) ∙ part-var (record { 0 = v }) w h l

  cell-reads : (v : View) (c w h l u : ℕ) → reads (read_text v w c h l) u ≡ true → u ≤ 2 * c + 1
  cell-reads (Constant z) c w h l u e = absurd (cc)
  cell-reads Read c w h l u e = omega (arith, part-reads (2 * c) w h l u e)
  cell-reads Driven c w h l u e = omega (arith, part-reads (2 * c) w h l u e)
  cell-reads Delayed c w h l u e = omega (arith, part-reads (2 * c) w h l u e)
  cell-reads Plain c w h l u e = omega (arith, part-reads (2 * c) w h l u e)
  cell-reads Next c w h l u e = omega (arith, part-reads (2 * c + 1) w h l u e)

  pub element-cell : (m w c h l : ℕ) → IsNumbered s → IsReadable s width w c → l ≤ h → h < w → ShowsElement s width m w [] [] c h l (read_text (s.view c) w c h l)
  element-cell m w c h l number r o b = record {
    below = λ u e. omega (arith, number c r.is_named, cell-reads (s.view c) c w h l u e);
    shape = cell-shape (s.view c) c w h l r.is_read r.variable o b;
    gives = gives;
  }
    where
      gives : (a : Acting) (x : ℕ → ℕ) (is : List ℕ) → Fits s a → Shows s a x → HoldIndices width x [] is
          → (a.now c < 2 ^ w) × Gives false (sized false width x (read_text (s.view c) w c h l)) (h - l + 1) (part h l (a.now c))
      gives a x is f g q =
          let P : ℕ → Type 0 = λ z. a.now c < 2 ^ z in
          let small : a.now c < 2 ^ w = subst P r.is_wide (f.words c r.is_held) in
          (small, cell-gives (s.view c) a x c w h l r.is_read (g.cells c r.is_named) r.variable small o b)

  -- ---- the elements of a dimension by halves

  -- what an element gives, at one cell
  abbrev GivesElement : (w h l : ℕ) → emitted.Term → Acting → (ℕ → ℕ) → Option ℕ → Type 0
  GivesElement w h l t a x c = (word_or_zero a c < 2 ^ w) × Gives false (sized false width x t) (h - l + 1) (part h l (word_or_zero a c))

  pub span-one : (m w : ℕ) (v : Slot) (vs : List Slot) (d : Dimension) (ds : List Dimension) (first low h l : ℕ) (t : emitted.Term) → ShowsElement s width m w vs ds (first + low * d.stride) h l t → ShowsSpan s width m w v vs d ds first low (low + 1) h l t
  span-one m w v vs d ds first low h l t e = record {
    below = e.below;
    shape = e.shape;
    gives = λ a x i is f g r q o b.
        (let is_low : i ≡ low = omega (arith, o, b) in
        let P : ℕ → Type 0 = λ i. GivesElement w h l t a x (cell_in (first + i * d.stride) ds is) in
        subst P (sym is_low) (e.gives a x is f g q));
  }

  -- the index's variable
  test-below : (m n k : ℕ) (v : Slot) (u : ℕ) → v.variable < temporary s m → reads (below_term k (variable_of v.variable) n) u ≡ true → u < temporary s m
  test-below m n k v u l e = or_by (u < temporary s m) (nat_eq v.variable u) false e (λ e. (let P : ℕ → Type 0 = λ z. z < temporary s m in subst P (same_of_eq v.variable u e) l)) (λ e. absurd (cc))

  shaped : (t : emitted.Term) (n : ℕ) (x : ℕ → ℕ) → HasShape width t n → Gives false (sized false width x t) n ((sized false width x t).word n false)
  shaped t n x h = ((h x).0, (h x).1, refl)

  halves-shape : (m k : ℕ) (at t u : emitted.Term) (n : ℕ) → HasShape width t n → HasShape width u n → HasShape width (halves_term m at k t u) n
  halves-shape m k at t u n p q x = ((λ i. max ((p x).0 i) ((q x).0 i)) ∙ omega arith, λ i. (p x).1 i && (q x).1 i)

  halves-below : (m k : ℕ) (v : Slot) (t u : emitted.Term) → v.variable < temporary s m → ReadsBelow s m t → ReadsBelow s m u → ReadsBelow s m (halves_term v.width (variable_of v.variable) k t u)
  halves-below m k v t u l p q z e = or_by (z < temporary s m) (reads (below_term v.width (variable_of v.variable) k) z) (reads t z || reads u z) e (test-below m k v.width v z l) (λ e. or_by (z < temporary s m) (reads t z) (reads u z) e (p z) (q z))

  pub span-halves : (m w : ℕ) (v : Slot) (vs : List Slot) (d : Dimension) (ds : List Dimension) (first low middle high h l : ℕ) (t u : emitted.Term) → v.variable < temporary s m → middle < 2 ^ v.width
      → ShowsSpan s width m w v vs d ds first low middle h l t → ShowsSpan s width m w v vs d ds first middle high h l u → ShowsSpan s width m w v vs d ds first low high h l (halves_term v.width (variable_of v.variable) middle t u)
  span-halves m w v vs d ds first low middle high h l t u below small p q = record {
    below = halves-below m middle v t u below p.below q.below;
    shape = halves-shape v.width middle (variable_of v.variable) t u (h - l + 1) p.shape q.shape;
    gives = λ a x i is f g r k o b. by a x i is f g r k o b (nat_lt i middle) refl;
  }
    where
      by : (a : Acting) (x : ℕ → ℕ) (i : ℕ) (is : List ℕ) → Fits s a → Shows s a x → HoldsIndex width x v i → HoldIndices width x vs is → low ≤ i → i < high → (b : Bool) → nat_lt i middle ≡ b
          → GivesElement w h l (halves_term v.width (variable_of v.variable) middle t u) a x (cell_in (first + i * d.stride) ds is)
      by a x i is f g r k o b true e =
          let here = p.gives a x i is f g r k o (grind arith) in
          let y = part h l (word_or_zero a (cell_in (first + i * d.stride) ds is)) in
          let z = (sized false width x u).word (h - l + 1) false in (
            here.0,
            subst (λ c. Gives false (sized false width x (halves_term v.width (variable_of v.variable) middle t u)) (h - l + 1) (if c then y else z)) e
                (halves_give false width x (variable_of v.variable) t u v.width i middle (h - l + 1) y z small r here.1 (shaped u (h - l + 1) x q.shape)),
          )
      by a x i is f g r k o b false e =
          let here = q.gives a x i is f g r k (grind arith) b in
          let y = (sized false width x t).word (h - l + 1) false in
          let z = part h l (word_or_zero a (cell_in (first + i * d.stride) ds is)) in (
            here.0,
            subst (λ c. Gives false (sized false width x (halves_term v.width (variable_of v.variable) middle t u)) (h - l + 1) (if c then y else z)) e
                (halves_give false width x (variable_of v.variable) t u v.width i middle (h - l + 1) y z small r (shaped t (h - l + 1) x p.shape) here.1),
          )

  -- an index in a variable of so many bits
  pub index-small : (x : ℕ → ℕ) (v : Slot) (i : ℕ) → HoldsIndex width x v i → i < 2 ^ v.width
  index-small x v i g = let P : ℕ → Type 0 = λ z. z < 2 ^ v.width in subst P g.2 (low_less v.width (reading false (width v.variable) (low (width v.variable) (pos (x v.variable)))))

  -- a dimension as a whole
  pub element-within : (m w : ℕ) (v : Slot) (vs : List Slot) (d : Dimension) (ds : List Dimension) (first high h l : ℕ) (t : emitted.Term) → v.variable < temporary s m → high ≡ min d.size (2 ^ v.width) → ShowsSpan s width m w v vs d ds first 0 high h l t
      → ShowsElement s width m w (v ∷ vs) (d ∷ ds) first h l (within_text v d.size h l t)
  element-within m w v vs d ds first high h l t below reach p = by (nat_lt d.size (2 ^ v.width)) refl
    where
      inside : (a : Acting) (x : ℕ → ℕ) (i : ℕ) (is : List ℕ) → Fits s a → Shows s a x → HoldsIndex width x v i → HoldIndices width x vs is → nat_lt i d.size ≡ true → GivesElement w h l t a x (cell_in (first + i * d.stride) ds is)
      inside a x i is f g r k e = let n = index-small x v i r in let o : i < d.size = grind arith in p.gives a x i is f g r k (omega arith) (omega (arith, reach, n, o))

      chosen : (b : Bool) → nat_lt d.size (2 ^ v.width) ≡ true → (a : Acting) (x : ℕ → ℕ) (i : ℕ) (is : List ℕ) → Fits s a → Shows s a x → HoldsIndex width x v i → HoldIndices width x vs is → nat_lt i d.size ≡ b
          → GivesElement w h l (halves_term v.width (variable_of v.variable) d.size t (emitted.Literal (h - l + 1) 0)) a x (if b then cell_in (first + i * d.stride) ds is else None)
      chosen true c a x i is f g r k e =
          let here = inside a x i is f g r k e in
          let y = part h l (word_or_zero a (cell_in (first + i * d.stride) ds is)) in (
            here.0,
            subst (λ c. Gives false (sized false width x (halves_term v.width (variable_of v.variable) d.size t (emitted.Literal (h - l + 1) 0))) (h - l + 1) (if c then y else 0)) e
                (halves_give false width x (variable_of v.variable) t (emitted.Literal (h - l + 1) 0) v.width i d.size (h - l + 1) y 0 (grind arith) r here.1 (gives_fixed false (h - l + 1) 0 (pow_pos (h - l + 1)))),
          )
      chosen false c a x i is f g r k e =
          let y = (sized false width x t).word (h - l + 1) false in
          let none = halves_give false width x (variable_of v.variable) t (emitted.Literal (h - l + 1) 0) v.width i d.size (h - l + 1) y 0 (grind arith) r (shaped t (h - l + 1) x p.shape) (gives_fixed false (h - l + 1) 0 (pow_pos (h - l + 1))) in
          (pow_pos w, (none.0, none.1, none.2 ∙ ap (λ c. if c then y else 0) e ∙ sym (zero-part h l)))

      by : (b : Bool) → nat_lt d.size (2 ^ v.width) ≡ b → ShowsElement s width m w (v ∷ vs) (d ∷ ds) first h l (if b then emitted.Cond (below_term v.width (variable_of v.variable) d.size) t (emitted.Literal (h - l + 1) 0) else t)
      by true e = record { below = halves-below m d.size v t (emitted.Literal (h - l + 1) 0) below p.below (λ z e. absurd (cc)); shape = halves-shape v.width d.size (variable_of v.variable) t (emitted.Literal (h - l + 1) 0) (h - l + 1) p.shape (λ x. (refl, refl)); gives = gives }
        where
          gives : (a : Acting) (x : ℕ → ℕ) (is : List ℕ) → Fits s a → Shows s a x → HoldIndices width x (v ∷ vs) is → GivesElement w h l (halves_term v.width (variable_of v.variable) d.size t (emitted.Literal (h - l + 1) 0)) a x (cell_in first (d ∷ ds) is)
          gives a x [] f g k = absurd k
          gives a x (i ∷ is) f g k = chosen (nat_lt i d.size) e a x i is f g k.0 k.1 refl
      by false e = record { below = p.below; shape = p.shape; gives = gives }
        where
          gives : (a : Acting) (x : ℕ → ℕ) (is : List ℕ) → Fits s a → Shows s a x → HoldIndices width x (v ∷ vs) is → GivesElement w h l t a x (cell_in first (d ∷ ds) is)
          gives a x [] f g k = absurd k
          gives a x (i ∷ is) f g k =
              let n = index-small x v i k.0 in
              let o : nat_lt i d.size ≡ true = grind (arith, n, e) in
              subst (λ c. GivesElement w h l t a x (if c then cell_in (first + i * d.stride) ds is else None)) (sym o) (inside a x i is f g k.0 k.1 o)
