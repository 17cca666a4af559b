-- An assignment to a bit at an index that isn't known.
use Rattle.std.specs.Prelude.{pos, ◌*ℤ◌, int_lt, bit_and}
use Rattle.std.proofs.Common.{◌≡◌, inl, inr, ◌<◌, ◌≤◌, ◌^◌, ◌*◌, ◌+◌, ◌-◌, ℕ, nat_eq, nat_lt, Bool, true, false, cond, ◌||◌, if◌then◌else◌, [], refl, sym, ap, ◌∙◌, subst, arith}
use Rattle.std.proofs.lemmas.Int.{ints}
use Rattle.std.proofs.lemmas.Nat.{and_le_l, pow_below}
use Rattle.scc_bits_kinds.specs.declared.op.Op.TheVariants as op
use Rattle.scc_bits_kinds.specs.Numbers.{low, bit}
use Rattle.scc_bits_kinds.specs.Bits.{replaced}
use Rattle.scc_bits_kinds.proofs.Low.{low_less}
use Rattle.scc_bits.proofs.Parts.{replaced_fits}
use Rattle.scc_svtree.specs.declared.expr.SvBinary.TheVariants as binary
use Rattle.scc_svtree.specs.declared.expr.SvUnary.TheVariants as unary
use Rattle.scc_svtree.specs.Code.{End, Assign, If}
use Rattle.scc_svtree.specs.Term as emitted
use Rattle.scc_svtree.specs.Mentions.{assigns}
use Rattle.scc_svtree.specs.Running.{run, updated}
use Rattle.scc_svtree.specs.Sizes.{Sized, sized, fixed, value_of, assigned}
use Rattle.scc_svtree.proofs.Agree.{same_of_eq}
use Rattle.scc_semantics.specs.Scene.{index_of, with_bit}
use Rattle.scc_core_spec.specs.Program.{is_root}
use Rattle.scc_core_spec.specs.Term.{Term, OneBit, kind_of}
use Rattle.scc_core_spec.specs.Uses.{has_sort, width_at}
use Rattle.scc_blocks_spec.specs.Acting.{word_in}
use Rattle.scc_blocks_spec.specs.Shown.{Sight, Shows}
use Rattle.scc_lower_spec.specs.Gives.{Gives}
use Rattle.scc_lower_spec.specs.Selected.{below_term}
use Rattle.scc_lower_spec.proofs.Gives.{gives_own, gives_fixed, gives_shift, gives_inner, gives_context, gives_compare}
use Rattle.scc_lower_laws.specs.Sequence.{whole}
use Rattle.scc_lower_laws.specs.Lowers.{IsNumbered}
use Rattle.scc_lower_laws.specs.Elements.{Slot, variable_of, HoldsIndex, index_word, IsIndexKind}
use Rattle.scc_lower_laws.specs.Puts.{AssignsBelow, written_variable, IsWritten, Puts, bit_text, bit_code, IsPutBit}
use Rattle.scc_lower_laws.proofs.Options.{some_same, map_is}
use Rattle.scc_lower_laws.proofs.Sequence.{variable-gives, gives-assigned}
use Rattle.scc_lower_laws.proofs.Indices.{Alike, alike}
use Rattle.scc_lower_laws.proofs.Elements.{index-small}
use Rattle.scc_lower_laws.proofs.Cells.{part-change, change-fits, change-shows}
use Rattle.scc_lower_laws.proofs.Leaves.{assign-below, number-shown}
use Rattle.scc_lower_laws.proofs.Masks.{replaced-by-masks, shifted-one, inverted, and-words, or-words}

same-test : (n k : ℕ) → int_lt (pos n) (pos k) ≡ nat_lt n k
same-test n k = grind (arith, ints)

as-bit : (b : Bool) → nat_eq (low 1 (bit b)) 0 ≡ (if b then false else true)
as-bit true = refl
as-bit false = refl

-- a variable that takes its own word
unchanged : (v : ℕ) (x : ℕ → ℕ) → updated v (x v) x ≡ x
unchanged v x = λ i u. at u i
  where
    by : (u : ℕ) (b : Bool) → nat_eq u v ≡ b → cond b (x v) (x u) ≡ x u
    by u true e = ap x (sym (same_of_eq u v e))
    by u false e = refl

    at : (u : ℕ) → updated v (x v) x u ≡ x u
    at u = by u (nat_eq u v) refl

-- the bit of an index, and of the number that holds it
same-bit : (w old i j y : ℕ) → w ≤ 128 → Alike i j → with_bit w old i y ≡ with_bit w old j y
same-bit w old i j y few (inl e) = ap (λ i. with_bit w old i y) e
same-bit w old i j y few (inr h) =
    let first : nat_lt i w ≡ false = grind (arith, h.0, few) in
    let second : nat_lt j w ≡ false = grind (arith, h.1, few) in
    ap (λ b. if b then replaced i i old y else old) first ∙ sym (ap (λ b. if b then replaced j j old y else old) second)

module _ (width x : ℕ → ℕ) where
  abbrev of : emitted.Term → Sized
  of t = sized false width x t

  below-test : (m n i : ℕ) (at : emitted.Term) → n < 2 ^ m → Gives false (of at) m i → nat_eq (value_of width x (below_term m at n)) 0 ≡ (if nat_lt i n then false else true)
  below-test m n i at l g =
      let c = gives_compare false op.Lt (of at) (fixed m false n) m i n g (gives_fixed false m n l) in
      ap (λ z. nat_eq z 0) (gives_own false (of (below_term m at n)) 1 (low 1 (bit (int_lt (pos i) (pos n)))) c) ∙ ap (λ b. nat_eq (low 1 (bit b)) 0) (same-test i n) ∙ as-bit (nat_lt i n)

  -- the text of a cell with another bit
  text-gives-bit : (w v u m i y : ℕ) (t : emitted.Term) → i < w → y < 2 → width v ≡ w → x v < 2 ^ w → Gives false (of (variable_of u)) m i → Gives false (of t) w y → Gives false (of (bit_text w v u t)) w (replaced i i (x v) y)
  text-gives-bit w v u m i y t o small wide old at value =
      let power : 2 ^ i < 2 ^ w = pow_below i w o in
      let one : 1 < 2 ^ w = omega (arith, pow_below 0 w (omega (arith, o))) in
      let there = gives_shift false false false op.Shl (fixed w false 1) (of (variable_of u)) w m 1 i (gives_fixed false w 1 one) at in
      let is_there : low w (pos 1 *ℤ pos (2 ^ i)) ≡ 2 ^ i = shifted-one w i 1 o (omega arith) ∙ omega arith in
      let others = gives_inner false op.Not (of (emitted.Binary binary.Shl (emitted.Literal w 1) (variable_of u))) w (2 ^ i) (there.0, there.1, there.2 ∙ is_there) in
      let kept = gives_context false op.And (of (variable_of v)) (of (emitted.Unary unary.Not (emitted.Binary binary.Shl (emitted.Literal w 1) (variable_of u)))) w (x v) (2 ^ w - 1 - 2 ^ i)
      (variable-gives width x v w (x v) wide refl old) (others.0, others.1, others.2 ∙ inverted w (2 ^ i) power) in
      let is_kept = and-words w (x v) (2 ^ w - 1 - 2 ^ i) old (omega (arith, power)) in
      let new = gives_shift false false false op.Shl (of t) (of (variable_of u)) w m y i value at in
      let is_new = shifted-one w i y o small in
      let less : y * 2 ^ i < 2 ^ w = (let P : ℕ → Type 0 = λ z. z < 2 ^ w in subst P is_new (low_less w (pos y *ℤ pos (2 ^ i)))) in
      let below : bit_and (x v) (2 ^ w - 1 - 2 ^ i) < 2 ^ w = omega (arith, and_le_l (x v) (2 ^ w - 1 - 2 ^ i), old) in
      let all = gives_context false op.Or (of (emitted.Binary binary.And (variable_of v) (emitted.Unary unary.Not (emitted.Binary binary.Shl (emitted.Literal w 1) (variable_of u))))) (of (emitted.Binary binary.Shl t (variable_of u))) w
      (bit_and (x v) (2 ^ w - 1 - 2 ^ i)) (y * 2 ^ i) (kept.0, kept.1, kept.2 ∙ is_kept) (new.0, new.1, new.2 ∙ is_new) in
      (all.0, all.1, all.2 ∙ or-words w (bit_and (x v) (2 ^ w - 1 - 2 ^ i)) (y * 2 ^ i) below less ∙ replaced-by-masks w (x v) i y old o small)

  bit-word : (w v u m i y : ℕ) (t : emitted.Term) → i < w → y < 2 → width v ≡ w → x v < 2 ^ w → Gives false (of (variable_of u)) m i → Gives false (of t) w y → assigned (width v) (of (bit_text w v u t)) ≡ replaced i i (x v) y
  bit-word w v u m i y t o small wide old at value =
      let g = text-gives-bit w v u m i y t o small wide old at value in
      let one : i - i + 1 ≡ 1 = omega arith in
      let P : ℕ → Type 0 = λ n. y < 2 ^ n in
      let fits = replaced_fits w i i (x v) y (omega arith) o old (subst P (sym one) small) in
      ap (λ z. assigned z (of (bit_text w v u t))) wide ∙ gives-assigned (of (bit_text w v u t)) w (replaced i i (x v) y) fits g

module _ (s : Sight) (width : ℕ → ℕ) where
  bit-runs : (w v : ℕ) (u : Slot) (i y : ℕ) (t : emitted.Term) (x : ℕ → ℕ) → y < 2 → width v ≡ w → x v < 2 ^ w → HoldsIndex width x u i → Gives false (sized false width x t) w y → run width (bit_code w v u t) x ≡ updated v (with_bit w (x v) i y) x
  bit-runs w v u i y t x small wide old at value = by (nat_lt w (2 ^ u.width)) refl (nat_lt i w) refl
    where
      put : nat_lt i w ≡ true → updated v (assigned (width v) (sized false width x (bit_text w v u.variable t))) x ≡ updated v (replaced i i (x v) y) x
      put e = ap (λ z. updated v z x) (bit-word width x w v u.variable u.width i y t (grind (arith, e)) small wide old at value)

      by : (p : Bool) → nat_lt w (2 ^ u.width) ≡ p → (q : Bool) → nat_lt i w ≡ q
          → run width (if p then If (below_term u.width (variable_of u.variable) w) (Assign (whole v) (bit_text w v u.variable t) End) End End else Assign (whole v) (bit_text w v u.variable t) End) x ≡ updated v (if q then replaced i i (x v) y else x v) x
      by true e true f = ap (λ b. cond b x (updated v (assigned (width v) (sized false width x (bit_text w v u.variable t))) x)) (below-test width x u.width w i (variable_of u.variable) (grind (arith, e)) at ∙ ap (λ b. if b then false else true) f) ∙ put f
      by true e false f = ap (λ b. cond b x (updated v (assigned (width v) (sized false width x (bit_text w v u.variable t))) x)) (below-test width x u.width w i (variable_of u.variable) (grind (arith, e)) at ∙ ap (λ b. if b then false else true) f) ∙ sym (unchanged v x)
      by false e true f = put f
      by false e false f = let n = index-small s width x u i at in absurd (grind (arith, n, e, f))

  pub put-bit : (m w c : ℕ) (index : Term) (u : Slot) (t : emitted.Term) → IsNumbered s → IsWritten s width w c → has_sort is_root s.cells c ≡ false → w ≤ 128 → IsIndexKind (kind_of index)
      → Puts s width m (IsPutBit s width w index u t) [] [] c (bit_code w (written_variable (s.view c) c) u t)
  put-bit m w c index u t number r root few kind = record {
    puts = λ a b x is f g q p. (
        let k = part-change s width number c p.word (OneBit index) a b root p.is in
        let cell : a.now c < 2 ^ w = (let P : ℕ → Type 0 = λ z. a.now c < 2 ^ z in subst P r.is_wide (f.words c r.is_held)) in
        let shown : x (written_variable (s.view c) c) ≡ a.now c = number-shown s width number (s.view c) c a x (has_sort is_root s.cells c) root r.is_written (g.cells c r.is_named) in
        let n = map_is (word_in s.cells a index) (λ j. with_bit (width_at s.cells c) (a.now c) (index_of (kind_of index) j) p.word) k.0 k.1 in
        let same : n.0 ≡ p.number = some_same (sym n.1 ∙ p.is_number) in
        let i = index_word (kind_of index) p.number in
        let like = alike (kind_of index) kind p.number p.number_fits in
        let new : k.0 ≡ with_bit w (a.now c) (index_word (kind_of index) p.number) p.word = sym n.2 ∙ (λ d. with_bit (r.is_wide d) (a.now c) (index_of (kind_of index) (same d)) p.word) ∙ same-bit w (a.now c) (index_of (kind_of index) p.number) (index_word (kind_of index) p.number) p.word few like in
        let S : ℕ → Type 0 = λ z. z < 2 ^ w in
        let after = bit-runs w (written_variable (s.view c) c) u (index_word (kind_of index) p.number) p.word t x p.fits r.variable (subst S (sym shown) cell) p.holds p.gives in
        let moved : run width (bit_code w (written_variable (s.view c) c) u t) x ≡ updated (written_variable (s.view c) c) k.0 x = after ∙ (λ d. updated (written_variable (s.view c) c) (with_bit w (shown d) (index_word (kind_of index) p.number) p.word) x) ∙ ap (λ z. updated (written_variable (s.view c) c) z x) (sym new) in
        let fits : k.0 < 2 ^ width_at s.cells c = (let Q : ℕ → Type 0 = λ z. k.0 < 2 ^ z in subst Q (sym r.is_wide) (subst S (sym new) (bit-fits w (a.now c) (index_word (kind_of index) p.number) p.word cell p.fits))) in (
          change-fits s width number c k.0 a b r.is_held k.2 fits f,
          subst (λ y. Shows s b y) (sym moved) (change-shows s width number c k.0 a b x r.is_named r.is_written k.2 g),
        ));
    framed = framed (nat_lt w (2 ^ u.width));
  }
    where
      bit-fits : (w old i y : ℕ) → old < 2 ^ w → y < 2 → with_bit w old i y < 2 ^ w
      bit-fits w old i y l o = by (nat_lt i w) refl
        where
          by : (q : Bool) → nat_lt i w ≡ q → (if q then replaced i i old y else old) < 2 ^ w
          by true e = let one : i - i + 1 ≡ 1 = omega arith in let P : ℕ → Type 0 = λ n. y < 2 ^ n in replaced_fits w i i old y (omega arith) (grind (arith, e)) l (subst P (sym one) o)
          by false e = l

      below : AssignsBelow s m (Assign (whole (written_variable (s.view c) c)) (bit_text w (written_variable (s.view c) c) u.variable t) End)
      below = assign-below s width number m c (whole (written_variable (s.view c) c)) (bit_text w (written_variable (s.view c) c) u.variable t) r.is_named refl

      ends : (b : Bool) → ((b || false) || false) ≡ true → b ≡ true
      ends true e = refl
      ends false e = absurd (cc)

      framed : (p : Bool) → AssignsBelow s m (if p then If (below_term u.width (variable_of u.variable) w) (Assign (whole (written_variable (s.view c) c)) (bit_text w (written_variable (s.view c) c) u.variable t) End) End End else Assign (whole (written_variable (s.view c) c)) (bit_text w (written_variable (s.view c) c) u.variable t) End)
      framed true v e = below v (ends (assigns (Assign (whole (written_variable (s.view c) c)) (bit_text w (written_variable (s.view c) c) u.variable t) End) v) e)
      framed false v e = below v e
