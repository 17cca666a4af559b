-- What an assignment to a cell leaves.
use Rattle.std.specs.Prelude.{option_map, unwrap_or}
use Rattle.std.proofs.Common.{◌≡◌, ◌<◌, ◌≤◌, ◌^◌, ◌*◌, ◌+◌, ◌-◌, ◌/◌, ◌%◌, ℕ, nat_eq, Bool, true, false, ◌&&◌, if◌then◌else◌, length, Option, Some, None, refl, sym, ap, ◌∙◌, subst, arith}
use Rattle.std.proofs.Math.Nat.{div-eq_of_lt}
use Rattle.scc_bits_kinds.specs.Bits.{replaced}
use Rattle.scc_svtree.specs.declared.expr.VarId.{VarId}
use Rattle.scc_svtree.specs.declared.expr.SvLeft.TheVariants.{Whole, Bit, Range}
use Rattle.scc_svtree.specs.Running.{run, updated, after_assign, var_of, left_width}
use Rattle.scc_svtree.specs.Running as running
use Rattle.scc_svtree.proofs.Agree.{same_of_eq, eq_same}
use Rattle.scc_core_spec.specs.Program.{is_root, is_held}
use Rattle.scc_core_spec.specs.Term as core
use Rattle.scc_core_spec.specs.Term.{Term, Pick, kind_of}
use Rattle.scc_core_spec.specs.Uses.{has_sort, width_at}
use Rattle.scc_blocks_spec.specs.Acting.{Acting, with_word, with_asked, put_in, picked}
use Rattle.scc_blocks_spec.specs.Shown.{Sight, Shows, ShowsCell, IsAsked, View, Constant, Read, Driven, Delayed, Plain, Next}
use Rattle.scc_blocks_spec.specs.Lowered.{Fits}
use Rattle.scc_lower_spec.specs.Selected.{part_left}
use Rattle.scc_lower_spec.proofs.Bytes.{and_left, and_right}
use Rattle.scc_lower_laws.specs.Lowers.{IsNumbered}
use Rattle.scc_lower_laws.specs.Puts.{written_variable, IsWrittenBy}
use Rattle.scc_lower_laws.proofs.Options.{some_same, map_is}
use Rattle.scc_lower_laws.proofs.Sequence.{updated-same, updated-other}

-- ---- the word of a variable after an assignment

same-number : (m n : ℕ) → nat_eq m n ≡ true → m ≡ n
same-number m n e = same_of_eq m n e

all-replaced : (w old new : ℕ) → 1 ≤ w → old < 2 ^ w → replaced (w - 1) 0 old new ≡ new
all-replaced w old new o l =
    let n : w - 1 + 1 ≡ w = omega (arith, o) in
    let d : old / 2 ^ (w - 1 + 1) ≡ 0 = ap (λ k. old / 2 ^ k) n ∙ div-eq_of_lt l in
    let e : old % 2 ^ 0 ≡ 0 = omega arith in
    (λ i. d i * 2 ^ (w - 1 + 1) + new * 2 ^ 0 + e i) ∙ omega arith

module _ (v : VarId) (w h l new old : ℕ) (some : 1 ≤ w) (small : old < 2 ^ w) (o : l ≤ h) (b : h < w) where
  pub left-replaced : running.replaced (part_left v w h l) new old ≡ replaced h l old new
  left-replaced = by (nat_eq l 0 && nat_eq h (w - 1)) (nat_eq h l) refl refl
    where
      by : (p q : Bool) → (nat_eq l 0 && nat_eq h (w - 1)) ≡ p → nat_eq h l ≡ q → running.replaced (if p then Whole v else (if q then Bit v h else Range v h l)) new old ≡ replaced h l old new
      by true q c d =
          let low : l ≡ 0 = same-number l 0 (and_left (nat_eq l 0) (nat_eq h (w - 1)) c) in
          let high : h ≡ w - 1 = same-number h (w - 1) (and_right (nat_eq l 0) (nat_eq h (w - 1)) c) in
          sym ((λ i. replaced (high i) (low i) old new) ∙ all-replaced w old new some small)
      by false true c d = let same : h ≡ l = same-number h l d in ap (λ k. replaced h k old new) same
      by false false c d = refl

  pub wide-left : (width : ℕ → ℕ) → width v.0 ≡ w → left_width width (part_left v w h l) ≡ h - l + 1
  wide-left width e = by (nat_eq l 0 && nat_eq h (w - 1)) (nat_eq h l) refl refl
    where
      by : (p q : Bool) → (nat_eq l 0 && nat_eq h (w - 1)) ≡ p → nat_eq h l ≡ q → left_width width (if p then Whole v else (if q then Bit v h else Range v h l)) ≡ h - l + 1
      by true q c d =
          let low : l ≡ 0 = same-number l 0 (and_left (nat_eq l 0) (nat_eq h (w - 1)) c) in
          let high : h ≡ w - 1 = same-number h (w - 1) (and_right (nat_eq l 0) (nat_eq h (w - 1)) c) in
          e ∙ omega (arith, low, high, some)
      by false true c d = let same : h ≡ l = same-number h l d in omega (arith, same)
      by false false c d = refl

-- all bits are the variable itself
pub part-all : (v : VarId) (w : ℕ) → part_left v w (w - 1) 0 ≡ Whole v
part-all v w = ap (λ p. if p then Whole v else (if nat_eq (w - 1) 0 then Bit v (w - 1) else Range v (w - 1) 0)) (eq_same (w - 1))

module _ (s : Sight) (width : ℕ → ℕ) (number : IsNumbered s) where
  -- another variable, of another cell
  other-even : (c d v : ℕ) → (2 * c ≤ v) → (v ≤ 2 * c + 1) → nat_eq c d ≡ false → nat_eq v (2 * d) ≡ false
  other-even c d v h k e = grind (arith, h, k, e)

  other-odd : (c d v : ℕ) → (2 * c ≤ v) → (v ≤ 2 * c + 1) → nat_eq c d ≡ false → nat_eq v (2 * d + 1) ≡ false
  other-odd c d v h k e = grind (arith, h, k, e)

  -- a cell whose words and requests stay is shown as before
  kept-cell : (u : View) (d : ℕ) (a b : Acting) (x y : ℕ → ℕ) → b.now d ≡ a.now d → b.asked d ≡ a.asked d → y (2 * d) ≡ x (2 * d) → y (2 * d + 1) ≡ x (2 * d + 1) → ShowsCell u d a x → ShowsCell u d b y
  kept-cell (Constant w) d a b x y n k e f h = n ∙ h
  kept-cell Read d a b x y n k e f h = e ∙ h ∙ sym n
  kept-cell Driven d a b x y n k e f h = let P : ℕ → Type 0 = λ z. IsAsked (b.asked d) z in subst P (sym e) (let Q : Option ℕ → Type 0 = λ o. IsAsked o (x (2 * d)) in subst Q (sym k) h)
  kept-cell Delayed d a b x y n k e f h = (e ∙ h.0 ∙ sym n, f ∙ h.1 ∙ (λ i. unwrap_or (sym k i) (sym n i)))
  kept-cell Plain d a b x y n k e f h = e ∙ h ∙ sym n
  kept-cell Next d a b x y n k e f h = f ∙ h ∙ sym n

  -- ---- what an assignment changes

  abbrev pub HereIs : ℕ → ℕ → Acting → Acting → Bool → Type 0
  HereIs c new a b true = (b.now c ≡ a.now c) × (b.asked c ≡ Some new)
  HereIs c new a b false = (b.now c ≡ new) × (b.asked c ≡ a.asked c)

  -- one cell takes a word, or is asked to
  pub record Change (c new : ℕ) (a b : Acting) : Type 0 where
    pub now : (d : ℕ) → nat_eq c d ≡ false → b.now d ≡ a.now d
    pub asked : (d : ℕ) → nat_eq c d ≡ false → b.asked d ≡ a.asked d
    pub here : HereIs c new a b (has_sort is_root s.cells c)

  word-change : (c w : ℕ) (a b : Acting) → has_sort is_root s.cells c ≡ false → with_word c w a ≡ b → Change c w a b
  word-change c w a b r e = subst (λ b. Change c w a b) e (record {
    now = λ d k. ap (λ t. if t then w else a.now d) k;
    asked = λ d k. refl;
    here = subst (λ t. HereIs c w a (with_word c w a) t) (sym r) (ap (λ t. if t then w else a.now c) (eq_same c), refl);
  })

  asked-change : (c w : ℕ) (a b : Acting) → has_sort is_root s.cells c ≡ true → with_asked c w a ≡ b → Change c w a b
  asked-change c w a b r e = subst (λ b. Change c w a b) e (record {
    now = λ d k. refl;
    asked = λ d k. ap (λ t. if t then Some w else a.asked d) k;
    here = subst (λ t. HereIs c w a (with_asked c w a) t) (sym r) (refl, ap (λ t. if t then Some w else a.asked c) (eq_same c));
  })

  pub whole-change : (c w : ℕ) (a b : Acting) → put_in s.cells a (Some c) core.Whole w ≡ Some b → Change c w a b
  whole-change c w a b = by (has_sort is_root s.cells c) refl
    where
      by : (r : Bool) → has_sort is_root s.cells c ≡ r → (if r then Some (with_asked c w a) else Some (with_word c w a)) ≡ Some b → Change c w a b
      by true r e = asked-change c w a b r (some_same e)
      by false r e = word-change c w a b r (some_same e)

  pub part-change : (c w : ℕ) (k : Pick) (a b : Acting) → has_sort is_root s.cells c ≡ false → put_in s.cells a (Some c) k w ≡ Some b → (new : ℕ) × (picked s.cells a (width_at s.cells c) k (a.now c) w ≡ Some new) × Change c new a b
  part-change c w k a b r e =
      let f : option_map (λ u. with_word c u a) (picked s.cells a (width_at s.cells c) k (a.now c) w) ≡ Some b = sym (ap (λ t. if t then option_map (λ u. with_asked c w a) (picked s.cells a (width_at s.cells c) k 0 w) else option_map (λ u. with_word c u a) (picked s.cells a (width_at s.cells c) k (a.now c) w)) r) ∙ e in
      let m = map_is (picked s.cells a (width_at s.cells c) k (a.now c) w) (λ u. with_word c u a) b f in
      (m.0, m.1, word-change c m.0 a b r m.2)

  now-fits : (c new n : ℕ) (a b : Acting) (t : Bool) → HereIs c new a b t → a.now c < 2 ^ n → new < 2 ^ n → b.now c < 2 ^ n
  now-fits c new n a b true h l m = let P : ℕ → Type 0 = λ z. z < 2 ^ n in subst P (sym h.0) l
  now-fits c new n a b false h l m = let P : ℕ → Type 0 = λ z. z < 2 ^ n in subst P (sym h.0) m

  ask-fits : (c new n w : ℕ) (a b : Acting) (t : Bool) → HereIs c new a b t → ((w : ℕ) → a.asked c ≡ Some w → w < 2 ^ n) → new < 2 ^ n → b.asked c ≡ Some w → w < 2 ^ n
  ask-fits c new n w a b true h l m e = let P : ℕ → Type 0 = λ z. z < 2 ^ n in subst P (some_same (sym h.1 ∙ e)) m
  ask-fits c new n w a b false h l m e = l w (sym h.1 ∙ e)

  ask-none : (c new : ℕ) (a b : Acting) (t : Bool) → t ≡ false → HereIs c new a b t → a.asked c ≡ None → b.asked c ≡ None
  ask-none c new a b true r h e = absurd (cc)
  ask-none c new a b false r h e = h.1 ∙ e

  pub change-fits : (c new : ℕ) (a b : Acting) → has_sort is_held s.cells c ≡ true → Change c new a b → new < 2 ^ width_at s.cells c → Fits s a → Fits s b
  change-fits c new a b held k l f = record {
    words = λ d m. words d m (nat_eq c d) refl;
    asks = λ d w m. asks d w m (nat_eq c d) refl;
    roots = λ d r. roots d r (nat_eq c d) refl;
  }
    where
      words : (d : ℕ) → has_sort is_held s.cells d ≡ true → (t : Bool) → nat_eq c d ≡ t → b.now d < 2 ^ width_at s.cells d
      words d m true e = let P : ℕ → Type 0 = λ d. b.now d < 2 ^ width_at s.cells d in subst P (same_of_eq c d e) (now-fits c new (width_at s.cells c) a b (has_sort is_root s.cells c) k.here (f.words c held) l)
      words d m false e = let P : ℕ → Type 0 = λ z. z < 2 ^ width_at s.cells d in subst P (sym (k.now d e)) (f.words d m)

      asks : (d w : ℕ) → has_sort is_held s.cells d ≡ true → (t : Bool) → nat_eq c d ≡ t → b.asked d ≡ Some w → w < 2 ^ width_at s.cells d
      asks d w m true e = let P : ℕ → Type 0 = λ d. b.asked d ≡ Some w → w < 2 ^ width_at s.cells d in subst P (same_of_eq c d e) (ask-fits c new (width_at s.cells c) w a b (has_sort is_root s.cells c) k.here (λ w. f.asks c w held) l)
      asks d w m false e = λ h. f.asks d w m (sym (k.asked d e) ∙ h)

      roots : (d : ℕ) → has_sort is_root s.cells d ≡ false → (t : Bool) → nat_eq c d ≡ t → b.asked d ≡ None
      roots d r true e =
          let P : ℕ → Type 0 = λ d. has_sort is_root s.cells d ≡ false → b.asked d ≡ None in
          subst P (same_of_eq c d e) (λ r. ask-none c new a b (has_sort is_root s.cells c) r k.here (f.roots c r)) r
      roots d r false e = k.asked d e ∙ f.roots d r

  -- ---- what the variables show then

  pub variable-range : (u : View) (c : ℕ) → (2 * c ≤ written_variable u c) × (written_variable u c ≤ 2 * c + 1)
  variable-range (Constant w) c = (omega arith, omega arith)
  variable-range Read c = (omega arith, omega arith)
  variable-range Driven c = (omega arith, omega arith)
  variable-range Delayed c = (omega arith, omega arith)
  variable-range Plain c = (omega arith, omega arith)
  variable-range Next c = (omega arith, omega arith)

  here-shown : (u : View) (c new : ℕ) (a b : Acting) (x : ℕ → ℕ) (t : Bool) → IsWrittenBy u t → HereIs c new a b t → ShowsCell u c a x → ShowsCell u c b (updated (written_variable u c) new x)
  here-shown (Constant w) c new a b x t r h g = absurd r
  here-shown Read c new a b x t r h g = absurd r
  here-shown Driven c new a b x true r h g = let P : Option ℕ → Type 0 = λ o. IsAsked o (updated (2 * c) new x (2 * c)) in subst P (sym h.1) (updated-same (2 * c) (2 * c) new x (eq_same (2 * c)))
  here-shown Driven c new a b x false r h g = absurd (cc)
  here-shown Delayed c new a b x true r h g = (
    updated-other (2 * c + 1) (2 * c) new x (grind arith) ∙ g.0 ∙ sym h.0,
    updated-same (2 * c + 1) (2 * c + 1) new x (eq_same (2 * c + 1)) ∙ sym (ap (λ o. unwrap_or o (b.now c)) h.1),
  )
  here-shown Delayed c new a b x false r h g = absurd (cc)
  here-shown Plain c new a b x true r h g = absurd (cc)
  here-shown Plain c new a b x false r h g = updated-same (2 * c) (2 * c) new x (eq_same (2 * c)) ∙ sym h.0
  here-shown Next c new a b x true r h g = absurd (cc)
  here-shown Next c new a b x false r h g = updated-same (2 * c + 1) (2 * c + 1) new x (eq_same (2 * c + 1)) ∙ sym h.0

  pub change-shows : (c new : ℕ) (a b : Acting) (x : ℕ → ℕ) → s.mine c ≡ true → IsWrittenBy (s.view c) (has_sort is_root s.cells c) → Change c new a b → Shows s a x → Shows s b (updated (written_variable (s.view c) c) new x)
  change-shows c new a b x mine r k g = record {
    cells = λ d m. cells d m (nat_eq c d) refl;
    leaving = updated-other (written_variable (s.view c) c) (2 * length s.cells) new x (grind (arith, range.1, number c mine)) ∙ g.leaving;
  }
    where
      range : (2 * c ≤ written_variable (s.view c) c) × (written_variable (s.view c) c ≤ 2 * c + 1)
      range = variable-range (s.view c) c

      cells : (d : ℕ) → s.mine d ≡ true → (t : Bool) → nat_eq c d ≡ t → ShowsCell (s.view d) d b (updated (written_variable (s.view c) c) new x)
      cells d m true e = let P : ℕ → Type 0 = λ d. ShowsCell (s.view d) d b (updated (written_variable (s.view c) c) new x) in subst P (same_of_eq c d e) (here-shown (s.view c) c new a b x (has_sort is_root s.cells c) r k.here (g.cells c mine))
      cells d m false e =
          kept-cell (s.view d) d a b x (updated (written_variable (s.view c) c) new x) (k.now d e) (k.asked d e)
          (updated-other (written_variable (s.view c) c) (2 * d) new x (other-even c d (written_variable (s.view c) c) range.0 range.1 e))
          (updated-other (written_variable (s.view c) c) (2 * d + 1) new x (other-odd c d (written_variable (s.view c) c) range.0 range.1 e)) (g.cells d m)
