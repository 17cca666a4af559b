-- Assignments to one cell.
use Rattle.scc_lower_laws.specs.Elements.{KnowsIndex}
use Rattle.scc_semantics.specs.Scene.{index_of, with_bit}
use Rattle.std.proofs.Common.{◌≡◌, ◌<◌, ◌≤◌, ◌^◌, ◌+◌, ◌-◌, ℕ, nat_eq, nat_lt, Bool, true, false, ◌||◌, if◌then◌else◌, [], refl, sym, ap, ◌∙◌, subst, arith}
use Rattle.scc_bits_kinds.specs.Bits.{replaced}
use Rattle.scc_bits_kinds.specs.Kinds.{width_of}
use Rattle.scc_bits.proofs.Parts.{replaced_fits}
use Rattle.scc_svtree.specs.declared.expr.SvLeft.{SvLeft}
use Rattle.scc_svtree.specs.Code.{End, Assign}
use Rattle.scc_svtree.specs.Term as emitted
use Rattle.scc_svtree.specs.Running.{run, updated, after_assign, var_of, left_width}
use Rattle.scc_svtree.specs.Running as running
use Rattle.scc_svtree.specs.Sizes.{sized, assigned}
use Rattle.scc_svtree.proofs.Agree.{same_of_eq}
use Rattle.scc_core_spec.specs.Program.{is_root}
use Rattle.scc_lower_laws.proofs.Options.{some_same, map_is}
use Rattle.scc_core_spec.specs.Term as core
use Rattle.scc_core_spec.specs.Term.{Term, Pick, kind_of}
use Rattle.scc_core_spec.specs.Uses.{has_sort, width_at}
use Rattle.scc_blocks_spec.specs.Acting.{Acting, word_in, picked}
use Rattle.scc_blocks_spec.specs.Shown.{Sight, Shows, ShowsCell, View, Constant, Read, Driven, Delayed, Plain, Next}
use Rattle.scc_lower_spec.specs.Selected.{part_left}
use Rattle.scc_lower_laws.specs.Sequence.{whole}
use Rattle.scc_lower_laws.specs.Lowers.{temporary, IsNumbered}
use Rattle.scc_lower_laws.specs.Puts.{AssignsBelow, written_variable, IsWrittenBy, IsWritten, IsPut, Puts, PicksBits}
use Rattle.scc_lower_laws.proofs.Elements.{part-var}
use Rattle.scc_lower_laws.proofs.Sequence.{gives-assigned}
use Rattle.scc_lower_laws.proofs.Cells.{left-replaced, wide-left, whole-change, part-change, change-fits, change-shows, variable-range}

module _ (s : Sight) (width : ℕ → ℕ) (number : IsNumbered s) where
  -- a variable of a cell is no temporary
  variable-below : (m c v : ℕ) → s.mine c ≡ true → v ≡ written_variable (s.view c) c → v < temporary s m
  variable-below m c v mine e = let r = variable-range s width number (s.view c) c in omega (arith, r.1, number c mine, e)

  pub assign-below : (m c : ℕ) (l : SvLeft) (t : emitted.Term) → s.mine c ≡ true → var_of l ≡ written_variable (s.view c) c → AssignsBelow s m (Assign l t End)
  assign-below m c l t mine e v d = by (nat_eq (var_of l) v) refl d
    where
      by : (b : Bool) → nat_eq (var_of l) v ≡ b → (b || false) ≡ true → v < temporary s m
      by true k d = let P : ℕ → Type 0 = λ v. v < temporary s m in subst P (same_of_eq (var_of l) v k) (variable-below m c (var_of l) mine e)
      by false k d = absurd (cc)

  -- the whole of a cell
  pub put-whole : (m bits c : ℕ) (e : Term) (t : emitted.Term) → IsWritten s width bits c → width_of (kind_of e) ≡ bits → Puts s width m (IsPut s width core.Whole e t) [] [] c (Assign (whole (written_variable (s.view c) c)) t End)
  put-whole m bits c e t r same = record {
    puts = λ a b x is f g h p. (
        let k = whole-change s width number c p.word a b p.is in
        let w : width (written_variable (s.view c) c) ≡ width_of (kind_of e) = r.variable ∙ sym same in
        let given : assigned (width (written_variable (s.view c) c)) (sized false width x t) ≡ p.word = ap (λ z. assigned z (sized false width x t)) w ∙ gives-assigned (sized false width x t) (width_of (kind_of e)) p.word p.fits p.gives in
        let P : ℕ → Type 0 = λ z. p.word < 2 ^ z in
        let small : p.word < 2 ^ width_at s.cells c = subst P (same ∙ sym r.is_wide) p.fits in (
          change-fits s width number c p.word a b r.is_held k small f,
          subst (λ z. Shows s b (updated (written_variable (s.view c) c) z x)) (sym given) (change-shows s width number c p.word a b x r.is_named r.is_written k g),
        ));
    framed = assign-below m c (whole (written_variable (s.view c) c)) t r.is_named refl;
  }

  -- a number is shown by the variable to which it is written
  pub number-shown : (u : View) (c : ℕ) (a : Acting) (x : ℕ → ℕ) (t : Bool) → t ≡ false → IsWrittenBy u t → ShowsCell u c a x → x (written_variable u c) ≡ a.now c
  number-shown (Constant w) c a x t e r g = absurd r
  number-shown Read c a x t e r g = absurd r
  number-shown Driven c a x t e r g = absurd (cc)
  number-shown Delayed c a x t e r g = absurd (cc)
  number-shown Plain c a x t e r g = g
  number-shown Next c a x t e r g = g

  -- the valuation after an assignment of some bits
  part-after : (v bits h l new : ℕ) (t : emitted.Term) (x : ℕ → ℕ) → 1 ≤ bits → x v < 2 ^ bits → l ≤ h → h < bits → width v ≡ bits → assigned (h - l + 1) (sized false width x t) ≡ new
      → run width (Assign (part_left (record { 0 = v }) bits h l) t End) x ≡ updated v (replaced h l (x v) new) x
  part-after v bits h l new t x some small o top wide given =
      let n = wide-left (record { 0 = v }) bits h l new (x v) some small o top width wide in
      let e : assigned (left_width width (part_left (record { 0 = v }) bits h l)) (sized false width x t) ≡ new = ap (λ z. assigned z (sized false width x t)) n ∙ given in
      (λ i. updated (part-var (record { 0 = v }) bits h l i) (running.replaced (part_left (record { 0 = v }) bits h l) (e i) (x (part-var (record { 0 = v }) bits h l i))) x)
      ∙ ap (λ z. updated v z x) (left-replaced (record { 0 = v }) bits h l new (x v) some small o top)

  -- some bits of a cell that is no root
  pub put-part : (m bits c h l : ℕ) (k : Pick) (e : Term) (t : emitted.Term) → IsWritten s width bits c → has_sort is_root s.cells c ≡ false → 1 ≤ bits → l ≤ h → h < bits → width_of (kind_of e) ≡ h - l + 1 → PicksBits s k bits h l
      → Puts s width m (IsPut s width k e t) [] [] c (Assign (part_left (record { 0 = written_variable (s.view c) c }) bits h l) t End)
  put-part m bits c h l k e t r root some o top same picks = record {
    puts = λ a b x is f g q p. (
        let u = part-change s width number c p.word k a b root p.is in
        let cell : a.now c < 2 ^ bits = (let P : ℕ → Type 0 = λ z. a.now c < 2 ^ z in subst P r.is_wide (f.words c r.is_held)) in
        let shown : x (written_variable (s.view c) c) ≡ a.now c = number-shown (s.view c) c a x (has_sort is_root s.cells c) root r.is_written (g.cells c r.is_named) in
        let P : ℕ → Type 0 = λ z. p.word < 2 ^ z in
        let small : p.word < 2 ^ (h - l + 1) = subst P same p.fits in
        let new : u.0 ≡ replaced h l (a.now c) p.word = picks a x (a.now c) p.word u.0 f g (ap (λ z. picked s.cells a z k (a.now c) p.word) (sym r.is_wide) ∙ u.1) in
        let fits : u.0 < 2 ^ width_at s.cells c = (let Q : ℕ → Type 0 = λ z. z < 2 ^ width_at s.cells c in let R : ℕ → Type 0 = λ z. replaced h l (a.now c) p.word < 2 ^ z in subst Q (sym new) (subst R (sym r.is_wide) (replaced_fits bits h l (a.now c) p.word o top cell small))) in
        let given : assigned (h - l + 1) (sized false width x t) ≡ p.word = ap (λ z. assigned z (sized false width x t)) (sym same) ∙ gives-assigned (sized false width x t) (width_of (kind_of e)) p.word p.fits p.gives in
        let S : ℕ → Type 0 = λ z. z < 2 ^ bits in
        let after = part-after (written_variable (s.view c) c) bits h l p.word t x some (subst S (sym shown) cell) o top r.variable given in (
          change-fits s width number c u.0 a b r.is_held u.2 fits f,
          subst (λ y. Shows s b y) (sym (after ∙ (λ i. updated (written_variable (s.view c) c) (replaced h l (shown i) p.word) x) ∙ ap (λ z. updated (written_variable (s.view c) c) z x) (sym new))) (change-shows s width number c u.0 a b x r.is_named r.is_written u.2 g),
        ));
    framed = assign-below m c (part_left (record { 0 = written_variable (s.view c) c }) bits h l) t r.is_named (part-var (record { 0 = written_variable (s.view c) c }) bits h l);
  }

-- ---- which bits a pick takes

pub picks-range : (s : Sight) (bits h l : ℕ) → PicksBits s (core.Bits h l) bits h l
picks-range s bits h l a x old w new f g e = sym (some_same e)

pub picks-bit : (s : Sight) (bits b : ℕ) (i : Term) → KnowsIndex s i b → b < bits → PicksBits s (core.OneBit i) bits b b
picks-bit s bits b i know o a x old w new f g e =
    let n = map_is (word_in s.cells a i) (λ j. with_bit bits old (index_of (kind_of i) j) w) new e in
    let is = know a x n.0 f g n.1 in
    let inside : nat_lt b bits ≡ true = grind (arith, o) in
    sym n.2 ∙ ap (λ j. with_bit bits old j w) is ∙ ap (λ q. if q then replaced b b old w else old) inside
