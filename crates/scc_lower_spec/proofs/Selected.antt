-- What bits of variables and values give, and concatenations.
use Rattle.std.specs.Prelude.{◌≡◌, ℕ, ◌+◌, ◌-◌, ◌*◌, ◌/◌, ◌%◌, ◌^◌, ◌<◌, ◌≤◌, Bool, true, false, ◌&&◌, cond, nat_eq, nat_lt, int_lt, if◌then◌else◌, pos, List, [], ◌∷◌}
use Rattle.std.proofs.Common.{refl, sym, ◌∙◌, ap, subst, arith}
use Rattle.std.proofs.Math.Nat.{mod-lt, mod-eq_of_lt}
use Rattle.std.proofs.lemmas.Int.{ints}
use Rattle.std.proofs.lemmas.Nat.{pow_pos, pow-add, mul-add-lt}
use Rattle.scc_bits_kinds.specs.declared.op.Op.TheVariants as op
use Rattle.scc_bits_kinds.specs.Numbers.{low, bit}
use Rattle.scc_bits_kinds.proofs.Low.{low_low}
use Rattle.scc_svtree.specs.declared.expr.VarId.{VarId}
use Rattle.scc_svtree.specs.declared.expr.SvLeft.TheVariants.{Whole, Bit, Range}
use Rattle.scc_svtree.specs.Sizes.{Sized, fixed, sized, sized_left, sized_compare, sized_shift, part}
use Rattle.scc_svtree.specs.Term.{Term, joined}
use Rattle.scc_lower_spec.specs.Gives.{Gives}
use Rattle.scc_lower_spec.specs.Selected.{part_left, bit_term, halves_term, Piece, pieces_width, pieces_word, GivePieces}
use Rattle.scc_lower_spec.proofs.Gives.{gives_fixed, gives_sign, gives_shift, gives_compare, gives_cond, gives_narrow, gives_join}
use Rattle.scc_lower_spec.proofs.Bytes.{and_left, and_right}

-- all bits of a word are the word
all_bits : (y w : ℕ) → y < 2 ^ w → y ≡ y / 2 ^ 0 % 2 ^ w
all_bits y w p = sym (mod-eq_of_lt p) ∙ ap (λ n. n % 2 ^ w) (omega arith)

pub part_gives : (width x : ℕ → ℕ) (v : VarId) (w h l : ℕ) → width v.0 ≡ w → x v.0 < 2 ^ w → l ≤ h → h < w → Gives false (sized_left width x (part_left v w h l)) (h - l + 1) (part h l (x v.0))
part_gives width x v w h l e small a b = by (nat_eq l 0 && nat_eq h (w - 1)) (nat_eq h l) refl refl
  where
    number : (m n : ℕ) → nat_eq m n ≡ true → m ≡ n
    number m n d = grind arith

    by : (p q : Bool) → (nat_eq l 0 && nat_eq h (w - 1)) ≡ p → nat_eq h l ≡ q → Gives false (sized_left width x (if p then Whole v else (if q then Bit v h else Range v h l))) (h - l + 1) (part h l (x v.0))
    by true q c d =
        let zero_is : l ≡ 0 = number l 0 (and_left (nat_eq l 0) (nat_eq h (w - 1)) c) in
        let last : h ≡ w - 1 = number h (w - 1) (and_right (nat_eq l 0) (nat_eq h (w - 1)) c) in
        let n : w ≡ h - l + 1 = omega arith in
        let whole : x v.0 ≡ part h l (x v.0) = all_bits (x v.0) w small ∙ (λ i. x v.0 / 2 ^ sym zero_is i % 2 ^ n i) in
        let g : Gives false (fixed (width v.0) false (x v.0)) w (x v.0) = subst (λ k. Gives false (fixed k false (x v.0)) w (x v.0)) (sym e) (gives_fixed false w (x v.0) small) in
        subst (λ k. Gives false (fixed (width v.0) false (x v.0)) k (part h l (x v.0))) n (g.0, g.1, g.2 ∙ whole)
    by false true c d =
        let same : h ≡ l = number h l d in
        let one : 1 ≡ h - l + 1 = omega arith in
        let all : h - h + 1 ≡ 1 = omega arith in
        let less : part h h (x v.0) < 2 ^ (h - h + 1) = mod-lt (x v.0 / 2 ^ h) (pow_pos (h - h + 1)) in
        let bit : part h h (x v.0) < 2 ^ 1 = subst (λ k. part h h (x v.0) < 2 ^ k) all less in
        let g = gives_fixed false 1 (part h h (x v.0)) bit in
        subst (λ k. Gives false (fixed 1 false (part h h (x v.0))) k (part h l (x v.0))) one (g.0, g.1, g.2 ∙ ap (λ k. part h k (x v.0)) same)
    by false false c d = gives_fixed false (h - l + 1) (part h l (x v.0)) (mod-lt (x v.0 / 2 ^ l) (pow_pos (h - l + 1)))

module _ (wide : Bool) (width x : ℕ → ℕ) where
  abbrev of : Term → Sized
  of t = sized wide width x t

  -- the bit at an index is the lowest one of a shift; past the end it is 0
  pub bit_gives : (t at : Term) (w m y k : ℕ) → 1 ≤ w → Gives false (of t) w y → Gives false (of at) m k → Gives false (of (bit_term t at)) 1 (y / 2 ^ k % 2)
  bit_gives t at w m y k o g h =
      let u = gives_shift false false false op.Shr (of t) (of at) w m y k g h in
      let n = gives_narrow false wide (sized_shift false op.Shr (of t) (of at)) w 1 (low w (pos (y / 2 ^ k))) o u in
      (n.0, n.1, n.2 ∙ low_low 1 w (pos (y / 2 ^ k)) o)

  pub pieces_fit : (ts : List Term) (ps : List Piece) → GivePieces wide width x ts ps → pieces_word ps < 2 ^ pieces_width ps
  pieces_fit [] [] g = omega arith
  pieces_fit (t ∷ ts) (p ∷ ps) g =
      let more = pieces_fit ts ps g.2 in
      omega (arith, pow-add 2 p.width (pieces_width ps), mul-add-lt p.word (2 ^ pieces_width ps) (pieces_word ps) (2 ^ p.width) g.0 more)
  pieces_fit [] (p ∷ ps) g = absurd g
  pieces_fit (t ∷ ts) [] g = absurd g

  -- a concatenation gives the words of its parts, one above the other
  pub concat_gives : (ts : List Term) (ps : List Piece) → GivePieces wide width x ts ps → Gives false (of (joined ts)) (pieces_width ps) (pieces_word ps)
  concat_gives [] [] g = gives_fixed false 0 0 (omega arith)
  concat_gives [] (p ∷ ps) g = absurd g
  concat_gives (t ∷ ts) [] g = absurd g
  concat_gives (t ∷ []) (p ∷ []) g =
      let n : p.width ≡ p.width + 0 = omega arith in
      let v : p.word ≡ p.word * 2 ^ 0 + 0 = omega arith in
      let s = gives_sign false false (of t) p.width p.word g.0 g.1 in
      subst (λ k. Gives false (of (joined (t ∷ []))) k (p.word * 2 ^ 0 + 0)) n (s.0, s.1, s.2 ∙ v)
  concat_gives (t ∷ []) (p ∷ q ∷ ps) g = absurd g.2
  concat_gives (t ∷ u ∷ ts) (p ∷ []) g = absurd g.2
  concat_gives (t ∷ u ∷ ts) (p ∷ q ∷ ps) g =
      gives_join (of t) (of (joined (u ∷ ts))) p.width (pieces_width (q ∷ ps)) p.word (pieces_word (q ∷ ps)) g.0 (pieces_fit (u ∷ ts) (q ∷ ps) g.2) g.1 (concat_gives (u ∷ ts) (q ∷ ps) g.2)

  -- the first of two expressions where the index is below the number, else the second
  pub halves_give : (at t u : Term) (m k n w y z : ℕ) → n < 2 ^ m → Gives false (of at) m k → Gives false (of t) w y → Gives false (of u) w z → Gives false (of (halves_term m at n t u)) w (if nat_lt k n then y else z)
  halves_give at t u m k n w y z h g a b =
      let c = gives_compare false op.Lt (of at) (fixed m false n) m k n g (gives_fixed false m n h) in
      let r = gives_cond false false (sized_compare op.Lt (of at) (fixed m false n)) (of t) (of u) 1 w (low 1 (bit (int_lt (pos k) (pos n)))) y z c a b in
      (r.0, r.1, r.2 ∙ pulled (int_lt (pos k) (pos n)) ∙ ap (λ q. if q then y else z) (same_test k n))
    where
      pulled : (q : Bool) → cond (nat_eq (low 1 (bit q)) 0) z y ≡ (if q then y else z)
      pulled true = refl
      pulled false = refl

      same_test : (k n : ℕ) → int_lt (pos k) (pos n) ≡ nat_lt k n
      same_test k n = grind (arith, ints)
