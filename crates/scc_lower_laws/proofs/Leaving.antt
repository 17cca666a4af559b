-- The variable of the block that is being left.
use Rattle.std.specs.Prelude.{pos}
use Rattle.std.specs.Ordering.{int_eq}
use Rattle.std.proofs.Common.{◌≡◌, ◌<◌, ◌^◌, ◌*◌, ◌+◌, ℕ, nat_eq, Bool, true, false, cond, ◌||◌, if◌then◌else◌, refl, ap, ◌∙◌, subst, arith}
use Rattle.std.proofs.lemmas.Int.{ints}
use Rattle.std.proofs.lemmas.Nat.{pow_pos}
use Rattle.scc_bits_kinds.specs.declared.op.Op.TheVariants as op
use Rattle.scc_bits_kinds.specs.Numbers.{low, bit}
use Rattle.scc_svtree.specs.Code.{Code, End}
use Rattle.scc_svtree.specs.Mentions.{assigns}
use Rattle.scc_svtree.specs.Running.{run, updated}
use Rattle.scc_svtree.specs.Sizes.{sized, fixed, value_of}
use Rattle.scc_svtree.proofs.Agree.{eq_same, same_of_eq}
use Rattle.scc_blocks_spec.specs.Acting.{Acting}
use Rattle.scc_blocks_spec.specs.Shown.{Sight, ShowsCell}
use Rattle.scc_lower_spec.proofs.Gives.{gives_own, gives_fixed, gives_compare}
use Rattle.scc_lower_laws.specs.Lowers.{temporary, IsNumbered}
use Rattle.scc_lower_laws.specs.Elements.{variable_of}
use Rattle.scc_lower_laws.specs.Puts.{AssignsBelow}
use Rattle.scc_lower_laws.specs.Statements.{leaving, Skips, leaving_is, leave_code, guard_code, back_code}
use Rattle.scc_lower_laws.proofs.Sequence.{variable-gives, gives-assigned, updated-same, updated-other}
use Rattle.scc_lower_laws.proofs.Frames.{cell-stays}

same-test : (n k : ℕ) → int_eq (pos n) (pos k) ≡ nat_eq n k
same-test n k = grind (arith, ints)

as-bit : (b : Bool) → nat_eq (low 1 (bit b)) 0 ≡ (if b then false else true)
as-bit true = refl
as-bit false = refl

module _ (s : Sight) (width : ℕ → ℕ) where
  -- whether that block is being left
  pub test-is : (x : ℕ → ℕ) (n k : ℕ) → x (leaving s) ≡ n → n < 2 ^ width (leaving s) → k < 2 ^ width (leaving s) → nat_eq (value_of width x (leaving_is s width k)) 0 ≡ (if nat_eq n k then false else true)
  test-is x n k e l h =
      let w = width (leaving s) in
      let g = gives_compare false op.Eq (sized false width x (variable_of (leaving s))) (fixed w false k) w n k (variable-gives width x (leaving s) w n refl e l) (gives_fixed false w k h) in
      ap (λ z. nat_eq z 0) (gives_own false (sized false width x (leaving_is s width k)) 1 (low 1 (bit (int_eq (pos n) (pos k)))) g)
      ∙ ap (λ b. nat_eq (low 1 (bit b)) 0) (same-test n k) ∙ as-bit (nat_eq n k)

  -- what is guarded runs where no block is being left, and else is skipped
  pub guard-runs : (code : Code) (x : ℕ → ℕ) → x (leaving s) ≡ 0 → run width (guard_code s width code) x ≡ run width code x
  guard-runs code x e = ap (λ b. cond b x (run width code x)) (test-is x 0 0 e (pow_pos (width (leaving s))) (pow_pos (width (leaving s))))

  pub guard-skips : (code : Code) → Skips s width (guard_code s width code)
  guard-skips code x some small =
      let n : nat_eq (x (leaving s)) 0 ≡ false = grind (arith, some) in
      ap (λ b. cond b x (run width code x)) (test-is x (x (leaving s)) 0 refl small (pow_pos (width (leaving s))) ∙ ap (λ b. if b then false else true) n)

  -- ---- the number is set

  pub leave-runs : (k : ℕ) (x : ℕ → ℕ) → k < 2 ^ width (leaving s) → run width (leave_code s width k End) x ≡ updated (leaving s) k x
  leave-runs k x l = ap (λ z. updated (leaving s) z x) (gives-assigned (fixed (width (leaving s)) false k) (width (leaving s)) k l (gives_fixed false (width (leaving s)) k l))

  pub leaving-below : (m k : ℕ) → AssignsBelow s m (leave_code s width k End)
  leaving-below m k v d = by (nat_eq (leaving s) v) refl d
    where
      by : (b : Bool) → nat_eq (leaving s) v ≡ b → (b || false) ≡ true → v < temporary s m
      by true e d = let P : ℕ → Type 0 = λ v. v < temporary s m in subst P (same_of_eq (leaving s) v e) (omega arith)
      by false e d = absurd (cc)

  -- the cells stay
  pub cells-stay : (a : Acting) (k : ℕ) (x : ℕ → ℕ) (c : ℕ) → IsNumbered s → s.mine c ≡ true → ShowsCell (s.view c) c a x → ShowsCell (s.view c) c a (updated (leaving s) k x)
  cells-stay a k x c number m h =
      let l = number c m in
      let even : nat_eq (leaving s) (2 * c) ≡ false = grind (arith, l) in
      let odd : nat_eq (leaving s) (2 * c + 1) ≡ false = grind (arith, l) in
      cell-stays s (s.view c) c a x (updated (leaving s) k x) (updated-other (leaving s) (2 * c) k x even) (updated-other (leaving s) (2 * c + 1) k x odd) h

  pub leaving-set : (k : ℕ) (x : ℕ → ℕ) → updated (leaving s) k x (leaving s) ≡ k
  leaving-set k x = updated-same (leaving s) (leaving s) k x (eq_same (leaving s))

  -- ---- a block that is left ends the leaving; else nothing happens

  pub back-ends : (k : ℕ) (x : ℕ → ℕ) → x (leaving s) ≡ k → k < 2 ^ width (leaving s) → run width (back_code s width k) x ≡ updated (leaving s) 0 x
  back-ends k x e l =
      ap (λ b. cond b x (run width (leave_code s width 0 End) x)) (test-is x k k e l l ∙ ap (λ b. if b then false else true) (eq_same k)) ∙ leave-runs 0 x (pow_pos (width (leaving s)))

  pub back-skips : (k n : ℕ) (x : ℕ → ℕ) → x (leaving s) ≡ n → n < 2 ^ width (leaving s) → k < 2 ^ width (leaving s) → nat_eq n k ≡ false → run width (back_code s width k) x ≡ x
  back-skips k n x e l h d = ap (λ b. cond b x (run width (leave_code s width 0 End) x)) (test-is x n k e l h ∙ ap (λ b. if b then false else true) d)

  pub back-below : (m k : ℕ) → AssignsBelow s m (back_code s width k)
  back-below m k v d = leaving-below m 0 v (or_ends (assigns (leave_code s width 0 End) v) d)
    where
      or_ends : (b : Bool) → ((b || false) || false) ≡ true → b ≡ true
      or_ends true e = refl
      or_ends false e = absurd (cc)
