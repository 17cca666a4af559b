-- Signs and divisors of operators.
use Rattle.std.proofs.Common.{◌≡◌, ◌<◌, ◌≤◌, ◌^◌, ℕ, Bool, true, false, refl, sym, ap, ◌∙◌, arith, subst, zero, suc}
use Rattle.std.proofs.lemmas.Nat.{pow_pos}
use Rattle.std.specs.Prelude.{pos, ℤ}
use Rattle.scc_bits_kinds.specs.declared.op.Op.{Op}
use Rattle.scc_bits_kinds.specs.declared.op.Op.TheVariants as op
use Rattle.scc_bits_kinds.specs.Numbers.{low, reading}
use Rattle.scc_bits_kinds.specs.Operators.{exact, Signs, Divisor}
use Rattle.scc_bits_kinds.proofs.Low.{low_word, low_less, low_low, low_reading}
use Rattle.scc_svtree.proofs.Values.{own_fixed}
use Rattle.scc_svtree.specs.Term.{Term, Literal, Sign}
use Rattle.scc_svtree.specs.Classes.{IsContext, IsShift, IsComparison, IsLogical}
use Rattle.scc_svtree.specs.Sizes.{sized}
use Rattle.scc_svtree.specs.Sized.{IsSized, IsDivisor, TakesDivisor}

pub logical_width : (o : Op) (m n : ℕ) (x y : ℤ) → IsLogical o → exact o m x y ≡ exact o n x y
logical_width op.LogAnd m n x y h = refl
logical_width op.LogOr m n x y h = refl
logical_width o m n x y h = elim h [ ]

pub logical_signs : (o : Op) (s t : Bool) → IsLogical o → Signs o s t
logical_signs op.LogAnd s t h = tt
logical_signs op.LogOr s t h = tt
logical_signs o s t h = elim h [ ]

pub logical_divisor : (o : Op) (y : ℕ) → IsLogical o → Divisor o y
logical_divisor op.LogAnd y h = tt
logical_divisor op.LogOr y h = tt
logical_divisor o y h = elim h [ ]

pub context_signs : (o : Op) (s : Bool) → IsContext o → Signs o s s
context_signs op.Add s h = tt
context_signs op.Sub s h = tt
context_signs op.Mul s h = tt
context_signs op.Div s h = refl
context_signs op.Rem s h = refl
context_signs op.And s h = tt
context_signs op.Or s h = tt
context_signs op.Xor s h = tt
context_signs o s h = elim h [ ]

pub shift_signs : (o : Op) (s : Bool) → IsShift o → Signs o s false
shift_signs op.Shl s h = refl
shift_signs op.Shr s h = refl
shift_signs o s h = elim h [ ]

pub shift_divisor : (o : Op) (y : ℕ) → IsShift o → Divisor o y
shift_divisor op.Shl y h = tt
shift_divisor op.Shr y h = tt
shift_divisor o y h = elim h [ ]

pub comparison_signs : (o : Op) (s : Bool) → IsComparison o → Signs o s s
comparison_signs op.Eq s h = refl
comparison_signs op.Ne s h = refl
comparison_signs op.Lt s h = refl
comparison_signs op.Le s h = refl
comparison_signs op.Gt s h = refl
comparison_signs op.Ge s h = refl
comparison_signs o s h = elim h [ ]

pub comparison_divisor : (o : Op) (y : ℕ) → IsComparison o → Divisor o y
comparison_divisor op.Eq y h = tt
comparison_divisor op.Ne y h = tt
comparison_divisor op.Lt y h = tt
comparison_divisor op.Le y h = tt
comparison_divisor op.Gt y h = tt
comparison_divisor op.Ge y h = tt
comparison_divisor o y h = elim h [ ]

-- a word other than 0 stays so in more bits
kept_nonzero : (s : Bool) (w n v : ℕ) → v < 2 ^ w → w ≤ n → 0 < v → 0 < low n (reading s w (low w (pos v)))
kept_nonzero s w n v fits wide some =
    let a : low w (pos v) ≡ v = low_word w v fits in
    let b : low w (pos (low n (reading s w (low w (pos v))))) ≡ low w (reading s w (low w (pos v))) = low_low w n (reading s w (low w (pos v))) wide in
    let c : low w (reading s w (low w (pos v))) ≡ low w (pos v) = low_reading s w (low w (pos v)) (low_less w (pos v)) in
    go (low n (reading s w (low w (pos v)))) refl (b ∙ c ∙ a)
  where
    go : (r : ℕ) → low n (reading s w (low w (pos v))) ≡ r → low w (pos (low n (reading s w (low w (pos v))))) ≡ v → 0 < low n (reading s w (low w (pos v)))
    go zero e f =
        let z : low w (pos 0) ≡ v = ap (λ r. low w (pos r)) (sym e) ∙ f in
        let o : low w (pos 0) ≡ 0 = low_word w 0 (pow_pos w) in
        absurd (omega arith)
    go (suc r) e f = let P : ℕ → Type 0 = λ m. 0 < m in subst P (sym e) (omega arith)

module _ (width x : ℕ → ℕ) where
  nonzero_word : (t : Term) (n : ℕ) (s : Bool) → IsSized width t → IsDivisor t → (sized false width x t).len ≤ n → 0 < (sized false width x t).word n s
  nonzero_word (Literal w v) n s h d l = kept_nonzero s w n v h.1 l d
  nonzero_word (Sign true (Literal w v)) n s h d l =
      let P : ℕ → Type 0 = λ u. 0 < low n (reading s w (low w (pos u))) in
      subst P (sym (own_fixed w v h.1)) (kept_nonzero s w n v h.1 l d)
  nonzero_word t n s h d l = elim d [ ]

  pub divisor_word : (o : Op) (t : Term) (n : ℕ) (s : Bool) → IsContext o → IsSized width t → TakesDivisor o t → (sized false width x t).len ≤ n → Divisor o ((sized false width x t).word n s)
  divisor_word op.Div t n s c h d l = nonzero_word t n s h d l
  divisor_word op.Rem t n s c h d l = nonzero_word t n s h d l
  divisor_word op.Add t n s c h d l = tt
  divisor_word op.Sub t n s c h d l = tt
  divisor_word op.Mul t n s c h d l = tt
  divisor_word op.And t n s c h d l = tt
  divisor_word op.Or t n s c h d l = tt
  divisor_word op.Xor t n s c h d l = tt
  divisor_word o t n s c h d l = elim c [ ]
