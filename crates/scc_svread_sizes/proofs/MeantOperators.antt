-- What operators and lengths say, between what is written and what it stands for.
use Rattle.std.proofs.Common.{◌≡◌, ◌≤◌, ◌+◌, ℕ, Bool, true, false, ◌||◌, List, [], ◌∷◌, Some, None, refl, ap, ◌∙◌, arith}
use Rattle.scc_svtree.specs.declared.module.SvVar.{SvVar}
use Rattle.scc_svtree.specs.declared.expr.SvUnary.{SvUnary}
use Rattle.scc_svtree.specs.declared.expr.SvUnary.TheVariants as op1
use Rattle.scc_svtree.specs.declared.expr.SvBinary.{SvBinary}
use Rattle.scc_svtree.specs.declared.expr.SvBinary.TheVariants as op2
use Rattle.scc_svtree.specs.declared.class.Class.{Class}
use Rattle.scc_svtree.specs.declared.class.Class.TheVariants.{Context, Shift, Comparison, Logical}
use Rattle.scc_svtree.specs.Classes.{class_of}
use Rattle.scc_svtree.specs.Variables.{width_at}
use Rattle.scc_svtree.specs.Term.{Term, Unary, Binary, joined}
use Rattle.scc_svtree.specs.Sizes.{sized, sized_class, length_of}
use Rattle.scc_svtree.specs.Sized.{IsDivisor, HasDivisor, total_length}
use Rattle.scc_svtree.specs.Mentions.{reads}
use Rattle.scc_svtree.specs.Sound.{Each}
use Rattle.scc_svtree.proofs.Joined.{joined_long}
use Rattle.scc_svtext.specs.Fixed.{fixed_text}
use Rattle.scc_svtext.specs.ExprText.{unary_text, sign_text}
use Rattle.scc_svread_grammar.specs.Grammar.{unary_op, is_division, sign_word}
use Rattle.scc_svread_grammar.proofs.Operators.{table_byte}
use Rattle.scc_svread_check.specs.Scope.{is_width}
use Rattle.scc_svread_check.specs.Parts as parts
use Rattle.scc_svread_check.specs.Parts.{cut, is_wrong_length, with_both, unary_bits, class_bits, parts_bits}
use Rattle.scc_svread_written.proofs.Fits.{Fits}
use Rattle.scc_svread_sizes.proofs.MeantLeaves.{not_false, width_is}

-- ---- operators

-- the operator of one operand that is this byte
abbrev IsByte : ℕ → SvUnary → Type 0
IsByte b o = unary_text o ≡ b ∷ []

pub unary_is : (b : ℕ) (o : SvUnary) → unary_op b ≡ Some o → unary_text o ≡ b ∷ []
unary_is b o =
    table_byte IsByte b 126 op1.Not o _ refl (table_byte IsByte b 33 op1.LogNot o _ refl (table_byte IsByte b 45 op1.Neg o _ refl
    (table_byte IsByte b 38 op1.And o _ refl (table_byte IsByte b 124 op1.Or o _ refl (table_byte IsByte b 94 op1.Xor o None refl (λ h. cc))))))

pub unary_long : (width : ℕ → ℕ) (o : SvUnary) (t : Term) → unary_bits o (Some (length_of width t)) ≡ Some (length_of width (Unary o t))
unary_long width op1.Not t = refl
unary_long width op1.LogNot t = refl
unary_long width op1.Neg t = refl
unary_long width op1.And t = refl
unary_long width op1.Or t = refl
unary_long width op1.Xor t = refl

pub binary_long : (width : ℕ → ℕ) (o : SvBinary) (t u : Term) → class_bits (class_of o) (length_of width t) (length_of width u) ≡ length_of width (Binary o t u)
binary_long width o t u = go (class_of o)
  where
    go : (c : Class) → class_bits c (length_of width t) (length_of width u) ≡ (sized_class c (sized false width (λ _. 0) t) (sized false width (λ _. 0) u)).len
    go (Context o) = refl
    go (Shift o fills) = refl
    go (Comparison o) = refl
    go (Logical o) = refl

pub no_divisor : (o : SvBinary) (t : Term) → is_division o ≡ false → HasDivisor (class_of o) t
no_divisor op2.Div t h = cc
no_divisor op2.Rem t h = cc
no_divisor op2.Add t h = tt
no_divisor op2.Sub t h = tt
no_divisor op2.Mul t h = tt
no_divisor op2.And t h = tt
no_divisor op2.Or t h = tt
no_divisor op2.Xor t h = tt
no_divisor op2.Shl t h = tt
no_divisor op2.Shr t h = tt
no_divisor op2.Sar t h = tt
no_divisor op2.Eq t h = tt
no_divisor op2.Ne t h = tt
no_divisor op2.Lt t h = tt
no_divisor op2.Le t h = tt
no_divisor op2.Gt t h = tt
no_divisor op2.Ge t h = tt
no_divisor op2.LogAnd t h = tt
no_divisor op2.LogOr t h = tt

pub has_divisor : (o : SvBinary) (t : Term) → is_division o ≡ true → IsDivisor t → HasDivisor (class_of o) t
has_divisor op2.Div t h k = k
has_divisor op2.Rem t h k = k
has_divisor op2.Add t h k = tt
has_divisor op2.Sub t h k = tt
has_divisor op2.Mul t h k = tt
has_divisor op2.And t h k = tt
has_divisor op2.Or t h k = tt
has_divisor op2.Xor t h k = tt
has_divisor op2.Shl t h k = tt
has_divisor op2.Shr t h k = tt
has_divisor op2.Sar t h k = tt
has_divisor op2.Eq t h k = tt
has_divisor op2.Ne t h k = tt
has_divisor op2.Lt t h k = tt
has_divisor op2.Le t h k = tt
has_divisor op2.Gt t h k = tt
has_divisor op2.Ge t h k = tt
has_divisor op2.LogAnd t h k = tt
has_divisor op2.LogOr t h k = tt

pub sign_same : (signed : Bool) → sign_word signed ≡ sign_text signed
unfolding fixed_text
sign_same true = refl
sign_same false = refl

pub either : {P : Type 0} (a b : Bool) → (a ≡ true → P) → (b ≡ true → P) → (a || b) ≡ true → P
either true b f g h = f refl
either false b f g h = g h

-- ---- lengths

pub cut_is : (n : ℕ) → n ≤ 128 → cut n ≡ n
cut_is n h = omega (arith, h)

cut_more : (n m : ℕ) → cut (cut n + m) ≡ cut (n + m)
cut_more n m = omega arith

pub right_length : (n : ℕ) → is_wrong_length (Some (cut n)) ≡ false → n ≤ 128
right_length n h = let l = (width_is (cut n) (not_false (is_width (cut n)) h)).1 in omega (arith, l)

pub one_more : (n m : ℕ) (ps : List parts.Part) (p : parts.Part) → p.bits ≡ Some m → parts_bits (Some (cut n)) (p ∷ ps) ≡ parts_bits (Some (cut (n + m))) ps
one_more n m ps p h = ap (λ o. parts_bits (with_both (λ a b. cut (a + b)) (Some (cut n)) o) ps) h ∙ ap (λ k. parts_bits (Some k) ps) (cut_more n m)

module _ (vars : List SvVar) where
  pub joined_fits : (t : Term) (ts : List Term) → Each (Fits vars) (t ∷ ts) → total_length (width_at vars) (t ∷ ts) ≤ 128 → Fits vars (joined (t ∷ ts))
  joined_fits t [] k h = record { sized = k.0.sized; named = k.0.named }
  joined_fits t (u ∷ us) k h =
      let more = joined_fits u us k.1 (omega (arith, h)) in
      let long = joined_long (width_at vars) (u ∷ us) in record {
        sized = (k.0.sized, more.sized, omega (arith, long, h));
        named = λ v. either (reads t v) (reads (joined (u ∷ us)) v) (k.0.named v) (more.named v);
      }
