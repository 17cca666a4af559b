-- Expressions of right sizes: the walk over each notes nothing, and knows its length.
use Rattle.std.proofs.Common.{◌≡◌, ◌<◌, ◌≤◌, ◌+◌, ℕ, Bool, true, false, not, ◌&&◌, nat_eq, List, [], ◌∷◌, length, map, decimal, refl, ap, ◌∙◌, arith}
use Rattle.std.specs.Prelude.{max, Some}
use Rattle.std.proofs.lemmas.Bool.{ne_eqb}
use Rattle.scc_svtree.specs.declared.module.SvVar.{SvVar}
use Rattle.scc_svtree.specs.declared.expr.SvExpr.{SvExpr}
use Rattle.scc_svtree.specs.declared.expr.SvExprNode.TheOpen as node
use Rattle.scc_svtree.specs.declared.expr.SvLiteral.{SvLiteral}
use Rattle.scc_svtree.specs.declared.expr.SvLeft.{SvLeft}
use Rattle.scc_svtree.specs.declared.expr.SvUnary.{SvUnary}
use Rattle.scc_svtree.specs.declared.expr.SvUnary.TheVariants as op1
use Rattle.scc_svtree.specs.declared.expr.SvBinary.{SvBinary}
use Rattle.scc_svtree.specs.declared.expr.SvBinary.TheVariants as op2
use Rattle.scc_svtree.specs.declared.class.Class.{Class}
use Rattle.scc_svtree.specs.declared.class.Class.TheVariants.{Context, Shift, Comparison, Logical}
use Rattle.scc_svtree.specs.Classes.{class_of}
use Rattle.scc_svtree.specs.Term as term
use Rattle.scc_svtree.specs.Term.{Term, Literal, Unary, Binary, Cond, Cast, Sign, joined, term_node, term_of}
use Rattle.scc_svtree.specs.Variables.{width_at}
use Rattle.scc_svtree.specs.Sizes.{Sized, sized, sized_class, length_of}
use Rattle.scc_svtree.specs.Sized.{IsSized, IsNonzero, IsDivisor, HasDivisor, total_length}
use Rattle.scc_svtree.specs.Sound.{Each}
use Rattle.scc_svtree.proofs.Joined.{joined_long, joined_short, width_of_sized}
use Rattle.scc_svtext.specs.ExprText.{binary_text}
use Rattle.scc_svread_grammar.specs.Grammar.{is_division}
use Rattle.scc_svread_check.specs.Scope.{Scope, number_in, hex_in, is_width}
use Rattle.scc_svread_check.specs.Parts.{Part, cut, is_wrong_length, with_both, with_one, literal_part, left_part, unary_bits, unary_part, class_bits, binary_part, cond_part, parts_walk, parts_bits, concat_part, cast_part, sign_bytes, sign_part, measured, part_of}
use Rattle.scc_svread_written.specs.Written.{raw_literal, raw_left, raw_expr}
use Rattle.scc_svread_written.proofs.Digits.{number_hex}
use Rattle.scc_svread_written.proofs.Formed.{Declares}
use Rattle.scc_svread_written.proofs.Fits.{Fits, of_left, of_unary, of_first, of_second, of_test, of_then, of_else, of_parts, of_cast, of_sign}
use Rattle.scc_svtree.proofs.Induction.{expr_made, by_expr}
use Rattle.scc_svread_sizes.proofs.RightWalks.{Quiet, quiet_pass, quiet_size, quiet_then, quiet_whole, quiet_here}
use Rattle.scc_svread_sizes.proofs.RightLeaves.{number_back, cut_short, width_is, quiet_literal, quiet_left, bits_left}
use Rattle.scc_svread_sizes.proofs.RightTrees.{part_in, in_literal, in_left, in_unary, in_binary, in_cond, in_concat, in_cast, in_sign}

-- the length of an operator's answer
class_length : (c : Class) (a b : Sized) → class_bits c a.len b.len ≡ (sized_class c a b).len
class_length (Context o) a b = refl
class_length (Shift o fills) a b = refl
class_length (Comparison o) a b = refl
class_length (Logical o) a b = refl

no_more : (n : ℕ) → n ≡ n + 0
no_more n = omega arith

grouped : (n l total : ℕ) → (n + l) + total ≡ n + (l + total)
grouped n l total = omega arith

-- no divisor is 0
no_zero : (o : SvBinary) (t : Term) (zero : Bool) → HasDivisor (class_of o) t → (IsDivisor t → zero ≡ false) → (is_division o && zero) ≡ false
no_zero op2.Div t zero h k = k h
no_zero op2.Rem t zero h k = k h
no_zero _ t zero h k = refl

sign_zero : (signed : Bool) (t : Term) (zero : Bool) → (IsNonzero t → zero ≡ false) → IsDivisor (Sign signed t) → (signed && zero) ≡ false
sign_zero true t zero k h = k h
sign_zero false t zero k h = refl

module _ (vars : List SvVar) (s : Scope) (d : Declares s vars) where
  abbrev width : ℕ → ℕ
  width = width_at vars

  -- what the walk over an expression knows of its term
  pub record Right (t : Term) (p : Part) : Type 0 where
    pub walk : Quiet p.walk
    pub bits : p.bits ≡ Some (length_of width t)
    pub literal : IsNonzero t → p.zero ≡ false
    pub divisor : IsDivisor t → p.zero ≡ false

  abbrev pub IsRight : SvExpr → Type 0
  IsRight x = Right (term_of x) (part_in s vars x)

  abbrev Known : SvExpr → Type 0
  Known x = Fits vars (term_of x) → IsRight x

  moved : {t t' : Term} {p p' : Part} → t ≡ t' → p ≡ p' → (Fits vars t' → Right t' p') → Fits vars t → Right t p
  moved e f k = rw (e, f) k

  -- ---- one node

  -- an expression as a whole has a right length
  whole : (t : Term) (p : Part) → IsSized width t → Right t p → Right t (measured p)
  whole t p h k = record {
    walk = quiet_whole (is_wrong_length p.bits) (ap is_wrong_length k.bits ∙ ap not (width_is (length_of width t) (width_of_sized width t h))) k.walk;
    bits = k.bits;
    literal = k.literal;
    divisor = k.divisor;
  }

  right_literal : (l : SvLiteral) → Fits vars (Literal l.width l.value.bits) → Right (Literal l.width l.value.bits) (measured (literal_part (raw_literal l.width l.value.bits)))
  right_literal l f =
      let nonzero : 0 < l.value.bits → nat_eq (hex_in (raw_literal l.width l.value.bits).digits) 0 ≡ false =
      λ h. ap (λ n. nat_eq n 0) (number_hex l.width l.value.bits f.sized.0.1 f.sized.1) ∙ ne_eqb l.value.bits 0 (λ e. absurd (omega (arith, h, e))) in
      whole (Literal l.width l.value.bits) (literal_part (raw_literal l.width l.value.bits)) f.sized (record {
        walk = quiet_literal l.width l.value.bits f.sized.0 f.sized.1;
        bits = ap (λ n. Some (cut n)) (number_back l.width f.sized.0.1) ∙ ap (λ n. Some n) (cut_short l.width f.sized.0.1);
        literal = nonzero;
        divisor = nonzero;
      })

  right_left : (l : SvLeft) → Fits vars (term.Part l) → Right (term.Part l) (measured (left_part s (raw_left vars l)))
  right_left l f = whole (term.Part l) (left_part s (raw_left vars l)) f.sized (record {
    walk = quiet_left vars s d l f.sized (of_left vars l f);
    bits = bits_left vars s d l f.sized (of_left vars l f);
    literal = λ h. refl;
    divisor = λ h. refl;
  })

  unary_length : (o : SvUnary) (t : Term) → unary_bits o (Some (length_of width t)) ≡ Some (length_of width (Unary o t))
  unary_length op1.Not t = refl
  unary_length op1.Neg t = refl
  unary_length op1.LogNot t = refl
  unary_length op1.And t = refl
  unary_length op1.Or t = refl
  unary_length op1.Xor t = refl

  right_unary : (o : SvUnary) {t : Term} {p : Part} → Fits vars (Unary o t) → Right t p → Right (Unary o t) (measured (unary_part o p))
  right_unary o {t} {p} f k = whole (Unary o t) (unary_part o p) f.sized (record {
    walk = quiet_then (quiet_then (quiet_pass 2) k.walk) (quiet_pass 1);
    bits = ap (unary_bits o) k.bits ∙ unary_length o t;
    literal = λ h. refl;
    divisor = λ h. refl;
  })

  binary_length : (o : SvBinary) (t u : Term) → class_bits (class_of o) (length_of width t) (length_of width u) ≡ length_of width (Binary o t u)
  binary_length o t u = class_length (class_of o) (sized false width (λ _. 0) t) (sized false width (λ _. 0) u)

  right_binary : (o : SvBinary) {t u : Term} {p q : Part} → Fits vars (Binary o t u) → Right t p → Right u q → Right (Binary o t u) (measured (binary_part o p q))
  right_binary o {t} {u} {p} {q} f k l = whole (Binary o t u) (binary_part o p q) f.sized (record {
    walk = quiet_then (quiet_then (quiet_then (quiet_then (quiet_pass 1) k.walk) (quiet_pass (length (binary_text o) + 2)))
        (quiet_whole (is_division o && q.zero) (no_zero o u q.zero f.sized.2 l.divisor) l.walk)) (quiet_pass 1);
    bits = ap (λ n. with_both (class_bits (class_of o)) n q.bits) k.bits ∙ ap (with_both (class_bits (class_of o)) (Some (length_of width t))) l.bits ∙ ap (λ n. Some n) (binary_length o t u);
    literal = λ h. refl;
    divisor = λ h. refl;
  })

  right_cond : {r t u : Term} {c p q : Part} → Fits vars (Cond r t u) → Right r c → Right t p → Right u q → Right (Cond r t u) (measured (cond_part c p q))
  right_cond {r} {t} {u} {c} {p} {q} f j k l = whole (Cond r t u) (cond_part c p q) f.sized (record {
    walk = quiet_then (quiet_then (quiet_then (quiet_then (quiet_then (quiet_then (quiet_pass 1) j.walk) (quiet_pass 3)) k.walk) (quiet_pass 3)) l.walk) (quiet_pass 1);
    bits = ap (λ n. with_both (λ a b. b) n (with_both max p.bits q.bits)) j.bits ∙ ap (λ n. with_both (λ a b. b) (Some (length_of width r)) (with_both max n q.bits)) k.bits
        ∙ ap (λ n. with_both (λ a b. b) (Some (length_of width r)) (with_both max (Some (length_of width t)) n)) l.bits;
    literal = λ h. refl;
    divisor = λ h. refl;
  })

  right_cast : (n : ℕ) {t : Term} {p : Part} → Fits vars (Cast n t) → Right t p → Right (Cast n t) (measured (cast_part (decimal n) p))
  right_cast n {t} {p} f k = whole (Cast n t) (cast_part (decimal n) p) f.sized (record {
    walk = quiet_then (quiet_then (quiet_then (quiet_size (not (is_width (number_in (decimal n)))) (ap (λ k. not (is_width k)) (number_back n f.sized.0.1) ∙ ap not (width_is n f.sized.0)))
        (quiet_pass (length (decimal n) + 2))) k.walk) (quiet_pass 1);
    bits = ap (with_one (λ k. cut (number_in (decimal n)))) k.bits ∙ ap (λ k. Some (cut k)) (number_back n f.sized.0.1) ∙ ap (λ k. Some k) (cut_short n f.sized.0.1);
    literal = λ h. refl;
    divisor = λ h. refl;
  })

  right_sign : (signed : Bool) {t : Term} {p : Part} → Fits vars (Sign signed t) → Right t p → Right (Sign signed t) (measured (sign_part signed p))
  right_sign signed {t} {p} f k = whole (Sign signed t) (sign_part signed p) f.sized (record {
    walk = quiet_then (quiet_then (quiet_pass (sign_bytes signed)) k.walk) (quiet_pass 1);
    bits = k.bits;
    literal = λ h. absurd h;
    divisor = sign_zero signed t p.zero k.literal;
  })

  -- ---- concatenations

  abbrev parts : List SvExpr → List Part
  parts ps = map (part_of s) (map (raw_expr vars) ps)

  right_each : (ps : List SvExpr) → Each Known ps → Each (Fits vars) (map term_of ps) → Each IsRight ps
  right_each [] k f = tt
  right_each (p ∷ ps) k f = (k.0 f.0, right_each ps k.1 f.1)

  quiet_parts : (ps : List SvExpr) → Each IsRight ps → (lead : ℕ) → Quiet (parts_walk lead (parts ps))
  quiet_parts [] k lead = quiet_here
  quiet_parts (p ∷ ps) k lead = quiet_then (quiet_then (quiet_pass lead) k.0.walk) (quiet_parts ps k.1 2)

  bits_parts : (ps : List SvExpr) → Each IsRight ps → (n : ℕ) → n + total_length width (map term_of ps) ≤ 128 → parts_bits (Some n) (parts ps) ≡ Some (n + total_length width (map term_of ps))
  bits_parts [] k n h = ap (λ m. Some m) (no_more n)
  bits_parts (p ∷ ps) k n h =
      let l : ℕ = length_of width (term_of p) in
      let total : ℕ = total_length width (map term_of ps) in
      ap (λ b. parts_bits (with_both (λ a b. cut (a + b)) (Some n) b) (parts ps)) k.0.bits
      ∙ ap (λ m. parts_bits (Some m) (parts ps)) (cut_short (n + l) (omega (arith, h)))
      ∙ bits_parts ps k.1 (n + l) (omega (arith, h)) ∙ ap (λ m. Some m) (grouped n l total)

  right_concat : (ps : List SvExpr) → Fits vars (joined (map term_of ps)) → Each IsRight ps → Right (joined (map term_of ps)) (measured (concat_part (parts ps)))
  right_concat ps f k = whole (joined (map term_of ps)) (concat_part (parts ps)) f.sized (record {
    walk = quiet_then (quiet_parts ps k 1) (quiet_pass 1);
    bits = bits_parts ps k 0 (let short = joined_short width (map term_of ps) f.sized in omega (arith, short)) ∙ ap (λ n. Some n) (let long = joined_long width (map term_of ps) in omega (arith, long));
    literal = λ h. refl;
    divisor = λ h. refl;
  })

  -- ---- every expression

  pub right_expr : (x : SvExpr) → Known x
  right_expr = by_expr Known
      (λ l. moved (expr_made Term term_node (node.Literal l)) (in_literal s vars l) (λ f. right_literal l f))
      (λ l. moved (expr_made Term term_node (node.Left l)) (in_left s vars l) (λ f. right_left l f))
      (λ o a k. moved (expr_made Term term_node (node.Unary o a)) (in_unary s vars o a) (λ f. right_unary o f (k (of_unary vars o (term_of a) f))))
      (λ o a b k l. moved (expr_made Term term_node (node.Binary o a b)) (in_binary s vars o a b) (λ f. right_binary o f (k (of_first vars o (term_of a) (term_of b) f)) (l (of_second vars o (term_of a) (term_of b) f))))
      (λ c a b j k l. moved (expr_made Term term_node (node.Cond c a b)) (in_cond s vars c a b)
      (λ f. right_cond f (j (of_test vars (term_of c) (term_of a) (term_of b) f)) (k (of_then vars (term_of c) (term_of a) (term_of b) f)) (l (of_else vars (term_of c) (term_of a) (term_of b) f))))
      (λ ps k. moved (expr_made Term term_node (node.Concat ps)) (in_concat s vars ps) (λ f. right_concat ps f (right_each ps k (of_parts vars (map term_of ps) f))))
      (λ n a k. moved (expr_made Term term_node (node.Cast n a)) (in_cast s vars n a) (λ f. right_cast n f (k (of_cast vars n (term_of a) f))))
      (λ z a k. moved (expr_made Term term_node (node.Sign z a)) (in_sign s vars z a) (λ f. right_sign z f (k (of_sign vars z (term_of a) f))))
