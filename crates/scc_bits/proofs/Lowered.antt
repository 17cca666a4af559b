-- The kinds to which operands are converted, by operator.
use Rattle.std.specs.Prelude.{◌≡◌, ℕ, false, Option, Some, None, option_map, option_and_then, unwrap_or}
use Rattle.std.proofs.Common.{refl, sym, ◌∙◌, ap, subst}
use Rattle.scc_bits_kinds.specs.declared.op.Op.{Op}
use Rattle.scc_bits_kinds.specs.declared.kind.Kind.{Kind}
use Rattle.scc_bits_kinds.specs.declared.rule.Rule.{Rule}
use Rattle.scc_bits.specs.declared.operands.Operands.{Operands}
use Rattle.scc_bits_kinds.specs.Numbers.{low}
use Rattle.scc_bits_kinds.specs.Operators.{exact, Signs, Divisor}
use Rattle.scc_bits_kinds.specs.Kinds.{IsValid, Fits, width_of, is_signed, number_of, stored, converted}
use Rattle.scc_bits.specs.Values.{rule_at, answer_of, left_of, right_of, passes, computed, kind_of, is_too_wide, applied}
use Rattle.scc_bits.specs.Placed.{placed_left, placed_right, operands_of}
use Rattle.scc_bits.proofs.Agreement.{Given}
use Rattle.scc_bits.proofs.Validity.{left_valid, right_valid, answer_valid}
use Rattle.scc_bits.proofs.Suited.{sound, signed_right, divided}

abbrev pub of_answer : Rule → Kind → Kind → Kind → Operands
of_answer r j k a = record { left = placed_left r j k; right = placed_right r j k; answer = a }

-- an operator's rule, from the kinds of its operands
pub record Row (o : Op) (j k : Kind) (p : Operands) : Type 0 where
  pub by : Rule
  pub has : rule_at o j k ≡ Some by
  pub answers : answer_of by j k ≡ Some p.answer
  pub operands : of_answer by j k p.answer ≡ p

pub row : (o : Op) (j k : Kind) (p : Operands) → operands_of o j k ≡ Some p → Row o j k p
row o j k p e = first (rule_at o j k) refl e
  where
    second : (r : Rule) → rule_at o j k ≡ Some r → (t : Option Kind) → answer_of r j k ≡ t → ◌≡◌ {A = Option Operands} (option_map (of_answer r j k) t) (Some p) → Row o j k p
    second r h None f d = absurd (cc)
    second r h (Some a) f d =
        let same : of_answer r j k a ≡ p = cc in
        let is : a ≡ p.answer = ap (λ (q : Operands). q.answer) same in
        record { by = r; has = h; answers = f ∙ ap (λ (q : Kind). Some q) is; operands = ap (of_answer r j k) (sym is) ∙ same }

    first : (t : Option Rule) → rule_at o j k ≡ t → option_and_then (λ r. option_map (of_answer r j k) (answer_of r j k)) t ≡ Some p → Row o j k p
    first None h d = absurd (cc)
    first (Some r) h d = second r h (answer_of r j k) refl d

-- the kinds are those of the table's answer
pub answer_kept : (o : Op) (j k : Kind) → option_map (λ (p : Operands). p.answer) (operands_of o j k) ≡ kind_of o j k
answer_kept o j k = first (rule_at o j k)
  where
    second : (r : Rule) (t : Option Kind) → option_map (λ (p : Operands). p.answer) (option_map (of_answer r j k) t) ≡ t
    second r None = refl
    second r (Some a) = refl

    first : (t : Option Rule) → option_map (λ (p : Operands). p.answer) (option_and_then (λ r. option_map (of_answer r j k) (answer_of r j k)) t) ≡ option_and_then (λ r. answer_of r j k) t
    first None = refl
    first (Some r) = second r (answer_of r j k)

pub answer_is : (o : Op) (j k : Kind) (p : Operands) → operands_of o j k ≡ Some p → kind_of o j k ≡ Some p.answer
answer_is o j k p e = sym (answer_kept o j k) ∙ ap (option_map (λ (q : Operands). q.answer)) e

pub signs : (o : Op) (j k : Kind) (p : Operands) → operands_of o j k ≡ Some p → Signs o (is_signed p.left) (is_signed p.right)
signs o j k p e = let t = row o j k p e in subst (λ (q : Operands). Signs o (is_signed q.left) (is_signed q.right)) t.operands (signed_right o j k t.by t.has)

pub kinds : (o : Op) (j k : Kind) (p : Operands) → IsValid j → IsValid k → operands_of o j k ≡ Some p → IsValid p.left × IsValid p.right × IsValid p.answer
kinds o j k p u v e =
    let t = row o j k p e in
    (subst (λ (q : Operands). IsValid q.left) t.operands (left_valid t.by j k u v), subst (λ (q : Operands). IsValid q.right) t.operands (right_valid t.by j k u v), answer_valid t.by j k p.answer u v t.answers)

pub divisor : (o : Op) (j k : Kind) (y : ℕ) (p : Operands) → IsValid j → IsValid k → Fits k y → operands_of o j k ≡ Some p → Divisor o y → Divisor o (stored p.right (number_of k y))
divisor o j k y p u v h e d = let t = row o j k p e in subst (λ (q : Operands). Divisor o (stored q.right (number_of k y))) t.operands (divided o j k y t.by t.has u v h d)

pub keeps : (o : Op) (j : Kind) (x : ℕ) (k : Kind) (y : ℕ) (p : Operands) → IsValid j → IsValid k → Fits j x → Fits k y → is_too_wide o j k ≡ false → operands_of o j k ≡ Some p → applied o j x k y ≡ Some (low (width_of p.answer) (exact o (width_of p.left) (converted p.left (number_of j x)) (converted p.right (number_of k y))))
keeps o j x k y p u v f g n e =
    let t = row o j k p e in
    let r = t.by in
    let a = p.answer in
    let narrow : passes r j k ≡ false = sym (ap (λ q. unwrap_or (option_map (λ s. passes s j k) q) false) t.has) ∙ n in
    let given : Given r j x k y = record { left_valid = u; right_valid = v; left_fits = f; right_fits = g; narrow = narrow } in
    let word = sound o j x k y r t.has given a t.answers in
    ap (option_and_then (λ s. option_map (λ b. computed o (left_of s j k) (right_of s j k) b j x k y) (answer_of s j k))) t.has
    ∙ ap (option_map (λ b. computed o (left_of r j k) (right_of r j k) b j x k y)) t.answers
    ∙ ap (λ (w : ℕ). Some w) (sym word)
    ∙ ap (λ (q : Operands). Some (low (width_of a) (exact o (width_of q.left) (converted q.left (number_of j x)) (converted q.right (number_of k y))))) t.operands

pub no_answer : (o : Op) (j : Kind) (x : ℕ) (k : Kind) (y : ℕ) → operands_of o j k ≡ None → applied o j x k y ≡ None
no_answer o j x k y e = first (rule_at o j k) e
  where
    second : (r : Rule) (t : Option Kind) → option_map (of_answer r j k) t ≡ None → option_map (λ b. computed o (left_of r j k) (right_of r j k) b j x k y) t ≡ None
    second r None d = refl
    second r (Some a) d = absurd (cc)

    first : (t : Option Rule) → option_and_then (λ r. option_map (of_answer r j k) (answer_of r j k)) t ≡ None → option_and_then (λ r. option_map (λ b. computed o (left_of r j k) (right_of r j k) b j x k y) (answer_of r j k)) t ≡ None
    first None d = refl
    first (Some r) d = second r (answer_of r j k) d
