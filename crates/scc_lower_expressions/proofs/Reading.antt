-- A read of a cell gives its bits.
use Rattle.std.specs.Prelude.{◌≡◌, ℕ, ◌+◌, ◌-◌, ◌/◌, ◌%◌, ◌^◌, ◌<◌, ◌≤◌, min, Bool, true, false, ◌&&◌, nat_eq}
use Rattle.std.proofs.Common.{sym, ◌∙◌, ap, subst, arith}
use Rattle.std.proofs.Math.Nat.{mod-lt, mod-eq_of_lt}
use Rattle.std.proofs.lemmas.Nat.{pow_pos}
use Rattle.scc_bits_kinds.specs.declared.kind.Kind.{Kind}
use Rattle.scc_bits_kinds.specs.declared.kind.Word.{Word}
use Rattle.scc_bits_kinds.specs.Bits.{part}
use Rattle.scc_bits_kinds.specs.Kinds.{IsValid, Fits, width_of}
use Rattle.scc_bits.proofs.Validity.{width_valid}
use Rattle.scc_svtree.specs.Sizes.{fixed, sized}
use Rattle.scc_svtree.specs.Term.{Part}
use Rattle.scc_lower_spec.specs.Gives.{Gives}
use Rattle.scc_lower_spec.specs.Selected.{part_left}
use Rattle.scc_lower_spec.proofs.Bytes.{and_left, and_right}
use Rattle.scc_lower_spec.proofs.Gives.{gives_fixed}
use Rattle.scc_lower_spec.proofs.Selected.{part_gives}
use Rattle.scc_lower_expressions.specs.declared.lowering.View.{View}
use Rattle.scc_lower_expressions.specs.declared.lowering.View.TheVariants.{Constant, Plain, Next, Delayed}
use Rattle.scc_lower_expressions.specs.Reads.{var_read, read_term, Shown}

number : (m n : ℕ) → nat_eq m n ≡ true → m ≡ n
number m n d = grind arith

-- all bits of a word are the word
pub whole_part : (k j : Kind) (all y word h l : ℕ) → j ≡ k → IsValid j → all ≡ width_of j → y ≡ word → Fits k y → (t : Bool) → t ≡ (nat_eq l 0 && nat_eq h (all - 1)) → t ≡ true → y ≡ part h l word
whole_part k j all y word h l e v n d f t c r =
    let both : (nat_eq l 0 && nat_eq h (all - 1)) ≡ true = sym c ∙ r in
    let low : l ≡ 0 = number l 0 (and_left (nat_eq l 0) (nat_eq h (all - 1)) both) in
    let high : h ≡ all - 1 = number h (all - 1) (and_right (nat_eq l 0) (nat_eq h (all - 1)) both) in
    let some : 1 ≤ width_of j = (width_valid j v).0 in
    let count : width_of k ≡ h - l + 1 = ap width_of (sym e) ∙ omega arith in
    let small : y < 2 ^ (h - l + 1) = subst (λ w. y < 2 ^ w) count f in
    let first : y ≡ y / 2 ^ 0 % 2 ^ (h - l + 1) = sym (mod-eq_of_lt small) ∙ ap (λ m. m % 2 ^ (h - l + 1)) (omega arith) in
    first ∙ (λ i. d i / 2 ^ sym low i % 2 ^ (h - l + 1))

module _ (wide : Bool) (width x : ℕ → ℕ) where
  constant_gives : (w : Word) (k : Kind) (c h l word : ℕ) → w.bits ≡ word → IsValid k → h < width_of k → Gives false (sized wide width x (read_term (Constant w) k c h l)) (h - l + 1) (part h l word)
  constant_gives w k c h l word e v b =
      let few : width_of k ≤ 128 = (width_valid k v).1 in
      let n : h - l + 1 ≡ min (h - l + 1) 4294967295 = omega arith in
      let g = gives_fixed false (h - l + 1) (part h l word) (mod-lt (word / 2 ^ l) (pow_pos (h - l + 1))) in
      subst (λ m. Gives false (fixed m false (part h l w.bits)) (h - l + 1) (part h l word)) n (subst (λ y. Gives false (fixed (h - l + 1) false (part h l y)) (h - l + 1) (part h l word)) (sym e) g)

  variable_gives : (v : View) (k : Kind) (c h l word : ℕ) → x (var_read v c) ≡ word → width (var_read v c) ≡ width_of k → Fits k word → l ≤ h → h < width_of k
      → Gives false (sized wide width x (Part (part_left (record { 0 = var_read v c }) (width_of k) h l))) (h - l + 1) (part h l word)
  variable_gives v k c h l word e n f a b =
      subst (λ y. Gives false (sized wide width x (Part (part_left (record { 0 = var_read v c }) (width_of k) h l))) (h - l + 1) (part h l y)) e
      (part_gives width x (record { 0 = var_read v c }) (width_of k) h l n (subst (λ y. y < 2 ^ width_of k) (sym e) f) a b)

  pub read_gives : (v : View) (k : Kind) (c h l word : ℕ) → Shown v c x word → width (var_read v c) ≡ width_of k → IsValid k → Fits k word → l ≤ h → h < width_of k → Gives false (sized wide width x (read_term v k c h l)) (h - l + 1) (part h l word)
  read_gives (Constant w) k c h l word s n v f a b = constant_gives w k c h l word s v b
  read_gives Plain k c h l word s n v f a b = variable_gives Plain k c h l word s n f a b
  read_gives Next k c h l word s n v f a b = variable_gives Next k c h l word s n f a b
  read_gives Delayed k c h l word s n v f a b = variable_gives Delayed k c h l word s n f a b
