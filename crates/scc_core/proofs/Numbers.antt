-- What the operations on numbers ensure is what the definitions say.
use Rattle.std.proofs.Common.{rules, arith, ◌≡◌, refl, sym, ap, ◌∙◌, ℕ, ◌+◌, ◌-◌, ◌≤◌, ◌<◌, ◌^◌, Bool, true, false, not, ◌&&◌, nat_le, nat_lt, Option, Some, None, if◌then◌else◌, option_map, option_and_then}
use Rattle.std.proofs.lemmas.Grind.{common_steps}
use Rattle.std.specs.Prelude.{IsSome, IfSome, ◌↔◌, ℤ, pos, negsuc, is_some}
use Rattle.scc_bits_kinds.specs.declared.kind.Kind.{Kind}
use Rattle.scc_bits_kinds.specs.declared.kind.Kind.TheVariants as kind
use Rattle.scc_bits_kinds.specs.declared.op.Op.{Op}
use Rattle.scc_bits_kinds.specs.declared.rule.Rule.{Rule}
use Rattle.scc_bits_kinds.specs.Bits.{part, joined, range_of, concat_of}
use Rattle.scc_bits_kinds.specs.Kinds.{IsValid, Fits, width_of, stored}
use Rattle.scc_bits_kinds.specs.Numbers.{Holds}
use Rattle.scc_bits_kinds.specs.Operators.{Divisor}
use Rattle.scc_bits.specs.Value.{Number, exactly}
use Rattle.scc_bits.specs.Values.{kind_of, is_too_wide, applied, rule_at, answer_of, computed, left_of, right_of}
use Rattle.scc_core.specs.Numbers.{is_valid, valued, stored_in, takes, answer, selected, small, small_of, above}

pub valid_is : (k : Kind) → IsValid k → is_valid k ≡ true
valid_is kind.Bool h = refl
valid_is (kind.Native w s) h = grind (arith, common_steps, h)
valid_is (kind.Int w) h = grind (arith, common_steps, h)
valid_is (kind.Uint w) h = grind (arith, common_steps, h)
valid_is (kind.Big w) h = grind (arith, common_steps, h)
valid_is (kind.BigInt w) h = grind (arith, common_steps, h)
valid_is (kind.Bv w) h = grind (arith, common_steps, h)
valid_is (kind.Wide b s) h = grind (arith, common_steps, h)

pub is_it : (k : Kind) → is_valid k ≡ true → IsValid k
is_it kind.Bool h = tt
is_it (kind.Native w s) h = grind (arith, common_steps, h)
is_it (kind.Int w) h = grind (arith, common_steps, h)
is_it (kind.Uint w) h = grind (arith, common_steps, h)
is_it (kind.Big w) h = grind (arith, common_steps, h)
is_it (kind.BigInt w) h = grind (arith, common_steps, h)
is_it (kind.Bv w) h = grind (arith, common_steps, h)
is_it (kind.Wide b s) h = grind (arith, common_steps, h)

both_true : (a b : Bool) → a ≡ true → b ≡ true → (a && b) ≡ true
both_true true b h g = g
both_true false b h g = h

first_true : (a b : Bool) → (a && b) ≡ true → a ≡ true
first_true true b h = refl
first_true false b h = h

second_true : (a b : Bool) → (a && b) ≡ true → b ≡ true
second_true true b h = h
second_true false b h = cc h

by_test : {A : Type 0} (r : Option A) (b : Bool) (n : A) → IfSome r (λ v. v ≡ n) → (b ≡ true → IsSome r) → (IsSome r → b ≡ true) → r ≡ (if b then Some n else None)
by_test (Some v) true n h g f = ap Some h
by_test (Some v) false n h g f = let p : false ≡ true = f refl in cc p
by_test None true n h g f = let p : false ≡ true = g refl in cc p
by_test None false n h g f = refl

if_some : {A : Type 0} (P Q : A → Type 0) (r : Option A) → ((v : A) → P v → Q v) → IfSome r P → IfSome r Q
if_some P Q (Some v) f h = f v h
if_some P Q None f h = h

same_number : (v : Number) (k : Kind) (x : ℕ) → (v.kind ≡ k) × (v.word ≡ x) → v ≡ record { kind = k; word = x }
same_number v k x h = ap (λ y. record { kind = y; word = v.word }) h.0 ∙ ap (λ y. record { kind = k; word = y }) h.1

fits_test : (k : Kind) (x : ℕ) → Fits k x → nat_lt x (2 ^ width_of k) ≡ true
fits_test k x h = grind (arith, common_steps, h)

test_fits : (k : Kind) (x : ℕ) → nat_lt x (2 ^ width_of k) ≡ true → Fits k x
test_fits k x h = grind (arith, common_steps, h)

pub valued_is : (r : Option Number) (k : Kind) (x : ℕ) → IfSome r (λ v. (v.kind ≡ k) × (v.word ≡ x)) → (IsValid k → Fits k x → IsSome r) → (IsSome r → IsValid k × Fits k x) → r ≡ valued k x
unfolding valued
valued_is r k x h g f =
    by_test r (is_valid k && nat_lt x (2 ^ width_of k)) (record { kind = k; word = x })
    (if_some (λ v. (v.kind ≡ k) × (v.word ≡ x)) (λ v. v ≡ record { kind = k; word = x }) r (λ v p. same_number v k x p) h)
    (λ b. g (is_it k (first_true (is_valid k) (nat_lt x (2 ^ width_of k)) b)) (test_fits k x (second_true (is_valid k) (nat_lt x (2 ^ width_of k)) b)))
    (λ s. both_true (is_valid k) (nat_lt x (2 ^ width_of k)) (valid_is k (f s).0) (fits_test k x (f s).1))

pub stored_is : (r : Option Number) (k : Kind) (n : Number) → IfSome r (λ v. (v.kind ≡ k) × (v.word ≡ stored k (exactly n))) → (IsValid k → IsSome r) → (IsSome r → IsValid k) → r ≡ stored_in k n
unfolding stored_in
stored_is r k n h g f =
    let x = stored k (exactly n) in
    by_test r (is_valid k) (record { kind = k; word = stored k (exactly n) })
    (if_some (λ v. (v.kind ≡ k) × (v.word ≡ stored k (exactly n))) (λ v. v ≡ record { kind = k; word = stored k (exactly n) }) r (λ v p. same_number v k (stored k (exactly n)) p) h)
    (λ b. g (is_it k b))
    (λ s. valid_is k (f s))

not_true : (b : Bool) → b ≡ false → not b ≡ true
not_true true h = cc h
not_true false h = refl

true_not : (b : Bool) → not b ≡ true → b ≡ false
true_not true h = cc h
true_not false h = refl

takes_is : (o : Op) (y : ℕ) → Divisor o y → takes o y ≡ true
takes_is o y h = search rules

is_taken : (o : Op) (y : ℕ) → takes o y ≡ true → Divisor o y
is_taken o y h = search rules

pub answer_ok : (o : Op) (a b : Number) (x : ℕ) → applied o a.kind a.word b.kind b.word ≡ Some x → is_too_wide o a.kind b.kind ≡ false → Divisor o b.word → Some x ≡ answer o a b
unfolding answer
answer_ok o a b x h w d =
    sym h ∙ ap (λ t. if t then applied o a.kind a.word b.kind b.word else None) (sym (both_true (not (is_too_wide o a.kind b.kind)) (takes o b.word) (not_true (is_too_wide o a.kind b.kind) w) (takes_is o b.word d)))

no_answer : (o : Op) (j k : Kind) (x y : ℕ) (r : Option Rule) → is_some (option_and_then (λ q. answer_of q j k) r) ≡ false
    → option_and_then (λ q. option_map (λ z. computed o (left_of q j k) (right_of q j k) z j x k y) (answer_of q j k)) r ≡ None
no_answer o j k x y None h = refl
no_answer o j k x y (Some r) h = none_mapped (answer_of r j k) h
  where
    none_mapped : (z : Option Kind) → is_some z ≡ false → option_map (λ z. computed o (left_of r j k) (right_of r j k) z j x k y) z ≡ None
    none_mapped None h = refl
    none_mapped (Some z) h = cc h

false_or : (b : Bool) → (b ≡ true → ⊥) → b ≡ false
false_or true h = absurd (h refl)
false_or false h = refl

pub answer_err : (o : Op) (a b : Number) → (IsSome (kind_of o a.kind b.kind) × (is_too_wide o a.kind b.kind ≡ false) × Divisor o b.word → ⊥) → None ≡ answer o a b
unfolding answer
answer_err o a b h = by_cases (not (is_too_wide o a.kind b.kind) && takes o b.word) refl
  where
    by_cases : (t : Bool) → (not (is_too_wide o a.kind b.kind) && takes o b.word) ≡ t → None ≡ (if t then applied o a.kind a.word b.kind b.word else None)
    by_cases false e = refl
    by_cases true e = sym (no_answer o a.kind b.kind a.word b.word (rule_at o a.kind b.kind) (false_or (is_some (kind_of o a.kind b.kind)) (λ s. h (s, true_not (is_too_wide o a.kind b.kind) (first_true (not (is_too_wide o a.kind b.kind)) (takes o b.word) e), is_taken o b.word (second_true (not (is_too_wide o a.kind b.kind)) (takes o b.word) e)))))

pub selected_is : (r : Option Number) (h l : ℕ) (n : Number) → IfSome r (λ v. v.word ≡ part h l n.word) → IsSome r ↔ ((l ≤ h) × (h < width_of n.kind) × IsSome (range_of n.kind (h - l + 1))) → option_map (λ v. v.word) r ≡ selected h l n
unfolding selected
selected_is r h l n w s = by_test (option_map (λ v. v.word) r) (nat_le l h && (nat_lt h (width_of n.kind) && is_some (range_of n.kind (h - l + 1)))) (part h l n.word) (words r w) there here
  where
    words : (r : Option Number) → IfSome r (λ v. v.word ≡ part h l n.word) → IfSome (option_map (λ v. v.word) r) (λ x. x ≡ part h l n.word)
    words None w = w
    words (Some v) w = w

    mapped : (r : Option Number) → IsSome r → IsSome (option_map (λ v. v.word) r)
    mapped None w = w
    mapped (Some v) w = refl

    unmapped : (r : Option Number) → IsSome (option_map (λ v. v.word) r) → IsSome r
    unmapped None w = w
    unmapped (Some v) w = refl

    le : (a b : ℕ) → nat_le a b ≡ true → a ≤ b
    le a b e = grind (arith, common_steps, e)

    lt : (a b : ℕ) → nat_lt a b ≡ true → a < b
    lt a b e = grind (arith, common_steps, e)

    is_le : (a b : ℕ) → a ≤ b → nat_le a b ≡ true
    is_le a b e = grind (arith, common_steps, e)

    is_lt : (a b : ℕ) → a < b → nat_lt a b ≡ true
    is_lt a b e = grind (arith, common_steps, e)

    there : (nat_le l h && (nat_lt h (width_of n.kind) && is_some (range_of n.kind (h - l + 1)))) ≡ true → IsSome (option_map (λ v. v.word) r)
    there e =
        let rest = second_true (nat_le l h) (nat_lt h (width_of n.kind) && is_some (range_of n.kind (h - l + 1))) e in
        mapped r (s.1 (le l h (first_true (nat_le l h) (nat_lt h (width_of n.kind) && is_some (range_of n.kind (h - l + 1))) e), lt h (width_of n.kind) (first_true (nat_lt h (width_of n.kind)) (is_some (range_of n.kind (h - l + 1))) rest), second_true (nat_lt h (width_of n.kind)) (is_some (range_of n.kind (h - l + 1))) rest))

    here : IsSome (option_map (λ v. v.word) r) → (nat_le l h && (nat_lt h (width_of n.kind) && is_some (range_of n.kind (h - l + 1)))) ≡ true
    here e = let t = s.0 (unmapped r e) in both_true (nat_le l h) (nat_lt h (width_of n.kind) && is_some (range_of n.kind (h - l + 1))) (is_le l h t.0) (both_true (nat_lt h (width_of n.kind)) (is_some (range_of n.kind (h - l + 1))) (is_lt h (width_of n.kind) t.1) t.2)

small_by : (r : Option ℕ) (z : ℤ) → IfSome r (λ n. z ≡ pos n) → IsSome r ↔ Holds false 32 z → r ≡ small_of z
small_by r (pos n) h s = by_test r (nat_lt n 4294967296) n (if_some (λ m. pos n ≡ pos m) (λ m. m ≡ n) r (λ m e. cc e) h) (λ e. s.1 (lt e)) (λ e. lt_is (s.0 e))
  where
    lt : nat_lt n 4294967296 ≡ true → n < 4294967296
    lt e = grind (arith, common_steps, e)

    lt_is : n < 4294967296 → nat_lt n 4294967296 ≡ true
    lt_is e = grind (arith, common_steps, e)
small_by None (negsuc n) h s = refl
small_by (Some m) (negsuc n) h s = absurd (s.0 refl)

pub small_is : (r : Option ℕ) (n : Number) → IfSome r (λ m. exactly n ≡ pos m) → IsSome r ↔ Holds false 32 (exactly n) → r ≡ small n
unfolding small
small_is r n h s = small_by r (exactly n) h s

abbrev put : Number → Number → Kind → Number
put a b k = record { kind = k; word = joined (width_of b.kind) a.word b.word }

pub above_ok : (a b v : Number) → width_of a.kind + width_of b.kind ≤ 128 → concat_of a.kind b.kind ≡ Some v.kind → v.word ≡ joined (width_of b.kind) a.word b.word → Some v ≡ above a b
unfolding above
above_ok a b v h k w =
    ap Some (same_number v v.kind (joined (width_of b.kind) a.word b.word) (refl, w)) ∙ ap (λ o. option_map (put a b) o) (sym k)
    ∙ ap (λ t. if t then option_map (put a b) (concat_of a.kind b.kind) else None) (sym (is_le (width_of a.kind + width_of b.kind) h))
  where
    is_le : (n : ℕ) → n ≤ 128 → nat_le n 128 ≡ true
    is_le n e = grind (arith, common_steps, e)

none_above : (a b : Number) (t : Bool) (o : Option Kind) → (t ≡ true → is_some o ≡ true → ⊥) → None ≡ (if t then option_map (put a b) o else None)
none_above a b false o h = refl
none_above a b true None h = refl
none_above a b true (Some k) h = absurd (h refl refl)

pub above_err : (a b : Number) → ((width_of a.kind + width_of b.kind ≤ 128) × IsSome (concat_of a.kind b.kind) → ⊥) → None ≡ above a b
unfolding above
above_err a b h = none_above a b (nat_le (width_of a.kind + width_of b.kind) 128) (concat_of a.kind b.kind) (λ e f. h (le (width_of a.kind + width_of b.kind) e, f))
  where
    le : (n : ℕ) → nat_le n 128 ≡ true → n ≤ 128
    le n e = grind (arith, common_steps, e)
