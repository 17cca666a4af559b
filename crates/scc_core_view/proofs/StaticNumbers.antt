-- Static values of operators, conversions and bits: what the code computes of numbers, and the definitions of words.
use Rattle.std.specs.Prelude.{ℤ, pos, negsuc}
use Rattle.std.proofs.Common.{rules, ne_eqb, ◌⊎◌, inl, inr, cond, is_some, ◌≡◌, refl, sym, ap, subst, ◌∙◌, arith, ℕ, zero, suc, ◌+◌, ◌-◌, ◌*◌, ◌/◌, ◌%◌, ◌^◌, ◌<◌, ◌≤◌, Bool, true, false, not, ◌&&◌, nat_eq, nat_lt, nat_le, if◌then◌else◌, List, ◌∷◌, Option, Some, None, option_map, option_and_then, pow_mono}
use Rattle.std.proofs.Math.Nat.{mod-eq_of_lt, div-eq_of_lt, mod-lt}
use Rattle.std.proofs.Math.Pow.{pow_pos}
use Rattle.std.proofs.lemmas.Grind.{common_steps}
use Rattle.scc_bits_kinds.specs.declared.kind.Kind.{Kind}
use Rattle.scc_bits_kinds.specs.declared.kind.Kind.TheVariants as kind
use Rattle.scc_bits_kinds.specs.declared.op.Op.{Op}
use Rattle.scc_bits_kinds.specs.declared.rule.Rule.{Rule}
use Rattle.scc_bits_kinds.specs.Kinds.{IsValid, Fits, width_of, is_bool, is_signed, number_of, stored, converted}
use Rattle.scc_bits_kinds.specs.Numbers.{low, reading}
use Rattle.scc_bits_kinds.specs.Bits.{part, joined, range_of, concat_of}
use Rattle.scc_bits_kinds.specs.Operators.{Divisor, truth, exact}
use Rattle.scc_bits_kinds.proofs.Low.{low_less}
use Rattle.scc_bits.specs.Value.{Number, exactly}
use Rattle.scc_bits.specs.Values.{is_too_wide, applied, rule_at, answer_of, computed, left_of, right_of}
use Rattle.scc_bits.proofs.Agreement.{bool_form}
use Rattle.scc_bits.proofs.Valued.{kind_valid, parts_fit}
use Rattle.scc_bits.proofs.Parts.{joined_fits}
use Rattle.scc_bits.proofs.Validity.{width_valid}
use Rattle.scc_core.specs.Numbers.{is_valid, valued, stored_in, takes, answer, selected, small, small_of, bit, above, above_all}
use Rattle.scc_core.specs.Numbers as numbers
use Rattle.scc_core.specs.Statics.{operated, chosen}
use Rattle.scc_core.proofs.Numbers.{valid_is}
use Rattle.scc_semantics.specs.Scene.{with_two, index_of, bit_at}
use Rattle.scc_semantics.specs.Scene as value
use Rattle.scc_core_view.specs.Whole.{Answers}

abbrev pub num : Kind → ℕ → Number
num k w = record { kind = k; word = w }

-- the value of an expression of a kind, the kind of its term, and the term's word
pub data Says (k : Kind) : Kind → Option Number → Option ℕ → Type 0 where
  nothing : {t : Kind} → Says k t None None
  number : {w : ℕ} → IsValid k → Fits k w → Says k k (Some (num k w)) (Some w)

pub same_word : {k t : Kind} {v : Option Number} {s : Option ℕ} → Says k t v s → option_map (λ n. n.word) v ≡ s
same_word nothing = refl
same_word (number h f) = refl

pub stored_fits : (k : Kind) (z : ℤ) → Fits k (stored k z)
stored_fits k z = by (is_bool k) refl
  where
    one : (t : Bool) → (if t then 1 else 0) < 2
    one true = omega arith
    one false = omega arith

    by : (t : Bool) → is_bool k ≡ t → (if t then (if truth z then 1 else 0) else low (width_of k) z) < 2 ^ width_of k
    by false e = low_less (width_of k) z
    by true e = subst (λ n. (if truth z then 1 else 0) < 2 ^ n) (sym (bool_form k e).0) (one (truth z))

fits_test : (k : Kind) (x : ℕ) → Fits k x → nat_lt x (2 ^ width_of k) ≡ true
fits_test k x h = grind (arith, common_steps, h)

valued_some : (k : Kind) (x : ℕ) → IsValid k → Fits k x → valued k x ≡ Some (num k x)
unfolding valued
valued_some k x h f = by (is_valid k) (nat_lt x (2 ^ width_of k)) (valid_is k h) (fits_test k x f)
  where
    by : (a b : Bool) → a ≡ true → b ≡ true → (if a && b then Some (num k x) else None) ≡ Some (num k x)
    by true true p q = refl
    by true false p q = cc q
    by false b p q = cc p

stored_some : (k : Kind) (n : Number) → IsValid k → stored_in k n ≡ Some (num k (stored k (exactly n)))
unfolding stored_in
stored_some k n h = by (is_valid k) (valid_is k h)
  where
    by : (a : Bool) → a ≡ true → (if a then Some (num k (stored k (exactly n))) else None) ≡ Some (num k (stored k (exactly n)))
    by true p = refl
    by false p = cc p

pub literal_says : (k : Kind) (w : ℕ) → IsValid k → Fits k w → Says k k (valued k w) (Some w)
literal_says k w h f = subst (λ v. Says k k v (Some w)) (sym (valued_some k w h f)) (number h f)

pub convert_says : (k : Kind) {j t : Kind} {v : Option Number} {s : Option ℕ} → IsValid k → Says j t v s
    → Says k k (option_and_then (stored_in k) v) (option_map (λ x. stored k (number_of t x)) s)
convert_says k h nothing = nothing
convert_says k {j = j} h (number {w = w} g f) = subst (λ v. Says k k v (Some (stored k (number_of j w)))) (sym (stored_some k (num j w) h)) (number h (stored_fits k (number_of j w)))

-- ---- operators

-- a word of a kind
data IsWord (k : Kind) : Option ℕ → Type 0 where
  word : {w : ℕ} → Fits k w → IsWord k (Some w)

mapped : (f : Kind → ℕ) → ((z : Kind) → Fits z (f z)) → (k : Kind) (a : Option Kind) → a ≡ Some k → IsWord k (option_map f a)
mapped f h k None e = cc e
mapped f h k (Some z) e = let p : z ≡ k = cc e in subst (λ q. IsWord q (Some (f z))) p (word (h z))

applied_by : (o : Op) (i j : Kind) (x y : ℕ) (k : Kind) (r : Option Rule) → option_and_then (λ r. answer_of r i j) r ≡ Some k
    → IsWord k (option_and_then (λ r. option_map (λ a. computed o (left_of r i j) (right_of r i j) a i x j y) (answer_of r i j)) r)
applied_by o i j x y k None e = cc e
applied_by o i j x y k (Some r) e = mapped (λ a. computed o (left_of r i j) (right_of r i j) a i x j y) (λ z. stored_fits z (exact o (width_of (left_of r i j)) (converted (left_of r i j) (number_of i x)) (converted (right_of r i j) (number_of j y)))) k (answer_of r i j) e

takes_it : (o : Op) (y : ℕ) → Divisor o y → takes o y ≡ true
takes_it o y h = search rules

answer_is : (o : Op) (a b : Number) → is_too_wide o a.kind b.kind ≡ false → Divisor o b.word → answer o a b ≡ applied o a.kind a.word b.kind b.word
unfolding answer
answer_is o a b w d = by (is_too_wide o a.kind b.kind) (takes o b.word) w (takes_it o b.word d)
  where
    by : (t u : Bool) → t ≡ false → u ≡ true → (if not t && u then applied o a.kind a.word b.kind b.word else None) ≡ applied o a.kind a.word b.kind b.word
    by false true p q = refl
    by false false p q = cc q
    by true u p q = cc p

answer_says : (k : Kind) (o : Option ℕ) → IsValid k → IsWord k o → Says k k (option_and_then (valued k) o) o
answer_says k o h (word {w = w} f) = literal_says k w h f

operator_says : (o : Op) (i j k : Kind) (x y : ℕ) → Answers o i j k → IsValid i → IsValid j → Divisor o y
    → Says k k (option_and_then (valued k) (answer o (num i x) (num j y))) (applied o i x j y)
operator_says o i j k x y h u v d =
    subst (λ z. Says k k (option_and_then (valued k) z) (applied o i x j y)) (sym (answer_is o (num i x) (num j y) h.is_narrow d))
    (answer_says k (applied o i x j y) (kind_valid o i j k u v h.has_rule) (applied_by o i j x y k (rule_at o i j) h.has_rule))

pub unary_says : (o : Op) (k : Kind) {j t : Kind} {v : Option Number} {s : Option ℕ} → Answers o j j k → ((n : Number) → v ≡ Some n → Divisor o n.word) → Says j t v s
    → Says k k (option_and_then (λ x. operated k o x None) v) (option_and_then (λ x. applied o t x t x) s)
unary_says o k h d nothing = nothing
unary_says o k {j = j} h d (number {w = w} u f) = operator_says o j j k w w h u u (d (num j w) refl)

pub binary_says : (o : Op) (k : Kind) {i j t q : Kind} {a b : Option Number} {r s : Option ℕ} → Answers o i j k → ((n : Number) → b ≡ Some n → Divisor o n.word) → Says i t a r → Says j q b s
    → Says k k (option_and_then (λ x. operated k o x (Some b)) a) (with_two r s (λ x y. applied o t x q y))
binary_says o k h d nothing g = nothing
binary_says o k h d (number u f) nothing = nothing
binary_says o k {i = i} {j = j} h d (number {w = x} u f) (number {w = y} v g) = operator_says o i j k x y h u v (d (num j y) refl)

-- ---- choices

stored_says : (k : Kind) (n : Number) → IsValid k → Says k k (stored_in k n) (Some (stored k (exactly n)))
stored_says k n h = subst (λ v. Says k k v (Some (stored k (exactly n)))) (sym (stored_some k n h)) (number h (stored_fits k (exactly n)))

chosen_says : (k c : Kind) (m : ℕ) (a b : Number) → IsValid k → Says k k (chosen k (num c m) a b) (Some (value.chosen m (stored k (exactly a)) (stored k (exactly b))))
chosen_says k c zero a b h = stored_says k b h
chosen_says k c (suc m) a b h =
    let e : nat_eq (suc m) 0 ≡ false = ne_eqb (suc m) 0 (λ p. absurd (omega (arith, p))) in
    subst (λ t. Says k k (stored_in k (if not t then a else b)) (Some (stored k (exactly a)))) (sym e) (stored_says k a h)

pub choose_says : (k : Kind) {c u i t j q : Kind} {z a b : Option Number} {n r s : Option ℕ} → IsValid k → Says c u z n → Says i t a r → Says j q b s
    → Says k k (option_and_then (λ x. option_and_then (λ y. option_and_then (λ w. chosen k x y w) b) a) z)
    (option_and_then (λ m. with_two r s (λ x y. Some (value.chosen m (stored k (number_of t x)) (stored k (number_of q y))))) n)
choose_says k h nothing f g = nothing
choose_says k h (number u e) nothing g = nothing
choose_says k h (number u e) (number v f) nothing = nothing
choose_says k {c = c} {i = i} {j = j} h (number {w = m} u e) (number {w = x} v f) (number {w = y} w g) = chosen_says k c m (num i x) (num j y) h

-- ---- bits

-- numbers whose low 128 bits tell whether they are small
InRange : ℤ → Type 0
InRange (pos n) = n < 2 ^ 128
InRange (negsuc n) = 2 * n < 2 ^ 128

range_of_word : (s : Bool) (w x : ℕ) → w ≤ 128 → x < 2 ^ w → InRange (reading s w x)
unfolding InRange
range_of_word s w x h f = by s (nat_lt (2 * x) (2 ^ w)) refl
  where
    small : 2 ^ w ≤ 2 ^ 128
    small = pow_mono h

    at : (b : Bool) → nat_lt (2 * x) (2 ^ w) ≡ b → InRange (cond b (pos x) (negsuc (2 ^ w - 1 - x)))
    at true e = omega (arith, small, f)
    at false e = let l : 2 ^ w ≤ 2 * x = grind (arith, common_steps, e) in omega (arith, small)

    by : (s b : Bool) → nat_lt (2 * x) (2 ^ w) ≡ b → InRange (reading s w x)
    by false b e = omega (arith, small, f)
    by true b e = at (nat_lt (2 * x) (2 ^ w)) refl

abbrev Told : Option ℕ → ℕ → Type 0
Told o n = ((m : ℕ) × (o ≡ Some m) × (n ≡ m)) ⊎ ((o ≡ None) × (4294967296 ≤ n))

told_number : (z : ℤ) → InRange z → Told (small_of z) (low 128 z)
unfolding InRange
told_number (pos n) h = by (nat_lt n 4294967296) refl
  where
    by : (b : Bool) → nat_lt n 4294967296 ≡ b → Told (if b then Some n else None) (n % 2 ^ 128)
    by true e = inl (n, refl, mod-eq_of_lt h)
    by false e = let l : 4294967296 ≤ n = grind (arith, common_steps, e) in let m : n % 2 ^ 128 ≡ n = mod-eq_of_lt h in inr (refl, omega arith)
told_number (negsuc n) h =
    let l : n < 2 ^ 128 = omega arith in
    let m : n % 2 ^ 128 ≡ n = mod-eq_of_lt l in
    inr (refl, omega arith)

-- the small number of an index, or none
pub index_told : (k : Kind) (y : ℕ) → IsValid k → Fits k y → Told (small (num k y)) (index_of k y)
unfolding small
index_told k y h f = told_number (number_of k y) (range_of_word (is_signed k) (width_of k) y (width_valid k h).1 f)

own_bit : (b : ℕ) → b < 2 → (if nat_eq b 1 then 1 else 0) ≡ b
own_bit zero h = refl
own_bit (suc zero) h = refl
own_bit (suc (suc b)) h = absurd (omega arith)

bit_less : (w x m : ℕ) → bit_at w x m < 2
bit_less w x m = by (nat_lt m w)
  where
    width : 2 ^ (m - m + 1) ≡ 2
    width = let e : m - m + 1 ≡ 1 = omega arith in ap (λ n. 2 ^ n) e

    by : (b : Bool) → (if b then part m m x else 0) < 2
    by true = rw width (omega arith)
    by false = omega arith

bit_same : (w x m : ℕ) → x < 2 ^ w → numbers.bit_at x (Some m) ≡ bit_at w x m
bit_same w x m f = by (nat_lt m w) refl
  where
    width : 2 ^ (m - m + 1) ≡ 2
    width = let e : m - m + 1 ≡ 1 = omega arith in ap (λ n. 2 ^ n) e

    by : (b : Bool) → nat_lt m w ≡ b → (if nat_eq (x / 2 ^ m % 2) 1 then 1 else 0) ≡ (if b then part m m x else 0)
    by true e = let l : x / 2 ^ m % 2 < 2 = omega arith in own_bit (x / 2 ^ m % 2) l ∙ ap (λ n. x / 2 ^ m % n) (sym width)
    by false e =
        let l : w ≤ m = grind (arith, common_steps, e) in
        let p : 2 ^ w ≤ 2 ^ m = pow_mono l in
        let q : x < 2 ^ m = omega arith in
        let z : x / 2 ^ m ≡ 0 = div-eq_of_lt q in
        ap (λ n. if nat_eq (n % 2) 1 then 1 else 0) z

no_bit : (w x n : ℕ) → w ≤ 128 → 4294967296 ≤ n → bit_at w x n ≡ 0
no_bit w x n h l = by (nat_lt n w) refl
  where
    by : (b : Bool) → nat_lt n w ≡ b → (if b then part n n x else 0) ≡ 0
    by true e = let p : n < w = grind (arith, common_steps, e) in absurd (omega arith)
    by false e = refl

bit_is : (j i : Kind) (x y : ℕ) → IsValid j → Fits j x → IsValid i → Fits i y → bit (num j x) (num i y) ≡ bit_at (width_of j) x (index_of i y)
unfolding bit
bit_is j i x y u f v g = by (index_told i y v g)
  where
    by : Told (small (num i y)) (index_of i y) → numbers.bit_at x (small (num i y)) ≡ bit_at (width_of j) x (index_of i y)
    by (inl (m, s, e)) = ap (numbers.bit_at x) s ∙ bit_same (width_of j) x m f ∙ ap (λ n. bit_at (width_of j) x n) (sym e)
    by (inr (s, l)) = ap (numbers.bit_at x) s ∙ sym (no_bit (width_of j) x (index_of i y) (width_valid j u).1 l)

pub bit_says : {j t i q : Kind} {v b : Option Number} {s r : Option ℕ} → Says j t v s → Says i q b r
    → Says kind.Bool kind.Bool (option_and_then (λ x. option_and_then (λ y. valued kind.Bool (bit x y)) b) v) (with_two s r (λ x y. Some (bit_at (width_of t) x (index_of q y))))
bit_says nothing g = nothing
bit_says (number u f) nothing = nothing
bit_says {j = j} {i = i} (number {w = x} u f) (number {w = y} v g) =
    subst (λ n. Says kind.Bool kind.Bool (valued kind.Bool (bit (num j x) (num i y))) (Some n)) (bit_is j i x y u f v g)
    (literal_says kind.Bool (bit (num j x) (num i y)) tt (subst (λ n. n < 2) (sym (bit_is j i x y u f v g)) (bit_less (width_of j) x (index_of i y))))

range_fits : (j k : Kind) (h l x : ℕ) → IsValid j → l ≤ h → h < width_of j → range_of j (h - l + 1) ≡ Some k → IsValid k × Fits k (part h l x)
range_fits j k h l x v a b e = by j v b e
  where
    less : part h l x < 2 ^ (h - l + 1)
    less = mod-lt (x / 2 ^ l) (pow_pos (h - l + 1))

    small : (z : Kind) (w : ℕ) → 1 ≤ w → w ≤ 64 → h < w → Some (kind.Uint (h - l + 1)) ≡ Some z → IsValid z × Fits z (part h l x)
    small z w m n p e = let q : kind.Uint (h - l + 1) ≡ z = cc e in subst (λ z. IsValid z × Fits z (part h l x)) q ((omega arith, omega arith), less)

    by : (j : Kind) → IsValid j → h < width_of j → range_of j (h - l + 1) ≡ Some k → IsValid k × Fits k (part h l x)
    by kind.Bool v b e = cc e
    by (kind.Native w s) v b e = cc e
    by (kind.Int w) v b e = small k w v.0 v.1 b e
    by (kind.Uint w) v b e = small k w v.0 v.1 b e
    by (kind.Big w) v b e = let q : kind.Big (h - l + 1) ≡ k = cc e in subst (λ z. IsValid z × Fits z (part h l x)) q ((omega arith, omega (arith, v.1)), less)
    by (kind.BigInt w) v b e = let q : kind.Big (h - l + 1) ≡ k = cc e in subst (λ z. IsValid z × Fits z (part h l x)) q ((omega arith, omega (arith, v.1)), less)
    by (kind.Bv w) v b e = let q : kind.Bv (h - l + 1) ≡ k = cc e in subst (λ z. IsValid z × Fits z (part h l x)) q ((omega arith, omega (arith, v.1)), less)
    by (kind.Wide w s) v b e = cc e

selected_some : (h l : ℕ) (n : Number) (k : Kind) → l ≤ h → h < width_of n.kind → range_of n.kind (h - l + 1) ≡ Some k → selected h l n ≡ Some (part h l n.word)
unfolding selected
selected_some h l n k a b e = by (nat_le l h) (nat_lt h (width_of n.kind)) (is_some (range_of n.kind (h - l + 1))) (grind (arith, common_steps)) (grind (arith, common_steps)) (ap is_some e)
  where
    by : (t u w : Bool) → t ≡ true → u ≡ true → w ≡ true → (if t && (u && w) then Some (part h l n.word) else None) ≡ Some (part h l n.word)
    by true true true p q r = refl
    by true true false p q r = cc r
    by true false w p q r = cc q
    by false u w p q r = cc p

pub range_says : (h l : ℕ) (k : Kind) {j t : Kind} {v : Option Number} {s : Option ℕ} → l ≤ h → h < width_of j → range_of j (h - l + 1) ≡ Some k → Says j t v s
    → Says k k (option_and_then (λ x. option_and_then (valued k) (selected h l x)) v) (option_map (part h l) s)
range_says h l k a b e nothing = nothing
range_says h l k {j = j} a b e (number {w = x} u f) =
    let g = range_fits j k h l x u a b e in
    subst (λ o. Says k k (option_and_then (valued k) o) (Some (part h l x))) (sym (selected_some h l (num j x) k a b e)) (literal_says k (part h l x) g.0 g.1)

-- ---- concatenations

-- the same whatever the kind of the term
pub data Words (k : Kind) : Option Number → Option ℕ → Type 0 where
  absent : Words k None None
  present : {w : ℕ} → IsValid k → Fits k w → Words k (Some (num k w)) (Some w)

pub as_word : {k t : Kind} {v : Option Number} {s : Option ℕ} → Says k t v s → Words k v s
as_word nothing = absent
as_word (number u f) = present u f

above_some : (j i k : Kind) (x y : ℕ) → concat_of j i ≡ Some k → width_of j + width_of i ≤ 128 → above (num j x) (num i y) ≡ Some (num k (joined (width_of i) x y))
unfolding above
above_some j i k x y e h = by (nat_le (width_of j + width_of i) 128) (grind (arith, common_steps)) ∙ ap (option_map (λ z. num z (joined (width_of i) x y))) e
  where
    by : (t : Bool) → t ≡ true → (if t then option_map (λ z. num z (joined (width_of i) x y)) (concat_of j i) else None) ≡ option_map (λ z. num z (joined (width_of i) x y)) (concat_of j i)
    by true p = refl
    by false p = cc p

pub above_says : (k : Kind) {j i q : Kind} {v b : Option Number} {s r : Option ℕ} → concat_of j i ≡ Some k → width_of j + width_of i ≤ 128 → Words j v s → Says i q b r
    → Words k (option_and_then (λ x. option_and_then (λ y. above x y) b) v) (with_two s r (λ x y. Some (joined (width_of q) x y)))
above_says k e h absent g = absent
above_says k e h (present u f) nothing = absent
above_says k {j = j} {i = i} e h (present {w = x} u f) (number {w = y} v g) =
    let p = parts_fit j i k (joined (width_of i) x y) u v h e (joined_fits (width_of j) (width_of i) x y g f) in
    subst (λ o. Words k o (Some (joined (width_of i) x y))) (sym (above_some j i k x y e h)) (present p.0 p.1)

-- what is joined already, and then further parts
pub above_on : (v n : Option Number) (ns : List (Option Number)) → option_and_then (λ x. above_all x (n ∷ ns)) v ≡ option_and_then (λ w. above_all w ns) (option_and_then (λ x. option_and_then (λ y. above x y) n) v)
above_on None n ns = refl
above_on (Some x) None ns = refl
above_on (Some x) (Some y) ns = refl

pub whole_says : {k : Kind} {v : Option Number} {s : Option ℕ} → Words k v s → Says k k (option_and_then (λ x. valued k x.word) v) s
whole_says absent = nothing
whole_says {k = k} (present {w = w} u f) = literal_says k w u f

pub alone_says : {k t : Kind} {v : Option Number} {s : Option ℕ} → Says k t v s → Says k t (option_and_then (λ x. valued k x.word) v) s
alone_says nothing = nothing
alone_says {k = k} (number {w = w} u f) = literal_says k w u f
