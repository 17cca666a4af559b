-- A word of so many digits of base 16 has one text: digits that say it are the ones that are written of it.
use Rattle.std.proofs.Common.{◌≡◌, ◌<◌, ◌≤◌, ◌+◌, ◌-◌, ◌*◌, ◌/◌, ◌%◌, ◌^◌, ℕ, suc, Bool, true, false, ◌&&◌, ◌||◌, nat_le, nat_lt, [], ◌∷◌, length, refl, sym, ap, ◌∙◌, arith, pow_pos, pow_mono}
use Rattle.std.specs.Prelude.{if◌then◌else◌}
use Rattle.std.proofs.lemmas.Bool.{le-leb, leb-true, ltb-true, ltb-false}
use Rattle.std.proofs.lemmas.Bool.Decides.{nat_tests}
use Rattle.std.proofs.lemmas.Nat.{pow-add}
use Rattle.std.proofs.Math.Nat.{div-div-eq-div-mul, lt-div-mul-add}
use Rattle.scc_svtext.specs.Pieces.{digit, hex_text}
use Rattle.scc_svread_grammar.specs.Lexical.{Bytes, is_digit, is_hex_digit, all_pass}
use Rattle.scc_svread_grammar.proofs.Runs.{and_left, and_right}
use Rattle.scc_svread_check.specs.Numbers.{digit_value, hex_from, hex_number, word_number}

-- ---- one digit

above_9 : (b : ℕ) → 97 ≤ b → nat_le b 57 ≡ false
above_9 b h = grind (arith, nat_tests)

-- its value, and its byte again
record Digit (b : ℕ) : Type 0 where
  small : digit_value b < 16
  back : digit (digit_value b) ≡ b

digit_low : (b : ℕ) → 48 ≤ b → b ≤ 57 → Digit b
digit_low b l h = let e : digit_value b ≡ b - 48 = ap (λ t. if t then b - 48 else b - 87) (le-leb b 57 h) in record {
  small = omega (arith, e, l, h);
  back = ap digit e ∙ low_back;
}
  where
    low_back : digit (b - 48) ≡ b
    low_back = go (nat_lt (b - 48) 10) refl
      where
        go : (t : Bool) → nat_lt (b - 48) 10 ≡ t → (if t then 48 + (b - 48) else 87 + (b - 48)) ≡ b
        go true e = omega (arith, l)
        go false e = let f = ltb-false (b - 48) 10 e in absurd (omega (arith, f, l, h))

digit_high : (b : ℕ) → 97 ≤ b → b ≤ 102 → Digit b
digit_high b l h = let e : digit_value b ≡ b - 87 = ap (λ t. if t then b - 48 else b - 87) (above_9 b l) in record {
  small = omega (arith, e, l, h);
  back = ap digit e ∙ high_back;
}
  where
    high_back : digit (b - 87) ≡ b
    high_back = go (nat_lt (b - 87) 10) refl
      where
        go : (t : Bool) → nat_lt (b - 87) 10 ≡ t → (if t then 48 + (b - 87) else 87 + (b - 87)) ≡ b
        go true e = let f = ltb-true (b - 87) 10 e in absurd (omega (arith, f, l, h))
        go false e = omega (arith, l)

digit_of : (b : ℕ) → is_hex_digit b ≡ true → Digit b
digit_of b h = go (is_digit b) refl h
  where
    go : (t : Bool) → is_digit b ≡ t → (t || (nat_le 97 b && nat_le b 102)) ≡ true → Digit b
    go true e k = digit_low b (leb-true 48 b (and_left (nat_le 48 b) _ e)) (leb-true b 57 (and_right (nat_le 48 b) _ e))
    go false e k = digit_high b (leb-true 97 b (and_left (nat_le 97 b) _ k)) (leb-true b 102 (and_right (nat_le 97 b) _ k))

-- ---- all digits

above : (n v : ℕ) → v / 2 ^ (4 * suc n) ≡ v / 2 ^ (4 * n) / 16
above n v =
    let e : 4 * suc n ≡ 4 * n + 4 = omega arith in
    ap (λ k. v / 2 ^ k) e ∙ ap (λ k. v / k) (pow-add 2 (4 * n) 4) ∙ sym (div-div-eq-div-mul v (2 ^ (4 * n)) 16)

over_16 : (x d : ℕ) → d < 16 → (16 * x + d) / 16 ≡ x
over_16 x d h = omega (arith, h)

rest_16 : (x d : ℕ) → d < 16 → (16 * x + d) % 16 ≡ d
rest_16 x d h = omega (arith, h)

by_one : (x : ℕ) → x / 2 ^ (4 * 0) ≡ x
by_one x = omega arith

-- what stands above the digits is the number before them
top : (x : ℕ) (ds : Bytes) → all_pass is_hex_digit ds ≡ true → hex_from x ds / 2 ^ (4 * length ds) ≡ x
top x [] h = by_one x
top x (b ∷ bs) h =
    let d = digit_of b (and_left (is_hex_digit b) _ h) in
    above (length bs) (hex_from (16 * x + digit_value b) bs) ∙ ap (λ q. q / 16) (top (16 * x + digit_value b) bs (and_right (is_hex_digit b) _ h)) ∙ over_16 x (digit_value b) d.small

digits_back : (x : ℕ) (ds : Bytes) → all_pass is_hex_digit ds ≡ true → hex_text (length ds) (hex_from x ds) ≡ ds
unfolding hex_text
digits_back x [] h = refl
digits_back x (b ∷ bs) h =
    let d = digit_of b (and_left (is_hex_digit b) _ h) in
    let more = and_right (is_hex_digit b) _ h in
    let y : ℕ = 16 * x + digit_value b in
    ap (λ q. digit (q % 16) ∷ hex_text (length bs) (hex_from y bs)) (top y bs more) ∙ ap (λ q. digit q ∷ hex_text (length bs) (hex_from y bs)) (rest_16 x (digit_value b) d.small)
    ∙ ap (λ q. q ∷ hex_text (length bs) (hex_from y bs)) d.back ∙ ap (λ q. b ∷ q) (digits_back y bs more)

below : (ds : Bytes) → all_pass is_hex_digit ds ≡ true → hex_number ds < 2 ^ (4 * length ds)
below ds h =
    let m : ℕ = 2 ^ (4 * length ds) in
    let e : hex_number ds / m ≡ 0 = top 0 ds h in
    let l : hex_number ds < hex_number ds / m * m + m = lt-div-mul-add {a = hex_number ds} {b = m} (pow_pos (4 * length ds)) in
    let k : hex_number ds / m * m ≡ 0 = ap (λ q. q * m) e ∙ zero_times m in
    omega (arith, l, k)
  where
    zero_times : (m : ℕ) → 0 * m ≡ 0
    zero_times m = omega arith

-- of up to 32 digits, which hold 128 bits, none is cut
pub word_is : (ds : Bytes) → all_pass is_hex_digit ds ≡ true → length ds ≤ 32 → word_number ds ≡ hex_number ds
word_is ds h l =
    let m : 2 ^ (4 * length ds) ≤ 2 ^ 128 = pow_mono {i = 4 * length ds} {j = 128} (omega (arith, l)) in
    omega (arith, m, below ds h)

pub word_back : (n : ℕ) (ds : Bytes) → all_pass is_hex_digit ds ≡ true → length ds ≡ n → n ≤ 32 → hex_text n (word_number ds) ≡ ds
word_back n ds h l k = ap (λ i. hex_text i (word_number ds)) (sym l) ∙ ap (λ v. hex_text (length ds) v) (word_is ds h (omega (arith, l, k))) ∙ digits_back 0 ds h
