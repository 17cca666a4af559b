-- Digits of base 16 of a number, and the number that they stand for.
use Rattle.std.proofs.Common.{◌≡◌, ◌<◌, ◌≤◌, ◌+◌, ◌-◌, ◌*◌, ◌/◌, ◌%◌, ◌^◌, ℕ, zero, suc, Bool, true, false, ◌||◌, nat_le, nat_lt, length, refl, sym, ap, ◌∙◌, arith}
use Rattle.std.specs.Prelude.{if◌then◌else◌}
use Rattle.std.proofs.lemmas.Bool.{le-leb}
use Rattle.std.proofs.lemmas.Nat.{pow-add}
use Rattle.std.proofs.Math.Nat.{div-div-eq-div-mul, div-eq_of_lt}
use Rattle.std.proofs.Math.Pow.{pow_mono}
use borrow.Author.Tests.{ltb-true, ltb-false}
use Rattle.std.proofs.lemmas.Bool.Decides.{nat_tests}
use Rattle.scc_svtext.specs.Pieces.{digit, hex_text}
use Rattle.scc_svread_grammar.specs.Lexical.{is_digit, is_hex_digit, all_pass}
use Rattle.scc_svread_written.proofs.Decimals.{both}
use Rattle.scc_svread_check.specs.Numbers.{digit_value, hex_from, hex_number, word_number}

above_9 : (d : ℕ) → 10 ≤ d → nat_le (87 + d) 57 ≡ false
above_9 d h = grind (arith, nat_tests)

value_digit : (d : ℕ) → d < 16 → digit_value (digit d) ≡ d
value_digit d h = go (nat_lt d 10) refl
  where
    go : (t : Bool) → nat_lt d 10 ≡ t → digit_value (if t then 48 + d else 87 + d) ≡ d
    go true e = let l = ltb-true d 10 e in ap (λ c. if c then (48 + d) - 48 else (48 + d) - 87) (le-leb (48 + d) 57 (omega (arith, l))) ∙ omega arith
    go false e = let l = ltb-false d 10 e in ap (λ c. if c then (87 + d) - 48 else (87 + d) - 87) (above_9 d l) ∙ omega arith

either : (a b : Bool) → b ≡ true → (a || b) ≡ true
either true b h = refl
either false b h = h

first : (a b : Bool) → a ≡ true → (a || b) ≡ true
first true b h = refl
first false b h = cc

digit_is : (d : ℕ) → d < 16 → is_hex_digit (digit d) ≡ true
digit_is d h = go (nat_lt d 10) refl
  where
    go : (t : Bool) → nat_lt d 10 ≡ t → is_hex_digit (if t then 48 + d else 87 + d) ≡ true
    go true e = let l = ltb-true d 10 e in first (is_digit (48 + d)) _ (both (nat_le 48 (48 + d)) (nat_le (48 + d) 57) (le-leb 48 (48 + d) (omega arith)) (le-leb (48 + d) 57 (omega (arith, l))))
    go false e = let l = ltb-false d 10 e in either (is_digit (87 + d)) _ (both (nat_le 97 (87 + d)) (nat_le (87 + d) 102) (le-leb 97 (87 + d) (omega (arith, l))) (le-leb (87 + d) 102 (omega arith)))

digit_small : (q : ℕ) → q % 16 < 16
digit_small q = omega arith

pub hex_digits : (n v : ℕ) → all_pass is_hex_digit (hex_text n v) ≡ true
unfolding hex_text
hex_digits zero v = refl
hex_digits (suc n) v = both (is_hex_digit (digit (v / 2 ^ (4 * n) % 16))) _ (digit_is (v / 2 ^ (4 * n) % 16) (digit_small (v / 2 ^ (4 * n)))) (hex_digits n v)

pub length-hex : (n v : ℕ) → length (hex_text n v) ≡ n
unfolding hex_text
length-hex zero v = refl
length-hex (suc n) v = ap suc (length-hex n v)

-- what stands above one digit more
above : (n v : ℕ) → v / 2 ^ (4 * suc n) ≡ v / 2 ^ (4 * n) / 16
above n v =
    let e : 4 * suc n ≡ 4 * n + 4 = omega arith in
    ap (λ k. v / 2 ^ k) e ∙ ap (λ k. v / k) (pow-add 2 (4 * n) 4) ∙ sym (div-div-eq-div-mul v (2 ^ (4 * n)) 16)

whole : (q d before : ℕ) → before ≡ q / 16 → d ≡ q % 16 → 16 * before + d ≡ q
whole q d before h k = omega arith

-- the digits go on from the ones above them
hex_back : (n v before : ℕ) → before ≡ v / 2 ^ (4 * n) → hex_from before (hex_text n v) ≡ v
unfolding hex_text
hex_back zero v before h = h ∙ omega arith
hex_back (suc n) v before h =
    let q : ℕ = v / 2 ^ (4 * n) in
    hex_back n v (16 * before + digit_value (digit (q % 16))) (whole q (digit_value (digit (q % 16))) before (h ∙ above n v) (value_digit (q % 16) (digit_small q)))

-- as many digits as a width has hold what fits it
exact_hex : (w v : ℕ) → v < 2 ^ w → hex_number (hex_text ((w + 3) / 4) v) ≡ v
exact_hex w v h =
    let m : 2 ^ w ≤ 2 ^ (4 * ((w + 3) / 4)) = pow_mono {i = w} {j = 4 * ((w + 3) / 4)} (omega arith) in
    let l : v < 2 ^ (4 * ((w + 3) / 4)) = omega (arith, h, m) in
    hex_back ((w + 3) / 4) v 0 (sym (div-eq_of_lt l))

pub number_hex : (w v : ℕ) → w ≤ 128 → v < 2 ^ w → word_number (hex_text ((w + 3) / 4) v) ≡ v
number_hex w v b h =
    let m : 2 ^ w ≤ 2 ^ 128 = pow_mono {i = w} {j = 128} b in
    let e = exact_hex w v h in
    omega (arith, m, e, h)
