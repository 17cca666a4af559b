-- Hexadecimal digits and how many bits they need.
use Rattle.std.specs.Prelude.{◌≡◌, ℕ, ◌+◌, ◌*◌, ◌/◌, ◌^◌, ◌<◌, ◌≤◌, nat_eq, nat_lt, ◌⊎◌, true, length, drop, get_or, Option, Some, None}
use Rattle.std.proofs.Common.{sym, ◌∙◌, ap, arith, inl, inr}
use Rattle.std.proofs.Math.Pow.{pow_mono}
use Rattle.std.proofs.Math.Nat.{div-eq_of_lt}
use Rattle.std.proofs.lemmas.Nat.{pow-add, pow_pos, le-div}
use Rattle.std.proofs.lemmas.Bool.{lt-ltb, le-ltb, eq-eqb, ne_eqb, cases_lt}
use Rattle.std.proofs.lemmas.List.{drop_more, drop_all}
use Rattle.scc_trace.specs.Cut.{Bytes}
use Rattle.scc_trace.specs.Stimulus.{digit_of, digit_more, number_from}

-- one digit more has room
pub room : (n i len : ℕ) → n < 2 ^ (4 * i) → i < len → len ≤ 32 → 16 * n + 15 < 2 ^ 128
room n i len h k l =
    let m : 2 ^ (4 * i + 4) ≤ 2 ^ 128 = pow_mono {i = 4 * i + 4} {j = 128} (omega arith) in
    let e : 2 ^ (4 * i + 4) ≡ 2 ^ (4 * i) * 16 = pow-add 2 (4 * i) 4 in
    omega (arith, m, e, h)

pub digits_step : (n d i : ℕ) → n < 2 ^ (4 * i) → d < 16 → 16 * n + d < 2 ^ (4 * (i + 1))
digits_step n d i h k =
    let e : 2 ^ (4 * i + 4) ≡ 2 ^ (4 * i) * 16 = pow-add 2 (4 * i) 4 in
    let s : 4 * (i + 1) ≡ 4 * i + 4 = omega arith in
    rw s (omega (arith, e, h, k))

pub number_step : (n d i : ℕ) (t : Option ℕ) (ds : Bytes) → i < length ds → digit_of (get_or ds i 0) ≡ Some d → number_from n (drop i ds) ≡ t → number_from (16 * n + d) (drop (i + 1) ds) ≡ t
unfolding number_from
number_step n d i t ds h e inv =
    sym (ap (λ o. digit_more o (λ v. number_from (16 * n + v) (drop (i + 1) ds))) e) ∙ ap (λ u. number_from n u) (sym (drop_more ds i 0 h)) ∙ inv

pub number_stop : (n i : ℕ) (t : Option ℕ) (ds : Bytes) → i < length ds → digit_of (get_or ds i 0) ≡ None → number_from n (drop i ds) ≡ t → None ≡ t
unfolding number_from
number_stop n i t ds h e inv =
    sym (ap (λ o. digit_more o (λ v. number_from (16 * n + v) (drop (i + 1) ds))) e) ∙ ap (λ u. number_from n u) (sym (drop_more ds i 0 h)) ∙ inv

pub number_end : (n i : ℕ) (t : Option ℕ) (ds : Bytes) → length ds ≤ i → number_from n (drop i ds) ≡ t → Some n ≡ t
unfolding number_from
number_end n i t ds h inv = ap (λ u. number_from n u) (sym (drop_all i ds h)) ∙ inv

pub fits_wide : (width word : ℕ) → word < 2 ^ 128 → 128 ≤ width → true ≡ nat_lt word (2 ^ width)
fits_wide width word h k =
    let m : 2 ^ 128 ≤ 2 ^ width = pow_mono {i = 128} {j = width} k in
    sym (lt-ltb word (2 ^ width) (omega (arith, m, h)))

-- a word below a power has no quotient by it
pub fits_narrow : (width word : ℕ) → nat_eq (word / 2 ^ width) 0 ≡ nat_lt word (2 ^ width)
fits_narrow width word = by (cases_lt word (2 ^ width))
  where
    by : (word < 2 ^ width) ⊎ (2 ^ width ≤ word) → nat_eq (word / 2 ^ width) 0 ≡ nat_lt word (2 ^ width)
    by (inl below) = eq-eqb (word / 2 ^ width) 0 (div-eq_of_lt below) ∙ sym (lt-ltb word (2 ^ width) below)
    by (inr above) =
        let some : 0 < 2 ^ width = pow_pos width in
        let e : 1 * 2 ^ width ≤ word = omega (arith, above) in
        let one : 1 ≤ word / 2 ^ width = le-div 1 word (2 ^ width) some e in
        ne_eqb (word / 2 ^ width) 0 (λ z. omega (arith, one, z)) ∙ sym (le-ltb word (2 ^ width) above)
