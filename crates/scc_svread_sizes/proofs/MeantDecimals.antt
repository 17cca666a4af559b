-- A number has one decimal text: digits that say it are the ones that are written of it.
use Rattle.std.proofs.Common.{◌≡◌, ◌<◌, ◌≤◌, ◌+◌, ◌-◌, ◌*◌, ◌/◌, ◌%◌, ◌^◌, ℕ, Bool, true, false, ◌&&◌, ◌||◌, nat_le, [], ◌∷◌, ◌++◌, decimal, refl, sym, ap, ◌∙◌, arith}
use Rattle.std.specs.Prelude.{codes, bytes_eq}
use Rattle.std.proofs.lemmas.Fmt.{decimal_by_steps}
use Rattle.std.proofs.lemmas.Bool.{leb-true}
use Rattle.std.proofs.lemmas.Slice.Eq.{bytes_eq-Decides}
use Rattle.scc_svread_grammar.specs.Lexical.{Bytes, is_digit, all_pass, is_positive, is_decimal, number_from, number}
use Rattle.scc_svread_grammar.proofs.Numbers.{positive_decimal}
use Rattle.scc_svread_grammar.proofs.Runs.{and_left, and_right}
use Rattle.scc_svread_check.specs.Scope.{number_in}
use Rattle.scc_svread_check.specs.Numbers.{small_number}
use Rattle.scc_svread_written.proofs.Decimals.{both}

-- ---- digits from the last one on

-- the last digit, and those before it
record Ends (ds : Bytes) : Type 0 where
  front : Bytes
  last : ℕ
  same : ds ≡ front ++ last ∷ []
  digits : all_pass is_digit front ≡ true
  digit : is_digit last ≡ true

ends : (b : ℕ) (bs : Bytes) → all_pass is_digit (b ∷ bs) ≡ true → Ends (b ∷ bs)
ends b [] h = record { front = []; last = b; same = refl; digits = refl; digit = and_left (is_digit b) true h }
ends b (c ∷ cs) h =
    let e = ends c cs (and_right (is_digit b) _ h) in
    record { front = b ∷ e.front; last = e.last; same = ap (λ u. b ∷ u) e.same; digits = both (is_digit b) _ (and_left (is_digit b) _ h) e.digits; digit = e.digit }

push : (before : ℕ) (ds : Bytes) (d : ℕ) → number_from before (ds ++ d ∷ []) ≡ 10 * number_from before ds + (d - 48)
push before [] d = refl
push before (b ∷ ds) d = push (10 * before + (b - 48)) ds d

rises : (x : ℕ) (ds : Bytes) → x ≤ number_from x ds
rises x [] = omega arith
rises x (d ∷ ds) = omega (arith, rises (10 * x + (d - 48)) ds)

within : (low high b : ℕ) → (nat_le low b && nat_le b high) ≡ true → (low ≤ b) × (b ≤ high)
within low high b h = (leb-true low b (and_left (nat_le low b) _ h), leb-true b high (and_right (nat_le low b) _ h))

not_zero : (ds : Bytes) → bytes_eq ds (codes "0") ≡ false → is_decimal ds ≡ true → is_positive ds ≡ true
not_zero ds e h = ap (λ t. t || is_positive ds) (sym e) ∙ h

-- ---- one text

-- whatever digits say the number are these
abbrev IsOnly : ℕ → Bytes → Type 0
IsOnly n ds = (es : Bytes) → is_decimal es ≡ true → number es ≡ n → ds ≡ es

first_digit : (b : ℕ) (bs : Bytes) → is_positive (b ∷ bs) ≡ true → (49 ≤ b) × (b ≤ 57)
first_digit b bs h = within 49 57 b (and_left (nat_le 49 b && nat_le b 57) _ h)

one_positive : (n : ℕ) → n < 10 → (es : Bytes) → is_positive es ≡ true → number es ≡ n → (48 + n) ∷ [] ≡ es
one_positive n h [] p v = cc
one_positive n h (b ∷ []) p v = let f = first_digit b [] p in ap (λ c. c ∷ []) (omega (arith, f.0, v))
one_positive n h (b ∷ c ∷ cs) p v =
    let f = first_digit b (c ∷ cs) p in
    absurd (omega (arith, f.0, v, h, rises (10 * (10 * 0 + (b - 48)) + (c - 48)) cs))

one : (n : ℕ) → n < 10 → IsOnly n ((48 + n) ∷ [])
one n h es d v = go (bytes_eq es (codes "0")) refl
  where
    go : (t : Bool) → bytes_eq es (codes "0") ≡ t → (48 + n) ∷ [] ≡ es
    go true e =
        let z : es ≡ codes "0" = (bytes_eq-Decides es (codes "0")).0 e in
        let k : 0 ≡ n = ap number (sym z) ∙ v in
        ap (λ c. (48 + c) ∷ []) (sym k) ∙ sym z
    go false e = one_positive n h es (not_zero es e d) v

more_positive : (n : ℕ) (ds : Bytes) → 10 ≤ n → IsOnly (n / 10) ds → (es : Bytes) → is_positive es ≡ true → number es ≡ n → ds ++ (48 + n % 10) ∷ [] ≡ es
more_positive n ds h k [] p v = cc
more_positive n ds h k (b ∷ []) p v = let f = first_digit b [] p in absurd (omega (arith, f.1, v, h))
more_positive n ds h k (b ∷ c ∷ cs) p v =
    let e = ends c cs (and_right (nat_le 49 b && nat_le b 57) _ p) in
    let front : Bytes = b ∷ e.front in
    let positive : is_positive front ≡ true = both (nat_le 49 b && nat_le b 57) _ (and_left (nat_le 49 b && nat_le b 57) _ p) e.digits in
    let same : b ∷ c ∷ cs ≡ front ++ e.last ∷ [] = ap (λ u. b ∷ u) e.same in
    let value : 10 * number front + (e.last - 48) ≡ n = sym (push 0 front e.last) ∙ ap number (sym same) ∙ v in
    let d = within 48 57 e.last e.digit in
    let above : number front ≡ n / 10 = omega (arith, value, d.0, d.1) in
    let below : 48 + n % 10 ≡ e.last = omega (arith, value, d.0, d.1) in
    ap (λ u. u ++ (48 + n % 10) ∷ []) (k front (positive_decimal front positive) above) ∙ ap (λ u. front ++ u ∷ []) below ∙ sym same

more : (n : ℕ) (ds : Bytes) → 10 ≤ n → IsOnly (n / 10) ds → IsOnly n (ds ++ (48 + n % 10) ∷ [])
more n ds h k es d v = go (bytes_eq es (codes "0")) refl
  where
    go : (t : Bool) → bytes_eq es (codes "0") ≡ t → ds ++ (48 + n % 10) ∷ [] ≡ es
    go true e =
        let z : es ≡ codes "0" = (bytes_eq-Decides es (codes "0")).0 e in
        let v0 : 0 ≡ n = ap number (sym z) ∙ v in
        absurd (omega (arith, v0, h))
    go false e = more_positive n ds h k es (not_zero es e d) v

decimal_back : (ds : Bytes) → is_decimal ds ≡ true → number ds < 2 ^ 64 → decimal (number ds) ≡ ds
decimal_back ds d h = decimal_by_steps IsOnly one more (number ds) h ds d refl

-- ---- numbers of up to 128

-- such a number is not cut
pub small_is : (ds : Bytes) → number_in ds ≤ 128 → number ds ≡ small_number ds
small_is ds h = omega (arith, h)

pub in_is : (ds : Bytes) → number_in ds ≤ 128 → number_in ds ≡ small_number ds
in_is ds h = omega (arith, h)

pub small_back : (ds : Bytes) → is_decimal ds ≡ true → number_in ds ≤ 128 → decimal (small_number ds) ≡ ds
small_back ds d h =
    let e = small_is ds h in
    let low : number ds < 2 ^ 64 = omega (arith, h) in
    ap decimal (sym e) ∙ decimal_back ds d low
