-- Runs by their lengths.
use Rattle.std.specs.Prelude.{◌≡◌, ℕ, zero, suc, ◌+◌, ◌-◌, ◌*◌, ◌<◌, ◌≤◌, min, nat_le, Bool, true, false, cond, if◌then◌else◌, [], ◌∷◌, length, take, drop, Some, None, Ok, Err, refl}
use Rattle.std.specs.List.{prefix_len}
use Rattle.std.proofs.Common.{sym, ◌∙◌, ap, subst, arith}
use Rattle.std.proofs.lemmas.Bool.{leb-true, leb-false}
use Rattle.std.proofs.lemmas.List.Sums.{prefix_len-le-length}
use Rattle.std.proofs.Common.{length-drop, get_or}
use Rattle.scc_svread_grammar.specs.Leaves as Leaves
use Rattle.scc_svread_grammar.specs.Leaves.{literal_of, digits_behind}
use Rattle.scc_svread_grammar.specs.Lexical.{is_hex_digit}
use Rattle.scc_reading.specs.Reading.{unexpected, and_then, ◌>>=◌, pure, take_at}
use Rattle.scc_svread_grammar.specs.Lexical.{Bytes, number_from, digits_of}
use Rattle.scc_svread_grammar.specs.Leaves.{passes, run_word, run_rest, run, count}

take_more : (n : ℕ) (b : ℕ) (bs : Bytes) → take (1 + n) (b ∷ bs) ≡ b ∷ take n bs
take_more n b bs = let e : 1 + n ≡ suc n = omega arith in rw e refl

drop_more : (n : ℕ) (b : ℕ) (bs : Bytes) → drop (1 + n) (b ∷ bs) ≡ drop n bs
drop_more n b bs = let e : 1 + n ≡ suc n = omega arith in rw e refl

module _ (test : ℕ → Bool) where
  word_is : (ts : Bytes) → run_word test ts ≡ take (prefix_len test ts) ts
  unfolding run_word
  word_is [] = refl
  word_is (b ∷ bs) = pick (test b) (word_is bs)
    where
      pick : (t : Bool) → run_word test bs ≡ take (prefix_len test bs) bs → cond t (b ∷ run_word test bs) [] ≡ take (cond t (1 + prefix_len test bs) 0) (b ∷ bs)
      pick true h = ap (λ w. b ∷ w) h ∙ sym (take_more (prefix_len test bs) b bs)
      pick false h = refl

  rest_is : (ts : Bytes) → run_rest test ts ≡ drop (prefix_len test ts) ts
  unfolding run_rest
  rest_is [] = refl
  rest_is (b ∷ bs) = pick (test b) (rest_is bs)
    where
      pick : (t : Bool) → run_rest test bs ≡ drop (prefix_len test bs) bs → cond t (run_rest test bs) (b ∷ bs) ≡ drop (cond t (1 + prefix_len test bs) 0) (b ∷ bs)
      pick true h = h ∙ sym (drop_more (prefix_len test bs) b bs)
      pick false h = refl

  pub run_split : (ts : Bytes) → run test ts ≡ Ok (take (prefix_len test ts) ts, drop (prefix_len test ts) ts)
  unfolding run
  run_split ts = ap (λ w. Ok (w, run_rest test ts)) (word_is ts) ∙ ap (λ w. Ok (take (prefix_len test ts) ts, w)) (rest_is ts)

  -- so many bytes, where there are so many
  pub count_enough : (n : ℕ) (ts : Bytes) → n ≤ prefix_len test ts → count test n ts ≡ Ok (take n ts, drop n ts)
  unfolding count
  count_enough zero ts h = refl
  count_enough (suc n) [] h = absurd (omega arith)
  count_enough (suc n) (b ∷ bs) h = pick (test b) refl (count_enough n bs)
    where
      pick : (t : Bool) → test b ≡ t → (n ≤ prefix_len test bs → count test n bs ≡ Ok (take n bs, drop n bs)) → count test (suc n) (b ∷ bs) ≡ Ok (b ∷ take n bs, drop n bs)
      pick true e f =
          let long : suc n ≤ 1 + prefix_len test bs = subst (λ t. suc n ≤ cond t (1 + prefix_len test bs) 0) e h in
          ap (λ c. and_then (take_at (if c then Some b else None) b bs) (λ b. count test n >>= λ more. pure (b ∷ more))) e ∙ ap (λ o. and_then o (λ more. pure (b ∷ more))) (f (omega arith))
      pick false e f = let short : suc n ≤ 0 = subst (λ t. suc n ≤ cond t (1 + prefix_len test bs) 0) e h in absurd (omega arith)

  pub count_short : (n : ℕ) (ts : Bytes) → prefix_len test ts < n → count test n ts ≡ Err (unexpected (drop (prefix_len test ts) ts))
  unfolding count
  count_short zero ts h = absurd (omega arith)
  count_short (suc n) [] h = refl
  count_short (suc n) (b ∷ bs) h = pick (test b) refl (count_short n bs)
    where
      pick : (t : Bool) → test b ≡ t → (prefix_len test bs < n → count test n bs ≡ Err (unexpected (drop (prefix_len test bs) bs))) → count test (suc n) (b ∷ bs) ≡ Err (unexpected (drop (cond t (1 + prefix_len test bs) 0) (b ∷ bs)))
      pick true e f =
          let long : 1 + prefix_len test bs < suc n = subst (λ t. cond t (1 + prefix_len test bs) 0 < suc n) e h in
          ap (λ c. and_then (take_at (if c then Some b else None) b bs) (λ b. count test n >>= λ more. pure (b ∷ more))) e ∙ ap (λ o. and_then o (λ more. pure (b ∷ more))) (f (omega arith))
          ∙ ap (λ u. Err (unexpected u)) (sym (drop_more (prefix_len test bs) b bs))
      pick false e f = ap (λ c. and_then (take_at (if c then Some b else None) b bs) (λ b. count test n >>= λ more. pure (b ∷ more))) e

-- ---- numbers that are cut at a bound

number_rises : (x : ℕ) (ds : Bytes) → x ≤ number_from x ds
number_rises x [] = omega arith
number_rises x (d ∷ ds) = omega (arith, number_rises (10 * x + (d - 48)) ds)

pub number_cut : (c x : ℕ) (ds : Bytes) → min (number_from (min x c) ds) c ≡ min (number_from x ds) c
number_cut c x ds = pick (nat_le x c) refl
  where
    pick : (t : Bool) → nat_le x c ≡ t → min (number_from (min x c) ds) c ≡ min (number_from x ds) c
    pick true e = let low : x ≤ c = leb-true x c e in let same : min x c ≡ x = omega (arith, low) in rw same refl
    pick false e = let high : c < x = leb-false x c e in let same : min x c ≡ c = omega (arith, high) in rw same (omega (arith, high, number_rises c ds, number_rises x ds))

pub run_bound : (test : ℕ → Bool) (ts : Bytes) → prefix_len test ts ≤ length ts
run_bound test ts = prefix_len-le-length test ts

at_index : (i : ℕ) (ds : Bytes) → i < length ds → drop i ds ≡ get_or ds i 0 ∷ drop (i + 1) ds
at_index zero [] h = absurd (omega arith)
at_index zero (b ∷ bs) h = refl
at_index (suc i) [] h = absurd (omega arith)
at_index (suc i) (b ∷ bs) h = let e : suc i + 1 ≡ suc (i + 1) = omega arith in rw e (at_index i bs (omega arith))

-- one digit more
pub number_step : (c x i v total : ℕ) (ds : Bytes) → i < length ds → v ≡ min (10 * x + (get_or ds i 0 - 48)) c → min (number_from x (drop i ds)) c ≡ total → min (number_from v (drop (i + 1) ds)) c ≡ total
number_step c x i v total ds h e inv =
    ap (λ u. min (number_from u (drop (i + 1) ds)) c) e ∙ number_cut c (10 * x + (get_or ds i 0 - 48)) (drop (i + 1) ds)
    ∙ ap (λ us. min (number_from x us) c) (sym (at_index i ds h)) ∙ inv

nothing_left : (n : ℕ) (ts : Bytes) → length ts ≤ n → drop n ts ≡ []
nothing_left zero [] h = refl
nothing_left zero (b ∷ bs) h = absurd (omega arith)
nothing_left (suc n) [] h = refl
nothing_left (suc n) (b ∷ bs) h = nothing_left n bs (omega arith)

pub number_end : (c x i total : ℕ) (ds : Bytes) → length ds ≤ i → x ≤ c → min (number_from x (drop i ds)) c ≡ total → x ≡ total
number_end c x i total ds h low inv =
    let none : min (number_from x []) c ≡ total = ap (λ us. min (number_from x us) c) (sym (nothing_left i ds h)) ∙ inv in
    omega (arith, none, low)

-- ---- the digits of a literal

pub enough_is : (n run count : ℕ) → Some count ≡ (if nat_le n run then Some n else None) → (n ≤ run) × (count ≡ n)
enough_is n run count = go (nat_le n run) refl
  where
    go : (t : Bool) → nat_le n run ≡ t → Some count ≡ (if t then Some n else None) → (n ≤ run) × (count ≡ n)
    go true e h = let same : count ≡ n = cc in (leb-true n run e, same)
    go false e h = cc

pub short_is : (n run : ℕ) → None ≡ (if nat_le n run then Some n else None) → run < n
short_is n run = go (nat_le n run) refl
  where
    go : (t : Bool) → nat_le n run ≡ t → None ≡ (if t then Some n else None) → run < n
    go true e h = cc
    go false e h = leb-false n run e

pub digits_bound : (ws ts : Bytes) (count run : ℕ) → run ≡ prefix_len is_hex_digit ts → Some count ≡ (if nat_le (digits_of ws) run then Some (digits_of ws) else None) → count ≤ length ts
digits_bound ws ts count run r h = let k : (digits_of ws ≤ run) × (count ≡ digits_of ws) = enough_is (digits_of ws) run count h in omega (arith, k.0, k.1, r, run_bound is_hex_digit ts)

pub digits_found : (width ws ts : Bytes) (count run : ℕ) → ws ≡ width → run ≡ prefix_len is_hex_digit ts → Some count ≡ (if nat_le (digits_of ws) run then Some (digits_of ws) else None)
    → digits_behind width ts ≡ Ok (literal_of width (take count ts), drop count ts)
unfolding digits_behind
digits_found width ws ts count run w r h =
    let k : (digits_of ws ≤ run) × (count ≡ digits_of ws) = enough_is (digits_of ws) run count h in
    let same : digits_of width ≡ count = ap digits_of (sym w) ∙ sym k.1 in
    let low : count ≤ prefix_len is_hex_digit ts = omega (arith, k.0, k.1, r) in
    ap (λ n. and_then (Leaves.count is_hex_digit n ts) (λ digits. pure (literal_of width digits))) same ∙ ap (λ o. and_then o (λ digits. pure (literal_of width digits))) (count_enough is_hex_digit count ts low)

pub digits_missing : (width ws ts : Bytes) (run : ℕ) → ws ≡ width → run ≡ prefix_len is_hex_digit ts → None ≡ (if nat_le (digits_of ws) run then Some (digits_of ws) else None)
    → (r : Bytes) × (digits_behind width ts ≡ Err (unexpected r)) × (length ts - run ≡ length r)
unfolding digits_behind
digits_missing width ws ts run w r h =
    let few : run < digits_of ws = short_is (digits_of ws) run h in
    let low : prefix_len is_hex_digit ts < digits_of width = subst (λ u. prefix_len is_hex_digit ts < digits_of u) w (omega (arith, few, r)) in
    (drop (prefix_len is_hex_digit ts) ts, ap (λ o. and_then o (λ digits. pure (literal_of width digits))) (count_short is_hex_digit (digits_of width) ts low), ap (λ n. length ts - n) r ∙ sym (length-drop (prefix_len is_hex_digit ts) ts))
