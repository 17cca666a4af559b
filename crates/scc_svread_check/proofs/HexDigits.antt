-- Digits of base 16, one after the other, cut at a bound.
use Rattle.std.specs.Prelude.{◌≡◌, ℕ, zero, suc, ◌+◌, ◌*◌, ◌<◌, ◌≤◌, min, nat_le, Bool, true, false, [], ◌∷◌, length, drop, refl}
use Rattle.std.proofs.Common.{sym, ◌∙◌, ap, arith, get_or}
use Rattle.std.proofs.lemmas.Bool.{leb-true, leb-false}
use Rattle.scc_svread_grammar.specs.Lexical.{Bytes}
use Rattle.scc_svread_check.specs.Numbers.{digit_value, hex_from}

hex_rises : (x : ℕ) (ds : Bytes) → x ≤ hex_from x ds
hex_rises x [] = omega arith
hex_rises x (d ∷ ds) = omega (arith, hex_rises (16 * x + digit_value d) ds)

hex_cut : (c x : ℕ) (ds : Bytes) → min (hex_from (min x c) ds) c ≡ min (hex_from x ds) c
hex_cut c x ds = pick (nat_le x c) refl
  where
    pick : (t : Bool) → nat_le x c ≡ t → min (hex_from (min x c) ds) c ≡ min (hex_from x ds) c
    pick true e = let low : x ≤ c = leb-true x c e in let same : min x c ≡ x = omega (arith, low) in rw same refl
    pick false e = let high : c < x = leb-false x c e in let same : min x c ≡ c = omega (arith, high) in rw same (omega (arith, high, hex_rises c ds, hex_rises x ds))

at_index : (i : ℕ) (ds : Bytes) → i < length ds → drop i ds ≡ get_or ds i 0 ∷ drop (i + 1) ds
at_index zero [] h = absurd (omega arith)
at_index zero (b ∷ bs) h = refl
at_index (suc i) [] h = absurd (omega arith)
at_index (suc i) (b ∷ bs) h = let e : suc i + 1 ≡ suc (i + 1) = omega arith in rw e (at_index i bs (omega arith))

-- one digit more
pub hex_step : (c x i v total : ℕ) (ds : Bytes) → i < length ds → v ≡ min (16 * x + digit_value (get_or ds i 0)) c → min (hex_from x (drop i ds)) c ≡ total → min (hex_from v (drop (i + 1) ds)) c ≡ total
hex_step c x i v total ds h e inv =
    ap (λ u. min (hex_from u (drop (i + 1) ds)) c) e ∙ hex_cut c (16 * x + digit_value (get_or ds i 0)) (drop (i + 1) ds)
    ∙ ap (λ us. min (hex_from x us) c) (sym (at_index i ds h)) ∙ inv

nothing_left : (n : ℕ) (ts : Bytes) → length ts ≤ n → drop n ts ≡ []
nothing_left zero [] h = refl
nothing_left zero (b ∷ bs) h = absurd (omega arith)
nothing_left (suc n) [] h = refl
nothing_left (suc n) (b ∷ bs) h = nothing_left n bs (omega arith)

pub hex_end : (c x i total : ℕ) (ds : Bytes) → length ds ≤ i → x ≤ c → min (hex_from x (drop i ds)) c ≡ total → x ≡ total
hex_end c x i total ds h low inv =
    let none : min (hex_from x []) c ≡ total = ap (λ us. min (hex_from x us) c) (sym (nothing_left i ds h)) ∙ inv in
    omega (arith, none, low)
