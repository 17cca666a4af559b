-- Texts cut at a separator.
use Rattle.std.specs.Prelude.{◌≡◌, ℕ, suc, ◌+◌, ◌-◌, ◌≤◌, ◌<◌, nat_eq, not, Bool, true, false, cond, [], ◌∷◌, length, take, drop, refl}
use Rattle.std.specs.List.{prefix_len}
use Rattle.std.proofs.Common.{sym, ◌∙◌, ap, arith}
use Rattle.std.proofs.lemmas.List.Sums.{prefix_len-le-length}
use Rattle.std.proofs.lemmas.List.{take_all}
use Rattle.scc_trace.specs.Cut.{Bytes, Piece, onto, lines, words, first, others, lines_behind, words_behind}

abbrev passes : ℕ → ℕ → Bool
passes s b = not (nat_eq b s)

take_more : (n b : ℕ) (bs : Bytes) → take (1 + n) (b ∷ bs) ≡ b ∷ take n bs
take_more n b bs = let e : 1 + n ≡ suc n = omega arith in rw e refl

drop_more : (n b : ℕ) (bs : Bytes) → drop (1 + n) (b ∷ bs) ≡ drop n bs
drop_more n b bs = let e : 1 + n ≡ suc n = omega arith in rw e refl

pub first_is : (s : ℕ) (ts : Bytes) → first s ts ≡ take (prefix_len (passes s) ts) ts
unfolding first
first_is s [] = refl
first_is s (b ∷ bs) = pick (nat_eq b s) (first_is s bs)
  where
    pick : (t : Bool) → first s bs ≡ take (prefix_len (passes s) bs) bs → cond t [] (b ∷ first s bs) ≡ take (cond (not t) (1 + prefix_len (passes s) bs) 0) (b ∷ bs)
    pick true h = refl
    pick false h = ap (λ w. b ∷ w) h ∙ sym (take_more (prefix_len (passes s) bs) b bs)

pub others_is : (s : ℕ) (ts : Bytes) → others s ts ≡ drop (prefix_len (passes s) ts) ts
unfolding others
others_is s [] = refl
others_is s (b ∷ bs) = pick (nat_eq b s) (others_is s bs)
  where
    pick : (t : Bool) → others s bs ≡ drop (prefix_len (passes s) bs) bs → cond t (b ∷ bs) (others s bs) ≡ drop (cond (not t) (1 + prefix_len (passes s) bs) 0) (b ∷ bs)
    pick true h = refl
    pick false h = h ∙ sym (drop_more (prefix_len (passes s) bs) b bs)

abbrev piece : ℕ → Bytes → Piece
piece at bytes = record { at = at; bytes = bytes }

pub lines_cut : (at to : ℕ) (ts : Bytes) → 0 < length ts → to + length (others 10 ts) ≡ at + length ts → lines at ts ≡ piece at (first 10 ts) ∷ lines_behind to (others 10 ts)
unfolding lines first others
lines_cut at to [] some h = absurd (omega arith)
lines_cut at to (b ∷ []) some h = pick (nat_eq b 10) h
  where
    pick : (t : Bool) → to + length (cond t (b ∷ []) []) ≡ at + 1 → cond t (piece at [] ∷ []) (onto at b []) ≡ piece at (cond t [] (b ∷ [])) ∷ lines_behind to (cond t (b ∷ []) [])
    pick true e = refl
    pick false e = refl
lines_cut at to (b ∷ c ∷ cs) some h = pick (nat_eq b 10) h (lines_cut (suc at) to (c ∷ cs) (omega arith))
  where
    pick : (t : Bool) → to + length (cond t (b ∷ c ∷ cs) (others 10 (c ∷ cs))) ≡ at + length (b ∷ c ∷ cs)
        → (to + length (others 10 (c ∷ cs)) ≡ suc at + length (c ∷ cs) → lines (suc at) (c ∷ cs) ≡ piece (suc at) (first 10 (c ∷ cs)) ∷ lines_behind to (others 10 (c ∷ cs)))
        → cond t (piece at [] ∷ lines (suc at) (c ∷ cs)) (onto at b (lines (suc at) (c ∷ cs))) ≡ piece at (cond t [] (b ∷ first 10 (c ∷ cs))) ∷ lines_behind to (cond t (b ∷ c ∷ cs) (others 10 (c ∷ cs)))
    pick true e f = let same : to ≡ at = omega arith in rw same refl
    pick false e f = ap (onto at b) (f (omega arith))

pub words_cut : (at to : ℕ) (ts : Bytes) → to + length (others 32 ts) ≡ at + length ts → words at ts ≡ piece at (first 32 ts) ∷ words_behind to (others 32 ts)
unfolding words first others
words_cut at to [] h = refl
words_cut at to (b ∷ bs) h = pick (nat_eq b 32) h (words_cut (suc at) to bs)
  where
    pick : (t : Bool) → to + length (cond t (b ∷ bs) (others 32 bs)) ≡ at + length (b ∷ bs)
        → (to + length (others 32 bs) ≡ suc at + length bs → words (suc at) bs ≡ piece (suc at) (first 32 bs) ∷ words_behind to (others 32 bs))
        → cond t (piece at [] ∷ words (suc at) bs) (onto at b (words (suc at) bs)) ≡ piece at (cond t [] (b ∷ first 32 bs)) ∷ words_behind to (cond t (b ∷ bs) (others 32 bs))
    pick true e f = let same : to ≡ at = omega arith in rw same refl
    pick false e f = ap (onto at b) (f (omega arith))

pub first_bound : (s : ℕ) (ts : Bytes) → prefix_len (passes s) ts ≤ length ts
first_bound s ts = prefix_len-le-length (passes s) ts

pub others_bound : (s : ℕ) (ts : Bytes) → length (others s ts) ≤ length ts
unfolding others
others_bound s [] = omega arith
others_bound s (b ∷ bs) = pick (nat_eq b s) (others_bound s bs)
  where
    pick : (t : Bool) → length (others s bs) ≤ length bs → length (cond t (b ∷ bs) (others s bs)) ≤ length (b ∷ bs)
    pick true h = omega arith
    pick false h = omega arith

-- the words of a line begin with one
pub words_some : (at : ℕ) (ts : Bytes) → words at ts ≡ piece at (first 32 ts) ∷ words_behind (at + length ts - length (others 32 ts)) (others 32 ts)
words_some at ts = words_cut at (at + length ts - length (others 32 ts)) ts (omega (arith, others_bound 32 ts))

module _ (at fat to : ℕ) (ts f o : Bytes) (some : 0 < length ts) (first_is : f ≡ first 10 ts) (others_is : o ≡ others 10 ts) (first_at : fat ≡ at) (ends : to + length o ≡ at + length ts) where
  cut : lines at ts ≡ piece fat f ∷ lines_behind to o
  cut =
      let e : to + length (others 10 ts) ≡ at + length ts = rw others_is at ends in
      lines_cut at to ts some e ∙ ap (λ u. piece at u ∷ lines_behind to (others 10 ts)) (sym first_is) ∙ ap (λ u. piece at f ∷ lines_behind to u) (sym others_is) ∙ ap (λ n. piece n f ∷ lines_behind to o) (sym first_at)

  pub cut_last : length o < 1 → lines at ts ≡ piece fat f ∷ lines to o
  unfolding lines
  cut_last short = cut ∙ ap (λ u. piece fat f ∷ u) (none o short)
    where
      none : (o : Bytes) → length o < 1 → lines_behind to o ≡ lines to o
      none [] h = refl
      none (b ∷ bs) h = absurd (omega arith)

  pub cut_more : (more : Bytes) → 1 ≤ length o → more ≡ take (length o - 1) (drop 1 o) → lines at ts ≡ piece fat f ∷ lines (to + 1) more
  cut_more more long e = cut ∙ ap (λ u. piece fat f ∷ u) (behind o more long e)
    where
      behind : (o more : Bytes) → 1 ≤ length o → more ≡ take (length o - 1) (drop 1 o) → lines_behind to o ≡ lines (to + 1) more
      behind [] more h e = absurd (omega arith)
      behind (b ∷ bs) more h e = let m : more ≡ bs = e ∙ take_all (length (b ∷ bs) - 1) bs (omega arith) in let s : to + 1 ≡ suc to = omega arith in rw (s, m) refl
