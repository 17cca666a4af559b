-- What one turn of a loop adds, and what is left at its end.
use Rattle.std.specs.Prelude.{◌≡◌, ℕ, suc, ◌+◌, ◌^◌, ◌<◌, ◌≤◌, nat_lt, Bool, true, false, if◌then◌else◌, List, [], ◌∷◌, ◌++◌, length, drop, get_or, Option, Some, None, Ok, Err, refl}
use Rattle.std.proofs.Common.{sym, ◌∙◌, ap, append_assoc, arith}
use Rattle.std.proofs.lemmas.List.{append-nil, drop_more, drop_all}
use Rattle.scc_base.specs.declared.refusal.Refusal.{Refusal}
use Rattle.scc_base.specs.declared.code.Code.TheVariants.{StimText}
use Rattle.scc_bits_kinds.specs.declared.kind.Word.{Word}
use Rattle.scc_trace.specs.declared.stim.StimPort.{StimPort}
use Rattle.scc_trace.specs.declared.found.Found.{Found}
use Rattle.scc_trace.specs.Cut.{Bytes, Piece, lines, words_behind}
use Rattle.scc_trace.specs.Head.{Outcome, ◌>>=◌, refusal, refused, next_line}
use Rattle.scc_trace.specs.Stimulus.{word, hex_of, found_of, first_wide, noted, with_value, widths_of, each_line}
use Rattle.scc_trace.specs.Answer.{Fails}
use Rattle.scc_base.specs.declared.refusal.Stop.{Stop}
use Rattle.scc_base.specs.declared.refusal.Stop.TheVariants as stop
use Rattle.scc_trace.proofs.Cuts.{words_some}

-- ---- the lines of steps

abbrev pub put_front : {A : Type 0} → List A → Outcome (List A) → Outcome (List A)
put_front xs (Ok ys) = Ok (xs ++ ys)
put_front xs (Err e) = Err e

pub front_none : {A : Type 0} (o : Outcome (List A)) → put_front [] o ≡ o
front_none (Ok ys) = refl
front_none (Err e) = refl

front_more : {A : Type 0} (xs : List A) (x : A) (o : Outcome (List A)) → put_front xs (o >>= λ more. Ok (x ∷ more)) ≡ put_front (xs ++ x ∷ []) o
front_more xs x (Ok ys) = ap Ok (sym (append_assoc xs (x ∷ []) ys))
front_more xs x (Err e) = refl

module _ {A : Type 0} (f : Piece → Outcome A) (xs : List A) (l : Piece) (ls all : List Piece) (t : Outcome (List A)) (a : all ≡ l ∷ ls) (inv : put_front xs (each_line f all) ≡ t) where
  pub lines_more : (x : A) → f l ≡ Ok x → put_front (xs ++ x ∷ []) (each_line f ls) ≡ t
  unfolding each_line
  lines_more x e =
      sym (front_more xs x (each_line f ls)) ∙ sym (ap (λ o. put_front xs (o >>= λ a. each_line f ls >>= λ more. Ok (a ∷ more))) e) ∙ sym (ap (λ u. put_front xs (each_line f u)) a) ∙ inv

  lines_stop : (r : Refusal) → f l ≡ Err r → t ≡ Err r
  unfolding each_line
  lines_stop r e = sym inv ∙ ap (λ u. put_front xs (each_line f u)) a ∙ ap (λ o. put_front xs (o >>= λ a. each_line f ls >>= λ more. Ok (a ∷ more))) e

  pub lines_fail : (e : Stop) → Fails e (f l) → Fails e t
  lines_fail stop.NoMemory h = tt
  lines_fail (stop.Refused r) h = lines_stop r h

pub lines_end : {A : Type 0} (f : Piece → Outcome A) (xs : List A) (at : ℕ) (bs : Bytes) (t : Outcome (List A)) → length bs ≡ 0 → put_front xs (each_line f (lines at bs)) ≡ t → t ≡ Ok xs
unfolding each_line lines
lines_end f xs at [] t e inv = sym inv ∙ ap Ok (append-nil xs)
lines_end f xs at (b ∷ bs) t e inv = absurd (omega (arith, e))

pub no_line : (file at : ℕ) (bs : Bytes) → length bs ≡ 0 → next_line file (at + length bs) (lines at bs) ≡ refused file StimText at
unfolding next_line lines
no_line file at [] e = let z : at + 0 ≡ at = omega arith in ap (λ n. Err (refusal file StimText n)) z
no_line file at (b ∷ bs) e = absurd (omega (arith, e))

-- ---- the values of a line

abbrev or_else : Option ℕ → Option ℕ → Option ℕ
or_else (Some a) o = Some a
or_else None o = o

abbrev pub merged : List Word → Option ℕ → Option Found → Option Found
merged ws wide None = None
merged ws wide (Some f) = Some (record { words = ws ++ f.words; wide = or_else wide f.wide })

pub merged_none : (o : Option Found) → merged [] None o ≡ o
merged_none None = refl
merged_none (Some f) = refl

noted_first : (wide behind : Option ℕ) (width at n : ℕ) → or_else wide (first_wide width at n behind) ≡ or_else (noted wide width at n) behind
noted_first (Some a) behind width at n = refl
noted_first None behind width at n = by (nat_lt n (2 ^ width))
  where
    by : (t : Bool) → (if t then behind else Some at) ≡ or_else (if t then None else Some at) behind
    by true = refl
    by false = refl

merged_more : (ws : List Word) (wide : Option ℕ) (width at n : ℕ) (o : Option Found) → merged ws wide (with_value width at (Some n) o) ≡ merged (ws ++ word n ∷ []) (noted wide width at n) o
merged_more ws wide width at n None = refl
merged_more ws wide width at n (Some f) =
    ap (λ us. Some (record { words = us; wide = or_else wide (first_wide width at n f.wide) })) (sym (append_assoc ws (word n ∷ []) f.words))
    ∙ ap (λ u. Some (record { words = (ws ++ word n ∷ []) ++ f.words; wide = u })) (noted_first wide f.wide width at n)

merged_bad : (ws : List Word) (wide : Option ℕ) (width at : ℕ) (o : Option Found) → merged ws wide (with_value width at None o) ≡ None
merged_bad ws wide width at o = refl

module _ (ports : List StimPort) (i : ℕ) (p : StimPort) (less : i < length ports) (is : get_or ports i p ≡ p) (ws : List Word) (wide : Option ℕ) (all : List Piece) (t : Option Found) (inv : merged ws wide (found_of (widths_of (drop i ports)) all) ≡ t) where
  here : merged ws wide (found_of (p.width ∷ widths_of (drop (i + 1) ports)) all) ≡ t
  here = ap (λ q. merged ws wide (found_of (widths_of (q ∷ drop (i + 1) ports)) all)) (sym is) ∙ sym (ap (λ u. merged ws wide (found_of (widths_of u) all)) (drop_more ports i p less)) ∙ inv

  pub values_more : (q : Piece) (qs : List Piece) (n : ℕ) → all ≡ q ∷ qs → hex_of q.bytes ≡ Some n → merged (ws ++ word n ∷ []) (noted wide p.width q.at n) (found_of (widths_of (drop (i + 1) ports)) qs) ≡ t
  unfolding found_of
  values_more q qs n a h =
      sym (merged_more ws wide p.width q.at n (found_of (widths_of (drop (i + 1) ports)) qs))
      ∙ sym (ap (λ o. merged ws wide (with_value p.width q.at o (found_of (widths_of (drop (i + 1) ports)) qs))) h)
      ∙ sym (ap (λ u. merged ws wide (found_of (p.width ∷ widths_of (drop (i + 1) ports)) u)) a) ∙ here

  pub values_bad : (q : Piece) (qs : List Piece) → all ≡ q ∷ qs → hex_of q.bytes ≡ None → None ≡ t
  unfolding found_of
  values_bad q qs a h =
      sym (ap (λ o. merged ws wide (with_value p.width q.at o (found_of (widths_of (drop (i + 1) ports)) qs))) h)
      ∙ sym (ap (λ u. merged ws wide (found_of (p.width ∷ widths_of (drop (i + 1) ports)) u)) a) ∙ here

  pub values_few : all ≡ [] → None ≡ t
  unfolding found_of
  values_few a = sym (ap (λ u. merged ws wide (found_of (p.width ∷ widths_of (drop (i + 1) ports)) u)) a) ∙ here

or_else_none : (wide : Option ℕ) → or_else wide None ≡ wide
or_else_none (Some a) = refl
or_else_none None = refl

module _ (ports : List StimPort) (i : ℕ) (past : length ports ≤ i) (ws : List Word) (wide : Option ℕ) (all : List Piece) (t : Option Found) (inv : merged ws wide (found_of (widths_of (drop i ports)) all) ≡ t) where
  end : all ≡ [] → Some (record { words = ws; wide = wide }) ≡ t
  unfolding found_of
  end a =
      ap (λ us. Some (record { words = us; wide = wide })) (sym (append-nil ws)) ∙ ap (λ o. Some (record { words = ws ++ []; wide = o })) (sym (or_else_none wide))
      ∙ sym (ap (λ u. merged ws wide (found_of [] u)) a) ∙ sym (ap (λ u. merged ws wide (found_of (widths_of u) all)) (drop_all i ports past)) ∙ inv

  many : (q : Piece) (qs : List Piece) → all ≡ q ∷ qs → None ≡ t
  unfolding found_of
  many q qs a = sym (ap (λ u. merged ws wide (found_of [] u)) a) ∙ sym (ap (λ u. merged ws wide (found_of (widths_of u) all)) (drop_all i ports past)) ∙ inv

module _ (ports : List StimPort) (i : ℕ) (past : length ports ≤ i) (ws : List Word) (wide : Option ℕ) (at : ℕ) (bs : Bytes) (t : Option Found) (inv : merged ws wide (found_of (widths_of (drop i ports)) (words_behind at bs)) ≡ t) where
  pub values_end : length bs ≡ 0 → Some (record { words = ws; wide = wide }) ≡ t
  values_end e = end ports i past ws wide (words_behind at bs) t inv (none bs e)
    where
      none : (bs : Bytes) → length bs ≡ 0 → words_behind at bs ≡ []
      none [] e = refl
      none (b ∷ bs) e = absurd (omega (arith, e))

  pub values_many : 0 < length bs → None ≡ t
  values_many e = let q = some bs e in many ports i past ws wide (words_behind at bs) t inv q.0 q.1 q.2
    where
      some : (bs : Bytes) → 0 < length bs → (q : Piece) × (qs : List Piece) × (words_behind at bs ≡ q ∷ qs)
      some [] e = absurd (omega (arith, e))
      some (b ∷ bs) e = (_, _, words_some (suc at) bs)
