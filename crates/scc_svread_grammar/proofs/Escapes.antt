-- Finding how many bytes begin a reserved word, one by one.
use Rattle.std.specs.Prelude.{◌≡◌, ℕ, zero, suc, ◌+◌, ◌<◌, ◌≤◌, true, false, cond, [], ◌∷◌, ◌++◌, length, take, drop, refl}
use Rattle.std.proofs.Common.{sym, ◌∙◌, ap, arith, append_assoc, append-nil}
use Rattle.scc_svtext.specs.Keyword.{begins_keyword}
use Rattle.scc_svread_grammar.specs.Lexical.{Bytes}
use Rattle.scc_svread_grammar.specs.Leaves.{keyword_word, keyword_rest}

-- the byte at a place
record At (n : ℕ) (ts : Bytes) : Type 0 where
  b : ℕ
  more : Bytes
  here : drop n ts ≡ b ∷ more
  front : take (n + 1) ts ≡ take n ts ++ b ∷ []
  later : drop (n + 1) ts ≡ more

at_place : (n : ℕ) (ts : Bytes) → n < length ts → At n ts
at_place zero [] h = absurd (omega arith)
at_place zero (b ∷ bs) h = record { b = b; more = bs; here = refl; front = refl; later = refl }
at_place (suc n) [] h = absurd (omega arith)
at_place (suc n) (b ∷ bs) h =
    let a : At n bs = at_place n bs (omega arith) in
    let e : suc n + 1 ≡ suc (n + 1) = omega arith in
    record { b = a.b; more = a.more; here = a.here; front = rw e (ap (λ w. b ∷ w) a.front); later = rw e a.later }

-- n bytes begin a reserved word, and these are they
pub record Escape (n : ℕ) (ts : Bytes) : Type 0 where
  pub word : keyword_word [] ts ≡ take n ts ++ keyword_word (take n ts) (drop n ts)
  pub rest : keyword_rest [] ts ≡ keyword_rest (take n ts) (drop n ts)

pub escape_begins : (ts : Bytes) → Escape 0 ts
escape_begins ts = record { word = refl; rest = refl }

pub escape_goes_on : (n : ℕ) (ts : Bytes) → n < length ts → begins_keyword (take (n + 1) ts) ≡ true → Escape n ts → Escape (n + 1) ts
unfolding keyword_word keyword_rest
escape_goes_on n ts h k e =
    let a : At n ts = at_place n ts h in
    let longer : begins_keyword (take n ts ++ a.b ∷ []) ≡ true = ap begins_keyword (sym a.front) ∙ k in
    record {
      word = e.word ∙ ap (λ u. take n ts ++ keyword_word (take n ts) u) a.here ∙ ap (λ t. take n ts ++ cond t (a.b ∷ keyword_word (take n ts ++ a.b ∷ []) a.more) []) longer
          ∙ sym (append_assoc (take n ts) (a.b ∷ []) (keyword_word (take n ts ++ a.b ∷ []) a.more)) ∙ ap (λ w. w ++ keyword_word w a.more) (sym a.front)
          ∙ ap (λ u. take (n + 1) ts ++ keyword_word (take (n + 1) ts) u) (sym a.later);
      rest = e.rest ∙ ap (λ u. keyword_rest (take n ts) u) a.here ∙ ap (λ t. cond t (keyword_rest (take n ts ++ a.b ∷ []) a.more) (a.b ∷ a.more)) longer
          ∙ ap (λ w. keyword_rest w a.more) (sym a.front) ∙ ap (λ u. keyword_rest (take (n + 1) ts) u) (sym a.later);
    }

pub record Escaped (n : ℕ) (ts : Bytes) : Type 0 where
  pub word : keyword_word [] ts ≡ take n ts
  pub rest : keyword_rest [] ts ≡ drop n ts

pub escape_stops : (n : ℕ) (ts : Bytes) → n < length ts → begins_keyword (take (n + 1) ts) ≡ false → Escape n ts → Escaped n ts
unfolding keyword_word keyword_rest
escape_stops n ts h k e =
    let a : At n ts = at_place n ts h in
    let longer : begins_keyword (take n ts ++ a.b ∷ []) ≡ false = ap begins_keyword (sym a.front) ∙ k in
    record {
      word = e.word ∙ ap (λ u. take n ts ++ keyword_word (take n ts) u) a.here ∙ ap (λ t. take n ts ++ cond t (a.b ∷ keyword_word (take n ts ++ a.b ∷ []) a.more) []) longer ∙ append-nil (take n ts);
      rest = e.rest ∙ ap (λ u. keyword_rest (take n ts) u) a.here ∙ ap (λ t. cond t (keyword_rest (take n ts ++ a.b ∷ []) a.more) (a.b ∷ a.more)) longer ∙ sym a.here;
    }

nothing_left : (n : ℕ) (ts : Bytes) → length ts ≤ n → drop n ts ≡ []
nothing_left zero [] h = refl
nothing_left zero (b ∷ bs) h = absurd (omega arith)
nothing_left (suc n) [] h = refl
nothing_left (suc n) (b ∷ bs) h = nothing_left n bs (omega arith)

pub escape_ends : (n : ℕ) (ts : Bytes) → length ts ≤ n → Escape n ts → Escaped n ts
unfolding keyword_word keyword_rest
escape_ends n ts h e =
    let none : drop n ts ≡ [] = nothing_left n ts h in
    record {
      word = e.word ∙ ap (λ u. take n ts ++ keyword_word (take n ts) u) none ∙ append-nil (take n ts);
      rest = e.rest ∙ ap (λ u. keyword_rest (take n ts) u) none ∙ sym none;
    }
