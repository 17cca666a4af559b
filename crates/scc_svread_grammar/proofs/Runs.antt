-- Fixed bytes, the longest run of bytes that pass a test, and so many of them.
use Rattle.std.specs.Prelude.{◌≡◌, ℕ, zero, suc, ◌+◌, nat_eq, Bool, true, false, cond, ◌&&◌, if◌then◌else◌, [], ◌∷◌, ◌++◌, length, Some, None, Ok, refl}
use Rattle.std.proofs.Common.{sym, ◌∙◌, ap, arith, lit≤, eq-eqb}
use borrow.Author.Tests.{eqb-true}
use Rattle.scc_reading.specs.Reading.{Parser, and_then, ◌>>=◌, ◌>>◌, pure, token, take_at, is_next}
use Rattle.scc_reading.proofs.Answer.{Front, no_front, SameHead, Rule, Completes, Answer, Answers}
use Rattle.scc_reading.proofs.Answer as answer
use Rattle.scc_reading.proofs.Core.{answers_then, answers_token}
use Rattle.scc_reading.proofs.Steps.{answers_less, answers_seq, answers_head, IsMark, answers_pure_at}
use Rattle.scc_svread_grammar.specs.Lexical.{Bytes, all_pass}
use Rattle.scc_svread_grammar.specs.Leaves.{passes, is_byte, text, run_word, run_rest, run, count}

-- ---- fixed bytes

is_same : (b : ℕ) → is_byte b b ≡ Some (tt {0})
is_same b = ap (λ t. if t then Some (tt {0}) else None) (eq-eqb b b refl)

only_by : (b c : ℕ) (t : Bool) → nat_eq c b ≡ t → (if t then Some (tt {0}) else None) ≡ Some (tt {0}) → c ≡ b
only_by b c true h k = eqb-true c b h
only_by b c false h k = cc

pub mark_byte : (b : ℕ) → IsMark (is_byte b) (λ _. b)
mark_byte b = record { some = tt {0}; it = is_same b; only = λ c u h. only_by b c (nat_eq c b) refl h }

abbrev pub RText : Bytes → Rule ℕ (Unit {0})
RText w = λ _ ts r. ts ≡ w ++ r

pub answers_bytes : (w : Bytes) → Answers (length w) (RText w) (text w)
unfolding text
answers_bytes [] = answers_pure_at (λ y. refl)
answers_bytes (b ∷ w) =
    let step : Answers (1 + length w) (RText (b ∷ w)) (token (is_byte b) >> text w) =
    answers_then 1 (length w) (RText (b ∷ [])) (λ _. RText w) (RText (b ∷ w)) (token (is_byte b)) (λ _. text w) (λ a x ts mid r d k. rw (d, k) refl)
    (answers_token (is_byte b) (RText (b ∷ [])) b (tt {0}) (is_same b) (λ t a h y. ap (λ c. c ∷ y) (only_by b t (nat_eq t b) refl h))) (λ _. answers_bytes w) in
    answers_less {n = 1 + length w} (omega arith) step

-- fixed bytes, and then the others
pub answers_text : {B : Type 0} {k : ℕ} {Q : Rule ℕ B} {q : Parser ℕ B} (w : Bytes) → Answers k (λ b mid r. Q b (w ++ mid) r) q → Answers (length w) Q (text w >> q)
answers_text {B} {k} {Q} {q} w hq = answers_less {n = length w + k} (omega arith)
    (answers_then (length w) k (RText w) (λ _ b mid r. Q b (w ++ mid) r) Q (text w) (λ _. q) (λ a b ts mid r d s. rw d s) (answers_bytes w) (λ _. hq))

pub answers_text_0 : {B : Type 0} {k : ℕ} {Q : Rule ℕ B} {q : Parser ℕ B} (w : Bytes) → Answers k (λ b mid r. Q b (w ++ mid) r) q → Answers 0 Q (text w >> q)
answers_text_0 w hq = answers_less {n = length w} (omega arith) (answers_text w hq)

pub answers_text_1 : {B : Type 0} {k : ℕ} {Q : Rule ℕ B} {q : Parser ℕ B} (b : ℕ) (w : Bytes) → Answers k (λ x mid r. Q x ((b ∷ w) ++ mid) r) q → Answers 1 Q (text (b ∷ w) >> q)
answers_text_1 b w hq = answers_less {n = suc (length w)} (omega arith) (answers_text (b ∷ w) hq)

pub reads_text : (w r : Bytes) → text w (w ++ r) ≡ Ok (tt {0}, r)
unfolding text
reads_text [] r = refl
reads_text (b ∷ w) r = rw (is_same b) (reads_text w r)

-- ---- runs

abbrev pub RRun : (ℕ → Bool) → Rule ℕ Bytes
RRun test = λ w ts r. (ts ≡ w ++ r) × (all_pass test w ≡ true)

pub and_left : (a b : Bool) → (a && b) ≡ true → a ≡ true
and_left true b h = refl
and_left false b h = cc

pub and_right : (a b : Bool) → (a && b) ≡ true → b ≡ true
and_right true b h = h
and_right false b h = cc

module _ (test : ℕ → Bool) where
  run_whole : (ts : Bytes) → ts ≡ run_word test ts ++ run_rest test ts
  unfolding run_word run_rest
  run_whole [] = refl
  run_whole (b ∷ bs) = pick (test b) (run_whole bs)
    where
      pick : (t : Bool) → bs ≡ run_word test bs ++ run_rest test bs → b ∷ bs ≡ cond t (b ∷ run_word test bs) [] ++ cond t (run_rest test bs) (b ∷ bs)
      pick true h = ap (λ us. b ∷ us) h
      pick false h = refl

  run_all : (ts : Bytes) → all_pass test (run_word test ts) ≡ true
  unfolding run_word
  run_all [] = refl
  run_all (b ∷ bs) = pick (test b) refl (run_all bs)
    where
      pick : (t : Bool) → test b ≡ t → all_pass test (run_word test bs) ≡ true → all_pass test (cond t (b ∷ run_word test bs) []) ≡ true
      pick true h k = rw h k
      pick false h k = refl

  run_stops : (ts : Bytes) → is_next test (run_rest test ts) ≡ false
  unfolding run_rest
  run_stops [] = refl
  run_stops (b ∷ bs) = pick (test b) refl (run_stops bs)
    where
      pick : (t : Bool) → test b ≡ t → is_next test (run_rest test bs) ≡ false → is_next test (cond t (run_rest test bs) (b ∷ bs)) ≡ false
      pick true h k = k
      pick false h k = h

  word_again : (w s : Bytes) → all_pass test w ≡ true → is_next test s ≡ false → run_word test (w ++ s) ≡ w
  unfolding run_word
  word_again [] [] h k = refl
  word_again [] (b ∷ s) h k = ap (λ t. cond t (b ∷ run_word test s) []) k
  word_again (b ∷ w) s h k = ap (λ t. cond t (b ∷ run_word test (w ++ s)) []) (and_left (test b) _ h) ∙ ap (λ us. b ∷ us) (word_again w s (and_right (test b) _ h) k)

  rest_again : (w s : Bytes) → all_pass test w ≡ true → is_next test s ≡ false → run_rest test (w ++ s) ≡ s
  unfolding run_rest
  rest_again [] [] h k = refl
  rest_again [] (b ∷ s) h k = ap (λ t. cond t (run_rest test s) (b ∷ s)) k
  rest_again (b ∷ w) s h k = ap (λ t. cond t (run_rest test (w ++ s)) (b ∷ (w ++ s))) (and_left (test b) _ h) ∙ rest_again w s (and_right (test b) _ h) k

  pub reads_run : (w s : Bytes) → all_pass test w ≡ true → is_next test s ≡ false → run test (w ++ s) ≡ Ok (w, s)
  unfolding run
  reads_run w s h k = ap (λ u. Ok (u, run_rest test (w ++ s))) (word_again w s h k) ∙ ap (λ u. Ok (w, u)) (rest_again w s h k)

  pub same_next : (r s : Bytes) → SameHead r s → is_next test r ≡ is_next test s
  same_next [] [] h = refl
  same_next [] (u ∷ s) h = elim h [ ]
  same_next (t ∷ r) [] h = elim h [ ]
  same_next (t ∷ r) (u ∷ s) h = ap test h

  pub answers_run : Answers 0 (RRun test) (run test)
  unfolding run
  answers_run = record {
    some = record { by = no_front; tree = []; reads = λ y. (refl, refl) };
    at = λ ts. record {
      w = answer.text (run_word test ts);
      long = omega arith;
      whole = run_whole ts;
      reads = λ y. (refl, run_all ts);
      alike = λ s h. reads_run (run_word test ts) s (run_all ts) (sym (same_next (run_rest test ts) s h) ∙ run_stops ts);
    };
  }

  -- ---- so many

  passes_by : (t : ℕ) (b : ℕ) (c : Bool) → test t ≡ c → (if c then Some t else None) ≡ Some b → (t ≡ b) × (test t ≡ true)
  passes_by t b true h k = let e : t ≡ b = cc in (e, h)
  passes_by t b false h k = cc

  pub passes_is : (t b : ℕ) → passes test t ≡ Some b → (t ≡ b) × (test t ≡ true)
  passes_is t b h = passes_by t b (test t) refl h

  abbrev pub RCount : ℕ → Rule ℕ Bytes
  RCount n = λ w ts r. (ts ≡ w ++ r) × (all_pass test w ≡ true) × (length w ≡ n)

  pub answers_count : (n b₀ : ℕ) → test b₀ ≡ true → Answers 0 (RCount n) (count test n)
  unfolding count
  answers_count zero b₀ h = answers_pure_at (λ y. (refl, refl, refl))
  answers_count (suc n) b₀ h = answers_less (lit≤ tt) (answers_head b₀ b₀ (ap (λ c. if c then Some b₀ else None) h) (λ b. answers_seq (answers_count n b₀ h) (λ more.
      answers_pure_at (λ y ts d t k. let p : (t ≡ b) × (test t ≡ true) = passes_is t b k in
      let pb : test b ≡ true = ap test (sym p.0) ∙ p.1 in
      (rw (p.0, d.0) refl, rw pb d.1, ap suc d.2)))))

  pub reads_count : (w r : Bytes) → all_pass test w ≡ true → count test (length w) (w ++ r) ≡ Ok (w, r)
  unfolding count
  reads_count [] r h = refl
  reads_count (b ∷ w) r h = ap (λ c. and_then (take_at (if c then Some b else None) b (w ++ r)) (λ b. count test (length w) >>= λ more. pure (b ∷ more))) (and_left (test b) _ h)
      ∙ ap (λ o. and_then o (λ more. pure (b ∷ more))) (reads_count w r (and_right (test b) _ h))
