-- What a loop needs to know of the parts that it reads.
use Rattle.std.specs.Prelude.{◌≡◌, ℕ, suc, ◌<◌, ◌≤◌, ◌-◌, Bool, true, false, List, [], ◌∷◌, ◌++◌, length, Ok}
use Rattle.std.proofs.Common.{ap, arith}
use Rattle.scc_reading.specs.Reading.{unexpected, too_deep, Outcome, Parser, is_next, repeat, repeat_in}
use Rattle.scc_reading.proofs.Answer.{Rule, Answers}
use Rattle.scc_reading.proofs.Loop.{before, before_in, nothing_before, turns_of, turns_in_of}
use Rattle.scc_reading.proofs.Loop as loops
use Rattle.scc_svread_grammar.specs.declared.halt.Halt.{Halt}
use Rattle.scc_svread_grammar.specs.declared.halt.Halt.TheVariants as halt
use Rattle.scc_svread_grammar.specs.Lexical.{Bytes}
use Rattle.scc_svread_grammar.specs.Answer.{Fails}
use Rattle.scc_svread_grammar.specs.Reader.{inner, is_blank, is_comma}
use Rattle.scc_svread_grammar.specs.Reader as p
use Rattle.scc_svread_grammar.proofs.Closed.{sound}
use Rattle.scc_svread_grammar.proofs.SoundExpr.{sound_further}
use Rattle.scc_svread_grammar.proofs.SoundStmt.{sound_line, sound_arm}
use Rattle.scc_svread_grammar.proofs.SoundModule.{sound_load, sound_set, sound_further_port, sound_item}

pub record Turns {A : Type 0} (test : ℕ → Bool) (q : Parser ℕ A) : Type 0 where
  pub turn : (front : List A) (ts : Bytes) (a : A) (r : Bytes) (whole : Outcome ℕ (List A)) → is_next test ts ≡ true → q ts ≡ Ok (a, r) → before front (repeat test q ts) ≡ whole → before (front ++ a ∷ []) (repeat test q r) ≡ whole
  pub fails : (e : Halt) (front : List A) (ts : Bytes) (whole : Outcome ℕ (List A)) → is_next test ts ≡ true → Fails e (q ts) → before front (repeat test q ts) ≡ whole → Fails e whole
  pub stops : (front : List A) (ts : Bytes) (whole : Outcome ℕ (List A)) → is_next test ts ≡ false → before front (repeat test q ts) ≡ whole → whole ≡ Ok (front, ts)
  pub shorter : (ts : Bytes) (a : A) (r : Bytes) → q ts ≡ Ok (a, r) → length r < length ts

turns : {A : Type 0} (test : ℕ → Bool) (R : Rule ℕ A) (q : Parser ℕ A) → Answers 1 R q → Turns test q
turns {A} test R q h = record { turn = t.turn; fails = fails; stops = t.stops; shorter = t.shorter }
  where
    t : loops.Turns test q
    t = turns_of test 0 R q h

    fails : (e : Halt) (front : List A) (ts : Bytes) (whole : Outcome ℕ (List A)) → is_next test ts ≡ true → Fails e (q ts) → before front (repeat test q ts) ≡ whole → Fails e whole
    fails halt.NoMemory front ts whole k f so_far = tt
    fails (halt.Unexpected left) front ts whole k f so_far = (f.0, t.fails front ts (unexpected f.0) whole k f.1 so_far, f.2)
    fails (halt.TooDeep left) front ts whole k f so_far = (f.0, t.fails front ts (too_deep f.0) whole k f.1 so_far, f.2)

pub turns_parts : (n : ℕ) → Turns is_comma (p.further (inner n))
turns_parts n = turns is_comma _ _ (sound_further (inner n) (sound n))

pub turns_stmts : (n k : ℕ) → Turns is_blank (p.line (inner n) k)
turns_stmts n k = turns is_blank _ _ (sound_line (inner n) (sound n) k)

pub turns_arms : (n k : ℕ) → Turns is_blank (p.arm_line (inner n) k)
turns_arms n k = turns is_blank _ _ (sound_arm (inner n) (sound n) k)

pub turns_sets : (n k : ℕ) → Turns is_blank (p.set_line (inner n) k)
turns_sets n k = turns is_blank _ _ (sound_set (inner n) (sound n) k)

pub turns_loads : Turns is_blank p.load_line
turns_loads = turns is_blank _ _ sound_load

pub turns_ports : Turns is_comma p.further_port
turns_ports = turns is_comma _ _ sound_further_port

pub record TurnsIn {A S : Type 0} (test : S → ℕ → Bool) (q : S → Parser ℕ (A × S)) : Type 0 where
  pub turn : (front : List A) (s : S) (ts : Bytes) (a : A) (u : S) (r : Bytes) (whole : Outcome ℕ (List A × S)) → is_next (test s) ts ≡ true → q s ts ≡ Ok ((a, u), r) → before_in front (repeat_in test q s ts) ≡ whole → before_in (front ++ a ∷ []) (repeat_in test q u r) ≡ whole
  pub fails : (e : Halt) (front : List A) (s : S) (ts : Bytes) (whole : Outcome ℕ (List A × S)) → is_next (test s) ts ≡ true → Fails e (q s ts) → before_in front (repeat_in test q s ts) ≡ whole → Fails e whole
  pub stops : (front : List A) (s : S) (ts : Bytes) (whole : Outcome ℕ (List A × S)) → is_next (test s) ts ≡ false → before_in front (repeat_in test q s ts) ≡ whole → whole ≡ Ok ((front, s), ts)
  pub shorter : (s : S) (ts : Bytes) (a : A) (u : S) (r : Bytes) → q s ts ≡ Ok ((a, u), r) → length r < length ts

pub turns_items : (n : ℕ) → TurnsIn (λ _ b. is_blank b) (p.item (inner n))
turns_items n = record { turn = t.turn; fails = fails; stops = t.stops; shorter = t.shorter }
  where
    t : loops.TurnsIn (λ _ b. is_blank b) (p.item (inner n))
    t = turns_in_of (λ _ b. is_blank b) 0 _ (p.item (inner n)) (sound_item (inner n) (sound n))

    fails : (e : Halt) (front : List _) (s : Bool) (ts : Bytes) (whole : _) → is_next is_blank ts ≡ true → Fails e (p.item (inner n) s ts) → before_in front (repeat_in (λ _ b. is_blank b) (p.item (inner n)) s ts) ≡ whole → Fails e whole
    fails halt.NoMemory front s ts whole k f so_far = tt
    fails (halt.Unexpected left) front s ts whole k f so_far = (f.0, t.fails front s ts (unexpected f.0) whole k f.1 so_far, f.2)
    fails (halt.TooDeep left) front s ts whole k f so_far = (f.0, t.fails front s ts (too_deep f.0) whole k f.1 so_far, f.2)

-- ---- where a level is left, and where none is

pub nothing_onto : {A : Type 0} (q : Parser ℕ (List A)) (ts : Bytes) → p.onto [] q ts ≡ q ts
unfolding p.onto
nothing_onto q ts = nothing_before (q ts)

below : (n : ℕ) → 0 < n → n ≡ suc (n - 1)
below n h = omega arith

pub left_expr : (n : ℕ) (ts : Bytes) → 0 < n → (inner n).expr ts ≡ p.expr (inner (n - 1)) ts
unfolding inner
left_expr n ts h = ap (λ m. (inner m).expr ts) (below n h)

pub left_divisor : (n : ℕ) (ts : Bytes) → 0 < n → (inner n).divisor ts ≡ p.divisor_at (inner (n - 1)) ts
unfolding inner
left_divisor n ts h = ap (λ m. (inner m).divisor ts) (below n h)

pub left_number : (n : ℕ) (ts : Bytes) → 0 < n → (inner n).number ts ≡ p.number_at ts
unfolding inner
left_number n ts h = ap (λ m. (inner m).number ts) (below n h)

pub left_stmt : (n k : ℕ) (ts : Bytes) → 0 < n → (inner n).stmt k ts ≡ p.stmt (inner (n - 1)) k ts
unfolding inner
left_stmt n k ts h = ap (λ m. (inner m).stmt k ts) (below n h)

pub none_left : (n : ℕ) → n ≤ 0 → inner n ≡ inner 0
none_left n h = ap inner (omega arith)
