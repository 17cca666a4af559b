-- The same for statements.
use Rattle.std.specs.Prelude.{◌≡◌, ℕ, ◌+◌, Bool, true, false, if◌then◌else◌, List, [], ◌∷◌, ◌++◌, codes, bytes_eq, Option, refl}
use Rattle.std.proofs.Common.{◌∙◌, ap}
use Rattle.std.proofs.lemmas.Slice.Eq.{bytes_eq-Decides}
use Rattle.scc_reading.specs.Reading.{Parser, and_then, ◌>>=◌, ◌>>◌, pure, fail, is_next}
use Rattle.scc_reading.specs.Level.{opens, ◌then◌}
use Rattle.scc_reading.proofs.Complete.{Is, vthen, vlast, same, picked, passed, Again, again_of, turn, last_turn}
use Rattle.scc_svtext.specs.Keyword.{is_keyword}
use Rattle.scc_svtext.specs.Pieces.{blanks}
use Rattle.scc_svread_grammar.specs.declared.raw.RawLiteral.{RawLiteral}
use Rattle.scc_svread_grammar.specs.declared.raw.RawLeft.{RawLeft}
use Rattle.scc_svread_grammar.specs.declared.raw.RawExpr.{RawExpr}
use Rattle.scc_svread_grammar.specs.declared.raw.RawStmt.{RawStmt}
use Rattle.scc_svread_grammar.specs.declared.raw.RawStmt.TheVariants as s
use Rattle.scc_svread_grammar.specs.declared.raw.RawArm.{RawArm}
use Rattle.scc_svread_grammar.specs.Lexical.{Bytes, ReadsLiteral, ReadsName, ReadsLeft}
use Rattle.scc_svread_grammar.specs.Grammar.{arm, ReadsExpr, ReadsStmt, ReadsStmts, ReadsArms}
use Rattle.scc_svread_grammar.specs.Levels.{deep_expr, deep_stmt, deep_stmts, deep_arms}
use Rattle.scc_svread_grammar.specs.Leaves.{text, run, run_word, run_rest, is_back, named, plain_word, left, left_behind}
use Rattle.scc_svread_grammar.specs.Reader.{Nested, is_blank, is_line_end, inner}
use Rattle.scc_svread_grammar.specs.Reader as p
use Rattle.scc_svread_grammar.proofs.Runs.{and_left, reads_text}
use Rattle.scc_svtree.specs.Sound.{is_simple, is_letter}
use Rattle.scc_svread_grammar.proofs.Numbers.{reads_literal}
use Rattle.scc_svread_grammar.proofs.Names.{letter_no_back as letter_is_no_back, reads_left, reads_left_behind, reads_plain_word, select_no_word, spelled_plain, spelled_escaped, false_by}
use Rattle.scc_svread_grammar.proofs.SoundStmt.{sound_line, sound_arm}
use Rattle.scc_svread_grammar.proofs.Closed.{sound}
use Rattle.scc_svread_grammar.proofs.CompleteExpr.{Complete}

-- fixed bytes are passed
pub after_text : {A : Type 0} (w r : Bytes) (q : Parser ℕ A) → (text w >> q) (w ++ r) ≡ q r
after_text w r q = ap (λ o. and_then o (λ _. q)) (reads_text w r)

-- a name that is no reserved word is not this one
not_word : (w k : Bytes) → is_keyword w ≡ false → is_keyword k ≡ true → bytes_eq w k ≡ false
not_word w k h g = false_by (bytes_eq w k) (is_keyword w) (λ e. let same : w ≡ k = (bytes_eq-Decides w k).0 e in ap is_keyword same ∙ g) h

if_is_keyword : is_keyword (codes "if") ≡ true
unfolding is_keyword
if_is_keyword = refl

case_is_keyword : is_keyword (codes "case") ≡ true
unfolding is_keyword
case_is_keyword = refl

letter_no_back : (ts r w : Bytes) → is_keyword w ≡ false → ReadsName ts r w → is_next is_back ts ≡ false
letter_no_back ts r w h d = rw d.0 (ap (λ u. is_next is_back (u ++ r)) (spelled_plain w h) ∙ go w d.1)
  where
    go : (w : Bytes) → is_simple w ≡ true → is_next is_back (w ++ r) ≡ false
    go [] e = cc
    go (b ∷ w) e = letter_is_no_back b (and_left (is_letter b) _ e)

module _ (n : ℕ) (C : Complete n) where
  abbrev i : Nested
  i = inner n

  complete_value : (l : RawLeft) {a r : Bytes} {x : RawExpr} (d : ReadsExpr a (codes ";\n" ++ r) x) → Is (p.value_behind i l (codes " = " ++ a)) (opens n a (λ m. deep_expr m d)) (s.Assign l x) r
  unfolding p.value_behind text
  complete_value l d = vlast _ (C.expr d refl refl) refl

  again_stmts : (k : ℕ) → Again is_blank (p.line i k)
  again_stmts k = again_of is_blank (sound_line i (sound n) k)

  complete_line : (k : ℕ) {a b : Bytes} {x : RawStmt} (d : ReadsStmt (k + 2) a (blanks k ++ b) x) → Is (p.line i k (codes "  " ++ a)) (opens n a (λ m. deep_stmt m d)) x b
  unfolding p.line text
  complete_line k {a} {b} {x} d = vlast _ (C.stmt (k + 2) d) (after_text (blanks k) b (pure x))

  pub complete_stmts : {k : ℕ} {ts r : Bytes} {xs : List RawStmt} (d : ReadsStmts k ts r xs) → is_next is_blank r ≡ false → Is (p.stmts i k ts) (deep_stmts n d) xs r
  unfolding deep_stmts p.stmts
  complete_stmts {k} {ts} {r} (ReadsStmts.no_stmts) h = last_turn is_blank (p.line i k) r (again_stmts k) h
  complete_stmts {k} {ts} {r} (ReadsStmts.stmt {a = a} d more) h = turn is_blank (p.line i k) (codes "  " ++ a) (again_stmts k) refl (complete_line k d) (complete_stmts more h)

  again_arms : (k : ℕ) → Again is_blank (p.arm_line i k)
  again_arms k = again_of is_blank (sound_arm i (sound n) k)

  complete_arm_body : (k : ℕ) {b c : Bytes} {body : List RawStmt} (d : ReadsStmts (k + 2) b (codes "end\n" ++ (blanks k ++ c)) body)
      → Is (p.arm_body i k (codes ": begin\n" ++ (blanks (k + 2) ++ b))) (deep_stmts n d) body c
  unfolding p.arm_body text
  complete_arm_body k {b} {c} {body} d =
      same (after_text (blanks (k + 2)) b (p.stmts i (k + 2) >>= λ body. text (codes "end\n") >> (text (blanks k) >> pure body)))
      (vlast _ (complete_stmts d refl) (after_text (blanks k) c (pure body)))

  complete_arm : (k : ℕ) (label : RawLiteral) {a b c : Bytes} {body : List RawStmt} → ReadsLiteral a (codes ": begin\n" ++ (blanks (k + 2) ++ b)) label
      → (d : ReadsStmts (k + 2) b (codes "end\n" ++ (blanks k ++ c)) body) → Is (p.arm_line i k (codes "  " ++ a)) (deep_stmts n d) (arm label body) c
  unfolding text
  complete_arm k label {a} {b} {c} {body} l d =
      same (ap (λ o. and_then o (λ label. p.arm_body i k >>= λ body. pure (arm label body))) (reads_literal a (codes ": begin\n" ++ (blanks (k + 2) ++ b)) label l))
      (vlast _ (complete_arm_body k d) refl)

  complete_arms : {k : ℕ} {ts r : Bytes} {xs : List RawArm} (d : ReadsArms k ts r xs) → is_next is_blank r ≡ false → Is (p.arms i k ts) (deep_arms n d) xs r
  unfolding deep_arms p.arms
  complete_arms {k} {ts} {r} (ReadsArms.no_arms) h = last_turn is_blank (p.arm_line i k) r (again_arms k) h
  complete_arms {k} {ts} {r} (ReadsArms.one_arm {a = a} label l body more) h = turn is_blank (p.arm_line i k) (codes "  " ++ a) (again_arms k) refl (complete_arm k label l body) (complete_arms more h)

  complete_if : (k : ℕ) (test : RawExpr) {b r : Bytes} {body : List RawStmt} (d : ReadsStmts k b (codes "end\n" ++ r) body)
      → Is (p.branches i k test (codes ") begin\n" ++ (blanks k ++ b))) (deep_stmts n d) (s.If test body []) r
  unfolding p.branches p.behind_end text
  complete_if k test {b} {r} {body} d =
      same (after_text (blanks k) b (p.stmts i k >>= λ body. text (codes "end") >> (p.behind_end i k >>= λ more. pure (s.If test body more))))
      (vlast _ (complete_stmts d refl) refl)

  complete_other : (k : ℕ) {a b r : Bytes} {first : RawStmt} {more : List RawStmt} (d : ReadsStmt (k + 2) a (blanks k ++ b) first) (m : ReadsStmts k b (codes "end\n" ++ r) more)
      → Is (p.other i k (codes " else begin\n" ++ (blanks k ++ (codes "  " ++ a)))) (opens n a (λ m. deep_stmt m d) then deep_stmts n m) (first ∷ more) r
  unfolding p.other p.stmts_behind p.onto text
  complete_other k {a} {b} {r} {first} {more} d m =
      same (after_text (blanks k) (codes "  " ++ a) (p.line i k >>= λ first. p.stmts_behind i k first))
      (vthen _ (complete_line k d) (vlast _ (vlast _ (complete_stmts m refl) refl) refl))

  complete_if_else : (k : ℕ) (test : RawExpr) {b a c r : Bytes} {body : List RawStmt} {first : RawStmt} {more : List RawStmt} (d : ReadsStmts k b (codes "end else begin\n" ++ (blanks k ++ (codes "  " ++ a))) body)
      (f : ReadsStmt (k + 2) a (blanks k ++ c) first) (m : ReadsStmts k c (codes "end\n" ++ r) more)
      → Is (p.branches i k test (codes ") begin\n" ++ (blanks k ++ b))) (deep_stmts n d then opens n a (λ m. deep_stmt m f) then deep_stmts n m) (s.If test body (first ∷ more)) r
  unfolding p.branches p.behind_end text
  complete_if_else k test {b} {a} {c} {r} {body} {first} {more} d f m =
      same (after_text (blanks k) b (p.stmts i k >>= λ body. text (codes "end") >> (p.behind_end i k >>= λ more. pure (s.If test body more))))
      (vthen _ (complete_stmts d refl) (vlast _ (complete_other k f m) refl))

  complete_case : (k : ℕ) (of : RawExpr) {b r : Bytes} {xs : List RawArm} (d : ReadsArms k b (codes "endcase\n" ++ r) xs)
      → Is (p.case_behind i k of (codes ")\n" ++ (blanks k ++ b))) (deep_arms n d) (s.Case of xs) r
  unfolding p.case_behind text
  complete_case k of {b} {r} {xs} d = same (after_text (blanks k) b (p.arms i k >>= λ found. text (codes "endcase\n") >> pure (s.Case of found))) (vlast _ (complete_arms d refl) refl)

  -- an assignment, up to its right side
  assign_at : (k : ℕ) (l : RawLeft) (ts a : Bytes) → ReadsLeft ts (codes " = " ++ a) l → p.stmt i k ts ≡ p.value_behind i l (codes " = " ++ a)
  unfolding p.stmt p.behind_word p.assign_behind named
  assign_at k l ts a d = go (is_keyword l.name) refl
    where
      go : (c : Bool) → is_keyword l.name ≡ c → p.stmt i k ts ≡ p.value_behind i l (codes " = " ++ a)
      go true e = picked is_back (left >>= p.value_behind i) (plain_word >>= p.behind_word i k) ts (rw d.1.0 (ap (is_next is_back) (spelled_escaped l.name d.0 e)))
          ∙ ap (λ o. and_then o (p.value_behind i)) (reads_left ts (codes " = " ++ a) l d refl refl)
      go false e = passed is_back (left >>= p.value_behind i) (plain_word >>= p.behind_word i k) ts (letter_no_back ts d.0 l.name e d.1)
          ∙ ap (plain_word >>= p.behind_word i k) (d.1.0 ∙ ap (λ u. u ++ d.0) (spelled_plain l.name e))
          ∙ ap (λ o. and_then o (p.behind_word i k)) (reads_plain_word l.name d.0 d.1.1 (select_no_word d.0 (codes " = " ++ a) l.select d.2 refl))
          ∙ ap (λ b. (if b then (p.test_at i >>= p.branches i k) else if bytes_eq l.name (codes "case") then (p.test_at i >>= p.case_behind i k) else p.assign_behind i l.name) d.0) (not_word l.name (codes "if") e if_is_keyword)
          ∙ ap (λ b. (if b then (p.test_at i >>= p.case_behind i k) else p.assign_behind i l.name) d.0) (not_word l.name (codes "case") e case_is_keyword)
          ∙ ap (λ b. ((if b then fail else pure l.name) >>= λ w. left_behind w >>= p.value_behind i) d.0) e
          ∙ ap (λ o. and_then o (p.value_behind i)) (reads_left_behind d.0 (codes " = " ++ a) l.name l.select d.2 refl)

  if_at : (k : ℕ) {a mid r : Bytes} {x : RawStmt} {v : Option Bytes} {test : RawExpr} (d : ReadsExpr a (codes ")" ++ mid) test) → Is (p.branches i k test (codes ")" ++ mid)) v x r
      → Is (p.stmt i k (codes "if (" ++ a)) (opens n a (λ m. deep_expr m d) then v) x r
  unfolding p.stmt p.behind_word p.test_at plain_word run run_word run_rest text
  if_at k d h = vthen _ (C.expr d refl refl) h

  case_at : (k : ℕ) {a mid r : Bytes} {x : RawStmt} {v : Option Bytes} {of : RawExpr} (d : ReadsExpr a (codes ")" ++ mid) of) → Is (p.case_behind i k of (codes ")" ++ mid)) v x r
      → Is (p.stmt i k (codes "case (" ++ a)) (opens n a (λ m. deep_expr m d) then v) x r
  unfolding p.stmt p.behind_word p.test_at plain_word run run_word run_rest text
  case_at k d h = vthen _ (C.expr d refl refl) h

  pub complete_stmt : {k : ℕ} {ts r : Bytes} {x : RawStmt} (d : ReadsStmt k ts r x) → Is (p.stmt i k ts) (deep_stmt n d) x r
  unfolding deep_stmt deep_stmts
  complete_stmt {k} {ts} (ReadsStmt.assign {a = a} l h d) = same (assign_at k l ts a h) (complete_value l d)
  complete_stmt {k} (ReadsStmt.if_only {test = test} d body) = if_at k d (complete_if k test body)
  complete_stmt {k} (ReadsStmt.if_else {test = test} d body (ReadsStmts.stmt f more)) = if_at k d (complete_if_else k test body f more)
  complete_stmt {k} (ReadsStmt.case {of = of} d arms) = case_at k d (complete_case k of arms)
