-- The same for statements.
use Rattle.std.specs.Prelude.{◌≡◌, ℕ, ◌+◌, true, List, [], ◌∷◌, ◌++◌, codes, bytes_eq, refl}
use Rattle.std.proofs.Common.{sym, subst, lit≤}
use Rattle.std.proofs.lemmas.Slice.Eq.{bytes_eq-Decides}
use Rattle.scc_reading.specs.Reading.{Parser, ◌>>=◌}
use Rattle.scc_reading.proofs.Answer.{Rule, Answers}
use Rattle.scc_reading.proofs.Core.{answers_by, answers_choose}
use Rattle.scc_reading.proofs.Steps.{answers_less, answers_seq, answers_pure_at, answers_if}
use Rattle.scc_reading.proofs.Repeat.{answers_repeat}
use Rattle.scc_svtree.specs.Sound.{is_simple}
use Rattle.scc_svtext.specs.Pieces.{blanks}
use Rattle.scc_svread_grammar.specs.declared.raw.RawLeft.{RawLeft}
use Rattle.scc_svread_grammar.specs.declared.raw.RawExpr.{RawExpr}
use Rattle.scc_svread_grammar.specs.declared.raw.RawStmt.{RawStmt}
use Rattle.scc_svread_grammar.specs.declared.raw.RawStmt.TheVariants as s
use Rattle.scc_svread_grammar.specs.declared.raw.RawArm.{RawArm}
use Rattle.scc_svread_grammar.specs.Lexical.{Bytes, ReadsLiteral, ReadsLeft}
use Rattle.scc_svread_grammar.specs.Grammar.{ReadsExpr, ReadsStmt, ReadsStmts, ReadsArms}
use Rattle.scc_svread_grammar.specs.Leaves.{is_back}
use Rattle.scc_svread_grammar.specs.Reader.{Nested, is_blank, is_line_end}
use Rattle.scc_svread_grammar.specs.Reader as p
use Rattle.scc_svread_grammar.proofs.Runs.{answers_text_0, answers_text_1}
use Rattle.scc_svread_grammar.proofs.Numbers.{sound_literal}
use Rattle.scc_svread_grammar.proofs.Names.{sound_left, RLeftBehind, sound_left_behind, RWord, sound_plain_word, RNamed, sound_named}
use Rattle.scc_svread_grammar.proofs.SoundExpr.{RExpr, RStmt, Sound, sound_onto}

module _ (i : Nested) (S : Sound i) where
  -- a line, up to the blanks of the next
  abbrev pub RLine : ℕ → Rule ℕ RawStmt
  RLine n = λ x ts r. (a : Bytes) × (ts ≡ codes "  " ++ a) × ReadsStmt (n + 2) a (blanks n ++ r) x

  pub sound_line : (n : ℕ) → Answers 1 (RLine n) (p.line i n)
  unfolding p.line
  sound_line n = answers_text_1 32 (32 ∷ []) (answers_seq (S.stmt (n + 2)) (λ x. answers_text_0 (blanks n) (answers_pure_at (λ y ts d. (ts, refl, d)))))

  abbrev pub RStmts : ℕ → Rule ℕ (List RawStmt)
  RStmts n = λ xs ts r. ReadsStmts n ts r xs

  pub sound_stmts : (n : ℕ) → Answers 0 (RStmts n) (p.stmts i n)
  unfolding p.stmts
  sound_stmts n = answers_repeat is_blank (p.line i n) 0 (RLine n) (sound_line n) (RStmts n) (λ y. ReadsStmts.no_stmts) (λ a more ts mid r d k. rw d.1 (ReadsStmts.stmt d.2 k))

  abbrev RValue : RawLeft → Rule ℕ RawStmt
  RValue l = λ x mid r. (n : ℕ) (ts : Bytes) → ReadsLeft ts mid l → ReadsStmt n ts r x

  sound_value : (l : RawLeft) → Answers 1 (RValue l) (p.value_behind i l)
  unfolding p.value_behind
  sound_value l = answers_text_1 32 (codes "= ") (answers_seq S.expr (λ v. answers_text_0 (codes ";\n") (answers_pure_at (λ y ts d n u f. ReadsStmt.assign l f d))))

  -- what follows the `end` of a first branch
  abbrev ReadsOther : ℕ → Bytes → Bytes → List RawStmt → Type 0
  ReadsOther n ts r [] = ts ≡ codes "\n" ++ r
  ReadsOther n ts r (x ∷ xs) = (c : Bytes) × (ts ≡ codes " else begin\n" ++ (blanks n ++ c)) × ReadsStmts n c (codes "end\n" ++ r) (x ∷ xs)

  abbrev ROther : ℕ → Rule ℕ (List RawStmt)
  ROther n = λ xs ts r. ReadsOther n ts r xs

  sound_other : (n : ℕ) → Answers 1 (ROther n) (p.other i n)
  unfolding p.other p.stmts_behind
  sound_other n = answers_text_1 32 (codes "else begin\n") (answers_text_0 (blanks n) (answers_seq (sound_line n) (λ first. answers_seq (sound_onto (RStmts n) (first ∷ []) (sound_stmts n)) (λ all. answers_text_0 (codes "end\n")
      (answers_pure_at (λ y u k ts d. rw k.1 (ts, refl, rw d.1 (ReadsStmts.stmt d.2 k.2))))))))

  abbrev RBranches : ℕ → RawExpr → Rule ℕ RawStmt
  RBranches n test = λ x mid r. (ts : Bytes) → ReadsExpr ts mid test → ReadsStmt n (codes "if (" ++ ts) r x

  if_by : (n : ℕ) (test : RawExpr) (body more : List RawStmt) (ts b u y : Bytes) → ReadsExpr ts (codes ") begin\n" ++ (blanks n ++ b)) test → ReadsStmts n b (codes "end" ++ u) body → ReadsOther n u y more
      → ReadsStmt n (codes "if (" ++ ts) y (s.If test body more)
  if_by n test body [] ts b u y d f g = ReadsStmt.if_only d (subst (λ v. ReadsStmts n b (codes "end" ++ v) body) g f)
  if_by n test body (x ∷ xs) ts b u y d f g = ReadsStmt.if_else d (subst (λ v. ReadsStmts n b (codes "end" ++ v) body) g.1 f) g.2

  sound_behind_end : (n : ℕ) → Answers 1 (ROther n) (p.behind_end i n)
  unfolding p.behind_end
  sound_behind_end n = answers_choose 1 is_line_end (ROther n) _ _ (answers_text_1 10 [] (answers_pure_at (λ y. refl))) (sound_other n)

  sound_branches : (n : ℕ) (test : RawExpr) → Answers 1 (RBranches n test) (p.branches i n test)
  unfolding p.branches
  sound_branches n test = answers_text_1 41 (codes " begin\n") (answers_text_0 (blanks n) (answers_seq (sound_stmts n) (λ body. answers_text_0 (codes "end")
      (answers_seq (sound_behind_end n) (λ more.
      answers_pure_at (λ y u g b f ts d. if_by n test body more ts b u y d f g))))))

  abbrev pub RArm : ℕ → Rule ℕ RawArm
  RArm n = λ x ts mid. (r : Bytes) (more : List RawArm) → ReadsArms n mid r more → ReadsArms n ts r (x ∷ more)

  abbrev RArmBody : ℕ → Rule ℕ (List RawStmt)
  RArmBody n = λ body ts r. (b : Bytes) × (ts ≡ codes ": begin\n" ++ (blanks (n + 2) ++ b)) × ReadsStmts (n + 2) b (codes "end\n" ++ (blanks n ++ r)) body

  sound_arm_body : (n : ℕ) → Answers 1 (RArmBody n) (p.arm_body i n)
  unfolding p.arm_body
  sound_arm_body n = answers_text_1 58 (codes " begin\n") (answers_text_0 (blanks (n + 2)) (answers_seq (sound_stmts (n + 2)) (λ body.
      answers_text_0 (codes "end\n") (answers_text_0 (blanks n) (answers_pure_at (λ y b f. (b, refl, f)))))))

  pub sound_arm : (n : ℕ) → Answers 1 (RArm n) (p.arm_line i n)
  sound_arm n = answers_text_1 32 (32 ∷ []) (answers_seq sound_literal (λ label. answers_seq (sound_arm_body n) (λ body.
      answers_pure_at (λ y ts d a l r more k. ReadsArms.one_arm label (subst (λ t. ReadsLiteral a t label) d.1 l) d.2 k))))

  sound_arms : (n : ℕ) → Answers 0 (λ xs ts r. ReadsArms n ts r xs) (p.arms i n)
  unfolding p.arms
  sound_arms n = answers_repeat is_blank (p.arm_line i n) 0 (RArm n) (sound_arm n) (λ xs ts r. ReadsArms n ts r xs) (λ y. ReadsArms.no_arms) (λ a more ts mid r d k. d r more k)

  abbrev RCase : ℕ → RawExpr → Rule ℕ RawStmt
  RCase n of = λ x mid r. (ts : Bytes) → ReadsExpr ts mid of → ReadsStmt n (codes "case (" ++ ts) r x

  sound_case : (n : ℕ) (of : RawExpr) → Answers 1 (RCase n of) (p.case_behind i n of)
  unfolding p.case_behind
  sound_case n of = answers_text_1 41 (10 ∷ []) (answers_text_0 (blanks n) (answers_seq (sound_arms n) (λ found. answers_text_0 (codes "endcase\n") (answers_pure_at (λ y b f ts d. ReadsStmt.case d f)))))

  abbrev RTest : Rule ℕ RawExpr
  RTest = λ x ts r. (a : Bytes) × (ts ≡ codes " (" ++ a) × ReadsExpr a r x

  sound_test : Answers 1 RTest (p.test_at i)
  unfolding p.test_at
  sound_test = answers_text_1 32 (40 ∷ []) (answers_by RExpr (λ x mid r. RTest x (32 ∷ 40 ∷ mid) r) (λ x ts r d. (ts, refl, d)) S.expr)

  sound_tested : (Q : Rule ℕ RawStmt) (behind : RawExpr → Parser ℕ RawStmt)
      → ((test : RawExpr) → Answers 1 (λ x mid r. (ts : Bytes) → ReadsExpr ts mid test → Q x (codes " (" ++ ts) r) (behind test)) → Answers 0 Q (p.test_at i >>= behind)
  sound_tested Q behind h = answers_less (lit≤ tt) (answers_seq sound_test (λ test. answers_by (λ x mid r. (ts : Bytes) → ReadsExpr ts mid test → Q x (codes " (" ++ ts) r) (λ x mid r. (ts : Bytes) → RTest test ts mid → Q x ts r)
      (λ x mid r f ts d. rw d.1 (f d.0 d.2)) (h test)))

  -- what follows a first word
  abbrev RBehindWord : ℕ → Bytes → Rule ℕ RawStmt
  RBehindWord n w = λ x mid r. is_simple w ≡ true → ReadsStmt n (w ++ mid) r x

  for_word : (n : ℕ) (w v : Bytes) (q : Parser ℕ RawStmt) → bytes_eq w v ≡ true → Answers 0 (λ x mid r. ReadsStmt n (v ++ mid) r x) q → Answers 0 (RBehindWord n w) q
  for_word n w v q h k = let same : w ≡ v = (bytes_eq-Decides w v).0 h in answers_by (λ x mid r. ReadsStmt n (v ++ mid) r x) (RBehindWord n w) (λ x mid r d f. subst (λ u. ReadsStmt n (u ++ mid) r x) (sym same) d) k

  sound_behind_word : (n : ℕ) (w : Bytes) → Answers 0 (RBehindWord n w) (p.behind_word i n w)
  unfolding p.behind_word p.assign_behind
  sound_behind_word n w = answers_if (bytes_eq w (codes "if"))
      (λ h. for_word n w (codes "if") _ h (sound_tested (λ x mid r. ReadsStmt n (codes "if" ++ mid) r x) (p.branches i n) (λ test. sound_branches n test)))
      (λ _. answers_if (bytes_eq w (codes "case"))
      (λ h. for_word n w (codes "case") _ h (sound_tested (λ x mid r. ReadsStmt n (codes "case" ++ mid) r x) (p.case_behind i n) (λ of. sound_case n of)))
      (λ _. answers_seq (sound_named w) (λ v. answers_seq (sound_left_behind v) (λ l.
      answers_by (RValue l) (λ x mid r. (ts : Bytes) → RLeftBehind v l ts mid → (us : Bytes) → RNamed w v us ts → RBehindWord n w x us r) (λ x mid r f ts d us g h. f n (w ++ us) (d (w ++ us) (g h))) (sound_value l)))))

  pub sound_stmt : (n : ℕ) → Answers 1 (RStmt n) (p.stmt i n)
  unfolding p.stmt
  sound_stmt n = answers_choose 1 is_back _ _ _
      (answers_seq sound_left (λ l. answers_by (RValue l) (λ x mid r. (ts : Bytes) → ReadsLeft ts mid l → ReadsStmt n ts r x) (λ x mid r f ts d. f n ts d) (sound_value l)))
      (answers_seq sound_plain_word (λ w. answers_by (RBehindWord n w) (λ x mid r. (ts : Bytes) → RWord w ts mid → ReadsStmt n ts r x) (λ x mid r f ts d. rw d.0 (f d.1)) (sound_behind_word n w)))
