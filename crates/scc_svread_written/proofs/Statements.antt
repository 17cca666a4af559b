-- Statements: each is read as it is written, and says what it stands for.
use Rattle.std.proofs.Common.{◌≡◌, ◌<◌, ◌≤◌, ◌+◌, ◌^◌, ℕ, zero, suc, Bool, true, List, [], ◌∷◌, ◌++◌, length, map, refl, ap, ◌∙◌, arith}
use Rattle.std.specs.Prelude.{codes}
use Rattle.scc_svtree.specs.declared.module.SvVar.{SvVar}
use Rattle.scc_svtree.specs.declared.expr.SvExpr.{SvExpr}
use Rattle.scc_svtree.specs.declared.expr.SvLiteral.{SvLiteral}
use Rattle.scc_svtree.specs.declared.expr.SvLeft.{SvLeft}
use Rattle.scc_svtree.specs.declared.stmt.SvStmt.{SvStmt, roll-SvStmt, fold-roll-SvStmt}
use Rattle.scc_svtree.specs.declared.stmt.SvStmt.TheOpen as stmt
use Rattle.scc_svtree.specs.declared.stmt.SvArm.{SvArm, fold-SvArm, fold-roll-SvArm}
use Rattle.scc_svtree.specs.Variables.{width_at}
use Rattle.scc_svtree.specs.Running.{var_of}
use Rattle.scc_svtree.specs.Sized.{IsSelect}
use Rattle.scc_svtree.specs.Sizes.{length_of}
use Rattle.scc_svtree.specs.Term.{term_of}
use Rattle.scc_svtree.specs.Code.{Code, End, Arms, None, before, stmt_code}
use Rattle.scc_svtree.specs.Code as code
use Rattle.scc_svtree.specs.Concats.{each_true, expr_concats, stmt_concats, stmt_node_concats, arm_concats}
use Rattle.scc_svtree.specs.Sound.{AreNamed, Each}
use Rattle.scc_svtree.proofs.Joined.{width_of_sized}
use Rattle.scc_svtext.specs.Fixed.{fixed_text}
use Rattle.scc_svtext.specs.Pieces.{blanks, literal_text, left_text}
use Rattle.scc_svtext.specs.ExprText.{expr_text}
use Rattle.scc_svtext.specs.StmtText.{Laid, all_at, stmt_node_text, arm_node_text, stmt_text, arm_text}
use Rattle.scc_svtext.specs.ModuleText.{names_of}
use Rattle.scc_svread_grammar.specs.declared.raw.RawStmt.{RawStmt}
use Rattle.scc_svread_grammar.specs.declared.raw.RawStmt.TheVariants as s
use Rattle.scc_svread_grammar.specs.declared.raw.RawArm.{RawArm}
use Rattle.scc_svread_grammar.specs.Lexical.{Bytes}
use Rattle.scc_svread_grammar.specs.Grammar.{arm, ReadsStmt, ReadsStmts, ReadsArms}
use Rattle.scc_svread_grammar.proofs.Runs.{and_left, and_right}
use Rattle.scc_svread_written.specs.Written.{raw_literal, raw_left, raw_expr, raw_stmt, raw_stmt_node, raw_arm_node}
use Rattle.scc_svread_written.specs.Resolved.{expr_of, stmt_of}
use Rattle.scc_svread_written.proofs.Sums.{two, three, five, six, seven, eight}
use Rattle.scc_svread_written.proofs.Leaves.{bare_names, reads_literal, back_literal, reads_left, back_left}
use Rattle.scc_svread_written.proofs.Fits.{FitsCode, FitsArms, assign_left, assign_value, assign_rest, if_test, if_then, if_else, if_rest, case_selector, case_arms, case_rest, arm_label, arm_body, arm_more}
use Rattle.scc_svtree.proofs.Induction.{arm_made, by_stmt}
use Rattle.scc_svread_written.proofs.RawTrees.{of_assign, of_if, of_case, of_arm, arm_of}
use Rattle.scc_svread_written.proofs.Expressions.{IsTold, known}

-- two blanks more
pub deeper : (n : ℕ) (b : Bytes) → blanks (n + 2) ++ b ≡ blanks n ++ (codes "  " ++ b)
deeper zero b = refl
deeper (suc n) b = let e : suc n + 2 ≡ suc (n + 2) = omega arith in ap (λ k. blanks k ++ b) e ∙ ap (λ u. 32 ∷ u) (deeper n b)

module _ (vars : List SvVar) (named : AreNamed vars) where
  abbrev names : List Bytes
  names = names_of vars

  abbrev bare : List Bytes
  bare = bare_names vars

  -- what is to be known of a statement, by its text, and how it is written
  pub record ToldStmt (x : SvStmt) (t : Laid) (w : RawStmt) : Type 0 where
    pub reads : (n : ℕ) (r : Bytes) → (body : Bytes) × (t n ++ r ≡ blanks n ++ body) × ReadsStmt n body r w
    pub back : stmt_of bare w ≡ x

  pub record ToldArm (x : SvArm) (t : Laid) (w : RawArm) : Type 0 where
    pub reads : (n : ℕ) (c r : Bytes) (more : List RawArm) → ReadsArms n c r more → (a : Bytes) × (t (n + 2) ++ (blanks n ++ c) ≡ blanks (n + 2) ++ a) × ReadsArms n (codes "  " ++ a) r (w ∷ more)
    pub back : arm_of bare w ≡ x

  abbrev arm_code : SvArm → Arms → Arms
  arm_code = fold-SvArm (Code → Code) (Arms → Arms) code.stmt_node code.arm_node

  abbrev concats_of_arm : SvArm → Bool
  concats_of_arm = fold-SvArm Bool Bool stmt_node_concats arm_concats

  abbrev raw_arm : SvArm → RawArm
  raw_arm = fold-SvArm RawStmt RawArm (raw_stmt_node vars) raw_arm_node

  abbrev pub IsToldStmt : SvStmt → Type 0
  IsToldStmt x = ToldStmt x (stmt_text names x) (raw_stmt vars x)

  abbrev IsToldArm : SvArm → Type 0
  IsToldArm x = ToldArm x (arm_text names x) (raw_arm x)

  abbrev pub KnownStmt : SvStmt → Type 0
  KnownStmt x = (rest : Code) → FitsCode vars (stmt_code x rest) → stmt_concats x ≡ true → IsToldStmt x × FitsCode vars rest

  abbrev KnownArm : SvArm → Type 0
  KnownArm x = (n : ℕ) → n ≤ 128 → (rest : Arms) → FitsArms vars n (arm_code x rest) → concats_of_arm x ≡ true → IsToldArm x × FitsArms vars n rest

  moved_stmt : (x : SvStmt) {c c' : Code → Code} {b b' : Bool} {t t' : Laid} {w w' : RawStmt} → c ≡ c' → b ≡ b' → t ≡ t' → w ≡ w'
      → ((rest : Code) → FitsCode vars (c' rest) → b' ≡ true → ToldStmt x t' w' × FitsCode vars rest)
      → (rest : Code) → FitsCode vars (c rest) → b ≡ true → ToldStmt x t w × FitsCode vars rest
  moved_stmt x p q u v k = rw (p, q, u, v) k

  moved_arm : (x : SvArm) {c c' : Arms → Arms} {b b' : Bool} {t t' : Laid} {w w' : RawArm} → c ≡ c' → b ≡ b' → t ≡ t' → w ≡ w'
      → ((n : ℕ) → n ≤ 128 → (rest : Arms) → FitsArms vars n (c' rest) → b' ≡ true → ToldArm x t' w' × FitsArms vars n rest)
      → (n : ℕ) → n ≤ 128 → (rest : Arms) → FitsArms vars n (c rest) → b ≡ true → ToldArm x t w × FitsArms vars n rest
  moved_arm x p q u v k = rw (p, q, u, v) k

  -- ---- lists

  pub told_stmts : (xs : List SvStmt) → Each KnownStmt xs → (rest : Code) → FitsCode vars (before (map stmt_code xs) rest) → each_true (map stmt_concats xs) ≡ true → Each IsToldStmt xs × FitsCode vars rest
  told_stmts [] k rest f h = (tt, f)
  told_stmts (x ∷ xs) k rest f h =
      let p = k.0 (before (map stmt_code xs) rest) f (and_left (stmt_concats x) _ h) in
      let q = told_stmts xs k.1 rest p.1 (and_right (stmt_concats x) _ h) in
      ((p.0, q.0), q.1)

  told_arms : (n : ℕ) → n ≤ 128 → (xs : List SvArm) → Each KnownArm xs → (rest : Arms) → FitsArms vars n (before (map arm_code xs) rest) → each_true (map concats_of_arm xs) ≡ true → Each IsToldArm xs
  told_arms n short [] k rest f h = tt
  told_arms n short (x ∷ xs) k rest f h =
      let p = k.0 n short (before (map arm_code xs) rest) f (and_left (concats_of_arm x) _ h) in
      (p.0, told_arms n short xs k.1 rest p.1 (and_right (concats_of_arm x) _ h))

  -- statements up to the blanks of the line behind them
  pub reads_stmts : (xs : List SvStmt) → Each IsToldStmt xs → (n : ℕ) (r : Bytes)
      → (body : Bytes) × (all_at (n + 2) (map (stmt_text names) xs) ++ (blanks n ++ r) ≡ blanks n ++ body) × ReadsStmts n body r (map (raw_stmt vars) xs)
  reads_stmts [] k n r = (r, refl, ReadsStmts.no_stmts)
  reads_stmts (x ∷ xs) k n r =
      let q = reads_stmts xs k.1 n r in
      let p = k.0.reads (n + 2) (blanks n ++ q.0) in (
        codes "  " ++ p.0,
        two (stmt_text names x (n + 2)) (all_at (n + 2) (map (stmt_text names) xs)) (blanks n ++ r) ∙ ap (λ u. stmt_text names x (n + 2) ++ u) q.1 ∙ p.1 ∙ deeper n p.0,
        ReadsStmts.stmt p.2 q.2,
      )

  reads_arms : (xs : List SvArm) → Each IsToldArm xs → (n : ℕ) (r : Bytes)
      → (body : Bytes) × (all_at (n + 2) (map (arm_text names) xs) ++ (blanks n ++ r) ≡ blanks n ++ body) × ReadsArms n body r (map raw_arm xs)
  reads_arms [] k n r = (r, refl, ReadsArms.no_arms)
  reads_arms (x ∷ xs) k n r =
      let q = reads_arms xs k.1 n r in
      let p = k.0.reads n q.0 r (map raw_arm xs) q.2 in (
        codes "  " ++ p.0,
        two (arm_text names x (n + 2)) (all_at (n + 2) (map (arm_text names) xs)) (blanks n ++ r) ∙ ap (λ u. arm_text names x (n + 2) ++ u) q.1 ∙ p.1 ∙ deeper n p.0,
        p.2,
      )

  pub back_stmts : (xs : List SvStmt) → Each IsToldStmt xs → map (stmt_of bare) (map (raw_stmt vars) xs) ≡ xs
  back_stmts [] k = refl
  back_stmts (x ∷ xs) k = ap (λ u. u ∷ map (stmt_of bare) (map (raw_stmt vars) xs)) k.0.back ∙ ap (λ us. x ∷ us) (back_stmts xs k.1)

  back_arms : (xs : List SvArm) → Each IsToldArm xs → map (arm_of bare) (map raw_arm xs) ≡ xs
  back_arms [] k = refl
  back_arms (x ∷ xs) k = ap (λ u. u ∷ map (arm_of bare) (map raw_arm xs)) k.0.back ∙ ap (λ us. x ∷ us) (back_arms xs k.1)

  -- ---- one statement

  told_assign : (l : SvLeft) (x : SvExpr) → IsSelect (width_at vars) l → var_of l < length vars → IsTold vars named x
      → ToldStmt (roll-SvStmt (stmt.Assign l x)) (stmt_node_text names (stmt.Assign l x)) (s.Assign (raw_left vars l) (raw_expr vars x))
  unfolding fixed_text
  told_assign l x h i k = record {
    reads = λ n r. (
      left_text names l ++ (codes " = " ++ (expr_text names x ++ (codes ";\n" ++ r))),
      five (blanks n) (left_text names l) (codes " = ") (expr_text names x) (codes ";\n") r,
      ReadsStmt.assign (raw_left vars l) (reads_left vars named l (codes " = " ++ (expr_text names x ++ (codes ";\n" ++ r))) h i) (k.reads (codes ";\n" ++ r)),
    );
    back = of_assign bare (raw_left vars l) (raw_expr vars x) ∙ ap (λ u. roll-SvStmt (stmt.Assign u (expr_of bare (raw_expr vars x)))) (back_left vars named l h i) ∙ ap (λ u. roll-SvStmt (stmt.Assign l u)) k.back;
  }

  module _ (c : SvExpr) (k : IsTold vars named c) (xs : List SvStmt) (told : Each IsToldStmt xs) where
    abbrev inner : ℕ → Bytes
    inner n = all_at (n + 2) (map (stmt_text names) xs)

    reads_if : (ys : List SvStmt) → Each IsToldStmt ys → (n : ℕ) (r : Bytes)
        → (body : Bytes)
        × (stmt_node_text names (stmt.If c (map (stmt_text names) xs) (map (stmt_text names) ys)) n ++ r ≡ blanks n ++ body)
        × ReadsStmt n body r (s.If (raw_expr vars c) (map (raw_stmt vars) xs) (map (raw_stmt vars) ys))
    unfolding fixed_text
    reads_if [] l n r =
        let q = reads_stmts xs told n (codes "end\n" ++ r) in (
          codes "if (" ++ (expr_text names c ++ (codes ") begin\n" ++ (blanks n ++ q.0))),
          eight (blanks n) (codes "if (") (expr_text names c) (codes ") begin\n") (inner n) [] (blanks n) (codes "end\n") r
              ∙ ap (λ u. blanks n ++ (codes "if (" ++ (expr_text names c ++ (codes ") begin\n" ++ u)))) q.1,
          ReadsStmt.if_only (k.reads (codes ") begin\n" ++ (blanks n ++ q.0))) q.2,
        )
    reads_if (y ∷ ys) l n r =
        let other : Bytes = all_at (n + 2) (map (stmt_text names) (y ∷ ys)) in
        let p = reads_stmts (y ∷ ys) l n (codes "end\n" ++ r) in
        let q = reads_stmts xs told n (codes "end else begin\n" ++ (blanks n ++ p.0)) in (
          codes "if (" ++ (expr_text names c ++ (codes ") begin\n" ++ (blanks n ++ q.0))),
          eight (blanks n) (codes "if (") (expr_text names c) (codes ") begin\n") (inner n) (blanks n ++ codes "end else begin\n" ++ other) (blanks n) (codes "end\n") r
              ∙ ap (λ u. blanks n ++ (codes "if (" ++ (expr_text names c ++ (codes ") begin\n" ++ (inner n ++ u)))))
              (three (blanks n) (codes "end else begin\n") other (blanks n ++ (codes "end\n" ++ r)) ∙ ap (λ u. blanks n ++ (codes "end else begin\n" ++ u)) p.1)
              ∙ ap (λ u. blanks n ++ (codes "if (" ++ (expr_text names c ++ (codes ") begin\n" ++ u)))) q.1,
          ReadsStmt.if_else (k.reads (codes ") begin\n" ++ (blanks n ++ q.0))) q.2 p.2,
        )

    told_if : (ys : List SvStmt) → Each IsToldStmt ys
        → ToldStmt (roll-SvStmt (stmt.If c xs ys)) (stmt_node_text names (stmt.If c (map (stmt_text names) xs) (map (stmt_text names) ys))) (s.If (raw_expr vars c) (map (raw_stmt vars) xs) (map (raw_stmt vars) ys))
    told_if ys l = record {
      reads = reads_if ys l;
      back = of_if bare (raw_expr vars c) (map (raw_stmt vars) xs) (map (raw_stmt vars) ys)
          ∙ ap (λ u. roll-SvStmt (stmt.If u (map (stmt_of bare) (map (raw_stmt vars) xs)) (map (stmt_of bare) (map (raw_stmt vars) ys)))) k.back
          ∙ ap (λ u. roll-SvStmt (stmt.If c u (map (stmt_of bare) (map (raw_stmt vars) ys)))) (back_stmts xs told)
          ∙ ap (λ u. roll-SvStmt (stmt.If c xs u)) (back_stmts ys l);
    }

  told_case : (c : SvExpr) (xs : List SvArm) → IsTold vars named c → Each IsToldArm xs
      → ToldStmt (roll-SvStmt (stmt.Case c xs)) (stmt_node_text names (stmt.Case c (map (arm_text names) xs))) (s.Case (raw_expr vars c) (map raw_arm xs))
  unfolding fixed_text
  told_case c xs k l = record {
    reads = λ n r.
        let q = reads_arms xs l n (codes "endcase\n" ++ r) in (
          codes "case (" ++ (expr_text names c ++ (codes ")\n" ++ (blanks n ++ q.0))),
          seven (blanks n) (codes "case (") (expr_text names c) (codes ")\n") (all_at (n + 2) (map (arm_text names) xs)) (blanks n) (codes "endcase\n") r
              ∙ ap (λ u. blanks n ++ (codes "case (" ++ (expr_text names c ++ (codes ")\n" ++ u)))) q.1,
          ReadsStmt.case (k.reads (codes ")\n" ++ (blanks n ++ q.0))) q.2,
        );
    back = of_case bare (raw_expr vars c) (map raw_arm xs) ∙ ap (λ u. roll-SvStmt (stmt.Case u (map (arm_of bare) (map raw_arm xs)))) k.back ∙ ap (λ u. roll-SvStmt (stmt.Case c u)) (back_arms xs l);
  }

  told_arm : (label : SvLiteral) (xs : List SvStmt) → label.width ≤ 128 → label.value.bits < 2 ^ label.width → Each IsToldStmt xs
      → ToldArm (arm_made label xs) (arm_node_text (record { label = label; body = map (stmt_text names) xs })) (arm (raw_literal label.width label.value.bits) (map (raw_stmt vars) xs))
  unfolding fixed_text
  told_arm label xs short fits k = record {
    reads = λ n c r more d.
        let w : Bytes = literal_text label.width label.value.bits in
        let q = reads_stmts xs k (n + 2) (codes "end\n" ++ (blanks n ++ c)) in (
          w ++ (codes ": begin\n" ++ (blanks (n + 2) ++ q.0)),
          six (blanks (n + 2)) w (codes ": begin\n") (all_at (n + 2 + 2) (map (stmt_text names) xs)) (blanks (n + 2)) (codes "end\n") (blanks n ++ c)
              ∙ ap (λ u. blanks (n + 2) ++ (w ++ (codes ": begin\n" ++ u))) q.1,
          ReadsArms.one_arm (raw_literal label.width label.value.bits) (reads_literal label.width label.value.bits (codes ": begin\n" ++ (blanks (n + 2) ++ q.0)) short) q.2 d,
        );
    back = of_arm bare (raw_literal label.width label.value.bits) (map (raw_stmt vars) xs) ∙ ap (λ u. arm_made u (map (stmt_of bare) (map (raw_stmt vars) xs))) (back_literal label short fits) ∙ ap (λ u. arm_made label u) (back_stmts xs k);
  }

  -- ---- every statement

  known_assign : (l : SvLeft) (x : SvExpr) → KnownStmt (roll-SvStmt (stmt.Assign l x))
  known_assign l x = moved_stmt (roll-SvStmt (stmt.Assign l x))
      (fold-roll-SvStmt (Code → Code) (Arms → Arms) code.stmt_node code.arm_node (stmt.Assign l x))
      (fold-roll-SvStmt Bool Bool stmt_node_concats arm_concats (stmt.Assign l x))
      (fold-roll-SvStmt Laid Laid (stmt_node_text names) arm_node_text (stmt.Assign l x))
      (fold-roll-SvStmt RawStmt RawArm (raw_stmt_node vars) raw_arm_node (stmt.Assign l x))
      (λ rest f h.
      let left = assign_left vars l (term_of x) rest f in
      (told_assign l x left.0 left.1 (known vars named x (assign_value vars l (term_of x) rest f) h), assign_rest vars l (term_of x) rest f))

  known_if : (c : SvExpr) (xs ys : List SvStmt) → Each KnownStmt xs → Each KnownStmt ys → KnownStmt (roll-SvStmt (stmt.If c xs ys))
  known_if c xs ys k l = moved_stmt (roll-SvStmt (stmt.If c xs ys))
      (fold-roll-SvStmt (Code → Code) (Arms → Arms) code.stmt_node code.arm_node (stmt.If c xs ys))
      (fold-roll-SvStmt Bool Bool stmt_node_concats arm_concats (stmt.If c xs ys))
      (fold-roll-SvStmt Laid Laid (stmt_node_text names) arm_node_text (stmt.If c xs ys))
      (fold-roll-SvStmt RawStmt RawArm (raw_stmt_node vars) raw_arm_node (stmt.If c xs ys))
      (λ rest f h.
      let a : Code = before (map stmt_code xs) End in
      let b : Code = before (map stmt_code ys) End in
      let more = and_right (expr_concats c) _ h in
      let p = told_stmts xs k End (if_then vars (term_of c) a b rest f) (and_left (each_true (map stmt_concats xs)) _ more) in
      let q = told_stmts ys l End (if_else vars (term_of c) a b rest f) (and_right (each_true (map stmt_concats xs)) _ more) in
      (told_if c (known vars named c (if_test vars (term_of c) a b rest f) (and_left (expr_concats c) _ h)) xs p.0 ys q.0, if_rest vars (term_of c) a b rest f))

  known_case : (c : SvExpr) (xs : List SvArm) → Each KnownArm xs → KnownStmt (roll-SvStmt (stmt.Case c xs))
  known_case c xs k = moved_stmt (roll-SvStmt (stmt.Case c xs))
      (fold-roll-SvStmt (Code → Code) (Arms → Arms) code.stmt_node code.arm_node (stmt.Case c xs))
      (fold-roll-SvStmt Bool Bool stmt_node_concats arm_concats (stmt.Case c xs))
      (fold-roll-SvStmt Laid Laid (stmt_node_text names) arm_node_text (stmt.Case c xs))
      (fold-roll-SvStmt RawStmt RawArm (raw_stmt_node vars) raw_arm_node (stmt.Case c xs))
      (λ rest f h.
      let arms : Arms = before (map arm_code xs) None in
      let test = case_selector vars (term_of c) arms rest f in
      let short : length_of (width_at vars) (term_of c) ≤ 128 = (width_of_sized (width_at vars) (term_of c) test.sized).1 in (
        told_case c xs (known vars named c test (and_left (expr_concats c) _ h)) (told_arms (length_of (width_at vars) (term_of c)) short xs k None (case_arms vars (term_of c) arms rest f) (and_right (expr_concats c) _ h)),
        case_rest vars (term_of c) arms rest f,
      ))

  known_arm : (label : SvLiteral) (xs : List SvStmt) → Each KnownStmt xs → KnownArm (arm_made label xs)
  known_arm label xs k = moved_arm (arm_made label xs)
      (fold-roll-SvArm (Code → Code) (Arms → Arms) code.stmt_node code.arm_node (record { label = label; body = xs }))
      (fold-roll-SvArm Bool Bool stmt_node_concats arm_concats (record { label = label; body = xs }))
      (fold-roll-SvArm Laid Laid (stmt_node_text names) arm_node_text (record { label = label; body = xs }))
      (fold-roll-SvArm RawStmt RawArm (raw_stmt_node vars) raw_arm_node (record { label = label; body = xs }))
      (λ n short rest f h.
      let body : Code = before (map stmt_code xs) End in
      let l = arm_label vars n label.width label.value.bits body rest f in
      let p = told_stmts xs k End (arm_body vars n label.width label.value.bits body rest f) h in
      (told_arm label xs (omega (arith, l.0)) l.1 p.0, arm_more vars n label.width label.value.bits body rest f))

  pub known_stmt : (x : SvStmt) → KnownStmt x
  known_stmt = by_stmt KnownStmt KnownArm known_assign known_if known_case known_arm
