-- Statements of right sizes: the walk over each notes nothing.
use Rattle.std.proofs.Common.{◌≡◌, ◌<◌, ◌+◌, ◌^◌, ℕ, List, [], ◌∷◌, map, subst, sym, refl, ap}
use Rattle.scc_svtree.specs.declared.module.SvVar.{SvVar}
use Rattle.scc_svtree.specs.declared.expr.SvExpr.{SvExpr}
use Rattle.scc_svtree.specs.declared.expr.SvLiteral.{SvLiteral}
use Rattle.scc_svtree.specs.declared.expr.SvLeft.{SvLeft}
use Rattle.scc_svtree.specs.declared.stmt.SvStmt.{SvStmt, roll-SvStmt, fold-roll-SvStmt}
use Rattle.scc_svtree.specs.declared.stmt.SvStmt.TheOpen as stmt
use Rattle.scc_svtree.specs.declared.stmt.SvArm.{SvArm, fold-SvArm, fold-roll-SvArm}
use Rattle.scc_svtree.specs.Variables.{width_at}
use Rattle.scc_svtree.specs.Sizes.{length_of}
use Rattle.scc_svtree.specs.Term.{term_of}
use Rattle.scc_svtree.specs.Code.{Code, End, Arms, None, Arm, before, stmt_code}
use Rattle.scc_svtree.specs.Code as code
use Rattle.scc_svtree.specs.Sound.{Each, labels}
use Rattle.scc_svtree.proofs.Joined.{width_of_sized}
use Rattle.scc_svread_check.specs.Scope.{Scope}
use Rattle.scc_svread_check.specs.Walking.{deeper}
use Rattle.scc_svread_check.specs.Lines.{Line, Choice, other_line, choices, line_of, choice_of}
use Rattle.scc_svread_written.specs.Written.{raw_literal, raw_stmt}
use Rattle.scc_svread_written.proofs.Formed.{Declares}
use Rattle.scc_svread_written.proofs.Fits.{FitsCode, FitsArms, assign_left, assign_value, assign_rest, if_test, if_then, if_else, if_rest, case_selector, case_arms, case_rest, arm_label, arm_body, arm_more}
use Rattle.scc_svtree.proofs.Induction.{arm_made, by_stmt}
use Rattle.scc_svread_sizes.proofs.RightWalks.{Quiet, quiet_pass, quiet_then, quiet_here, QuietLine, quiet_lines}
use Rattle.scc_svread_sizes.proofs.RightLeaves.{quiet_left}
use Rattle.scc_svread_written.proofs.NamedTrees.{raw_arm}
use Rattle.scc_svread_sizes.proofs.RightTrees.{line_in, choice_in, in_assign, in_if, in_case, in_arm}
use Rattle.scc_svread_sizes.proofs.RightExpressions.{IsRight, right_expr}
use Rattle.scc_svread_sizes.proofs.RightLabels.{RightChoice, RightChoices, quiet_choices}

module _ (vars : List SvVar) (s : Scope) (d : Declares s vars) where
  abbrev width : ℕ → ℕ
  width = width_at vars

  abbrev arm_code : SvArm → Arms → Arms
  arm_code = fold-SvArm (Code → Code) (Arms → Arms) code.stmt_node code.arm_node

  abbrev pub KnownStmt : SvStmt → Type 0
  KnownStmt x = (rest : Code) → FitsCode vars (stmt_code x rest) → QuietLine (line_in s vars x) × FitsCode vars rest

  -- an arm before further ones
  record RightArm (n : ℕ) (arms rest : Arms) (c : Choice) : Type 0 where
    value : ℕ
    listed : labels arms ≡ value ∷ labels rest
    choice : RightChoice n value c
    more : FitsArms vars n rest

  abbrev KnownArm : SvArm → Type 0
  KnownArm x = (n : ℕ) (rest : Arms) → FitsArms vars n (arm_code x rest) → RightArm n (arm_code x rest) rest (choice_in s vars x)

  moved_stmt : {c c' : Code → Code} {l l' : Line} → c ≡ c' → l ≡ l'
      → ((rest : Code) → FitsCode vars (c' rest) → QuietLine l' × FitsCode vars rest) → (rest : Code) → FitsCode vars (c rest) → QuietLine l × FitsCode vars rest
  moved_stmt p q k = rw (p, q) k

  moved_arm : {c c' : Arms → Arms} {x x' : Choice} → c ≡ c' → x ≡ x'
      → ((n : ℕ) (rest : Arms) → FitsArms vars n (c' rest) → RightArm n (c' rest) rest x') → (n : ℕ) (rest : Arms) → FitsArms vars n (c rest) → RightArm n (c rest) rest x
  moved_arm p q k = rw (p, q) k

  -- ---- lists

  abbrev pub lines_in : List SvStmt → List Line
  lines_in xs = map (line_of s) (map (raw_stmt vars) xs)

  abbrev choices_in : List SvArm → List Choice
  choices_in xs = map (choice_of s) (map (raw_arm vars) xs)

  pub right_stmts : (xs : List SvStmt) → Each KnownStmt xs → (rest : Code) → FitsCode vars (before (map stmt_code xs) rest) → Each QuietLine (lines_in xs) × FitsCode vars rest
  right_stmts [] k rest f = (tt, f)
  right_stmts (x ∷ xs) k rest f =
      let p = k.0 (before (map stmt_code xs) rest) f in
      let q = right_stmts xs k.1 rest p.1 in
      ((p.0, q.0), q.1)

  right_arms : (n : ℕ) (xs : List SvArm) → Each KnownArm xs → FitsArms vars n (before (map arm_code xs) None) → RightChoices n (labels (before (map arm_code xs) None)) (choices_in xs)
  right_arms n [] k f = tt
  right_arms n (x ∷ xs) k f =
      let a : RightArm n (before (map arm_code (x ∷ xs)) None) (before (map arm_code xs) None) (choice_in s vars x) = k.0 n (before (map arm_code xs) None) f in
      subst (λ vs. RightChoices n vs (choices_in (x ∷ xs))) (sym a.listed) (a.choice, right_arms n xs k.1 a.more)

  -- ---- one statement

  quiet_other : (ls : List Line) → Each QuietLine ls → QuietLine (other_line ls)
  quiet_other [] k n = quiet_here
  quiet_other (l ∷ ls) k n = quiet_then (quiet_pass (n + 15)) (quiet_lines (l ∷ ls) k (deeper n))

  known_assign : (l : SvLeft) (x : SvExpr) → KnownStmt (roll-SvStmt (stmt.Assign l x))
  known_assign l x = moved_stmt (fold-roll-SvStmt (Code → Code) (Arms → Arms) code.stmt_node code.arm_node (stmt.Assign l x)) (in_assign s vars l x) (λ rest f.
      let left = assign_left vars l (term_of x) rest f in
      let value : IsRight vars s d x = right_expr vars s d x (assign_value vars l (term_of x) rest f) in
      (λ n. quiet_then (quiet_then (quiet_then (quiet_then (quiet_pass n) (quiet_left vars s d l left.0 left.1)) (quiet_pass 3)) value.walk) (quiet_pass 2), assign_rest vars l (term_of x) rest f))

  known_if : (c : SvExpr) (xs ys : List SvStmt) → Each KnownStmt xs → Each KnownStmt ys → KnownStmt (roll-SvStmt (stmt.If c xs ys))
  known_if c xs ys k l = moved_stmt (fold-roll-SvStmt (Code → Code) (Arms → Arms) code.stmt_node code.arm_node (stmt.If c xs ys)) (in_if s vars c xs ys) (λ rest f.
      let a : Code = before (map stmt_code xs) End in
      let b : Code = before (map stmt_code ys) End in
      let test : IsRight vars s d c = right_expr vars s d c (if_test vars (term_of c) a b rest f) in
      let p = right_stmts xs k End (if_then vars (term_of c) a b rest f) in
      let q = right_stmts ys l End (if_else vars (term_of c) a b rest f) in (
        λ n. quiet_then (quiet_then (quiet_then (quiet_then (quiet_then (quiet_pass (n + 4)) test.walk) (quiet_pass 8)) (quiet_lines (lines_in xs) p.0 (deeper n))) (quiet_other (lines_in ys) q.0 n)) (quiet_pass (n + 4)),
        if_rest vars (term_of c) a b rest f,
      ))

  known_case : (c : SvExpr) (xs : List SvArm) → Each KnownArm xs → KnownStmt (roll-SvStmt (stmt.Case c xs))
  known_case c xs k = moved_stmt (fold-roll-SvStmt (Code → Code) (Arms → Arms) code.stmt_node code.arm_node (stmt.Case c xs)) (in_case s vars c xs) (λ rest f.
      let arms : Arms = before (map arm_code xs) None in
      let fits = case_selector vars (term_of c) arms rest f in
      let test : IsRight vars s d c = right_expr vars s d c fits in
      let n : ℕ = length_of width (term_of c) in
      let right = right_arms n xs k (case_arms vars (term_of c) arms rest f) in (
        λ m. quiet_then (quiet_then (quiet_then (quiet_then (quiet_pass (m + 6)) test.walk) (quiet_pass 2))
            (subst (λ b. Quiet (choices b [] (choices_in xs) (deeper m))) (sym test.bits) (quiet_choices n (width_of_sized width (term_of c) fits.sized) (labels arms) (choices_in xs) right f.sized.2 (deeper m)))) (quiet_pass (m + 8)),
        case_rest vars (term_of c) arms rest f,
      ))

  known_arm : (label : SvLiteral) (xs : List SvStmt) → Each KnownStmt xs → KnownArm (arm_made label xs)
  known_arm label xs k = moved_arm (fold-roll-SvArm (Code → Code) (Arms → Arms) code.stmt_node code.arm_node (record { label = label; body = xs })) (in_arm s vars label xs) (λ n rest f.
      let body : Code = before (map stmt_code xs) End in
      let l = arm_label vars n label.width label.value.bits body rest f in
      let p = right_stmts xs k End (arm_body vars n label.width label.value.bits body rest f) in
      record {
        value = label.value.bits;
        listed = refl;
        choice = record { label = ap (λ w. raw_literal w label.value.bits) l.0; fits = subst (λ w. label.value.bits < 2 ^ w) l.0 l.1; body = p.0 };
        more = arm_more vars n label.width label.value.bits body rest f;
      })

  pub right_stmt : (x : SvStmt) → KnownStmt x
  right_stmt = by_stmt KnownStmt KnownArm known_assign known_if known_case known_arm
