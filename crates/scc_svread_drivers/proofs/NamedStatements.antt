-- Names in statements further in: the walk over them notes nothing exactly where none is early, and none that they assign is foreign.
use Rattle.std.proofs.Common.{◌≡◌, ◌+◌, ℕ, nat_eq, Bool, true, false, ◌||◌, List, [], ◌∷◌, map, sym}
use Rattle.std.proofs.lemmas.Bool.{or_parts, or_from}
use Rattle.scc_svtree.specs.declared.module.SvVar.{SvVar}
use Rattle.scc_svtree.specs.declared.expr.SvExpr.{SvExpr}
use Rattle.scc_svtree.specs.declared.expr.SvLiteral.{SvLiteral}
use Rattle.scc_svtree.specs.declared.expr.SvLeft.{SvLeft}
use Rattle.scc_svtree.specs.declared.expr.SvLeft.TheVariants.{Whole, Bit, Range}
use Rattle.scc_svtree.specs.declared.stmt.SvStmt.{SvStmt, roll-SvStmt}
use Rattle.scc_svtree.specs.declared.stmt.SvStmt.TheOpen as stmt
use Rattle.scc_svtree.specs.declared.stmt.SvArm.{SvArm}
use Rattle.scc_svtree.specs.Term.{term_of}
use Rattle.scc_svtree.specs.Code.{Code, End, Case, Arms, None, before, stmt_code, code_of}
use Rattle.scc_svtree.specs.Running.{var_of}
use Rattle.scc_svtree.specs.Mentions.{reads, code_reads, arms_read, assigns, arms_assign}
use Rattle.scc_svtree.specs.Sound.{Each, AreNamed}
use Rattle.scc_svread_grammar.specs.declared.raw.RawLeft.{RawLeft}
use Rattle.scc_svread_check.specs.Walking.{Walking, ◌then◌, pass, deeper}
use Rattle.scc_svread_check.specs.Parts.{literal_bytes}
use Rattle.scc_svread_check.specs.Within.{Known, Own, Chosen, is_early, is_foreign, left_mention, is_wrong_left, expr_names, inner, other_names, if_names, arm_names, arms_names, case_names, assign_names, stmt_node_names, arm_node_names, stmt_names, chosen_of}
use Rattle.scc_svread_written.specs.Written.{name_of, raw_literal, raw_left, raw_expr, raw_stmt}
use Rattle.scc_svread_written.proofs.Clear.{Asks, asks_by, asks_then}
use Rattle.scc_svread_drivers.proofs.NamedLists as lists
use Rattle.scc_svread_written.proofs.NamedTrees.{arm_code, arms_code, code_assign, code_if, code_case, code_arm, raw_arm, at_assign, at_if, at_case, at_arm}
use Rattle.scc_svread_drivers.proofs.NamedTests.{of_both, of_first, of_second, of_none, of_one, at_one}
use Rattle.scc_svread_drivers.proofs.NamedExpressions.{led, ended, asks_nothing, asks_mention}
use Rattle.scc_svread_drivers.proofs.NamedExpressions as expressions
use Rattle.scc_svtree.proofs.Induction.{arm_made, by_stmt}

module _ (vars : List SvVar) (named : AreNamed vars) (k : Known) where
  abbrev Apart : (ℕ → Bool) → (ℕ → Bool) → Type 0
  Apart = lists.Apart vars named

  abbrev early : ℕ → Bool
  early v = is_early k (name_of vars v)

  abbrev foreign : ℕ → Bool
  foreign v = is_foreign k (name_of vars v)

  -- what is read has its value, and so has what is assigned, which is this block's to assign
  pub record Quiet (read assigned : ℕ → Bool) : Type 0 where
    pub own : Apart assigned foreign
    pub ready : Apart assigned early
    pub told : Apart read early

  -- ---- parts one after the other

  both : (r s a b : ℕ → Bool) → Quiet r a × Quiet s b → Quiet (λ v. r v || s v) (λ v. a v || b v)
  both r s a b q = record {
    own = of_both a b q.0.own q.1.own;
    ready = of_both a b q.0.ready q.1.ready;
    told = of_both r s q.0.told q.1.told;
  }

  halves : (r s a b : ℕ → Bool) → Quiet (λ v. r v || s v) (λ v. a v || b v) → Quiet r a × Quiet s b
  halves r s a b q = (
    record { own = of_first a b q.own; ready = of_first a b q.ready; told = of_first r s q.told },
    record { own = of_second a b q.own; ready = of_second a b q.ready; told = of_second r s q.told },
  )

  asks_both : {p q : Walking} (r s a b : ℕ → Bool) → Asks p (Quiet r a) → Asks q (Quiet s b) → Asks (p then q) (Quiet (λ v. r v || s v) (λ v. a v || b v))
  asks_both r s a b x y = asks_by (both r s a b) (halves r s a b) (asks_then x y)

  abbrev none : ℕ → Bool
  none v = false

  nothing_quiet : Quiet none none
  nothing_quiet = record { own = of_none _; ready = of_none _; told = of_none _ }

  -- an expression, which assigns nothing
  expr_quiet : (e : SvExpr) → Asks (expr_names k (raw_expr vars e)) (Quiet (reads (term_of e)) none)
  expr_quiet e = asks_by (λ t. record { own = nothing_quiet.own; ready = nothing_quiet.ready; told = t }) (λ q. q.told) (expressions.expr_asks vars named k e)

  -- ---- what is to be known of a part of code, before what follows it

  abbrev InsideStmt : Own → (Code → Code) → Type 0
  InsideStmt f c = (n : ℕ) (rest : Code) (more : Walking) → Asks more (Quiet (code_reads rest) (assigns rest))
      → Asks (f false n then more) (Quiet (code_reads (c rest)) (assigns (c rest)))

  abbrev InsideArm : Chosen → (Arms → Arms) → Type 0
  InsideArm f c = (n : ℕ) (rest : Arms) (more : Walking) → Asks more (Quiet (arms_read rest) (arms_assign rest))
      → Asks (arm_names f n then more) (Quiet (arms_read (c rest)) (arms_assign (c rest)))

  abbrev own_of : SvStmt → Own
  own_of x = stmt_names k (raw_stmt vars x)

  abbrev owns_of : List SvStmt → List Own
  owns_of xs = map (stmt_names k) (map (raw_stmt vars) xs)

  abbrev chosens_of : List SvArm → List Chosen
  chosens_of arms = map (chosen_of k) (map (raw_arm vars) arms)

  abbrev StmtInside : SvStmt → Type 0
  StmtInside x = InsideStmt (own_of x) (stmt_code x)

  abbrev ArmInside : SvArm → Type 0
  ArmInside a = InsideArm (chosen_of k (raw_arm vars a)) (arm_code a)

  moved_stmt : {f g : Own} {c d : Code → Code} → f ≡ g → c ≡ d → InsideStmt g d → InsideStmt f c
  moved_stmt p q h = rw (p, q) h

  moved_arm : {f g : Chosen} {c d : Arms → Arms} → f ≡ g → c ≡ d → InsideArm g d → InsideArm f c
  moved_arm p q h = rw (p, q) h

  -- ---- lists

  inner_ask : (xs : List SvStmt) → Each StmtInside xs → (n : ℕ) (rest : Code) (more : Walking)
      → Asks more (Quiet (code_reads rest) (assigns rest))
      → Asks (inner (owns_of xs) n then more) (Quiet (code_reads (before (map stmt_code xs) rest)) (assigns (before (map stmt_code xs) rest)))
  inner_ask [] h n rest more m = m
  inner_ask (x ∷ xs) h n rest more m = h.0 n (before (map stmt_code xs) rest) (inner (owns_of xs) n then more) (inner_ask xs h.1 n rest more m)

  inner_asks : (xs : List SvStmt) → Each StmtInside xs → (n : ℕ) → Asks (inner (owns_of xs) n) (Quiet (code_reads (code_of xs)) (assigns (code_of xs)))
  inner_asks xs h n = inner_ask xs h n End (λ w. w) (asks_nothing nothing_quiet)

  other_asks : (xs : List SvStmt) → Each StmtInside xs → (n : ℕ) → Asks (other_names (owns_of xs) n) (Quiet (code_reads (code_of xs)) (assigns (code_of xs)))
  other_asks [] h n = asks_nothing nothing_quiet
  other_asks (x ∷ xs) h n = led (n + 15) (inner_asks (x ∷ xs) h (deeper n))

  arms_ask : (arms : List SvArm) → Each ArmInside arms → (n : ℕ) (rest : Arms) (more : Walking)
      → Asks more (Quiet (arms_read rest) (arms_assign rest))
      → Asks (arms_names (chosens_of arms) n then more) (Quiet (arms_read (before (map arm_code arms) rest)) (arms_assign (before (map arm_code arms) rest)))
  arms_ask [] h n rest more m = m
  arms_ask (a ∷ arms) h n rest more m = h.0 n (before (map arm_code arms) rest) (arms_names (chosens_of arms) n then more) (arms_ask arms h.1 n rest more m)

  -- ---- one statement, at any level

  pub line_asks : (wrong : Bool) (l : RawLeft) (e : SvExpr) (n : ℕ)
      → Asks (pass n then left_mention wrong l then pass 3 then expr_names k (raw_expr vars e) then pass 2)
      ((wrong ≡ false) × lists.Apart vars named (reads (term_of e)) (λ v. is_early k (name_of vars v)))
  line_asks wrong l e n = asks_then (ended 3 (led n (asks_mention wrong l))) (ended 2 (expressions.expr_asks vars named k e))

  if_quiet : (c : SvExpr) (a b : List SvStmt) → Each StmtInside a → Each StmtInside b → (own : Bool) (n : ℕ)
      → Asks (if_names (expr_names k (raw_expr vars c)) (owns_of a) (owns_of b) own n)
      (Quiet (λ v. reads (term_of c) v || (code_reads (code_of a) v || code_reads (code_of b) v)) (λ v. assigns (code_of a) v || assigns (code_of b) v))
  if_quiet c a b h i own n = asks_both (reads (term_of c)) (λ v. code_reads (code_of a) v || code_reads (code_of b) v) none (λ v. assigns (code_of a) v || assigns (code_of b) v)
      (ended 8 (led (n + 4) (expr_quiet c)))
      (asks_both (code_reads (code_of a)) (code_reads (code_of b)) (assigns (code_of a)) (assigns (code_of b)) (inner_asks a h (deeper n)) (ended (n + 4) (other_asks b i n)))

  case_quiet : (e : SvExpr) (arms : List SvArm) → Each ArmInside arms → (own : Bool) (n : ℕ)
      → Asks (case_names (expr_names k (raw_expr vars e)) (chosens_of arms) own n)
      (Quiet (λ v. reads (term_of e) v || arms_read (arms_code arms) v) (λ v. arms_assign (arms_code arms) v))
  case_quiet e arms h own n = asks_both (reads (term_of e)) (arms_read (arms_code arms)) none (arms_assign (arms_code arms))
      (ended 2 (led (n + 6) (expr_quiet e)))
      (ended (n + 8) (arms_ask arms h (deeper n) None (λ w. w) (asks_nothing nothing_quiet)))

  -- ---- statements further in

  -- where a left side may stand, its variable is neither foreign nor early
  left_quiet : (i : ℕ) (e : SvExpr) {p : Walking}
      → Asks p (((foreign i || early i) ≡ false) × Apart (reads (term_of e)) early) → Asks p (Quiet (reads (term_of e)) (nat_eq i))
  left_quiet i e a = asks_by
      (λ u. let q = or_parts (foreign i) (early i) u.0 in record { own = of_one _ i q.0; ready = of_one _ i q.1; told = u.1 })
      (λ q. (or_from (foreign i) (early i) (at_one i q.own) (at_one i q.ready), q.told))
      a

  assign_quiet : (l : SvLeft) (e : SvExpr) (n : ℕ) → Asks (assign_names k (raw_left vars l) (raw_expr vars e) false n) (Quiet (reads (term_of e)) (nat_eq (var_of l)))
  assign_quiet (Whole u) e n = left_quiet u.0 e (line_asks (is_wrong_left k false (raw_left vars (Whole u))) (raw_left vars (Whole u)) e n)
  assign_quiet (Bit u at) e n = left_quiet u.0 e (line_asks (is_wrong_left k false (raw_left vars (Bit u at))) (raw_left vars (Bit u at)) e n)
  assign_quiet (Range u h l) e n = left_quiet u.0 e (line_asks (is_wrong_left k false (raw_left vars (Range u h l))) (raw_left vars (Range u h l)) e n)

  stmt_inside : (x : SvStmt) → StmtInside x
  stmt_inside = by_stmt StmtInside ArmInside assign choice case_of arm
    where
      assign : (l : SvLeft) (e : SvExpr) → StmtInside (roll-SvStmt (stmt.Assign l e))
      assign l e = moved_stmt (at_assign vars (stmt_node_names k) arm_node_names l e) (code_assign l e)
          (λ n rest more m. asks_both (reads (term_of e)) (code_reads rest) (nat_eq (var_of l)) (assigns rest) (assign_quiet l e n) m)

      choice : (c : SvExpr) (a b : List SvStmt) → Each StmtInside a → Each StmtInside b → StmtInside (roll-SvStmt (stmt.If c a b))
      choice c a b h i = moved_stmt (at_if vars (stmt_node_names k) arm_node_names c a b) (code_if c a b)
          (λ n rest more m. asks_both (λ v. reads (term_of c) v || (code_reads (code_of a) v || code_reads (code_of b) v)) (code_reads rest)
          (λ v. assigns (code_of a) v || assigns (code_of b) v) (assigns rest) (if_quiet c a b h i false n) m)

      case_of : (e : SvExpr) (arms : List SvArm) → Each ArmInside arms → StmtInside (roll-SvStmt (stmt.Case e arms))
      case_of e arms h = moved_stmt (at_case vars (stmt_node_names k) arm_node_names e arms) (code_case e arms)
          (λ n rest more m. asks_both (λ v. reads (term_of e) v || arms_read (arms_code arms) v) (code_reads rest) (arms_assign (arms_code arms)) (assigns rest) (case_quiet e arms h false n) m)

      arm : (label : SvLiteral) (body : List SvStmt) → Each StmtInside body → ArmInside (arm_made label body)
      arm label body h = moved_arm (at_arm vars (stmt_node_names k) arm_node_names label body) (code_arm label body)
          (λ n rest more m. asks_both (code_reads (code_of body)) (arms_read rest) (assigns (code_of body)) (arms_assign rest)
          (ended (n + 4) (led n (led (literal_bytes (raw_literal label.width label.value.bits) + 8) (inner_asks body h (deeper n))))) m)

  each_inside : (xs : List SvStmt) → Each StmtInside xs
  each_inside [] = tt
  each_inside (x ∷ xs) = (stmt_inside x, each_inside xs)

  -- ---- conditionals and choices at the block's own level

  pub if_asks : (c : SvExpr) (a b : List SvStmt) (n : ℕ)
      → Asks (if_names (expr_names k (raw_expr vars c)) (map (stmt_names k) (map (raw_stmt vars) a)) (map (stmt_names k) (map (raw_stmt vars) b)) true n)
      (Quiet (λ v. reads (term_of c) v || (code_reads (code_of a) v || code_reads (code_of b) v)) (λ v. assigns (code_of a) v || assigns (code_of b) v))
  if_asks c a b n = if_quiet c a b (each_inside a) (each_inside b) true n

  -- the arms of a choice are those of the statement, which does as much at any level
  pub case_asks : (e : SvExpr) (arms : List SvArm) (n : ℕ)
      → Asks (case_names (expr_names k (raw_expr vars e)) (map (chosen_of k) (map (raw_arm vars) arms)) true n)
      (Quiet (λ v. reads (term_of e) v || arms_read (arms_code arms) v) (arms_assign (arms_code arms)))
  case_asks e arms n =
      let x : SvStmt = roll-SvStmt (stmt.Case e arms) in
      let read : ℕ → Bool = λ v. reads (term_of e) v || arms_read (arms_code arms) v in
      let assigned : ℕ → Bool = arms_assign (arms_code arms) in
      let h : InsideStmt (case_names (expr_names k (raw_expr vars e)) (chosens_of arms)) (λ rest. Case (term_of e) (arms_code arms) rest) =
      moved_stmt (sym (at_case vars (stmt_node_names k) arm_node_names e arms)) (sym (code_case e arms)) (stmt_inside x) in
      asks_by (λ q. (halves read none assigned none q).0) (λ q. both read none assigned none (q, nothing_quiet)) (h n End (λ w. w) (asks_nothing nothing_quiet))
