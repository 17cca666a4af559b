-- Statements that were read, and over which the first walk notes nothing: assignments, conditionals and lists of statements.
use Rattle.std.proofs.Common.{◌≡◌, ◌<◌, ◌+◌, ℕ, Bool, true, ◌||◌, nat_eq, List, [], ◌∷◌, ◌++◌, map, length, refl, sym, subst, ap, ◌∙◌}
use Rattle.std.specs.Prelude.{codes}
use Rattle.std.proofs.lemmas.Bool.{eqb-true}
use Rattle.scc_svtree.specs.declared.module.SvVar.{SvVar}
use Rattle.scc_svtree.specs.declared.expr.SvLeft.{SvLeft}
use Rattle.scc_svtree.specs.declared.stmt.SvStmt.{SvStmt, roll-SvStmt, map-SvStmt, fold-SvStmt, fold-roll-SvStmt}
use Rattle.scc_svtree.specs.declared.stmt.SvStmt.TheOpen.{SvStmt-F, SvArm-F}
use Rattle.scc_svtree.specs.declared.stmt.SvStmt.TheOpen as stmt
use Rattle.scc_svtree.specs.declared.stmt.SvArm.{SvArm, fold-SvArm}
use Rattle.scc_svtree.specs.Variables.{width_at, IsWidth}
use Rattle.scc_svtree.specs.Running.{var_of}
use Rattle.scc_svtree.specs.Sized.{IsSelect}
use Rattle.scc_svtree.specs.Term.{Term, term_of}
use Rattle.scc_svtree.specs.Code.{Code, End, Assign, If, Arms, before, stmt_code}
use Rattle.scc_svtree.specs.Code as code
use Rattle.scc_svtree.specs.Mentions.{reads, code_reads, assigns}
use Rattle.scc_svtree.specs.Concats.{each_true, expr_concats, stmt_concats, stmt_node_concats, arm_concats}
use Rattle.scc_svtree.specs.Sound.{AreNamed, Each}
use Rattle.scc_svtext.specs.Fixed.{fixed_text}
use Rattle.scc_svtext.specs.Pieces.{blanks, left_text}
use Rattle.scc_svtext.specs.ExprText.{expr_text}
use Rattle.scc_svtext.specs.StmtText.{Laid, all_at, stmt_node_text, arm_node_text, stmt_text}
use Rattle.scc_svtext.specs.ModuleText.{names_of}
use Rattle.scc_svread_grammar.specs.declared.raw.RawLeft.{RawLeft}
use Rattle.scc_svread_grammar.specs.declared.raw.RawExpr.{RawExpr}
use Rattle.scc_svread_grammar.specs.declared.raw.RawStmt.{RawStmt}
use Rattle.scc_svread_grammar.specs.declared.raw.RawStmt.TheVariants as raw
use Rattle.scc_svread_grammar.specs.Lexical.{Bytes, ReadsLeft}
use Rattle.scc_svread_written.specs.Resolved.{left_of, expr_of, stmt_of}
use Rattle.scc_svread_check.specs.Walking.{Walking}
use Rattle.scc_svread_check.specs.Walking as walking
use Rattle.scc_svread_check.specs.Scope.{Scope}
use Rattle.scc_svread_check.specs.Lines.{Line, Choice, lines, stmt_node, arm_node, line_of}
use Rattle.scc_svread_written.proofs.Decimals.{both}
use Rattle.scc_svread_written.proofs.Formed.{Declares}
use Rattle.scc_svread_written.proofs.Sums.{two, three, five, eight}
use Rattle.scc_svread_written.proofs.Leaves.{bare_names}
use Rattle.scc_svread_written.proofs.Fits.{Fits, FitsCode}
use Rattle.scc_svread_written.proofs.Statements.{deeper}
use Rattle.scc_svread_written.proofs.RawTrees.{of_assign, of_if}
use Rattle.scc_svread_written.proofs.RawFolds.{at_assign, at_if}
use Rattle.scc_svread_sizes.proofs.MeantWalks.{Demands, demands_by, demands_then, demands_none, pass_first, pass_last}
use Rattle.scc_svread_sizes.proofs.MeantLeaves.{left_demands}
use Rattle.scc_svread_sizes.proofs.MeantOperators.{either}
use Rattle.scc_svread_sizes.proofs.MeantExpressions.{IsMeant}

-- ---- code

module _ (vars : List SvVar) where
  pub end_fits : FitsCode vars End
  end_fits = record { sized = tt; read = λ v h. cc; assigned = λ v h. cc }

  pub assign_fits : (l : SvLeft) (t : Term) (rest : Code) → IsSelect (width_at vars) l → var_of l < length vars → Fits vars t → FitsCode vars rest → FitsCode vars (Assign l t rest)
  assign_fits l t rest i h f g = record {
    sized = (i, f.sized, g.sized);
    read = λ v. either (reads t v) (code_reads rest v) (f.named v) (g.read v);
    assigned = λ v. either (nat_eq (var_of l) v) (assigns rest v) (λ e. subst (λ k. k < length vars) (eqb-true (var_of l) v e) h) (g.assigned v);
  }

  pub if_fits : (t : Term) (a b rest : Code) → Fits vars t → FitsCode vars a → FitsCode vars b → FitsCode vars rest → FitsCode vars (If t a b rest)
  if_fits t a b rest f g h i = record {
    sized = (f.sized, g.sized, h.sized, i.sized);
    read = λ v. either (reads t v || (code_reads a v || code_reads b v)) (code_reads rest v)
        (either (reads t v) (code_reads a v || code_reads b v) (f.named v) (either (code_reads a v) (code_reads b v) (g.read v) (h.read v))) (i.read v);
    assigned = λ v. either (assigns a v || assigns b v) (assigns rest v) (either (assigns a v) (assigns b v) (g.assigned v) (h.assigned v)) (i.assigned v);
  }

module _ (vars : List SvVar) (named : AreNamed vars) (widths : Each (λ v. IsWidth v.width) vars) (s : Scope) (d : Declares s vars) where
  abbrev names : List Bytes
  names = names_of vars

  abbrev bare : List Bytes
  bare = bare_names vars

  -- what is known of a statement that was read behind so many blanks, by its code, its text, and whether its concatenations are such
  pub record MeantStmt (n : ℕ) (ts r : Bytes) (c : Code → Code) (t : Laid) (b : Bool) : Type 0 where
    pub text : blanks n ++ ts ≡ t n ++ r
    pub fits : (rest : Code) → FitsCode vars rest → FitsCode vars (c rest)
    pub concats : b ≡ true

  -- the blanks that the walk counts say nothing
  abbrev pub Meaning : ℕ → Bytes → Bytes → SvStmt → Line → Type 0
  Meaning n ts r x l = (m : ℕ) → Demands (l m) (MeantStmt n ts r (stmt_code x) (stmt_text names x) (stmt_concats x))

  abbrev pub IsMeantStmt : ℕ → Bytes → Bytes → RawStmt → Type 0
  IsMeantStmt n ts r x = Meaning n ts r (stmt_of bare x) (line_of s x)

  -- what a definition says of a statement
  abbrev pub At : (A B : Type 0) → (SvStmt-F A B → A) → (SvArm-F A B → B) → SvStmt-F SvStmt SvArm → A
  At A B step arm_step y = step (map-SvStmt SvStmt SvArm A B (fold-SvStmt A B step arm_step) (fold-SvArm A B step arm_step) y)

  pub moved : {n : ℕ} {ts r : Bytes} (y : SvStmt-F SvStmt SvArm) {x : SvStmt} {l k : Line} → x ≡ roll-SvStmt y → l ≡ k
      → ((m : ℕ) → Demands (k m) (MeantStmt n ts r (At (Code → Code) (Arms → Arms) code.stmt_node code.arm_node y) (At Laid Laid (stmt_node_text names) arm_node_text y) (At Bool Bool stmt_node_concats arm_concats y)))
      → Meaning n ts r x l
  moved y e f k =
      rw (e, f, fold-roll-SvStmt (Code → Code) (Arms → Arms) code.stmt_node code.arm_node y, fold-roll-SvStmt Laid Laid (stmt_node_text names) arm_node_text y, fold-roll-SvStmt Bool Bool stmt_node_concats arm_concats y) k

  -- ---- lists

  -- statements two blanks further in than the line behind them
  pub record MeantStmts (n : ℕ) (ts r : Bytes) (xs : List RawStmt) : Type 0 where
    pub text : blanks n ++ ts ≡ all_at (n + 2) (map (stmt_text names) (map (stmt_of bare) xs)) ++ (blanks n ++ r)
    pub fits : (rest : Code) → FitsCode vars rest → FitsCode vars (before (map stmt_code (map (stmt_of bare) xs)) rest)
    pub concats : each_true (map stmt_concats (map (stmt_of bare) xs)) ≡ true

  abbrev pub AreMeantStmts : ℕ → Bytes → Bytes → List RawStmt → Type 0
  AreMeantStmts n ts r xs = (m : ℕ) → Demands (lines (map (line_of s) xs) m) (MeantStmts n ts r xs)

  pub meant_no_stmts : {n : ℕ} {r : Bytes} → AreMeantStmts n r r []
  meant_no_stmts {n} {r} m = demands_none (record { text = refl; fits = λ rest f. f; concats = refl })

  pub meant_more : {n : ℕ} {a b r : Bytes} (x : RawStmt) (xs : List RawStmt) → IsMeantStmt (n + 2) a (blanks n ++ b) x → AreMeantStmts n b r xs → AreMeantStmts n (codes "  " ++ a) r (x ∷ xs)
  meant_more {n} {a} {b} {r} x xs k l m = demands_by put (demands_then (k m) (l m))
    where
      put : MeantStmt (n + 2) a (blanks n ++ b) (stmt_code (stmt_of bare x)) (stmt_text names (stmt_of bare x)) (stmt_concats (stmt_of bare x)) × MeantStmts n b r xs → MeantStmts n (codes "  " ++ a) r (x ∷ xs)
      put h =
          let own : Bytes = stmt_text names (stmt_of bare x) (n + 2) in
          let more : Bytes = all_at (n + 2) (map (stmt_text names) (map (stmt_of bare) xs)) in record {
            text = sym (deeper n a) ∙ h.0.text ∙ ap (λ u. own ++ u) h.1.text ∙ sym (two own more (blanks n ++ r));
            fits = λ rest f. h.0.fits (before (map stmt_code (map (stmt_of bare) xs)) rest) (h.1.fits rest f);
            concats = both (stmt_concats (stmt_of bare x)) _ h.0.concats h.1.concats;
          }

  -- ---- one statement

  pub meant_assign : {n : ℕ} {ts a r : Bytes} (l : RawLeft) (x : RawExpr) → ReadsLeft ts (codes " = " ++ a) l → IsMeant vars named widths s d a (codes ";\n" ++ r) x → IsMeantStmt n ts r (raw.Assign l x)
  unfolding fixed_text
  meant_assign {n} {ts} {a} {r} l x k e = moved {n = n} {ts = ts} {r = r} (stmt.Assign (left_of bare l) (expr_of bare x)) (of_assign bare l x) (at_assign Line Choice (stmt_node s) arm_node l x)
      (λ m. demands_by (λ h.
      let f = h.0 in
      let g = h.1 in
      let u : Bytes = left_text names (left_of bare l) in
      let v : Bytes = expr_text names (expr_of bare x) in record {
        text = ap (λ w. blanks n ++ w) (f.text ∙ ap (λ w. u ++ (codes " = " ++ w)) g.text) ∙ sym (five (blanks n) u (codes " = ") v (codes ";\n") r);
        fits = λ rest i. assign_fits vars (left_of bare l) (term_of (expr_of bare x)) rest f.inside f.within g.fits i;
        concats = g.concats;
      }) (pass_last 2 (demands_then (pass_last 3 (pass_first m (left_demands vars named widths s d l k))) e)))

  module _ (n : ℕ) (a b : Bytes) (x : RawExpr) (xs : List RawStmt) (e : IsMeant vars named widths s d a (codes ") begin\n" ++ (blanks n ++ b)) x) where
    abbrev inner : List RawStmt → Bytes
    inner ys = all_at (n + 2) (map (stmt_text names) (map (stmt_of bare) ys))

    abbrev body : List RawStmt → Code
    body ys = before (map stmt_code (map (stmt_of bare) ys)) End

    pub meant_if : {r : Bytes} → AreMeantStmts n b (codes "end\n" ++ r) xs → IsMeantStmt n (codes "if (" ++ a) r (raw.If x xs [])
    unfolding fixed_text
    meant_if {r} k = moved {n = n} {ts = codes "if (" ++ a} {r = r} (stmt.If (expr_of bare x) (map (stmt_of bare) xs) []) (of_if bare x xs []) (at_if Line Choice (stmt_node s) arm_node x xs [])
        (λ m. demands_by (λ h.
        let f = h.0 in
        let g = h.1 in
        let u : Bytes = expr_text names (expr_of bare x) in record {
          text = ap (λ w. blanks n ++ (codes "if (" ++ w)) (f.text ∙ ap (λ w. u ++ (codes ") begin\n" ++ w)) g.text)
              ∙ sym (eight (blanks n) (codes "if (") u (codes ") begin\n") (inner xs) [] (blanks n) (codes "end\n") r);
          fits = λ rest i. if_fits vars (term_of (expr_of bare x)) (body xs) End rest f.fits (g.fits End (end_fits vars)) (end_fits vars) i;
          concats = both (expr_concats (expr_of bare x)) _ f.concats (both (each_true (map stmt_concats (map (stmt_of bare) xs))) true g.concats refl);
        }) (pass_last (m + 4) (demands_then (pass_last 8 (pass_first (m + 4) e)) (k (walking.deeper m)))))

    pub meant_if_else : {c r : Bytes} (y : RawStmt) (ys : List RawStmt) → AreMeantStmts n b (codes "end else begin\n" ++ (blanks n ++ c)) xs → AreMeantStmts n c (codes "end\n" ++ r) (y ∷ ys)
        → IsMeantStmt n (codes "if (" ++ a) r (raw.If x xs (y ∷ ys))
    unfolding fixed_text
    meant_if_else {c} {r} y ys k l = moved {n = n} {ts = codes "if (" ++ a} {r = r} (stmt.If (expr_of bare x) (map (stmt_of bare) xs) (map (stmt_of bare) (y ∷ ys))) (of_if bare x xs (y ∷ ys)) (at_if Line Choice (stmt_node s) arm_node x xs (y ∷ ys))
        (λ m. demands_by (λ h.
        let f = h.0.0 in
        let g = h.0.1 in
        let i = h.1 in
        let u : Bytes = expr_text names (expr_of bare x) in
        let other : Bytes = inner (y ∷ ys) in record {
          text = ap (λ w. blanks n ++ (codes "if (" ++ w)) (f.text ∙ ap (λ w. u ++ (codes ") begin\n" ++ w)) (g.text ∙ ap (λ w. inner xs ++ (blanks n ++ (codes "end else begin\n" ++ w))) i.text))
              ∙ ap (λ w. blanks n ++ (codes "if (" ++ (u ++ (codes ") begin\n" ++ (inner xs ++ w))))) (sym (three (blanks n) (codes "end else begin\n") other (blanks n ++ (codes "end\n" ++ r))))
              ∙ sym (eight (blanks n) (codes "if (") u (codes ") begin\n") (inner xs) (blanks n ++ codes "end else begin\n" ++ other) (blanks n) (codes "end\n") r);
          fits = λ rest j. if_fits vars (term_of (expr_of bare x)) (body xs) (body (y ∷ ys)) rest f.fits (g.fits End (end_fits vars)) (i.fits End (end_fits vars)) j;
          concats = both (expr_concats (expr_of bare x)) _ f.concats (both (each_true (map stmt_concats (map (stmt_of bare) xs))) _ g.concats i.concats);
        }) (pass_last (m + 4) (demands_then (demands_then (pass_last 8 (pass_first (m + 4) e)) (k (walking.deeper m))) (pass_first (m + 15) (l (walking.deeper m))))))
