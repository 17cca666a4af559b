-- Lists of names are those of the code: the name of a variable stands in one where the code reads or assigns the variable.
use Rattle.std.proofs.Common.{◌≡◌, ◌≢◌, ◌<◌, ◌≤◌, inl, inr, ℕ, zero, suc, nat_eq, Bool, true, false, cond, ◌||◌, List, [], ◌∷◌, ◌++◌, length, map, refl, sym, ap, subst, ◌∙◌, arith, eq-eqb}
use Rattle.std.specs.Prelude.{bytes_eq}
use Rattle.std.proofs.lemmas.Bool.{cases_eq, cases_lt, ne_eqb, or_left, true≢false}
use Rattle.std.proofs.lemmas.List.Folds.{list_any-append}
use Rattle.scc_svtree.specs.declared.module.SvVar.{SvVar}
use Rattle.scc_svtree.specs.declared.expr.SvExpr.{SvExpr}
use Rattle.scc_svtree.specs.declared.expr.SvExprNode.{SvExprNode}
use Rattle.scc_svtree.specs.declared.expr.SvExprNode.TheOpen.{SvExprNode-F}
use Rattle.scc_svtree.specs.declared.expr.SvExprNode.TheOpen as node
use Rattle.scc_svtree.specs.declared.expr.SvLiteral.{SvLiteral}
use Rattle.scc_svtree.specs.declared.expr.SvLeft.{SvLeft}
use Rattle.scc_svtree.specs.declared.expr.SvLeft.TheVariants.{Whole, Bit, Range}
use Rattle.scc_svtree.specs.declared.stmt.SvStmt.{SvStmt, roll-SvStmt}
use Rattle.scc_svtree.specs.declared.stmt.SvStmt.TheOpen as stmt
use Rattle.scc_svtree.specs.declared.stmt.SvArm.{SvArm}
use Rattle.scc_svtree.specs.Term.{Term, term_of, term_node, joined}
use Rattle.scc_svtree.specs.Code.{Code, End, Arms, None, before, stmt_code, code_of}
use Rattle.scc_svtree.specs.Running.{var_of}
use Rattle.scc_svtree.specs.Mentions.{reads, code_reads, arms_read, assigns, arms_assign}
use Rattle.scc_svtree.specs.Sound.{Each, is_simple, AreNamed}
use Rattle.scc_svread_grammar.specs.declared.raw.RawStmt.{RawStmt}
use Rattle.scc_svread_written.specs.Written.{name_of, raw_left, raw_expr, raw_stmt}
use Rattle.scc_svread_check.specs.Mentioned.{with_name}
use Rattle.scc_svread_written.specs.Resolved.{number_of}
use Rattle.scc_svread_check.specs.Mentioned.{Names, Adding, is_among, each, read_by, read_node, read_in, read_in_arm, stmt_node_read, assigned_in, assigned_in_arm, stmt_node_assigned, arm_node_names}
use Rattle.scc_svread_written.proofs.Leaves.{bare_names, number_at, same_bytes, other_bytes}
use Rattle.scc_svtree_order.proofs.Mentioning.{or_none}
use Rattle.scc_svtree.proofs.Induction.{made, expr_made, by_expr, arm_made, by_stmt}
use Rattle.scc_svread_written.proofs.NamedTrees.{arm_code, code_assign, code_if, code_case, code_arm, at_literal, at_left, at_unary, at_binary, at_cond, at_concat, at_cast, at_sign, raw_arm, at_assign, at_if, at_case, at_arm}

pub or_group : (a b c : Bool) → ((a || b) || c) ≡ (a || (b || c))
or_group true b c = refl
or_group false b c = refl

-- ---- names of variables

simple_at : (vars : List SvVar) (i : ℕ) → AreNamed vars → i < length vars → is_simple (name_of vars i) ≡ true
simple_at [] i a h = absurd (omega arith)
simple_at (v ∷ vs) zero a h = a.0
simple_at (v ∷ vs) (suc i) a h = simple_at vs i a.2 (omega arith)

-- where there is no variable, there is no name
beyond : (vars : List SvVar) (i : ℕ) → length vars ≤ i → name_of vars i ≡ []
beyond [] i h = refl
beyond (v ∷ vs) zero h = absurd (omega arith)
beyond (v ∷ vs) (suc i) h = beyond vs i (omega arith)

module _ (vars : List SvVar) (named : AreNamed vars) where
  differ : (i j : ℕ) → j < length vars → i ≢ j → name_of vars j ≢ name_of vars i
  differ i j l ne e = elim (cases_lt i (length vars)) [
    | inl under ↦ ne (sym (number_at vars i named under) ∙ ap (number_of (bare_names vars)) (sym e) ∙ number_at vars j named l)
    | inr over ↦ true≢false (sym (simple_at vars j named l) ∙ ap is_simple (e ∙ beyond vars i over))
  ]

  -- a number past the variables has a name that none of them has
  pub same_name : (i j : ℕ) → j < length vars → bytes_eq (name_of vars j) (name_of vars i) ≡ nat_eq i j
  same_name i j l = elim (cases_eq i j) [
    | inl e ↦ ap (λ k. bytes_eq (name_of vars j) (name_of vars k)) e ∙ same_bytes (name_of vars j) ∙ sym (eq-eqb i j e)
    | inr ne ↦ other_bytes (name_of vars j) (name_of vars i) (differ i j l ne) ∙ sym (ne_eqb i j ne)
  ]

  -- ---- what is added to names

  -- a list of names holds of the variables just those for which q is true
  pub record Tells (ns : Names) (q : ℕ → Bool) : Type 0 where
    pub tells : (i : ℕ) → i < length vars → is_among ns (name_of vars i) ≡ q i

  abbrev pub Within : (ℕ → Bool) → Type 0
  Within q = (v : ℕ) → q v ≡ true → v < length vars

  abbrev pub Apart : (ℕ → Bool) → (ℕ → Bool) → Type 0
  Apart a b = (v : ℕ) → a v ≡ true → b v ≡ false

  -- the same of another test that agrees with it
  pub moved_tells : {ns : Names} {q r : ℕ → Bool} → ((i : ℕ) → i < length vars → q i ≡ r i) → Tells ns q → Tells ns r
  moved_tells e t = record { tells = λ i l. t.tells i l ∙ e i l }

  pub none_tells : Tells [] (λ v. false)
  none_tells = record { tells = λ i l. refl }

  module _ (v : ℕ) (inside : v < length vars) where
    -- with further names, that of v stands in a list where it stood before or the test is true
    abbrev Adds : Adding → Bool → Type 0
    Adds f b = (ns : Names) → is_among (f ns) (name_of vars v) ≡ (is_among ns (name_of vars v) || b)

    then_adds : (f g : Adding) (a b : Bool) → Adds f a → Adds g b → Adds (λ ns. g (f ns)) (a || b)
    then_adds f g a b h k ns = k (f ns) ∙ ap (λ t. t || b) (h ns) ∙ or_group (is_among ns (name_of vars v)) a b

    name_adds : (i : ℕ) → Adds (λ ns. with_name ns (name_of vars i)) (nat_eq i v)
    name_adds i ns = go (is_among ns (name_of vars i)) refl
      where
        go : (b : Bool) → is_among ns (name_of vars i) ≡ b → is_among (cond b ns (ns ++ name_of vars i ∷ [])) (name_of vars v) ≡ (is_among ns (name_of vars v) || nat_eq i v)
        go false h = list_any-append (bytes_eq (name_of vars v)) ns (name_of vars i ∷ [])
            ∙ ap (λ b. is_among ns (name_of vars v) || (b || false)) (same_name i v inside) ∙ ap (λ b. is_among ns (name_of vars v) || b) (sym (or_none (nat_eq i v)))
        go true h = elim (cases_eq i v) [
          | inl e ↦ let a : is_among ns (name_of vars v) ≡ true = subst (λ (n : ℕ). is_among ns (name_of vars n) ≡ true) e h in a ∙ sym (or_left (is_among ns (name_of vars v)) (nat_eq i v) a)
          | inr ne ↦ or_none (is_among ns (name_of vars v)) ∙ ap (λ b. is_among ns (name_of vars v) || b) (sym (ne_eqb i v ne))
        ]

    left_adds : (l : SvLeft) → Adds (λ ns. with_name ns (raw_left vars l).name) (nat_eq (var_of l) v)
    left_adds (Whole u) = name_adds u.0
    left_adds (Bit u at) = name_adds u.0
    left_adds (Range u h l) = name_adds u.0

    -- ---- expressions

    abbrev AddsExpr : SvExpr → Type 0
    AddsExpr e = Adds (read_by (raw_expr vars e)) (reads (term_of e) v)

    by_made : (x : SvExprNode-F SvExprNode SvExpr) (f : Adding) (t : Term)
        → read_by (raw_expr vars (made x)) ≡ f → term_of (made x) ≡ t → Adds f (reads t v) → AddsExpr (made x)
    by_made x f t p q h ns = ap (λ g. is_among (g ns) (name_of vars v)) p ∙ h ns ∙ ap (λ u. is_among ns (name_of vars v) || reads u v) (sym q)

    parts_add : (es : List SvExpr) → Each AddsExpr es → Adds (each (map read_by (map (raw_expr vars) es))) (reads (joined (map term_of es)) v)
    parts_add [] k ns = or_none (is_among ns (name_of vars v))
    parts_add (e ∷ []) k ns = k.0 ns
    parts_add (e ∷ d ∷ es) k ns = then_adds (read_by (raw_expr vars e)) (each (map read_by (map (raw_expr vars) (d ∷ es)))) _ _ k.0 (parts_add (d ∷ es) k.1) ns

    abbrev of_expr : SvExpr → Adding
    of_expr e = read_by (raw_expr vars e)

    expr_adds : (e : SvExpr) → AddsExpr e
    expr_adds = by_expr AddsExpr
        (λ l. by_made (node.Literal l) _ _ (at_literal vars read_node l) (expr_made Term term_node (node.Literal l)) (λ ns. or_none (is_among ns (name_of vars v))))
        (λ l. by_made (node.Left l) _ _ (at_left vars read_node l) (expr_made Term term_node (node.Left l)) (left_adds l))
        (λ o a h. by_made (node.Unary o a) _ _ (at_unary vars read_node o a) (expr_made Term term_node (node.Unary o a)) h)
        (λ o a b h k. by_made (node.Binary o a b) _ _ (at_binary vars read_node o a b) (expr_made Term term_node (node.Binary o a b)) (then_adds (of_expr a) (of_expr b) _ _ h k))
        (λ c a b g h k. by_made (node.Cond c a b) _ _ (at_cond vars read_node c a b) (expr_made Term term_node (node.Cond c a b)) (then_adds (of_expr c) (λ ns. of_expr b (of_expr a ns)) _ _ g (then_adds (of_expr a) (of_expr b) _ _ h k)))
        (λ parts h. by_made (node.Concat parts) _ _ (at_concat vars read_node parts) (expr_made Term term_node (node.Concat parts)) (parts_add parts h))
        (λ w a h. by_made (node.Cast w a) _ _ (at_cast vars read_node w a) (expr_made Term term_node (node.Cast w a)) h)
        (λ s a h. by_made (node.Sign s a) _ _ (at_sign vars read_node s a) (expr_made Term term_node (node.Sign s a)) h)

    -- ---- parts of code

    -- what f adds is what a part of code reads or assigns, before what follows it
    record Tied {X : Type 0} (test : X → Bool) (f : Adding) (c : X → X) : Type 0 where
      own : Bool
      adds : Adds f own
      code : (rest : X) → test (c rest) ≡ (own || test rest)

    tied_all : {S R X : Type 0} (test : X → Bool) (f : R → Adding) (raw : S → R) (c : S → X → X) (ss : List S)
        → Each (λ s. Tied test (f (raw s)) (c s)) ss → Tied test (each (map f (map raw ss))) (before (map c ss))
    tied_all test f raw c [] k = record { own = false; adds = λ ns. or_none (is_among ns (name_of vars v)); code = λ rest. refl }
    tied_all test f raw c (s ∷ ss) k =
        let t : Tied test (each (map f (map raw ss))) (before (map c ss)) = tied_all test f raw c ss k.1 in
        record {
          own = k.0.own || t.own;
          adds = then_adds (f (raw s)) (each (map f (map raw ss))) k.0.own t.own k.0.adds t.adds;
          code = λ rest. k.0.code (before (map c ss) rest) ∙ ap (λ u. k.0.own || u) (t.code rest) ∙ sym (or_group k.0.own t.own (test rest));
        }

    moved : {X : Type 0} {test : X → Bool} {f g : Adding} {c d : X → X} → f ≡ g → c ≡ d → Tied test g d → Tied test f c
    moved p q t = rw (p, q) t

    -- ---- what statements read

    abbrev CodeReads : Code → Bool
    CodeReads c = code_reads c v

    abbrev ArmsRead : Arms → Bool
    ArmsRead a = arms_read a v

    abbrev StmtReads : SvStmt → Type 0
    StmtReads s = Tied CodeReads (read_in (raw_stmt vars s)) (stmt_code s)

    abbrev ArmReads : SvArm → Type 0
    ArmReads a = Tied ArmsRead (read_in_arm (raw_arm vars a)) (arm_code a)

    abbrev stmts_reading : List SvStmt → Adding
    stmts_reading ss = each (map read_in (map (raw_stmt vars) ss))

    stmt_reads : (s : SvStmt) → StmtReads s
    stmt_reads = by_stmt StmtReads ArmReads assign choice case_of arm
      where
        assign : (l : SvLeft) (e : SvExpr) → StmtReads (roll-SvStmt (stmt.Assign l e))
        assign l e = moved (at_assign vars stmt_node_read arm_node_names l e) (code_assign l e)
            (record { own = reads (term_of e) v; adds = expr_adds e; code = λ rest. refl })

        choice : (c : SvExpr) (a b : List SvStmt) → Each StmtReads a → Each StmtReads b → StmtReads (roll-SvStmt (stmt.If c a b))
        choice c a b h k =
            let s : Tied CodeReads (stmts_reading a) (before (map stmt_code a)) = tied_all CodeReads read_in (raw_stmt vars) stmt_code a h in
            let t : Tied CodeReads (stmts_reading b) (before (map stmt_code b)) = tied_all CodeReads read_in (raw_stmt vars) stmt_code b k in
            moved (at_if vars stmt_node_read arm_node_names c a b) (code_if c a b)
            (record {
              own = reads (term_of c) v || (s.own || t.own);
              adds = then_adds (of_expr c) (λ ns. stmts_reading b (stmts_reading a ns)) _ _ (expr_adds c) (then_adds (stmts_reading a) (stmts_reading b) _ _ s.adds t.adds);
              code = λ rest. ap (λ u. (reads (term_of c) v || (u || code_reads (before (map stmt_code b) End) v)) || code_reads rest v) (s.code End ∙ sym (or_none s.own))
                  ∙ ap (λ u. (reads (term_of c) v || (s.own || u)) || code_reads rest v) (t.code End ∙ sym (or_none t.own));
            })

        case_of : (e : SvExpr) (arms : List SvArm) → Each ArmReads arms → StmtReads (roll-SvStmt (stmt.Case e arms))
        case_of e arms h =
            let t : Tied ArmsRead (each (map read_in_arm (map (raw_arm vars) arms))) (before (map arm_code arms)) = tied_all ArmsRead read_in_arm (raw_arm vars) arm_code arms h in
            moved (at_case vars stmt_node_read arm_node_names e arms) (code_case e arms)
            (record {
              own = reads (term_of e) v || t.own;
              adds = then_adds (of_expr e) (each (map read_in_arm (map (raw_arm vars) arms))) _ _ (expr_adds e) t.adds;
              code = λ rest. ap (λ u. (reads (term_of e) v || u) || code_reads rest v) (t.code None ∙ sym (or_none t.own));
            })

        arm : (label : SvLiteral) (body : List SvStmt) → Each StmtReads body → ArmReads (arm_made label body)
        arm label body h =
            let t : Tied CodeReads (stmts_reading body) (before (map stmt_code body)) = tied_all CodeReads read_in (raw_stmt vars) stmt_code body h in
            moved (at_arm vars stmt_node_read arm_node_names label body) (code_arm label body)
            (record { own = t.own; adds = t.adds; code = λ rest. ap (λ u. u || arms_read rest v) (t.code End ∙ sym (or_none t.own)) })

    -- ---- what they assign

    abbrev CodeAssigns : Code → Bool
    CodeAssigns c = assigns c v

    abbrev ArmsAssign : Arms → Bool
    ArmsAssign a = arms_assign a v

    abbrev StmtAssigns : SvStmt → Type 0
    StmtAssigns s = Tied CodeAssigns (assigned_in (raw_stmt vars s)) (stmt_code s)

    abbrev ArmAssigns : SvArm → Type 0
    ArmAssigns a = Tied ArmsAssign (assigned_in_arm (raw_arm vars a)) (arm_code a)

    abbrev stmts_assigning : List SvStmt → Adding
    stmts_assigning ss = each (map assigned_in (map (raw_stmt vars) ss))

    stmt_assigns : (s : SvStmt) → StmtAssigns s
    stmt_assigns = by_stmt StmtAssigns ArmAssigns assign choice case_of arm
      where
        assign : (l : SvLeft) (e : SvExpr) → StmtAssigns (roll-SvStmt (stmt.Assign l e))
        assign l e = moved (at_assign vars stmt_node_assigned arm_node_names l e) (code_assign l e)
            (record { own = nat_eq (var_of l) v; adds = left_adds l; code = λ rest. refl })

        choice : (c : SvExpr) (a b : List SvStmt) → Each StmtAssigns a → Each StmtAssigns b → StmtAssigns (roll-SvStmt (stmt.If c a b))
        choice c a b h k =
            let s : Tied CodeAssigns (stmts_assigning a) (before (map stmt_code a)) = tied_all CodeAssigns assigned_in (raw_stmt vars) stmt_code a h in
            let t : Tied CodeAssigns (stmts_assigning b) (before (map stmt_code b)) = tied_all CodeAssigns assigned_in (raw_stmt vars) stmt_code b k in
            moved (at_if vars stmt_node_assigned arm_node_names c a b) (code_if c a b)
            (record {
              own = s.own || t.own;
              adds = then_adds (stmts_assigning a) (stmts_assigning b) _ _ s.adds t.adds;
              code = λ rest. ap (λ u. (u || assigns (before (map stmt_code b) End) v) || assigns rest v) (s.code End ∙ sym (or_none s.own))
                  ∙ ap (λ u. (s.own || u) || assigns rest v) (t.code End ∙ sym (or_none t.own));
            })

        case_of : (e : SvExpr) (arms : List SvArm) → Each ArmAssigns arms → StmtAssigns (roll-SvStmt (stmt.Case e arms))
        case_of e arms h =
            let t : Tied ArmsAssign (each (map assigned_in_arm (map (raw_arm vars) arms))) (before (map arm_code arms)) = tied_all ArmsAssign assigned_in_arm (raw_arm vars) arm_code arms h in
            moved (at_case vars stmt_node_assigned arm_node_names e arms) (code_case e arms)
            (record { own = t.own; adds = t.adds; code = λ rest. ap (λ u. u || assigns rest v) (t.code None ∙ sym (or_none t.own)) })

        arm : (label : SvLiteral) (body : List SvStmt) → Each StmtAssigns body → ArmAssigns (arm_made label body)
        arm label body h =
            let t : Tied CodeAssigns (stmts_assigning body) (before (map stmt_code body)) = tied_all CodeAssigns assigned_in (raw_stmt vars) stmt_code body h in
            moved (at_arm vars stmt_node_assigned arm_node_names label body) (code_arm label body)
            (record { own = t.own; adds = t.adds; code = λ rest. ap (λ u. u || arms_assign rest v) (t.code End ∙ sym (or_none t.own)) })

    each_holds : {S : Type 0} (P : S → Type 0) → ((s : S) → P s) → (ss : List S) → Each P ss
    each_holds P h [] = tt
    each_holds P h (s ∷ ss) = (h s, each_holds P h ss)

    code_adds : (test : Code → Bool) (f : RawStmt → Adding) (ss : List SvStmt)
        → ((s : SvStmt) → Tied test (f (raw_stmt vars s)) (stmt_code s)) → test End ≡ false → Adds (each (map f (map (raw_stmt vars) ss))) (test (code_of ss))
    code_adds test f ss h e ns =
        let t : Tied test (each (map f (map (raw_stmt vars) ss))) (before (map stmt_code ss)) =
        tied_all test f (raw_stmt vars) stmt_code ss (each_holds (λ s. Tied test (f (raw_stmt vars s)) (stmt_code s)) h ss) in
        t.adds ns ∙ ap (λ b. is_among ns (name_of vars v) || b) (or_none t.own ∙ ap (λ b. t.own || b) (sym e) ∙ sym (t.code End))

  -- what is added on top of names of which a test tells
  on_top : (f : Adding) (r : ℕ → Bool) (ns : Names) (q : ℕ → Bool)
      → ((i : ℕ) (l : i < length vars) → Adds i l f (r i)) → Tells ns q → Tells (f ns) (λ v. q v || r v)
  on_top f r ns q h t = record { tells = λ i l. h i l ns ∙ ap (λ b. b || r i) (t.tells i l) }

  pub with_tells : (i : ℕ) → i < length vars → (ns : Names) (q : ℕ → Bool) → Tells ns q → Tells (with_name ns (name_of vars i)) (λ v. q v || nat_eq i v)
  with_tells i inside ns q t = on_top (λ ms. with_name ms (name_of vars i)) (nat_eq i) ns q (λ j l. name_adds j l i) t

  pub read_tells : (e : SvExpr) → Within (reads (term_of e)) → (ns : Names) (q : ℕ → Bool) → Tells ns q → Tells (read_by (raw_expr vars e) ns) (λ v. q v || reads (term_of e) v)
  read_tells e within ns q t = on_top (read_by (raw_expr vars e)) (reads (term_of e)) ns q (λ i l. expr_adds i l e) t

  pub code_read_tells : (ss : List SvStmt) → Within (code_reads (code_of ss)) → (ns : Names) (q : ℕ → Bool) → Tells ns q
      → Tells (each (map read_in (map (raw_stmt vars) ss)) ns) (λ v. q v || code_reads (code_of ss) v)
  code_read_tells ss within ns q t =
      on_top (each (map read_in (map (raw_stmt vars) ss))) (code_reads (code_of ss)) ns q (λ i l. code_adds i l (λ c. code_reads c i) read_in ss (stmt_reads i l) refl) t

  pub code_assigned_tells : (ss : List SvStmt) → Within (assigns (code_of ss)) → (ns : Names) (q : ℕ → Bool) → Tells ns q
      → Tells (each (map assigned_in (map (raw_stmt vars) ss)) ns) (λ v. q v || assigns (code_of ss) v)
  code_assigned_tells ss within ns q t =
      on_top (each (map assigned_in (map (raw_stmt vars) ss))) (assigns (code_of ss)) ns q (λ i l. code_adds i l (λ c. assigns c i) assigned_in ss (stmt_assigns i l) refl) t
