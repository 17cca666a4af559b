-- The lists of variables are those of the code: a variable stands in one where the code reads or assigns it.
use Rattle.std.proofs.Common.{◌≡◌, ℕ, nat_eq, Bool, true, false, ◌||◌, List, [], ◌∷◌, ◌++◌, map, refl, sym, ap, ◌∙◌}
use Rattle.std.proofs.lemmas.List.Folds.{list_any-append}
use Rattle.scc_svtree.specs.declared.expr.SvExpr.{SvExpr}
use Rattle.scc_svtree.specs.declared.expr.SvExprNode.{SvExprNode}
use Rattle.scc_svtree.specs.declared.expr.SvExprNode.TheOpen.{SvExprNode-F}
use Rattle.scc_svtree.specs.declared.expr.SvExprNode.TheOpen as node
use Rattle.scc_svtree.specs.declared.expr.SvLeft.{SvLeft}
use Rattle.scc_svtree.specs.declared.stmt.SvStmt.{SvStmt, roll-SvStmt, fold-roll-SvStmt}
use Rattle.scc_svtree.specs.declared.stmt.SvStmt.TheOpen as stmt
use Rattle.scc_svtree.specs.declared.stmt.SvArm.{SvArm, fold-SvArm, fold-roll-SvArm}
use Rattle.scc_svtree.specs.declared.expr.SvLiteral.{SvLiteral}
use Rattle.scc_svtree.specs.Term.{Term, term_of, term_node, joined}
use Rattle.scc_svtree.specs.Code.{Code, End, Arms, before, stmt_code, code_of}
use Rattle.scc_svtree.specs.Code as code
use Rattle.scc_svtree.specs.Running.{var_of}
use Rattle.scc_svtree.specs.Mentions.{reads, code_reads, arms_read, assigns, arms_assign}
use Rattle.scc_svtree.specs.Sound.{Each}
use Rattle.scc_svtree_order.specs.VarLists.{Further, each, read_by, read_node, read_in, read_in_arm, stmt_node_read, assigned_in, assigned_in_arm, stmt_node_assigned, arm_node, all_read, all_assigned}
use Rattle.scc_svtree_order.specs.Fed.{has}
use Rattle.scc_svtree.proofs.Induction.{made, expr_made, by_expr, arm_made, by_stmt}

pub or_none : (b : Bool) → b ≡ (b || false)
or_none true = refl
or_none false = refl

or_group : (a b c : Bool) → ((a || b) || c) ≡ (a || (b || c))
or_group true b c = refl
or_group false b c = refl

module _ (v : ℕ) where
  -- with further variables, v stands in a list where it stood before or the test is true
  abbrev Tells : Further → Bool → Type 0
  Tells f b = (vs : List ℕ) → has (f vs) v ≡ (has vs v || b)

  then_tells : (f g : Further) (a b : Bool) → Tells f a → Tells g b → Tells (λ vs. g (f vs)) (a || b)
  then_tells f g a b h k vs = k (f vs) ∙ ap (λ t. t || b) (h vs) ∙ or_group (has vs v) a b

  left_tells : (l : SvLeft) → Tells (λ vs. vs ++ var_of l ∷ []) (nat_eq (var_of l) v)
  left_tells l vs = list_any-append (λ y. nat_eq y v) vs (var_of l ∷ []) ∙ ap (λ t. has vs v || t) (sym (or_none (nat_eq (var_of l) v)))

  -- ---- expressions

  abbrev ToldExpr : SvExpr → Type 0
  ToldExpr e = Tells (read_by e) (reads (term_of e) v)

  by_made : (x : SvExprNode-F SvExprNode SvExpr) (f : Further) (t : Term) → read_by (made x) ≡ f → term_of (made x) ≡ t → Tells f (reads t v) → ToldExpr (made x)
  by_made x f t p q h vs = ap (λ g. has (g vs) v) p ∙ h vs ∙ ap (λ u. has vs v || reads u v) (sym q)

  parts_tell : (es : List SvExpr) → Each ToldExpr es → Tells (each (map read_by es)) (reads (joined (map term_of es)) v)
  parts_tell [] k vs = or_none (has vs v)
  parts_tell (e ∷ []) k vs = k.0 vs
  parts_tell (e ∷ d ∷ es) k vs = then_tells (read_by e) (each (map read_by (d ∷ es))) _ _ k.0 (parts_tell (d ∷ es) k.1) vs

  pub expr_tells : (e : SvExpr) → ToldExpr e
  expr_tells = by_expr ToldExpr
      (λ l. by_made (node.Literal l) _ _ (expr_made Further read_node (node.Literal l)) (expr_made Term term_node (node.Literal l)) (λ vs. or_none (has vs v)))
      (λ l. by_made (node.Left l) _ _ (expr_made Further read_node (node.Left l)) (expr_made Term term_node (node.Left l)) (left_tells l))
      (λ o a h. by_made (node.Unary o a) _ _ (expr_made Further read_node (node.Unary o a)) (expr_made Term term_node (node.Unary o a)) h)
      (λ o a b h k. by_made (node.Binary o a b) _ _ (expr_made Further read_node (node.Binary o a b)) (expr_made Term term_node (node.Binary o a b)) (then_tells (read_by a) (read_by b) _ _ h k))
      (λ c a b g h k. by_made (node.Cond c a b) _ _ (expr_made Further read_node (node.Cond c a b)) (expr_made Term term_node (node.Cond c a b)) (then_tells (read_by c) (λ vs. read_by b (read_by a vs)) _ _ g (then_tells (read_by a) (read_by b) _ _ h k)))
      (λ parts h. by_made (node.Concat parts) _ _ (expr_made Further read_node (node.Concat parts)) (expr_made Term term_node (node.Concat parts)) (parts_tell parts h))
      (λ w a h. by_made (node.Cast w a) _ _ (expr_made Further read_node (node.Cast w a)) (expr_made Term term_node (node.Cast w a)) h)
      (λ s a h. by_made (node.Sign s a) _ _ (expr_made Further read_node (node.Sign s a)) (expr_made Term term_node (node.Sign s a)) h)

  -- ---- parts of code

  -- what f adds is what a part of code reads or assigns, before what follows it
  record Tied {X : Type 0} (test : X → Bool) (f : Further) (c : X → X) : Type 0 where
    own : Bool
    tells : Tells f own
    code : (rest : X) → test (c rest) ≡ (own || test rest)

  tied_all : {S X : Type 0} (test : X → Bool) (f : S → Further) (c : S → X → X) (ss : List S) → Each (λ s. Tied test (f s) (c s)) ss → Tied test (each (map f ss)) (before (map c ss))
  tied_all test f c [] k = record { own = false; tells = λ vs. or_none (has vs v); code = λ rest. refl }
  tied_all test f c (s ∷ ss) k =
      let t : Tied test (each (map f ss)) (before (map c ss)) = tied_all test f c ss k.1 in
      record {
        own = k.0.own || t.own;
        tells = then_tells (f s) (each (map f ss)) k.0.own t.own k.0.tells t.tells;
        code = λ rest. k.0.code (before (map c ss) rest) ∙ ap (λ u. k.0.own || u) (t.code rest) ∙ sym (or_group k.0.own t.own (test rest));
      }

  moved : {X : Type 0} {test : X → Bool} {f g : Further} {c d : X → X} → f ≡ g → c ≡ d → Tied test g d → Tied test f c
  moved p q t = rw (p, q) t

  abbrev arm_code : SvArm → Arms → Arms
  arm_code = fold-SvArm (Code → Code) (Arms → Arms) code.stmt_node code.arm_node

  -- ---- what statements read

  abbrev CodeReads : Code → Bool
  CodeReads c = code_reads c v

  abbrev ArmsRead : Arms → Bool
  ArmsRead a = arms_read a v

  abbrev StmtReads : SvStmt → Type 0
  StmtReads s = Tied CodeReads (read_in s) (stmt_code s)

  abbrev ArmReads : SvArm → Type 0
  ArmReads a = Tied ArmsRead (read_in_arm a) (arm_code a)

  stmt_reads : (s : SvStmt) → StmtReads s
  stmt_reads = by_stmt StmtReads ArmReads assign choice case_of arm
    where
      assign : (l : SvLeft) (e : SvExpr) → StmtReads (roll-SvStmt (stmt.Assign l e))
      assign l e = moved (fold-roll-SvStmt Further Further stmt_node_read arm_node (stmt.Assign l e)) (fold-roll-SvStmt (Code → Code) (Arms → Arms) code.stmt_node code.arm_node (stmt.Assign l e))
          (record { own = reads (term_of e) v; tells = expr_tells e; code = λ rest. refl })

      choice : (c : SvExpr) (a b : List SvStmt) → Each StmtReads a → Each StmtReads b → StmtReads (roll-SvStmt (stmt.If c a b))
      choice c a b h k =
          let s : Tied CodeReads (each (map read_in a)) (before (map stmt_code a)) = tied_all CodeReads read_in stmt_code a h in
          let t : Tied CodeReads (each (map read_in b)) (before (map stmt_code b)) = tied_all CodeReads read_in stmt_code b k in
          moved (fold-roll-SvStmt Further Further stmt_node_read arm_node (stmt.If c a b)) (fold-roll-SvStmt (Code → Code) (Arms → Arms) code.stmt_node code.arm_node (stmt.If c a b))
          (record {
            own = reads (term_of c) v || (s.own || t.own);
            tells = then_tells (read_by c) (λ vs. each (map read_in b) (each (map read_in a) vs)) _ _ (expr_tells c) (then_tells (each (map read_in a)) (each (map read_in b)) _ _ s.tells t.tells);
            code = λ rest. ap (λ u. (reads (term_of c) v || (u || code_reads (before (map stmt_code b) End) v)) || code_reads rest v) (s.code End ∙ sym (or_none s.own)) ∙ ap (λ u. (reads (term_of c) v || (s.own || u)) || code_reads rest v) (t.code End ∙ sym (or_none t.own));
          })

      case_of : (e : SvExpr) (arms : List SvArm) → Each ArmReads arms → StmtReads (roll-SvStmt (stmt.Case e arms))
      case_of e arms h =
          let t : Tied ArmsRead (each (map read_in_arm arms)) (before (map arm_code arms)) = tied_all ArmsRead read_in_arm arm_code arms h in
          moved (fold-roll-SvStmt Further Further stmt_node_read arm_node (stmt.Case e arms)) (fold-roll-SvStmt (Code → Code) (Arms → Arms) code.stmt_node code.arm_node (stmt.Case e arms))
          (record {
            own = reads (term_of e) v || t.own;
            tells = then_tells (read_by e) (each (map read_in_arm arms)) _ _ (expr_tells e) t.tells;
            code = λ rest. ap (λ u. (reads (term_of e) v || u) || code_reads rest v) (t.code code.None ∙ sym (or_none t.own));
          })

      arm : (label : SvLiteral) (body : List SvStmt) → Each StmtReads body → ArmReads (arm_made label body)
      arm label body h =
          let t : Tied CodeReads (each (map read_in body)) (before (map stmt_code body)) = tied_all CodeReads read_in stmt_code body h in
          moved (fold-roll-SvArm Further Further stmt_node_read arm_node (record { label = label; body = body })) (fold-roll-SvArm (Code → Code) (Arms → Arms) code.stmt_node code.arm_node (record { label = label; body = body }))
          (record { own = t.own; tells = t.tells; code = λ rest. ap (λ u. u || arms_read rest v) (t.code End ∙ sym (or_none t.own)) })

  each_holds : {S : Type 0} (P : S → Type 0) → ((s : S) → P s) → (ss : List S) → Each P ss
  each_holds P h [] = tt
  each_holds P h (s ∷ ss) = (h s, each_holds P h ss)

  pub read_is : (ss : List SvStmt) → has (all_read ss) v ≡ code_reads (code_of ss) v
  read_is ss = let t : Tied CodeReads (each (map read_in ss)) (before (map stmt_code ss)) = tied_all CodeReads read_in stmt_code ss (each_holds StmtReads stmt_reads ss) in t.tells [] ∙ or_none t.own ∙ sym (t.code End)

  -- ---- what they assign

  abbrev CodeAssigns : Code → Bool
  CodeAssigns c = assigns c v

  abbrev ArmsAssign : Arms → Bool
  ArmsAssign a = arms_assign a v

  abbrev StmtAssigns : SvStmt → Type 0
  StmtAssigns s = Tied CodeAssigns (assigned_in s) (stmt_code s)

  abbrev ArmAssigns : SvArm → Type 0
  ArmAssigns a = Tied ArmsAssign (assigned_in_arm a) (arm_code a)

  stmt_assigns : (s : SvStmt) → StmtAssigns s
  stmt_assigns = by_stmt StmtAssigns ArmAssigns assign choice case_of arm
    where
      assign : (l : SvLeft) (e : SvExpr) → StmtAssigns (roll-SvStmt (stmt.Assign l e))
      assign l e = moved (fold-roll-SvStmt Further Further stmt_node_assigned arm_node (stmt.Assign l e)) (fold-roll-SvStmt (Code → Code) (Arms → Arms) code.stmt_node code.arm_node (stmt.Assign l e))
          (record { own = nat_eq (var_of l) v; tells = left_tells l; code = λ rest. refl })

      choice : (c : SvExpr) (a b : List SvStmt) → Each StmtAssigns a → Each StmtAssigns b → StmtAssigns (roll-SvStmt (stmt.If c a b))
      choice c a b h k =
          let s : Tied CodeAssigns (each (map assigned_in a)) (before (map stmt_code a)) = tied_all CodeAssigns assigned_in stmt_code a h in
          let t : Tied CodeAssigns (each (map assigned_in b)) (before (map stmt_code b)) = tied_all CodeAssigns assigned_in stmt_code b k in
          moved (fold-roll-SvStmt Further Further stmt_node_assigned arm_node (stmt.If c a b)) (fold-roll-SvStmt (Code → Code) (Arms → Arms) code.stmt_node code.arm_node (stmt.If c a b))
          (record {
            own = s.own || t.own;
            tells = then_tells (each (map assigned_in a)) (each (map assigned_in b)) _ _ s.tells t.tells;
            code = λ rest. ap (λ u. (u || assigns (before (map stmt_code b) End) v) || assigns rest v) (s.code End ∙ sym (or_none s.own)) ∙ ap (λ u. (s.own || u) || assigns rest v) (t.code End ∙ sym (or_none t.own));
          })

      case_of : (e : SvExpr) (arms : List SvArm) → Each ArmAssigns arms → StmtAssigns (roll-SvStmt (stmt.Case e arms))
      case_of e arms h =
          let t : Tied ArmsAssign (each (map assigned_in_arm arms)) (before (map arm_code arms)) = tied_all ArmsAssign assigned_in_arm arm_code arms h in
          moved (fold-roll-SvStmt Further Further stmt_node_assigned arm_node (stmt.Case e arms)) (fold-roll-SvStmt (Code → Code) (Arms → Arms) code.stmt_node code.arm_node (stmt.Case e arms))
          (record { own = t.own; tells = t.tells; code = λ rest. ap (λ u. u || assigns rest v) (t.code code.None ∙ sym (or_none t.own)) })

      arm : (label : SvLiteral) (body : List SvStmt) → Each StmtAssigns body → ArmAssigns (arm_made label body)
      arm label body h =
          let t : Tied CodeAssigns (each (map assigned_in body)) (before (map stmt_code body)) = tied_all CodeAssigns assigned_in stmt_code body h in
          moved (fold-roll-SvArm Further Further stmt_node_assigned arm_node (record { label = label; body = body })) (fold-roll-SvArm (Code → Code) (Arms → Arms) code.stmt_node code.arm_node (record { label = label; body = body }))
          (record { own = t.own; tells = t.tells; code = λ rest. ap (λ u. u || arms_assign rest v) (t.code End ∙ sym (or_none t.own)) })

  pub assigned_is : (ss : List SvStmt) → has (all_assigned ss) v ≡ assigns (code_of ss) v
  assigned_is ss = let t : Tied CodeAssigns (each (map assigned_in ss)) (before (map stmt_code ss)) = tied_all CodeAssigns assigned_in stmt_code ss (each_holds StmtAssigns stmt_assigns ss) in t.tells [] ∙ or_none t.own ∙ sym (t.code End)
