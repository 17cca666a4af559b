-- Statements as plain code, in which each statement holds what follows it.
use Rattle.std.specs.Prelude.{ℕ, List, [], ◌∷◌, map}
use Rattle.scc_svtree.specs.declared.expr.SvLeft.{SvLeft}
use Rattle.scc_svtree.specs.declared.stmt.SvStmt.{SvStmt, fold-SvStmt}
use Rattle.scc_svtree.specs.declared.stmt.SvStmt.TheOpen.{SvStmt-F, SvArm-F}
use Rattle.scc_svtree.specs.declared.stmt.SvStmt.TheOpen as stmt
use Rattle.scc_svtree.specs.Term.{Term, term_of}

mutual
  -- blocking assignments, `if` and `case` (IEEE 1800-2017, 10.4.1, 12.4 and 12.5)
  pub data Code : Type 0 where
    End : Code
    Assign : (left : SvLeft) (value : Term) (rest : Code) → Code
    If : (test : Term) (then_part else_part rest : Code) → Code
    Case : (selector : Term) (arms : Arms) (rest : Code) → Code

  -- the arms of a `case`, each with its label
  pub data Arms : Type 0 where
    None : Arms
    Arm : (width label : ℕ) (body : Code) (more : Arms) → Arms

-- a list of parts before what follows
abbrev pub before : {A : Type 0} → List (A → A) → A → A
before [] a = a
before (f ∷ fs) a = f (before fs a)

abbrev pub stmt_node : SvStmt-F (Code → Code) (Arms → Arms) → Code → Code
stmt_node (stmt.Assign l e) rest = Assign l (term_of e) rest
stmt_node (stmt.If c then_part else_part) rest = If (term_of c) (before then_part End) (before else_part End) rest
stmt_node (stmt.Case e arms) rest = Case (term_of e) (before arms None) rest

abbrev pub arm_node : SvArm-F (Code → Code) (Arms → Arms) → Arms → Arms
arm_node a more = Arm a.label.width a.label.value.bits (before a.body End) more

abbrev pub stmt_code : SvStmt → Code → Code
stmt_code = fold-SvStmt (Code → Code) (Arms → Arms) stmt_node arm_node

-- the code of a list of statements
abbrev pub code_of : List SvStmt → Code
code_of ss = before (map stmt_code ss) End
