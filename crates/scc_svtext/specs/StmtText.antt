-- The text of a statement, behind so many blanks.
use Rattle.std.specs.Prelude.{ℕ, ◌+◌, List, [], ◌∷◌, ◌++◌, flat_map, map}
use Rattle.scc_svtree.specs.declared.stmt.SvStmt.{SvStmt, fold-SvStmt}
use Rattle.scc_svtree.specs.declared.stmt.SvArm.{SvArm, fold-SvArm}
use Rattle.scc_svtree.specs.declared.stmt.SvStmt.TheOpen.{SvStmt-F, SvArm-F}
use Rattle.scc_svtree.specs.declared.stmt.SvStmt.TheOpen as stmt
use Rattle.scc_svtext.specs.declared.fixed.Fixed.TheVariants as piece
use Rattle.scc_svtext.specs.Fixed.{fixed_text}
use Rattle.scc_svtext.specs.Pieces.{literal_text, left_text, blanks}
use Rattle.scc_svtext.specs.ExprText.{expr_text}

-- a text by the number of its blanks
abbrev pub Laid : Type 0
Laid = ℕ → List ℕ

abbrev pub all_at : ℕ → List Laid → List ℕ
all_at n texts = flat_map (λ t. t n) texts

-- the branch behind an `else`, which an empty one has not
abbrev pub else_text : ℕ → List Laid → List ℕ
else_text n [] = []
else_text n (s ∷ ss) = blanks n ++ fixed_text piece.Else ++ all_at (n + 2) (s ∷ ss)

abbrev pub stmt_node_text : List (List ℕ) → SvStmt-F Laid Laid → Laid
stmt_node_text names (stmt.Assign l e) n = blanks n ++ left_text names l ++ fixed_text piece.Assign ++ expr_text names e ++ fixed_text piece.LineEnd
stmt_node_text names (stmt.If c then_part else_part) n = blanks n ++ fixed_text piece.If ++ expr_text names c ++ fixed_text piece.Then ++ all_at (n + 2) then_part ++ else_text n else_part ++ blanks n ++ fixed_text piece.End
stmt_node_text names (stmt.Case e arms) n = blanks n ++ fixed_text piece.Case ++ expr_text names e ++ fixed_text piece.CaseOpen ++ all_at (n + 2) arms ++ blanks n ++ fixed_text piece.CaseEnd

abbrev pub arm_node_text : SvArm-F Laid Laid → Laid
arm_node_text a n = blanks n ++ literal_text a.label.width a.label.value.bits ++ fixed_text piece.ArmOpen ++ all_at (n + 2) a.body ++ blanks n ++ fixed_text piece.End

abbrev pub stmt_text : List (List ℕ) → SvStmt → Laid
stmt_text names = fold-SvStmt Laid Laid (stmt_node_text names) arm_node_text

abbrev pub arm_text : List (List ℕ) → SvArm → Laid
arm_text names = fold-SvArm Laid Laid (stmt_node_text names) arm_node_text

abbrev pub stmts_text : List (List ℕ) → List SvStmt → Laid
stmts_text names list n = all_at n (map (stmt_text names) list)

abbrev pub arms_text : List (List ℕ) → List SvArm → Laid
arms_text names list n = all_at n (map (arm_text names) list)

abbrev pub otherwise_text : List (List ℕ) → List SvStmt → Laid
otherwise_text names list n = else_text n (map (stmt_text names) list)
