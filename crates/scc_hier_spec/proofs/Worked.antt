-- The inverter's statements, as code and as text.
use Rattle.std.proofs.Common.{◌≡◌, ℕ, List, [], ◌∷◌, ◌++◌, codes, ap, ◌∙◌, arith}
use Rattle.scc_svtree.specs.declared.expr.SvExpr.{fold-roll-SvExpr}
use Rattle.scc_svtree.specs.declared.expr.SvExprNode.{SvExprNode, roll-SvExprNode, fold-roll-SvExprNode}
use Rattle.scc_svtree.specs.declared.expr.SvExprNode.TheOpen.{SvExprNode-F}
use Rattle.scc_svtree.specs.declared.expr.SvExprNode.TheOpen as node
use Rattle.scc_svtree.specs.declared.expr.SvLeft.TheVariants.{Whole}
use Rattle.scc_svtree.specs.declared.expr.SvUnary.TheVariants.{LogNot}
use Rattle.scc_svtree.specs.declared.stmt.SvStmt.{fold-roll-SvStmt}
use Rattle.scc_svtree.specs.declared.stmt.SvStmt.TheOpen as stmt
use Rattle.scc_svtree.specs.Term.{Term, term_node, term_of}
use Rattle.scc_svtree.specs.Term as term
use Rattle.scc_svtree.specs.Code.{Code, Arms, Assign, End, stmt_node, arm_node, stmt_code, code_of}
use Rattle.std.proofs.lemmas.Fmt.{decimal_digit}
use Rattle.scc_svtext.specs.Pieces.{left_text, hex_text, blanks}
use Rattle.scc_svtext.specs.Fixed.{fixed_text}
use Rattle.scc_svtext.specs.declared.fixed.Fixed.TheVariants as piece
use Rattle.scc_svtext.specs.ExprText.{node_text, expr_text}
use Rattle.scc_svtext.specs.StmtText.{Laid, stmt_node_text, arm_node_text, stmt_text, stmts_text}
use Rattle.scc_hier_spec.specs.Worked.{expr, assign, variable}

abbrev zero_bit : SvExprNode
zero_bit = roll-SvExprNode (node.Literal (record { width = 1; value = record { bits = 0 } }))

abbrev complement : SvExprNode
complement = roll-SvExprNode (node.Unary LogNot (variable 0))

assign_code : (v : ℕ) (n : SvExprNode) (rest : Code) → stmt_code (assign v n) rest ≡ Assign (Whole (record { 0 = v })) (term_of (expr n)) rest
assign_code v n rest = ap (λ f. f rest) (fold-roll-SvStmt (Code → Code) (Arms → Arms) stmt_node arm_node (stmt.Assign (Whole (record { 0 = v })) (expr n)))

zero_term : term_of (expr zero_bit) ≡ term.Literal 1 0
zero_term =
    fold-roll-SvExpr Term Term term_node (λ e. e.node) (record { node = zero_bit })
    ∙ fold-roll-SvExprNode Term Term term_node (λ e. e.node) (node.Literal (record { width = 1; value = record { bits = 0 } }))

variable_term : (v : ℕ) → term_of (variable v) ≡ term.Part (Whole (record { 0 = v }))
variable_term v =
    fold-roll-SvExpr Term Term term_node (λ e. e.node) (record { node = roll-SvExprNode (node.Left (Whole (record { 0 = v }))) })
    ∙ fold-roll-SvExprNode Term Term term_node (λ e. e.node) (node.Left (Whole (record { 0 = v })))

complement_term : term_of (expr complement) ≡ term.Unary LogNot (term.Part (Whole (record { 0 = 0 })))
complement_term =
    fold-roll-SvExpr Term Term term_node (λ e. e.node) (record { node = complement })
    ∙ fold-roll-SvExprNode Term Term term_node (λ e. e.node) (node.Unary LogNot (variable 0))
    ∙ ap (λ t. term.Unary LogNot t) (variable_term 0)

pub inverter_code : code_of (assign 1 zero_bit ∷ assign 1 complement ∷ []) ≡ Assign (Whole (record { 0 = 1 })) (term.Literal 1 0) (Assign (Whole (record { 0 = 1 })) (term.Unary LogNot (term.Part (Whole (record { 0 = 0 })))) End)
inverter_code =
    assign_code 1 zero_bit (stmt_code (assign 1 complement) End)
    ∙ ap (λ t. Assign (Whole (record { 0 = 1 })) t (stmt_code (assign 1 complement) End)) zero_term
    ∙ ap (λ c. Assign (Whole (record { 0 = 1 })) (term.Literal 1 0) c) (assign_code 1 complement End)
    ∙ ap (λ t. Assign (Whole (record { 0 = 1 })) (term.Literal 1 0) (Assign (Whole (record { 0 = 1 })) t End)) complement_term

assign_text : (names : List (List ℕ)) (v : ℕ) (n : SvExprNode) (k : ℕ)
    → stmt_text names (assign v n) k ≡ blanks k ++ left_text names (Whole (record { 0 = v })) ++ fixed_text piece.Assign ++ expr_text names (expr n) ++ fixed_text piece.LineEnd
assign_text names v n k = ap (λ f. f k) (fold-roll-SvStmt Laid Laid (stmt_node_text names) arm_node_text (stmt.Assign (Whole (record { 0 = v })) (expr n)))

zero_text : (names : List (List ℕ)) → expr_text names (expr zero_bit) ≡ codes "1'h0"
unfolding fixed_text hex_text
zero_text names =
    fold-roll-SvExpr (List ℕ) (List ℕ) (node_text names) (λ e. e.node) (record { node = zero_bit })
    ∙ fold-roll-SvExprNode (List ℕ) (List ℕ) (node_text names) (λ e. e.node) (node.Literal (record { width = 1; value = record { bits = 0 } }))
    ∙ ap (λ d. d ++ fixed_text piece.Hex ++ hex_text 1 0) (decimal_digit 1 (omega arith))

variable_text : (names : List (List ℕ)) (v : ℕ) → expr_text names (variable v) ≡ left_text names (Whole (record { 0 = v }))
variable_text names v =
    fold-roll-SvExpr (List ℕ) (List ℕ) (node_text names) (λ e. e.node) (record { node = roll-SvExprNode (node.Left (Whole (record { 0 = v }))) })
    ∙ fold-roll-SvExprNode (List ℕ) (List ℕ) (node_text names) (λ e. e.node) (node.Left (Whole (record { 0 = v })))

complement_text : (names : List (List ℕ)) → expr_text names (expr complement) ≡ fixed_text piece.Open ++ codes "!" ++ left_text names (Whole (record { 0 = 0 })) ++ fixed_text piece.Close
complement_text names =
    fold-roll-SvExpr (List ℕ) (List ℕ) (node_text names) (λ e. e.node) (record { node = complement })
    ∙ fold-roll-SvExprNode (List ℕ) (List ℕ) (node_text names) (λ e. e.node) (node.Unary LogNot (variable 0))
    ∙ ap (λ t. fixed_text piece.Open ++ codes "!" ++ t ++ fixed_text piece.Close) (variable_text names 0)

-- the two lines of an inverter's block
abbrev pub lines : List (List ℕ) → List ℕ → List ℕ → List ℕ
lines names zero complement = (blanks 4 ++ left_text names (Whole (record { 0 = 1 })) ++ fixed_text piece.Assign ++ zero ++ fixed_text piece.LineEnd)
    ++ ((blanks 4 ++ left_text names (Whole (record { 0 = 1 })) ++ fixed_text piece.Assign ++ complement ++ fixed_text piece.LineEnd) ++ [])

pub inverter_text : (names : List (List ℕ))
    → stmts_text names (assign 1 zero_bit ∷ assign 1 complement ∷ []) 4 ≡ lines names (codes "1'h0") (fixed_text piece.Open ++ codes "!" ++ left_text names (Whole (record { 0 = 0 })) ++ fixed_text piece.Close)
inverter_text names =
    ap (λ a. a ++ (stmt_text names (assign 1 complement) 4 ++ [])) (assign_text names 1 zero_bit 4)
    ∙ ap (λ b. (blanks 4 ++ left_text names (Whole (record { 0 = 1 })) ++ fixed_text piece.Assign ++ expr_text names (expr zero_bit) ++ fixed_text piece.LineEnd) ++ (b ++ [])) (assign_text names 1 complement 4)
    ∙ ap (λ z. lines names z (expr_text names (expr complement))) (zero_text names)
    ∙ ap (λ z. lines names (codes "1'h0") z) (complement_text names)
