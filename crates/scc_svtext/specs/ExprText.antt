-- The text of an expression.
use Rattle.std.specs.Prelude.{ℕ, List, [], ◌∷◌, ◌++◌, codes, decimal, Bool, true, false, if◌then◌else◌}
use Rattle.scc_svtree.specs.declared.expr.SvExpr.{SvExpr, fold-SvExpr}
use Rattle.scc_svtree.specs.declared.expr.SvExprNode.TheOpen.{SvExprNode-F}
use Rattle.scc_svtree.specs.declared.expr.SvExprNode.TheOpen as node
use Rattle.scc_svtree.specs.declared.expr.SvUnary.{SvUnary}
use Rattle.scc_svtree.specs.declared.expr.SvUnary.TheVariants as unary
use Rattle.scc_svtree.specs.declared.expr.SvBinary.{SvBinary}
use Rattle.scc_svtree.specs.declared.expr.SvBinary.TheVariants as binary
use Rattle.scc_svtext.specs.declared.fixed.Fixed.TheVariants as piece
use Rattle.scc_svtext.specs.Fixed.{fixed_text}
use Rattle.scc_svtext.specs.Pieces.{literal_text, left_text}

abbrev pub unary_text : SvUnary → List ℕ
unary_text unary.Not = codes "~"
unary_text unary.LogNot = codes "!"
unary_text unary.Neg = codes "-"
unary_text unary.And = codes "&"
unary_text unary.Or = codes "|"
unary_text unary.Xor = codes "^"

abbrev pub binary_text : SvBinary → List ℕ
binary_text binary.Add = codes "+"
binary_text binary.Sub = codes "-"
binary_text binary.Mul = codes "*"
binary_text binary.Div = codes "/"
binary_text binary.Rem = codes "%"
binary_text binary.And = codes "&"
binary_text binary.Or = codes "|"
binary_text binary.Xor = codes "^"
binary_text binary.Shl = codes "<<"
binary_text binary.Shr = codes ">>"
binary_text binary.Sar = codes ">>>"
binary_text binary.Eq = codes "=="
binary_text binary.Ne = codes "!="
binary_text binary.Lt = codes "<"
binary_text binary.Le = codes "<="
binary_text binary.Gt = codes ">"
binary_text binary.Ge = codes ">="
binary_text binary.LogAnd = codes "&&"
binary_text binary.LogOr = codes "||"

abbrev pub sign_text : Bool → List ℕ
sign_text true = fixed_text piece.Signed
sign_text false = fixed_text piece.Unsigned

abbrev pub comma_text : Bool → List ℕ
comma_text first = if first then [] else fixed_text piece.Comma

-- texts with a comma and a blank between two; `first` says that none stands before
abbrev pub joined : Bool → List (List ℕ) → List ℕ
joined first [] = []
joined first (t ∷ more) = comma_text first ++ t ++ joined false more

abbrev pub node_text : List (List ℕ) → SvExprNode-F (List ℕ) (List ℕ) → List ℕ
node_text names (node.Literal l) = literal_text l.width l.value.bits
node_text names (node.Left l) = left_text names l
node_text names (node.Unary op e) = fixed_text piece.Open ++ unary_text op ++ e ++ fixed_text piece.Close
node_text names (node.Binary op a b) = fixed_text piece.Open ++ a ++ fixed_text piece.Space ++ binary_text op ++ fixed_text piece.Space ++ b ++ fixed_text piece.Close
node_text names (node.Cond c a b) = fixed_text piece.Open ++ c ++ fixed_text piece.Question ++ a ++ fixed_text piece.Colon ++ b ++ fixed_text piece.Close
node_text names (node.Concat parts) = fixed_text piece.BraceOpen ++ joined true parts ++ fixed_text piece.BraceClose
node_text names (node.Cast w e) = decimal w ++ fixed_text piece.CastOpen ++ e ++ fixed_text piece.Close
node_text names (node.Sign s e) = sign_text s ++ e ++ fixed_text piece.Close

abbrev pub expr_text : List (List ℕ) → SvExpr → List ℕ
expr_text names = fold-SvExpr (List ℕ) (List ℕ) (node_text names) (λ e. e.node)
