-- The text of an emitted module, one case per production. `R ts rest tree` says that the bytes `ts` are the tree, and then
-- `rest`. Sizes, names and drivers may be wrong in it.
use Rattle.std.specs.Prelude.{◌≡◌, ℕ, ◌+◌, nat_eq, Bool, true, false, if◌then◌else◌, List, [], ◌∷◌, ◌++◌, codes, Option, Some, None}
use Rattle.scc_svtree.specs.declared.expr.SvUnary.{SvUnary}
use Rattle.scc_svtree.specs.declared.expr.SvUnary.TheVariants as op1
use Rattle.scc_svtree.specs.declared.expr.SvBinary.{SvBinary}
use Rattle.scc_svtree.specs.declared.expr.SvBinary.TheVariants as op2
use Rattle.scc_svtree.specs.declared.module.Dir.{Dir}
use Rattle.scc_svtree.specs.declared.module.Dir.TheVariants.{Input, Output, Inner}
use Rattle.scc_svtext.specs.ExprText.{binary_text}
use Rattle.scc_svtext.specs.Pieces.{blanks}
use Rattle.scc_svread_grammar.specs.declared.raw.RawLiteral.{RawLiteral}
use Rattle.scc_svread_grammar.specs.declared.raw.RawLeft.{RawLeft}
use Rattle.scc_svread_grammar.specs.declared.raw.RawExpr.{RawExpr}
use Rattle.scc_svread_grammar.specs.declared.raw.RawExpr.TheVariants as e
use Rattle.scc_svread_grammar.specs.declared.raw.RawStmt.{RawStmt}
use Rattle.scc_svread_grammar.specs.declared.raw.RawStmt.TheVariants as s
use Rattle.scc_svread_grammar.specs.declared.raw.RawArm.{RawArm, roll-RawArm}
use Rattle.scc_svread_grammar.specs.declared.raw.RawSet.{RawSet}
use Rattle.scc_svread_grammar.specs.declared.raw.RawLoad.{RawLoad}
use Rattle.scc_svread_grammar.specs.declared.raw.RawBlock.{RawBlock}
use Rattle.scc_svread_grammar.specs.declared.raw.RawBlock.TheVariants.{Comb, Edge}
use Rattle.scc_svread_grammar.specs.declared.raw.RawVar.{RawVar}
use Rattle.scc_svread_grammar.specs.declared.raw.RawItem.{RawItem}
use Rattle.scc_svread_grammar.specs.declared.raw.RawItem.TheVariants.{Var, Block}
use Rattle.scc_svread_grammar.specs.declared.raw.RawModule.{RawModule}
use Rattle.scc_svread_grammar.specs.Lexical.{Bytes, ReadsDecimal, ReadsLiteral, ReadsName, ReadsLeft, ReadsRange}

-- ---- operators

-- the operator that a byte behind an opening bracket stands for
abbrev pub unary_op : ℕ → Option SvUnary
unary_op b = if nat_eq b 126 then Some op1.Not else if nat_eq b 33 then Some op1.LogNot else if nat_eq b 45 then Some op1.Neg
    else if nat_eq b 38 then Some op1.And else if nat_eq b 124 then Some op1.Or else if nat_eq b 94 then Some op1.Xor else None

-- a literal stands behind `/` and `%`, or `$signed` of one
abbrev pub is_division : SvBinary → Bool
is_division op2.Div = true
is_division op2.Rem = true
is_division _ = false

abbrev pub sign_word : Bool → Bytes
sign_word true = codes "$signed("
sign_word false = codes "$unsigned("

abbrev pub edge_word : Bool → Bytes
edge_word true = codes "posedge "
edge_word false = codes "negedge "

-- ---- expressions

pub data ReadsDivisor : Bytes → Bytes → RawExpr → Type 0 where
  plain : {ts r : Bytes} (l : RawLiteral) → ReadsLiteral ts r l → ReadsDivisor ts r (e.Literal l)
  signed : {a r : Bytes} (l : RawLiteral) → ReadsLiteral a (codes ")" ++ r) l → ReadsDivisor (codes "$signed(" ++ a) r (e.Sign true (e.Literal l))

mutual
  pub data ReadsExpr : Bytes → Bytes → RawExpr → Type 0 where
    literal : {ts r : Bytes} (l : RawLiteral) → ReadsLiteral ts r l → ReadsExpr ts r (e.Literal l)
    left : {ts r : Bytes} (l : RawLeft) → ReadsLeft ts r l → ReadsExpr ts r (e.Left l)
    unary : {a r : Bytes} {b : ℕ} {op : SvUnary} {of : RawExpr} → unary_op b ≡ Some op → ReadsExpr a (codes ")" ++ r) of → ReadsExpr (codes "(" ++ (b ∷ a)) r (e.Unary op of)
    binary : {a c r : Bytes} (op : SvBinary) {left right : RawExpr}
        → ReadsExpr a (codes " " ++ (binary_text op ++ (codes " " ++ c))) left → is_division op ≡ false → ReadsExpr c (codes ")" ++ r) right → ReadsExpr (codes "(" ++ a) r (e.Binary op left right)
    division : {a c r : Bytes} (op : SvBinary) {left right : RawExpr}
        → ReadsExpr a (codes " " ++ (binary_text op ++ (codes " " ++ c))) left → is_division op ≡ true → ReadsDivisor c (codes ")" ++ r) right → ReadsExpr (codes "(" ++ a) r (e.Binary op left right)
    cond : {a b c r : Bytes} {test first second : RawExpr}
        → ReadsExpr a (codes " ? " ++ b) test → ReadsExpr b (codes " : " ++ c) first → ReadsExpr c (codes ")" ++ r) second → ReadsExpr (codes "(" ++ a) r (e.Cond test first second)
    concat : {a b m r : Bytes} {first second : RawExpr} {more : List RawExpr}
        → ReadsExpr a (codes ", " ++ b) first → ReadsExpr b m second → ReadsParts m (codes "}" ++ r) more → ReadsExpr (codes "{" ++ a) r (e.Concat (first ∷ second ∷ more))
    cast : {ts a r : Bytes} (width : Bytes) {of : RawExpr} → ReadsDecimal ts (codes "'(" ++ a) width → ReadsExpr a (codes ")" ++ r) of → ReadsExpr ts r (e.Cast width of)
    sign : {a r : Bytes} (signed : Bool) {of : RawExpr} → ReadsExpr a (codes ")" ++ r) of → ReadsExpr (sign_word signed ++ a) r (e.Sign signed of)

  -- further parts of a concatenation
  pub data ReadsParts : Bytes → Bytes → List RawExpr → Type 0 where
    no_parts : {r : Bytes} → ReadsParts r r []
    part : {a m r : Bytes} {of : RawExpr} {more : List RawExpr} → ReadsExpr a m of → ReadsParts m r more → ReadsParts (codes ", " ++ a) r (of ∷ more)

-- ---- statements

abbrev pub arm : RawLiteral → List RawStmt → RawArm
arm label body = roll-RawArm (record { label = label; body = body })

mutual
  -- a statement with so many blanks before it, from behind them
  pub data ReadsStmt : ℕ → Bytes → Bytes → RawStmt → Type 0 where
    assign : {n : ℕ} {ts a r : Bytes} (left : RawLeft) {value : RawExpr} → ReadsLeft ts (codes " = " ++ a) left → ReadsExpr a (codes ";\n" ++ r) value → ReadsStmt n ts r (s.Assign left value)
    if_only : {n : ℕ} {a b r : Bytes} {test : RawExpr} {body : List RawStmt}
        → ReadsExpr a (codes ") begin\n" ++ (blanks n ++ b)) test → ReadsStmts n b (codes "end\n" ++ r) body → ReadsStmt n (codes "if (" ++ a) r (s.If test body [])
    if_else : {n : ℕ} {a b c r : Bytes} {test : RawExpr} {body : List RawStmt} {first : RawStmt} {more : List RawStmt}
        → ReadsExpr a (codes ") begin\n" ++ (blanks n ++ b)) test → ReadsStmts n b (codes "end else begin\n" ++ (blanks n ++ c)) body
        → ReadsStmts n c (codes "end\n" ++ r) (first ∷ more) → ReadsStmt n (codes "if (" ++ a) r (s.If test body (first ∷ more))
    case : {n : ℕ} {a b r : Bytes} {of : RawExpr} {arms : List RawArm}
        → ReadsExpr a (codes ")\n" ++ (blanks n ++ b)) of → ReadsArms n b (codes "endcase\n" ++ r) arms → ReadsStmt n (codes "case (" ++ a) r (s.Case of arms)

  -- Statements two blanks further in than the line that ends them, from behind the first blanks of a line, up to those of
  -- that last line.
  pub data ReadsStmts : ℕ → Bytes → Bytes → List RawStmt → Type 0 where
    no_stmts : {n : ℕ} {r : Bytes} → ReadsStmts n r r []
    stmt : {n : ℕ} {a b r : Bytes} {first : RawStmt} {more : List RawStmt} → ReadsStmt (n + 2) a (blanks n ++ b) first → ReadsStmts n b r more → ReadsStmts n (codes "  " ++ a) r (first ∷ more)

  -- the arms of a `case`, likewise
  pub data ReadsArms : ℕ → Bytes → Bytes → List RawArm → Type 0 where
    no_arms : {n : ℕ} {r : Bytes} → ReadsArms n r r []
    one_arm : {n : ℕ} {a b c r : Bytes} (label : RawLiteral) {body : List RawStmt} {more : List RawArm}
        → ReadsLiteral a (codes ": begin\n" ++ (blanks (n + 2) ++ b)) label → ReadsStmts (n + 2) b (codes "end\n" ++ (blanks n ++ c)) body → ReadsArms n c r more
        → ReadsArms n (codes "  " ++ a) r (arm label body ∷ more)

-- ---- blocks

-- the lines of an edge, two blanks further in than the line that ends them
pub data ReadsSets (n : ℕ) : Bytes → Bytes → List RawSet → Type 0 where
  no_sets : {r : Bytes} → ReadsSets n r r []
  set : {a b c r target : Bytes} {value : RawExpr} {more : List RawSet}
      → ReadsName a (codes " <= " ++ b) target → ReadsExpr b (codes ";\n" ++ (blanks n ++ c)) value → ReadsSets n c r more
      → ReadsSets n (codes "  " ++ a) r (record { target = target; value = value } ∷ more)

pub data ReadsLoads : Bytes → Bytes → List RawLoad → Type 0 where
  no_loads : {r : Bytes} → ReadsLoads r r []
  load : {a b c r target : Bytes} {value : RawLiteral} {more : List RawLoad}
      → ReadsName a (codes " <= " ++ b) target → ReadsLiteral b (codes ";\n" ++ (blanks 4 ++ c)) value → ReadsLoads c r more
      → ReadsLoads (codes "  " ++ a) r (record { target = target; value = value } ∷ more)

-- the condition under which a reset stands
abbrev pub ReadsLevel : Bool → Bytes → Bytes → Bytes → Type 0
ReadsLevel false ts r name = ReadsName ts r name
ReadsLevel true ts r name = (a : Bytes) × (ts ≡ codes "(!" ++ a) × ReadsName a (codes ")" ++ r) name

pub data ReadsBlock : Bytes → Bytes → RawBlock → Type 0 where
  comb : {a r : Bytes} {body : List RawStmt} → ReadsStmts 2 a (codes "end\n" ++ r) body → ReadsBlock (codes "always_comb begin\n  " ++ a) r (Comb body)
  edge : {a b r clock : Bytes} {rising : Bool} {sets : List RawSet}
      → ReadsName a (codes ") begin\n  " ++ b) clock → ReadsSets 2 b (codes "end\n" ++ r) sets
      → ReadsBlock (codes "always_ff @(" ++ (edge_word rising ++ a)) r (Edge rising clock None sets)
  edge_or_reset : {a b d f r clock signal level : Bytes} (c : Bytes) {rising up negated : Bool} {values : List RawLoad} {sets : List RawSet}
      → ReadsName a (codes " or " ++ (edge_word up ++ b)) clock → ReadsName b (codes ") begin\n    if (" ++ c) signal → ReadsLevel negated c (codes ") begin\n    " ++ d) level
      → ReadsLoads d (codes "end else begin\n    " ++ f) values → ReadsSets 4 f (codes "end\n  end\n" ++ r) sets
      → ReadsBlock (codes "always_ff @(" ++ (edge_word rising ++ a)) r
      (Edge rising clock (Some (record { rising = up; signal = signal; negated = negated; level = level; values = values })) sets)

-- ---- the module

-- a range and a name
abbrev pub ReadsVar : Dir → Bytes → Bytes → RawVar → Type 0
ReadsVar dir ts r v = (mid : Bytes) × ReadsRange ts mid v.high × ReadsName mid r v.name × (v.dir ≡ dir)

abbrev pub dir_word : Bool → Bytes
dir_word true = codes "input logic "
dir_word false = codes "output logic "

abbrev pub dir_of : Bool → Dir
dir_of true = Input
dir_of false = Output

pub data ReadsPort : Bytes → Bytes → RawVar → Type 0 where
  port : (input : Bool) (a : Bytes) {r : Bytes} {v : RawVar} → ReadsVar (dir_of input) a r v → ReadsPort (codes "  " ++ (dir_word input ++ a)) r v

pub data ReadsMorePorts : Bytes → Bytes → List RawVar → Type 0 where
  no_more : {r : Bytes} → ReadsMorePorts r r []
  more : {a m r : Bytes} {v : RawVar} {vs : List RawVar} → ReadsPort a m v → ReadsMorePorts m r vs → ReadsMorePorts (codes ",\n" ++ a) r (v ∷ vs)

pub data ReadsPorts : Bytes → Bytes → List RawVar → Type 0 where
  no_ports : {r : Bytes} → ReadsPorts r r []
  ports : {a m r : Bytes} {v : RawVar} {vs : List RawVar} → ReadsPort a m v → ReadsMorePorts m (codes "\n" ++ r) vs → ReadsPorts a r (v ∷ vs)

-- Declarations, and then blocks. The flag: no declaration comes any more.
pub data ReadsItems : Bool → Bytes → Bytes → List RawItem → Type 0 where
  no_items : {begun : Bool} {r : Bytes} → ReadsItems begun r r []
  var : {a m r : Bytes} {v : RawVar} {more : List RawItem} → ReadsVar Inner a (codes ";\n" ++ m) v → ReadsItems false m r more → ReadsItems false (codes "  logic " ++ a) r (Var v ∷ more)
  block : {begun : Bool} {a m r : Bytes} {b : RawBlock} {more : List RawItem} → ReadsBlock a m b → ReadsItems true m r more → ReadsItems begun (codes "  " ++ a) r (Block b ∷ more)

-- a module, and something behind it
pub data ReadsModule : Bytes → Bytes → RawModule → Type 0 where
  whole : {a b c r name : Bytes} {vars : List RawVar} {items : List RawItem}
      → ReadsName a (codes " (\n" ++ b) name → ReadsPorts b (codes ");\n" ++ c) vars → ReadsItems false c (codes "endmodule\n" ++ r) items
      → ReadsModule (codes "module " ++ a) r (record { name = name; ports = vars; items = items })

-- The bytes are the text of this module.
abbrev pub Reads : Bytes → RawModule → Type 0
Reads ts m = ReadsModule ts [] m
