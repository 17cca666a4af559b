-- Reading expressions, statements and modules as functions.
use Rattle.std.specs.Prelude.{ℕ, zero, suc, ◌+◌, nat_eq, Bool, true, false, not, ◌||◌, ◌&&◌, if◌then◌else◌, List, [], ◌∷◌, ◌++◌, codes, bytes_eq, Option, Some, None, is_some}
use Rattle.scc_reading.specs.Reading.{Parser, ◌>>=◌, ◌>>◌, pure, token, choose, closed, at_end, repeat, repeat_in}
use Rattle.scc_svtree.specs.declared.expr.SvBinary.{SvBinary}
use Rattle.scc_svtree.specs.declared.expr.SvBinary.TheVariants as binary
use Rattle.scc_svtree.specs.declared.module.Dir.{Dir}
use Rattle.scc_svtree.specs.declared.module.Dir.TheVariants.{Input, Output, Inner}
use Rattle.scc_svtree.specs.Sound.{is_letter}
use Rattle.scc_svtext.specs.Pieces.{blanks}
use Rattle.scc_svread_grammar.specs.declared.raw.RawLeft.{RawLeft}
use Rattle.scc_svread_grammar.specs.declared.raw.RawExpr.{RawExpr}
use Rattle.scc_svread_grammar.specs.declared.raw.RawExpr.TheVariants as e
use Rattle.scc_svread_grammar.specs.declared.raw.RawStmt.{RawStmt}
use Rattle.scc_svread_grammar.specs.declared.raw.RawStmt.TheVariants as s
use Rattle.scc_svread_grammar.specs.declared.raw.RawArm.{RawArm}
use Rattle.scc_svread_grammar.specs.declared.raw.RawSet.{RawSet}
use Rattle.scc_svread_grammar.specs.declared.raw.RawLoad.{RawLoad}
use Rattle.scc_svread_grammar.specs.declared.raw.RawReset.{RawReset}
use Rattle.scc_svread_grammar.specs.declared.raw.RawBlock.{RawBlock}
use Rattle.scc_svread_grammar.specs.declared.raw.RawBlock.TheVariants.{Comb, Edge}
use Rattle.scc_svread_grammar.specs.declared.raw.RawVar.{RawVar}
use Rattle.scc_svread_grammar.specs.declared.raw.RawItem.{RawItem}
use Rattle.scc_svread_grammar.specs.declared.raw.RawItem.TheVariants.{Var, Block}
use Rattle.scc_svread_grammar.specs.declared.raw.RawModule.{RawModule}
use Rattle.scc_svread_grammar.specs.Lexical.{Bytes, is_digit}
use Rattle.scc_svread_grammar.specs.Grammar.{unary_op, is_division, arm}
use Rattle.scc_svread_grammar.specs.Leaves.{text, is_back, decimal, digits_behind, literal, name, named, plain_word, left, left_behind, range}

-- a list, behind elements that stand before it
unfoldable pub onto : {A : Type 0} → List A → Parser ℕ (List A) → Parser ℕ (List A)
onto front p = p >>= λ more. pure (front ++ more)

-- ---- the next byte

abbrev pub is_h : ℕ → Bool
is_h b = nat_eq b 104

abbrev pub is_s : ℕ → Bool
is_s b = nat_eq b 115

abbrev pub is_p : ℕ → Bool
is_p b = nat_eq b 112

abbrev pub is_i : ℕ → Bool
is_i b = nat_eq b 105

abbrev pub is_c : ℕ → Bool
is_c b = nat_eq b 99

abbrev pub is_l : ℕ → Bool
is_l b = nat_eq b 108

abbrev pub is_blank : ℕ → Bool
is_blank b = nat_eq b 32

abbrev pub is_line_end : ℕ → Bool
is_line_end b = nat_eq b 10

abbrev pub is_dollar : ℕ → Bool
is_dollar b = nat_eq b 36

abbrev pub is_paren : ℕ → Bool
is_paren b = nat_eq b 40

abbrev pub is_close : ℕ → Bool
is_close b = nat_eq b 41

abbrev pub is_brace : ℕ → Bool
is_brace b = nat_eq b 123

abbrev pub is_comma : ℕ → Bool
is_comma b = nat_eq b 44

abbrev pub is_question : ℕ → Bool
is_question b = nat_eq b 63

abbrev pub is_equal : ℕ → Bool
is_equal b = nat_eq b 61

abbrev pub is_and : ℕ → Bool
is_and b = nat_eq b 38

abbrev pub is_or : ℕ → Bool
is_or b = nat_eq b 124

abbrev pub is_less : ℕ → Bool
is_less b = nat_eq b 60

abbrev pub is_greater : ℕ → Bool
is_greater b = nat_eq b 62

abbrev pub is_unary : ℕ → Bool
is_unary b = is_some (unary_op b)

abbrev pub begins_name : ℕ → Bool
begins_name b = is_letter b || is_back b

abbrev pub begins_expr : ℕ → Bool
begins_expr b = is_digit b || is_paren b || is_brace b || is_dollar b || begins_name b

abbrev pub begins_divisor : ℕ → Bool
begins_divisor b = is_digit b || is_dollar b

-- ---- operators

-- the operators of one byte that no other begins with, and the first bytes of the others
pub data OperatorStart : Type 0 where
  alone : SvBinary → OperatorStart
  and_start or_start less_start greater_start equal_start not_start : OperatorStart

abbrev pub operator_start : ℕ → Option OperatorStart
operator_start b = if nat_eq b 43 then Some (alone binary.Add) else if nat_eq b 45 then Some (alone binary.Sub) else if nat_eq b 42 then Some (alone binary.Mul)
    else if nat_eq b 47 then Some (alone binary.Div) else if nat_eq b 37 then Some (alone binary.Rem) else if nat_eq b 94 then Some (alone binary.Xor)
    else if nat_eq b 38 then Some and_start else if nat_eq b 124 then Some or_start else if nat_eq b 60 then Some less_start else if nat_eq b 62 then Some greater_start
    else if nat_eq b 61 then Some equal_start else if nat_eq b 33 then Some not_start else None

-- one more byte, or not
abbrev pub longer : (ℕ → Bool) → Bytes → SvBinary → Parser ℕ SvBinary → Parser ℕ SvBinary
longer test w long short = choose test (text w >> pure long) short

unfoldable pub greater_behind : Parser ℕ SvBinary
greater_behind = longer is_equal (codes "=") binary.Ge (choose is_greater (text (codes ">") >> longer is_greater (codes ">") binary.Sar (pure binary.Shr)) (pure binary.Gt))

-- an operator whose second byte is `=`
abbrev pub equal_then : SvBinary → Parser ℕ SvBinary
equal_then o = text (codes "=") >> pure o

unfoldable pub operator_behind : OperatorStart → Parser ℕ SvBinary
operator_behind (alone o) = pure o
operator_behind and_start = longer is_and (codes "&") binary.LogAnd (pure binary.And)
operator_behind or_start = longer is_or (codes "|") binary.LogOr (pure binary.Or)
operator_behind less_start = longer is_equal (codes "=") binary.Le (longer is_less (codes "<") binary.Shl (pure binary.Lt))
operator_behind greater_start = greater_behind
operator_behind equal_start = equal_then binary.Eq
operator_behind not_start = equal_then binary.Ne

unfoldable pub operator : Parser ℕ SvBinary
operator = token operator_start >>= operator_behind

-- ---- expressions

-- what opens a level
pub record Nested : Type 0 where
  pub expr : Parser ℕ RawExpr
  pub divisor : Parser ℕ RawExpr
  -- the literal in `$signed`
  pub number : Parser ℕ RawExpr
  -- a statement behind so many blanks
  pub stmt : ℕ → Parser ℕ RawStmt

unfoldable pub number_at : Parser ℕ RawExpr
number_at = literal >>= λ l. pure (e.Literal l)

unfoldable pub left_expr : Parser ℕ RawExpr
left_expr = left >>= λ l. pure (e.Left l)

module _ (i : Nested) where
  -- `$signed` of a literal
  unfoldable pub signed_number : Parser ℕ RawExpr
  signed_number = do
    text (codes "$signed(")
    l ← i.number
    text (codes ")")
    pure (e.Sign true l)

  unfoldable pub divisor_at : Parser ℕ RawExpr
  divisor_at = choose is_digit number_at signed_number

  -- an expression and the bracket that closes it
  unfoldable pub closed_expr : Parser ℕ RawExpr
  closed_expr = do
    of ← i.expr
    text (codes ")")
    pure of

  -- a literal or a cast, from behind its width
  unfoldable pub behind_width : Bytes → Parser ℕ RawExpr
  behind_width width = text (codes "'") >> choose is_h (text (codes "h") >> (digits_behind width >>= λ l. pure (e.Literal l)))
      (text (codes "(") >> (closed_expr >>= λ of. pure (e.Cast width of)))

  unfoldable pub sized : Parser ℕ RawExpr
  sized = decimal >>= behind_width

  unfoldable pub sign : Parser ℕ RawExpr
  sign = text (codes "$") >> choose is_s (text (codes "signed(") >> (closed_expr >>= λ of. pure (e.Sign true of)))
      (text (codes "unsigned(") >> (closed_expr >>= λ of. pure (e.Sign false of)))

  abbrev pub further : Parser ℕ RawExpr
  further = text (codes ", ") >> i.expr

  unfoldable pub parts : Parser ℕ (List RawExpr)
  parts = repeat is_comma further

  unfoldable pub parts_behind : List RawExpr → Parser ℕ (List RawExpr)
  parts_behind front = further >>= λ second. onto (front ++ second ∷ []) parts

  unfoldable pub concat : Parser ℕ RawExpr
  concat = do
    text (codes "{")
    first ← i.expr
    all ← parts_behind (first ∷ [])
    text (codes "}")
    pure (e.Concat all)

  unfoldable pub cond_last : RawExpr → RawExpr → Parser ℕ RawExpr
  cond_last test first = do
    text (codes " : ")
    second ← closed_expr
    pure (e.Cond test first second)

  unfoldable pub cond_behind : RawExpr → Parser ℕ RawExpr
  cond_behind test = do
    text (codes "? ")
    first ← i.expr
    cond_last test first

  -- the right operand and the bracket behind it
  unfoldable pub closed_divisor : Parser ℕ RawExpr
  closed_divisor = do
    right ← i.divisor
    text (codes ")")
    pure right

  unfoldable pub right_of : SvBinary → Parser ℕ RawExpr
  right_of op = if is_division op then closed_divisor else closed_expr

  unfoldable pub binary_behind : RawExpr → Parser ℕ RawExpr
  binary_behind left = do
    op ← operator
    text (codes " ")
    right ← right_of op
    pure (e.Binary op left right)

  unfoldable pub behind_first : RawExpr → Parser ℕ RawExpr
  behind_first left = choose is_question (cond_behind left) (binary_behind left)

  unfoldable pub operated : Parser ℕ RawExpr
  operated = do
    left ← i.expr
    text (codes " ")
    behind_first left

  unfoldable pub unary_at : Parser ℕ RawExpr
  unary_at = token unary_op >>= λ op. closed_expr >>= λ of. pure (e.Unary op of)

  unfoldable pub bracketed : Parser ℕ RawExpr
  bracketed = text (codes "(") >> choose is_unary unary_at operated

  unfoldable pub expr : Parser ℕ RawExpr
  expr = choose is_digit sized (choose is_paren bracketed (choose is_brace concat (choose is_dollar sign left_expr)))

  -- ---- statements

  -- a statement and the blanks before the next line
  unfoldable pub line : ℕ → Parser ℕ RawStmt
  line n = text (codes "  ") >> (i.stmt (n + 2) >>= λ x. text (blanks n) >> pure x)

  unfoldable pub stmts : ℕ → Parser ℕ (List RawStmt)
  stmts n = repeat is_blank (line n)

  -- an assignment from behind its left side
  unfoldable pub value_behind : RawLeft → Parser ℕ RawStmt
  value_behind l = do
    text (codes " = ")
    value ← i.expr
    text (codes ";\n")
    pure (s.Assign l value)

  -- the statements behind a first one, and their end
  unfoldable pub stmts_behind : ℕ → RawStmt → Parser ℕ (List RawStmt)
  stmts_behind n first = onto (first ∷ []) (stmts n) >>= λ all. text (codes "end\n") >> pure all

  unfoldable pub other : ℕ → Parser ℕ (List RawStmt)
  other n = do
    text (codes " else begin\n")
    text (blanks n)
    first ← line n
    stmts_behind n first

  -- what follows the `end` of a first branch
  unfoldable pub behind_end : ℕ → Parser ℕ (List RawStmt)
  behind_end n = choose is_line_end (text (codes "\n") >> pure []) (other n)

  -- an `if` from behind its test
  unfoldable pub branches : ℕ → RawExpr → Parser ℕ RawStmt
  branches n test = do
    text (codes ") begin\n")
    text (blanks n)
    body ← stmts n
    text (codes "end")
    more ← behind_end n
    pure (s.If test body more)

  -- the body of an arm, from behind its label
  unfoldable pub arm_body : ℕ → Parser ℕ (List RawStmt)
  arm_body n = do
    text (codes ": begin\n")
    text (blanks (n + 2))
    body ← stmts (n + 2)
    text (codes "end\n")
    text (blanks n)
    pure body

  abbrev pub arm_line : ℕ → Parser ℕ RawArm
  arm_line n = do
    text (codes "  ")
    label ← literal
    body ← arm_body n
    pure (arm label body)

  unfoldable pub arms : ℕ → Parser ℕ (List RawArm)
  arms n = repeat is_blank (arm_line n)

  unfoldable pub case_behind : ℕ → RawExpr → Parser ℕ RawStmt
  case_behind n of = do
    text (codes ")\n")
    text (blanks n)
    found ← arms n
    text (codes "endcase\n")
    pure (s.Case of found)

  -- the test of an `if`, or what a `case` selects
  unfoldable pub test_at : Parser ℕ RawExpr
  test_at = text (codes " (") >> i.expr

  -- an assignment from behind its first word
  unfoldable pub assign_behind : Bytes → Parser ℕ RawStmt
  assign_behind w = named w >>= λ w. left_behind w >>= value_behind

  -- a statement from behind its first word
  unfoldable pub behind_word : ℕ → Bytes → Parser ℕ RawStmt
  behind_word n w = if bytes_eq w (codes "if") then (test_at >>= branches n) else if bytes_eq w (codes "case") then (test_at >>= case_behind n) else assign_behind w

  unfoldable pub stmt : ℕ → Parser ℕ RawStmt
  stmt n = choose is_back (left >>= value_behind) (plain_word >>= behind_word n)

  -- ---- blocks

  -- a line of an edge, from behind its target
  unfoldable pub set_behind : ℕ → Bytes → Parser ℕ RawSet
  set_behind n target = do
    text (codes " <= ")
    value ← i.expr
    text (codes ";\n")
    text (blanks n)
    pure (record { target = target; value = value })

  abbrev pub set_line : ℕ → Parser ℕ RawSet
  set_line n = do
    text (codes "  ")
    target ← name
    set_behind n target

  unfoldable pub sets : ℕ → Parser ℕ (List RawSet)
  sets n = repeat is_blank (set_line n)

-- a line of a reset, from behind its target
unfoldable pub load_behind : Bytes → Parser ℕ RawLoad
load_behind target = do
  text (codes " <= ")
  value ← literal
  text (codes ";\n")
  text (blanks 4)
  pure (record { target = target; value = value })

abbrev pub load_line : Parser ℕ RawLoad
load_line = do
  text (codes "  ")
  target ← name
  load_behind target

unfoldable pub loads : Parser ℕ (List RawLoad)
loads = repeat is_blank load_line

unfoldable pub edge_at : Parser ℕ Bool
edge_at = choose is_p (text (codes "posedge ") >> pure true) (text (codes "negedge ") >> pure false)

-- the condition under which a reset stands, and whether it is negated
unfoldable pub level : Parser ℕ (Bool × Bytes)
level = choose is_paren (do
  text (codes "(!")
  w ← name
  text (codes ")")
  pure (true, w)) (name >>= λ w. pure (false, w))

unfoldable pub reset_values : Bool → Bytes → Bool × Bytes → Parser ℕ RawReset
reset_values up signal l = do
  text (codes ") begin\n    ")
  values ← loads
  pure (record { rising = up; signal = signal; negated = l.0; level = l.1; values = values })

unfoldable pub reset_level : Bool → Bytes → Parser ℕ RawReset
reset_level up signal = do
  text (codes ") begin\n    if (")
  l ← level
  reset_values up signal l

-- an asynchronous reset and its branch, from behind the clock
unfoldable pub reset_at : Parser ℕ RawReset
reset_at = do
  text (codes " or ")
  up ← edge_at
  signal ← name
  reset_level up signal

module _ (i : Nested) where
  unfoldable pub comb : Parser ℕ RawBlock
  comb = do
    text (codes "comb begin\n  ")
    body ← stmts i 2
    text (codes "end\n")
    pure (Comb body)

  -- an edge without reset, from behind its clock
  unfoldable pub edge_behind : Bool → Bytes → Parser ℕ RawBlock
  edge_behind rising clock = do
    text (codes ") begin\n  ")
    found ← sets i 2
    text (codes "end\n")
    pure (Edge rising clock None found)

  -- the branch beside a reset's
  unfoldable pub set_branch : Parser ℕ (List RawSet)
  set_branch = do
    text (codes "end else begin\n    ")
    found ← sets i 4
    text (codes "end\n  end\n")
    pure found

  unfoldable pub reset_behind : Bool → Bytes → Parser ℕ RawBlock
  reset_behind rising clock = do
    reset ← reset_at
    found ← set_branch
    pure (Edge rising clock (Some reset) found)

  unfoldable pub edge_block : Parser ℕ RawBlock
  edge_block = do
    text (codes "ff @(")
    rising ← edge_at
    clock ← name
    choose is_close (edge_behind rising clock) (reset_behind rising clock)

  -- a block from behind its blanks
  unfoldable pub block : Parser ℕ RawBlock
  block = text (codes "always_") >> choose is_c comb edge_block

-- ---- the module

unfoldable pub var : Dir → Parser ℕ RawVar
var dir = range >>= λ high. name >>= λ w. pure (record { name = w; dir = dir; high = high })

unfoldable pub input_at : Parser ℕ RawVar
input_at = text (codes "input logic ") >> var Input

unfoldable pub output_at : Parser ℕ RawVar
output_at = text (codes "output logic ") >> var Output

unfoldable pub port : Parser ℕ RawVar
port = text (codes "  ") >> choose is_i input_at output_at

abbrev pub further_port : Parser ℕ RawVar
further_port = text (codes ",\n") >> port

unfoldable pub more_ports : Parser ℕ (List RawVar)
more_ports = repeat is_comma further_port

-- the ports behind a first one, and their end
unfoldable pub ports_after : RawVar → Parser ℕ (List RawVar)
ports_after first = onto (first ∷ []) more_ports >>= λ all. text (codes "\n") >> pure all

unfoldable pub ports : Parser ℕ (List RawVar)
ports = choose is_blank (port >>= ports_after) (pure [])

unfoldable pub declaration : Parser ℕ (RawItem × Bool)
declaration = do
  text (codes "logic ")
  v ← var Inner
  text (codes ";\n")
  pure (Var v, false)

module _ (i : Nested) where
  -- a declaration, where no block stands before it, or a block
  unfoldable pub item : Bool → Parser ℕ (RawItem × Bool)
  item begun = text (codes "  ") >> choose (λ b. not begun && is_l b) declaration (block i >>= λ b. pure (Block b, true))

  unfoldable pub items : Parser ℕ (List RawItem × Bool)
  items = repeat_in (λ _ b. is_blank b) item false

  unfoldable pub items_behind : Bytes → List RawVar → Parser ℕ RawModule
  items_behind w vars = do
    text (codes ");\n")
    found ← items
    text (codes "endmodule\n")
    pure (record { name = w; ports = vars; items = found.0 })

  unfoldable pub ports_behind : Bytes → Parser ℕ RawModule
  ports_behind w = do
    text (codes " (\n")
    vars ← ports
    items_behind w vars

  unfoldable pub module_at : Parser ℕ RawModule
  module_at = do
    text (codes "module ")
    w ← name
    ports_behind w

-- what opens a level, where `n` are left
unfoldable pub inner : ℕ → Nested
inner zero = record { expr = closed begins_expr; divisor = closed begins_divisor; number = closed is_digit; stmt = λ k. closed begins_name }
inner (suc n) = record { expr = expr (inner n); divisor = divisor_at (inner n); number = number_at; stmt = λ k. stmt (inner n) k }

-- a module and nothing behind it, in which statements and expressions stand at most `n` levels deep
unfoldable pub reading : ℕ → Parser ℕ RawModule
reading n = module_at (inner n) >>= at_end
