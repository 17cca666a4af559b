-- Names of statements that stand where they may not, from the first byte of their line on.
use Rattle.std.specs.Prelude.{ℕ, ◌+◌, Bool, true, false, not, ◌&&◌, ◌||◌, if◌then◌else◌, List, [], ◌∷◌, length}
use Rattle.scc_svtext.specs.ExprText.{binary_text}
use Rattle.scc_svtext.specs.Pieces.{spelled}
use Rattle.scc_svread_grammar.specs.declared.raw.RawLiteral.{RawLiteral}
use Rattle.scc_svread_grammar.specs.declared.raw.RawSelect.{RawSelect}
use Rattle.scc_svread_grammar.specs.declared.raw.RawSelect.TheVariants.{Whole, Bit, Range}
use Rattle.scc_svread_grammar.specs.declared.raw.RawLeft.{RawLeft}
use Rattle.scc_svread_grammar.specs.declared.raw.RawExpr.{RawExpr, fold-RawExpr}
use Rattle.scc_svread_grammar.specs.declared.raw.RawExpr.TheOpen.{RawExpr-F}
use Rattle.scc_svread_grammar.specs.declared.raw.RawExpr.TheOpen as e
use Rattle.scc_svread_grammar.specs.declared.raw.RawStmt.{RawStmt, fold-RawStmt}
use Rattle.scc_svread_grammar.specs.declared.raw.RawArm.{RawArm, fold-RawArm}
use Rattle.scc_svread_grammar.specs.declared.raw.RawStmt.TheOpen.{RawStmt-F, RawArm-F}
use Rattle.scc_svread_grammar.specs.declared.raw.RawStmt.TheOpen as s
use Rattle.scc_svread_grammar.specs.Lexical.{Bytes}
use Rattle.scc_svread_check.specs.Walking.{Walking, ◌then◌, pass, name_if, deeper}
use Rattle.scc_svread_check.specs.Parts.{literal_bytes, select_bytes, sign_bytes}
use Rattle.scc_svread_check.specs.Lines.{Line}
use Rattle.scc_svread_check.specs.Mentioned.{Names, Adding, is_among, with_name}

-- What is known of names at a place in a block.
pub record Known : Type 0 where
  -- the module's inputs
  pub inputs : Names
  -- what blocks before this one assign
  pub taken : Names
  -- what this block assigns
  pub assigned : Names
  -- what it has given a whole value, at its own level, before this place
  pub whole : Names

-- A name that the block assigns has no value yet (IEEE 1800-2017, 9.2.2.2).
abbrev pub is_early : Known → Bytes → Bool
is_early k name = is_among k.assigned name && not (is_among k.whole name)

-- An input is not assigned, nor what a block before assigns (IEEE 1800-2017, 9.2.2.2).
abbrev pub is_foreign : Known → Bytes → Bool
is_foreign k name = is_among k.inputs name || is_among k.taken name

abbrev pub mention : Bool → Bytes → Walking
mention wrong name = name_if wrong then pass (length (spelled name))

abbrev pub left_mention : Bool → RawLeft → Walking
left_mention wrong l = mention wrong l.name then pass (select_bytes l.select)

-- ---- expressions

abbrev pub parts_names : ℕ → List Walking → Walking
parts_names lead [] w = w
parts_names lead (p ∷ ps) w = parts_names 2 ps (p (pass lead w))

abbrev pub expr_node_names : Known → RawExpr-F Walking → Walking
expr_node_names k (e.Literal l) = pass (literal_bytes l)
expr_node_names k (e.Left l) = left_mention (is_early k l.name) l
expr_node_names k (e.Unary op a) = pass 2 then a then pass 1
expr_node_names k (e.Binary op a b) = pass 1 then a then pass (length (binary_text op) + 2) then b then pass 1
expr_node_names k (e.Cond c a b) = pass 1 then c then pass 3 then a then pass 3 then b then pass 1
expr_node_names k (e.Concat parts) = parts_names 1 parts then pass 1
expr_node_names k (e.Cast width a) = pass (length width + 2) then a then pass 1
expr_node_names k (e.Sign signed a) = pass (sign_bytes signed) then a then pass 1

abbrev pub expr_names : Known → RawExpr → Walking
expr_names k = fold-RawExpr Walking (expr_node_names k)

-- ---- statements

-- A statement's line, which is told whether it stands at its block's own level.
abbrev pub Own : Type 0
Own = Bool → Line

-- an arm's label and its body
pub record Chosen : Type 0 where
  pub label : RawLiteral
  pub body : List Own

-- statements further in
abbrev pub inner : List Own → Line
inner [] n w = w
inner (l ∷ ls) n w = inner ls n (l false n w)

abbrev pub is_whole : RawSelect → Bool
is_whole Whole = true
is_whole (Bit at) = false
is_whole (Range h l) = false

-- A whole left side at the block's own level gives a value and wants none.
abbrev pub is_early_left : Known → Bool → RawLeft → Bool
is_early_left k own l = not (own && is_whole l.select) && is_early k l.name

abbrev pub is_wrong_left : Known → Bool → RawLeft → Bool
is_wrong_left k own l = is_foreign k l.name || is_early_left k own l

abbrev pub assign_names : Known → RawLeft → RawExpr → Own
assign_names k l x own n = pass n then left_mention (is_wrong_left k own l) l then pass 3 then expr_names k x then pass 2

-- a branch behind an `else`, which an empty one has not
abbrev pub other_names : List Own → Line
other_names [] n w = w
other_names (l ∷ ls) n w = inner (l ∷ ls) (deeper n) (pass (n + 15) w)

abbrev pub if_names : Walking → List Own → List Own → Own
if_names c first second own n = pass (n + 4) then c then pass 8 then inner first (deeper n) then other_names second n then pass (n + 4)

abbrev pub arm_names : Chosen → Line
arm_names c n = pass n then pass (literal_bytes c.label + 8) then inner c.body (deeper n) then pass (n + 4)

abbrev pub arms_names : List Chosen → Line
arms_names [] n w = w
arms_names (c ∷ cs) n w = arms_names cs n (arm_names c n w)

abbrev pub case_names : Walking → List Chosen → Own
case_names x arms own n = pass (n + 6) then x then pass 2 then arms_names arms (deeper n) then pass (n + 8)

abbrev pub stmt_node_names : Known → RawStmt-F Own Chosen → Own
stmt_node_names k (s.Assign l x) = assign_names k l x
stmt_node_names k (s.If c first second) = if_names (expr_names k c) first second
stmt_node_names k (s.Case x arms) = case_names (expr_names k x) arms

abbrev pub arm_node_names : RawArm-F Own Chosen → Chosen
arm_node_names a = record { label = a.label; body = a.body }

abbrev pub stmt_names : Known → RawStmt → Own
stmt_names k = fold-RawStmt Own Chosen (stmt_node_names k) arm_node_names

abbrev pub chosen_of : Known → RawArm → Chosen
chosen_of k = fold-RawArm Own Chosen (stmt_node_names k) arm_node_names

-- ---- a block's own level

-- what has a whole value behind a statement
abbrev pub with_whole : RawSelect → Bytes → Names → Names
with_whole select name names = if is_whole select then with_name names name else names

abbrev pub stmt_node_whole : RawStmt-F Adding Adding → Adding
stmt_node_whole (s.Assign l x) = with_whole l.select l.name
stmt_node_whole (s.If c first second) = λ names. names
stmt_node_whole (s.Case x arms) = λ names. names

abbrev pub arm_node_whole : RawArm-F Adding Adding → Adding
arm_node_whole a = λ names. names

abbrev pub whole_after : RawStmt → Adding
whole_after = fold-RawStmt Adding Adding stmt_node_whole arm_node_whole

abbrev pub known : Names → Names → Names → Names → Known
known inputs taken assigned whole = record { inputs = inputs; taken = taken; assigned = assigned; whole = whole }

-- statements of the own level, before which these have a whole value
abbrev pub own_lines : Names → Names → Names → Names → List RawStmt → Line
own_lines inputs taken assigned whole [] n w = w
own_lines inputs taken assigned whole (s ∷ ss) n w = own_lines inputs taken assigned (whole_after s whole) ss n (stmt_names (known inputs taken assigned whole) s true n w)
