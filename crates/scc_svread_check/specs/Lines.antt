-- Wrong sizes and undeclared names of statements as they are written, from the first byte of their line on.
use Rattle.std.specs.Prelude.{ℕ, ◌+◌, nat_eq, Bool, false, not, ◌||◌, if◌then◌else◌, List, [], ◌∷◌, ◌++◌, codes, bytes_eq, Option, Some, None}
use Rattle.std.specs.List.{list_any}
use Rattle.scc_svread_grammar.specs.declared.raw.RawLiteral.{RawLiteral}
use Rattle.scc_svread_grammar.specs.declared.raw.RawStmt.{RawStmt, fold-RawStmt}
use Rattle.scc_svread_grammar.specs.declared.raw.RawArm.{RawArm, fold-RawArm}
use Rattle.scc_svread_grammar.specs.declared.raw.RawStmt.TheOpen.{RawStmt-F, RawArm-F}
use Rattle.scc_svread_grammar.specs.declared.raw.RawStmt.TheOpen as s
use Rattle.scc_svread_grammar.specs.Lexical.{Bytes}
use Rattle.scc_svread_check.specs.Scope.{Scope, number_in, is_wrong_literal}
use Rattle.scc_svread_check.specs.Walking.{Walking, ◌then◌, pass, size_if, deeper}
use Rattle.scc_svread_check.specs.Parts.{Part, cut, literal_bytes, left_walk, part_of}

-- a walk over lines with so many blanks before them
abbrev pub Line : Type 0
Line = ℕ → Walking

-- an arm's label and its body
pub record Choice : Type 0 where
  pub label : RawLiteral
  pub body : List Line

abbrev pub lines : List Line → Line
lines [] n w = w
lines (l ∷ ls) n w = lines ls n (l n w)

-- ---- assignments and conditionals

abbrev pub assign_line : Walking → Part → Line
assign_line l e n = pass n then l then pass 3 then e.walk then pass 2

-- a branch behind an `else`, which an empty one has not
abbrev pub other_line : List Line → Line
other_line [] n w = w
other_line (l ∷ ls) n w = lines (l ∷ ls) (deeper n) (pass (n + 15) w)

abbrev pub if_line : Part → List Line → List Line → Line
if_line c first second n = pass (n + 4) then c.walk then pass 8 then lines first (deeper n) then other_line second n then pass (n + 4)

-- ---- choices

abbrev pub label_text : RawLiteral → Bytes
label_text l = l.width ++ codes "'" ++ l.digits

abbrev pub is_other_length : Option ℕ → RawLiteral → Bool
is_other_length None l = false
is_other_length (Some bits) l = not (nat_eq (cut (number_in l.width)) bits)

-- A label that is no number of its width, has another length than its selector, or stands twice.
abbrev pub is_wrong_label : Option ℕ → List Bytes → RawLiteral → Bool
is_wrong_label bits before l = is_wrong_literal l || is_other_length bits l || list_any (bytes_eq (label_text l)) before

abbrev pub choice_line : Option ℕ → List Bytes → Choice → Line
choice_line bits before c n = pass n then size_if (is_wrong_label bits before c.label) then pass (literal_bytes c.label + 8) then lines c.body (deeper n) then pass (n + 4)

-- a label's text, which stands once among those before
abbrev pub with_label : List Bytes → RawLiteral → List Bytes
with_label before l = if list_any (bytes_eq (label_text l)) before then before else before ++ label_text l ∷ []

-- the arms of a `case` whose selector has this length, behind those with these labels
abbrev pub choices : Option ℕ → List Bytes → List Choice → Line
choices bits before [] n w = w
choices bits before (c ∷ cs) n w = choices bits (with_label before c.label) cs n (choice_line bits before c n w)

abbrev pub case_line : Part → List Choice → Line
case_line e arms n = pass (n + 6) then e.walk then pass 2 then choices e.bits [] arms (deeper n) then pass (n + 8)

-- ---- statements

abbrev pub stmt_node : Scope → RawStmt-F Line Choice → Line
stmt_node scope (s.Assign l e) = assign_line (left_walk scope l) (part_of scope e)
stmt_node scope (s.If c first second) = if_line (part_of scope c) first second
stmt_node scope (s.Case e arms) = case_line (part_of scope e) arms

abbrev pub arm_node : RawArm-F Line Choice → Choice
arm_node a = record { label = a.label; body = a.body }

abbrev pub line_of : Scope → RawStmt → Line
line_of scope = fold-RawStmt Line Choice (stmt_node scope) arm_node

abbrev pub choice_of : Scope → RawArm → Choice
choice_of scope = fold-RawArm Line Choice (stmt_node scope) arm_node
