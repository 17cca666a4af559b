-- Wrong sizes and undeclared names of an expression as it is written.
use Rattle.std.specs.Prelude.{ℕ, ◌+◌, ◌-◌, min, max, nat_eq, nat_le, Bool, true, false, not, ◌&&◌, ◌||◌, if◌then◌else◌, List, [], ◌∷◌, length, Option, Some, None}
use Rattle.scc_svtree.specs.declared.expr.SvUnary.{SvUnary}
use Rattle.scc_svtree.specs.declared.expr.SvUnary.TheVariants as unary
use Rattle.scc_svtree.specs.declared.expr.SvBinary.{SvBinary}
use Rattle.scc_svtree.specs.declared.class.Class.{Class}
use Rattle.scc_svtree.specs.declared.class.Class.TheVariants.{Context, Shift, Comparison, Logical}
use Rattle.scc_svtree.specs.Classes.{class_of}
use Rattle.scc_svtext.specs.ExprText.{binary_text}
use Rattle.scc_svtext.specs.Pieces.{spelled}
use Rattle.scc_svread_grammar.specs.declared.raw.RawLiteral.{RawLiteral}
use Rattle.scc_svread_grammar.specs.declared.raw.RawSelect.{RawSelect}
use Rattle.scc_svread_grammar.specs.declared.raw.RawSelect.TheVariants.{Whole, Bit, Range}
use Rattle.scc_svread_grammar.specs.declared.raw.RawLeft.{RawLeft}
use Rattle.scc_svread_grammar.specs.declared.raw.RawExpr.{RawExpr, fold-RawExpr}
use Rattle.scc_svread_grammar.specs.declared.raw.RawExpr.TheOpen.{RawExpr-F}
use Rattle.scc_svread_grammar.specs.declared.raw.RawExpr.TheOpen as e
use Rattle.scc_svread_grammar.specs.Grammar.{is_division}
use Rattle.scc_svread_grammar.specs.Lexical.{Bytes}
use Rattle.scc_svread_check.specs.Walking.{Walking, ◌then◌, pass, size_if, name_if, size_of_whole}
use Rattle.scc_svread_check.specs.Scope.{Scope, number_in, hex_in, is_width, is_wrong_literal, is_declared, once}

-- Lengths past 128 are all wrong; they count as 129.
abbrev pub cut : ℕ → ℕ
cut n = min n 129

-- a length outside 1 to 128
abbrev pub is_wrong_length : Option ℕ → Bool
is_wrong_length None = false
is_wrong_length (Some n) = not (is_width n)

-- What is asked of an expression.
pub record Part : Type 0 where
  pub walk : Walking
  -- its length in bits, at most 129, where each name in it is declared exactly once
  pub bits : Option ℕ
  -- whether it is a literal 0, or `$signed` of one
  pub zero : Bool

abbrev pub with_both : (ℕ → ℕ → ℕ) → Option ℕ → Option ℕ → Option ℕ
with_both f (Some a) (Some b) = Some (f a b)
with_both f (Some a) None = None
with_both f None b = None

abbrev pub with_one : (ℕ → ℕ) → Option ℕ → Option ℕ
with_one f (Some a) = Some (f a)
with_one f None = None

-- ---- leaves

abbrev pub literal_bytes : RawLiteral → ℕ
literal_bytes l = length l.width + 2 + length l.digits

abbrev pub literal_walk : RawLiteral → Walking
literal_walk l = size_if (is_wrong_literal l) then pass (literal_bytes l)

abbrev pub literal_part : RawLiteral → Part
literal_part l = record { walk = literal_walk l; bits = Some (cut (number_in l.width)); zero = nat_eq (hex_in l.digits) 0 }

abbrev pub select_bytes : RawSelect → ℕ
select_bytes Whole = 0
select_bytes (Bit at) = length at + 2
select_bytes (Range h l) = length h + length l + 3

-- A select outside its variable, of a variable of one bit, or whose first number isn't above the second (IEEE 1800-2017, 11.5.1).
abbrev pub is_wrong_select : RawSelect → ℕ → Bool
is_wrong_select Whole high = false
is_wrong_select (Bit at) high = nat_eq high 0 || not (nat_le (number_in at) high)
is_wrong_select (Range h l) high = not (nat_le (number_in h) high) || nat_le (number_in h) (number_in l)

abbrev pub select_bits : RawSelect → ℕ → ℕ
select_bits Whole high = cut (high + 1)
select_bits (Bit at) high = 1
select_bits (Range h l) high = cut (number_in h - number_in l + 1)

abbrev pub is_wrong_part : RawSelect → Option ℕ → Bool
is_wrong_part s None = false
is_wrong_part s (Some high) = is_wrong_select s high

abbrev pub is_missing : Scope → Bytes → Bool
is_missing s name = not (is_declared s name)

-- a name, and so many bytes as it has in the text
abbrev pub name_walk : Scope → Bytes → Walking
name_walk s name = name_if (is_missing s name) then pass (length (spelled name))

-- a variable or a part of it
abbrev pub left_walk : Scope → RawLeft → Walking
left_walk s l = size_if (is_wrong_part l.select (once s l.name)) then name_walk s l.name then pass (select_bytes l.select)

abbrev pub left_part : Scope → RawLeft → Part
left_part s l = record { walk = left_walk s l; bits = with_one (select_bits l.select) (once s l.name); zero = false }

-- ---- operators

abbrev pub unary_bits : SvUnary → Option ℕ → Option ℕ
unary_bits unary.Not a = a
unary_bits unary.Neg a = a
unary_bits _ a = with_one (λ n. 1) a

abbrev pub unary_part : SvUnary → Part → Part
unary_part op a = record { walk = pass 2 then a.walk then pass 1; bits = unary_bits op a.bits; zero = false }

-- The length of an operator's answer (IEEE 1800-2017, table 11-21).
abbrev pub class_bits : Class → ℕ → ℕ → ℕ
class_bits (Context o) a b = max a b
class_bits (Shift o fills) a b = a
class_bits (Comparison o) a b = 1
class_bits (Logical o) a b = 1

-- a divisor 0 stands at the right operand
abbrev pub binary_part : SvBinary → Part → Part → Part
binary_part op a b = record {
  walk = pass 1 then a.walk then pass (length (binary_text op) + 2) then size_of_whole (is_division op && b.zero) b.walk then pass 1;
  bits = with_both (class_bits (class_of op)) a.bits b.bits;
  zero = false;
}

abbrev pub cond_part : Part → Part → Part → Part
cond_part c a b = record {
  walk = pass 1 then c.walk then pass 3 then a.walk then pass 3 then b.walk then pass 1;
  bits = with_both (λ n m. m) c.bits (with_both max a.bits b.bits);
  zero = false;
}

-- parts of a concatenation, so many bytes before the first, and a comma and a blank before each other
abbrev pub parts_walk : ℕ → List Part → Walking
parts_walk lead [] w = w
parts_walk lead (p ∷ ps) w = parts_walk 2 ps (p.walk (pass lead w))

abbrev pub parts_bits : Option ℕ → List Part → Option ℕ
parts_bits bits [] = bits
parts_bits bits (p ∷ ps) = parts_bits (with_both (λ a b. cut (a + b)) bits p.bits) ps

abbrev pub concat_part : List Part → Part
concat_part ps = record { walk = parts_walk 1 ps then pass 1; bits = parts_bits (Some 0) ps; zero = false }

abbrev pub cast_part : Bytes → Part → Part
cast_part width a = record {
  walk = size_if (not (is_width (number_in width))) then pass (length width + 2) then a.walk then pass 1;
  bits = with_one (λ n. cut (number_in width)) a.bits;
  zero = false;
}

abbrev pub sign_bytes : Bool → ℕ
sign_bytes true = 8
sign_bytes false = 10

abbrev pub sign_part : Bool → Part → Part
sign_part signed a = record { walk = pass (sign_bytes signed) then a.walk then pass 1; bits = a.bits; zero = signed && a.zero }

abbrev pub measured : Part → Part
measured p = record { walk = size_of_whole (is_wrong_length p.bits) p.walk; bits = p.bits; zero = p.zero }

abbrev pub node_part : Scope → RawExpr-F Part → Part
node_part s (e.Literal l) = measured (literal_part l)
node_part s (e.Left l) = measured (left_part s l)
node_part s (e.Unary op a) = measured (unary_part op a)
node_part s (e.Binary op a b) = measured (binary_part op a b)
node_part s (e.Cond c a b) = measured (cond_part c a b)
node_part s (e.Concat parts) = measured (concat_part parts)
node_part s (e.Cast width a) = measured (cast_part width a)
node_part s (e.Sign signed a) = measured (sign_part signed a)

abbrev pub part_of : Scope → RawExpr → Part
part_of s = fold-RawExpr Part (node_part s)
