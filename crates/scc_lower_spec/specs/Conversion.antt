-- The text that converts a lowered operand from one kind to another. This project's own.
use Rattle.std.specs.Prelude.{ℕ, Bool, true, false, not, ◌&&◌, nat_eq, nat_lt, if◌then◌else◌}
use Rattle.scc_bits_kinds.specs.declared.kind.Kind.{Kind}
use Rattle.scc_bits_kinds.specs.Kinds.{width_of, is_signed, is_bool}
use Rattle.scc_svtree.specs.declared.class.Class.{Class}
use Rattle.scc_svtree.specs.declared.class.Class.TheVariants.{Context, Shift, Comparison, Logical}
use Rattle.scc_svtree.specs.declared.expr.SvUnary.TheVariants as unary
use Rattle.scc_svtree.specs.declared.expr.SvBinary.TheVariants as binary
use Rattle.scc_svtree.specs.Classes.{class_of}
use Rattle.scc_svtree.specs.Term.{Term, Literal, Unary, Binary, Cond, Cast, Sign}

abbrev pub is_test : Class → Bool
is_test (Context o) = false
is_test (Shift o fills) = false
is_test (Comparison o) = true
is_test (Logical o) = true

-- whether no context gives the operands of a term another size (IEEE 1800-2017, table 11-21)
abbrev pub takes_own_size : Term → Bool
takes_own_size (Unary unary.Not a) = false
takes_own_size (Unary unary.Neg a) = false
takes_own_size (Binary o a b) = is_test (class_of o)
takes_own_size (Cond c a b) = false
takes_own_size _ = true

-- zeros in front; `$unsigned` keeps an operator's operands at their own width under each reading of a size cast
abbrev pub widened : ℕ → Term → Term
widened w t = if takes_own_size t then Cast w t else Cast w (Sign false t)

-- the low bits, the sign's bit or zeros in front
abbrev pub resized : Kind → Kind → Term → Term
resized from to t =
    if nat_eq (width_of to) (width_of from) then t
    else (if nat_lt (width_of to) (width_of from) then Cast (width_of to) t
    else (if is_signed from then Sign false (Cast (width_of to) (Sign true t)) else widened (width_of to) t))

-- of `bool` whether the number isn't 0
abbrev pub converted_term : Kind → Kind → Term → Term
converted_term from to t = if is_bool to && not (is_bool from) then Binary binary.Ne t (Literal (width_of from) 0) else resized from to t
