-- Operators (C++, "Expressions"): which tokens they are, and their precedence.
use Rattle.std.specs.Prelude.{ℕ, zero, suc, Bool, true, false, Option, Some, None}
use Rattle.scc_bits_kinds.specs.declared.op.Op.{Op}
use Rattle.scc_bits_kinds.specs.declared.op.Op.TheVariants as op
use Rattle.scc_tree.specs.declared.expr.UnaryOp.{UnaryOp}
use Rattle.scc_tree.specs.declared.expr.UnaryOp.TheVariants as unary
use Rattle.scc_grammar_terminals.specs.declared.terminal.Terminal.{Terminal}
use Rattle.scc_grammar_terminals.specs.declared.terminal.Terminal.TheVariants as t

-- the binary operators of a level, the tightest level first
abbrev pub operator : ℕ → Terminal → Option Op
operator zero t.Star = Some op.Mul
operator zero (t.Divide o) = Some o
operator (suc zero) t.Plus = Some op.Add
operator (suc zero) t.Minus = Some op.Sub
operator (suc (suc zero)) t.ShiftLeft = Some op.Shl
operator (suc (suc zero)) t.ShiftRight = Some op.Shr
operator (suc (suc (suc zero))) t.Less = Some op.Lt
operator (suc (suc (suc zero))) t.Greater = Some op.Gt
operator (suc (suc (suc zero))) (t.Order o) = Some o
operator (suc (suc (suc (suc zero)))) (t.Equal o) = Some o
operator (suc (suc (suc (suc (suc zero))))) t.And = Some op.And
operator (suc (suc (suc (suc (suc (suc zero)))))) t.Xor = Some op.Xor
operator (suc (suc (suc (suc (suc (suc (suc zero))))))) t.Or = Some op.Or
operator (suc (suc (suc (suc (suc (suc (suc (suc zero)))))))) t.LogAnd = Some op.LogAnd
operator (suc (suc (suc (suc (suc (suc (suc (suc (suc zero))))))))) t.LogOr = Some op.LogOr
operator _ _ = None

-- sums: the operators of levels below 2
abbrev pub sum : ℕ
sum = suc (suc zero)

-- the operators of every level
abbrev pub every : ℕ
every = suc (suc (suc (suc (suc (suc (suc (suc (suc (suc zero)))))))))

abbrev pub unary_operator : Terminal → Option UnaryOp
unary_operator t.Plus = Some unary.Plus
unary_operator t.Minus = Some unary.Neg
unary_operator t.Star = Some unary.Deref
unary_operator t.And = Some unary.Address
unary_operator (t.Inverse o) = Some o
unary_operator _ = None

-- what closes a list between angle brackets: `>`, or the `>>` that closes the list around it, too
abbrev pub closer : Bool → Terminal
closer false = t.Greater
closer true = t.ShiftRight
