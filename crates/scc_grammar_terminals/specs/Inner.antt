-- What opens a level, as reading functions.
use Rattle.std.specs.Prelude.{Bool}
use Rattle.scc_tree.specs.declared.expr.Expr.{Expr}
use Rattle.scc_tree.specs.declared.stmt.Stmt.{Stmt}
use Rattle.scc_tree.specs.declared.ty.TyArg.{TyArg}
use Rattle.scc_grammar_terminals.specs.declared.part.Bracketed.{Bracketed}
use Rattle.scc_grammar_terminals.specs.declared.part.TypeRead.{TypeRead}
use Rattle.scc_grammar_terminals.specs.Text.{Parser}

pub record Inner : Type 0 where
  pub expr : Parser Expr
  pub additive : Parser Expr
  pub ty : Parser TypeRead
  -- with the flag whether its `>>` closed the list around it, too
  pub ty_arg : Parser (TyArg × Bool)
  -- behind a `(`
  pub bracketed : Parser Bracketed
  pub unary : Parser Expr
  -- of a call: an expression or a `new`
  pub argument : Parser Expr
  -- with the flag whether an `else` behind it would belong to an `if` in it
  pub stmt : Parser (Stmt × Bool)
