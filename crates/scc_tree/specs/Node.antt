-- A node at a place, as the value that contracts see.
use Rattle.std.specs.Prelude.{Bool}
use Rattle.scc_base.specs.declared.refusal.Place.{Place}
use Rattle.scc_tree.specs.declared.expr.Expr.{Expr, roll-Expr}
use Rattle.scc_tree.specs.declared.expr.ExprNode.{ExprNode}
use Rattle.scc_tree.specs.declared.ty.Ty.{Ty, roll-Ty}
use Rattle.scc_tree.specs.declared.ty.TyNode.{TyNode}
use Rattle.scc_tree.specs.declared.stmt.Stmt.{Stmt, roll-Stmt}
use Rattle.scc_tree.specs.declared.stmt.StmtNode.{StmtNode}

abbrev pub expr_of : Place → ExprNode → Expr
expr_of place node = roll-Expr (record { place = place; node = node })

abbrev pub ty_of : Place → Bool → TyNode → Ty
ty_of place constant node = roll-Ty (record { place = place; constant = constant; node = node })

abbrev pub stmt_of : Place → StmtNode → Stmt
stmt_of place node = roll-Stmt (record { place = place; node = node })
