-- Code behind other code. This project's own.
use Rattle.scc_svtree.specs.declared.expr.SvLeft.{SvLeft}
use Rattle.scc_svtree.specs.declared.expr.SvLeft.TheVariants.{Whole}
use Rattle.scc_svtree.specs.Code.{Code, End, Assign, If, Case}
use Rattle.std.specs.Prelude.{ℕ}

abbrev pub whole : ℕ → SvLeft
whole v = Whole (record { 0 = v })

abbrev pub then_code : Code → Code → Code
then_code End d = d
then_code (Assign l e r) d = Assign l e (then_code r d)
then_code (If c a b r) d = If c a b (then_code r d)
then_code (Case e arms r) d = Case e arms (then_code r d)
