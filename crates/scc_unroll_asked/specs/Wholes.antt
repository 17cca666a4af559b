-- Expressions that are whole, whatever numbers stand for counters in them.
use Rattle.std.specs.Prelude.{◌≡◌, List, [], ◌∷◌, ◌++◌}
use Rattle.scc_core.specs.declared.copy.Counter.{Counter as Held}
use Rattle.scc_core.specs.declared.expr.CoreExpr.{CoreExpr}
use Rattle.scc_core.specs.declared.program.Cell.{Cell}
use Rattle.scc_core.specs.Counters.{counted}
use Rattle.scc_core.specs.declared.program.Core.{Core}
use Rattle.scc_core.specs.declared.program.CoreProcess.{CoreProcess}
use Rattle.scc_core_view.specs.Whole.{AreWholeCells, IsWhole}
use Rattle.scc_unroll_asked.specs.Asked.{AreAll, IsItself, asked}
use Rattle.scc_unroll_asked.specs.Read.{AreCounters}

-- each number is one of its cell's kind; where a divisor is a counter the expression isn't whole, since the counter may be 0
abbrev pub AreWholeCounted : List Cell → List CoreExpr → Type 0
AreWholeCounted cells [] = Unit {0}
AreWholeCounted cells (e ∷ es) = ((ns : List Held) → AreCounters cells ns → IsWhole cells (counted ns e)) × AreWholeCounted cells es

-- Its cells are whole, and the expressions that are asked of its bodies are whole with any such numbers, each with its term's place and kind.
pub record IsWholeCore (c : Core) : Type 0 where
  pub cells : AreWholeCells c.cells
  pub bodies : (front back : List CoreProcess) (p : CoreProcess) → c.processes ≡ front ++ p ∷ back → AreWholeCounted c.cells (asked p.body)
  pub themselves : (front back : List CoreProcess) (p : CoreProcess) → c.processes ≡ front ++ p ∷ back → AreAll IsItself (asked p.body)
