-- Statements before what follows, and the turns of a loop one by one.
use Rattle.std.specs.Prelude.{ℕ, List, [], ◌∷◌, map, Some}
use Rattle.scc_base.specs.declared.refusal.Place.{Place}
use Rattle.scc_core.specs.declared.stmt.CoreStmt.{CoreStmt}
use Rattle.scc_core_spec.specs.Code.{Code, Block}
use Rattle.scc_core_spec.specs.Counted.{Counter, First, Setting, Turn, Turning, counter}
use Rattle.scc_core_spec.specs.Unrolled.{stepped, unrolled}
use Rattle.scc_core_view.specs.Codes.{before, stmt_code}

abbrev pub set_before : List CoreStmt → Code → Code
set_before ss c = before (map stmt_code ss) c

-- with that block in the loop's body, before what follows the loop
abbrev pub each_turn : Setting → List Counter → ℕ → Place → Code → Turning → List Turn → Code → Code
each_turn s ns n p b t [] rest = rest
each_turn s ns n p b t (x ∷ xs) rest = Block p (unrolled s (counter n x.now ∷ ns) First b) (stepped (Some t) x.next (each_turn s ns n p b t xs rest))
