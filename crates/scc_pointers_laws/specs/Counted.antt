-- What is asked of a core so that copies of its bodies, in which counters stand as literals, can be resolved: so does an unrolled core meet what is asked
-- of it. This project's own.
use Rattle.std.specs.Prelude.{◌≡◌, List, ◌∷◌, ◌++◌, map}
use Rattle.scc_core.specs.declared.copy.Counter.{Counter as Held}
use Rattle.scc_core.specs.declared.program.Cell.{Cell}
use Rattle.scc_core.specs.declared.program.Core.{Core}
use Rattle.scc_core.specs.declared.program.CoreProcess.{CoreProcess}
use Rattle.scc_core_view.specs.Whole.{AreWholeCells}
use Rattle.scc_pointers_walk.specs.declared.held.Resolver.{Resolver}
use Rattle.scc_pointers_walk.specs.Read.{HaveNoTargets, HaveSmallNames, HaveSmallPaths}
use Rattle.scc_pointers_laws.specs.Asked.{AreAsked}
use Rattle.scc_pointers_laws.specs.Followed.{HaveSmallSizes, IsKnown}
use Rattle.scc_pointers_laws.specs.Ready.{IsOfCore, IsSeen, IsWholeItem}
use Rattle.scc_unroll_asked.specs.Copied.{copied}
use Rattle.scc_unroll_asked.specs.Items.{AreAll, Item, asked}
use Rattle.scc_unroll_asked.specs.Read.{AreCounters}

-- as they are, and with any counters as literals
pub record AreAskedCounted (cells : List Cell) (r : Resolver) (xs : List Item) : Type 0 where
  pub plain : AreAsked r xs
  pub counted : (ns : List Held) → AreCounters cells ns → AreAsked r (map (copied ns) xs)

abbrev pub IsAskedCounted : Core → Type 0
IsAskedCounted c = (r : Resolver) → IsOfCore c r → IsKnown r × ((front back : List CoreProcess) (p : CoreProcess) → c.processes ≡ front ++ p ∷ back → AreAskedCounted c.cells r (asked p.body))

-- ---- whole cores

-- indices are whole where their pointers are gone, wherever those lead
pub record AreWholeItems (cells : List Cell) (r : Resolver) (xs : List Item) : Type 0 where
  pub plain : AreAll (IsWholeItem r cells) xs
  pub counted : (ns : List Held) → AreCounters cells ns → AreAll (IsWholeItem r cells) (map (copied ns) xs)

-- A whole core whose indices are whole with any counters as literals, too.
pub record IsWholeCounted (c : Core) : Type 0 where
  pub cells : AreWholeCells c.cells
  pub names : HaveSmallNames c.cells
  pub paths : HaveSmallPaths c.vectors
  pub sizes : HaveSmallSizes c.vectors
  pub locals : HaveNoTargets c.cells
  pub bodies : (front back : List CoreProcess) (p : CoreProcess) → c.processes ≡ front ++ p ∷ back → (r : Resolver) → IsSeen c r → IsKnown r → AreWholeItems c.cells r (asked p.body)
