-- What is asked of a core so that its bodies are resolved as the definition has them. It speaks of the core alone. This project's own.
use denote.Ref.{Bor}
use Rattle.std.specs.Prelude.{◌≡◌, ℕ, List, ◌∷◌, ◌++◌, map, Some, None}
use Rattle.scc_core.specs.declared.places.Places.{Places}
use Rattle.scc_core.specs.declared.program.Cell.{Cell}
use Rattle.scc_core.specs.declared.program.Core.{Core}
use Rattle.scc_core.specs.declared.program.CoreProcess.{CoreProcess}
use Rattle.scc_core.specs.declared.program.VectorSize2.{VectorSize2}
use Rattle.scc_core.specs.declared.statics.Known.{Known}
use Rattle.scc_core.specs.declared.stmt.CoreStmt.{CoreStmt}
use Rattle.scc_core.specs.Tables.{IsTable}
use Rattle.scc_core_spec.specs.Program.{Program}
use Rattle.scc_core_spec.specs.Resolved.{Leads, Tried, Made, Stopped}
use Rattle.scc_core_view.specs.Programs.{cell_of, vector_of}
use Rattle.scc_core_view.specs.Whole.{AreWholeCells, IsWhole}
use Rattle.scc_pointers_walk.specs.declared.held.Resolver.{Resolver}
use Rattle.scc_pointers_walk.specs.Led.{local_of}
use Rattle.scc_pointers_walk.specs.Read.{HaveNoTargets, HaveSmallNames, HaveSmallPaths}
use Rattle.scc_pointers_laws.specs.Asked.{AreAsked}
use Rattle.scc_unroll_asked.specs.Items.{AreAll, Item, Place, Value, asked}
use Rattle.scc_pointers_laws.specs.Followed.{Follows, FollowsLeft, HaveSmallSizes, IsKnown}

-- what is known of a core: its cells by tables of their names, and no counters
pub record IsSeen (c : Core) (r : Resolver) : Type 0 where
  pub cells : r.known.cells.now ≡ c.cells
  pub vectors : r.vectors.now ≡ c.vectors
  pub table : IsTable r.places.now c.cells c.vectors
  pub places : (p : Bor Places) → r.known.places ≡ Some p → IsTable p.now c.cells c.vectors
  pub counters : r.known.counters ≡ None

-- at the beginning of a process no local pointer is declared
pub record IsOfCore (c : Core) (r : Resolver) : Type 0 where
  pub seen : IsSeen c r
  pub local : (n : ℕ) → local_of r n ≡ None

-- its names and sizes are those of a core, and in the expressions and locations of its bodies walks find what the definitions have
abbrev pub IsAsked : Core → Type 0
IsAsked c = (r : Resolver) → IsOfCore c r → IsKnown r × ((front back : List CoreProcess) (p : CoreProcess) → c.processes ≡ front ++ p ∷ back → AreAsked r (asked p.body))

-- ---- the same where a process begins

pub record IsFresh (k : Known) (p : Places) (v : List VectorSize2) (r : Resolver) : Type 0 where
  pub known : r.known ≡ k
  pub places : r.places.now ≡ p
  pub vectors : r.vectors.now ≡ v
  pub local : (n : ℕ) → local_of r n ≡ None

abbrev pub AreReady : Known → Places → List VectorSize2 → List CoreStmt → Type 0
AreReady k p v body = (r : Resolver) → IsFresh k p v r → IsKnown r × AreAsked r (asked body)

abbrev pub AreBodies : Known → Places → List VectorSize2 → List CoreProcess → Type 0
AreBodies k p v ps = (front back : List CoreProcess) (q : CoreProcess) → ps ≡ front ++ q ∷ back → AreReady k p v q.body

abbrev pub first_leads : Known → List VectorSize2 → Leads
first_leads k v = record { cells = map cell_of k.cells.now; vectors = map vector_of v; local = λ n. None }

-- a program with these cells and vectors
pub record IsOver (p : Program) (k : Known) (v : List VectorSize2) : Type 0 where
  pub cells : p.cells ≡ map cell_of k.cells.now
  pub vectors : p.vectors ≡ map vector_of v

-- nothing is refused
abbrev pub IsAccepted : {A : Type 0} → Tried A → Type 0
IsAccepted (Made a) = Unit {0}
IsAccepted (Stopped r) = ⊥

-- ---- whole cores

abbrev pub IsWholeItem : Resolver → List Cell → Item → Type 0
IsWholeItem r cells (Value e) = Follows r (IsWhole cells) e
IsWholeItem r cells (Place l) = FollowsLeft r (IsWhole cells) l

-- Its cells are whole, its names and sizes have 32 bits, construction left no target in a local pointer, and the indices in its bodies are whole where their
-- pointers are gone, wherever those lead.
pub record IsWholeCore (c : Core) : Type 0 where
  pub cells : AreWholeCells c.cells
  pub names : HaveSmallNames c.cells
  pub paths : HaveSmallPaths c.vectors
  pub sizes : HaveSmallSizes c.vectors
  pub locals : HaveNoTargets c.cells
  pub bodies : (front back : List CoreProcess) (p : CoreProcess) → c.processes ≡ front ++ p ∷ back → (r : Resolver) → IsSeen c r → IsKnown r → AreAll (IsWholeItem r c.cells) (asked p.body)
