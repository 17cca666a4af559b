-- Statements whose expressions and locations are copies, in which counters stand as literals, or literals: so are those of unrolled bodies.
use Rattle.std.specs.Prelude.{◌≡◌, ◌⊎◌, List, [], ◌∷◌, ◌++◌, map, Option}
use Rattle.scc_base.specs.declared.refusal.Place.{Place as Spot}
use Rattle.scc_bits_kinds.specs.declared.kind.Kind.{Kind}
use Rattle.scc_bits_kinds.specs.declared.kind.Word.{Word}
use Rattle.scc_core.specs.declared.copy.Counter.{Counter as Held}
use Rattle.scc_core.specs.declared.expr.CoreBase.TheOpen as tree
use Rattle.scc_core.specs.declared.expr.CoreExpr.{CoreExpr}
use Rattle.scc_core.specs.declared.expr.CoreLeft.{CoreLeft}
use Rattle.scc_core.specs.declared.program.Cell.{Cell}
use Rattle.scc_core.specs.declared.program.CoreProcess.{CoreProcess}
use Rattle.scc_core.specs.declared.stmt.CoreStmt.{CoreStmt}
use Rattle.scc_core.specs.declared.stmt.Count.{Count}
use Rattle.scc_core.specs.declared.stmt.Pointed.{Pointed}
use Rattle.scc_core.specs.Counters.{counted, counted_left}
use Rattle.scc_core_view.specs.Whole.{made}
use Rattle.scc_unroll_asked.specs.Items.{AreAll, Item, Place, Value, asked, asked_count, asked_to}
use Rattle.scc_unroll_asked.specs.Read.{AreCounters}

abbrev pub OneOf : Item → List Item → Type 0
OneOf x [] = ⊥
OneOf x (y ∷ ys) = (x ≡ y) ⊎ OneOf x ys

abbrev pub AreOf : List Item → List Item → Type 0
AreOf xs = AreAll (λ x. OneOf x xs)

abbrev pub copied : List Held → Item → Item
copied ns (Value e) = Value (counted ns e)
copied ns (Place l) = Place (counted_left ns l)

-- a copy of one of these with some counters, or a literal
pub data IsCopy (cells : List Cell) (xs : List Item) : Item → Type 0 where
  copy : (ns : List Held) → AreCounters cells ns → (x : Item) → OneOf x xs → IsCopy cells xs (copied ns x)
  -- the same
  same : (x : Item) → OneOf x xs → IsCopy cells xs x
  literal : (p : Spot) (k : Kind) (w : Word) → IsCopy cells xs (Value (made p k (tree.Lit w)))

abbrev pub AreCopies : List Cell → List Item → List CoreStmt → Type 0
AreCopies cells xs ss = AreAll (IsCopy cells xs) (asked ss)

-- the expressions and locations of statements are among these, and so is a location
abbrev pub AreWithin : List Item → List CoreStmt → Type 0
AreWithin xs ss = AreOf xs (asked ss)

abbrev pub IsWithin : List Item → CoreLeft → Type 0
IsWithin xs l = OneOf (Place l) xs

-- ---- those of statements

abbrev pub of_put : CoreLeft → CoreExpr → List Item
of_put l e = Place l ∷ Value e ∷ []

abbrev pub of_aim : Pointed → CoreLeft → List Item
of_aim to l = Place l ∷ asked_to to

-- of an `if` with these branches
abbrev pub of_choice : List Held → CoreExpr → List CoreStmt → List CoreStmt → List Item
of_choice ns t a b = Value (counted ns t) ∷ (asked a ++ asked b)

abbrev pub of_loop : List Held → Option Count → List CoreStmt → List Item
of_loop ns c b = map (copied ns) (asked_count c) ++ asked b

-- of the step behind a turn
abbrev pub of_step : CoreLeft → CoreExpr → Word → List Item
of_step l e w = Place l ∷ Value (made e.place e.kind (tree.Lit w)) ∷ []

-- ---- processes

-- each process of the second list has copies of what the one of the first has
abbrev pub HaveCopies : List Cell → List CoreProcess → List CoreProcess → Type 0
HaveCopies cells [] [] = Unit {0}
HaveCopies cells (p ∷ ps) (q ∷ qs) = AreCopies cells (asked p.body) q.body × HaveCopies cells ps qs
HaveCopies cells _ _ = ⊥
