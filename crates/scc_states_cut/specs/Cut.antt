-- The segments that trees stand for, and what a walk that builds and counts them gives. This project's own.
use Rattle.std.specs.Prelude.{◌≡◌, ℕ, ◌+◌, List, [], ◌∷◌, ◌++◌, map, flat_map, Option, Some, None, Result, Ok, Err, unwrap_or, slice_get}
use Rattle.scc_base.specs.declared.refusal.Place.{Place}
use Rattle.scc_base.specs.declared.refusal.Stop.{Stop}
use Rattle.scc_base.specs.declared.refusal.Stop.TheVariants as stop
use Rattle.scc_base.specs.declared.code.Code.TheVariants as reason
use Rattle.scc_states_cut.specs.declared.types.SegStmt.{SegStmt, fold-SegStmt}
use Rattle.scc_states_cut.specs.declared.types.SegNode.TheOpen.{SegNode-F, SegStmt-F}
use Rattle.scc_states_cut.specs.declared.types.SegNode.TheOpen as node
use Rattle.scc_core_spec.specs.Segments.{Segment, Plain, Test, Halt, Finish}
use Rattle.scc_core_spec.specs.First.{refused}
use Rattle.scc_core_spec.specs.Split.{Stood, stood_in}
use Rattle.scc_core_view.specs.Terms.{term_of}
use Rattle.scc_core_view.specs.Codes.{code_of}
use Rattle.scc_states_segments.specs.declared.over.Count.{Count}
use Rattle.scc_states_segments.specs.Limits.{first_after}

-- a list of statements before what follows
abbrev pub before : List (Segment → Segment) → Segment → Segment
before [] s = s
before (f ∷ fs) s = f (before fs s)

-- the layers of a statement over what its parts stand for
abbrev pub Node : Type 0
Node = Place → Segment → Segment

-- what follows a test follows both of its branches; a wait ends its segment, and its count stands in the list of all waits
abbrev pub segment_node : List ℕ → SegNode-F Node (Segment → Segment) → Node
segment_node waits (node.Plain s) p rest = Plain (code_of (s ∷ [])) rest
segment_node waits (node.If t a b) p rest = Test p (term_of t) (before a rest) (before b rest)
segment_node waits (node.Wait n) p rest = Halt p n (unwrap_or (slice_get waits n) 0)

abbrev pub segment_step : SegStmt-F Node (Segment → Segment) → Segment → Segment
segment_step s = s.node s.place

-- a statement of a segment before what follows
abbrev pub stmt_segment : List ℕ → SegStmt → Segment → Segment
stmt_segment waits = fold-SegStmt Node (Segment → Segment) (segment_node waits) segment_step

-- the segment of a list of statements, of a thread whose waits have these counts
abbrev pub segment_of : List ℕ → List SegStmt → Segment
segment_of waits ss = before (map (stmt_segment waits) ss) Finish

-- a statement among these is past a limit
abbrev pub IsPast : Count → List Stood → Stop → Type 0
IsPast old ss stop.NoMemory = Unit {0}
IsPast old ss (stop.Refused r) = (r ≡ refused reason.SegmentsTooLarge r.place) × ((more : List Stood) → first_after old (ss ++ more) ≡ Some r.place)

-- these were counted
abbrev pub Counts : Count → Count → List Stood → Type 0
Counts old new ss = (more : List Stood) → first_after new more ≡ first_after old (ss ++ more)

-- a statement that stands whole before what follows
abbrev pub IsOne : (Segment → Segment) → List Stood → Count → Count → Result SegStmt Stop → Type 0
IsOne f ss old new (Ok s) = ((waits : List ℕ) (rest : Segment) → stmt_segment waits s rest ≡ f rest) × Counts old new ss
IsOne f ss old new (Err e) = IsPast old ss e

-- the last statement of a segment
abbrev pub IsLast : List ℕ → ℕ → Segment → Count → Count → Result SegStmt Stop → Type 0
IsLast waits d x old new (Ok s) = (stmt_segment waits s Finish ≡ x) × Counts old new (stood_in d x)
IsLast waits d x old new (Err e) = IsPast old (stood_in d x) e

-- a segment
abbrev pub IsUnfolded : List ℕ → ℕ → Segment → Count → Count → Result (List SegStmt) Stop → Type 0
IsUnfolded waits d x old new (Ok ss) = (segment_of waits ss ≡ x) × Counts old new (stood_in d x)
IsUnfolded waits d x old new (Err e) = IsPast old (stood_in d x) e

-- segments one behind another, each of depth 1, behind those that there were
abbrev pub AreUnfolded : List ℕ → List Segment → List (List SegStmt) → List (List SegStmt) → Count → Count → Result Unit Stop → Type 0
AreUnfolded waits xs there all old new (Ok u) = (map (segment_of waits) all ≡ map (segment_of waits) there ++ xs) × Counts old new (flat_map (stood_in 1) xs)
AreUnfolded waits xs there all old new (Err e) = IsPast old (flat_map (stood_in 1) xs) e

-- nothing is past a limit yet
abbrev pub IsWithin : Count → Result Unit Stop → Type 0
IsWithin c (Ok u) = first_after c [] ≡ None
IsWithin c (Err stop.NoMemory) = Unit {0}
IsWithin c (Err (stop.Refused r)) = (r ≡ refused reason.SegmentsTooLarge r.place) × ((more : List Stood) → first_after c more ≡ Some r.place)
