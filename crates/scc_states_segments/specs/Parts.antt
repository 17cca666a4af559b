-- The segments that parts of a body stand for. This project's own.
use Rattle.std.specs.Prelude.{◌≡◌, ℕ, List, [], ◌∷◌, ◌++◌, map}
use Rattle.scc_base.specs.declared.refusal.Place.{Place}
use Rattle.scc_core.specs.declared.stmt.CoreStmt.{CoreStmt}
use Rattle.scc_core_spec.specs.Term.{Term}
use Rattle.scc_core_spec.specs.Code.{Code, numbered}
use Rattle.scc_core_spec.specs.Segments.{Segment, Plain, Test, Halt, Finish, behind, segment, segments}
use Rattle.scc_core_view.specs.Terms.{term_of}
use Rattle.scc_core_view.specs.Codes.{code_of, stmt_code}
use Rattle.scc_states_segments.specs.declared.parts.Part.{Part, fold-Part}
use Rattle.scc_states_segments.specs.declared.parts.PartNode.TheOpen.{PartNode-F, Part-F}
use Rattle.scc_states_segments.specs.declared.parts.PartNode.TheOpen as node

-- the segment that begins here, and those behind the waits from here on, before what follows and what follows each open block around
pub record Walk : Type 0 where
  pub first : Segment → List Segment → Segment
  pub others : Segment → List Segment → List Segment

abbrev pub ended : Walk
ended = record { first = λ x o. x; others = λ x o. [] }

-- parts before what follows them
abbrev pub chain : List (Walk → Walk) → Walk → Walk
chain [] w = w
chain (f ∷ fs) w = f (chain fs w)

abbrev pub whole : Code → Walk → Walk
whole c w = record { first = λ x o. Plain c (w.first x o); others = w.others }

abbrev pub tested : Place → Term → Walk → Walk → Walk → Walk
tested p t a b w = record {
  first = λ x o. Test p t (a.first (w.first x o) o) (b.first (w.first x o) o);
  others = λ x o. a.others (w.first x o) o ++ (b.others (w.first x o) o ++ w.others x o);
}

abbrev pub blocked : Walk → Walk → Walk
blocked b w = record {
  first = λ x o. b.first (w.first x o) (w.first x o ∷ o);
  others = λ x o. b.others (w.first x o) (w.first x o ∷ o) ++ w.others x o;
}

abbrev pub looped : Walk → Walk → Walk
looped b w = record {
  first = λ x o. b.first Finish o;
  others = λ x o. b.others (b.first Finish o) o ++ w.others x o;
}

abbrev pub left : ℕ → Walk → Walk
left n w = record { first = λ x o. behind n o; others = w.others }

abbrev pub halted : Place → ℕ → ℕ → Walk → Walk
halted p n k w = record { first = λ x o. Halt p n k; others = λ x o. w.first x o ∷ w.others x o }

-- the layers of a part over what its parts stand for
abbrev pub Node : Type 0
Node = Place → Walk → Walk

abbrev pub part_node : PartNode-F Node (Walk → Walk) → Node
part_node (node.Plain s) p w = whole (code_of (s ∷ [])) w
part_node (node.Test t a b) p w = tested p (term_of t) (chain a ended) (chain b ended) w
part_node (node.Block b) p w = blocked (chain b ended) w
part_node (node.Loop b) p w = looped (chain b ended) w
part_node (node.Exit n) p w = left n w
part_node (node.Wait n k) p w = halted p n k w

abbrev pub part_step : Part-F Node (Walk → Walk) → Walk → Walk
part_step s = s.node s.place

-- a part before what follows it
abbrev pub part_walk : Part → Walk → Walk
part_walk = fold-Part Node (Walk → Walk) part_node part_step

abbrev pub walk_of : List Part → Walk
walk_of ps = chain (map part_walk ps) ended

-- these are the segments of some code
pub record Walks (w : Walk) (c : Code) : Type 0 where
  pub first : (x : Segment) (o : List Segment) → w.first x o ≡ segment c x o
  pub others : (x : Segment) (o : List Segment) → w.others x o ≡ segments c x o

-- a part is a statement whose waits have the numbers from n on, those behind it from m on
abbrev pub IsPart : ℕ → ℕ → CoreStmt → Part → Type 0
IsPart n m s p = (c : Code) (w : Walk) → Walks w (numbered m c) → Walks (part_walk p w) (numbered n (stmt_code s c))

-- parts are the statements whose waits have the numbers from n on
abbrev pub AreParts : ℕ → List CoreStmt → List Part → Type 0
AreParts n ss ps = Walks (walk_of ps) (numbered n (code_of ss))
