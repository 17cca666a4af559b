-- Locations as far as their names are known: members and static indices in range go into the name, a whole name is its cell, and a port below the
-- top its root's. This project's own.
use Rattle.std.specs.Prelude.{ℕ, Bool, nat_eq, nat_lt, List, [], ◌∷◌, ◌++◌, Option, Some, None, option_map, slice_get, unwrap_or, if◌then◌else◌}
use Rattle.scc_base.specs.declared.refusal.Place.{Place}
use Rattle.scc_semantics.specs.Location.{Part, Element}
use Rattle.scc_semantics.specs.Location as location
use Rattle.scc_semantics.specs.Scene.{index_of}
use Rattle.scc_core_spec.specs.Term.{Term, Left, Cell, Prefix, Member, Index, CellName, Own, kind_of}
use Rattle.scc_core_spec.specs.Program.{Vector}
use Rattle.scc_core_spec.specs.Named.{Step, steps_of, cell_at, path_steps, fits, chooses_object}
use Rattle.scc_core_spec.specs.Static.{Cells, static, pattern}
use Rattle.scc_core_spec.specs.Uses.{root_of}

-- a name with one more part: behind a local an index of it
abbrev pub extended : CellName → Part → CellName
extended n part = extended_by n.own part
  where
    extended_by : Option Own → Part → CellName
    extended_by (Some o) (location.Element i) = record { path = n.path; own = Some o; indices = n.indices ++ i ∷ [] }
    extended_by own part = record { path = n.path ++ part ∷ []; own = own; indices = n.indices }

-- the number of elements of a vector before it is known
abbrev pub unknown : ℕ
unknown = 4294967295

abbrev pub size_at : List Vector → List Step → ℕ
size_at [] p = 0
size_at (v ∷ vs) p = if fits p (path_steps v.path) then v.size else size_at vs p

-- The vectors of one array have one size, so an index before doesn't matter; of vectors in several objects the object has to be chosen first. Where
-- no vector is, behind an index past the end too, the size is 0.
abbrev pub known_size : List Vector → ℕ → Option (List Step) → ℕ
known_size vs size None = size
known_size vs size (Some p) = if chooses_object p then size else size_at vs p

module _ (cs : Cells) (vs : List Vector) where
  abbrev pub size_of : ℕ → Left → ℕ
  size_of size l = if nat_eq size unknown then known_size vs size (pattern cs l) else size

  -- a cell of which parts are named is its name
  abbrev pub as_name : Left → Left
  as_name (Cell p n) = unwrap_or (option_map (λ c. Prefix p c.name) (slice_get cs n)) (Cell p n)
  as_name l = l

  -- behind a local stands no member
  abbrev pub member_behind : Place → CellName → Option Own → ℕ → Left
  member_behind p n None name = Prefix p (extended n (location.Member name))
  member_behind p n (Some o) name = Member (Prefix p n) name

  abbrev pub member_of : Left → ℕ → Left
  member_of (Prefix p n) name = member_behind p n n.own name
  member_of l name = Member l name

  abbrev pub in_range : ℕ → Option ℕ → Option ℕ
  in_range size None = None
  in_range size (Some i) = if nat_lt i size then Some i else None

  abbrev pub static_index : Term → Option ℕ
  static_index e = option_map (λ w. index_of (kind_of e) w) (static cs e)

  abbrev pub element_or : Left → Option ℕ → Left → Left
  element_or (Prefix p n) (Some i) other = Prefix p (extended n (Element i))
  element_or l i other = other

  abbrev pub element_of : Left → ℕ → Term → Left
  element_of l size e = element_or l (in_range (size_of size l) (static_index e)) (Index l (size_of size l) e)

  -- the cell of a whole name
  abbrev pub named : Bool → Left → Left
  named pointer (Prefix p n) = unwrap_or (option_map (Cell p) (cell_at pointer 0 (steps_of n) cs)) (Prefix p n)
  named pointer l = l

  -- the cell of a whole name, a pointer's where it is one
  abbrev pub whole : Bool → Left → Left
  whole pointer (Prefix p n) = unwrap_or (option_map (λ c. Cell p (if pointer then c else root_of cs c)) (cell_at pointer 0 (steps_of n) cs)) (Prefix p n)
  whole pointer (Cell p n) = Cell p (if pointer then n else root_of cs n)
  whole pointer l = l
