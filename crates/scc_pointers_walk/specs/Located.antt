-- Locations without pointers as the code goes on with them: a name as far as members and static indices go, then the parts behind it. This
-- project's own.
use Rattle.std.specs.Prelude.{ℕ, Bool, true, false, not, ◌&&◌, ◌||◌, nat_eq, nat_lt, if◌then◌else◌, List, [], ◌∷◌, ◌++◌, map, length, slice_get, Option, Some, None, option_map, option_and_then, unwrap_or, is_some}
use Rattle.std.specs.List.{list_any}
use Rattle.scc_base.specs.declared.code.Code.TheVariants as reason
use Rattle.scc_base.specs.declared.names.Name.{Name}
use Rattle.scc_base.specs.declared.path.PathPart.{PathPart}
use Rattle.scc_base.specs.declared.path.PathPart.TheVariants as path_part
use Rattle.scc_base.specs.declared.refusal.Place.{Place}
use Rattle.scc_core.specs.declared.expr.CoreBase.{CoreBase, roll-CoreBase, out-CoreBase}
use Rattle.scc_core.specs.declared.expr.CoreBase.TheOpen.{CoreBase-F}
use Rattle.scc_core.specs.declared.expr.CoreBase.TheOpen as tree
use Rattle.scc_core.specs.declared.expr.CoreExpr.{CoreExpr}
use Rattle.scc_core.specs.declared.expr.CoreExprNode.{CoreExprNode}
use Rattle.scc_core.specs.declared.expr.CoreLeft.{CoreLeft}
use Rattle.scc_core.specs.declared.expr.CorePart.{CorePart, roll-CorePart}
use Rattle.scc_core.specs.declared.expr.CorePick.{CorePick}
use Rattle.scc_core.specs.declared.places.Spot.{Spot}
use Rattle.scc_core.specs.declared.program.Cell.{Cell}
use Rattle.scc_core.specs.declared.program.CellName.{CellName}
use Rattle.scc_core.specs.declared.program.VectorSize2.{VectorSize2}
use Rattle.scc_core.specs.Elements.{Part, Member, Element, step_at}
use Rattle.scc_core.specs.Known.{facts_in}
use Rattle.scc_core.specs.Names.{name_spot, same_part, walk}
use Rattle.scc_core.specs.Names as names
use Rattle.scc_core.specs.Numbers.{small}
use Rattle.scc_core.specs.Statics.{part_in, value_in}
use Rattle.scc_core_spec.specs.First.{refused}
use Rattle.scc_core_spec.specs.Resolved.{Tried, Made, Stopped}
use Rattle.scc_pointers_walk.specs.declared.held.Resolver.{Resolver}
use Rattle.scc_pointers_walk.specs.Led.{led_in}
use Rattle.scc_pointers_walk.specs.Pointers.{is_pointer}

abbrev pub BaseLayer : Type 0
BaseLayer = CoreBase-F CoreBase CoreExprNode CorePart CorePick CoreExpr CoreLeft

-- parts with the values of their indices
abbrev pub seen : Resolver → List CorePart → List Part
seen r ps = map (part_in (facts_in r.known)) ps

abbrev pub cell_name : Resolver → ℕ → Option CellName
cell_name r n = option_map (λ c. c.name) (slice_get r.known.cells.now n)

-- the name with which a base begins
abbrev pub name_in : Resolver → BaseLayer → Option CellName
name_in r (tree.Cell n) = cell_name r n
name_in r (tree.Prefix name) = Some name
name_in r _ = None

abbrev pub name_at : Resolver → CoreBase → Option CellName
name_at r b = name_in r (out-CoreBase b)

-- what a base and parts name
abbrev pub spot_at : Resolver → CoreBase → List CorePart → Option Spot
spot_at r b ps = option_and_then (λ at. walk r.places.now at (map (step_at false) (seen r ps))) (option_and_then (name_spot r.places.now) (name_at r b))

abbrev pub is_open : Part → Bool
is_open (Member n) = false
is_open (Element size None) = true
is_open (Element size (Some v)) = false

-- a member stands behind an index that isn't static, or behind one before
abbrev pub chooses : Bool → List Part → Bool
chooses b [] = false
chooses b (Member n ∷ ps) = b || chooses b ps
chooses b (Element size None ∷ ps) = chooses true ps
chooses b (Element size (Some v) ∷ ps) = chooses b ps

-- ---- sizes of vectors

abbrev pub found_size : Resolver → CoreBase → List CorePart → ℕ
found_size r b ps = unwrap_or (option_and_then (names.size_at r.places.now) (spot_at r b ps)) 0

abbrev pub is_number : Option ℕ → ℕ → Bool
is_number None i = false
is_number (Some n) i = nat_eq n i

-- a part may be that of a path, whatever an index is that isn't static
abbrev pub fits_one : Part → PathPart → Bool
fits_one (Member n) (path_part.Member m) = nat_eq n.0 m.0
fits_one (Element size None) (path_part.Index i) = nat_lt i size
fits_one (Element size (Some v)) (path_part.Index i) = is_number (small v) i
fits_one (Member n) (path_part.Index i) = false
fits_one (Element size v) (path_part.Member m) = false

abbrev pub fits : List Part → List PathPart → Bool
fits [] [] = true
fits [] (q ∷ qs) = false
fits (p ∷ ps) [] = false
fits (p ∷ ps) (q ∷ qs) = fits_one p q && fits ps qs

abbrev pub rest_behind : List PathPart → List PathPart → Option (List PathPart)
rest_behind path [] = Some path
rest_behind [] (f ∷ fs) = None
rest_behind (p ∷ ps) (f ∷ fs) = if same_part p f then rest_behind ps fs else None

abbrev pub may_name : CellName → List Part → List PathPart → Bool
may_name front ps path = if is_some front.local then false else unwrap_or (option_map (fits ps) (rest_behind path front.path)) false

abbrev pub first_size : (VectorSize2 → Bool) → List VectorSize2 → ℕ
first_size f [] = 0
first_size f (v ∷ vs) = if f v then v.size else first_size f vs

abbrev pub size_by : Resolver → CoreLeft → ℕ → Option CellName → ℕ
size_by r l size None = size
size_by r l size (Some front) =
    if chooses false (seen r l.parts) then size
    else (if list_any is_open (seen r l.parts) then first_size (λ v. may_name front (seen r l.parts) v.path) r.vectors.now else found_size r l.base l.parts)

abbrev pub known_size : Resolver → CoreLeft → ℕ → ℕ
known_size r l size = size_by r l size (name_at r l.base)

abbrev pub size_of : Resolver → CoreLeft → ℕ → ℕ
size_of r l size = if nat_eq size 4294967295 then known_size r l size else size

-- ---- locations with one more part

abbrev pub with_base : CoreLeft → CoreBase → CoreLeft
with_base l b = record { place = l.place; base = b; parts = l.parts; pick = l.pick }

abbrev pub cell_or_name : ℕ → Option CellName → CoreBase
cell_or_name n None = roll-CoreBase (tree.Cell n)
cell_or_name n (Some name) = roll-CoreBase (tree.Prefix name)

abbrev pub named_in : Resolver → BaseLayer → CoreBase
named_in r (tree.Cell n) = cell_or_name n (cell_name r n)
named_in r (tree.Prefix name) = roll-CoreBase (tree.Prefix name)
named_in r (tree.Follow l soft) = roll-CoreBase (tree.Follow l soft)
named_in r tree.Null = roll-CoreBase tree.Null

abbrev pub named_base : Resolver → CoreBase → CoreBase
named_base r b = named_in r (out-CoreBase b)

-- a cell of which parts are named is its name
abbrev pub as_name : Resolver → CoreLeft → CoreLeft
as_name r l = if nat_eq (length l.parts) 0 then with_base l (named_base r l.base) else l

abbrev pub longer_by : CellName → Option (ℕ × Name) → PathPart → CellName
longer_by n (Some l) (path_part.Index i) = record { path = n.path; local = n.local; indices = n.indices ++ i ∷ [] }
longer_by n (Some l) (path_part.Member m) = record { path = n.path ++ path_part.Member m ∷ []; local = n.local; indices = n.indices }
longer_by n None p = record { path = n.path ++ p ∷ []; local = n.local; indices = n.indices }

-- a name with one more part: behind a local an index of it
abbrev pub longer : CellName → PathPart → CellName
longer n p = longer_by n n.local p

abbrev pub longer_in : BaseLayer → PathPart → CoreBase
longer_in (tree.Prefix name) p = roll-CoreBase (tree.Prefix (longer name p))
longer_in (tree.Cell n) p = roll-CoreBase (tree.Cell n)
longer_in (tree.Follow l soft) p = roll-CoreBase (tree.Follow l soft)
longer_in tree.Null p = roll-CoreBase tree.Null

abbrev pub longer_base : CoreBase → PathPart → CoreBase
longer_base b p = longer_in (out-CoreBase b) p

abbrev pub grown : CoreLeft → PathPart → CoreLeft
grown l p = with_base l (longer_base l.base p)

abbrev pub with_more : CoreLeft → CorePart → CoreLeft
with_more l p = record { place = l.place; base = l.base; parts = l.parts ++ p ∷ []; pick = l.pick }

-- a name alone; behind a local stands no member
abbrev pub member_behind : BaseLayer → Bool → Bool
member_behind (tree.Prefix name) alone = alone && not (is_some name.local)
member_behind _ alone = false

abbrev pub index_behind : BaseLayer → Bool → Bool
index_behind (tree.Prefix name) alone = alone
index_behind _ alone = false

abbrev pub takes_member : CoreLeft → Bool
takes_member l = member_behind (out-CoreBase l.base) (nat_eq (length l.parts) 0)

abbrev pub takes_index : CoreLeft → Bool
takes_index l = index_behind (out-CoreBase l.base) (nat_eq (length l.parts) 0)

abbrev pub member_on : CoreLeft → Name → CoreLeft
member_on l n = if takes_member l then grown l (path_part.Member n) else with_more l (roll-CorePart (tree.Member n))

-- a member of what stands at a location
abbrev pub member_in : Resolver → CoreLeft → Name → CoreLeft
member_in r l n = member_on (as_name r l) n

-- the number of an element that is inside
abbrev pub inside : Resolver → CoreExpr → ℕ → Option ℕ
inside r at size = option_and_then (λ v. option_and_then (λ i. if nat_lt i size then Some i else None) (small v)) (value_in (facts_in r.known) at)

abbrev pub element_at : CoreLeft → ℕ → CoreExpr → Option ℕ → CoreLeft
element_at l size at (Some i) = grown l (path_part.Index i)
element_at l size at None = with_more l (roll-CorePart (tree.Index size at))

abbrev pub element_on : Resolver → CoreLeft → ℕ → CoreExpr → CoreLeft
element_on r l size at = if takes_index l then element_at l size at (inside r at size) else with_more l (roll-CorePart (tree.Index size at))

-- an element of what stands at a location
abbrev pub element_in : Resolver → CoreLeft → ℕ → CoreExpr → CoreLeft
element_in r l size at = element_on r (as_name r l) (size_of r (as_name r l) size) at

-- ---- whole locations

abbrev pub root_in : Resolver → ℕ → ℕ
root_in r n = names.root_at r.places.now r.known.cells.now n

abbrev pub cell_in : Resolver → BaseLayer → Option ℕ
cell_in r (tree.Cell n) = Some (root_in r n)
cell_in r (tree.Prefix name) = option_and_then (λ at. option_map (root_in r) (names.cell_at r.places.now at)) (name_spot r.places.now name)
cell_in r _ = None

-- the root of the cell that a base is by itself
abbrev pub whole_cell : Resolver → CoreBase → Option ℕ
whole_cell r b = cell_in r (out-CoreBase b)

abbrev pub cell_or_pointer : ℕ → Option Cell → CoreBase
cell_or_pointer n None = roll-CoreBase (tree.Cell n)
cell_or_pointer n (Some c) = if is_pointer c then roll-CoreBase (tree.Prefix c.name) else roll-CoreBase (tree.Cell n)

-- the cell of a pointer stands by its name
abbrev pub cell_base : Resolver → ℕ → CoreBase
cell_base r n = cell_or_pointer n (slice_get r.known.cells.now n)

abbrev pub whole_by : Resolver → CoreLeft → Option ℕ → CoreLeft
whole_by r l None = l
whole_by r l (Some n) = with_base l (cell_base r n)

abbrev pub whole_in : Resolver → CoreLeft → CoreLeft
whole_in r l = if nat_eq (length l.parts) 0 then whole_by r l (whole_cell r l.base) else l

-- an object is chosen by an index that isn't static
abbrev pub is_chosen : Resolver → CoreLeft → Bool
is_chosen r l = is_some (name_at r l.base) && chooses false (seen r l.parts)

-- some index isn't static; the other answer stands where nothing is named
abbrev pub is_one_of : Resolver → CoreLeft → Bool → Bool
is_one_of r l other = if is_some (name_at r l.base) then list_any is_open (seen r l.parts) else other

abbrev pub looked_in : Resolver → CoreLeft → Tried CoreLeft
looked_in r l = if is_chosen r l then Stopped (refused reason.StaticIndex l.place) else Made (whole_in r l)

abbrev pub pointer_in : Resolver → CoreLeft → Option ℕ
pointer_in r l = option_and_then (names.pointer_at r.places.now) (spot_at r l.base l.parts)

abbrev pub target_at : Resolver → Place → Option ℕ → Option CoreLeft
target_at r p None = None
target_at r p (Some n) = led_in r p n

-- where the pointer leads that stands at a location
abbrev pub pointed_in : Resolver → CoreLeft → Tried (Option CoreLeft)
pointed_in r l = if is_one_of r l false then Stopped (refused reason.StaticIndex l.place) else Made (target_at r l.place (pointer_in r l))

-- a target: every index of it is static
abbrev pub aimed_in : Resolver → CoreLeft → Place → Tried CoreLeft
aimed_in r l p = if is_chosen r l then Stopped (refused reason.StaticIndex l.place)
    else (if is_one_of r l true then Stopped (refused reason.StaticIndex p) else Made l)
