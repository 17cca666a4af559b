-- Copied bodies: calls by what they do, names by cells (ISO C++ [expr.call], [dcl.init.ref]). A call is a block of the assignment of 0 to its result, of
-- its parameters, and of the function's body; `return` is the assignment of the result and an exit of that block.
use Rattle.std.specs.Prelude.{ℕ, Bool, true, false, ◌&&◌, List, [], ◌∷◌, Option, Some, None, option_map, slice_get, unwrap_or, if◌then◌else◌}
use Rattle.scc_base.specs.declared.refusal.Place.{Place}
use Rattle.scc_semantics.specs.Location.{Part, Root}
use Rattle.scc_semantics.specs.Location as location
use Rattle.scc_core_spec.specs.Term as core
use Rattle.scc_core_spec.specs.Term.{CellName, Own}
use Rattle.scc_core_spec.specs.Code as stmt
use Rattle.scc_core_spec.specs.Program as prog
use Rattle.scc_core_spec.specs.Resolved.{placed}
use Rattle.scc_core_spec.specs.Fold.{member_of, element_of, named, unknown}
use Rattle.scc_elab_spec.specs.Term.{Term, Literal, Load, Read, Convert, Unary, Binary, Choose, Bit, Range, Join, Left, Local, Answer, This, Follow, Index, Pick, Whole, OneBit, Bits, Target, Null, Address, Copy, Argument, Value, Leads, ModuleName}
use Rattle.scc_elab_spec.specs.Term as term
use Rattle.scc_elab_spec.specs.Program.{Count, Function, Plain, Member}
use Rattle.scc_elab_spec.specs.Types.{declared_at, sizes_at, points_at, is_reference}
use Rattle.scc_elab_spec.specs.Numbering.{number_of}

-- what a copy of a function works with
pub record Here : Type 0 where
  pub plain : Plain
  pub cells : List prog.Cell
  pub vectors : List prog.Vector
  -- the process, the path of its name, and its locals in order
  pub process : ℕ
  pub path : List Part
  pub order : List Root
  -- the calls that lead here, from the innermost; the function; its object
  pub calls : List ℕ
  pub function : Function
  pub this : core.Left

-- the name of a local or result, with its identifier and the indices of an element
abbrev pub own_name : Here → Root → ℕ → List ℕ → CellName
own_name h r identifier indices = record { path = h.path; own = Some (record { number = number_of h.order r; identifier = identifier }); indices = indices }

abbrev pub local_root : Here → ℕ → Root
local_root h n = location.Local h.process h.calls n

abbrev pub local_name : Here → ℕ → List ℕ → CellName
local_name h n indices = own_name h (local_root h n) (unwrap_or (option_map (λ m. m.name) (slice_get h.function.locals n)) 0) indices

abbrev pub answer_name : Here → List ℕ → Function → CellName
answer_name h cs f = own_name h (location.Answer h.process cs) f.name []

-- a location whose last declaration is a reference leads on, where it is asked to
abbrev pub refer : Here → Place → Bool → Option Member → core.Left → core.Left
refer h p follow None l = l
refer h p follow (Some m) l = if follow && is_reference m.shape.reach then core.Follow p false (named h.cells h.vectors true l) else l

abbrev pub size_here : List ℕ → ℕ
size_here [] = unknown
size_here (n ∷ ns) = n

module _ (h : Here) (result_of : ℕ → CellName) where
  abbrev mutual
    -- with what it stands in; what it names by itself is its cell behind that
    pub located : Bool → Left → core.Left
    located follow (Local p n) = refer h p follow (slice_get h.function.locals n) (core.Prefix p (local_name h n []))
    located follow (Answer p n) = core.Prefix p (result_of n)
    located follow (This p) = placed p h.this
    located follow (Follow p l) = core.Follow p false (named h.cells h.vectors (points_at h.plain h.function l) (located true l))
    located follow (term.Member l m) = refer h (term.place_at l) follow (declared_at h.plain h.function (term.Member l m))
        (member_of h.cells h.vectors (located true l) (unwrap_or (option_map (λ k. k.name) (declared_at h.plain h.function (term.Member l m))) 0))
    located follow (Index l e) = element_of h.cells h.vectors (located true l) (size_here (sizes_at h.plain h.function l)) (copied e)

    pub copied : Term → core.Term
    copied (Literal p k w) = core.Literal p k w
    copied (Load p k l) = core.Load p k (named h.cells h.vectors (points_at h.plain h.function l) (located true l))
    copied (Read p k l) = core.Read p k (named h.cells h.vectors (points_at h.plain h.function l) (located true l))
    copied (Convert p k e) = core.Convert p k (copied e)
    copied (Unary p k o a) = core.Unary p k o (copied a)
    copied (Binary p k o a b) = core.Binary p k o (copied a) (copied b)
    copied (Choose p k t a b) = core.Choose p k (copied t) (copied a) (copied b)
    copied (Bit p a e) = core.Bit p (copied a) (copied e)
    copied (Range p k a m l) = core.Range p k (copied a) m l
    copied (Join p k a b) = core.Join p k (copied a) (copied b)

  -- a location; a reference that it ends with is followed where it is asked to
  abbrev pub left_of : Bool → Left → core.Left
  left_of follow l = named h.cells h.vectors (points_at h.plain h.function l) (located follow l)

  abbrev pub pick_of : Pick → core.Pick
  pick_of Whole = core.Whole
  pick_of (OneBit e) = core.OneBit (copied e)
  pick_of (Bits m l) = core.Bits m l

  abbrev pub target_of : Place → Target → core.Left
  target_of p Null = core.Null p
  target_of p (Address l) = left_of true l
  target_of p (Copy l) = core.Follow (term.place_at l) false (left_of true l)

  abbrev pub count_of : Count → Option stmt.Count
  count_of c = option_map (λ n. record { cell = n; start = copied c.start; compare = c.compare; bound = copied c.bound; step_op = c.step_op; step = copied c.step }) (cell_in (named h.cells h.vectors false (core.Prefix (term.place_of c.start) (local_name h c.counter []))))
    where
      cell_in : core.Left → Option ℕ
      cell_in (core.Cell p n) = Some n
      cell_in l = None
