-- Resolved bodies: objects in place of the pointers and references that lead to them (ISO C++ [dcl.ref], [dcl.ptr]), and what is refused. This
-- project's own: where each leads is known before anything runs.
use Rattle.std.specs.Prelude.{ℕ, Bool, true, false, ◌||◌, List, [], Option, Some, None, option_map, option_and_then, unwrap_or, is_some, slice_get, if◌then◌else◌}
use Rattle.scc_base.specs.declared.refusal.Place.{Place}
use Rattle.scc_base.specs.declared.refusal.Refusal.{Refusal}
use Rattle.scc_base.specs.declared.code.Code.TheVariants as reason
use Rattle.scc_core_spec.specs.Term.{Term, Literal, Load, Read, Convert, Unary, Binary, Choose, Bit, Range, Join, Left, Cell, Prefix, Null, Follow, Member, Index, place_at}
use Rattle.scc_core_spec.specs.Program.{Vector, Pointer, Sort, is_pointer}
use Rattle.scc_core_spec.specs.Program as program
use Rattle.scc_core_spec.specs.Named.{cell_at, is_open, chooses_object}
use Rattle.scc_core_spec.specs.Static.{Cells, pattern}
use Rattle.scc_core_spec.specs.Uses.{sort_at}
use Rattle.scc_core_spec.specs.Fold.{as_name, member_of, element_of, whole}
use Rattle.scc_core_spec.specs.First.{refused}

-- it went well, or a refusal was met first
pub data Tried (A : Type 0) : Type 0 where
  Made : A → Tried A
  Stopped : Refusal → Tried A

abbrev pub and_made : {A B : Type 0} → Tried A → (A → Tried B) → Tried B
and_made (Made a) f = f a
and_made (Stopped r) f = Stopped r

abbrev pub made_map : {A B : Type 0} → (A → B) → Tried A → Tried B
made_map f (Made a) = Made (f a)
made_map f (Stopped r) = Stopped r

-- What is known at a statement: the cells, the vectors, and where the local pointers lead that were declared before it.
pub record Leads : Type 0 where
  pub cells : Cells
  pub vectors : List Vector
  pub local : ℕ → Option (Option Left)

-- the location with another place
abbrev pub placed : Place → Left → Left
placed p (Cell q n) = Cell p n
placed p (Prefix q n) = Prefix p n
placed p (Null q) = Null p
placed p (Follow q s l) = Follow p s l
placed p (Member l n) = Member (placed p l) n
placed p (Index l size e) = Index (placed p l) size e

-- where construction left a pointer
abbrev pub left_by : Place → Option Sort → Option Left
left_by p (Some (Pointer (Some path))) = Some (Prefix p (record { path = path; own = None; indices = [] }))
left_by p _ = None

abbrev pub is_local_name : Option program.Cell → Bool
is_local_name None = false
is_local_name (Some c) = is_some c.name.own

abbrev pub led_by : Leads → Place → ℕ → Option (Option Left) → Tried (Option Left)
led_by s p n (Some t) = Made (option_map (placed p) t)
led_by s p n None = if is_local_name (slice_get s.cells n) then Stopped (refused reason.EmptyPointer p) else Made (left_by p (sort_at s.cells n))

-- Where the pointer of a cell leads, None for null. A local one leads nowhere before its declaration, and none is looked at there.
abbrev pub leads_to : Leads → Place → ℕ → Tried (Option Left)
leads_to s p n = led_by s p n (s.local n)

abbrev pub pointer_there : Leads → Place → Option ℕ → Tried (Option Left)
pointer_there s p None = Made None
pointer_there s p (Some n) = leads_to s p n

-- where the pointer leads that stands at a location without pointers; one that an index which isn't static chooses is refused (E512)
abbrev pub pointed : Leads → Left → Tried (Option Left)
pointed s l = if unwrap_or (option_map is_open (pattern s.cells l)) false then Stopped (refused reason.StaticIndex (place_at l))
    else pointer_there s (place_at l) (option_and_then (λ q. cell_at true 0 q s.cells) (pattern s.cells l))

-- the cell of a pointer stands by its name, since that cell is no more behind this
abbrev pub named_pointer : Place → ℕ → Option program.Cell → Left
named_pointer p n None = Cell p n
named_pointer p n (Some c) = if is_pointer c.sort then Prefix p c.name else Cell p n

abbrev pub without_pointer : Cells → Left → Left
without_pointer cs (Cell p n) = named_pointer p n (slice_get cs n)
without_pointer cs l = l

-- an object that an index which isn't static chooses is refused; a whole name is its cell
abbrev pub looked : Leads → Left → Tried Left
looked s l = if unwrap_or (option_map chooses_object (pattern s.cells l)) false then Stopped (refused reason.StaticIndex (place_at l))
    else Made (without_pointer s.cells (whole s.cells s.vectors false l))

-- null that is followed is refused (E405); in a target it is null
abbrev pub or_null : Bool → Place → Option Left → (Left → Tried (Option Left)) → Tried (Option Left)
or_null soft p (Some l) f = f l
or_null true p None f = Made None
or_null false p None f = Stopped (refused reason.EmptyPointer p)

abbrev pub behind : Option Left → (Left → Tried (Option Left)) → Tried (Option Left)
behind None f = Made None
behind (Some l) f = f l

-- outside targets no location is null by itself
abbrev pub sure : {A : Type 0} → Place → Option Left → (Left → Tried A) → Tried A
sure p (Some l) f = f l
sure p None f = Stopped (refused reason.EmptyPointer p)

abbrev mutual
  pub resolved : Leads → Term → Tried Term
  resolved s (Literal p k w) = Made (Literal p k w)
  resolved s (Load p k l) = and_made (walked s false l) (λ o. sure (place_at l) o (λ m. made_map (Load p k) (looked s m)))
  resolved s (Read p k l) = and_made (walked s false l) (λ o. sure (place_at l) o (λ m. made_map (Read p k) (looked s m)))
  resolved s (Convert p k e) = made_map (Convert p k) (resolved s e)
  resolved s (Unary p k o a) = made_map (Unary p k o) (resolved s a)
  resolved s (Binary p k o a b) = and_made (resolved s a) (λ x. made_map (Binary p k o x) (resolved s b))
  resolved s (Choose p k t a b) = and_made (resolved s t) (λ n. and_made (resolved s a) (λ x. made_map (Choose p k n x) (resolved s b)))
  -- the index of a variable's bit is looked at before the object in which the variable is
  resolved s (Bit p (Load q k l) e) = and_made (walked s false l) (λ o. sure (place_at l) o (λ m. and_made (resolved s e) (λ i. made_map (λ n. Bit p (Load q k n) i) (looked s m))))
  resolved s (Bit p a e) = and_made (resolved s a) (λ x. made_map (Bit p x) (resolved s e))
  resolved s (Range p k a h l) = made_map (λ x. Range p k x h l) (resolved s a)
  resolved s (Join p k a b) = and_made (resolved s a) (λ x. made_map (Join p k x) (resolved s b))

  -- A location without pointers, None for null, which a soft one alone comes to: its pointer first, then its indices from left to right;
  -- behind null no index is looked at.
  pub walked : Leads → Bool → Left → Tried (Option Left)
  walked s soft (Cell p n) = Made (Some (Cell p n))
  walked s soft (Prefix p n) = Made (Some (Prefix p n))
  walked s soft (Null p) = Made None
  walked s soft (Follow p own l) = and_made (walked s (soft || own) l) (λ o. and_made (behind o (pointed s)) (λ t. or_null soft p t (λ m. Made (Some (placed p m)))))
  walked s soft (Member l n) = and_made (walked s soft l) (λ o. behind o (λ m. Made (Some (member_of s.cells s.vectors (as_name s.cells s.vectors m) n))))
  walked s soft (Index l size e) = and_made (walked s soft l) (λ o. behind o (λ m. made_map (λ x. Some (element_of s.cells s.vectors (as_name s.cells s.vectors m) size x)) (resolved s e)))
