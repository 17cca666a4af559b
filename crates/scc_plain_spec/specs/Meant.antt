-- What an expression of a body names, and what is made of it (ISO C++ [expr.post], [expr.unary.op], [conv.ptr]; IEEE 1666-2011, 6, 7.2, 8.5).
use Rattle.std.specs.Prelude.{ℕ, zero, suc, nat_eq, nat_lt, Bool, true, false, not, ◌&&◌, ◌||◌, Option, Some, None, option_and_then, if◌then◌else◌}
use Rattle.scc_base.specs.declared.refusal.Place.{Place}
use Rattle.scc_base.specs.declared.code.Code.TheVariants as reason
use Rattle.scc_bits_kinds.specs.declared.kind.Kind.{Kind}
use Rattle.scc_bits_kinds.specs.declared.kind.Kind.TheVariants as kind
use Rattle.scc_bits_kinds.specs.Groups.{group_of, is_small}
use Rattle.scc_bits_kinds.specs.Table.{has_bits}
use Rattle.scc_templates_spec.specs.Walked.{Walked, pure, fault, and_walk}
use Rattle.scc_templates_spec.specs.World.{Owner, File, In}
use Rattle.scc_elab_spec.specs.Term.{Term, Load, Read, Left, Answer, This, Follow, Index, Pick, OneBit, Target, Null, Address, Copy}
use Rattle.scc_elab_spec.specs.Program.{Reach, Direct, Pointer, Reference}
use Rattle.scc_plain_spec.specs.Types.{Base, OfNumber, OfObject, OfName}
use Rattle.scc_plain_spec.specs.Drafts.{Draft, kind_in, drafted}
use Rattle.scc_plain_spec.specs.Forms.{Form, direct, is_pointer, is_whole, is_like, value_kind, BitsOf, Loc, located, is_all, picked, value_at, Subject, OfDraft, OfLoc, location_in}

pub data Meant : Type 0 where
  Valued : (draft : Draft) → Meant
  Stands : (loc : Loc) → Meant
  -- a function with the place of its name, and the object that is written
  Function : (owner : Owner) (name : ℕ) (object : Option Left) (place : Place) → Meant
  -- the name of a call of the language
  Built : (method : ℕ) (of : Subject) → Meant
  -- a call that stands only as a statement or in a sensitivity, by its name
  Done : (method : ℕ) (of : Subject) → Meant
  -- a call of a function without a result
  Void : Meant
  Nothing : Meant
  Own : Meant
  At : (loc : Loc) → Meant
  Words : Meant

-- as a value, refused at a place where there is none (E304)
abbrev pub taken : Place → Meant → Walked Draft
taken p (Valued x) = pure x
taken p (Stands l) = value_at p l
taken p m = fault reason.Mismatch p

abbrev pub location : Meant → Option Left
location (Stands l) = location_in (OfLoc l)
location m = None

abbrev pub is_answer : Term → Bool
is_answer (Load p k (Answer q n)) = true
is_answer e = false

-- a call of a function: its result, or one without
abbrev pub is_call : Meant → Bool
is_call Void = true
is_call (Valued x) = is_answer x.term
is_call m = false

abbrev pub is_name : Base → Bool
is_name OfName = true
is_name b = false

-- the name of a module, which an `sc_module_name` is given
abbrev pub is_module_name : Meant → Bool
is_module_name (Stands l) = is_name l.form.base && is_whole l.form
is_module_name Words = true
is_module_name m = false

-- what a pointer leads to; an object behind `this` in a body of a class
abbrev pub behind : Place → Loc → Walked Loc
behind p l = if is_pointer l.form && nat_eq l.form.dims 0
    then pure (located (Follow p l.left) (record { base = l.form.base; reach = Direct; vector = l.form.vector; dims = 0 }))
    else fault reason.Mismatch p

abbrev pub own_object : Place → Owner → Walked Loc
own_object p File = fault reason.Mismatch p
own_object p (In c as_given) = pure (located (This p) (direct (OfObject c as_given)))

abbrev pub followed : Place → Owner → Meant → Walked Loc
followed p o Own = own_object p o
followed p o (At l) = pure l
followed p o (Stands l) = behind p l
followed p o m = fault reason.Mismatch p

abbrev pub addressed : Place → Meant → Walked Meant
addressed p (Stands l) = if nat_eq l.form.dims 0 && is_all l.taken then pure (At l) else fault reason.Mismatch p
addressed p m = fault reason.Mismatch p

-- what a reference or pointer of a form is given: a reference the thing itself, a pointer what another one holds, an address, an object's own, or null
abbrev pub aimed : Place → Owner → Form → Meant → Walked Target
aimed p o f (Stands l) = if nat_eq l.form.dims 0 && (is_all l.taken && is_like l.form f) then by_reach f.reach (is_pointer l.form) else fault reason.Mismatch p
  where
    by_reach : Reach → Bool → Walked Target
    by_reach Reference false = pure (Address l.left)
    by_reach Pointer true = pure (Copy l.left)
    by_reach r b = fault reason.Mismatch p
aimed p o f (At l) = if is_pointer f && (not (is_pointer l.form) && is_like l.form f) then pure (Address l.left) else fault reason.Mismatch p
aimed p o f Nothing = if is_pointer f then pure Null else fault reason.Mismatch p
aimed p o f Own = if is_pointer f then and_walk (own_object p o) (λ l. if is_like f l.form then pure (Address l.left) else fault reason.Mismatch p) else fault reason.Mismatch p
aimed p o f m = fault reason.Mismatch p

-- Elements and bits: of a variable, or of what a port or signal shows.
abbrev pub is_read : Term → Bool
is_read (Read p k l) = true
is_read e = false

abbrev pub with_bits : Kind → Option Kind
with_bits k = if has_bits (group_of k) then Some k else None

abbrev pub bits_of : Subject → Option Kind
bits_of (OfDraft x) = if is_read x.term then with_bits (kind_in x) else None
bits_of (OfLoc l) = if is_whole l.form && is_all l.taken then option_and_then with_bits (value_kind l.form.base) else None

abbrev pub some_bits : Place → Kind → Pick → Subject → Walked Meant
some_bits p k pick (OfDraft x) = pure (Valued (drafted p (picked p k x.term pick)))
some_bits p k pick (OfLoc l) = by_base l.form.base
  where
    by_base : Base → Walked Meant
    by_base (OfNumber j) = pure (Stands (record { left = l.left; form = l.form; taken = BitsOf pick k }))
    by_base b = and_walk (value_at p l) (λ x. pure (Valued (drafted p (picked p k x.term pick))))

abbrev pub bit : Place → Draft → Subject → Walked Meant
bit p i s = by_kind (bits_of s)
  where
    by_kind : Option Kind → Walked Meant
    by_kind None = fault reason.Mismatch p
    by_kind (Some k) = some_bits p kind.Bool (OneBit i.term) s

abbrev pub inner_form : Form → Form
inner_form f = by_dims f.dims
  where
    by_dims : ℕ → Form
    by_dims zero = direct f.base
    by_dims (suc n) = record { base = f.base; reach = f.reach; vector = f.vector; dims = n }

abbrev pub has_elements : Form → Bool
has_elements f = nat_lt 0 f.dims || (f.vector && not (is_pointer f))

abbrev pub at_index : Place → Draft → Meant → Walked Meant
at_index p i (Stands l) = if has_elements l.form then pure (Stands (located (Index l.left i.term) (inner_form l.form))) else bit p i (OfLoc l)
at_index p i (Valued x) = bit p i (OfDraft x)
at_index p i m = fault reason.Mismatch p

abbrev pub indexed : Place → Meant → Draft → Walked Meant
indexed p m i = if is_small (group_of (kind_in i)) then at_index p i m else fault reason.Mismatch p
