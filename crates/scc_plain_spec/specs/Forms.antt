-- What variables hold, locations, and what expressions of bodies name (ISO C++ [expr.ref], [expr.unary.op], [conv.ptr], [dcl.init.ref]).
use Rattle.std.specs.Prelude.{ℕ, nat_eq, Bool, true, false, not, ◌&&◌, List, length, Option, Some, None, if◌then◌else◌}
use Rattle.scc_base.specs.declared.refusal.Place.{Place}
use Rattle.scc_base.specs.declared.code.Code.TheVariants as reason
use Rattle.scc_bits_kinds.specs.declared.kind.Kind.{Kind}
use Rattle.scc_tree.specs.declared.local.Hold.{Hold}
use Rattle.scc_tree.specs.declared.local.Hold.TheVariants as hold
use Rattle.scc_templates_spec.specs.Walked.{Walked, pure, fault}
use Rattle.scc_elab_spec.specs.Term.{Term, Load, Read, Bit, Range, Left, Pick, Whole, OneBit, Bits}
use Rattle.scc_elab_spec.specs.Program.{Reach, Direct, Pointer, Reference}
use Rattle.scc_plain_spec.specs.Types.{Base, OfNumber, InPort, OutPort, OfSignal, same_base}
use Rattle.scc_plain_spec.specs.Drafts.{Draft, drafted}

-- what a variable holds: its base behind so many arrays
pub record Form : Type 0 where
  pub base : Base
  pub reach : Reach
  pub vector : Bool
  pub dims : ℕ

-- the same with the sizes of the arrays
pub record Shape : Type 0 where
  pub base : Base
  pub reach : Reach
  pub vector : Bool
  pub sizes : List ℕ

abbrev pub form_of : Shape → Form
form_of s = record { base = s.base; reach = s.reach; vector = s.vector; dims = length s.sizes }

abbrev pub direct : Base → Form
direct b = record { base = b; reach = Direct; vector = false; dims = 0 }

abbrev pub reach_of : Hold → Reach
reach_of hold.Direct = Direct
reach_of hold.Pointer = Pointer
reach_of hold.Reference = Reference

abbrev pub is_pointer : Form → Bool
is_pointer f = by_reach f.reach
  where
    by_reach : Reach → Bool
    by_reach Pointer = true
    by_reach r = false

abbrev pub is_direct : Form → Bool
is_direct f = by_reach f.reach
  where
    by_reach : Reach → Bool
    by_reach Direct = true
    by_reach r = false

-- nothing of an array, vector or pointer is left to take; a reference is the thing that it leads to
abbrev pub is_whole : Form → Bool
is_whole f = nat_eq f.dims 0 && (not f.vector && not (is_pointer f))

-- two of one type
abbrev pub is_like : Form → Form → Bool
is_like f g = same_base f.base g.base && (if f.vector then g.vector else not g.vector)

abbrev pub port_kind : Base → Option Kind
port_kind (InPort k) = Some k
port_kind (OutPort k) = Some k
port_kind (OfSignal k) = Some k
port_kind b = None

abbrev pub value_kind : Base → Option Kind
value_kind (OfNumber k) = Some k
value_kind b = port_kind b

abbrev pub is_port : Form → Bool
is_port f = is_whole f && has_kind (port_kind f.base)
  where
    has_kind : Option Kind → Bool
    has_kind None = false
    has_kind (Some k) = true

-- a location, or bits of a kind of the number there
pub data Taken : Type 0 where
  AllOf : Taken
  BitsOf : (pick : Pick) (kind : Kind) → Taken

pub record Loc : Type 0 where
  pub left : Left
  pub form : Form
  pub taken : Taken

abbrev pub located : Left → Form → Loc
located l f = record { left = l; form = f; taken = AllOf }

abbrev pub is_all : Taken → Bool
is_all AllOf = true
is_all (BitsOf k j) = false

abbrev pub pick_in : Taken → Pick
pick_in AllOf = Whole
pick_in (BitsOf k j) = k

-- bits of an expression
abbrev pub picked : Place → Kind → Term → Pick → Term
picked p k e Whole = e
picked p k e (OneBit i) = Bit p e i
picked p k e (Bits h l) = Range p k e h l

-- what a number holds, or bits of it
abbrev pub loaded : Place → Kind → Left → Taken → Term
loaded p k l AllOf = Load p k l
loaded p k l (BitsOf pick j) = picked p j (Load p k l) pick

-- what stands at a location as a value, refused at a place where there is none (E304)
abbrev pub value_at : Place → Loc → Walked Draft
value_at p l = if is_whole l.form then by_base l.form.base else fault reason.Mismatch p
  where
    by_base : Base → Walked Draft
    by_base (OfNumber k) = pure (drafted p (loaded p k l.left l.taken))
    by_base (InPort k) = pure (drafted p (Read p k l.left))
    by_base (OutPort k) = pure (drafted p (Read p k l.left))
    by_base (OfSignal k) = pure (drafted p (Read p k l.left))
    by_base b = fault reason.Mismatch p

-- what a call of the language is made on
pub data Subject : Type 0 where
  OfDraft : (draft : Draft) → Subject
  OfLoc : (loc : Loc) → Subject

abbrev pub subject_value : Place → Subject → Walked Draft
subject_value p (OfDraft x) = pure x
subject_value p (OfLoc l) = value_at p l

abbrev pub location_in : Subject → Option Left
location_in (OfDraft x) = None
location_in (OfLoc l) = if is_all l.taken then Some l.left else None
