-- Bits and elements that are taken, and pointers that are given, as the definitions have them. This project's own.
use Rattle.std.specs.Prelude.{◌≡◌, Bool, true, false, not, Option, Some, None, Result, Ok, Err}
use Rattle.scc_base.specs.declared.refusal.Stop.{Stop}
use Rattle.scc_base.specs.declared.refusal.Stop.TheVariants as stop
use Rattle.scc_bits_kinds.specs.declared.kind.Kind.{Kind}
use Rattle.scc_base.specs.declared.refusal.Place.{Place}
use Rattle.scc_templates_spec.specs.Walked.{Walked, pure, and_walk}
use Rattle.scc_templates_scopes.specs.Walks.{refuses}
use Rattle.scc_templates_scopes.specs.declared.ty.InstanceId.{InstanceId}
use Rattle.scc_plain_tree.specs.declared.expr.PlainBase.{PlainBase, fold-PlainBase}
use Rattle.scc_plain_tree.specs.declared.expr.PlainPart.{PlainPart, fold-PlainPart}
use Rattle.scc_plain_tree.specs.declared.expr.PlainPick.{PlainPick, fold-PlainPick}
use Rattle.scc_plain_tree.specs.declared.program.Base.TheVariants as held_base
use Rattle.scc_elab_spec.specs.Term.{Term, Left, Answer, Bit, Pick, Whole, OneBit, Bits}
use Rattle.scc_plain_view.specs.Terms.{Base, Node, Picking, Taken, base_node, expr_node, part_node, pick_node, expr_step, left_step, left_of, taken_of}
use Rattle.scc_plain_spec.specs.Drafts.{drafted}
use Rattle.scc_plain_spec.specs.Forms as spec
use Rattle.scc_plain_spec.specs.Meant.{Meant, Valued, Stands}
use Rattle.scc_plain_drafts.specs.declared.form.Form.{Form}
use Rattle.scc_plain_drafts.specs.declared.form.Loc.{Loc}
use Rattle.scc_plain_drafts.specs.declared.meant.Subject.{Subject as Of}
use Rattle.scc_plain_drafts.specs.declared.meant.Subject.TheVariants as of
use Rattle.scc_plain_drafts.specs.declared.meant.PortCall.{PortCall}
use Rattle.scc_plain_drafts.specs.declared.meant.Meant.{Meant as Held}
use Rattle.scc_plain_drafts.specs.declared.meant.Meant.TheVariants as held
use Rattle.scc_plain_drafts.specs.Forms.{Classes, AreTold, ArePicked, SoundLoc, loc_in}
use Rattle.scc_plain_drafts.specs.Meaning.{meant_in, SoundMeant}

-- bits by themselves, with the kind of what they are taken of
abbrev pub picking_of : PlainPick → Picking
picking_of = fold-PlainPick Base Node (Left → Left) Picking Term Taken base_node expr_node part_node pick_node expr_step left_step

-- what a part makes of a location
abbrev pub step_of : PlainPart → Left → Left
step_of = fold-PlainPart Base Node (Left → Left) Picking Term Taken base_node expr_node part_node pick_node expr_step left_step

-- where a location begins
abbrev pub base_of : PlainBase → Base
base_of = fold-PlainBase Base Node (Left → Left) Picking Term Taken base_node expr_node part_node pick_node expr_step left_step

-- the result of a call by itself
abbrev pub is_result : Left → Bool
is_result (Answer p n) = true
is_result l = false

-- a location is that of the definition
pub record IsLoc (n : Classes) (x : Loc) (l : spec.Loc) : Type 0 where
  pub loc : loc_in n x ≡ l
  pub sound : SoundLoc x

-- bits of a kind at a location
pub record IsTaking (x l : Loc) (q : PlainPick) (k : Kind) : Type 0 where
  pub form : x.form ≡ l.form
  pub pick : x.pick ≡ Some k
  pub taken : taken_of x.left ≡ record { left = left_of l.left; pick = (picking_of q).pick; of = Some (picking_of q).of }

-- bits of what a port or signal shows
abbrev pub shown_bits : Place → Kind → Pick → spec.Loc → Walked Meant
shown_bits p k pick l = and_walk (spec.value_at p l) (λ x. pure (Valued (drafted p (spec.picked p k x.term pick))))

abbrev pub is_one : Pick → Bool
is_one Whole = false
is_one (OneBit i) = true
is_one (Bits h l) = false

abbrev pub is_part : Pick → Bool
is_part Whole = false
is_part (OneBit i) = true
is_part (Bits h l) = true

-- one bit of a value
abbrev pub is_bit : Term → Bool
is_bit (Bit p e i) = true
is_bit e = false

-- the answer is what the definition names, or its refusal; or memory is wanted
abbrev pub Means : Classes → Result Held Stop → Walked Meant → Type 0
Means n (Ok m) w = (w ≡ pure (meant_in n m)) × SoundMeant m
Means n (Err (stop.Refused r)) w = w ≡ refuses r
Means n (Err stop.NoMemory) w = Unit {0}

-- a location or a value as what a call of the language is made on
abbrev pub subject_of : Held → Option Of
subject_of (held.Value x) = Some (of.Value x)
subject_of (held.Loc l) = Some (of.Loc l)
subject_of m = None

abbrev pub loc_of : Held → Option Loc
loc_of (held.Loc l) = Some l
loc_of m = None

-- bits of a variable, or one bit of a value
abbrev pub is_picked : Meant → Bool
is_picked (Valued x) = is_bit x.term
is_picked (Stands l) = not (spec.is_all l.taken)
is_picked m = false

abbrev pub is_done : Held → Bool
is_done (held.Done c s) = true
is_done m = false

-- a call that stands alone, with what it is made on; or what is none
abbrev pub IsDone : Held → Result (PortCall × Of) Held → Type 0
IsDone m (Ok d) = m ≡ held.Done d.0 d.1
IsDone m (Err x) = (x ≡ m) × (is_done m ≡ false)

-- The class of what a pointer or reference is given is told from that of its form by their numbers.
abbrev pub OwnTold : Classes → Form → Option InstanceId → Type 0
OwnTold n f None = Unit {0}
OwnTold n f (Some i) = AreTold n f.base (held_base.Class i.0)

abbrev pub IsTold : Classes → Form → Option InstanceId → Held → Type 0
IsTold n f own (held.Loc l) = AreTold n l.form.base f.base
IsTold n f own (held.Address l) = AreTold n l.form.base f.base
IsTold n f own held.This = OwnTold n f own
IsTold n f own m = Unit {0}
