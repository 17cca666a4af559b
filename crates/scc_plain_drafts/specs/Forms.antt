-- What variables hold and where they stand, as the definitions have it: a class by its number in a table of classes with arguments. This project's own.
use Rattle.std.specs.Prelude.{◌≡◌, ℕ, false, nat_eq, ◌&&◌, Option, Some, None}
use Rattle.scc_bits_kinds.specs.declared.kind.Kind.{Kind}
use Rattle.scc_bits_kinds.specs.declared.kind.Kind.TheVariants as kind
use Rattle.scc_templates_spec.specs.Walk.{same_args}
use Rattle.scc_plain_tree.specs.declared.program.Base.{Base as Held}
use Rattle.scc_plain_tree.specs.declared.program.Base.TheVariants as held
use Rattle.scc_elab_spec.specs.Term.{Pick, Whole, OneBit, Bits}
use Rattle.scc_plain_view.specs.Terms.{left_of, taken_of}
use Rattle.scc_plain_view.specs.Plains.{reach_of}
use Rattle.scc_plain_spec.specs.Types.{Object, Base, OfNumber, OfObject, InPort, OutPort, OfSignal, OfName}
use Rattle.scc_plain_spec.specs.Forms.{Form, Taken, AllOf, BitsOf, Loc, Subject, OfDraft, OfLoc}
use Rattle.scc_plain_drafts.specs.declared.form.Form.{Form as Formed}
use Rattle.scc_plain_drafts.specs.declared.form.Loc.{Loc as Located}
use Rattle.scc_plain_drafts.specs.declared.meant.Subject.{Subject as Of}
use Rattle.scc_plain_drafts.specs.declared.meant.Subject.TheVariants as of
use Rattle.scc_plain_drafts.specs.declared.meant.Method.{Method}
use Rattle.scc_plain_drafts.specs.declared.meant.Method.TheVariants as method
use Rattle.scc_plain_drafts.specs.declared.meant.PortCall.{PortCall}
use Rattle.scc_plain_drafts.specs.declared.meant.PortCall.TheVariants as port
use Rattle.scc_plain_drafts.specs.Views.{Sound, draft_of}

abbrev pub Classes : Type 0
Classes = ℕ → Object

abbrev pub base_in : Classes → Held → Base
base_in n (held.Number k) = OfNumber k
base_in n (held.Class c) = OfObject (n c).class (n c).args
base_in n (held.Input k) = InPort k
base_in n (held.Output k) = OutPort k
base_in n (held.Signal k) = OfSignal k
base_in n held.ModuleName = OfName

-- Two classes are told apart by their numbers.
abbrev pub AreTold : Classes → Held → Held → Type 0
AreTold n (held.Class i) (held.Class j) = (nat_eq (n i).class (n j).class && same_args (n i).args (n j).args) ≡ nat_eq i j
AreTold n b c = Unit {0}

abbrev pub number_in : Held → Option Kind
number_in (held.Number k) = Some k
number_in b = None

abbrev pub form_in : Classes → Formed → Form
form_in n f = record { base = base_in n f.base; reach = reach_of f.reach; vector = f.vector; dims = f.dims }

abbrev pub taken_by : Option Kind → Pick → Taken
taken_by None pick = AllOf
taken_by (Some k) pick = BitsOf pick k

abbrev pub loc_in : Classes → Located → Loc
loc_in n l = record { left = left_of l.left; form = form_in n l.form; taken = taken_by l.pick (taken_of l.left).pick }

-- bits of a kind; one bit is of kind `bool`
abbrev pub ArePicked : Pick → Kind → Type 0
ArePicked Whole k = ⊥
ArePicked (OneBit i) k = k ≡ kind.Bool
ArePicked (Bits h l) k = Unit {0}

-- Bits are picked of a number alone, which the location names with its kind.
pub record PickedOf (l : Located) (j : Kind) : Type 0 where
  pub number : Kind
  pub base : l.form.base ≡ held.Number number
  pub of : (taken_of l.left).of ≡ Some number
  pub dims : l.form.dims ≡ 0
  pub single : l.form.vector ≡ false
  pub bits : ArePicked (taken_of l.left).pick j

abbrev pub StandsBy : Option Kind → Located → Type 0
StandsBy None l = ((taken_of l.left).pick ≡ Whole) × ((taken_of l.left).of ≡ None)
StandsBy (Some j) l = PickedOf l j

abbrev pub SoundLoc : Located → Type 0
SoundLoc l = StandsBy l.pick l

abbrev pub subject_in : Classes → Of → Subject
subject_in n (of.Value x) = OfDraft (draft_of x)
subject_in n (of.Loc l) = OfLoc (loc_in n l)

abbrev pub SoundSubject : Of → Type 0
SoundSubject (of.Value x) = Sound x
SoundSubject (of.Loc l) = SoundLoc l

-- the calls of the language by the numbers of their names
abbrev pub call_number : PortCall → ℕ
call_number port.Write = 1
call_number port.Bind = 2
call_number port.Pos = 3
call_number port.Neg = 4

abbrev pub method_number : Method → ℕ
method_number method.Read = 0
method_number (method.Port c) = call_number c
method_number method.Range = 5
method_number method.AndReduce = 6
method_number method.OrReduce = 7
method_number method.XorReduce = 8
method_number method.ToInt = 9
method_number method.ToUint = 10
method_number method.ToInt64 = 11
method_number method.ToUint64 = 12
