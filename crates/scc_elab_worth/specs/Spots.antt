-- Where a left side leads, with what is declared there: pointers and references are followed where they are met. This project's own.
use Rattle.std.specs.Prelude.{ℕ, Bool, true, false, ◌&&◌, List, [], Option, Some, None, option_and_then, slice_get, if◌then◌else◌}
use Rattle.scc_base.specs.declared.refusal.Place.{Place}
use Rattle.scc_base.specs.declared.code.Code.TheVariants as reason
use Rattle.scc_bits_kinds.specs.Numbers.{low}
use Rattle.scc_bits.specs.Value.{Number, exactly}
use Rattle.scc_semantics.specs.Location.{Location, Part, Member, Element, Top, Local, within}
use Rattle.scc_semantics.specs.Store.{Store}
use Rattle.scc_core_spec.specs.First.{refused}
use Rattle.scc_plain_tree.specs.declared.program.Plain.{Plain}
use Rattle.scc_plain_tree.specs.declared.program.PlainFunction.{PlainFunction}
use Rattle.scc_plain_tree.specs.declared.program.PlainMember.{PlainMember}
use Rattle.scc_plain_tree.specs.declared.program.Base.{Base}
use Rattle.scc_plain_tree.specs.declared.program.Base.TheVariants as base
use Rattle.scc_plain_tree.specs.declared.program.Reach.{Reach}
use Rattle.scc_plain_tree.specs.declared.program.Reach.TheVariants as way
use Rattle.scc_elab_worth.specs.Said.{Said, Is, Refuses, Nothing, and_said}

-- where an expression stands: in a function of a program, which runs for the object of that number at a path, with what is written so far
pub record Around : Type 0 where
  pub plain : Plain
  pub function : PlainFunction
  pub object : ℕ
  pub path : List Part
  pub store : Store

-- a location, None behind null, with the declaration by which it was reached
pub record Spot : Type 0 where
  pub at : Option Location
  pub base : Base
  pub vector : Bool

abbrev pub spot : Option Location → Base → Bool → Spot
spot l b v = record { at = l; base = b; vector = v }

abbrev pub is_reference : Reach → Bool
is_reference way.Direct = false
is_reference way.Pointer = false
is_reference way.Reference = true

-- where a pointer leads; null is refused, or in a target stands for null (E405)
abbrev pub led : Bool → Place → Base → Bool → Option Location → Said Spot
led soft p b v (Some l) = Is (spot (Some l) b v)
led true p b v None = Is (spot None b v)
led false p b v None = Refuses (refused reason.EmptyPointer p)

-- what is declared at a location: a reference is followed, unless it is the end of what is given where it leads
abbrev pub declared : Around → Place → Bool → Bool → PlainMember → Location → Said Spot
declared g p soft follow m l = if follow && is_reference m.shape.reach then led soft p m.shape.base m.shape.vector (g.store.targets l) else Is (spot (Some l) m.shape.base m.shape.vector)

abbrev pub local : Around → Place → Bool → Bool → ℕ → Option PlainMember → Said Spot
local g p soft follow n None = Nothing
local g p soft follow n (Some m) = declared g p soft follow m (record { root = Local g.object [] n; path = [] })

abbrev pub this : Around → Option ℕ → Said Spot
this g None = Nothing
this g (Some c) = Is (spot (Some (record { root = Top; path = g.path })) (base.Class c) false)

abbrev pub followed_at : Around → Place → Bool → Spot → Option Location → Said Spot
followed_at g p soft s None = Is s
followed_at g p soft s (Some l) = led soft p s.base s.vector (g.store.targets l)

-- what the pointer at a spot leads to
abbrev pub followed : Around → Place → Bool → Spot → Said Spot
followed g p soft s = followed_at g p soft s s.at

abbrev pub member_in : Plain → Base → ℕ → Option PlainMember
member_in t (base.Class c) n = option_and_then (λ k. slice_get k.members n) (slice_get t.classes c)
member_in t (base.Number k) n = None
member_in t (base.Input k) n = None
member_in t (base.Output k) n = None
member_in t (base.Signal k) n = None
member_in t base.ModuleName n = None

abbrev pub member_to : Around → Place → Bool → Bool → Location → Option PlainMember → Said Spot
member_to g p soft follow l None = Nothing
member_to g p soft follow l (Some m) = declared g p soft follow m (within l (Member m.name.0))

abbrev pub member_at : Around → Place → Bool → Bool → ℕ → Spot → Option Location → Said Spot
member_at g p soft follow n s None = Is s
member_at g p soft follow n s (Some l) = member_to g p soft follow l (member_in g.plain s.base n)

-- a member of what stands at a spot; behind null nothing is looked at
abbrev pub member : Around → Place → Bool → Bool → ℕ → Spot → Said Spot
member g p soft follow n s = member_at g p soft follow n s s.at

abbrev pub element_at : Said Number → Spot → Option Location → Said Spot
element_at e s None = Is s
element_at e s (Some l) = and_said e (λ v. Is (spot (Some (within l (Element (low 128 (exactly v))))) s.base s.vector))

-- an element; behind null the index isn't looked at
abbrev pub element : Said Number → Spot → Said Spot
element e s = element_at e s s.at
