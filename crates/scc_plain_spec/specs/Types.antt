-- What types are, and the calls of the language (ISO C++ [dcl.type]; IEEE 1666-2011, 5.3, 6.4, 6.8, 6.12, 7, 8.5).
use Rattle.std.specs.Prelude.{ℕ, nat_eq, nat_lt, nat_le, Bool, true, false, ◌&&◌, Option, Some, None, if◌then◌else◌}
use Rattle.scc_base.specs.declared.refusal.Place.{Place}
use Rattle.scc_base.specs.declared.code.Code.TheVariants as reason
use Rattle.scc_bits_kinds.specs.declared.kind.Kind.{Kind}
use Rattle.scc_bits_kinds.specs.declared.kind.Kind.TheVariants as kind
use Rattle.scc_bits.specs.Value.{Number}
use Rattle.scc_tree.specs.declared.ty.Family.{Family}
use Rattle.scc_tree.specs.declared.ty.Family.TheVariants as family
use Rattle.scc_tree.specs.declared.item.ParamSort.{ParamSort}
use Rattle.scc_tree.specs.declared.item.ParamSort.TheVariants as sort
use Rattle.scc_templates_spec.specs.Walk.{Arg, Value, Sort, Of, Args, same_kind, same_args}
use Rattle.scc_templates_spec.specs.Walked.{Walked, pure, fault}
use Rattle.scc_plain_spec.specs.Numbers.{int, small}

-- what stands at the end of arrays, vectors, pointers and references
pub data Base : Type 0 where
  OfNumber : (kind : Kind) → Base
  OfObject : (class : ℕ) (args : Args) → Base
  InPort : (kind : Kind) → Base
  OutPort : (kind : Kind) → Base
  OfSignal : (kind : Kind) → Base
  OfName : Base

abbrev pub same_base : Base → Base → Bool
same_base (OfNumber j) (OfNumber k) = same_kind j k
same_base (OfObject c xs) (OfObject d ys) = nat_eq c d && same_args xs ys
same_base (InPort j) (InPort k) = same_kind j k
same_base (OutPort j) (OutPort k) = same_kind j k
same_base (OfSignal j) (OfSignal k) = same_kind j k
same_base OfName OfName = true
same_base _ _ = false

-- a type: one of these, or a vector of them
pub record Typed : Type 0 where
  pub base : Base
  pub vector : Bool

abbrev pub one : Base → Typed
one b = record { base = b; vector = false }

abbrev pub kind_in : Typed → Option Kind
kind_in t = if t.vector then None else by_base t.base
  where
    by_base : Base → Option Kind
    by_base (OfNumber k) = Some k
    by_base b = None

-- a class with arguments
pub record Object : Type 0 where
  pub class : ℕ
  pub args : Args

abbrev pub object_in : Typed → Option Object
object_in t = if t.vector then None else by_base t.base
  where
    by_base : Base → Option Object
    by_base (OfObject c as_given) = Some (record { class = c; args = as_given })
    by_base b = None

-- the kind of a number of a family with so many bits
abbrev pub family_kind : Family → ℕ → Option Kind
family_kind f n = if nat_lt 0 n then by_family f else None
  where
    by_family : Family → Option Kind
    by_family family.Int = if nat_le n 64 then Some (kind.Int n) else None
    by_family family.Uint = if nat_le n 64 then Some (kind.Uint n) else None
    by_family family.Big = if nat_le n 128 then Some (kind.Big n) else None
    by_family family.BigInt = if nat_le n 128 then Some (kind.BigInt n) else None
    by_family family.Bv = if nat_le n 128 then Some (kind.Bv n) else None

-- a type with a written width, refused at the width (E303)
abbrev pub sized : Place → Family → Number → Walked Typed
sized p f n = by_width (small n)
  where
    by_kind : Option Kind → Walked Typed
    by_kind None = fault reason.Width p
    by_kind (Some k) = pure (one (OfNumber k))

    by_width : Option ℕ → Walked Typed
    by_width None = fault reason.Width p
    by_width (Some n) = by_kind (family_kind f n)

-- a port or signal of a type of numbers, refused at that type (E307)
abbrev pub port : (Kind → Base) → Place → Typed → Walked Typed
port of p t = by_kind (kind_in t)
  where
    by_kind : Option Kind → Walked Typed
    by_kind None = fault reason.Arguments p
    by_kind (Some k) = pure (one (of k))

-- a vector of what is neither a vector nor a module's name
abbrev pub vector : Place → Typed → Walked Typed
vector p t = if t.vector then fault reason.Arguments p else by_base t.base
  where
    by_base : Base → Walked Typed
    by_base OfName = fault reason.Arguments p
    by_base b = pure (record { base = b; vector = true })

-- the kind of a parameter that stands for a number
abbrev pub sort_kind : ParamSort → Option Kind
sort_kind sort.Int = Some int
sort_kind sort.Unsigned = Some (kind.Native 32 false)
sort_kind sort.Bool = Some kind.Bool
sort_kind sort.Class = None

-- a type as an argument: a number's or a class, refused at the argument (E307)
abbrev pub type_arg : Place → Typed → Walked Arg
type_arg p t = if t.vector then fault reason.Arguments p else by_base t.base
  where
    by_base : Base → Walked Arg
    by_base (OfNumber k) = pure (Sort k)
    by_base (OfObject c as_given) = pure (Of c as_given)
    by_base b = fault reason.Arguments p

-- what an argument is where a type is wanted (E304)
abbrev pub type_given : Place → Arg → Walked Typed
type_given p (Value k w) = fault reason.Mismatch p
type_given p (Sort k) = pure (one (OfNumber k))
type_given p (Of c as_given) = pure (one (OfObject c as_given))
