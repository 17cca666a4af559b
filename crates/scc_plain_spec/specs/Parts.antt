-- What a constant expression names before it is taken as a value, and what stands behind it (ISO C++ [expr.post]; IEEE 1666-2011, 7.2: reductions, conversions).
use Rattle.std.specs.Prelude.{ℕ, nat_eq, nat_lt, Bool, true, false, ◌&&◌, List, Option, Some, None, if◌then◌else◌}
use Rattle.scc_base.specs.declared.refusal.Place.{Place}
use Rattle.scc_base.specs.declared.code.Code.TheVariants as reason
use Rattle.scc_bits_kinds.specs.declared.kind.Kind.{Kind}
use Rattle.scc_bits_kinds.specs.declared.kind.Kind.TheVariants as kind
use Rattle.scc_bits_kinds.specs.declared.op.Op.{Op}
use Rattle.scc_bits_kinds.specs.declared.op.Op.TheVariants as op
use Rattle.scc_bits_kinds.specs.Groups.{group_of}
use Rattle.scc_bits_kinds.specs.Table.{has_bits}
use Rattle.scc_bits.specs.Value.{Number}
use Rattle.scc_tree.specs.declared.expr.UnaryOp.{UnaryOp}
use Rattle.scc_tree.specs.declared.expr.UnaryOp.TheVariants as before
use Rattle.scc_templates_spec.specs.Walk.{Arg, Value, Sort, Of}
use Rattle.scc_templates_spec.specs.Walked.{Walked, pure, fault, and_walk}
use Rattle.scc_templates_spec.specs.World.{Owner}
use Rattle.scc_plain_spec.specs.Numbers.{int, number, converted, operated_alone}

pub data Thing : Type 0 where
  Valued : (number : Number) → Thing
  -- a function, with the place of its name
  Function : (owner : Owner) (name : ℕ) (place : Place) → Thing
  -- a call of the language on a number, by its name
  Method : (name : ℕ) (of : Number) → Thing
  -- what is no value and has no parts
  Other : Thing

abbrev pub valued : Walked Number → Walked Thing
valued n = and_walk n (λ n. pure (Valued n))

-- as a value, refused at a place where there is none (E304)
abbrev pub demanded : Place → Walked Thing → Walked Number
demanded p t = and_walk t by_thing
  where
    by_thing : Thing → Walked Number
    by_thing (Valued n) = pure n
    by_thing t = fault reason.Mismatch p

-- what stands for a parameter
abbrev pub given_thing : Place → Arg → Walked Thing
given_thing p (Value k w) = pure (Valued (number k w))
given_thing p (Sort k) = fault reason.Mismatch p
given_thing p (Of c as_given) = fault reason.Mismatch p

-- the operator before one operand; `*` and `&` are none
abbrev pub operator_of : UnaryOp → Option Op
operator_of before.Plus = Some op.Plus
operator_of before.Neg = Some op.Neg
operator_of before.LogNot = Some op.LogNot
operator_of before.Not = Some op.Not
operator_of before.Deref = None
operator_of before.Address = None

abbrev pub before_one : Place → Place → UnaryOp → Thing → Walked Thing
before_one p of o t = by_operator (operator_of o)
  where
    by_operator : Option Op → Walked Thing
    by_operator None = fault reason.Mismatch p
    by_operator (Some o) = valued (and_walk (demanded of (pure t)) (operated_alone p o))

abbrev pub cast_to : Place → Option Kind → Number → Walked Thing
cast_to p None n = fault reason.Mismatch p
cast_to p (Some k) n = valued (converted p k n)

-- the calls of the language have the names 0 to 12: read, write, bind, pos, neg, range, three reductions, four conversions
abbrev pub is_call : ℕ → Bool
is_call x = nat_lt x 13

abbrev pub dotted : Place → Place → ℕ → Thing → Walked Thing
dotted p own x (Valued n) = if is_call x then pure (Method x n) else fault reason.UnknownName own
dotted p own x t = fault reason.Mismatch p

-- a reduction or conversion of a number whose bits have names
abbrev pub method_value : Place → ℕ → Number → Walked Number
method_value p x n = if has_bits (group_of n.kind) then by_name else fault reason.Mismatch p
  where
    by_name : Walked Number
    by_name = if nat_eq x 6 then operated_alone p op.AndReduce n
        else (if nat_eq x 7 then operated_alone p op.OrReduce n
        else (if nat_eq x 8 then operated_alone p op.XorReduce n
        else (if nat_eq x 9 then converted p int n
        else (if nat_eq x 10 then converted p (kind.Native 32 false) n
        else (if nat_eq x 11 then converted p (kind.Native 64 true) n
        else (if nat_eq x 12 then converted p (kind.Native 64 false) n else fault reason.Mismatch p))))))

-- Brackets with so many arguments behind something, given the walks over them: each as a value, and as arguments that nothing takes. `found` is whether a function
-- has a body.
module _ (found : Owner → ℕ → Place → Walked Bool) (p : Place) (arguments : ℕ) (each : Walked (List Number)) (any : Walked (Unit {0})) where
  abbrev pub refused : Walked Thing
  refused = and_walk any (λ u. fault reason.Mismatch p)

  abbrev pub range : Walked Thing
  range = if nat_eq arguments 2 then and_walk each (λ ns. fault reason.Mismatch p) else refused

  abbrev pub called : Place → Bool → Walked Thing
  called own there = if there then fault reason.NotConstant p else fault reason.UnknownName own

  -- write, bind, pos and neg stand as statements alone
  abbrev pub by_method : ℕ → Number → Walked Thing
  by_method x n = if nat_lt 0 x && nat_lt x 5 then pure Other
      else (if nat_eq x 5 then range
      else (if nat_eq arguments 0 then valued (method_value p x n) else refused))

  abbrev pub behind_call : Thing → Walked Thing
  behind_call (Valued n) = range
  behind_call (Function o x own) = and_walk (found o x own) (called own)
  behind_call (Method x n) = by_method x n
  behind_call Other = refused
