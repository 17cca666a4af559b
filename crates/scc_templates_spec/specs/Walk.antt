-- A walk is a list of what it meets, in order; its answer is the first thing that stops it (ISO C++ [temp.inst]: which instances are needed; their
-- order and number are this project's own).
use Rattle.std.specs.Prelude.{ℕ, nat_eq, nat_lt, Bool, true, false, not, ◌&&◌, List, [], ◌∷◌, ◌++◌, length, filter, Option, Some, None, if◌then◌else◌}
use Rattle.std.specs.List.{list_any}
use Rattle.scc_base.specs.declared.refusal.Place.{Place}
use Rattle.scc_base.specs.declared.refusal.Refusal.{Refusal}
use Rattle.scc_base.specs.declared.code.Code.{Code as Reason}
use Rattle.scc_base.specs.declared.code.Code.TheVariants as reason
use Rattle.scc_bits_kinds.specs.declared.kind.Kind.{Kind}
use Rattle.scc_bits_kinds.specs.declared.kind.Kind.TheVariants as kind

mutual
  -- an argument of a template: a number of a kind, a type of numbers, or a class with arguments
  pub data Arg : Type 0 where
    Value : (kind : Kind) (word : ℕ) → Arg
    Sort : (kind : Kind) → Arg
    Of : (class : ℕ) (args : Args) → Arg

  pub data Args : Type 0 where
    Nil : Args
    Cons : (arg : Arg) (args : Args) → Args

abbrev pub same_bool : Bool → Bool → Bool
same_bool true b = b
same_bool false b = not b

abbrev pub same_kind : Kind → Kind → Bool
same_kind kind.Bool kind.Bool = true
same_kind (kind.Native w s) (kind.Native v t) = nat_eq w v && same_bool s t
same_kind (kind.Int w) (kind.Int v) = nat_eq w v
same_kind (kind.Uint w) (kind.Uint v) = nat_eq w v
same_kind (kind.Big w) (kind.Big v) = nat_eq w v
same_kind (kind.BigInt w) (kind.BigInt v) = nat_eq w v
same_kind (kind.Bv w) (kind.Bv v) = nat_eq w v
same_kind (kind.Wide b s) (kind.Wide c t) = nat_eq b c && same_bool s t
same_kind _ _ = false

abbrev mutual
  pub same_arg : Arg → Arg → Bool
  same_arg (Value k w) (Value j v) = same_kind k j && nat_eq w v
  same_arg (Sort k) (Sort j) = same_kind k j
  same_arg (Of c xs) (Of d ys) = nat_eq c d && same_args xs ys
  same_arg _ _ = false

  pub same_args : Args → Args → Bool
  same_args Nil Nil = true
  same_args (Cons x xs) (Cons y ys) = same_arg x y && same_args xs ys
  same_args _ _ = false

-- what is needed and walked in its turn: a class with arguments, or a function of no class
pub data Needed : Type 0 where
  Class : (class : ℕ) (args : Args) → Needed
  Free : (function : ℕ) → Needed

abbrev pub same_needed : Needed → Needed → Bool
same_needed (Class c xs) (Class d ys) = nat_eq c d && same_args xs ys
same_needed (Free f) (Free g) = nat_eq f g
same_needed _ _ = false

-- how a function is called: on the caller's own object, by its class's name, or on another object
pub data How : Type 0 where
  OnThis : How
  ByClass : How
  OnOther : How

-- what is called: a function of no class by its name, a function of a class with arguments, its constructor
pub data Callee : Type 0 where
  OfFile : (name : ℕ) → Callee
  OfClass : (class : ℕ) (args : Args) (name : ℕ) → Callee
  Constructs : (class : ℕ) (args : Args) → Callee

abbrev pub same_callee : Callee → Callee → Bool
same_callee (OfFile x) (OfFile y) = nat_eq x y
same_callee (OfClass c xs x) (OfClass d ys y) = nat_eq c d && (same_args xs ys && nat_eq x y)
same_callee (Constructs c xs) (Constructs d ys) = nat_eq c d && same_args xs ys
same_callee _ _ = false

pub data Event : Type 0 where
  -- a predicate of the refusals holds here; the second place that it speaks of
  Fault : (code : Reason) (place : Place) (other : Option Place) → Event
  Need : (needed : Needed) (place : Place) → Event
  -- a call where it would not always run, or run at another time, which is refused once all else is looked at
  Late : (place : Place) → Event
  -- `this`, or a member by itself, is named
  Uses : Event
  Calls : (callee : Callee) (how : How) (place : Place) → Event

-- what is needed so far, in order, and the first late place
pub record Tally : Type 0 where
  pub queue : List Needed
  pub late : Option Place

-- the tally behind a walk, and what stopped it
pub record Went : Type 0 where
  pub tally : Tally
  pub stop : Option Refusal

abbrev pub refusal : Reason → Place → Option Place → Refusal
refusal code place other = record { code = code; place = place; other = other }

abbrev pub went_on : Tally → Went
went_on t = record { tally = t; stop = None }

abbrev pub stopped : Tally → Refusal → Went
stopped t r = record { tally = t; stop = Some r }

abbrev pub then_go : Went → (Tally → Went) → Went
then_go w f = by_stop w.stop
  where
    by_stop : Option Refusal → Went
    by_stop None = f w.tally
    by_stop (Some r) = w

abbrev pub or_late : Option Place → Place → Option Place
or_late None p = Some p
or_late (Some q) p = Some q

abbrev pub is_class : Needed → Bool
is_class (Class c args) = true
is_class (Free f) = false

-- at most 4,096 classes with arguments (E314)
abbrev pub most : ℕ
most = 4096

abbrev pub needed : Needed → Place → Tally → Went
needed x p t = if list_any (same_needed x) t.queue then went_on t
    else (if is_class x && not (nat_lt (length (filter is_class t.queue)) most) then stopped t (refusal reason.TooManyInstances p None)
    else went_on (record { queue = t.queue ++ x ∷ []; late = t.late }))

abbrev pub go : List Event → Tally → Went
go [] t = went_on t
go (Fault code place other ∷ es) t = stopped t (refusal code place other)
go (Need x place ∷ es) t = then_go (needed x place t) (go es)
go (Late place ∷ es) t = go es (record { queue = t.queue; late = or_late t.late place })
go (Uses ∷ es) t = go es t
go (Calls f how place ∷ es) t = go es t

abbrev pub empty : Tally
empty = record { queue = []; late = None }
