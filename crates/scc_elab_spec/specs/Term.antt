-- Expressions, locations and targets of a plain program, each with its place and each expression with its kind (ISO C++ [expr]). Conversions are
-- written out.
use Rattle.std.specs.Prelude.{ℕ}
use Rattle.scc_base.specs.declared.refusal.Place.{Place}
use Rattle.scc_bits_kinds.specs.declared.kind.Kind.{Kind}
use Rattle.scc_bits_kinds.specs.declared.kind.Kind.TheVariants as kind
use Rattle.scc_bits_kinds.specs.declared.op.Op.{Op}

mutual
  pub data Term : Type 0 where
    Literal : (place : Place) (kind : Kind) (word : ℕ) → Term
    -- what a variable holds, and what a signal or port shows
    Load : (place : Place) (kind : Kind) (from : Left) → Term
    Read : (place : Place) (kind : Kind) (from : Left) → Term
    Convert : (place : Place) (kind : Kind) (of : Term) → Term
    Unary : (place : Place) (kind : Kind) (op : Op) (of : Term) → Term
    Binary : (place : Place) (kind : Kind) (op : Op) (left right : Term) → Term
    Choose : (place : Place) (kind : Kind) (test yes no : Term) → Term
    Bit : (place : Place) (of index : Term) → Term
    Range : (place : Place) (kind : Kind) (of : Term) (h l : ℕ) → Term
    -- a concatenation `(a, b, c)` is `((a, b), c)`
    Join : (place : Place) (kind : Kind) (high low : Term) → Term

  -- A reference is followed where it is met, but for one that a location ends with and that is given where it leads.
  pub data Left : Type 0 where
    -- a local of the function, and the result of one of its calls
    Local : (place : Place) (local : ℕ) → Left
    Answer : (place : Place) (call : ℕ) → Left
    -- the object whose function runs
    This : (place : Place) → Left
    -- what a pointer holds
    Follow : (place : Place) (pointer : Left) → Left
    Member : (of : Left) (member : ℕ) → Left
    Index : (of : Left) (index : Term) → Left

-- the part of a number that an assignment writes
pub data Pick : Type 0 where
  Whole : Pick
  OneBit : (index : Term) → Pick
  Bits : (h l : ℕ) → Pick

-- what a pointer or reference is given: a location itself, or what a pointer there holds
pub data Target : Type 0 where
  Null : Target
  Address : (of : Left) → Target
  Copy : (of : Left) → Target

pub data Argument : Type 0 where
  Value : (value : Term) → Argument
  Leads : (target : Target) → Argument
  ModuleName : Argument

abbrev pub kind_of : Term → Kind
kind_of (Literal p k w) = k
kind_of (Load p k l) = k
kind_of (Read p k l) = k
kind_of (Convert p k e) = k
kind_of (Unary p k o a) = k
kind_of (Binary p k o a b) = k
kind_of (Choose p k t a b) = k
kind_of (Bit p a i) = kind.Bool
kind_of (Range p k a h l) = k
kind_of (Join p k a b) = k

abbrev pub place_of : Term → Place
place_of (Literal p k w) = p
place_of (Load p k l) = p
place_of (Read p k l) = p
place_of (Convert p k e) = p
place_of (Unary p k o a) = p
place_of (Binary p k o a b) = p
place_of (Choose p k t a b) = p
place_of (Bit p a i) = p
place_of (Range p k a h l) = p
place_of (Join p k a b) = p

abbrev pub place_at : Left → Place
place_at (Local p n) = p
place_at (Answer p n) = p
place_at (This p) = p
place_at (Follow p l) = p
place_at (Member l n) = place_at l
place_at (Index l e) = place_at l
