-- Expressions and locations of a core (IEEE 1666-2011, 7.2; ISO C++ [expr]), each with its place in the source and each expression with
-- the kind of its value. Conversions are written out.
use Rattle.std.specs.Prelude.{ℕ, Bool, Option, List}
use Rattle.scc_base.specs.declared.refusal.Place.{Place}
use Rattle.scc_bits_kinds.specs.declared.kind.Kind.{Kind}
use Rattle.scc_bits_kinds.specs.declared.kind.Kind.TheVariants as kind
use Rattle.scc_bits_kinds.specs.declared.op.Op.{Op}
use Rattle.scc_semantics.specs.Location.{Part}

-- a local of a process: its number there and its identifier, which is no part of what tells it apart
pub record Own : Type 0 where
  pub number : ℕ
  pub identifier : ℕ

-- The name of a cell, or a front part of one: the path of an object; for a local the path of its process, which is that of the
-- module and the function's name, then the local and the indices of an element.
pub record CellName : Type 0 where
  pub path : List Part
  pub own : Option Own
  pub indices : List ℕ

mutual
  pub data Term : Type 0 where
    Literal : (place : Place) (kind : Kind) (word : ℕ) → Term
    -- what a variable holds, and what a signal or port shows
    Load : (place : Place) (kind : Kind) (from : Left) → Term
    Read : (place : Place) (kind : Kind) (from : Left) → Term
    Convert : (place : Place) (kind : Kind) (of : Term) → Term
    Unary : (place : Place) (kind : Kind) (op : Op) (of : Term) → Term
    Binary : (place : Place) (kind : Kind) (op : Op) (left right : Term) → Term
    Choose : (place : Place) (kind : Kind) (test yes no : Term) → Term
    Bit : (place : Place) (of index : Term) → Term
    Range : (place : Place) (kind : Kind) (of : Term) (h l : ℕ) → Term
    -- a concatenation `(a, b, c)` is `((a, b), c)`
    Join : (place : Place) (kind : Kind) (high low : Term) → Term

  pub data Left : Type 0 where
    Cell : (place : Place) (cell : ℕ) → Left
    -- what stands at a front part of names, which members and indices complete
    Prefix : (place : Place) (name : CellName) → Left
    Null : (place : Place) → Left
    -- What a pointer or reference holds. A soft one gave a call its object: where it is null, null is met where the location is used.
    Follow : (place : Place) (soft : Bool) (pointer : Left) → Left
    Member : (of : Left) (name : ℕ) → Left
    -- an element of so many
    Index : (of : Left) (size : ℕ) (index : Term) → Left

-- the part of a number that an assignment writes
pub data Pick : Type 0 where
  Whole : Pick
  OneBit : (index : Term) → Pick
  Bits : (h l : ℕ) → Pick

abbrev pub kind_of : Term → Kind
kind_of (Literal p k w) = k
kind_of (Load p k l) = k
kind_of (Read p k l) = k
kind_of (Convert p k e) = k
kind_of (Unary p k o a) = k
kind_of (Binary p k o a b) = k
kind_of (Choose p k t a b) = k
kind_of (Bit p a i) = kind.Bool
kind_of (Range p k a h l) = k
kind_of (Join p k a b) = k

abbrev pub place_of : Term → Place
place_of (Literal p k w) = p
place_of (Load p k l) = p
place_of (Read p k l) = p
place_of (Convert p k e) = p
place_of (Unary p k o a) = p
place_of (Binary p k o a b) = p
place_of (Choose p k t a b) = p
place_of (Bit p a i) = p
place_of (Range p k a h l) = p
place_of (Join p k a b) = p

-- the place of a location is that of the whole, where it begins
abbrev pub place_at : Left → Place
place_at (Cell p c) = p
place_at (Prefix p n) = p
place_at (Null p) = p
place_at (Follow p s l) = p
place_at (Member l n) = place_at l
place_at (Index l s e) = place_at l
