-- The expressions and left sides of statements, which are in scc_semantics (IEEE 1666-2011, 7.2; ISO C++ [expr]). The same serve a program with calls and pointers
-- and one whose calls are copied and pointers resolved. Each value that is assigned, passed or returned has the kind of its target: conversions are written out.
use Rattle.std.specs.Prelude.{ℕ}
use Rattle.scc_bits_kinds.specs.declared.kind.Kind.{Kind}
use Rattle.scc_bits_kinds.specs.declared.op.Op.{Op}
use Rattle.scc_semantics.specs.Location.{Location}

mutual
  -- an expression; each has a kind, which its parts determine or which stands in it
  pub data Expr : Type 0 where
    Literal : (kind : Kind) (word : ℕ) → Expr
    -- a variable, or a signal or port
    Load : (kind : Kind) (from : Left) → Expr
    Read : (kind : Kind) (from : Left) → Expr
    Convert : (to : Kind) (of : Expr) → Expr
    Unary : (op : Op) (of : Expr) → Expr
    Binary : (op : Op) (left right : Expr) → Expr
    Choose : (kind : Kind) (test yes no : Expr) → Expr
    Bit : (of at : Expr) → Expr
    Range : (kind : Kind) (of : Expr) (h l : ℕ) → Expr
    Join : (kind : Kind) (high low : Expr) → Expr

  -- a left side, or the object of a call
  pub data Left : Type 0 where
    Declared : (declaration : ℕ) → Left
    Result : (call : ℕ) → Left
    This : Left
    At : (location : Location) → Left
    Null : Left
    -- what a pointer or reference holds
    Follow : (pointer : Left) → Left
    Field : (of : Left) (name : ℕ) → Left
    Indexed : (of : Left) (at : Expr) → Left

-- the part of a number that an assignment writes
pub data Pick : Type 0 where
  Whole : Pick
  OneBit : (at : Expr) → Pick
  Bits : (h l : ℕ) → Pick

-- what a pointer or reference is given: a location itself, or what a pointer there holds
pub data Target : Type 0 where
  Address : (of : Left) → Target
  Copy : (of : Left) → Target

-- an argument of a call
pub data Argument : Type 0 where
  Value : (value : Expr) → Argument
  Place : (target : Target) → Argument
