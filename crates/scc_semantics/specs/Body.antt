-- The statements of a process as a tree in which each statement holds what follows it. The same tree serves a program with calls and
-- pointers and one whose calls are copied (ISO C++ [stmt]; IEEE 1666-2011, 5.2.11, 5.2.18). Conversions are written out.
use Rattle.std.specs.Prelude.{ℕ, Bool, Option}
use Rattle.scc_semantics.specs.Expressions.{Expr, Left, Pick, Target, Argument}

pub data Body : Type 0 where
  End : Body
  -- a variable takes the value at once; at a signal or port the value is requested, and taken later
  Assign : (left : Left) (pick : Pick) (value : Expr) (rest : Body) → Body
  -- a pointer or reference takes a location, at its declaration or later
  Point : (declares : Bool) (left : Left) (target : Target) (rest : Body) → Body
  -- a declared number or pointer, one element of it at a time, begins as 0 or null
  Clear : (left : Left) (rest : Body) → Body
  If : (test : Expr) (yes no rest : Body) → Body
  Block : (body rest : Body) → Body
  Loop : (body rest : Body) → Body
  -- leaves the n-th enclosing block of this function, counted outward from 0
  Exit : (depth : ℕ) (rest : Body) → Body
  -- a call by its number in the calling function, on an object, or on the caller's own: first its result, where it has one, and its
  -- parameters, and then the function of that number
  Call : (number : ℕ) (object : Option Left) (enter : Body) (function : ℕ) (rest : Body) → Body
  -- entering a function: its result begins as 0; a parameter, by its declaration, takes an argument, which the caller evaluates
  Begin : (rest : Body) → Body
  Pass : (declaration : ℕ) (argument : Argument) (rest : Body) → Body
  Return : (value : Option Expr) (rest : Body) → Body
  -- waits for so many edges, under its number in text order
  Wait : (number count : ℕ) (rest : Body) → Body
