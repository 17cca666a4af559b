-- A plain program: classes and functions without templates, whose statements hold what follows them (ISO C++ [stmt]; IEEE 1666-2011, 4.1, 5.2).
use Rattle.std.specs.Prelude.{ℕ, Bool, Option, List}
use Rattle.scc_base.specs.declared.refusal.Place.{Place}
use Rattle.scc_bits_kinds.specs.declared.kind.Kind.{Kind}
use Rattle.scc_bits_kinds.specs.declared.op.Op.{Op}
use Rattle.scc_elab_spec.specs.Term.{Term, Left, Pick, Target, Argument}

-- what stands where a member or local is declared
pub data Base : Type 0 where
  Number : (kind : Kind) → Base
  OfClass : (class : ℕ) → Base
  Input : (kind : Kind) → Base
  Output : (kind : Kind) → Base
  Signal : (kind : Kind) → Base
  Named : Base

pub data Reach : Type 0 where
  Direct : Reach
  Pointer : Reach
  Reference : Reach

pub record Shape : Type 0 where
  pub base : Base
  pub reach : Reach
  pub vector : Bool
  pub sizes : List ℕ

pub record Member : Type 0 where
  pub name : ℕ
  pub place : Place
  pub shape : Shape

-- how a loop counts: its counter is a local
pub record Count : Type 0 where
  pub counter : ℕ
  pub start : Term
  pub compare : Op
  pub bound : Term
  pub step_op : Op
  pub step : Term

-- an item of a sensitivity, None where no location is named; it is an edge or a level
pub record Sense : Type 0 where
  pub place : Place
  pub signal : Option Left
  pub rising : Option Bool

pub data Code : Type 0 where
  End : Code
  -- a declaration without initialiser
  Declare : (place : Place) (local : ℕ) (rest : Code) → Code
  Assign : (place : Place) (left : Left) (pick : Pick) (value : Term) (rest : Code) → Code
  Point : (place : Place) (left : Left) (target : Target) (rest : Code) → Code
  -- a request to a signal or port
  Write : (place : Place) (to : Left) (value : Term) (rest : Code) → Code
  -- a call by its number in the function, on an object or on the caller's own
  Call : (place : Place) (number function : ℕ) (object : Option Left) (args : List Argument) (rest : Code) → Code
  If : (place : Place) (test : Term) (yes no rest : Code) → Code
  Loop : (place : Place) (count : Option Count) (body rest : Code) → Code
  Block : (place : Place) (body rest : Code) → Code
  Exit : (place : Place) (depth : ℕ) (rest : Code) → Code
  Return : (place : Place) (value : Option Term) (rest : Code) → Code
  Wait : (place : Place) (count : ℕ) (rest : Code) → Code
  -- construction: an object, a binding, a process with its edge, its sensitivity, `dont_initialize`, its reset
  Make : (place : Place) (left : Left) (base : Base) (args : List Argument) (rest : Code) → Code
  Bind : (place : Place) (port : Left) (to : Option Left) (rest : Code) → Code
  Process : (place : Place) (thread : Bool) (function : ℕ) (edge : Option Sense) (rest : Code) → Code
  Sensitive : (place : Place) (items : List Sense) (rest : Code) → Code
  Quiet : (place : Place) (rest : Code) → Code
  Reset : (place : Place) (signal : Option Left) (level : Term) (asynchronous : Bool) (rest : Code) → Code

pub record Class : Type 0 where
  pub name : ℕ
  pub place : Place
  -- derived from `sc_module`
  pub is_module : Bool
  pub members : List Member
  pub constructor : Option ℕ

pub record Function : Type 0 where
  pub name : ℕ
  pub place : Place
  pub class : Option ℕ
  -- the first so many locals are the parameters
  pub params : ℕ
  pub locals : List Member
  pub result : Option Kind
  -- of a constructor: the members' initialisers, then its body
  pub inits : Code
  pub body : Code

pub record Plain : Type 0 where
  pub classes : List Class
  pub functions : List Function
  pub top : ℕ
