-- The design that construction leaves (IEEE 1666-2011, 4.1): objects in construction order, processes, targets, sizes of vectors.
use Rattle.std.specs.Prelude.{ℕ, Bool, true, false, Option, Some, None, List}
use Rattle.scc_base.specs.declared.refusal.Place.{Place}
use Rattle.scc_bits_kinds.specs.declared.kind.Kind.{Kind}
use Rattle.scc_semantics.specs.Location.{Part}

pub data Node : Type 0 where
  -- an object of a class
  Module : (class : ℕ) → Node
  -- a port and the object at the end of its bindings, itself for one of the top
  Port : (kind : Kind) (output : Bool) (root : ℕ) → Node
  Signal : (kind : Kind) → Node
  -- a variable and what construction left in it
  Variable : (kind : Kind) (word : ℕ) → Node
  -- a pointer or reference and the object to which it leads; None for null, and for a path that names no object
  Pointer : (target : Option ℕ) → Node

pub record Object : Type 0 where
  pub path : List Part
  pub place : Place
  pub node : Node

pub record Edge : Type 0 where
  pub root : ℕ
  pub rising : Bool

pub record Reset : Type 0 where
  pub root : ℕ
  pub level : Bool
  pub asynchronous : Bool

pub record Process : Type 0 where
  -- the object whose function it runs
  pub object : ℕ
  pub function : ℕ
  pub place : Place
  pub is_thread : Bool
  -- the roots whose levels count
  pub senses : List ℕ
  pub edge : Option Edge
  pub reset : Option Reset

-- where a pointer or reference leads, by its number
pub record Target : Type 0 where
  pub object : ℕ
  pub path : List Part

pub record VectorSize : Type 0 where
  pub path : List Part
  pub size : ℕ

pub record Design : Type 0 where
  pub objects : List Object
  pub processes : List Process
  pub targets : List Target
  pub vectors : List VectorSize

abbrev pub is_module : Node → Bool
is_module (Module c) = true
is_module _ = false

-- the class of the object of class kind at a path
abbrev pub class_of : Node → Option ℕ
class_of (Module c) = Some c
class_of _ = None
