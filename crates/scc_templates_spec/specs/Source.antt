-- Declarations of a source (ISO C++ [dcl.dcl], [class], [temp]; IEEE 1666-2011, 5.2), each list in the order of the text. The members of a class stand in one list.
use Rattle.std.specs.Prelude.{ℕ, Bool, List, Option}
use Rattle.scc_base.specs.declared.refusal.Place.{Place}
use Rattle.scc_tree.specs.declared.local.Hold.{Hold}
use Rattle.scc_tree.specs.declared.item.ParamSort.{ParamSort}
use Rattle.scc_templates_spec.specs.Tree.{Tree, Trees, Ty, TyArgs}
use Rattle.scc_templates_spec.specs.Statements.{Stmts}

-- a parameter of a template
pub record Param : Type 0 where
  pub place : Place
  pub name : ℕ
  pub sort : ParamSort
  -- its default: one argument, or none
  pub preset : TyArgs

pub record Enumerator : Type 0 where
  pub place : Place
  pub name : ℕ
  pub value : Option Tree

-- a parameter of a function
pub record Taken : Type 0 where
  pub place : Place
  pub type : Ty
  pub hold : Hold
  pub name : ℕ

-- an initialiser of a constructor, without a name for `sc_module`
pub record Init : Type 0 where
  pub place : Place
  pub name : Option ℕ
  pub args : Trees

pub record Function : Type 0 where
  pub place : Place
  pub name : ℕ
  pub constructor : Bool
  pub result : Option Ty
  pub params : List Taken
  pub inits : List Init
  pub body : Option Stmts

-- a member variable
pub record Field : Type 0 where
  pub place : Place
  pub name : ℕ
  pub type : Ty
  pub hold : Hold
  pub sizes : Trees

-- what a file and a class declare, a class besides its member variables
pub data Said : Type 0 where
  Alias : (type : Ty) → Said
  Numbers : (all : List Enumerator) → Said
  Constant : (type : Ty) (value : Tree) → Said
  Declared : (function : Function) → Said
  -- what no class declares
  Other : Said

-- the place is that of the name, or of the first token where there is none
pub record Item : Type 0 where
  pub place : Place
  pub name : Option ℕ
  pub said : Said

pub data Member : Type 0 where
  -- the variable of that number
  Variable : (number : ℕ) (field : Field) → Member
  -- the other declaration of that number
  Declares : (number : ℕ) (item : Item) → Member

pub record Class : Type 0 where
  pub params : List Param
  -- the arguments of a specialisation
  pub special : Option TyArgs
  pub is_module : Bool
  pub members : List Member

-- a declaration of the file; the place of a class is that of its name, that of a body outside its class that of the class's name
pub data Top : Type 0 where
  OfClass : (place : Place) (name : Option ℕ) (class : Class) → Top
  Outside : (place : Place) (params : List Param) (class : ℕ) (args : TyArgs) (function : Function) → Top
  Plain : (item : Item) → Top

pub record Source : Type 0 where
  pub items : List Top
  -- the end of its last file
  pub end : Place
