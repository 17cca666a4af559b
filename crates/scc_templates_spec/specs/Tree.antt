-- Expressions and types of a source, without their boxes (ISO C++ [expr], [dcl.type]). A chain of operators of one precedence is operators from the left, and so are
-- indices, members and calls behind an expression. A template's parameter is replaced by what stands for it.
use Rattle.std.specs.Prelude.{ℕ, zero, suc, Bool}
use Rattle.scc_base.specs.declared.refusal.Place.{Place}
use Rattle.scc_bits_kinds.specs.declared.kind.Kind.{Kind}
use Rattle.scc_bits_kinds.specs.declared.op.Op.{Op}
use Rattle.scc_tree.specs.declared.expr.UnaryOp.{UnaryOp}
use Rattle.scc_tree.specs.declared.ty.Family.{Family}
use Rattle.scc_templates_spec.specs.Walk.{Arg}

mutual
  -- each with the place of its first token
  pub data Tree : Type 0 where
    Number : (place : Place) (kind : Kind) (word : ℕ) → Tree
    -- what stands for a parameter
    Given : (place : Place) (arg : Arg) → Tree
    This : (place : Place) → Tree
    Null : (place : Place) → Tree
    Text : (place : Place) → Tree
    Name : (place : Place) (name : ℕ) → Tree
    -- `of::name`
    Scoped : (place : Place) (of : Ty) (name : ℕ) → Tree
    -- an operator between two operands, with its own place; the place of a chain is that of its first operand
    Operate : (place at : Place) (op : Op) (left right : Tree) → Tree
    Before : (place : Place) (op : UnaryOp) (of : Tree) → Tree
    Choose : (place : Place) (test yes no : Tree) → Tree
    Cast : (place : Place) (to : Ty) (of : Tree) → Tree
    -- the place of what stands behind an expression is the whole expression's; a member's name has its own
    Index : (place : Place) (of at : Tree) → Tree
    Dot : (place own : Place) (of : Tree) (name : ℕ) → Tree
    Arrow : (place own : Place) (of : Tree) (name : ℕ) → Tree
    Call : (place : Place) (of : Tree) (args : Trees) → Tree
    Concat : (place : Place) (parts : Trees) → Tree
    -- `new of(args)`
    Make : (place : Place) (of : Ty) (args : Trees) → Tree

  pub data Trees : Type 0 where
    Nil : Trees
    Cons : (tree : Tree) (rest : Trees) → Trees

  pub data Ty : Type 0 where
    OfKind : (place : Place) (kind : Kind) → Ty
    Sized : (place : Place) (family : Family) (width : Tree) → Ty
    Input : (place : Place) (of : Ty) → Ty
    Output : (place : Place) (of : Ty) → Ty
    Signal : (place : Place) (of : Ty) → Ty
    Vector : (place : Place) (of : Ty) → Ty
    ModuleName : (place : Place) → Ty
    -- a declared type, and what stands for a parameter: whether brackets stand behind it, and what stands in them
    Named : (place : Place) (name : ℕ) (bracketed : Bool) (args : TyArgs) → Ty
    GivenTy : (place : Place) (arg : Arg) (bracketed : Bool) → Ty

  -- arguments between angle brackets
  pub data TyArgs : Type 0 where
    NoArgs : TyArgs
    ByValue : (value : Tree) (rest : TyArgs) → TyArgs
    ByType : (type : Ty) (rest : TyArgs) → TyArgs

abbrev pub place_of : Tree → Place
place_of (Number p k w) = p
place_of (Given p a) = p
place_of (This p) = p
place_of (Null p) = p
place_of (Text p) = p
place_of (Name p x) = p
place_of (Scoped p t x) = p
place_of (Operate p q o a b) = p
place_of (Before p o a) = p
place_of (Choose p t a b) = p
place_of (Cast p t a) = p
place_of (Index p a i) = p
place_of (Dot p q a x) = p
place_of (Arrow p q a x) = p
place_of (Call p a xs) = p
place_of (Concat p xs) = p
place_of (Make p t xs) = p

abbrev pub place_at : Ty → Place
place_at (OfKind p k) = p
place_at (Sized p f w) = p
place_at (Input p t) = p
place_at (Output p t) = p
place_at (Signal p t) = p
place_at (Vector p t) = p
place_at (ModuleName p) = p
place_at (Named p x b as_given) = p
place_at (GivenTy p a b) = p

abbrev pub count : Trees → ℕ
count Nil = zero
count (Cons t ts) = suc (count ts)
