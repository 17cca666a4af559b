-- A template's body with its parameters replaced by what stands for them (ISO C++ [temp.inst], [temp.param]).
use Rattle.std.specs.Prelude.{ℕ, nat_eq, Bool, Option, Some, None, if◌then◌else◌}
use Rattle.scc_base.specs.declared.refusal.Place.{Place}
use Rattle.scc_templates_spec.specs.Walk.{Arg}
use Rattle.scc_templates_spec.specs.Tree.{Tree, Number, Given, This, Null, Text, Name, Scoped, Operate, Before, Choose, Cast, Index, Dot, Arrow, Call, Concat, Make, Trees, Nil, Cons, Ty, OfKind, Sized, Input, Output, Signal, Vector, ModuleName, Named, GivenTy, TyArgs, NoArgs, ByValue, ByType}

-- what stands for a name, if it is a parameter's
abbrev pub Bound : Type 0
Bound = ℕ → Option Arg

abbrev pub unbound : Bound
unbound x = None

-- without a name that a declaration hides
abbrev pub hide : ℕ → Bound → Bound
hide x b y = if nat_eq x y then None else b y

abbrev pub given_or : Place → Tree → Option Arg → Tree
given_or p t None = t
given_or p t (Some a) = Given p a

abbrev pub given_type_or : Place → Bool → Ty → Option Arg → Ty
given_type_or p b t None = t
given_type_or p b t (Some a) = GivenTy p a b

module _ (b : Bound) where
  abbrev mutual
    pub replace : Tree → Tree
    replace (Number p k w) = Number p k w
    replace (Given p a) = Given p a
    replace (This p) = This p
    replace (Null p) = Null p
    replace (Text p) = Text p
    replace (Name p x) = given_or p (Name p x) (b x)
    replace (Scoped p t x) = Scoped p (replace_type t) x
    replace (Operate p at o l r) = Operate p at o (replace l) (replace r)
    replace (Before p o a) = Before p o (replace a)
    replace (Choose p t l r) = Choose p (replace t) (replace l) (replace r)
    replace (Cast p t a) = Cast p (replace_type t) (replace a)
    replace (Index p a i) = Index p (replace a) (replace i)
    replace (Dot p own a x) = Dot p own (replace a) x
    replace (Arrow p own a x) = Arrow p own (replace a) x
    replace (Call p a xs) = Call p (replace a) (replace_all xs)
    replace (Concat p xs) = Concat p (replace_all xs)
    replace (Make p t xs) = Make p (replace_type t) (replace_all xs)

    pub replace_all : Trees → Trees
    replace_all Nil = Nil
    replace_all (Cons t ts) = Cons (replace t) (replace_all ts)

    pub replace_type : Ty → Ty
    replace_type (OfKind p k) = OfKind p k
    replace_type (Sized p f w) = Sized p f (replace w)
    replace_type (Input p t) = Input p (replace_type t)
    replace_type (Output p t) = Output p (replace_type t)
    replace_type (Signal p t) = Signal p (replace_type t)
    replace_type (Vector p t) = Vector p (replace_type t)
    replace_type (ModuleName p) = ModuleName p
    replace_type (Named p x bracketed xs) = given_type_or p bracketed (Named p x bracketed (replace_args xs)) (b x)
    replace_type (GivenTy p a bracketed) = GivenTy p a bracketed

    pub replace_args : TyArgs → TyArgs
    replace_args NoArgs = NoArgs
    replace_args (ByValue t ts) = ByValue (replace t) (replace_args ts)
    replace_args (ByType t ts) = ByType (replace_type t) (replace_args ts)
