-- The grammar of declarations, one case per production (C++, [dcl.dcl], [class], [temp]; IEEE 1666-2011, section 5.2).
-- The names that are declared so far go in, and those that are declared behind it come out.
use Rattle.std.specs.Prelude.{◌≡◌, Bool, true, false, List, [], ◌∷◌, Option, Some, None}
use Rattle.scc_base.specs.declared.names.Name.{Name}
use Rattle.scc_base.specs.declared.refusal.Place.{Place}
use Rattle.scc_tree.specs.declared.expr.Expr.{Expr}
use Rattle.scc_tree.specs.declared.ty.Ty.{Ty}
use Rattle.scc_tree.specs.declared.ty.TyArg.{TyArg}
use Rattle.scc_tree.specs.declared.ty.TyArg.TheVariants as arg
use Rattle.scc_tree.specs.declared.local.Decl.{Decl}
use Rattle.scc_tree.specs.declared.local.Hold.{Hold}
use Rattle.scc_tree.specs.declared.stmt.Stmt.{Stmt}
use Rattle.scc_tree.specs.declared.item.Item.{Item}
use Rattle.scc_tree.specs.declared.item.ItemNode.TheVariants as item
use Rattle.scc_tree.specs.declared.item.Enumerator.{Enumerator}
use Rattle.scc_tree.specs.declared.item.Init.{Init}
use Rattle.scc_tree.specs.declared.item.Param.{Param}
use Rattle.scc_tree.specs.declared.item.ParamSort.{ParamSort}
use Rattle.scc_tree.specs.declared.item.ParamSort.TheVariants as sorts
use Rattle.scc_tree.specs.declared.item.Prm.{Prm}
use Rattle.scc_grammar_terminals.specs.declared.terminal.Terminal.{Terminal}
use Rattle.scc_grammar_terminals.specs.declared.terminal.Terminal.TheVariants as t
use Rattle.scc_grammar_terminals.specs.declared.part.Sort.{Sort}
use Rattle.scc_grammar_terminals.specs.declared.part.Sort.TheVariants as sort
use Rattle.scc_grammar_terminals.specs.Names.{Names, no_names, is_template, with_type}
use Rattle.scc_grammar_terminals.specs.Operators.{sum}
use Rattle.scc_grammar_terminals.specs.Text.{Text, at}
use Rattle.scc_grammar_spec.specs.Expressions.{ReadsType, ReadsTyArgs, ReadsChain, ReadsExpr, ReadsCargs}
use Rattle.scc_grammar_spec.specs.Statements.{ReadsHold, ReadsDecl, ReadsBlock}
use Rattle.scc_grammar_spec.specs.Bodies.{Body, begun, with_item, with_fields, declared, item_of, function_of, constructor_of, function_item, outside_item, class_item}

-- the words before a parameter of a template that stands for a value, and before one that stands for a type
abbrev pub value_sort : Terminal → Option ParamSort
value_sort t.Int = Some sorts.Int
value_sort t.Unsigned = Some sorts.Unsigned
value_sort t.Bool = Some sorts.Bool
value_sort _ = None

abbrev pub type_word : Terminal → Bool
type_word t.Class = true
type_word t.Typename = true
type_word _ = false

-- the words before a class's name
abbrev pub class_word : Terminal → Bool
class_word t.Class = true
class_word t.Struct = true
class_word _ = false

-- the words before the members that others may see, or may not
abbrev pub access_word : Terminal → Bool
access_word t.Public = true
access_word t.Hidden = true
access_word _ = false

-- ---- words alone

-- a `const` behind a function's parameters
pub data ReadsQualifier : Text → Text → Type 0 where
  unqualified : {r : Text} → ReadsQualifier r r
  qualified : {p : Place} {r : Text} → ReadsQualifier (at t.Const p ∷ r) r

-- `static` (true) and `inline` (false) before a function
pub data ReadsFronts : Text → Text → List Bool → Type 0 where
  no_fronts : {r : Text} → ReadsFronts r r []
  static : {p : Place} {a r : Text} {rest : List Bool} → ReadsFronts a r rest → ReadsFronts (at t.Static p ∷ a) r (true ∷ rest)
  inline : {p : Place} {a r : Text} {rest : List Bool} → ReadsFronts a r rest → ReadsFronts (at t.Inline p ∷ a) r (false ∷ rest)

pub data ReadsInline : Text → Text → Type 0 where
  bare : {r : Text} → ReadsInline r r
  inline : {p : Place} {r : Text} → ReadsInline (at t.Inline p ∷ r) r

-- whether a class is a module, by what stands behind a `:`
pub data ReadsBases : Text → Text → Bool → Type 0 where
  no_bases : {r : Text} → ReadsBases r r false
  base : {c p : Place} {r : Text} → ReadsBases (at t.Colon c ∷ at t.ModuleBase p ∷ r) r true
  public_base : {c w p : Place} {r : Text} → ReadsBases (at t.Colon c ∷ at t.Public w ∷ at t.ModuleBase p ∷ r) r true

-- ---- enumerations, constants, functions

module _ (names : Names) where
  -- what may stand behind a name as its value
  pub data ReadsValue : Text → Text → Option Expr → Type 0 where
    no_value : {r : Text} → ReadsValue r r None
    value : {p q : Place} {a r : Text} {of : Expr} → ReadsExpr names q a r of → ReadsValue (at t.Assign p ∷ a) r (Some of)

  pub data ReadsEnumerator : Text → Text → Enumerator → Type 0 where
    enumerator : {x : Name} {p : Place} {a r : Text} {v : Option Expr} → ReadsValue a r v → ReadsEnumerator (at (t.Ident x) p ∷ a) r (record { place = p; name = x; value = v })

  pub data ReadsMoreEnumerators : Text → Text → List Enumerator → Type 0 where
    no_more : {r : Text} → ReadsMoreEnumerators r r []
    more : {c : Place} {a m r : Text} {first : Enumerator} {rest : List Enumerator} → ReadsEnumerator a m first → ReadsMoreEnumerators m r rest → ReadsMoreEnumerators (at t.Comma c ∷ a) r (first ∷ rest)

  -- the names of an enumeration, in braces
  pub data ReadsNumbers : Text → Text → List Enumerator → Type 0 where
    numbers : {o c s : Place} {a m r : Text} {first : Enumerator} {rest : List Enumerator}
        → ReadsEnumerator a m first → ReadsMoreEnumerators m (at t.BraceClose c ∷ at t.Semicolon s ∷ r) rest → ReadsNumbers (at t.BraceOpen o ∷ a) r (first ∷ rest)

  -- A constant's type has a `const`, and may have another one.
  pub data ReadsConstantType : Text → Text → Ty → Type 0 where
    once : {p : Place} {ts r : Text} {of : Ty} → ReadsType names sort.Constant false p ts r of → ReadsConstantType ts r of
    twice : {p q : Place} {a r : Text} {of : Ty} → ReadsType names sort.Constant false p (at t.Const p ∷ a) r of → ReadsConstantType (at t.Const p ∷ at t.Const q ∷ a) r of

  pub data ReadsConstant : Text → Text → Item → Type 0 where
    constant : {x : Name} {p e q s : Place} {ts a r : Text} {of : Ty} {v : Expr}
        → ReadsConstantType ts (at (t.Ident x) p ∷ at t.Assign e ∷ a) of → ReadsExpr names q a (at t.Semicolon s ∷ r) v → ReadsConstant ts r (item_of p (Some x) (item.Constant of v))

  -- what a function gives
  pub data ReadsResult : Text → Text → Option Ty → Type 0 where
    nothing : {p : Place} {r : Text} → ReadsResult (at t.Void p ∷ r) r None
    result : {s : Sort} {p : Place} {ts r : Text} {of : Ty} → ReadsType names s false p ts r of → ReadsResult ts r (Some of)

  pub data ReadsPrm : Text → Text → Prm → Type 0 where
    prm : {s : Sort} {x : Name} {q p : Place} {ts m r : Text} {of : Ty} {h : Hold}
        → ReadsType names s false q ts m of → ReadsHold m (at (t.Ident x) p ∷ r) h → ReadsPrm ts r (record { place = p; ty = of; hold = h; name = x })

  pub data ReadsMorePrms : Text → Text → List Prm → Type 0 where
    no_more : {r : Text} → ReadsMorePrms r r []
    more : {c : Place} {a m r : Text} {first : Prm} {rest : List Prm} → ReadsPrm a m first → ReadsMorePrms m r rest → ReadsMorePrms (at t.Comma c ∷ a) r (first ∷ rest)

  -- the parameters of a function, between its brackets
  pub data ReadsPrms : Text → Text → List Prm → Type 0 where
    no_prms : {r : Text} → ReadsPrms r r []
    nothing : {p : Place} {r : Text} → ReadsPrms (at t.Void p ∷ r) r []
    prms : {ts m r : Text} {first : Prm} {rest : List Prm} → ReadsPrm ts m first → ReadsMorePrms m r rest → ReadsPrms ts r (first ∷ rest)

  -- a body, or the end of a declaration without one
  pub data ReadsBody : Text → Text → Option (List Stmt) → Type 0 where
    no_body : {s : Place} {r : Text} → ReadsBody (at t.Semicolon s ∷ r) r None
    body : {ts r : Text} {of : List Stmt} → ReadsBlock names ts r of → ReadsBody ts r (Some of)

  -- a function, behind the words `static` and `inline`
  pub data ReadsFunction : Text → Text → Item → Type 0 where
    function : {x : Name} {p o c : Place} {ts a b m r : Text} {result : Option Ty} {params : List Prm} {of : Option (List Stmt)}
        → ReadsResult ts (at (t.Ident x) p ∷ at t.ParenOpen o ∷ a) result → ReadsPrms a (at t.ParenClose c ∷ b) params → ReadsQualifier b m → ReadsBody m r of
        → ReadsFunction ts r (function_item (function_of p x result params of))

  -- ---- constructors and bodies outside a class

  pub data ReadsInit : Text → Text → Init → Type 0 where
    named : {x : Name} {p o c : Place} {a r : Text} {args : List Expr}
        → ReadsCargs names a (at t.ParenClose c ∷ r) args → ReadsInit (at (t.Ident x) p ∷ at t.ParenOpen o ∷ a) r (record { place = p; name = Some x; args = args })
    base : {p o c : Place} {a r : Text} {args : List Expr}
        → ReadsCargs names a (at t.ParenClose c ∷ r) args → ReadsInit (at t.ModuleBase p ∷ at t.ParenOpen o ∷ a) r (record { place = p; name = None; args = args })

  pub data ReadsMoreInits : Text → Text → List Init → Type 0 where
    no_more : {r : Text} → ReadsMoreInits r r []
    more : {c : Place} {a m r : Text} {first : Init} {rest : List Init} → ReadsInit a m first → ReadsMoreInits m r rest → ReadsMoreInits (at t.Comma c ∷ a) r (first ∷ rest)

  pub data ReadsInits : Text → Text → List Init → Type 0 where
    no_inits : {r : Text} → ReadsInits r r []
    inits : {c : Place} {a m r : Text} {first : Init} {rest : List Init} → ReadsInit a m first → ReadsMoreInits m r rest → ReadsInits (at t.Colon c ∷ a) r (first ∷ rest)

  pub data ReadsConstructor : Text → Text → Item → Type 0 where
    module_constructor : {x : Name} {w o p c : Place} {a b r : Text} {inits : List Init} {of : Option (List Stmt)}
        → ReadsInits a b inits → ReadsBody b r of
        → ReadsConstructor (at t.Constructor w ∷ at t.ParenOpen o ∷ at (t.Ident x) p ∷ at t.ParenClose c ∷ a) r (function_item (constructor_of p x [] inits of))
    named : {x : Name} {p o c : Place} {a b m r : Text} {params : List Prm} {inits : List Init} {of : Option (List Stmt)}
        → ReadsPrms a (at t.ParenClose c ∷ b) params → ReadsInits b m inits → ReadsBody m r of
        → ReadsConstructor (at (t.Ident x) p ∷ at t.ParenOpen o ∷ a) r (function_item (constructor_of p x params inits of))
    explicit : {x : Name} {w p o c : Place} {a b m r : Text} {params : List Prm} {inits : List Init} {of : Option (List Stmt)}
        → ReadsPrms a (at t.ParenClose c ∷ b) params → ReadsInits b m inits → ReadsBody m r of
        → ReadsConstructor (at t.Explicit w ∷ at (t.Ident x) p ∷ at t.ParenOpen o ∷ a) r (function_item (constructor_of p x params inits of))

  -- the arguments behind the name of a class template
  pub data ReadsClassArgs : Name → Text → Text → List TyArg → Type 0 where
    bare : {x : Name} {r : Text} → ReadsClassArgs x r r []
    with_args : {x : Name} {l : Place} {a r : Text} {args : List TyArg} → is_template names x ≡ true → ReadsTyArgs names false a r args → ReadsClassArgs x (at t.Less l ∷ a) r args

  -- the body of a member outside its class, behind the parameters of a template
  pub data ReadsOutside (of_template : List Param) : Text → Text → Item → Type 0 where
    function : {x y : Name} {p q s o c : Place} {ts a b d e k r : Text} {result : Option Ty} {args : List TyArg} {params : List Prm} {of : List Stmt}
        → ReadsInline ts a → ReadsResult a (at (t.Ident x) p ∷ b) result → ReadsClassArgs x b (at t.Scope q ∷ at (t.Ident y) s ∷ at t.ParenOpen o ∷ d) args
        → ReadsPrms d (at t.ParenClose c ∷ e) params → ReadsQualifier e k → ReadsBlock names k r of
        → ReadsOutside of_template ts r (outside_item p of_template x args (function_of s y result params (Some of)))
    constructor : {x y : Name} {p q s o c : Place} {b d e k r : Text} {args : List TyArg} {params : List Prm} {inits : List Init} {of : List Stmt}
        → ReadsClassArgs x b (at t.Scope q ∷ at (t.Ident y) s ∷ at t.ParenOpen o ∷ d) args
        → ReadsPrms d (at t.ParenClose c ∷ e) params → ReadsInits e k inits → ReadsBlock names k r of
        → ReadsOutside of_template (at (t.Ident x) p ∷ b) r (outside_item p of_template x args (constructor_of s y params inits (Some of)))

-- what may stand in files and in classes
pub data ReadsItem : Names → Text → Names → Text → Item → Type 0 where
  alias : {names : Names} {s : Sort} {x : Name} {w q p e : Place} {a r : Text} {of : Ty}
      → ReadsType names s false q a (at (t.Ident x) p ∷ at t.Semicolon e ∷ r) of → ReadsItem names (at t.Typedef w ∷ a) (with_type names x) r (item_of p (Some x) (item.Alias of))
  named_numbers : {names : Names} {x : Name} {w p : Place} {a r : Text} {of : List Enumerator}
      → ReadsNumbers (with_type names x) a r of → ReadsItem names (at t.Enum w ∷ at (t.Ident x) p ∷ a) (with_type names x) r (item_of p (Some x) (item.Numbers of))
  numbers : {names : Names} {w : Place} {a r : Text} {of : List Enumerator} → ReadsNumbers names a r of → ReadsItem names (at t.Enum w ∷ a) names r (item_of w None (item.Numbers of))
  constant : {names : Names} {ts r : Text} {of : Item} → ReadsConstant names ts r of → ReadsItem names ts names r of
  static_constant : {names : Names} {p : Place} {a r : Text} {of : Item} → ReadsConstant names a r of → ReadsItem names (at t.Static p ∷ a) names r of
  function : {names : Names} {fronts : List Bool} {ts m r : Text} {of : Item} → ReadsFronts ts m fronts → ReadsFunction names m r of → ReadsItem names ts names r of

-- ---- templates

-- A parameter of a template. The flag: its last token is a `>>` that closes the list around it, too.
pub data ReadsParam : Names → Bool → Text → Names → Text → Param → Type 0 where
  value : {names : Names} {w : Terminal} {s : ParamSort} {x : Name} {q p : Place} {r : Text}
      → value_sort w ≡ Some s → ReadsParam names false (at w q ∷ at (t.Ident x) p ∷ r) names r (record { place = p; name = x; sort = s; preset = None })
  value_preset : {names : Names} {w : Terminal} {s : ParamSort} {x : Name} {q p e k : Place} {a r : Text} {of : Expr}
      → value_sort w ≡ Some s → ReadsChain names sum k a r of
      → ReadsParam names false (at w q ∷ at (t.Ident x) p ∷ at t.Assign e ∷ a) names r (record { place = p; name = x; sort = s; preset = Some (arg.Value of) })
  type : {names : Names} {w : Terminal} {x : Name} {q p : Place} {r : Text}
      → type_word w ≡ true → ReadsParam names false (at w q ∷ at (t.Ident x) p ∷ r) (with_type names x) r (record { place = p; name = x; sort = sorts.Class; preset = None })
  type_preset : {names : Names} {w : Terminal} {s : Sort} {both : Bool} {x : Name} {q p e k : Place} {a r : Text} {of : Ty}
      → type_word w ≡ true → ReadsType (with_type names x) s both k a r of
      → ReadsParam names both (at w q ∷ at (t.Ident x) p ∷ at t.Assign e ∷ a) (with_type names x) r (record { place = p; name = x; sort = sorts.Class; preset = Some (arg.Named of) })

-- parameters, and what closes them
pub data ReadsParams : Names → Text → Names → Text → List Param → Type 0 where
  last : {names names₁ : Names} {c : Place} {ts r : Text} {of : Param} → ReadsParam names false ts names₁ (at t.Greater c ∷ r) of → ReadsParams names ts names₁ r (of ∷ [])
  last_both : {names names₁ : Names} {ts r : Text} {of : Param} → ReadsParam names true ts names₁ r of → ReadsParams names ts names₁ r (of ∷ [])
  more : {names names₁ names₂ : Names} {c : Place} {ts a r : Text} {of : Param} {rest : List Param}
      → ReadsParam names false ts names₁ (at t.Comma c ∷ a) of → ReadsParams names₁ a names₂ r rest → ReadsParams names ts names₂ r (of ∷ rest)

pub data ReadsTemplate : Names → Text → Names → Text → List Param → Type 0 where
  empty : {names : Names} {w l c : Place} {r : Text} → ReadsTemplate names (at t.Template w ∷ at t.Less l ∷ at t.Greater c ∷ r) names r []
  template : {names names₁ : Names} {w l : Place} {a r : Text} {of : List Param} → ReadsParams names a names₁ r of → ReadsTemplate names (at t.Template w ∷ at t.Less l ∷ a) names₁ r of

-- ---- classes

-- further names of one type
pub data ReadsMoreDecls (names : Names) : Text → Text → List Decl → Type 0 where
  no_more : {r : Text} → ReadsMoreDecls names r r []
  more : {c : Place} {a m r : Text} {first : Decl} {rest : List Decl} → ReadsDecl names a m first → ReadsMoreDecls names m r rest → ReadsMoreDecls names (at t.Comma c ∷ a) r (first ∷ rest)

pub data ReadsMember : Body → Text → Body → Text → Type 0 where
  access : {b : Body} {w : Terminal} {p c : Place} {r : Text} → access_word w ≡ true → ReadsMember b (at w p ∷ at t.Colon c ∷ r) b r
  has_process : {b : Body} {x : Name} {w o p c s : Place} {r : Text} → ReadsMember b (at t.HasProcess w ∷ at t.ParenOpen o ∷ at (t.Ident x) p ∷ at t.ParenClose c ∷ at t.Semicolon s ∷ r) b r
  declaration : {b : Body} {names : Names} {ts r : Text} {of : Item} → ReadsItem b.names ts names r of → ReadsMember b ts (with_item b names of) r
  constructor : {b : Body} {ts r : Text} {of : Item} → ReadsConstructor b.names ts r of → ReadsMember b ts (with_item b b.names of) r
  fields : {b : Body} {s : Sort} {p e : Place} {ts m k r : Text} {of : Ty} {first : Decl} {rest : List Decl}
      → ReadsType b.names s false p ts m of → ReadsDecl b.names m k first → ReadsMoreDecls b.names k (at t.Semicolon e ∷ r) rest → ReadsMember b ts (with_fields b of (first ∷ rest)) r

pub data ReadsMembers : Body → Text → Body → Text → Type 0 where
  no_members : {b : Body} {r : Text} → ReadsMembers b r b r
  members : {b b₁ b₂ : Body} {ts m r : Text} → ReadsMember b ts b₁ m → ReadsMembers b₁ m b₂ r → ReadsMembers b ts b₂ r

-- The arguments of a specialisation, behind `template<>`.
pub data ReadsSpecial (names : Names) : Option (List Param) → Name → Text → Text → Option (List TyArg) → Type 0 where
  plain : {params : Option (List Param)} {x : Name} {r : Text} → ReadsSpecial names params x r r None
  special : {x : Name} {l : Place} {a r : Text} {args : List TyArg} → is_template names x ≡ true → ReadsTyArgs names false a r args → ReadsSpecial names (Some []) x (at t.Less l ∷ a) r (Some args)

-- a class, behind the parameters of a template
pub data ReadsClass (params : Option (List Param)) : Names → Text → Names → Text → Item → Type 0 where
  module_class : {names : Names} {b : Body} {x : Name} {w o p c l e s : Place} {a r : Text}
      → ReadsMembers (begun (declared names params x)) a b (at t.BraceClose e ∷ at t.Semicolon s ∷ r)
      → ReadsClass params names (at t.Module w ∷ at t.ParenOpen o ∷ at (t.Ident x) p ∷ at t.ParenClose c ∷ at t.BraceOpen l ∷ a) b.names r (class_item p x params None true b)
  class : {names : Names} {b : Body} {w : Terminal} {x : Name} {q p l e s : Place} {a d k r : Text} {special : Option (List TyArg)} {module_base : Bool}
      → class_word w ≡ true → ReadsSpecial (declared names params x) params x a d special → ReadsBases d (at t.BraceOpen l ∷ k) module_base
      → ReadsMembers (begun (declared names params x)) k b (at t.BraceClose e ∷ at t.Semicolon s ∷ r)
      → ReadsClass params names (at w q ∷ at (t.Ident x) p ∷ a) b.names r (class_item p x params special module_base b)

-- ---- files

pub data ReadsPart : Body → Text → Body → Text → Type 0 where
  using : {b : Body} {w n l s : Place} {r : Text} → ReadsPart b (at t.Using w ∷ at t.Namespace n ∷ at t.Library l ∷ at t.Semicolon s ∷ r) b r
  declaration : {b : Body} {names : Names} {ts r : Text} {of : Item} → ReadsItem b.names ts names r of → ReadsPart b ts (with_item b names of) r
  class : {b : Body} {names : Names} {ts r : Text} {of : Item} → ReadsClass None b.names ts names r of → ReadsPart b ts (with_item b names of) r
  template_class : {b : Body} {names₁ names₂ : Names} {ts m r : Text} {params : List Param} {of : Item}
      → ReadsTemplate b.names ts names₁ m params → ReadsClass (Some params) names₁ m names₂ r of → ReadsPart b ts (with_item b names₂ of) r
  outside : {b : Body} {ts r : Text} {of : Item} → ReadsOutside b.names [] ts r of → ReadsPart b ts (with_item b b.names of) r
  template_outside : {b : Body} {names : Names} {ts m r : Text} {params : List Param} {of : Item}
      → ReadsTemplate b.names ts names m params → ReadsOutside names params m r of → ReadsPart b ts (with_item b names of) r

pub data ReadsParts : Body → Text → Body → Text → Type 0 where
  no_parts : {b : Body} {r : Text} → ReadsParts b r b r
  parts : {b b₁ b₂ : Body} {ts m r : Text} → ReadsPart b ts b₁ m → ReadsParts b₁ m b₂ r → ReadsParts b ts b₂ r

-- The whole of the tokens is a file of these declarations.
pub data Reads : Text → List Item → Type 0 where
  file : {ts : Text} {b : Body} → ReadsParts (begun no_names) ts b [] → Reads ts b.items
