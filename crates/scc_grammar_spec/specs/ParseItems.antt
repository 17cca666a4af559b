-- Declarations as functions that read from the left, where `n` levels are left.
use Rattle.std.specs.Prelude.{ℕ, Bool, true, false, ◌||◌, ◌&&◌, List, [], ◌∷◌, Option, Some, None, if◌then◌else◌, is_some}
use Rattle.scc_base.specs.declared.names.Name.{Name}
use Rattle.scc_base.specs.declared.refusal.Place.{Place}
use Rattle.scc_tree.specs.declared.expr.Expr.{Expr}
use Rattle.scc_tree.specs.declared.ty.Ty.{Ty}
use Rattle.scc_tree.specs.declared.ty.TyArg.{TyArg}
use Rattle.scc_tree.specs.declared.ty.TyNode.TheVariants as ty
use Rattle.scc_tree.specs.declared.stmt.Stmt.{Stmt}
use Rattle.scc_tree.specs.declared.item.Item.{Item}
use Rattle.scc_tree.specs.declared.item.ItemNode.TheVariants as item
use Rattle.scc_tree.specs.declared.item.Enumerator.{Enumerator}
use Rattle.scc_tree.specs.declared.item.Init.{Init}
use Rattle.scc_tree.specs.declared.item.Param.{Param}
use Rattle.scc_tree.specs.declared.item.ParamSort.{ParamSort}
use Rattle.scc_tree.specs.declared.item.ParamSort.TheVariants as sorts
use Rattle.scc_tree.specs.declared.item.Prm.{Prm}
use Rattle.scc_reading.specs.Reading.{◌>>=◌, ◌>>◌, pure, fail, token, choose, repeat}
use Rattle.scc_grammar_terminals.specs.declared.part.TypeRead.{TypeRead}
use Rattle.scc_grammar_terminals.specs.declared.terminal.Seen.{Seen}
use Rattle.scc_grammar_terminals.specs.declared.terminal.Terminal.{Terminal}
use Rattle.scc_grammar_terminals.specs.declared.terminal.Terminal.TheVariants as t
use Rattle.scc_grammar_terminals.specs.Marks as m
use Rattle.scc_grammar_terminals.specs.Names.{Names, is_type, is_template, with_type}
use Rattle.scc_grammar_terminals.specs.Nodes.{base_of, constant_of}
use Rattle.scc_grammar_terminals.specs.Text.{Parser, mark, pick, next_is, next_says, identifier, name_at}
use Rattle.scc_grammar_spec.specs.Bodies.{item_of, function_of, constructor_of, function_item, outside_item}
use Rattle.scc_grammar_spec.specs.Items.{class_word}
use Rattle.scc_grammar_spec.specs.ParseExpressions as e
use Rattle.scc_grammar_spec.specs.ParseExpressions.{close, close_unless, constant_type, named_type, is_constant}
use Rattle.scc_grammar_spec.specs.ParseStatements as s
use Rattle.scc_grammar_spec.specs.ParseStatements.{inner}

-- a token says which it is, by what begins there
pub data ItemStart : Type 0 where
  alias_start enum_start : ItemStart

pub data MemberStart : Type 0 where
  access_start has_process_start module_constructor_start explicit_start : MemberStart
  item_start : ItemStart → MemberStart

pub data PartStart : Type 0 where
  using_start template_start : PartStart
  item_start : ItemStart → PartStart

abbrev pub item_begin : Terminal → Option ItemStart
item_begin t.Typedef = Some alias_start
item_begin t.Enum = Some enum_start
item_begin _ = None

abbrev pub member_begin : Terminal → Option MemberStart
member_begin t.Public = Some access_start
member_begin t.Hidden = Some access_start
member_begin t.HasProcess = Some has_process_start
member_begin t.Constructor = Some module_constructor_start
member_begin t.Explicit = Some explicit_start
member_begin t.Typedef = Some (MemberStart.item_start alias_start)
member_begin t.Enum = Some (MemberStart.item_start enum_start)
member_begin _ = None

abbrev pub part_begin : Terminal → Option PartStart
part_begin t.Using = Some using_start
part_begin t.Template = Some template_start
part_begin t.Typedef = Some (PartStart.item_start alias_start)
part_begin t.Enum = Some (PartStart.item_start enum_start)
part_begin _ = None

abbrev pub begins_class : Terminal → Bool
begins_class w = m.module_word w || class_word w

-- `static` (true) or `inline` (false)
abbrev pub front : Terminal → Option Bool
front t.Static = Some true
front t.Inline = Some false
front _ = None

-- the name of an initialiser, or none for `sc_module`
abbrev pub init_start : Terminal → Option (Option Name)
init_start (t.Ident x) = Some (Some x)
init_start t.ModuleBase = Some None
init_start _ = None

-- what a parameter of a template stands for: a value of the sort, or a type
abbrev pub param_start : Terminal → Option (Option ParamSort)
param_start t.Int = Some (Some sorts.Int)
param_start t.Unsigned = Some (Some sorts.Unsigned)
param_start t.Bool = Some (Some sorts.Bool)
param_start t.Class = Some None
param_start t.Typename = Some None
param_start _ = None

-- a constant may have `static` alone before it, and a body outside a class `inline` alone
abbrev pub before_constant : List Bool → Bool
before_constant [] = true
before_constant (true ∷ []) = true
before_constant _ = false

abbrev pub before_outside : List Bool → Bool
before_outside [] = true
before_outside (false ∷ []) = true
before_outside _ = false

abbrev pub or_none : Option (List TyArg) → List TyArg
or_none None = []
or_none (Some args) = args

-- a class's name, and behind it arguments
abbrev pub named_of : Name × Place → Option (List TyArg) → TypeRead
named_of x args = named_type x.1 (base_of x.1 (ty.Named x.0 args)) false

-- nothing but a name stands before it
abbrev pub is_first_name : List Bool → Seen → Bool
is_first_name [] t = is_some (identifier t.terminal)
is_first_name (f ∷ fs) t = false

-- ---- words alone

unfoldable pub qualifier : Parser (Unit {0})
qualifier = choose (next_is m.constant) (mark m.constant >> pure (tt {0})) (pure (tt {0}))

abbrev pub one_front : Parser Bool
one_front = token (pick front) >>= λ f. pure f.0

unfoldable pub fronts : Parser (List Bool)
fronts = repeat (next_says front) one_front

-- whether a class is a module, by what stands behind a `:`
unfoldable pub bases : Parser Bool
bases = choose (next_is m.colon) (mark m.colon >> choose (next_is m.public_word) (mark m.public_word >> (mark m.module_base >> pure true)) (mark m.module_base >> pure true)) (pure false)

-- The names that are declared behind a template's parameter, and whether a `>>` closed the list around it, too.
pub record Params : Type 0 where
  pub names : Names
  pub closed : Bool

abbrev pub params_by : Names → Bool → Params
params_by names closed = record { names = names; closed = closed }

abbrev pub preset_of : Name × Place → ParamSort → Option TyArg → Param
preset_of x sort preset = record { place = x.1; name = x.0; sort = sort; preset = preset }

module _ (n : ℕ) where
  -- ---- enumerations and definitions of types

  unfoldable pub value : Names → Parser (Option Expr)
  value names = choose (next_is m.assign) (mark m.assign >> (e.expr names (inner names n) >>= λ of. pure (Some of))) (pure None)

  unfoldable pub enumerator : Names → Parser Enumerator
  enumerator names = do
    x ← name_at
    v ← value names
    pure (record { place = x.1; name = x.0; value = v })

  abbrev pub one_enumerator : Names → Parser Enumerator
  one_enumerator names = mark m.comma >> enumerator names

  unfoldable pub numbers : Names → Parser (List Enumerator)
  numbers names = do
    mark m.brace_open
    first ← enumerator names
    more ← repeat (next_is m.comma) (one_enumerator names)
    mark m.brace_close
    mark m.semicolon
    pure (first ∷ more)

  -- behind `typedef`
  unfoldable pub alias : Names → Parser (Names × Item)
  alias names = do
    of ← e.type_at names (inner names n) false
    x ← name_at
    mark m.semicolon
    pure (with_type names x.0, item_of x.1 (Some x.0) (item.Alias of.ty))

  -- behind `enum`, which stands at the place
  unfoldable pub enumeration : Names → Place → Parser (Names × Item)
  enumeration names w = choose (next_says identifier) (do
    x ← name_at
    of ← numbers (with_type names x.0)
    pure (with_type names x.0, item_of x.1 (Some x.0) (item.Numbers of))) (numbers names >>= λ of. pure (names, item_of w None (item.Numbers of)))

  unfoldable pub item_by : Names → ItemStart → Place → Parser (Names × Item)
  item_by names alias_start w = alias names
  item_by names enum_start w = enumeration names w

  -- ---- parts of functions

  unfoldable pub prm : Names → Parser Prm
  prm names = do
    of ← e.type_at names (inner names n) false
    h ← s.hold_at
    x ← name_at
    pure (record { place = x.1; ty = of.ty; hold = h; name = x.0 })

  abbrev pub one_prm : Names → Parser Prm
  one_prm names = mark m.comma >> prm names

  -- parameters between brackets
  unfoldable pub prms : Names → Parser (List Prm)
  prms names = choose (next_is m.paren_close) (pure []) (choose (next_is m.void_word) (mark m.void_word >> pure []) (do
    first ← prm names
    more ← repeat (next_is m.comma) (one_prm names)
    pure (first ∷ more)))

  unfoldable pub body : Names → Parser (Option (List Stmt))
  body names = choose (next_is m.semicolon) (mark m.semicolon >> pure None) (s.block_of names (inner names n) >>= λ of. pure (Some of))

  unfoldable pub init : Names → Parser Init
  init names = do
    x ← token (pick init_start)
    mark m.paren_open
    args ← e.cargs names (inner names n)
    mark m.paren_close
    pure (record { place = x.1; name = x.0; args = args })

  abbrev pub one_init : Names → Parser Init
  one_init names = mark m.comma >> init names

  unfoldable pub inits : Names → Parser (List Init)
  inits names = choose (next_is m.colon) (do
    mark m.colon
    first ← init names
    more ← repeat (next_is m.comma) (one_init names)
    pure (first ∷ more)) (pure [])

  -- the arguments that may stand behind a class's name
  unfoldable pub named_args : Names → Name → Parser (Option (List TyArg))
  named_args names x = choose (λ t. is_template names x && m.less t.terminal) (do
    mark m.less
    args ← e.ty_args names (inner names n) false
    pure (Some args.0)) (pure None)

  -- ---- behind a name

  unfoldable pub function_rest : Names → Option Ty → Name × Place → Parser Item
  function_rest names result x = do
    mark m.paren_open
    params ← prms names
    mark m.paren_close
    qualifier
    of ← body names
    pure (function_item (function_of x.1 x.0 result params of))

  unfoldable pub constructor_rest : Names → Name × Place → Parser Item
  constructor_rest names x = do
    mark m.paren_open
    params ← prms names
    mark m.paren_close
    found ← inits names
    of ← body names
    pure (function_item (constructor_of x.1 x.0 params found of))

  unfoldable pub constant_rest : Names → Ty → Name × Place → Parser Item
  constant_rest names of x = do
    mark m.assign
    v ← e.expr names (inner names n)
    mark m.semicolon
    pure (item_of x.1 (Some x.0) (item.Constant of v))

  -- behind the class's name, of a body outside its class
  unfoldable pub outside_function : Names → List Param → Option Ty → Name × Place → Parser Item
  outside_function names of_template result x = do
    args ← named_args names x.0
    mark m.scope
    y ← name_at
    mark m.paren_open
    params ← prms names
    mark m.paren_close
    qualifier
    of ← s.block_of names (inner names n)
    pure (outside_item x.1 of_template x.0 (or_none args) (function_of y.1 y.0 result params (Some of)))

  -- behind the class's name and its arguments
  unfoldable pub outside_constructor : Names → List Param → Name × Place → Option (List TyArg) → Parser Item
  outside_constructor names of_template x args = do
    mark m.scope
    y ← name_at
    mark m.paren_open
    params ← prms names
    mark m.paren_close
    found ← inits names
    of ← s.block_of names (inner names n)
    pure (outside_item x.1 of_template x.0 (or_none args) (constructor_of y.1 y.0 params found (Some of)))

  -- ---- functions, constants and bodies outside their class, in files

  -- behind the name behind a type, or `void`
  unfoldable pub named_function : Names → List Bool → Option Ty → Name × Place → Parser Item
  named_function names found result x = if before_outside found then choose (next_is m.paren_open) (function_rest names result x) (outside_function names [] result x) else function_rest names result x

  -- behind a type
  unfoldable pub typed : Names → List Bool → TypeRead → Parser Item
  typed names found of = name_at >>= λ x. if is_constant of.sort && before_constant found then choose (next_is m.assign) (constant_rest names of.ty x) (named_function names found (Some of.ty) x) else named_function names found (Some of.ty) x

  -- behind a second `const`
  unfoldable pub constant_twice : Names → Place → Parser Item
  constant_twice names p = do
    of ← e.base_at names (inner names n) false
    x ← name_at
    constant_rest names (constant_of p of.ty) x

  -- behind a `const`, which stands at the place
  unfoldable pub constant_by : Names → List Bool → Place → Parser Item
  constant_by names found p = choose (λ t. before_constant found && m.constant t.terminal) (mark m.constant >> constant_twice names p) (e.base_at names (inner names n) false >>= λ of. typed names found (constant_type p of))

  -- what begins with a name
  unfoldable pub by_name : Names → Parser Item
  by_name names = do
    x ← name_at
    args ← named_args names x.0
    choose (next_is m.scope) (outside_constructor names [] x args) (if is_type names x.0 then typed names [] (named_of x args) else fail)

  -- behind `static` and `inline`
  unfoldable pub fronted : Names → List Bool → Parser Item
  fronted names found =
      choose (next_is m.void_word) (mark m.void_word >> (name_at >>= λ x. named_function names found None x))
      (choose (next_is m.constant) (mark m.constant >>= λ p. constant_by names found p)
      (choose (is_first_name found) (by_name names) (e.base_at names (inner names n) false >>= λ of. typed names found of)))

  -- ---- bodies outside their class, behind the parameters of a template

  unfoldable pub outside_result : Names → List Param → Parser Item
  outside_result names params = choose (next_is m.void_word) (mark m.void_word >> (name_at >>= λ x. outside_function names params None x)) (do
    of ← e.type_at names (inner names n) false
    x ← name_at
    outside_function names params (Some of.ty) x)

  unfoldable pub outside_name : Names → List Param → Parser Item
  outside_name names params = do
    x ← name_at
    args ← named_args names x.0
    choose (next_is m.scope) (outside_constructor names params x args) (if is_type names x.0 then (name_at >>= λ y. outside_function names params (Some (named_of x args).ty) y) else fail)

  unfoldable pub outside : Names → List Param → Parser Item
  outside names params = choose (next_is m.inline_word) (mark m.inline_word >> outside_result names params) (choose (next_says identifier) (outside_name names params) (outside_result names params))
