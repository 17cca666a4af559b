-- Templates, classes and files as functions that read from the left, where `n` levels are left.
use Rattle.std.specs.Prelude.{ℕ, Bool, true, false, not, ◌&&◌, List, [], ◌∷◌, Option, Some, None, if◌then◌else◌}
use Rattle.scc_base.specs.declared.names.Name.{Name}
use Rattle.scc_base.specs.declared.refusal.Place.{Place}
use Rattle.scc_tree.specs.declared.ty.Ty.{Ty}
use Rattle.scc_tree.specs.declared.ty.TyArg.{TyArg}
use Rattle.scc_tree.specs.declared.ty.TyArg.TheVariants as arg
use Rattle.scc_tree.specs.declared.local.Decl.{Decl}
use Rattle.scc_tree.specs.declared.local.Hold.TheVariants as hold
use Rattle.scc_tree.specs.declared.item.Item.{Item}
use Rattle.scc_tree.specs.declared.item.Param.{Param}
use Rattle.scc_tree.specs.declared.item.ParamSort.{ParamSort}
use Rattle.scc_tree.specs.declared.item.ParamSort.TheVariants as sorts
use Rattle.scc_reading.specs.Reading.{◌>>=◌, ◌>>◌, pure, fail, token, choose, repeat, repeat_in, repeat_on, at_end}
use Rattle.scc_grammar_terminals.specs.declared.part.TypeRead.{TypeRead}
use Rattle.scc_grammar_terminals.specs.declared.terminal.Seen.{Seen}
use Rattle.scc_grammar_terminals.specs.Marks as m
use Rattle.scc_grammar_terminals.specs.Names.{Names, no_names, is_type, is_template, with_type}
use Rattle.scc_grammar_terminals.specs.Text.{Parser, mark, pick, next_is, next_says, name_at}
use Rattle.scc_grammar_spec.specs.Bodies.{Body, begun, with_item, with_fields, declared, function_item, constructor_of, class_item}
use Rattle.scc_grammar_spec.specs.Items.{class_word}
use Rattle.scc_grammar_spec.specs.ParseExpressions as e
use Rattle.scc_grammar_spec.specs.ParseExpressions.{close_unless, constant_type, is_constant}
use Rattle.scc_grammar_spec.specs.ParseStatements as s
use Rattle.scc_grammar_terminals.specs.StatementNodes.{decl_of}
use Rattle.scc_grammar_spec.specs.ParseStatements.{inner}
use Rattle.scc_grammar_spec.specs.ParseItems.{MemberStart, access_start, has_process_start, module_constructor_start, explicit_start, PartStart, using_start, template_start, member_begin, part_begin, begins_class, param_start, before_constant, named_of, fronts, bases, Params, params_by, preset_of, is_first_name}
use Rattle.scc_grammar_spec.specs.ParseItems as p

-- a class that may have arguments stands behind `template<>`
abbrev pub may_specialise : Option (List Param) → Bool
may_specialise (Some []) = true
may_specialise _ = false

abbrev pub no_front : List Bool → Bool
no_front [] = true
no_front (f ∷ fs) = false

-- the end of a class stands no earlier than at a `}`
abbrev pub is_member : Body → Seen → Bool
is_member b t = not (m.brace_close t.terminal)

abbrev pub is_part : Body → Seen → Bool
is_part b t = true

module _ (n : ℕ) where
  -- ---- templates

  unfoldable pub param_by : Names → Option ParamSort → Name × Place → Parser (Param × Params)
  param_by names (Some sort) x = choose (next_is m.assign) (mark m.assign >> (e.additive names (inner names n) >>= λ of. pure (preset_of x sort (Some (arg.Value of)), params_by names false))) (pure (preset_of x sort None, params_by names false))
  param_by names None x = choose (next_is m.assign) (do
    mark m.assign
    of ← e.type_at (with_type names x.0) (inner (with_type names x.0) n) true
    pure (preset_of x sorts.Class (Some (arg.Named of.ty)), params_by (with_type names x.0) of.both)) (pure (preset_of x sorts.Class None, params_by (with_type names x.0) false))

  unfoldable pub param : Names → Parser (Param × Params)
  param names = do
    w ← token (pick param_start)
    x ← name_at
    param_by names w.0 x

  -- one more parameter, where the last one did not close the list
  abbrev pub next_param : Params → Seen → Bool
  next_param s t = not s.closed && m.comma t.terminal

  abbrev pub one_param : Params → Parser (Param × Params)
  one_param s = mark m.comma >> param s.names

  unfoldable pub params : Names → Parser (Names × List Param)
  params names = do
    first ← param names
    more ← repeat_in next_param one_param first.1
    close_unless more.1.closed false
    pure (more.1.names, first.0 ∷ more.0)

  -- behind `template`
  unfoldable pub template : Names → Parser (Names × List Param)
  template names = mark m.less >> choose (next_is m.greater) (mark m.greater >> pure (names, [])) (params names)

  -- ---- members of classes

  abbrev pub one_decl : Names → Parser Decl
  one_decl names = mark m.comma >> s.decl names (inner names n)

  -- behind the first name of a type's fields
  unfoldable pub fields_rest : Body → Ty → Decl → Parser Body
  fields_rest b of first = do
    more ← repeat (next_is m.comma) (one_decl b.names)
    mark m.semicolon
    pure (with_fields b of (first ∷ more))

  -- behind the name of a field
  unfoldable pub fields_named : Body → Ty → Name × Place → Parser Body
  fields_named b of x = s.sizes b.names (inner b.names n) >>= λ sizes. fields_rest b of (decl_of hold.Direct x sizes)

  unfoldable pub member_function : Body → Option Ty → Name × Place → Parser Body
  member_function b result x = p.function_rest n b.names result x >>= λ f. pure (with_item b b.names f)

  -- behind the name behind a type
  unfoldable pub member_named : Body → List Bool → Ty → Name × Place → Parser Body
  member_named b found of x = if no_front found then choose (next_is m.paren_open) (member_function b (Some of) x) (fields_named b of x) else member_function b (Some of) x

  unfoldable pub member_constant : Body → Ty → Name × Place → Parser Body
  member_constant b of x = p.constant_rest n b.names of x >>= λ c. pure (with_item b b.names c)

  unfoldable pub named_member : Body → List Bool → TypeRead → Parser Body
  named_member b found of = name_at >>= λ x. if is_constant of.sort && before_constant found then choose (next_is m.assign) (member_constant b of.ty x) (member_named b found of.ty x) else member_named b found of.ty x

  abbrev pub is_held : List Bool → Seen → Bool
  is_held found t = no_front found && s.begins_hold t.terminal

  -- behind a type
  unfoldable pub member_typed : Body → List Bool → TypeRead → Parser Body
  member_typed b found of = choose (is_held found) (s.decl b.names (inner b.names n) >>= λ d. fields_rest b of.ty d) (named_member b found of)

  -- behind a `const`, which stands at the place
  unfoldable pub constant_member : Body → List Bool → Place → Parser Body
  constant_member b found q = choose (λ t. before_constant found && m.constant t.terminal) (mark m.constant >> (p.constant_twice n b.names q >>= λ c. pure (with_item b b.names c)))
      (e.base_at b.names (inner b.names n) false >>= λ of. member_typed b found (constant_type q of))

  -- what begins with a name
  unfoldable pub member_name : Body → Parser Body
  member_name b = name_at >>= λ x. choose (next_is m.paren_open) (p.constructor_rest n b.names x >>= λ f. pure (with_item b b.names f))
      (if is_type b.names x.0 then (p.named_args n b.names x.0 >>= λ args. member_typed b [] (named_of x args)) else fail)

  -- behind `static` and `inline`
  unfoldable pub member_fronted : Body → List Bool → Parser Body
  member_fronted b found =
      choose (next_is m.void_word) (mark m.void_word >> (name_at >>= λ x. member_function b None x))
      (choose (next_is m.constant) (mark m.constant >>= λ q. constant_member b found q)
      (choose (is_first_name found) (member_name b) (e.base_at b.names (inner b.names n) false >>= λ of. member_typed b found of)))

  unfoldable pub member_by : Body → MemberStart → Place → Parser Body
  member_by b access_start w = mark m.colon >> pure b
  member_by b has_process_start w = do
    mark m.paren_open
    name_at
    mark m.paren_close
    mark m.semicolon
    pure b
  member_by b module_constructor_start w = do
    mark m.paren_open
    x ← name_at
    mark m.paren_close
    found ← p.inits n b.names
    of ← p.body n b.names
    pure (with_item b b.names (function_item (constructor_of x.1 x.0 [] found of)))
  member_by b explicit_start w = name_at >>= λ x. p.constructor_rest n b.names x >>= λ f. pure (with_item b b.names f)
  member_by b (MemberStart.item_start s) w = p.item_by n b.names s w >>= λ x. pure (with_item b x.0 x.1)

  unfoldable pub member : Body → Parser Body
  member b = choose (next_says member_begin) (token (pick member_begin) >>= λ s. member_by b s.0 s.1) (fronts >>= λ found. member_fronted b found)

  unfoldable pub members : Body → Parser Body
  members b = repeat_on is_member member b

  -- ---- classes

  -- members in braces
  unfoldable pub class_body : Names → Parser Body
  class_body names = do
    mark m.brace_open
    b ← members (begun names)
    mark m.brace_close
    mark m.semicolon
    pure b

  -- behind `SC_MODULE`
  unfoldable pub module_class : Names → Option (List Param) → Parser (Names × Item)
  module_class names params = do
    mark m.paren_open
    x ← name_at
    mark m.paren_close
    b ← class_body (declared names params x.0)
    pure (b.names, class_item x.1 x.0 params None true b)

  unfoldable pub special : Names → Option (List Param) → Name → Parser (Option (List TyArg))
  special names params x = choose (λ t. may_specialise params && (is_template names x && m.less t.terminal)) (do
    mark m.less
    args ← e.ty_args names (inner names n) false
    pure (Some args.0)) (pure None)

  -- behind `class` or `struct`
  unfoldable pub plain_class : Names → Option (List Param) → Parser (Names × Item)
  plain_class names params = do
    x ← name_at
    args ← special (declared names params x.0) params x.0
    base ← bases
    b ← class_body (declared names params x.0)
    pure (b.names, class_item x.1 x.0 params args base b)

  unfoldable pub class_at : Names → Option (List Param) → Parser (Names × Item)
  class_at names params = choose (next_is m.module_word) (mark m.module_word >> module_class names params) (mark class_word >> plain_class names params)

  -- ---- files

  unfoldable pub part_by : Body → PartStart → Place → Parser Body
  part_by b using_start w = do
    mark m.namespace
    mark m.library
    mark m.semicolon
    pure b
  part_by b template_start w = template b.names >>= λ of. choose (next_is begins_class) (class_at of.0 (Some of.1) >>= λ x. pure (with_item b x.0 x.1)) (p.outside n of.0 of.1 >>= λ x. pure (with_item b of.0 x))
  part_by b (PartStart.item_start s) w = p.item_by n b.names s w >>= λ x. pure (with_item b x.0 x.1)

  unfoldable pub part : Body → Parser Body
  part b = choose (next_says part_begin) (token (pick part_begin) >>= λ s. part_by b s.0 s.1)
      (choose (next_is begins_class) (class_at b.names None >>= λ x. pure (with_item b x.0 x.1)) (fronts >>= λ found. p.fronted n b.names found >>= λ x. pure (with_item b b.names x)))

  unfoldable pub file : Parser (List Item)
  file = repeat_on is_part part (begun no_names) >>= λ b. pure b.items

  -- the whole of the tokens
  unfoldable pub program : Parser (List Item)
  program = file >>= at_end
