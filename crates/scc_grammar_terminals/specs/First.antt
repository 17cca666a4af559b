-- What a first token begins.
use Rattle.std.specs.Prelude.{Bool, true, false, ◌||◌, Option, Some, None, is_some, if◌then◌else◌}
use Rattle.scc_base.specs.declared.names.Name.{Name}
use Rattle.scc_bits_kinds.specs.declared.kind.Kind.{Kind}
use Rattle.scc_bits_kinds.specs.declared.kind.Kind.TheVariants as kind
use Rattle.scc_bits_kinds.specs.declared.kind.Word.{Word}
use Rattle.scc_tree.specs.declared.ty.Family.{Family}
use Rattle.scc_grammar_terminals.specs.declared.terminal.Holder.{Holder}
use Rattle.scc_grammar_terminals.specs.declared.terminal.Terminal.{Terminal}
use Rattle.scc_grammar_terminals.specs.declared.terminal.Terminal.TheVariants as t
use Rattle.scc_grammar_terminals.specs.Names.{Names, is_type}
use Rattle.scc_grammar_terminals.specs.Nodes.{native}
use Rattle.scc_grammar_terminals.specs.Operators.{unary_operator}
use Rattle.scc_grammar_terminals.specs.Marks.{constant, new_word, paren_open}

-- a type without `const`
pub data BaseStart : Type 0 where
  kind_start : Kind → BaseStart
  short_start clock_start module_name_start : BaseStart
  integer_start : Bool → BaseStart
  sized_start : Family → BaseStart
  holder_start : Holder → BaseStart
  name_start : Name → BaseStart

-- one step behind an expression
pub data PartStart : Type 0 where
  index_start call_start member_start arrow_start : PartStart

-- a primary that begins with no type
pub data PrimaryStart : Type 0 where
  number_start : Kind → Word → PrimaryStart
  truth_start : Bool → PrimaryStart
  this_start null_start cast_start concat_start : PrimaryStart
  value_start : Name → PrimaryStart

abbrev pub part_start : Terminal → Option PartStart
part_start t.BracketOpen = Some index_start
part_start t.ParenOpen = Some call_start
part_start t.Dot = Some member_start
part_start t.Arrow = Some arrow_start
part_start _ = None

abbrev pub begins_part : Terminal → Bool
begins_part w = is_some (part_start w)

abbrev pub begins_operated : Terminal → Bool
begins_operated w = is_some (unary_operator w)

-- behind a type: what makes an expression of it
abbrev pub goes_on : Terminal → Bool
goes_on t.ParenOpen = true
goes_on t.Scope = true
goes_on _ = false

-- what closes a list between angle brackets, and whether it closes the list around it, too
abbrev pub closing : Bool → Terminal → Option Bool
closing inside t.Greater = Some false
closing true t.ShiftRight = Some true
closing _ _ = None

module _ (names : Names) where
  abbrev pub base_start : Terminal → Option BaseStart
  base_start t.Bool = Some (kind_start kind.Bool)
  base_start t.Int = Some (kind_start (native 32 true))
  base_start t.Short = Some short_start
  base_start (t.Long s) = Some (kind_start (native 64 s))
  base_start t.Signed = Some (integer_start true)
  base_start t.Unsigned = Some (integer_start false)
  base_start (t.Sized f) = Some (sized_start f)
  base_start (t.Holder h) = Some (holder_start h)
  base_start t.ClockInput = Some clock_start
  base_start t.ModuleName = Some module_name_start
  base_start (t.Ident x) = if is_type names x then Some (name_start x) else None
  base_start _ = None

  abbrev pub begins_base : Terminal → Bool
  begins_base w = is_some (base_start w)

  abbrev pub begins_type : Terminal → Bool
  begins_type w = constant w || begins_base w

  abbrev pub primary_start : Terminal → Option PrimaryStart
  primary_start (t.Number k w) = Some (number_start k w)
  primary_start (t.Truth b) = Some (truth_start b)
  primary_start t.This = Some this_start
  primary_start t.Null = Some null_start
  primary_start t.StaticCast = Some cast_start
  primary_start t.Concat = Some concat_start
  primary_start (t.Ident x) = if is_type names x then None else Some (value_start x)
  primary_start _ = None

  abbrev pub begins_expr : Terminal → Bool
  begins_expr w = begins_base w || is_some (primary_start w) || begins_operated w || paren_open w

  abbrev pub begins_ty_arg : Terminal → Bool
  begins_ty_arg w = constant w || begins_expr w

  -- what opens a level among the arguments of a call
  abbrev pub begins_argument : Terminal → Bool
  begins_argument w = new_word w || begins_expr w
