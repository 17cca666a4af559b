-- Types and expressions as functions that read from the left.
use Rattle.std.specs.Prelude.{ℕ, zero, suc, Bool, true, false, not, ◌||◌, ◌&&◌, List, [], ◌∷◌, Some, None, if◌then◌else◌}
use Rattle.scc_base.specs.declared.names.Name.{Name}
use Rattle.scc_base.specs.declared.refusal.Place.{Place}
use Rattle.scc_bits_kinds.specs.declared.kind.Kind.{Kind}
use Rattle.scc_tree.specs.declared.expr.Expr.{Expr}
use Rattle.scc_tree.specs.declared.expr.ExprNode.TheVariants as node
use Rattle.scc_tree.specs.declared.expr.Link.{Link}
use Rattle.scc_tree.specs.declared.expr.Part.{Part}
use Rattle.scc_tree.specs.declared.expr.PartNode.TheVariants as part
use Rattle.scc_tree.specs.declared.ty.Ty.{Ty}
use Rattle.scc_tree.specs.declared.ty.TyArg.{TyArg}
use Rattle.scc_tree.specs.declared.ty.TyArg.TheVariants as arg
use Rattle.scc_tree.specs.declared.ty.TyNode.TheVariants as ty
use Rattle.scc_tree.specs.Node.{expr_of}
use Rattle.scc_reading.specs.Reading.{◌>>=◌, ◌>>◌, pure, fail, token, choose, repeat, repeat_in}
use Rattle.scc_grammar_terminals.specs.declared.part.Bracketed.{Bracketed}
use Rattle.scc_grammar_terminals.specs.declared.part.Bracketed.TheVariants.{AType, AnExpr}
use Rattle.scc_grammar_terminals.specs.declared.part.Placed.{Placed}
use Rattle.scc_grammar_terminals.specs.declared.part.Sort.{Sort}
use Rattle.scc_grammar_terminals.specs.declared.part.Sort.TheVariants as sort
use Rattle.scc_grammar_terminals.specs.declared.part.TypeRead.{TypeRead}
use Rattle.scc_grammar_terminals.specs.declared.terminal.Seen.{Seen}
use Rattle.scc_grammar_terminals.specs.First.{BaseStart, kind_start, short_start, clock_start, module_name_start, integer_start, sized_start, holder_start, name_start, PartStart, index_start, call_start, member_start, arrow_start, PrimaryStart, number_start, truth_start, this_start, null_start, cast_start, concat_start, value_start, part_start, begins_part, begins_operated, goes_on, closing, base_start, begins_base, begins_type, primary_start}
use Rattle.scc_grammar_terminals.specs.Inner.{Inner}
use Rattle.scc_grammar_terminals.specs.Marks as m
use Rattle.scc_grammar_terminals.specs.Names.{Names, is_template}
use Rattle.scc_grammar_terminals.specs.Nodes.{base_of, constant_of, native, held, clock_of, truth_of, link, part_of, chain_of, parts_of}
use Rattle.scc_grammar_terminals.specs.Operators.{operator, unary_operator, sum, every}
use Rattle.scc_grammar_terminals.specs.Text.{Parser, mark, pick, next_is, next_says, name_at}

abbrev pub placed : Place → Expr → Placed
placed p of = record { place = p; of = of }

-- a type of words, at its place
abbrev pub word_type : Place → Ty → Bool → TypeRead
word_type p of both = record { place = p; ty = of; sort = sort.Word; both = both }

abbrev pub named_type : Place → Ty → Bool → TypeRead
named_type p of both = record { place = p; ty = of; sort = sort.Named; both = both }

abbrev pub constant_type : Place → TypeRead → TypeRead
constant_type p b = record { place = p; ty = constant_of p b.ty; sort = sort.Constant; both = b.both }

abbrev pub is_constant : Sort → Bool
is_constant sort.Constant = true
is_constant _ = false

abbrev pub is_named : Sort → Bool
is_named sort.Named = true
is_named _ = false

abbrev pub number_type : Place → Kind → TypeRead
number_type p k = word_type p (base_of p (ty.Number k)) false

-- what closes a list between angle brackets
abbrev pub close : Bool → Parser Bool
close inside = token (λ s. closing inside s.terminal)

-- the same, where the last part may have closed it
abbrev pub close_unless : Bool → Bool → Parser Bool
close_unless both inside = if both then pure false else close inside

-- an `int` that may stand there
unfoldable pub int_word : Parser (Unit {0})
int_word = choose (next_is m.int) (mark m.int >> pure (tt {0})) (pure (tt {0}))

unfoldable pub integer : Bool → Parser Kind
integer signed = choose (next_is m.int) (mark m.int >> pure (native 32 signed))
    (choose (next_is m.short) (mark m.short >> (int_word >> pure (native 16 signed)))
    (choose (next_is m.char) (mark m.char >> pure (native 8 signed)) (pure (native 32 signed))))

module _ (names : Names) where
  module _ (i : Inner) where
    -- one more argument, where the last one did not close the list
    abbrev pub next_ty_arg : Bool → Seen → Bool
    next_ty_arg closed s = not closed && m.comma s.terminal

    abbrev pub one_ty_arg : Bool → Parser (TyArg × Bool)
    one_ty_arg closed = mark m.comma >> i.ty_arg

    abbrev pub more_ty_args : Bool → Parser (List TyArg × Bool)
    more_ty_args closed = repeat_in next_ty_arg one_ty_arg closed

    -- the arguments behind a `<`, and what closes them
    unfoldable pub ty_args : Bool → Parser (List TyArg × Bool)
    ty_args inside = choose (next_says (closing true)) (close inside >>= λ both. pure ([], both)) (do
      first ← i.ty_arg
      more ← more_ty_args first.1
      both ← close_unless more.1 inside
      pure (first.0 ∷ more.0, both))

    -- behind the name of a type
    unfoldable pub named_by : Bool → Name → Place → Parser TypeRead
    named_by inside x p = choose (λ s. is_template names x && m.less s.terminal) (do
      mark m.less
      args ← ty_args inside
      pure (named_type p (base_of p (ty.Named x (Some args.0))) args.1)) (pure (named_type p (base_of p (ty.Named x None)) false))

    unfoldable pub base_by : Bool → BaseStart → Place → Parser TypeRead
    base_by inside (kind_start k) p = pure (number_type p k)
    base_by inside short_start p = int_word >> pure (number_type p (native 16 true))
    base_by inside (integer_start signed) p = integer signed >>= λ k. pure (number_type p k)
    base_by inside (sized_start f) p = do
      mark m.less
      width ← i.additive
      both ← close inside
      pure (word_type p (base_of p (ty.Sized f width)) both)
    base_by inside (holder_start h) p = do
      mark m.less
      of ← i.ty
      both ← close_unless of.both inside
      pure (word_type p (base_of p (held h of.ty)) both)
    base_by inside clock_start p = pure (word_type p (clock_of p) false)
    base_by inside module_name_start p = pure (word_type p (base_of p ty.ModuleName) false)
    base_by inside (name_start x) p = named_by inside x p

    -- a type without `const`
    unfoldable pub base_at : Bool → Parser TypeRead
    base_at inside = token (pick (base_start names)) >>= λ s. base_by inside s.0 s.1

    unfoldable pub type_at : Bool → Parser TypeRead
    type_at inside = choose (next_is m.constant) (mark m.constant >>= λ p. base_at inside >>= λ b. pure (constant_type p b)) (base_at inside)

    -- `(of)` behind a type
    unfoldable pub make : Place → Ty → Parser Expr
    make p to = do
      mark m.paren_open
      of ← i.expr
      mark m.paren_close
      pure (expr_of p (node.Cast to of))

    -- behind a type, the rest of a primary that begins with it
    unfoldable pub after_base : TypeRead → Parser Expr
    after_base b = choose (next_is m.scope) (if is_named b.sort then (do
      mark m.scope
      y ← name_at
      pure (expr_of b.place (node.Scoped b.ty y.0))) else fail) (make b.place b.ty)

    unfoldable pub primary_by : PrimaryStart → Place → Parser Expr
    primary_by (number_start k w) p = pure (expr_of p (node.Number k w))
    primary_by (truth_start b) p = pure (truth_of p b)
    primary_by this_start p = pure (expr_of p node.This)
    primary_by null_start p = pure (expr_of p node.Null)
    primary_by (value_start x) p = choose (next_is m.scope) (do
      mark m.scope
      y ← name_at
      pure (expr_of p (node.Scoped (base_of p (ty.Named x None)) y.0))) (pure (expr_of p (node.Ident x)))
    primary_by cast_start p = do
      mark m.less
      to ← i.ty
      close_unless to.both false
      make p to.ty
    primary_by concat_start p = do
      mark m.paren_open
      first ← i.expr
      mark m.comma
      second ← i.expr
      mark m.paren_close
      pure (expr_of p (node.Concat (first ∷ second ∷ [])))

    -- a primary that does not begin with a type
    unfoldable pub plain : Parser Placed
    plain = token (pick (primary_start names)) >>= λ s. primary_by s.0 s.1 >>= λ of. pure (placed s.1 of)

    -- a primary that does not begin with a bracket
    unfoldable pub primary : Parser Placed
    primary = choose (next_is (begins_base names)) (base_at false >>= λ b. after_base b >>= λ of. pure (placed b.place of)) plain

    abbrev pub one_expr : Parser Expr
    one_expr = mark m.comma >> i.expr

    unfoldable pub more_exprs : Parser (List Expr)
    more_exprs = repeat (next_is m.comma) one_expr

    -- an argument of a call
    unfoldable pub carg : Parser Expr
    carg = choose (next_is m.text) (mark m.text >>= λ p. pure (expr_of p node.Text)) i.argument

    abbrev pub one_carg : Parser Expr
    one_carg = mark m.comma >> carg

    unfoldable pub more_cargs : Parser (List Expr)
    more_cargs = repeat (next_is m.comma) one_carg

    unfoldable pub cargs : Parser (List Expr)
    cargs = choose (next_is m.paren_close) (pure []) (do
      first ← carg
      more ← more_cargs
      pure (first ∷ more))

    -- with the flag whether it is a call
    unfoldable pub part_by : PartStart → Place → Parser (Part × Bool)
    part_by index_start p = do
      of ← i.expr
      mark m.bracket_close
      pure (part_of p (part.Index of), false)
    part_by call_start p = do
      found ← cargs
      mark m.paren_close
      pure (part_of p (part.Call found), true)
    part_by member_start p = name_at >>= λ x. pure (part_of x.1 (part.Member x.0), false)
    part_by arrow_start p = name_at >>= λ x. pure (part_of x.1 (part.Arrow x.0), false)

    abbrev pub next_part : Bool → Seen → Bool
    next_part b = next_is begins_part

    abbrev pub one_part : Bool → Parser (Part × Bool)
    one_part b = token (pick part_start) >>= λ s. part_by s.0 s.1

    -- with the flag whether the last one is a call
    unfoldable pub parts : Parser (List Part × Bool)
    parts = repeat_in next_part one_part false

    unfoldable pub postfix_after : Place → Expr → Parser Expr
    postfix_after p first = parts >>= λ ps. pure (parts_of p first ps.0)

    -- behind the first expression in brackets
    unfoldable pub after_brackets : Place → Expr → Parser Expr
    after_brackets p first = choose (next_is m.comma) (do
      second ← one_expr
      more ← more_exprs
      mark m.paren_close
      pure (expr_of p (node.Concat (first ∷ second ∷ more)))) (mark m.paren_close >> pure first)

    -- behind what stands behind a `(`
    unfoldable pub after_open : Place → Bracketed → Parser Expr
    after_open p (AType to) = do
      mark m.paren_close
      of ← i.unary
      pure (expr_of p (node.Cast to of))
    after_open p (AnExpr first) = after_brackets p first >>= postfix_after p

    unfoldable pub unary : Parser Placed
    unary = choose (next_is begins_operated) (do
      o ← token (pick unary_operator)
      of ← i.unary
      pure (placed o.1 (expr_of o.1 (node.Unary o.0 of)))) (choose (next_is m.paren_open) (do
        p ← mark m.paren_open
        found ← i.bracketed
        of ← after_open p found
        pure (placed p of)) (do
          first ← primary
          of ← postfix_after first.place first.of
          pure (placed first.place of)))

    abbrev pub operand : Parser Expr
    operand = unary >>= λ u. pure u.of

    -- an operator and its right operand
    abbrev pub link_with : (Place → Expr → Parser Expr) → ℕ → Parser Link
    link_with after k = do
      o ← token (pick (operator k))
      u ← unary
      of ← after u.place u.of
      pure (link o.0 o.1 of)

    -- the rest of a chain whose first operand has been read
    unfoldable pub chain_after : ℕ → Place → Expr → Parser Expr
    chain_after zero p first = pure first
    chain_after (suc k) p first = do
      low ← chain_after k p first
      ls ← repeat (next_says (operator k)) (link_with (chain_after k) k)
      pure (chain_of p low ls)

    abbrev pub link_of : ℕ → Parser Link
    link_of k = link_with (chain_after k) k

    -- behind the test of a `?:`, or an expression without one
    unfoldable pub choice_after : Place → Expr → Parser Expr
    choice_after p test = choose (next_is m.question) (do
      mark m.question
      first ← i.expr
      mark m.colon
      second ← i.expr
      pure (expr_of p (node.Cond test first second))) (pure test)

    -- the rest of an expression whose first operand has been read
    unfoldable pub expr_after : Place → Expr → Parser Expr
    expr_after p first = chain_after every p first >>= choice_after p

    unfoldable pub expr : Parser Expr
    expr = unary >>= λ u. expr_after u.place u.of

    unfoldable pub additive : Parser Expr
    additive = unary >>= λ u. chain_after sum u.place u.of

    -- an operand that begins with the type
    unfoldable pub postfix_of : TypeRead → Parser Expr
    postfix_of b = after_base b >>= postfix_after b.place

    unfoldable pub after_bracket_type : TypeRead → Parser Bracketed
    after_bracket_type b = if is_constant b.sort then pure (AType b.ty) else choose (next_is goes_on) (do
      first ← postfix_of b
      of ← expr_after b.place first
      pure (AnExpr of)) (pure (AType b.ty))

    -- behind a `(`: a type, or the first expression
    unfoldable pub bracketed : Parser Bracketed
    bracketed = choose (next_is (begins_type names)) (type_at false >>= after_bracket_type) (expr >>= λ of. pure (AnExpr of))

    unfoldable pub after_arg_type : TypeRead → Parser (TyArg × Bool)
    after_arg_type b = if b.both || is_constant b.sort then pure (arg.Named b.ty, b.both) else choose (next_is goes_on) (do
      first ← postfix_of b
      of ← chain_after sum b.place first
      pure (arg.Value of, false)) (pure (arg.Named b.ty, false))

    -- an argument between angle brackets
    unfoldable pub ty_arg : Parser (TyArg × Bool)
    ty_arg = choose (next_is (begins_type names)) (type_at true >>= after_arg_type) (additive >>= λ of. pure (arg.Value of, false))

    unfoldable pub new_at : Parser Expr
    new_at = do
      p ← mark m.new_word
      b ← base_at false
      mark m.paren_open
      found ← cargs
      mark m.paren_close
      pure (expr_of p (node.Make b.ty found))

    unfoldable pub argument : Parser Expr
    argument = choose (next_is m.new_word) new_at expr
