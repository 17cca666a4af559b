-- Statements as functions that read from the left, and what opens a level, by the levels that are left.
use Rattle.std.specs.Prelude.{ℕ, zero, suc, Bool, true, false, ◌||◌, List, ◌∷◌, Option, Some, None, if◌then◌else◌, is_some}
use Rattle.scc_base.specs.declared.refusal.Place.{Place}
use Rattle.scc_bits_kinds.specs.declared.op.Op.{Op}
use Rattle.scc_tree.specs.declared.expr.Expr.{Expr}
use Rattle.scc_tree.specs.declared.expr.ExprNode.TheVariants as node
use Rattle.scc_tree.specs.declared.local.Decl.{Decl}
use Rattle.scc_tree.specs.declared.local.Hold.{Hold}
use Rattle.scc_tree.specs.declared.local.Hold.TheVariants as held
use Rattle.scc_tree.specs.declared.local.LocalDecl.{LocalDecl}
use Rattle.scc_tree.specs.declared.local.LocalTree.{LocalTree}
use Rattle.scc_tree.specs.declared.simple.SimpleNode.TheVariants as act
use Rattle.scc_tree.specs.declared.simple.SimpleTree.{SimpleTree}
use Rattle.scc_tree.specs.declared.stmt.ForFirst.{ForFirst}
use Rattle.scc_tree.specs.declared.stmt.ForFirst.TheVariants as first
use Rattle.scc_tree.specs.declared.stmt.Stmt.{Stmt}
use Rattle.scc_tree.specs.declared.stmt.StmtNode.TheVariants as s
use Rattle.scc_tree.specs.declared.stmt.SwitchItem.{SwitchItem}
use Rattle.scc_tree.specs.declared.stmt.SwitchNode.TheVariants as item
use Rattle.scc_tree.specs.declared.ty.Ty.{Ty}
use Rattle.scc_tree.specs.Node.{expr_of, stmt_of}
use Rattle.scc_reading.specs.Reading.{◌>>=◌, ◌>>◌, pure, fail, token, choose, closed, repeat}
use Rattle.scc_grammar_terminals.specs.declared.part.Bracketed.{Bracketed}
use Rattle.scc_grammar_terminals.specs.declared.part.Bracketed.TheVariants.{AType, AnExpr}
use Rattle.scc_grammar_terminals.specs.declared.part.Line.{Line}
use Rattle.scc_grammar_terminals.specs.declared.part.Line.TheVariants.{ALocal, ASimple}
use Rattle.scc_grammar_terminals.specs.declared.part.TypeRead.{TypeRead}
use Rattle.scc_grammar_terminals.specs.declared.terminal.Terminal.{Terminal}
use Rattle.scc_grammar_terminals.specs.declared.terminal.Terminal.TheVariants as t
use Rattle.scc_grammar_terminals.specs.First.{begins_operated, goes_on, begins_base, begins_type, begins_expr, begins_ty_arg, begins_argument}
use Rattle.scc_grammar_terminals.specs.Inner.{Inner}
use Rattle.scc_grammar_terminals.specs.Marks as m
use Rattle.scc_grammar_terminals.specs.Names.{Names}
use Rattle.scc_grammar_terminals.specs.Nodes.{parts_of}
use Rattle.scc_grammar_spec.specs.ParseExpressions as e
use Rattle.scc_grammar_terminals.specs.StatementNodes.{decl_of, local_decl_of, local_of, simple_of, item_of, process_of, local_stmt, simple_stmt}
use Rattle.scc_grammar_spec.specs.Statements.{assignment}
use Rattle.scc_grammar_terminals.specs.Text.{Parser, mark, pick, next_is, next_says, name_at}

-- `++` or `--`
abbrev pub step : Terminal → Option Op
step (t.Step o) = Some o
step _ = None

-- the first token of a statement that begins with a word or mark of its own
pub data StmtStart : Type 0 where
  block_start empty_start if_start switch_start while_start do_start for_start break_start continue_start return_start wait_start clocked_start sensitive_start quiet_start : StmtStart
  process_start reset_start : Bool → StmtStart

abbrev pub stmt_start : Terminal → Option StmtStart
stmt_start t.BraceOpen = Some block_start
stmt_start t.Semicolon = Some empty_start
stmt_start t.If = Some if_start
stmt_start t.Switch = Some switch_start
stmt_start t.While = Some while_start
stmt_start t.Do = Some do_start
stmt_start t.For = Some for_start
stmt_start t.Break = Some break_start
stmt_start t.Continue = Some continue_start
stmt_start t.Return = Some return_start
stmt_start t.Wait = Some wait_start
stmt_start t.ClockedThread = Some clocked_start
stmt_start t.Sensitive = Some sensitive_start
stmt_start t.DontInitialize = Some quiet_start
stmt_start (t.Process thread) = Some (process_start thread)
stmt_start (t.Reset asynchronous) = Some (reset_start asynchronous)
stmt_start _ = None

abbrev pub begins_word : Terminal → Bool
begins_word w = is_some (stmt_start w)

abbrev pub begins_hold : Terminal → Bool
begins_hold w = m.star_mark w || m.and_mark w

-- what may stand before a declared name
unfoldable pub hold_at : Parser Hold
hold_at = choose (next_is m.star_mark) (mark m.star_mark >> pure held.Pointer) (choose (next_is m.and_mark) (mark m.and_mark >> pure held.Reference) (pure held.Direct))

abbrev pub if_of : Place → Expr → Stmt × Bool → Option (Stmt × Bool) → Stmt × Bool
if_of p test first None = (stmt_of p (s.If test first.0 None), true)
if_of p test first (Some second) = (stmt_of p (s.If test first.0 (Some second.0)), second.1)

module _ (names : Names) where
  -- what opens a level as a statement
  abbrev pub begins_stmt : Terminal → Bool
  begins_stmt w = begins_word w || is_some (step w) || begins_ty_arg names w

  module _ (i : Inner) where
    -- ---- declared names

    abbrev pub one_size : Parser Expr
    one_size = do
      mark m.bracket_open
      of ← i.expr
      mark m.bracket_close
      pure of

    unfoldable pub sizes : Parser (List Expr)
    sizes = repeat (next_is m.bracket_open) one_size

    -- behind what may stand before the name
    unfoldable pub decl_after : Hold → Parser Decl
    decl_after h = do
      x ← name_at
      of ← sizes
      pure (decl_of h x of)

    unfoldable pub decl : Parser Decl
    decl = hold_at >>= decl_after

    -- an expression in brackets
    unfoldable pub condition : Parser Expr
    condition = do
      mark m.paren_open
      of ← i.expr
      mark m.paren_close
      pure of

    unfoldable pub value : Parser (Option Expr)
    value = choose (next_is m.assign) (mark m.assign >> (e.expr names i >>= λ of. pure (Some of))) (choose (next_is m.paren_open) (condition >>= λ of. pure (Some of)) (pure None))

    unfoldable pub local_decl : Parser LocalDecl
    local_decl = do
      d ← decl
      v ← value
      pure (local_decl_of d v)

    abbrev pub one_local : Parser LocalDecl
    one_local = mark m.comma >> local_decl

    unfoldable pub more_locals : Parser (List LocalDecl)
    more_locals = repeat (next_is m.comma) one_local

    -- local variables behind their type
    unfoldable pub local_after : Ty → Parser LocalTree
    local_after of = do
      d ← local_decl
      more ← more_locals
      pure (local_of of d more)

    -- ---- assignments, steps and calls

    unfoldable pub assigned : Place → Expr → Parser SimpleTree
    assigned p left = do
      o ← token (pick assignment)
      right ← e.argument names i
      pure (simple_of p (act.Assign left o.0 o.1 right))

    unfoldable pub stepped : Place → Expr → Parser SimpleTree
    stepped p of = token (pick step) >>= λ o. pure (simple_of p (act.Step of o.0 o.1))

    -- behind a unary, which may end with a call
    unfoldable pub simple_by : Place → Expr → Bool → Parser SimpleTree
    simple_by p left called = choose (next_says assignment) (assigned p left) (choose (next_says step) (stepped p left) (if called then pure (simple_of p (act.Call left)) else fail))

    -- behind a primary
    unfoldable pub simple_after : Place → Expr → Parser SimpleTree
    simple_after p of = e.parts names i >>= λ ps. simple_by p (parts_of p of ps.0) ps.1

    unfoldable pub simple_open : Place → Bracketed → Parser SimpleTree
    simple_open p (AType to) = do
      mark m.paren_close
      of ← i.unary
      simple_by p (expr_of p (node.Cast to of)) false
    simple_open p (AnExpr of) = e.after_brackets names i p of >>= simple_after p

    -- a simple that does not begin with a type
    unfoldable pub simple : Parser SimpleTree
    simple = choose (next_says step) (do
      o ← token (pick step)
      u ← e.unary names i
      pure (simple_of o.1 (act.Step u.of o.0 o.1))) (choose (next_is begins_operated) (e.unary names i >>= λ u. simple_by u.place u.of false) (choose (next_is m.paren_open) (do
        p ← mark m.paren_open
        found ← i.bracketed
        simple_open p found) (e.plain names i >>= λ u. simple_after u.place u.of)))

    -- a simple that begins with a type
    unfoldable pub simple_of_type : TypeRead → Parser SimpleTree
    simple_of_type b = e.after_base names i b >>= simple_after b.place

    unfoldable pub any_simple : Parser SimpleTree
    any_simple = choose (next_is (begins_base names)) (e.base_at names i false >>= simple_of_type) simple

    unfoldable pub local_of_type : TypeRead → Parser Line
    local_of_type b = local_after b.ty >>= λ of. pure (ALocal of)

    -- behind a type
    unfoldable pub first_after : TypeRead → Parser Line
    first_after b = if e.is_constant b.sort then local_of_type b else choose (next_is goes_on) (simple_of_type b >>= λ of. pure (ASimple of)) (local_of_type b)

    unfoldable pub local_or_simple : Parser Line
    local_or_simple = choose (next_is (begins_type names)) (e.type_at names i false >>= first_after) (simple >>= λ of. pure (ASimple of))

    -- ---- parts of statements

    abbrev pub line_of : Line → Stmt × Bool
    line_of (ALocal of) = (local_stmt of, false)
    line_of (ASimple of) = (simple_stmt of, false)

    abbrev pub first_of : Line → ForFirst
    first_of (ALocal of) = first.Local of
    first_of (ASimple of) = first.Simple of

    -- a statement that begins with a type or an expression
    unfoldable pub line : Parser (Stmt × Bool)
    line = do
      of ← local_or_simple
      mark m.semicolon
      pure (line_of of)

    -- an expression that opens a level, or none before the token that ends it
    unfoldable pub within : (Terminal → Bool) → Parser (Option Expr)
    within ends = choose (next_is ends) (pure None) (i.expr >>= λ of. pure (Some of))

    unfoldable pub returned : Parser (Option Expr)
    returned = choose (next_is m.semicolon) (pure None) (e.expr names i >>= λ of. pure (Some of))

    unfoldable pub for_first : Parser ForFirst
    for_first = choose (next_is m.semicolon) (pure first.Nothing) (local_or_simple >>= λ of. pure (first_of of))

    unfoldable pub for_step : Parser (Option SimpleTree)
    for_step = choose (next_is m.paren_close) (pure None) (any_simple >>= λ of. pure (Some of))

    abbrev pub one_signal : Parser Expr
    one_signal = mark m.shift_left >> e.additive names i

    unfoldable pub more_signals : Parser (List Expr)
    more_signals = repeat (next_is m.shift_left) one_signal

    unfoldable pub other : Parser (Option (Stmt × Bool))
    other = choose (next_is m.else_word) (mark m.else_word >> (i.stmt >>= λ of. pure (Some of))) (pure None)

    unfoldable pub if_rest : Place → Parser (Stmt × Bool)
    if_rest p = do
      of ← condition
      first ← i.stmt
      second ← other
      pure (if_of p of first second)

    unfoldable pub while_rest : Place → Parser (Stmt × Bool)
    while_rest p = do
      of ← condition
      body ← i.stmt
      pure (stmt_of p (s.While of body.0), body.1)

    unfoldable pub do_rest : Place → Parser (Stmt × Bool)
    do_rest p = do
      body ← i.stmt
      mark m.while_word
      of ← condition
      mark m.semicolon
      pure (stmt_of p (s.Do body.0 of), false)

    unfoldable pub for_body : Place → ForFirst → Option Expr → Option SimpleTree → Parser (Stmt × Bool)
    for_body p of condition last = i.stmt >>= λ body. pure (stmt_of p (s.For of condition last body.0), body.1)

    unfoldable pub for_rest : Place → Parser (Stmt × Bool)
    for_rest p = do
      mark m.paren_open
      of ← for_first
      mark m.semicolon
      condition ← within m.semicolon
      mark m.semicolon
      last ← for_step
      mark m.paren_close
      for_body p of condition last

    unfoldable pub switch_item : Parser SwitchItem
    switch_item = choose (next_is m.case_word) (do
      p ← mark m.case_word
      of ← e.expr names i
      mark m.colon
      pure (item_of p (item.Case of))) (choose (next_is m.default_word) (do
        p ← mark m.default_word
        mark m.colon
        pure (item_of p item.Otherwise)) (i.stmt >>= λ of. pure (item_of of.0.place (item.Stmt of.0))))

    unfoldable pub switch_items : Parser (List SwitchItem)
    switch_items = repeat (next_is m.not_brace_close) switch_item

    unfoldable pub switch_rest : Place → Parser (Stmt × Bool)
    switch_rest p = do
      of ← condition
      mark m.brace_open
      items ← switch_items
      mark m.brace_close
      pure (stmt_of p (s.Switch of items), false)

    unfoldable pub return_rest : Place → Parser (Stmt × Bool)
    return_rest p = do
      of ← returned
      mark m.semicolon
      pure (stmt_of p (s.Return of), false)

    unfoldable pub wait_rest : Place → Parser (Stmt × Bool)
    wait_rest p = do
      mark m.paren_open
      of ← within m.paren_close
      mark m.paren_close
      mark m.semicolon
      pure (stmt_of p (s.Wait of), false)

    unfoldable pub process_rest : Bool → Place → Parser (Stmt × Bool)
    process_rest thread p = do
      mark m.paren_open
      x ← name_at
      mark m.paren_close
      mark m.semicolon
      pure (process_of p thread x.0 x.1, false)

    unfoldable pub clocked_rest : Place → Parser (Stmt × Bool)
    clocked_rest p = do
      mark m.paren_open
      x ← name_at
      mark m.comma
      edge ← i.expr
      mark m.paren_close
      mark m.semicolon
      pure (stmt_of p (s.ClockedThread x.0 x.1 edge), false)

    unfoldable pub sensitive_rest : Place → Parser (Stmt × Bool)
    sensitive_rest p = do
      mark m.shift_left
      of ← e.additive names i
      more ← more_signals
      mark m.semicolon
      pure (stmt_of p (s.Sensitive (of ∷ more)), false)

    unfoldable pub quiet_rest : Place → Parser (Stmt × Bool)
    quiet_rest p = do
      mark m.paren_open
      mark m.paren_close
      mark m.semicolon
      pure (stmt_of p s.DontInitialize, false)

    unfoldable pub reset_rest : Bool → Place → Parser (Stmt × Bool)
    reset_rest asynchronous p = do
      mark m.paren_open
      signal ← i.expr
      mark m.comma
      level ← i.expr
      mark m.paren_close
      mark m.semicolon
      pure (stmt_of p (s.ResetSignal signal level asynchronous), false)

    -- ---- statements

    -- statements up to the brace that closes them
    abbrev pub item_of_stmt : Parser (Stmt × Bool) → Parser Stmt
    item_of_stmt one = one >>= λ of. pure of.0

    abbrev pub stmts_of : Parser (Stmt × Bool) → Parser (List Stmt)
    stmts_of one = repeat (next_is m.not_brace_close) (item_of_stmt one)

    unfoldable pub block_rest : Place → Parser (Stmt × Bool)
    block_rest p = do
      body ← stmts_of i.stmt
      mark m.brace_close
      pure (stmt_of p (s.Block body), false)

    unfoldable pub stmt_by : StmtStart → Place → Parser (Stmt × Bool)
    stmt_by block_start p = block_rest p
    stmt_by empty_start p = pure (stmt_of p s.Empty, false)
    stmt_by if_start p = if_rest p
    stmt_by switch_start p = switch_rest p
    stmt_by while_start p = while_rest p
    stmt_by do_start p = do_rest p
    stmt_by for_start p = for_rest p
    stmt_by break_start p = mark m.semicolon >> pure (stmt_of p s.Break, false)
    stmt_by continue_start p = mark m.semicolon >> pure (stmt_of p s.Continue, false)
    stmt_by return_start p = return_rest p
    stmt_by wait_start p = wait_rest p
    stmt_by clocked_start p = clocked_rest p
    stmt_by sensitive_start p = sensitive_rest p
    stmt_by quiet_start p = quiet_rest p
    stmt_by (process_start thread) p = process_rest thread p
    stmt_by (reset_start asynchronous) p = reset_rest asynchronous p

    abbrev pub word_stmt : Parser (Stmt × Bool)
    word_stmt = token (pick stmt_start) >>= λ of. stmt_by of.0 of.1

    unfoldable pub stmt : Parser (Stmt × Bool)
    stmt = choose (next_is begins_word) word_stmt line

    -- the body of a function
    unfoldable pub block_of : Parser (List Stmt)
    block_of = do
      mark m.brace_open
      of ← stmts_of stmt
      mark m.brace_close
      pure of

  -- what opens a level, where `n` are left
  unfoldable pub inner : ℕ → Inner
  inner zero = record {
    expr = closed (next_is (begins_expr names));
    additive = closed (next_is (begins_expr names));
    ty = closed (next_is (begins_type names));
    ty_arg = closed (next_is (begins_ty_arg names));
    bracketed = closed (next_is (begins_ty_arg names));
    unary = closed (next_is (begins_expr names));
    argument = closed (next_is (begins_argument names));
    stmt = closed (next_is begins_stmt);
  }
  inner (suc n) = record {
    expr = e.expr names (inner n);
    additive = e.additive names (inner n);
    ty = e.type_at names (inner n) true;
    ty_arg = e.ty_arg names (inner n);
    bracketed = e.bracketed names (inner n);
    unary = e.operand names (inner n);
    argument = e.argument names (inner n);
    stmt = stmt (inner n);
  }
