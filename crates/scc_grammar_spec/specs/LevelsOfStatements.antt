-- Levels of statements: the first token that opens one more than `n` of them. A level is opened by each statement within a statement, by what
-- stands directly between brackets, and by the condition of a `for`.
use Rattle.std.specs.Prelude.{ℕ, Bool, List, Option, None}
use Rattle.scc_tree.specs.declared.expr.Expr.{Expr}
use Rattle.scc_tree.specs.declared.local.Decl.{Decl}
use Rattle.scc_tree.specs.declared.local.LocalDecl.{LocalDecl}
use Rattle.scc_tree.specs.declared.local.LocalTree.{LocalTree}
use Rattle.scc_tree.specs.declared.simple.SimpleTree.{SimpleTree}
use Rattle.scc_tree.specs.declared.stmt.ForFirst.{ForFirst}
use Rattle.scc_tree.specs.declared.stmt.Stmt.{Stmt}
use Rattle.scc_tree.specs.declared.stmt.SwitchItem.{SwitchItem}
use Rattle.scc_reading.specs.Level.{opens, ◌then◌}
use Rattle.scc_grammar_spec.specs.LevelsOfExpressions.{deep_type, deep_chain, deep_expr, deep_unary, deep_primary, deep_parts, deep_new}
use Rattle.scc_grammar_terminals.specs.Names.{Names}
use Rattle.scc_grammar_spec.specs.Statements.{ReadsSizes, ReadsDecl, ReadsValue, ReadsLocalDecl, ReadsMoreLocals, ReadsLocal, ReadsSimple, ReadsCondition, ReadsMaybe, ReadsForFirst, ReadsForStep, ReadsSignals, ReadsStmt, ReadsStmts, ReadsItem, ReadsItems, ReadsBlock}
use Rattle.scc_grammar_terminals.specs.Text.{Text}

module _ (names : Names) where
  unfoldable pub deep_sizes : {ts r : Text} {of : List Expr} → ℕ → ReadsSizes names ts r of → Option Text
  deep_sizes n (ReadsSizes.no_sizes) = None
  deep_sizes n (ReadsSizes.sizes {a = a} d ds) = opens n a (λ m. deep_expr names m d) then deep_sizes n ds

  unfoldable pub deep_decl : {ts r : Text} {of : Decl} → ℕ → ReadsDecl names ts r of → Option Text
  deep_decl n (ReadsDecl.decl h d) = deep_sizes n d

  unfoldable pub deep_value : {ts r : Text} {of : Option Expr} → ℕ → ReadsValue names ts r of → Option Text
  deep_value n (ReadsValue.no_value) = None
  deep_value n (ReadsValue.value d) = deep_expr names n d
  deep_value n (ReadsValue.value_in_brackets {a = a} d) = opens n a (λ m. deep_expr names m d)

  unfoldable pub deep_local_decl : {ts r : Text} {of : LocalDecl} → ℕ → ReadsLocalDecl names ts r of → Option Text
  deep_local_decl n (ReadsLocalDecl.local_decl d v) = deep_decl n d then deep_value n v

  unfoldable pub deep_more_locals : {ts r : Text} {of : List LocalDecl} → ℕ → ReadsMoreLocals names ts r of → Option Text
  deep_more_locals n (ReadsMoreLocals.no_more_locals) = None
  deep_more_locals n (ReadsMoreLocals.more_locals d ds) = deep_local_decl n d then deep_more_locals n ds

  unfoldable pub deep_local : {ts r : Text} {of : LocalTree} → ℕ → ReadsLocal names ts r of → Option Text
  deep_local n (ReadsLocal.local t d ds) = deep_type names n t then deep_local_decl n d then deep_more_locals n ds

  unfoldable pub deep_simple : {ts r : Text} {of : SimpleTree} → ℕ → ReadsSimple names ts r of → Option Text
  deep_simple n (ReadsSimple.assign l h d) = deep_unary names n l then deep_expr names n d
  deep_simple n (ReadsSimple.assign_new l h d) = deep_unary names n l then deep_new names n d
  deep_simple n (ReadsSimple.step_first d) = deep_unary names n d
  deep_simple n (ReadsSimple.step_last d) = deep_unary names n d
  deep_simple n (ReadsSimple.call d ps) = deep_primary names n d then deep_parts names n ps

  unfoldable pub deep_condition : {ts r : Text} {of : Expr} → ℕ → ReadsCondition names ts r of → Option Text
  deep_condition n (ReadsCondition.condition {a = a} d) = opens n a (λ m. deep_expr names m d)

  unfoldable pub deep_maybe : {ts r : Text} {of : Option Expr} → ℕ → ReadsMaybe names ts r of → Option Text
  deep_maybe n (ReadsMaybe.no_expr) = None
  deep_maybe n (ReadsMaybe.an_expr d) = deep_expr names n d

  -- the same between brackets, and as the condition of a `for`
  unfoldable pub deep_within : {ts r : Text} {of : Option Expr} → ℕ → ReadsMaybe names ts r of → Option Text
  deep_within n (ReadsMaybe.no_expr) = None
  deep_within n (ReadsMaybe.an_expr {ts = ts} d) = opens n ts (λ m. deep_expr names m d)

  unfoldable pub deep_for_first : {ts r : Text} {of : ForFirst} → ℕ → ReadsForFirst names ts r of → Option Text
  deep_for_first n (ReadsForFirst.nothing_first) = None
  deep_for_first n (ReadsForFirst.local_first d) = deep_local n d
  deep_for_first n (ReadsForFirst.simple_first d) = deep_simple n d

  unfoldable pub deep_for_step : {ts r : Text} {of : Option SimpleTree} → ℕ → ReadsForStep names ts r of → Option Text
  deep_for_step n (ReadsForStep.no_step) = None
  deep_for_step n (ReadsForStep.a_step d) = deep_simple n d

  unfoldable pub deep_signals : {ts r : Text} {of : List Expr} → ℕ → ReadsSignals names ts r of → Option Text
  deep_signals n (ReadsSignals.no_signals) = None
  deep_signals n (ReadsSignals.signals d ds) = deep_chain names n d then deep_signals n ds

  unfoldable mutual
    pub deep_stmt : {nests : Bool} {ts r : Text} {of : Stmt} → ℕ → ReadsStmt names nests ts r of → Option Text
    deep_stmt n (ReadsStmt.block d) = deep_inner n d
    deep_stmt n (ReadsStmt.empty) = None
    deep_stmt n (ReadsStmt.local_line d) = deep_local n d
    deep_stmt n (ReadsStmt.if_only {b = b} t d) = deep_condition n t then opens n b (λ m. deep_stmt m d)
    deep_stmt n (ReadsStmt.if_else {b = b} {c = c} t d e) = deep_condition n t then opens n b (λ m. deep_stmt m d) then opens n c (λ m. deep_stmt m e)
    deep_stmt n (ReadsStmt.switch t d) = deep_condition n t then deep_items n d
    deep_stmt n (ReadsStmt.while {b = b} t d) = deep_condition n t then opens n b (λ m. deep_stmt m d)
    deep_stmt n (ReadsStmt.do_while {a = a} d t) = opens n a (λ m. deep_stmt m d) then deep_condition n t
    deep_stmt n (ReadsStmt.for {m = m} f t s d) = deep_for_first n f then deep_within n t then deep_for_step n s then opens n m (λ k. deep_stmt k d)
    deep_stmt n (ReadsStmt.break) = None
    deep_stmt n (ReadsStmt.continue) = None
    deep_stmt n (ReadsStmt.return d) = deep_maybe n d
    deep_stmt n (ReadsStmt.wait d) = deep_within n d
    deep_stmt n (ReadsStmt.process) = None
    deep_stmt n (ReadsStmt.clocked_thread {a = a} d) = opens n a (λ m. deep_expr names m d)
    deep_stmt n (ReadsStmt.sensitive d ds) = deep_chain names n d then deep_signals n ds
    deep_stmt n (ReadsStmt.dont_initialize) = None
    deep_stmt n (ReadsStmt.reset {a = a} {b = b} d e) = opens n a (λ m. deep_expr names m d) then opens n b (λ m. deep_expr names m e)
    deep_stmt n (ReadsStmt.simple_line d) = deep_simple n d

    -- statements within a statement
    pub deep_inner : {ts r : Text} {of : List Stmt} → ℕ → ReadsStmts names ts r of → Option Text
    deep_inner n (ReadsStmts.no_stmts) = None
    deep_inner n (ReadsStmts.stmts {ts = ts} d ds) = opens n ts (λ m. deep_stmt m d) then deep_inner n ds

    pub deep_item : {ts r : Text} {of : SwitchItem} → ℕ → ReadsItem names ts r of → Option Text
    deep_item n (ReadsItem.case d) = deep_expr names n d
    deep_item n (ReadsItem.default) = None
    deep_item n (ReadsItem.stmt_item {ts = ts} d) = opens n ts (λ m. deep_stmt m d)

    pub deep_items : {ts r : Text} {of : List SwitchItem} → ℕ → ReadsItems names ts r of → Option Text
    deep_items n (ReadsItems.no_items) = None
    deep_items n (ReadsItems.items d ds) = deep_item n d then deep_items n ds

  -- the statements of a body
  unfoldable pub deep_stmts : {ts r : Text} {of : List Stmt} → ℕ → ReadsStmts names ts r of → Option Text
  deep_stmts n (ReadsStmts.no_stmts) = None
  deep_stmts n (ReadsStmts.stmts d ds) = deep_stmt n d then deep_stmts n ds

  unfoldable pub deep_block : {ts r : Text} {of : List Stmt} → ℕ → ReadsBlock names ts r of → Option Text
  deep_block n (ReadsBlock.body d) = deep_stmts n d
