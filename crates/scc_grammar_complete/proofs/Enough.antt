-- For every text of the grammar there is a number of levels that is enough: types, expressions and statements.
use Rattle.std.specs.Prelude.{ℕ, Bool, List, Option}
use Rattle.scc_base.specs.declared.refusal.Place.{Place}
use Rattle.scc_tree.specs.declared.expr.Expr.{Expr}
use Rattle.scc_tree.specs.declared.expr.Link.{Link}
use Rattle.scc_tree.specs.declared.expr.Part.{Part}
use Rattle.scc_tree.specs.declared.local.Decl.{Decl}
use Rattle.scc_tree.specs.declared.local.LocalDecl.{LocalDecl}
use Rattle.scc_tree.specs.declared.local.LocalTree.{LocalTree}
use Rattle.scc_tree.specs.declared.simple.SimpleTree.{SimpleTree}
use Rattle.scc_tree.specs.declared.stmt.ForFirst.{ForFirst}
use Rattle.scc_tree.specs.declared.stmt.Stmt.{Stmt}
use Rattle.scc_tree.specs.declared.stmt.SwitchItem.{SwitchItem}
use Rattle.scc_tree.specs.declared.ty.Ty.{Ty}
use Rattle.scc_tree.specs.declared.ty.TyArg.{TyArg}
use Rattle.scc_reading.proofs.Unique.{Enough, flat, both, one_more}
use Rattle.scc_grammar_terminals.specs.declared.part.Sort.{Sort}
use Rattle.scc_grammar_spec.specs.Expressions.{ReadsBase, ReadsType, ReadsTyArg, ReadsTyArgs, ReadsTyRest, ReadsChain, ReadsLinks, ReadsExpr, ReadsUnary, ReadsPrimary, ReadsExprs, ReadsParts, ReadsCargs, ReadsMoreCargs, ReadsCarg, ReadsNew}
use Rattle.scc_grammar_spec.specs.LevelsOfExpressions.{deep_base, deep_type, deep_ty_arg, deep_ty_args, deep_ty_rest, deep_chain, deep_links, deep_expr, deep_unary, deep_primary, deep_exprs, deep_parts, deep_cargs, deep_more_cargs, deep_carg, deep_new}
use Rattle.scc_grammar_spec.specs.LevelsOfStatements.{deep_sizes, deep_decl, deep_value, deep_local_decl, deep_more_locals, deep_local, deep_simple, deep_condition, deep_maybe, deep_within, deep_for_first, deep_for_step, deep_signals, deep_stmt, deep_inner, deep_item, deep_items, deep_stmts, deep_block}
use Rattle.scc_grammar_terminals.specs.Names.{Names}
use Rattle.scc_grammar_spec.specs.Statements.{ReadsSizes, ReadsDecl, ReadsValue, ReadsLocalDecl, ReadsMoreLocals, ReadsLocal, ReadsSimple, ReadsCondition, ReadsMaybe, ReadsForFirst, ReadsForStep, ReadsSignals, ReadsStmt, ReadsStmts, ReadsItem, ReadsItems, ReadsBlock}
use Rattle.scc_grammar_terminals.specs.Text.{Text}

module _ (names : Names) where
  mutual
    unfolding deep_base deep_type deep_ty_arg deep_ty_args deep_ty_rest deep_chain deep_links deep_expr deep_unary deep_primary deep_exprs deep_parts deep_cargs deep_more_cargs deep_carg deep_new

    enough_base : {s : Sort} {k : Bool} {p : Place} {ts r : Text} {of : Ty} (d : ReadsBase names s k p ts r of) → Enough (λ n. deep_base names n d)
    enough_base (ReadsBase.bool) = flat
    enough_base (ReadsBase.int) = flat
    enough_base (ReadsBase.short i) = flat
    enough_base (ReadsBase.long) = flat
    enough_base (ReadsBase.signed i) = flat
    enough_base (ReadsBase.unsigned i) = flat
    enough_base (ReadsBase.sized {a = a} d) = one_more a (enough_chain d)
    enough_base (ReadsBase.holder {a = a} d) = one_more a (enough_type d)
    enough_base (ReadsBase.holder_both {a = a} d) = one_more a (enough_type d)
    enough_base (ReadsBase.clock_input) = flat
    enough_base (ReadsBase.module_name) = flat
    enough_base (ReadsBase.named h) = flat
    enough_base (ReadsBase.with_args h d) = enough_ty_args d

    pub enough_type : {s : Sort} {k : Bool} {p : Place} {ts r : Text} {of : Ty} (d : ReadsType names s k p ts r of) → Enough (λ n. deep_type names n d)
    enough_type (ReadsType.plain d) = enough_base d
    enough_type (ReadsType.constant d) = enough_base d

    enough_ty_arg : {k : Bool} {ts r : Text} {of : TyArg} (d : ReadsTyArg names k ts r of) → Enough (λ n. deep_ty_arg names n d)
    enough_ty_arg (ReadsTyArg.value_arg d) = enough_chain d
    enough_ty_arg (ReadsTyArg.type_arg d) = enough_type d

    pub enough_ty_args : {k : Bool} {ts r : Text} {of : List TyArg} (d : ReadsTyArgs names k ts r of) → Enough (λ n. deep_ty_args names n d)
    enough_ty_args (ReadsTyArgs.no_args) = flat
    enough_ty_args (ReadsTyArgs.args {ts = ts} d ds) = both (one_more ts (enough_ty_arg d)) (enough_ty_rest ds)
    enough_ty_args (ReadsTyArgs.arg_both {ts = ts} d) = one_more ts (enough_ty_arg d)

    enough_ty_rest : {k : Bool} {ts r : Text} {of : List TyArg} (d : ReadsTyRest names k ts r of) → Enough (λ n. deep_ty_rest names n d)
    enough_ty_rest (ReadsTyRest.close_args) = flat
    enough_ty_rest (ReadsTyRest.more_args {a = a} d ds) = both (one_more a (enough_ty_arg d)) (enough_ty_rest ds)
    enough_ty_rest (ReadsTyRest.last_both {a = a} d) = one_more a (enough_ty_arg d)

    pub enough_chain : {k : ℕ} {p : Place} {ts r : Text} {of : Expr} (d : ReadsChain names k p ts r of) → Enough (λ n. deep_chain names n d)
    enough_chain (ReadsChain.operand d) = enough_unary d
    enough_chain (ReadsChain.chain d ls) = both (enough_chain d) (enough_links ls)

    enough_links : {k : ℕ} {ts r : Text} {of : List Link} (d : ReadsLinks names k ts r of) → Enough (λ n. deep_links names n d)
    enough_links (ReadsLinks.no_links) = flat
    enough_links (ReadsLinks.links h d ls) = both (enough_chain d) (enough_links ls)

    pub enough_expr : {p : Place} {ts r : Text} {of : Expr} (d : ReadsExpr names p ts r of) → Enough (λ n. deep_expr names n d)
    enough_expr (ReadsExpr.binary d) = enough_chain d
    enough_expr (ReadsExpr.choice {a = a} {b = b} d f g) = both (enough_chain d) (both (one_more a (enough_expr f)) (one_more b (enough_expr g)))

    enough_unary : {p : Place} {ts r : Text} {of : Expr} (d : ReadsUnary names p ts r of) → Enough (λ n. deep_unary names n d)
    enough_unary (ReadsUnary.operated {a = a} h d) = one_more a (enough_unary d)
    enough_unary (ReadsUnary.cast {a = a} {b = b} d f) = both (one_more a (enough_type d)) (one_more b (enough_unary f))
    enough_unary (ReadsUnary.postfix d ps) = both (enough_primary d) (enough_parts ps)

    enough_primary : {p : Place} {ts r : Text} {of : Expr} (d : ReadsPrimary names p ts r of) → Enough (λ n. deep_primary names n d)
    enough_primary (ReadsPrimary.number) = flat
    enough_primary (ReadsPrimary.truth) = flat
    enough_primary (ReadsPrimary.this) = flat
    enough_primary (ReadsPrimary.null) = flat
    enough_primary (ReadsPrimary.name h) = flat
    enough_primary (ReadsPrimary.scoped h) = flat
    enough_primary (ReadsPrimary.scoped_type d) = enough_base d
    enough_primary (ReadsPrimary.make {a = a} d f) = both (enough_base d) (one_more a (enough_expr f))
    enough_primary (ReadsPrimary.static_cast {a = a} {b = b} d f) = both (one_more a (enough_type d)) (one_more b (enough_expr f))
    enough_primary (ReadsPrimary.static_cast_both {a = a} {b = b} d f) = both (one_more a (enough_type d)) (one_more b (enough_expr f))
    enough_primary (ReadsPrimary.concat {a = a} {b = b} d f) = both (one_more a (enough_expr d)) (one_more b (enough_expr f))
    enough_primary (ReadsPrimary.brackets {a = a} d ds) = both (one_more a (enough_expr d)) (enough_exprs ds)

    enough_exprs : {ts r : Text} {of : List Expr} (d : ReadsExprs names ts r of) → Enough (λ n. deep_exprs names n d)
    enough_exprs (ReadsExprs.no_exprs) = flat
    enough_exprs (ReadsExprs.exprs {a = a} d ds) = both (one_more a (enough_expr d)) (enough_exprs ds)

    enough_parts : {b c : Bool} {ts r : Text} {of : List Part} (d : ReadsParts names b c ts r of) → Enough (λ n. deep_parts names n d)
    enough_parts (ReadsParts.no_parts) = flat
    enough_parts (ReadsParts.index {a = a} d ps) = both (one_more a (enough_expr d)) (enough_parts ps)
    enough_parts (ReadsParts.member ps) = enough_parts ps
    enough_parts (ReadsParts.arrow ps) = enough_parts ps
    enough_parts (ReadsParts.call d ps) = both (enough_cargs d) (enough_parts ps)

    pub enough_cargs : {ts r : Text} {of : List Expr} (d : ReadsCargs names ts r of) → Enough (λ n. deep_cargs names n d)
    enough_cargs (ReadsCargs.no_cargs) = flat
    enough_cargs (ReadsCargs.cargs d ds) = both (enough_carg d) (enough_more_cargs ds)

    enough_more_cargs : {ts r : Text} {of : List Expr} (d : ReadsMoreCargs names ts r of) → Enough (λ n. deep_more_cargs names n d)
    enough_more_cargs (ReadsMoreCargs.no_more_cargs) = flat
    enough_more_cargs (ReadsMoreCargs.more_cargs d ds) = both (enough_carg d) (enough_more_cargs ds)

    enough_carg : {ts r : Text} {of : Expr} (d : ReadsCarg names ts r of) → Enough (λ n. deep_carg names n d)
    enough_carg (ReadsCarg.text_carg) = flat
    enough_carg (ReadsCarg.new_carg {ts = ts} d) = one_more ts (enough_new d)
    enough_carg (ReadsCarg.expr_carg {ts = ts} d) = one_more ts (enough_expr d)

    enough_new : {p : Place} {ts r : Text} {of : Expr} (d : ReadsNew names p ts r of) → Enough (λ n. deep_new names n d)
    enough_new (ReadsNew.new d ds) = both (enough_base d) (enough_cargs ds)

  -- ---- statements

  enough_sizes : {ts r : Text} {of : List Expr} (d : ReadsSizes names ts r of) → Enough (λ n. deep_sizes names n d)
  unfolding deep_sizes
  enough_sizes (ReadsSizes.no_sizes) = flat
  enough_sizes (ReadsSizes.sizes {a = a} d ds) = both (one_more a (enough_expr d)) (enough_sizes ds)

  pub enough_decl : {ts r : Text} {of : Decl} (d : ReadsDecl names ts r of) → Enough (λ n. deep_decl names n d)
  unfolding deep_decl
  enough_decl (ReadsDecl.decl h d) = enough_sizes d

  enough_value : {ts r : Text} {of : Option Expr} (d : ReadsValue names ts r of) → Enough (λ n. deep_value names n d)
  unfolding deep_value
  enough_value (ReadsValue.no_value) = flat
  enough_value (ReadsValue.value d) = enough_expr d
  enough_value (ReadsValue.value_in_brackets {a = a} d) = one_more a (enough_expr d)

  enough_local_decl : {ts r : Text} {of : LocalDecl} (d : ReadsLocalDecl names ts r of) → Enough (λ n. deep_local_decl names n d)
  unfolding deep_local_decl
  enough_local_decl (ReadsLocalDecl.local_decl d v) = both (enough_decl d) (enough_value v)

  enough_more_locals : {ts r : Text} {of : List LocalDecl} (d : ReadsMoreLocals names ts r of) → Enough (λ n. deep_more_locals names n d)
  unfolding deep_more_locals
  enough_more_locals (ReadsMoreLocals.no_more_locals) = flat
  enough_more_locals (ReadsMoreLocals.more_locals d ds) = both (enough_local_decl d) (enough_more_locals ds)

  enough_local : {ts r : Text} {of : LocalTree} (d : ReadsLocal names ts r of) → Enough (λ n. deep_local names n d)
  unfolding deep_local
  enough_local (ReadsLocal.local t d ds) = both (enough_type t) (both (enough_local_decl d) (enough_more_locals ds))

  enough_simple : {ts r : Text} {of : SimpleTree} (d : ReadsSimple names ts r of) → Enough (λ n. deep_simple names n d)
  unfolding deep_simple
  enough_simple (ReadsSimple.assign l h d) = both (enough_unary l) (enough_expr d)
  enough_simple (ReadsSimple.assign_new l h d) = both (enough_unary l) (enough_new d)
  enough_simple (ReadsSimple.step_first d) = enough_unary d
  enough_simple (ReadsSimple.step_last d) = enough_unary d
  enough_simple (ReadsSimple.call d ps) = both (enough_primary d) (enough_parts ps)

  enough_condition : {ts r : Text} {of : Expr} (d : ReadsCondition names ts r of) → Enough (λ n. deep_condition names n d)
  unfolding deep_condition
  enough_condition (ReadsCondition.condition {a = a} d) = one_more a (enough_expr d)

  enough_maybe : {ts r : Text} {of : Option Expr} (d : ReadsMaybe names ts r of) → Enough (λ n. deep_maybe names n d)
  unfolding deep_maybe
  enough_maybe (ReadsMaybe.no_expr) = flat
  enough_maybe (ReadsMaybe.an_expr d) = enough_expr d

  enough_within : {ts r : Text} {of : Option Expr} (d : ReadsMaybe names ts r of) → Enough (λ n. deep_within names n d)
  unfolding deep_within
  enough_within (ReadsMaybe.no_expr) = flat
  enough_within (ReadsMaybe.an_expr {ts = ts} d) = one_more ts (enough_expr d)

  enough_for_first : {ts r : Text} {of : ForFirst} (d : ReadsForFirst names ts r of) → Enough (λ n. deep_for_first names n d)
  unfolding deep_for_first
  enough_for_first (ReadsForFirst.nothing_first) = flat
  enough_for_first (ReadsForFirst.local_first d) = enough_local d
  enough_for_first (ReadsForFirst.simple_first d) = enough_simple d

  enough_for_step : {ts r : Text} {of : Option SimpleTree} (d : ReadsForStep names ts r of) → Enough (λ n. deep_for_step names n d)
  unfolding deep_for_step
  enough_for_step (ReadsForStep.no_step) = flat
  enough_for_step (ReadsForStep.a_step d) = enough_simple d

  enough_signals : {ts r : Text} {of : List Expr} (d : ReadsSignals names ts r of) → Enough (λ n. deep_signals names n d)
  unfolding deep_signals
  enough_signals (ReadsSignals.no_signals) = flat
  enough_signals (ReadsSignals.signals d ds) = both (enough_chain d) (enough_signals ds)

  mutual
    unfolding deep_stmt deep_inner deep_item deep_items

    enough_stmt : {k : Bool} {ts r : Text} {of : Stmt} (d : ReadsStmt names k ts r of) → Enough (λ n. deep_stmt names n d)
    enough_stmt (ReadsStmt.block d) = enough_inner d
    enough_stmt (ReadsStmt.empty) = flat
    enough_stmt (ReadsStmt.local_line d) = enough_local d
    enough_stmt (ReadsStmt.if_only {b = b} t d) = both (enough_condition t) (one_more b (enough_stmt d))
    enough_stmt (ReadsStmt.if_else {b = b} {c = c} t d f) = both (enough_condition t) (both (one_more b (enough_stmt d)) (one_more c (enough_stmt f)))
    enough_stmt (ReadsStmt.switch t d) = both (enough_condition t) (enough_items d)
    enough_stmt (ReadsStmt.while {b = b} t d) = both (enough_condition t) (one_more b (enough_stmt d))
    enough_stmt (ReadsStmt.do_while {a = a} d t) = both (one_more a (enough_stmt d)) (enough_condition t)
    enough_stmt (ReadsStmt.for {m = m} f t s d) = both (enough_for_first f) (both (enough_within t) (both (enough_for_step s) (one_more m (enough_stmt d))))
    enough_stmt (ReadsStmt.break) = flat
    enough_stmt (ReadsStmt.continue) = flat
    enough_stmt (ReadsStmt.return d) = enough_maybe d
    enough_stmt (ReadsStmt.wait d) = enough_within d
    enough_stmt (ReadsStmt.process) = flat
    enough_stmt (ReadsStmt.clocked_thread {a = a} d) = one_more a (enough_expr d)
    enough_stmt (ReadsStmt.sensitive d ds) = both (enough_chain d) (enough_signals ds)
    enough_stmt (ReadsStmt.dont_initialize) = flat
    enough_stmt (ReadsStmt.reset {a = a} {b = b} d f) = both (one_more a (enough_expr d)) (one_more b (enough_expr f))
    enough_stmt (ReadsStmt.simple_line d) = enough_simple d

    enough_inner : {ts r : Text} {of : List Stmt} (d : ReadsStmts names ts r of) → Enough (λ n. deep_inner names n d)
    enough_inner (ReadsStmts.no_stmts) = flat
    enough_inner (ReadsStmts.stmts {ts = ts} d ds) = both (one_more ts (enough_stmt d)) (enough_inner ds)

    enough_item : {ts r : Text} {of : SwitchItem} (d : ReadsItem names ts r of) → Enough (λ n. deep_item names n d)
    enough_item (ReadsItem.case d) = enough_expr d
    enough_item (ReadsItem.default) = flat
    enough_item (ReadsItem.stmt_item {ts = ts} d) = one_more ts (enough_stmt d)

    enough_items : {ts r : Text} {of : List SwitchItem} (d : ReadsItems names ts r of) → Enough (λ n. deep_items names n d)
    enough_items (ReadsItems.no_items) = flat
    enough_items (ReadsItems.items d ds) = both (enough_item d) (enough_items ds)

  enough_stmts : {ts r : Text} {of : List Stmt} (d : ReadsStmts names ts r of) → Enough (λ n. deep_stmts names n d)
  unfolding deep_stmts
  enough_stmts (ReadsStmts.no_stmts) = flat
  enough_stmts (ReadsStmts.stmts d ds) = both (enough_stmt d) (enough_stmts ds)

  pub enough_block : {ts r : Text} {of : List Stmt} (d : ReadsBlock names ts r of) → Enough (λ n. deep_block names n d)
  unfolding deep_block
  enough_block (ReadsBlock.body d) = enough_stmts d
