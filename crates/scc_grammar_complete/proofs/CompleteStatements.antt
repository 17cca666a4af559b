-- Statements are read, up to the first token that opens a level too many.
use Rattle.std.specs.Prelude.{◌≡◌, ℕ, Bool, true, false, ◌||◌, List, [], ◌∷◌, Option, None, is_some, Ok, refl}
use Rattle.std.proofs.Common.{◌∙◌, ap}
use Rattle.scc_base.specs.declared.refusal.Place.{Place}
use Rattle.scc_bits_kinds.specs.declared.op.Op.{Op}
use Rattle.scc_tree.specs.declared.expr.Expr.{Expr}
use Rattle.scc_tree.specs.declared.local.LocalTree.{LocalTree}
use Rattle.scc_tree.specs.declared.simple.SimpleTree.{SimpleTree}
use Rattle.scc_tree.specs.declared.stmt.ForFirst.{ForFirst}
use Rattle.scc_tree.specs.declared.stmt.Stmt.{Stmt}
use Rattle.scc_tree.specs.declared.stmt.SwitchItem.{SwitchItem}
use Rattle.scc_reading.specs.Level.{opens}
use Rattle.scc_reading.specs.Reading.{and_then, pure, is_next}
use Rattle.scc_reading.proofs.Complete.{Is, vthen, vlast, same, done, picked, passed, Again, turn, last_turn}
use Rattle.scc_grammar_terminals.specs.declared.terminal.Terminal.{Terminal}
use Rattle.scc_grammar_terminals.specs.declared.terminal.Terminal.TheVariants as t
use Rattle.scc_grammar_terminals.specs.First.{begins_type, begins_expr, begins_ty_arg}
use Rattle.scc_grammar_terminals.specs.Inner.{Inner}
use Rattle.scc_grammar_spec.specs.LevelsOfStatements.{deep_condition, deep_maybe, deep_within, deep_for_first, deep_for_step, deep_signals, deep_stmt, deep_inner, deep_item, deep_items, deep_stmts, deep_block}
use Rattle.scc_grammar_terminals.specs.Marks as m
use Rattle.scc_grammar_terminals.specs.Names.{Names}
use Rattle.scc_grammar_terminals.specs.Operators.{sum}
use Rattle.scc_grammar_spec.specs.ParseStatements as s
use Rattle.scc_grammar_spec.specs.ParseStatements.{step, begins_word, begins_stmt}
use Rattle.scc_grammar_spec.specs.Statements.{ReadsLocal, ReadsSimple, ReadsCondition, ReadsMaybe, ReadsForFirst, ReadsForStep, ReadsSignals, ReadsStmt, ReadsStmts, ReadsItem, ReadsItems, ReadsBlock}
use Rattle.scc_grammar_terminals.specs.Text.{Text, at, next_is}
use Rattle.scc_grammar_complete.proofs.Follows.{ends, expr_ends, or_right, false_not_true, next_not, next_also}
use Rattle.scc_grammar_complete.proofs.CompleteTypes.{Opened, Agains, first_type, first_primary, first_unary, first_expr, expr_is_ty_arg, type_is_ty_arg}
use Rattle.scc_grammar_complete.proofs.CompleteChains.{complete_additive, complete_expr}
use Rattle.scc_grammar_complete.proofs.CompleteSimple.{LocalAgains, complete_local, complete_simple, complete_simple_line}

-- what opens a level as a statement is read where `n` are left
pub record OpenedStmt (names : Names) (i : Inner) (n : ℕ) : Type 0 where
  pub stmt : {nests : Bool} {ts r : Text} {of : Stmt} (d : ReadsStmt names nests ts r of) → (nests ≡ true → is_next (next_is m.else_word) r ≡ false) → Is (i.stmt ts) (opens n ts (λ m. deep_stmt names m d)) (of, nests) r

pub record StmtAgains (names : Names) (i : Inner) : Type 0 where
  pub signals : Again (next_is m.shift_left) (s.one_signal names i)
  pub items : Again (next_is m.not_brace_close) (s.switch_item names i)
  pub inner : Again (next_is m.not_brace_close) (s.item_of_stmt names i i.stmt)
  pub body : Again (next_is m.not_brace_close) (s.item_of_stmt names i (s.stmt names i))

ty_arg_not_word : (names : Names) (w : Terminal) → begins_ty_arg names w ≡ true → begins_word w ≡ false
ty_arg_not_word names t.BraceOpen h = cc
ty_arg_not_word names t.Semicolon h = cc
ty_arg_not_word names t.If h = cc
ty_arg_not_word names t.Switch h = cc
ty_arg_not_word names t.While h = cc
ty_arg_not_word names t.Do h = cc
ty_arg_not_word names t.For h = cc
ty_arg_not_word names t.Break h = cc
ty_arg_not_word names t.Continue h = cc
ty_arg_not_word names t.Return h = cc
ty_arg_not_word names t.Wait h = cc
ty_arg_not_word names t.ClockedThread h = cc
ty_arg_not_word names t.Sensitive h = cc
ty_arg_not_word names t.DontInitialize h = cc
ty_arg_not_word names (t.Process x) h = cc
ty_arg_not_word names (t.Reset x) h = cc
ty_arg_not_word names _ h = refl

stmt_not_close : (names : Names) (w : Terminal) → begins_stmt names w ≡ true → m.not_brace_close w ≡ true
stmt_not_close names t.BraceClose h = cc
stmt_not_close names _ h = refl

stmt_not_else : (names : Names) (w : Terminal) → begins_stmt names w ≡ true → m.else_word w ≡ false
stmt_not_else names t.Else h = cc
stmt_not_else names _ h = refl

stmt_not_case : (names : Names) (w : Terminal) → begins_stmt names w ≡ true → m.case_word w ≡ false
stmt_not_case names t.Case h = cc
stmt_not_case names _ h = refl

stmt_not_default : (names : Names) (w : Terminal) → begins_stmt names w ≡ true → m.default_word w ≡ false
stmt_not_default names t.Default h = cc
stmt_not_default names _ h = refl

expr_not_semicolon : (names : Names) (w : Terminal) → begins_expr names w ≡ true → m.semicolon w ≡ false
expr_not_semicolon names t.Semicolon h = cc
expr_not_semicolon names _ h = refl

expr_not_paren : (names : Names) (w : Terminal) → begins_expr names w ≡ true → m.paren_close w ≡ false
expr_not_paren names t.ParenClose h = cc
expr_not_paren names _ h = refl

ty_arg_not_semicolon : (names : Names) (w : Terminal) → begins_ty_arg names w ≡ true → m.semicolon w ≡ false
ty_arg_not_semicolon names t.Semicolon h = cc
ty_arg_not_semicolon names _ h = refl

ty_arg_not_paren : (names : Names) (w : Terminal) → begins_ty_arg names w ≡ true → m.paren_close w ≡ false
ty_arg_not_paren names t.ParenClose h = cc
ty_arg_not_paren names _ h = refl

module _ (names : Names) where
  expr_to_ty_arg : (ts : Text) → is_next (next_is (begins_expr names)) ts ≡ true → is_next (next_is (begins_ty_arg names)) ts ≡ true
  expr_to_ty_arg ts h = next_also (begins_expr names) (begins_ty_arg names) (expr_is_ty_arg names) ts h

  first_local : {ts r : Text} {of : LocalTree} → ReadsLocal names ts r of → is_next (next_is (begins_ty_arg names)) ts ≡ true
  first_local (ReadsLocal.local {ts = ts} d l ls) = next_also (begins_type names) (begins_ty_arg names) (type_is_ty_arg names) ts (first_type names d)

  ty_arg_is_stmt : (w : Terminal) → begins_ty_arg names w ≡ true → begins_stmt names w ≡ true
  ty_arg_is_stmt w h = or_right (begins_word w || is_some (step w)) (begins_ty_arg names w) h

  next_gives : (one test : Terminal → Bool) (b : Bool) → ((w : Terminal) → one w ≡ true → test w ≡ b) → (ts : Text) → is_next (next_is one) ts ≡ true → is_next (next_is test) ts ≡ b
  next_gives one test b h [] k = false_not_true k
  next_gives one test b h (s ∷ ts) k = h s.terminal k

  -- an assignment, a step or a call begins with a step, or as an expression
  pub first_simple : (test : Terminal → Bool) (b : Bool) → ((o : Op) → test (t.Step o) ≡ b) → ((w : Terminal) → begins_ty_arg names w ≡ true → test w ≡ b) → {ts r : Text} {of : SimpleTree} → ReadsSimple names ts r of → is_next (next_is test) ts ≡ b
  first_simple test b g h (ReadsSimple.assign {ts = ts} l w d) = next_gives (begins_ty_arg names) test b h ts (expr_to_ty_arg ts (first_unary names l))
  first_simple test b g h (ReadsSimple.assign_new {ts = ts} l w d) = next_gives (begins_ty_arg names) test b h ts (expr_to_ty_arg ts (first_unary names l))
  first_simple test b g h (ReadsSimple.step_first {o = o} d) = g o
  first_simple test b g h (ReadsSimple.step_last {ts = ts} d) = next_gives (begins_ty_arg names) test b h ts (expr_to_ty_arg ts (first_unary names d))
  first_simple test b g h (ReadsSimple.call {ts = ts} d ps) = next_gives (begins_ty_arg names) test b h ts (expr_to_ty_arg ts (first_primary names d))

  pub first_stmt : {nests : Bool} {ts r : Text} {of : Stmt} → ReadsStmt names nests ts r of → is_next (next_is (begins_stmt names)) ts ≡ true
  first_stmt (ReadsStmt.block d) = refl
  first_stmt (ReadsStmt.empty) = refl
  first_stmt (ReadsStmt.local_line {ts = ts} d) = next_also (begins_ty_arg names) (begins_stmt names) ty_arg_is_stmt ts (first_local d)
  first_stmt (ReadsStmt.if_only k d) = refl
  first_stmt (ReadsStmt.if_else k d f) = refl
  first_stmt (ReadsStmt.switch k d) = refl
  first_stmt (ReadsStmt.while k d) = refl
  first_stmt (ReadsStmt.do_while d k) = refl
  first_stmt (ReadsStmt.for f k g d) = refl
  first_stmt (ReadsStmt.break) = refl
  first_stmt (ReadsStmt.continue) = refl
  first_stmt (ReadsStmt.return d) = refl
  first_stmt (ReadsStmt.wait d) = refl
  first_stmt (ReadsStmt.process) = refl
  first_stmt (ReadsStmt.clocked_thread d) = refl
  first_stmt (ReadsStmt.sensitive d ds) = refl
  first_stmt (ReadsStmt.dont_initialize) = refl
  first_stmt (ReadsStmt.reset d f) = refl
  first_stmt (ReadsStmt.simple_line d) = first_simple (begins_stmt names) true (λ o. refl) ty_arg_is_stmt d

  -- what follows a statement of a list is no `else`
  follows : {c : Place} {ts r : Text} {ss : List Stmt} → ReadsStmts names ts (at t.BraceClose c ∷ r) ss → is_next (next_is m.else_word) ts ≡ false
  follows (ReadsStmts.no_stmts) = refl
  follows (ReadsStmts.stmts {ts = ts} d ds) = next_not (begins_stmt names) m.else_word (stmt_not_else names) ts (first_stmt d)

  item_follows : {c : Place} {ts r : Text} {of : List SwitchItem} → ReadsItems names ts (at t.BraceClose c ∷ r) of → is_next (next_is m.else_word) ts ≡ false
  item_follows (ReadsItems.no_items) = refl
  item_follows (ReadsItems.items (ReadsItem.case d) ds) = refl
  item_follows (ReadsItems.items (ReadsItem.default) ds) = refl
  item_follows (ReadsItems.items (ReadsItem.stmt_item {ts = ts} d) ds) = next_not (begins_stmt names) m.else_word (stmt_not_else names) ts (first_stmt d)

  first_item : {ts r : Text} {of : SwitchItem} → ReadsItem names ts r of → is_next (next_is m.not_brace_close) ts ≡ true
  first_item (ReadsItem.case d) = refl
  first_item (ReadsItem.default) = refl
  first_item (ReadsItem.stmt_item {ts = ts} d) = next_also (begins_stmt names) m.not_brace_close (stmt_not_close names) ts (first_stmt d)

  module _ (i : Inner) (n : ℕ) (C : Opened names i n) (A : Agains names i) (L : LocalAgains names i) (S : OpenedStmt names i n) (B : StmtAgains names i) where
    complete_condition : {ts r : Text} {of : Expr} (d : ReadsCondition names ts r of) → Is (s.condition names i ts) (deep_condition names n d) of r
    unfolding deep_condition s.condition
    complete_condition (ReadsCondition.condition d) = vlast _ (C.expr d refl) refl

    complete_within : (ends : Terminal → Bool) → ((w : Terminal) → begins_expr names w ≡ true → ends w ≡ false) → {ts r : Text} {of : Option Expr} (d : ReadsMaybe names ts r of) → is_next (next_is ends) r ≡ true → expr_ends r ≡ true
        → Is (s.within names i ends ts) (deep_within names n d) of r
    unfolding deep_within s.within
    complete_within ends h (ReadsMaybe.no_expr {r = r}) g k = done (picked (next_is ends) _ _ r g)
    complete_within ends h (ReadsMaybe.an_expr {ts = ts} d) g k = same (passed (next_is ends) _ _ ts (next_not (begins_expr names) ends h ts (first_expr names d))) (vlast _ (C.expr d k) refl)

    complete_returned : {c : Place} {ts r : Text} {of : Option Expr} (d : ReadsMaybe names ts (at t.Semicolon c ∷ r) of) → Is (s.returned names i ts) (deep_maybe names n d) of (at t.Semicolon c ∷ r)
    unfolding deep_maybe s.returned
    complete_returned (ReadsMaybe.no_expr) = done refl
    complete_returned (ReadsMaybe.an_expr {ts = ts} d) = same (passed (next_is m.semicolon) _ _ ts (next_not (begins_expr names) m.semicolon (expr_not_semicolon names) ts (first_expr names d))) (vlast _ (complete_expr names i n C A d refl) refl)

    complete_for_first : {c : Place} {ts r : Text} {of : ForFirst} (d : ReadsForFirst names ts (at t.Semicolon c ∷ r) of) → Is (s.for_first names i ts) (deep_for_first names n d) of (at t.Semicolon c ∷ r)
    unfolding deep_for_first s.for_first
    complete_for_first (ReadsForFirst.nothing_first) = done refl
    complete_for_first (ReadsForFirst.local_first {ts = ts} d) = same (passed (next_is m.semicolon) _ _ ts (next_not (begins_ty_arg names) m.semicolon (ty_arg_not_semicolon names) ts (first_local d))) (vlast _ (complete_local names i n C A L d) refl)
    complete_for_first (ReadsForFirst.simple_first {ts = ts} d) = same (passed (next_is m.semicolon) _ _ ts (first_simple m.semicolon false (λ o. refl) (ty_arg_not_semicolon names) d)) (vlast _ (complete_simple_line names i n C A L d refl) refl)

    complete_for_step : {c : Place} {ts r : Text} {of : Option SimpleTree} (d : ReadsForStep names ts (at t.ParenClose c ∷ r) of) → Is (s.for_step names i ts) (deep_for_step names n d) of (at t.ParenClose c ∷ r)
    unfolding deep_for_step s.for_step
    complete_for_step (ReadsForStep.no_step) = done refl
    complete_for_step (ReadsForStep.a_step {ts = ts} d) = same (passed (next_is m.paren_close) _ _ ts (first_simple m.paren_close false (λ o. refl) (ty_arg_not_paren names) d)) (vlast _ (complete_simple names i n C A L d refl) refl)

    signals_end : {c : Place} {ts r : Text} {of : List Expr} → ReadsSignals names ts (at t.Semicolon c ∷ r) of → ends sum ts ≡ true
    signals_end (ReadsSignals.no_signals) = refl
    signals_end (ReadsSignals.signals d ds) = refl

    complete_signals : {c : Place} {ts r : Text} {of : List Expr} (d : ReadsSignals names ts (at t.Semicolon c ∷ r) of) → Is (s.more_signals names i ts) (deep_signals names n d) of (at t.Semicolon c ∷ r)
    unfolding deep_signals s.more_signals
    complete_signals {c = c} {r = r} (ReadsSignals.no_signals) = last_turn _ _ (at t.Semicolon c ∷ r) B.signals refl
    complete_signals (ReadsSignals.signals {c = k} {a = a} d ds) = turn _ _ (at t.ShiftLeft k ∷ a) B.signals refl (complete_additive names i n C A d (signals_end ds)) (complete_signals ds)

    complete_inner : {c : Place} {ts r : Text} {ss : List Stmt} (d : ReadsStmts names ts (at t.BraceClose c ∷ r) ss) → Is (s.stmts_of names i i.stmt ts) (deep_inner names n d) ss (at t.BraceClose c ∷ r)
    unfolding deep_inner
    complete_inner {c = c} {r = r} (ReadsStmts.no_stmts) = last_turn _ _ (at t.BraceClose c ∷ r) B.inner refl
    complete_inner (ReadsStmts.stmts {ts = ts} d ds) = turn _ _ ts B.inner (next_also (begins_stmt names) m.not_brace_close (stmt_not_close names) ts (first_stmt d)) (vlast _ (S.stmt d (λ _. follows ds)) refl) (complete_inner ds)

    complete_item : {ts r : Text} {of : SwitchItem} (d : ReadsItem names ts r of) → is_next (next_is m.else_word) r ≡ false → Is (s.switch_item names i ts) (deep_item names n d) of r
    unfolding deep_item s.switch_item
    complete_item (ReadsItem.case d) h = vlast _ (complete_expr names i n C A d refl) refl
    complete_item (ReadsItem.default) h = done refl
    complete_item (ReadsItem.stmt_item {ts = ts} d) h =
        same (passed (next_is m.case_word) _ _ ts (next_not (begins_stmt names) m.case_word (stmt_not_case names) ts (first_stmt d)) ∙ passed (next_is m.default_word) _ _ ts (next_not (begins_stmt names) m.default_word (stmt_not_default names) ts (first_stmt d)))
        (vlast _ (S.stmt d (λ _. h)) refl)

    complete_items : {c : Place} {ts r : Text} {of : List SwitchItem} (d : ReadsItems names ts (at t.BraceClose c ∷ r) of) → Is (s.switch_items names i ts) (deep_items names n d) of (at t.BraceClose c ∷ r)
    unfolding deep_items s.switch_items
    complete_items {c = c} {r = r} (ReadsItems.no_items) = last_turn _ _ (at t.BraceClose c ∷ r) B.items refl
    complete_items (ReadsItems.items {ts = ts} d ds) = turn _ _ ts B.items (first_item d) (complete_item d (item_follows ds)) (complete_items ds)

    no_other : (r : Text) → is_next (next_is m.else_word) r ≡ false → s.other names i r ≡ Ok (None, r)
    unfolding s.other
    no_other r h = passed (next_is m.else_word) _ _ r h

    complete_line : {nests : Bool} (ts : Text) {r : Text} {v : Option Text} {of : Stmt} → is_next (next_is begins_word) ts ≡ false → Is (s.line names i ts) v (of, nests) r → Is (s.stmt names i ts) v (of, nests) r
    unfolding s.stmt
    complete_line ts h k = same (passed (next_is begins_word) _ _ ts h) k

    pub complete_stmt : {nests : Bool} {ts r : Text} {of : Stmt} (d : ReadsStmt names nests ts r of) → (nests ≡ true → is_next (next_is m.else_word) r ≡ false) → Is (s.stmt names i ts) (deep_stmt names n d) (of, nests) r
    unfolding deep_stmt s.stmt s.stmt_by s.block_rest s.if_rest s.other s.switch_rest s.while_rest s.do_rest s.for_rest s.for_body s.return_rest s.wait_rest s.process_rest s.clocked_rest s.sensitive_rest s.quiet_rest s.reset_rest s.line
    complete_stmt (ReadsStmt.block d) h = vlast _ (complete_inner d) refl
    complete_stmt (ReadsStmt.empty) h = done refl
    complete_stmt (ReadsStmt.local_line {ts = ts} d) h = complete_line ts (next_not (begins_ty_arg names) begins_word (ty_arg_not_word names) ts (first_local d)) (vlast _ (complete_local names i n C A L d) refl)
    complete_stmt (ReadsStmt.if_only {nests = nests} {p = p} {r = r} {test = test} {first = first} k d) h =
        vthen _ (complete_condition k) (vlast _ (S.stmt d (λ _. h refl)) (ap (λ o. and_then o (λ second. pure (s.if_of p test (first, nests) second))) (no_other r (h refl))))
    complete_stmt (ReadsStmt.if_else k d f) h = vthen _ (complete_condition k) (vthen _ (S.stmt d (λ h. false_not_true h)) (vlast _ (vlast _ (S.stmt f h) refl) refl))
    complete_stmt (ReadsStmt.switch k d) h = vthen _ (complete_condition k) (vlast _ (complete_items d) refl)
    complete_stmt (ReadsStmt.while k d) h = vthen _ (complete_condition k) (vlast _ (S.stmt d h) refl)
    complete_stmt (ReadsStmt.do_while d k) h = vthen _ (S.stmt d (λ _. refl)) (vlast _ (complete_condition k) refl)
    complete_stmt (ReadsStmt.for f k g d) h =
        vthen _ (complete_for_first f) (vthen _ (complete_within m.semicolon (expr_not_semicolon names) k refl refl) (vthen _ (complete_for_step g) (vlast _ (S.stmt d h) refl)))
    complete_stmt (ReadsStmt.break) h = done refl
    complete_stmt (ReadsStmt.continue) h = done refl
    complete_stmt (ReadsStmt.return d) h = vlast _ (complete_returned d) refl
    complete_stmt (ReadsStmt.wait d) h = vlast _ (complete_within m.paren_close (expr_not_paren names) d refl refl) refl
    complete_stmt (ReadsStmt.process) h = done refl
    complete_stmt (ReadsStmt.clocked_thread d) h = vlast _ (C.expr d refl) refl
    complete_stmt (ReadsStmt.sensitive d ds) h = vthen _ (complete_additive names i n C A d (signals_end ds)) (vlast _ (complete_signals ds) refl)
    complete_stmt (ReadsStmt.dont_initialize) h = done refl
    complete_stmt (ReadsStmt.reset d f) h = vthen _ (C.expr d refl) (vlast _ (C.expr f refl) refl)
    complete_stmt (ReadsStmt.simple_line {ts = ts} d) h = complete_line ts (first_simple begins_word false (λ o. refl) (ty_arg_not_word names) d) (vlast _ (complete_simple_line names i n C A L d refl) refl)

    complete_body : {c : Place} {ts r : Text} {ss : List Stmt} (d : ReadsStmts names ts (at t.BraceClose c ∷ r) ss) → Is (s.stmts_of names i (s.stmt names i) ts) (deep_stmts names n d) ss (at t.BraceClose c ∷ r)
    unfolding deep_stmts
    complete_body {c = c} {r = r} (ReadsStmts.no_stmts) = last_turn _ _ (at t.BraceClose c ∷ r) B.body refl
    complete_body (ReadsStmts.stmts {ts = ts} d ds) = turn _ _ ts B.body (next_also (begins_stmt names) m.not_brace_close (stmt_not_close names) ts (first_stmt d)) (vlast _ (complete_stmt d (λ _. follows ds)) refl) (complete_body ds)

    pub complete_block : {ts r : Text} {ss : List Stmt} (d : ReadsBlock names ts r ss) → Is (s.block_of names i ts) (deep_block names n d) ss r
    unfolding deep_block s.block_of
    complete_block (ReadsBlock.body d) = vlast _ (complete_body d) refl
