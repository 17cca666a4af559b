-- The functions that open a level are sound, whatever number of levels is left: where none is, a text goes on from each token that begins one.
use Rattle.std.specs.Prelude.{◌≡◌, ℕ, zero, suc, Bool, true, false, ◌||◌, List, [], ◌∷◌, ◌++◌, Option, Some, None, refl, is_some, ◌⊎◌}
use Rattle.std.proofs.Common.{inl, inr}
use Rattle.scc_base.specs.declared.names.Name.{Name}
use Rattle.scc_base.specs.declared.refusal.Place.{Place}
use Rattle.scc_bits_kinds.specs.declared.op.Op.{Op}
use Rattle.scc_tree.specs.declared.expr.Expr.{Expr}
use Rattle.scc_tree.specs.declared.expr.ExprNode.TheVariants as node
use Rattle.scc_tree.specs.declared.expr.UnaryOp.{UnaryOp}
use Rattle.scc_tree.specs.declared.local.Hold.TheVariants as hold
use Rattle.scc_tree.specs.declared.simple.SimpleNode.TheVariants as act
use Rattle.scc_tree.specs.declared.stmt.ForFirst.TheVariants as first
use Rattle.scc_tree.specs.declared.stmt.Stmt.{Stmt}
use Rattle.scc_tree.specs.declared.stmt.StmtNode.TheVariants as s
use Rattle.scc_tree.specs.declared.ty.TyArg.TheVariants as arg
use Rattle.scc_tree.specs.declared.ty.TyNode.TheVariants as ty
use Rattle.scc_tree.specs.Node.{expr_of, stmt_of}
use Rattle.scc_reading.proofs.Answer.{Completes, Front, no_front, one_front, both_fronts, text}
use Rattle.scc_reading.proofs.Closed.{answers_closed}
use Rattle.scc_reading.proofs.Leaves.{leaves_closed}
use Rattle.scc_reading.proofs.Steps.{answers_seq, answers_pure_at}
use Rattle.scc_grammar_terminals.specs.declared.part.Bracketed.TheVariants.{AType, AnExpr}
use Rattle.scc_grammar_terminals.specs.declared.part.TypeRead.{TypeRead}
use Rattle.scc_grammar_terminals.specs.declared.terminal.Seen.{Seen}
use Rattle.scc_grammar_terminals.specs.declared.terminal.Terminal.{Terminal}
use Rattle.scc_grammar_terminals.specs.declared.terminal.Terminal.TheVariants as t
use Rattle.scc_grammar_terminals.specs.First.{BaseStart, kind_start, short_start, clock_start, module_name_start, integer_start, sized_start, holder_start, name_start, PrimaryStart, number_start, truth_start, this_start, null_start, cast_start, concat_start, value_start, base_start, begins_base, begins_type, primary_start, begins_operated, begins_expr, begins_ty_arg, begins_argument}
use Rattle.scc_grammar_terminals.specs.Marks as m
use Rattle.scc_grammar_terminals.specs.Names.{Names, is_type}
use Rattle.scc_grammar_terminals.specs.Nodes.{base_of, native, held, clock_of, truth_of}
use Rattle.scc_grammar_terminals.specs.StatementNodes.{decl_of, local_decl_of, local_of, simple_of, process_of, local_stmt, simple_stmt}
use Rattle.scc_grammar_terminals.specs.Operators.{unary_operator, sum, every}
use Rattle.scc_grammar_spec.specs.Expressions.{ReadsShort, ReadsInteger, ReadsBase, ReadsType, ReadsTyArg, ReadsChain, ReadsLinks, ReadsExpr, ReadsUnary, ReadsPrimary, ReadsExprs, ReadsParts, ReadsCargs, ReadsCarg, ReadsNew}
use Rattle.scc_grammar_spec.specs.Statements.{ReadsHold, ReadsSizes, ReadsDecl, ReadsValue, ReadsLocalDecl, ReadsMoreLocals, ReadsLocal, ReadsSimple, ReadsCondition, ReadsMaybe, ReadsForFirst, ReadsForStep, ReadsSignals, ReadsStmt, ReadsStmts, ReadsItems}
use Rattle.scc_grammar_spec.specs.ParseExpressions.{placed, number_type, word_type, named_type, constant_type}
use Rattle.scc_grammar_spec.specs.ParseStatements.{StmtStart, block_start, empty_start, if_start, switch_start, while_start, do_start, for_start, break_start, continue_start, return_start, wait_start, clocked_start, sensitive_start, quiet_start, process_start, reset_start, stmt_start, begins_word, step, begins_stmt, inner}
use Rattle.scc_grammar_terminals.specs.Text.{Text, at, next_is}
use Rattle.scc_grammar_sound.proofs.SoundMarks.{here, only_constant, only_paren_open, only_new_word}
use Rattle.scc_grammar_sound.proofs.SoundRules.{RBase, RType, RTyArg, RChain, RExpr, RUnary, RPlaced, RBracketed, RCarg, RStmt, Sound}
use Rattle.scc_grammar_sound.proofs.SoundTypes.{start_is, sound_type}
use Rattle.scc_grammar_sound.proofs.SoundExpressions.{primary_is, alone, sound_unary, sound_expr, sound_additive, sound_bracketed, sound_ty_arg, sound_argument}
use Rattle.scc_grammar_sound.proofs.SoundStatements.{word_is, step_is, sound_stmt}
use Rattle.scc_grammar_sound.proofs.SoundLeaves.{leaves_stmt}

pub or_cases : (a b : Bool) → (a || b) ≡ true → (a ≡ true) ⊎ (b ≡ true)
or_cases true b h = inl refl
or_cases false b h = inr h

-- tokens that complete a text
abbrev pub mark_here : Terminal → Seen
mark_here w = at w here

abbrev pub some_name : Name
some_name = record { 0 = 0 }

module _ (names : Names) where
  -- ---- the shortest texts

  pub chained : (k : ℕ) {q : Place} {ts r : Text} {x : Expr} → ReadsUnary names q ts r x → ReadsChain names k q ts r x
  chained zero d = ReadsChain.operand d
  chained (suc k) d = ReadsChain.chain (chained k d) ReadsLinks.no_links

  abbrev pub this_expr : Expr
  this_expr = expr_of here node.This

  this_unary : (y : Text) → ReadsUnary names here (mark_here t.This ∷ y) y this_expr
  this_unary y = ReadsUnary.postfix ReadsPrimary.this ReadsParts.no_parts

  pub this_is : (y : Text) → ReadsExpr names here (mark_here t.This ∷ y) y this_expr
  this_is y = ReadsExpr.binary (chained every (this_unary y))

  pub sum_is : (y : Text) → ReadsChain names sum here (mark_here t.This ∷ y) y this_expr
  sum_is y = chained sum (this_unary y)

  abbrev int_base : Place → TypeRead
  int_base q = number_type q (native 32 true)

  -- ---- a type from its first token

  pub base_from : (w : Terminal) (a : BaseStart) (q : Place) → base_start names w ≡ Some a → Completes (RBase names false) (one_front (at w q))
  base_from w (kind_start k) q h = record { by = no_front; tree = number_type q k; reads = λ y. (start_is names w (kind_start k) h q y, λ _. refl) }
  base_from w short_start q h = record { by = no_front; tree = number_type q (native 16 true); reads = λ y. rw (start_is names w short_start h) (ReadsBase.short ReadsShort.alone, λ _. refl) }
  base_from w (integer_start signed) q h = record { by = no_front; tree = number_type q (native 32 signed); reads = λ y. (start_is names w (integer_start signed) h q y y (native 32 signed) ReadsInteger.alone, λ _. refl) }
  base_from w (sized_start f) q h = record { by = text (mark_here t.Less ∷ mark_here t.This ∷ mark_here t.Greater ∷ []); tree = word_type q (base_of q (ty.Sized f this_expr)) false; reads = λ y. rw (start_is names w (sized_start f) h) (ReadsBase.sized (sum_is (mark_here t.Greater ∷ y)), λ _. refl) }
  base_from w (holder_start f) q h = record { by = text (mark_here t.Less ∷ mark_here t.Int ∷ mark_here t.Greater ∷ []); tree = word_type q (base_of q (held f (int_base here).ty)) false; reads = λ y. rw (start_is names w (holder_start f) h) (ReadsBase.holder (ReadsType.plain ReadsBase.int), λ _. refl) }
  base_from w clock_start q h = record { by = no_front; tree = word_type q (clock_of q) false; reads = λ y. rw (start_is names w clock_start h) (ReadsBase.clock_input, λ _. refl) }
  base_from w module_name_start q h = record { by = no_front; tree = word_type q (base_of q ty.ModuleName) false; reads = λ y. rw (start_is names w module_name_start h) (ReadsBase.module_name, λ _. refl) }
  base_from w (name_start x) q h = let k : (w ≡ t.Ident x) × (is_type names x ≡ true) = start_is names w (name_start x) h in
      record { by = no_front; tree = named_type q (base_of q (ty.Named x None)) false; reads = λ y. rw k.0 (ReadsBase.named k.1, λ _. refl) }

  begun_base : (w : Terminal) (o : Option BaseStart) (q : Place) → base_start names w ≡ o → is_some o ≡ true → Completes (RBase names false) (one_front (at w q))
  begun_base w (Some a) q h k = base_from w a q h
  begun_base w None q h k = cc

  pub begins_from : (w : Terminal) (q : Place) → begins_base names w ≡ true → Completes (RBase names false) (one_front (at w q))
  begins_from w q h = begun_base w (base_start names w) q refl h

  constant_from : (w : Terminal) (q : Place) → m.constant w ≡ true → Completes (RType names false) (one_front (at w q))
  constant_from w q h = record { by = text (mark_here t.Int ∷ []); tree = constant_type q (int_base here); reads = λ y. rw (only_constant w h) (ReadsType.constant ReadsBase.int, λ _. refl) }

  pub type_from : (w : Terminal) (q : Place) → begins_type names w ≡ true → Completes (RType names false) (one_front (at w q))
  type_from w q h = elim (or_cases (m.constant w) (begins_base names w) h) [
    | inl k ↦ constant_from w q k
    | inr k ↦ let c : Completes (RBase names false) (one_front (at w q)) = begins_from w q k in record { by = c.by; tree = c.tree; reads = λ y. (ReadsType.plain (c.reads y).0, (c.reads y).1) }
  ]

  -- ---- an expression from its first token

  from_base : (w : Terminal) (q : Place) → begins_base names w ≡ true → Completes (RPlaced names) (one_front (at w q))
  from_base w q h =
      let c : Completes (RBase names false) (one_front (at w q)) = begins_from w q h in
      record {
        by = both_fronts c.by (text (mark_here t.ParenOpen ∷ mark_here t.This ∷ mark_here t.ParenClose ∷ []));
        tree = placed c.tree.place (expr_of c.tree.place (node.Cast c.tree.ty this_expr));
        reads = λ y. ReadsUnary.postfix (ReadsPrimary.make (alone names c.tree _ _ (c.reads (mark_here t.ParenOpen ∷ mark_here t.This ∷ mark_here t.ParenClose ∷ y))) (this_is (mark_here t.ParenClose ∷ y))) ReadsParts.no_parts;
      }

  from_primary : (w : Terminal) (a : PrimaryStart) (q : Place) → primary_start names w ≡ Some a → Completes (RPlaced names) (one_front (at w q))
  from_primary w (number_start k v) q h = record { by = no_front; tree = placed q (expr_of q (node.Number k v)); reads = λ y. rw (primary_is names w (number_start k v) h) (ReadsUnary.postfix ReadsPrimary.number ReadsParts.no_parts) }
  from_primary w (truth_start b) q h = record { by = no_front; tree = placed q (truth_of q b); reads = λ y. rw (primary_is names w (truth_start b) h) (ReadsUnary.postfix ReadsPrimary.truth ReadsParts.no_parts) }
  from_primary w this_start q h = record { by = no_front; tree = placed q (expr_of q node.This); reads = λ y. rw (primary_is names w this_start h) (ReadsUnary.postfix ReadsPrimary.this ReadsParts.no_parts) }
  from_primary w null_start q h = record { by = no_front; tree = placed q (expr_of q node.Null); reads = λ y. rw (primary_is names w null_start h) (ReadsUnary.postfix ReadsPrimary.null ReadsParts.no_parts) }
  from_primary w cast_start q h = record {
    by = text (mark_here t.Less ∷ mark_here t.Int ∷ mark_here t.Greater ∷ mark_here t.ParenOpen ∷ mark_here t.This ∷ mark_here t.ParenClose ∷ []);
    tree = placed q (expr_of q (node.Cast (int_base here).ty this_expr));
    reads = λ y. rw (primary_is names w cast_start h) (ReadsUnary.postfix (ReadsPrimary.static_cast (ReadsType.plain ReadsBase.int) (this_is (mark_here t.ParenClose ∷ y))) ReadsParts.no_parts);
  }
  from_primary w concat_start q h = record {
    by = text (mark_here t.ParenOpen ∷ mark_here t.This ∷ mark_here t.Comma ∷ mark_here t.This ∷ mark_here t.ParenClose ∷ []);
    tree = placed q (expr_of q (node.Concat (this_expr ∷ this_expr ∷ [])));
    reads = λ y. rw (primary_is names w concat_start h) (ReadsUnary.postfix (ReadsPrimary.concat (this_is (mark_here t.Comma ∷ mark_here t.This ∷ mark_here t.ParenClose ∷ y)) (this_is (mark_here t.ParenClose ∷ y))) ReadsParts.no_parts);
  }
  from_primary w (value_start x) q h = let k : (w ≡ t.Ident x) × (is_type names x ≡ false) = primary_is names w (value_start x) h in
      record { by = no_front; tree = placed q (expr_of q (node.Ident x)); reads = λ y. rw k.0 (ReadsUnary.postfix (ReadsPrimary.name k.1) ReadsParts.no_parts) }

  begun_primary : (w : Terminal) (o : Option PrimaryStart) (q : Place) → primary_start names w ≡ o → is_some o ≡ true → Completes (RPlaced names) (one_front (at w q))
  begun_primary w (Some a) q h k = from_primary w a q h
  begun_primary w None q h k = cc

  begun_operated : (w : Terminal) (o : Option UnaryOp) (q : Place) → unary_operator w ≡ o → is_some o ≡ true → Completes (RPlaced names) (one_front (at w q))
  begun_operated w (Some o) q h k = record { by = text (mark_here t.This ∷ []); tree = placed q (expr_of q (node.Unary o this_expr)); reads = λ y. ReadsUnary.operated h (this_unary y) }
  begun_operated w None q h k = cc

  from_open : (w : Terminal) (q : Place) → m.paren_open w ≡ true → Completes (RPlaced names) (one_front (at w q))
  from_open w q h = record { by = text (mark_here t.This ∷ mark_here t.ParenClose ∷ []); tree = placed q this_expr; reads = λ y. rw (only_paren_open w h) (ReadsUnary.postfix (ReadsPrimary.brackets (this_is (mark_here t.ParenClose ∷ y)) ReadsExprs.no_exprs) ReadsParts.no_parts) }

  pub unary_from : (w : Terminal) (q : Place) → begins_expr names w ≡ true → Completes (RPlaced names) (one_front (at w q))
  unary_from w q h = elim (or_cases (begins_base names w || is_some (primary_start names w) || begins_operated w) (m.paren_open w) h) [
    | inl k ↦ elim (or_cases (begins_base names w || is_some (primary_start names w)) (begins_operated w) k) [
      | inl l ↦ elim (or_cases (begins_base names w) (is_some (primary_start names w)) l) [ inl o ↦ from_base w q o | inr o ↦ begun_primary w (primary_start names w) q refl o ]
      | inr l ↦ begun_operated w (unary_operator w) q refl l
    ]
    | inr k ↦ from_open w q k
  ]

  expr_from : (w : Terminal) (q : Place) → begins_expr names w ≡ true → Completes (RExpr names) (one_front (at w q))
  expr_from w q h = let c : Completes (RPlaced names) (one_front (at w q)) = unary_from w q h in record { by = c.by; tree = c.tree.of; reads = λ y. (c.tree.place, ReadsExpr.binary (chained every (c.reads y))) }

  sum_from : (w : Terminal) (q : Place) → begins_expr names w ≡ true → Completes (RChain names sum) (one_front (at w q))
  sum_from w q h = let c : Completes (RPlaced names) (one_front (at w q)) = unary_from w q h in record { by = c.by; tree = c.tree.of; reads = λ y. (c.tree.place, chained sum (c.reads y)) }

  operand_from : (w : Terminal) (q : Place) → begins_expr names w ≡ true → Completes (RUnary names) (one_front (at w q))
  operand_from w q h = let c : Completes (RPlaced names) (one_front (at w q)) = unary_from w q h in record { by = c.by; tree = c.tree.of; reads = λ y. (c.tree.place, c.reads y) }

  bracketed_from : (w : Terminal) (q : Place) → begins_ty_arg names w ≡ true → Completes (RBracketed names) (one_front (at w q))
  bracketed_from w q h = elim (or_cases (m.constant w) (begins_expr names w) h) [
    | inl k ↦ let c : Completes (RType names false) (one_front (at w q)) = constant_from w q k in record { by = c.by; tree = AType c.tree.ty; reads = λ y. (c.tree.sort, c.tree.place, rw ((c.reads y).1 refl) at (c.reads y).0) }
    | inr k ↦ let c : Completes (RExpr names) (one_front (at w q)) = expr_from w q k in record { by = c.by; tree = AnExpr c.tree; reads = c.reads }
  ]

  ty_arg_from : (w : Terminal) (q : Place) → begins_ty_arg names w ≡ true → Completes (RTyArg names) (one_front (at w q))
  ty_arg_from w q h = elim (or_cases (m.constant w) (begins_expr names w) h) [
    | inl k ↦ let c : Completes (RType names false) (one_front (at w q)) = constant_from w q k in record { by = c.by; tree = (arg.Named c.tree.ty, c.tree.both); reads = λ y. ReadsTyArg.type_arg (c.reads y).0 }
    | inr k ↦ let c : Completes (RChain names sum) (one_front (at w q)) = sum_from w q k in record { by = c.by; tree = (arg.Value c.tree, false); reads = λ y. ReadsTyArg.value_arg (c.reads y).1 }
  ]

  argument_from : (w : Terminal) (q : Place) → begins_argument names w ≡ true → Completes (RCarg names) (one_front (at w q))
  argument_from w q h = elim (or_cases (m.new_word w) (begins_expr names w) h) [
    | inl k ↦ record { by = text (mark_here t.Int ∷ mark_here t.ParenOpen ∷ mark_here t.ParenClose ∷ []); tree = expr_of q (node.Make (int_base here).ty []); reads = λ y. rw (only_new_word w k) (ReadsCarg.new_carg (ReadsNew.new ReadsBase.int ReadsCargs.no_cargs)) }
    | inr k ↦ let c : Completes (RExpr names) (one_front (at w q)) = expr_from w q k in record { by = c.by; tree = c.tree; reads = λ y. ReadsCarg.expr_carg (c.reads y).1 }
  ]

  -- ---- a statement from its first token

  abbrev test_text : List Seen
  test_text = mark_here t.ParenOpen ∷ mark_here t.This ∷ mark_here t.ParenClose ∷ []

  a_condition : (y : Text) → ReadsCondition names (test_text ++ y) y this_expr
  a_condition y = ReadsCondition.condition (this_is (mark_here t.ParenClose ∷ y))

  abbrev empty_stmt : Stmt
  empty_stmt = stmt_of here s.Empty

  from_word : (w : Terminal) (a : StmtStart) (q : Place) → stmt_start w ≡ Some a → Completes (RStmt names) (one_front (at w q))
  from_word w block_start q h = record { by = text (mark_here t.BraceClose ∷ []); tree = (stmt_of q (s.Block []), false); reads = λ y. rw (word_is w block_start h) (ReadsStmt.block ReadsStmts.no_stmts) }
  from_word w empty_start q h = record { by = no_front; tree = (stmt_of q s.Empty, false); reads = λ y. rw (word_is w empty_start h) ReadsStmt.empty }
  from_word w if_start q h = record { by = text (test_text ++ mark_here t.Semicolon ∷ []); tree = (stmt_of q (s.If this_expr empty_stmt None), true); reads = λ y. rw (word_is w if_start h) (ReadsStmt.if_only (a_condition (mark_here t.Semicolon ∷ y)) ReadsStmt.empty) }
  from_word w switch_start q h = record { by = text (test_text ++ mark_here t.BraceOpen ∷ mark_here t.BraceClose ∷ []); tree = (stmt_of q (s.Switch this_expr []), false); reads = λ y. rw (word_is w switch_start h) (ReadsStmt.switch (a_condition (mark_here t.BraceOpen ∷ mark_here t.BraceClose ∷ y)) ReadsItems.no_items) }
  from_word w while_start q h = record { by = text (test_text ++ mark_here t.Semicolon ∷ []); tree = (stmt_of q (s.While this_expr empty_stmt), false); reads = λ y. rw (word_is w while_start h) (ReadsStmt.while (a_condition (mark_here t.Semicolon ∷ y)) ReadsStmt.empty) }
  from_word w do_start q h = record { by = text (mark_here t.Semicolon ∷ mark_here t.While ∷ test_text ++ mark_here t.Semicolon ∷ []); tree = (stmt_of q (s.Do empty_stmt this_expr), false); reads = λ y. rw (word_is w do_start h) (ReadsStmt.do_while ReadsStmt.empty (a_condition (mark_here t.Semicolon ∷ y))) }
  from_word w for_start q h = record {
    by = text (mark_here t.ParenOpen ∷ mark_here t.Semicolon ∷ mark_here t.Semicolon ∷ mark_here t.ParenClose ∷ mark_here t.Semicolon ∷ []);
    tree = (stmt_of q (s.For first.Nothing None None empty_stmt), false);
    reads = λ y. rw (word_is w for_start h) (ReadsStmt.for ReadsForFirst.nothing_first ReadsMaybe.no_expr ReadsForStep.no_step ReadsStmt.empty);
  }
  from_word w break_start q h = record { by = text (mark_here t.Semicolon ∷ []); tree = (stmt_of q s.Break, false); reads = λ y. rw (word_is w break_start h) ReadsStmt.break }
  from_word w continue_start q h = record { by = text (mark_here t.Semicolon ∷ []); tree = (stmt_of q s.Continue, false); reads = λ y. rw (word_is w continue_start h) ReadsStmt.continue }
  from_word w return_start q h = record { by = text (mark_here t.Semicolon ∷ []); tree = (stmt_of q (s.Return None), false); reads = λ y. rw (word_is w return_start h) (ReadsStmt.return ReadsMaybe.no_expr) }
  from_word w wait_start q h = record { by = text (mark_here t.ParenOpen ∷ mark_here t.ParenClose ∷ mark_here t.Semicolon ∷ []); tree = (stmt_of q (s.Wait None), false); reads = λ y. rw (word_is w wait_start h) (ReadsStmt.wait ReadsMaybe.no_expr) }
  from_word w clocked_start q h = record {
    by = text (mark_here t.ParenOpen ∷ mark_here (t.Ident some_name) ∷ mark_here t.Comma ∷ mark_here t.This ∷ mark_here t.ParenClose ∷ mark_here t.Semicolon ∷ []);
    tree = (stmt_of q (s.ClockedThread some_name here this_expr), false);
    reads = λ y. rw (word_is w clocked_start h) (ReadsStmt.clocked_thread (this_is (mark_here t.ParenClose ∷ mark_here t.Semicolon ∷ y)));
  }
  from_word w sensitive_start q h = record { by = text (mark_here t.ShiftLeft ∷ mark_here t.This ∷ mark_here t.Semicolon ∷ []); tree = (stmt_of q (s.Sensitive (this_expr ∷ [])), false); reads = λ y. rw (word_is w sensitive_start h) (ReadsStmt.sensitive (sum_is (mark_here t.Semicolon ∷ y)) ReadsSignals.no_signals) }
  from_word w quiet_start q h = record { by = text (mark_here t.ParenOpen ∷ mark_here t.ParenClose ∷ mark_here t.Semicolon ∷ []); tree = (stmt_of q s.DontInitialize, false); reads = λ y. rw (word_is w quiet_start h) ReadsStmt.dont_initialize }
  from_word w (process_start thread) q h = record { by = text (mark_here t.ParenOpen ∷ mark_here (t.Ident some_name) ∷ mark_here t.ParenClose ∷ mark_here t.Semicolon ∷ []); tree = (process_of q thread some_name here, false); reads = λ y. rw (word_is w (process_start thread) h) ReadsStmt.process }
  from_word w (reset_start asynchronous) q h = record {
    by = text (mark_here t.ParenOpen ∷ mark_here t.This ∷ mark_here t.Comma ∷ mark_here t.This ∷ mark_here t.ParenClose ∷ mark_here t.Semicolon ∷ []);
    tree = (stmt_of q (s.ResetSignal this_expr this_expr asynchronous), false);
    reads = λ y. rw (word_is w (reset_start asynchronous) h) (ReadsStmt.reset (this_is (mark_here t.Comma ∷ mark_here t.This ∷ mark_here t.ParenClose ∷ mark_here t.Semicolon ∷ y)) (this_is (mark_here t.ParenClose ∷ mark_here t.Semicolon ∷ y)));
  }

  begun_word : (w : Terminal) (o : Option StmtStart) (q : Place) → stmt_start w ≡ o → is_some o ≡ true → Completes (RStmt names) (one_front (at w q))
  begun_word w (Some a) q h k = from_word w a q h
  begun_word w None q h k = cc

  begun_step : (w : Terminal) (o : Option Op) (q : Place) → step w ≡ o → is_some o ≡ true → Completes (RStmt names) (one_front (at w q))
  begun_step w (Some o) q h k = record { by = text (mark_here t.This ∷ mark_here t.Semicolon ∷ []); tree = (simple_stmt (simple_of q (act.Step this_expr o q)), false); reads = λ y. rw (step_is w o h) (ReadsStmt.simple_line (ReadsSimple.step_first (this_unary (mark_here t.Semicolon ∷ y)))) }
  begun_step w None q h k = cc

  local_from : (w : Terminal) (q : Place) → m.constant w ≡ true → Completes (RStmt names) (one_front (at w q))
  local_from w q h =
      let c : Completes (RType names false) (one_front (at w q)) = constant_from w q h in
      record {
        by = both_fronts c.by (text (mark_here (t.Ident some_name) ∷ mark_here t.Semicolon ∷ []));
        tree = (local_stmt (local_of c.tree.ty (local_decl_of (decl_of hold.Direct (some_name, here) []) None) []), false);
        reads = λ y. ReadsStmt.local_line (ReadsLocal.local (rw ((c.reads (mark_here (t.Ident some_name) ∷ mark_here t.Semicolon ∷ y)).1 refl) at (c.reads (mark_here (t.Ident some_name) ∷ mark_here t.Semicolon ∷ y)).0)
            (ReadsLocalDecl.local_decl (ReadsDecl.decl ReadsHold.direct ReadsSizes.no_sizes) ReadsValue.no_value) ReadsMoreLocals.no_more_locals);
      }

  assign_from : (w : Terminal) (q : Place) → begins_expr names w ≡ true → Completes (RStmt names) (one_front (at w q))
  assign_from w q h =
      let c : Completes (RPlaced names) (one_front (at w q)) = unary_from w q h in
      record {
        by = both_fronts c.by (text (mark_here t.Assign ∷ mark_here t.This ∷ mark_here t.Semicolon ∷ []));
        tree = (simple_stmt (simple_of c.tree.place (act.Assign c.tree.of None here this_expr)), false);
        reads = λ y. ReadsStmt.simple_line (ReadsSimple.assign (c.reads (mark_here t.Assign ∷ mark_here t.This ∷ mark_here t.Semicolon ∷ y)) refl (this_is (mark_here t.Semicolon ∷ y)));
      }

  stmt_from : (w : Terminal) (q : Place) → begins_stmt names w ≡ true → Completes (RStmt names) (one_front (at w q))
  stmt_from w q h = elim (or_cases (begins_word w || is_some (step w)) (begins_ty_arg names w) h) [
    | inl k ↦ elim (or_cases (begins_word w) (is_some (step w)) k) [ inl l ↦ begun_word w (stmt_start w) q refl l | inr l ↦ begun_step w (step w) q refl l ]
    | inr k ↦ elim (or_cases (m.constant w) (begins_expr names w) k) [ inl l ↦ local_from w q l | inr l ↦ assign_from w q l ]
  ]

  -- ---- every number of levels

  abbrev this_text : Front Seen
  this_text = text (mark_here t.This ∷ [])

  pub sound : (n : ℕ) → Sound names (inner names n)
  unfolding inner
  sound zero = record {
    expr = answers_closed (next_is (begins_expr names)) (RExpr names) (record { by = this_text; tree = this_expr; reads = λ y. (here, this_is y) }) (λ x. expr_from x.terminal x.place);
    additive = answers_closed (next_is (begins_expr names)) (RChain names sum) (record { by = this_text; tree = this_expr; reads = λ y. (here, sum_is y) }) (λ x. sum_from x.terminal x.place);
    ty = answers_closed (next_is (begins_type names)) (RType names true) (record { by = text (mark_here t.Int ∷ []); tree = int_base here; reads = λ y. (ReadsType.plain ReadsBase.int, λ k. refl) })
        (λ x h. let c : Completes (RType names false) (one_front x) = type_from x.terminal x.place h in record { by = c.by; tree = c.tree; reads = λ y. ((c.reads y).0, λ k. (c.reads y).1 refl) });
    ty_arg = answers_closed (next_is (begins_ty_arg names)) (RTyArg names) (record { by = this_text; tree = (arg.Value this_expr, false); reads = λ y. ReadsTyArg.value_arg (sum_is y) }) (λ x. ty_arg_from x.terminal x.place);
    bracketed = answers_closed (next_is (begins_ty_arg names)) (RBracketed names) (record { by = this_text; tree = AnExpr this_expr; reads = λ y. (here, this_is y) }) (λ x. bracketed_from x.terminal x.place);
    unary = answers_closed (next_is (begins_expr names)) (RUnary names) (record { by = this_text; tree = this_expr; reads = λ y. (here, this_unary y) }) (λ x. operand_from x.terminal x.place);
    argument = answers_closed (next_is (begins_argument names)) (RCarg names) (record { by = this_text; tree = this_expr; reads = λ y. ReadsCarg.expr_carg (this_is y) }) (λ x. argument_from x.terminal x.place);
    stmt = answers_closed (next_is (begins_stmt names)) (RStmt names) (record { by = text (mark_here t.Semicolon ∷ []); tree = (empty_stmt, false); reads = λ y. ReadsStmt.empty }) (λ x. stmt_from x.terminal x.place);
    stops = leaves_closed (next_is (begins_stmt names));
  }
  sound (suc n) =
      let S : Sound names (inner names n) = sound n in
      record {
        expr = sound_expr names (inner names n) S;
        additive = sound_additive names (inner names n) S;
        ty = sound_type names (inner names n) S true;
        ty_arg = sound_ty_arg names (inner names n) S;
        bracketed = sound_bracketed names (inner names n) S;
        unary = answers_seq (sound_unary names (inner names n) S) (λ u. answers_pure_at (λ y ts d. (u.place, d)));
        argument = sound_argument names (inner names n) S;
        stmt = sound_stmt names (inner names n) S;
        stops = leaves_stmt names (inner names n) S;
      }
