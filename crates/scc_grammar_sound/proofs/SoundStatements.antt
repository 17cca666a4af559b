-- What is read as a statement is one, each step can be completed, and none looks past the next token.
use Rattle.std.specs.Prelude.{◌≡◌, ℕ, Bool, true, false, List, ◌∷◌, Option, Some, None, refl}
use Rattle.std.proofs.Common.{lit≤, inl, inr}
use Rattle.scc_base.specs.declared.refusal.Place.{Place}
use Rattle.scc_bits_kinds.specs.declared.op.Op.{Op}
use Rattle.scc_bits_kinds.specs.declared.op.Op.TheVariants as op
use Rattle.scc_tree.specs.declared.expr.Expr.{Expr}
use Rattle.scc_tree.specs.declared.expr.ExprNode.TheVariants as node
use Rattle.scc_tree.specs.declared.local.Hold.{Hold}
use Rattle.scc_tree.specs.declared.local.LocalDecl.{LocalDecl}
use Rattle.scc_tree.specs.declared.simple.SimpleNode.TheVariants as act
use Rattle.scc_tree.specs.declared.simple.SimpleTree.{SimpleTree}
use Rattle.scc_tree.specs.declared.stmt.Stmt.{Stmt}
use Rattle.scc_tree.specs.declared.stmt.SwitchItem.{SwitchItem}
use Rattle.scc_tree.specs.declared.ty.Ty.{Ty}
use Rattle.scc_tree.specs.Node.{expr_of}
use Rattle.scc_reading.specs.Reading.{◌>>=◌, ◌>>◌, pure, is_next}
use Rattle.scc_reading.proofs.Answer.{Rule, Answers, Answer, no_front}
use Rattle.scc_reading.proofs.Behind.{RestOf, answers_seq_behind}
use Rattle.scc_reading.proofs.Core.{answers_by, answers_choose, answers_fail, answers_pure, answer_choose, answer_then}
use Rattle.scc_reading.proofs.Repeat.{answers_repeat}
use Rattle.scc_reading.proofs.Steps.{answers_less, answers_seq, answers_mark, answers_mark_at, answers_pure_at, answers_if}
use Rattle.scc_grammar_terminals.specs.declared.part.Bracketed.{Bracketed}
use Rattle.scc_grammar_terminals.specs.declared.part.Bracketed.TheVariants.{AType, AnExpr}
use Rattle.scc_grammar_terminals.specs.declared.part.Line.{Line}
use Rattle.scc_grammar_terminals.specs.declared.part.Line.TheVariants.{ALocal, ASimple}
use Rattle.scc_grammar_terminals.specs.declared.part.Sort.{Sort}
use Rattle.scc_grammar_terminals.specs.declared.part.TypeRead.{TypeRead}
use Rattle.scc_grammar_terminals.specs.declared.terminal.Seen.{Seen}
use Rattle.scc_grammar_terminals.specs.declared.terminal.Terminal.{Terminal}
use Rattle.scc_grammar_terminals.specs.declared.terminal.Terminal.TheVariants as t
use Rattle.scc_grammar_terminals.specs.Inner.{Inner}
use Rattle.scc_grammar_terminals.specs.Marks as m
use Rattle.scc_grammar_terminals.specs.Names.{Names}
use Rattle.scc_grammar_terminals.specs.Nodes.{parts_of}
use Rattle.scc_grammar_terminals.specs.StatementNodes.{simple_of}
use Rattle.scc_grammar_spec.specs.Expressions.{ReadsBase, ReadsType, ReadsUnary, ReadsPrimary}
use Rattle.scc_grammar_spec.specs.Statements.{assignment, ReadsHold, ReadsSizes, ReadsDecl, ReadsValue, ReadsLocalDecl, ReadsMoreLocals, ReadsLocal, ReadsSimple, ReadsCondition, ReadsMaybe, ReadsForFirst, ReadsForStep, ReadsSignals, ReadsStmt, ReadsStmts, ReadsItem, ReadsItems, ReadsBlock}
use Rattle.scc_grammar_spec.specs.ParseExpressions.{is_constant}
use Rattle.scc_grammar_spec.specs.ParseStatements as p
use Rattle.scc_grammar_spec.specs.ParseStatements.{StmtStart, block_start, empty_start, if_start, switch_start, while_start, do_start, for_start, break_start, continue_start, return_start, wait_start, clocked_start, sensitive_start, quiet_start, process_start, reset_start, stmt_start, step}
use Rattle.scc_grammar_terminals.specs.Text.{Text, Parser, at, mark, next_is}
use Rattle.scc_grammar_sound.proofs.SoundMarks.{some_is, mark_assign, mark_comma, mark_colon, mark_semicolon, mark_paren_open, mark_paren_close, mark_bracket_open, mark_bracket_close, mark_brace_open, mark_brace_close, mark_star_mark, mark_and_mark, mark_else_word, mark_while_word, mark_case_word, mark_default_word, mark_shift_left, answers_pick, answers_name}
use Rattle.scc_grammar_sound.proofs.SoundRules.{RBracketed, RStmt, NoElse, Sound}
use Rattle.scc_grammar_sound.proofs.SoundTypes.{sound_base, sound_type}
use Rattle.scc_grammar_sound.proofs.SoundExpressions.{RRight, alone, alone_type, without_const, sound_plain, sound_parts, sound_after_base, sound_after_brackets, sound_unary, sound_expr, sound_additive, sound_right}

-- the token of each beginning
abbrev pub word : StmtStart → Terminal
word block_start = t.BraceOpen
word empty_start = t.Semicolon
word if_start = t.If
word switch_start = t.Switch
word while_start = t.While
word do_start = t.Do
word for_start = t.For
word break_start = t.Break
word continue_start = t.Continue
word return_start = t.Return
word wait_start = t.Wait
word clocked_start = t.ClockedThread
word sensitive_start = t.Sensitive
word quiet_start = t.DontInitialize
word (process_start thread) = t.Process thread
word (reset_start asynchronous) = t.Reset asynchronous

word_said : (w : Terminal) {a b : StmtStart} → Some a ≡ Some b → w ≡ word a → w ≡ word b
word_said w {a} {b} h d = let same : a ≡ b = some_is a b h in rw same at d

pub word_is : (w : Terminal) (a : StmtStart) → stmt_start w ≡ Some a → w ≡ word a
word_is t.BraceOpen a h = word_said t.BraceOpen h refl
word_is t.Semicolon a h = word_said t.Semicolon h refl
word_is t.If a h = word_said t.If h refl
word_is t.Switch a h = word_said t.Switch h refl
word_is t.While a h = word_said t.While h refl
word_is t.Do a h = word_said t.Do h refl
word_is t.For a h = word_said t.For h refl
word_is t.Break a h = word_said t.Break h refl
word_is t.Continue a h = word_said t.Continue h refl
word_is t.Return a h = word_said t.Return h refl
word_is t.Wait a h = word_said t.Wait h refl
word_is t.ClockedThread a h = word_said t.ClockedThread h refl
word_is t.Sensitive a h = word_said t.Sensitive h refl
word_is t.DontInitialize a h = word_said t.DontInitialize h refl
word_is (t.Process b) a h = word_said (t.Process b) h refl
word_is (t.Reset b) a h = word_said (t.Reset b) h refl
word_is _ a h = cc

step_said : (w : Terminal) {a b : Op} → Some a ≡ Some b → w ≡ t.Step a → w ≡ t.Step b
step_said w {a} {b} h d = let same : a ≡ b = some_is a b h in rw same at d

pub step_is : (w : Terminal) (o : Op) → step w ≡ Some o → w ≡ t.Step o
step_is (t.Step k) o h = step_said (t.Step k) h refl
step_is _ o h = cc

pub sound_hold : Answers 0 (λ x ts r. ReadsHold ts r x) p.hold_at
unfolding p.hold_at
sound_hold = answers_choose 0 _ _ _ _ (answers_less (lit≤ tt) (answers_mark mark_star_mark (answers_pure_at (λ y q. ReadsHold.pointer))))
    (answers_choose 0 _ _ _ _ (answers_less (lit≤ tt) (answers_mark mark_and_mark (answers_pure_at (λ y q. ReadsHold.reference)))) (answers_pure_at (λ y. ReadsHold.direct)))

module _ (names : Names) (i : Inner) (S : Sound names i) where
  -- ---- declared names

  abbrev pub ROneSize : Rule Seen Expr
  ROneSize = λ x ts mid. (r : Text) (rest : List Expr) → ReadsSizes names mid r rest → ReadsSizes names ts r (x ∷ rest)

  pub sound_one_size : Answers 1 ROneSize (p.one_size names i)
  sound_one_size = answers_mark mark_bracket_open (answers_seq S.expr (λ of. answers_mark mark_bracket_close (answers_pure_at (λ y c ts d q r rest k. ReadsSizes.sizes d.1 k))))

  pub sound_sizes : Answers 0 (λ x ts r. ReadsSizes names ts r x) (p.sizes names i)
  unfolding p.sizes
  sound_sizes = answers_repeat (next_is m.bracket_open) (p.one_size names i) 0 ROneSize sound_one_size (λ x ts r. ReadsSizes names ts r x) (λ y. ReadsSizes.no_sizes) (λ a more ts mid r d k. d r more k)

  pub sound_decl_after : (h : Hold) → Answers 1 (λ x mid r. (ts : Text) → ReadsHold ts mid h → ReadsDecl names ts r x) (p.decl_after names i h)
  unfolding p.decl_after
  sound_decl_after h = answers_name (λ x. answers_seq sound_sizes (λ of. answers_pure_at (λ y us e ts d. ReadsDecl.decl d e)))

  pub sound_decl : Answers 0 (λ x ts r. ReadsDecl names ts r x) (p.decl names i)
  unfolding p.decl
  sound_decl = answers_seq sound_hold (λ h. answers_by _ _ (λ x mid r d ts e. d ts e) (sound_decl_after h))

  pub sound_condition : Answers 1 (λ x ts r. ReadsCondition names ts r x) (p.condition names i)
  unfolding p.condition
  sound_condition = answers_mark mark_paren_open (answers_seq S.expr (λ of. answers_mark mark_paren_close (answers_pure_at (λ y c ts d q. ReadsCondition.condition d.1))))

  in_brackets : {ts r : Text} (x : Expr) → ReadsCondition names ts r x → ReadsValue names ts r (Some x)
  in_brackets x (ReadsCondition.condition d) = ReadsValue.value_in_brackets d

  pub sound_value : Answers 0 (λ x ts r. ReadsValue names ts r x) (p.value names i)
  unfolding p.value
  sound_value = answers_choose 0 _ _ _ _ (answers_less (lit≤ tt) (answers_mark mark_assign (answers_seq (sound_expr names i S) (λ of. answers_pure_at (λ y ts d q. ReadsValue.value d.1)))))
      (answers_choose 0 _ _ _ _ (answers_less (lit≤ tt) (answers_seq sound_condition (λ of. answers_pure_at (λ y ts d. in_brackets of d)))) (answers_pure_at (λ y. ReadsValue.no_value)))

  pub sound_local_decl : Answers 0 (λ x ts r. ReadsLocalDecl names ts r x) (p.local_decl names i)
  unfolding p.local_decl
  sound_local_decl = answers_seq sound_decl (λ d. answers_seq sound_value (λ v. answers_pure_at (λ y us e ts k. ReadsLocalDecl.local_decl k e)))

  abbrev pub ROneLocal : Rule Seen LocalDecl
  ROneLocal = λ x ts mid. (r : Text) (rest : List LocalDecl) → ReadsMoreLocals names mid r rest → ReadsMoreLocals names ts r (x ∷ rest)

  pub sound_one_local : Answers 1 ROneLocal (p.one_local names i)
  sound_one_local = answers_mark mark_comma (answers_by _ _ (λ x ts mid d c r rest k. ReadsMoreLocals.more_locals d k) sound_local_decl)

  sound_more_locals : Answers 0 (λ x ts r. ReadsMoreLocals names ts r x) (p.more_locals names i)
  unfolding p.more_locals
  sound_more_locals = answers_repeat (next_is m.comma) (p.one_local names i) 0 ROneLocal sound_one_local (λ x ts r. ReadsMoreLocals names ts r x) (λ y. ReadsMoreLocals.no_more_locals) (λ a more ts mid r d k. d r more k)

  pub sound_local_after : (of : Ty) → Answers 0 (λ x mid r. (k : Sort) (q : Place) (ts : Text) → ReadsType names k false q ts mid of → ReadsLocal names ts r x) (p.local_after names i of)
  unfolding p.local_after
  sound_local_after of = answers_seq sound_local_decl (λ d. answers_seq sound_more_locals (λ more. answers_pure_at (λ y us e ms d k q ts g. ReadsLocal.local g d e)))

  -- ---- assignments, steps and calls

  abbrev pub AfterLeft : Place → Expr → Rule Seen SimpleTree
  AfterLeft q left = λ x mid r. (ts : Text) → ReadsUnary names q ts mid left → ReadsSimple names ts r x

  to_assign : (q : Place) (left : Expr) (o : Option Op × Place) (right : Expr) (us r : Text) → RRight names i S right us r → (w : Terminal) → assignment w ≡ Some o.0
      → (ts : Text) → ReadsUnary names q ts (at w o.1 ∷ us) left → ReadsSimple names ts r (simple_of q (act.Assign left o.0 o.1 right))
  to_assign q left o right us r d w h ts k = elim d [ inl e ↦ ReadsSimple.assign_new k h e.1 | inr e ↦ ReadsSimple.assign k h e.1 ]

  pub sound_assigned : (q : Place) (left : Expr) → Answers 1 (AfterLeft q left) (p.assigned names i q left)
  unfolding p.assigned
  sound_assigned q left = answers_pick t.Assign None refl (λ o. answers_seq (sound_right names i S) (λ right. answers_pure_at (λ y us d w h ts k. to_assign q left o right us y d w h ts k)))

  pub sound_stepped : (q : Place) (left : Expr) → Answers 1 (AfterLeft q left) (p.stepped names i q left)
  unfolding p.stepped
  sound_stepped q left = answers_pick (t.Step op.Add) op.Add refl (λ o. answers_pure_at (λ y w h ts k. ReadsSimple.step_last (rw (step_is w o.0 h) at k)))

  -- behind a unary, which ends with a call where the flag says so
  abbrev pub Simply : Place → Expr → Bool → Rule Seen SimpleTree
  Simply q left called = λ x mid r. (ts : Text) → ReadsUnary names q ts mid left → (called ≡ true → ReadsSimple names ts mid (simple_of q (act.Call left))) → ReadsSimple names ts r x

  pub sound_simple_by : (q : Place) (left : Expr) (called : Bool) → Answers 0 (Simply q left called) (p.simple_by names i q left called)
  unfolding p.simple_by
  sound_simple_by q left called =
      let stepped : Answers 0 (Simply q left called) (p.stepped names i q left) = answers_less (lit≤ tt) (answers_by _ _ (λ x mid r d ts k l. d ts k) (sound_stepped q left)) in
      answers_choose 0 _ _ _ _ (answers_less (lit≤ tt) (answers_by _ _ (λ x mid r d ts k l. d ts k) (sound_assigned q left))) (answers_choose 0 _ _ _ _ stepped
      (answers_if called (λ e. answers_pure_at (λ y ts k l. l e)) (λ e. answers_fail 0 _ stepped.some)))

  abbrev pub SimpleAfter : Place → Expr → Rule Seen SimpleTree
  SimpleAfter q of = λ x mid r. (ts : Text) → ReadsPrimary names q ts mid of → ReadsSimple names ts r x

  pub sound_simple_after : (q : Place) (of : Expr) → Answers 0 (SimpleAfter q of) (p.simple_after names i q of)
  unfolding p.simple_after
  sound_simple_after q of = answers_seq (sound_parts names i S) (λ ps. answers_by _ _ (λ x mid r d us e ts k. d ts (ReadsUnary.postfix k e) (λ h. ReadsSimple.call k (rw h at e))) (sound_simple_by q (parts_of q of ps.0) ps.1))

  not_called : {P : Type 0} → false ≡ true → P
  not_called h = cc

  pub sound_simple_open : (q : Place) (found : Bracketed) → Answers 0 (λ x mid r. (ts : Text) → RBracketed names found ts mid → ReadsSimple names (at t.ParenOpen q ∷ ts) r x) (p.simple_open names i q found)
  unfolding p.simple_open
  sound_simple_open q (AType to) = answers_less (lit≤ tt) (answers_mark mark_paren_close (answers_seq S.unary (λ of. answers_by _ _ (λ x mid r d us e c ts k. d (at t.ParenOpen q ∷ ts) (ReadsUnary.cast k.2 e.1) (λ h. not_called h)) (sound_simple_by q (expr_of q (node.Cast to of)) false))))
  sound_simple_open q (AnExpr of) = answers_less (lit≤ tt) (answers_seq (sound_after_brackets names i S q of) (λ whole. answers_by _ _ (λ x mid r d us e ts k. d (at t.ParenOpen q ∷ ts) (e k.0 ts k.1)) (sound_simple_after q whole)))

  abbrev pub RSimple : Rule Seen SimpleTree
  RSimple = λ x ts r. ReadsSimple names ts r x

  pub sound_simple : Answers 1 RSimple (p.simple names i)
  unfolding p.simple
  sound_simple = answers_choose 1 _ _ _ _ (answers_pick (t.Step op.Add) op.Add refl (λ o. answers_seq (sound_unary names i S) (λ u. answers_pure_at (λ y us d w h. rw (step_is w o.0 h) (ReadsSimple.step_first d)))))
      (answers_choose 1 _ _ _ _ (answers_seq (sound_unary names i S) (λ u. answers_by _ _ (λ x mid r d ts e. d ts e (λ h. not_called h)) (sound_simple_by u.place u.of false)))
      (answers_choose 1 _ _ _ _ (answers_mark_at mark_paren_open (λ q. answers_seq S.bracketed (λ found. answers_by _ _ (λ x mid r d ts e. d ts e) (sound_simple_open q found))))
      (answers_seq (sound_plain names i S) (λ u. answers_by _ _ (λ x mid r d ts e. d ts e) (sound_simple_after u.place u.of)))))

  pub sound_simple_of_type : (b : TypeRead) → Answers 1 (λ x mid r. (ts : Text) → ReadsBase names b.sort false b.place ts mid b.ty → ReadsSimple names ts r x) (p.simple_of_type names i b)
  unfolding p.simple_of_type
  sound_simple_of_type b = answers_seq (sound_after_base names i S b) (λ of. answers_by _ _ (λ x mid r d us e ts k. d ts (e ts k)) (sound_simple_after b.place of))

  pub sound_any_simple : Answers 1 RSimple (p.any_simple names i)
  unfolding p.any_simple
  sound_any_simple = answers_choose 1 _ _ _ _ (answers_seq (sound_base names i S false) (λ b. answers_by _ _ (λ x mid r d ts e. d ts (alone names b ts mid e)) (sound_simple_of_type b))) sound_simple

  abbrev pub RLine : Rule Seen Line
  RLine (ALocal of) ts r = ReadsLocal names ts r of
  RLine (ASimple of) ts r = ReadsSimple names ts r of

  abbrev OfType : TypeRead → Rule Seen Line
  OfType b = λ x mid r. (ts : Text) → ReadsType names b.sort false b.place ts mid b.ty → RLine x ts r

  sound_local_of_type : (b : TypeRead) → Answers 0 (OfType b) (p.local_of_type names i b)
  unfolding p.local_of_type
  sound_local_of_type b = answers_seq (sound_local_after b.ty) (λ of. answers_pure_at (λ y us d ts k. d b.sort b.place ts k))

  sound_first_after : (b : TypeRead) → Answers 0 (OfType b) (p.first_after names i b)
  unfolding p.first_after
  sound_first_after b = answers_if (is_constant b.sort) (λ h. sound_local_of_type b)
      (λ h. answers_choose 0 _ _ _ _ (answers_less (lit≤ tt) (answers_seq (sound_simple_of_type b) (λ of. answers_pure_at (λ y us d ts k. d ts (without_const names h k))))) (sound_local_of_type b))

  pub sound_local_or_simple : Answers 1 RLine (p.local_or_simple names i)
  unfolding p.local_or_simple
  sound_local_or_simple = answers_choose 1 _ _ _ _ (answers_seq (sound_type names i S false) (λ b. answers_by _ _ (λ x mid r d ts e. d ts (alone_type names b ts mid e)) (sound_first_after b)))
      (answers_seq sound_simple (λ of. answers_pure_at (λ y ts d. d)))

  -- ---- parts of statements

  of_line : (x : Line) (ts r : Text) (c : Place) → RLine x ts (at t.Semicolon c ∷ r) → RStmt names (p.line_of names i x) ts r
  of_line (ALocal of) ts r c d = ReadsStmt.local_line d
  of_line (ASimple of) ts r c d = ReadsStmt.simple_line d

  of_first : (x : Line) (ts r : Text) → RLine x ts r → ReadsForFirst names ts r (p.first_of names i x)
  of_first (ALocal of) ts r d = ReadsForFirst.local_first d
  of_first (ASimple of) ts r d = ReadsForFirst.simple_first d

  pub sound_line : Answers 1 (RStmt names) (p.line names i)
  unfolding p.line
  sound_line = answers_seq sound_local_or_simple (λ of. answers_mark mark_semicolon (answers_pure_at (λ y c ts d. of_line of ts y c d)))

  pub sound_within : (ends : Terminal → Bool) → Answers 0 (λ x ts r. ReadsMaybe names ts r x) (p.within names i ends)
  unfolding p.within
  sound_within ends = answers_choose 0 _ _ _ _ (answers_pure_at (λ y. ReadsMaybe.no_expr)) (answers_less (lit≤ tt) (answers_seq S.expr (λ of. answers_pure_at (λ y ts d. ReadsMaybe.an_expr d.1))))

  pub sound_returned : Answers 0 (λ x ts r. ReadsMaybe names ts r x) (p.returned names i)
  unfolding p.returned
  sound_returned = answers_choose 0 _ _ _ _ (answers_pure_at (λ y. ReadsMaybe.no_expr)) (answers_less (lit≤ tt) (answers_seq (sound_expr names i S) (λ of. answers_pure_at (λ y ts d. ReadsMaybe.an_expr d.1))))

  pub sound_for_first : Answers 0 (λ x ts r. ReadsForFirst names ts r x) (p.for_first names i)
  unfolding p.for_first
  sound_for_first = answers_choose 0 _ _ _ _ (answers_pure_at (λ y. ReadsForFirst.nothing_first)) (answers_less (lit≤ tt) (answers_seq sound_local_or_simple (λ of. answers_pure_at (λ y ts d. of_first of ts y d))))

  pub sound_for_step : Answers 0 (λ x ts r. ReadsForStep names ts r x) (p.for_step names i)
  unfolding p.for_step
  sound_for_step = answers_choose 0 _ _ _ _ (answers_pure_at (λ y. ReadsForStep.no_step)) (answers_less (lit≤ tt) (answers_seq sound_any_simple (λ of. answers_pure_at (λ y ts d. ReadsForStep.a_step d))))

  abbrev pub ROneSignal : Rule Seen Expr
  ROneSignal = λ x ts mid. (r : Text) (rest : List Expr) → ReadsSignals names mid r rest → ReadsSignals names ts r (x ∷ rest)

  pub sound_one_signal : Answers 1 ROneSignal (p.one_signal names i)
  sound_one_signal = answers_mark mark_shift_left (answers_by _ _ (λ x ts mid d c r rest k. ReadsSignals.signals d.1 k) (sound_additive names i S))

  sound_more_signals : Answers 0 (λ x ts r. ReadsSignals names ts r x) (p.more_signals names i)
  unfolding p.more_signals
  sound_more_signals = answers_repeat (next_is m.shift_left) (p.one_signal names i) 0 ROneSignal sound_one_signal (λ x ts r. ReadsSignals names ts r x) (λ y. ReadsSignals.no_signals) (λ a more ts mid r d k. d r more k)

  -- behind the word of a statement
  abbrev Behind : Terminal → Place → Rule Seen (Stmt × Bool)
  Behind w q = λ x mid r. RStmt names x (at w q ∷ mid) r

  sound_while : (q : Place) → Answers 1 (Behind t.While q) (p.while_rest names i q)
  unfolding p.while_rest
  sound_while q = answers_seq sound_condition (λ of. answers_seq S.stmt (λ body. answers_pure_at (λ y us d ts k. ReadsStmt.while k d)))

  sound_do : (q : Place) → Answers 1 (Behind t.Do q) (p.do_rest names i q)
  unfolding p.do_rest
  sound_do q = answers_seq S.stmt (λ body. answers_mark mark_while_word (answers_seq sound_condition (λ of. answers_mark mark_semicolon (answers_pure_at (λ y c us d w ts k. ReadsStmt.do_while k d)))))

  sound_for : (q : Place) → Answers 1 (Behind t.For q) (p.for_rest names i q)
  unfolding p.for_rest p.for_body
  sound_for q = answers_mark mark_paren_open (answers_seq sound_for_first (λ of. answers_mark mark_semicolon (answers_seq (sound_within m.semicolon) (λ condition. answers_mark mark_semicolon (answers_seq sound_for_step (λ last. answers_mark mark_paren_close
      (answers_seq S.stmt (λ body. answers_pure_at (λ y ms b e ks k d us f c ts g o. ReadsStmt.for g f k b)))))))))

  abbrev pub RItem : Rule Seen SwitchItem
  RItem = λ x ts mid. (r : Text) (rest : List SwitchItem) → ReadsItems names mid r rest → ReadsItems names ts r (x ∷ rest)

  pub sound_switch_item : Answers 1 RItem (p.switch_item names i)
  unfolding p.switch_item
  sound_switch_item = answers_choose 1 _ _ _ _ (answers_mark_at mark_case_word (λ q. answers_seq (sound_expr names i S) (λ of. answers_mark mark_colon (answers_pure_at (λ y c ts d r rest k. ReadsItems.items (ReadsItem.case d.1) k)))))
      (answers_choose 1 _ _ _ _ (answers_mark_at mark_default_word (λ q. answers_mark mark_colon (answers_pure_at (λ y c r rest k. ReadsItems.items ReadsItem.default k))))
      (answers_seq S.stmt (λ of. answers_pure_at (λ y ts d r rest k. ReadsItems.items (ReadsItem.stmt_item d) k))))

  sound_switch_items : Answers 0 (λ x ts r. ReadsItems names ts r x) (p.switch_items names i)
  unfolding p.switch_items
  sound_switch_items = answers_repeat (next_is m.not_brace_close) (p.switch_item names i) 0 RItem sound_switch_item (λ x ts r. ReadsItems names ts r x) (λ y. ReadsItems.no_items) (λ a more ts mid r d k. d r more k)

  sound_switch : (q : Place) → Answers 1 (Behind t.Switch q) (p.switch_rest names i q)
  unfolding p.switch_rest
  sound_switch q = answers_seq sound_condition (λ of. answers_mark mark_brace_open (answers_seq sound_switch_items (λ items. answers_mark mark_brace_close (answers_pure_at (λ y c us d o ts k. ReadsStmt.switch k d)))))

  sound_return : (q : Place) → Answers 0 (Behind t.Return q) (p.return_rest names i q)
  unfolding p.return_rest
  sound_return q = answers_seq sound_returned (λ of. answers_mark mark_semicolon (answers_pure_at (λ y c ts d. ReadsStmt.return d)))

  sound_wait : (q : Place) → Answers 1 (Behind t.Wait q) (p.wait_rest names i q)
  unfolding p.wait_rest
  sound_wait q = answers_mark mark_paren_open (answers_seq (sound_within m.paren_close) (λ of. answers_mark mark_paren_close (answers_mark mark_semicolon (answers_pure_at (λ y d c ts k o. ReadsStmt.wait k)))))

  sound_process : (thread : Bool) (q : Place) → Answers 1 (Behind (t.Process thread) q) (p.process_rest names i thread q)
  unfolding p.process_rest
  sound_process thread q = answers_mark mark_paren_open (answers_name (λ x. answers_mark mark_paren_close (answers_mark mark_semicolon (answers_pure_at (λ y d c o. ReadsStmt.process)))))

  sound_clocked : (q : Place) → Answers 1 (Behind t.ClockedThread q) (p.clocked_rest names i q)
  unfolding p.clocked_rest
  sound_clocked q = answers_mark mark_paren_open (answers_name (λ x. answers_mark mark_comma (answers_seq S.expr (λ edge. answers_mark mark_paren_close (answers_mark mark_semicolon (answers_pure_at (λ y d c ts e k o. ReadsStmt.clocked_thread e.1)))))))

  sound_sensitive : (q : Place) → Answers 1 (Behind t.Sensitive q) (p.sensitive_rest names i q)
  unfolding p.sensitive_rest
  sound_sensitive q = answers_mark mark_shift_left (answers_seq (sound_additive names i S) (λ of. answers_seq sound_more_signals (λ more. answers_mark mark_semicolon (answers_pure_at (λ y c us d ts e o. ReadsStmt.sensitive e.1 d)))))

  sound_quiet : (q : Place) → Answers 1 (Behind t.DontInitialize q) (p.quiet_rest names i q)
  unfolding p.quiet_rest
  sound_quiet q = answers_mark mark_paren_open (answers_mark mark_paren_close (answers_mark mark_semicolon (answers_pure_at (λ y d c o. ReadsStmt.dont_initialize))))

  sound_reset : (asynchronous : Bool) (q : Place) → Answers 1 (Behind (t.Reset asynchronous) q) (p.reset_rest names i asynchronous q)
  unfolding p.reset_rest
  sound_reset asynchronous q = answers_mark mark_paren_open (answers_seq S.expr (λ signal. answers_mark mark_comma (answers_seq S.expr (λ level. answers_mark mark_paren_close (answers_mark mark_semicolon (answers_pure_at (λ y d c us e k ts f o. ReadsStmt.reset f.1 e.1)))))))

  -- ---- `if`

  -- behind the test of an `if`
  abbrev Tested : Place → Expr → Rule Seen (Stmt × Bool)
  Tested q of = RestOf (λ x ts r. ReadsCondition names ts r x) (Behind t.If q) of

  abbrev OtherOf : Place → Expr → Stmt × Bool → Rule Seen (Option (Stmt × Bool))
  OtherOf q of first = λ second mid r. (us : Text) → RStmt names first us mid → Tested q of (p.if_of q of first second) us r

  -- an `else` that comes next finds no `if` to which it belongs
  closed_before : (flag next : Bool) → (flag ≡ true → next ≡ false) → next ≡ true → flag ≡ false
  closed_before false next h k = refl
  closed_before true next h k = let same : next ≡ false = h refl in cc

  answer_other : (q : Place) (of : Expr) (first : Stmt × Bool) (r : Text) → NoElse names first r → Answer 0 (OtherOf q of first) (p.other names i) r (p.other names i r)
  unfolding p.other
  answer_other q of first r h = answer_choose 0 (next_is m.else_word) (OtherOf q of first) (mark m.else_word >> (i.stmt >>= λ x. pure (Some x))) (pure None) r
      (λ k. let closed : first.1 ≡ false = closed_before first.1 (is_next (next_is m.else_word) r) h k in
      (answers_less {n = 1} (lit≤ tt) (answers_mark mark_else_word (answers_seq S.stmt (λ x. answers_pure_at (λ y ts d c us df vs dt. ReadsStmt.if_else dt (rw closed at df) d))))).at r)
      (λ k. (answers_pure (OtherOf q of first) None (λ y us df ts dt. ReadsStmt.if_only dt df)).at r)

  if_after : Place → Expr → Stmt × Bool → Parser (Stmt × Bool)
  if_after q of first = p.other names i >>= λ second. pure (p.if_of q of first second)

  answer_if_after : (q : Place) (of : Expr) (first : Stmt × Bool) (r : Text) → NoElse names first r → Answer 0 (RestOf (RStmt names) (Tested q of) first) (if_after q of first) r (if_after q of first r)
  unfolding if_after
  answer_if_after q of first r h = answer_then 0 0 (OtherOf q of first) (λ second b mid r. (us : Text) → OtherOf q of first second us mid → RestOf (RStmt names) (Tested q of) first b us r) (RestOf (RStmt names) (Tested q of) first) (p.other names i) (λ second. pure (p.if_of q of first second))
      (λ a b ts mid r d s. s ts d)
      (λ second. record { by = no_front; tree = p.if_of q of first second; reads = λ y us d. d }) r (answer_other q of first r h)
      (λ second u k. (answers_pure _ (p.if_of q of first second) (λ y us d. d)).at u)

  sound_if_tested : (q : Place) (of : Expr) → Answers 1 (Tested q of) (i.stmt >>= if_after q of)
  sound_if_tested q of = answers_seq_behind (if_after q of) S.stmt S.stops
      (λ first. record { by = no_front; tree = p.if_of q of first None; reads = λ y us df ts dt. ReadsStmt.if_only dt df })
      (λ first r h. answer_if_after q of first r h)

  sound_if : (q : Place) → Answers 1 (Behind t.If q) (p.if_rest names i q)
  unfolding p.if_rest if_after
  sound_if q = answers_seq sound_condition (λ of. sound_if_tested q of)

  -- ---- statements

  abbrev pub RItemOf : Rule Seen Stmt
  RItemOf = λ x ts mid. (r : Text) (rest : List Stmt) → ReadsStmts names mid r rest → ReadsStmts names ts r (x ∷ rest)

  pub sound_item : (one : Parser (Stmt × Bool)) → Answers 1 (RStmt names) one → Answers 1 RItemOf (p.item_of_stmt names i one)
  sound_item one h = answers_seq h (λ x. answers_pure_at (λ y ts d r rest k. ReadsStmts.stmts d k))

  pub sound_stmts : (one : Parser (Stmt × Bool)) → Answers 1 (RStmt names) one → Answers 0 (λ x ts r. ReadsStmts names ts r x) (p.stmts_of names i one)
  sound_stmts one h = answers_repeat (next_is m.not_brace_close) (p.item_of_stmt names i one) 0 RItemOf (sound_item one h) (λ x ts r. ReadsStmts names ts r x) (λ y. ReadsStmts.no_stmts) (λ a more ts mid r d k. d r more k)

  sound_block : (q : Place) → Answers 0 (Behind t.BraceOpen q) (p.block_rest names i q)
  unfolding p.block_rest
  sound_block q = answers_seq (sound_stmts i.stmt S.stmt) (λ body. answers_mark mark_brace_close (answers_pure_at (λ y c ts d. ReadsStmt.block d)))

  by_word : {a : StmtStart} {q : Place} {n : ℕ} {one : Parser (Stmt × Bool)} → Answers n (Behind (word a) q) one → Answers n (λ x mid r. (w : Terminal) → stmt_start w ≡ Some a → RStmt names x (at w q ∷ mid) r) one
  by_word {a} {q} {n} {one} h = answers_by _ _ (λ x mid r d w k. rw (word_is w a k) d) h

  sound_stmt_by : (a : StmtStart) (q : Place) → Answers 0 (λ x mid r. (w : Terminal) → stmt_start w ≡ Some a → RStmt names x (at w q ∷ mid) r) (p.stmt_by names i a q)
  unfolding p.stmt_by
  sound_stmt_by block_start q = by_word {a = block_start} (sound_block q)
  sound_stmt_by empty_start q = by_word {a = empty_start} (answers_pure_at (λ y. ReadsStmt.empty))
  sound_stmt_by if_start q = by_word {a = if_start} (answers_less (lit≤ tt) (sound_if q))
  sound_stmt_by switch_start q = by_word {a = switch_start} (answers_less (lit≤ tt) (sound_switch q))
  sound_stmt_by while_start q = by_word {a = while_start} (answers_less (lit≤ tt) (sound_while q))
  sound_stmt_by do_start q = by_word {a = do_start} (answers_less (lit≤ tt) (sound_do q))
  sound_stmt_by for_start q = by_word {a = for_start} (answers_less (lit≤ tt) (sound_for q))
  sound_stmt_by break_start q = by_word {a = break_start} (answers_less (lit≤ tt) (answers_mark mark_semicolon (answers_pure_at (λ y c. ReadsStmt.break))))
  sound_stmt_by continue_start q = by_word {a = continue_start} (answers_less (lit≤ tt) (answers_mark mark_semicolon (answers_pure_at (λ y c. ReadsStmt.continue))))
  sound_stmt_by return_start q = by_word {a = return_start} (sound_return q)
  sound_stmt_by wait_start q = by_word {a = wait_start} (answers_less (lit≤ tt) (sound_wait q))
  sound_stmt_by clocked_start q = by_word {a = clocked_start} (answers_less (lit≤ tt) (sound_clocked q))
  sound_stmt_by sensitive_start q = by_word {a = sensitive_start} (answers_less (lit≤ tt) (sound_sensitive q))
  sound_stmt_by quiet_start q = by_word {a = quiet_start} (answers_less (lit≤ tt) (sound_quiet q))
  sound_stmt_by (process_start thread) q = by_word {a = process_start thread} (answers_less (lit≤ tt) (sound_process thread q))
  sound_stmt_by (reset_start asynchronous) q = by_word {a = reset_start asynchronous} (answers_less (lit≤ tt) (sound_reset asynchronous q))

  pub sound_stmt : Answers 1 (RStmt names) (p.stmt names i)
  unfolding p.stmt
  sound_stmt = answers_choose 1 _ _ _ _ (answers_pick t.Semicolon empty_start refl (λ s. sound_stmt_by s.0 s.1)) sound_line

  pub sound_block_of : Answers 1 (λ x ts r. ReadsBlock names ts r x) (p.block_of names i)
  unfolding p.block_of
  sound_block_of = answers_mark mark_brace_open (answers_seq (sound_stmts (p.stmt names i) sound_stmt) (λ of. answers_mark mark_brace_close (answers_pure_at (λ y c ts d o. ReadsBlock.body d))))
