-- No `else` stands behind a statement that was read and could take it.
use Rattle.std.specs.Prelude.{◌≡◌, Bool, false, Option, Some, None}
use Rattle.scc_base.specs.declared.refusal.Place.{Place}
use Rattle.scc_tree.specs.declared.expr.Expr.{Expr}
use Rattle.scc_tree.specs.declared.stmt.Stmt.{Stmt}
use Rattle.scc_tree.specs.declared.stmt.StmtNode.TheVariants as s
use Rattle.scc_tree.specs.Node.{stmt_of}
use Rattle.scc_reading.specs.Reading.{◌>>=◌, ◌>>◌, pure, token, is_next}
use Rattle.scc_reading.proofs.Leaves.{Leaves, ok_is, leaves_then, leaves_behind, leaves_choose, leaves_unless, leaves_pure}
use Rattle.scc_grammar_terminals.specs.declared.part.Line.{Line}
use Rattle.scc_grammar_terminals.specs.declared.part.Line.TheVariants.{ALocal, ASimple}
use Rattle.scc_grammar_terminals.specs.Inner.{Inner}
use Rattle.scc_grammar_terminals.specs.Marks as m
use Rattle.scc_grammar_terminals.specs.Names.{Names}
use Rattle.scc_grammar_spec.specs.ParseExpressions as e
use Rattle.scc_grammar_spec.specs.ParseStatements as p
use Rattle.scc_grammar_spec.specs.ParseStatements.{StmtStart, block_start, empty_start, if_start, switch_start, while_start, do_start, for_start, break_start, continue_start, return_start, wait_start, clocked_start, sensitive_start, quiet_start, process_start, reset_start, stmt_start}
use Rattle.scc_grammar_terminals.specs.Text.{Text, mark, pick, next_is, name_at}
use Rattle.scc_grammar_sound.proofs.SoundRules.{NoElse, Sound}

module _ (names : Names) (i : Inner) (S : Sound names i) where
  -- where none could be taken
  takes_none : (of : Stmt) (r : Text) → NoElse names (of, false) r
  takes_none of r h = cc

  ends : (of : Stmt) → Leaves (NoElse names) (pure (of, false))
  ends of = leaves_pure (takes_none of)

  passed_on : (of : Stmt × Bool → Stmt) → Leaves (NoElse names) (i.stmt >>= λ body. pure (of body, body.1))
  passed_on of = leaves_behind S.stops (λ body mid h a r k. let same : ((of body, body.1) ≡ a) × (mid ≡ r) = ok_is (of body, body.1) a mid r k in rw (← same.0, ← same.1) h)

  leaves_line : Leaves (NoElse names) (p.line names i)
  unfolding p.line
  leaves_line = leaves_then (p.local_or_simple names i) (λ of. leaves_then (mark m.semicolon) (λ _. ended of))
    where
      ended : (of : Line) → Leaves (NoElse names) (pure (p.line_of names i of))
      ended (ALocal of) = ends _
      ended (ASimple of) = ends _

  leaves_while : (q : Place) → Leaves (NoElse names) (p.while_rest names i q)
  unfolding p.while_rest
  leaves_while q = leaves_then (p.condition names i) (λ of. passed_on (λ body. stmt_of q (s.While of body.0)))

  leaves_for : (q : Place) → Leaves (NoElse names) (p.for_rest names i q)
  unfolding p.for_rest p.for_body
  leaves_for q = leaves_then (mark m.paren_open) (λ _. leaves_then (p.for_first names i) (λ of. leaves_then (mark m.semicolon) (λ _. leaves_then (p.within names i m.semicolon) (λ condition. leaves_then (mark m.semicolon) (λ _.
      leaves_then (p.for_step names i) (λ last. leaves_then (mark m.paren_close) (λ _. passed_on (λ body. stmt_of q (s.For of condition last body.0)))))))))

  -- the same behind what may stand there for an `else`
  abbrev NoOther : Option (Stmt × Bool) → Text → Type 0
  NoOther None r = is_next (next_is m.else_word) r ≡ false
  NoOther (Some x) r = NoElse names x r

  some_other : Leaves NoOther (mark m.else_word >> (i.stmt >>= λ of. pure (Some of)))
  some_other = leaves_then (mark m.else_word) (λ _. leaves_behind S.stops (λ x mid h a r k. let same : (Some x ≡ a) × (mid ≡ r) = ok_is (Some x) a mid r k in rw (← same.0, ← same.1) h))

  leaves_other : Leaves NoOther (p.other names i)
  unfolding p.other
  leaves_other = leaves_unless some_other (λ r h. h)

  after_else : (q : Place) (of : Expr) (first : Stmt × Bool) → Leaves (NoElse names) (p.other names i >>= λ second. pure (p.if_of q of first second))
  after_else q of first = leaves_behind leaves_other (λ second mid h a r k. let same : (p.if_of q of first second ≡ a) × (mid ≡ r) = ok_is (p.if_of q of first second) a mid r k in rw (← same.0, ← same.1) (go second mid h))
    where
      go : (second : Option (Stmt × Bool)) (mid : Text) → NoOther second mid → NoElse names (p.if_of q of first second) mid
      go None mid h l = h
      go (Some x) mid h l = h l

  leaves_if : (q : Place) → Leaves (NoElse names) (p.if_rest names i q)
  unfolding p.if_rest
  leaves_if q = leaves_then (p.condition names i) (λ of. leaves_then i.stmt (λ first. after_else q of first))

  leaves_by : (a : StmtStart) (q : Place) → Leaves (NoElse names) (p.stmt_by names i a q)
  unfolding p.stmt_by p.block_rest p.switch_rest p.do_rest p.return_rest p.wait_rest p.clocked_rest p.sensitive_rest p.quiet_rest p.process_rest p.reset_rest
  leaves_by block_start q = leaves_then (p.stmts_of names i i.stmt) (λ body. leaves_then (mark m.brace_close) (λ _. ends _))
  leaves_by empty_start q = ends _
  leaves_by if_start q = leaves_if q
  leaves_by switch_start q = leaves_then (p.condition names i) (λ of. leaves_then (mark m.brace_open) (λ _. leaves_then (p.switch_items names i) (λ items. leaves_then (mark m.brace_close) (λ _. ends _))))
  leaves_by while_start q = leaves_while q
  leaves_by do_start q = leaves_then i.stmt (λ body. leaves_then (mark m.while_word) (λ _. leaves_then (p.condition names i) (λ of. leaves_then (mark m.semicolon) (λ _. ends _))))
  leaves_by for_start q = leaves_for q
  leaves_by break_start q = leaves_then (mark m.semicolon) (λ _. ends _)
  leaves_by continue_start q = leaves_then (mark m.semicolon) (λ _. ends _)
  leaves_by return_start q = leaves_then (p.returned names i) (λ of. leaves_then (mark m.semicolon) (λ _. ends _))
  leaves_by wait_start q = leaves_then (mark m.paren_open) (λ _. leaves_then (p.within names i m.paren_close) (λ of. leaves_then (mark m.paren_close) (λ _. leaves_then (mark m.semicolon) (λ _. ends _))))
  leaves_by clocked_start q = leaves_then (mark m.paren_open) (λ _. leaves_then name_at (λ x. leaves_then (mark m.comma) (λ _. leaves_then i.expr (λ edge. leaves_then (mark m.paren_close) (λ _. leaves_then (mark m.semicolon) (λ _. ends _))))))
  leaves_by sensitive_start q = leaves_then (mark m.shift_left) (λ _. leaves_then (e.additive names i) (λ of. leaves_then (p.more_signals names i) (λ more. leaves_then (mark m.semicolon) (λ _. ends _))))
  leaves_by quiet_start q = leaves_then (mark m.paren_open) (λ _. leaves_then (mark m.paren_close) (λ _. leaves_then (mark m.semicolon) (λ _. ends _)))
  leaves_by (process_start thread) q = leaves_then (mark m.paren_open) (λ _. leaves_then name_at (λ x. leaves_then (mark m.paren_close) (λ _. leaves_then (mark m.semicolon) (λ _. ends _))))
  leaves_by (reset_start asynchronous) q = leaves_then (mark m.paren_open) (λ _. leaves_then i.expr (λ signal. leaves_then (mark m.comma) (λ _. leaves_then i.expr (λ level. leaves_then (mark m.paren_close) (λ _. leaves_then (mark m.semicolon) (λ _. ends _))))))

  pub leaves_stmt : Leaves (NoElse names) (p.stmt names i)
  unfolding p.stmt
  leaves_stmt = leaves_choose (leaves_then (token (pick stmt_start)) (λ a. leaves_by a.0 a.1)) leaves_line
