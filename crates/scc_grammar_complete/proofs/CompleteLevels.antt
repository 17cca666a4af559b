-- What opens a level is read where levels are left, and is too deep where none is.
use Rattle.std.specs.Prelude.{◌≡◌, ℕ, zero, suc, Bool, true, Some, refl}
use Rattle.scc_reading.specs.Reading.{is_next, closed}
use Rattle.scc_reading.proofs.Complete.{Is, vlast, is_deep, again_of, again_in_of}
use Rattle.scc_grammar_terminals.specs.declared.terminal.Terminal.{Terminal}
use Rattle.scc_grammar_spec.specs.Expressions.{ReadsNew}
use Rattle.scc_grammar_terminals.specs.First.{begins_type, begins_expr, begins_ty_arg, begins_argument}
use Rattle.scc_grammar_terminals.specs.Inner.{Inner}
use Rattle.scc_grammar_terminals.specs.Marks as m
use Rattle.scc_grammar_terminals.specs.Names.{Names}
use Rattle.scc_grammar_spec.specs.ParseStatements as s
use Rattle.scc_grammar_spec.specs.ParseStatements.{inner, begins_stmt}
use Rattle.scc_grammar_terminals.specs.Text.{Text, next_is}
use Rattle.scc_grammar_complete.proofs.Follows.{or_right, next_also}
use Rattle.scc_grammar_sound.proofs.SoundRules.{Sound}
use Rattle.scc_grammar_sound.proofs.SoundTypes.{sound_one_ty_arg}
use Rattle.scc_grammar_sound.proofs.SoundExpressions.{sound_one_expr, sound_one_carg, sound_one_part, sound_link}
use Rattle.scc_grammar_sound.proofs.SoundStatements.{sound_one_size, sound_one_local, sound_one_signal, sound_switch_item, sound_item, sound_stmt}
use Rattle.scc_grammar_sound.proofs.SoundLevels.{sound}
use Rattle.scc_grammar_complete.proofs.CompleteTypes.{Opened, Agains, first_type, first_ty_arg, first_unary, first_chain, first_expr, expr_is_ty_arg, type_is_ty_arg, complete_type}
use Rattle.scc_grammar_complete.proofs.CompleteExpressions.{complete_unary}
use Rattle.scc_grammar_complete.proofs.CompleteChains.{complete_additive, complete_expr, complete_argument_new, complete_argument_expr}
use Rattle.scc_grammar_complete.proofs.CompleteBrackets.{complete_bracketed_type, complete_bracketed_expr, complete_ty_arg}
use Rattle.scc_grammar_complete.proofs.CompleteSimple.{LocalAgains}
use Rattle.scc_grammar_complete.proofs.CompleteStatements.{OpenedStmt, StmtAgains, first_stmt, complete_stmt}

-- all that is known of the functions that open a level
pub record Complete (names : Names) (n : ℕ) : Type 0 where
  pub opened : Opened names (inner names n) n
  pub stmts : OpenedStmt names (inner names n) n
  pub agains : Agains names (inner names n)
  pub locals : LocalAgains names (inner names n)
  pub lists : StmtAgains names (inner names n)

module _ (names : Names) where
  argument_expr : (w : Terminal) → begins_expr names w ≡ true → begins_argument names w ≡ true
  argument_expr w h = or_right (m.new_word w) (begins_expr names w) h

  too_deep_at : {A : Type 0} (begins : Terminal → Bool) (ts : Text) (a : A) (r : Text) → is_next (next_is begins) ts ≡ true → Is (closed (next_is begins) ts) (Some ts) a r
  too_deep_at begins ts a r h = record { is = is_deep (next_is begins) ts h }

  agains_of : (i : Inner) → Sound names i → Agains names i
  agains_of i S = record {
    ty_args = again_in_of _ (sound_one_ty_arg names i S);
    exprs = again_of _ (sound_one_expr names i S);
    cargs = again_of _ (sound_one_carg names i S);
    parts = again_in_of _ (sound_one_part names i S);
    links = λ k l. again_of _ (sound_link names i S k l);
  }

  locals_of : (i : Inner) → Sound names i → LocalAgains names i
  locals_of i S = record { sizes = again_of _ (sound_one_size names i S); locals = again_of _ (sound_one_local names i S) }

  lists_of : (i : Inner) → Sound names i → StmtAgains names i
  lists_of i S = record {
    signals = again_of _ (sound_one_signal names i S);
    items = again_of _ (sound_switch_item names i S);
    inner = again_of _ (sound_item names i S i.stmt S.stmt);
    body = again_of _ (sound_item names i S (s.stmt names i) (sound_stmt names i S));
  }

  opened_zero : Opened names (inner names zero) zero
  unfolding inner
  opened_zero = record {
    expr = λ d _. too_deep_at (begins_expr names) _ _ _ (first_expr names d);
    additive = λ d _. too_deep_at (begins_expr names) _ _ _ (first_chain names d);
    ty = λ d _. too_deep_at (begins_type names) _ _ _ (first_type names d);
    ty_arg = λ d _. too_deep_at (begins_ty_arg names) _ _ _ (first_ty_arg names d);
    bracketed_type = λ {ts = ts} d. too_deep_at (begins_ty_arg names) _ _ _ (next_also (begins_type names) (begins_ty_arg names) (type_is_ty_arg names) ts (first_type names d));
    bracketed_expr = λ {ts = ts} d _. too_deep_at (begins_ty_arg names) _ _ _ (next_also (begins_expr names) (begins_ty_arg names) (expr_is_ty_arg names) ts (first_expr names d));
    unary = λ d _. too_deep_at (begins_expr names) _ _ _ (first_unary names d);
    argument_new = λ d. too_deep_at (begins_argument names) _ _ _ (first_new d);
    argument_expr = λ {ts = ts} d _. too_deep_at (begins_argument names) _ _ _ (next_also (begins_expr names) (begins_argument names) argument_expr ts (first_expr names d));
  }
    where
      first_new : {p : _} {ts r : Text} {of : _} → ReadsNew names p ts r of → is_next (next_is (begins_argument names)) ts ≡ true
      first_new (ReadsNew.new d ds) = refl

  stmts_zero : OpenedStmt names (inner names zero) zero
  unfolding inner
  stmts_zero = record { stmt = λ d _. too_deep_at (begins_stmt names) _ _ _ (first_stmt names d) }

  opened_suc : (n : ℕ) → Opened names (inner names n) n → Agains names (inner names n) → Opened names (inner names (suc n)) (suc n)
  unfolding inner
  opened_suc n C A = record {
    expr = λ d h. complete_expr names (inner names n) n C A d h;
    additive = λ d h. complete_additive names (inner names n) n C A d h;
    ty = λ d h. complete_type names (inner names n) n C A true d (λ _. refl) h;
    ty_arg = λ d h. complete_ty_arg names (inner names n) n C A d h;
    bracketed_type = λ d. complete_bracketed_type names (inner names n) n C A d;
    bracketed_expr = λ d h. complete_bracketed_expr names (inner names n) n C A d h;
    unary = λ d h. vlast _ (complete_unary names (inner names n) n C A d h) refl;
    argument_new = λ d. complete_argument_new names (inner names n) n C A d;
    argument_expr = λ d h. complete_argument_expr names (inner names n) n C A d h;
  }

  stmts_suc : (n : ℕ) → Complete names n → OpenedStmt names (inner names (suc n)) (suc n)
  unfolding inner
  stmts_suc n K = record { stmt = λ d h. complete_stmt names (inner names n) n K.opened K.agains K.locals K.stmts K.lists d h }

  pub complete : (n : ℕ) → Complete names n
  complete zero = record {
    opened = opened_zero;
    stmts = stmts_zero;
    agains = agains_of (inner names zero) (sound names zero);
    locals = locals_of (inner names zero) (sound names zero);
    lists = lists_of (inner names zero) (sound names zero);
  }
  complete (suc n) =
      let K : Complete names n = complete n in
      record {
        opened = opened_suc n K.opened K.agains;
        stmts = stmts_suc n K;
        agains = agains_of (inner names (suc n)) (sound names (suc n));
        locals = locals_of (inner names (suc n)) (sound names (suc n));
        lists = lists_of (inner names (suc n)) (sound names (suc n));
      }
