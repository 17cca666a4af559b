-- Expressions are read, up to the first token that opens a level too many.
use Rattle.std.specs.Prelude.{◌≡◌, ℕ, zero, Bool, true, false, if◌then◌else◌, cond, List, ◌∷◌, Some, None, is_some, refl}
use Rattle.std.proofs.Common.{sym, ◌∙◌, ap}
use Rattle.scc_base.specs.declared.names.Name.{Name}
use Rattle.scc_base.specs.declared.refusal.Place.{Place}
use Rattle.scc_tree.specs.declared.expr.Expr.{Expr}
use Rattle.scc_tree.specs.declared.expr.ExprNode.TheVariants as node
use Rattle.scc_tree.specs.declared.expr.Part.{Part}
use Rattle.scc_tree.specs.declared.ty.Ty.{Ty}
use Rattle.scc_tree.specs.Node.{expr_of}
use Rattle.scc_reading.specs.Level.{opens, ◌then◌}
use Rattle.scc_reading.specs.Reading.{and_then, ◌>>=◌, pure, take_at, is_next, repeat_in}
use Rattle.scc_reading.proofs.Complete.{Is, vthen, vlast, same, done, by_level, then_assoc, picked, passed, turn, last_turn, turn_in, last_turn_in}
use Rattle.scc_grammar_terminals.specs.declared.part.Placed.{Placed}
use Rattle.scc_grammar_terminals.specs.declared.part.Sort.{Sort}
use Rattle.scc_grammar_terminals.specs.declared.terminal.Terminal.TheVariants as t
use Rattle.scc_grammar_spec.specs.Expressions.{ReadsBase, ReadsUnary, ReadsPrimary, ReadsExprs, ReadsParts, ReadsCargs, ReadsMoreCargs, ReadsCarg, ReadsNew}
use Rattle.scc_grammar_terminals.specs.First.{name_start, value_start, begins_part, begins_base, begins_expr, begins_operated}
use Rattle.scc_grammar_terminals.specs.Inner.{Inner}
use Rattle.scc_grammar_spec.specs.LevelsOfExpressions.{deep_expr, deep_unary, deep_primary, deep_exprs, deep_parts, deep_cargs, deep_more_cargs, deep_carg}
use Rattle.scc_grammar_terminals.specs.Marks as m
use Rattle.scc_grammar_terminals.specs.Names.{Names, is_type}
use Rattle.scc_grammar_terminals.specs.Nodes.{parts_of, brackets_of}
use Rattle.scc_grammar_spec.specs.ParseExpressions as e
use Rattle.scc_grammar_terminals.specs.Text.{Text, Parser, at, placed_at, next_is}
use Rattle.scc_grammar_complete.proofs.Follows.{goes_behind, ends, expr_ends, true_not_false, next_not, stays_not}
use Rattle.scc_grammar_complete.proofs.Firsts.{part_goes, scope_goes, base_not_operated, base_not_paren, expr_not_text, expr_not_close}
use Rattle.scc_grammar_complete.proofs.CompleteTypes.{Opened, Agains, first_base, first_expr, complete_base}

module _ (names : Names) (i : Inner) (n : ℕ) (C : Opened names i n) (A : Agains names i) where
  -- ---- arguments and parts

  more_cargs_end : {c : Place} {ts r : Text} {es : List Expr} → ReadsMoreCargs names ts (at t.ParenClose c ∷ r) es → expr_ends ts ≡ true
  more_cargs_end (ReadsMoreCargs.no_more_cargs) = refl
  more_cargs_end (ReadsMoreCargs.more_cargs d ds) = refl

  complete_carg : {ts r : Text} {of : Expr} (d : ReadsCarg names ts r of) → expr_ends r ≡ true → Is (e.carg names i ts) (deep_carg names n d) of r
  unfolding deep_carg e.carg
  complete_carg (ReadsCarg.text_carg) h = done refl
  complete_carg (ReadsCarg.new_carg (ReadsNew.new d ds)) h = C.argument_new (ReadsNew.new d ds)
  complete_carg (ReadsCarg.expr_carg {ts = ts} d) h = same (passed (next_is m.text) _ _ ts (next_not (begins_expr names) m.text (expr_not_text names) ts (first_expr names d))) (C.argument_expr d h)

  complete_more_cargs : {c : Place} {ts r : Text} {es : List Expr} (d : ReadsMoreCargs names ts (at t.ParenClose c ∷ r) es) → Is (e.more_cargs names i ts) (deep_more_cargs names n d) es (at t.ParenClose c ∷ r)
  unfolding deep_more_cargs e.more_cargs
  complete_more_cargs {c = c} {r = r} (ReadsMoreCargs.no_more_cargs) = last_turn _ _ (at t.ParenClose c ∷ r) A.cargs refl
  complete_more_cargs (ReadsMoreCargs.more_cargs {c = k} {a = a} d ds) = turn _ _ (at t.Comma k ∷ a) A.cargs refl (complete_carg d (more_cargs_end ds)) (complete_more_cargs ds)

  first_carg : {ts r : Text} {of : Expr} → ReadsCarg names ts r of → is_next (next_is m.paren_close) ts ≡ false
  first_carg (ReadsCarg.text_carg) = refl
  first_carg (ReadsCarg.new_carg (ReadsNew.new d ds)) = refl
  first_carg (ReadsCarg.expr_carg {ts = ts} d) = next_not (begins_expr names) m.paren_close (expr_not_close names) ts (first_expr names d)

  pub complete_cargs : {c : Place} {ts r : Text} {es : List Expr} (d : ReadsCargs names ts (at t.ParenClose c ∷ r) es) → Is (e.cargs names i ts) (deep_cargs names n d) es (at t.ParenClose c ∷ r)
  unfolding deep_cargs e.cargs
  complete_cargs (ReadsCargs.no_cargs) = done refl
  complete_cargs (ReadsCargs.cargs {ts = ts} d ds) = same (passed (next_is m.paren_close) _ _ ts (first_carg d)) (vthen _ (complete_carg d (more_cargs_end ds)) (vlast _ (complete_more_cargs ds) refl))

  pub exprs_end : {c : Place} {ts r : Text} {es : List Expr} → ReadsExprs names ts (at t.ParenClose c ∷ r) es → expr_ends ts ≡ true
  exprs_end (ReadsExprs.no_exprs) = refl
  exprs_end (ReadsExprs.exprs d ds) = refl

  complete_exprs : {c : Place} {ts r : Text} {es : List Expr} (d : ReadsExprs names ts (at t.ParenClose c ∷ r) es) → Is (e.more_exprs names i ts) (deep_exprs names n d) es (at t.ParenClose c ∷ r)
  unfolding deep_exprs e.more_exprs
  complete_exprs {c = c} {r = r} (ReadsExprs.no_exprs) = last_turn _ _ (at t.ParenClose c ∷ r) A.exprs refl
  complete_exprs (ReadsExprs.exprs {c = k} {a = a} d ds) = turn _ _ (at t.Comma k ∷ a) A.exprs refl (C.expr d (exprs_end ds)) (complete_exprs ds)

  pub complete_after_brackets : {c : Place} (p : Place) (first : Expr) {ts r : Text} {es : List Expr} (d : ReadsExprs names ts (at t.ParenClose c ∷ r) es) → Is (e.after_brackets names i p first ts) (deep_exprs names n d) (brackets_of p first es) r
  unfolding deep_exprs e.after_brackets
  complete_after_brackets p first (ReadsExprs.no_exprs) = done refl
  complete_after_brackets p first (ReadsExprs.exprs d ds) = vthen _ (C.expr d (exprs_end ds)) (vlast _ (complete_exprs ds) refl)

  pub complete_parts : {b c : Bool} {ts r : Text} {ps : List Part} (d : ReadsParts names b c ts r ps) → ends zero r ≡ true → Is (repeat_in (e.next_part names i) (e.one_part names i) b ts) (deep_parts names n d) (ps, c) r
  unfolding deep_parts e.part_by
  complete_parts (ReadsParts.no_parts {b = b} {r = r}) h = last_turn_in _ _ b r A.parts (stays_not goes_behind begins_part part_goes r h)
  complete_parts (ReadsParts.index {b = b} {p = p} {a = a} d ps) h = turn_in _ _ b (at t.BracketOpen p ∷ a) A.parts refl (vlast _ (C.expr d refl) refl) (complete_parts ps h)
  complete_parts (ReadsParts.member {b = b} {x = x} {d = d} {p = p} {m = a} ps) h = turn_in _ _ b (at t.Dot d ∷ at (t.Ident x) p ∷ a) A.parts refl (done refl) (complete_parts ps h)
  complete_parts (ReadsParts.arrow {b = b} {x = x} {d = d} {p = p} {m = a} ps) h = turn_in _ _ b (at t.Arrow d ∷ at (t.Ident x) p ∷ a) A.parts refl (done refl) (complete_parts ps h)
  complete_parts (ReadsParts.call {b = b} {p = p} {a = a} d ps) h = turn_in _ _ b (at t.ParenOpen p ∷ a) A.parts refl (vlast _ (complete_cargs d) refl) (complete_parts ps h)

  pub parts_no_scope : {b c : Bool} {ts r : Text} {ps : List Part} → ReadsParts names b c ts r ps → ends zero r ≡ true → is_next (next_is m.scope) ts ≡ false
  parts_no_scope (ReadsParts.no_parts {r = r}) h = stays_not goes_behind m.scope scope_goes r h
  parts_no_scope (ReadsParts.index d ps) h = refl
  parts_no_scope (ReadsParts.member ps) h = refl
  parts_no_scope (ReadsParts.arrow ps) h = refl
  parts_no_scope (ReadsParts.call d ps) h = refl

  pub complete_postfix : {c : Bool} (p : Place) (first : Expr) {ts r : Text} {ps : List Part} (d : ReadsParts names false c ts r ps) → ends zero r ≡ true → Is (e.postfix_after names i p first ts) (deep_parts names n d) (parts_of p first ps) r
  unfolding e.postfix_after e.parts
  complete_postfix p first d h = vlast _ (complete_parts d h) refl

  -- ---- operands

  plain_name : (x : Name) (p : Place) (r : Text) → is_type names x ≡ false → e.primary names i (at (t.Ident x) p ∷ r) ≡ and_then (e.primary_by names i (value_start x) p r) (λ of. pure (e.placed p of))
  unfolding e.primary e.plain
  plain_name x p r h = passed (next_is (begins_base names)) _ _ (at (t.Ident x) p ∷ r) (ap (λ b. is_some (cond b (Some (name_start x)) None)) h)
      ∙ ap (λ b. and_then (take_at (placed_at (cond b None (Some (value_start x))) p) (at (t.Ident x) p) r) (λ s. e.primary_by names i s.0 s.1 >>= λ of. pure (e.placed s.1 of))) h

  -- a primary that begins with no bracket
  pub complete_primary : {p : Place} {ts r : Text} {of : Expr} (d : ReadsPrimary names p ts r of) → is_next (next_is m.paren_open) ts ≡ false → is_next (next_is m.scope) r ≡ false → Is (e.primary names i ts) (deep_primary names n d) (e.placed p of) r
  unfolding deep_primary e.primary e.plain e.primary_by e.after_base e.make
  complete_primary (ReadsPrimary.number) h k = done refl
  complete_primary (ReadsPrimary.truth) h k = done refl
  complete_primary (ReadsPrimary.this) h k = done refl
  complete_primary (ReadsPrimary.null) h k = done refl
  complete_primary (ReadsPrimary.name {x = x} {p = p} {r = r} w) h k = done (plain_name x p r w ∙ ap (λ o. and_then o (λ of. pure (e.placed p of))) (passed (next_is m.scope) _ _ r k))
  complete_primary (ReadsPrimary.scoped {x = x} {y = y} {p = p} {a = a} {b = b} {r = r} w) h k = done (plain_name x p (at t.Scope a ∷ at (t.Ident y) b ∷ r) w)
  complete_primary (ReadsPrimary.scoped_type {ts = ts} d) h k = same (picked (next_is (begins_base names)) _ _ ts (first_base names d)) (vlast _ (complete_base names i n C A false d (λ h. h) (λ _. refl)) refl)
  complete_primary (ReadsPrimary.make {ts = ts} d f) h k = same (picked (next_is (begins_base names)) _ _ ts (first_base names d)) (vthen _ (complete_base names i n C A false d (λ h. h) (λ _. refl)) (vlast _ (vlast _ (C.expr f refl) refl) refl))
  complete_primary (ReadsPrimary.static_cast d f) h k = vlast _ (vthen _ (C.ty d (λ _. refl)) (vlast _ (C.expr f refl) refl)) refl
  complete_primary (ReadsPrimary.static_cast_both d f) h k = vlast _ (vthen _ (C.ty d (λ h. true_not_false h)) (vlast _ (C.expr f refl) refl)) refl
  complete_primary (ReadsPrimary.concat d f) h k = vlast _ (vthen _ (C.expr d refl) (vlast _ (C.expr f refl) refl)) refl
  complete_primary (ReadsPrimary.brackets d ds) h k = true_not_false h

  abbrev pub postfixed : Placed → Parser Placed
  postfixed first = e.postfix_after names i first.place first.of >>= λ of. pure (e.placed first.place of)

  pub plain_unary : (ts : Text) → is_next (next_is begins_operated) ts ≡ false → is_next (next_is m.paren_open) ts ≡ false → e.unary names i ts ≡ and_then (e.primary names i ts) postfixed
  unfolding e.unary
  plain_unary ts h k = passed (next_is begins_operated) _ _ ts h ∙ passed (next_is m.paren_open) _ _ ts k

  plain_operand : {c : Bool} {p : Place} {ts u r : Text} {first : Expr} {ps : List Part} (d : ReadsPrimary names p ts u first) (k : ReadsParts names false c u r ps) → is_next (next_is begins_operated) ts ≡ false → is_next (next_is m.paren_open) ts ≡ false
      → ends zero r ≡ true → Is (e.unary names i ts) (deep_primary names n d then deep_parts names n k) (e.placed p (parts_of p first ps)) r
  plain_operand {p = p} {ts = ts} {first = first} d k h l g = same (plain_unary ts h l) (vthen _ (complete_primary d l (parts_no_scope k g)) (vlast _ (complete_postfix p first k g) refl))

  operand_by_base : {c b : Bool} {s : Sort} {q p : Place} {ts v u r : Text} {to : Ty} {first : Expr} {ps : List Part} → ReadsBase names s b q ts v to → (d : ReadsPrimary names p ts u first) (k : ReadsParts names false c u r ps)
      → ends zero r ≡ true → Is (e.unary names i ts) (deep_primary names n d then deep_parts names n k) (e.placed p (parts_of p first ps)) r
  operand_by_base {ts = ts} to d k g = plain_operand d k (next_not (begins_base names) begins_operated (base_not_operated names) ts (first_base names to)) (next_not (begins_base names) m.paren_open (base_not_paren names) ts (first_base names to)) g

  complete_operand : {c : Bool} {p : Place} {ts u r : Text} {first : Expr} {ps : List Part} (d : ReadsPrimary names p ts u first) (k : ReadsParts names false c u r ps)
      → ends zero r ≡ true → Is (e.unary names i ts) (deep_primary names n d then deep_parts names n k) (e.placed p (parts_of p first ps)) r
  unfolding deep_primary e.unary e.after_open
  complete_operand (ReadsPrimary.number) k g = plain_operand ReadsPrimary.number k refl refl g
  complete_operand (ReadsPrimary.truth) k g = plain_operand ReadsPrimary.truth k refl refl g
  complete_operand (ReadsPrimary.this) k g = plain_operand ReadsPrimary.this k refl refl g
  complete_operand (ReadsPrimary.null) k g = plain_operand ReadsPrimary.null k refl refl g
  complete_operand (ReadsPrimary.name w) k g = plain_operand (ReadsPrimary.name w) k refl refl g
  complete_operand (ReadsPrimary.scoped w) k g = plain_operand (ReadsPrimary.scoped w) k refl refl g
  complete_operand (ReadsPrimary.scoped_type d) k g = operand_by_base d (ReadsPrimary.scoped_type d) k g
  complete_operand (ReadsPrimary.make d f) k g = operand_by_base d (ReadsPrimary.make d f) k g
  complete_operand (ReadsPrimary.static_cast d f) k g = plain_operand (ReadsPrimary.static_cast d f) k refl refl g
  complete_operand (ReadsPrimary.static_cast_both d f) k g = plain_operand (ReadsPrimary.static_cast_both d f) k refl refl g
  complete_operand (ReadsPrimary.concat d f) k g = plain_operand (ReadsPrimary.concat d f) k refl refl g
  complete_operand (ReadsPrimary.brackets {p = p} {a = a} {first = first} {rest = rest} d ds) k g =
      by_level (sym (then_assoc (opens n a (λ m. deep_expr names m d)) (deep_exprs names n ds) (deep_parts names n k)))
      (vthen _ (C.bracketed_expr d (exprs_end ds)) (vlast _ (vthen _ (complete_after_brackets p first ds) (complete_postfix p (brackets_of p first rest) k g)) refl))

  pub complete_unary : {p : Place} {ts r : Text} {of : Expr} (d : ReadsUnary names p ts r of) → ends zero r ≡ true → Is (e.unary names i ts) (deep_unary names n d) (e.placed p of) r
  unfolding deep_unary e.unary e.after_open
  complete_unary (ReadsUnary.operated {w = w} {o = o} {p = p} {a = a} h d) g =
      same (picked (next_is begins_operated) _ _ (at w p ∷ a) (ap is_some h) ∙ ap (λ q. and_then (take_at (placed_at q p) (at w p) a) (λ o. i.unary >>= λ of. pure (e.placed o.1 (expr_of o.1 (node.Unary o.0 of))))) h) (vlast _ (C.unary d g) refl)
  complete_unary (ReadsUnary.cast d f) g = vthen _ (C.bracketed_type d) (vlast _ (vlast _ (C.unary f g) refl) refl)
  complete_unary (ReadsUnary.postfix d ps) g = complete_operand d ps g
