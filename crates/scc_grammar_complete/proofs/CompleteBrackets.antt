-- What stands between brackets is read: where a type comes first, the function reads it before it is known what it belongs to.
use Rattle.std.specs.Prelude.{◌≡◌, ℕ, Bool, true, false, if◌then◌else◌, cond, [], ◌∷◌, Option, Some, None, is_some, Ok, Err, refl}
use Rattle.std.proofs.Common.{sym, ◌∙◌, ap}
use Rattle.scc_base.specs.declared.names.Name.{Name}
use Rattle.scc_base.specs.declared.refusal.Place.{Place}
use Rattle.scc_tree.specs.declared.expr.Expr.{Expr}
use Rattle.scc_tree.specs.declared.ty.Ty.{Ty}
use Rattle.scc_tree.specs.declared.ty.TyArg.{TyArg}
use Rattle.scc_tree.specs.declared.ty.TyArg.TheVariants as arg
use Rattle.scc_reading.specs.Level.{◌then◌}
use Rattle.scc_reading.specs.Reading.{and_then, ◌>>=◌, pure, is_next, choose}
use Rattle.scc_reading.proofs.Complete.{Is, verdict, vlast, same, and_then_assoc, picked, passed}
use Rattle.scc_grammar_terminals.specs.declared.part.Bracketed.{Bracketed}
use Rattle.scc_grammar_terminals.specs.declared.part.Bracketed.TheVariants.{AType, AnExpr}
use Rattle.scc_grammar_terminals.specs.declared.part.Sort.{Sort}
use Rattle.scc_grammar_terminals.specs.declared.part.Sort.TheVariants as sort
use Rattle.scc_grammar_terminals.specs.declared.part.TypeRead.{TypeRead}
use Rattle.scc_grammar_terminals.specs.declared.terminal.Terminal.{Terminal}
use Rattle.scc_grammar_terminals.specs.declared.terminal.Terminal.TheVariants as t
use Rattle.scc_grammar_spec.specs.Expressions.{ReadsBase, ReadsType, ReadsTyArg, ReadsChain, ReadsExpr, ReadsUnary, ReadsPrimary}
use Rattle.scc_grammar_terminals.specs.First.{name_start, begins_base, begins_type, begins_expr, begins_operated, goes_on}
use Rattle.scc_grammar_terminals.specs.Inner.{Inner}
use Rattle.scc_grammar_spec.specs.LevelsOfExpressions.{deep_base, deep_type, deep_ty_arg, deep_chain, deep_expr}
use Rattle.scc_grammar_terminals.specs.Marks as m
use Rattle.scc_grammar_terminals.specs.Names.{Names, is_type}
use Rattle.scc_grammar_terminals.specs.Operators.{sum}
use Rattle.scc_grammar_spec.specs.ParseExpressions as e
use Rattle.scc_grammar_terminals.specs.Text.{Text, Parser, Outcome, at, next_is}
use Rattle.scc_grammar_complete.proofs.Follows.{ends, expr_ends, arg_ends, and_left, and_right, not_true, true_not_false, false_not_true, next_not, next_also}
use Rattle.scc_grammar_complete.proofs.Firsts.{operated_not_base, base_not_operated, base_not_paren, expr_not_constant, goes_on_ends}
use Rattle.scc_grammar_complete.proofs.CompleteTypes.{type_read, Opened, Agains, first_base, first_type, first_chain, first_expr, base_is_type, base_not_constant, complete_base, complete_type}
use Rattle.scc_grammar_complete.proofs.CompleteExpressions.{plain_unary, postfixed}
use Rattle.scc_grammar_complete.proofs.CompleteChains.{complete_expr, complete_additive}

module _ (names : Names) where
  -- the type at the front of an expression
  pub record Head (ts : Text) : Type 0 where
    pub sort : Sort
    pub place : Place
    pub of : Ty
    pub rest : Text
    pub base : ReadsBase names sort false place ts rest of
    pub goes : is_next (next_is goes_on) rest ≡ true

  not_a_type : {A : Type 0} (x : Name) → is_type names x ≡ false → begins_base names (t.Ident x) ≡ true → A
  not_a_type x h k = true_not_false (sym k ∙ ap (λ b. is_some (cond b (Some (name_start x)) None)) h)

  pub head_of_primary : {p : Place} {ts r : Text} {of : Expr} → ReadsPrimary names p ts r of → is_next (next_is (begins_base names)) ts ≡ true → Head ts
  head_of_primary (ReadsPrimary.number) h = false_not_true h
  head_of_primary (ReadsPrimary.truth) h = false_not_true h
  head_of_primary (ReadsPrimary.this) h = false_not_true h
  head_of_primary (ReadsPrimary.null) h = false_not_true h
  head_of_primary (ReadsPrimary.name {x = x} w) h = not_a_type x w h
  head_of_primary (ReadsPrimary.scoped {x = x} w) h = not_a_type x w h
  head_of_primary (ReadsPrimary.scoped_type d) h = record { sort = _; place = _; of = _; rest = _; base = d; goes = refl }
  head_of_primary (ReadsPrimary.make d f) h = record { sort = _; place = _; of = _; rest = _; base = d; goes = refl }
  head_of_primary (ReadsPrimary.static_cast d f) h = false_not_true h
  head_of_primary (ReadsPrimary.static_cast_both d f) h = false_not_true h
  head_of_primary (ReadsPrimary.concat d f) h = false_not_true h
  head_of_primary (ReadsPrimary.brackets d ds) h = false_not_true h

  pub head_of_unary : {p : Place} {ts r : Text} {of : Expr} → ReadsUnary names p ts r of → is_next (next_is (begins_base names)) ts ≡ true → Head ts
  head_of_unary (ReadsUnary.operated {w = w} k d) h = true_not_false (sym h ∙ operated_not_base names w (ap is_some k))
  head_of_unary (ReadsUnary.cast d f) h = false_not_true h
  head_of_unary (ReadsUnary.postfix d ps) h = head_of_primary d h

  pub head_of_chain : {k : ℕ} {p : Place} {ts r : Text} {of : Expr} → ReadsChain names k p ts r of → is_next (next_is (begins_base names)) ts ≡ true → Head ts
  head_of_chain (ReadsChain.operand d) h = head_of_unary d h
  head_of_chain (ReadsChain.chain d ls) h = head_of_chain d h

  pub head_of_expr : {p : Place} {ts r : Text} {of : Expr} → ReadsExpr names p ts r of → is_next (next_is (begins_base names)) ts ≡ true → Head ts
  head_of_expr (ReadsExpr.binary d) h = head_of_chain d h
  head_of_expr (ReadsExpr.choice d f g) h = head_of_chain d h

  pub base_sort : {s : Sort} {both : Bool} {p : Place} {ts r : Text} {of : Ty} → ReadsBase names s both p ts r of → e.is_constant s ≡ false
  base_sort (ReadsBase.bool) = refl
  base_sort (ReadsBase.int) = refl
  base_sort (ReadsBase.short d) = refl
  base_sort (ReadsBase.long) = refl
  base_sort (ReadsBase.signed d) = refl
  base_sort (ReadsBase.unsigned d) = refl
  base_sort (ReadsBase.sized d) = refl
  base_sort (ReadsBase.holder d) = refl
  base_sort (ReadsBase.holder_both d) = refl
  base_sort (ReadsBase.clock_input) = refl
  base_sort (ReadsBase.module_name) = refl
  base_sort (ReadsBase.named h) = refl
  base_sort (ReadsBase.with_args h d) = refl

  neither : (w : Terminal) → begins_expr names w ≡ true → begins_base names w ≡ false → begins_type names w ≡ false
  neither w h k = rw (expr_not_constant names w h) k

  pub not_type : (ts : Text) → is_next (next_is (begins_expr names)) ts ≡ true → is_next (next_is (begins_base names)) ts ≡ false → is_next (next_is (begins_type names)) ts ≡ false
  not_type [] h k = refl
  not_type (s ∷ ts) h k = neither s.terminal h k

  module _ (i : Inner) (n : ℕ) (C : Opened names i n) (A : Agains names i) where
    abbrev pub read_of : {ts : Text} → Head ts → TypeRead
    read_of H = type_read H.place H.of H.sort false

    pub base_of_head : {ts : Text} (H : Head ts) (inside : Bool) → e.base_at names i inside ts ≡ verdict (deep_base names n H.base) (read_of H) H.rest
    base_of_head H inside = (complete_base names i n C A inside H.base (λ h. false_not_true h) (λ _. goes_on_ends H.rest H.goes)).is

    pub type_of_head : {ts : Text} (H : Head ts) (inside : Bool) → e.type_at names i inside ts ≡ verdict (deep_base names n H.base) (read_of H) H.rest
    unfolding e.type_at
    type_of_head {ts} H inside = passed (next_is m.constant) _ _ ts (next_not (begins_base names) m.constant (base_not_constant names) ts (first_base names H.base)) ∙ base_of_head H inside

    -- an operand that begins with a type, and what goes on behind it
    pub unary_by_base : {B : Type 0} (f : Place → Expr → Parser B) (ts : Text) → is_next (next_is (begins_base names)) ts ≡ true
        → and_then (e.unary names i ts) (λ u. f u.place u.of) ≡ and_then (e.base_at names i false ts) (λ b. e.postfix_of names i b >>= f b.place)
    unfolding e.primary e.postfix_of
    unary_by_base {B} f ts h = ap (λ o. and_then o (λ u. f u.place u.of)) (plain_unary names i n C A ts (next_not (begins_base names) begins_operated (base_not_operated names) ts h) (next_not (begins_base names) m.paren_open (base_not_paren names) ts h)
        ∙ ap (λ o. and_then o (postfixed names i n C A)) (picked (next_is (begins_base names)) _ _ ts h)) ∙ go (e.base_at names i false ts)
      where
        last : (p : Place) (o : Outcome Expr) → and_then (and_then o (λ of. pure (e.placed p of))) (λ u. f u.place u.of) ≡ and_then o (f p)
        last p (Ok x) = refl
        last p (Err x) = refl

        middle : (p : Place) (o : Outcome Expr) → and_then (and_then (and_then o (λ of. pure (e.placed p of))) (postfixed names i n C A)) (λ u. f u.place u.of) ≡ and_then (and_then o (e.postfix_after names i p)) (f p)
        middle p (Ok x) = last p (e.postfix_after names i p x.0 x.1)
        middle p (Err x) = refl

        go : (o : Outcome TypeRead) → and_then (and_then (and_then o (λ b. e.after_base names i b >>= λ of. pure (e.placed b.place of))) (postfixed names i n C A)) (λ u. f u.place u.of) ≡ and_then o (λ b. (e.after_base names i b >>= e.postfix_after names i b.place) >>= f b.place)
        go (Ok b) = middle b.0.place (e.after_base names i b.0 b.1)
        go (Err x) = refl

    as_expr : Expr → Parser Bracketed
    as_expr of = pure (AnExpr of)

    expr_behind : TypeRead → Parser Expr
    expr_behind b = e.postfix_of names i b >>= e.expr_after names i b.place

    after_goes : (b : TypeRead) (r : Text) → e.is_constant b.sort ≡ false → is_next (next_is goes_on) r ≡ true → e.after_bracket_type names i b r ≡ and_then (expr_behind b r) as_expr
    unfolding e.after_bracket_type as_expr expr_behind
    after_goes b r h g = ap (λ c. (if c then pure (AType b.ty) else choose (next_is goes_on) (e.postfix_of names i b >>= λ first. e.expr_after names i b.place first >>= as_expr) (pure (AType b.ty))) r) h
        ∙ picked (next_is goes_on) (e.postfix_of names i b >>= λ first. e.expr_after names i b.place first >>= as_expr) (pure (AType b.ty)) r g ∙ sym (and_then_assoc (e.postfix_of names i b r) (e.expr_after names i b.place) as_expr)

    expr_of_head : {ts : Text} (H : Head ts) → e.expr names i ts ≡ and_then (verdict (deep_base names n H.base) (read_of H) H.rest) expr_behind
    unfolding e.expr expr_behind
    expr_of_head {ts} H = unary_by_base (e.expr_after names i) ts (first_base names H.base) ∙ ap (λ o. and_then o expr_behind) (base_of_head H false)

    bracketed_by_head : {ts : Text} (H : Head ts) → e.bracketed names i ts ≡ and_then (e.expr names i ts) as_expr
    unfolding e.bracketed
    bracketed_by_head {ts} H = picked (next_is (begins_type names)) _ _ ts (next_also (begins_base names) (begins_type names) (base_is_type names) ts (first_base names H.base))
        ∙ ap (λ o. and_then o (e.after_bracket_type names i)) (type_of_head H false) ∙ go (deep_base names n H.base) ∙ sym (ap (λ o. and_then o as_expr) (expr_of_head H))
      where
        go : (v : Option Text) → and_then (verdict v (read_of H) H.rest) (e.after_bracket_type names i) ≡ and_then (and_then (verdict v (read_of H) H.rest) expr_behind) as_expr
        go None = after_goes (read_of H) H.rest (base_sort H.base) H.goes
        go (Some x) = refl

    pub complete_bracketed_expr : {p : Place} {ts r : Text} {of : Expr} (d : ReadsExpr names p ts r of) → expr_ends r ≡ true → Is (e.bracketed names i ts) (deep_expr names n d) (AnExpr of) r
    unfolding e.bracketed as_expr
    complete_bracketed_expr {p} {ts} {r} {of} d h = go (is_next (next_is (begins_base names)) ts) refl
      where
        go : (b : Bool) → is_next (next_is (begins_base names)) ts ≡ b → Is (e.bracketed names i ts) (deep_expr names n d) (AnExpr of) r
        go true k = same (bracketed_by_head (head_of_expr d k)) (vlast _ (complete_expr names i n C A d h) refl)
        go false k = same (passed (next_is (begins_type names)) _ _ ts (not_type ts (first_expr names d) k)) (vlast _ (complete_expr names i n C A d h) refl)

    close_after : (s : Sort) (p c : Place) (of : Ty) (r : Text) → e.after_bracket_type names i (type_read p of s false) (at t.ParenClose c ∷ r) ≡ Ok (AType of, at t.ParenClose c ∷ r)
    unfolding e.after_bracket_type
    close_after sort.Constant p c of r = refl
    close_after sort.Word p c of r = refl
    close_after sort.Named p c of r = refl

    pub complete_bracketed_type : {s : Sort} {p c : Place} {ts r : Text} {of : Ty} (d : ReadsType names s false p ts (at t.ParenClose c ∷ r) of)
        → Is (e.bracketed names i ts) (deep_type names n d) (AType of) (at t.ParenClose c ∷ r)
    unfolding e.bracketed
    complete_bracketed_type {s = s} {p = p} {c = c} {ts = ts} {r = r} {of = of} d =
        same (picked (next_is (begins_type names)) _ _ ts (first_type names d)) (vlast _ (complete_type names i n C A false d (λ h. h) (λ _. refl)) (close_after s p c of r))

    -- ---- arguments between angle brackets

    as_value : Expr → Parser (TyArg × Bool)
    as_value of = pure (arg.Value of, false)

    sum_behind : TypeRead → Parser Expr
    sum_behind b = e.postfix_of names i b >>= e.chain_after names i sum b.place

    after_arg_goes : (p : Place) (of : Ty) (s : Sort) (r : Text) → e.is_constant s ≡ false → is_next (next_is goes_on) r ≡ true → e.after_arg_type names i (type_read p of s false) r ≡ and_then (sum_behind (type_read p of s false) r) as_value
    unfolding e.after_arg_type as_value sum_behind
    after_arg_goes p of s r h g =
        let b : TypeRead = type_read p of s false in
        ap (λ c. (if c then pure (arg.Named of, false) else choose (next_is goes_on) (e.postfix_of names i b >>= λ first. e.chain_after names i sum p first >>= as_value) (pure (arg.Named of, false))) r) h
        ∙ picked (next_is goes_on) (e.postfix_of names i b >>= λ first. e.chain_after names i sum p first >>= as_value) (pure (arg.Named of, false)) r g ∙ sym (and_then_assoc (e.postfix_of names i b r) (e.chain_after names i sum p) as_value)

    sum_of_head : {ts : Text} (H : Head ts) → e.additive names i ts ≡ and_then (verdict (deep_base names n H.base) (read_of H) H.rest) sum_behind
    unfolding e.additive sum_behind
    sum_of_head {ts} H = unary_by_base (e.chain_after names i sum) ts (first_base names H.base) ∙ ap (λ o. and_then o sum_behind) (base_of_head H false)

    ty_arg_by_head : {ts : Text} (H : Head ts) → e.ty_arg names i ts ≡ and_then (e.additive names i ts) as_value
    unfolding e.ty_arg
    ty_arg_by_head {ts} H = picked (next_is (begins_type names)) _ _ ts (next_also (begins_base names) (begins_type names) (base_is_type names) ts (first_base names H.base))
        ∙ ap (λ o. and_then o (e.after_arg_type names i)) (type_of_head H true) ∙ go (deep_base names n H.base) ∙ sym (ap (λ o. and_then o as_value) (sum_of_head H))
      where
        go : (v : Option Text) → and_then (verdict v (read_of H) H.rest) (e.after_arg_type names i) ≡ and_then (and_then (verdict v (read_of H) H.rest) sum_behind) as_value
        go None = after_arg_goes H.place H.of H.sort H.rest (base_sort H.base) H.goes
        go (Some x) = refl

    value_arg : {p : Place} {ts r : Text} {of : Expr} (d : ReadsChain names sum p ts r of) → ends sum r ≡ true → Is (e.ty_arg names i ts) (deep_chain names n d) (arg.Value of, false) r
    unfolding e.ty_arg as_value
    value_arg {p} {ts} {r} {of} d h = go (is_next (next_is (begins_base names)) ts) refl
      where
        go : (b : Bool) → is_next (next_is (begins_base names)) ts ≡ b → Is (e.ty_arg names i ts) (deep_chain names n d) (arg.Value of, false) r
        go true k = same (ty_arg_by_head (head_of_chain d k)) (vlast _ (complete_additive names i n C A d h) refl)
        go false k = same (passed (next_is (begins_type names)) _ _ ts (not_type ts (first_chain names d) k)) (vlast _ (complete_additive names i n C A d h) refl)

    after_arg : (s : Sort) (both : Bool) (p : Place) (of : Ty) (r : Text) → (both ≡ false → arg_ends r ≡ true) → e.after_arg_type names i (type_read p of s both) r ≡ Ok ((arg.Named of, both), r)
    unfolding e.after_arg_type
    after_arg s true p of r h = refl
    after_arg sort.Constant false p of r h = refl
    after_arg sort.Word false p of r h = passed (next_is goes_on) _ _ r (not_true _ (and_right _ _ (and_right _ _ (h refl))))
    after_arg sort.Named false p of r h = passed (next_is goes_on) _ _ r (not_true _ (and_right _ _ (and_right _ _ (h refl))))

    pub complete_ty_arg : {both : Bool} {ts r : Text} {of : TyArg} (d : ReadsTyArg names both ts r of) → (both ≡ false → arg_ends r ≡ true) → Is (e.ty_arg names i ts) (deep_ty_arg names n d) (of, both) r
    unfolding deep_ty_arg e.ty_arg
    complete_ty_arg (ReadsTyArg.value_arg d) h = value_arg d (and_left _ _ (h refl))
    complete_ty_arg (ReadsTyArg.type_arg {s = s} {both = both} {p = p} {ts = ts} {r = r} {of = of} d) h =
        same (picked (next_is (begins_type names)) _ _ ts (first_type names d)) (vlast _ (complete_type names i n C A true d (λ _. refl) (λ b. and_left _ _ (and_right _ _ (h b)))) (after_arg s both p of r h))
