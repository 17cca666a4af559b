-- Types are read, up to the first token that opens a level too many.
use Rattle.std.specs.Prelude.{◌≡◌, ℕ, zero, ◌<◌, Bool, true, false, ◌||◌, ◌&&◌, if◌then◌else◌, cond, List, [], ◌∷◌, Option, Some, None, is_some, Ok, refl}
use Rattle.std.proofs.Common.{◌∙◌, ap}
use Rattle.scc_base.specs.declared.names.Name.{Name}
use Rattle.scc_base.specs.declared.refusal.Place.{Place}
use Rattle.scc_bits_kinds.specs.declared.kind.Kind.{Kind}
use Rattle.scc_tree.specs.declared.expr.Expr.{Expr}
use Rattle.scc_tree.specs.declared.expr.UnaryOp.{UnaryOp}
use Rattle.scc_tree.specs.declared.ty.Ty.{Ty}
use Rattle.scc_tree.specs.declared.ty.TyArg.{TyArg}
use Rattle.scc_tree.specs.declared.ty.TyNode.TheVariants as ty
use Rattle.scc_reading.specs.Level.{opens, ◌then◌}
use Rattle.scc_reading.specs.Reading.{and_then, pure, take_at, is_next}
use Rattle.scc_reading.proofs.Complete.{Is, vthen, vlast, same, done, by_level, picked, passed, Again, AgainIn, turn_in, last_turn_in}
use Rattle.scc_grammar_terminals.specs.declared.part.Bracketed.TheVariants.{AType, AnExpr}
use Rattle.scc_grammar_terminals.specs.declared.part.Sort.{Sort}
use Rattle.scc_grammar_terminals.specs.declared.part.TypeRead.{TypeRead}
use Rattle.scc_grammar_terminals.specs.declared.terminal.Terminal.{Terminal}
use Rattle.scc_grammar_terminals.specs.declared.terminal.Terminal.TheVariants as t
use Rattle.scc_grammar_spec.specs.Expressions.{ReadsShort, ReadsInteger, ReadsBase, ReadsType, ReadsTyArg, ReadsTyArgs, ReadsTyRest, ReadsChain, ReadsExpr, ReadsUnary, ReadsPrimary, ReadsNew}
use Rattle.scc_grammar_terminals.specs.First.{BaseStart, name_start, closing, base_start, primary_start, begins_operated, begins_base, begins_type, begins_expr, begins_ty_arg}
use Rattle.scc_grammar_terminals.specs.Inner.{Inner}
use Rattle.scc_grammar_spec.specs.LevelsOfExpressions.{deep_base, deep_type, deep_ty_arg, deep_ty_args, deep_ty_rest, deep_chain, deep_expr, deep_unary, deep_new}
use Rattle.scc_grammar_terminals.specs.Marks as m
use Rattle.scc_grammar_terminals.specs.Names.{Names, is_type, is_template}
use Rattle.scc_grammar_terminals.specs.Nodes.{base_of, held, native}
use Rattle.scc_grammar_terminals.specs.Operators.{sum, every, operator, unary_operator, closer}
use Rattle.scc_grammar_spec.specs.ParseExpressions as e
use Rattle.scc_grammar_terminals.specs.Text.{Text, Parser, at, placed_at, pick, next_is, next_says}
use Rattle.scc_grammar_complete.proofs.Follows.{ends, expr_ends, goes_in, type_ends, arg_ends, and_left, or_left, or_right, true_not_false, next_not, next_also, stays_not}

abbrev pub type_read : Place → Ty → Sort → Bool → TypeRead
type_read p of s both = record { place = p; ty = of; sort = s; both = both }

-- What opens a level is read where `n` are left.
pub record Opened (names : Names) (i : Inner) (n : ℕ) : Type 0 where
  pub expr : {p : Place} {ts r : Text} {of : Expr} (d : ReadsExpr names p ts r of) → expr_ends r ≡ true → Is (i.expr ts) (opens n ts (λ m. deep_expr names m d)) of r
  pub additive : {p : Place} {ts r : Text} {of : Expr} (d : ReadsChain names sum p ts r of) → ends sum r ≡ true → Is (i.additive ts) (opens n ts (λ m. deep_chain names m d)) of r
  pub ty : {s : Sort} {both : Bool} {p : Place} {ts r : Text} {of : Ty} (d : ReadsType names s both p ts r of) → (both ≡ false → type_ends r ≡ true)
      → Is (i.ty ts) (opens n ts (λ m. deep_type names m d)) (type_read p of s both) r
  pub ty_arg : {both : Bool} {ts r : Text} {of : TyArg} (d : ReadsTyArg names both ts r of) → (both ≡ false → arg_ends r ≡ true) → Is (i.ty_arg ts) (opens n ts (λ m. deep_ty_arg names m d)) (of, both) r
  pub bracketed_type : {s : Sort} {p c : Place} {ts r : Text} {of : Ty} (d : ReadsType names s false p ts (at t.ParenClose c ∷ r) of)
      → Is (i.bracketed ts) (opens n ts (λ m. deep_type names m d)) (AType of) (at t.ParenClose c ∷ r)
  pub bracketed_expr : {p : Place} {ts r : Text} {of : Expr} (d : ReadsExpr names p ts r of) → expr_ends r ≡ true → Is (i.bracketed ts) (opens n ts (λ m. deep_expr names m d)) (AnExpr of) r
  pub unary : {p : Place} {ts r : Text} {of : Expr} (d : ReadsUnary names p ts r of) → ends zero r ≡ true → Is (i.unary ts) (opens n ts (λ m. deep_unary names m d)) of r
  pub argument_new : {p : Place} {ts r : Text} {of : Expr} (d : ReadsNew names p ts r of) → Is (i.argument ts) (opens n ts (λ m. deep_new names m d)) of r
  pub argument_expr : {p : Place} {ts r : Text} {of : Expr} (d : ReadsExpr names p ts r of) → expr_ends r ≡ true → Is (i.argument ts) (opens n ts (λ m. deep_expr names m d)) of r

-- Each repetition goes on as long as its test says, and no turn of it is empty.
pub record Agains (names : Names) (i : Inner) : Type 0 where
  pub ty_args : AgainIn (e.next_ty_arg names i) (e.one_ty_arg names i)
  pub exprs : Again (next_is m.comma) (e.one_expr names i)
  pub cargs : Again (next_is m.comma) (e.one_carg names i)
  pub parts : AgainIn (e.next_part names i) (e.one_part names i)
  pub links : (k : ℕ) → k < every → Again (next_says (operator k)) (e.link_of names i k)

pub then_none : (v : Option Text) → (v then None) ≡ v
then_none None = refl
then_none (Some at) = refl

closing_closer : (inside both : Bool) → (both ≡ true → inside ≡ true) → closing inside (closer both) ≡ Some both
closing_closer true true h = refl
closing_closer true false h = refl
closing_closer false false h = refl
closing_closer false true h = let same : false ≡ true = h refl in cc

pub close_read : (inside both : Bool) (c : Place) (r : Text) → (both ≡ true → inside ≡ true) → e.close inside (at (closer both) c ∷ r) ≡ Ok (both, r)
close_read inside both c r h = ap (λ o. take_at o (at (closer both) c) r) (closing_closer inside both h)

ends_closer : (both : Bool) (c : Place) (r : Text) → ends sum (at (closer both) c ∷ r) ≡ true
ends_closer true c r = refl
ends_closer false c r = refl

type_ends_closer : (both : Bool) (c : Place) (r : Text) → type_ends (at (closer both) c ∷ r) ≡ true
type_ends_closer true c r = refl
type_ends_closer false c r = refl

arg_ends_closer : (both : Bool) (c : Place) (r : Text) → arg_ends (at (closer both) c ∷ r) ≡ true
arg_ends_closer true c r = refl
arg_ends_closer false c r = refl

-- ---- words alone

int_goes : (w : Terminal) → m.int w ≡ true → goes_in w ≡ true
int_goes t.Int h = refl
int_goes _ h = cc

short_goes : (w : Terminal) → m.short w ≡ true → goes_in w ≡ true
short_goes t.Short h = refl
short_goes _ h = cc

char_goes : (w : Terminal) → m.char w ≡ true → goes_in w ≡ true
char_goes t.Char h = refl
char_goes _ h = cc

less_goes : (w : Terminal) → m.less w ≡ true → goes_in w ≡ true
less_goes t.Less h = refl
less_goes _ h = cc

short_read : {a r : Text} → ReadsShort a r → type_ends r ≡ true → e.int_word a ≡ Ok (tt {0}, r)
unfolding e.int_word
short_read (ReadsShort.alone {r = r}) h = passed (next_is m.int) _ _ r (stays_not goes_in m.int int_goes r h)
short_read (ReadsShort.int) h = refl

integer_read : {s : Bool} {a r : Text} {k : Kind} → ReadsInteger s a r k → type_ends r ≡ true → e.integer s a ≡ Ok (k, r)
unfolding e.integer
integer_read (ReadsInteger.alone {r = r}) h = passed (next_is m.int) _ _ r (stays_not goes_in m.int int_goes r h) ∙ passed (next_is m.short) _ _ r (stays_not goes_in m.short short_goes r h) ∙ passed (next_is m.char) _ _ r (stays_not goes_in m.char char_goes r h)
integer_read (ReadsInteger.int) h = refl
integer_read (ReadsInteger.short {s = s} {a = a} d) h = ap (λ o. and_then o (λ _. pure (native 16 s))) (short_read d h)
integer_read (ReadsInteger.char) h = refl

module _ (names : Names) where
  name_first : (x : Name) → is_type names x ≡ true → begins_base names (t.Ident x) ≡ true
  name_first x h = ap (λ b. is_some (cond b (Some (name_start x)) None)) h

  pub first_base : {s : Sort} {both : Bool} {p : Place} {ts r : Text} {of : Ty} → ReadsBase names s both p ts r of → is_next (next_is (begins_base names)) ts ≡ true
  first_base (ReadsBase.bool) = refl
  first_base (ReadsBase.int) = refl
  first_base (ReadsBase.short d) = refl
  first_base (ReadsBase.long) = refl
  first_base (ReadsBase.signed d) = refl
  first_base (ReadsBase.unsigned d) = refl
  first_base (ReadsBase.sized d) = refl
  first_base (ReadsBase.holder d) = refl
  first_base (ReadsBase.holder_both d) = refl
  first_base (ReadsBase.clock_input) = refl
  first_base (ReadsBase.module_name) = refl
  first_base (ReadsBase.named {x = x} h) = name_first x h
  first_base (ReadsBase.with_args {x = x} h d) = name_first x (and_left _ _ h)

  pub base_is_type : (w : Terminal) → begins_base names w ≡ true → begins_type names w ≡ true
  base_is_type t.Const h = refl
  base_is_type _ h = h

  pub base_not_constant : (w : Terminal) → begins_base names w ≡ true → m.constant w ≡ false
  base_not_constant t.Const h = cc
  base_not_constant _ h = refl

  pub first_type : {s : Sort} {both : Bool} {p : Place} {ts r : Text} {of : Ty} → ReadsType names s both p ts r of → is_next (next_is (begins_type names)) ts ≡ true
  first_type (ReadsType.plain {ts = ts} d) = next_also (begins_base names) (begins_type names) base_is_type ts (first_base d)
  first_type (ReadsType.constant d) = refl

  base_is_expr : (w : Terminal) → begins_base names w ≡ true → begins_expr names w ≡ true
  base_is_expr w h = rw h refl

  operated_is_expr : (w : Terminal) (o : UnaryOp) → unary_operator w ≡ Some o → begins_expr names w ≡ true
  operated_is_expr w o h = or_left (begins_base names w || is_some (primary_start names w) || begins_operated w) (m.paren_open w) (or_right (begins_base names w || is_some (primary_start names w)) (begins_operated w) (ap is_some h))

  pub first_primary : {p : Place} {ts r : Text} {of : Expr} → ReadsPrimary names p ts r of → is_next (next_is (begins_expr names)) ts ≡ true
  first_primary (ReadsPrimary.number) = refl
  first_primary (ReadsPrimary.truth) = refl
  first_primary (ReadsPrimary.this) = refl
  first_primary (ReadsPrimary.null) = refl
  first_primary (ReadsPrimary.name h) = rw h refl
  first_primary (ReadsPrimary.scoped h) = rw h refl
  first_primary (ReadsPrimary.scoped_type {ts = ts} d) = next_also (begins_base names) (begins_expr names) base_is_expr ts (first_base d)
  first_primary (ReadsPrimary.make {ts = ts} d e) = next_also (begins_base names) (begins_expr names) base_is_expr ts (first_base d)
  first_primary (ReadsPrimary.static_cast d e) = refl
  first_primary (ReadsPrimary.static_cast_both d e) = refl
  first_primary (ReadsPrimary.concat d e) = refl
  first_primary (ReadsPrimary.brackets d ds) = refl

  pub first_unary : {p : Place} {ts r : Text} {of : Expr} → ReadsUnary names p ts r of → is_next (next_is (begins_expr names)) ts ≡ true
  first_unary (ReadsUnary.operated {w = w} {o = o} h d) = operated_is_expr w o h
  first_unary (ReadsUnary.cast d e) = refl
  first_unary (ReadsUnary.postfix d ps) = first_primary d

  pub first_chain : {k : ℕ} {p : Place} {ts r : Text} {of : Expr} → ReadsChain names k p ts r of → is_next (next_is (begins_expr names)) ts ≡ true
  first_chain (ReadsChain.operand d) = first_unary d
  first_chain (ReadsChain.chain d ls) = first_chain d

  pub first_expr : {p : Place} {ts r : Text} {of : Expr} → ReadsExpr names p ts r of → is_next (next_is (begins_expr names)) ts ≡ true
  first_expr (ReadsExpr.binary d) = first_chain d
  first_expr (ReadsExpr.choice d e f) = first_chain d

  pub type_is_ty_arg : (w : Terminal) → begins_type names w ≡ true → begins_ty_arg names w ≡ true
  type_is_ty_arg t.Const h = refl
  type_is_ty_arg w h = base_is_expr w h

  pub expr_is_ty_arg : (w : Terminal) → begins_expr names w ≡ true → begins_ty_arg names w ≡ true
  expr_is_ty_arg t.Const h = refl
  expr_is_ty_arg _ h = h

  ty_arg_not_closing : (w : Terminal) → begins_ty_arg names w ≡ true → is_some (closing true w) ≡ false
  ty_arg_not_closing t.Greater h = cc
  ty_arg_not_closing t.ShiftRight h = cc
  ty_arg_not_closing _ h = refl

  less_next : (b : Bool) (r : Text) → type_ends r ≡ true → is_next (λ s. b && m.less s.terminal) r ≡ false
  less_next true r h = stays_not goes_in m.less less_goes r h
  less_next false [] h = refl
  less_next false (s ∷ r) h = refl

  pub first_ty_arg : {both : Bool} {ts r : Text} {of : TyArg} → ReadsTyArg names both ts r of → is_next (next_is (begins_ty_arg names)) ts ≡ true
  first_ty_arg (ReadsTyArg.value_arg {ts = ts} d) = next_also (begins_expr names) (begins_ty_arg names) expr_is_ty_arg ts (first_chain d)
  first_ty_arg (ReadsTyArg.type_arg {ts = ts} d) = next_also (begins_type names) (begins_ty_arg names) type_is_ty_arg ts (first_type d)

  module _ (i : Inner) (n : ℕ) (C : Opened names i n) (A : Agains names i) where
    -- arguments behind the first, and where they end
    record Rest (both : Bool) (m r : Text) (v : Option Text) (rest : List TyArg) : Type 0 where
      closed : Bool
      mid : Text
      is : Is (e.more_ty_args names i false m) v (rest, closed) mid
      closes : (inside : Bool) → (both ≡ true → inside ≡ true) → e.close_unless closed inside mid ≡ Ok (both, r)

    no_more_args : (u : Bool) (r : Text) → (u ≡ false → is_next (next_is m.comma) r ≡ false) → is_next (e.next_ty_arg names i u) r ≡ false
    no_more_args true [] h = refl
    no_more_args true (s ∷ r) h = refl
    no_more_args false [] h = refl
    no_more_args false (s ∷ r) h = h refl

    closer_no_comma : (both : Bool) (c : Place) (r : Text) → is_next (next_is m.comma) (at (closer both) c ∷ r) ≡ false
    closer_no_comma true c r = refl
    closer_no_comma false c r = refl

    rest_ends : {both : Bool} {m r : Text} {rest : List TyArg} → ReadsTyRest names both m r rest → arg_ends m ≡ true
    rest_ends (ReadsTyRest.close_args {both = both} {c = c} {r = r}) = arg_ends_closer both c r
    rest_ends (ReadsTyRest.more_args d ds) = refl
    rest_ends (ReadsTyRest.last_both d) = refl

    after_last : (u : Bool) (r : Text) → (u ≡ false → is_next (next_is m.comma) r ≡ false) → Is (e.more_ty_args names i u r) None ([], u) r
    after_last u r h = last_turn_in _ _ u r A.ty_args (no_more_args u r h)

    complete_ty_rest : {both : Bool} {m r : Text} {rest : List TyArg} (d : ReadsTyRest names both m r rest) → Rest both m r (deep_ty_rest names n d) rest
    unfolding deep_ty_rest
    complete_ty_rest (ReadsTyRest.close_args {both = both} {c = c} {r = r}) =
        record { closed = false; mid = at (closer both) c ∷ r; is = after_last false (at (closer both) c ∷ r) (λ _. closer_no_comma both c r); closes = λ inside h. close_read inside both c r h }
    complete_ty_rest (ReadsTyRest.more_args {c = c} {a = a} d ds) =
        let k : Rest _ _ _ _ _ = complete_ty_rest ds in
        record { closed = k.closed; mid = k.mid; is = turn_in _ _ false (at t.Comma c ∷ a) A.ty_args refl (C.ty_arg d (λ _. rest_ends ds)) k.is; closes = k.closes }
    complete_ty_rest (ReadsTyRest.last_both {c = c} {a = a} {r = r} d) =
        record { closed = true; mid = r; is = by_level (then_none _) (turn_in _ _ false (at t.Comma c ∷ a) A.ty_args refl (C.ty_arg d (λ h. true_not_false h)) (after_last true r (λ h. true_not_false h))); closes = λ inside h. refl }

    not_closing : {both : Bool} {ts r : Text} {of : TyArg} → ReadsTyArg names both ts r of → is_next (next_says (closing true)) ts ≡ false
    not_closing {ts = ts} d = next_not (begins_ty_arg names) (λ w. is_some (closing true w)) ty_arg_not_closing ts (first_ty_arg d)

    closer_closes : (both : Bool) (c : Place) (r : Text) → is_next (next_says (closing true)) (at (closer both) c ∷ r) ≡ true
    closer_closes true c r = refl
    closer_closes false c r = refl

    pub complete_ty_args : (inside : Bool) {both : Bool} {ts r : Text} {of : List TyArg} (d : ReadsTyArgs names both ts r of) → (both ≡ true → inside ≡ true) → Is (e.ty_args names i inside ts) (deep_ty_args names n d) (of, both) r
    unfolding deep_ty_args e.ty_args
    complete_ty_args inside (ReadsTyArgs.no_args {both = both} {c = c} {r = r}) h =
        done (picked (next_says (closing true)) _ _ (at (closer both) c ∷ r) (closer_closes both c r) ∙ ap (λ o. and_then o (λ both. pure ([], both))) (close_read inside both c r h))
    complete_ty_args inside (ReadsTyArgs.args {both = both} {ts = ts} {first = first} {rest = rest} d ds) h =
        let k : Rest _ _ _ _ _ = complete_ty_rest ds in
        same (passed (next_says (closing true)) _ _ ts (not_closing d)) (vthen _ (C.ty_arg d (λ _. rest_ends ds)) (vlast _ k.is (ap (λ o. and_then o (λ both. pure (first ∷ rest, both))) (k.closes inside h))))
    complete_ty_args inside (ReadsTyArgs.arg_both {ts = ts} {r = r} d) h =
        same (passed (next_says (closing true)) _ _ ts (not_closing d)) (by_level (then_none _) (vthen _ (C.ty_arg d (λ h. true_not_false h)) (vlast _ (after_last true r (λ h. true_not_false h)) refl)))

    name_read : (x : Name) (p : Place) (r : Text) (f : BaseStart × Place → Parser TypeRead) → is_type names x ≡ true → and_then (take_at (pick (base_start names) (at (t.Ident x) p)) (at (t.Ident x) p) r) f ≡ f (name_start x, p) r
    name_read x p r f h = ap (λ b. and_then (take_at (placed_at (cond b (Some (name_start x)) None) p) (at (t.Ident x) p) r) f) h

    args_next : (x : Name) (l : Place) (a : Text) → is_template names x ≡ true → is_next (λ s. is_template names x && m.less s.terminal) (at t.Less l ∷ a) ≡ true
    args_next x l a h = rw h refl

    pub complete_base : (inside : Bool) {s : Sort} {both : Bool} {p : Place} {ts r : Text} {of : Ty} (d : ReadsBase names s both p ts r of) → (both ≡ true → inside ≡ true) → (both ≡ false → type_ends r ≡ true)
        → Is (e.base_at names i inside ts) (deep_base names n d) (type_read p of s both) r
    unfolding deep_base e.base_at e.base_by e.named_by
    complete_base inside (ReadsBase.bool) h k = done refl
    complete_base inside (ReadsBase.int) h k = done refl
    complete_base inside (ReadsBase.short {p = p} d) h k = done (ap (λ o. and_then o (λ _. pure (e.number_type p (native 16 true)))) (short_read d (k refl)))
    complete_base inside (ReadsBase.long) h k = done refl
    complete_base inside (ReadsBase.signed {p = p} d) h k = done (ap (λ o. and_then o (λ k. pure (e.number_type p k))) (integer_read d (k refl)))
    complete_base inside (ReadsBase.unsigned {p = p} d) h k = done (ap (λ o. and_then o (λ k. pure (e.number_type p k))) (integer_read d (k refl)))
    complete_base inside (ReadsBase.sized {both = both} {f = f} {p = p} {c = c} {r = r} {width = width} d) h k =
        vlast _ (C.additive d (ends_closer both c r)) (ap (λ o. and_then o (λ both. pure (e.word_type p (base_of p (ty.Sized f width)) both))) (close_read inside both c r h))
    complete_base inside (ReadsBase.holder {both = both} {h = w} {p = p} {c = c} {r = r} {of = of} d) h k =
        vlast _ (C.ty d (λ _. type_ends_closer both c r)) (ap (λ o. and_then o (λ both. pure (e.word_type p (base_of p (held w of)) both))) (close_read inside both c r h))
    complete_base inside (ReadsBase.holder_both d) h k = vlast _ (C.ty d (λ h. true_not_false h)) refl
    complete_base inside (ReadsBase.clock_input) h k = done refl
    complete_base inside (ReadsBase.module_name) h k = done refl
    complete_base inside (ReadsBase.named {x = x} {p = p} {r = r} w) h k =
        done (name_read x p r (λ s. e.base_by names i inside s.0 s.1) w ∙ passed (λ s. is_template names x && m.less s.terminal) _ _ r (less_next (is_template names x) r (k refl)))
    complete_base inside (ReadsBase.with_args {x = x} {p = p} {l = l} {a = a} w d) h k =
        same (name_read x p (at t.Less l ∷ a) (λ s. e.base_by names i inside s.0 s.1) (and_left _ _ w) ∙ picked (λ s. is_template names x && m.less s.terminal) _ _ (at t.Less l ∷ a) (args_next x l a w))
        (vlast _ (complete_ty_args inside d h) refl)

    pub complete_type : (inside : Bool) {s : Sort} {both : Bool} {p : Place} {ts r : Text} {of : Ty} (d : ReadsType names s both p ts r of) → (both ≡ true → inside ≡ true) → (both ≡ false → type_ends r ≡ true)
        → Is (e.type_at names i inside ts) (deep_type names n d) (type_read p of s both) r
    unfolding deep_type e.type_at
    complete_type inside (ReadsType.plain {ts = ts} d) h k = same (passed (next_is m.constant) _ _ ts (next_not (begins_base names) m.constant base_not_constant ts (first_base d))) (complete_base inside d h k)
    complete_type inside (ReadsType.constant d) h k = vlast _ (complete_base inside d h k) refl
