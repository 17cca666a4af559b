-- Assignments, steps, calls and local variables are read, up to the first token that opens a level too many.
use Rattle.std.specs.Prelude.{◌≡◌, ℕ, zero, suc, Bool, true, false, not, ◌&&◌, if◌then◌else◌, cond, List, ◌∷◌, Option, Some, None, is_some, Ok, refl}
use Rattle.std.proofs.Common.{sym, ◌∙◌, ap}
use Rattle.scc_base.specs.declared.names.Name.{Name}
use Rattle.scc_base.specs.declared.refusal.Place.{Place}
use Rattle.scc_bits_kinds.specs.declared.op.Op.{Op}
use Rattle.scc_tree.specs.declared.expr.Expr.{Expr}
use Rattle.scc_tree.specs.declared.local.Decl.{Decl}
use Rattle.scc_tree.specs.declared.local.Hold.{Hold}
use Rattle.scc_tree.specs.declared.local.LocalDecl.{LocalDecl}
use Rattle.scc_tree.specs.declared.local.LocalTree.{LocalTree}
use Rattle.scc_tree.specs.declared.simple.SimpleNode.TheVariants as act
use Rattle.scc_tree.specs.declared.simple.SimpleTree.{SimpleTree}
use Rattle.scc_tree.specs.declared.ty.Ty.{Ty}
use Rattle.scc_reading.specs.Level.{opens, ◌then◌}
use Rattle.scc_reading.specs.Reading.{and_then, ◌>>=◌, pure, take_at, is_next, choose}
use Rattle.scc_reading.proofs.Complete.{Is, verdict, vthen, vlast, same, done, by_level, then_assoc, picked, passed, Again, turn, last_turn}
use Rattle.scc_grammar_terminals.specs.declared.part.Line.{Line}
use Rattle.scc_grammar_terminals.specs.declared.part.Line.TheVariants.{ALocal, ASimple}
use Rattle.scc_grammar_terminals.specs.declared.part.Sort.{Sort}
use Rattle.scc_grammar_terminals.specs.declared.part.Sort.TheVariants as sort
use Rattle.scc_grammar_terminals.specs.declared.terminal.Terminal.{Terminal}
use Rattle.scc_grammar_terminals.specs.declared.terminal.Terminal.TheVariants as t
use Rattle.scc_grammar_spec.specs.Expressions.{ReadsUnary, ReadsPrimary}
use Rattle.scc_grammar_terminals.specs.First.{name_start, begins_base, begins_type, begins_operated, goes_on}
use Rattle.scc_grammar_terminals.specs.Inner.{Inner}
use Rattle.scc_grammar_spec.specs.LevelsOfExpressions.{deep_base, deep_type, deep_expr, deep_unary, deep_primary, deep_exprs, deep_parts}
use Rattle.scc_grammar_spec.specs.LevelsOfStatements.{deep_sizes, deep_decl, deep_value, deep_local_decl, deep_more_locals, deep_local, deep_simple}
use Rattle.scc_grammar_terminals.specs.Marks as m
use Rattle.scc_grammar_terminals.specs.Names.{Names, is_type}
use Rattle.scc_grammar_terminals.specs.Operators.{every}
use Rattle.scc_grammar_spec.specs.ParseExpressions as e
use Rattle.scc_grammar_spec.specs.ParseStatements as s
use Rattle.scc_grammar_spec.specs.ParseStatements.{step}
use Rattle.scc_grammar_terminals.specs.StatementNodes.{decl_of, local_of, simple_of}
use Rattle.scc_grammar_spec.specs.Statements.{assignment, ReadsHold, ReadsSizes, ReadsDecl, ReadsValue, ReadsLocalDecl, ReadsMoreLocals, ReadsLocal, ReadsSimple}
use Rattle.scc_grammar_terminals.specs.Text.{Text, Parser, at, placed_at, next_is, next_says}
use Rattle.scc_grammar_complete.proofs.Follows.{stays, goes_behind, ends, expr_ends, type_ends, and_left, and_right, not_true, false_not_true, next_also, stays_not}
use Rattle.scc_grammar_complete.proofs.Firsts.{operated_not_base}
use Rattle.scc_grammar_complete.proofs.CompleteTypes.{type_read, Opened, Agains, then_none, first_base, first_type, first_primary, first_unary, base_is_type, complete_base, complete_type}
use Rattle.scc_grammar_complete.proofs.CompleteExpressions.{exprs_end, complete_after_brackets, complete_parts, parts_no_scope, complete_primary, complete_unary}
use Rattle.scc_grammar_complete.proofs.CompleteChains.{complete_expr, complete_argument_new, complete_argument_expr}
use Rattle.scc_grammar_complete.proofs.CompleteBrackets.{Head, head_of_primary, head_of_unary, base_sort, not_type, read_of, base_of_head, type_of_head}

-- what ends a value behind a declared name
abbrev pub value_ends : Text → Bool
value_ends ts = expr_ends ts && stays m.assign ts

-- what ends an assignment, a step or a call
abbrev pub simple_ends : Text → Bool
simple_ends ts = expr_ends ts && (not (is_next (next_says assignment) ts) && not (is_next (next_says step) ts))

-- each repetition of statements goes on as long as its test says, and no turn of it is empty
pub record LocalAgains (names : Names) (i : Inner) : Type 0 where
  pub sizes : Again (next_is m.bracket_open) (s.one_size names i)
  pub locals : Again (next_is m.comma) (s.one_local names i)

bracket_goes : (w : Terminal) → m.bracket_open w ≡ true → goes_behind w ≡ true
bracket_goes t.BracketOpen h = refl
bracket_goes _ h = cc

paren_goes : (w : Terminal) → m.paren_open w ≡ true → goes_behind w ≡ true
paren_goes t.ParenOpen h = refl
paren_goes _ h = cc

assignment_ends : (w : Terminal) (o : Option Op) (q : Place) (a : Text) → assignment w ≡ Some o → ends zero (at w q ∷ a) ≡ true
assignment_ends t.Assign o q a h = refl
assignment_ends (t.Update x) o q a h = refl
assignment_ends _ o q a h = cc

operated_not_step : (w : Terminal) → begins_operated w ≡ true → is_some (step w) ≡ false
operated_not_step (t.Step x) h = cc
operated_not_step _ h = refl

pub ends_zero : (k : ℕ) (ts : Text) → ends k ts ≡ true → ends zero ts ≡ true
ends_zero zero ts h = h
ends_zero (suc k) ts h = ends_zero k ts (and_left _ _ h)

pub expr_ends_zero : (ts : Text) → expr_ends ts ≡ true → ends zero ts ≡ true
expr_ends_zero ts h = ends_zero every ts (and_left _ _ h)

pub complete_hold : {x : Name} {p : Place} {ts a : Text} {h : Hold} → ReadsHold ts (at (t.Ident x) p ∷ a) h → s.hold_at ts ≡ Ok (h, at (t.Ident x) p ∷ a)
unfolding s.hold_at
complete_hold (ReadsHold.direct) = refl
complete_hold (ReadsHold.pointer) = refl
complete_hold (ReadsHold.reference) = refl

module _ (names : Names) (i : Inner) (n : ℕ) (C : Opened names i n) (A : Agains names i) (L : LocalAgains names i) where
  -- ---- declared names

  sizes_no_bracket : (r : Text) → ends zero r ≡ true → is_next (next_is m.bracket_open) r ≡ false
  sizes_no_bracket r h = stays_not goes_behind m.bracket_open bracket_goes r h

  pub complete_sizes : {ts r : Text} {of : List Expr} (d : ReadsSizes names ts r of) → is_next (next_is m.bracket_open) r ≡ false → Is (s.sizes names i ts) (deep_sizes names n d) of r
  unfolding deep_sizes s.sizes
  complete_sizes (ReadsSizes.no_sizes {r = r}) h = last_turn _ _ r L.sizes h
  complete_sizes (ReadsSizes.sizes {p = p} {a = a} d ds) h = turn _ _ (at t.BracketOpen p ∷ a) L.sizes refl (vlast _ (C.expr d refl) refl) (complete_sizes ds h)

  pub complete_decl_after : (h : Hold) (x : Name) (p : Place) {a r : Text} {of : List Expr} (d : ReadsSizes names a r of) → is_next (next_is m.bracket_open) r ≡ false
      → Is (s.decl_after names i h (at (t.Ident x) p ∷ a)) (deep_sizes names n d) (decl_of h (x, p) of) r
  unfolding s.decl_after
  complete_decl_after h x p d k = vlast _ (complete_sizes d k) refl

  pub complete_decl : {ts r : Text} {of : Decl} (d : ReadsDecl names ts r of) → is_next (next_is m.bracket_open) r ≡ false → Is (s.decl names i ts) (deep_decl names n d) of r
  unfolding deep_decl s.decl
  complete_decl (ReadsDecl.decl {x = x} {p = p} {a = a} {h = h} w d) k = same (ap (λ o. and_then o (s.decl_after names i)) (complete_hold w)) (complete_decl_after h x p d k)

  complete_value : {ts r : Text} {of : Option Expr} (d : ReadsValue names ts r of) → value_ends r ≡ true → Is (s.value names i ts) (deep_value names n d) of r
  unfolding deep_value s.value s.condition
  complete_value (ReadsValue.no_value {r = r}) h = done (passed (next_is m.assign) _ _ r (not_true _ (and_right _ _ h)) ∙ passed (next_is m.paren_open) _ _ r (stays_not goes_behind m.paren_open paren_goes r (expr_ends_zero r (and_left _ _ h))))
  complete_value (ReadsValue.value d) h = vlast _ (complete_expr names i n C A d (and_left _ _ h)) refl
  complete_value (ReadsValue.value_in_brackets d) h = vlast _ (vlast _ (C.expr d refl) refl) refl

  value_no_bracket : {ts r : Text} {of : Option Expr} → ReadsValue names ts r of → value_ends r ≡ true → is_next (next_is m.bracket_open) ts ≡ false
  value_no_bracket (ReadsValue.no_value {r = r}) h = sizes_no_bracket r (expr_ends_zero r (and_left _ _ h))
  value_no_bracket (ReadsValue.value d) h = refl
  value_no_bracket (ReadsValue.value_in_brackets d) h = refl

  complete_local_decl : {ts r : Text} {of : LocalDecl} (d : ReadsLocalDecl names ts r of) → value_ends r ≡ true → Is (s.local_decl names i ts) (deep_local_decl names n d) of r
  unfolding deep_local_decl s.local_decl
  complete_local_decl (ReadsLocalDecl.local_decl d v) h = vthen _ (complete_decl d (value_no_bracket v h)) (vlast _ (complete_value v h) refl)

  more_locals_end : {c : Place} {ts r : Text} {of : List LocalDecl} → ReadsMoreLocals names ts (at t.Semicolon c ∷ r) of → value_ends ts ≡ true
  more_locals_end (ReadsMoreLocals.no_more_locals) = refl
  more_locals_end (ReadsMoreLocals.more_locals d ds) = refl

  complete_more_locals : {c : Place} {ts r : Text} {of : List LocalDecl} (d : ReadsMoreLocals names ts (at t.Semicolon c ∷ r) of) → Is (s.more_locals names i ts) (deep_more_locals names n d) of (at t.Semicolon c ∷ r)
  unfolding deep_more_locals s.more_locals
  complete_more_locals {c = c} {r = r} (ReadsMoreLocals.no_more_locals) = last_turn _ _ (at t.Semicolon c ∷ r) L.locals refl
  complete_more_locals (ReadsMoreLocals.more_locals {c = k} {a = a} d ds) = turn _ _ (at t.Comma k ∷ a) L.locals refl (complete_local_decl d (more_locals_end ds)) (complete_more_locals ds)

  complete_local_after : (of : Ty) {c : Place} {a u r : Text} {d : LocalDecl} {rest : List LocalDecl} (k : ReadsLocalDecl names a u d) (ks : ReadsMoreLocals names u (at t.Semicolon c ∷ r) rest)
      → Is (s.local_after names i of a) (deep_local_decl names n k then deep_more_locals names n ks) (local_of of d rest) (at t.Semicolon c ∷ r)
  unfolding s.local_after
  complete_local_after of k ks = vthen _ (complete_local_decl k (more_locals_end ks)) (vlast _ (complete_more_locals ks) refl)

  decl_no_goes_on : {a r : Text} {d : LocalDecl} → ReadsLocalDecl names a r d → is_next (next_is goes_on) a ≡ false
  decl_no_goes_on (ReadsLocalDecl.local_decl (ReadsDecl.decl (ReadsHold.direct) d) v) = refl
  decl_no_goes_on (ReadsLocalDecl.local_decl (ReadsDecl.decl (ReadsHold.pointer) d) v) = refl
  decl_no_goes_on (ReadsLocalDecl.local_decl (ReadsDecl.decl (ReadsHold.reference) d) v) = refl

  pub decl_ends_type : {a r : Text} {d : Decl} → ReadsDecl names a r d → type_ends a ≡ true
  decl_ends_type (ReadsDecl.decl (ReadsHold.direct) d) = refl
  decl_ends_type (ReadsDecl.decl (ReadsHold.pointer) d) = refl
  decl_ends_type (ReadsDecl.decl (ReadsHold.reference) d) = refl

  local_ends_type : {a r : Text} {d : LocalDecl} → ReadsLocalDecl names a r d → type_ends a ≡ true
  local_ends_type (ReadsLocalDecl.local_decl d v) = decl_ends_type d

  as_local : LocalTree → Parser Line
  as_local of = pure (ALocal of)

  local_first : (k : Sort) (p : Place) (of : Ty) (a : Text) → is_next (next_is goes_on) a ≡ false → s.first_after names i (type_read p of k false) a ≡ and_then (s.local_after names i of a) as_local
  unfolding s.first_after s.local_of_type as_local
  local_first sort.Constant p of a h = refl
  local_first sort.Word p of a h = passed (next_is goes_on) _ _ a h
  local_first sort.Named p of a h = passed (next_is goes_on) _ _ a h

  pub complete_local : {c : Place} {ts r : Text} {of : LocalTree} (d : ReadsLocal names ts (at t.Semicolon c ∷ r) of) → Is (s.local_or_simple names i ts) (deep_local names n d) (ALocal of) (at t.Semicolon c ∷ r)
  unfolding deep_local s.local_or_simple as_local
  complete_local (ReadsLocal.local {k = k} {p = p} {ts = ts} {a = a} {of = of} d l ls) =
      same (picked (next_is (begins_type names)) _ _ ts (first_type names d)) (vthen _ (complete_type names i n C A false d (λ h. h) (λ _. local_ends_type l))
      (same (local_first k p of a (decl_no_goes_on l)) (vlast _ (complete_local_after of l ls) refl)))

  -- ---- assignments, steps and calls

  no_base : (x : Name) → is_type names x ≡ false → begins_base names (t.Ident x) ≡ false
  no_base x h = ap (λ b. is_some (cond b (Some (name_start x)) None)) h

  plain_read : {p : Place} {ts r : Text} {of : Expr} (d : ReadsPrimary names p ts r of) → is_next (next_is (begins_base names)) ts ≡ false → is_next (next_is m.paren_open) ts ≡ false → is_next (next_is m.scope) r ≡ false
      → Is (e.plain names i ts) (deep_primary names n d) (e.placed p of) r
  unfolding e.primary
  plain_read {ts = ts} d h k g = same (sym (passed (next_is (begins_base names)) _ _ ts h)) (complete_primary names i n C A d k g)

  -- behind a primary
  complete_by_primary : {p : Place} {ts u r : Text} {first : Expr} {v : Option Text} {tree : SimpleTree} (d : ReadsPrimary names p ts u first) → is_next (next_is m.scope) u ≡ false
      → Is (s.simple_after names i p first u) v tree r → Is (s.any_simple names i ts) (deep_primary names n d then v) tree r
  unfolding deep_primary s.any_simple s.simple s.simple_of_type s.simple_open e.after_base e.make
  complete_by_primary (ReadsPrimary.number) g K = vthen _ (plain_read ReadsPrimary.number refl refl g) K
  complete_by_primary (ReadsPrimary.truth) g K = vthen _ (plain_read ReadsPrimary.truth refl refl g) K
  complete_by_primary (ReadsPrimary.this) g K = vthen _ (plain_read ReadsPrimary.this refl refl g) K
  complete_by_primary (ReadsPrimary.null) g K = vthen _ (plain_read ReadsPrimary.null refl refl g) K
  complete_by_primary (ReadsPrimary.name {x = x} {p = p} {r = a} w) g K = same (passed (next_is (begins_base names)) _ _ (at (t.Ident x) p ∷ a) (no_base x w)) (vthen _ (plain_read (ReadsPrimary.name w) (no_base x w) refl g) K)
  complete_by_primary (ReadsPrimary.scoped {x = x} {y = y} {p = p} {a = a} {b = b} {r = k} w) g K =
      same (passed (next_is (begins_base names)) _ _ (at (t.Ident x) p ∷ at t.Scope a ∷ at (t.Ident y) b ∷ k) (no_base x w)) (vthen _ (plain_read (ReadsPrimary.scoped w) (no_base x w) refl g) K)
  complete_by_primary (ReadsPrimary.scoped_type {ts = ts} d) g K = same (picked (next_is (begins_base names)) _ _ ts (first_base names d)) (vthen _ (complete_base names i n C A false d (λ h. h) (λ _. refl)) K)
  complete_by_primary (ReadsPrimary.make {ts = ts} {a = a} d f) g K =
      by_level (sym (then_assoc (deep_base names n d) (opens n a (λ m. deep_expr names m f)) _))
      (same (picked (next_is (begins_base names)) _ _ ts (first_base names d)) (vthen _ (complete_base names i n C A false d (λ h. h) (λ _. refl)) (vthen _ (vlast _ (C.expr f refl) refl) K)))
  complete_by_primary (ReadsPrimary.static_cast d f) g K = vthen _ (plain_read (ReadsPrimary.static_cast d f) refl refl g) K
  complete_by_primary (ReadsPrimary.static_cast_both d f) g K = vthen _ (plain_read (ReadsPrimary.static_cast_both d f) refl refl g) K
  complete_by_primary (ReadsPrimary.concat d f) g K = vthen _ (plain_read (ReadsPrimary.concat d f) refl refl g) K
  complete_by_primary (ReadsPrimary.brackets {p = p} {a = a} {first = first} d ds) g K =
      by_level (sym (then_assoc (opens n a (λ m. deep_expr names m d)) (deep_exprs names n ds) _))
      (vthen _ (C.bracketed_expr d (exprs_end names i n C A ds)) (vthen _ (complete_after_brackets names i n C A p first ds) K))

  -- behind a unary
  complete_by_unary : {p : Place} {ts u r : Text} {left : Expr} {v : Option Text} {tree : SimpleTree} (d : ReadsUnary names p ts u left) → ends zero u ≡ true
      → ((called : Bool) → Is (s.simple_by names i p left called u) v tree r) → Is (s.any_simple names i ts) (deep_unary names n d then v) tree r
  unfolding deep_unary s.any_simple s.simple s.simple_open s.simple_after e.parts
  complete_by_unary (ReadsUnary.operated {w = w} {p = p} {a = a} h d) g K =
      same (passed (next_is (begins_base names)) _ _ (at w p ∷ a) (operated_not_base names w (ap is_some h)) ∙ passed (next_says step) _ _ (at w p ∷ a) (operated_not_step w (ap is_some h)) ∙ picked (next_is begins_operated) _ _ (at w p ∷ a) (ap is_some h))
      (vthen _ (complete_unary names i n C A (ReadsUnary.operated h d) g) (K false))
  complete_by_unary (ReadsUnary.cast {a = a} {b = b} d f) g K =
      by_level (sym (then_assoc (opens n a (λ m. deep_type names m d)) (opens n b (λ m. deep_unary names m f)) _)) (vthen _ (C.bracketed_type d) (vthen _ (C.unary f g) (K false)))
  complete_by_unary (ReadsUnary.postfix {c = c} d ps) g K =
      by_level (sym (then_assoc (deep_primary names n d) (deep_parts names n ps) _)) (complete_by_primary d (parts_no_scope names i n C A ps g) (vthen _ (complete_parts names i n C A ps g) (K c)))

  pub complete_simple : {ts r : Text} {of : SimpleTree} (d : ReadsSimple names ts r of) → simple_ends r ≡ true → Is (s.any_simple names i ts) (deep_simple names n d) of r
  unfolding deep_simple s.any_simple s.simple s.simple_by s.simple_after s.assigned s.stepped e.parts
  complete_simple (ReadsSimple.assign {w = w} {o = o} {p = p} {q = q} {a = a} {left = left} l h d) g =
      complete_by_unary l (assignment_ends w o q a h) (λ called. same (picked (next_says assignment) _ _ (at w q ∷ a) (ap is_some h)
      ∙ ap (λ c. and_then (take_at (placed_at c q) (at w q) a) (λ o. e.argument names i >>= λ right. pure (simple_of p (act.Assign left o.0 o.1 right)))) h) (vlast _ (complete_argument_expr names i n C A d (and_left _ _ g)) refl))
  complete_simple (ReadsSimple.assign_new {w = w} {o = o} {p = p} {q = q} {a = a} {left = left} l h d) g =
      complete_by_unary l (assignment_ends w o q a h) (λ called. same (picked (next_says assignment) _ _ (at w q ∷ a) (ap is_some h)
      ∙ ap (λ c. and_then (take_at (placed_at c q) (at w q) a) (λ o. e.argument names i >>= λ right. pure (simple_of p (act.Assign left o.0 o.1 right)))) h) (vlast _ (complete_argument_new names i n C A d) refl))
  complete_simple (ReadsSimple.step_first {r = r} d) g = vlast _ (complete_unary names i n C A d (expr_ends_zero r (and_left _ _ g))) refl
  complete_simple (ReadsSimple.step_last d) g = by_level (then_none _) (complete_by_unary d refl (λ called. done refl))
  complete_simple (ReadsSimple.call {r = r} d ps) g =
      complete_by_primary d (parts_no_scope names i n C A ps (expr_ends_zero r (and_left _ _ g))) (vlast _ (complete_parts names i n C A ps (expr_ends_zero r (and_left _ _ g)))
      (passed (next_says assignment) _ _ r (not_true _ (and_left _ _ (and_right _ _ g))) ∙ passed (next_says step) _ _ r (not_true _ (and_right _ _ (and_right _ _ g)))))

  -- ---- behind a type: a local variable or an expression

  as_simple : SimpleTree → Parser Line
  as_simple of = pure (ASimple of)

  first_goes : (p : Place) (of : Ty) (k : Sort) (r : Text) → e.is_constant k ≡ false → is_next (next_is goes_on) r ≡ true → s.first_after names i (type_read p of k false) r ≡ and_then (s.simple_of_type names i (type_read p of k false) r) as_simple
  unfolding s.first_after as_simple
  first_goes p of k r h g =
      ap (λ c. (if c then s.local_of_type names i (type_read p of k false) else choose (next_is goes_on) (s.simple_of_type names i (type_read p of k false) >>= as_simple) (s.local_of_type names i (type_read p of k false))) r) h
      ∙ picked (next_is goes_on) (s.simple_of_type names i (type_read p of k false) >>= as_simple) (s.local_of_type names i (type_read p of k false)) r g

  head_of_simple : {ts r : Text} {of : SimpleTree} → ReadsSimple names ts r of → is_next (next_is (begins_base names)) ts ≡ true → Head names ts
  head_of_simple (ReadsSimple.assign l h d) k = head_of_unary names l k
  head_of_simple (ReadsSimple.assign_new l h d) k = head_of_unary names l k
  head_of_simple (ReadsSimple.step_first d) k = false_not_true k
  head_of_simple (ReadsSimple.step_last d) k = head_of_unary names d k
  head_of_simple (ReadsSimple.call d ps) k = head_of_primary names d k

  simple_not_type : {ts r : Text} {of : SimpleTree} → ReadsSimple names ts r of → is_next (next_is (begins_base names)) ts ≡ false → is_next (next_is (begins_type names)) ts ≡ false
  simple_not_type (ReadsSimple.assign {ts = ts} l h d) k = not_type names ts (first_unary names l) k
  simple_not_type (ReadsSimple.assign_new {ts = ts} l h d) k = not_type names ts (first_unary names l) k
  simple_not_type (ReadsSimple.step_first d) k = refl
  simple_not_type (ReadsSimple.step_last {ts = ts} d) k = not_type names ts (first_unary names d) k
  simple_not_type (ReadsSimple.call {ts = ts} d ps) k = not_type names ts (first_primary names d) k

  simple_by_head : {ts : Text} (H : Head names ts) → s.local_or_simple names i ts ≡ and_then (s.any_simple names i ts) as_simple
  unfolding s.local_or_simple s.any_simple
  simple_by_head {ts} H =
      picked (next_is (begins_type names)) _ _ ts (next_also (begins_base names) (begins_type names) (base_is_type names) ts (first_base names H.base))
      ∙ ap (λ o. and_then o (s.first_after names i)) (type_of_head names i n C A H false) ∙ go (deep_base names n H.base)
      ∙ sym (ap (λ o. and_then o as_simple) (picked (next_is (begins_base names)) (e.base_at names i false >>= s.simple_of_type names i) (s.simple names i) ts (first_base names H.base) ∙ ap (λ o. and_then o (s.simple_of_type names i)) (base_of_head names i n C A H false)))
    where
      go : (v : Option Text) → and_then (verdict v (read_of names i n C A H) H.rest) (s.first_after names i) ≡ and_then (and_then (verdict v (read_of names i n C A H) H.rest) (s.simple_of_type names i)) as_simple
      go None = first_goes H.place H.of H.sort H.rest (base_sort names H.base) H.goes
      go (Some x) = refl

  line_of_simple : {ts r : Text} {of : SimpleTree} → ReadsSimple names ts r of → s.local_or_simple names i ts ≡ and_then (s.any_simple names i ts) as_simple
  unfolding s.local_or_simple s.any_simple as_simple
  line_of_simple {ts} d = go (is_next (next_is (begins_base names)) ts) refl
    where
      go : (b : Bool) → is_next (next_is (begins_base names)) ts ≡ b → s.local_or_simple names i ts ≡ and_then (s.any_simple names i ts) as_simple
      go true k = simple_by_head (head_of_simple d k)
      go false k = passed (next_is (begins_type names)) _ _ ts (simple_not_type d k) ∙ sym (ap (λ o. and_then o as_simple) (passed (next_is (begins_base names)) (e.base_at names i false >>= s.simple_of_type names i) (s.simple names i) ts k))

  pub complete_simple_line : {ts r : Text} {of : SimpleTree} (d : ReadsSimple names ts r of) → simple_ends r ≡ true → Is (s.local_or_simple names i ts) (deep_simple names n d) (ASimple of) r
  unfolding as_simple
  complete_simple_line d g = same (line_of_simple d) (vlast _ (complete_simple d g) refl)
