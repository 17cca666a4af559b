-- Enumerations and the parts of functions are read, up to the first token that opens a level too many.
use Rattle.std.specs.Prelude.{◌≡◌, ℕ, Bool, true, false, ◌&&◌, if◌then◌else◌, List, [], ◌∷◌, Option, Some, None, Ok, refl}
use Rattle.std.proofs.Common.{◌∙◌, ap}
use Rattle.scc_base.specs.declared.names.Name.{Name}
use Rattle.scc_base.specs.declared.refusal.Place.{Place}
use Rattle.scc_tree.specs.declared.expr.Expr.{Expr}
use Rattle.scc_tree.specs.declared.item.Enumerator.{Enumerator}
use Rattle.scc_tree.specs.declared.item.Init.{Init}
use Rattle.scc_tree.specs.declared.item.ItemNode.TheVariants as item
use Rattle.scc_tree.specs.declared.item.Prm.{Prm}
use Rattle.scc_tree.specs.declared.local.Hold.{Hold}
use Rattle.scc_tree.specs.declared.stmt.Stmt.{Stmt}
use Rattle.scc_tree.specs.declared.ty.Ty.{Ty}
use Rattle.scc_tree.specs.declared.ty.TyArg.{TyArg}
use Rattle.scc_reading.specs.Level.{◌then◌}
use Rattle.scc_reading.specs.Reading.{and_then, ◌>>=◌, pure, token, is_next, repeat}
use Rattle.scc_reading.proofs.Complete.{Is, vthen, vlast, same, done, picked, passed, Again, AgainIn, AgainOn, turn, last_turn}
use Rattle.scc_grammar_terminals.specs.declared.part.Sort.{Sort}
use Rattle.scc_grammar_terminals.specs.declared.terminal.Terminal.{Terminal}
use Rattle.scc_grammar_terminals.specs.declared.terminal.Terminal.TheVariants as t
use Rattle.scc_grammar_spec.specs.Bodies.{item_of, function_of, constructor_of, function_item}
use Rattle.scc_grammar_spec.specs.Expressions.{ReadsType, ReadsExpr, ReadsTyArgs}
use Rattle.scc_grammar_terminals.specs.First.{begins_type}
use Rattle.scc_grammar_terminals.specs.Inner.{Inner}
use Rattle.scc_grammar_spec.specs.Items.{ReadsQualifier, ReadsValue, ReadsEnumerator, ReadsMoreEnumerators, ReadsNumbers, ReadsPrm, ReadsMorePrms, ReadsPrms, ReadsBody, ReadsInit, ReadsMoreInits, ReadsInits}
use Rattle.scc_grammar_spec.specs.LevelsOfExpressions.{deep_type, deep_expr, deep_ty_args}
use Rattle.scc_grammar_spec.specs.LevelsOfItems.{deep_value, deep_enumerator, deep_more_enumerators, deep_numbers, deep_prm, deep_more_prms, deep_prms, deep_body, deep_init, deep_more_inits, deep_inits}
use Rattle.scc_grammar_spec.specs.LevelsOfStatements.{deep_block}
use Rattle.scc_grammar_terminals.specs.Marks as m
use Rattle.scc_grammar_terminals.specs.Names.{Names, is_template}
use Rattle.scc_grammar_spec.specs.ParseExpressions as e
use Rattle.scc_grammar_spec.specs.ParseFile as f
use Rattle.scc_grammar_spec.specs.ParseItems as p
use Rattle.scc_grammar_spec.specs.ParseStatements as s
use Rattle.scc_grammar_spec.specs.ParseStatements.{inner}
use Rattle.scc_grammar_spec.specs.Statements.{ReadsHold, ReadsBlock}
use Rattle.scc_grammar_terminals.specs.Text.{Text, at, pick, next_is, next_says, name_at}
use Rattle.scc_grammar_complete.proofs.Follows.{type_ends, expr_ends, and_left, and_right, not_true, next_not}
use Rattle.scc_grammar_complete.proofs.CompleteTypes.{type_read, first_type, complete_type, complete_ty_args}
use Rattle.scc_grammar_complete.proofs.CompleteExpressions.{complete_cargs}
use Rattle.scc_grammar_complete.proofs.CompleteChains.{complete_expr}
use Rattle.scc_grammar_complete.proofs.CompleteSimple.{value_ends, complete_hold}
use Rattle.scc_grammar_complete.proofs.CompleteStatements.{complete_block}
use Rattle.scc_grammar_complete.proofs.CompleteLevels.{Complete, complete}

-- each repetition goes on as long as its test says, and no turn of it is empty
pub record ItemAgains (n : ℕ) : Type 0 where
  pub enumerators : (names : Names) → Again (next_is m.comma) (p.one_enumerator n names)
  pub prms : (names : Names) → Again (next_is m.comma) (p.one_prm n names)
  pub inits : (names : Names) → Again (next_is m.comma) (p.one_init n names)
  pub fronts : Again (next_says p.front) (token (pick p.front) >>= λ x. pure x.0)
  pub params : AgainIn (f.next_param n) (f.one_param n)
  pub decls : (names : Names) → Again (next_is m.comma) (f.one_decl n names)
  pub members : AgainOn f.is_member (f.member n)
  pub parts : AgainOn f.is_part (f.part n)

type_not_paren : (names : Names) (w : Terminal) → begins_type names w ≡ true → m.paren_close w ≡ false
type_not_paren names t.ParenClose h = cc
type_not_paren names _ h = refl

pub type_not_void : (names : Names) (w : Terminal) → begins_type names w ≡ true → m.void_word w ≡ false
type_not_void names t.Void h = cc
type_not_void names _ h = refl

-- ---- words alone

pub qualifier_read : {a r : Text} → ReadsQualifier a r → is_next (next_is m.constant) r ≡ false → p.qualifier a ≡ Ok (tt {0}, r)
unfolding p.qualifier
qualifier_read (ReadsQualifier.unqualified {r = r}) h = passed (next_is m.constant) _ _ r h
qualifier_read (ReadsQualifier.qualified) h = refl

module _ (names : Names) where
  hold_ends : {x : Name} {q : Place} {ts r : Text} {h : Hold} → ReadsHold ts (at (t.Ident x) q ∷ r) h → type_ends ts ≡ true
  hold_ends (ReadsHold.direct) = refl
  hold_ends (ReadsHold.pointer) = refl
  hold_ends (ReadsHold.reference) = refl

  pub block_first : (test : Terminal → Bool) → test t.BraceOpen ≡ false → {ts r : Text} {of : List Stmt} → ReadsBlock names ts r of → is_next (next_is test) ts ≡ false
  block_first test h (ReadsBlock.body d) = h

  pub body_first : (test : Terminal → Bool) → test t.BraceOpen ≡ false → test t.Semicolon ≡ false → {ts r : Text} {of : Option (List Stmt)} → ReadsBody names ts r of → is_next (next_is test) ts ≡ false
  body_first test h k (ReadsBody.no_body) = k
  body_first test h k (ReadsBody.body d) = block_first test h d

module _ (n : ℕ) (I : ItemAgains n) (names : Names) where
  abbrev i : Inner
  i = inner names n

  abbrev K : Complete names n
  K = complete names n

  pub type_complete : (inside : Bool) {q : Sort} {both : Bool} {k : Place} {ts r : Text} {of : Ty} (d : ReadsType names q both k ts r of) → (both ≡ true → inside ≡ true) → (both ≡ false → type_ends r ≡ true)
      → Is (e.type_at names (inner names n) inside ts) (deep_type names n d) (type_read k of q both) r
  type_complete inside d h g = complete_type names i n K.opened K.agains inside d h g

  pub expr_complete : {q : Place} {ts r : Text} {of : Expr} (d : ReadsExpr names q ts r of) → expr_ends r ≡ true → Is (e.expr names (inner names n) ts) (deep_expr names n d) of r
  expr_complete d h = complete_expr names i n K.opened K.agains d h

  pub ty_args_complete : {ts r : Text} {of : List TyArg} (d : ReadsTyArgs names false ts r of) → Is (e.ty_args names (inner names n) false ts) (deep_ty_args names n d) (of, false) r
  ty_args_complete d = complete_ty_args names i n K.opened K.agains false d (λ h. h)

  pub block_complete : {ts r : Text} {of : List Stmt} (d : ReadsBlock names ts r of) → Is (s.block_of names (inner names n) ts) (deep_block names n d) of r
  block_complete d = complete_block names i n K.opened K.agains K.locals K.stmts K.lists d

  -- ---- enumerations

  complete_value : {ts r : Text} {of : Option Expr} (d : ReadsValue names ts r of) → value_ends r ≡ true → Is (p.value n names ts) (deep_value names n d) of r
  unfolding deep_value p.value
  complete_value (ReadsValue.no_value {r = r}) h = done (passed (next_is m.assign) _ _ r (not_true _ (and_right _ _ h)))
  complete_value (ReadsValue.value d) h = vlast _ (expr_complete d (and_left _ _ h)) refl

  complete_enumerator : {ts r : Text} {of : Enumerator} (d : ReadsEnumerator names ts r of) → value_ends r ≡ true → Is (p.enumerator n names ts) (deep_enumerator names n d) of r
  unfolding deep_enumerator p.enumerator
  complete_enumerator (ReadsEnumerator.enumerator v) h = vlast _ (complete_value v h) refl

  more_enumerators_end : {c : Place} {ts r : Text} {of : List Enumerator} → ReadsMoreEnumerators names ts (at t.BraceClose c ∷ r) of → value_ends ts ≡ true
  more_enumerators_end (ReadsMoreEnumerators.no_more) = refl
  more_enumerators_end (ReadsMoreEnumerators.more d ds) = refl

  complete_more_enumerators : {c : Place} {ts r : Text} {of : List Enumerator} (d : ReadsMoreEnumerators names ts (at t.BraceClose c ∷ r) of)
      → Is (repeat (next_is m.comma) (p.one_enumerator n names) ts) (deep_more_enumerators names n d) of (at t.BraceClose c ∷ r)
  unfolding deep_more_enumerators
  complete_more_enumerators {c = c} {r = r} (ReadsMoreEnumerators.no_more) = last_turn _ _ (at t.BraceClose c ∷ r) (I.enumerators names) refl
  complete_more_enumerators (ReadsMoreEnumerators.more {c = k} {a = a} d ds) = turn _ _ (at t.Comma k ∷ a) (I.enumerators names) refl (complete_enumerator d (more_enumerators_end ds)) (complete_more_enumerators ds)

  pub complete_numbers : {ts r : Text} {of : List Enumerator} (d : ReadsNumbers names ts r of) → Is (p.numbers n names ts) (deep_numbers names n d) of r
  unfolding deep_numbers p.numbers
  complete_numbers (ReadsNumbers.numbers d ds) = vthen _ (complete_enumerator d (more_enumerators_end ds)) (vlast _ (complete_more_enumerators ds) refl)

  -- ---- parameters, bodies, initialisers

  prm_of : Ty → Hold → Name × Place → Prm
  prm_of of h x = record { place = x.1; ty = of; hold = h; name = x.0 }

  complete_prm : {ts r : Text} {of : Prm} (d : ReadsPrm names ts r of) → Is (p.prm n names ts) (deep_prm names n d) of r
  unfolding deep_prm p.prm prm_of
  complete_prm (ReadsPrm.prm {of = of} d h) = vlast _ (type_complete false d (λ h. h) (λ _. hold_ends names h)) (ap (λ o. and_then o (λ h. name_at >>= λ x. pure (prm_of of h x))) (complete_hold h))

  complete_more_prms : {c : Place} {ts r : Text} {of : List Prm} (d : ReadsMorePrms names ts (at t.ParenClose c ∷ r) of) → Is (repeat (next_is m.comma) (p.one_prm n names) ts) (deep_more_prms names n d) of (at t.ParenClose c ∷ r)
  unfolding deep_more_prms
  complete_more_prms {c = c} {r = r} (ReadsMorePrms.no_more) = last_turn _ _ (at t.ParenClose c ∷ r) (I.prms names) refl
  complete_more_prms (ReadsMorePrms.more {c = k} {a = a} d ds) = turn _ _ (at t.Comma k ∷ a) (I.prms names) refl (complete_prm d) (complete_more_prms ds)

  first_prm : {ts r : Text} {of : Prm} → ReadsPrm names ts r of → is_next (next_is (begins_type names)) ts ≡ true
  first_prm (ReadsPrm.prm d h) = first_type names d

  pub complete_prms : {c : Place} {ts r : Text} {of : List Prm} (d : ReadsPrms names ts (at t.ParenClose c ∷ r) of) → Is (p.prms n names ts) (deep_prms names n d) of (at t.ParenClose c ∷ r)
  unfolding deep_prms p.prms
  complete_prms (ReadsPrms.no_prms) = done refl
  complete_prms (ReadsPrms.nothing) = done refl
  complete_prms (ReadsPrms.prms {ts = ts} d ds) =
      same (passed (next_is m.paren_close) _ _ ts (next_not (begins_type names) m.paren_close (type_not_paren names) ts (first_prm d)) ∙ passed (next_is m.void_word) _ _ ts (next_not (begins_type names) m.void_word (type_not_void names) ts (first_prm d)))
      (vthen _ (complete_prm d) (vlast _ (complete_more_prms ds) refl))

  pub complete_body : {ts r : Text} {of : Option (List Stmt)} (d : ReadsBody names ts r of) → Is (p.body n names ts) (deep_body names n d) of r
  unfolding deep_body p.body
  complete_body (ReadsBody.no_body) = done refl
  complete_body (ReadsBody.body {ts = ts} d) = same (passed (next_is m.semicolon) _ _ ts (block_first names m.semicolon refl d)) (vlast _ (block_complete d) refl)

  complete_init : {ts r : Text} {of : Init} (d : ReadsInit names ts r of) → Is (p.init n names ts) (deep_init names n d) of r
  unfolding deep_init p.init
  complete_init (ReadsInit.named d) = vlast _ (complete_cargs names i n K.opened K.agains d) refl
  complete_init (ReadsInit.base d) = vlast _ (complete_cargs names i n K.opened K.agains d) refl

  complete_more_inits : {ts r : Text} {of : List Init} (d : ReadsMoreInits names ts r of) → is_next (next_is m.comma) r ≡ false → Is (repeat (next_is m.comma) (p.one_init n names) ts) (deep_more_inits names n d) of r
  unfolding deep_more_inits
  complete_more_inits (ReadsMoreInits.no_more {r = r}) h = last_turn _ _ r (I.inits names) h
  complete_more_inits (ReadsMoreInits.more {c = k} {a = a} d ds) h = turn _ _ (at t.Comma k ∷ a) (I.inits names) refl (complete_init d) (complete_more_inits ds h)

  pub complete_inits : {ts r : Text} {of : List Init} (d : ReadsInits names ts r of) → is_next (next_is m.colon) r ≡ false → is_next (next_is m.comma) r ≡ false → Is (p.inits n names ts) (deep_inits names n d) of r
  unfolding deep_inits p.inits
  complete_inits (ReadsInits.no_inits {r = r}) h k = done (passed (next_is m.colon) _ _ r h)
  complete_inits (ReadsInits.inits d ds) h k = vthen _ (complete_init d) (vlast _ (complete_more_inits ds k) refl)

  -- ---- behind a name

  pub complete_function_rest : (result : Option Ty) (x : Name) (q o : Place) {c : Place} {a b u r : Text} {params : List Prm} {of : Option (List Stmt)}
      (ps : ReadsPrms names a (at t.ParenClose c ∷ b) params) (w : ReadsQualifier b u) (d : ReadsBody names u r of)
      → Is (p.function_rest n names result (x, q) (at t.ParenOpen o ∷ a)) (deep_prms names n ps then deep_body names n d) (function_item (function_of q x result params of)) r
  unfolding p.function_rest
  complete_function_rest result x q o {params = params} ps w d =
      vthen _ (complete_prms ps) (same (ap (λ z. and_then z (λ _. p.body n names >>= λ of. pure (function_item (function_of q x result params of)))) (qualifier_read w (body_first names m.constant refl refl d))) (vlast _ (complete_body d) refl))

  pub complete_constructor_rest : (x : Name) (q o : Place) {c : Place} {a b u r : Text} {params : List Prm} {found : List Init} {of : Option (List Stmt)}
      (ps : ReadsPrms names a (at t.ParenClose c ∷ b) params) (is : ReadsInits names b u found) (d : ReadsBody names u r of)
      → Is (p.constructor_rest n names (x, q) (at t.ParenOpen o ∷ a)) (deep_prms names n ps then deep_inits names n is then deep_body names n d) (function_item (constructor_of q x params found of)) r
  unfolding p.constructor_rest
  complete_constructor_rest x q o ps is d =
      vthen _ (complete_prms ps) (vthen _ (complete_inits is (body_first names m.colon refl refl d) (body_first names m.comma refl refl d)) (vlast _ (complete_body d) refl))

  pub complete_constant_rest : (of : Ty) (x : Name) (q k : Place) {c j : Place} {a r : Text} {v : Expr} (d : ReadsExpr names j a (at t.Semicolon c ∷ r) v)
      → Is (p.constant_rest n names of (x, q) (at t.Assign k ∷ a)) (deep_expr names n d) (item_of q (Some x) (item.Constant of v)) r
  unfolding p.constant_rest
  complete_constant_rest of x q k d = vlast _ (expr_complete d refl) refl

  less_next : (b : Bool) (ts : Text) → is_next (next_is m.less) ts ≡ false → is_next (λ z. b && m.less z.terminal) ts ≡ false
  less_next true [] h = refl
  less_next true (z ∷ ts) h = h
  less_next false [] h = refl
  less_next false (z ∷ ts) h = refl

  pub no_args : (x : Name) (r : Text) → is_next (next_is m.less) r ≡ false → p.named_args n names x r ≡ Ok (None, r)
  unfolding p.named_args
  no_args x r h = passed (λ z. is_template names x && m.less z.terminal) _ _ r (less_next (is_template names x) r h)

  pub some_args : (x : Name) (l : Place) {a r : Text} {args : List TyArg} → is_template names x ≡ true → (d : ReadsTyArgs names false a r args) → Is (p.named_args n names x (at t.Less l ∷ a)) (deep_ty_args names n d) (Some args) r
  unfolding p.named_args
  some_args x l {a} h d = same (picked (λ z. is_template names x && m.less z.terminal) _ _ (at t.Less l ∷ a) (rw h refl)) (vlast _ (ty_args_complete d) refl)
