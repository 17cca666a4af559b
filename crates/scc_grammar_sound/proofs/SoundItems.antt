-- What is read as a declaration outside a class is one, each step can be completed, and none looks past the next token.
use Rattle.std.specs.Prelude.{◌≡◌, ℕ, Bool, true, false, ◌&&◌, List, [], ◌∷◌, Option, Some, None, refl, ◌⊎◌}
use Rattle.std.proofs.Common.{lit≤, inl, inr}
use Rattle.scc_base.specs.declared.names.Name.{Name}
use Rattle.scc_base.specs.declared.refusal.Place.{Place}
use Rattle.scc_tree.specs.declared.expr.Expr.{Expr}
use Rattle.scc_tree.specs.declared.item.Enumerator.{Enumerator}
use Rattle.scc_tree.specs.declared.item.Init.{Init}
use Rattle.scc_tree.specs.declared.item.Item.{Item}
use Rattle.scc_tree.specs.declared.item.Param.{Param}
use Rattle.scc_tree.specs.declared.item.Prm.{Prm}
use Rattle.scc_tree.specs.declared.ty.Ty.{Ty}
use Rattle.scc_tree.specs.declared.ty.TyArg.{TyArg}
use Rattle.scc_tree.specs.declared.ty.TyNode.TheVariants as ty
use Rattle.scc_reading.proofs.Answer.{Rule, Answers}
use Rattle.scc_reading.proofs.Core.{answers_by, answers_choose, answers_fail}
use Rattle.scc_reading.proofs.Repeat.{answers_repeat}
use Rattle.scc_reading.proofs.Steps.{answers_less, answers_seq, answers_mark, answers_mark_at, answers_pure_at, answers_if, answers_choose_by}
use Rattle.scc_grammar_terminals.specs.declared.part.Sort.{Sort}
use Rattle.scc_grammar_terminals.specs.declared.part.Sort.TheVariants as sort
use Rattle.scc_grammar_terminals.specs.declared.part.TypeRead.{TypeRead}
use Rattle.scc_grammar_terminals.specs.declared.terminal.Seen.{Seen}
use Rattle.scc_grammar_terminals.specs.declared.terminal.Terminal.{Terminal}
use Rattle.scc_grammar_terminals.specs.declared.terminal.Terminal.TheVariants as t
use Rattle.scc_grammar_terminals.specs.Marks as m
use Rattle.scc_grammar_terminals.specs.Names.{Names, is_type, is_template, with_type}
use Rattle.scc_grammar_terminals.specs.Nodes.{base_of, constant_of}
use Rattle.scc_grammar_spec.specs.Expressions.{ReadsBase, ReadsType, ReadsTyArgs, ReadsCargs}
use Rattle.scc_grammar_spec.specs.Items.{ReadsValue, ReadsEnumerator, ReadsMoreEnumerators, ReadsNumbers, ReadsConstantType, ReadsConstant, ReadsResult, ReadsPrm, ReadsMorePrms, ReadsPrms, ReadsQualifier, ReadsBody, ReadsFunction, ReadsFronts, ReadsInline, ReadsBases, ReadsInit, ReadsMoreInits, ReadsInits, ReadsConstructor, ReadsClassArgs, ReadsOutside, ReadsItem}
use Rattle.scc_grammar_spec.specs.ParseExpressions.{is_constant, constant_type}
use Rattle.scc_grammar_spec.specs.ParseStatements.{inner}
use Rattle.scc_grammar_spec.specs.ParseItems as p
use Rattle.scc_grammar_spec.specs.ParseItems.{ItemStart, alias_start, enum_start, front, init_start, before_constant, before_outside, or_none, named_of, is_first_name}
use Rattle.scc_grammar_terminals.specs.Text.{Text, at, next_is, next_says}
use Rattle.scc_grammar_sound.proofs.SoundMarks.{some_is, mark_assign, mark_comma, mark_colon, mark_semicolon, mark_scope, mark_less, mark_paren_open, mark_paren_close, mark_brace_open, mark_brace_close, mark_constant, mark_void_word, mark_inline_word, mark_public_word, mark_module_base, answers_pick, answers_name}
use Rattle.scc_grammar_sound.proofs.SoundRules.{RBase, Sound}
use Rattle.scc_grammar_sound.proofs.SoundTypes.{and_both, sound_base, sound_type, sound_ty_args}
use Rattle.scc_grammar_sound.proofs.SoundExpressions.{alone, alone_type, sound_expr, sound_cargs}
use Rattle.scc_grammar_sound.proofs.SoundStatements.{sound_hold, sound_block_of}
use Rattle.scc_grammar_sound.proofs.SoundLevels.{sound}

-- ---- words alone

pub sound_qualifier : Answers 0 (λ x ts r. ReadsQualifier ts r) p.qualifier
unfolding p.qualifier
sound_qualifier = answers_choose 0 _ _ _ _ (answers_less (lit≤ tt) (answers_mark mark_constant (answers_pure_at (λ y q. ReadsQualifier.qualified)))) (answers_pure_at (λ y. ReadsQualifier.unqualified))

abbrev FrontIs : Terminal → Bool → Type 0
FrontIs w true = w ≡ t.Static
FrontIs w false = w ≡ t.Inline

front_said : (w : Terminal) {a b : Bool} → Some a ≡ Some b → FrontIs w a → FrontIs w b
front_said w {a} {b} h d = let same : a ≡ b = some_is a b h in rw same at d

front_is : (w : Terminal) (b : Bool) → front w ≡ Some b → FrontIs w b
front_is t.Static b h = front_said t.Static h refl
front_is t.Inline b h = front_said t.Inline h refl
front_is _ b h = cc

abbrev pub RFront : Rule Seen Bool
RFront = λ x ts mid. (r : Text) (rest : List Bool) → ReadsFronts mid r rest → ReadsFronts ts r (x ∷ rest)

a_front : (b : Bool) (q : Place) (w : Terminal) (mid : Text) → FrontIs w b → (r : Text) (rest : List Bool) → ReadsFronts mid r rest → ReadsFronts (at w q ∷ mid) r (b ∷ rest)
a_front true q w mid h r rest d = rw h (ReadsFronts.static d)
a_front false q w mid h r rest d = rw h (ReadsFronts.inline d)

pub sound_front : Answers 1 RFront p.one_front
sound_front = answers_pick t.Static true refl (λ f. answers_pure_at (λ y w h r rest d. a_front f.0 f.1 w y (front_is w f.0 h) r rest d))

pub sound_fronts : Answers 0 (λ x ts r. ReadsFronts ts r x) p.fronts
unfolding p.fronts
sound_fronts = answers_repeat (next_says front) p.one_front 0 RFront sound_front (λ x ts r. ReadsFronts ts r x) (λ y. ReadsFronts.no_fronts) (λ a more ts mid r d k. d r more k)

pub sound_bases : Answers 0 (λ x ts r. ReadsBases ts r x) p.bases
unfolding p.bases
sound_bases = answers_choose 0 _ _ _ _ (answers_less (lit≤ tt) (answers_mark mark_colon (answers_choose 1 _ _ _ _ (answers_mark mark_public_word (answers_mark mark_module_base (answers_pure_at (λ y q w c. ReadsBases.public_base))))
    (answers_mark mark_module_base (answers_pure_at (λ y q c. ReadsBases.base)))))) (answers_pure_at (λ y. ReadsBases.no_bases))

-- nothing stands before it
pub no_fronts_is : {u ts : Text} {found : List Bool} → found ≡ [] → ReadsFronts u ts found → u ≡ ts
no_fronts_is h (ReadsFronts.no_fronts) = refl
no_fronts_is h (ReadsFronts.static d) = cc
no_fronts_is h (ReadsFronts.inline d) = cc

inline_of : (found : List Bool) {u ts : Text} → before_outside found ≡ true → ReadsFronts u ts found → ReadsInline u ts
inline_of [] h (ReadsFronts.no_fronts) = ReadsInline.bare
inline_of (false ∷ []) h (ReadsFronts.inline ReadsFronts.no_fronts) = ReadsInline.inline
inline_of (false ∷ f ∷ fs) h d = cc
inline_of (true ∷ fs) h d = cc

-- a constant behind what may stand before one
pub constant_item : {names : Names} (found : List Bool) {u ts r : Text} {of : Item} → before_constant found ≡ true → ReadsFronts u ts found → ReadsConstant names ts r of → ReadsItem names u names r of
constant_item [] h (ReadsFronts.no_fronts) d = ReadsItem.constant d
constant_item (true ∷ []) h (ReadsFronts.static ReadsFronts.no_fronts) d = ReadsItem.static_constant d
constant_item (true ∷ f ∷ fs) h k d = cc
constant_item (false ∷ fs) h k d = cc

is_constant_sort : (s : Sort) → is_constant s ≡ true → s ≡ sort.Constant
is_constant_sort sort.Constant h = refl
is_constant_sort sort.Word h = cc
is_constant_sort sort.Named h = cc

pub once_constant : {names : Names} (s : Sort) {q : Place} {ts r : Text} {of : Ty} → is_constant s ≡ true → ReadsType names s false q ts r of → ReadsConstantType names ts r of
once_constant s h d = ReadsConstantType.once (rw (is_constant_sort s h) at d)

-- the arguments that may stand behind a name
pub data ReadsNamed (names : Names) (x : Name) : Text → Text → Option (List TyArg) → Type 0 where
  bare : {r : Text} → ReadsNamed names x r r None
  with_args : {l : Place} {a r : Text} {args : List TyArg} → is_template names x ≡ true → ReadsTyArgs names false a r args → ReadsNamed names x (at t.Less l ∷ a) r (Some args)

class_args_of : {names : Names} {x : Name} {ts r : Text} {args : Option (List TyArg)} → ReadsNamed names x ts r args → ReadsClassArgs names x ts r (or_none args)
class_args_of ReadsNamed.bare = ReadsClassArgs.bare
class_args_of (ReadsNamed.with_args h d) = ReadsClassArgs.with_args h d

pub named_base : {names : Names} {x : Name} {q : Place} {ts r : Text} {args : Option (List TyArg)} → is_type names x ≡ true → ReadsNamed names x ts r args → ReadsBase names sort.Named false q (at (t.Ident x) q ∷ ts) r (base_of q (ty.Named x args))
named_base h ReadsNamed.bare = ReadsBase.named h
named_base h (ReadsNamed.with_args k d) = ReadsBase.with_args k d

abbrev pub item_word : ItemStart → Terminal
item_word alias_start = t.Typedef
item_word enum_start = t.Enum

abbrev InitIs : Terminal → Option Name → Type 0
InitIs w (Some x) = w ≡ t.Ident x
InitIs w None = w ≡ t.ModuleBase

init_said : (w : Terminal) {a b : Option Name} → Some a ≡ Some b → InitIs w a → InitIs w b
init_said w {a} {b} h d = let same : a ≡ b = some_is a b h in rw same at d

init_is : (w : Terminal) (a : Option Name) → init_start w ≡ Some a → InitIs w a
init_is (t.Ident x) a h = init_said (t.Ident x) h refl
init_is t.ModuleBase a h = init_said t.ModuleBase h refl
init_is _ a h = cc

module _ (n : ℕ) (names : Names) where
  S : Sound names (inner names n)
  S = sound names n

  -- ---- enumerations and definitions of types

  pub sound_value : Answers 0 (λ x ts r. ReadsValue names ts r x) (p.value n names)
  unfolding p.value
  sound_value = answers_choose 0 _ _ _ _ (answers_less (lit≤ tt) (answers_mark mark_assign (answers_seq (sound_expr names (inner names n) S) (λ of. answers_pure_at (λ y ts d q. ReadsValue.value d.1))))) (answers_pure_at (λ y. ReadsValue.no_value))

  pub sound_enumerator : Answers 1 (λ x ts r. ReadsEnumerator names ts r x) (p.enumerator n names)
  unfolding p.enumerator
  sound_enumerator = answers_name (λ x. answers_seq sound_value (λ v. answers_pure_at (λ y ts d. ReadsEnumerator.enumerator d)))

  abbrev pub ROneEnumerator : Rule Seen Enumerator
  ROneEnumerator = λ x ts mid. (r : Text) (rest : List Enumerator) → ReadsMoreEnumerators names mid r rest → ReadsMoreEnumerators names ts r (x ∷ rest)

  pub sound_one_enumerator : Answers 1 ROneEnumerator (p.one_enumerator n names)
  sound_one_enumerator = answers_mark mark_comma (answers_by _ _ (λ x ts mid d c r rest k. ReadsMoreEnumerators.more d k) sound_enumerator)

  pub sound_numbers : Answers 1 (λ x ts r. ReadsNumbers names ts r x) (p.numbers n names)
  unfolding p.numbers
  sound_numbers = answers_mark mark_brace_open (answers_seq sound_enumerator (λ first. answers_seq
      (answers_repeat (next_is m.comma) (p.one_enumerator n names) 0 ROneEnumerator sound_one_enumerator (λ x ts r. ReadsMoreEnumerators names ts r x) (λ y. ReadsMoreEnumerators.no_more) (λ a more ts mid r d k. d r more k))
      (λ more. answers_mark mark_brace_close (answers_mark mark_semicolon (answers_pure_at (λ y s c us e ts d o. ReadsNumbers.numbers d e))))))

  sound_alias : Answers 1 (λ x mid r. (w : Place) → ReadsItem names (at t.Typedef w ∷ mid) x.0 r x.1) (p.alias n names)
  unfolding p.alias
  sound_alias = answers_seq (sound_type names (inner names n) S false) (λ of. answers_name (λ x. answers_mark mark_semicolon (answers_pure_at (λ y s ts d w. ReadsItem.alias (alone_type names of ts _ d)))))

  -- ---- parts of functions

  pub sound_prm : Answers 1 (λ x ts r. ReadsPrm names ts r x) (p.prm n names)
  unfolding p.prm
  sound_prm = answers_seq (sound_type names (inner names n) S false) (λ of. answers_seq sound_hold (λ h. answers_name (λ x. answers_pure_at (λ y us e ts d. ReadsPrm.prm (alone_type names of ts us d) e))))

  abbrev pub ROnePrm : Rule Seen Prm
  ROnePrm = λ x ts mid. (r : Text) (rest : List Prm) → ReadsMorePrms names mid r rest → ReadsMorePrms names ts r (x ∷ rest)

  pub sound_one_prm : Answers 1 ROnePrm (p.one_prm n names)
  sound_one_prm = answers_mark mark_comma (answers_by _ _ (λ x ts mid d c r rest k. ReadsMorePrms.more d k) sound_prm)

  pub sound_prms : Answers 0 (λ x ts r. ReadsPrms names ts r x) (p.prms n names)
  unfolding p.prms
  sound_prms = answers_choose 0 _ _ _ _ (answers_pure_at (λ y. ReadsPrms.no_prms)) (answers_choose 0 _ _ _ _ (answers_less (lit≤ tt) (answers_mark mark_void_word (answers_pure_at (λ y q. ReadsPrms.nothing))))
      (answers_less (lit≤ tt) (answers_seq sound_prm (λ first. answers_seq
      (answers_repeat (next_is m.comma) (p.one_prm n names) 0 ROnePrm sound_one_prm (λ x ts r. ReadsMorePrms names ts r x) (λ y. ReadsMorePrms.no_more) (λ a more ts mid r d k. d r more k))
      (λ more. answers_pure_at (λ y us e ts d. ReadsPrms.prms d e))))))

  pub sound_body : Answers 1 (λ x ts r. ReadsBody names ts r x) (p.body n names)
  unfolding p.body
  sound_body = answers_choose 1 _ _ _ _ (answers_mark mark_semicolon (answers_pure_at (λ y s. ReadsBody.no_body))) (answers_seq (sound_block_of names (inner names n) S) (λ of. answers_pure_at (λ y ts d. ReadsBody.body d)))

  an_init : (x : Option Name) (q : Place) (args : List Expr) (w : Terminal) (o c : Place) (a r : Text) → InitIs w x → ReadsCargs names a (at t.ParenClose c ∷ r) args → ReadsInit names (at w q ∷ at t.ParenOpen o ∷ a) r (record { place = q; name = x; args = args })
  an_init (Some x) q args w o c a r h d = rw h (ReadsInit.named d)
  an_init None q args w o c a r h d = rw h (ReadsInit.base d)

  pub sound_init : Answers 1 (λ x ts r. ReadsInit names ts r x) (p.init n names)
  unfolding p.init
  sound_init = answers_pick t.ModuleBase None refl (λ x. answers_mark mark_paren_open (answers_seq (sound_cargs names (inner names n) S) (λ args. answers_mark mark_paren_close (answers_pure_at (λ y c ts d o w h. an_init x.0 x.1 args w o c ts y (init_is w x.0 h) d)))))

  abbrev pub ROneInit : Rule Seen Init
  ROneInit = λ x ts mid. (r : Text) (rest : List Init) → ReadsMoreInits names mid r rest → ReadsMoreInits names ts r (x ∷ rest)

  pub sound_one_init : Answers 1 ROneInit (p.one_init n names)
  sound_one_init = answers_mark mark_comma (answers_by _ _ (λ x ts mid d c r rest k. ReadsMoreInits.more d k) sound_init)

  pub sound_inits : Answers 0 (λ x ts r. ReadsInits names ts r x) (p.inits n names)
  unfolding p.inits
  sound_inits = answers_choose 0 _ _ _ _ (answers_less (lit≤ tt) (answers_mark mark_colon (answers_seq sound_init (λ first. answers_seq
      (answers_repeat (next_is m.comma) (p.one_init n names) 0 ROneInit sound_one_init (λ x ts r. ReadsMoreInits names ts r x) (λ y. ReadsMoreInits.no_more) (λ a more ts mid r d k. d r more k))
      (λ more. answers_pure_at (λ y us e ts d c. ReadsInits.inits d e)))))) (answers_pure_at (λ y. ReadsInits.no_inits))

  pub sound_named_args : (x : Name) → Answers 0 (λ args ts r. ReadsNamed names x ts r args) (p.named_args n names x)
  unfolding p.named_args
  sound_named_args x = answers_choose_by (λ s e. (and_both names (is_template names x) (m.less s.terminal) e).0)
      (λ e. answers_less (lit≤ tt) (answers_mark mark_less (answers_seq (sound_ty_args names (inner names n) S false) (λ args. answers_pure_at (λ y ts d l. ReadsNamed.with_args e (rw (d.1 refl) at d.0))))))
      (answers_pure_at (λ y. ReadsNamed.bare))

  -- ---- behind a name

  abbrev FunctionRest : Option Ty → Name × Place → Rule Seen Item
  FunctionRest result x = λ f mid r. (ts : Text) → ReadsResult names ts (at (t.Ident x.0) x.1 ∷ mid) result → ReadsFunction names ts r f

  pub sound_function_rest : (result : Option Ty) (x : Name × Place) → Answers 1 (FunctionRest result x) (p.function_rest n names result x)
  unfolding p.function_rest
  sound_function_rest result x = answers_mark mark_paren_open (answers_seq sound_prms (λ params. answers_mark mark_paren_close (answers_seq sound_qualifier (λ u. answers_seq sound_body (λ of.
      answers_pure_at (λ y ks g bs e c us d o ts k. ReadsFunction.function k d e g))))))

  abbrev pub ConstructorRest : Name × Place → Rule Seen Item
  ConstructorRest x = λ f mid r. ReadsConstructor names (at (t.Ident x.0) x.1 ∷ mid) r f × ((w : Place) → ReadsConstructor names (at t.Explicit w ∷ at (t.Ident x.0) x.1 ∷ mid) r f)

  pub sound_constructor_rest : (x : Name × Place) → Answers 1 (ConstructorRest x) (p.constructor_rest n names x)
  unfolding p.constructor_rest
  sound_constructor_rest x = answers_mark mark_paren_open (answers_seq sound_prms (λ params. answers_mark mark_paren_close (answers_seq sound_inits (λ found. answers_seq sound_body (λ of.
      answers_pure_at (λ y ks g bs e c us d o. (ReadsConstructor.named d e g, λ w. ReadsConstructor.explicit d e g)))))))

  abbrev pub ConstantRest : Ty → Name × Place → Rule Seen Item
  ConstantRest of x = λ c mid r. (ts : Text) → ReadsConstantType names ts (at (t.Ident x.0) x.1 ∷ mid) of → ReadsConstant names ts r c

  pub sound_constant_rest : (of : Ty) (x : Name × Place) → Answers 1 (ConstantRest of x) (p.constant_rest n names of x)
  unfolding p.constant_rest
  sound_constant_rest of x = answers_mark mark_assign (answers_seq (sound_expr names (inner names n) S) (λ v. answers_mark mark_semicolon (answers_pure_at (λ y s us d q ts k. ReadsConstant.constant k d.1))))

  abbrev OutsideFunction : List Param → Option Ty → Name × Place → Rule Seen Item
  OutsideFunction ps result x = λ f mid r. (u ts : Text) → ReadsInline u ts → ReadsResult names ts (at (t.Ident x.0) x.1 ∷ mid) result → ReadsOutside names ps u r f

  pub sound_outside_function : (ps : List Param) (result : Option Ty) (x : Name × Place) → Answers 0 (OutsideFunction ps result x) (p.outside_function n names ps result x)
  unfolding p.outside_function
  sound_outside_function ps result x = answers_seq (sound_named_args x.0) (λ args. answers_mark mark_scope (answers_name (λ z. answers_mark mark_paren_open (answers_seq sound_prms (λ params. answers_mark mark_paren_close
      (answers_seq sound_qualifier (λ u. answers_seq (sound_block_of names (inner names n) S) (λ of. answers_pure_at (λ y ks g bs e c us d o q vs a u ts i k. ReadsOutside.function i k (class_args_of a) d e g)))))))))

  abbrev OutsideConstructor : List Param → Name × Place → Option (List TyArg) → Rule Seen Item
  OutsideConstructor ps x args = λ f mid r. (ts : Text) → ReadsNamed names x.0 ts mid args → ReadsOutside names ps (at (t.Ident x.0) x.1 ∷ ts) r f

  pub sound_outside_constructor : (ps : List Param) (x : Name × Place) (args : Option (List TyArg)) → Answers 1 (OutsideConstructor ps x args) (p.outside_constructor n names ps x args)
  unfolding p.outside_constructor
  sound_outside_constructor ps x args = answers_mark mark_scope (answers_name (λ z. answers_mark mark_paren_open (answers_seq sound_prms (λ params. answers_mark mark_paren_close (answers_seq sound_inits (λ found.
      answers_seq (sound_block_of names (inner names n) S) (λ of. answers_pure_at (λ y ks g bs e c us d o q ts a. ReadsOutside.constructor (class_args_of a) d e g))))))))

  -- ---- functions, constants and bodies outside their class, in files

  abbrev pub Filed : Rule Seen Item
  Filed = λ f u r. ReadsItem names u names r f ⊎ ReadsOutside names [] u r f

  abbrev NamedFunction : List Bool → Option Ty → Name × Place → Rule Seen Item
  NamedFunction found result x = λ f mid r. (u ts : Text) → ReadsFronts u ts found → ReadsResult names ts (at (t.Ident x.0) x.1 ∷ mid) result → Filed f u r

  sound_named_function : (found : List Bool) (result : Option Ty) (x : Name × Place) → Answers 0 (NamedFunction found result x) (p.named_function n names found result x)
  unfolding p.named_function
  sound_named_function found result x =
      let rest : Answers 0 (NamedFunction found result x) (p.function_rest n names result x) = answers_less (lit≤ tt) (answers_by _ _ (λ f mid r d u ts k h. inl (ReadsItem.function k (d ts h))) (sound_function_rest result x)) in
      answers_if (before_outside found) (λ e. answers_choose 0 _ _ _ _ rest (answers_by _ _ (λ f mid r d u ts k h. inr (d u ts (inline_of found e k) h)) (sound_outside_function [] result x))) (λ e. rest)

  abbrev Typed : List Bool → TypeRead → Rule Seen Item
  Typed found of = λ f mid r. (u ts : Text) → ReadsFronts u ts found → ReadsType names of.sort false of.place ts mid of.ty → Filed f u r

  sound_typed : (found : List Bool) (of : TypeRead) → Answers 1 (Typed found of) (p.typed n names found of)
  unfolding p.typed
  sound_typed found of = answers_name (λ x.
      let rest : Answers 0 (λ f mid r. (u ts : Text) → ReadsFronts u ts found → ReadsType names of.sort false of.place ts (at (t.Ident x.0) x.1 ∷ mid) of.ty → Filed f u r) (p.named_function n names found (Some of.ty) x)
      = answers_by _ _ (λ f mid r d u ts k h. d u ts k (ReadsResult.result h)) (sound_named_function found (Some of.ty) x) in
      answers_if (is_constant of.sort && before_constant found) (λ e. answers_choose 0 _ _ _ _
      (answers_less (lit≤ tt) (answers_by _ _ (λ f mid r d u ts k h. let b : (is_constant of.sort ≡ true) × (before_constant found ≡ true) = and_both names (is_constant of.sort) (before_constant found) e in inl (constant_item found b.1 k (d ts (once_constant of.sort b.0 h)))) (sound_constant_rest of.ty x))) rest)
      (λ e. rest))

  abbrev pub ConstantTwice : Place → Rule Seen Item
  ConstantTwice q = λ f mid r. (c : Place) → ReadsConstant names (at t.Const q ∷ at t.Const c ∷ mid) r f

  pub sound_constant_twice : (q : Place) → Answers 1 (ConstantTwice q) (p.constant_twice n names q)
  unfolding p.constant_twice
  sound_constant_twice q = answers_seq (sound_base names (inner names n) S false) (λ of. answers_name (λ x. answers_by _ _ (λ f mid r d ts b c. d (at t.Const q ∷ at t.Const c ∷ ts) (ReadsConstantType.twice (ReadsType.constant (alone names of ts _ b)))) (sound_constant_rest (constant_of q of.ty) x)))

  pub constant_of_base : (q : Place) (of : TypeRead) (ts mid : Text) → RBase names false of ts mid → ReadsType names sort.Constant false q (at t.Const q ∷ ts) mid (constant_of q of.ty)
  constant_of_base q of ts mid d = ReadsType.constant (alone names of ts mid d)

  sound_constant_by : (found : List Bool) (q : Place) → Answers 1 (λ f mid r. (u : Text) → ReadsFronts u (at t.Const q ∷ mid) found → Filed f u r) (p.constant_by n names found q)
  unfolding p.constant_by
  sound_constant_by found q = answers_choose_by (λ s e. (and_both names (before_constant found) (m.constant s.terminal) e).0)
      (λ e. answers_mark mark_constant (answers_by _ _ (λ f mid r d c u k. inl (constant_item found e k (d c))) (sound_constant_twice q)))
      (answers_seq (sound_base names (inner names n) S false) (λ of. answers_by _ _ (λ f mid r d ts b u k. d u (at t.Const q ∷ ts) k (constant_of_base q of ts mid b)) (sound_typed found (constant_type q of))))

  sound_by_name : Answers 1 Filed (p.by_name n names)
  unfolding p.by_name
  sound_by_name = answers_name (λ x. answers_seq (sound_named_args x.0) (λ args.
      let made : Answers 0 (λ f mid r. (ts : Text) → ReadsNamed names x.0 ts mid args → Filed f (at (t.Ident x.0) x.1 ∷ ts) r) (p.outside_constructor n names [] x args) = answers_less (lit≤ tt) (answers_by _ _ (λ f mid r d ts a. inr (d ts a)) (sound_outside_constructor [] x args)) in
      answers_choose 0 _ _ _ _ made (answers_if (is_type names x.0)
      (λ e. answers_less (lit≤ tt) (answers_by _ _ (λ f mid r d ts a. d (at (t.Ident x.0) x.1 ∷ ts) (at (t.Ident x.0) x.1 ∷ ts) ReadsFronts.no_fronts (ReadsType.plain (named_base e a))) (sound_typed [] (named_of x args))))
      (λ e. answers_fail 0 _ made.some))))

  pub first_name : (found : List Bool) (s : Seen) → is_first_name found s ≡ true → found ≡ []
  first_name [] s h = refl
  first_name (f ∷ fs) s h = cc

  pub sound_fronted : (found : List Bool) → Answers 1 (λ f mid r. (u : Text) → ReadsFronts u mid found → Filed f u r) (p.fronted n names found)
  unfolding p.fronted
  sound_fronted found =
      answers_choose 1 _ _ _ _ (answers_mark mark_void_word (answers_name (λ x. answers_by _ _ (λ f mid r d q u k. d u (at t.Void q ∷ at (t.Ident x.0) x.1 ∷ mid) k ReadsResult.nothing) (sound_named_function found None x))))
      (answers_choose 1 _ _ _ _ (answers_mark_at mark_constant (λ q. answers_by _ _ (λ f mid r d u k. d u k) (sound_constant_by found q)))
      (answers_choose_by (first_name found) (λ e. answers_by _ _ (λ f mid r d u k. rw (no_fronts_is e k) d) sound_by_name)
      (answers_seq (sound_base names (inner names n) S false) (λ of. answers_by _ _ (λ f mid r d ts b u k. d u ts k (ReadsType.plain (alone names of ts mid b))) (sound_typed found of)))))

  -- ---- bodies outside their class, behind the parameters of a template

  sound_outside_result : (ps : List Param) → Answers 1 (λ f mid r. (u : Text) → ReadsInline u mid → ReadsOutside names ps u r f) (p.outside_result n names ps)
  unfolding p.outside_result
  sound_outside_result ps = answers_choose 1 _ _ _ _ (answers_mark mark_void_word (answers_name (λ x. answers_by _ _ (λ f mid r d q u i. d u (at t.Void q ∷ at (t.Ident x.0) x.1 ∷ mid) i ReadsResult.nothing) (sound_outside_function ps None x))))
      (answers_seq (sound_type names (inner names n) S false) (λ of. answers_name (λ x. answers_by _ _ (λ f mid r d ts b u i. d u ts i (ReadsResult.result (alone_type names of ts _ b))) (sound_outside_function ps (Some of.ty) x))))

  sound_outside_name : (ps : List Param) → Answers 1 (λ f ts r. ReadsOutside names ps ts r f) (p.outside_name n names ps)
  unfolding p.outside_name
  sound_outside_name ps = answers_name (λ x. answers_seq (sound_named_args x.0) (λ args.
      let made : Answers 0 (λ f mid r. (ts : Text) → ReadsNamed names x.0 ts mid args → ReadsOutside names ps (at (t.Ident x.0) x.1 ∷ ts) r f) (p.outside_constructor n names ps x args) = answers_less (lit≤ tt) (answers_by _ _ (λ f mid r d ts a. d ts a) (sound_outside_constructor ps x args)) in
      answers_choose 0 _ _ _ _ made (answers_if (is_type names x.0)
      (λ e. answers_less (lit≤ tt) (answers_name (λ z. answers_by _ _ (λ f mid r d ts a. d (at (t.Ident x.0) x.1 ∷ ts) (at (t.Ident x.0) x.1 ∷ ts) ReadsInline.bare (ReadsResult.result (ReadsType.plain (named_base e a)))) (sound_outside_function ps (Some (named_of x args).ty) z))))
      (λ e. answers_fail 0 _ made.some))))

  pub sound_outside : (ps : List Param) → Answers 1 (λ f ts r. ReadsOutside names ps ts r f) (p.outside n names ps)
  unfolding p.outside
  sound_outside ps = answers_choose 1 _ _ _ _ (answers_mark mark_inline_word (answers_by _ _ (λ f mid r d q. d (at t.Inline q ∷ mid) ReadsInline.inline) (sound_outside_result ps)))
      (answers_choose 1 _ _ _ _ (sound_outside_name ps) (answers_by _ _ (λ f ts r d. d ts ReadsInline.bare) (sound_outside_result ps)))

-- an enumeration may declare its name before what it holds
sound_enumeration : (n : ℕ) (names : Names) (w : Place) → Answers 1 (λ x mid r. ReadsItem names (at t.Enum w ∷ mid) x.0 r x.1) (p.enumeration n names w)
unfolding p.enumeration
sound_enumeration n names w = answers_choose 1 _ _ _ _ (answers_name (λ x. answers_seq (sound_numbers n (with_type names x.0)) (λ of. answers_pure_at (λ y ts d. ReadsItem.named_numbers d))))
    (answers_seq (sound_numbers n names) (λ of. answers_pure_at (λ y ts d. ReadsItem.numbers d)))

pub sound_item_by : (n : ℕ) (names : Names) (a : ItemStart) (w : Place) → Answers 1 (λ x mid r. ReadsItem names (at (item_word a) w ∷ mid) x.0 r x.1) (p.item_by n names a w)
unfolding p.item_by
sound_item_by n names alias_start w = answers_by _ _ (λ x mid r d. d w) (sound_alias n names)
sound_item_by n names enum_start w = sound_enumeration n names w
