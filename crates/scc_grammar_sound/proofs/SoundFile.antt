-- What is read as a template, a class or a file is one, each step can be completed, and none looks past the next token.
use Rattle.std.specs.Prelude.{◌≡◌, ℕ, Bool, true, false, not, ◌&&◌, List, [], ◌∷◌, ◌++◌, Option, Some, None, refl}
use Rattle.std.proofs.Common.{lit≤, inl, inr}
use Rattle.scc_base.specs.declared.names.Name.{Name}
use Rattle.scc_base.specs.declared.refusal.Place.{Place}
use Rattle.scc_tree.specs.declared.item.Item.{Item}
use Rattle.scc_tree.specs.declared.item.Param.{Param}
use Rattle.scc_tree.specs.declared.item.ParamSort.{ParamSort}
use Rattle.scc_tree.specs.declared.item.ParamSort.TheVariants as sorts
use Rattle.scc_tree.specs.declared.local.Decl.{Decl}
use Rattle.scc_tree.specs.declared.ty.Ty.{Ty}
use Rattle.scc_tree.specs.declared.ty.TyArg.{TyArg}
use Rattle.scc_reading.specs.Reading.{◌>>=◌, pure, repeat_in}
use Rattle.scc_reading.proofs.Answer.{Rule, Answers}
use Rattle.scc_reading.proofs.Core.{answers_by, answers_choose, answers_fail}
use Rattle.scc_reading.proofs.Repeat.{answers_repeat, answers_repeat_while, answers_repeat_on}
use Rattle.scc_reading.proofs.Steps.{answers_less, answers_seq, answers_seq_last, answers_mark, answers_mark_at, answers_pure_at, answers_if, answers_choose_by}
use Rattle.scc_grammar_terminals.specs.declared.part.Sort.{Sort}
use Rattle.scc_grammar_terminals.specs.declared.part.TypeRead.{TypeRead}
use Rattle.scc_grammar_terminals.specs.declared.terminal.Seen.{Seen}
use Rattle.scc_grammar_terminals.specs.declared.terminal.Terminal.{Terminal}
use Rattle.scc_grammar_terminals.specs.declared.terminal.Terminal.TheVariants as t
use Rattle.scc_grammar_spec.specs.Bodies.{Body, begun, with_item, declared, class_item}
use Rattle.scc_grammar_terminals.specs.Marks as m
use Rattle.scc_grammar_terminals.specs.Names.{Names, no_names, is_type, is_template, with_type}
use Rattle.scc_grammar_spec.specs.Expressions.{ReadsType}
use Rattle.scc_grammar_spec.specs.Statements.{ReadsDecl, ReadsHold}
use Rattle.scc_grammar_spec.specs.Items.{value_sort, type_word, class_word, access_word, ReadsResult, ReadsFronts, ReadsBases, ReadsConstructor, ReadsItem, ReadsParam, ReadsParams, ReadsTemplate, ReadsMoreDecls, ReadsMember, ReadsMembers, ReadsSpecial, ReadsClass, ReadsPart, ReadsParts, Reads}
use Rattle.scc_grammar_spec.specs.ParseExpressions as e
use Rattle.scc_grammar_spec.specs.ParseExpressions.{is_constant, constant_type}
use Rattle.scc_grammar_spec.specs.ParseStatements as s
use Rattle.scc_grammar_spec.specs.ParseStatements.{inner}
use Rattle.scc_grammar_spec.specs.ParseItems as i
use Rattle.scc_grammar_spec.specs.ParseItems.{ItemStart, alias_start, enum_start, MemberStart, access_start, has_process_start, module_constructor_start, explicit_start, PartStart, using_start, template_start, member_begin, part_begin, begins_class, param_start, before_constant, named_of, Params, params_by, preset_of, is_first_name}
use Rattle.scc_grammar_spec.specs.ParseFile as p
use Rattle.scc_grammar_spec.specs.ParseFile.{may_specialise, no_front, is_member, is_part}
use Rattle.scc_grammar_terminals.specs.Text.{Text, at, next_is}
use Rattle.scc_grammar_sound.proofs.SoundMarks.{some_is, mark_assign, mark_comma, mark_colon, mark_semicolon, mark_less, mark_greater, mark_paren_open, mark_paren_close, mark_brace_open, mark_brace_close, mark_constant, mark_void_word, mark_module_word, mark_namespace, mark_library, answers_pick, answers_name, answers_is, answers_close_unless}
use Rattle.scc_grammar_sound.proofs.SoundTypes.{and_both, sound_base, sound_type, sound_ty_args}
use Rattle.scc_grammar_sound.proofs.SoundExpressions.{alone, sound_additive}
use Rattle.scc_grammar_sound.proofs.SoundStatements.{sound_decl, sound_sizes}
use Rattle.scc_grammar_sound.proofs.SoundLevels.{sound}
use Rattle.scc_grammar_sound.proofs.SoundItems.{named_base, no_fronts_is, constant_item, once_constant, constant_of_base, first_name, item_word, Filed, sound_fronts, sound_bases, sound_body, sound_inits, sound_named_args, sound_function_rest, sound_constructor_rest, sound_constant_rest, sound_constant_twice, sound_fronted, sound_outside, sound_item_by}

-- ---- what the first tokens say

abbrev ParamIs : Terminal → Option ParamSort → Type 0
ParamIs w (Some k) = value_sort w ≡ Some k
ParamIs w None = type_word w ≡ true

param_said : (w : Terminal) {a b : Option ParamSort} → Some a ≡ Some b → ParamIs w a → ParamIs w b
param_said w {a} {b} h d = let same : a ≡ b = some_is a b h in rw same at d

param_is : (w : Terminal) (a : Option ParamSort) → param_start w ≡ Some a → ParamIs w a
param_is t.Int a h = param_said t.Int h refl
param_is t.Unsigned a h = param_said t.Unsigned h refl
param_is t.Bool a h = param_said t.Bool h refl
param_is t.Class a h = param_said t.Class h refl
param_is t.Typename a h = param_said t.Typename h refl
param_is _ a h = cc

abbrev MemberIs : Terminal → MemberStart → Type 0
MemberIs w access_start = access_word w ≡ true
MemberIs w has_process_start = w ≡ t.HasProcess
MemberIs w module_constructor_start = w ≡ t.Constructor
MemberIs w explicit_start = w ≡ t.Explicit
MemberIs w (MemberStart.item_start a) = w ≡ item_word a

member_said : (w : Terminal) {a b : MemberStart} → Some a ≡ Some b → MemberIs w a → MemberIs w b
member_said w {a} {b} h d = let same : a ≡ b = some_is a b h in rw same at d

member_is : (w : Terminal) (a : MemberStart) → member_begin w ≡ Some a → MemberIs w a
member_is t.Public a h = member_said t.Public h refl
member_is t.Hidden a h = member_said t.Hidden h refl
member_is t.HasProcess a h = member_said t.HasProcess h refl
member_is t.Constructor a h = member_said t.Constructor h refl
member_is t.Explicit a h = member_said t.Explicit h refl
member_is t.Typedef a h = member_said t.Typedef h refl
member_is t.Enum a h = member_said t.Enum h refl
member_is _ a h = cc

abbrev PartIs : Terminal → PartStart → Type 0
PartIs w using_start = w ≡ t.Using
PartIs w template_start = w ≡ t.Template
PartIs w (PartStart.item_start a) = w ≡ item_word a

part_said : (w : Terminal) {a b : PartStart} → Some a ≡ Some b → PartIs w a → PartIs w b
part_said w {a} {b} h d = let same : a ≡ b = some_is a b h in rw same at d

part_is : (w : Terminal) (a : PartStart) → part_begin w ≡ Some a → PartIs w a
part_is t.Using a h = part_said t.Using h refl
part_is t.Template a h = part_said t.Template h refl
part_is t.Typedef a h = part_said t.Typedef h refl
part_is t.Enum a h = part_said t.Enum h refl
part_is _ a h = cc

empty_front : (found : List Bool) → no_front found ≡ true → found ≡ []
empty_front [] h = refl
empty_front (f ∷ fs) h = cc

-- ---- templates

-- behind a parameter, which may have closed the list
pub data ParamRest : Names → Bool → Text → Names → Text → List Param → Type 0 where
  closed : {names : Names} {r : Text} → ParamRest names true r names r []
  closes : {names : Names} {c : Place} {r : Text} → ParamRest names false (at t.Greater c ∷ r) names r []
  more : {names last : Names} {c : Place} {a r : Text} {rest : List Param} → ReadsParams names a last r rest → ParamRest names false (at t.Comma c ∷ a) last r rest

to_params : {names next last : Names} {both : Bool} {ts mid r : Text} {of : Param} {rest : List Param} → ReadsParam names both ts next mid of → ParamRest next both mid last r rest → ReadsParams names ts last r (of ∷ rest)
to_params d (ParamRest.closed) = ReadsParams.last_both d
to_params d (ParamRest.closes) = ReadsParams.last d
to_params d (ParamRest.more k) = ReadsParams.more d k

abbrev pub RNextParam : Params → Rule Seen (Param × Params)
RNextParam v = λ x ts mid. (last : Names) (r : Text) (rest : List Param) → ParamRest x.1.names x.1.closed mid last r rest → ParamRest v.names false ts last r (x.0 ∷ rest)

abbrev RMoreParams : Params → Rule Seen (List Param × Params)
RMoreParams v = λ x ts mid. (last : Names) (r : Text) → ParamRest x.1.names x.1.closed mid last r [] → ParamRest v.names v.closed ts last r x.0

module _ (n : ℕ) where
  abbrev RParam : Names → Rule Seen (Param × Params)
  RParam names = λ x ts r. ReadsParam names x.1.closed ts x.1.names r x.0

  sound_param_by : (names : Names) (a : Option ParamSort) (x : Name × Place) → Answers 0 (λ v mid r. (w : Terminal) (q : Place) → ParamIs w a → RParam names v (at w q ∷ at (t.Ident x.0) x.1 ∷ mid) r) (p.param_by n names a x)
  unfolding p.param_by
  sound_param_by names (Some k) x = answers_choose 0 _ _ _ _
      (answers_less (lit≤ tt) (answers_mark mark_assign (answers_seq (sound_additive names (inner names n) (sound names n)) (λ of. answers_pure_at (λ y ts d a w q h. ReadsParam.value_preset h d.1)))))
      (answers_pure_at (λ y w q h. ReadsParam.value h))
  sound_param_by names None x = answers_choose 0 _ _ _ _
      (answers_less (lit≤ tt) (answers_mark mark_assign (answers_seq (sound_type (with_type names x.0) (inner (with_type names x.0) n) (sound (with_type names x.0) n) true) (λ of. answers_pure_at (λ y ts d a w q h. ReadsParam.type_preset h d.0)))))
      (answers_pure_at (λ y w q h. ReadsParam.type h))

  pub sound_param : (names : Names) → Answers 1 (RParam names) (p.param n names)
  unfolding p.param
  sound_param names = answers_pick t.Int (Some sorts.Int) refl (λ w. answers_name (λ x. answers_by _ _ (λ v mid r d k h. d k w.1 (param_is k w.0 h)) (sound_param_by names w.0 x)))

  pub sound_one_param : (v : Params) → Answers 1 (RNextParam v) (p.one_param n v)
  sound_one_param v = answers_mark mark_comma (answers_by _ _ (λ x a mid d c last r rest k. ParamRest.more (to_params d k)) (sound_param v.names))

  not_closed : (v : Params) (k : Seen) → (not v.closed && m.comma k.terminal) ≡ true → v.closed ≡ false
  not_closed v k h = go v.closed h
    where
      go : (b : Bool) → (not b && m.comma k.terminal) ≡ true → b ≡ false
      go true h = cc
      go false h = refl

  sound_more_params : (v : Params) → Answers 0 (RMoreParams v) (repeat_in (p.next_param n) (p.one_param n) v)
  sound_more_params = answers_repeat_while (p.next_param n) 0 RNextParam (p.one_param n) sound_one_param (λ v. v.closed ≡ false) not_closed RNextParam (λ v h. sound_one_param v)
      RMoreParams (λ v y last r h. h) (λ v h x others ts mid r d k last u rest. rw h (d last u others.0 (k last u rest)))

  sound_params_end : (names : Names) (first : Param × Params) (others : List Param × Params)
      → Answers {A = Names × List Param} 0 (λ x k r. (mid : Text) → RMoreParams first.1 others mid k → (ts : Text) → RParam names first ts mid → ReadsParams names ts x.0 r x.1) (e.close_unless others.1.closed false >>= λ _. pure (others.1.names, first.0 ∷ others.0))
  sound_params_end names first others = answers_close_unless others.1.closed false
      (λ h. answers_pure_at (λ y mid d ts k. to_params k (d others.1.names y (rw h ParamRest.closed))))
      (λ h both. answers_pure_at (λ y c g mid d ts k. to_params k (d others.1.names y (rw (h, g refl) ParamRest.closes))))

  sound_params : (names : Names) → Answers 1 (λ x ts r. ReadsParams names ts x.0 r x.1) (p.params n names)
  unfolding p.params
  sound_params names = answers_seq (sound_param names) (λ first. answers_seq (sound_more_params first.1) (λ others. sound_params_end names first others))

  sound_template : (names : Names) → Answers 1 (λ x mid r. (w : Place) → ReadsTemplate names (at t.Template w ∷ mid) x.0 r x.1) (p.template n names)
  unfolding p.template
  sound_template names = answers_mark mark_less (answers_choose 1 _ _ _ _ (answers_mark mark_greater (answers_pure_at (λ y c l w. ReadsTemplate.empty))) (answers_by _ _ (λ x ts r d l w. ReadsTemplate.template d) (sound_params names)))

  -- ---- fields

  abbrev pub ROneDecl : Names → Rule Seen Decl
  ROneDecl names = λ x ts mid. (r : Text) (rest : List Decl) → ReadsMoreDecls names mid r rest → ReadsMoreDecls names ts r (x ∷ rest)

  pub sound_one_decl : (names : Names) → Answers 1 (ROneDecl names) (p.one_decl n names)
  sound_one_decl names = answers_mark mark_comma (answers_by _ _ (λ x ts mid d c r rest k. ReadsMoreDecls.more d k) (sound_decl names (inner names n) (sound names n)))

  FieldsRest : Body → Ty → Decl → Rule Seen Body
  FieldsRest b of first = λ x mid r. (k : Sort) (q : Place) (ts us : Text) → ReadsType b.names k false q ts us of → ReadsDecl b.names us mid first → ReadsMember b ts x r

  sound_fields_rest : (b : Body) (of : Ty) (first : Decl) → Answers 1 (FieldsRest b of first) (p.fields_rest n b of first)
  unfolding FieldsRest p.fields_rest
  sound_fields_rest b of first = answers_seq_last
      (answers_repeat (next_is m.comma) (p.one_decl n b.names) 0 (ROneDecl b.names) (sound_one_decl b.names) (λ x ts r. ReadsMoreDecls b.names ts r x) (λ y. ReadsMoreDecls.no_more) (λ a others ts mid r d k. d r others k))
      (λ others. answers_mark mark_semicolon (answers_pure_at (λ y c mid e k q ts us d f. ReadsMember.fields d f e)))

  sound_fields_named : (b : Body) (of : Ty) (x : Name × Place) → Answers 1 (λ z mid r. (k : Sort) (q : Place) (ts : Text) → ReadsType b.names k false q ts (at (t.Ident x.0) x.1 ∷ mid) of → ReadsMember b ts z r) (p.fields_named n b of x)
  unfolding FieldsRest p.fields_named
  sound_fields_named b of x = answers_seq_last (sound_sizes b.names (inner b.names n) (sound b.names n))
      (λ sizes. answers_by _ _ (λ z mid r d us e k q ts f. d k q ts _ f (ReadsDecl.decl ReadsHold.direct e)) (sound_fields_rest b of _))

  -- ---- members

  MemberFunction : Body → Option Ty → Name × Place → Rule Seen Body
  MemberFunction b result x = λ z mid r. (found : List Bool) (u ts : Text) → ReadsFronts u ts found → ReadsResult b.names ts (at (t.Ident x.0) x.1 ∷ mid) result → ReadsMember b u z r

  sound_member_function : (b : Body) (result : Option Ty) (x : Name × Place) → Answers 1 (MemberFunction b result x) (p.member_function n b result x)
  unfolding MemberFunction p.member_function
  sound_member_function b result x = answers_seq (sound_function_rest n b.names result x) (λ f. answers_pure_at (λ y mid d found u ts k h. ReadsMember.declaration (ReadsItem.function k (d ts h))))

  -- behind a type
  MemberTyped : Body → List Bool → TypeRead → Text → Rule Seen Body
  MemberTyped b found of name = λ z mid r. (u ts : Text) → ReadsFronts u ts found → ReadsType b.names of.sort false of.place ts (name ++ mid) of.ty → ReadsMember b u z r

  sound_member_named : (b : Body) (found : List Bool) (of : TypeRead) (x : Name × Place) → Answers 1 (MemberTyped b found of (at (t.Ident x.0) x.1 ∷ [])) (p.member_named n b found of.ty x)
  unfolding MemberTyped MemberFunction p.member_named
  sound_member_named b found of x =
      let rest : Answers 1 (MemberTyped b found of (at (t.Ident x.0) x.1 ∷ [])) (p.member_function n b (Some of.ty) x) = answers_by _ _ (λ z mid r d u ts k h. d found u ts k (ReadsResult.result h)) (sound_member_function b (Some of.ty) x) in
      answers_if (no_front found) (λ e. answers_choose 1 _ _ _ _ rest (answers_by _ _ (λ z mid r d u ts k h. rw (no_fronts_is (empty_front found e) k) (d of.sort of.place ts h)) (sound_fields_named b of.ty x))) (λ e. rest)

  sound_member_constant : (b : Body) (found : List Bool) (of : TypeRead) (x : Name × Place) → is_constant of.sort ≡ true → before_constant found ≡ true → Answers 1 (MemberTyped b found of (at (t.Ident x.0) x.1 ∷ [])) (p.member_constant n b of.ty x)
  unfolding MemberTyped p.member_constant
  sound_member_constant b found of x c e = answers_seq (sound_constant_rest n b.names of.ty x) (λ f. answers_pure_at (λ y mid d u ts k h. ReadsMember.declaration (constant_item found e k (d ts (once_constant of.sort c h)))))

  sound_named_member : (b : Body) (found : List Bool) (of : TypeRead) → Answers 1 (MemberTyped b found of []) (p.named_member n b found of)
  unfolding MemberTyped p.named_member
  sound_named_member b found of = answers_name (λ x.
      answers_if (is_constant of.sort && before_constant found) (λ e. let k : (is_constant of.sort ≡ true) × (before_constant found ≡ true) = and_both b.names (is_constant of.sort) (before_constant found) e in
      answers_choose 1 _ _ _ _ (sound_member_constant b found of x k.0 k.1) (sound_member_named b found of x))
      (λ e. sound_member_named b found of x))

  sound_member_typed : (b : Body) (found : List Bool) (of : TypeRead) → Answers 1 (MemberTyped b found of []) (p.member_typed n b found of)
  unfolding MemberTyped FieldsRest p.member_typed
  sound_member_typed b found of = answers_choose_by (λ k e. empty_front found (and_both b.names (no_front found) (s.begins_hold k.terminal) e).0)
      (λ e. answers_seq_last (sound_decl b.names (inner b.names n) (sound b.names n)) (λ d. answers_by _ _ (λ z mid r f us g u ts k h. rw (no_fronts_is e k) (f of.sort of.place ts us h g)) (sound_fields_rest b of.ty d)))
      (sound_named_member b found of)

  sound_constant_member : (b : Body) (found : List Bool) (q : Place) → Answers 1 (λ z mid r. (u : Text) → ReadsFronts u (at t.Const q ∷ mid) found → ReadsMember b u z r) (p.constant_member n b found q)
  unfolding MemberTyped p.constant_member
  sound_constant_member b found q = answers_choose_by (λ k e. (and_both b.names (before_constant found) (m.constant k.terminal) e).0)
      (λ e. answers_mark mark_constant (answers_seq (sound_constant_twice n b.names q) (λ f. answers_pure_at (λ y mid d c u k. ReadsMember.declaration (constant_item found e k (d c))))))
      (answers_seq (sound_base b.names (inner b.names n) (sound b.names n) false) (λ of. answers_by _ _ (λ z mid r d ts k u g. d u (at t.Const q ∷ ts) g (constant_of_base n b.names q of ts mid k)) (sound_member_typed b found (constant_type q of))))

  sound_member_name : (b : Body) → Answers 1 (λ z ts r. ReadsMember b ts z r) (p.member_name n b)
  unfolding MemberTyped p.member_name
  sound_member_name b = answers_name (λ x.
      let made : Answers 1 (λ z mid r. ReadsMember b (at (t.Ident x.0) x.1 ∷ mid) z r) (i.constructor_rest n b.names x >>= λ f. pure (with_item b b.names f)) = answers_seq (sound_constructor_rest n b.names x) (λ f. answers_pure_at (λ y mid d. ReadsMember.constructor d.0)) in
      answers_choose 1 _ _ _ _ made (answers_if (is_type b.names x.0)
      (λ e. answers_seq_last (sound_named_args n b.names x.0) (λ args. answers_by _ _ (λ z mid r d ts a. d (at (t.Ident x.0) x.1 ∷ ts) (at (t.Ident x.0) x.1 ∷ ts) ReadsFronts.no_fronts (ReadsType.plain (named_base e a))) (sound_member_typed b [] (named_of x args))))
      (λ e. answers_fail 1 _ made.some)))

  sound_member_fronted : (b : Body) (found : List Bool) → Answers 1 (λ z mid r. (u : Text) → ReadsFronts u mid found → ReadsMember b u z r) (p.member_fronted n b found)
  unfolding MemberTyped MemberFunction p.member_fronted
  sound_member_fronted b found =
      answers_choose 1 _ _ _ _ (answers_mark mark_void_word (answers_name (λ x. answers_by _ _ (λ z mid r d q u k. d found u (at t.Void q ∷ at (t.Ident x.0) x.1 ∷ mid) k ReadsResult.nothing) (sound_member_function b None x))))
      (answers_choose 1 _ _ _ _ (answers_mark_at mark_constant (λ q. answers_by _ _ (λ z mid r d u k. d u k) (sound_constant_member b found q)))
      (answers_choose_by (first_name n b.names found) (λ e. answers_by _ _ (λ z mid r d u k. rw (no_fronts_is e k) d) (sound_member_name b))
      (answers_seq (sound_base b.names (inner b.names n) (sound b.names n) false) (λ of. answers_by _ _ (λ z mid r d ts k u g. d u ts g (ReadsType.plain (alone b.names of ts mid k))) (sound_member_typed b found of)))))

  sound_member_by : (b : Body) (a : MemberStart) (q : Place) → Answers 0 (λ z mid r. (w : Terminal) → MemberIs w a → ReadsMember b (at w q ∷ mid) z r) (p.member_by n b a q)
  unfolding p.member_by
  sound_member_by b access_start q = answers_less (lit≤ tt) (answers_mark mark_colon (answers_pure_at (λ y c w h. ReadsMember.access h)))
  sound_member_by b has_process_start q = answers_less (lit≤ tt) (answers_mark mark_paren_open (answers_name (λ x. answers_mark mark_paren_close (answers_mark mark_semicolon (answers_pure_at (λ y k c o w h. rw h ReadsMember.has_process))))))
  sound_member_by b module_constructor_start q = answers_less (lit≤ tt) (answers_mark mark_paren_open (answers_name (λ x. answers_mark mark_paren_close (answers_seq (sound_inits n b.names) (λ found. answers_seq (sound_body n b.names) (λ of.
      answers_pure_at (λ y us e ts d c o w h. rw h (ReadsMember.constructor (ReadsConstructor.module_constructor d e)))))))))
  sound_member_by b explicit_start q = answers_less (lit≤ tt) (answers_name (λ x. answers_seq (sound_constructor_rest n b.names x) (λ f. answers_pure_at (λ y mid d w h. rw h (ReadsMember.constructor (d.1 q))))))
  sound_member_by b (MemberStart.item_start a) q = answers_less (lit≤ tt) (answers_seq (sound_item_by n b.names a q) (λ x. answers_pure_at (λ y mid d w h. rw h (ReadsMember.declaration d))))

  pub RMember : Body → Rule Seen Body
  RMember b = λ z ts r. ReadsMember b ts z r

  pub sound_member : (b : Body) → Answers 1 (RMember b) (p.member n b)
  unfolding RMember p.member
  sound_member b = answers_choose 1 _ _ _ _ (answers_pick t.Public access_start refl (λ a. answers_by _ _ (λ z mid r d w h. d w (member_is w a.0 h)) (sound_member_by b a.0 a.1)))
      (answers_seq_last sound_fronts (λ found. answers_by _ _ (λ z mid r d ts k. d ts k) (sound_member_fronted b found)))

  sound_members : (b : Body) → Answers 0 (λ z ts r. ReadsMembers b ts z r) (p.members n b)
  unfolding RMember p.members
  sound_members b = answers_repeat_on is_member (p.member n) 0 RMember sound_member (λ b z ts r. ReadsMembers b ts z r) (λ b y. ReadsMembers.no_members) (λ b u v ts mid r d k. ReadsMembers.members d k) b

  -- ---- classes

  -- members in braces
  data ClassBody (names : Names) : Text → Text → Body → Type 0 where
    body : {b : Body} {l e k : Place} {a r : Text} → ReadsMembers (begun names) a b (at t.BraceClose e ∷ at t.Semicolon k ∷ r) → ClassBody names (at t.BraceOpen l ∷ a) r b

  sound_class_body : (names : Names) → Answers 1 (λ b ts r. ClassBody names ts r b) (p.class_body n names)
  unfolding p.class_body
  sound_class_body names = answers_mark mark_brace_open (answers_seq (sound_members (begun names)) (λ b. answers_mark mark_brace_close (answers_mark mark_semicolon (answers_pure_at (λ y k e ts d l. ClassBody.body d)))))

  a_module : {params : Option (List Param)} {names : Names} {x : Name} {w o q c : Place} {ts r : Text} {b : Body} → ClassBody (declared names params x) ts r b
      → ReadsClass params names (at t.Module w ∷ at t.ParenOpen o ∷ at (t.Ident x) q ∷ at t.ParenClose c ∷ ts) b.names r (class_item q x params None true b)
  a_module (ClassBody.body d) = ReadsClass.module_class d

  sound_module_class : (names : Names) (params : Option (List Param)) → Answers 1 (λ x mid r. (w : Place) → ReadsClass params names (at t.Module w ∷ mid) x.0 r x.1) (p.module_class n names params)
  unfolding p.module_class
  sound_module_class names params = answers_mark mark_paren_open (answers_name (λ x. answers_mark mark_paren_close (answers_seq (sound_class_body (declared names params x.0)) (λ b. answers_pure_at (λ y ts d c o w. a_module d)))))

  specialises : (params : Option (List Param)) → may_specialise params ≡ true → params ≡ Some []
  specialises None h = cc
  specialises (Some []) h = refl
  specialises (Some (x ∷ xs)) h = cc

  sound_special : (names : Names) (params : Option (List Param)) (x : Name) → Answers 0 (λ args ts r. ReadsSpecial names params x ts r args) (p.special n names params x)
  unfolding p.special
  sound_special names params x = answers_choose_by (λ k e. let h : (may_specialise params ≡ true) × ((is_template names x && m.less k.terminal) ≡ true) = and_both names (may_specialise params) (is_template names x && m.less k.terminal) e in
      special_says h.0 (and_both names (is_template names x) (m.less k.terminal) h.1).0)
      (λ e. answers_less (lit≤ tt) (answers_mark mark_less (answers_seq (sound_ty_args names (inner names n) (sound names n) false) (λ args. answers_pure_at (λ y ts d l. rw (e.0) (ReadsSpecial.special e.1 (rw (d.1 refl) at d.0)))))))
      (answers_pure_at (λ y. ReadsSpecial.plain))
    where
      special_says : may_specialise params ≡ true → is_template names x ≡ true → (params ≡ Some []) × (is_template names x ≡ true)
      special_says h k = (specialises params h, k)

  a_class : {params : Option (List Param)} {names : Names} {x : Name} {w : Terminal} {q z : Place} {a d k r : Text} {b : Body} {args : Option (List TyArg)} {base : Bool}
      → class_word w ≡ true → ReadsSpecial (declared names params x) params x a d args → ReadsBases d k base → ClassBody (declared names params x) k r b
      → ReadsClass params names (at w q ∷ at (t.Ident x) z ∷ a) b.names r (class_item z x params args base b)
  a_class h u v (ClassBody.body e) = ReadsClass.class h u v e

  sound_plain_class : (names : Names) (params : Option (List Param)) → Answers 1 (λ x mid r. (w : Terminal) (q : Place) → class_word w ≡ true → ReadsClass params names (at w q ∷ mid) x.0 r x.1) (p.plain_class n names params)
  unfolding p.plain_class
  sound_plain_class names params = answers_name (λ x. answers_seq (sound_special (declared names params x.0) params x.0) (λ args. answers_seq sound_bases (λ base. answers_seq (sound_class_body (declared names params x.0)) (λ b.
      answers_pure_at (λ y ks e ds v us u w q h. a_class h u v e)))))

  pub sound_class_at : (names : Names) (params : Option (List Param)) → Answers 1 (λ x ts r. ReadsClass params names ts x.0 r x.1) (p.class_at n names params)
  unfolding p.class_at
  sound_class_at names params = answers_choose 1 _ _ _ _ (answers_mark mark_module_word (answers_by _ _ (λ x mid r d w. d w) (sound_module_class names params)))
      (answers_is t.Class refl (answers_by _ _ (λ x mid r d w q h. d w q h) (sound_plain_class names params)))

  -- ---- files

  sound_part_by : (b : Body) (a : PartStart) (q : Place) → Answers 0 (λ z mid r. (w : Terminal) → PartIs w a → ReadsPart b (at w q ∷ mid) z r) (p.part_by n b a q)
  unfolding p.part_by
  sound_part_by b using_start q = answers_less (lit≤ tt) (answers_mark mark_namespace (answers_mark mark_library (answers_mark mark_semicolon (answers_pure_at (λ y c l k w h. rw h ReadsPart.using)))))
  sound_part_by b template_start q = answers_less (lit≤ tt) (answers_seq (sound_template b.names) (λ of. answers_choose 1 _ _ _ _
      (answers_seq (sound_class_at of.0 (Some of.1)) (λ x. answers_pure_at (λ y mid d ts k w h. rw h (ReadsPart.template_class (k q) d))))
      (answers_seq (sound_outside n of.0 of.1) (λ x. answers_pure_at (λ y mid d ts k w h. rw h (ReadsPart.template_outside (k q) d))))))
  sound_part_by b (PartStart.item_start a) q = answers_less (lit≤ tt) (answers_seq (sound_item_by n b.names a q) (λ x. answers_pure_at (λ y mid d w h. rw h (ReadsPart.declaration d))))

  filed : (b : Body) (x : Item) (ts r : Text) → Filed n b.names x ts r → ReadsPart b ts (with_item b b.names x) r
  filed b x ts r d = elim d [ inl e ↦ ReadsPart.declaration e | inr e ↦ ReadsPart.outside e ]

  pub RPart : Body → Rule Seen Body
  RPart b = λ z ts r. ReadsPart b ts z r

  pub sound_part : (b : Body) → Answers 1 (RPart b) (p.part n b)
  unfolding RPart p.part
  sound_part b = answers_choose 1 _ _ _ _ (answers_pick t.Using using_start refl (λ a. answers_by _ _ (λ z mid r d w h. d w (part_is w a.0 h)) (sound_part_by b a.0 a.1)))
      (answers_choose 1 _ _ _ _ (answers_seq (sound_class_at b.names None) (λ x. answers_pure_at (λ y mid d. ReadsPart.class d)))
      (answers_seq_last sound_fronts (λ found. answers_seq (sound_fronted n b.names found) (λ x. answers_pure_at (λ y mid d ts k. filed b x ts y (d ts k))))))

  pub RFile : Rule Seen (List Item)
  RFile = λ x ts r. (b : Body) × ReadsParts (begun no_names) ts b r × (b.items ≡ x)

  pub sound_file : Answers 0 RFile (p.file n)
  unfolding RPart RFile p.file
  sound_file = answers_seq (answers_repeat_on is_part (p.part n) 0 RPart sound_part (λ b z ts r. ReadsParts b ts z r) (λ b y. ReadsParts.no_parts) (λ b u v ts mid r d k. ReadsParts.parts d k) (begun no_names))
      (λ b. answers_pure_at (λ y ts d. (b, d, refl)))

  pub file_alone : (of : List Item) (ts : Text) → RFile of ts [] → Reads ts of
  unfolding RFile
  file_alone of ts d = rw d.2 at (Reads.file d.1)
