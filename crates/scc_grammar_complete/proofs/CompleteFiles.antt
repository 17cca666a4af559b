-- Classes and whole files are read, up to the first token that opens a level too many.
use Rattle.std.specs.Prelude.{◌≡◌, ℕ, Bool, true, false, not, ◌&&◌, List, [], ◌∷◌, Option, None, is_some, Ok, refl}
use Rattle.std.proofs.Common.{◌∙◌, ap}
use Rattle.scc_base.specs.declared.names.Name.{Name}
use Rattle.scc_base.specs.declared.refusal.Place.{Place}
use Rattle.scc_tree.specs.declared.item.Item.{Item}
use Rattle.scc_tree.specs.declared.item.Field.{Field}
use Rattle.scc_tree.specs.declared.item.Param.{Param}
use Rattle.scc_tree.specs.declared.ty.TyArg.{TyArg}
use Rattle.scc_reading.specs.Reading.{and_then, ◌>>=◌, pure, take_at, is_next, repeat_on}
use Rattle.scc_reading.proofs.Complete.{Is, vthen, vlast, same, done, picked, passed, again_of, again_in_of, again_on_of, turn_on, last_turn_on}
use Rattle.scc_grammar_terminals.specs.declared.terminal.Seen.{Seen}
use Rattle.scc_grammar_terminals.specs.declared.terminal.Terminal.{Terminal}
use Rattle.scc_grammar_terminals.specs.declared.terminal.Terminal.TheVariants as t
use Rattle.scc_grammar_spec.specs.Bodies.{Body, begun, with_item, declared, class_item}
use Rattle.scc_grammar_terminals.specs.First.{begins_type}
use Rattle.scc_grammar_spec.specs.Items.{access_word, class_word, ReadsFronts, ReadsInline, ReadsBases, ReadsConstantType, ReadsConstant, ReadsResult, ReadsFunction, ReadsConstructor, ReadsOutside, ReadsItem, ReadsTemplate, ReadsMember, ReadsMembers, ReadsSpecial, ReadsClass, ReadsPart, ReadsParts, Reads}
use Rattle.scc_grammar_spec.specs.LevelsOfItems.{deep_item, deep_template, deep_member, deep_members, deep_special, deep_class, deep_part, deep_file, deep}
use Rattle.scc_grammar_terminals.specs.Marks as m
use Rattle.scc_grammar_terminals.specs.Names.{Names, is_template}
use Rattle.scc_grammar_spec.specs.ParseFile as f
use Rattle.scc_grammar_spec.specs.ParseItems as p
use Rattle.scc_grammar_terminals.specs.Text.{Text, at, kept, is, placed_at, next_is, next_says}
use Rattle.scc_grammar_complete.proofs.Follows.{next_also}
use Rattle.scc_grammar_sound.proofs.SoundItems.{sound_front, sound_one_enumerator, sound_one_prm, sound_one_init}
use Rattle.scc_grammar_sound.proofs.SoundFile.{sound_one_param, sound_one_decl, sound_member, sound_part}
use Rattle.scc_grammar_complete.proofs.CompleteTypes.{first_type}
use Rattle.scc_grammar_complete.proofs.CompleteFunctions.{ItemAgains, ty_args_complete}
use Rattle.scc_grammar_complete.proofs.CompleteTemplates.{complete_template}
use Rattle.scc_grammar_complete.proofs.CompleteParts.{body_of, plain_constant, plain_function, plain_result, complete_alias, complete_named_numbers, complete_unnamed_numbers, complete_part_item, complete_outside_part, complete_outside}
use Rattle.scc_grammar_complete.proofs.CompleteMembers.{access_begins, fronted_member, complete_function, complete_constant, complete_constructor, complete_fields_member}

class_not_module : (w : Terminal) → class_word w ≡ true → m.module_word w ≡ false
class_not_module t.Class h = refl
class_not_module t.Struct h = refl
class_not_module _ h = cc

class_begins : (w : Terminal) → class_word w ≡ true → p.begins_class w ≡ true
class_begins t.Class h = refl
class_begins t.Struct h = refl
class_begins _ h = cc

class_no_part : (w : Terminal) → class_word w ≡ true → is_some (p.part_begin w) ≡ false
class_no_part t.Class h = refl
class_no_part t.Struct h = refl
class_no_part _ h = cc

access_not_close : (w : Terminal) → access_word w ≡ true → not (m.brace_close w) ≡ true
access_not_close t.Public h = refl
access_not_close t.Hidden h = refl
access_not_close _ h = cc

type_not_close : (names : Names) (w : Terminal) → begins_type names w ≡ true → not (m.brace_close w) ≡ true
type_not_close names t.BraceClose h = cc
type_not_close names _ h = refl

-- ---- the first tokens

abbrev open_still : Seen → Bool
open_still s = not (m.brace_close s.terminal)

module _ (names : Names) where
  type_open : (ts : Text) → is_next (next_is (begins_type names)) ts ≡ true → is_next open_still ts ≡ true
  type_open ts h = next_also (begins_type names) (λ w. not (m.brace_close w)) (type_not_close names) ts h

  constant_open : {ts r : Text} {of : Item} → ReadsConstant names ts r of → is_next open_still ts ≡ true
  constant_open (ReadsConstant.constant (ReadsConstantType.once {ts = ts} d) v) = type_open ts (first_type names d)
  constant_open (ReadsConstant.constant (ReadsConstantType.twice d) v) = refl

  result_open : {ts r : Text} {of : _} → ReadsResult names ts r of → is_next open_still ts ≡ true
  result_open (ReadsResult.nothing) = refl
  result_open (ReadsResult.result {ts = ts} d) = type_open ts (first_type names d)

  function_open : {fronts : List Bool} {ts u r : Text} {of : Item} → ReadsFronts ts u fronts → ReadsFunction names u r of → is_next open_still ts ≡ true
  function_open (ReadsFronts.no_fronts) (ReadsFunction.function d ps w b) = result_open d
  function_open (ReadsFronts.static fr) d = refl
  function_open (ReadsFronts.inline fr) d = refl

  outside_open : {params : List Param} {ts r : Text} {of : Item} → ReadsOutside names params ts r of → is_next open_still ts ≡ true
  outside_open (ReadsOutside.function (ReadsInline.bare) d k ps w z) = result_open d
  outside_open (ReadsOutside.function (ReadsInline.inline) d k ps w z) = refl
  outside_open (ReadsOutside.constructor k ps is z) = refl

  outside_no_class : {params : List Param} {ts r : Text} {of : Item} → ReadsOutside names params ts r of → is_next (next_is p.begins_class) ts ≡ false
  outside_no_class (ReadsOutside.function (ReadsInline.bare) d k ps w z) = (plain_result names d).class
  outside_no_class (ReadsOutside.function (ReadsInline.inline) d k ps w z) = refl
  outside_no_class (ReadsOutside.constructor k ps is z) = refl

item_open : {names names₁ : Names} {ts r : Text} {of : Item} → ReadsItem names ts names₁ r of → is_next open_still ts ≡ true
item_open (ReadsItem.alias d) = refl
item_open (ReadsItem.named_numbers d) = refl
item_open (ReadsItem.numbers d) = refl
item_open (ReadsItem.constant {names = names} d) = constant_open names d
item_open (ReadsItem.static_constant d) = refl
item_open (ReadsItem.function {names = names} fr d) = function_open names fr d

constructor_open : {names : Names} {ts r : Text} {of : Item} → ReadsConstructor names ts r of → is_next open_still ts ≡ true
constructor_open (ReadsConstructor.module_constructor is z) = refl
constructor_open (ReadsConstructor.named ps is z) = refl
constructor_open (ReadsConstructor.explicit ps is z) = refl

member_open : {b b₁ : Body} {ts r : Text} → ReadsMember b ts b₁ r → is_next open_still ts ≡ true
member_open (ReadsMember.access {w = w} h) = access_not_close w h
member_open (ReadsMember.has_process) = refl
member_open (ReadsMember.declaration d) = item_open d
member_open (ReadsMember.constructor d) = constructor_open d
member_open (ReadsMember.fields {b = b} {ts = ts} d x ds) = type_open b.names ts (first_type b.names d)

-- there is a token
some_next : (ts : Text) → is_next open_still ts ≡ true → (b : Body) → is_next (f.is_part b) ts ≡ true
some_next [] h b = cc
some_next (s ∷ ts) h b = refl

class_open : {params : Option (List Param)} {names names₁ : Names} {ts r : Text} {of : Item} → ReadsClass params names ts names₁ r of → is_next (next_is p.begins_class) ts ≡ true
class_open (ReadsClass.module_class ds) = refl
class_open (ReadsClass.class {w = w} h sp bs ds) = class_begins w h

class_part : {params : Option (List Param)} {names names₁ : Names} {ts r : Text} {of : Item} → ReadsClass params names ts names₁ r of → is_next (next_says p.part_begin) ts ≡ false
class_part (ReadsClass.module_class ds) = refl
class_part (ReadsClass.class {w = w} h sp bs ds) = class_no_part w h

class_some : {params : Option (List Param)} {names names₁ : Names} {ts r : Text} {of : Item} (b : Body) → ReadsClass params names ts names₁ r of → is_next (f.is_part b) ts ≡ true
class_some b (ReadsClass.module_class ds) = refl
class_some b (ReadsClass.class h sp bs ds) = refl

template_some : {names names₁ : Names} {ts r : Text} {of : List Param} (b : Body) → ReadsTemplate names ts names₁ r of → is_next (f.is_part b) ts ≡ true
template_some b (ReadsTemplate.empty) = refl
template_some b (ReadsTemplate.template d) = refl

part_some : {b b₁ : Body} {ts r : Text} → ReadsPart b ts b₁ r → is_next (f.is_part b) ts ≡ true
part_some (ReadsPart.using) = refl
part_some (ReadsPart.declaration {b = b} {ts = ts} d) = some_next ts (item_open d) b
part_some (ReadsPart.class {b = b} d) = class_some b d
part_some (ReadsPart.template_class {b = b} k d) = template_some b k
part_some (ReadsPart.outside {b = b} {ts = ts} d) = some_next ts (outside_open b.names d) b
part_some (ReadsPart.template_outside {b = b} k d) = template_some b k

module _ (n : ℕ) (I : ItemAgains n) where
  -- ---- members

  complete_member_item : (items : List Item) (fields : List Field) {names names₁ : Names} {ts r : Text} {of : Item} (d : ReadsItem names ts names₁ r of) → Is (f.member n (body_of names items fields) ts) (deep_item n d) (with_item (body_of names items fields) names₁ of) r
  unfolding deep_item f.member f.member_by
  complete_member_item items fields (ReadsItem.alias {w = w} d) = vlast _ (complete_alias n I w d) refl
  complete_member_item items fields (ReadsItem.named_numbers {names = names} {w = w} d) = vlast _ (complete_named_numbers n I names w d) refl
  complete_member_item items fields (ReadsItem.numbers {w = w} d) = vlast _ (complete_unnamed_numbers n I w d) refl
  complete_member_item items fields (ReadsItem.constant {names = names} d) = fronted_member n I (body_of names items fields) ReadsFronts.no_fronts (plain_constant names d) (complete_constant n I (body_of names items fields) [] refl d)
  complete_member_item items fields (ReadsItem.static_constant {names = names} d) =
      fronted_member n I (body_of names items fields) (ReadsFronts.static ReadsFronts.no_fronts) (plain_constant names d) (complete_constant n I (body_of names items fields) (true ∷ []) refl d)
  complete_member_item items fields (ReadsItem.function {names = names} {fronts = fronts} fr d) = fronted_member n I (body_of names items fields) fr (plain_function names d) (complete_function n I (body_of names items fields) fronts d)

  complete_member : {b b₁ : Body} {ts r : Text} (d : ReadsMember b ts b₁ r) → Is (f.member n b ts) (deep_member n d) b₁ r
  unfolding deep_member f.member f.member_by
  complete_member (ReadsMember.access {b = b} {w = w} {p = q} {c = c} {r = r} h) =
      done (picked (next_says p.member_begin) _ _ (at w q ∷ at t.Colon c ∷ r) (ap is_some (access_begins w h)) ∙ ap (λ z. and_then (take_at (placed_at z q) (at w q) (at t.Colon c ∷ r)) (λ s. f.member_by n b s.0 s.1)) (access_begins w h))
  complete_member (ReadsMember.has_process) = done refl
  complete_member (ReadsMember.declaration {b = b} d) = complete_member_item b.items b.fields d
  complete_member (ReadsMember.constructor {b = b} d) = complete_constructor n I b d
  complete_member (ReadsMember.fields {b = b} d x ds) = complete_fields_member n I b d x ds

  complete_members : {b b₁ : Body} {e : Place} {ts r : Text} (d : ReadsMembers b ts b₁ (at t.BraceClose e ∷ r)) → Is (f.members n b ts) (deep_members n d) b₁ (at t.BraceClose e ∷ r)
  unfolding deep_members f.members
  complete_members {e = e} {r = r} (ReadsMembers.no_members {b = b}) = last_turn_on _ _ b (at t.BraceClose e ∷ r) I.members refl
  complete_members (ReadsMembers.members {b = b} {ts = ts} d ds) = turn_on _ _ b ts I.members (member_open d) (complete_member d) (complete_members ds)

  -- ---- classes

  complete_class_body : (names : Names) {b : Body} (l : Place) {e s : Place} {a r : Text} (d : ReadsMembers (begun names) a b (at t.BraceClose e ∷ at t.Semicolon s ∷ r)) → Is (f.class_body n names (at t.BraceOpen l ∷ a)) (deep_members n d) b r
  unfolding f.class_body
  complete_class_body names l d = vlast _ (complete_members d) refl

  bases_read : {ts k : Text} {l : Place} {of : Bool} → ReadsBases ts (at t.BraceOpen l ∷ k) of → p.bases ts ≡ Ok (of, at t.BraceOpen l ∷ k)
  unfolding p.bases
  bases_read (ReadsBases.no_bases) = refl
  bases_read (ReadsBases.base) = refl
  bases_read (ReadsBases.public_base) = refl

  bases_first : {ts k : Text} {l : Place} {of : Bool} → ReadsBases ts (at t.BraceOpen l ∷ k) of → is_next (next_is m.less) ts ≡ false
  bases_first (ReadsBases.no_bases) = refl
  bases_first (ReadsBases.base) = refl
  bases_first (ReadsBases.public_base) = refl

  no_special : (a b : Bool) (ts : Text) → is_next (next_is m.less) ts ≡ false → is_next (λ z. a && (b && m.less z.terminal)) ts ≡ false
  no_special a b [] h = refl
  no_special true true (z ∷ ts) h = h
  no_special true false (z ∷ ts) h = refl
  no_special false b (z ∷ ts) h = refl

  complete_special : {names : Names} {params : Option (List Param)} {x : Name} {ts r : Text} {of : Option (List TyArg)} (d : ReadsSpecial names params x ts r of) → is_next (next_is m.less) r ≡ false → Is (f.special n names params x ts) (deep_special names n d) of r
  unfolding deep_special f.special
  complete_special {names} (ReadsSpecial.plain {params = params} {x = x} {r = r}) h = done (passed (λ z. f.may_specialise params && (is_template names x && m.less z.terminal)) _ _ r (no_special (f.may_specialise params) (is_template names x) r h))
  complete_special {names} (ReadsSpecial.special {x = x} {l = l} {a = a} g d) h = same (picked (λ z. is_template names x && m.less z.terminal) _ _ (at t.Less l ∷ a) (rw g refl)) (vlast _ (ty_args_complete n I names d) refl)

  complete_class : {params : Option (List Param)} {names names₁ : Names} {ts r : Text} {of : Item} (d : ReadsClass params names ts names₁ r of) → Is (f.class_at n names params ts) (deep_class n d) (names₁, of) r
  unfolding deep_class f.class_at f.module_class f.plain_class
  complete_class {params = params} {names = names} (ReadsClass.module_class {x = x} {l = l} ds) = vlast _ (complete_class_body (declared names params x) l ds) refl
  complete_class {params = params} {names = names} (ReadsClass.class {b = b} {w = w} {x = x} {q = q} {p = j} {l = l} {a = a} {k = k} {special = special} {module_base = base} h sp bs ds) =
      same (passed (next_is m.module_word) _ _ (at w q ∷ at (t.Ident x) j ∷ a) (class_not_module w h) ∙ ap (λ z. and_then (take_at (kept z q) (at w q) (at (t.Ident x) j ∷ a)) (λ _. f.plain_class n names params)) h)
      (vthen _ (complete_special sp (bases_first bs)) (same (ap (λ o. and_then o (λ base. f.class_body n (declared names params x) >>= λ b. pure (b.names, class_item j x params special base b))) (bases_read bs))
      (vlast _ (complete_class_body (declared names params x) l ds) refl)))

  -- ---- files

  empty_template : (names : Names) (l c : Place) (r : Text) → Is (f.template n names (at t.Less l ∷ at t.Greater c ∷ r)) None (names, []) r
  unfolding f.template
  empty_template names l c r = done refl

  complete_part : {b b₁ : Body} {ts r : Text} (d : ReadsPart b ts b₁ r) → Is (f.part n b ts) (deep_part n d) b₁ r
  unfolding deep_part deep_template f.part f.part_by
  complete_part (ReadsPart.using) = done refl
  complete_part (ReadsPart.declaration {b = b} d) = complete_part_item n I b.items b.fields d
  complete_part (ReadsPart.class {ts = ts} d) = same (passed (next_says p.part_begin) _ _ ts (class_part d) ∙ picked (next_is p.begins_class) _ _ ts (class_open d)) (vlast _ (complete_class d) refl)
  complete_part (ReadsPart.template_class {b = b} {m = u} (ReadsTemplate.empty {l = l} {c = c}) d) = vthen _ (empty_template b.names l c u) (same (picked (next_is p.begins_class) _ _ u (class_open d)) (vlast _ (complete_class d) refl))
  complete_part (ReadsPart.template_class {m = u} (ReadsTemplate.template {l = l} k) d) = vthen _ (complete_template n I l k) (same (picked (next_is p.begins_class) _ _ u (class_open d)) (vlast _ (complete_class d) refl))
  complete_part (ReadsPart.outside {b = b} d) = complete_outside_part n I b.items b.fields d
  complete_part (ReadsPart.template_outside {b = b} {m = u} (ReadsTemplate.empty {l = l} {c = c}) d) =
      vthen _ (empty_template b.names l c u) (same (passed (next_is p.begins_class) _ _ u (outside_no_class b.names d)) (vlast _ (complete_outside n I b.names [] d) refl))
  complete_part (ReadsPart.template_outside {names = names} {m = u} {params = params} (ReadsTemplate.template {l = l} k) d) = vthen _ (complete_template n I l k) (same (passed (next_is p.begins_class) _ _ u (outside_no_class names d)) (vlast _ (complete_outside n I names params d) refl))

  complete_parts : {b b₁ : Body} {ts : Text} (d : ReadsParts b ts b₁ []) → Is (repeat_on f.is_part (f.part n) b ts) (deep_file n d) b₁ []
  unfolding deep_file
  complete_parts (ReadsParts.no_parts {b = b}) = last_turn_on _ _ b [] I.parts refl
  complete_parts (ReadsParts.parts {b = b} {ts = ts} d ds) = turn_on _ _ b ts I.parts (part_some d) (complete_part d) (complete_parts ds)

  pub complete_file : {ts : Text} {of : List Item} (d : Reads ts of) → Is (f.program n ts) (deep n d) of []
  unfolding deep f.program f.file
  complete_file (Reads.file d) = vlast _ (vlast _ (complete_parts d) refl) refl

item_agains : (n : ℕ) → ItemAgains n
item_agains n = record {
  enumerators = λ names. again_of _ (sound_one_enumerator n names);
  prms = λ names. again_of _ (sound_one_prm n names);
  inits = λ names. again_of _ (sound_one_init n names);
  fronts = again_of _ sound_front;
  params = again_in_of _ (sound_one_param n);
  decls = λ names. again_of _ (sound_one_decl n names);
  members = again_on_of _ (sound_member n);
  parts = again_on_of _ (sound_part n);
}

-- a file is read, up to the first token that opens a level too many
pub complete_program : (n : ℕ) {ts : Text} {of : List Item} (d : Reads ts of) → Is (f.program n ts) (deep n d) of []
complete_program n d = complete_file n (item_agains n) d
