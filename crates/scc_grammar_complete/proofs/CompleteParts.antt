-- Declarations of files but classes are read, up to the first token that opens a level too many.
use Rattle.std.specs.Prelude.{◌≡◌, ℕ, Bool, true, false, if◌then◌else◌, List, [], ◌∷◌, Option, Some, None, is_some, refl}
use Rattle.std.proofs.Common.{◌∙◌, ap, subst}
use Rattle.scc_base.specs.declared.names.Name.{Name}
use Rattle.scc_base.specs.declared.refusal.Place.{Place}
use Rattle.scc_tree.specs.declared.item.Enumerator.{Enumerator}
use Rattle.scc_tree.specs.declared.item.Field.{Field}
use Rattle.scc_tree.specs.declared.item.Item.{Item}
use Rattle.scc_tree.specs.declared.item.ItemNode.TheVariants as item
use Rattle.scc_tree.specs.declared.item.Param.{Param}
use Rattle.scc_tree.specs.declared.ty.Ty.{Ty}
use Rattle.scc_tree.specs.declared.ty.TyArg.{TyArg}
use Rattle.scc_reading.specs.Level.{◌then◌}
use Rattle.scc_reading.specs.Reading.{Outcome, ◌>>=◌, fail, is_next}
use Rattle.scc_reading.proofs.Complete.{Is, vthen, vlast, same, done, passed}
use Rattle.scc_grammar_terminals.specs.declared.part.Sort.{Sort}
use Rattle.scc_grammar_terminals.specs.declared.terminal.Seen.{Seen}
use Rattle.scc_grammar_terminals.specs.declared.terminal.Terminal.{Terminal}
use Rattle.scc_grammar_terminals.specs.declared.terminal.Terminal.TheVariants as t
use Rattle.scc_grammar_spec.specs.Bodies.{Body, with_item, item_of, outside_item, constructor_of}
use Rattle.scc_grammar_spec.specs.Expressions.{ReadsBase, ReadsType}
use Rattle.scc_grammar_terminals.specs.First.{begins_type}
use Rattle.scc_grammar_spec.specs.Items.{ReadsFronts, ReadsInline, ReadsNumbers, ReadsConstantType, ReadsConstant, ReadsResult, ReadsFunction, ReadsOutside, ReadsItem}
use Rattle.scc_grammar_spec.specs.LevelsOfExpressions.{deep_base, deep_type}
use Rattle.scc_grammar_spec.specs.LevelsOfItems.{deep_numbers, deep_result, deep_outside, deep_item}
use Rattle.scc_grammar_terminals.specs.Marks as m
use Rattle.scc_grammar_terminals.specs.Names.{Names, is_type, with_type}
use Rattle.scc_grammar_spec.specs.ParseFile as f
use Rattle.scc_grammar_spec.specs.ParseItems as p
use Rattle.scc_grammar_terminals.specs.Text.{Text, at, next_is, next_says, identifier, name_at}
use Rattle.scc_grammar_complete.proofs.Follows.{and_left, next_not}
use Rattle.scc_grammar_complete.proofs.CompleteTypes.{first_type}
use Rattle.scc_grammar_complete.proofs.CompleteFunctions.{ItemAgains, type_complete, complete_numbers, type_not_void, no_args, some_args}
use Rattle.scc_grammar_complete.proofs.CompleteItems.{Args, args_first, complete_class_args, complete_outside_function, complete_outside_constructor, complete_function, complete_constant, complete_outside_by, front_turn, if_type}

pub by_tree : {A : Type 0} {o : Outcome Seen A} {v : Option Text} {a b : A} {r : Text} → a ≡ b → Is o v a r → Is o v b r
by_tree {A} {o} {v} {a} {b} {r} h k = subst (λ z. Is o v z r) h k

type_no_front : (names : Names) (w : Terminal) → begins_type names w ≡ true → is_some (p.front w) ≡ false
type_no_front names t.Static h = cc
type_no_front names t.Inline h = cc
type_no_front names _ h = refl

type_no_part : (names : Names) (w : Terminal) → begins_type names w ≡ true → is_some (p.part_begin w) ≡ false
type_no_part names t.Using h = cc
type_no_part names t.Template h = cc
type_no_part names t.Typedef h = cc
type_no_part names t.Enum h = cc
type_no_part names _ h = refl

type_no_class : (names : Names) (w : Terminal) → begins_type names w ≡ true → p.begins_class w ≡ false
type_no_class names t.Module h = cc
type_no_class names t.Class h = cc
type_no_class names t.Struct h = cc
type_no_class names _ h = refl

type_no_member : (names : Names) (w : Terminal) → begins_type names w ≡ true → is_some (p.member_begin w) ≡ false
type_no_member names t.Public h = cc
type_no_member names t.Hidden h = cc
type_no_member names t.HasProcess h = cc
type_no_member names t.Constructor h = cc
type_no_member names t.Explicit h = cc
type_no_member names t.Typedef h = cc
type_no_member names t.Enum h = cc
type_no_member names _ h = refl

abbrev pub body_of : Names → List Item → List Field → Body
body_of names items fields = record { names = names; items = items; fields = fields }

-- the first token is no word of a declaration
pub record Plain (ts : Text) : Type 0 where
  pub front : is_next (next_says p.front) ts ≡ false
  pub part : is_next (next_says p.part_begin) ts ≡ false
  pub class : is_next (next_is p.begins_class) ts ≡ false
  pub member : is_next (next_says p.member_begin) ts ≡ false

module _ (names : Names) where
  pub plain_type : (ts : Text) → is_next (next_is (begins_type names)) ts ≡ true → Plain ts
  plain_type ts h = record {
    front = next_not (begins_type names) (λ w. is_some (p.front w)) (type_no_front names) ts h;
    part = next_not (begins_type names) (λ w. is_some (p.part_begin w)) (type_no_part names) ts h;
    class = next_not (begins_type names) p.begins_class (type_no_class names) ts h;
    member = next_not (begins_type names) (λ w. is_some (p.member_begin w)) (type_no_member names) ts h;
  }

  pub plain_result : {ts r : Text} {of : Option Ty} → ReadsResult names ts r of → Plain ts
  plain_result (ReadsResult.nothing) = record { front = refl; part = refl; class = refl; member = refl }
  plain_result (ReadsResult.result {ts = ts} d) = plain_type ts (first_type names d)

  pub plain_constant : {ts r : Text} {of : Item} → ReadsConstant names ts r of → Plain ts
  plain_constant (ReadsConstant.constant (ReadsConstantType.once {ts = ts} d) v) = plain_type ts (first_type names d)
  plain_constant (ReadsConstant.constant (ReadsConstantType.twice d) v) = record { front = refl; part = refl; class = refl; member = refl }

  pub plain_function : {ts r : Text} {of : Item} → ReadsFunction names ts r of → Plain ts
  plain_function (ReadsFunction.function d ps w b) = plain_result d

module _ (n : ℕ) (I : ItemAgains n) where
  -- ---- definitions of types

  pub complete_alias : {names : Names} {q : Sort} {x : Name} {k j e : Place} {a r : Text} {of : Ty} (w : Place) (d : ReadsType names q false k a (at (t.Ident x) j ∷ at t.Semicolon e ∷ r) of)
      → Is (p.item_by n names p.alias_start w a) (deep_type names n d) (with_type names x, item_of j (Some x) (item.Alias of)) r
  unfolding p.item_by p.alias
  complete_alias {names = names} w d = vlast _ (type_complete n I names false d (λ h. h) (λ _. refl)) refl

  pub complete_named_numbers : (names : Names) {x : Name} {j : Place} {a r : Text} {of : List Enumerator} (w : Place) (d : ReadsNumbers (with_type names x) a r of)
      → Is (p.item_by n names p.enum_start w (at (t.Ident x) j ∷ a)) (deep_numbers (with_type names x) n d) (with_type names x, item_of j (Some x) (item.Numbers of)) r
  unfolding p.item_by p.enumeration
  complete_named_numbers names {x = x} w d = vlast _ (complete_numbers n I (with_type names x) d) refl

  pub complete_unnamed_numbers : {names : Names} {a r : Text} {of : List Enumerator} (w : Place) (d : ReadsNumbers names a r of) → Is (p.item_by n names p.enum_start w a) (deep_numbers names n d) (names, item_of w None (item.Numbers of)) r
  unfolding p.item_by p.enumeration
  complete_unnamed_numbers {names = names} w (ReadsNumbers.numbers d ds) = vlast _ (complete_numbers n I names (ReadsNumbers.numbers d ds)) refl

  -- ---- in files

  fronted_part : (b : Body) {ts u r : Text} {found : List Bool} {v : Option Text} {tree : Item} → ReadsFronts ts u found → Plain u → Is (p.fronted n b.names found u) v tree r → Is (f.part n b ts) v (with_item b b.names tree) r
  unfolding f.part
  fronted_part b {ts} fr k z = same (passed (next_says p.part_begin) _ _ ts (no_part fr k) ∙ passed (next_is p.begins_class) _ _ ts (no_class fr k)) (vthen _ (front_turn n I b.names fr k.front) (vlast _ z refl))
    where
      no_part : {ts u : Text} {found : List Bool} → ReadsFronts ts u found → Plain u → is_next (next_says p.part_begin) ts ≡ false
      no_part (ReadsFronts.no_fronts) k = k.part
      no_part (ReadsFronts.static d) k = refl
      no_part (ReadsFronts.inline d) k = refl

      no_class : {ts u : Text} {found : List Bool} → ReadsFronts ts u found → Plain u → is_next (next_is p.begins_class) ts ≡ false
      no_class (ReadsFronts.no_fronts) k = k.class
      no_class (ReadsFronts.static d) k = refl
      no_class (ReadsFronts.inline d) k = refl

  pub complete_part_item : (items : List Item) (fields : List Field) {names names₁ : Names} {ts r : Text} {of : Item} (d : ReadsItem names ts names₁ r of) → Is (f.part n (body_of names items fields) ts) (deep_item n d) (with_item (body_of names items fields) names₁ of) r
  unfolding deep_item f.part f.part_by
  complete_part_item items fields (ReadsItem.alias {w = w} d) = vlast _ (complete_alias w d) refl
  complete_part_item items fields (ReadsItem.named_numbers {names = names} {w = w} d) = vlast _ (complete_named_numbers names w d) refl
  complete_part_item items fields (ReadsItem.numbers {w = w} d) = vlast _ (complete_unnamed_numbers w d) refl
  complete_part_item items fields (ReadsItem.constant {names = names} d) = fronted_part (body_of names items fields) ReadsFronts.no_fronts (plain_constant names d) (complete_constant n I names [] refl d)
  complete_part_item items fields (ReadsItem.static_constant {names = names} d) = fronted_part (body_of names items fields) (ReadsFronts.static ReadsFronts.no_fronts) (plain_constant names d) (complete_constant n I names (true ∷ []) refl d)
  complete_part_item items fields (ReadsItem.function {names = names} {fronts = fronts} fr d) = fronted_part (body_of names items fields) fr (plain_function names d) (complete_function n I names fronts d)

  -- ---- bodies outside their class

  no_word : (x : Name) (q : Place) (b : Text) → Plain (at (t.Ident x) q ∷ b)
  no_word x q b = record { front = refl; part = refl; class = refl; member = refl }

  pub complete_outside_part : (items : List Item) (fields : List Field) {names : Names} {ts r : Text} {of : Item} (d : ReadsOutside names [] ts r of) → Is (f.part n (body_of names items fields) ts) (deep_outside names n d) (with_item (body_of names items fields) names of) r
  unfolding deep_outside p.fronted p.by_name
  complete_outside_part items fields {names = names} (ReadsOutside.function {x = x} {y = y} {p = q} {result = result} (ReadsInline.bare) d k ps w z) =
      fronted_part (body_of names items fields) ReadsFronts.no_fronts (plain_result names d)
      (complete_outside_by n I names [] refl d (args_first n I names m.assign refl refl k) (args_first n I names m.paren_open refl refl k) (complete_outside_function n I names [] result x y q k ps w z))
  complete_outside_part items fields {names = names} (ReadsOutside.function {x = x} {y = y} {p = q} {result = result} (ReadsInline.inline) d k ps w z) =
      fronted_part (body_of names items fields) (ReadsFronts.inline ReadsFronts.no_fronts) (plain_result names d)
      (complete_outside_by n I names (false ∷ []) refl d (args_first n I names m.assign refl refl k) (args_first n I names m.paren_open refl refl k) (complete_outside_function n I names [] result x y q k ps w z))
  complete_outside_part items fields {names = names} (ReadsOutside.constructor {x = x} {y = y} {p = q} {q = g} {s = j} {o = o} {b = b} {params = params} {inits = inits} {of = of} k ps is z) =
      let found : Args n I names x b _ _ _ = complete_class_args n I names k refl in
      fronted_part (body_of names items fields) ReadsFronts.no_fronts (no_word x q b)
      (by_tree (ap (λ w. outside_item q [] x w (constructor_of j y params inits (Some of))) found.or_none)
      (vthen _ found.is (complete_outside_constructor n I names [] x y q found.found g o ps is z)))

  -- behind the parameters of a template
  outside_result : (names : Names) (of_template : List Param) {ts u r : Text} {y : Name} {q : Place} {result : Option Ty} {v : Option Text} {tree : Item} (d : ReadsResult names ts (at (t.Ident y) q ∷ u) result)
      → Is (p.outside_function n names of_template result (y, q) u) v tree r → Is (p.outside_result n names of_template ts) (deep_result names n d then v) tree r
  unfolding deep_result p.outside_result
  outside_result names of_template (ReadsResult.nothing) z = z
  outside_result names of_template (ReadsResult.result {ts = ts} d) z =
      same (passed (next_is m.void_word) _ _ ts (next_not (begins_type names) m.void_word (type_not_void names) ts (first_type names d))) (vthen _ (type_complete n I names false d (λ h. h) (λ _. refl)) z)

  not_by_name : (names : Names) (of_template : List Param) {ts u r : Text} {y : Name} {q : Place} {result : Option Ty} {v : Option Text} {tree : Item} (d : ReadsResult names ts (at (t.Ident y) q ∷ u) result) → is_next (next_is m.inline_word) ts ≡ false → is_next (next_says identifier) ts ≡ false
      → Is (p.outside_function n names of_template result (y, q) u) v tree r → Is (p.outside n names of_template ts) (deep_result names n d then v) tree r
  unfolding p.outside
  not_by_name names of_template {ts = ts} d h k z = same (passed (next_is m.inline_word) _ _ ts h ∙ passed (next_says identifier) _ _ ts k) (outside_result names of_template d z)

  by_type_name : (names : Names) (of_template : List Param) (x : Name) (j : Place) (args : Option (List TyArg)) (a : Text) {u r : Text} {y : Name} {q : Place} {w v : Option Text} {tree : Item} → is_type names x ≡ true → Is (p.named_args n names x a) w args (at (t.Ident y) q ∷ u)
      → Is (p.outside_function n names of_template (Some (p.named_of (x, j) args).ty) (y, q) u) v tree r → Is (p.outside n names of_template (at (t.Ident x) j ∷ a)) (w then v) tree r
  unfolding p.outside p.outside_name
  by_type_name names of_template x j args a {u = u} {y = y} {q = q} h g z =
      vthen _ g (same (if_type n I names (is_type names x) (name_at >>= λ y. p.outside_function n names of_template (Some (p.named_of (x, j) args).ty) y) fail (at (t.Ident y) q ∷ u) h) z)

  bare_result : (names : Names) (of_template : List Param) {ts u r : Text} {y : Name} {q : Place} {result : Option Ty} {v : Option Text} {tree : Item} (d : ReadsResult names ts (at (t.Ident y) q ∷ u) result)
      → Is (p.outside_function n names of_template result (y, q) u) v tree r → Is (p.outside n names of_template ts) (deep_result names n d then v) tree r
  unfolding deep_result deep_type deep_base
  bare_result names of_template (ReadsResult.nothing) z = not_by_name names of_template ReadsResult.nothing refl refl z
  bare_result names of_template (ReadsResult.result (ReadsType.constant d)) z = not_by_name names of_template (ReadsResult.result (ReadsType.constant d)) refl refl z
  bare_result names of_template (ReadsResult.result (ReadsType.plain (ReadsBase.bool))) z = not_by_name names of_template (ReadsResult.result (ReadsType.plain ReadsBase.bool)) refl refl z
  bare_result names of_template (ReadsResult.result (ReadsType.plain (ReadsBase.int))) z = not_by_name names of_template (ReadsResult.result (ReadsType.plain ReadsBase.int)) refl refl z
  bare_result names of_template (ReadsResult.result (ReadsType.plain (ReadsBase.short d))) z = not_by_name names of_template (ReadsResult.result (ReadsType.plain (ReadsBase.short d))) refl refl z
  bare_result names of_template (ReadsResult.result (ReadsType.plain (ReadsBase.long))) z = not_by_name names of_template (ReadsResult.result (ReadsType.plain ReadsBase.long)) refl refl z
  bare_result names of_template (ReadsResult.result (ReadsType.plain (ReadsBase.signed d))) z = not_by_name names of_template (ReadsResult.result (ReadsType.plain (ReadsBase.signed d))) refl refl z
  bare_result names of_template (ReadsResult.result (ReadsType.plain (ReadsBase.unsigned d))) z = not_by_name names of_template (ReadsResult.result (ReadsType.plain (ReadsBase.unsigned d))) refl refl z
  bare_result names of_template (ReadsResult.result (ReadsType.plain (ReadsBase.sized d))) z = not_by_name names of_template (ReadsResult.result (ReadsType.plain (ReadsBase.sized d))) refl refl z
  bare_result names of_template (ReadsResult.result (ReadsType.plain (ReadsBase.holder d))) z = not_by_name names of_template (ReadsResult.result (ReadsType.plain (ReadsBase.holder d))) refl refl z
  bare_result names of_template (ReadsResult.result (ReadsType.plain (ReadsBase.holder_both d))) z = not_by_name names of_template (ReadsResult.result (ReadsType.plain (ReadsBase.holder_both d))) refl refl z
  bare_result names of_template (ReadsResult.result (ReadsType.plain (ReadsBase.clock_input))) z = not_by_name names of_template (ReadsResult.result (ReadsType.plain ReadsBase.clock_input)) refl refl z
  bare_result names of_template (ReadsResult.result (ReadsType.plain (ReadsBase.module_name))) z = not_by_name names of_template (ReadsResult.result (ReadsType.plain ReadsBase.module_name)) refl refl z
  bare_result names of_template {u = u} {y = y} {q = q} (ReadsResult.result (ReadsType.plain (ReadsBase.named {x = x} {p = j} h))) z = by_type_name names of_template x j None (at (t.Ident y) q ∷ u) h (done (no_args n I names x (at (t.Ident y) q ∷ u) refl)) z
  bare_result names of_template (ReadsResult.result (ReadsType.plain (ReadsBase.with_args {x = x} {p = j} {l = l} {a = a} {args = args} h d))) z = by_type_name names of_template x j (Some args) (at t.Less l ∷ a) (and_left _ _ h) (some_args n I names x l h d) z

  pub complete_outside : (names : Names) (of_template : List Param) {ts r : Text} {of : Item} (d : ReadsOutside names of_template ts r of) → Is (p.outside n names of_template ts) (deep_outside names n d) of r
  unfolding deep_outside p.outside p.outside_name
  complete_outside names of_template (ReadsOutside.function {x = x} {y = y} {p = q} {result = result} (ReadsInline.bare) d k ps w z) = bare_result names of_template d (complete_outside_function n I names of_template result x y q k ps w z)
  complete_outside names of_template (ReadsOutside.function {x = x} {y = y} {p = q} {result = result} (ReadsInline.inline) d k ps w z) = outside_result names of_template d (complete_outside_function n I names of_template result x y q k ps w z)
  complete_outside names of_template (ReadsOutside.constructor {x = x} {y = y} {p = q} {q = g} {s = j} {o = o} {b = b} {params = params} {inits = inits} {of = of} k ps is z) =
      let found : Args n I names x b _ _ _ = complete_class_args n I names k refl in
      by_tree (ap (λ w. outside_item q of_template x w (constructor_of j y params inits (Some of))) found.or_none)
      (vthen _ found.is (complete_outside_constructor n I names of_template x y q found.found g o ps is z))
