-- What names mean in a session is what the definitions say, where the index is that of the source and the class body is that which counts.
use Rattle.std.proofs.Common.{◌≡◌, refl, sym, ap, subst, ◌∙◌, ℕ, zero, suc, Bool, true, false, nat_eq, ◌||◌, cond, if◌then◌else◌, List, [], ◌∷◌, find, Option, Some, None, option_map, option_and_then, unwrap_or, is_some, slice_get}
use Rattle.std.specs.List.{list_any}
use Rattle.scc_templates_spec.specs.Walk.{Arg}
use Rattle.scc_templates_spec.specs.World.{Owner, File}
use Rattle.scc_templates_spec.specs.Source.{Source, Top, Param, OfClass}
use Rattle.scc_plain_spec.specs.Types.{Object}
use Rattle.scc_plain_spec.specs.Names.{Entry, IsClass, IsAlias, IsNumbers, IsEnumerator, IsConstant, IsFunction, IsField, Naming, Named, file_names, bound_to, hiding, meaning_in, names_of_members}
use Rattle.scc_plain_spec.specs.Scope.{Body, Found as Declared, Found_, look}
use Rattle.scc_templates_scopes.specs.declared.index.Index.{Index}
use Rattle.scc_templates_scopes.specs.declared.entry.Entry.{Entry as Held}
use Rattle.scc_templates_scopes.specs.declared.entry.Entry.TheVariants as entry
use Rattle.scc_templates_spec.specs.Replace.{Bound, unbound}
use Rattle.scc_templates_scopes.specs.declared.entry.Found.{Found}
use Rattle.scc_templates_scopes.specs.declared.entry.Given.{Given}
use Rattle.scc_templates_scopes.specs.declared.entry.Given.TheVariants as given
use Rattle.scc_templates_scopes.specs.declared.ty.Arg.{Arg as Passed}
use Rattle.scc_templates_scopes.specs.declared.ty.InstanceId.{InstanceId}
use Rattle.scc_templates_scopes.specs.Indexed.{IsIndex, held, param_says, params_of, place_in, says}
use Rattle.scc_templates_scopes.proofs.Indices.{class_stands, none_some, some_same}
use Rattle.scc_templates.specs.declared.table.Row.{Row}
use Rattle.scc_templates.specs.declared.session.Templates.{Templates}
use Rattle.scc_templates.specs.Sessions.{Counts, IsOpen, OfArg, OfOwner, Sight, Stands, arg_in, arg_of, args_at, args_in, bound_in, declared, found_sight, given_arg, item_of, member_of, nearest, outside_params, own_arg, own_names, objects, owner_in, scoped_sight, sight, sight_by, sight_else, sight_in, sight_of}

-- ---- arguments of parameters

place_next : (k x : ℕ) (ps : List Param) → place_in (suc k) ps x ≡ option_map suc (place_in k ps x)
place_next k x [] = refl
place_next k x (p ∷ ps) = by (nat_eq p.name x) (place_next (suc k) x ps)
  where
    by : (b : Bool) → place_in (suc (suc k)) ps x ≡ option_map suc (place_in (suc k) ps x) → (if b then Some (suc k) else place_in (suc (suc k)) ps x) ≡ option_map suc (if b then Some k else place_in (suc k) ps x)
    by true h = refl
    by false h = h

abbrev passed_at : List Object → List Passed → Option ℕ → Option Arg
passed_at os as_given o = option_and_then (λ j. option_map (arg_in os) (slice_get as_given j)) o

none_passed : (os : List Object) (o : Option ℕ) → None ≡ passed_at os [] o
none_passed os None = refl
none_passed os (Some j) = refl

behind_first : (os : List Object) (a : Passed) (as_given : List Passed) (o : Option ℕ) → passed_at os as_given o ≡ passed_at os (a ∷ as_given) (option_map suc o)
behind_first os a as_given None = refl
behind_first os a as_given (Some j) = refl

pub bound_is : (os : List Object) (as_given : List Passed) (ps : List Param) (x : ℕ) → bound_to ps (args_in os as_given) x ≡ passed_at os as_given (place_in 0 ps x)
bound_is os as_given [] x = refl
bound_is os [] (p ∷ ps) x = none_passed os (place_in 0 (p ∷ ps) x)
bound_is os (a ∷ as_given) (p ∷ ps) x = by (nat_eq p.name x) (bound_is os as_given ps x ∙ behind_first os a as_given (place_in 0 ps x) ∙ ap (passed_at os (a ∷ as_given)) (sym (place_next 0 x ps)))
  where
    by : (b : Bool) → bound_to ps (args_in os as_given) x ≡ passed_at os (a ∷ as_given) (place_in 1 ps x)
        → (if b then Some (arg_in os a) else bound_to ps (args_in os as_given) x) ≡ passed_at os (a ∷ as_given) (if b then Some 0 else place_in 1 ps x)
    by true h = refl
    by false h = h

-- of no row there are no arguments
of_row : (os : List Object) (r : Option Row) (o : Option ℕ) → passed_at os (unwrap_or (option_map (λ (r : Row). r.args) r) []) o ≡ option_map (arg_in os) (option_and_then (λ k. option_and_then (λ (r : Row). slice_get r.args k) r) o)
of_row os None None = refl
of_row os None (Some k) = refl
of_row os (Some r) None = refl
of_row os (Some r) (Some k) = refl

-- ---- declarations

held_sight : (os : List Object) (i : Option InstanceId) (e : Entry) → sight_of os i (held e) ≡ OfOwner (owner_in os i) e
held_sight os i (IsClass n) = refl
held_sight os i (IsAlias n) = refl
held_sight os i IsNumbers = refl
held_sight os i (IsEnumerator n k) = refl
held_sight os i (IsConstant n) = refl
held_sight os i IsFunction = refl
held_sight os i (IsField k) = refl

some_sight : (os : List Object) (i : Option InstanceId) (m : Option Entry) (e : Held) (a : Option Arg) → option_map held m ≡ Some e → Some (sight_of os i e) ≡ sight_by (owner_in os i) m a
some_sight os i None e a p = none_some p
some_sight os i (Some n) e a p = ap (λ z. Some (sight_of os i z)) (sym (some_same p)) ∙ ap Some (held_sight os i n)

none_held : (m : Option Entry) → option_map held m ≡ None → m ≡ None
none_held None p = refl
none_held (Some e) p = none_some (sym p)

none_sight : (os : List Object) (o : Owner) (m : Option Entry) (own : Option Passed) (a : Option Arg) → m ≡ None → a ≡ option_map (arg_in os) own → option_map (λ a. OfArg (arg_in os a)) own ≡ sight_by o m a
none_sight os o m own a p q = by own ∙ ap (option_map OfArg) (sym q) ∙ ap (λ m. sight_by o m a) (sym p)
  where
    by : (own : Option Passed) → option_map (λ a. OfArg (arg_in os a)) own ≡ option_map OfArg (option_map (arg_in os) own)
    by None = refl
    by (Some b) = refl

-- ---- names that are declared hide parameters

hides : (names : List Naming) (x : ℕ) → meaning_in names x ≡ None → list_any (λ m. nat_eq m.name x) names ≡ false
hides [] x e = refl
hides (m ∷ names) x e = by (nat_eq m.name x) refl (hides names x)
  where
    by : (b : Bool) → nat_eq m.name x ≡ b → (meaning_in names x ≡ None → list_any (λ m. nat_eq m.name x) names ≡ false) → list_any (λ m. nat_eq m.name x) (m ∷ names) ≡ false
    by true p h = none_some (sym (ap (λ c. option_map (λ (m : Naming). m.entry) (cond c (Some m) (find (λ m. nat_eq m.name x) names))) (sym p) ∙ e))
    by false p h = ap (λ c. c || list_any (λ m. nat_eq m.name x) names) p ∙ (h (ap (λ c. option_map (λ (m : Naming). m.entry) (cond c (Some m) (find (λ m. nat_eq m.name x) names))) (sym p) ∙ e))

abbrev found : InstanceId → Held → Found
found j e = record { scope = Some j; entry = e }

-- ---- a class body's names and parameters

no_params : (b : Bool) (ps : List Param) → (b ≡ true → ps ≡ []) → (if b then [] else ps) ≡ ps
no_params true ps h = sym (h refl)
no_params false ps h = refl

module _ (t : Templates) (s : Source) (i : ℕ) (b : Body) (index : IsIndex t.index s) (counts : Counts t s i b) where
  pub declared_by : (x : ℕ) → option_and_then (λ n. option_map held (says t.index (Some n) x)) (item_of t i) ≡ option_map held (meaning_in (names_of_members b.class.members) x)
  declared_by x = ap (option_and_then (λ n. option_map held (says t.index (Some n) x))) counts.item ∙ ap (option_map held) (index.members b.item x (record { place = b.place; name = b.name; class = b.class }) counts.class)

  pub own_by : (x : ℕ) → option_map (arg_in (objects t.table)) (option_and_then (λ n. option_and_then (λ k. arg_of t.table i k) (param_says t.index n x)) (item_of t i)) ≡ bound_to b.class.params (args_at t i) x
  own_by x = ap (λ o. option_map (arg_in (objects t.table)) (option_and_then (λ n. option_and_then (λ k. arg_of t.table i k) (param_says t.index n x)) o)) counts.item
      ∙ ap (λ o. option_map (arg_in (objects t.table)) (option_and_then (λ k. arg_of t.table i k) o)) (index.params b.item x (OfClass b.place (Some b.name) b.class) (class_stands s b.item (record { place = b.place; name = b.name; class = b.class }) counts.class))
      ∙ ap (λ ps. option_map (arg_in (objects t.table)) (option_and_then (λ k. arg_of t.table i k) (place_in 0 ps x))) (no_params (is_some b.class.special) b.class.params counts.bare)
      ∙ sym (of_row (objects t.table) (slice_get t.table.rows.items i) (place_in 0 b.class.params x))
      ∙ sym (bound_is (objects t.table) (unwrap_or (option_map (λ (r : Row). r.args) (slice_get t.table.rows.items i)) []) b.class.params x)

  -- the session has the number of the instance
  pub member_some : (j : InstanceId) (x : ℕ) (d : Option Held) (e : Held) → d ≡ option_and_then (λ n. option_map held (says t.index (Some n) x)) (item_of t i) → d ≡ Some e → Some (found j e) ≡ member_of j b x
  member_some j x d e p q = by (meaning_in (names_of_members b.class.members) x) (sym q ∙ p ∙ declared_by x)
    where
      by : (m : Option Entry) → Some e ≡ option_map held m → Some (found j e) ≡ option_map (λ e. found j (held e)) m
      by None h = none_some (sym h)
      by (Some n) h = ap (λ e. Some (found j e)) (some_same h)

  pub member_none : (j : InstanceId) (x : ℕ) (d : Option Held) → d ≡ option_and_then (λ n. option_map held (says t.index (Some n) x)) (item_of t i) → d ≡ None → None ≡ member_of j b x
  member_none j x d p q = ap (option_map (λ e. found j (held e))) (sym (none_held (meaning_in (names_of_members b.class.members) x) (sym (declared_by x) ∙ sym p ∙ q)))

  pub scoped_some : (o : InstanceId) (x : ℕ) (d : Option Held) (e : Held) → d ≡ option_and_then (λ n. option_map held (says t.index (Some n) x)) (item_of t i) → d ≡ Some e
      → Some (sight_of (objects t.table) (Some o) e) ≡ scoped_sight (owner_in (objects t.table) (Some o)) b x
  scoped_some o x d e p q = some_sight (objects t.table) (Some o) (meaning_in (names_of_members b.class.members) x) e (b.bound x) (sym (declared_by x) ∙ sym p ∙ q)

  hidden : (x : ℕ) → meaning_in (names_of_members b.class.members) x ≡ None → b.bound x ≡ bound_to b.class.params (args_at t i) x
  hidden x e = ap (λ f. f x) counts.bound ∙ ap (λ c. cond c None (bound_to b.class.params (args_at t i) x)) (hides (names_of_members b.class.members) x e)

  pub scoped_none : (o : Owner) (x : ℕ) (d : Option Held) (own : Option Passed) → d ≡ option_and_then (λ n. option_map held (says t.index (Some n) x)) (item_of t i) → d ≡ None
      → own ≡ option_and_then (λ n. option_and_then (λ k. arg_of t.table i k) (param_says t.index n x)) (item_of t i) → option_map (λ a. OfArg (arg_in (objects t.table) a)) own ≡ scoped_sight o b x
  scoped_none o x d own p q r = let e : meaning_in (names_of_members b.class.members) x ≡ None = none_held (meaning_in (names_of_members b.class.members) x) (sym (declared_by x) ∙ sym p ∙ q) in
      none_sight (objects t.table) o (meaning_in (names_of_members b.class.members) x) own (b.bound x) e (hidden x e ∙ sym (own_by x) ∙ ap (option_map (arg_in (objects t.table))) (sym r))

-- ---- the nearest declaration

looked : {A B : Type 0} (f : Option A → B) {x y : Option A} → x ≡ y → f x ≡ f y
looked f e = ap f e

-- the file's declaration, where a class body has none
abbrev of_file : Source → ℕ → Option Declared
of_file s x = option_map (Found_ File) (meaning_in (file_names s) x)

file_sight : (os : List Object) (m : Option Entry) → option_map (λ f. sight_in os f) (option_map (λ e. record { scope = None; entry = e }) (option_map held m)) ≡ option_and_then found_sight (option_map (Found_ File) m)
file_sight os None = refl
file_sight os (Some e) = ap Some (held_sight os None e)

-- behind the local variables and the class body
beyond : (t : Templates) (s : Source) (index : IsIndex t.index s) (x : ℕ) (a : Option Passed) (b : Option Arg) → b ≡ option_map (arg_in (objects t.table)) a
    → option_map (λ f. sight_in (objects t.table) f) (nearest None None a (option_map held (says t.index None x))) ≡ sight_else b (of_file s x)
beyond t s index x (Some a) b e = ap (λ b. sight_else b (of_file s x)) (sym e)
beyond t s index x None b e = ap (λ o. option_map (λ f. sight_in (objects t.table) f) (nearest None None None (option_map held o))) (index.file x) ∙ file_sight (objects t.table) (meaning_in (file_names s) x) ∙ ap (λ b. sight_else b (of_file s x)) (sym e)

-- what a scope's own names hide
abbrev own_look : Source → Owner → Option Entry → ℕ → Option Declared
own_look s o (Some e) x = Some (Found_ o e)
own_look s o None x = of_file s x

look_own : (s : Source) (o : Owner) (own : List Naming) (x : ℕ) (m : Option Entry) → meaning_in own x ≡ m → look s (record { owner = o; own = own; is_local = λ x. false }) x ≡ own_look s o m x
look_own s o own x None e = cc
look_own s o own x (Some n) e = cc

hidden_by : (names : List Naming) (x : ℕ) (e : Entry) → meaning_in names x ≡ Some e → list_any (λ m. nat_eq m.name x) names ≡ true
hidden_by [] x e p = none_some p
hidden_by (m ∷ names) x e p = by (nat_eq m.name x) refl (hidden_by names x e)
  where
    by : (b : Bool) → nat_eq m.name x ≡ b → (meaning_in names x ≡ Some e → list_any (λ m. nat_eq m.name x) names ≡ true) → list_any (λ m. nat_eq m.name x) (m ∷ names) ≡ true
    by true q h = ap (λ c. c || list_any (λ m. nat_eq m.name x) names) q
    by false q h = ap (λ c. c || list_any (λ m. nat_eq m.name x) names) q ∙ h (ap (λ c. option_map (λ (m : Naming). m.entry) (cond c (Some m) (find (λ m. nat_eq m.name x) names))) (sym q) ∙ p)

either_none : (c : Bool) → cond {A = Option Arg} c None None ≡ None
either_none true = refl
either_none false = refl

-- of a class body
module _ (t : Templates) (s : Source) (i : InstanceId) (b : Body) (index : IsIndex t.index s) (counts : Counts t s i.0 b) where
  in_class : (x : ℕ) (a : Option Passed) (params : Bound) → option_map (arg_in (objects t.table)) a ≡ params x → (m : Option Entry) → meaning_in (names_of_members b.class.members) x ≡ m
      → option_map (λ f. sight_in (objects t.table) f) (nearest None (declared t (Some i) x) a (option_map held (says t.index None x)))
      ≡ sight_else (hiding (names_of_members b.class.members) params x) (look s (record { owner = owner_in (objects t.table) (Some i); own = names_of_members b.class.members; is_local = λ x. false }) x)
  in_class x a params p None e =
      let d : declared t (Some i) x ≡ None = ap (option_map (found i)) (declared_by t s i.0 b index counts x ∙ ap (option_map held) e) in
      let h : hiding (names_of_members b.class.members) params x ≡ params x = ap (λ c. cond c None (params x)) (hides (names_of_members b.class.members) x e) in
      ap (λ d. option_map (λ f. sight_in (objects t.table) f) (nearest None d a (option_map held (says t.index None x)))) d ∙ beyond t s index x a (hiding (names_of_members b.class.members) params x) (h ∙ sym p)
      ∙ ap (sight_else (hiding (names_of_members b.class.members) params x)) (sym (look_own s (owner_in (objects t.table) (Some i)) (names_of_members b.class.members) x None e))
  in_class x a params p (Some n) e =
      let d : declared t (Some i) x ≡ Some (found i (held n)) = ap (option_map (found i)) (declared_by t s i.0 b index counts x ∙ ap (option_map held) e) in
      let h : hiding (names_of_members b.class.members) params x ≡ None = ap (λ c. cond c None (params x)) (hidden_by (names_of_members b.class.members) x n e) in
      ap (λ d. option_map (λ f. sight_in (objects t.table) f) (nearest None d a (option_map held (says t.index None x)))) d ∙ ap Some (held_sight (objects t.table) (Some i) n)
      ∙ ap (λ z. sight_else z (own_look s (owner_in (objects t.table) (Some i)) (Some n) x)) (sym h)
      ∙ ap (sight_else (hiding (names_of_members b.class.members) params x)) (sym (look_own s (owner_in (objects t.table) (Some i)) (names_of_members b.class.members) x (Some n) e))

  none_hidden : (x : ℕ) → hiding (names_of_members b.class.members) unbound x ≡ None
  none_hidden x = either_none (list_any (λ m. nat_eq m.name x) (names_of_members b.class.members))

  outside_by : (n x : ℕ) (o : Option Top) → slice_get s.items n ≡ o → is_some o ≡ true
      → option_map (arg_in (objects t.table)) (given_arg t (Some i) (given.Outside n) x) ≡ bound_to (outside_params s n) (args_at t i.0) x
  outside_by n x None e p = absurd cc
  outside_by n x (Some u) e p =
      ap (λ o. option_map (arg_in (objects t.table)) (option_and_then (λ k. arg_of t.table i.0 k) o)) (index.params n x u e)
      ∙ sym (of_row (objects t.table) (slice_get t.table.rows.items i.0) (place_in 0 (params_of u) x))
      ∙ sym (bound_is (objects t.table) (unwrap_or (option_map (λ (r : Row). r.args) (slice_get t.table.rows.items i.0)) []) (params_of u) x)
      ∙ ap (λ o. bound_to (unwrap_or (option_map params_of o) []) (args_at t i.0) x) (sym e)

  pub class_sight : (x : ℕ) (g : Given) → IsOpen s g
      → option_map (λ f. sight_in (objects t.table) f) (nearest None (declared t (Some i) x) (given_arg t (Some i) g x) (option_map held (says t.index None x)))
      ≡ sight s None (owner_in (objects t.table) (Some i)) (names_of_members b.class.members) (bound_in t s (Some i) (Some b) g) x
  class_sight x given.Nothing open_ = in_class x None unbound refl (meaning_in (names_of_members b.class.members) x) refl ∙ ap (λ z. sight_else z (look s (record { owner = owner_in (objects t.table) (Some i); own = names_of_members b.class.members; is_local = λ x. false }) x)) (none_hidden x)
  class_sight x given.Own open_ = in_class x (own_arg t i.0 x) (bound_to b.class.params (args_at t i.0)) (own_by t s i.0 b index counts x) (meaning_in (names_of_members b.class.members) x) refl
      ∙ ap (λ f. sight_else (f x) (look s (record { owner = owner_in (objects t.table) (Some i); own = names_of_members b.class.members; is_local = λ x. false }) x)) (sym counts.bound)
  class_sight x (given.Outside n) open_ = in_class x (given_arg t (Some i) (given.Outside n) x) (bound_to (outside_params s n) (args_at t i.0)) (outside_by n x (slice_get s.items n) refl open_) (meaning_in (names_of_members b.class.members) x) refl
  class_sight x (given.Earlier class base count) open_ = absurd open_

no_arg : (t : Templates) (x : ℕ) (s : Source) (g : Given) → IsOpen s g → given_arg t None g x ≡ None
no_arg t x s given.Nothing open_ = refl
no_arg t x s given.Own open_ = refl
no_arg t x s (given.Outside n) open_ = by (param_says t.index n x)
  where
    by : (o : Option ℕ) → option_and_then (λ k. option_and_then (λ (i : InstanceId). arg_of t.table i.0 k) None) o ≡ None
    by None = refl
    by (Some k) = refl
no_arg t x s (given.Earlier class base count) open_ = absurd open_

file_only : (t : Templates) (s : Source) (index : IsIndex t.index s) (x : ℕ) (g : Given) → IsOpen s g
    → option_map (λ f. sight_in (objects t.table) f) (nearest None None (given_arg t None g x) (option_map held (says t.index None x))) ≡ sight s None File [] unbound x
file_only t s index x g open_ = beyond t s index x (given_arg t None g x) None (sym (ap (option_map (arg_in (objects t.table))) (no_arg t x s g open_)))

pub sees : (t : Templates) (s : Source) (i : Option InstanceId) (b : Option Body) (g : Given) (l : Option ℕ) (x : ℕ) → IsIndex t.index s → Stands t s i b → IsOpen s g
    → option_map (λ f. sight_in (objects t.table) f) (nearest l (declared t i x) (given_arg t i g x) (option_map held (says t.index None x)))
    ≡ sight s l (owner_in (objects t.table) i) (own_names b) (bound_in t s i b g) x
sees t s i b g (Some n) x index stands open_ = refl
sees t s None None g None x index stands open_ = file_only t s index x g open_
sees t s (Some i) (Some b) g None x index stands open_ = class_sight t s i b index stands x g open_
sees t s None (Some b) g None x index stands open_ = absurd stands
sees t s (Some i) None g None x index stands open_ = absurd stands
