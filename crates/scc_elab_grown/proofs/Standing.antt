-- What stands at a path when one more object does.
use Rattle.std.proofs.Common.{◌≡◌, ℕ, suc, ◌+◌, ◌<◌, ◌≤◌, Bool, true, false, cond, not, ◌&&◌, ◌||◌, List, [], ◌∷◌, ◌++◌, map, length, position, Option, Some, None, option_map, unwrap_or, if◌then◌else◌, nat_lt, refl, sym, ap, ◌∙◌, subst, arith, length-append}
use Rattle.std.specs.List.{prefix_len, list_any}
use Rattle.std.specs.Map.{lookup}
use Rattle.std.proofs.lemmas.Bool.Decides.{nat_tests}
use Rattle.indexmap.specs.IndexMap.{insert_entry}
use Rattle.scc_semantics.specs.Location.{Part, Location, Root, Top, Local, Answer, same, same_path, same_root}
use Rattle.scc_semantics_laws.proofs.Places.{same-is, same-self}
use Rattle.scc_elab_store.specs.declared.locations.Location.{Location as Held}
use Rattle.scc_elab_store.specs.contracts.locations.LocationPartialEq.TheImpl as location_equal
use Rattle.scc_elab_store.specs.Locations.{part_of, location_of}
use Rattle.scc_elab_store.specs.Stores.{entry_at}
use Rattle.scc_elab_store.proofs.Same.{entry_is}
use Rattle.scc_elab_store.proofs.Puts.{entry_put}
use Rattle.scc_elab_spec.specs.Design as design
use Rattle.scc_elab_spec.specs.Design.{Object, is_module}
use Rattle.scc_elab_spec.specs.Grown.{is_thing, is_pointer}
use Rattle.scc_elab_grown.specs.declared.objects.Object.{Object as HeldObject}
use Rattle.scc_elab_grown.specs.declared.objects.Here.{Here}
use Rattle.scc_elab_grown.specs.Objects.{object_of, nothing_here, stands, stands_at, first_number, noted, here_at, Keeps}

position_cons : {X : Type 0} (p : X → Bool) (x : X) (xs : List X) → position p (x ∷ xs) ≡ cond (p x) (Some 0) (option_map suc (position p xs))
position_cons p x xs = by (p x)
  where
    k : ℕ
    k = prefix_len (λ y. not (p y)) xs

    at_head : (a : Bool) → nat_lt 0 (suc (length xs)) ≡ a → cond {A = Option ℕ} a (Some 0) None ≡ Some 0
    at_head true e = refl
    at_head false e = absurd (grind (arith, nat_tests, e))

    behind : (a b : Bool) → nat_lt (1 + k) (suc (length xs)) ≡ a → nat_lt k (length xs) ≡ b
        → cond a (Some (1 + k)) None ≡ option_map suc (cond b (Some k) None)
    behind true true e g = ap Some (omega arith)
    behind false false e g = refl
    behind true false e g = absurd (grind (arith, nat_tests, e, g))
    behind false true e g = absurd (grind (arith, nat_tests, e, g))

    by : (c : Bool) → cond (nat_lt (cond (not c) (1 + k) 0) (suc (length xs))) (Some (cond (not c) (1 + k) 0)) None
        ≡ cond c (Some 0) (option_map suc (cond (nat_lt k (length xs)) (Some k) None))
    by true = at_head (nat_lt 0 (suc (length xs))) refl
    by false = behind (nat_lt (1 + k) (suc (length xs))) (nat_lt k (length xs)) refl refl

-- one more behind those that are there
abbrev or_last : Option ℕ → Bool → ℕ → Option ℕ
or_last (Some m) b n = Some m
or_last None b n = cond b (Some n) None

position_last : {X : Type 0} (p : X → Bool) (xs : List X) (y : X) → position p (xs ++ y ∷ []) ≡ or_last (position p xs) (p y) (length xs)
position_last p [] y = position_cons p y [] ∙ by (p y)
  where
    by : (c : Bool) → cond c (Some 0) (option_map suc (position p [])) ≡ cond c (Some 0) None
    by true = refl
    by false = refl
position_last p (x ∷ xs) y = position_cons p x (xs ++ y ∷ []) ∙ ap (λ o. cond (p x) (Some 0) (option_map suc o)) (position_last p xs y)
    ∙ by (p x) (position p xs) (p y) ∙ ap (λ o. or_last o (p y) (suc (length xs))) (sym (position_cons p x xs))
  where
    by : (c : Bool) (o : Option ℕ) (d : Bool) → cond c (Some 0) (option_map suc (or_last o d (length xs))) ≡ or_last (cond c (Some 0) (option_map suc o)) d (suc (length xs))
    by true o d = refl
    by false (Some m) d = refl
    by false None true = refl
    by false None false = refl

any_last : {X : Type 0} (p : X → Bool) (xs : List X) (y : X) → list_any p (xs ++ y ∷ []) ≡ (list_any p xs || p y)
any_last p [] y = by (p y)
  where
    by : (c : Bool) → (c || false) ≡ (false || c)
    by true = refl
    by false = refl
any_last p (x ∷ xs) y = ap (λ b. p x || b) (any_last p xs y) ∙ by (p x) (list_any p xs) (p y)
  where
    by : (a b c : Bool) → (a || (b || c)) ≡ ((a || b) || c)
    by true b c = refl
    by false b c = refl

or_none : (o : Option ℕ) (n : ℕ) → or_last o false n ≡ o
or_none (Some m) n = refl
or_none None n = refl

or_false : (b : Bool) → (b || false) ≡ b
or_false true = refl
or_false false = refl

or_true : (b : Bool) → (b || true) ≡ true
or_true true = refl
or_true false = refl

first_is : (o : Option ℕ) (n : ℕ) → or_last o true n ≡ first_number o n
first_is (Some m) n = refl
first_is None n = refl

and_no : (b : Bool) → (b && false) ≡ false
and_no true = refl
and_no false = refl

module _ (os : List Object) (o : Object) (path : List Part) where
  stands_last : stands (os ++ o ∷ []) path ≡ record {
    thing = or_last (stands os path).thing (is_thing o.node && same_path o.path path) (length os);
    pointer = or_last (stands os path).pointer (is_pointer o.node && same_path o.path path) (length os);
    has_class = (stands os path).has_class || (is_module o.node && same_path o.path path);
  }
  stands_last = λ i. record {
    thing = position_last (λ q. is_thing q.node && same_path q.path path) os o i;
    pointer = position_last (λ q. is_pointer q.node && same_path q.path path) os o i;
    has_class = any_last (λ q. is_module q.node && same_path q.path path) os o i;
  }

  elsewhere : same_path o.path path ≡ false → stands (os ++ o ∷ []) path ≡ stands os path
  elsewhere e = stands_last ∙ (λ i. record {
    thing = (ap (λ b. or_last (stands os path).thing (is_thing o.node && b) (length os)) e ∙ ap (λ b. or_last (stands os path).thing b (length os)) (and_no (is_thing o.node)) ∙ or_none (stands os path).thing (length os)) i;
    pointer = (ap (λ b. or_last (stands os path).pointer (is_pointer o.node && b) (length os)) e ∙ ap (λ b. or_last (stands os path).pointer b (length os)) (and_no (is_pointer o.node)) ∙ or_none (stands os path).pointer (length os)) i;
    has_class = (ap (λ b. (stands os path).has_class || (is_module o.node && b)) e ∙ ap (λ b. (stands os path).has_class || b) (and_no (is_module o.node)) ∙ or_false (stands os path).has_class) i;
  })

  abbrev by_node : design.Node → Here → Here
  by_node n h = record {
    thing = or_last h.thing (is_thing n && true) (length os);
    pointer = or_last h.pointer (is_pointer n && true) (length os);
    has_class = h.has_class || (is_module n && true);
  }

  noted_is : (n : design.Node) (h : Here) → by_node n h ≡ noted (length os) n h
  noted_is (design.Module c) h = λ i. record { thing = or_none h.thing (length os) i; pointer = or_none h.pointer (length os) i; has_class = or_true h.has_class i }
  noted_is (design.Port k output root) h = λ i. record { thing = first_is h.thing (length os) i; pointer = or_none h.pointer (length os) i; has_class = or_false h.has_class i }
  noted_is (design.Signal k) h = λ i. record { thing = first_is h.thing (length os) i; pointer = or_none h.pointer (length os) i; has_class = or_false h.has_class i }
  noted_is (design.Variable k w) h = λ i. record { thing = first_is h.thing (length os) i; pointer = or_none h.pointer (length os) i; has_class = or_false h.has_class i }
  noted_is (design.Pointer t) h = λ i. record { thing = or_none h.thing (length os) i; pointer = first_is h.pointer (length os) i; has_class = or_false h.has_class i }

  there : same_path o.path path ≡ true → stands (os ++ o ∷ []) path ≡ noted (length os) o.node (stands os path)
  there e = stands_last ∙ (λ i. record {
    thing = or_last (stands os path).thing (is_thing o.node && e i) (length os);
    pointer = or_last (stands os path).pointer (is_pointer o.node && e i) (length os);
    has_class = (stands os path).has_class || (is_module o.node && e i);
  }) ∙ noted_is o.node (stands os path)

-- what a look-up by a location finds
pub found_here : (objects : List HeldObject) (es : List (Held × Here)) (at : Held) → Keeps objects es → unwrap_or (lookup (location_equal.eq-value.it at) es) nothing_here ≡ stands_at (map object_of objects) (location_of at) (location_of at).root
found_here objects es at keeps = ap (λ o. unwrap_or o nothing_here) (entry_is at es) ∙ keeps.here (location_of at)

map_last : {A B : Type 0} (f : A → B) (xs : List A) (y : A) → map f (xs ++ y ∷ []) ≡ map f xs ++ f y ∷ []
map_last f [] y = refl
map_last f (x ∷ xs) y = ap (λ zs. f x ∷ zs) (map_last f xs y)

map_long : {A B : Type 0} (f : A → B) (xs : List A) → length (map f xs) ≡ length xs
map_long f [] = refl
map_long f (x ∷ xs) = ap suc (map_long f xs)

module _ (objects : List HeldObject) (es : List (Held × Here)) (keeps : Keeps objects es) (o : HeldObject) (at : Held) (here : Here) (is_at : location_of at ≡ record { root = Top; path = map part_of o.path.items })
    (is_here : here ≡ noted (length objects) (object_of o).node (stands_at (map object_of objects) (location_of at) (location_of at).root)) where
  os : List Object
  os = map object_of objects

  at_path : (path : List Part) (b : Bool) → same_path (object_of o).path path ≡ b
      → unwrap_or (if b then Some here else entry_at es (record { root = Top; path = path })) nothing_here ≡ stands (map object_of (objects ++ o ∷ [])) path
  at_path path true e =
      let same_there : (object_of o).path ≡ path = ap (λ l. l.path) (same-is (record { root = Top; path = (object_of o).path }) (record { root = Top; path = path }) e) in
      is_here ∙ ap (λ l. noted (length objects) (object_of o).node (stands_at (map object_of objects) l l.root)) is_at
      ∙ (λ i. noted (sym (map_long object_of objects) i) (object_of o).node (stands (map object_of objects) (same_there i)))
      ∙ sym (there (map object_of objects) (object_of o) path e) ∙ ap (λ zs. stands zs path) (sym (map_last object_of objects o))
  at_path path false e = keeps.here (record { root = Top; path = path }) ∙ sym (elsewhere (map object_of objects) (object_of o) path e) ∙ ap (λ zs. stands zs path) (sym (map_last object_of objects o))

  by_root : (r : Root) (path : List Part) → unwrap_or (if same (location_of at) (record { root = r; path = path }) then Some here else entry_at es (record { root = r; path = path })) nothing_here
      ≡ stands_at (map object_of (objects ++ o ∷ [])) (record { root = r; path = path }) r
  by_root Top path = ap (λ l. unwrap_or (if same l (record { root = Top; path = path }) then Some here else entry_at es (record { root = Top; path = path })) nothing_here) is_at ∙ at_path path (same_path (object_of o).path path) refl
  by_root (Local i cs n) path = ap (λ l. unwrap_or (if same l (record { root = Local i cs n; path = path }) then Some here else entry_at es (record { root = Local i cs n; path = path })) nothing_here) is_at ∙ keeps.here (record { root = Local i cs n; path = path })
  by_root (Answer p cs) path = ap (λ l. unwrap_or (if same l (record { root = Answer p cs; path = path }) then Some here else entry_at es (record { root = Answer p cs; path = path })) nothing_here) is_at ∙ keeps.here (record { root = Answer p cs; path = path })

  pub still_keeps : length objects < 65536 → Keeps (objects ++ o ∷ []) (insert_entry location_equal.eq-value.it es at here)
  still_keeps h = record {
    here = λ l. ap (λ e. unwrap_or e nothing_here) (entry_put es at here l) ∙ by_root l.root l.path;
    few = let e : length (objects ++ o ∷ []) ≡ length objects + 1 = length-append objects (o ∷ []) in omega arith;
  }

pub kept_behind : (objects new : List HeldObject) (es now : List (Held × Here)) → Keeps objects es → (o : HeldObject) (at : Held) (here : Here) → location_of at ≡ record { root = Top; path = map part_of o.path.items }
    → here ≡ noted (length objects) (object_of o).node (stands_at (map object_of objects) (location_of at) (location_of at).root) → length objects < 65536 → new ≡ objects ++ o ∷ [] → now ≡ insert_entry location_equal.eq-value.it es at here → Keeps new now
kept_behind objects new es now keeps o at here a b h e f = subst (λ z. Keeps z now) (sym e) (subst (λ z. Keeps (objects ++ o ∷ []) z) (sym f) (still_keeps objects es keeps o at here a b h))
