-- What pointers reach when one more object stands.
use Rattle.std.proofs.Common.{◌≡◌, ℕ, suc, ◌+◌, ◌<◌, ◌≤◌, Bool, true, false, cond, not, ◌&&◌, List, [], ◌∷◌, ◌++◌, map, length, position, Option, Some, None, option_map, is_some, if◌then◌else◌, nat_lt, refl, sym, ap, ◌∙◌, subst, arith}
use Rattle.std.specs.List.{prefix_len}
use Rattle.std.proofs.lemmas.Bool.Decides.{nat_tests}
use Rattle.indexmap.specs.IndexMap.{insert_entry}
use Rattle.scc_semantics.specs.Location.{Part, Location, Top, same, same_path}
use Rattle.scc_semantics_laws.proofs.Places.{same-is}
use Rattle.scc_elab_store.specs.declared.locations.Location.{Location as Held}
use Rattle.scc_elab_store.specs.contracts.locations.LocationPartialEq.TheImpl as location_equal
use Rattle.scc_elab_store.specs.Locations.{location_of}
use Rattle.scc_elab_store.specs.Stores.{entry_at}
use Rattle.scc_elab_store.proofs.Puts.{entry_put}
use Rattle.scc_elab_spec.specs.Design.{Object}
use Rattle.scc_elab_spec.specs.Grown.{at_path}
use Rattle.scc_elab_spec.specs.Elaborated.{is_reached}
use Rattle.scc_elab_left.specs.Reached.{Reaches, reached_at}

position_cons : {X : Type 0} (p : X → Bool) (x : X) (xs : List X) → position p (x ∷ xs) ≡ cond (p x) (Some 0) (option_map suc (position p xs))
position_cons p x xs = by (p x)
  where
    k : ℕ
    k = prefix_len (λ y. not (p y)) xs

    at_head : (a : Bool) → nat_lt 0 (suc (length xs)) ≡ a → cond {A = Option ℕ} a (Some 0) None ≡ Some 0
    at_head true e = refl
    at_head false e = absurd (grind (arith, nat_tests, e))

    behind : (a b : Bool) → nat_lt (1 + k) (suc (length xs)) ≡ a → nat_lt k (length xs) ≡ b
        → cond a (Some (1 + k)) None ≡ option_map suc (cond b (Some k) None)
    behind true true e g = ap Some (omega arith)
    behind false false e g = refl
    behind true false e g = absurd (grind (arith, nat_tests, e, g))
    behind false true e g = absurd (grind (arith, nat_tests, e, g))

    by : (c : Bool) → cond (nat_lt (cond (not c) (1 + k) 0) (suc (length xs))) (Some (cond (not c) (1 + k) 0)) None
        ≡ cond c (Some 0) (option_map suc (cond (nat_lt k (length xs)) (Some k) None))
    by true = at_head (nat_lt 0 (suc (length xs))) refl
    by false = behind (nat_lt (1 + k) (suc (length xs))) (nat_lt k (length xs)) refl refl

-- one more behind those that are there
abbrev or_last : Option ℕ → Bool → ℕ → Option ℕ
or_last (Some m) b n = Some m
or_last None b n = cond b (Some n) None

position_last : {X : Type 0} (p : X → Bool) (xs : List X) (y : X) → position p (xs ++ y ∷ []) ≡ or_last (position p xs) (p y) (length xs)
position_last p [] y = position_cons p y [] ∙ by (p y)
  where
    by : (c : Bool) → cond c (Some 0) (option_map suc (position p [])) ≡ cond c (Some 0) None
    by true = refl
    by false = refl
position_last p (x ∷ xs) y = position_cons p x (xs ++ y ∷ []) ∙ ap (λ o. cond (p x) (Some 0) (option_map suc o)) (position_last p xs y)
    ∙ by (p x) (position p xs) (p y) ∙ ap (λ o. or_last o (p y) (suc (length xs))) (sym (position_cons p x xs))
  where
    by : (c : Bool) (o : Option ℕ) (d : Bool) → cond c (Some 0) (option_map suc (or_last o d (length xs))) ≡ or_last (cond c (Some 0) (option_map suc o)) d (suc (length xs))
    by true o d = refl
    by false (Some m) d = refl
    by false None true = refl
    by false None false = refl

or_none : (o : Option ℕ) (n : ℕ) → or_last o false n ≡ o
or_none (Some m) n = refl
or_none None n = refl

and_no : (b : Bool) → (b && false) ≡ false
and_no true = refl
and_no false = refl

module _ (os : List Object) (o : Object) where
  last : (path : List Part) → reached_at (os ++ o ∷ []) path ≡ or_last (reached_at os path) (is_reached o.node && same_path o.path path) (length os)
  last path = position_last (λ q. is_reached q.node && same_path q.path path) os o

  elsewhere : (path : List Part) → same_path o.path path ≡ false → reached_at (os ++ o ∷ []) path ≡ reached_at os path
  elsewhere path e = last path ∙ ap (λ b. or_last (reached_at os path) (is_reached o.node && b) (length os)) e
      ∙ ap (λ b. or_last (reached_at os path) b (length os)) (and_no (is_reached o.node)) ∙ or_none (reached_at os path) (length os)

  pub none_more : is_reached o.node ≡ false → (es : List (Held × ℕ)) → Reaches os es → Reaches (os ++ o ∷ []) es
  none_more e es r path = r path ∙ sym (last path ∙ ap (λ b. or_last (reached_at os path) (b && same_path o.path path) (length os)) e ∙ or_none (reached_at os path) (length os))

  path_is : (path : List Part) → same_path o.path path ≡ true → o.path ≡ path
  path_is path e = ap (λ l. l.path) (same-is (at_path o.path) (at_path path) e)

  pub known_already : (at : Held) (n : ℕ) (es : List (Held × ℕ)) → location_of at ≡ at_path o.path → entry_at es (location_of at) ≡ Some n → Reaches os es → Reaches (os ++ o ∷ []) es
  known_already at n es is_at e r path = by (same_path o.path path) refl
    where
      here : Some n ≡ reached_at os o.path
      here = sym e ∙ ap (entry_at es) is_at ∙ r o.path

      stays : (x : Option ℕ) (b : Bool) → Some n ≡ x → x ≡ or_last x b (length os)
      stays (Some m) b f = refl
      stays None b f = cc

      by : (b : Bool) → same_path o.path path ≡ b → entry_at es (at_path path) ≡ reached_at (os ++ o ∷ []) path
      by true s = r path ∙ stays (reached_at os path) (is_reached o.node && same_path o.path path) (here ∙ ap (reached_at os) (path_is path s)) ∙ sym (last path)
      by false s = r path ∙ sym (elsewhere path s)

  pub one_more : (at : Held) (n : ℕ) (es : List (Held × ℕ)) → is_reached o.node ≡ true → location_of at ≡ at_path o.path → entry_at es (location_of at) ≡ None → length os ≡ n → Reaches os es
      → Reaches (os ++ o ∷ []) (insert_entry location_equal.eq-value.it es at n)
  one_more at n es is is_at e long r path = entry_put es at n (at_path path) ∙ ap (λ l. if same l (at_path path) then Some n else entry_at es (at_path path)) is_at ∙ by (same_path o.path path) refl
    where
      here : None ≡ reached_at os o.path
      here = sym e ∙ ap (entry_at es) is_at ∙ r o.path

      first : (x : Option ℕ) (b c : Bool) → None ≡ x → b ≡ true → c ≡ true → Some n ≡ or_last x (b && c) (length os)
      first None true true f g h = ap Some (sym long)
      first None true false f g h = cc
      first None false c f g h = cc
      first (Some m) b c f g h = cc

      by : (b : Bool) → same_path o.path path ≡ b → (if b then Some n else entry_at es (at_path path)) ≡ reached_at (os ++ o ∷ []) path
      by true s = first (reached_at os path) (is_reached o.node) (same_path o.path path) (here ∙ ap (reached_at os) (path_is path s)) is s ∙ sym (last path)
      by false s = r path ∙ sym (elsewhere path s)

  pub known_goes : (at : Held) (k : Option ℕ) (es : List (Held × ℕ)) → location_of at ≡ at_path o.path → k ≡ entry_at es (location_of at) → is_some k ≡ true → Reaches os es → Reaches (os ++ o ∷ []) es
  known_goes at (Some n) es is_at e s r = known_already at n es is_at (sym e) r
  known_goes at None es is_at e s r = cc

  pub one_goes : (at : Held) (n : ℕ) (k : Option ℕ) (es now : List (Held × ℕ)) → is_reached o.node ≡ true → location_of at ≡ at_path o.path → k ≡ entry_at es (location_of at) → is_some k ≡ false → now ≡ insert_entry location_equal.eq-value.it es at n
      → length os ≡ n → Reaches os es → Reaches (os ++ o ∷ []) now
  one_goes at n None es now is is_at e s f long r path = ap (λ z. entry_at z (at_path path)) f ∙ one_more at n es is is_at (sym e) long r path
  one_goes at n (Some k) es now is is_at e s f long r path = cc
