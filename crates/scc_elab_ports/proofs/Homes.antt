-- The longest front of a path at which an object of a class stands is that of the module around it.
use Rattle.std.proofs.Common.{◌≡◌, ℕ, zero, suc, ◌+◌, ◌-◌, map, ◌<◌, ◌≤◌, Bool, true, false, cond, ◌&&◌, ◌||◌, List, [], ◌∷◌, length, take, Option, Some, None, Ok, Err, Result, IfOk, option_map, nat_lt, nat_eq, if◌then◌else◌, refl, sym, ap, ◌∙◌, subst, arith}
use Rattle.std.specs.List.{list_any}
use Rattle.scc_semantics.specs.Location.{Part, same_part, same_path}
use Rattle.scc_semantics.specs.Location as location
use Rattle.scc_semantics_laws.proofs.Blind.{and-first, and-second}
use Rattle.scc_elab_spec.specs.Design.{Object, is_module}
use Rattle.scc_elab_spec.specs.Cells.{is_front, longer, parent_among}
use Rattle.scc_elab_store.specs.declared.locations.Part.{Part as Held}
use Rattle.scc_elab_store.specs.declared.locations.Location.{Location as HeldLocation}
use Rattle.scc_elab_store.specs.Locations.{part_of, location_of}
use Rattle.scc_elab_spec.specs.Grown.{at_path}
use Rattle.scc_elab_grown.specs.Objects.{stands}
use Rattle.scc_elab_ports.specs.Homes.{home_below}

less : (m n : ℕ) → nat_lt m n ≡ true → m < n
less m n e = grind (arith, e)

is_less : (m n : ℕ) → m < n → nat_lt m n ≡ true
is_less m n e = grind (arith, e)

not_less : (m n : ℕ) → n ≤ m → nat_lt m n ≡ false
not_less m n e = grind (arith, e)

part_self : (a : Part) → same_part a a ≡ true
part_self (location.Member n) = grind arith
part_self (location.Element n) = grind arith

-- a front part is the beginning of its length, and the other way round
front_is : (p q : List Part) → is_front p q ≡ true → same_path p (take (length p) q) ≡ true
front_is [] q e = refl
front_is (a ∷ p) [] e = cc
front_is (a ∷ p) (b ∷ q) e = (λ i. and-first (same_part a b) (is_front p q) e i && same_path p (take (length p) q)) ∙ front_is p q (and-second (same_part a b) (is_front p q) e)

same_front : (n : ℕ) (p q : List Part) → n < length q → same_path p (take n q) ≡ true → is_front p q ≡ true
same_front zero [] q h e = refl
same_front (suc n) [] q h e = refl
same_front zero (a ∷ p) q h e = cc
same_front (suc n) (a ∷ p) [] h e = cc
same_front (suc n) (a ∷ p) (b ∷ q) h e =
    let k : n < length q = omega arith in
    (λ i. and-first (same_part a b) (same_path p (take n q)) e i && is_front p q) ∙ same_front n p q k (and-second (same_part a b) (same_path p (take n q)) e)

same_long : (n : ℕ) (p q : List Part) → n < length q → same_path p (take n q) ≡ true → length p ≡ n
same_long zero [] q h e = refl
same_long (suc n) [] [] h e = absurd (omega arith)
same_long (suc n) [] (b ∷ q) h e = cc
same_long zero (a ∷ p) q h e = cc
same_long (suc n) (a ∷ p) [] h e = cc
same_long (suc n) (a ∷ p) (b ∷ q) h e = let k : n < length q = omega arith in ap suc (same_long n p q k (and-second (same_part a b) (same_path p (take n q)) e))

same_number : (m n : ℕ) → nat_eq m n ≡ true → m ≡ n
same_number m n e = grind (arith, e)

same_part-is : (a b : Part) → same_part a b ≡ true → a ≡ b
same_part-is (location.Member a) (location.Member b) e = ap location.Member (same_number a b e)
same_part-is (location.Element a) (location.Element b) e = ap location.Element (same_number a b e)
same_part-is (location.Member a) (location.Element b) e = cc
same_part-is (location.Element a) (location.Member b) e = cc

same_is : (p q : List Part) → same_path p q ≡ true → p ≡ q
same_is [] [] e = refl
same_is (a ∷ p) (b ∷ q) e = λ i. same_part-is a b (and-first (same_part a b) (same_path p q) e) i ∷ same_is p q (and-second (same_part a b) (same_path p q) e) i
same_is [] (b ∷ q) e = cc
same_is (a ∷ p) [] e = cc

module _ (path : List Part) where
  -- a module object whose path is a front part of this one
  abbrev around : Object → Bool
  around o = is_module o.node && (is_front o.path path && nat_lt (length o.path) (length path))

  abbrev AllBelow : ℕ → List Object → Type 0
  AllBelow n [] = Unit {0}
  AllBelow n (o ∷ os) = (around o ≡ true → length o.path < n) × AllBelow n os

  abbrev stands_there : ℕ → Object → Bool
  stands_there n o = is_module o.node && same_path o.path (take n path)

  is_around : (n : ℕ) (o : Object) → n < length path → stands_there n o ≡ true → around o ≡ true
  is_around n o h e =
      let m = and-first (is_module o.node) (same_path o.path (take n path)) e in
      let s = and-second (is_module o.node) (same_path o.path (take n path)) e in
      let k = same_long n o.path path h s in
      (λ i. m i && (same_front n o.path path h s i && (ap (λ z. nat_lt z (length path)) k ∙ is_less n (length path) h) i))

  -- one around that is so long stands there
  long_there : (n : ℕ) (o : Object) → around o ≡ true → length o.path ≡ n → stands_there n o ≡ true
  long_there n o e k =
      let m = and-first (is_module o.node) (is_front o.path path && nat_lt (length o.path) (length path)) e in
      let f = and-first (is_front o.path path) (nat_lt (length o.path) (length path)) (and-second (is_module o.node) (is_front o.path path && nat_lt (length o.path) (length path)) e) in
      (λ i. m i && (ap (λ z. same_path o.path (take z path)) (sym k) ∙ front_is o.path path f) i)

  -- none is around
  none_around : (os : List Object) (best : Option Object) → AllBelow 0 os → parent_among path best os ≡ best
  none_around [] best a = refl
  none_around (o ∷ os) best a = by (around o) refl (none_around os best a.1)
    where
      none : (n : ℕ) → n < 0 → true ≡ false
      none n h = absurd (omega arith)

      by : (b : Bool) → around o ≡ b → parent_among path best os ≡ best → parent_among path (if around o then longer best o else best) os ≡ best
      by true e h = let z : true ≡ false = none (length o.path) (a.0 e) in absurd cc
      by false e h = ap (λ b. parent_among path (if b then longer best o else best) os) e ∙ h

  not_longer : (b o : Object) → length o.path ≤ length b.path → longer (Some b) o ≡ Some b
  not_longer b o h = ap (λ z. if z then Some o else Some b) (not_less (length b.path) (length o.path) h)

  is_longer : (b o : Object) → length b.path < length o.path → longer (Some b) o ≡ Some o
  is_longer b o h = ap (λ z. if z then Some o else Some b) (is_less (length b.path) (length o.path) h)

  at_most : (m n k : ℕ) → m < suc n → k ≡ n → m ≤ k
  at_most m n k a b = omega arith

  -- the longest one stays
  stays : (n : ℕ) (os : List Object) (b : Object) → AllBelow (suc n) os → length b.path ≡ n → parent_among path (Some b) os ≡ Some b
  stays n [] b a e = refl
  stays n (o ∷ os) b a e = by (around o) refl (stays n os b a.1 e)
    where
      by : (c : Bool) → around o ≡ c → parent_among path (Some b) os ≡ Some b → parent_among path (if around o then longer (Some b) o else Some b) os ≡ Some b
      by true d h = ap (λ c. parent_among path (if c then longer (Some b) o else Some b) os) d ∙ ap (λ z. parent_among path z os) (not_longer b o (at_most (length o.path) n (length b.path) (a.0 d) e)) ∙ h
      by false d h = ap (λ c. parent_among path (if c then longer (Some b) o else Some b) os) d ∙ h

  abbrev Shorter : ℕ → Option Object → Type 0
  Shorter n None = Unit {0}
  Shorter n (Some b) = length b.path < n

  shorter_longer : (n : ℕ) (best : Option Object) (o : Object) → Shorter n best → length o.path ≡ n → longer best o ≡ Some o
  shorter_longer n None o a e = refl
  shorter_longer n (Some b) o a e = let h : length b.path < length o.path = omega arith in is_longer b o h

  still_shorter : (n : ℕ) (best : Option Object) (o : Object) → Shorter n best → length o.path < n → Shorter n (longer best o)
  still_shorter n None o a h = h
  still_shorter n (Some b) o a h = by (nat_lt (length b.path) (length o.path))
    where
      by : (c : Bool) → Shorter n (if c then Some o else Some b)
      by true = h
      by false = a

  below_next : (m n : ℕ) → m < suc n → (m ≡ n → true ≡ false) → m < n
  below_next m n h d = by (nat_lt m n) refl
    where
      same : nat_lt m n ≡ false → m ≡ n
      same e = grind (arith, e, h)

      by : (c : Bool) → nat_lt m n ≡ c → m < n
      by true e = less m n e
      by false e = let z : true ≡ false = d (same e) in absurd cc

  found : (n : ℕ) → n < length path → (os : List Object) (best : Option Object) → AllBelow (suc n) os → Shorter n best → list_any (stands_there n) os ≡ true → option_map (λ o. o.path) (parent_among path best os) ≡ Some (take n path)
  found n h [] best a s e = absurd cc
  found n h (o ∷ os) best a s e = by (stands_there n o) refl (λ best s e. found n h os best a.1 s e)
    where
      elsewhere : ((best : Option Object) → Shorter n best → list_any (stands_there n) os ≡ true → option_map (λ o. o.path) (parent_among path best os) ≡ Some (take n path))
          → stands_there n o ≡ false → (c : Bool) → around o ≡ c → option_map (λ o. o.path) (parent_among path (if c then longer best o else best) os) ≡ Some (take n path)
      elsewhere again d true f = again (longer best o) (still_shorter n best o s (below_next (length o.path) n (a.0 f) (λ k. sym (long_there n o f k) ∙ d))) (ap (λ z. z || list_any (stands_there n) os) (sym d) ∙ e)
      elsewhere again d false f = again best s (ap (λ z. z || list_any (stands_there n) os) (sym d) ∙ e)

      by : (c : Bool) → stands_there n o ≡ c → ((best : Option Object) → Shorter n best → list_any (stands_there n) os ≡ true → option_map (λ o. o.path) (parent_among path best os) ≡ Some (take n path))
          → option_map (λ o. o.path) (parent_among path (if around o then longer best o else best) os) ≡ Some (take n path)
      by true d again =
          let p = and-second (is_module o.node) (same_path o.path (take n path)) d in
          ap (λ c. option_map (λ o. o.path) (parent_among path (if c then longer best o else best) os)) (is_around n o h d)
          ∙ ap (λ z. option_map (λ o. o.path) (parent_among path z os)) (shorter_longer n best o s (same_long n o.path path h p))
          ∙ ap (option_map (λ o. o.path)) (stays n os o a.1 (same_long n o.path path h p)) ∙ ap Some (same_is o.path (take n path) p)
      by false d again = elsewhere again d (around o) refl

  lower : (n : ℕ) (os : List Object) → AllBelow (suc n) os → list_any (stands_there n) os ≡ false → AllBelow n os
  lower n [] a e = tt
  lower n (o ∷ os) a e = (λ f. below_next (length o.path) n (a.0 f) (λ k. ap (λ z. z || list_any (stands_there n) os) (sym (long_there n o f k)) ∙ e), lower n os a.1 (by (stands_there n o) e))
    where
      by : (b : Bool) → (b || list_any (stands_there n) os) ≡ false → list_any (stands_there n) os ≡ false
      by true f = cc
      by false f = f

  searched : (n : ℕ) → n ≤ length path → (os : List Object) → AllBelow n os → option_map (λ o. o.path) (parent_among path None os) ≡ home_below os path n
  searched zero h os a = ap (option_map (λ o. o.path)) (none_around os None a)
  searched (suc n) h os a = by (list_any (stands_there n) os) refl (λ l a. searched n l os a)
    where
      k : n < length path
      k = omega arith

      l : n ≤ length path
      l = omega arith

      by : (c : Bool) → list_any (stands_there n) os ≡ c → (n ≤ length path → AllBelow n os → option_map (λ o. o.path) (parent_among path None os) ≡ home_below os path n) → option_map (λ o. o.path) (parent_among path None os) ≡ (if list_any (stands_there n) os then Some (take n path) else home_below os path n)
      by true e again = found n k os None a tt e ∙ ap (λ c. if c then Some (take n path) else home_below os path n) (sym e)
      by false e again = again l (lower n os a e) ∙ ap (λ c. if c then Some (take n path) else home_below os path n) (sym e)

  all_below : (os : List Object) → AllBelow (length path) os
  all_below [] = tt
  all_below (o ∷ os) = (λ e. less (length o.path) (length path) (and-second (is_front o.path path) (nat_lt (length o.path) (length path)) (and-second (is_module o.node) (is_front o.path path && nat_lt (length o.path) (length path)) e)), all_below os)

  itself : (n : ℕ) → n ≤ n
  itself n = omega arith

  pub home_is : (os : List Object) → option_map (λ o. o.path) (parent_among path None os) ≡ home_below os path (length path)
  home_is os = searched (length path) (itself (length path)) os (all_below os)

pub front_of : (n : ℕ) (path : List Held) → map part_of (take n path) ≡ take n (map part_of path)
front_of zero path = refl
front_of (suc n) [] = refl
front_of (suc n) (a ∷ path) = ap (λ p. part_of a ∷ p) (front_of n path)

-- one step down a path
pub none_below : (os : List Object) (path : List Part) (n : ℕ) → n ≡ 0 → home_below os path n ≡ None
none_below os path n e = ap (home_below os path) e

found_if : (os : List Object) (path : List Part) (n : ℕ) → (n ≡ 0 → ⊥) → home_below os path n ≡ (if (stands os (take (n - 1) path)).has_class then Some (take (n - 1) path) else home_below os path (n - 1))
found_if os path zero e = absurd (e refl)
found_if os path (suc n) e = ap (λ k. if (stands os (take k path)).has_class then Some (take k path) else home_below os path k) (less_one n)
  where
    less_one : (n : ℕ) → n ≡ suc n - 1
    less_one n = omega arith

pub found_below : (os : List Object) (path : List Part) (n : ℕ) → (n ≡ 0 → ⊥) → (stands os (take (n - 1) path)).has_class ≡ true → home_below os path n ≡ Some (take (n - 1) path)
found_below os path n e h = found_if os path n e ∙ ap (λ b. if b then Some (take (n - 1) path) else home_below os path (n - 1)) h

pub on_below : (os : List Object) (path : List Part) (n : ℕ) → (n ≡ 0 → ⊥) → (stands os (take (n - 1) path)).has_class ≡ false → home_below os path n ≡ home_below os path (n - 1)
on_below os path n e h = found_if os path n e ∙ ap (λ b. if b then Some (take (n - 1) path) else home_below os path (n - 1)) h

long_same : (path : List Held) → length (map part_of path) ≡ length path
long_same [] = refl
long_same (a ∷ path) = ap suc (long_same path)

pub home_long : (os : List Object) (path : List Held) → option_map (λ o. o.path) (parent_among (map part_of path) None os) ≡ home_below os (map part_of path) (length path)
home_long os path = home_is (map part_of path) os ∙ ap (home_below os (map part_of path)) (long_same path)

-- an answer that looks at all front parts
pub home_ok : {E : Type 0} (r : Result (Option HeldLocation) E) (os : List Object) (path : List Held) (n : ℕ) → n ≡ length path → IfOk r (λ h. option_map location_of h ≡ option_map at_path (home_below os (map part_of path) n))
    → IfOk r (λ h. option_map location_of h ≡ option_map at_path (option_map (λ o. o.path) (parent_among (map part_of path) None os)))
home_ok (Ok h) os path n l e = e ∙ ap (λ k. option_map at_path (home_below os (map part_of path) k)) l ∙ ap (option_map at_path) (sym (home_long os path))
home_ok (Err z) os path n l e = tt
