-- The innermost object of a class round a path is the one that the definition gives.
use Rattle.std.proofs.Common.{◌≡◌, refl, sym, ap, subst, ◌∙◌, arith, ℕ, zero, suc, ◌+◌, ◌-◌, ◌<◌, ◌≤◌, Bool, true, false, ◌&&◌, nat_eq, nat_lt, List, [], ◌∷◌, ◌++◌, map, take, length, Option, Some, None, if◌then◌else◌}
use Rattle.scc_base.specs.declared.path.PathPart.{PathPart}
use Rattle.scc_base.specs.declared.path.PathPart.TheVariants as path_part
use Rattle.scc_core.specs.Names.{step_of, same_step}
use Rattle.scc_core.specs.Tables.{or_else, when, same_list}
use Rattle.scc_semantics.specs.Location.{Part, same_part}
use Rattle.scc_elab_design.specs.declared.Object.{Object as Standing}
use Rattle.scc_elab_design.specs.declared.ObjectNode.{ObjectNode}
use Rattle.scc_elab_design.specs.declared.ObjectNode.TheVariants as node
use Rattle.scc_elab_spec.specs.Design.{Object, class_of, is_module}
use Rattle.scc_elab_spec.specs.Cells.{is_front, longer, parent_among}
use Rattle.scc_plain_view.specs.Designs.{object_of, part_of, node_of}
use Rattle.scc_inline_cells.specs.declared.homes.Home.{Home}
use Rattle.scc_inline_cells.specs.Homes.{IsHome, class_here, class_from, deepest, or_home}

eq_is : (a b : ℕ) → nat_eq a b ≡ true → a ≡ b
eq_is a b e = grind (arith, e)

lt_is : (a b : ℕ) → nat_lt a b ≡ true → a < b
lt_is a b e = grind (arith, e)

ge_is : (a b : ℕ) → nat_lt a b ≡ false → b ≤ a
ge_is a b e = grind (arith, e)

not_eq : (a b : ℕ) → a < b → nat_eq a b ≡ false
not_eq a b e = grind (arith, e)

-- ---- the first object of the greatest length

abbrev deepest_of : Option Object → List Object → Option Object
deepest_of best [] = best
deepest_of best (o ∷ os) = deepest_of (longer best o) os

abbrev first_len : ℕ → List Object → Option Object
first_len n [] = None
first_len n (o ∷ os) = if nat_eq (length o.path) n then Some o else first_len n os

abbrev AllBelow : ℕ → List Object → Type 0
AllBelow n [] = Unit {0}
AllBelow n (o ∷ os) = (length o.path < n) × AllBelow n os

some_some : {A : Type 0} (b : Bool) (a x : A) (o : Option A) → (if b then Some a else o) ≡ Some x → (b ≡ true → Some a ≡ Some x) × (b ≡ false → o ≡ Some x)
some_some true a x o e = (λ p. e, λ p. absurd cc)
some_some false a x o e = (λ p. absurd cc, λ p. e)

smaller : (a n : ℕ) → a < suc n → nat_eq a n ≡ false → a < n
smaller a n h q = grind (arith, h, q)

top_step : (n : ℕ) (a o : Object) (os : List Object) (x : Object) → length a.path < suc n → length o.path < suc n
    → ((c : Object) → length c.path < suc n → first_len n (c ∷ os) ≡ Some x → deepest_of (Some c) os ≡ Some x)
    → first_len n (a ∷ o ∷ os) ≡ Some x → deepest_of (longer (Some a) o) os ≡ Some x
top_step n a o os x h b next e = by (nat_lt (length a.path) (length o.path)) refl
  where
    parts : (nat_eq (length a.path) n ≡ true → Some a ≡ Some x) × (nat_eq (length a.path) n ≡ false → first_len n (o ∷ os) ≡ Some x)
    parts = some_some (nat_eq (length a.path) n) a x (first_len n (o ∷ os)) e

    inner : length o.path ≤ length a.path → (c : Bool) → nat_eq (length a.path) n ≡ c → deepest_of (Some a) os ≡ Some x
    inner g true q = next a h (ap (λ c. if c then Some a else first_len n os) q ∙ parts.0 q)
    inner g false q =
        let w : length a.path < n = smaller (length a.path) n h q in
        let s : length o.path < n = omega (arith, g, w) in
        let r : first_len n os ≡ Some x = ap (λ c. if c then Some o else first_len n os) (sym (not_eq (length o.path) n s)) ∙ parts.1 q in
        next a h (ap (λ c. if c then Some a else first_len n os) q ∙ r)

    by : (c : Bool) → nat_lt (length a.path) (length o.path) ≡ c → deepest_of (if c then Some o else Some a) os ≡ Some x
    by true p =
        let l : length a.path < length o.path = lt_is (length a.path) (length o.path) p in
        let s : length a.path < n = omega (arith, l, b) in
        next o b (parts.1 (not_eq (length a.path) n s))
    by false p = inner (ge_is (length a.path) (length o.path) p) (nat_eq (length a.path) n) refl

top_one : (n : ℕ) (a : Object) (os : List Object) (x : Object) → length a.path < suc n → AllBelow (suc n) os → first_len n (a ∷ os) ≡ Some x → deepest_of (Some a) os ≡ Some x
top_one n a [] x h b e = by (nat_eq (length a.path) n) e
  where
    by : (c : Bool) → (if c then Some a else None) ≡ Some x → Some a ≡ Some x
    by true e = e
    by false e = absurd cc
top_one n a (o ∷ os) x h b e = top_step n a o os x h b.0 (λ c l f. top_one n c os x l b.1 f) e

top_all : (n : ℕ) (os : List Object) (x : Object) → AllBelow (suc n) os → first_len n os ≡ Some x → deepest_of None os ≡ Some x
top_all n [] x b e = absurd cc
top_all n (o ∷ os) x b e = top_one n o os x b.0 b.1 e

one_less : (n : ℕ) (os : List Object) → AllBelow (suc n) os → first_len n os ≡ None → AllBelow n os
one_less n [] b e = tt
one_less n (o ∷ os) b e = by (one_less n os b.1) (nat_eq (length o.path) n) refl
  where
    none : {P : Type 0} → Some o ≡ None → P
    none e = absurd cc

    by : (first_len n os ≡ None → AllBelow n os) → (c : Bool) → nat_eq (length o.path) n ≡ c → (length o.path < n) × AllBelow n os
    by next true q = none (ap (λ c. if c then Some o else first_len n os) (sym q) ∙ e)
    by next false q = (smaller (length o.path) n b.0 q, next (ap (λ c. if c then Some o else first_len n os) (sym q) ∙ e))

abbrev or_object : Option Object → Option Object → Option Object
or_object (Some o) other = Some o
or_object None other = other

abbrev scan : ℕ → List Object → Option Object
scan zero os = None
scan (suc n) os = or_object (first_len n os) (scan n os)

scanned : (k : ℕ) (os : List Object) → AllBelow k os → deepest_of None os ≡ scan k os
scanned zero [] b = refl
scanned zero (o ∷ os) b = let h : length o.path < 0 = b.0 in absurd (omega (arith, h))
scanned (suc n) os b = by (scanned n os) (first_len n os) refl
  where
    by : (AllBelow n os → deepest_of None os ≡ scan n os) → (o : Option Object) → first_len n os ≡ o → deepest_of None os ≡ or_object o (scan n os)
    by next (Some x) e = top_all n os x b e
    by next None e = next (one_less n os b e)

-- ---- the objects that count

module _ (path : List Part) where
  abbrev counts : Object → Bool
  counts o = is_module o.node && (is_front o.path path && nat_lt (length o.path) (length path))

  abbrev counting : List Object → List Object
  counting [] = []
  counting (o ∷ os) = if counts o then o ∷ counting os else counting os

  among_is : (best : Option Object) (os : List Object) → parent_among path best os ≡ deepest_of best (counting os)
  among_is best [] = refl
  among_is best (o ∷ os) = by (λ b. among_is b os) (counts o)
    where
      by : ((b : Option Object) → parent_among path b os ≡ deepest_of b (counting os)) → (c : Bool)
          → parent_among path (if c then longer best o else best) os ≡ deepest_of best (if c then o ∷ counting os else counting os)
      by next true = next (longer best o)
      by next false = next best

  and_both : (a b c : Bool) → (a && (b && c)) ≡ true → c ≡ true
  and_both true true c e = e
  and_both true false c e = absurd cc
  and_both false b c e = absurd cc

  counting_below : (os : List Object) → AllBelow (length path) (counting os)
  counting_below [] = tt
  counting_below (o ∷ os) = by (counting_below os) (counts o) refl
    where
      by : AllBelow (length path) (counting os) → (c : Bool) → counts o ≡ c → AllBelow (length path) (if c then o ∷ counting os else counting os)
      by next true e = (lt_is (length o.path) (length path) (and_both (is_module o.node) (is_front o.path path) (nat_lt (length o.path) (length path)) e), next)
      by next false e = next

-- ---- paths

nat_turn : (a b : ℕ) → nat_eq a b ≡ nat_eq b a
nat_turn a b = grind arith

parts_same : (x y : PathPart) → same_step (step_of y) (step_of x) ≡ same_part (part_of x) (part_of y)
parts_same (path_part.Member a) (path_part.Member b) = nat_turn b.0 a.0
parts_same (path_part.Member a) (path_part.Index j) = refl
parts_same (path_part.Index i) (path_part.Member b) = refl
parts_same (path_part.Index i) (path_part.Index j) = nat_turn j i

and_false : (a : Bool) → (a && false) ≡ false
and_false true = refl
and_false false = refl

and_assoc : (a b c : Bool) → (a && (b && c)) ≡ ((a && b) && c)
and_assoc true b c = refl
and_assoc false b c = refl

next_eq : (a b : ℕ) → nat_eq (suc a) (suc b) ≡ nat_eq a b
next_eq a b = grind arith

zero_suc : (a : ℕ) → nat_eq 0 (suc a) ≡ false
zero_suc a = grind arith

suc_zero : (a : ℕ) → nat_eq (suc a) 0 ≡ false
suc_zero a = grind arith

-- a path is the front part of that length
fronts : (k : ℕ) (p q : List PathPart) → k < length q → same_list (map step_of (take k q)) (map step_of p ++ []) ≡ (is_front (map part_of p) (map part_of q) && nat_eq (length (map part_of p)) k)
fronts zero [] q h = refl
fronts zero (x ∷ p) q h = sym (ap (λ b. is_front (map part_of (x ∷ p)) (map part_of q) && b) (suc_zero (length (map part_of p))) ∙ and_false (is_front (map part_of (x ∷ p)) (map part_of q)))
fronts (suc k) p [] h = absurd (omega (arith, h))
fronts (suc k) [] (y ∷ q) h = sym (zero_suc k)
fronts (suc k) (x ∷ p) (y ∷ q) h =
    let l : k < length q = omega (arith, h) in
    (λ i. parts_same x y i && fronts k p q l i) ∙ and_assoc (same_part (part_of x) (part_of y)) (is_front (map part_of p) (map part_of q)) (nat_eq (length (map part_of p)) k)
    ∙ ap (λ b. (same_part (part_of x) (part_of y) && is_front (map part_of p) (map part_of q)) && b) (sym (next_eq (length (map part_of p)) k))

module _ (q : List PathPart) where
  abbrev path : List Part
  path = map part_of q

  long : (q : List PathPart) → length (map part_of q) ≡ length q
  long [] = refl
  long (x ∷ q) = ap suc (long q)

  abbrev IsAt : ℕ → Option Object → Option ℕ → Type 0
  IsAt k None None = Unit {0}
  IsAt k (Some o) (Some c) = (length o.path ≡ k) × (class_of o.node ≡ Some c)
  IsAt k o c = ⊥

  lt_true : (a b : ℕ) → a < b → nat_lt a b ≡ true
  lt_true a b h = grind (arith, h)

  -- one object of a class
  one_at : (k : ℕ) → k < length q → (s : Standing) (c : ℕ) (rest : List Object) (o : Option ℕ) → s.node ≡ node.Module c → IsAt k (first_len k rest) o
      → IsAt k (first_len k (if true && (is_front (map part_of s.path) path && nat_lt (length (map part_of s.path)) (length path)) then object_of s ∷ rest else rest))
      (or_else (when (same_list (map step_of (take k q)) (map step_of s.path ++ [])) c) o)
  one_at k h s c rest o there held = by (is_front (map part_of s.path) path) (nat_eq (length (map part_of s.path)) k) (nat_lt (length (map part_of s.path)) (length path)) refl refl refl (fronts k s.path q h)
    where
      by : (f e l : Bool) → is_front (map part_of s.path) path ≡ f → nat_eq (length (map part_of s.path)) k ≡ e → nat_lt (length (map part_of s.path)) (length path) ≡ l
          → same_list (map step_of (take k q)) (map step_of s.path ++ []) ≡ (f && e)
          → IsAt k (first_len k (if true && (f && l) then object_of s ∷ rest else rest)) (or_else (when (same_list (map step_of (take k q)) (map step_of s.path ++ [])) c) o)
      by false e l pf pe pl z = subst (λ b. IsAt k (first_len k rest) (or_else (when b c) o)) (sym z) held
      by true true true pf pe pl z = subst (λ b. IsAt k (first_len k (object_of s ∷ rest)) (or_else (when b c) o)) (sym z)
          (subst (λ b. IsAt k (if b then Some (object_of s) else first_len k rest) (Some c)) (sym pe) (eq_is (length (map part_of s.path)) k pe, ap (λ n. class_of (node_of n)) there))
      by true true false pf pe pl z =
          let d : length (map part_of s.path) ≡ k = eq_is (length (map part_of s.path)) k pe in
          let w : length (map part_of s.path) < length path = subst (λ n. n < length path) (sym d) (subst (λ n. k < n) (sym (long q)) h) in
          none (sym pl ∙ lt_true (length (map part_of s.path)) (length path) w)
        where
          none : false ≡ true → IsAt k (first_len k rest) (or_else (when (same_list (map step_of (take k q)) (map step_of s.path ++ [])) c) o)
          none e = absurd cc
      by true false true pf pe pl z = subst (λ b. IsAt k (first_len k (object_of s ∷ rest)) (or_else (when b c) o)) (sym z)
          (subst (λ b. IsAt k (if b then Some (object_of s) else first_len k rest) o) (sym pe) held)
      by true false false pf pe pl z = subst (λ b. IsAt k (first_len k rest) (or_else (when b c) o)) (sym z) held

  at_length : (k : ℕ) → k < length q → (os : List Standing) → IsAt k (first_len k (counting path (map object_of os))) (class_from (map step_of (take k q)) os)
  at_length k h [] = tt
  at_length k h (s ∷ os) = by (at_length k h os) s.node refl
    where
      by : IsAt k (first_len k (counting path (map object_of os))) (class_from (map step_of (take k q)) os) → (n : ObjectNode) → s.node ≡ n → IsAt k
          (first_len k (if is_module (node_of n) && (is_front (map part_of s.path) path && nat_lt (length (map part_of s.path)) (length path)) then object_of s ∷ counting path (map object_of os) else counting path (map object_of os)))
          (or_else (class_here (map step_of (take k q)) s.path n) (class_from (map step_of (take k q)) os))
      by next (node.Module c) e = one_at k h s c (counting path (map object_of os)) (class_from (map step_of (take k q)) os) e next
      by next (node.Port j output root) e = next
      by next (node.Signal j) e = next
      by next (node.Variable j value) e = next
      by next (node.Pointer to) e = next

  homes_at : (k : ℕ) → k ≤ length q → (os : List Standing) → IsHome (scan k (counting path (map object_of os))) (deepest os q k)
  homes_at zero h os = tt
  homes_at (suc k) h os =
      let l : k < length q = omega (arith, h) in
      let m : k ≤ length q = omega (arith, h) in
      by (first_len k (counting path (map object_of os))) (class_from (map step_of (take k q)) os) (at_length k l os) (homes_at k m os)
    where
      by : (o : Option Object) (c : Option ℕ) → IsAt k o c → IsHome (scan k (counting path (map object_of os))) (deepest os q k) → IsHome (or_object o (scan k (counting path (map object_of os)))) (or_home k c (deepest os q k))
      by None None a b = b
      by (Some o) (Some c) a b = a
      by None (Some c) a b = absurd a
      by (Some o) None a b = absurd a

  pub parent_is : (os : List Standing) → IsHome (parent_among path None (map object_of os)) (deepest os q (length q))
  parent_is os = subst (λ o. IsHome o (deepest os q (length q))) (sym (among_is path None (map object_of os) ∙ scanned (length path) (counting path (map object_of os)) (counting_below path (map object_of os)) ∙ ap (λ n. scan n (counting path (map object_of os))) (long q)))
      (homes_at (length q) (self (length q)) os)
    where
      self : (n : ℕ) → n ≤ n
      self n = omega arith
