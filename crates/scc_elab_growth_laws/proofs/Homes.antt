-- The module around an object is where its path says, for good.
use Rattle.std.proofs.Common.{◌≡◌, ℕ, zero, suc, ◌<◌, ◌≤◌, Bool, true, false, not, ◌&&◌, ◌||◌, nat_lt, List, [], ◌∷◌, length, Option, Some, None, option_map, option_and_then, slice_get, unwrap_or, if◌then◌else◌, ap, refl, sym, ◌∙◌, subst, arith}
use Rattle.scc_bits_kinds.specs.declared.kind.Kind.{Kind}
use Rattle.scc_semantics.specs.Location.{Part, Member, Element}
use Rattle.scc_elab_spec.specs.Program.{Plain}
use Rattle.scc_elab_spec.specs.Design.{Object, Node, Module, Port, Signal, Variable, Pointer, is_module}
use Rattle.scc_elab_spec.specs.Cells.{is_front, longer, parent_among}
use Rattle.scc_elab_spec.specs.Grown.{Grown, Bound, is_pointer, node_of}
use Rattle.scc_elab_spec.specs.Binding.{home, same_home, is_top, path_of, same_kind, may_bind}
use Rattle.scc_elab_spec.proofs.Chains.{and-first, and-second}
use Rattle.scc_elab_growth_laws.specs.Changes.{IsBindable, Grows}
use Rattle.scc_elab_growth_laws.specs.Apart.{Or, First, Second, Stem, behind_part, stem, Front, IsModuleAt, IsMember, IsSpread}
use Rattle.scc_elab_growth_laws.proofs.Paths.{some_same, stem-front, front-refl, front-either, front-same, is_front-is, front-is_front}
use Rattle.scc_elab_growth_laws.proofs.Growth.{slice-kept}

pub module-stays : {p : Plain} {g h : Grown} → Grows p g h → {path : List Part} → IsModuleAt g path → IsModuleAt h path
module-stays grows m = record { number = m.number; object = m.object; there = slice-kept m.number m.object grows m.there; is_one = m.is_one; at = m.at }

pub member-stays : {p : Plain} {g h : Grown} → Grows p g h → {path : List Part} → IsMember g path → IsMember h path
member-stays grows m = record { member = m.member; leads = m.leads; around = module-stays grows m.around }

-- a front part of what has no member has none
no-stem-front : (q path : List Part) → Front q path → stem path ≡ None → stem q ≡ None
no-stem-front [] path a e = refl
no-stem-front (b ∷ q) [] a e = absurd a
no-stem-front (b ∷ q) (c ∷ path) a e = by (stem path) refl c e a.0 (λ e. no-stem-front q path a.1 e)
  where
    by : (t : Option Stem) → stem path ≡ t → (c : Part) → behind_part t c ≡ None → b ≡ c → (stem path ≡ None → stem q ≡ None) → behind_part (stem q) b ≡ None
    by (Some t) f c e same rest = cc
    by None f (Member n) e same rest = cc
    by None f (Element i) e same rest = ap (λ s. behind_part s b) (rest f) ∙ ap (behind_part None) same

-- a front part that goes past what is around a path is of the same member
stem-between : (q path : List Part) (s : Stem) → stem path ≡ Some s → Front s.around q → Front q path → Or (q ≡ s.around) (stem q ≡ Some s)
stem-between q [] s e a b = cc
stem-between [] (c ∷ path) s e a b = First (empty s.around a)
  where
    empty : (p : List Part) → Front p [] → [] ≡ p
    empty [] a = refl
    empty (x ∷ p) a = absurd a
stem-between (b ∷ q) (c ∷ path) s e front a = by (stem path) refl c e a.0 (λ s e f. stem-between q path s e f a.1)
  where
    by : (t : Option Stem) → stem path ≡ t → (c : Part) → behind_part t c ≡ Some s → b ≡ c → ((s : Stem) → stem path ≡ Some s → Front s.around q → Or (q ≡ s.around) (stem q ≡ Some s)) → Or (b ∷ q ≡ s.around) (stem (b ∷ q) ≡ Some s)
    by (Some t) f c e same rest = either (rest t f (subst (λ (z : Stem). Front z.around (b ∷ q)) (sym (some_same e)) front).1)
      where
        either : Or (q ≡ t.around) (stem q ≡ Some t) → Or (b ∷ q ≡ s.around) (stem (b ∷ q) ≡ Some s)
        either (First x) = First ((λ i. same i ∷ x i) ∙ ap (λ (z : Stem). z.around) (some_same e))
        either (Second x) = Second (ap (λ s. behind_part s b) x ∙ ap (behind_part (Some t)) same ∙ e)
    by None f (Member n) e same rest = Second (ap (λ s. behind_part s b) (no-stem-front q path a.1 f) ∙ ap (behind_part None) same ∙ e)
    by None f (Element i) e same rest = cc

below : (n m : ℕ) → nat_lt n m ≡ true → n < m
below n m e = grind arith

not_below : (n m : ℕ) → m ≤ n → nat_lt n m ≡ false
not_below n m e = grind arith

lengths : (n m : ℕ) → n ≤ m → nat_lt n m ≡ false → n ≡ m
lengths n m a e = grind arith

front-length : (p q : List Part) → Front p q → length p ≤ length q
front-length [] q a = least (length q)
  where
    least : (n : ℕ) → 0 ≤ n
    least n = omega arith
front-length (x ∷ p) [] a = absurd a
front-length (x ∷ p) (y ∷ q) a = more (length p) (length q) (front-length p q a.1)
  where
    more : (n m : ℕ) → n ≤ m → suc n ≤ suc m
    more n m a = omega arith

-- The longest of the modules in front of a path, where all are in front of one of them.
module _ (path around : List Part) (shorter : length around < length path) (front : Front around path) where
  abbrev is_candidate : Object → Bool
  is_candidate o = is_module o.node && (is_front o.path path && nat_lt (length o.path) (length path))

  abbrev IsBest : Option Object → Type 0
  IsBest None = Unit {0}
  IsBest (Some o) = Front o.path around

  abbrev AllBest : List Object → Type 0
  AllBest os = (i : ℕ) (o : Object) → slice_get os i ≡ Some o → is_candidate o ≡ true → Front o.path around

  found-stays : (x : Object) → x.path ≡ around → (os : List Object) → AllBest os → option_map (λ (o : Object). o.path) (parent_among path (Some x) os) ≡ Some around
  found-stays x e [] a = ap Some e
  found-stays x e (o ∷ os) a = by (is_candidate o) refl (λ z f. found-stays z f os (λ i o e. a (suc i) o e))
    where
      by_length : (b : Bool) → nat_lt (length x.path) (length o.path) ≡ b → is_candidate o ≡ true → ((z : Object) → z.path ≡ around → option_map (λ (o : Object). o.path) (parent_among path (Some z) os) ≡ Some around)
          → option_map (λ (o : Object). o.path) (parent_among path (if b then Some o else Some x) os) ≡ Some around
      by_length false d c rest = rest x e
      by_length true d c rest = let z : true ≡ false = sym d ∙ not_below (length x.path) (length o.path) (subst (λ p. length o.path ≤ length p) (sym e) (front-length o.path around (a 0 o refl c))) in absurd cc

      by : (b : Bool) → is_candidate o ≡ b → ((z : Object) → z.path ≡ around → option_map (λ (o : Object). o.path) (parent_among path (Some z) os) ≡ Some around)
          → option_map (λ (o : Object). o.path) (parent_among path (if b then longer (Some x) o else Some x) os) ≡ Some around
      by false c rest = rest x e
      by true c rest = by_length (nat_lt (length x.path) (length o.path)) refl c rest

  parent-is : (best : Option Object) → IsBest best → (os : List Object) → AllBest os → (i : ℕ) (m : Object) → slice_get os i ≡ Some m → is_module m.node ≡ true → m.path ≡ around
      → option_map (λ (o : Object). o.path) (parent_among path best os) ≡ Some around
  parent-is best b [] a i m e f g = cc
  parent-is best b (o ∷ os) a zero m e f g = by best b
    where
      same : o.path ≡ around
      same = ap (λ (z : Object). z.path) (some_same e) ∙ g

      candidate : is_candidate o ≡ true
      candidate = λ i. (ap (λ (z : Object). is_module z.node) (some_same e) ∙ f) i && ((ap (λ p. is_front p path) same ∙ front-is_front around path front) i && (ap (λ p. nat_lt (length p) (length path)) same ∙ less (length around) (length path) shorter) i)
        where
          less : (n m : ℕ) → n < m → nat_lt n m ≡ true
          less n m a = grind arith

      rest : (z : Object) → z.path ≡ around → option_map (λ (o : Object). o.path) (parent_among path (Some z) os) ≡ Some around
      rest z f = found-stays z f os (λ i o e. a (suc i) o e)

      by_length : (x : Object) → Front x.path around → (c : Bool) → nat_lt (length x.path) (length o.path) ≡ c → option_map (λ (o : Object). o.path) (parent_among path (if c then Some o else Some x) os) ≡ Some around
      by_length x b true d = rest o same
      by_length x b false d = rest x (front-same x.path around b (lengths (length x.path) (length around) (front-length x.path around b) (ap (λ p. nat_lt (length x.path) (length p)) (sym same) ∙ d)))

      by : (best : Option Object) → IsBest best → option_map (λ (o : Object). o.path) (parent_among path best (o ∷ os)) ≡ Some around
      by None b = ap (λ c. option_map (λ (o : Object). o.path) (parent_among path (if c then Some o else None) os)) candidate ∙ rest o same
      by (Some x) b = ap (λ c. option_map (λ (o : Object). o.path) (parent_among path (if c then longer (Some x) o else Some x) os)) candidate ∙ by_length x b (nat_lt (length x.path) (length o.path)) refl
  parent-is best b (o ∷ os) a (suc i) m e f g = by (is_candidate o) refl (λ best b. parent-is best b os (λ i o e. a (suc i) o e) i m e f g)
    where
      either : (best : Option Object) → IsBest best → Front o.path around → IsBest (longer best o)
      either None b c = c
      either (Some x) b c = choose (nat_lt (length x.path) (length o.path))
        where
          choose : (d : Bool) → IsBest (if d then Some o else Some x)
          choose true = c
          choose false = b

      by : (c : Bool) → is_candidate o ≡ c → ((best : Option Object) → IsBest best → option_map (λ (o : Object). o.path) (parent_among path best os) ≡ Some around)
          → option_map (λ (o : Object). o.path) (parent_among path (if c then longer best o else best) os) ≡ Some around
      by false d rest = rest best b
      by true d rest = rest (longer best o) (either best b (a 0 o refl d))

unequal : (n m : ℕ) → n < m → n ≡ m → true ≡ false
unequal n m a e = absurd (omega arith)

-- the home of an object that is no pointer
pub home-of : (g : Grown) → IsSpread g → (i : ℕ) (o : Object) → slice_get g.objects i ≡ Some o → is_pointer o.node ≡ false → (m : IsMember g o.path) → home g o.path ≡ Some m.member.around
home-of g apart i o there solid m = parent-is o.path m.member.around (stem-front o.path m.member m.leads).1 (stem-front o.path m.member m.leads).0 None tt g.objects all m.around.number m.around.object m.around.there m.around.is_one m.around.at
  where
    no_pointer : (v : Node) → is_module v ≡ true → is_pointer v ≡ false
    no_pointer (Module c) e = refl
    no_pointer (Port k output r) e = refl
    no_pointer (Signal k) e = refl
    no_pointer (Variable k w) e = refl
    no_pointer (Pointer t) e = cc

    all : (j : ℕ) (q : Object) → slice_get g.objects j ≡ Some q → (is_module q.node && (is_front q.path o.path && nat_lt (length q.path) (length o.path))) ≡ true → Front q.path m.member.around
    all j q a e = by (front-either q.path m.member.around o.path front (stem-front o.path m.member m.leads).0)
      where
        inner : (is_front q.path o.path && nat_lt (length q.path) (length o.path)) ≡ true
        inner = and-second (is_module q.node) (is_front q.path o.path && nat_lt (length q.path) (length o.path)) e

        front : Front q.path o.path
        front = is_front-is q.path o.path (and-first (is_front q.path o.path) (nat_lt (length q.path) (length o.path)) inner)

        near : stem q.path ≡ Some m.member → true ≡ false
        near f = let z : j ≡ i = apart.solids j i q o a there (no_pointer q.node (and-first (is_module q.node) (is_front q.path o.path && nat_lt (length q.path) (length o.path)) e)) solid (First (f ∙ sym m.leads, front)) in
            let same : q ≡ o = some_same (sym a ∙ ap (slice_get g.objects) z ∙ there) in
            unequal (length q.path) (length o.path) (below (length q.path) (length o.path) (and-second (is_front q.path o.path) (nat_lt (length q.path) (length o.path)) inner)) (ap (λ (z : Object). length z.path) same)

        by_stem : Or (q.path ≡ m.member.around) (stem q.path ≡ Some m.member) → Front q.path m.member.around
        by_stem (First x) = subst (Front q.path) x (front-refl q.path)
        by_stem (Second x) = let z : true ≡ false = near x in absurd cc

        by : Or (Front q.path m.member.around) (Front m.member.around q.path) → Front q.path m.member.around
        by (First x) = x
        by (Second x) = by_stem (stem-between q.path o.path m.member m.leads x front)

-- nothing is around the top
no-parent : (os : List Object) → parent_among [] None os ≡ None
no-parent [] = refl
no-parent (o ∷ os) = ap (λ c. parent_among [] (if c then longer None o else None) os) (none (is_module o.node) (is_front o.path []) (length o.path)) ∙ no-parent os
  where
    less : (n : ℕ) → nat_lt n 0 ≡ false
    less n = grind arith

    none : (a b : Bool) (n : ℕ) → (a && (b && nat_lt n 0)) ≡ false
    none true true n = less n
    none true false n = refl
    none false b n = refl

pub top-home : (g : Grown) (path : List Part) → path ≡ [] → home g path ≡ None
top-home g path e = ap (home g) e ∙ ap (option_map (λ (o : Object). o.path)) (no-parent g.objects)

module _ {p : Plain} {g h : Grown} (grows : Grows p g h) (before : IsSpread g) (after : IsSpread h) where
  -- homes stay
  home-stays : (i : ℕ) (o : Object) → slice_get g.objects i ≡ Some o → is_pointer o.node ≡ false → home h o.path ≡ home g o.path
  home-stays i o a b = by (before.members i o a)
    where
      by : Or ((o.path ≡ []) × (is_pointer o.node ≡ false)) (IsMember g o.path) → home h o.path ≡ home g o.path
      by (First x) = top-home h o.path x.0 ∙ sym (top-home g o.path x.0)
      by (Second m) = home-of h after i o (slice-kept i o grows a) b (record { member = m.member; leads = m.leads; around = module-stays grows m.around }) ∙ sym (home-of g before i o a b m)

  number-stays : (n : ℕ) (v : Node) → node_of g n ≡ Some v → is_pointer v ≡ false → (node_of h n ≡ Some v) × (home h (path_of h n) ≡ home g (path_of g n))
  number-stays n v e b = by (slice_get g.objects n) refl e
    where
      by : (o : Option Object) → slice_get g.objects n ≡ o → option_map (λ (o : Object). o.node) o ≡ Some v → (node_of h n ≡ Some v) × (home h (path_of h n) ≡ home g (path_of g n))
      by None f e = cc
      by (Some o) f e = let there : slice_get h.objects n ≡ Some o = slice-kept n o grows f in (
        ap (option_map (λ (o : Object). o.node)) there ∙ e,
        ap (λ q. home h (unwrap_or (option_map (λ (o : Object). o.path) q) [])) there ∙ home-stays n o f (ap is_pointer (some_same e) ∙ b) ∙ ap (λ q. home g (unwrap_or (option_map (λ (o : Object). o.path) q) [])) (sym f),
      )

  module-home : (path : List Part) → IsModuleAt g path → home h path ≡ home g path
  module-home path m = ap (home h) (sym m.at) ∙ home-stays m.number m.object m.there (solid m.object.node m.is_one) ∙ ap (home g) m.at
    where
      solid : (v : Node) → is_module v ≡ true → is_pointer v ≡ false
      solid (Module c) e = refl
      solid (Port k output r) e = refl
      solid (Signal k) e = refl
      solid (Variable k w) e = refl
      solid (Pointer t) e = cc

  -- the home of a home
  homes-stay : (n : ℕ) (v : Node) → node_of g n ≡ Some v → is_pointer v ≡ false → option_and_then (home h) (home g (path_of g n)) ≡ option_and_then (home g) (home g (path_of g n))
  homes-stay n v e b = by (slice_get g.objects n) refl e
    where
      by_member : (o : Object) → slice_get g.objects n ≡ Some o → is_pointer o.node ≡ false → Or ((o.path ≡ []) × (is_pointer o.node ≡ false)) (IsMember g o.path) → option_and_then (home h) (home g o.path) ≡ option_and_then (home g) (home g o.path)
      by_member o f c (First x) = ap (option_and_then (home h)) (top-home g o.path x.0) ∙ sym (ap (option_and_then (home g)) (top-home g o.path x.0))
      by_member o f c (Second m) = let at = home-of g before n o f c m in ap (option_and_then (home h)) at ∙ module-home m.member.around m.around ∙ sym (ap (option_and_then (home g)) at)

      by : (o : Option Object) → slice_get g.objects n ≡ o → option_map (λ (o : Object). o.node) o ≡ Some v → option_and_then (home h) (home g (path_of g n)) ≡ option_and_then (home g) (home g (path_of g n))
      by None f e = cc
      by (Some o) f e = let path : path_of g n ≡ o.path = ap (λ q. unwrap_or (option_map (λ (o : Object). o.path) q) []) f in
          ap (λ q. option_and_then (home h) (home g q)) path ∙ by_member o f (ap is_pointer (some_same e) ∙ b) (before.members n o f) ∙ sym (ap (λ q. option_and_then (home g) (home g q)) path)

  may-still : (at : Option (List Part)) → option_and_then (home h) at ≡ option_and_then (home g) at → (k : Kind) (output : Bool) (n : ℕ) (v : Option Node) → node_of g n ≡ v → may_bind g at k output n v ≡ true → may_bind h at k output n (node_of h n) ≡ true
  may-still at e k output n (Some (Signal j)) f a = ap (may_bind h at k output n) (number-stays n (Signal j) f refl).0 ∙ a
  may-still at e k output n (Some (Port j out r)) f a = let z = number-stays n (Port j out r) f refl in
      ap (may_bind h at k output n) z.0 ∙ (λ i. same_kind k j && (same_home (z.1 i) (e i) && (not output || out))) ∙ a
  may-still at e k output n (Some (Module c)) f a = cc
  may-still at e k output n (Some (Variable j w)) f a = cc
  may-still at e k output n (Some (Pointer t)) f a = cc
  may-still at e k output n None f a = cc

  -- what may be bound may be bound later
  pub bindable-kept : (b : Bound) → IsBindable g b → IsBindable h b
  bindable-kept b x = let z = number-stays b.port (Port x.kind x.output x.root) x.port refl in record {
    kind = x.kind;
    output = x.output;
    root = x.root;
    port = z.0;
    inside = ap is_top z.1 ∙ x.inside;
    fits = ap (λ at. may_bind h at x.kind x.output b.to (node_of h b.to)) z.1
        ∙ may-still (home g (path_of g b.port)) (homes-stay b.port (Port x.kind x.output x.root) x.port refl) x.kind x.output b.to (node_of g b.to) refl x.fits;
  }
