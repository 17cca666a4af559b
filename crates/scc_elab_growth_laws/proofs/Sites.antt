-- What stands at a location stays, and what a constructor meets is what stands there.
use Rattle.std.proofs.Common.{◌≡◌, ℕ, suc, ◌+◌, ◌<◌, Bool, true, false, not, ◌||◌, nat_eq, nat_lt, List, [], ◌∷◌, ◌++◌, length, length-append, Option, Some, None, option_map, option_and_then, slice_get, position, is_some, unwrap_or, if◌then◌else◌, cond, ap, refl, sym, ◌∙◌, arith}
use Rattle.std.specs.List.{position_or_len, prefix_len}
use Rattle.scc_bits_kinds.specs.declared.kind.Kind.{Kind}
use Rattle.scc_semantics.specs.Location.{Location, Part, Root, Top, Local, Answer}
use Rattle.scc_elab_spec.specs.Program.{Plain, Class, Function, Member}
use Rattle.scc_elab_spec.specs.Design.{Object, class_of, is_module}
use Rattle.scc_elab_spec.specs.Grown.{Grown, thing_at, pointer_at, node_of, variable_kind, is_thing, is_pointer, object_at}
use Rattle.scc_elab_spec.specs.Worth.{Site, direct_kind, or_kind, constructor_at, local_there, kind_there}
use Rattle.scc_elab_spec.specs.Made.{nowhere}
use Rattle.scc_elab_spec.proofs.Regular.{nat_eq-is}
use Rattle.scc_elab_growth_laws.specs.Sites.{constructor_in, if_inside, local_in, kind_in, points, points_in, IsOf}
use Rattle.scc_elab_growth_laws.specs.Changes.{Change, Word, Aim, New, Vector, Turn, Bind, Process, Items, Reset, Add, changed_by, IsAllowed, IsModule, Grows}
use Rattle.scc_elab_growth_laws.proofs.Growth.{kept, slice-kept}

-- the first that passes stays the first
len-front : {A : Type 0} (f : A → Bool) (xs ys : List A) → prefix_len f xs < length xs → prefix_len f (xs ++ ys) ≡ prefix_len f xs
len-front f [] ys a = absurd (omega arith)
len-front f (x ∷ xs) ys a = by (f x) a (len-front f xs ys)
  where
    less : (n m : ℕ) → 1 + n < suc m → n < m
    less n m a = omega arith

    by : (b : Bool) → cond b (1 + prefix_len f xs) 0 < suc (length xs) → (prefix_len f xs < length xs → prefix_len f (xs ++ ys) ≡ prefix_len f xs) → cond b (1 + prefix_len f (xs ++ ys)) 0 ≡ cond b (1 + prefix_len f xs) 0
    by true a rest = ap (λ n. 1 + n) (rest (less (prefix_len f xs) (length xs) a))
    by false a rest = refl

below : (n m : ℕ) → nat_lt n m ≡ true → n < m
below n m e = grind arith

above : (n m k : ℕ) → n < m → k ≡ m + 1 → nat_lt n k ≡ true
above n m k a e = grind arith

pub position-snoc : {A : Type 0} (f : A → Bool) (xs : List A) (y : A) (n : ℕ) → position f xs ≡ Some n → position f (xs ++ y ∷ []) ≡ Some n
position-snoc f xs y n e = by (nat_lt (position_or_len f xs) (length xs)) refl e
  where
    by : (b : Bool) → nat_lt (position_or_len f xs) (length xs) ≡ b → cond b (Some (position_or_len f xs)) None ≡ Some n → position f (xs ++ y ∷ []) ≡ Some n
    by false h e = cc
    by true h e = let a : position_or_len f xs < length xs = below (position_or_len f xs) (length xs) h in
        let same : position_or_len f (xs ++ y ∷ []) ≡ position_or_len f xs = len-front (λ x. not (f x)) xs (y ∷ []) a in
        let less : nat_lt (position_or_len f xs) (length (xs ++ y ∷ [])) ≡ true = above (position_or_len f xs) (length xs) (length (xs ++ y ∷ [])) a (length-append xs (y ∷ [])) in
        ap (λ m. cond (nat_lt m (length (xs ++ y ∷ []))) (Some m) None) same ∙ ap (λ b. cond b (Some (position_or_len f xs)) None) less ∙ e

position-step : (test : Object → Bool) (n : ℕ) (p : Plain) (h : Grown) (c : Change) → IsAllowed p h c → position test h.objects ≡ Some n → position test (changed_by c h).objects ≡ Some n
position-step test n p h (Add path place node) a e = position-snoc test h.objects (record { path = path; place = place; node = node }) n e
position-step test n p h (Word l w) a e = e
position-step test n p h (Aim l t) a e = e
position-step test n p h (New path) a e = e
position-step test n p h (Vector path m) a e = e
position-step test n p h Turn a e = e
position-step test n p h (Bind b) a e = e
position-step test n p h (Process d) a e = e
position-step test n p h (Items k is) a e = e
position-step test n p h (Reset k r) a e = e

module _ {p : Plain} {g h : Grown} (grows : Grows p g h) where
  pub position-kept : (test : Object → Bool) (n : ℕ) → position test g.objects ≡ Some n → position test h.objects ≡ Some n
  position-kept test n e = kept (λ h. position test h.objects ≡ Some n) (position-step test n p) grows e

  -- a pointer stays
  pub pointer-kept : (path : List Part) → is_some (object_at is_pointer g path) ≡ true → is_some (object_at is_pointer h path) ≡ true
  pointer-kept path e = by (object_at is_pointer g path) refl e
    where
      by : (o : Option ℕ) → object_at is_pointer g path ≡ o → is_some o ≡ true → is_some (object_at is_pointer h path) ≡ true
      by None f e = cc
      by (Some n) f e = ap is_some (position-kept _ n f)

  -- so does a constructor
  pub constructor-kept : (i : ℕ) (f : Function) → constructor_in p g i ≡ Some f → constructor_in p h i ≡ Some f
  constructor-kept i f e = by (slice_get g.objects i) refl e
    where
      of : Option Object → Option Function
      of o = option_and_then (λ (o : Object). option_and_then (λ c. option_and_then (λ (k : Class). option_and_then (slice_get p.functions) k.constructor) (slice_get p.classes c)) (class_of o.node)) o

      by : (o : Option Object) → slice_get g.objects i ≡ o → of o ≡ Some f → of (slice_get h.objects i) ≡ Some f
      by None d e = cc
      by (Some o) d e = ap of (slice-kept i o grows d) ∙ e

  -- and a variable
  pub variable-kept : (o : Option (List Part)) (k : Kind) → variable_kind (option_and_then (node_of g) (option_and_then (object_at is_thing g) o)) ≡ Some k → variable_kind (option_and_then (node_of h) (option_and_then (object_at is_thing h) o)) ≡ Some k
  variable-kept None k e = cc
  variable-kept (Some path) k e = by (object_at is_thing g path) refl e
    where
      by_node : (n : ℕ) (o : Option Object) → slice_get g.objects n ≡ o → variable_kind (option_map (λ (o : Object). o.node) o) ≡ Some k → variable_kind (node_of h n) ≡ Some k
      by_node n None d e = cc
      by_node n (Some o) d e = ap (λ q. variable_kind (option_map (λ (o : Object). o.node) q)) (slice-kept n o grows d) ∙ e

      by : (n : Option ℕ) → object_at is_thing g path ≡ n → variable_kind (option_and_then (node_of g) n) ≡ Some k → variable_kind (option_and_then (node_of h) (object_at is_thing h path)) ≡ Some k
      by None d e = cc
      by (Some n) d e = ap (λ m. variable_kind (option_and_then (node_of h) m)) (position-kept _ n d) ∙ by_node n (slice_get g.objects n) refl e

  pub local-kept : (l : Location) (r : Root) (m : Member) → local_in p g l r ≡ Some m → local_in p h l r ≡ Some m
  local-kept l Top m e = cc
  local-kept l (Answer i cs) m e = cc
  local-kept l (Local i cs n) m e = by (constructor_in p g i) refl e
    where
      by : (f : Option Function) → constructor_in p g i ≡ f → option_and_then (if_inside l.path) (option_and_then (λ (f : Function). slice_get f.locals n) f) ≡ Some m → local_in p h l (Local i cs n) ≡ Some m
      by None d e = cc
      by (Some f) d e = ap (λ z. option_and_then (if_inside l.path) (option_and_then (λ (f : Function). slice_get f.locals n) z)) (constructor-kept i f d) ∙ e

  kind-kept-at : (r : Root) (path : List Part) (k : Kind) → let l : Location = record { root = r; path = path } in kind_in p g l ≡ Some k → kind_in p h l ≡ Some k
  kind-kept-at Top path k e = variable-kept (Some path) k e
  kind-kept-at (Answer i cs) path k e = cc
  kind-kept-at (Local i cs n) path k e = by (local_in p g l l.root) refl e
    where
      l : Location
      l = record { root = Local i cs n; path = path }

      by : (m : Option Member) → local_in p g l l.root ≡ m → or_kind (option_and_then direct_kind m) None ≡ Some k → kind_in p h l ≡ Some k
      by None d e = cc
      by (Some m) d e = ap (λ q. or_kind (option_and_then direct_kind q) None) (local-kept l l.root m d) ∙ e

  pub kind-kept : (l : Location) (k : Kind) → kind_in p g l ≡ Some k → kind_in p h l ≡ Some k
  kind-kept l k e = kind-kept-at l.root l.path k e

  -- where nothing stands, nothing stood
  pub no-kind : (l : Location) → kind_in p h l ≡ None → kind_in p g l ≡ None
  no-kind l e = by (kind_in p g l) refl
    where
      by : (k : Option Kind) → kind_in p g l ≡ k → kind_in p g l ≡ None
      by None d = d
      by (Some k) d = let z : Some k ≡ None = sym (kind-kept l k d) ∙ e in absurd cc

  points-kept-at : (r : Root) (path : List Part) → let l : Location = record { root = r; path = path } in points_in p g l ≡ true → points_in p h l ≡ true
  points-kept-at Top path e = either (is_some (object_at is_pointer g path)) (is_some (object_at is_pointer h path)) (pointer-kept path) e
    where
      either : (b c : Bool) → (b ≡ true → c ≡ true) → (b || false) ≡ true → (c || false) ≡ true
      either true c f e = ap (λ z. z || false) (f refl)
      either false c f e = cc
  points-kept-at (Answer i cs) path e = cc
  points-kept-at (Local i cs n) path e = by (local_in p g l l.root) refl e
    where
      l : Location
      l = record { root = Local i cs n; path = path }

      by : (m : Option Member) → local_in p g l l.root ≡ m → (false || points m) ≡ true → points_in p h l ≡ true
      by None d e = cc
      by (Some m) d e = ap (λ q. false || points q) (local-kept l l.root m d) ∙ e

  pub no-points : (l : Location) → points_in p h l ≡ false → points_in p g l ≡ false
  no-points l e = by (points_in p g l) refl
    where
      by : (b : Bool) → points_in p g l ≡ b → points_in p g l ≡ false
      by false d = d
      by true d = let z : true ≡ false = sym (points-kept-at l.root l.path d) ∙ e in absurd cc

  -- an object keeps its class and constructor
  pub of-kept : (f : Function) (n : ℕ) → IsOf p f n g → IsOf p f n h
  of-kept f n i = record { object = i.object; number = i.number; class = i.class; there = slice-kept n i.object grows i.there; node = i.node; known = i.known; function = i.function }

pub module-of : {p : Plain} {f : Function} {n : ℕ} {g : Grown} → IsOf p f n g → IsModule g n
module-of i = record { object = i.object; there = i.there; is_one = ap is_module i.node }

-- the constructor that runs is that of its object
constructor-of : (p : Plain) (f : Function) (n : ℕ) (g : Grown) → (i : IsOf p f n g) → constructor_in p g n ≡ option_and_then (slice_get p.functions) i.class.constructor
constructor-of p f n g i = ap of i.there ∙ ap (λ v. option_and_then (λ c. option_and_then (λ (k : Class). option_and_then (slice_get p.functions) k.constructor) (slice_get p.classes c)) (class_of v)) i.node
    ∙ ap (option_and_then (λ (k : Class). option_and_then (slice_get p.functions) k.constructor)) i.known
  where
    of : Option Object → Option Function
    of o = option_and_then (λ (o : Object). option_and_then (λ c. option_and_then (λ (k : Class). option_and_then (slice_get p.functions) k.constructor) (slice_get p.classes c)) (class_of o.node)) o

-- a function without locals stands for a constructor that there isn't
pub ours : (p : Plain) (f : Function) (n : ℕ) (g : Grown) → IsOf p f n g → (k : ℕ) → option_and_then (λ (f : Function). slice_get f.locals k) (constructor_in p g n) ≡ slice_get f.locals k
ours p f n g i k = by (option_and_then (slice_get p.functions) i.class.constructor) refl
  where
    by : (o : Option Function) → option_and_then (slice_get p.functions) i.class.constructor ≡ o → option_and_then (λ (f : Function). slice_get f.locals k) (constructor_in p g n) ≡ slice_get f.locals k
    by o e = ap (option_and_then (λ (f : Function). slice_get f.locals k)) (constructor-of p f n g i ∙ e) ∙ found o ∙ ap (λ (z : Function). slice_get z.locals k) (sym (i.function ∙ ap (λ q. unwrap_or q nowhere) e))
      where
        found : (o : Option Function) → option_and_then (λ (f : Function). slice_get f.locals k) o ≡ slice_get (unwrap_or o nowhere).locals k
        found None = refl
        found (Some f) = refl

module _ (s : Site) (i : IsOf s.plain s.function s.object s.now) where
  at-ours : (j n : ℕ) → option_and_then (λ (f : Function). slice_get f.locals n) (constructor_at s j) ≡ option_and_then (λ (f : Function). slice_get f.locals n) (constructor_in s.plain s.now j)
  at-ours j n = by (nat_eq j s.object) refl
    where
      by : (b : Bool) → nat_eq j s.object ≡ b → option_and_then (λ (f : Function). slice_get f.locals n) (if b then Some s.function else constructor_in s.plain s.now j) ≡ option_and_then (λ (f : Function). slice_get f.locals n) (constructor_in s.plain s.now j)
      by false e = refl
      by true e = sym (ours s.plain s.function s.object s.now i n) ∙ ap (λ z. option_and_then (λ (f : Function). slice_get f.locals n) (constructor_in s.plain s.now z)) (sym (nat_eq-is j s.object e))

  pub local-ours : (l : Location) (r : Root) → local_there s l r ≡ local_in s.plain s.now l r
  local-ours l Top = refl
  local-ours l (Answer j cs) = refl
  local-ours l (Local j cs n) = ap (option_and_then (if_inside l.path)) (at-ours j n)

  pub kind-ours : (l : Location) → kind_there s l ≡ kind_in s.plain s.now l
  kind-ours l = ap (λ m. or_kind (option_and_then direct_kind m) (variable_kind (option_and_then (node_of s.now) (thing_at s.now l)))) (local-ours l l.root)

  pub points-ours : (l : Location) → points (local_there s l l.root) ≡ true → points_in s.plain s.now l ≡ true
  points-ours l e = ap (λ m. is_some (pointer_at s.now l) || points m) (sym (local-ours l l.root)) ∙ ap (λ b. is_some (pointer_at s.now l) || b) e ∙ or_true (is_some (pointer_at s.now l))
    where
      or_true : (b : Bool) → (b || true) ≡ true
      or_true true = refl
      or_true false = refl
