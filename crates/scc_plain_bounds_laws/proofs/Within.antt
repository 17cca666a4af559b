-- Expressions that name no locals but some below a number name none from it on; and statements of them.
use Rattle.std.proofs.Common.{◌≡◌, ℕ, zero, suc, ◌<◌, Bool, true, false, not, ◌&&◌, ◌||◌, nat_eq, List, [], ◌∷◌, length, Option, Some, None, option_map, find, refl, sym, ap, ◌∙◌, subst, if◌then◌else◌, arith}
use Rattle.std.specs.Prelude.{nat_lt}
use Rattle.scc_base.specs.declared.refusal.Place.{Place}
use Rattle.scc_elab_spec.specs.Term.{Term, Literal, Load, Read, Convert, Unary, Binary, Choose, Bit, Range, Join, Left, Local, Answer, This, Follow, Index, Pick, Whole, OneBit, Bits, Target, Null, Address, Copy, Argument, Value, Leads, ModuleName}
use Rattle.scc_elab_spec.specs.Term as term
use Rattle.scc_elab_spec.specs.Program.{Reach, Direct, Pointer, Reference, Assign, Declare, Point, Return, Write}
use Rattle.scc_templates_spec.specs.Walk.{Args}
use Rattle.scc_plain_spec.specs.Types.{Base, OfNumber, OfObject, InPort, OutPort, OfSignal, OfName}
use Rattle.scc_plain_spec.specs.Forms.{Form, direct, is_pointer, is_whole}
use Rattle.scc_plain_spec.specs.Meant.{has_elements, inner_form}
use Rattle.scc_plain_spec.specs.Room.{Known, known_as}
use Rattle.scc_plain_laws.proofs.Named.{Namable, Names, NamesLeft, NamesObject, NamesPick, NamesTarget}
use Rattle.scc_plain_laws.proofs.Calls.{AreTypedArguments}
use Rattle.scc_plain_bounds_laws.specs.Bounds.{leaves}
use Rattle.scc_plain_bounds_laws.specs.Within.{is_object, within_arguments, within_code, within_left, within_object, within_pick, within_target, within_term}
use Rattle.scc_elab_spec.specs.Types.{is_reference}
use Rattle.scc_plain_bounds_laws.proofs.Shapes.{may_hold}
use Rattle.scc_plain_bounds_laws.proofs.Before.{Before, lt-true, later, object-later}
use Rattle.scc_plain_bounds_laws.proofs.Bounded.{Bounded, both, plain}

-- a form of what is no object
abbrev pub is_plain : Base → Bool
is_plain (OfObject c as_given) = false
is_plain b = true

-- a pointer, or no object
abbrev pub leads : Form → Bool
leads f = is_pointer f || is_plain f.base

-- a location that may have a form, with these locals: an object, or one of a form that isn't a class's
abbrev pub may_form : List Reach → Left → Form → Bool
may_form m l f = is_object m l || leads f

or-second : (a b : Bool) → b ≡ true → (a || b) ≡ true
or-second true b e = refl
or-second false b e = e

pub or-first : (a b : Bool) → a ≡ true → (a || b) ≡ true
or-first true b e = refl
or-first false b e = absurd cc

-- an element of what may stand there may
pub element-stands : (m : List Reach) (l : Left) (e : Term) (f : Form) → may_form m l f ≡ true → has_elements f ≡ true → may_form m (Index l e) (inner_form f) ≡ true
element-stands m l e f h i = by (is_object m l) h
  where
    base-plain : (b : Base) → is_plain b ≡ true → leads (direct b) ≡ true
    base-plain b h = h

    inner : (r : Reach) (v : Bool) (n : ℕ) (b : Base) → leads (record { base = b; reach = r; vector = v; dims = n }) ≡ true → has_elements (record { base = b; reach = r; vector = v; dims = n }) ≡ true
        → leads (inner_form (record { base = b; reach = r; vector = v; dims = n })) ≡ true
    inner r v (suc n) b h i = h
    inner Direct v zero b h i = base-plain b h
    inner Reference v zero b h i = base-plain b h
    inner Pointer true zero b h i = absurd cc
    inner Pointer false zero b h i = absurd cc

    by : (o : Bool) → (o || leads f) ≡ true → (o || leads (inner_form f)) ≡ true
    by true h = refl
    by false h = inner f.reach f.vector f.dims f.base h i

-- what has a class's form is an object
pub whole-object : (m : List Reach) (l : Left) (f : Form) (c : ℕ) (as_given : Args) → may_form m l f ≡ true → is_whole f ≡ true → f.base ≡ OfObject c as_given → is_object m l ≡ true
whole-object m l f c as_given h w e = by (is_object m l) h
  where
    whole : (r : Reach) (v : Bool) (n : ℕ) (b : Base) → leads (record { base = b; reach = r; vector = v; dims = n }) ≡ true → is_whole (record { base = b; reach = r; vector = v; dims = n }) ≡ true → b ≡ OfObject c as_given → false ≡ true
    whole Pointer v zero b h w e = by-vector v w
      where
        by-vector : (v : Bool) → (not v && false) ≡ true → false ≡ true
        by-vector true w = w
        by-vector false w = w
    whole Pointer v (suc n) b h w e = let z : nat_eq (suc n) 0 ≡ false = grind arith in sym (ap (λ x. x && (not v && false)) z) ∙ w
    whole Direct v n b h w e = sym (ap is_plain e) ∙ h
    whole Reference v n b h w e = sym (ap is_plain e) ∙ h

    by : (o : Bool) → (o || leads f) ≡ true → o ≡ true
    by true h = refl
    by false h = whole f.reach f.vector f.dims f.base h w e

-- a local of the form that it holds
pub held-stands : (r : Reach) (b : Base) (v : Bool) (n : ℕ) → may_hold r b ≡ true → (is_reference r || leads (record { base = b; reach = r; vector = v; dims = n })) ≡ true
held-stands Reference b v n h = refl
held-stands Pointer b v n h = refl
held-stands Direct (OfNumber k) v n h = refl
held-stands Direct OfName v n h = refl
held-stands Direct (OfObject c as_given) v n h = absurd cc
held-stands Direct (InPort k) v n h = absurd cc
held-stands Direct (OutPort k) v n h = absurd cc
held-stands Direct (OfSignal k) v n h = absurd cc

-- the locals that may be named, and the locations that may have a form, with these locals
abbrev pub below : List Reach → Namable
below m = record {
  local = λ n. nat_lt n (length m);
  stands = may_form m;
  object = is_object m;
  this = λ p f. refl;
  this_object = λ p. refl;
  follow = λ p l f. refl;
  member = λ l n f h. or-first (is_object m l) (leads f) h;
  element = element-stands m;
  whole = whole-object m;
}

module _ (m b : List Reach) (h : Before m b) where
  mutual
    pub term-within : (e : Term) → Names (below m) e → within_term b e ≡ true
    term-within (Literal p k w) t = refl
    term-within (Load p k l) t = left-within l t
    term-within (Read p k l) t = left-within l t
    term-within (Convert p k e) t = term-within e t
    term-within (Unary p k o a) t = term-within a t.1
    term-within (Binary p k o a c) t = both (within_term b a) (within_term b c) (term-within a t.1) (term-within c t.2)
    term-within (Choose p k u a c) t = both (within_term b u) (within_term b a && within_term b c) (term-within u t.0) (both (within_term b a) (within_term b c) (term-within a t.1) (term-within c t.2))
    term-within (Bit p a e) t = both (within_term b a) (within_term b e) (term-within a t.0) (term-within e t.1)
    term-within (Range p k a i l) t = term-within a t
    term-within (Join p k a c) t = both (within_term b a) (within_term b c) (term-within a t.0) (term-within c t.1)

    pub left-within : (l : Left) → NamesLeft (below m) l → within_left b l ≡ true
    left-within (Local p n) t = later n m b h t
    left-within (Answer p n) t = refl
    left-within (This p) t = refl
    left-within (Follow p l) t = left-within l t
    left-within (term.Member l n) t = both (within_left b l) (is_object b l) (left-within l t.0) (object-later m b h l t.1)
    left-within (Index l e) t = both (within_left b l) (within_term b e) (left-within l t.0) (term-within e t.1)

  pick-within : (k : Pick) → NamesPick (below m) k → within_pick b k ≡ true
  pick-within Whole t = refl
  pick-within (OneBit e) t = term-within e t
  pick-within (Bits i l) t = refl

  target-within : (k : Target) → NamesTarget (below m) k → within_target b k ≡ true
  target-within Null t = refl
  target-within (Address l) t = left-within l t
  target-within (Copy l) t = left-within l t

  pub object-within : (o : Option Left) → NamesObject (below m) o → within_object b o ≡ true
  object-within None t = refl
  object-within (Some l) t = both (within_left b l) (is_object b l) (left-within l t.0) (object-later m b h l t.1)

  pub arguments-within : (xs : List Argument) → AreTypedArguments (below m) xs → within_arguments b xs ≡ true
  arguments-within [] t = refl
  arguments-within (Value e ∷ xs) t = both (within_term b e) (within_arguments b xs) (term-within e t.0) (arguments-within xs t.1)
  arguments-within (Leads k ∷ xs) t = both (within_target b k) (within_arguments b xs) (target-within k t.0) (arguments-within xs t.1)
  arguments-within (ModuleName ∷ xs) t = arguments-within xs t.1

-- what names no locals but some below a number names none but some below a greater one
module _ (m b : List Reach) (h : Before m b) where
  mutual
    pub names-later : (e : Term) → Names (below m) e → Names (below b) e
    names-later (Literal p k w) t = tt
    names-later (Load p k l) t = left-later l t
    names-later (Read p k l) t = left-later l t
    names-later (Convert p k e) t = names-later e t
    names-later (Unary p k o a) t = (t.0, names-later a t.1)
    names-later (Binary p k o a c) t = (t.0, names-later a t.1, names-later c t.2)
    names-later (Choose p k u a c) t = (names-later u t.0, names-later a t.1, names-later c t.2)
    names-later (Bit p a e) t = (names-later a t.0, names-later e t.1)
    names-later (Range p k a i l) t = names-later a t
    names-later (Join p k a c) t = (names-later a t.0, names-later c t.1)

    left-later : (l : Left) → NamesLeft (below m) l → NamesLeft (below b) l
    left-later (Local p n) t = later n m b h t
    left-later (Answer p n) t = tt
    left-later (This p) t = tt
    left-later (Follow p l) t = left-later l t
    left-later (term.Member l n) t = (left-later l t.0, object-later m b h l t.1)
    left-later (Index l e) t = (left-later l t.0, names-later e t.1)

-- names that mean locals below a number
abbrev pub Knows : List Reach → List Known → Type 0
Knows m ks = (x n : ℕ) → known_as ks x ≡ Some n → nat_lt n (length m) ≡ true

pub knows-none : (m : List Reach) → Knows m []
knows-none m x n e = cc

pub knows-more : (m : List Reach) (k : Known) (ks : List Known) → k.local < length m → Knows m ks → Knows m (k ∷ ks)
knows-more m k ks h f x n e = by (nat_eq k.name x) e
  where
    some : {i j : ℕ} → Some i ≡ Some j → i ≡ j
    some e = cc

    by : (b : Bool) → option_map (λ (k : Known). k.local) (if b then Some k else find (λ (k : Known). nat_eq k.name x) ks) ≡ Some n → nat_lt n (length m) ≡ true
    by true e = lt-true n (length m) (subst (λ n. n < length m) (some e) h)
    by false e = f x n e

pub knows-later : (m b : List Reach) (ks : List Known) → Before m b → Knows m ks → Knows b ks
knows-later m b ks h f x n e = later n m b h (f x n e)

-- statements of one kind
module _ (v : Bool) (D : ℕ → Type 0) (k : ℕ) (m : List Reach) where
  pub assign-plain : (p : Place) (l : Left) (j : Pick) (e : Term) → NamesLeft (below m) l → NamesPick (below m) j → Names (below m) e → Bounded v D (record { calls = k; locals = m }) (record { calls = k; locals = m }) (λ n c. Assign p l j e c)
  assign-plain p l j e t u w = plain v D (record { calls = k; locals = m }) (λ n c i. refl) (λ n c d z h. h) (λ n c b z h. both (within_left b l) (within_pick b j && (within_term b e && within_code b c)) (left-within m b z l t)
      (both (within_pick b j) (within_term b e && within_code b c) (pick-within m b z j u) (both (within_term b e) (within_code b c) (term-within m b z e w) h)))

  pub point-plain : (p : Place) (l : Left) (t : Target) → NamesLeft (below m) l → NamesTarget (below m) t → Bounded v D (record { calls = k; locals = m }) (record { calls = k; locals = m }) (λ n c. Point p l t c)
  point-plain p l t u w = plain v D (record { calls = k; locals = m }) (λ n c i. refl) (λ n c d z h. h) (λ n c b z h. both (within_left b l) (within_target b t && within_code b c) (left-within m b z l u) (both (within_target b t) (within_code b c) (target-within m b z t w) h))

  pub write-plain : (p : Place) (l : Left) (e : Term) → NamesLeft (below m) l → Names (below m) e → Bounded v D (record { calls = k; locals = m }) (record { calls = k; locals = m }) (λ n c. Write p l e c)
  write-plain p l e t u = plain v D (record { calls = k; locals = m }) (λ n c i. refl) (λ n c d z h. h) (λ n c b z h. both (within_left b l) (within_term b e && within_code b c) (left-within m b z l t) (both (within_term b e) (within_code b c) (term-within m b z e u) h))

  pub declare-plain : (p : Place) (i : ℕ) → nat_lt i (length m) ≡ true → Bounded v D (record { calls = k; locals = m }) (record { calls = k; locals = m }) (λ n c. Declare p i c)
  declare-plain p i t = plain v D (record { calls = k; locals = m }) (λ n c j. refl) (λ n c d z h. h) (λ n c b z h. both (nat_lt i (length b)) (within_code b c) (later i m b z t) h)

  pub return-plain : (p : Place) (e : Term) → true ≡ v → Names (below m) e → Bounded v D (record { calls = k; locals = m }) (record { calls = k; locals = m }) (λ n c. Return p (Some e) c)
  return-plain p e s t = plain v D (record { calls = k; locals = m }) (λ n c i. refl) (λ n c d z h. both v (leaves v d c) (sym s) h) (λ n c b z h. both (within_term b e) (within_code b c) (term-within m b z e t) h)
