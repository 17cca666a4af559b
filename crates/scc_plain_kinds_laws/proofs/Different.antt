-- The members of each class of a plain program have different names, since no name is declared twice.
use Rattle.std.proofs.Common.{◌≡◌, ℕ, suc, zero, Bool, true, false, not, ◌&&◌, ◌||◌, nat_eq, List, [], ◌∷◌, ◌++◌, find, filter_map, slice_get, Option, Some, None, option_map, option_and_then, refl, sym, ap, ◌∙◌, subst, arith, if◌then◌else◌}
use Rattle.std.specs.List.{list_all, list_any, cons_option}
use Rattle.scc_base.specs.declared.refusal.Place.{Place}
use Rattle.scc_base.specs.declared.refusal.Refusal.{Refusal}
use Rattle.scc_core_spec.specs.First.{or_else}
use Rattle.scc_core_spec.specs.Resolved.{Made}
use Rattle.scc_elab_growth_laws.specs.Apart.{names_differ, is_whole_plain}
use Rattle.scc_elab_spec.specs.Program as code
use Rattle.scc_templates_spec.specs.Walk.{Event, Fault, Need, Late, Uses, Calls, Tally, Went, then_go, go, needed, empty}
use Rattle.scc_templates_spec.specs.World.{World}
use Rattle.scc_templates_spec.specs.Source.{Source, Top, OfClass, Outside, Plain, Class, Member, Variable, Declares}
use Rattle.scc_templates_spec.specs.Twice.{Naming, naming, clashes, refused, Scoped, Names, Inside, clashing, param_namings, of_said, of_members, of_class, class_name, of_tops, inside, scope, param_names, twice}
use Rattle.scc_plain_first.specs.Static.{staged, refusal_of}
use Rattle.scc_plain_spec.specs.Names.{Named, class_at}
use Rattle.scc_plain_spec.specs.Scope.{Answer, Body, specials_at, chosen_item}
use Rattle.scc_plain_spec.specs.Keys.{outermost}
use Rattle.scc_plain_spec.specs.Room.{Numbering}
use Rattle.scc_plain_spec.specs.ClassWalk.{Met}
use Rattle.scc_plain_spec.specs.Stage.{functions_in, place_of}
use Rattle.scc_plain_spec.specs.Program.{Instance, instances, numbering, field_member, class_of, body_in, walks, plain_of, unless_refused, program_in, program_of}
use Rattle.scc_plain_laws.proofs.Drafted.{some-is}
use Rattle.scc_plain_laws.proofs.Walks.{by-option}
use Rattle.scc_plain_kinds_laws.proofs.Kept.{both}
use Rattle.scc_plain_kinds_laws.proofs.Program.{made-is}

-- ---- a walk that nothing stops meets no fault

abbrev NoFault : List Event → Type 0
NoFault [] = Unit {0}
NoFault (Fault code place other ∷ es) = ⊥
NoFault (Need x p ∷ es) = NoFault es
NoFault (Late p ∷ es) = NoFault es
NoFault (Uses ∷ es) = NoFault es
NoFault (Calls f how p ∷ es) = NoFault es

fault-first : (xs ys : List Event) → NoFault (xs ++ ys) → NoFault xs
fault-first [] ys h = tt
fault-first (Fault code place other ∷ xs) ys h = h
fault-first (Need x p ∷ xs) ys h = fault-first xs ys h
fault-first (Late p ∷ xs) ys h = fault-first xs ys h
fault-first (Uses ∷ xs) ys h = fault-first xs ys h
fault-first (Calls f how p ∷ xs) ys h = fault-first xs ys h

fault-second : (xs ys : List Event) → NoFault (xs ++ ys) → NoFault ys
fault-second [] ys h = h
fault-second (Fault code place other ∷ xs) ys h = absurd h
fault-second (Need x p ∷ xs) ys h = fault-second xs ys h
fault-second (Late p ∷ xs) ys h = fault-second xs ys h
fault-second (Uses ∷ xs) ys h = fault-second xs ys h
fault-second (Calls f how p ∷ xs) ys h = fault-second xs ys h

then-clean : (w : Went) (es : List Event) → ((t : Tally) → (go es t).stop ≡ None → NoFault es) → (then_go w (go es)).stop ≡ None → NoFault es
then-clean w es h e = by w.stop refl e
  where
    by : (o : Option Refusal) → w.stop ≡ o → (then_go (record { tally = w.tally; stop = o }) (go es)).stop ≡ None → NoFault es
    by None d e = h w.tally e
    by (Some r) d e = absurd cc

pub go-clean : (es : List Event) (t : Tally) → (go es t).stop ≡ None → NoFault es
go-clean [] t e = tt
go-clean (Fault code place other ∷ es) t e = absurd cc
go-clean (Need x p ∷ es) t e = then-clean (needed x p t) es (go-clean es) e
go-clean (Late p ∷ es) t e = go-clean es _ e
go-clean (Uses ∷ es) t e = go-clean es t e
go-clean (Calls f how p ∷ es) t e = go-clean es t e

-- ---- scopes

abbrev AllClean : List Scoped → Type 0
AllClean [] = Unit {0}
AllClean (Names n ∷ xs) = AllClean xs
AllClean (Inside walk ∷ xs) = NoFault walk × AllClean xs

all-clean : (before : List Naming) (xs : List Scoped) → NoFault (clashing before xs) → AllClean xs
all-clean before [] h = tt
all-clean before (Names n ∷ xs) h = all-clean (before ++ n ∷ []) xs (fault-second (refused n (find (clashes n) before)) (clashing (before ++ n ∷ []) xs) h)
all-clean before (Inside walk ∷ xs) h = (fault-first walk (clashing before xs) h, all-clean before xs (fault-second walk (clashing before xs) h))

clean-second : (xs ys : List Scoped) → AllClean (xs ++ ys) → AllClean ys
clean-second [] ys h = h
clean-second (Names n ∷ xs) ys h = clean-second xs ys h
clean-second (Inside walk ∷ xs) ys h = clean-second xs ys h.1

-- the body of each class is clean
class-clean : (ts : List Top) (n : ℕ) (p : Place) (x : Option ℕ) (c : Class) → AllClean (of_tops ts) → slice_get ts n ≡ Some (OfClass p x c) → NoFault (of_class c)
class-clean [] n p x c h e = absurd cc
class-clean (OfClass q y b ∷ ts) zero p x c h e = subst (λ t. NoFault (of_class t)) (let same : Some (OfClass q y b) ≡ Some (OfClass p x c) = e in class-is same) (clean-second (class_name y q b) (Inside (of_class b) ∷ of_tops ts) h.1).0
  where
    class-is : Some (OfClass q y b) ≡ Some (OfClass p x c) → b ≡ c
    class-is e = cc
class-clean (OfClass q y b ∷ ts) (suc n) p x c h e = class-clean ts n p x c (clean-second (class_name y q b) (Inside (of_class b) ∷ of_tops ts) h.1).1 e
class-clean (Outside q ps d as_given f ∷ ts) zero p x c h e = absurd cc
class-clean (Outside q ps d as_given f ∷ ts) (suc n) p x c h e = class-clean ts n p x c (clean-second (Inside (scope (param_names ps)) ∷ Inside (inside f) ∷ []) (of_tops ts) h) e
class-clean (Plain i ∷ ts) zero p x c h e = absurd cc
class-clean (Plain i ∷ ts) (suc n) p x c h e = class-clean ts n p x c (clean-second (of_said i.name i.place i.said) (of_tops ts) h) e

-- ---- the members of a class

abbrev is_there : ℕ → List Naming → Bool
is_there x ns = list_any (λ m. nat_eq m.name x) ns

there-more : (x : ℕ) (n : Naming) (ns : List Naming) → is_there x ns ≡ true → is_there x (ns ++ n ∷ []) ≡ true
there-more x n [] e = absurd cc
there-more x n (m ∷ ns) e = by (nat_eq m.name x) (there-more x n ns) e
  where
    by : (b : Bool) → (is_there x ns ≡ true → is_there x (ns ++ n ∷ []) ≡ true) → (b || is_there x ns) ≡ true → (b || is_there x (ns ++ n ∷ [])) ≡ true
    by true h e = refl
    by false h e = h e

there-last : (n : Naming) (ns : List Naming) → is_there n.name (ns ++ n ∷ []) ≡ true
there-last n [] = by (nat_eq n.name n.name) (same n.name)
  where
    same : (x : ℕ) → nat_eq x x ≡ true
    same x = grind arith

    by : (b : Bool) → b ≡ true → (b || false) ≡ true
    by true e = refl
    by false e = absurd cc
there-last n (m ∷ ns) = by (nat_eq m.name n.name) (there-last n ns)
  where
    by : (b : Bool) → is_there n.name (ns ++ n ∷ []) ≡ true → (b || is_there n.name (ns ++ n ∷ [])) ≡ true
    by true h = refl
    by false h = h

-- what a member variable doesn't clash with has other names
clash-none : (x : ℕ) (p : Place) (ns : List Naming) → NoFault (refused (naming x p) (find (clashes (naming x p)) ns)) → is_there x ns ≡ false
clash-none x p [] h = refl
clash-none x p (m ∷ ns) h = by (nat_eq m.name x) (clash-none x p ns) h
  where
    by : (b : Bool) → (NoFault (refused (naming x p) (find (clashes (naming x p)) ns)) → is_there x ns ≡ false) → NoFault (refused (naming x p) (if b && true then Some m else find (clashes (naming x p)) ns)) → (b || is_there x ns) ≡ false
    by true f h = absurd h
    by false f h = f h

-- behind what stands first in a scope at least the same is declared
record Behind (before : List Naming) (ys : List Scoped) : Type 0 where
  namings : List Naming
  more : (x : ℕ) → is_there x before ≡ true → is_there x namings ≡ true
  clean : NoFault (clashing namings ys)

behind : (before : List Naming) (xs ys : List Scoped) → NoFault (clashing before (xs ++ ys)) → Behind before ys
behind before [] ys h = record { namings = before; more = λ x e. e; clean = h }
behind before (Names n ∷ xs) ys h =
    let r = behind (before ++ n ∷ []) xs ys (fault-second (refused n (find (clashes n) before)) (clashing (before ++ n ∷ []) (xs ++ ys)) h) in
    record { namings = r.namings; more = λ x e. r.more x (there-more x n before e); clean = r.clean }
behind before (Inside walk ∷ xs) ys h = behind before xs ys (fault-second walk (clashing before (xs ++ ys)) h)

equal-is : (m n : ℕ) → nat_eq m n ≡ true → m ≡ n
equal-is m n e = grind arith

not-is : (b : Bool) → b ≡ false → not b ≡ true
not-is true e = absurd cc
not-is false e = refl

-- of members that are declared behind others
record Differ (before : List Naming) (ms : List code.Member) : Type 0 where
  different : names_differ ms ≡ true
  others : (x : ℕ) → is_there x before ≡ true → list_any (λ (k : code.Member). nat_eq x k.name) ms ≡ false

-- one member more, which may be left out
differ-more : (before : List Naming) (x : ℕ) (p : Place) (ms : List code.Member) (o : Option code.Member) → ((m : code.Member) → o ≡ Some m → m.name ≡ x) → is_there x before ≡ false → Differ (before ++ naming x p ∷ []) ms
    → Differ before (cons_option o ms)
differ-more before x p ms None h new r = record { different = r.different; others = λ y e. r.others y (there-more y (naming x p) before e) }
differ-more before x p ms (Some m) h new r = record {
  different = both (not (list_any (λ (k : code.Member). nat_eq m.name k.name) ms)) (names_differ ms) (not-is (list_any (λ (k : code.Member). nat_eq m.name k.name) ms)
      (subst (λ z. list_any (λ (k : code.Member). nat_eq z k.name) ms ≡ false) (sym (h m refl)) (r.others x (there-last (naming x p) before)))) r.different;
  others = λ y e. other y e (nat_eq y m.name) refl (r.others y (there-more y (naming x p) before e));
}
  where
    other : (y : ℕ) → is_there y before ≡ true → (b : Bool) → nat_eq y m.name ≡ b → list_any (λ (k : code.Member). nat_eq y k.name) ms ≡ false → (b || list_any (λ (k : code.Member). nat_eq y k.name) ms) ≡ false
    other y e true g f = absurd (let z : y ≡ x = equal-is y m.name g ∙ h m refl in let u : true ≡ false = sym (subst (λ y. is_there y before ≡ true) z e) ∙ new in cc)
    other y e false g f = f

then-is : {A B : Type 0} (f : A → Option B) (o : Option A) (y : B) → option_and_then f o ≡ Some y → (x : A) × (o ≡ Some x) × (f x ≡ Some y)
then-is f None y e = absurd cc
then-is f (Some x) y e = (x, refl, e)

map-is : {A B : Type 0} (f : A → B) (o : Option A) (y : B) → option_map f o ≡ Some y → (x : A) × (o ≡ Some x) × (f x ≡ y)
map-is f None y e = absurd cc
map-is f (Some x) y e = (x, refl, some-is e)

module _ (s : Source) (w : World Answer) where
  differ-all : (n : Numbering) (i : Instance) (before : List Naming) (ms : List Member) → NoFault (clashing before (of_members ms)) → Differ before (filter_map (field_member s w n i) ms)
  differ-all n i before [] h = record { different = refl; others = λ x e. refl }
  differ-all n i before (Variable k f ∷ ms) h =
      let x : Naming = naming f.name f.place in
      let more : NoFault (clashing (before ++ x ∷ []) (of_members ms)) = fault-second (refused x (find (clashes x) before)) (clashing (before ++ x ∷ []) (of_members ms)) h in
      let new : is_there f.name before ≡ false = clash-none f.name f.place before (fault-first (refused x (find (clashes x) before)) (clashing (before ++ x ∷ []) (of_members ms)) h) in
      differ-more before f.name f.place (filter_map (field_member s w n i) ms) (field_member s w n i (Variable k f)) (λ m e. let u = map-is _ _ m e in sym (ap (λ (m : code.Member). m.name) u.2)) new (differ-all n i (before ++ x ∷ []) ms more)
  differ-all n i before (Declares k j ∷ ms) h =
      let b = behind before (of_said j.name j.place j.said) (of_members ms) h in
      let r = differ-all n i b.namings ms b.clean in
      record { different = r.different; others = λ x e. r.others x (b.more x e) }

  module _ (clean : AllClean (of_tops s.items)) where
    named-clean : (m : ℕ) (k : Named) → class_at s m ≡ Some k → NoFault (of_class k.class)
    named-clean m k g = by (slice_get s.items m) refl
      where
        by : (o : Option Top) → slice_get s.items m ≡ o → NoFault (of_class k.class)
        by None h = absurd (let z = rw h at g in cc)
        by (Some (OfClass p None c)) h = absurd (let z = rw h at g in cc)
        by (Some (OfClass p (Some x) c)) h = let z = rw h at g in subst (λ (k : Named). NoFault (of_class k.class)) (some-is z) (class-clean s.items m p (Some x) c clean h)
        by (Some (Outside p ps c as_given f)) h = absurd (let z = rw h at g in cc)
        by (Some (Plain i)) h = absurd (let z = rw h at g in cc)

    body-clean : (i : Instance) (b : Body) → body_in s w i ≡ Some b → NoFault (of_class b.class)
    body-clean i b e =
        let u = then-is _ (specials_at s w i.class (place_of s w i.class) (class_at s i.class)).value b e in
        let m : ℕ = chosen_item s u.0 i.class i.args in
        by-option (class_at s m) (λ g. absurd (let z = rw g at u.2 in cc)) (λ k g. let z = rw g at u.2 in subst (λ (b : Body). NoFault (of_class b.class)) (some-is z) (named-clean m k g))

    class-whole : (n : Numbering) (ms : List Met) (i : Instance) (c : code.Class) → class_of s w n ms i ≡ Some c → names_differ c.members ≡ true
    class-whole n ms i c e =
        let u = then-is _ (class_at s i.class) c e in
        let v = map-is _ (body_in s w i) c u.2 in
        subst (λ (c : code.Class). names_differ c.members ≡ true) v.2 (differ-all n i (param_namings v.0.class.params) v.0.class.members (body-clean i v.0 v.1)).different

    all-kept : (o : Option code.Class) (cs : List code.Class) → ((c : code.Class) → o ≡ Some c → names_differ c.members ≡ true) → list_all (λ (c : code.Class). names_differ c.members) cs ≡ true
        → list_all (λ (c : code.Class). names_differ c.members) (cons_option o cs) ≡ true
    all-kept None cs h k = k
    all-kept (Some c) cs h k = both (names_differ c.members) (list_all (λ (c : code.Class). names_differ c.members) cs) (h c refl) k

    classes-whole : (n : Numbering) (ms : List Met) (is : List Instance) → list_all (λ (c : code.Class). names_differ c.members) (filter_map (class_of s w n ms) is) ≡ true
    classes-whole n ms [] = refl
    classes-whole n ms (i ∷ is) = all-kept (class_of s w n ms i) (filter_map (class_of s w n ms) is) (class-whole n ms i) (classes-whole n ms is)

  first-none : {A : Type 0} (a b : Option A) → or_else a b ≡ None → a ≡ None
  first-none None b e = refl
  first-none (Some x) b e = absurd cc

  program-whole : (top : ℕ) (p : code.Plain) → program_in s w top ≡ Made p → is_whole_plain p ≡ true
  program-whole top p e = by (refusal_of (walks s w top)) refl e
    where
      by : (o : Option Refusal) → refusal_of (walks s w top) ≡ o → unless_refused s w o (plain_of s w (staged (walks s w top)).tally.queue) ≡ Made p → is_whole_plain p ≡ true
      by None d e =
          let q = (staged (walks s w top)).tally.queue in
          let clean = all-clean [] (of_tops s.items) (go-clean (twice s) empty (first-none _ _ d)) in
          subst (λ p. is_whole_plain p ≡ true) (made-is e) (classes-whole clean (numbering s w q) (functions_in s w q) (instances q))
      by (Some r) d e = absurd cc

pub what-is-whole : (s : Source) (top : ℕ) (p : code.Plain) → program_of s top ≡ Made p → is_whole_plain p ≡ true
what-is-whole s top p e = program-whole s (outermost s) top p e
