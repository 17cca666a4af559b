-- What declarations add to an index, one behind the other.
use Rattle.std.proofs.Common.{◌≡◌, refl, sym, ap, subst, ◌∙◌, ℕ, zero, suc, Bool, true, false, nat_eq, ◌&&◌, cond, if◌then◌else◌, List, [], ◌∷◌, ◌++◌, map, length, take, drop, take_while, ◌+◌, Option, Some, None, option_map, option_and_then}
use Rattle.std.specs.Option.{option_eq}
use Rattle.std.specs.List.{prefix_len}
use Rattle.std.specs.Map.{lookup}
use Rattle.std.proofs.lemmas.Bool.{eqb-true}
use Rattle.indexmap.specs.IndexMap.{IndexMap, Updates}
use Rattle.scc_base.specs.declared.names.Name.{Name}
use Rattle.scc_base.specs.contracts.names.NamePartialEq.TheImpl as name_equal
use Rattle.scc_templates_spec.specs.Walk.{same_bool}
use Rattle.scc_tree.specs.declared.item.Field.{Field}
use Rattle.scc_tree.specs.declared.item.Item.{Item}
use Rattle.scc_templates_spec.specs.Source.{Member as Member_, Variable, Declares}
use Rattle.scc_templates_spec.specs.SourceView.{top_of, inner_of, merged, stands_before, variables}
use Rattle.scc_plain_spec.specs.Names.{Entry, IsField}
use Rattle.scc_templates_scopes.specs.declared.index.Said.{Said as Kept}
use Rattle.scc_templates_scopes.specs.declared.index.Member.{Member}
use Rattle.scc_templates_scopes.specs.declared.index.Routine.{Routine}
use Rattle.scc_templates_scopes.specs.declared.index.Declared.{Declared}
use Rattle.scc_templates_scopes.specs.declared.index.Index.{Index}
use Rattle.scc_templates_scopes.specs.contracts.index.MemberPartialEq.TheImpl as member_equal
use Rattle.scc_templates_scopes.specs.contracts.index.RoutinePartialEq.TheImpl as routine_equal
use Rattle.scc_templates_scopes.specs.Indexed.{Adds, More, no_more, and_more, or_first, entry_of, says, param_says, first_says, body_says, same_routine, meaning, members, parameter, routine, said}

or_none : {A : Type 0} (o : Option A) → o ≡ or_first o None
or_none None = refl
or_none (Some x) = refl

or_assoc : {A : Type 0} (a b c : Option A) → or_first (or_first a b) c ≡ or_first a (or_first b c)
or_assoc None b c = refl
or_assoc (Some x) b c = refl

then_first : {A : Type 0} (x y z m n : Option A) → y ≡ or_first x m → z ≡ or_first y n → z ≡ or_first x (or_first m n)
then_first x y z m n p q = q ∙ ap (λ o. or_first o n) p ∙ or_assoc x m n

pub adds_then : (a b c : Index) (m n : More) → Adds a b m → Adds b c n → Adds a c (and_more m n)
adds_then a b c m n p q = record {
  names = λ s x. then_first (says a s x) (says b s x) (says c s x) (m.names s x) (n.names s x) (p.names s x) (q.names s x);
  params = λ k x. then_first (param_says a k x) (param_says b k x) (param_says c k x) (m.params k x) (n.params k x) (p.params k x) (q.params k x);
  firsts = λ r. then_first (first_says a r) (first_says b r) (first_says c r) (m.firsts r) (n.firsts r) (p.firsts r) (q.firsts r);
  bodies = λ r. then_first (body_says a r) (body_says b r) (body_says c r) (m.bodies r) (n.bodies r) (p.bodies r) (q.bodies r);
}

-- what is put where nothing stands
put : {A : Type 0} (b : Bool) (old new : Option A) (v : A) → new ≡ cond b (Some v) old → (b ≡ true → old ≡ None) → new ≡ or_first old (if b then Some v else None)
put true old new v e free = e ∙ sym (ap (λ o. or_first o (Some v)) (free refl))
put false old new v e free = e ∙ or_none old

mapped : {A B : Type 0} (f : A → B) (b : Bool) (v : A) (o : Option A) → option_map f (cond b (Some v) o) ≡ cond b (Some (f v)) (option_map f o)
mapped f true v o = refl
mapped f false v o = refl

file_put : {S : Type 0} (old new : IndexMap Name Kept S) (k : Name) (v : Kept) → Updates name_equal.eq-value.it old new k (Some v) → lookup (λ q. nat_eq k.0 q.0) old.entries ≡ None → (n : ℕ)
    → option_map entry_of (lookup (λ q. nat_eq n q.0) new.entries) ≡ or_first (option_map entry_of (lookup (λ q. nat_eq n q.0) old.entries)) (if nat_eq k.0 n then Some (entry_of v) else None)
file_put old new k v u free n = put (nat_eq k.0 n) (option_map entry_of (lookup (λ q. nat_eq n q.0) old.entries)) (option_map entry_of (lookup (λ q. nat_eq n q.0) new.entries)) (entry_of v)
    (ap (option_map entry_of) (u.0 (record { 0 = n })) ∙ mapped entry_of (nat_eq k.0 n) v (lookup (λ q. nat_eq n q.0) old.entries))
    (λ p. ap (option_map entry_of) (subst (λ m. lookup (λ q. nat_eq m q.0) old.entries ≡ None) (eqb-true k.0 n p) free))

abbrev free_at : {X : Type 0} → List (Member × X) → ℕ → ℕ → Type 0
free_at es c n = lookup (λ q. nat_eq c q.class && nat_eq n q.name.0) es ≡ None

moved : {X : Type 0} (es : List (Member × X)) (a b c n : ℕ) → free_at es a b → (nat_eq a c && nat_eq b n) ≡ true → free_at es c n
moved es a b c n free e = by (nat_eq a c) refl (nat_eq b n) refl e
  where
    by : (x : Bool) → nat_eq a c ≡ x → (y : Bool) → nat_eq b n ≡ y → (x && y) ≡ true → free_at es c n
    by true p true q e = subst (λ z. free_at es z n) (eqb-true a c p) (subst (λ z. free_at es a z) (eqb-true b n q) free)
    by true p false q e = absurd cc
    by false p y q e = absurd cc

class_put : {S : Type 0} (old new : IndexMap Member Kept S) (k : Member) (v : Kept) → Updates member_equal.eq-value.it old new k (Some v) → free_at old.entries k.class k.name.0 → (c n : ℕ)
    → option_map entry_of (lookup (λ q. nat_eq c q.class && nat_eq n q.name.0) new.entries)
    ≡ or_first (option_map entry_of (lookup (λ q. nat_eq c q.class && nat_eq n q.name.0) old.entries)) (if nat_eq k.class c && nat_eq k.name.0 n then Some (entry_of v) else None)
class_put old new k v u free c n = put (nat_eq k.class c && nat_eq k.name.0 n) (option_map entry_of (lookup (λ q. nat_eq c q.class && nat_eq n q.name.0) old.entries)) (option_map entry_of (lookup (λ q. nat_eq c q.class && nat_eq n q.name.0) new.entries)) (entry_of v)
    (ap (option_map entry_of) (u.0 (record { class = c; name = record { 0 = n } })) ∙ mapped entry_of (nat_eq k.class c && nat_eq k.name.0 n) v (lookup (λ q. nat_eq c q.class && nat_eq n q.name.0) old.entries))
    (λ p. ap (option_map entry_of) (moved old.entries k.class k.name.0 c n free p))

param_put : {S : Type 0} (old new : IndexMap Member ℕ S) (k : Member) (v : ℕ) → Updates member_equal.eq-value.it old new k (Some v) → free_at old.entries k.class k.name.0 → (c n : ℕ)
    → lookup (λ q. nat_eq c q.class && nat_eq n q.name.0) new.entries ≡ or_first (lookup (λ q. nat_eq c q.class && nat_eq n q.name.0) old.entries) (if nat_eq k.class c && nat_eq k.name.0 n then Some v else None)
param_put old new k v u free c n = put (nat_eq k.class c && nat_eq k.name.0 n) (lookup (λ q. nat_eq c q.class && nat_eq n q.name.0) old.entries) (lookup (λ q. nat_eq c q.class && nat_eq n q.name.0) new.entries) v
    (u.0 (record { class = c; name = record { 0 = n } })) (λ p. moved old.entries k.class k.name.0 c n free p)

framed : {A X : Type 0} (f : X → Option A) (old new : X) → new ≡ old → f new ≡ or_first (f old) None
framed f old new e = ap f e ∙ or_none (f old)

-- the rest of an index
pub record Beside (old new : Index) : Type 0 where
  pub params : new.params ≡ old.params
  pub routines : new.routines ≡ old.routines

beside : (old new : Index) (m : Option ℕ → ℕ → Option Entry) → ((c : Option ℕ) (n : ℕ) → says new c n ≡ or_first (says old c n) (m c n)) → new.params ≡ old.params → new.routines ≡ old.routines
    → Adds old new (record { names = m; params = λ c n. None; firsts = λ r. None; bodies = λ r. None })
beside old new m names p q = record {
  names = names;
  params = λ c n. framed (λ x. lookup (λ k. nat_eq c k.class && nat_eq n k.name.0) x.entries) old.params new.params p;
  firsts = λ r. framed (λ x. option_map (λ d. d.first) (lookup (same_routine r) x.entries)) old.routines new.routines q;
  bodies = λ r. framed (λ x. option_and_then (λ d. d.body) (lookup (same_routine r) x.entries)) old.routines new.routines q;
}

pub means_in_file : (old new : Index) (k : Name) (v : Kept) → Updates name_equal.eq-value.it old.file new.file k (Some v) → lookup (λ q. nat_eq k.0 q.0) old.file.entries ≡ None
    → new.members ≡ old.members → new.params ≡ old.params → new.routines ≡ old.routines → Adds old new (meaning None k.0 (entry_of v))
means_in_file old new k v u free e p q = beside old new (λ d n. if option_eq nat_eq None d && nat_eq k.0 n then Some (entry_of v) else None) by p q
  where
    by : (c : Option ℕ) (n : ℕ) → says new c n ≡ or_first (says old c n) (if option_eq nat_eq None c && nat_eq k.0 n then Some (entry_of v) else None)
    by None n = file_put old.file new.file k v u free n
    by (Some c) n = framed (λ x. option_map entry_of (lookup (λ k. nat_eq c k.class && nat_eq n k.name.0) x.entries)) old.members new.members e

pub means_in_class : (old new : Index) (k : Member) (v : Kept) → Updates member_equal.eq-value.it old.members new.members k (Some v) → free_at old.members.entries k.class k.name.0
    → new.file ≡ old.file → new.params ≡ old.params → new.routines ≡ old.routines → Adds old new (meaning (Some k.class) k.name.0 (entry_of v))
means_in_class old new k v u free e p q = beside old new (λ d n. if option_eq nat_eq (Some k.class) d && nat_eq k.name.0 n then Some (entry_of v) else None) by p q
  where
    by : (c : Option ℕ) (n : ℕ) → says new c n ≡ or_first (says old c n) (if option_eq nat_eq (Some k.class) c && nat_eq k.name.0 n then Some (entry_of v) else None)
    by None n = framed (λ x. option_map entry_of (lookup (λ k. nat_eq n k.0) x.entries)) old.file new.file e
    by (Some c) n = class_put old.members new.members k v u free c n

pub adds_param : (old new : Index) (k : Member) (v : ℕ) → Updates member_equal.eq-value.it old.params new.params k (Some v) → free_at old.params.entries k.class k.name.0
    → new.file ≡ old.file → new.members ≡ old.members → new.routines ≡ old.routines → Adds old new (parameter k.class k.name.0 v)
adds_param old new k v u free e p q = record {
  names = by;
  params = λ c n. param_put old.params new.params k v u free c n;
  firsts = λ r. framed (λ x. option_map (λ d. d.first) (lookup (same_routine r) x.entries)) old.routines new.routines q;
  bodies = λ r. framed (λ x. option_and_then (λ d. d.body) (lookup (same_routine r) x.entries)) old.routines new.routines q;
}
  where
    by : (c : Option ℕ) (n : ℕ) → says new c n ≡ or_first (says old c n) None
    by None n = framed (λ x. option_map entry_of (lookup (λ k. nat_eq n k.0) x.entries)) old.file new.file e
    by (Some c) n = framed (λ x. option_map entry_of (lookup (λ k. nat_eq c k.class && nat_eq n k.name.0) x.entries)) old.members new.members p

-- ---- functions

class_same : (a b : Option ℕ) → option_eq nat_eq a b ≡ true → a ≡ b
class_same None None e = refl
class_same None (Some b) e = absurd cc
class_same (Some a) None e = absurd cc
class_same (Some a) (Some b) e = ap Some (eqb-true a b e)

bool_same : (a b : Bool) → same_bool a b ≡ true → a ≡ b
bool_same true true e = refl
bool_same true false e = absurd cc
bool_same false true e = absurd cc
bool_same false false e = refl

left_of : (b c : Bool) → (b && c) ≡ true → b ≡ true
left_of true c e = refl
left_of false c e = absurd cc

right_of : (b c : Bool) → (b && c) ≡ true → c ≡ true
right_of true c e = e
right_of false c e = absurd cc

routine_same : (r q : Routine) → same_routine r q ≡ true → r ≡ q
routine_same r q e =
    let a : r.class ≡ q.class = class_same r.class q.class (left_of (option_eq nat_eq r.class q.class) (nat_eq r.name.0 q.name.0 && same_bool r.constructor q.constructor) e) in
    let f : (nat_eq r.name.0 q.name.0 && same_bool r.constructor q.constructor) ≡ true = right_of (option_eq nat_eq r.class q.class) (nat_eq r.name.0 q.name.0 && same_bool r.constructor q.constructor) e in
    let b : r.name.0 ≡ q.name.0 = eqb-true r.name.0 q.name.0 (left_of (nat_eq r.name.0 q.name.0) (same_bool r.constructor q.constructor) f) in
    let c : r.constructor ≡ q.constructor = bool_same r.constructor q.constructor (right_of (nat_eq r.name.0 q.name.0) (same_bool r.constructor q.constructor) f) in
    λ i. record { class = a i; name = record { 0 = b i }; constructor = c i }

-- the derived equality is that of the definition
routine_is : (r q : Routine) → routine_equal.eq-value.it r q ≡ same_routine r q
routine_is r q = by r.constructor q.constructor
  where
    by : (a b : Bool) → routine_equal.eq-value.it (record { class = r.class; name = r.name; constructor = a }) (record { class = q.class; name = q.name; constructor = b })
        ≡ (option_eq nat_eq r.class q.class && (nat_eq r.name.0 q.name.0 && same_bool a b))
    by true true = refl
    by true false = refl
    by false true = refl
    by false false = refl

lookup_by : {K X : Type 0} (p q : K → Bool) → ((k : K) → p k ≡ q k) → (es : List (K × X)) → lookup p es ≡ lookup q es
lookup_by p q h [] = refl
lookup_by p q h (e ∷ es) = ap (λ x. cond x (Some e.1) (lookup p es)) (h e.0) ∙ ap (λ x. cond (q e.0) (Some e.1) x) (lookup_by p q h es)

routine_put : {S : Type 0} (old new : IndexMap Routine Declared S) (k : Routine) (d : Declared) → Updates routine_equal.eq-value.it old new k (Some d) → (r : Routine)
    → lookup (same_routine r) new.entries ≡ cond (same_routine k r) (Some d) (lookup (same_routine r) old.entries)
routine_put old new k d u r = sym (lookup_by (routine_equal.eq-value.it r) (same_routine r) (routine_is r) new.entries) ∙ u.0 r ∙ ap (λ b. cond b (Some d) (lookup (routine_equal.eq-value.it r) old.entries)) (routine_is k r)
    ∙ ap (λ o. cond (same_routine k r) (Some d) o) (lookup_by (routine_equal.eq-value.it r) (same_routine r) (routine_is r) old.entries)

found : {A : Type 0} (b : Bool) (old new : Option A) (o : Option A) (v : Option A) → new ≡ cond b o old → (b ≡ true → o ≡ or_first old v) → new ≡ or_first old (if b then v else None)
found true old new o v e h = e ∙ h refl
found false old new o v e h = e ∙ or_none old

chained : {A B : Type 0} (f : A → Option B) (b : Bool) (v : A) (o : Option A) → option_and_then f (cond b (Some v) o) ≡ cond b (f v) (option_and_then f o)
chained f true v o = refl
chained f false v o = refl

pub adds_routine : (old new : Index) (k : Routine) (d : Declared) (n : ℕ) (body : Option ℕ) → Updates routine_equal.eq-value.it old.routines new.routines k (Some d)
    → Some d.first ≡ or_first (first_says old k) (Some n) → d.body ≡ or_first (body_says old k) body
    → new.file ≡ old.file → new.members ≡ old.members → new.params ≡ old.params → Adds old new (routine k n body)
adds_routine old new k d n body u first rest e p q = record {
  names = by;
  params = λ c n. framed (λ x. lookup (λ k. nat_eq c k.class && nat_eq n k.name.0) x.entries) old.params new.params q;
  firsts = λ r. found (same_routine k r) (first_says old r) (first_says new r) (Some d.first) (Some n)
      (ap (option_map (λ d. d.first)) (routine_put old.routines new.routines k d u r) ∙ mapped (λ d. d.first) (same_routine k r) d (lookup (same_routine r) old.routines.entries))
      (λ s. first ∙ ap (λ r. or_first (first_says old r) (Some n)) (routine_same k r s));
  bodies = λ r. found (same_routine k r) (body_says old r) (body_says new r) d.body body
      (ap (option_and_then (λ d. d.body)) (routine_put old.routines new.routines k d u r) ∙ chained (λ d. d.body) (same_routine k r) d (lookup (same_routine r) old.routines.entries))
      (λ s. rest ∙ ap (λ r. or_first (body_says old r) body) (routine_same k r s));
}
  where
    by : (c : Option ℕ) (n : ℕ) → says new c n ≡ or_first (says old c n) None
    by None n = framed (λ x. option_map entry_of (lookup (λ k. nat_eq n k.0) x.entries)) old.file new.file e
    by (Some c) n = framed (λ x. option_map entry_of (lookup (λ k. nat_eq c k.class && nat_eq n k.name.0) x.entries)) old.members new.members p

-- ---- loops

pub adds_nothing : (a : Index) → Adds a a no_more
adds_nothing a = record { names = λ c n. or_none (says a c n); params = λ c n. or_none (param_says a c n); firsts = λ r. or_none (first_says a r); bodies = λ r. or_none (body_says a r) }

-- what is still to be added leads to what has to be
abbrev pub Leads : Index → Index → More → More → Type 0
Leads begun now rest all = (x : Index) → Adds now x rest → Adds begun x all

pub leads_on : (begun now new : Index) (one rest all : More) → Leads begun now (and_more one rest) all → Adds now new one → Leads begun new rest all
leads_on begun now new one rest all leads adds x more = leads x (adds_then now new x one rest adds more)

pub leads_here : (begun : Index) (all : More) → Leads begun begun all all
leads_here begun all x more = more

pub leads_out : (begun now : Index) (all : More) → Leads begun now no_more all → Adds begun now all
leads_out begun now all leads = leads now (adds_nothing now)

-- ---- classes

and_assoc : (a b c : More) → and_more (and_more a b) c ≡ and_more a (and_more b c)
and_assoc a b c = λ i. record {
  names = λ s n. or_assoc (a.names s n) (b.names s n) (c.names s n) i;
  params = λ k n. or_assoc (a.params k n) (b.params k n) (c.params k n) i;
  firsts = λ r. or_assoc (a.firsts r) (b.firsts r) (c.firsts r) i;
  bodies = λ r. or_assoc (a.bodies r) (b.bodies r) (c.bodies r) i;
}

members_join : (c : ℕ) (xs ys : List Member_) → members c (xs ++ ys) ≡ and_more (members c xs) (members c ys)
members_join c [] ys = refl
members_join c (Variable k f ∷ xs) ys = ap (λ m. and_more (meaning (Some c) f.name (IsField k)) m) (members_join c xs ys) ∙ sym (and_assoc (meaning (Some c) f.name (IsField k)) (members c xs) (members c ys))
members_join c (Declares n i ∷ xs) ys = ap (λ m. and_more (said (Some c) n i.name i.said) m) (members_join c xs ys) ∙ sym (and_assoc (said (Some c) n i.name i.said) (members c xs) (members c ys))

take_taken : {A : Type 0} (n : ℕ) (xs : List A) → take (length (take n xs)) xs ≡ take n xs
take_taken zero [] = refl
take_taken zero (x ∷ xs) = refl
take_taken (suc n) [] = refl
take_taken (suc n) (x ∷ xs) = ap (λ ys. x ∷ ys) (take_taken n xs)

taken_while : {A : Type 0} (p : A → Bool) (xs : List A) → take (length (take_while p xs)) xs ≡ take_while p xs
taken_while p xs = take_taken (prefix_len p xs) xs

pub class_step : (begun now mid new : Index) (c n k count : ℕ) (fs before after : List Field) (rest behind : List Item) (i : Item) (all : More)
    → Leads begun now (members c (merged n k fs (map top_of rest))) all → rest ≡ i ∷ behind → count ≡ length (take_while (stands_before n) fs) → before ≡ take count fs → after ≡ drop count fs
    → Adds now mid (members c (variables k before)) → Adds mid new (said (Some c) n (inner_of (top_of i)).name (inner_of (top_of i)).said) → (m l : ℕ) → m ≡ suc n → l ≡ k + count
    → Leads begun new (members c (merged m l after (map top_of behind))) all
class_step begun now mid new c n k count fs before after rest behind i all leads er ec eb ea first second m l em el x more =
    let b : before ≡ take_while (stands_before n) fs = eb ∙ ap (λ z. take z fs) ec ∙ taken_while (stands_before n) fs in
    let a : after ≡ drop (length (take_while (stands_before n) fs)) fs = ea ∙ ap (λ z. drop z fs) ec in
    let e : l ≡ k + length (take_while (stands_before n) fs) = el ∙ ap (λ z. k + z) ec in
    let h : Leads begun now (members c (merged n k fs (top_of i ∷ map top_of behind))) all = subst (λ z. Leads begun now (members c (merged n k fs (map top_of z))) all) er leads in
    let f : Adds now mid (members c (variables k (take_while (stands_before n) fs))) = subst (λ z. Adds now mid (members c (variables k z))) b first in
    let r : Adds new x (members c (merged (suc n) (k + length (take_while (stands_before n) fs)) (drop (length (take_while (stands_before n) fs)) fs) (map top_of behind)))
    = subst (λ z. Adds new x (members c (merged z (k + length (take_while (stands_before n) fs)) (drop (length (take_while (stands_before n) fs)) fs) (map top_of behind)))) em
    (subst (λ z. Adds new x (members c (merged m z (drop (length (take_while (stands_before n) fs)) fs) (map top_of behind)))) e (subst (λ z. Adds new x (members c (merged m l z (map top_of behind)))) a more)) in
    h x (subst (λ z. Adds now x z) (sym (members_join c (variables k (take_while (stands_before n) fs)) (Declares n (inner_of (top_of i)) ∷ merged (suc n) (k + length (take_while (stands_before n) fs)) (drop (length (take_while (stands_before n) fs)) fs) (map top_of behind))))
    (adds_then now mid x (members c (variables k (take_while (stands_before n) fs))) (members c (Declares n (inner_of (top_of i)) ∷ merged (suc n) (k + length (take_while (stands_before n) fs)) (drop (length (take_while (stands_before n) fs)) fs) (map top_of behind))) f
    (adds_then mid new x (said (Some c) n (inner_of (top_of i)).name (inner_of (top_of i)).said) (members c (merged (suc n) (k + length (take_while (stands_before n) fs)) (drop (length (take_while (stands_before n) fs)) fs) (map top_of behind))) second r)))
