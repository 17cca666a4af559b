-- What the declarations of a source add to an empty index is what its definitions say.
use Rattle.std.proofs.Common.{◌≡◌, refl, sym, ap, ◌∙◌, arith, ℕ, zero, suc, ◌+◌, ◌<◌, Bool, true, false, nat_eq, ◌&&◌, cond, if◌then◌else◌, List, [], ◌∷◌, ◌++◌, find, Option, Some, None, option_map, option_and_then, is_some, slice_get}
use Rattle.std.specs.Option.{option_eq}
use Rattle.scc_templates_spec.specs.Source.{Source, Top, OfClass, Outside, Plain, Member, Variable, Declares, Said, Alias, Numbers, Constant, Declared, Other, Function, Enumerator, Param}
use Rattle.scc_plain_spec.specs.Names.{Entry, IsClass, IsAlias, IsNumbers, IsEnumerator, IsConstant, IsFunction, IsField, Naming, Named, naming, if_named, class_at, file_names, function_name as own_name, meaning_in, names_from, names_of, names_of_members, names_of_top}
use Rattle.scc_plain_spec.specs.Names as names
use Rattle.scc_templates_scopes.specs.declared.index.Index.{Index}
use Rattle.scc_templates_scopes.specs.Indexed.{Adds, IsIndex, class_named, enumerators, function_name, meaning, members, named, no_more, or_first, param_says, parameters, params_of, place_in, said, says, top, tops}

or_none : {A : Type 0} (o : Option A) → or_first o None ≡ o
or_none None = refl
or_none (Some x) = refl

both_none : {A : Type 0} (a b : Option A) → a ≡ None → b ≡ None → or_first a b ≡ None
both_none a b p q = ap (λ o. or_first o b) p ∙ q

first_none : {A : Type 0} (a b : Option A) → a ≡ None → or_first a b ≡ b
first_none a b p = ap (λ o. or_first o b) p

last_none : {A : Type 0} (a b : Option A) → b ≡ None → or_first a b ≡ a
last_none a b p = ap (λ o. or_first a o) p ∙ or_none a

-- ---- names, the first of each

in_both : (xs ys : List Naming) (n : ℕ) → meaning_in (xs ++ ys) n ≡ or_first (meaning_in xs n) (meaning_in ys n)
in_both [] ys n = refl
in_both (m ∷ xs) ys n = by (nat_eq m.name n) (in_both xs ys n)
  where
    by : (b : Bool) → meaning_in (xs ++ ys) n ≡ or_first (meaning_in xs n) (meaning_in ys n)
        → option_map (λ m. m.entry) (cond b (Some m) (find (λ m. nat_eq m.name n) (xs ++ ys))) ≡ or_first (option_map (λ m. m.entry) (cond b (Some m) (find (λ m. nat_eq m.name n) xs))) (meaning_in ys n)
    by true h = refl
    by false h = h

one : (c d : Option ℕ) (x n : ℕ) (e : Entry) → option_eq nat_eq c d ≡ true → (meaning c x e).names d n ≡ meaning_in (naming e x ∷ []) n
one c d x n e s = ap (λ b. if b && nat_eq x n then Some e else None) s ∙ by (nat_eq x n)
  where
    by : (b : Bool) → (if b then Some e else None) ≡ option_map (λ m. m.entry) (cond b (Some (naming e x)) None)
    by true = refl
    by false = refl

other : (c d : Option ℕ) (x n : ℕ) (e : Entry) → option_eq nat_eq c d ≡ false → (meaning c x e).names d n ≡ None
other c d x n e s = ap (λ b. if b && nat_eq x n then Some e else None) s

module _ (c d : Option ℕ) (n : ℕ) (s : option_eq nat_eq c d ≡ true) where
  if_is : (x : Option ℕ) (e : Entry) → (named c x e).names d n ≡ meaning_in (if_named x e) n
  if_is None e = refl
  if_is (Some x) e = one c d x n e s

  each_is : (item k : ℕ) (es : List Enumerator) → (enumerators c item k es).names d n ≡ meaning_in (names.enumerators item k es) n
  each_is item k [] = refl
  each_is item k (e ∷ es) = ap (λ o. or_first o ((enumerators c item (suc k) es).names d n)) (one c d e.name n (IsEnumerator item k) s)
      ∙ ap (λ o. or_first (meaning_in (naming (IsEnumerator item k) e.name ∷ []) n) o) (each_is item (suc k) es)
      ∙ sym (in_both (naming (IsEnumerator item k) e.name ∷ []) (names.enumerators item (suc k) es) n)

  function_is : (f : Function) (b : Bool) → f.constructor ≡ b → (function_name c f).names d n ≡ meaning_in (own_name f) n
  function_is f true p = ap (λ b. (if b then no_more else meaning c f.name IsFunction).names d n) p ∙ ap (λ b. meaning_in (if b then [] else naming IsFunction f.name ∷ []) n) (sym p)
  function_is f false p = ap (λ b. (if b then no_more else meaning c f.name IsFunction).names d n) p ∙ one c d f.name n IsFunction s ∙ ap (λ b. meaning_in (if b then [] else naming IsFunction f.name ∷ []) n) (sym p)

  said_is : (k : ℕ) (x : Option ℕ) (i : Said) → (said c k x i).names d n ≡ meaning_in (names_of k x i) n
  said_is k x (Alias t) = if_is x (IsAlias k)
  said_is k x (Numbers all) = ap (λ o. or_first o ((enumerators c k 0 all).names d n)) (if_is x IsNumbers) ∙ ap (λ o. or_first (meaning_in (if_named x IsNumbers) n) o) (each_is k 0 all)
      ∙ sym (in_both (if_named x IsNumbers) (names.enumerators k 0 all) n)
  said_is k x (Constant t e) = if_is x (IsConstant k)
  said_is k x (Declared f) = or_none ((function_name c f).names d n) ∙ function_is f f.constructor refl
  said_is k x Other = refl

module _ (c d : Option ℕ) (n : ℕ) (s : option_eq nat_eq c d ≡ false) where
  if_other : (x : Option ℕ) (e : Entry) → (named c x e).names d n ≡ None
  if_other None e = refl
  if_other (Some x) e = other c d x n e s

  each_other : (item k : ℕ) (es : List Enumerator) → (enumerators c item k es).names d n ≡ None
  each_other item k [] = refl
  each_other item k (e ∷ es) = both_none ((meaning c e.name (IsEnumerator item k)).names d n) ((enumerators c item (suc k) es).names d n) (other c d e.name n (IsEnumerator item k) s) (each_other item (suc k) es)

  function_other : (f : Function) (b : Bool) → f.constructor ≡ b → (function_name c f).names d n ≡ None
  function_other f true p = ap (λ b. (if b then no_more else meaning c f.name IsFunction).names d n) p
  function_other f false p = ap (λ b. (if b then no_more else meaning c f.name IsFunction).names d n) p ∙ other c d f.name n IsFunction s

  said_other : (k : ℕ) (x : Option ℕ) (i : Said) → (said c k x i).names d n ≡ None
  said_other k x (Alias t) = if_other x (IsAlias k)
  said_other k x (Numbers all) = both_none ((named c x IsNumbers).names d n) ((enumerators c k 0 all).names d n) (if_other x IsNumbers) (each_other k 0 all)
  said_other k x (Constant t e) = if_other x (IsConstant k)
  said_other k x (Declared f) = or_none ((function_name c f).names d n) ∙ function_other f f.constructor refl
  said_other k x Other = refl

own_eq : (c : ℕ) → nat_eq c c ≡ true
own_eq c = grind arith

members_are : (c n : ℕ) (ms : List Member) → (members c ms).names (Some c) n ≡ meaning_in (names_of_members ms) n
members_are c n [] = refl
members_are c n (Variable k f ∷ ms) = ap (λ o. or_first o ((members c ms).names (Some c) n)) (one (Some c) (Some c) f.name n (IsField k) (own_eq c))
    ∙ ap (λ o. or_first (meaning_in (naming (IsField k) f.name ∷ []) n) o) (members_are c n ms) ∙ sym (in_both (naming (IsField k) f.name ∷ []) (names_of_members ms) n)
members_are c n (Declares k i ∷ ms) = ap (λ o. or_first o ((members c ms).names (Some c) n)) (said_is (Some c) (Some c) n (own_eq c) k i.name i.said)
    ∙ ap (λ o. or_first (meaning_in (names_of k i.name i.said) n) o) (members_are c n ms) ∙ sym (in_both (names_of k i.name i.said) (names_of_members ms) n)

members_other : (c n : ℕ) (d : Option ℕ) → option_eq nat_eq (Some c) d ≡ false → (ms : List Member) → (members c ms).names d n ≡ None
members_other c n d s [] = refl
members_other c n d s (Variable k f ∷ ms) = both_none ((meaning (Some c) f.name (IsField k)).names d n) ((members c ms).names d n) (other (Some c) d f.name n (IsField k) s) (members_other c n d s ms)
members_other c n d s (Declares k i ∷ ms) = both_none ((said (Some c) k i.name i.said).names d n) ((members c ms).names d n) (said_other (Some c) d n s k i.name i.said) (members_other c n d s ms)

no_names : (c k n : ℕ) (d : Option ℕ) (ps : List Param) → (parameters c k ps).names d n ≡ None
no_names c k n d [] = refl
no_names c k n d (p ∷ ps) = no_names c (suc k) n d ps

-- ---- of the file

class_file : (k n : ℕ) (x : Option ℕ) (special : Bool) (ps : List Param) → (class_named k x special ps).names None n ≡ meaning_in (if special then [] else if_named x (IsClass k)) n
class_file k n None true ps = refl
class_file k n None false ps = refl
class_file k n (Some x) true ps = refl
class_file k n (Some x) false ps = first_none ((parameters k 0 ps).names None n) ((meaning None x (IsClass k)).names None n) (no_names k 0 n None ps) ∙ one None None x n (IsClass k) refl

class_other : (k n c : ℕ) (x : Option ℕ) (special : Bool) (ps : List Param) → (class_named k x special ps).names (Some c) n ≡ None
class_other k n c None special ps = refl
class_other k n c (Some x) true ps = refl
class_other k n c (Some x) false ps = both_none ((parameters k 0 ps).names (Some c) n) ((meaning None x (IsClass k)).names (Some c) n) (no_names k 0 n (Some c) ps) (other None (Some c) x n (IsClass k) refl)

top_file : (k n : ℕ) (t : Top) → (top k t).names None n ≡ meaning_in (names_of_top k t) n
top_file k n (OfClass p x b) = last_none ((class_named k x (is_some b.special) b.params).names None n) ((members k b.members).names None n) (members_other k n None refl b.members) ∙ class_file k n x (is_some b.special) b.params
top_file k n (Outside p ps c as_given f) = no_names k 0 n None ps
top_file k n (Plain i) = said_is None None n refl k i.name i.said

tops_file : (k n : ℕ) (ts : List Top) → (tops k ts).names None n ≡ meaning_in (names_from k ts) n
tops_file k n [] = refl
tops_file k n (t ∷ ts) = ap (λ o. or_first o ((tops (suc k) ts).names None n)) (top_file k n t) ∙ ap (λ o. or_first (meaning_in (names_of_top k t) n) o) (tops_file (suc k) n ts) ∙ sym (in_both (names_of_top k t) (names_from (suc k) ts) n)

-- ---- of class bodies

top_apart : (k n c : ℕ) → nat_eq k c ≡ false → (t : Top) → (top k t).names (Some c) n ≡ None
top_apart k n c s (OfClass p x b) = both_none ((class_named k x (is_some b.special) b.params).names (Some c) n) ((members k b.members).names (Some c) n) (class_other k n c x (is_some b.special) b.params) (members_other k n (Some c) s b.members)
top_apart k n c s (Outside p ps cl as_given f) = no_names k 0 n (Some c) ps
top_apart k n c s (Plain i) = said_other None (Some c) n refl k i.name i.said

apart : (k c : ℕ) → c < k → nat_eq k c ≡ false
apart k c h = grind arith

tops_apart : (k n c : ℕ) → c < k → (ts : List Top) → (tops k ts).names (Some c) n ≡ None
tops_apart k n c h [] = refl
tops_apart k n c h (t ∷ ts) = let l : c < suc k = omega (arith, h) in both_none ((top k t).names (Some c) n) ((tops (suc k) ts).names (Some c) n) (top_apart k n c (apart k c h) t) (tops_apart (suc k) n c l ts)

pub none_some : {A B : Type 0} {a : A} → None ≡ Some a → B
none_some e = absurd cc

pub some_same : {A : Type 0} {a b : A} → Some a ≡ Some b → a ≡ b
some_same {A = A} {a = a} e = ap unwrapped e
  where
    unwrapped : Option A → A
    unwrapped None = a
    unwrapped (Some x) = x

abbrev Members : Top → ℕ → Option Entry
Members (OfClass p x b) n = meaning_in (names_of_members b.members) n
Members (Outside p ps c as_given f) n = None
Members (Plain i) n = None

top_members : (k n : ℕ) (t : Top) → (top k t).names (Some k) n ≡ Members t n
top_members k n (OfClass p x b) = first_none ((class_named k x (is_some b.special) b.params).names (Some k) n) ((members k b.members).names (Some k) n) (class_other k n k x (is_some b.special) b.params) ∙ members_are k n b.members
top_members k n (Outside p ps c as_given f) = no_names k 0 n (Some k) ps
top_members k n (Plain i) = said_other None (Some k) n refl k i.name i.said

below : (k : ℕ) → k < suc k
below k = omega arith

unlike : (k c : ℕ) → nat_eq k (suc c + k) ≡ false
unlike k c = grind arith

nothing : (k : ℕ) → 0 + k ≡ k
nothing k = omega arith

moves : (k c : ℕ) → suc c + k ≡ c + suc k
moves k c = omega arith

tops_members : (k n c : ℕ) (ts : List Top) (t : Top) → slice_get ts c ≡ Some t → (tops k ts).names (Some (c + k)) n ≡ Members t n
tops_members k n c [] t e = none_some e
tops_members k n zero (u ∷ ts) t e = ap (λ z. (tops k (u ∷ ts)).names (Some z) n) (nothing k) ∙ last_none ((top k u).names (Some k) n) ((tops (suc k) ts).names (Some k) n) (tops_apart (suc k) n k (below k) ts) ∙ top_members k n u ∙ ap (λ t. Members t n) (some_same e)
tops_members k n (suc c) (u ∷ ts) t e = first_none ((top k u).names (Some (suc c + k)) n) ((tops (suc k) ts).names (Some (suc c + k)) n) (top_apart k n (suc c + k) (unlike k c) u)
    ∙ ap (λ z. (tops (suc k) ts).names (Some z) n) (moves k c) ∙ tops_members (suc k) n c ts t e

-- ---- parameters

one_param : (c k x n : ℕ) (b : Bool) → nat_eq c c ≡ true → (if nat_eq c c && b then Some k else None) ≡ (if b then Some k else None)
one_param c k x n b s = ap (λ z. if z && b then Some k else None) s

params_are : (c k n : ℕ) (ps : List Param) → (parameters c k ps).params c n ≡ place_in k ps n
params_are c k n [] = refl
params_are c k n (p ∷ ps) = ap (λ o. or_first o ((parameters c (suc k) ps).params c n)) (one_param c k p.name n (nat_eq p.name n) (own_eq c)) ∙ by (nat_eq p.name n) (params_are c (suc k) n ps)
  where
    by : (b : Bool) → (parameters c (suc k) ps).params c n ≡ place_in (suc k) ps n → or_first (if b then Some k else None) ((parameters c (suc k) ps).params c n) ≡ (if b then Some k else place_in (suc k) ps n)
    by true h = refl
    by false h = h

params_other : (c d k n : ℕ) → nat_eq c d ≡ false → (ps : List Param) → (parameters c k ps).params d n ≡ None
params_other c d k n s [] = refl
params_other c d k n s (p ∷ ps) = both_none (if nat_eq c d && nat_eq p.name n then Some k else None) ((parameters c (suc k) ps).params d n) (ap (λ b. if b && nat_eq p.name n then Some k else None) s) (params_other c d (suc k) n s ps)

no_named : (c : Option ℕ) (x : Option ℕ) (e : Entry) (d n : ℕ) → (named c x e).params d n ≡ None
no_named c None e d n = refl
no_named c (Some x) e d n = refl

no_each : (c : Option ℕ) (item k d n : ℕ) (es : List Enumerator) → (enumerators c item k es).params d n ≡ None
no_each c item k d n [] = refl
no_each c item k d n (e ∷ es) = no_each c item (suc k) d n es

no_function : (c : Option ℕ) (f : Function) (d n : ℕ) (b : Bool) → f.constructor ≡ b → (function_name c f).params d n ≡ None
no_function c f d n true p = ap (λ b. (if b then no_more else meaning c f.name IsFunction).params d n) p
no_function c f d n false p = ap (λ b. (if b then no_more else meaning c f.name IsFunction).params d n) p

no_said : (c : Option ℕ) (k : ℕ) (x : Option ℕ) (d n : ℕ) (i : Said) → (said c k x i).params d n ≡ None
no_said c k x d n (Alias t) = no_named c x (IsAlias k) d n
no_said c k x d n (Numbers all) = both_none ((named c x IsNumbers).params d n) ((enumerators c k 0 all).params d n) (no_named c x IsNumbers d n) (no_each c k 0 d n all)
no_said c k x d n (Constant t e) = no_named c x (IsConstant k) d n
no_said c k x d n (Declared f) = or_none ((function_name c f).params d n) ∙ no_function c f d n f.constructor refl
no_said c k x d n Other = refl

no_members : (c d n : ℕ) (ms : List Member) → (members c ms).params d n ≡ None
no_members c d n [] = refl
no_members c d n (Variable k f ∷ ms) = no_members c d n ms
no_members c d n (Declares k i ∷ ms) = both_none ((said (Some c) k i.name i.said).params d n) ((members c ms).params d n) (no_said (Some c) k i.name d n i.said) (no_members c d n ms)

abbrev Own : Option ℕ → Bool → List Param → List Param
Own None b ps = []
Own (Some x) b ps = if b then [] else ps

class_params : (k n : ℕ) (x : Option ℕ) (b : Bool) (ps : List Param) → (class_named k x b ps).params k n ≡ place_in 0 (Own x b ps) n
class_params k n None b ps = refl
class_params k n (Some x) true ps = refl
class_params k n (Some x) false ps = or_none ((parameters k 0 ps).params k n) ∙ params_are k 0 n ps

class_apart : (k d n : ℕ) → nat_eq k d ≡ false → (x : Option ℕ) (b : Bool) (ps : List Param) → (class_named k x b ps).params d n ≡ None
class_apart k d n s None b ps = refl
class_apart k d n s (Some x) true ps = refl
class_apart k d n s (Some x) false ps = or_none ((parameters k 0 ps).params d n) ∙ params_other k d 0 n s ps

top_params : (k n : ℕ) (t : Top) → (top k t).params k n ≡ place_in 0 (params_of t) n
top_params k n (OfClass p None b) = no_members k k n b.members
top_params k n (OfClass p (Some x) b) = last_none ((class_named k (Some x) (is_some b.special) b.params).params k n) ((members k b.members).params k n) (no_members k k n b.members) ∙ class_params k n (Some x) (is_some b.special) b.params
top_params k n (Outside p ps c as_given f) = params_are k 0 n ps
top_params k n (Plain i) = no_said None k i.name k n i.said

params_apart : (k d n : ℕ) → nat_eq k d ≡ false → (t : Top) → (top k t).params d n ≡ None
params_apart k d n s (OfClass p x b) = both_none ((class_named k x (is_some b.special) b.params).params d n) ((members k b.members).params d n) (class_apart k d n s x (is_some b.special) b.params) (no_members k d n b.members)
params_apart k d n s (Outside p ps c as_given f) = params_other k d 0 n s ps
params_apart k d n s (Plain i) = no_said None k i.name d n i.said

params_below : (k n c : ℕ) → c < k → (ts : List Top) → (tops k ts).params c n ≡ None
params_below k n c h [] = refl
params_below k n c h (t ∷ ts) = let l : c < suc k = omega (arith, h) in both_none ((top k t).params c n) ((tops (suc k) ts).params c n) (params_apart k c n (apart k c h) t) (params_below (suc k) n c l ts)

tops_params : (k n c : ℕ) (ts : List Top) (t : Top) → slice_get ts c ≡ Some t → (tops k ts).params (c + k) n ≡ place_in 0 (params_of t) n
tops_params k n c [] t e = none_some e
tops_params k n zero (u ∷ ts) t e = ap (λ z. (tops k (u ∷ ts)).params z n) (nothing k) ∙ last_none ((top k u).params k n) ((tops (suc k) ts).params k n) (params_below (suc k) n k (below k) ts) ∙ top_params k n u ∙ ap (λ t. place_in 0 (params_of t) n) (some_same e)
tops_params k n (suc c) (u ∷ ts) t e = first_none ((top k u).params (suc c + k) n) ((tops (suc k) ts).params (suc c + k) n) (params_apart k (suc c + k) n (unlike k c) u)
    ∙ ap (λ z. (tops (suc k) ts).params z n) (moves k c) ∙ tops_params (suc k) n c ts t e

-- ---- an index of a source

abbrev pub OfTop : Top → Option Named
OfTop (OfClass p None b) = None
OfTop (OfClass p (Some x) b) = Some (record { place = p; name = x; class = b })
OfTop (Outside p ps c as_given f) = None
OfTop (Plain i) = None

plus_none : (c : ℕ) → c + 0 ≡ c
plus_none c = omega arith

class_members : (ts : List Top) (c n : ℕ) (k : Named) (o : Option Top) → slice_get ts c ≡ o → option_and_then OfTop o ≡ Some k → (tops 0 ts).names (Some c) n ≡ meaning_in (names_of_members k.class.members) n
class_members ts c n k None e f = none_some f
class_members ts c n k (Some (OfClass p None b)) e f = none_some f
class_members ts c n k (Some (OfClass p (Some x) b)) e f = ap (λ z. (tops 0 ts).names (Some z) n) (sym (plus_none c)) ∙ tops_members 0 n c ts (OfClass p (Some x) b) e ∙ ap (λ (k : Named). meaning_in (names_of_members k.class.members) n) (some_same f)
class_members ts c n k (Some (Outside p ps d as_given g)) e f = none_some f
class_members ts c n k (Some (Plain i)) e f = none_some f

along : {A B : Type 0} (f : A → Option B) {x y : Option A} → x ≡ y → option_and_then f x ≡ option_and_then f y
along f e = ap (λ o. option_and_then f o) e

pub class_by : (s : Source) (c : ℕ) (o : Option Top) → slice_get s.items c ≡ o → class_at s c ≡ option_and_then OfTop o
class_by s c None e = along _ e
class_by s c (Some (OfClass p None b)) e = along _ e
class_by s c (Some (OfClass p (Some x) b)) e = along _ e
class_by s c (Some (Outside p ps d as_given g)) e = along _ e
class_by s c (Some (Plain i)) e = along _ e

-- a class that is found stands in the source so
pub class_stands : (s : Source) (c : ℕ) (k : Named) → class_at s c ≡ Some k → slice_get s.items c ≡ Some (OfClass k.place (Some k.name) k.class)
class_stands s c k e = by (slice_get s.items c) refl (sym (class_by s c (slice_get s.items c) refl) ∙ e)
  where
    by : (o : Option Top) → slice_get s.items c ≡ o → option_and_then OfTop o ≡ Some k → slice_get s.items c ≡ Some (OfClass k.place (Some k.name) k.class)
    by None p f = none_some f
    by (Some (OfClass q None b)) p f = none_some f
    by (Some (OfClass q (Some x) b)) p f = p ∙ ap (λ (k : Named). Some (OfClass k.place (Some k.name) k.class)) (some_same f)
    by (Some (Outside q ps d as_given g)) p f = none_some f
    by (Some (Plain i)) p f = none_some f

pub index_is : (begun x : Index) (s : Source) → Adds begun x (tops 0 s.items) → ((c : Option ℕ) (n : ℕ) → says begun c n ≡ None) → ((c n : ℕ) → param_says begun c n ≡ None) → IsIndex x s
index_is begun x s adds names params = record {
  file = λ n. adds.names None n ∙ first_none (says begun None n) ((tops 0 s.items).names None n) (names None n) ∙ tops_file 0 n s.items;
  members = λ c n k e. adds.names (Some c) n ∙ first_none (says begun (Some c) n) ((tops 0 s.items).names (Some c) n) (names (Some c) n)
      ∙ class_members s.items c n k (slice_get s.items c) refl (sym (class_by s c (slice_get s.items c) refl) ∙ e);
  params = λ c n t e. adds.params c n ∙ first_none (param_says begun c n) ((tops 0 s.items).params c n) (params c n) ∙ ap (λ z. (tops 0 s.items).params z n) (sym (plus_none c)) ∙ tops_params 0 n c s.items t e;
}
