-- Files that were asked for without a fault: each is cut out of its text, and known by its number.
use Rattle.std.proofs.Common.{◌≡◌, ◌<◌, ℕ, zero, suc, ◌+◌, List, [], ◌∷◌, ◌++◌, length, length-append, Bool, true, false, cond, not, ◌&&◌, ◌||◌, is_none, nat_lt, bytes_eq, Option, Some, None, Result, Ok, Err, slice_get, refl, sym, ap, subst, true≢false, arith}
use Rattle.std.specs.List.{prefix_len}
use Rattle.std.proofs.lemmas.Bool.Decides.{nat_tests}
use Rattle.scc_base.specs.Outside.{Shelf}
use Rattle.scc_base.specs.declared.code.Code.{Code}
use Rattle.scc_base.specs.declared.code.Code.TheVariants as code
use Rattle.scc_base.specs.declared.refusal.Place.{Place}
use Rattle.scc_tokens.specs.Files.{Asked, asked, asked_by, read_by, lexed_by, number_of, names_read, file_of}
use Rattle.scc_tokens_directives.specs.Steps.{Stopped, Refuses}
use Rattle.scc_tokens.specs.Walk.{Full, file_included, admitted, admitted_by, admitted_asked, is_once, text_asked, text_if, number_asked}
use Rattle.scc_tokens_directives.specs.declared.directive.Words.{Words}
use Rattle.scc_tokens_directives.specs.declared.file.File.{File}
use Rattle.scc_tokens_directives.specs.declared.file.Source.{Source}
use Rattle.scc_tokens.specs.declared.walk.Joining.{Joining}
use Rattle.scc_tokens_laws.proofs.Tidy.{Good, file_good}

pub record Ready (w : Words) (a : Asked) : Type 0 where
  pub even : length a.known ≡ length a.sources
  pub good : (i : ℕ) (x : File) → slice_get a.known i ≡ Some x → Good w x

pub record Found {A : Type 0} (xs : List A) (i : ℕ) : Type 0 where
  pub item : A
  pub is : slice_get xs i ≡ Some item

pub get_some : {A : Type 0} (xs : List A) (i : ℕ) → i < length xs → Found xs i
get_some [] i h = absurd (omega arith)
get_some (x ∷ xs) zero h = record { item = x; is = refl }
get_some (x ∷ xs) (suc i) h = let r = get_some xs i (omega arith) in record { item = r.item; is = r.is }

good_more : (w : Words) (xs : List File) (y : File) → ((i : ℕ) (x : File) → slice_get xs i ≡ Some x → Good w x) → Good w y → (i : ℕ) (x : File) → slice_get (xs ++ y ∷ []) i ≡ Some x → Good w x
good_more w [] y h g zero x e = let same : y ≡ x = cc in subst (Good w) same g
good_more w [] y h g (suc i) x e = cc
good_more w (z ∷ zs) y h g zero x e = h zero x e
good_more w (z ∷ zs) y h g (suc i) x e = good_more w zs y (λ j k m. h (suc j) k m) g i x e

abbrev pair_of : Asked → ℕ → Asked × Result ℕ Stopped
pair_of a i = (a, Ok i)

abbrev number_of_pair : Asked × Result ℕ Stopped → ℕ
number_of_pair (a, Ok i) = i
number_of_pair (a, Err h) = 0

number_same : (a b : Asked) (i j : ℕ) → pair_of a i ≡ pair_of b j → i ≡ j
number_same a b i j e = ap number_of_pair e

no_ok : {A : Type 0} (h : Stopped) (x : A) → ◌≡◌ {A = Result A Stopped} (Err h) (Ok x) → ⊥
no_ok h x e = cc

same_ok : {A : Type 0} (x y : A) → ◌≡◌ {A = Result A Stopped} (Ok x) (Ok y) → x ≡ y
same_ok x y e = cc

pub record AskedReady (w : Words) (b : Asked) (n : ℕ) : Type 0 where
  pub ready : Ready w b
  pub within : n < length b.known

pub asked_ready : (shelf : Shelf) (w : Words) (name : List ℕ) (a b : Asked) (n : ℕ) → asked shelf w name a ≡ (b, Ok n) → Ready w a → AskedReady w b n
asked_ready shelf w name a b n e r = known (nat_lt (prefix_len (λ (s : Source). not (bytes_eq s.name name)) a.sources) (length a.sources)) refl e
  where
    count : ℕ
    count = prefix_len (λ (s : Source). not (bytes_eq s.name name)) a.sources

    cut : (bytes : List ℕ) (x : Result File (Code × Place)) → file_of (names_read a.names bytes) w (length a.sources) bytes ≡ x
        → lexed_by (record { known = a.known; sources = a.sources ++ record { name = name; bytes = bytes } ∷ []; names = names_read a.names bytes }) (length a.sources) x ≡ (b, Ok n) → AskedReady w b n
    cut bytes (Err y) f e = absurd (no_ok _ n (ap (λ (z : Asked × Result ℕ Stopped). z.1) e))
    cut bytes (Ok y) f e =
        let c : Asked = record { known = a.known ++ y ∷ []; sources = a.sources ++ record { name = name; bytes = bytes } ∷ []; names = names_read a.names bytes } in
        let p : Asked × Result ℕ Stopped = (c, Ok (length a.sources)) in
        let q : Asked × Result ℕ Stopped = (b, Ok n) in
        let same : p ≡ q = e in
        let first : c ≡ b = ap (λ (z : Asked × Result ℕ Stopped). z.0) same in
        let number : length a.sources ≡ n = number_same _ _ _ _ same in
        let even = r.even in
        let more = length-append a.known (y ∷ []) in
        let more2 = length-append a.sources (record { name = name; bytes = bytes } ∷ []) in
        subst (λ z. AskedReady w z n) first (record {
          ready = record { even = omega arith; good = good_more w a.known y r.good (file_good (names_read a.names bytes) w (length a.sources) bytes y f) };
          within = omega arith;
        })

    held : (o : Option (List ℕ)) → read_by shelf w name a o ≡ (b, Ok n) → AskedReady w b n
    held None e = absurd (no_ok _ n (ap (λ (z : Asked × Result ℕ Stopped). z.1) e))
    held (Some bytes) e = cut bytes (file_of (names_read a.names bytes) w (length a.sources) bytes) refl e

    known : (v : Bool) → nat_lt count (length a.sources) ≡ v → asked_by shelf w name a (cond v (Some count) None) ≡ (b, Ok n) → AskedReady w b n
    known true g e =
        let p : Asked × Result ℕ Stopped = (a, Ok count) in
        let q : Asked × Result ℕ Stopped = (b, Ok n) in
        let same : p ≡ q = e in
        let first : a ≡ b = ap (λ (z : Asked × Result ℕ Stopped). z.0) same in
        let number : count ≡ n = number_same _ _ _ _ same in
        let below : count < length a.sources = grind (arith, nat_tests) in
        let even = r.even in
        subst (λ z. AskedReady w z n) first (record { ready = r; within = omega arith })
    known false g e = held (shelf name) e

pub record IncludedReady (w : Words) (below : ℕ) (g : Full) (o : Option ℕ) : Type 0 where
  pub ready : Ready w g.asked
  pub inside : (n : ℕ) → o ≡ Some n → (n < length g.asked.known) × (0 < below)

-- only where a level is left is a file included
admitted_deep : (number : Option ℕ) (files below : ℕ) (hash : Place) (s s' : Joining) → admitted_by number files below hash s ≡ (s', Ok true) → 0 < below
admitted_deep number files zero hash s s' e = by (is_once s.once number) (not (nat_lt s.includes 4096) || (is_none number && not (nat_lt files 64))) refl refl e
  where
    by : (o m : Bool) → is_once s.once number ≡ o → (not (nat_lt s.includes 4096) || (is_none number && not (nat_lt files 64))) ≡ m
        → ◌≡◌ {A = Joining × Result Bool Stopped} (cond (not o && true) (s, Err (Refuses code.IncludeDepth hash)) (cond m (s, Err (Refuses code.TooManyFiles hash)) (record s { includes = s.includes + 1 }, Ok (not o)))) (s', Ok true) → 0 < 0
    by false m f g e = absurd (no_ok _ true (ap (λ (z : Joining × Result Bool Stopped). z.1) e))
    by true true f g e = absurd (no_ok _ true (ap (λ (z : Joining × Result Bool Stopped). z.1) e))
    by true false f g e = absurd (true≢false (sym (same_ok false true (ap (λ (z : Joining × Result Bool Stopped). z.1) e))))
admitted_deep number files (suc below) hash s s' e = omega arith

pub included_ready : (shelf : Shelf) (w : Words) (below : ℕ) (hash : Place) (name : List ℕ) (f g : Full) (o : Option ℕ) → file_included shelf w below hash name f ≡ (g, Ok o) → Ready w f.asked → IncludedReady w below g o
included_ready shelf w below hash name f g o e r = by (admitted f.asked.sources below hash name f.state) refl e
  where
    none : (st : Joining) → ◌≡◌ {A = Full × Result (Option ℕ) Stopped} (record { state = st; asked = f.asked }, Ok None) (g, Ok o) → IncludedReady w below g o
    none st e =
        let first : record { state = st; asked = f.asked } ≡ g = ap (λ (z : Full × Result (Option ℕ) Stopped). z.0) e in
        let second : None ≡ o = same_ok None o (ap (λ (z : Full × Result (Option ℕ) Stopped). z.1) e) in
        subst (λ z. IncludedReady w below z o) first (subst (λ p. IncludedReady w below (record { state = st; asked = f.asked }) p) second (record { ready = r; inside = λ n h. cc }))

    number : (st : Joining) (m : List ℕ) (p : Asked × Result ℕ Stopped) → 0 < below → asked shelf w m f.asked ≡ p → number_asked (record { state = st; asked = f.asked }) p ≡ (g, Ok o) → IncludedReady w below g o
    number st m (a, Err h) deep q e = absurd (no_ok _ o (ap (λ (z : Full × Result (Option ℕ) Stopped). z.1) e))
    number st m (a, Ok n) deep q e =
        let first : record { state = st; asked = a } ≡ g = ap (λ (z : Full × Result (Option ℕ) Stopped). z.0) e in
        let second : Some n ≡ o = same_ok (Some n) o (ap (λ (z : Full × Result (Option ℕ) Stopped). z.1) e) in
        let x = asked_ready shelf w m f.asked a n q r in
        subst (λ z. IncludedReady w below z o) first (subst (λ p. IncludedReady w below (record { state = st; asked = a }) p) second
        (record { ready = x.ready; inside = λ k h. (let same : n ≡ k = cc in subst (λ j. j < length a.known) same x.within, deep) }))

    text : (st : Joining) (m : Option (List ℕ)) → 0 < below → text_asked shelf w hash (record { state = st; asked = f.asked }) m ≡ (g, Ok o) → IncludedReady w below g o
    text st None deep e = absurd (no_ok _ o (ap (λ (z : Full × Result (Option ℕ) Stopped). z.1) e))
    text st (Some m) deep e = number st m (asked shelf w m f.asked) deep refl e

    by : (p : Joining × Result Bool Stopped) → admitted f.asked.sources below hash name f.state ≡ p → admitted_asked shelf w hash name (record { state = p.0; asked = f.asked }) p.1 ≡ (g, Ok o) → IncludedReady w below g o
    by (st, Err h) q e = absurd (no_ok _ o (ap (λ (z : Full × Result (Option ℕ) Stopped). z.1) e))
    by (st, Ok false) q e = none st e
    by (st, Ok true) q e = text st (text_if name) (admitted_deep (number_of f.asked.sources name) (length f.asked.sources) below hash f.state st q) e
