-- Shared variables by lists of what is named.
use Rattle.std.proofs.Common.{◌≡◌, inl, inr, refl, sym, ap, ◌∙◌, subst, ◌≤◌, arith, ℕ, suc, Bool, true, false, ◌&&◌, ◌||◌, nat_eq, cond, List, [], ◌∷◌, ◌++◌, map, Option, Some, None, option_map, unwrap_or}
use Rattle.std.specs.Prelude.{flat_map, filter}
use Rattle.std.specs.List.{list_any}
use Rattle.std.proofs.lemmas.Bool.{eq-eqb, ne_eqb}
use Rattle.std.proofs.lemmas.List.{append-nil}
use Rattle.std.proofs.lemmas.List.Folds.{list_any-append, flat_map-map}
use Rattle.std.proofs.lemmas.Grind.{flat_map-append}
use Rattle.scc_base.specs.declared.refusal.Place.{Place}
use Rattle.scc_base.specs.declared.refusal.Refusal.{Refusal}
use Rattle.scc_base.specs.declared.code.Code.TheVariants as reason
use Rattle.scc_core_spec.specs.Clashes.{all_writes, both_name, clash_of, first_clash, live_acts, names_of, shared_variable}
use Rattle.scc_core_spec.specs.First.{or_else, first_of, when, refused_beside}
use Rattle.scc_core_spec.specs.Kept.{OneOf}
use Rattle.scc_core_spec.specs.Program.{Program, is_variable}
use Rattle.scc_core_spec.specs.Static.{Cells}
use Rattle.scc_core_spec.specs.Term.{Left, Pick}
use Rattle.scc_core_spec.specs.Uses.{Use, Act, among, cells_of, has_sort}
use Rattle.scc_rules_laws.specs.Found.{all_put, first_sharer, names_one, same_statement, shared_from, shared_in, sharing_by}
use Rattle.scc_rules_laws.specs.Seen.{Seen, AreSeen, AreThinned, IsThinned, put_at, read_at, seen_at, seen_from}
use Rattle.scc_rules_laws.proofs.Firsts.{first_same, first_told, when_told}
use Rattle.scc_rules_laws.proofs.Names.{meets, one_sharer, put_same}
use Rattle.scc_rules_laws.proofs.Thinned.{Absorbs, IsTested, thin_any}
use Rattle.scc_rules_laws.proofs.Writers.{more}

-- ---- lists of marks

abbrev flat : List Seen → List ℕ
flat ss = flat_map (λ s. s.cells) ss

abbrev onto : List Seen → List Seen → List Seen
onto [] before = before
onto (s ∷ ss) before = onto ss (s ∷ before)

record Parts (before all behind thin : List Seen) : Type 0 where
  first : List Seen
  second : List Seen
  is : thin ≡ first ++ second
  front : IsThinned before all first
  back : IsThinned (onto first before) behind second

parted : (before all behind thin : List Seen) → IsThinned before (all ++ behind) thin → Parts before all behind thin
parted before [] behind thin h = record { first = []; second = thin; is = refl; front = refl; back = h }
parted before (s ∷ all) behind thin (inl k) =
    let x = parted (s ∷ before) all behind k.0 k.2 in
    record { first = s ∷ x.first; second = x.second; is = k.1 ∙ ap (λ ss. s ∷ ss) x.is; front = inl (x.first, refl, x.front); back = x.back }
parted before (s ∷ all) behind thin (inr k) =
    let x = parted before all behind thin k.1 in record { first = x.first; second = x.second; is = x.is; front = inr (k.0, x.front); back = x.back }

-- what holds of each mark of a list holds of each that is left
abbrev Each : (Seen → Type 0) → List Seen → Type 0
Each p [] = Unit {0}
Each p (s ∷ ss) = p s × Each p ss

each_left : (p : Seen → Type 0) (before all thin : List Seen) → IsThinned before all thin → Each p all → Each p thin
each_left p before [] thin is e = subst (Each p) (sym is) tt
each_left p before (s ∷ all) thin (inl k) e = subst (Each p) (sym k.1) (e.0, each_left p (s ∷ before) all k.0 k.2 e.1)
each_left p before (s ∷ all) thin (inr k) e = each_left p before all thin k.1 e.1

each_both : (p : Seen → Type 0) (xs ys : List Seen) → Each p xs → Each p ys → Each p (xs ++ ys)
each_both p [] ys a b = b
each_both p (x ∷ xs) ys a b = (a.0, each_both p xs ys a.1 b)

abbrev IsOf : ℕ → Place → Seen → Type 0
IsOf n p s = (s.number ≡ n) × (s.statement ≡ p)

abbrev IsFrom : ℕ → Seen → Type 0
IsFrom n s = n ≤ s.number

reads_are : (p : Seen → Type 0) (cs : Cells) (n : ℕ) (at : Place) → ((u : Use) → p (read_at cs n at u)) → (us : List Use) → Each p (map (read_at cs n at) us)
reads_are p cs n at h [] = tt
reads_are p cs n at h (u ∷ us) = (h u, reads_are p cs n at h us)

puts_are : (cs : Cells) (n : ℕ) (at : Place) (w : Option (Left × Pick)) → Each (IsOf n at) (put_at cs n at w)
puts_are cs n at None = tt
puts_are cs n at (Some w) = ((refl, refl), tt)

act_is : (cs : Cells) (n : ℕ) (a : Act) → Each (IsOf n a.place) (seen_at cs n a)
act_is cs n a = each_both (IsOf n a.place) (map (read_at cs n a.place) a.reads) (put_at cs n a.place a.writes) (reads_are (IsOf n a.place) cs n a.place (λ u. (refl, refl)) a.reads) (puts_are cs n a.place a.writes)

each_so : (p q : Seen → Type 0) → ((s : Seen) → p s → q s) → (ss : List Seen) → Each p ss → Each q ss
each_so p q h [] e = tt
each_so p q h (s ∷ ss) e = (h s e.0, each_so p q h ss e.1)

least_of : (m n k : ℕ) → m ≤ n → k ≡ n → m ≤ k
least_of m n k h e = omega arith

rest_from : (cs : Cells) (m n : ℕ) (said : List Act) → m ≤ n → Each (IsFrom m) (seen_from cs n said)
rest_from cs m n [] h = tt
rest_from cs m n (a ∷ said) h =
    each_both (IsFrom m) (seen_at cs n a) (seen_from cs (suc n) said) (each_so (IsOf n a.place) (IsFrom m) (λ s e. least_of m n s.number h e.0) (seen_at cs n a) (act_is cs n a))
    (rest_from cs m (suc n) said (omega arith))

-- of the marks of one statement, and of later ones, the first are all that it names
same_here : (n : ℕ) (s : Seen) (ss : List Seen) → nat_eq s.number n ≡ true → same_statement n (s ∷ ss) ≡ s.cells ++ same_statement n ss
same_here n s ss e = ap (λ b. flat (cond b (s ∷ filter (λ t. nat_eq t.number n) ss) (filter (λ t. nat_eq t.number n) ss))) e

same_next : (n : ℕ) (s : Seen) (ss : List Seen) → nat_eq s.number n ≡ false → same_statement n (s ∷ ss) ≡ same_statement n ss
same_next n s ss e = ap (λ b. flat (cond b (s ∷ filter (λ t. nat_eq t.number n) ss) (filter (λ t. nat_eq t.number n) ss))) e

later_none : (n : ℕ) (ss : List Seen) → Each (IsFrom (suc n)) ss → same_statement n ss ≡ []
later_none n [] e = refl
later_none n (s ∷ ss) e = same_next n s ss (ne_eqb s.number n (λ is. above s.number is e.0)) ∙ later_none n ss e.1
  where
    above : (k : ℕ) → k ≡ n → suc n ≤ k → ⊥
    above k is h = omega arith

same_all : (n : ℕ) (p : Place) (xs ys : List Seen) → Each (IsOf n p) xs → Each (IsFrom (suc n)) ys → same_statement n (xs ++ ys) ≡ flat xs
same_all n p [] ys e f = later_none n ys f
same_all n p (x ∷ xs) ys e f = same_here n x (xs ++ ys) (eq-eqb x.number n e.0.0) ∙ ap (λ zs. x.cells ++ zs) (same_all n p xs ys e.1 f)

-- ---- what a statement names

flat_reads : (cs : Cells) (n : ℕ) (at : Place) (us : List Use) → flat (map (read_at cs n at) us) ≡ flat_map (λ u. cells_of cs u.left) us
flat_reads cs n at us = flat_map-map (λ s. s.cells) (read_at cs n at) us

flat_puts : (cs : Cells) (n : ℕ) (at : Place) (w : Option (Left × Pick)) → flat (put_at cs n at w) ≡ unwrap_or (option_map (λ y. cells_of cs y.0) w) []
flat_puts cs n at None = refl
flat_puts cs n at (Some w) = append-nil (cells_of cs w.0)

flat_act : (cs : Cells) (n : ℕ) (a : Act) → flat (seen_at cs n a) ≡ names_of cs a
flat_act cs n a =
    flat_map-append (λ s. s.cells) (map (read_at cs n a.place) a.reads) (put_at cs n a.place a.writes) ∙ (λ i. flat_reads cs n a.place a.reads i ++ flat_puts cs n a.place a.writes i)

-- ---- walks whose every question is told alike

same_in : {A B : Type 0} (f g : A → Option B) (xs : List A) → ((x : A) → OneOf x xs → f x ≡ g x) → first_of f xs ≡ first_of g xs
same_in f g [] h = refl
same_in f g (x ∷ xs) h = λ i. or_else (h x (inl refl) i) (same_in f g xs (λ y o. h y (inr o)) i)

none_in : {A B : Type 0} (f : A → Option B) (xs : List A) → first_of f xs ≡ None → (x : A) → OneOf x xs → f x ≡ None
none_in f [] h x o = absurd o
none_in f (y ∷ ys) h x (inl e) = ap f e ∙ by (f y) h
  where
    by : (o : Option _) → or_else o (first_of f ys) ≡ None → o ≡ None
    by None h = refl
    by (Some z) h = absurd cc
none_in f (y ∷ ys) h x (inr o) = none_in f ys (by (f y) h) x o
  where
    by : (o : Option _) → or_else o (first_of f ys) ≡ None → first_of f ys ≡ None
    by None h = h
    by (Some z) h = absurd cc

all_none : {A B : Type 0} (f : A → Option B) (xs : List A) → ((x : A) → OneOf x xs → f x ≡ None) → first_of f xs ≡ None
all_none f [] h = refl
all_none f (x ∷ xs) h = ap (λ o. or_else o (first_of f xs)) (h x (inl refl)) ∙ all_none f xs (λ y o. h y (inr o))

when_false : {A : Type 0} (b : Bool) (x : A) → when b x ≡ None → b ≡ false
when_false true x h = absurd cc
when_false false x h = refl

or_left : (a b : Bool) → (a || b) ≡ false → a ≡ false
or_left true b h = absurd cc
or_left false b h = refl

or_right : (a b : Bool) → (a || b) ≡ false → b ≡ false
or_right true b h = absurd cc
or_right false b h = h

module _ (cs : Cells) (own : List ℕ) (before : List (List Seen)) where
  abbrev sharer : List ℕ → Option Place
  sharer xs = first_sharer cs own before xs

  -- whether one of these variables is named there, and one of the two processes writes it
  abbrev meet : List Seen → Seen → List ℕ → Bool
  meet e t xs = list_any (λ x. has_sort is_variable cs x && (among x t.cells && (among x own || among x (all_put e)))) xs

  meet_join : (e : List Seen) (t : Seen) (xs ys : List ℕ) → meet e t (xs ++ ys) ≡ (meet e t xs || meet e t ys)
  meet_join e t xs ys = list_any-append (λ x. has_sort is_variable cs x && (among x t.cells && (among x own || among x (all_put e)))) xs ys

  abbrev AreSame : List ℕ → List ℕ → Type 0
  AreSame xs ys = (e : List Seen) → OneOf e before → (t : Seen) → OneOf t e → meet e t xs ≡ meet e t ys

  abbrev IsQuiet : List ℕ → Type 0
  IsQuiet xs = (e : List Seen) → OneOf e before → (t : Seen) → OneOf t e → meet e t xs ≡ false

  same_sharer : (xs ys : List ℕ) → AreSame xs ys → sharer xs ≡ sharer ys
  same_sharer xs ys h = same_in _ _ before (λ e o. same_in _ _ e (λ t u. ap (λ b. when b t.statement) (h e o t u)))

  quiet_of : (xs : List ℕ) → sharer xs ≡ None → IsQuiet xs
  quiet_of xs h = λ e o t u. when_false (meet e t xs) t.statement (none_in (names_one cs own (all_put e) xs) e (none_in (λ d. first_of (names_one cs own (all_put d) xs) d) before h e o) t u)

  none_of : (xs : List ℕ) → IsQuiet xs → sharer xs ≡ None
  none_of xs q = all_none _ before (λ e o. all_none _ e (λ t u. ap (λ b. when b t.statement) (q e o t u)))

  quiet_left : (xs ys : List ℕ) → IsQuiet (xs ++ ys) → IsQuiet xs
  quiet_left xs ys q = λ e o t u. or_left (meet e t xs) (meet e t ys) (sym (meet_join e t xs ys) ∙ q e o t u)

  quiet_right : (xs ys : List ℕ) → IsQuiet (xs ++ ys) → IsQuiet ys
  quiet_right xs ys q = λ e o t u. or_right (meet e t xs) (meet e t ys) (sym (meet_join e t xs ys) ∙ q e o t u)

  behind_quiet : (xs ys : List ℕ) → IsQuiet xs → AreSame (xs ++ ys) ys
  behind_quiet xs ys q = λ e o t u. meet_join e t xs ys ∙ ap (λ b. b || meet e t ys) (q e o t u)

  abbrev says : Place → List ℕ → Option Refusal
  says p xs = option_map (refused_beside reason.SharedVariable p) (sharer xs)

  some_stays : (p : Place) (xs ys : List ℕ) (at : Place) (a b : Option Refusal) → sharer xs ≡ Some at → or_else (says p (xs ++ ys)) a ≡ or_else (says p (xs ++ ys)) b
  some_stays p xs ys at a b is = by (sharer (xs ++ ys)) refl
    where
      by : (o : Option Place) → sharer (xs ++ ys) ≡ o → or_else (option_map (refused_beside reason.SharedVariable p) o) a ≡ or_else (option_map (refused_beside reason.SharedVariable p) o) b
      by (Some z) h = refl
      by None h = let e = sym is ∙ none_of xs (quiet_left xs ys (quiet_of (xs ++ ys) h)) in absurd cc

  -- the marks of one statement, and what is behind
  statement : (n : ℕ) (p : Place) (xs ys : List Seen) → Each (IsOf n p) xs → Each (IsFrom (suc n)) ys → shared_from cs own before (xs ++ ys) ≡ or_else (says p (flat xs)) (shared_from cs own before ys)
  statement n p [] ys e f = ap (λ o. or_else (option_map (refused_beside reason.SharedVariable p) o) (shared_from cs own before ys)) (sym (none_of [] (λ d o t u. refl)))
  statement n p (s ∷ xs) ys e f = by (sharer s.cells) refl (statement n p xs ys e.1 f)
    where
      all : s.cells ++ same_statement s.number (xs ++ ys) ≡ s.cells ++ flat xs
      all = ap (λ zs. s.cells ++ zs) (ap (λ k. same_statement k (xs ++ ys)) e.0.0 ∙ same_all n p xs ys e.1 f)

      by : (o : Option Place) → sharer s.cells ≡ o → shared_from cs own before (xs ++ ys) ≡ or_else (says p (flat xs)) (shared_from cs own before ys)
          → or_else (sharing_by (sharer s.cells) (says s.statement (s.cells ++ same_statement s.number (xs ++ ys)))) (shared_from cs own before (xs ++ ys))
          ≡ or_else (says p (s.cells ++ flat xs)) (shared_from cs own before ys)
      by None is h =
          ap (λ o. or_else (sharing_by o (says s.statement (s.cells ++ same_statement s.number (xs ++ ys)))) (shared_from cs own before (xs ++ ys))) is ∙ h
          ∙ ap (λ o. or_else (option_map (refused_beside reason.SharedVariable p) o) (shared_from cs own before ys)) (sym (same_sharer (s.cells ++ flat xs) (flat xs) (behind_quiet s.cells (flat xs) (quiet_of s.cells is))))
      by (Some at) is h =
          ap (λ o. or_else (sharing_by o (says s.statement (s.cells ++ same_statement s.number (xs ++ ys)))) (shared_from cs own before (xs ++ ys))) is
          ∙ (λ i. or_else (says (e.0.1 i) (all i)) (shared_from cs own before (xs ++ ys)))
          ∙ some_stays p s.cells (flat xs) at (shared_from cs own before (xs ++ ys)) (shared_from cs own before ys) is

  -- ---- the list that is left tells the same

  abbrev Quiets : List Seen → Type 0
  Quiets ss = Each (λ s. IsQuiet s.cells) ss

  tested : (e : List Seen) (t : Seen) → IsTested (λ s. meet e t s.cells)
  tested e t = record { blank = λ s is. ap (meet e t) is; alike = λ s u is h. ap (meet e t) is }

  absorbs : (e : List Seen) (t : Seen) → OneOf e before → OneOf t e → (ss : List Seen) → Quiets ss → Absorbs (λ s. meet e t s.cells) (tested e t) false ss
  absorbs e t o u [] q = tt
  absorbs e t o u (s ∷ ss) q = (q.0 e o t u, absorbs e t o u ss q.1)

  meet_flat : (e : List Seen) (t : Seen) (ss : List Seen) → meet e t (flat ss) ≡ list_any (λ s. meet e t s.cells) ss
  meet_flat e t [] = refl
  meet_flat e t (s ∷ ss) = meet_join e t s.cells (flat ss) ∙ ap (λ b. meet e t s.cells || b) (meet_flat e t ss)

  same_left : (known all thin : List Seen) → Quiets known → IsThinned known all thin → AreSame (flat all) (flat thin)
  same_left known all thin q h = λ e o t u.
      meet_flat e t all ∙ thin_any (λ s. meet e t s.cells) (tested e t) false known all thin h (absorbs e t o u known q) ∙ sym (meet_flat e t thin)

  quiet_onto : (xs known : List Seen) → IsQuiet (flat xs) → Quiets known → Quiets (onto xs known)
  quiet_onto [] known q k = k
  quiet_onto (x ∷ xs) known q k = quiet_onto xs (x ∷ known) (quiet_right x.cells (flat xs) q) (quiet_left x.cells (flat xs) q, k)

  statements : (n : ℕ) (said : List Act) (known thin : List Seen) → Quiets known → IsThinned known (seen_from cs n said) thin → first_of (λ a. says a.place (names_of cs a)) said ≡ shared_from cs own before thin
  statements n [] known thin q h = ap (shared_from cs own before) (sym h)
  statements n (a ∷ said) known thin q h =
      let x = parted known (seen_at cs n a) (seen_from cs (suc n) said) thin h in
      let names : sharer (names_of cs a) ≡ sharer (flat x.first)
      = ap sharer (sym (flat_act cs n a)) ∙ same_sharer (flat (seen_at cs n a)) (flat x.first) (same_left known (seen_at cs n a) x.first q x.front) in
      let here = statement n a.place x.first x.second (each_left (IsOf n a.place) known (seen_at cs n a) x.first x.front (act_is cs n a))
      (each_left (IsFrom (suc n)) (onto x.first known) (seen_from cs (suc n) said) x.second x.back (rest_from cs (suc n) (suc n) said (omega arith))) in
      ap (λ o. or_else (option_map (refused_beside reason.SharedVariable a.place) o) (first_of (λ b. says b.place (names_of cs b)) said)) names
      ∙ by (sharer (flat x.first)) a.place _ _ (λ is. statements (suc n) said (onto x.first known) x.second (quiet_onto x.first known (quiet_of (flat x.first) is) q) x.back)
      ∙ sym here ∙ ap (shared_from cs own before) (sym x.is)
    where
      by : (o : Option Place) (p : Place) (u v : Option Refusal) → (o ≡ None → u ≡ v)
          → or_else (option_map (refused_beside reason.SharedVariable p) o) u ≡ or_else (option_map (refused_beside reason.SharedVariable p) o) v
      by None p u v k = k refl
      by (Some z) p u v k = refl

-- ---- processes

module _ (cs : Cells) where
  abbrev found : List Act → List ℕ → List (List Act) → Option Place
  found later xs before = first_of (λ e. first_of (λ b. when (meets cs (λ x. among x (all_writes cs later) || among x (all_writes cs e)) xs (names_of cs b)) b.place) e) before

  sharers : (later : List Act) (own xs : List ℕ) → ((x : ℕ) → among x own ≡ among x (all_writes cs later)) → (before : List (List Act)) (thin : List (List Seen)) → AreThinned (map (seen_from cs 0) before) thin
      → found later xs before ≡ first_sharer cs own thin xs
  sharers later own xs mine [] [] is = refl
  sharers later own xs mine [] (t ∷ thin) is = absurd is
  sharers later own xs mine (a ∷ before) [] is = absurd is
  sharers later own xs mine (a ∷ before) (t ∷ thin) is = λ i. or_else (one_sharer cs (λ x. among x (all_writes cs later)) own xs a t mine is.0 i) (sharers later own xs mine before thin is.1 i)

  told : (p : Place) (later : List Act) (xs : List ℕ) (before : List (List Act))
      → first_of (λ e. first_of (λ b. when (meets cs (λ x. among x (all_writes cs later) || among x (all_writes cs e)) xs (names_of cs b)) (refused_beside reason.SharedVariable p b.place)) e) before
      ≡ option_map (refused_beside reason.SharedVariable p) (found later xs before)
  told p later xs before =
      first_same _ _ (λ e. first_same _ _ (λ b. sym (when_told (refused_beside reason.SharedVariable p) (meets cs (λ x. among x (all_writes cs later) || among x (all_writes cs e)) xs (names_of cs b)) b.place)) e
      ∙ sym (first_told (refused_beside reason.SharedVariable p) (λ b. when (meets cs (λ x. among x (all_writes cs later) || among x (all_writes cs e)) xs (names_of cs b)) b.place) e)) before
      ∙ sym (first_told (refused_beside reason.SharedVariable p) (λ e. first_of (λ b. when (meets cs (λ x. among x (all_writes cs later) || among x (all_writes cs e)) xs (names_of cs b)) b.place) e) before)

  one_process : (later : List Act) (t : List Seen) (before : List (List Act)) (thin : List (List Seen)) → IsThinned [] (seen_from cs 0 later) t → AreThinned (map (seen_from cs 0) before) thin
      → first_of (clash_of reason.SharedVariable both_name cs later before) later ≡ shared_from cs (all_put t) thin t
  one_process later t before thin is are =
      first_same _ _ (λ a. told a.place later (names_of cs a) before
      ∙ ap (option_map (refused_beside reason.SharedVariable a.place)) (sharers later (all_put t) (names_of cs a) (λ x. put_same cs x later t is) before thin are)) later
      ∙ statements cs (all_put t) thin 0 later [] t tt is

  all_processes : (before rest : List (List Act)) (thin back : List (List Seen)) → AreThinned (map (seen_from cs 0) before) thin → AreThinned (map (seen_from cs 0) rest) back
      → shared_in cs thin back ≡ first_clash reason.SharedVariable both_name cs before rest
  all_processes before [] thin [] are is = refl
  all_processes before [] thin (t ∷ back) are is = absurd is
  all_processes before (a ∷ rest) thin [] are is = absurd is
  all_processes before (a ∷ rest) thin (t ∷ back) are is =
      λ i. or_else (sym (one_process a t before thin is.0 are) i) (all_processes (before ++ a ∷ []) rest (thin ++ t ∷ []) back (more cs before a thin t are is.0) is.1 i)

map_map : {A B C : Type 0} (f : B → C) (g : A → B) (xs : List A) → map f (map g xs) ≡ map (λ x. f (g x)) xs
map_map f g [] = refl
map_map f g (x ∷ xs) = ap (λ ys. f (g x) ∷ ys) (map_map f g xs)

pub sharers_told : (p : Program) (thin : List (List Seen)) → AreSeen p thin → shared_in p.cells [] thin ≡ shared_variable p
sharers_told p thin is = all_processes p.cells [] (map (live_acts p.cells) p.processes) [] thin tt (subst (λ xs. AreThinned xs thin) (sym (map_map (seen_from p.cells 0) (live_acts p.cells) p.processes)) is)
