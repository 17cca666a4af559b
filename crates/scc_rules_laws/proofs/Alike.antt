-- Rules by lists whose locations name the same cells.
use Rattle.std.proofs.Common.{◌≡◌, refl, sym, ap, ◌∙◌, arith, ℕ, Bool, true, false, not, ◌&&◌, ◌||◌, nat_eq, List, [], ◌∷◌, ◌++◌, Option, option_map, zero, suc, if◌then◌else◌}
use Rattle.std.specs.Prelude.{filter, flat_map}
use Rattle.std.specs.List.{list_any}
use Rattle.scc_base.specs.declared.code.Code.{Code as Reason}
use Rattle.scc_base.specs.declared.code.Code.TheVariants as reason
use Rattle.scc_core_spec.specs.Clashes.{shared_variable, two_writers}
use Rattle.scc_core_spec.specs.Feeding.{feeds, is_method}
use Rattle.scc_core_spec.specs.First.{or_else, first_of, when, refused, refused_beside}
use Rattle.scc_core_spec.specs.Program.{Process, Program, is_combinational, is_root, is_variable}
use Rattle.scc_core_spec.specs.Rules.{clock_as_data, clocks, latch, missing_sensitivity, reset_cells}
use Rattle.scc_core_spec.specs.Static.{Cells}
use Rattle.scc_core_spec.specs.Uses.{among, has_sort}
use Rattle.scc_rules_laws.specs.Alike.{HasMembers, IsAlike, AreAlike, AreAllAlike}
use Rattle.scc_rules_laws.specs.Feeds.{all_read, feeds_by, list_at, read_cells}
use Rattle.scc_rules_laws.specs.Found.{all_put, put_cells, clock_used, first_along, first_writer, is_missed, is_unlisted, missed_put, only, put_found, read_found, second_writer, two_in, unlisted_read, writes_one, first_sharer, names_one, same_statement, shared_from, shared_in, sharing, sharing_by}
use Rattle.scc_rules_laws.specs.Seen.{Seen, AreSeen}
use Rattle.scc_rules_laws.proofs.Fed.{feeds_told}
use Rattle.scc_rules_laws.proofs.Missed.{latches_told}
use Rattle.scc_rules_laws.proofs.Sensed.{clocks_told, senses_told}
use Rattle.scc_rules_laws.proofs.Shared.{sharers_told}
use Rattle.scc_rules_laws.proofs.Writers.{writers_told}

-- ---- lists with the same members pass the same tests

same_number : (a b : ℕ) → nat_eq a b ≡ true → a ≡ b
same_number a b e = grind (arith, e)

own_number : (a : ℕ) → nat_eq a a ≡ true
own_number a = grind arith

or_true : (b : Bool) → (b || true) ≡ true
or_true true = refl
or_true false = refl

never : {A : Type 0} → false ≡ true → A
never h = absurd cc

record Passing (f : ℕ → Bool) (xs : List ℕ) : Type 0 where
  member : ℕ
  passes : f member ≡ true
  is : among member xs ≡ true

passing : (f : ℕ → Bool) (xs : List ℕ) → list_any f xs ≡ true → Passing f xs
passing f [] h = never h
passing f (x ∷ xs) h = by (f x) refl (λ e. passing f xs (sym (ap (λ b. b || list_any f xs) e) ∙ h))
  where
    by : (b : Bool) → f x ≡ b → (f x ≡ false → Passing f xs) → Passing f (x ∷ xs)
    by true e more = record { member = x; passes = e; is = ap (λ b. b || among x xs) (own_number x) }
    by false e more = let r = more e in record { member = r.member; passes = r.passes; is = ap (λ b. nat_eq r.member x || b) r.is ∙ or_true (nat_eq r.member x) }

holds : (f : ℕ → Bool) (x : ℕ) (ys : List ℕ) → f x ≡ true → among x ys ≡ true → list_any f ys ≡ true
holds f x [] e h = never h
holds f x (y ∷ ys) e h = by (nat_eq x y) refl (λ d. holds f x ys e (sym (ap (λ b. b || among x ys) d) ∙ h))
  where
    by : (b : Bool) → nat_eq x y ≡ b → (nat_eq x y ≡ false → list_any f ys ≡ true) → (f y || list_any f ys) ≡ true
    by true d more = ap (λ b. b || list_any f ys) (ap f (sym (same_number x y d)) ∙ e)
    by false d more = ap (λ b. f y || b) (more d) ∙ or_true (f y)

one_way : (f : ℕ → Bool) (xs ys : List ℕ) → HasMembers xs ys → list_any f xs ≡ true → list_any f ys ≡ true
one_way f xs ys h d = let r = passing f xs d in holds f r.member ys r.passes (sym (h r.member) ∙ r.is)

pub any_members : (f : ℕ → Bool) (xs ys : List ℕ) → HasMembers xs ys → list_any f xs ≡ list_any f ys
any_members f xs ys h = by (list_any f xs) (list_any f ys) refl refl
  where
    by : (a b : Bool) → list_any f xs ≡ a → list_any f ys ≡ b → list_any f xs ≡ list_any f ys
    by true b d e = d ∙ sym (one_way f xs ys h d)
    by false true d e = never (sym d ∙ one_way f ys xs (λ x. sym (h x)) e)
    by false false d e = d ∙ sym e

-- ---- what is found of each

read_alike : (code : Reason) (test : ℕ → Bool) (s t : Seen) → IsAlike s t → read_found code test s ≡ read_found code test t
read_alike code test s t a = λ i. only (not (a.write i)) (when (any_members test s.cells t.cells a.cells i) (refused code (a.place i)))

put_alike : (code : Reason) (test : ℕ → Bool) (s t : Seen) → IsAlike s t → put_found code test s ≡ put_found code test t
put_alike code test s t a = λ i. only (a.write i) (when (any_members test s.cells t.cells a.cells i) (refused code (a.statement i)))

first_both : {A : Type 0} (f g : Seen → Option A) → ((s t : Seen) → IsAlike s t → f s ≡ g t) → (ss ts : List Seen) → AreAlike ss ts → first_of f ss ≡ first_of g ts
first_both f g same [] [] a = refl
first_both f g same [] (t ∷ ts) a = absurd a
first_both f g same (s ∷ ss) [] a = absurd a
first_both f g same (s ∷ ss) (t ∷ ts) a = λ i. or_else (same s t a.0 i) (first_both f g same ss ts a.1 i)

first_alike : {A : Type 0} (f : Seen → Option A) → ((s t : Seen) → IsAlike s t → f s ≡ f t) → (ss ts : List Seen) → AreAlike ss ts → first_of f ss ≡ first_of f ts
first_alike f = first_both f f

along_alike : {R : Type 0} (f : Process → List Seen → Option R) → ((q : Process) (ss ts : List Seen) → AreAlike ss ts → f q ss ≡ f q ts)
    → (qs : List Process) (all marks : List (List Seen)) → AreAllAlike all marks → first_along f qs all ≡ first_along f qs marks
along_alike f same [] all marks a = refl
along_alike f same (q ∷ qs) [] [] a = refl
along_alike f same (q ∷ qs) [] (ts ∷ marks) a = absurd a
along_alike f same (q ∷ qs) (ss ∷ all) [] a = absurd a
along_alike f same (q ∷ qs) (ss ∷ all) (ts ∷ marks) a = λ i. or_else (same q ss ts a.0 i) (along_alike f same qs all marks a.1 i)

-- ---- rule by rule

pub clocks_alike : (p : Program) (thin marks : List (List Seen)) → AreSeen p thin → AreAllAlike thin marks → first_along (clock_used (λ n. among n (clocks p))) p.processes marks ≡ clock_as_data p
clocks_alike p thin marks is a = sym (along_alike (clock_used (λ n. among n (clocks p))) same p.processes thin marks a) ∙ clocks_told p thin is
  where
    same : (q : Process) (ss ts : List Seen) → AreAlike ss ts → clock_used (λ n. among n (clocks p)) q ss ≡ clock_used (λ n. among n (clocks p)) q ts
    same q ss ts k =
        ap (or_else (when (list_any (λ n. among n (clocks p)) (reset_cells q.reset ++ q.senses)) (refused reason.ClockAsData q.place)))
        (first_alike (read_found reason.ClockAsData (λ n. among n (clocks p))) (read_alike reason.ClockAsData (λ n. among n (clocks p))) ss ts k)

pub senses_alike : (p : Program) (thin marks : List (List Seen)) → AreSeen p thin → AreAllAlike thin marks → first_along (unlisted_read p.cells) p.processes marks ≡ missing_sensitivity p
senses_alike p thin marks is a = sym (along_alike (unlisted_read p.cells) same p.processes thin marks a) ∙ senses_told p thin is
  where
    same : (q : Process) (ss ts : List Seen) → AreAlike ss ts → unlisted_read p.cells q ss ≡ unlisted_read p.cells q ts
    same q ss ts k =
        ap (only (is_combinational q))
        (first_alike (read_found reason.MissingSensitivity (is_unlisted p.cells q.senses)) (read_alike reason.MissingSensitivity (is_unlisted p.cells q.senses)) ss ts k)

pub latches_alike : (p : Program) (thin marks : List (List Seen)) → AreSeen p thin → AreAllAlike thin marks → first_along (missed_put p.cells) p.processes marks ≡ latch p
latches_alike p thin marks is a = sym (along_alike (missed_put p.cells) same p.processes thin marks a) ∙ latches_told p thin is
  where
    same : (q : Process) (ss ts : List Seen) → AreAlike ss ts → missed_put p.cells q ss ≡ missed_put p.cells q ts
    same q ss ts k = ap (only (is_combinational q)) (first_alike (put_found reason.Latch (is_missed p.cells q)) (put_alike reason.Latch (is_missed p.cells q)) ss ts k)

-- ---- two writers

all_more : (all marks : List (List Seen)) (ss ts : List Seen) → AreAllAlike all marks → AreAlike ss ts → AreAllAlike (all ++ ss ∷ []) (marks ++ ts ∷ [])
all_more [] [] ss ts a k = (k, tt)
all_more [] (m ∷ marks) ss ts a k = absurd a
all_more (l ∷ all) [] ss ts a k = absurd a
all_more (l ∷ all) (m ∷ marks) ss ts a k = (a.0, all_more all marks ss ts a.1 k)

module _ (cs : Cells) where
  writes_alike : (xs ys : List ℕ) → HasMembers xs ys → (s t : Seen) → IsAlike s t → writes_one cs xs s ≡ writes_one cs ys t
  writes_alike xs ys h s t a = λ i. only (a.write i) (when (meet i) (a.statement i))
    where
      meet : list_any (λ x. has_sort is_root cs x && among x s.cells) xs ≡ list_any (λ x. has_sort is_root cs x && among x t.cells) ys
      meet = (λ i. list_any (λ x. has_sort is_root cs x && a.cells x i) xs) ∙ any_members (λ x. has_sort is_root cs x && among x t.cells) xs ys h

  writer_alike : (xs ys : List ℕ) → HasMembers xs ys → (all marks : List (List Seen)) → AreAllAlike all marks → first_writer cs all xs ≡ first_writer cs marks ys
  writer_alike xs ys h [] [] a = refl
  writer_alike xs ys h [] (m ∷ marks) a = absurd a
  writer_alike xs ys h (l ∷ all) [] a = absurd a
  writer_alike xs ys h (l ∷ all) (m ∷ marks) a = λ i. or_else (first_both (writes_one cs xs) (writes_one cs ys) (writes_alike xs ys h) l m a.0 i) (writer_alike xs ys h all marks a.1 i)

  second_alike : (all marks : List (List Seen)) → AreAllAlike all marks → (s t : Seen) → IsAlike s t → second_writer cs all s ≡ second_writer cs marks t
  second_alike all marks k s t a = λ i. only (a.write i) (option_map (refused_beside reason.TwoWriters (a.statement i)) (writer_alike s.cells t.cells a.cells all marks k i))

  two_alike : (before done : List (List Seen)) → AreAllAlike before done → (all marks : List (List Seen)) → AreAllAlike all marks → two_in cs before all ≡ two_in cs done marks
  two_alike before done k [] [] a = refl
  two_alike before done k [] (m ∷ marks) a = absurd a
  two_alike before done k (l ∷ all) [] a = absurd a
  two_alike before done k (l ∷ all) (m ∷ marks) a =
      λ i. or_else (first_both (second_writer cs before) (second_writer cs done) (second_alike before done k) l m a.0 i)
      (two_alike (before ++ l ∷ []) (done ++ m ∷ []) (all_more before done l m k a.0) all marks a.1 i)

pub writers_alike : (p : Program) (thin marks : List (List Seen)) → AreSeen p thin → AreAllAlike thin marks → two_in p.cells [] marks ≡ two_writers p
writers_alike p thin marks is a = sym (two_alike p.cells [] [] tt thin marks a) ∙ writers_told p thin is

-- ---- what feeds what

or_joined : (a b c : Bool) → (a || (b || c)) ≡ ((a || b) || c)
or_joined true b c = refl
or_joined false b c = refl

among_joined : (x : ℕ) (xs ys : List ℕ) → among x (xs ++ ys) ≡ (among x xs || among x ys)
among_joined x [] ys = refl
among_joined x (y ∷ xs) ys = ap (λ b. nat_eq x y || b) (among_joined x xs ys) ∙ or_joined (nat_eq x y) (among x xs) (among x ys)

module _ (g : Seen → List ℕ) (same : (s t : Seen) → IsAlike s t → HasMembers (g s) (g t)) where
  all_alike : (ss ts : List Seen) → AreAlike ss ts → HasMembers (flat_map g ss) (flat_map g ts)
  all_alike [] [] a x = refl
  all_alike [] (t ∷ ts) a x = absurd a
  all_alike (s ∷ ss) [] a x = absurd a
  all_alike (s ∷ ss) (t ∷ ts) a x =
      among_joined x (g s) (flat_map g ss) ∙ (λ i. same s t a.0 x i || all_alike ss ts a.1 x i) ∙ sym (among_joined x (g t) (flat_map g ts))

reads_alike : (s t : Seen) → IsAlike s t → HasMembers (read_cells s) (read_cells t)
reads_alike s t a x = (λ i. among x (if a.write i then [] else s.cells)) ∙ by t.write
  where
    by : (w : Bool) → among x (if w then [] else s.cells) ≡ among x (if w then [] else t.cells)
    by true = refl
    by false = a.cells x

puts_alike : (s t : Seen) → IsAlike s t → HasMembers (put_cells s) (put_cells t)
puts_alike s t a x = (λ i. among x (if a.write i then s.cells else [])) ∙ by t.write
  where
    by : (w : Bool) → among x (if w then s.cells else []) ≡ among x (if w then t.cells else [])
    by true = a.cells x
    by false = refl

at_alike : (all marks : List (List Seen)) → AreAllAlike all marks → (i : ℕ) → AreAlike (list_at all i) (list_at marks i)
at_alike [] [] a i = tt
at_alike [] (m ∷ marks) a i = absurd a
at_alike (l ∷ all) [] a i = absurd a
at_alike (l ∷ all) (m ∷ marks) a zero = a.0
at_alike (l ∷ all) (m ∷ marks) a (suc i) = at_alike all marks a.1 i

pub feeds_alike : (p : Program) (thin marks : List (List Seen)) → AreSeen p thin → AreAllAlike thin marks → (i j : ℕ) → feeds p i j ≡ feeds_by p marks i j
feeds_alike p thin marks is a i j = feeds_told p thin is i j ∙ ap (λ b. is_method p i && (is_method p j && b)) meet
  where
    meet : list_any (λ x. has_sort is_root p.cells x && among x (all_read (list_at thin j))) (all_put (list_at thin i))
        ≡ list_any (λ x. has_sort is_root p.cells x && among x (all_read (list_at marks j))) (all_put (list_at marks i))
    meet =
        (λ k. list_any (λ x. has_sort is_root p.cells x && all_alike read_cells reads_alike (list_at thin j) (list_at marks j) (at_alike thin marks a j) x k) (all_put (list_at thin i)))
        ∙ any_members (λ x. has_sort is_root p.cells x && among x (all_read (list_at marks j))) (all_put (list_at thin i)) (all_put (list_at marks i))
        (all_alike put_cells puts_alike (list_at thin i) (list_at marks i) (at_alike thin marks a i))

-- ---- shared variables

joined_alike : (xs ys vs ws : List ℕ) → HasMembers xs ys → HasMembers vs ws → HasMembers (xs ++ vs) (ys ++ ws)
joined_alike xs ys vs ws h k x = among_joined x xs vs ∙ (λ i. h x i || k x i) ∙ sym (among_joined x ys ws)

chosen_alike : (b c : Bool) → b ≡ c → (s t : Seen) → IsAlike s t → (ss ts : List Seen) → AreAlike ss ts → AreAlike (if b then s ∷ ss else ss) (if c then t ∷ ts else ts)
chosen_alike true true e s t a ss ts k = (a, k)
chosen_alike true false e s t a ss ts k = never (sym e)
chosen_alike false true e s t a ss ts k = never e
chosen_alike false false e s t a ss ts k = k

own_alike : (n : ℕ) (ss ts : List Seen) → AreAlike ss ts → AreAlike (filter (λ s. nat_eq s.number n) ss) (filter (λ s. nat_eq s.number n) ts)
own_alike n [] [] a = tt
own_alike n [] (t ∷ ts) a = absurd a
own_alike n (s ∷ ss) [] a = absurd a
own_alike n (s ∷ ss) (t ∷ ts) a = chosen_alike (nat_eq s.number n) (nat_eq t.number n) (λ i. nat_eq (a.0.number i) n) s t a.0 _ _ (own_alike n ss ts a.1)

rest_alike : (s t : Seen) → IsAlike s t → (ss ts : List Seen) → AreAlike ss ts → HasMembers (s.cells ++ same_statement s.number ss) (t.cells ++ same_statement t.number ts)
rest_alike s t a ss ts k = joined_alike s.cells t.cells (same_statement s.number ss) (same_statement t.number ts) a.cells
    (λ x. (λ i. among x (same_statement (a.number i) ss))
    ∙ all_alike (λ u. u.cells) (λ u v b. b.cells) (filter (λ u. nat_eq u.number t.number) ss) (filter (λ u. nat_eq u.number t.number) ts) (own_alike t.number ss ts k) x)

module _ (cs : Cells) where
  names_alike : (own mine theirs others xs ys : List ℕ) → HasMembers own mine → HasMembers theirs others → HasMembers xs ys
      → (s t : Seen) → IsAlike s t → names_one cs own theirs xs s ≡ names_one cs mine others ys t
  names_alike own mine theirs others xs ys o h k s t a = λ i. when (meet i) (a.statement i)
    where
      meet : list_any (λ x. has_sort is_variable cs x && (among x s.cells && (among x own || among x theirs))) xs
          ≡ list_any (λ x. has_sort is_variable cs x && (among x t.cells && (among x mine || among x others))) ys
      meet =
          (λ i. list_any (λ x. has_sort is_variable cs x && (a.cells x i && (o x i || h x i))) xs)
          ∙ any_members (λ x. has_sort is_variable cs x && (among x t.cells && (among x mine || among x others))) xs ys k

  sharer_alike : (own mine xs ys : List ℕ) → HasMembers own mine → HasMembers xs ys → (all marks : List (List Seen)) → AreAllAlike all marks
      → first_sharer cs own all xs ≡ first_sharer cs mine marks ys
  sharer_alike own mine xs ys o h [] [] a = refl
  sharer_alike own mine xs ys o h [] (m ∷ marks) a = absurd a
  sharer_alike own mine xs ys o h (l ∷ all) [] a = absurd a
  sharer_alike own mine xs ys o h (l ∷ all) (m ∷ marks) a =
      λ i. or_else (first_both (names_one cs own (all_put l) xs) (names_one cs mine (all_put m) ys)
      (names_alike own mine (all_put l) (all_put m) xs ys o (all_alike put_cells puts_alike l m a.0) h) l m a.0 i)
      (sharer_alike own mine xs ys o h all marks a.1 i)

  module _ (own mine : List ℕ) (o : HasMembers own mine) (before done : List (List Seen)) (k : AreAllAlike before done) where
    sharing_alike : (s t : Seen) → IsAlike s t → (ss ts : List Seen) → AreAlike ss ts → sharing cs own before s ss ≡ sharing cs mine done t ts
    sharing_alike s t a ss ts b =
        λ i. sharing_by (sharer_alike own mine s.cells t.cells o a.cells before done k i)
        (option_map (refused_beside reason.SharedVariable (a.statement i)) (sharer_alike own mine _ _ o (rest_alike s t a ss ts b) before done k i))

    from_alike : (ss ts : List Seen) → AreAlike ss ts → shared_from cs own before ss ≡ shared_from cs mine done ts
    from_alike [] [] a = refl
    from_alike [] (t ∷ ts) a = absurd a
    from_alike (s ∷ ss) [] a = absurd a
    from_alike (s ∷ ss) (t ∷ ts) a = λ i. or_else (sharing_alike s t a.0 ss ts a.1 i) (from_alike ss ts a.1 i)

  in_alike : (before done : List (List Seen)) → AreAllAlike before done → (all marks : List (List Seen)) → AreAllAlike all marks → shared_in cs before all ≡ shared_in cs done marks
  in_alike before done k [] [] a = refl
  in_alike before done k [] (m ∷ marks) a = absurd a
  in_alike before done k (l ∷ all) [] a = absurd a
  in_alike before done k (l ∷ all) (m ∷ marks) a =
      λ i. or_else (from_alike (all_put l) (all_put m) (all_alike put_cells puts_alike l m a.0) before done k l m a.0 i)
      (in_alike (before ++ l ∷ []) (done ++ m ∷ []) (all_more before done l m k a.0) all marks a.1 i)

pub sharers_alike : (p : Program) (thin marks : List (List Seen)) → AreSeen p thin → AreAllAlike thin marks → shared_in p.cells [] marks ≡ shared_variable p
sharers_alike p thin marks is a = sym (in_alike p.cells [] [] tt thin marks a) ∙ sharers_told p thin is
