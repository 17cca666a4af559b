-- An order of the combinational methods gives each a rank: how many methods stand before it.
use Rattle.std.proofs.Common.{◌≡◌, ◌<◌, ◌≤◌, ◌+◌, ◌||◌, ◌&&◌, ℕ, zero, suc, nat_eq, Bool, true, false, length, List, [], ◌∷◌, ◌++◌, Some, None, slice_get, refl, sym, ap, ◌∙◌, subst, arith, if◌then◌else◌}
use Rattle.std.specs.Prelude.{filter, not, unwrap_or, option_map, flat_map}
use Rattle.std.specs.List.{list_any, list_all, range_with_len}
use Rattle.std.proofs.lemmas.List.Folds.{list_any-append}
use Rattle.scc_svtree.proofs.Agree.{or_first, or_second, or_both_false, same_of_eq}
use Rattle.scc_core_spec.specs.Program.{Program, Process, is_combinational, is_root}
use Rattle.scc_core_spec.specs.Clashes.{live_acts, names_of}
use Rattle.scc_core_spec.specs.Feeding.{Feeds, IsOrderFrom, IsOrder, feeds, methods, is_method, reads_in, writes_in}
use Rattle.scc_core_spec.specs.Kept.{written_by}
use Rattle.scc_core_spec.specs.Live.{live}
use Rattle.scc_core_spec.specs.Rules.{reset_cells}
use Rattle.scc_core_spec.specs.Uses.{Act, acts, reads_of, writes_of, among, has_sort}
use Rattle.scc_blocks_spec.specs.Shown.{mine}
use Rattle.scc_blocks_run_laws.specs.Follows.{IsRanked}
use Rattle.scc_blocks_run_laws.proofs.Among.{either}

-- what stands before a number
abbrev pub before : List ℕ → ℕ → List ℕ
before [] i = []
before (k ∷ ks) i = if nat_eq k i then [] else k ∷ before ks i

-- ---- counting

filter-yes : {A : Type 0} (P : A → Bool) (x : A) (xs : List A) → P x ≡ true → length (filter P (x ∷ xs)) ≡ suc (length (filter P xs))
filter-yes P x xs h = ap (λ b. length (if b then x ∷ filter P xs else filter P xs)) h

filter-no : {A : Type 0} (P : A → Bool) (x : A) (xs : List A) → P x ≡ false → length (filter P (x ∷ xs)) ≡ length (filter P xs)
filter-no P x xs h = ap (λ b. length (if b then x ∷ filter P xs else filter P xs)) h

count-most : (P Q : ℕ → Bool) (xs : List ℕ) → ((k : ℕ) → P k ≡ true → Q k ≡ true) → length (filter P xs) ≤ length (filter Q xs)
count-most P Q [] h = omega arith
count-most P Q (x ∷ xs) h = go (count-most P Q xs h) (P x) refl (Q x) refl
  where
    go : length (filter P xs) ≤ length (filter Q xs) → (a : Bool) → P x ≡ a → (b : Bool) → Q x ≡ b → length (filter P (x ∷ xs)) ≤ length (filter Q (x ∷ xs))
    go m true e true f = let u = filter-yes P x xs e in let w = filter-yes Q x xs f in omega arith
    go m true e false f = let z : Q x ≡ true = h x e in absurd (cc)
    go m false e true f = let u = filter-no P x xs e in let w = filter-yes Q x xs f in omega arith
    go m false e false f = let u = filter-no P x xs e in let w = filter-no Q x xs f in omega arith

count-less : (P Q : ℕ → Bool) (xs : List ℕ) → ((k : ℕ) → P k ≡ true → Q k ≡ true) → (j : ℕ) → among j xs ≡ true → P j ≡ false → Q j ≡ true → length (filter P xs) < length (filter Q xs)
count-less P Q [] h j a n y = absurd (cc)
count-less P Q (x ∷ xs) h j a n y = go (λ a. count-less P Q xs h j a n y) (nat_eq j x) refl (P x) refl (Q x) refl
  where
    most : length (filter P xs) ≤ length (filter Q xs)
    most = count-most P Q xs h

    go : (among j xs ≡ true → length (filter P xs) < length (filter Q xs)) → (b : Bool) → nat_eq j x ≡ b → (c : Bool) → P x ≡ c → (d : Bool) → Q x ≡ d → length (filter P (x ∷ xs)) < length (filter Q (x ∷ xs))
    go next true e true f d g = let s : j ≡ x = same_of_eq j x e in let z : P x ≡ false = ap P (sym s) ∙ n in absurd (cc)
    go next true e false f false g = let s : j ≡ x = same_of_eq j x e in let z : Q x ≡ true = ap Q (sym s) ∙ y in absurd (cc)
    go next true e false f true g = let m = most in let u = filter-no P x xs f in let w = filter-yes Q x xs g in omega arith
    go next false e true f true g = let l = next (sym (ap (λ b. b || among j xs) e) ∙ a) in let u = filter-yes P x xs f in let w = filter-yes Q x xs g in omega arith
    go next false e true f false g = let z : Q x ≡ true = h x f in absurd (cc)
    go next false e false f true g = let l = next (sym (ap (λ b. b || among j xs) e) ∙ a) in let u = filter-no P x xs f in let w = filter-yes Q x xs g in omega arith
    go next false e false f false g = let l = next (sym (ap (λ b. b || among j xs) e) ∙ a) in let u = filter-no P x xs f in let w = filter-no Q x xs g in omega arith

-- ---- what stands before

not-before : (xs : List ℕ) (j : ℕ) → among j (before xs j) ≡ false
not-before [] j = refl
not-before (x ∷ xs) j = go (not-before xs j) (nat_eq x j) refl
  where
    go : among j (before xs j) ≡ false → (b : Bool) → nat_eq x j ≡ b → among j (if nat_eq x j then [] else x ∷ before xs j) ≡ false
    go next true e = ap (λ b. among j (if b then [] else x ∷ before xs j)) e
    go next false e = let d : nat_eq j x ≡ false = grind arith in ap (λ b. among j (if b then [] else x ∷ before xs j)) e ∙ (λ i. d i || next i)

before-more : (xs : List ℕ) (i j k : ℕ) → among j (before xs i) ≡ true → among k (before xs j) ≡ true → among k (before xs i) ≡ true
before-more [] i j k a b = b
before-more (x ∷ xs) i j k a b = go (before-more xs i j k) (nat_eq x i) refl (nat_eq x j) refl
  where
    go : (among j (before xs i) ≡ true → among k (before xs j) ≡ true → among k (before xs i) ≡ true) → (c : Bool) → nat_eq x i ≡ c → (d : Bool) → nat_eq x j ≡ d → among k (if nat_eq x i then [] else x ∷ before xs i) ≡ true
    go next true e d f = let z : false ≡ true = sym (ap (λ b. among j (if b then [] else x ∷ before xs i)) e) ∙ a in absurd (cc)
    go next false e true f = let z : false ≡ true = sym (ap (λ b. among k (if b then [] else x ∷ before xs j)) f) ∙ b in absurd (cc)
    go next false e false f =
        let n : nat_eq j x ≡ false = grind arith in
        let a' : (nat_eq j x || among j (before xs i)) ≡ true = sym (ap (λ b. among j (if b then [] else x ∷ before xs i)) e) ∙ a in
        let a'' : among j (before xs i) ≡ true = sym (ap (λ b. b || among j (before xs i)) n) ∙ a' in
        let b' : (nat_eq k x || among k (before xs j)) ≡ true = sym (ap (λ b. among k (if b then [] else x ∷ before xs j)) f) ∙ b in
        ap (λ b. among k (if b then [] else x ∷ before xs i)) e ∙ either (nat_eq k x) (among k (before xs j)) b' (λ t. or_first (nat_eq k x) (among k (before xs i)) t) (λ t. or_second (nat_eq k x) (among k (before xs i)) (next a'' t))

-- ---- orders

all-at : (t : ℕ → Bool) (xs : List ℕ) (j : ℕ) → list_all t xs ≡ true → among j xs ≡ true → t j ≡ true
all-at t [] j h a = absurd (cc)
all-at t (x ∷ xs) j h a = go (all-at t xs j) (t x) refl (nat_eq j x) refl
  where
    go : (list_all t xs ≡ true → among j xs ≡ true → t j ≡ true) → (b : Bool) → t x ≡ b → (c : Bool) → nat_eq j x ≡ c → t j ≡ true
    go next false e c f = let z : false ≡ true = sym (ap (λ b. b && list_all t xs) e) ∙ h in absurd (cc)
    go next true e true f = ap t (same_of_eq j x f) ∙ e
    go next true e false f = next (sym (ap (λ b. b && list_all t xs) e) ∙ h) (sym (ap (λ b. b || among j xs) f) ∙ a)

and-second : (a b : Bool) → (a && b) ≡ true → b ≡ true
and-second true b h = h
and-second false b h = absurd (cc)

module _ (f : Feeds) (all : List ℕ) where
  shifted : (j k : ℕ) (placed ks : List ℕ) → among j ((placed ++ k ∷ []) ++ ks) ≡ true → among j (placed ++ (k ∷ ks)) ≡ true
  shifted j k placed ks h =
      let a : among j ((placed ++ k ∷ []) ++ ks) ≡ ((among j placed || (nat_eq j k || false)) || among j ks) =
      list_any-append (nat_eq j) (placed ++ k ∷ []) ks ∙ ap (λ b. b || among j ks) (list_any-append (nat_eq j) placed (k ∷ [])) in
      list_any-append (nat_eq j) placed (k ∷ ks) ∙ same (among j placed) (nat_eq j k) (among j ks) (sym a ∙ h)
    where
      same : (x y z : Bool) → ((x || (y || false)) || z) ≡ true → (x || (y || z)) ≡ true
      same true y z h = refl
      same false true z h = refl
      same false false z h = h

  -- each of all is placed in the end
  order-has : (placed rest : List ℕ) → IsOrderFrom f all placed rest → (i : ℕ) → among i all ≡ true → among i (placed ++ rest) ≡ true
  order-has placed rest (IsOrderFrom.done p h) i a = list_any-append (nat_eq i) placed [] ∙ or_first (among i placed) false (h i a)
  order-has placed rest (IsOrderFrom.next {rest = ks} p k here r least tail) i a = shifted i k placed ks (order-has (placed ++ k ∷ []) ks tail i a)

  -- what feeds a number stands before it
  order-feeds : (placed rest : List ℕ) → IsOrderFrom f all placed rest → (i j : ℕ) → among i rest ≡ true → among j all ≡ true → f j i ≡ true → nat_eq i j ≡ false → among j (placed ++ before rest i) ≡ true
  order-feeds placed rest (IsOrderFrom.done p h) i j a b c d = absurd (cc)
  order-feeds placed rest (IsOrderFrom.next {rest = ks} p k here r least tail) i j a b c d = go (λ a'. order-feeds (placed ++ k ∷ []) ks tail i j a' b c d) (nat_eq k i) refl
    where
      go : (among i ks ≡ true → among j ((placed ++ k ∷ []) ++ before ks i) ≡ true) → (e : Bool) → nat_eq k i ≡ e → among j (placed ++ (if nat_eq k i then [] else k ∷ before ks i)) ≡ true
      go later true e =
          let s : k ≡ i = same_of_eq k i e in
          let all-ready : list_all (λ j. nat_eq k j || (not (f j k) || among j placed)) all ≡ true = and-second (not (among k placed)) (list_all (λ j. nat_eq k j || (not (f j k) || among j placed)) all) r in
          let t : (nat_eq k j || (not (f j k) || among j placed)) ≡ true = all-at (λ j. nat_eq k j || (not (f j k) || among j placed)) all j all-ready b in
          let n : nat_eq k j ≡ false = ap (λ k. nat_eq k j) s ∙ d in
          let c' : f j k ≡ true = ap (λ k. f j k) s ∙ c in
          let u : among j placed ≡ true = sym (λ z. n z || (not (c' z) || among j placed)) ∙ t in
          ap (λ b. among j (placed ++ (if b then [] else k ∷ before ks i))) e ∙ list_any-append (nat_eq j) placed [] ∙ or_first (among j placed) false u
      go later false e =
          let n : nat_eq i k ≡ false = grind arith in
          ap (λ b. among j (placed ++ (if b then [] else k ∷ before ks i))) e ∙ shifted j k placed (before ks i) (later (sym (ap (λ b. b || among i ks) n) ∙ a))

any-at : (t : ℕ → Bool) (xs : List ℕ) (c : ℕ) → among c xs ≡ true → t c ≡ true → list_any t xs ≡ true
any-at t [] c a h = absurd (cc)
any-at t (x ∷ xs) c a h = go (λ a. any-at t xs c a h) (nat_eq c x) refl
  where
    go : (among c xs ≡ true → list_any t xs ≡ true) → (b : Bool) → nat_eq c x ≡ b → (t x || list_any t xs) ≡ true
    go next true e = or_first (t x) (list_any t xs) (ap t (sym (same_of_eq c x e)) ∙ h)
    go next false e = or_second (t x) (list_any t xs) (next (sym (ap (λ b. b || among c xs) e) ∙ a))

-- what statements name and don't write, they read
module _ (p : Program) (c : ℕ) where
  named-read : (acts' : List Act) → among c (flat_map (names_of p.cells) acts') ≡ true → among c (flat_map (writes_of p.cells) acts') ≡ false → among c (flat_map (reads_of p.cells) acts') ≡ true
  named-read [] h w = absurd (cc)
  named-read (a ∷ acts') h w =
      let rs = reads_of p.cells a in
      let ws = writes_of p.cells a in
      let more = flat_map (names_of p.cells) acts' in
      let w' : (among c ws || among c (flat_map (writes_of p.cells) acts')) ≡ false = sym (list_any-append (nat_eq c) ws (flat_map (writes_of p.cells) acts')) ∙ w in
      let h' : ((among c rs || among c ws) || among c more) ≡ true = sym (list_any-append (nat_eq c) (rs ++ ws) more ∙ ap (λ b. b || among c more) (list_any-append (nat_eq c) rs ws)) ∙ h in
      let parts = or_both_false (among c ws) (among c (flat_map (writes_of p.cells) acts')) w' in
      list_any-append (nat_eq c) rs (flat_map (reads_of p.cells) acts')
      ∙ either (among c rs || among c ws) (among c more) h'
      (λ k. either (among c rs) (among c ws) k (λ t. or_first (among c rs) (among c (flat_map (reads_of p.cells) acts')) t) (λ t. absurd (none (sym parts.0 ∙ t))))
      (λ k. or_second (among c rs) (among c (flat_map (reads_of p.cells) acts')) (named-read acts' k parts.1))
    where
      none : false ≡ true → ⊥
      none e = absurd (cc)

module _ (p : Program) where
  is-method : (i : ℕ) (q : Process) → slice_get p.processes i ≡ Some q → is_method p i ≡ is_combinational q
  is-method i q s = ap (λ o. unwrap_or (option_map is_combinational o) false) s

  counted-from : (qs : List Process) (i : ℕ) → ((k n : ℕ) → n ≡ i + k → slice_get p.processes n ≡ slice_get qs k) → length (filter (is_method p) (range_with_len i (length qs))) ≡ length (filter is_combinational qs)
  counted-from [] i h = refl
  counted-from (q ∷ qs) i h = go (counted-from qs (i + 1) (λ k n e. h (suc k) n (omega arith))) (is_combinational q) refl
    where
      go : length (filter (is_method p) (range_with_len (i + 1) (length qs))) ≡ length (filter is_combinational qs) → (b : Bool) → is_combinational q ≡ b
          → length (filter (is_method p) (range_with_len i (length (q ∷ qs)))) ≡ length (filter is_combinational (q ∷ qs))
      go next true e =
          let m : is_method p i ≡ true = is-method i q (h 0 i (omega arith)) ∙ e in
          filter-yes (is_method p) i (range_with_len (i + 1) (length qs)) m ∙ ap (λ n. suc n) next ∙ sym (filter-yes is_combinational q qs e)
      go next false e =
          let m : is_method p i ≡ false = is-method i q (h 0 i (omega arith)) ∙ e in
          filter-no (is_method p) i (range_with_len (i + 1) (length qs)) m ∙ next ∙ sym (filter-no is_combinational q qs e)

  methods-from : (qs : List Process) (i : ℕ) → ((k n : ℕ) → n ≡ i + k → slice_get p.processes n ≡ slice_get qs k) → (k n : ℕ) (q : Process) → n ≡ i + k → slice_get qs k ≡ Some q → is_combinational q ≡ true
      → among n (filter (is_method p) (range_with_len i (length qs))) ≡ true
  methods-from [] i h k n q e s c = absurd (cc)
  methods-from (o ∷ qs) i h zero n q e s c =
      let m : is_method p i ≡ true = is-method i q (h 0 i (omega arith) ∙ s) ∙ c in
      let t : nat_eq n i ≡ true = grind arith in
      ap (λ b. among n (if b then i ∷ filter (is_method p) (range_with_len (i + 1) (length qs)) else filter (is_method p) (range_with_len (i + 1) (length qs)))) m ∙ or_first (nat_eq n i) (among n (filter (is_method p) (range_with_len (i + 1) (length qs)))) t
  methods-from (o ∷ qs) i h (suc k) n q e s c = go (methods-from qs (i + 1) (λ k n e. h (suc k) n (omega arith)) k n q (omega arith) s c) (is_method p i) refl
    where
      go : among n (filter (is_method p) (range_with_len (i + 1) (length qs))) ≡ true → (b : Bool) → is_method p i ≡ b
          → among n (if is_method p i then i ∷ filter (is_method p) (range_with_len (i + 1) (length qs)) else filter (is_method p) (range_with_len (i + 1) (length qs))) ≡ true
      go next true m = ap (λ b. among n (if b then i ∷ filter (is_method p) (range_with_len (i + 1) (length qs)) else filter (is_method p) (range_with_len (i + 1) (length qs)))) m
          ∙ or_second (nat_eq n i) (among n (filter (is_method p) (range_with_len (i + 1) (length qs)))) next
      go next false m = ap (λ b. among n (if b then i ∷ filter (is_method p) (range_with_len (i + 1) (length qs)) else filter (is_method p) (range_with_len (i + 1) (length qs)))) m ∙ next

  here : (k n : ℕ) → n ≡ 0 + k → slice_get p.processes n ≡ slice_get p.processes k
  here k n e = let e' : n ≡ k = omega arith in ap (λ n. slice_get p.processes n) e'

  method-among : (i : ℕ) (q : Process) → slice_get p.processes i ≡ Some q → is_combinational q ≡ true → among i (methods p) ≡ true
  method-among i q s c = methods-from p.processes 0 here i i q (omega arith) s c

  -- the rank of a method
  abbrev pub rank_in : List ℕ → ℕ → ℕ
  rank_in order i = length (filter (λ k. among k (before order i)) (methods p))

  feeds-is : (i j c : ℕ) (q o : Process) → slice_get p.processes i ≡ Some q → slice_get p.processes j ≡ Some o → is_combinational q ≡ true → is_combinational o ≡ true → q.reset ≡ None
      → has_sort is_root p.cells c ≡ true → mine p q c ≡ true → among c (written_by p.cells q) ≡ false → among c (written_by p.cells o) ≡ true → feeds p j i ≡ true
  feeds-is i j c q o s t k l z root m w y =
      let rd : among c (flat_map (reads_of p.cells) (acts (live p.cells q.body))) ≡ true =
      named-read p c (acts (live p.cells q.body)) (sym (ap (λ r. among c (reset_cells r ++ flat_map (names_of p.cells) (live_acts p.cells q))) z) ∙ m) w in
      let ri : among c (reads_in p i) ≡ true = ap (λ o. among c (unwrap_or (option_map (λ q. flat_map (reads_of p.cells) (acts (live p.cells q.body))) o) [])) s ∙ rd in
      let wj : among c (writes_in p j) ≡ true = ap (λ o. among c (unwrap_or (option_map (λ q. flat_map (writes_of p.cells) (acts (live p.cells q.body))) o) [])) t ∙ y in
      let a : list_any (λ x. has_sort is_root p.cells x && among x (reads_in p i)) (writes_in p j) ≡ true =
      any-at (λ x. has_sort is_root p.cells x && among x (reads_in p i)) (writes_in p j) c wj (λ e. root e && ri e) in
      (λ e. (is-method j o t ∙ l) e && ((is-method i q s ∙ k) e && a e))

  pub order-ranks : (order : List ℕ) → IsOrder p order → ((i : ℕ) (q : Process) → slice_get p.processes i ≡ Some q → is_combinational q ≡ true → q.reset ≡ None) → IsRanked p (rank_in order)
  order-ranks order h none = record {
    below = λ i q s k. let a = count-most (λ k. among k (before order i)) (λ k. true) (methods p) (λ k e. refl) in let b = all-count (methods p) in
        let c : length (methods p) ≡ length (filter is_combinational p.processes) = counted-from p.processes 0 here in omega arith;
    behind = λ i j c q o s t k l root m w y.
        let d : nat_eq i j ≡ false = apart i j c q o s t w y (nat_eq i j) refl in
        let f : feeds p j i ≡ true = feeds-is i j c q o s t k l (none i q s k) root m w y in
        let mi = method-among i q s k in
        let mj = method-among j o t l in
        let b : among j (before order i) ≡ true = order-feeds (feeds p) (methods p) [] order h i j (order-has (feeds p) (methods p) [] order h i mi) mj f d in
        count-less (λ k. among k (before order j)) (λ k. among k (before order i)) (methods p) (λ k e. before-more order i j k b e) j mj (not-before order j) b;
  }
    where
      all-count : (xs : List ℕ) → length (filter (λ k. true) xs) ≡ length xs
      all-count [] = refl
      all-count (x ∷ xs) = ap (λ n. suc n) (all-count xs)

      apart : (i j c : ℕ) (q o : Process) → slice_get p.processes i ≡ Some q → slice_get p.processes j ≡ Some o → among c (written_by p.cells q) ≡ false → among c (written_by p.cells o) ≡ true → (b : Bool) → nat_eq i j ≡ b → nat_eq i j ≡ false
      apart i j c q o s t w y false e = e
      apart i j c q o s t w y true e =
          let z : i ≡ j = same_of_eq i j e in
          let P : ℕ → Type 0 = λ i. slice_get p.processes i ≡ Some q in
          let u : slice_get p.processes j ≡ Some q = subst P z s in
          let v : q ≡ o = cc in
          let x : true ≡ false = sym y ∙ ap (λ o. among c (written_by p.cells o)) (sym v) ∙ w in absurd (cc)
