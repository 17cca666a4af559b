-- Where the rules aren't broken no combinational method stands on a cycle, so that they have an order.
use Rattle.std.proofs.Common.{◌≡◌, ◌<◌, ◌≤◌, ℕ, zero, suc, Bool, true, false, not, ◌&&◌, ◌||◌, nat_eq, List, [], ◌∷◌, ◌++◌, length, filter, cond, None, refl, sym, ap, ◌∙◌, subst, arith, ◌⊎◌, inl, inr}
use Rattle.std.specs.List.{list_all, range_with_len}
use Rattle.std.proofs.lemmas.List.Folds.{list_any-append}
use Rattle.std.proofs.lemmas.Option.{slice_get_within}
use Rattle.scc_core_spec.specs.Feeding.{Feeds, Reaches, one, more, reaches, reaches_in, feeds, is_method, methods, ready, IsOrderFrom, done, next, IsOrder}
use Rattle.scc_core_spec.specs.Clashes.{live_acts}
use Rattle.scc_core_spec.specs.IsResolved.{IsResolved}
use Rattle.scc_core_spec.specs.Program.{Program, Process, is_held}
use Rattle.scc_core_spec.specs.Rules.{first_rule}
use Rattle.scc_core_spec.specs.Uses.{among, cells_of, has_sort, reads_of}
use Rattle.scc_blocks_spec.specs.Passed.{all_reads}
use Rattle.scc_core_effect_laws.specs.Ordering.{HasOrder}
use Rattle.scc_core_effect_laws.proofs.Unsure.{flat-in}
use Rattle.scc_core_resolved_laws.proofs.Sounds.{named-held}
use Rattle.scc_core_effect_laws.proofs.Names.{and-first, and-second, and-both, or-left, or-right, true-false}
use Rattle.scc_core_laws.proofs.Rules.{no-loop, method-at}

or-two : (a b : Bool) → (a || b) ≡ true → (a ≡ true) ⊎ (b ≡ true)
or-two true b e = inl refl
or-two false b e = inr e

equal : (m n : ℕ) → nat_eq m n ≡ true → m ≡ n
equal m n e = grind arith

itself : (n : ℕ) → nat_eq n n ≡ true
itself n = grind arith

-- ---- where each of some has one of them before it, one stands on a cycle

joined : {f : Feeds} {i j k : ℕ} → Reaches f i j → Reaches f j k → Reaches f i k
joined (one i j e) r = more i j e r
joined (more i j e q) r = more i j e (joined q r)

-- directly, or over x
abbrev over : Feeds → ℕ → Feeds
over f x a b = f a b || (f a x && f x b)

over-step : (f : Feeds) (x i j : ℕ) → over f x i j ≡ true → Reaches f i j
over-step f x i j e = by (or-two (f i j) (f i x && f x j) e)
  where
    by : (f i j ≡ true) ⊎ ((f i x && f x j) ≡ true) → Reaches f i j
    by (inl h) = one i j h
    by (inr h) = more i x (and-first (f i x) (f x j) h) (one x j (and-second (f i x) (f x j) h))

over-reaches : (f : Feeds) (x : ℕ) {i j : ℕ} → Reaches (over f x) i j → Reaches f i j
over-reaches f x (one i j e) = over-step f x i j e
over-reaches f x (more i j e r) = joined (over-step f x i j e) (over-reaches f x r)

abbrev HasBefore : Feeds → List ℕ → Type 0
HasBefore f xs = (i : ℕ) → among i xs ≡ true → (j : ℕ) × (among j xs ≡ true) × (f j i ≡ true)

cycle : (xs : List ℕ) (f : Feeds) (i : ℕ) → among i xs ≡ true → HasBefore f xs → (k : ℕ) × (among k xs ≡ true) × Reaches f k k
cycle [] f i h b = true-false (sym h)
cycle (x ∷ ys) f i h b = by (b x here) (λ g j m q. cycle ys g j m q)
  where
    here : (nat_eq x x || among x ys) ≡ true
    here = or-left (nat_eq x x) (among x ys) (itself x)

    by : (j : ℕ) × ((nat_eq j x || among j ys) ≡ true) × (f j x ≡ true) → ((g : Feeds) (j : ℕ) → among j ys ≡ true → HasBefore g ys → (k : ℕ) × (among k ys ≡ true) × Reaches g k k) → (k : ℕ) × ((nat_eq k x || among k ys) ≡ true) × Reaches f k k
    by u rest = which (or-two (nat_eq u.0 x) (among u.0 ys) u.1)
      where
        which : (nat_eq u.0 x ≡ true) ⊎ (among u.0 ys ≡ true) → (k : ℕ) × ((nat_eq k x || among k ys) ≡ true) × Reaches f k k
        which (inl e) = (x, here, one x x (subst (λ j. f j x ≡ true) (equal u.0 x e) u.2))
        which (inr m) = let c = rest (over f x) u.0 m before in (c.0, or-right (nat_eq c.0 x) (among c.0 ys) c.1, over-reaches f x c.2)
          where
            before : HasBefore (over f x) ys
            before c n = at (b c (or-right (nat_eq c x) (among c ys) n))
              where
                at : (d : ℕ) × ((nat_eq d x || among d ys) ≡ true) × (f d c ≡ true) → (d : ℕ) × (among d ys ≡ true) × (over f x d c ≡ true)
                at v = choose (or-two (nat_eq v.0 x) (among v.0 ys) v.1)
                  where
                    choose : (nat_eq v.0 x ≡ true) ⊎ (among v.0 ys ≡ true) → (d : ℕ) × (among d ys ≡ true) × (over f x d c ≡ true)
                    choose (inl e) = (u.0, m, or-right (f u.0 c) (f u.0 x && f x c) (and-both (f u.0 x) (f x c) u.2 (subst (λ d. f d c ≡ true) (equal v.0 x e) v.2)))
                    choose (inr k) = (v.0, k, or-left (f v.0 c) (f v.0 x && f x c) v.2)

-- ---- lists

filter-in : (t : ℕ → Bool) (xs : List ℕ) (k : ℕ) → among k (filter t xs) ≡ true → (among k xs ≡ true) × (t k ≡ true)
filter-in t [] k h = true-false (sym h)
filter-in t (x ∷ xs) k h = by (t x) refl h (filter-in t xs k)
  where
    by : (b : Bool) → t x ≡ b → among k (cond b (x ∷ filter t xs) (filter t xs)) ≡ true → (among k (filter t xs) ≡ true → (among k xs ≡ true) × (t k ≡ true)) → ((nat_eq k x || among k xs) ≡ true) × (t k ≡ true)
    by true e h rest = which (or-two (nat_eq k x) (among k (filter t xs)) h)
      where
        which : (nat_eq k x ≡ true) ⊎ (among k (filter t xs) ≡ true) → ((nat_eq k x || among k xs) ≡ true) × (t k ≡ true)
        which (inl m) = (or-left (nat_eq k x) (among k xs) m, ap t (equal k x m) ∙ e)
        which (inr m) = let r = rest m in (or-right (nat_eq k x) (among k xs) r.0, r.1)
    by false e h rest = let r = rest h in (or-right (nat_eq k x) (among k xs) r.0, r.1)

in-filter : (t : ℕ → Bool) (xs : List ℕ) (k : ℕ) → among k xs ≡ true → t k ≡ true → among k (filter t xs) ≡ true
in-filter t [] k h e = true-false (sym h)
in-filter t (x ∷ xs) k h e = by (t x) refl (or-two (nat_eq k x) (among k xs) h) (λ m. in-filter t xs k m e)
  where
    by : (b : Bool) → t x ≡ b → (nat_eq k x ≡ true) ⊎ (among k xs ≡ true) → (among k xs ≡ true → among k (filter t xs) ≡ true) → among k (cond b (x ∷ filter t xs) (filter t xs)) ≡ true
    by true g (inl m) rest = or-left (nat_eq k x) (among k (filter t xs)) m
    by true g (inr m) rest = or-right (nat_eq k x) (among k (filter t xs)) (rest m)
    by false g (inl m) rest = true-false (sym (sym g ∙ (ap t (sym (equal k x m)) ∙ e)))
    by false g (inr m) rest = rest m

fewer : (t u : ℕ → Bool) (xs : List ℕ) → ((k : ℕ) → u k ≡ true → t k ≡ true) → length (filter u xs) ≤ length (filter t xs)
fewer t u [] h = omega arith
fewer t u (x ∷ xs) h = by (t x) refl (u x) refl (fewer t u xs h)
  where
    by : (a : Bool) → t x ≡ a → (b : Bool) → u x ≡ b → length (filter u xs) ≤ length (filter t xs) → length (cond b (x ∷ filter u xs) (filter u xs)) ≤ length (cond a (x ∷ filter t xs) (filter t xs))
    by true e true g l = omega (arith, l)
    by true e false g l = omega (arith, l)
    by false e true g l = true-false (sym (sym e ∙ h x g))
    by false e false g l = l

less : (t u : ℕ → Bool) (xs : List ℕ) (i : ℕ) → ((k : ℕ) → u k ≡ true → t k ≡ true) → among i xs ≡ true → t i ≡ true → u i ≡ false → length (filter u xs) < length (filter t xs)
less t u [] i h m e g = true-false (sym m)
less t u (x ∷ xs) i h m e g = by (t x) refl (u x) refl (or-two (nat_eq i x) (among i xs) m) (fewer t u xs h) (λ m. less t u xs i h m e g)
  where
    by : (a : Bool) → t x ≡ a → (b : Bool) → u x ≡ b → (nat_eq i x ≡ true) ⊎ (among i xs ≡ true) → length (filter u xs) ≤ length (filter t xs) → (among i xs ≡ true → length (filter u xs) < length (filter t xs))
        → length (cond b (x ∷ filter u xs) (filter u xs)) < length (cond a (x ∷ filter t xs) (filter t xs))
    by true p true q (inl n) l rest = true-false (sym (sym g ∙ (ap u (equal i x n) ∙ q)))
    by true p true q (inr n) l rest = let r = rest n in omega (arith, r)
    by true p false q n l rest = omega (arith, l)
    by false p true q n l rest = true-false (sym (sym p ∙ h x q))
    by false p false q (inl n) l rest = true-false (sym (sym p ∙ (ap t (sym (equal i x n)) ∙ e)))
    by false p false q (inr n) l rest = rest n

some-fails : (t : ℕ → Bool) (xs : List ℕ) → list_all t xs ≡ false → (j : ℕ) × (among j xs ≡ true) × (t j ≡ false)
some-fails t [] h = true-false h
some-fails t (x ∷ xs) h = by (t x) refl h (some-fails t xs)
  where
    by : (b : Bool) → t x ≡ b → (b && list_all t xs) ≡ false → (list_all t xs ≡ false → (j : ℕ) × (among j xs ≡ true) × (t j ≡ false)) → (j : ℕ) × ((nat_eq j x || among j xs) ≡ true) × (t j ≡ false)
    by true e h rest = let r = rest h in (r.0, or-right (nat_eq r.0 x) (among r.0 xs) r.1, r.2)
    by false e h rest = (x, or-left (nat_eq x x) (among x xs) (itself x), e)

abbrev Least : (ℕ → Bool) → ℕ → Type 0
Least t n = (i : ℕ) × (i < n) × (t i ≡ true) × ((k : ℕ) → k < i → t k ≡ false)

least : (t : ℕ → Bool) (n : ℕ) → Least t n ⊎ ((k : ℕ) → k < n → t k ≡ false)
least t zero = inr (λ k l. absurd (omega (arith, l)))
least t (suc n) = by (least t n)
  where
    by : Least t n ⊎ ((k : ℕ) → k < n → t k ≡ false) → Least t (suc n) ⊎ ((k : ℕ) → k < suc n → t k ≡ false)
    by (inl u) = inl (u.0, (let l = u.1 in omega (arith, l)), u.2, u.3)
    by (inr none) = last (t n) refl
      where
        last : (b : Bool) → t n ≡ b → Least t (suc n) ⊎ ((k : ℕ) → k < suc n → t k ≡ false)
        last true e = inl (n, omega arith, e, none)
        last false e = inr (λ k l. here k l (nat_eq k n) refl)
          where
            here : (k : ℕ) → k < suc n → (b : Bool) → nat_eq k n ≡ b → t k ≡ false
            here k l true q = ap t (equal k n q) ∙ e
            here k l false q = none k (grind (arith, q, l))

-- ---- an order

module _ (f : Feeds) (all : List ℕ) (n : ℕ) (below : (k : ℕ) → among k all ≡ true → k < n) (acyclic : (k : ℕ) → Reaches f k k → ⊥) where
  abbrev unplaced : List ℕ → ℕ → Bool
  unplaced placed k = not (among k placed)

  abbrev stands : List ℕ → ℕ → ℕ → Bool
  stands placed i j = nat_eq i j || (not (f j i) || among j placed)

  -- of methods that aren't placed, one is ready
  stuck : (placed : List ℕ) (i : ℕ) → among i all ≡ true → among i placed ≡ false → ((k : ℕ) → among k all ≡ true → ready f all placed k ≡ false) → ⊥
  stuck placed i a u none = let c = cycle (filter (unplaced placed) all) f i (in-filter (unplaced placed) all i a (ap not u)) before in acyclic c.0 c.2
    where
      three : (a b c : Bool) → (a || (not b || c)) ≡ false → (b ≡ true) × (c ≡ false)
      three true b c e = true-false e
      three false true c e = (refl, e)
      three false false c e = true-false e

      second : (a b : Bool) → (a && b) ≡ false → a ≡ true → b ≡ false
      second true b e h = e
      second false b e h = true-false (sym h)

      before : HasBefore f (filter (unplaced placed) all)
      before k m =
          let r = filter-in (unplaced placed) all k m in
          let j = some-fails (stands placed k) all (second (unplaced placed k) (list_all (stands placed k) all) (none k r.0) r.1) in
          let t = three (nat_eq k j.0) (f j.0 k) (among j.0 placed) j.2 in
          (j.0, in-filter (unplaced placed) all j.0 j.1 (ap not t.1), t.0)

  abbrev next-test : List ℕ → ℕ → Bool
  next-test placed k = among k all && ready f all placed k

  placed-all : (placed : List ℕ) → ((k : ℕ) → k < n → next-test placed k ≡ false) → (i : ℕ) → among i all ≡ true → (b : Bool) → among i placed ≡ b → among i placed ≡ true
  placed-all placed none i a true e = e
  placed-all placed none i a false e = absurd (stuck placed i a e (λ k h. ap (λ b. b && ready f all placed k) (sym h) ∙ none k (below k h)))

  fewer-left : (placed : List ℕ) (i : ℕ) → among i all ≡ true → unplaced placed i ≡ true → length (filter (unplaced (placed ++ i ∷ [])) all) < length (filter (unplaced placed) all)
  fewer-left placed i a o = less (unplaced placed) (unplaced (placed ++ i ∷ [])) all i (λ k h. still k h) a o (ap not (list_any-append (nat_eq i) placed (i ∷ []) ∙ or-right (among i placed) (nat_eq i i || false) (or-left (nat_eq i i) false (itself i))))
    where
      still : (k : ℕ) → unplaced (placed ++ i ∷ []) k ≡ true → unplaced placed k ≡ true
      still k h = first (among k placed) (among k (i ∷ [])) (ap not (sym (list_any-append (nat_eq k) placed (i ∷ []))) ∙ h)
        where
          first : (a b : Bool) → not (a || b) ≡ true → not a ≡ true
          first true b e = e
          first false b e = refl

  -- the least that is ready stands next
  from : (m : ℕ) (placed : List ℕ) → length (filter (unplaced placed) all) < m → (rest : List ℕ) × IsOrderFrom f all placed rest
  from zero placed short = absurd (omega (arith, short))
  from (suc m) placed short = by (least (next-test placed) n) (λ placed short. from m placed short)
    where
      by : Least (next-test placed) n ⊎ ((k : ℕ) → k < n → next-test placed k ≡ false)
          → ((placed : List ℕ) → length (filter (unplaced placed) all) < m → (rest : List ℕ) × IsOrderFrom f all placed rest) → (rest : List ℕ) × IsOrderFrom f all placed rest
      by (inr none) rec = ([], done placed (λ i a. placed-all placed none i a (among i placed) refl))
      by (inl u) rec =
          let a = and-first (among u.0 all) (ready f all placed u.0) u.2 in
          let r = and-second (among u.0 all) (ready f all placed u.0) u.2 in
          let l = fewer-left placed u.0 a (and-first (unplaced placed u.0) (list_all (stands placed u.0) all) r) in
          let rest = rec (placed ++ u.0 ∷ []) (omega (arith, l, short)) in
          (u.0 ∷ rest.0, next placed u.0 a r (λ k l h. ap (λ b. b && ready f all placed k) (sym h) ∙ u.3 k l) rest.1)

  pub in-order : (rest : List ℕ) × IsOrderFrom f all [] rest
  in-order = from (suc (length (filter (unplaced []) all))) [] (omega arith)

-- ---- no cycle of methods

-- a path over numbers below n
data Path (f : Feeds) (n : ℕ) : ℕ → ℕ → Type 0 where
  step : (i j : ℕ) → f i j ≡ true → Path f n i j
  via : {k : ℕ} → (i j : ℕ) → f i j ≡ true → j < n → Path f n j k → Path f n i k

to-path : (f : Feeds) (n : ℕ) → ((a b : ℕ) → f a b ≡ true → b < n) → {i j : ℕ} → Reaches f i j → Path f n i j
to-path f n h (one i j e) = step i j e
to-path f n h (more i j e r) = via i j e (h i j e) (to-path f n h r)

split : (f : Feeds) (n i k : ℕ) → Path f (suc n) i k → Path f n i k ⊎ (Path f n i n × Path f n n k)
split f n i k (step a b e) = inl (step a b e)
split f n i k (via a j e l r) = by (split f n j k r) (nat_eq j n) refl
  where
    by : Path f n j k ⊎ (Path f n j n × Path f n n k) → (b : Bool) → nat_eq j n ≡ b → Path f n a k ⊎ (Path f n a n × Path f n n k)
    by (inl p) true q = inr (subst (Path f n a) (equal j n q) (step a j e), subst (λ m. Path f n m k) (equal j n q) p)
    by (inr p) true q = inr (subst (Path f n a) (equal j n q) (step a j e), p.1)
    by (inl p) false q = inl (via a j e (grind (arith, q, l)) p)
    by (inr p) false q = inr (via a j e (grind (arith, q, l)) p.0, p.1)

complete : (f : Feeds) (n i k : ℕ) → Path f n i k → reaches f n i k ≡ true
complete f zero i k (step a b e) = e
complete f zero i k (via a j e l r) = absurd (omega (arith, l))
complete f (suc n) i k p = by (split f n i k p) (λ i k p. complete f n i k p)
  where
    by : Path f n i k ⊎ (Path f n i n × Path f n n k) → ((i k : ℕ) → Path f n i k → reaches f n i k ≡ true) → (reaches f n i k || (reaches f n i n && reaches f n n k)) ≡ true
    by (inl p) all = or-left (reaches f n i k) (reaches f n i n && reaches f n n k) (all i k p)
    by (inr p) all = or-right (reaches f n i k) (reaches f n i n && reaches f n n k) (and-both (reaches f n i n) (reaches f n n k) (all i n p.0) (all n k p.1))

module _ (p : Program) (none : first_rule p ≡ None) where
  method-below : (k : ℕ) → is_method p k ≡ true → k < length p.processes
  method-below k e = let q = method-at p none k e in slice_get_within p.processes k q.0 q.1

  fed-method : (a b : ℕ) → feeds p a b ≡ true → is_method p b ≡ true
  fed-method a b e = and-first (is_method p b) _ (and-second (is_method p a) _ e)

  within-all : {i j : ℕ} → Reaches (feeds p) i j → reaches_in p i j ≡ true
  within-all {i} {j} r = complete (feeds p) (length p.processes) i j (to-path (feeds p) (length p.processes) (λ a b e. method-below b (fed-method a b e)) r)

  -- the first step of a cycle
  first-step : (i k : ℕ) → Reaches (feeds p) i k → (j : ℕ) × (feeds p i j ≡ true) × ((nat_eq j k || reaches_in p j k) ≡ true)
  first-step i k (one a b e) = (b, e, or-left (nat_eq b b) (reaches_in p b b) (itself b))
  first-step i k (more a j e r) = (j, e, or-right (nat_eq j k) (reaches_in p j k) (within-all r))

  pub no-cycle : (i : ℕ) → Reaches (feeds p) i i → ⊥
  no-cycle i r = let s = first-step i i r in no-loop p none i s.0 s.1 (within-all r) s.2

  method-there : (k : ℕ) → among k (methods p) ≡ true → k < length p.processes
  method-there k h = method-below k (filter-in (is_method p) (range_with_len 0 (length p.processes)) k h).1

  -- the methods have an order
  pub order-there : (order : List ℕ) × IsOrder p order
  order-there = in-order (feeds p) (methods p) (length p.processes) method-there no-cycle

  pub has-order : IsResolved p → (order : List ℕ) × HasOrder p order
  has-order core = (order-there.0, record { stands = order-there.1; reads_held = λ i c q here h. held q c h })
    where
      held : (q : Process) (c : ℕ) → among c (all_reads p.cells q) ≡ true → has_sort is_held p.cells c ≡ true
      held q c h =
          let a = flat-in (reads_of p.cells) c (live_acts p.cells q) h in
          let u = flat-in (λ u. cells_of p.cells u.left) c a.1.reads a.3 in
          named-held p core q u.1.left c u.3
