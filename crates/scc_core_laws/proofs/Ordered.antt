-- Combinational methods that have an order settle.
use Rattle.std.proofs.Common.{◌≡◌, ℕ, zero, suc, ◌+◌, ◌<◌, ◌≤◌, Bool, true, false, not, ◌&&◌, ◌||◌, nat_eq, List, [], ◌∷◌, ◌++◌, length, filter, cond, Option, Some, None, refl, sym, ap, ◌∙◌, subst, arith, if◌then◌else◌, slice_get, ◌⊎◌, inl, inr}
use Rattle.std.specs.Prelude.{option_map, unwrap_or, is_some}
use Rattle.std.specs.List.{list_all, range_with_len}
use Rattle.std.proofs.lemmas.List.Folds.{list_any-append}
use Rattle.std.proofs.lemmas.Option.{slice_get_within}
use Rattle.scc_semantics.specs.Process.{State}
use Rattle.scc_semantics.specs.Process as process
use Rattle.scc_core_spec.specs.Program as program
use Rattle.scc_core_spec.specs.Program.{Program, Process, Edge, is_root, is_number, is_held, is_combinational, is_combinational_by}
use Rattle.scc_core_spec.specs.Static.{Cells}
use Rattle.scc_core_spec.specs.Uses.{has_sort, among}
use Rattle.scc_core_spec.specs.Kept.{written_by}
use Rattle.scc_core_spec.specs.Feeding.{reads_in, writes_in, is_method, methods, feeds, ready, IsOrderFrom, done, next}
use Rattle.scc_core_spec.specs.Source.{Home}
use Rattle.scc_blocks_spec.specs.Acting.{latest}
use Rattle.scc_blocks_spec.specs.Passed.{all_reads}
use Rattle.scc_blocks_spec.specs.Turns.{Regs, Taking, turn, taken_from, acted, rounds, settled}
use Rattle.scc_blocks_spec.specs.Tied.{Tied}
use Rattle.scc_core_effect_laws.specs.Follows.{IsSoundCore, Obeys, Does, Tracks}
use Rattle.scc_core_effect_laws.specs.Ordering.{IsOrdered, IsSettled}
use Rattle.scc_core_effect_laws.proofs.Names.{and-first, and-second, and-both, or-left, or-right, some-same, none-some, true-false}
use Rattle.scc_core_effect_laws.proofs.Unsure.{is-false, has-sort}
use Rattle.scc_core_effect_laws.proofs.Told.{any-true}
use Rattle.scc_core_laws.proofs.Phases.{keeps-it, word-is-held}
use Rattle.scc_core_laws.proofs.Settling.{combines, rounds-come}
use Rattle.scc_core_laws.proofs.Asking.{same-asked, tied-answers}

-- rounds one after another
rounds-more : (p : Program) (n : ℕ) (g : Regs) → rounds p (suc n) g ≡ acted p (λ i q. is_combinational q) (rounds p n g)
rounds-more p zero g = refl
rounds-more p (suc n) g = rounds-more p n (acted p (λ i q. is_combinational q) g)

-- what a cell takes from its one writer, and what a cell keeps that none writes
pub taken-one : (p : Program) (takes : Taking) (g : Regs) (qs : List Process) (n j : ℕ) (q : Process) (c : ℕ) → slice_get qs j ≡ Some q → takes (n + j) q ≡ true → among c (written_by p.cells q) ≡ true
    → ((k : ℕ) (r : Process) → slice_get qs k ≡ Some r → among c (written_by p.cells r) ≡ true → k ≡ j) → taken_from p takes g n qs c ≡ unwrap_or (option_map (λ l. latest l.acting c) (turn p (n + j) q g)) (g.word c)
taken-one p takes g [] n j q c e t w one = none-some q e
taken-one p takes g (r ∷ qs) n zero q c e t w one =
    let same = some-same r q e in
    ap (λ b. if b then unwrap_or (option_map (λ l. latest l.acting c) (turn p n r g)) (g.word c) else taken_from p takes g (suc n) qs c)
    (and-both (takes n r) (among c (written_by p.cells r)) ((λ i. takes (from i) (same i)) ∙ t) (ap (λ r. among c (written_by p.cells r)) same ∙ w))
    ∙ (λ i. unwrap_or (option_map (λ l. latest l.acting c) (turn p (from i) (same i) g)) (g.word c))
  where
    from : n ≡ n + 0
    from = omega arith
taken-one p takes g (r ∷ qs) n (suc j) q c e t w one =
    ap (λ b. if b then unwrap_or (option_map (λ l. latest l.acting c) (turn p n r g)) (g.word c) else taken_from p takes g (suc n) qs c) (no-and (takes n r) (among c (written_by p.cells r)) free)
    ∙ taken-one p takes g qs (suc n) j q c e (ap (λ m. takes m q) from ∙ t) w (λ k y f v. less k (one (suc k) y f v))
    ∙ ap (λ m. unwrap_or (option_map (λ l. latest l.acting c) (turn p m q g)) (g.word c)) from
  where
    from : suc n + j ≡ n + suc j
    from = omega arith

    less : (k : ℕ) → suc k ≡ suc j → k ≡ j
    less k h = omega (arith, h)

    no-and : (a b : Bool) → b ≡ false → (a && b) ≡ false
    no-and true b h = h
    no-and false b h = refl

    free : among c (written_by p.cells r) ≡ false
    free = is-false _ (λ v. absurd (let h = one 0 r refl v in grind (arith, h)))

pub taken-none : (p : Program) (takes : Taking) (g : Regs) (qs : List Process) (n c : ℕ) → ((k : ℕ) (r : Process) → slice_get qs k ≡ Some r → takes (n + k) r ≡ true → among c (written_by p.cells r) ≡ true → ⊥)
    → taken_from p takes g n qs c ≡ g.word c
taken-none p takes g [] n c h = refl
taken-none p takes g (r ∷ qs) n c h =
    ap (λ b. if b then unwrap_or (option_map (λ l. latest l.acting c) (turn p n r g)) (g.word c) else taken_from p takes g (suc n) qs c) (is-false _ (λ e. h 0 r refl (ap (λ m. takes m r) from ∙ and-first (takes n r) _ e) (and-second (takes n r) _ e)))
    ∙ taken-none p takes g qs (suc n) c (λ k y f t w. h (suc k) y f (ap (λ m. takes m y) (later k) ∙ t) w)
  where
    from : n + 0 ≡ n
    from = omega arith

    later : (k : ℕ) → n + suc k ≡ suc n + k
    later k = omega arith

pub all-at : (test : ℕ → Bool) (xs : List ℕ) (k : ℕ) → list_all test xs ≡ true → among k xs ≡ true → test k ≡ true
all-at test [] k e a = true-false (sym a)
all-at test (x ∷ xs) k e a = by (nat_eq k x) refl a (λ h. all-at test xs k (and-second (test x) _ e) h)
  where
    equal : nat_eq k x ≡ true → k ≡ x
    equal h = grind arith

    by : (b : Bool) → nat_eq k x ≡ b → (b || among k xs) ≡ true → (among k xs ≡ true → test k ≡ true) → test k ≡ true
    by true h a more = ap test (equal h) ∙ and-first (test x) _ e
    by false h a more = more a

in-range : (test : ℕ → Bool) (n a k : ℕ) → test (a + k) ≡ true → k < n → among (a + k) (filter test (range_with_len a n)) ≡ true
in-range test zero a k t l = absurd (let h = l in grind (arith, h))
in-range test (suc n) a zero t l =
    ap (λ b. among (a + 0) (cond b (a ∷ filter test (range_with_len (a + 1) n)) (filter test (range_with_len (a + 1) n)))) (ap test from ∙ t) ∙ or-left (nat_eq (a + 0) a) _ here
  where
    from : a ≡ a + 0
    from = omega arith

    here : nat_eq (a + 0) a ≡ true
    here = grind arith
in-range test (suc n) a (suc k) t l = by (test a) (in-range test n (a + 1) k (ap test (sym from) ∙ t) (omega (arith, l)))
  where
    from : a + suc k ≡ (a + 1) + k
    from = omega arith

    by : (b : Bool) → among ((a + 1) + k) (filter test (range_with_len (a + 1) n)) ≡ true → among (a + suc k) (cond b (a ∷ filter test (range_with_len (a + 1) n)) (filter test (range_with_len (a + 1) n))) ≡ true
    by true h = or-right (nat_eq (a + suc k) a) _ (ap (λ m. among m (filter test (range_with_len (a + 1) n))) from ∙ h)
    by false h = ap (λ m. among m (filter test (range_with_len (a + 1) n))) from ∙ h

pub in-methods : (p : Program) (j : ℕ) (r : Process) → slice_get p.processes j ≡ Some r → is_combinational r ≡ true → among j (methods p) ≡ true
in-methods p j r e c =
    subst (λ n. among n (methods p) ≡ true) from (in-range (is_method p) (length p.processes) 0 j (ap (is_method p) from ∙ ap (λ o. unwrap_or (option_map is_combinational o) false) e ∙ c) (slice_get_within p.processes j r e))
  where
    from : 0 + j ≡ j
    from = omega arith

module _ (home : Home) (p : Program) (resolved : IsSoundCore home p) (obeys : Obeys p) (bounds : ℕ → ℕ) (does : Does home p bounds) (tracks : Tracks home p bounds) (order : List ℕ) (ordered : IsOrdered p order) where
  abbrev cs : Cells
  cs = p.cells

  abbrev combs : Taking
  combs i q = is_combinational q

  -- the next round gives a root what its method asks
  pub written-next : (g : Regs) (i x : ℕ) (q : Process) → slice_get p.processes i ≡ Some q → is_combinational q ≡ true → has_sort is_root cs x ≡ true → among x (written_by cs q) ≡ true
      → (acted p combs g).word x ≡ unwrap_or (option_map (λ l. latest l.acting x) (turn p i q g)) (g.word x)
  written-next g i x q here comb root w =
      taken-one p combs g p.processes 0 i q x here comb w (λ k r f v. obeys.writers k i x r q f here root v w) ∙ ap (λ m. unwrap_or (option_map (λ l. latest l.acting x) (turn p m q g)) (g.word x)) from
    where
      from : 0 + i ≡ i
      from = omega arith

  method-is : (i : ℕ) (q : Process) → slice_get p.processes i ≡ Some q → is_method p i ≡ is_combinational q
  method-is i q e = ap (λ o. unwrap_or (option_map is_combinational o) false) e

  reads-are : (i : ℕ) (q : Process) → slice_get p.processes i ≡ Some q → reads_in p i ≡ all_reads cs q
  reads-are i q e = ap (λ o. unwrap_or (option_map (all_reads cs) o) []) e

  writes-are : (i : ℕ) (q : Process) → slice_get p.processes i ≡ Some q → writes_in p i ≡ written_by cs q
  writes-are i q e = ap (λ o. unwrap_or (option_map (written_by cs) o) []) e

  pub feeds-is : (i j x : ℕ) (q r : Process) → slice_get p.processes i ≡ Some q → slice_get p.processes j ≡ Some r → is_combinational q ≡ true → is_combinational r ≡ true → has_sort is_root cs x ≡ true
      → among x (written_by cs q) ≡ true → among x (all_reads cs r) ≡ true → feeds p i j ≡ true
  feeds-is i j x q r e f a b root w v =
      and-both (is_method p i) _ (method-is i q e ∙ a) (and-both (is_method p j) _ (method-is j r f ∙ b)
      (any-true (λ x. has_sort is_root cs x && among x (reads_in p j)) x (writes_in p i) (ap (among x) (writes-are i q e) ∙ w) (and-both (has_sort is_root cs x) _ root (ap (among x) (reads-are j r f) ∙ v))))

  -- either a combinational method writes it, or none does
  pub writer-or : (x : ℕ) → ((j : ℕ) × (r : Process) × (slice_get p.processes j ≡ Some r) × (is_combinational r ≡ true) × (among x (written_by cs r) ≡ true))
      ⊎ ((j : ℕ) (r : Process) → slice_get p.processes j ≡ Some r → is_combinational r ≡ true → among x (written_by cs r) ≡ true → ⊥)
  writer-or x = find p.processes
    where
      find : (qs : List Process) → ((j : ℕ) × (r : Process) × (slice_get qs j ≡ Some r) × (is_combinational r ≡ true) × (among x (written_by cs r) ≡ true))
          ⊎ ((j : ℕ) (r : Process) → slice_get qs j ≡ Some r → is_combinational r ≡ true → among x (written_by cs r) ≡ true → ⊥)
      find [] = inr (λ j r e c w. none-some r e)
      find (q ∷ qs) = by (is_combinational q && among x (written_by cs q)) refl (find qs)
        where
          by : (b : Bool) → (is_combinational q && among x (written_by cs q)) ≡ b
              → ((j : ℕ) × (r : Process) × (slice_get qs j ≡ Some r) × (is_combinational r ≡ true) × (among x (written_by cs r) ≡ true)) ⊎ ((j : ℕ) (r : Process) → slice_get qs j ≡ Some r → is_combinational r ≡ true → among x (written_by cs r) ≡ true → ⊥)
              → ((j : ℕ) × (r : Process) × (slice_get (q ∷ qs) j ≡ Some r) × (is_combinational r ≡ true) × (among x (written_by cs r) ≡ true)) ⊎ ((j : ℕ) (r : Process) → slice_get (q ∷ qs) j ≡ Some r → is_combinational r ≡ true → among x (written_by cs r) ≡ true → ⊥)
          by true h more = inl (zero, q, refl, and-first (is_combinational q) _ h, and-second (is_combinational q) _ h)
          by false h (inl m) = inl (suc m.0, m.1, m.2, m.3, m.4)
          by false h (inr m) = inr none
            where
              none : (j : ℕ) (r : Process) → slice_get (q ∷ qs) j ≡ Some r → is_combinational r ≡ true → among x (written_by cs r) ≡ true → ⊥
              none zero r e c w = let same = some-same q r e in true-false (sym (and-both _ _ (ap is_combinational same ∙ c) (ap (λ r. among x (written_by cs r)) same ∙ w)) ∙ h)
              none (suc j) r e c w = m j r e c w

  unwritten-stays : (g : Regs) (x : ℕ) → ((j : ℕ) (r : Process) → slice_get p.processes j ≡ Some r → is_combinational r ≡ true → among x (written_by cs r) ≡ true → ⊥) → (acted p combs g).word x ≡ g.word x
  unwritten-stays g x h = taken-none p combs g p.processes 0 x (λ k r e c w. h k r e c w)

  module _ (s : State) (g : Regs) (tied : Tied home p s g) where
    abbrev at-round : ℕ → Regs
    at-round n = rounds p n g

    tied-at : (n : ℕ) → (t : State) × Tied home p t (at-round n)
    tied-at n = let c = rounds-come home p resolved obeys bounds does tracks n s g tied in (c.to, c.tied)

    -- after so many rounds the roots of these methods stay
    abbrev Stable : ℕ → List ℕ → Type 0
    Stable m placed = (n i x : ℕ) (q : Process) → m ≤ n → among i placed ≡ true → slice_get p.processes i ≡ Some q → is_combinational q ≡ true → has_sort is_root cs x ≡ true → among x (written_by cs q) ≡ true
        → (at-round (suc n)).word x ≡ (at-round n).word x

    -- one method more
    place-next : (m i : ℕ) (placed : List ℕ) → ready (feeds p) (methods p) placed i ≡ true → Stable m placed → Stable (suc m) (placed ++ i ∷ [])
    place-next m i placed r stable n j x q l a here comb root w = cases (nat_eq j i) refl
      where
        equal : nat_eq j i ≡ true → j ≡ i
        equal e = grind arith

        before : nat_eq j i ≡ false → among j placed ≡ true
        before e = by-last (among j placed) (sym (list_any-append (nat_eq j) placed (i ∷ [])) ∙ a)
          where
            by-last : (b : Bool) → (b || (nat_eq j i || false)) ≡ true → b ≡ true
            by-last true h = refl
            by-last false h = true-false (sym h ∙ ap (λ t. t || false) e)

        up : (n : ℕ) → suc m ≤ n → (k : ℕ) × (n ≡ suc k) × (m ≤ k)
        up zero l = absurd (let h = l in grind (arith, h))
        up (suc k) l = (k, refl, omega (arith, l))

        -- what this one reads stays already
        agree : (k : ℕ) → m ≤ k → j ≡ i → (c : ℕ) → among c (all_reads cs q) ≡ true → has_sort is_root cs c ≡ true → (at-round (suc k)).word c ≡ (at-round k).word c
        agree k h same c v root' = by (writer-or c)
          where
            by : (((z : ℕ) × (r : Process) × (slice_get p.processes z ≡ Some r) × (is_combinational r ≡ true) × (among c (written_by cs r) ≡ true))
                ⊎ ((z : ℕ) (r : Process) → slice_get p.processes z ≡ Some r → is_combinational r ≡ true → among c (written_by cs r) ≡ true → ⊥)) → (at-round (suc k)).word c ≡ (at-round k).word c
            by (inr none) = ap (λ g. g.word c) (rounds-more p k g) ∙ unwritten-stays (at-round k) c none
            by (inl y) = stable k y.0 c y.1 h placed-there y.2 y.3 root' y.4
              where
                fed : feeds p y.0 i ≡ true
                fed = ap (feeds p y.0) (sym same) ∙ feeds-is y.0 j c y.1 q y.2 here y.3 comb root' y.4 v

                placed-there : among y.0 placed ≡ true
                placed-there =
                    let all = all-at (λ z. nat_eq i z || (not (feeds p z i) || among z placed)) (methods p) y.0 (and-second (not (among i placed)) _ r) (in-methods p y.0 y.1 y.2 y.3) in
                    last (nat_eq i y.0) (feeds p y.0 i) (among y.0 placed) fed apart all
                  where
                    apart : nat_eq i y.0 ≡ false
                    apart = is-false _ (λ e. self-fed e)
                      where
                        same-index : nat_eq i y.0 ≡ true → y.0 ≡ i
                        same-index e = grind arith

                        self-fed : nat_eq i y.0 ≡ true → ⊥
                        self-fed e = true-false (sym (ap (λ z. feeds p z i) (sym (same-index e)) ∙ fed) ∙ ordered.no_self i)

                    last : (a b c : Bool) → b ≡ true → a ≡ false → (a || (not b || c)) ≡ true → c ≡ true
                    last true b c e f h = true-false f
                    last false true c e f h = h
                    last false false c e f h = true-false (sym e)

        cases : (b : Bool) → nat_eq j i ≡ b → (at-round (suc n)).word x ≡ (at-round n).word x
        cases false e = stable n j x q (omega (arith, l)) (before e) here comb root w
        cases true e =
            let k = up n l in
            let t = tied-at (suc k.0) in
            let u = tied-at k.0 in
            let step : (z : ℕ) → (at-round (suc z)).word x ≡ unwrap_or (option_map (λ l. latest l.acting x) (turn p j q (at-round z))) ((at-round z).word x)
            = λ z. ap (λ g. g.word x) (rounds-more p z g) ∙ written-next (at-round z) j x q here comb root w in
            subst (λ n. (at-round (suc n)).word x ≡ (at-round n).word x) (sym k.1)
            (step (suc k.0) ∙ same-asked home p resolved obeys bounds does tracks order ordered (at-round (suc k.0)) (at-round k.0) (tied-answers home p resolved obeys bounds does tracks order ordered t.0 (at-round (suc k.0)) t.1) (tied-answers home p resolved obeys bounds does tracks order ordered u.0 (at-round k.0) u.1) j x q here comb root w (agree k.0 k.2 (equal e)) ∙ sym (step k.0))

    abbrev AllStable : ℕ → Type 0
    AllStable m = (n i x : ℕ) (q : Process) → m ≤ n → slice_get p.processes i ≡ Some q → is_combinational q ≡ true → has_sort is_root cs x ≡ true → among x (written_by cs q) ≡ true → (at-round (suc n)).word x ≡ (at-round n).word x

    all-stable : {placed rest : List ℕ} (m : ℕ) → IsOrderFrom (feeds p) (methods p) placed rest → Stable m placed → AllStable (m + length rest)
    all-stable m (done placed h) stable = λ n i x q l here comb root w. stable n i x q (omega (arith, l)) (h i (in-methods p i q here comb)) here comb root w
    all-stable m (next {rest = rest} placed i a r least more) stable = λ n j x q l. all-stable (suc m) more (place-next m i placed r stable) n j x q (omega (arith, l))

    -- after as many rounds as the order is long the registers are settled
    pub settled-at : (n : ℕ) → length order ≤ n → IsSettled p (rounds p n g)
    settled-at n long c x e k = by (held-two x.sort (word-is-held p c x e k))
      where
        held-two : (s : program.Sort) → is_held s ≡ true → (is_root s ≡ true) ⊎ (is_number s ≡ true)
        held-two s e = by-root (is_root s) e
          where
            by-root : (b : Bool) → (b || is_number s) ≡ true → (b ≡ true) ⊎ (is_number s ≡ true)
            by-root true e = inl refl
            by-root false e = inr e

        enough : 0 + length order ≤ n
        enough = omega (arith, long)

        by : ((is_root x.sort ≡ true) ⊎ (is_number x.sort ≡ true)) → (acted p combs (at-round n)).word c ≡ (at-round n).word c
        by (inr number) = unwritten-stays (at-round n) c (λ j r here comb w.
            let kept = keeps-it home p resolved obeys bounds does tracks combs process.is_combinational (combines home p resolved obeys bounds does tracks) s g tied j c r x here e number k w in
            no-edge r.is_thread r.edge comb (and-first (is_some r.edge) _ kept))
          where
            no-edge : (t : Bool) (o : Option Edge) → is_combinational_by t o ≡ true → is_some o ≡ true → ⊥
            no-edge t None c s = true-false (sym s)
            no-edge true (Some d) c s = true-false (sym c)
            no-edge false (Some d) c s = true-false (sym c)
        by (inl o) = which (writer-or c)
          where
            which : (((z : ℕ) × (r : Process) × (slice_get p.processes z ≡ Some r) × (is_combinational r ≡ true) × (among c (written_by cs r) ≡ true))
                ⊎ ((z : ℕ) (r : Process) → slice_get p.processes z ≡ Some r → is_combinational r ≡ true → among c (written_by cs r) ≡ true → ⊥)) → (acted p combs (at-round n)).word c ≡ (at-round n).word c
            which (inr none) = unwritten-stays (at-round n) c none
            which (inl y) =
                sym (ap (λ g. g.word c) (rounds-more p n g))
                ∙ all-stable 0 ordered.stands (λ n i x q l a. true-false (sym a)) n y.0 c y.1 enough y.2 y.3 (has-sort is_root cs c x e ∙ o) y.4

    -- the registers that settled are settled
    pub settled-is : IsSettled p (settled p g)
    settled-is = settled-at (suc (length (filter is_combinational p.processes))) (omega (arith, ordered.short))
