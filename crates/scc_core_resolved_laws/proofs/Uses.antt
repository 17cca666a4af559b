-- What a location of a resolved core may name: cells that complete its pattern, and that pass what is tested of them.
use Rattle.std.proofs.Common.{◌≡◌, inl, inr, ◌⊎◌, ℕ, zero, suc, ◌+◌, Bool, true, false, not, nat_eq, List, [], ◌∷◌, ◌++◌, map, Option, Some, None, refl, sym, ap, subst, ◌∙◌, arith}
use Rattle.std.specs.Prelude.{nat_lt, slice_get, option_map, unwrap_or, ◌||◌, if◌then◌else◌}
use Rattle.scc_bits_kinds.specs.declared.kind.Kind.{Kind}
use Rattle.scc_core_spec.specs.Term.{Left, Cell, Prefix, Null, Follow, Member, Index, kind_of}
use Rattle.scc_core_spec.specs.Program as program
use Rattle.scc_core_spec.specs.Program.{is_pointer}
use Rattle.scc_core_spec.specs.Named.{Step, Named, At, Ours, Open, steps_of, names_cell, cell_at, cells_at, fits, is_open}
use Rattle.scc_core_spec.specs.Static.{Cells, grown, pattern, static, index_step}
use Rattle.scc_core_spec.specs.Uses.{root_of, cells_of, is_single, among}
use Rattle.scc_core_spec.specs.OpenNames.{agrees, open_name, all_agreeing, completes, all_named, is_sized}
use Rattle.scc_core_spec.specs.IsResolved.{cells_apart}
use Rattle.scc_core_effect_laws.specs.Sound.{Sized}
use Rattle.scc_states_laws.proofs.Values.{some_same, map_is}
use Rattle.scc_core_resolved_laws.proofs.Bools.{and-first, and-second, and-both, or-second, not-false, not-true, nat_eq-is, all-at}
use Rattle.scc_core_resolved_laws.proofs.Agreeing.{agrees-append, fits-is, fits-self, name-closed}
use Rattle.scc_core_resolved_laws.proofs.Cells.{one-cell, found-at, named-passes}
use Rattle.scc_core_resolved_laws.proofs.Writes.{or-cases}

among-in : (m : ℕ) (t : List Step) (cs : Cells) (n : ℕ) → among n (cells_at m t cs) ≡ true → (k : ℕ) × (x : program.Cell) × (n ≡ m + k) × (slice_get cs k ≡ Some x) × (names_cell false t x ≡ true)
among-in m t [] n h = absurd cc
among-in m t (c ∷ cs) n h = by (names_cell false t c) refl h (among-in (m + 1) t cs n)
  where
    by : (b : Bool) → names_cell false t c ≡ b → among n (if b then m ∷ cells_at (m + 1) t cs else cells_at (m + 1) t cs) ≡ true
        → (among n (cells_at (m + 1) t cs) ≡ true → (k : ℕ) × (x : program.Cell) × (n ≡ (m + 1) + k) × (slice_get cs k ≡ Some x) × (names_cell false t x ≡ true))
        → (k : ℕ) × (x : program.Cell) × (n ≡ m + k) × (slice_get (c ∷ cs) k ≡ Some x) × (names_cell false t x ≡ true)
    by true e h more = which (or-cases (nat_eq n m) (among n (cells_at (m + 1) t cs)) h)
      where
        which : (nat_eq n m ≡ true) ⊎ (among n (cells_at (m + 1) t cs) ≡ true) → (k : ℕ) × (x : program.Cell) × (n ≡ m + k) × (slice_get (c ∷ cs) k ≡ Some x) × (names_cell false t x ≡ true)
        which (inl f) = (0, c, (let q = nat_eq-is n m f in omega (arith, q)), refl, e)
        which (inr f) = let u = more f in (suc u.0, u.1, (let q = u.2 in omega (arith, q)), u.3, u.4)
    by false e h more = let u = more h in (suc u.0, u.1, (let q = u.2 in omega (arith, q)), u.3, u.4)

among-mapped : (f : ℕ → ℕ) (n : ℕ) (xs : List ℕ) → among n (map f xs) ≡ true → (m : ℕ) × (among m xs ≡ true) × (f m ≡ n)
among-mapped f n [] h = absurd cc
among-mapped f n (x ∷ xs) h = by (or-cases (nat_eq n (f x)) (among n (map f xs)) h) (among-mapped f n xs)
  where
    here : (nat_eq x x || among x xs) ≡ true
    here = grind arith

    later : (m : ℕ) → among m xs ≡ true → (nat_eq m x || among m xs) ≡ true
    later m e = cases (nat_eq m x)
      where
        cases : (b : Bool) → (b || among m xs) ≡ true
        cases true = refl
        cases false = e

    by : (nat_eq n (f x) ≡ true) ⊎ (among n (map f xs) ≡ true) → (among n (map f xs) ≡ true → (m : ℕ) × (among m xs ≡ true) × (f m ≡ n)) → (m : ℕ) × (among m (x ∷ xs) ≡ true) × (f m ≡ n)
    by (inl e) more = (x, here, sym (nat_eq-is n (f x) e))
    by (inr e) more = let u = more e in (u.0, later u.0 u.1, u.2)

-- a cell that a location names completes its pattern
pub cells-in : (cs : Cells) (l : Left) (c : ℕ) → among c (cells_of cs l) ≡ true → (t : List Step) × (k : ℕ) × (x : program.Cell) × (pattern cs l ≡ Some t) × (slice_get cs k ≡ Some x) × (names_cell false t x ≡ true) × (root_of cs k ≡ c)
cells-in cs l c h = by (pattern cs l) refl h
  where
    by : (o : Option (List Step)) → pattern cs l ≡ o → among c (unwrap_or (option_map (λ p. map (root_of cs) (cells_at 0 p cs)) o) []) ≡ true
        → (t : List Step) × (k : ℕ) × (x : program.Cell) × (pattern cs l ≡ Some t) × (slice_get cs k ≡ Some x) × (names_cell false t x ≡ true) × (root_of cs k ≡ c)
    by None e h = absurd cc
    by (Some t) e h =
        let m = among-mapped (root_of cs) c (cells_at 0 t cs) h in
        let u = among-in 0 t cs m.0 m.1 in
        let n : u.0 ≡ m.0 = let q = u.2 in omega (arith, q) in
        (t, u.0, u.1, e, u.3, u.4, ap (root_of cs) n ∙ m.2)

-- ---- a pattern's last step

past-last : (y z w : Step) (more : List Step) → fits (y ∷ []) (z ∷ w ∷ more) ≡ true → ⊥
past-last (Named n) (Named m) w more e = let f = and-second (nat_eq n m) false e in cc
past-last (At n) (At m) w more e = let f = and-second (nat_eq n m) false e in cc
past-last (Ours n) (Ours m) w more e = let f = and-second (nat_eq n m) false e in cc
past-last (Open n) (At m) w more e = let f = and-second (nat_lt m n) false e in cc
past-last (Named n) (At m) w more e = cc
past-last (Named n) (Ours m) w more e = cc
past-last (Named n) (Open m) w more e = cc
past-last (At n) (Named m) w more e = cc
past-last (At n) (Ours m) w more e = cc
past-last (At n) (Open m) w more e = cc
past-last (Ours n) (Named m) w more e = cc
past-last (Ours n) (At m) w more e = cc
past-last (Ours n) (Open m) w more e = cc
past-last (Open n) (Named m) w more e = cc
past-last (Open n) (Ours m) w more e = cc
past-last (Open n) (Open m) w more e = cc

-- the last step of a name that completes a pattern
pub record Split (t : List Step) (y : Step) (s : List Step) : Type 0 where
  pub front : List Step
  pub last : Step
  pub is : s ≡ front ++ last ∷ []
  pub fits_front : fits t front ≡ true
  pub fits_last : fits (y ∷ []) (last ∷ []) ≡ true

longer : (x w : Step) (t s : List Step) (y : Step) → ((front : List Step) → fits t front ≡ true → fits (x ∷ t) (w ∷ front) ≡ true) → Split t y s → Split (x ∷ t) y (w ∷ s)
longer x w t s y f u = record { front = w ∷ u.front; last = u.last; is = ap (λ z. w ∷ z) u.is; fits_front = f u.front u.fits_front; fits_last = u.fits_last }

pub fits-split : (t : List Step) (y : Step) (s : List Step) → fits (t ++ y ∷ []) s ≡ true → Split t y s
fits-split [] (Named n) [] e = absurd cc
fits-split [] (At n) [] e = absurd cc
fits-split [] (Ours n) [] e = absurd cc
fits-split [] (Open n) [] e = absurd cc
fits-split [] y (z ∷ []) e = record { front = []; last = z; is = refl; fits_front = refl; fits_last = e }
fits-split [] y (z ∷ w ∷ more) e = absurd (past-last y z w more e)
fits-split (Named n ∷ t) y (Named m ∷ s) e =
    longer (Named n) (Named m) t s y (λ f h. and-both (nat_eq n m) (fits t f) (and-first (nat_eq n m) (fits (t ++ y ∷ []) s) e) h) (fits-split t y s (and-second (nat_eq n m) (fits (t ++ y ∷ []) s) e))
fits-split (At n ∷ t) y (At m ∷ s) e =
    longer (At n) (At m) t s y (λ f h. and-both (nat_eq n m) (fits t f) (and-first (nat_eq n m) (fits (t ++ y ∷ []) s) e) h) (fits-split t y s (and-second (nat_eq n m) (fits (t ++ y ∷ []) s) e))
fits-split (Ours n ∷ t) y (Ours m ∷ s) e =
    longer (Ours n) (Ours m) t s y (λ f h. and-both (nat_eq n m) (fits t f) (and-first (nat_eq n m) (fits (t ++ y ∷ []) s) e) h) (fits-split t y s (and-second (nat_eq n m) (fits (t ++ y ∷ []) s) e))
fits-split (Open n ∷ t) y (At m ∷ s) e =
    longer (Open n) (At m) t s y (λ f h. and-both (nat_lt m n) (fits t f) (and-first (nat_lt m n) (fits (t ++ y ∷ []) s) e) h) (fits-split t y s (and-second (nat_lt m n) (fits (t ++ y ∷ []) s) e))
fits-split (x ∷ t) y s e = absurd cc

pub fits-agrees : (t s : List Step) → fits t s ≡ true → agrees t s ≡ true
fits-agrees [] [] e = refl
fits-agrees (Named n ∷ t) (Named m ∷ s) e = and-both (nat_eq n m) (agrees t s) (and-first (nat_eq n m) (fits t s) e) (fits-agrees t s (and-second (nat_eq n m) (fits t s) e))
fits-agrees (At n ∷ t) (At m ∷ s) e = and-both (nat_eq n m) (agrees t s) (and-first (nat_eq n m) (fits t s) e) (fits-agrees t s (and-second (nat_eq n m) (fits t s) e))
fits-agrees (Ours n ∷ t) (Ours m ∷ s) e = and-both (nat_eq n m) (agrees t s) (and-first (nat_eq n m) (fits t s) e) (fits-agrees t s (and-second (nat_eq n m) (fits t s) e))
fits-agrees (Open n ∷ t) (At m ∷ s) e = fits-agrees t s (and-second (nat_lt m n) (fits t s) e)
fits-agrees t s e = absurd cc

opened-step : (size : ℕ) (k : Kind) (o : Option ℕ) (z : Step) → fits (index_step size k o ∷ []) (z ∷ []) ≡ true → agrees (Open size ∷ []) (z ∷ []) ≡ true
opened-step size k o (At j) e = refl
opened-step size k None (Named n) e = absurd cc
opened-step size k None (Ours n) e = absurd cc
opened-step size k None (Open n) e = absurd cc
opened-step size k (Some w) (Named n) e = absurd cc
opened-step size k (Some w) (Ours n) e = absurd cc
opened-step size k (Some w) (Open n) e = absurd cc

module _ (cs : Cells) where
  -- a name that completes a location's pattern agrees with its name with open indices
  pub pattern-opens : (l : Left) (t s : List Step) → pattern cs l ≡ Some t → fits t s ≡ true → (o : List Step) × (open_name cs l ≡ Some o) × (agrees o s ≡ true)
  pattern-opens (Cell p n) t s e f = (t, e, fits-agrees t s f)
  pattern-opens (Prefix p name) t s e f = (t, e, fits-agrees t s f)
  pattern-opens (Null p) t s e f = absurd cc
  pattern-opens (Follow p soft l) t s e f = absurd cc
  pattern-opens (Member l name) t s e f =
      let m = map_is (pattern cs l) (λ z. z ++ Named name ∷ []) t e in
      let u = fits-split m.0 (Named name) s (subst (λ z. fits z s ≡ true) (sym m.2) f) in
      let r = pattern-opens l m.0 u.front m.1 u.fits_front in (
        r.0 ++ Named name ∷ [],
        ap (λ o. grown o (Named name)) r.1,
        subst (λ z. agrees (r.0 ++ Named name ∷ []) z ≡ true) (sym u.is) (agrees-append r.0 u.front (Named name) u.last r.2 (fits-agrees (Named name ∷ []) (u.last ∷ []) u.fits_last)),
      )
  pattern-opens (Index l size i) t s e f =
      let y = index_step size (kind_of i) (static cs i) in
      let m = map_is (pattern cs l) (λ z. z ++ y ∷ []) t e in
      let u = fits-split m.0 y s (subst (λ z. fits z s ≡ true) (sym m.2) f) in
      let r = pattern-opens l m.0 u.front m.1 u.fits_front in (
        r.0 ++ Open size ∷ [],
        ap (λ o. grown o (Open size)) r.1,
        subst (λ z. agrees (r.0 ++ Open size ∷ []) z ≡ true) (sym u.is) (agrees-append r.0 u.front (Open size) u.last r.2 (opened-step size (kind_of i) (static cs i) u.last u.fits_last)),
      )

found-some : (cs : Cells) (m k : ℕ) (s : List Step) (x : program.Cell) → slice_get cs k ≡ Some x → names_cell false s x ≡ true → (n : ℕ) × (cell_at false m s cs ≡ Some n)
found-some [] m k s x g h = absurd cc
found-some (c ∷ cs) m zero s x g h = (m, ap (λ b. if b then Some m else cell_at false (m + 1) s cs) (ap (names_cell false s) (some_same g) ∙ h))
found-some (c ∷ cs) m (suc k) s x g h = by (names_cell false s c) (found-some cs (m + 1) k s x g h)
  where
    by : (b : Bool) → (n : ℕ) × (cell_at false (m + 1) s cs ≡ Some n) → (n : ℕ) × ((if b then Some m else cell_at false (m + 1) s cs) ≡ Some n)
    by true u = (m, refl)
    by false u = u

module _ (cs : Cells) (apart : cells_apart cs ≡ true) where
  -- a cell is found by its name
  pub cell-self : (k : ℕ) (x : program.Cell) → slice_get cs k ≡ Some x → is_pointer x.sort ≡ false → cell_at false 0 (steps_of x.name) cs ≡ Some k
  cell-self k x g plain =
      let u = found-some cs 0 k (steps_of x.name) x g (and-both (fits (steps_of x.name) (steps_of x.name)) (not (is_pointer x.sort)) (fits-self (steps_of x.name) (name-closed x.name)) (ap not plain)) in
      let f = found-at cs 0 u.0 (steps_of x.name) u.1 in
      let one : f.0 ≡ k = one-cell cs f.0 k f.1 x apart f.3 g (sym (fits-is (steps_of x.name) (steps_of f.1.name) (name-closed x.name) f.5)) in
      let n : u.0 ≡ k = let q = f.2 in omega (arith, q, one) in
      u.1 ∙ ap Some n

  -- what is tested of all that a location may name holds of each cell that completes its pattern
  pub named-each : (test : program.Cell → Bool) (l : Left) (t : List Step) (k : ℕ) (x : program.Cell) → all_named cs test l ≡ true → pattern cs l ≡ Some t → fits t (steps_of x.name) ≡ true → slice_get cs k ≡ Some x → is_pointer x.sort ≡ false → test x ≡ true
  named-each test l t k x named e f g plain =
      let o = pattern-opens cs l t (steps_of x.name) e f in
      named-passes cs test l o.0 (steps_of x.name) k x apart named o.1 o.2 (cell-self k x g plain) g

  pub sized : (l : Left) → is_sized cs l ≡ true → Sized cs l
  sized l h = record { within = within; alone = alone }
    where
      within : (t : List Step) (n : ℕ) (x : program.Cell) → pattern cs l ≡ Some t → slice_get cs n ≡ Some x → is_pointer x.sort ≡ false → agrees t (steps_of x.name) ≡ true → fits t (steps_of x.name) ≡ true
      within t n x e g plain a =
          let two = all-at (λ c. not (agrees t (steps_of c.name)) || completes (Some t) c) cs n x (subst (λ o. all_agreeing cs (completes o) o ≡ true) e h) g in
          or-second (not (agrees t (steps_of x.name))) (fits t (steps_of x.name)) two (not-true (agrees t (steps_of x.name)) a)

      alone : (c d : ℕ) → is_single cs l ≡ true → among c (cells_of cs l) ≡ true → among d (cells_of cs l) ≡ true → c ≡ d
      alone c d single hc hd =
          let u = cells-in cs l c hc in
          let v = cells-in cs l d hd in
          let closed : is_open u.0 ≡ false = not-false (is_open u.0) (subst (λ o. unwrap_or (option_map (λ p. not (is_open p)) o) false ≡ true) u.3 single) in
          let same : v.0 ≡ u.0 = some_same (sym v.3 ∙ u.3) in
          let a : u.0 ≡ steps_of u.2.name = fits-is u.0 (steps_of u.2.name) closed (and-first (fits u.0 (steps_of u.2.name)) (not (is_pointer u.2.sort)) u.5) in
          let b : u.0 ≡ steps_of v.2.name = fits-is u.0 (steps_of v.2.name) closed (subst (λ z. fits z (steps_of v.2.name) ≡ true) same (and-first (fits v.0 (steps_of v.2.name)) (not (is_pointer v.2.sort)) v.5)) in
          sym u.6 ∙ (ap (root_of cs) (one-cell cs u.1 v.1 u.2 v.2 apart u.4 v.4 (sym a ∙ b)) ∙ v.6)
