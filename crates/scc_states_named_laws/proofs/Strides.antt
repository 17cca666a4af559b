-- The rows that the code finds of indices.
use Rattle.std.proofs.Common.{◌≡◌, ◌<◌, ◌≤◌, ◌+◌, ◌*◌, ◌/◌, ℕ, zero, suc, add-one, true, List, [], ◌∷◌, ◌++◌, append_assoc, Option, Some, None, refl, sym, ap, subst, ◌∙◌, arith, if◌then◌else◌}
use Rattle.std.specs.Prelude.{max, min, nat_lt, option_and_then}
use Rattle.std.proofs.lemmas.Bool.Decides.{nat_tests}
use Rattle.std.proofs.lemmas.Nat.{mul-le}
use Rattle.std.proofs.Math.Nat.{mul-div_cancel_left, suc-mul}
use Rattle.scc_core.specs.declared.named.Dim.{Dim}
use Rattle.scc_core.specs.declared.named.Named.{Named as Row}
use Rattle.scc_core.specs.Elements.{Part}
use Rattle.scc_core.specs.Located.{added, at_index, row_from, scaled}
use Rattle.scc_core_spec.specs.Named.{Step, Named, At, Ours, Open}
use Rattle.scc_states_kept.specs.Rows.{along, cells_by, row_cells}
use Rattle.scc_states_named_laws.specs.Arrays.{AreIndices, done, unknown, static, each_of, rows_of, size_of}

-- ---- products

-- one more of so many
pub next_row : (i s p : ℕ) → i < s → i * p + p ≤ s * p
next_row i s p h =
    let m : suc i * p ≤ s * p = mul-le (suc i) p s p (omega (arith, h)) (omega arith) in
    let e : suc i * p ≡ i * p + p = suc-mul i p in
    omega (arith, m, e)

plus_one : (j p : ℕ) → (j + 1) * p ≡ j * p + p
plus_one j p = ap (λ z. z * p) (add-one j) ∙ suc-mul j p

pub some_row : (s p : ℕ) → 0 < s → p ≤ s * p
some_row s p h =
    let m : suc 0 * p ≤ s * p = mul-le (suc 0) p s p (omega (arith, h)) (omega arith) in
    let e : suc 0 * p ≡ 0 * p + p = suc-mul 0 p in
    omega (arith, m, e)

no_row : (p : ℕ) → 0 * p ≡ 0
no_row p = grind arith

stride_is : (s p : ℕ) → 0 < s → s * p / max s 1 ≡ p
stride_is s p h = let e : max s 1 ≡ s = omega (arith, h) in ap (λ n. s * p / n) e ∙ mul-div_cancel_left p h

moved : (base ip p : ℕ) → base + (ip + p) ≤ 4294967295 → min (base + min ip 4294967295) 4294967295 ≡ base + ip
moved base ip p h = omega arith

-- ---- where the first cell stands, and the indices that aren't known

abbrev offset : List Step → List ℕ → ℕ
offset [] ss = 0
offset (Named n ∷ ps) ss = 0
offset (Ours n ∷ ps) ss = 0
offset (At i ∷ ps) [] = 0
offset (Open n ∷ ps) [] = 0
offset (At i ∷ ps) (s ∷ ss) = i * size_of ss + offset ps ss
offset (Open n ∷ ps) (s ∷ ss) = offset ps ss

abbrev dims_of : List Step → List ℕ → ℕ → List Dim
dims_of [] ss n = []
dims_of (Named m ∷ ps) ss n = []
dims_of (Ours m ∷ ps) ss n = []
dims_of (At i ∷ ps) [] n = []
dims_of (Open m ∷ ps) [] n = []
dims_of (At i ∷ ps) (s ∷ ss) n = dims_of ps ss (added n 1)
dims_of (Open m ∷ ps) (s ∷ ss) n = record { size = s; stride = size_of ss; part = n } ∷ dims_of ps ss (added n 1)

inside : {qs : List Part} {ps : List Step} {ss : List ℕ} → AreIndices qs ps ss → offset ps ss < size_of ss
inside done = omega arith
inside (unknown {ps = ps} {ss = ss} s pos r) = over s (offset ps ss) (size_of ss) (inside r) (some_row s (size_of ss) pos)
  where
    over : (s o p : ℕ) → o < p → p ≤ s * p → o < s * p
    over s o p h m = omega (arith, h, m)
inside (static {ps = ps} {ss = ss} s i v below sm r) = over (offset ps ss) (i * size_of ss) (size_of ss) (s * size_of ss) (inside r) (next_row i s (size_of ss) below)
  where
    over : (o ip p sp : ℕ) → o < p → ip + p ≤ sp → ip + o < sp
    over o ip p sp h m = omega (arith, h, m)

no_more : (xs : List Dim) → xs ≡ xs ++ []
no_more [] = refl
no_more (x ∷ xs) = ap (λ ys. x ∷ ys) (no_more xs)

plus_none : (n : ℕ) → n ≡ n + 0
plus_none n = omega arith

plus_two : (a b c : ℕ) → a + b + c ≡ a + (b + c)
plus_two a b c = omega arith

less_left : (b p sp : ℕ) → p ≤ sp → b + sp ≤ 4294967295 → b + p ≤ 4294967295
less_left b p sp h k = omega (arith, h, k)

row_left : (b ip p sp : ℕ) → ip + p ≤ sp → b + sp ≤ 4294967295 → b + (ip + p) ≤ 4294967295
row_left b ip p sp h k = omega (arith, h, k)

below_test : (i s : ℕ) → i < s → nat_lt i s ≡ true
below_test i s h = grind (arith, nat_tests, h)

abbrev row : ℕ → List Dim → Option Row
row b ds = Some (record { base = b; dims = ds })

pub row_is : {qs : List Part} {ps : List Step} {ss : List ℕ} → AreIndices qs ps ss → (base number : ℕ) (dims : List Dim) → base + size_of ss ≤ 4294967295
    → row_from qs base (size_of ss) number dims ≡ row (base + offset ps ss) (dims ++ dims_of ps ss number)
row_is done base number dims h = (λ i. row (plus_none base i) (no_more dims i))
row_is (unknown {qs = qs} {ps = ps} {ss = ss} s pos r) base number dims h =
    ap (λ p. row_from qs base p (added number 1) (dims ++ record { size = s; stride = p; part = number } ∷ [])) (stride_is s (size_of ss) pos)
    ∙ row_is r base (added number 1) (dims ++ record { size = s; stride = size_of ss; part = number } ∷ []) (less_left base (size_of ss) (s * size_of ss) (some_row s (size_of ss) pos) h)
    ∙ ap (row (base + offset ps ss)) (append_assoc dims (record { size = s; stride = size_of ss; part = number } ∷ []) (dims_of ps ss (added number 1)))
row_is (static {qs = qs} {ps = ps} {ss = ss} s i v below sm r) base number dims h =
    let p = size_of ss in
    let left = row_left base (i * p) p (s * p) (next_row i s p below) h in
    ap (option_and_then (λ k. row_from qs (added base (scaled k (s * p / max s 1))) (s * p / max s 1) (added number 1) dims)) (ap (λ o. at_index o s) sm ∙ ap (λ b. if b then Some i else None) (below_test i s below))
    ∙ ap (λ n. row_from qs (added base (scaled i n)) n (added number 1) dims) (stride_is s p (some i s below))
    ∙ ap (λ b. row_from qs b p (added number 1) dims) (moved base (i * p) p left)
    ∙ row_is r (base + i * p) (added number 1) dims (regroup base (i * p) p left)
    ∙ ap (λ b. row b (dims ++ dims_of ps ss (added number 1))) (plus_two base (i * p) (offset ps ss))
  where
    some : (i s : ℕ) → i < s → 0 < s
    some i s h = omega (arith, h)

    regroup : (b ip p : ℕ) → b + (ip + p) ≤ 4294967295 → b + ip + p ≤ 4294967295
    regroup b ip p h = omega (arith, h)

-- ---- cells

no_cells : (f : ℕ → List ℕ) (p c d : ℕ) → along f 0 p c ≡ along f 0 p d
no_cells f p c d = refl

step_on : (base jp o p : ℕ) → o < p → base + (jp + p + p) ≤ 4294967295 → min (base + jp + o + p) 4294967295 ≡ base + (jp + p) + o
step_on base jp o p h k = omega (arith, h, k)

regrouped : (b ip p : ℕ) → b + (ip + p) ≤ 4294967295 → b + ip + p ≤ 4294967295
regrouped b ip p h = omega (arith, h)

module _ (D : List Dim) (f : ℕ → List ℕ) (base o p s : ℕ) (inner : o < p) (bound : base + s * p ≤ 4294967295)
    (same : (j : ℕ) → j < s → row_cells D (base + j * p + o) ≡ f (base + j * p)) where
  later : (j n : ℕ) → j + suc n ≡ s → j < s
  later j n h = omega (arith, h)

  next : (j n : ℕ) → j + suc n ≡ s → j + 1 + n ≡ s
  next j n h = omega (arith, h)

  more : (j n : ℕ) → j + suc (suc n) ≡ s → j + 1 < s
  more j n h = omega (arith, h)

  spread : (n j : ℕ) → j + n ≡ s → along (row_cells D) n p (base + j * p + o) ≡ each_of (λ k. f (base + k * p)) n j
  spread zero j h = refl
  spread (suc zero) j h = ap (λ xs. xs ++ []) (same j (later j zero h))
  spread (suc (suc n)) j h =
      let row = row_left base ((j + 1) * p) p (s * p) (next_row (j + 1) s p (more j n h)) bound in
      let moved_on = step_on base (j * p) o p inner (subst (λ z. base + (z + p) ≤ 4294967295) (plus_one j p) row) in
      ap (λ xs. xs ++ along (row_cells D) (suc n) p (added (base + j * p + o) p)) (same j (later j (suc n) h))
      ∙ ap (λ c. f (base + j * p) ++ along (row_cells D) (suc n) p c) (moved_on ∙ ap (λ z. base + z + o) (sym (plus_one j p)))
      ∙ ap (λ xs. f (base + j * p) ++ xs) (spread (suc n) (j + 1) (next j (suc n) h))

pub cells_are : {qs : List Part} {ps : List Step} {ss : List ℕ} → AreIndices qs ps ss → (base number : ℕ) → base + size_of ss ≤ 4294967295
    → row_cells (dims_of ps ss number) (base + offset ps ss) ≡ rows_of ps ss base
cells_are done base number h = ap (λ n. n ∷ []) (sym (plus_none base))
cells_are (unknown {qs = qs} {ps = ps} {ss = ss} s pos r) base number h =
    ap (along (row_cells (dims_of ps ss (added number 1))) s (size_of ss)) (start base (offset ps ss))
    ∙ spread (dims_of ps ss (added number 1)) (rows_of ps ss) base (offset ps ss) (size_of ss) s (inside r) h
    (λ j below. cells_are r (base + j * size_of ss) (added number 1) (regrouped base (j * size_of ss) (size_of ss) (row_left base (j * size_of ss) (size_of ss) (s * size_of ss) (next_row j s (size_of ss) below) h)))
    s 0 (from_zero s)
  where
    start : (b o : ℕ) → b + o ≡ b + 0 * size_of ss + o
    start b o = ap (λ z. z + o) (plus_none b ∙ ap (λ z. b + z) (sym (no_row (size_of ss))))

    from_zero : (s : ℕ) → 0 + s ≡ s
    from_zero s = omega arith
cells_are (static {qs = qs} {ps = ps} {ss = ss} s i v below sm r) base number h =
    ap (row_cells (dims_of ps ss (added number 1))) (sym (plus_two base (i * size_of ss) (offset ps ss)))
    ∙ cells_are r (base + i * size_of ss) (added number 1) (regrouped base (i * size_of ss) (size_of ss) (row_left base (i * size_of ss) (size_of ss) (s * size_of ss) (next_row i s (size_of ss) below) h))

pub rows_found : {qs : List Part} {ps : List Step} {ss : List ℕ} → AreIndices qs ps ss → (first : ℕ) → first + size_of ss ≤ 4294967295 → cells_by (row_from qs first (size_of ss) 0 []) ≡ rows_of ps ss first
rows_found r first h = ap cells_by (row_is r first 0 [] h) ∙ cells_are r first 0 h
