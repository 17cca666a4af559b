-- A name without open steps names at most one cell where names differ.
use Rattle.std.proofs.Common.{◌≡◌, ◌+◌, ℕ, zero, suc, Bool, true, false, List, [], ◌∷◌, slice_get, Option, Some, None, refl, sym, ap, subst, ◌∙◌, arith, if◌then◌else◌}
use Rattle.std.specs.Prelude.{not, ◌&&◌, nat_eq}
use Rattle.std.specs.List.{list_all}
use Rattle.std.proofs.lemmas.Bool.Decides.{nat_tests}
use Rattle.scc_core_spec.specs.IsResolved.{cells_apart}
use Rattle.scc_core_spec.specs.Named.{Step, Named, At, Ours, Open, cell_at, cells_at, fits, is_open, names_cell, steps_of}
use Rattle.scc_core_spec.specs.Program as program
use Rattle.scc_core_spec.specs.Program.{is_pointer}

pub and_first : (a b : Bool) → (a && b) ≡ true → a ≡ true
and_first true b h = refl
and_first false b h = absurd cc

pub and_second : (a b : Bool) → (a && b) ≡ true → b ≡ true
and_second true b h = h
and_second false b h = absurd cc

pub and_both : (a b : Bool) → a ≡ true → b ≡ true → (a && b) ≡ true
and_both a b h k = ap (λ z. z && b) h ∙ k

pub never : (a : Bool) → a ≡ false → a ≡ true → ⊥
never a h k = absurd cc

same_number : (a b : ℕ) → nat_eq a b ≡ true → a ≡ b
same_number a b e = grind (arith, e)

pub same_test : (a b : ℕ) → a ≡ b → nat_eq a b ≡ true
same_test a b e = grind (arith, nat_tests, e)

-- two numbers that a third equals
both_same : (n m r : ℕ) (x y z : Bool) → (nat_eq n m && x) ≡ true → (nat_eq n r && y) ≡ true → z ≡ true → (nat_eq m r && z) ≡ true
both_same n m r x y z h k t = and_both (nat_eq m r) z (same_test m r (sym (same_number n m (and_first (nat_eq n m) x h)) ∙ same_number n r (and_first (nat_eq n r) y k))) t

same_closed : (p a b : List Step) → is_open p ≡ false → fits p a ≡ true → fits p b ≡ true → fits a b ≡ true
same_closed [] [] [] o h k = refl
same_closed [] [] (Named y ∷ b) o h k = absurd cc
same_closed [] [] (At y ∷ b) o h k = absurd cc
same_closed [] [] (Ours y ∷ b) o h k = absurd cc
same_closed [] [] (Open y ∷ b) o h k = absurd cc
same_closed [] (Named y ∷ a) b o h k = absurd cc
same_closed [] (At y ∷ a) b o h k = absurd cc
same_closed [] (Ours y ∷ a) b o h k = absurd cc
same_closed [] (Open y ∷ a) b o h k = absurd cc
same_closed (Named n ∷ p) [] b o h k = absurd cc
same_closed (Named n ∷ p) (At m ∷ a) b o h k = absurd cc
same_closed (Named n ∷ p) (Ours m ∷ a) b o h k = absurd cc
same_closed (Named n ∷ p) (Open m ∷ a) b o h k = absurd cc
same_closed (Named n ∷ p) (Named m ∷ a) [] o h k = absurd cc
same_closed (Named n ∷ p) (Named m ∷ a) (At r ∷ b) o h k = absurd cc
same_closed (Named n ∷ p) (Named m ∷ a) (Ours r ∷ b) o h k = absurd cc
same_closed (Named n ∷ p) (Named m ∷ a) (Open r ∷ b) o h k = absurd cc
same_closed (Named n ∷ p) (Named m ∷ a) (Named r ∷ b) o h k =
    both_same n m r (fits p a) (fits p b) (fits a b) h k (same_closed p a b o (and_second (nat_eq n m) (fits p a) h) (and_second (nat_eq n r) (fits p b) k))
same_closed (At n ∷ p) [] b o h k = absurd cc
same_closed (At n ∷ p) (Named m ∷ a) b o h k = absurd cc
same_closed (At n ∷ p) (Ours m ∷ a) b o h k = absurd cc
same_closed (At n ∷ p) (Open m ∷ a) b o h k = absurd cc
same_closed (At n ∷ p) (At m ∷ a) [] o h k = absurd cc
same_closed (At n ∷ p) (At m ∷ a) (Named r ∷ b) o h k = absurd cc
same_closed (At n ∷ p) (At m ∷ a) (Ours r ∷ b) o h k = absurd cc
same_closed (At n ∷ p) (At m ∷ a) (Open r ∷ b) o h k = absurd cc
same_closed (At n ∷ p) (At m ∷ a) (At r ∷ b) o h k =
    both_same n m r (fits p a) (fits p b) (fits a b) h k (same_closed p a b o (and_second (nat_eq n m) (fits p a) h) (and_second (nat_eq n r) (fits p b) k))
same_closed (Ours n ∷ p) [] b o h k = absurd cc
same_closed (Ours n ∷ p) (Named m ∷ a) b o h k = absurd cc
same_closed (Ours n ∷ p) (At m ∷ a) b o h k = absurd cc
same_closed (Ours n ∷ p) (Open m ∷ a) b o h k = absurd cc
same_closed (Ours n ∷ p) (Ours m ∷ a) [] o h k = absurd cc
same_closed (Ours n ∷ p) (Ours m ∷ a) (Named r ∷ b) o h k = absurd cc
same_closed (Ours n ∷ p) (Ours m ∷ a) (At r ∷ b) o h k = absurd cc
same_closed (Ours n ∷ p) (Ours m ∷ a) (Open r ∷ b) o h k = absurd cc
same_closed (Ours n ∷ p) (Ours m ∷ a) (Ours r ∷ b) o h k =
    both_same n m r (fits p a) (fits p b) (fits a b) h k (same_closed p a b o (and_second (nat_eq n m) (fits p a) h) (and_second (nat_eq n r) (fits p b) k))
same_closed (Open size ∷ p) a b o h k = absurd cc

abbrev from : {A : Type 0} → A → Option A → A
from d None = d
from d (Some x) = x

pub some_same : {A : Type 0} (a b : A) → Some a ≡ Some b → a ≡ b
some_same a b h = ap (from a) h

abbrev pub list_of : Option ℕ → List ℕ
list_of None = []
list_of (Some n) = n ∷ []

not_true : (b : Bool) → not b ≡ true → b ≡ true → ⊥
not_true b h k = absurd cc

module _ (pat : List Step) (closed : is_open pat ≡ false) where
  none_behind : (n : ℕ) (c : program.Cell) (cs : List program.Cell) → fits pat (steps_of c.name) ≡ true → list_all (λ d. not (fits (steps_of c.name) (steps_of d.name))) cs ≡ true → cells_at n pat cs ≡ []
  none_behind n c [] f h = refl
  none_behind n c (d ∷ cs) f h =
      by (none_behind (n + 1) c cs f (and_second (not (fits (steps_of c.name) (steps_of d.name))) _ h)) (names_cell false pat d) refl
    where
      by : cells_at (n + 1) pat cs ≡ [] → (b : Bool) → names_cell false pat d ≡ b → (if b then n ∷ cells_at (n + 1) pat cs else cells_at (n + 1) pat cs) ≡ []
      by r true e =
          absurd (not_true (fits (steps_of c.name) (steps_of d.name)) (and_first (not (fits (steps_of c.name) (steps_of d.name))) _ h)
          (same_closed pat (steps_of c.name) (steps_of d.name) closed f (and_first (fits pat (steps_of d.name)) (not (is_pointer d.sort)) e)))
      by r false e = r

  pub one_or_none : (n : ℕ) (cs : List program.Cell) → cells_apart cs ≡ true → cells_at n pat cs ≡ list_of (cell_at false n pat cs)
  one_or_none n [] h = refl
  one_or_none n (c ∷ cs) h = by (one_or_none (n + 1) cs (and_second (list_all (λ d. not (fits (steps_of c.name) (steps_of d.name))) cs) _ h)) (names_cell false pat c) refl
    where
      by : cells_at (n + 1) pat cs ≡ list_of (cell_at false (n + 1) pat cs) → (b : Bool) → names_cell false pat c ≡ b
          → (if b then n ∷ cells_at (n + 1) pat cs else cells_at (n + 1) pat cs) ≡ list_of (if b then Some n else cell_at false (n + 1) pat cs)
      by r true e =
          ap (λ l. n ∷ l) (none_behind (n + 1) c cs (and_first (fits pat (steps_of c.name)) (not (is_pointer c.sort)) e) (and_first (list_all (λ d. not (fits (steps_of c.name) (steps_of d.name))) cs) (cells_apart cs) h))
      by r false e = r

-- ---- a cell is found by its own name

self_fits : (p : List Step) → is_open p ≡ false → fits p p ≡ true
self_fits [] h = refl
self_fits (Named n ∷ p) h = and_both (nat_eq n n) (fits p p) (same_test n n refl) (self_fits p h)
self_fits (At n ∷ p) h = and_both (nat_eq n n) (fits p p) (same_test n n refl) (self_fits p h)
self_fits (Ours n ∷ p) h = and_both (nat_eq n n) (fits p p) (same_test n n refl) (self_fits p h)
self_fits (Open n ∷ p) h = absurd cc

each_at : (test : program.Cell → Bool) (cs : List program.Cell) (n : ℕ) (c : program.Cell) → list_all test cs ≡ true → slice_get cs n ≡ Some c → test c ≡ true
each_at test [] n c h e = absurd cc
each_at test (d ∷ cs) zero c h e = ap test (sym (some_same d c e)) ∙ and_first (test d) _ h
each_at test (d ∷ cs) (suc n) c h e = each_at test cs n c (and_second (test d) _ h) e

module _ (pat : List Step) (closed : is_open pat ≡ false) where
  own_name : (c : program.Cell) → pat ≡ steps_of c.name → not (is_pointer c.sort) ≡ true → names_cell false pat c ≡ true
  own_name c is h = and_both (fits pat (steps_of c.name)) (not (is_pointer c.sort)) (ap (fits pat) (sym is) ∙ self_fits pat closed) h

  at_start : (n : ℕ) → n ≡ n + 0
  at_start n = omega arith

  one_on : (n j : ℕ) → n + 1 + j ≡ n + suc j
  one_on n j = omega arith

  pub self_found_from : (cs : List program.Cell) (j n : ℕ) (c : program.Cell) → slice_get cs j ≡ Some c → pat ≡ steps_of c.name → not (is_pointer c.sort) ≡ true → cells_apart cs ≡ true → cell_at false n pat cs ≡ Some (n + j)
  self_found_from [] j n c e is h a = absurd cc
  self_found_from (d ∷ cs) zero n c e is h a =
      ap (λ b. if b then Some n else cell_at false (n + 1) pat cs) (subst (λ z. names_cell false pat z ≡ true) (sym (some_same d c e)) (own_name c is h)) ∙ ap Some (at_start n)
  self_found_from (d ∷ cs) (suc j) n c e is h a =
      by (self_found_from cs j (n + 1) c e is h (and_second (list_all (λ f. not (fits (steps_of d.name) (steps_of f.name))) cs) _ a)) (names_cell false pat d) refl
    where
      by : cell_at false (n + 1) pat cs ≡ Some (n + 1 + j) → (b : Bool) → names_cell false pat d ≡ b → (if b then Some n else cell_at false (n + 1) pat cs) ≡ Some (n + suc j)
      by r true q =
          absurd (not_true (fits (steps_of d.name) (steps_of c.name)) (each_at (λ f. not (fits (steps_of d.name) (steps_of f.name))) cs j c (and_first (list_all (λ f. not (fits (steps_of d.name) (steps_of f.name))) cs) _ a) e)
          (same_closed pat (steps_of d.name) (steps_of c.name) closed (and_first (fits pat (steps_of d.name)) _ q) (and_first (fits pat (steps_of c.name)) _ (own_name c is h))))
      by r false q = r ∙ ap Some (one_on n j)

  from_zero : (n : ℕ) → 0 + n ≡ n
  from_zero n = omega arith

  pub self_found : (cs : List program.Cell) (j : ℕ) (c : program.Cell) → slice_get cs j ≡ Some c → pat ≡ steps_of c.name → not (is_pointer c.sort) ≡ true → cells_apart cs ≡ true → cell_at false 0 pat cs ≡ Some j
  self_found cs j c e is h a = self_found_from cs j 0 c e is h a ∙ ap Some (from_zero j)
