-- The cell of a name stands at the name's location.
use Rattle.std.proofs.Common.{◌≡◌, ℕ, suc, ◌+◌, Bool, true, false, nat_eq, List, [], ◌∷◌, ◌++◌, map, Option, Some, None, if◌then◌else◌, slice_get, refl, ap, ◌∙◌, arith}
use Rattle.std.proofs.lemmas.Bool.{eqb-true}
use Rattle.scc_semantics.specs.Location.{Location, Part, Member, Element}
use Rattle.scc_core_spec.specs.Term.{CellName, Own}
use Rattle.scc_core_spec.specs.Program as prog
use Rattle.scc_core_spec.specs.Static.{Cells}
use Rattle.scc_core_spec.specs.Named.{Step, At, part_step, own_steps, steps_of, fits, names_cell, cell_at}
use Rattle.scc_core_spec.specs.Source.{Home, location_in, location_of}
use Rattle.scc_semantics_laws.proofs.Blind.{and-first, and-second}

same_indices : (a b : List ℕ) → fits (map At a) (map At b) ≡ true → a ≡ b
same_indices [] [] e = refl
same_indices [] (j ∷ b) e = cc
same_indices (i ∷ a) [] e = cc
same_indices (i ∷ a) (j ∷ b) e =
    let x : i ≡ j = eqb-true i j (and-first (nat_eq i j) (fits (map At a) (map At b)) e) in
    let y : a ≡ b = same_indices a b (and-second (nat_eq i j) (fits (map At a) (map At b)) e) in cc

module _ (home : Home) (i : ℕ) where
  -- the location of a name in parts
  abbrev placed_at : List Part → Option Own → List ℕ → Location
  placed_at p own is = location_in home i own (record { path = p; own = own; indices = is })

  same_own : (p : List Part) (a b : Option Own) (is js : List ℕ) → fits (own_steps a is) (own_steps b js) ≡ true → placed_at p a is ≡ placed_at p b js
  same_own p None None is js e = refl
  same_own p None (Some b) is js e = cc
  same_own p (Some a) None is js e = cc
  same_own p (Some a) (Some b) is js e =
      let x : a.number ≡ b.number = eqb-true a.number b.number (and-first (nat_eq a.number b.number) (fits (map At is) (map At js)) e) in
      let y : is ≡ js = same_indices is js (and-second (nat_eq a.number b.number) (fits (map At is) (map At js)) e) in
      ap (λ n. let l : Location = record { root = home i n; path = map Element is } in l) x ∙ ap (λ z. let l : Location = record { root = home i b.number; path = map Element z } in l) y

  own_front : (x : Part) (p : List Step) (a : Option Own) (is : List ℕ) → fits (own_steps a is) (part_step x ∷ p) ≡ true → ⊥
  own_front x p None is e = cc
  own_front (Member n) p (Some a) is e = cc
  own_front (Element n) p (Some a) is e = cc

  front_own : (x : Part) (p : List Step) (a : Option Own) (is : List ℕ) → fits (part_step x ∷ p) (own_steps a is) ≡ true → ⊥
  front_own (Member n) p None is e = cc
  front_own (Element n) p None is e = cc
  front_own (Member n) p (Some a) is e = cc
  front_own (Element n) p (Some a) is e = cc

  same_front : (p q : List Part) (a b : Option Own) (is js : List ℕ) → fits (map part_step p ++ own_steps a is) (map part_step q ++ own_steps b js) ≡ true
      → (p ≡ q) × (fits (own_steps a is) (own_steps b js) ≡ true)
  same_front [] [] a b is js e = (refl, e)
  same_front [] (y ∷ q) a b is js e = absurd (own_front y (map part_step q ++ own_steps b js) a is e)
  same_front (x ∷ p) [] a b is js e = absurd (front_own x (map part_step p ++ own_steps a is) b js e)
  same_front (Member m ∷ p) (Member n ∷ q) a b is js e =
      let r = fits (map part_step p ++ own_steps a is) (map part_step q ++ own_steps b js) in
      let x : m ≡ n = eqb-true m n (and-first (nat_eq m n) r e) in
      let y = same_front p q a b is js (and-second (nat_eq m n) r e) in
      (ap (λ z. Member z ∷ p) x ∙ ap (λ z. Member n ∷ z) y.0, y.1)
  same_front (Element m ∷ p) (Element n ∷ q) a b is js e =
      let r = fits (map part_step p ++ own_steps a is) (map part_step q ++ own_steps b js) in
      let x : m ≡ n = eqb-true m n (and-first (nat_eq m n) r e) in
      let y = same_front p q a b is js (and-second (nat_eq m n) r e) in
      (ap (λ z. Element z ∷ p) x ∙ ap (λ z. Element n ∷ z) y.0, y.1)
  same_front (Member m ∷ p) (Element n ∷ q) a b is js e = cc
  same_front (Element m ∷ p) (Member n ∷ q) a b is js e = cc

  pub same_name : (m n : CellName) → fits (steps_of m) (steps_of n) ≡ true → location_of home i m ≡ location_of home i n
  same_name m n e = let f = same_front m.path n.path m.own n.own m.indices n.indices e in
      ap (λ p. placed_at p m.own m.indices) f.0 ∙ same_own n.path m.own n.own m.indices n.indices f.1

-- the cell that is found
pub found_cell : (pointer : Bool) (k : ℕ) (p : List Step) (cs : Cells) (c : ℕ) → cell_at pointer k p cs ≡ Some c
    → (j : ℕ) × (x : prog.Cell) × (c ≡ k + j) × (slice_get cs j ≡ Some x) × (fits p (steps_of x.name) ≡ true)
found_cell pointer k p [] c e = cc
found_cell pointer k p (x ∷ cs) c e = by (names_cell pointer p x) refl e (λ e. found_cell pointer (k + 1) p cs c e)
  where
    by : (b : Bool) → names_cell pointer p x ≡ b → (if b then Some k else cell_at pointer (k + 1) p cs) ≡ Some c
        → (cell_at pointer (k + 1) p cs ≡ Some c → (j : ℕ) × (y : prog.Cell) × (c ≡ (k + 1) + j) × (slice_get cs j ≡ Some y) × (fits p (steps_of y.name) ≡ true))
        → (j : ℕ) × (y : prog.Cell) × (c ≡ k + j) × (slice_get (x ∷ cs) j ≡ Some y) × (fits p (steps_of y.name) ≡ true)
    by true t e ih = let s : k ≡ c = cc in (0, x, omega (arith, s), refl, and-first (fits p (steps_of x.name)) _ t)
    by false t e ih = let r = ih e in (suc r.0, r.1, omega (arith, r.2), r.3, r.4)
