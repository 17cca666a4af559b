-- A location names, whatever its indices are, one of the cells that its pattern names.
use Rattle.std.proofs.Common.{◌≡◌, ℕ, zero, suc, ◌+◌, Bool, true, false, not, ◌&&◌, ◌||◌, nat_eq, List, [], ◌∷◌, ◌++◌, map, find, Option, Some, None, refl, sym, ap, ◌∙◌, subst, arith, if◌then◌else◌, slice_get, cond}
use Rattle.std.proofs.Common.{◌⊎◌, inl, inr}
use Rattle.std.specs.Prelude.{option_map, option_and_then, unwrap_or}
use Rattle.std.specs.List.{list_any}
use Rattle.scc_bits_kinds.specs.declared.kind.Kind.{Kind}
use Rattle.scc_bits_kinds.specs.Kinds.{width_of, number_of, stored}
use Rattle.scc_bits.specs.Values.{applied}
use Rattle.scc_bits_kinds.specs.Bits.{part, joined}
use Rattle.scc_semantics.specs.Location.{Part}
use Rattle.scc_semantics.specs.Location as location
use Rattle.scc_semantics.specs.Scene.{with_two, chosen, index_of, bit_at}
use Rattle.scc_core_spec.specs.Term.{Term, Literal, Load, Read, Convert, Unary, Binary, Choose, Bit, Range, Join, Left, Cell, Prefix, Null, Follow, Member, Index, kind_of, CellName, Own}
use Rattle.scc_core_spec.specs.Program as program
use Rattle.scc_core_spec.specs.Program.{Sort, Input, Output, Signal, Variable, Local, Pointer, Port, is_pointer}
use Rattle.scc_core_spec.specs.Static.{Cells, static, pattern, first_of, fixed_word, found, held, held_at, index_step, grown}
use Rattle.scc_core_spec.specs.Named.{Step, Named, At, Ours, Open, steps_of, part_step, own_steps, fits, is_open, names_cell, cell_at, cells_at}
use Rattle.scc_core_spec.specs.Uses.{root_of, root_of_sort, cells_of, among}
use Rattle.scc_blocks_spec.specs.Acting.{Acting, word_in, steps_in, cell_named, word_or_zero}
use Rattle.scc_core_spec.specs.OpenNames.{agrees}
use Rattle.scc_core_effect_laws.specs.Sound.{Sized, FixedWords}

pub and-first : (a b : Bool) → (a && b) ≡ true → a ≡ true
and-first true b e = refl
and-first false b e = cc

pub and-second : (a b : Bool) → (a && b) ≡ true → b ≡ true
and-second true b e = e
and-second false b e = cc

pub and-both : (a b : Bool) → a ≡ true → b ≡ true → (a && b) ≡ true
and-both true b e f = f
and-both false b e f = cc

pub or-first : (a b : Bool) → (a || b) ≡ false → a ≡ false
or-first true b e = cc
or-first false b e = refl

pub or-second : (a b : Bool) → (a || b) ≡ false → b ≡ false
or-second true b e = cc
or-second false b e = e

pub or-right : (a b : Bool) → b ≡ true → (a || b) ≡ true
or-right true b e = refl
or-right false b e = e

pub or-left : (a b : Bool) → a ≡ true → (a || b) ≡ true
or-left true b e = refl
or-left false b e = cc

pub some-same : {A : Type 0} (x y : A) → Some x ≡ Some y → x ≡ y
some-same x y e = cc

pub none-some : {A B : Type 0} (x : A) → None ≡ Some x → B
none-some x e = absurd cc

pub true-false : {A : Type 0} → true ≡ false → A
true-false e = absurd cc

-- ---- what a pattern covers

-- the same step, or one at an open index
abbrev pub OneCovers : Step → Step → Type 0
OneCovers (Named n) s = Named n ≡ s
OneCovers (At i) s = At i ≡ s
OneCovers (Ours n) s = Ours n ≡ s
OneCovers (Open size) (At j) = Unit {0}
OneCovers (Open size) s = ⊥

abbrev pub CoversAll : List Step → List Step → Type 0
CoversAll [] [] = Unit {0}
CoversAll (s ∷ p) (t ∷ q) = OneCovers s t × CoversAll p q
CoversAll _ _ = ⊥

covers-grown : (p q : List Step) (s t : Step) → CoversAll p q → OneCovers s t → CoversAll (p ++ s ∷ []) (q ++ t ∷ [])
covers-grown [] [] s t c o = (o, tt)
covers-grown (x ∷ p) (y ∷ q) s t c o = (c.0, covers-grown p q s t c.1 o)
covers-grown [] (y ∷ q) s t c o = absurd c
covers-grown (x ∷ p) [] s t c o = absurd c

-- names have no open index
abbrev pub Shut : List Step → Type 0
Shut p = is_open p ≡ false

closed-self : (s : Step) (p : List Step) → is_open (s ∷ p) ≡ false → OneCovers s s × Shut p
closed-self (Named n) p e = (refl, e)
closed-self (At n) p e = (refl, e)
closed-self (Ours n) p e = (refl, e)
closed-self (Open n) p e = true-false e

covers-self : (p : List Step) → Shut p → CoversAll p p
covers-self [] e = tt
covers-self (s ∷ p) e = let c = closed-self s p e in (c.0, covers-self p c.1)

one-fits : (s : Step) (p q y : List Step) → ((z : List Step) → fits q z ≡ true → agrees p z ≡ true) → is_open (s ∷ []) ≡ false → fits (s ∷ q) y ≡ true → agrees (s ∷ p) y ≡ true
one-fits (Named n) p q (Named m ∷ y) l o e = and-both (nat_eq n m) (agrees p y) (and-first (nat_eq n m) (fits q y) e) (l y (and-second (nat_eq n m) (fits q y) e))
one-fits (At n) p q (At m ∷ y) l o e = and-both (nat_eq n m) (agrees p y) (and-first (nat_eq n m) (fits q y) e) (l y (and-second (nat_eq n m) (fits q y) e))
one-fits (Ours n) p q (Ours m ∷ y) l o e = and-both (nat_eq n m) (agrees p y) (and-first (nat_eq n m) (fits q y) e) (l y (and-second (nat_eq n m) (fits q y) e))
one-fits (Open n) p q y l o e = true-false o
one-fits (Named n) p q [] l o e = e
one-fits (Named n) p q (At m ∷ y) l o e = e
one-fits (Named n) p q (Ours m ∷ y) l o e = e
one-fits (Named n) p q (Open m ∷ y) l o e = e
one-fits (At n) p q [] l o e = e
one-fits (At n) p q (Named m ∷ y) l o e = e
one-fits (At n) p q (Ours m ∷ y) l o e = e
one-fits (At n) p q (Open m ∷ y) l o e = e
one-fits (Ours n) p q [] l o e = e
one-fits (Ours n) p q (Named m ∷ y) l o e = e
one-fits (Ours n) p q (At m ∷ y) l o e = e
one-fits (Ours n) p q (Open m ∷ y) l o e = e

open-fits : (n j : ℕ) (p q y : List Step) → ((z : List Step) → fits q z ≡ true → agrees p z ≡ true) → fits (At j ∷ q) y ≡ true → agrees (Open n ∷ p) y ≡ true
open-fits n j p q (At m ∷ y) l e = l y (and-second (nat_eq j m) (fits q y) e)
open-fits n j p q [] l e = e
open-fits n j p q (Named m ∷ y) l e = e
open-fits n j p q (Ours m ∷ y) l e = e
open-fits n j p q (Open m ∷ y) l e = e

fits-agrees : (p q y : List Step) → CoversAll p q → fits q y ≡ true → agrees p y ≡ true
fits-agrees [] [] y c e = empty y e
  where
    empty : (y : List Step) → fits [] y ≡ true → agrees [] y ≡ true
    empty [] e = refl
    empty (y ∷ ys) e = e
fits-agrees (Named n ∷ p) (t ∷ q) y c e = one-fits (Named n) p q y (λ z. fits-agrees p q z c.1) refl (subst (λ z. fits (z ∷ q) y ≡ true) (sym c.0) e)
fits-agrees (At n ∷ p) (t ∷ q) y c e = one-fits (At n) p q y (λ z. fits-agrees p q z c.1) refl (subst (λ z. fits (z ∷ q) y ≡ true) (sym c.0) e)
fits-agrees (Ours n ∷ p) (t ∷ q) y c e = one-fits (Ours n) p q y (λ z. fits-agrees p q z c.1) refl (subst (λ z. fits (z ∷ q) y ≡ true) (sym c.0) e)
fits-agrees (Open n ∷ p) (At j ∷ q) y c e = open-fits n j p q y (λ z. fits-agrees p q z c.1) e
fits-agrees (Open n ∷ p) (Named j ∷ q) y c e = absurd c.0
fits-agrees (Open n ∷ p) (Ours j ∷ q) y c e = absurd c.0
fits-agrees (Open n ∷ p) (Open j ∷ q) y c e = absurd c.0
fits-agrees [] (t ∷ q) y c e = absurd c
fits-agrees (s ∷ p) [] y c e = absurd c

-- ---- names have no open index

open-grown : (p : List Step) (s : Step) → is_open (p ++ s ∷ []) ≡ false → (is_open p ≡ false) × (is_open (s ∷ []) ≡ false)
open-grown [] s e = (refl, e)
open-grown (Named n ∷ p) s e = open-grown p s e
open-grown (At n ∷ p) s e = open-grown p s e
open-grown (Ours n ∷ p) s e = open-grown p s e
open-grown (Open n ∷ p) s e = true-false e

open-two : (p q : List Step) → is_open p ≡ false → is_open q ≡ false → is_open (p ++ q) ≡ false
open-two [] q e f = f
open-two (Named n ∷ p) q e f = open-two p q e f
open-two (At n ∷ p) q e f = open-two p q e f
open-two (Ours n ∷ p) q e f = open-two p q e f
open-two (Open n ∷ p) q e f = true-false e

parts-shut : (path : List Part) → is_open (map part_step path) ≡ false
parts-shut [] = refl
parts-shut (location.Member n ∷ p) = parts-shut p
parts-shut (location.Element n ∷ p) = parts-shut p

indices-shut : (is : List ℕ) → is_open (map At is) ≡ false
indices-shut [] = refl
indices-shut (i ∷ is) = indices-shut is

own-shut : (o : Option Own) (is : List ℕ) → is_open (own_steps o is) ≡ false
own-shut None is = refl
own-shut (Some o) is = indices-shut is

name-shut : (n : CellName) → is_open (steps_of n) ≡ false
name-shut n = open-two (map part_step n.path) (own_steps n.own n.indices) (parts-shut n.path) (own-shut n.own n.indices)

-- ---- the cell of a name

-- where a search by name ends
cell-found : (s : List Step) (n : ℕ) (cs : Cells) (k : ℕ) → cell_at false n s cs ≡ Some k → (j : ℕ) × (x : program.Cell) × (k ≡ n + j) × (slice_get cs j ≡ Some x) × (names_cell false s x ≡ true)
cell-found s n [] k e = none-some k e
cell-found s n (c ∷ cs) k e = by (names_cell false s c) refl (λ h. cell-found s (n + 1) cs k h)
  where
    by : (b : Bool) → names_cell false s c ≡ b → (cell_at false (n + 1) s cs ≡ Some k → (j : ℕ) × (x : program.Cell) × (k ≡ (n + 1) + j) × (slice_get cs j ≡ Some x) × (names_cell false s x ≡ true))
        → (j : ℕ) × (x : program.Cell) × (k ≡ n + j) × (slice_get (c ∷ cs) j ≡ Some x) × (names_cell false s x ≡ true)
    by true h more = (zero, c, (let q = some-same n k (ap (λ b. if b then Some n else cell_at false (n + 1) s cs) (sym h) ∙ e) in omega (arith, q)), refl, h)
    by false h more =
        let m = more (ap (λ b. if b then Some n else cell_at false (n + 1) s cs) (sym h) ∙ e) in
        (suc m.0, m.1, (let q = m.2 in omega (arith, q)), m.3, m.4)

among-all : (s : List Step) (n : ℕ) (cs : Cells) (j : ℕ) (x : program.Cell) → slice_get cs j ≡ Some x → names_cell false s x ≡ true → list_any (nat_eq (n + j)) (cells_at n s cs) ≡ true
among-all s n [] j x e f = none-some x e
among-all s n (c ∷ cs) zero x e f =
    ap (λ b. list_any (nat_eq (n + 0)) (if b then n ∷ cells_at (n + 1) s cs else cells_at (n + 1) s cs)) (ap (names_cell false s) (some-same c x e) ∙ f) ∙ here
  where
    here : (nat_eq (n + 0) n || list_any (nat_eq (n + 0)) (cells_at (n + 1) s cs)) ≡ true
    here = grind arith
among-all s n (c ∷ cs) (suc j) x e f = by (names_cell false s c) (among-all s (n + 1) cs j x e f)
  where
    by : (b : Bool) → list_any (nat_eq ((n + 1) + j)) (cells_at (n + 1) s cs) ≡ true → list_any (nat_eq (n + suc j)) (if b then n ∷ cells_at (n + 1) s cs else cells_at (n + 1) s cs) ≡ true
    by true h = or-right (nat_eq (n + suc j) n) _ (subst (λ k. list_any (nat_eq k) (cells_at (n + 1) s cs) ≡ true) (omega arith) h)
    by false h = subst (λ k. list_any (nat_eq k) (cells_at (n + 1) s cs) ≡ true) (omega arith) h

pub among-map : (f : ℕ → ℕ) (k : ℕ) (xs : List ℕ) → among k xs ≡ true → among (f k) (map f xs) ≡ true
among-map f k [] e = e
among-map f k (x ∷ xs) e = by (nat_eq k x) refl (λ h. among-map f k xs h)
  where
    by : (b : Bool) → nat_eq k x ≡ b → (among k xs ≡ true → among (f k) (map f xs) ≡ true) → (nat_eq (f k) (f x) || among (f k) (map f xs)) ≡ true
    by true h more = or-left _ _ (ap (λ y. nat_eq (f k) (f y)) (sym (equal h)) ∙ itself (f k))
      where
        equal : nat_eq k x ≡ true → k ≡ x
        equal h = grind arith

        itself : (n : ℕ) → nat_eq n n ≡ true
        itself n = grind arith
    by false h more = or-right _ _ (more (ap (λ b. b || among k xs) (sym h) ∙ e))

-- what a search finds, and where
find-at : (t : List Step) (n : ℕ) (cs : Cells) → ((cell_at false n t cs ≡ None) × (find (names_cell false t) cs ≡ None))
    ⊎ ((j : ℕ) × (x : program.Cell) × (cell_at false n t cs ≡ Some (n + j)) × (find (names_cell false t) cs ≡ Some x) × (slice_get cs j ≡ Some x))
find-at t n [] = inl (refl, refl)
find-at t n (c ∷ cs) = by (names_cell false t c) refl (find-at t (n + 1) cs)
  where
    by : (b : Bool) → names_cell false t c ≡ b → ((cell_at false (n + 1) t cs ≡ None) × (find (names_cell false t) cs ≡ None))
        ⊎ ((j : ℕ) × (x : program.Cell) × (cell_at false (n + 1) t cs ≡ Some ((n + 1) + j)) × (find (names_cell false t) cs ≡ Some x) × (slice_get cs j ≡ Some x))
        → ((cell_at false n t (c ∷ cs) ≡ None) × (find (names_cell false t) (c ∷ cs) ≡ None))
        ⊎ ((j : ℕ) × (x : program.Cell) × (cell_at false n t (c ∷ cs) ≡ Some (n + j)) × (find (names_cell false t) (c ∷ cs) ≡ Some x) × (slice_get (c ∷ cs) j ≡ Some x))
    by true h more = inr (zero, c, ap (λ b. if b then Some n else cell_at false (n + 1) t cs) h ∙ ap Some (omega arith), ap (λ b. cond b (Some c) (find (names_cell false t) cs)) h, refl)
    by false h (inl m) = inl (ap (λ b. if b then Some n else cell_at false (n + 1) t cs) h ∙ m.0, ap (λ b. cond b (Some c) (find (names_cell false t) cs)) h ∙ m.1)
    by false h (inr m) = inr (suc m.0, m.1, ap (λ b. if b then Some n else cell_at false (n + 1) t cs) h ∙ m.2 ∙ ap Some (omega arith), ap (λ b. cond b (Some c) (find (names_cell false t) cs)) h ∙ m.3, m.4)

pub root-at : (cs : Cells) (n : ℕ) (x : program.Cell) → slice_get cs n ≡ Some x → root_of cs n ≡ root_of_sort cs x.sort n
root-at cs n x e = ap (λ o. unwrap_or (option_map (λ s. root_of_sort cs s n) (option_map (λ c. c.sort) o)) n) e

root-fixed : (cs : Cells) (s : Sort) (n w : ℕ) → fixed_word s ≡ Some w → root_of_sort cs s n ≡ n
root-fixed cs Input n w e = refl
root-fixed cs Output n w e = refl
root-fixed cs Signal n w e = refl
root-fixed cs (Variable v f) n w e = refl
root-fixed cs (Local i) n w e = refl
root-fixed cs (Pointer t) n w e = refl
root-fixed cs (Port r) n w e = none-some w e

-- ---- a static value is that value

lift-two : (o p q r : Option ℕ) (g : ℕ → ℕ → Option ℕ) (w : ℕ) → ((x : ℕ) → o ≡ Some x → q ≡ Some x) → ((x : ℕ) → p ≡ Some x → r ≡ Some x) → with_two o p g ≡ Some w → with_two q r g ≡ Some w
lift-two (Some x) (Some y) q r g w a b e = (λ i. with_two (a x refl i) (b y refl i) g) ∙ e
lift-two None p q r g w a b e = none-some w e
lift-two (Some x) None q r g w a b e = none-some w e

lift-then : {A B : Type 0} (o q : Option A) (g : A → Option B) (w : B) → ((x : A) → o ≡ Some x → q ≡ Some x) → option_and_then g o ≡ Some w → option_and_then g q ≡ Some w
lift-then (Some x) q g w a e = ap (option_and_then g) (a x refl) ∙ e
lift-then None q g w a e = none-some w e

pub then-is : {A B : Type 0} (o : Option A) (f : A → Option B) (y : B) → option_and_then f o ≡ Some y → (x : A) × (o ≡ Some x) × (f x ≡ Some y)
then-is (Some x) f y e = (x, refl, e)
then-is None f y e = none-some y e

pub map-is : {A B : Type 0} (o : Option A) (f : A → B) (y : B) → option_map f o ≡ Some y → (x : A) × (o ≡ Some x) × (f x ≡ y)
map-is (Some x) f y e = (x, refl, some-same (f x) y e)
map-is None f y e = none-some y e

pub not-true : (b : Bool) → not b ≡ true → b ≡ false
not-true true e = cc
not-true false e = refl

lift-choose : (o q : Option ℕ) (g h : ℕ → Option ℕ) (w : ℕ) → ((x : ℕ) → o ≡ Some x → q ≡ Some x) → ((n : ℕ) → g n ≡ Some w → h n ≡ Some w) → option_and_then g o ≡ Some w → option_and_then h q ≡ Some w
lift-choose (Some x) q g h w a l e = ap (option_and_then h) (a x refl) ∙ l x e
lift-choose None q g h w a l e = none-some w e

lift-map : {A B : Type 0} (o q : Option A) (g : A → B) (w : B) → ((x : A) → o ≡ Some x → q ≡ Some x) → option_map g o ≡ Some w → option_map g q ≡ Some w
lift-map (Some x) q g w a e = ap (option_map g) (a x refl) ∙ e
lift-map None q g w a e = none-some w e

grown-is : (o : Option (List Step)) (s : Step) (t : List Step) → grown o s ≡ Some t → (p : List Step) × (o ≡ Some p) × (p ++ s ∷ [] ≡ t)
grown-is (Some p) s t e = (p, refl, some-same (p ++ s ∷ []) t e)
grown-is None s t e = none-some t e

module _ (cs : Cells) (a : Acting) (fixed : FixedWords cs a) where
  held-word : (t : List Step) (o : Option program.Cell) (w : ℕ) → held (found cs t) o ≡ Some w → word_or_zero a (cell_named cs (Some t)) ≡ w
  held-word t o w e = by (find-at t 0 cs)
    where
      by : ((cell_at false 0 t cs ≡ None) × (find (names_cell false t) cs ≡ None))
          ⊎ ((j : ℕ) × (x : program.Cell) × (cell_at false 0 t cs ≡ Some (0 + j)) × (find (names_cell false t) cs ≡ Some x) × (slice_get cs j ≡ Some x)) → word_or_zero a (cell_named cs (Some t)) ≡ w
      by (inl m) = ap (λ c. word_or_zero a (option_map (root_of cs) c)) m.0 ∙ past o (ap (λ c. held c o) (sym m.1) ∙ e)
        where
          past : (o : Option program.Cell) → held None o ≡ Some w → 0 ≡ w
          past None e = none-some w e
          past (Some f) e = zero_of (fixed_word f.sort) e
            where
              zero_of : (o : Option ℕ) → option_map (λ w. 0) o ≡ Some w → 0 ≡ w
              zero_of None e = none-some w e
              zero_of (Some x) e = some-same 0 w e
      by (inr m) =
          let word : fixed_word m.1.sort ≡ Some w = ap (λ c. held c o) (sym m.3) ∙ e in
          let at : 0 + m.0 ≡ m.0 = omega arith in
          ap (λ c. word_or_zero a (option_map (root_of cs) c)) m.2 ∙ ap (λ n. a.now (root_of cs n)) at ∙ ap a.now (root-at cs m.0 m.1 m.4 ∙ root-fixed cs m.1.sort m.0 w word) ∙ fixed.holds m.0 m.1 w m.4 word

  load-tells : (p first s : Option (List Step)) (w : ℕ) → ((t : List Step) → p ≡ Some t → is_open t ≡ false → s ≡ Some t)
      → option_and_then (λ s. option_and_then (λ f. held_at cs s f) first) p ≡ Some w → option_map (λ s. word_or_zero a (cell_named cs (Some s))) s ≡ Some w
  load-tells None first s w l e = none-some w e
  load-tells (Some t) None s w l e = none-some w e
  load-tells (Some t) (Some f) s w l e = by (is_open t) refl
    where
      by : (b : Bool) → is_open t ≡ b → option_map (λ s. word_or_zero a (cell_named cs (Some s))) s ≡ Some w
      by true h = none-some w (ap (λ b. if b then None else held (found cs t) (found cs f)) (sym h) ∙ e)
      by false h = ap (option_map (λ s. word_or_zero a (cell_named cs (Some s)))) (l t refl h) ∙ ap Some (held-word t (found cs f) w (ap (λ b. if b then None else held (found cs t) (found cs f)) (sym h) ∙ e))

  index-steps : (size : ℕ) (k : Kind) (p s : Option (List Step)) (o w : Option ℕ) (t : List Step) → ((t : List Step) → p ≡ Some t → is_open t ≡ false → s ≡ Some t) → ((x : ℕ) → o ≡ Some x → w ≡ Some x)
      → grown p (index_step size k o) ≡ Some t → is_open t ≡ false → option_and_then (λ i. grown s (At (index_of k i))) w ≡ Some t
  index-steps size k p s None w t l st e f =
      let g = grown-is p (index_step size k None) t e in
      true-false (open-grown g.0 (Open size) (subst (λ z. is_open z ≡ false) (sym g.2) f)).1
  index-steps size k p s (Some x) w t l st e f =
      let g = grown-is p (index_step size k (Some x)) t e in
      let q = (open-grown g.0 (At (index_of k x)) (subst (λ z. is_open z ≡ false) (sym g.2) f)).0 in
      ap (option_and_then (λ i. grown s (At (index_of k i)))) (st x refl) ∙ ap (λ o. grown o (At (index_of k x))) (l g.0 g.1 q) ∙ ap Some g.2

  mutual
    pub static-tells : (e : Term) (w : ℕ) → static cs e ≡ Some w → word_in cs a e ≡ Some w
    static-tells (Literal p k v) w h = h
    static-tells (Load p k l) w h = load-tells (pattern cs l) (first_of cs l) (steps_in cs a l) w (closed-steps l) h
    static-tells (Read p k l) w h = none-some w h
    static-tells (Convert p k e) w h = lift-map (static cs e) (word_in cs a e) (λ x. stored k (number_of (kind_of e) x)) w (static-tells e) h
    static-tells (Unary p k o e) w h = lift-then (static cs e) (word_in cs a e) (λ x. applied o (kind_of e) x (kind_of e) x) w (static-tells e) h
    static-tells (Binary p k o e f) w h = lift-two (static cs e) (static cs f) (word_in cs a e) (word_in cs a f) (λ x y. applied o (kind_of e) x (kind_of f) y) w (static-tells e) (static-tells f) h
    static-tells (Choose p k t e f) w h =
        let put : ℕ → ℕ → ℕ → Option ℕ = λ n x y. Some (chosen n (stored k (number_of (kind_of e) x)) (stored k (number_of (kind_of f) y))) in
        lift-choose (static cs t) (word_in cs a t) (λ n. with_two (static cs e) (static cs f) (put n)) (λ n. with_two (word_in cs a e) (word_in cs a f) (put n)) w (static-tells t)
        (λ n. lift-two (static cs e) (static cs f) (word_in cs a e) (word_in cs a f) (put n) w (static-tells e) (static-tells f)) h
    static-tells (Bit p e i) w h = lift-two (static cs e) (static cs i) (word_in cs a e) (word_in cs a i) (λ x n. Some (bit_at (width_of (kind_of e)) x (index_of (kind_of i) n))) w (static-tells e) (static-tells i) h
    static-tells (Range p k e u l) w h = lift-map (static cs e) (word_in cs a e) (part u l) w (static-tells e) h
    static-tells (Join p k e f) w h = lift-two (static cs e) (static cs f) (word_in cs a e) (word_in cs a f) (λ x y. Some (joined (width_of (kind_of f)) x y)) w (static-tells e) (static-tells f) h

    pub closed-steps : (l : Left) (t : List Step) → pattern cs l ≡ Some t → is_open t ≡ false → steps_in cs a l ≡ Some t
    closed-steps (Cell p n) t e f = e
    closed-steps (Prefix p n) t e f = e
    closed-steps (Null p) t e f = none-some t e
    closed-steps (Follow p s l) t e f = none-some t e
    closed-steps (Member l n) t e f =
        let g = grown-is (pattern cs l) (Named n) t e in
        ap (λ o. grown o (Named n)) (closed-steps l g.0 g.1 (open-grown g.0 (Named n) (subst (λ z. is_open z ≡ false) (sym g.2) f)).0) ∙ ap Some g.2
    closed-steps (Index l size e) t h f = index-steps size (kind_of e) (pattern cs l) (steps_in cs a l) (static cs e) (word_in cs a e) t (closed-steps l) (static-tells e) h f

  index-covers : (size : ℕ) (k : Kind) (p q : Option (List Step)) (o w : Option ℕ) (t s : List Step) → ((t s : List Step) → p ≡ Some t → q ≡ Some s → CoversAll t s) → ((x : ℕ) → o ≡ Some x → w ≡ Some x)
      → grown p (index_step size k o) ≡ Some t → option_and_then (λ i. grown q (At (index_of k i))) w ≡ Some s → CoversAll t s
  index-covers size k p q o None t s l st e f = none-some s f
  index-covers size k p q o (Some i) t s l st e f = by o e st
    where
      h : (y : List Step) × (q ≡ Some y) × (y ++ At (index_of k i) ∷ [] ≡ s)
      h = grown-is q (At (index_of k i)) s f

      both : (x : Step) → OneCovers x (At (index_of k i)) → (z : List Step) × (p ≡ Some z) × (z ++ x ∷ [] ≡ t) → CoversAll t s
      both x c g = subst (λ z. CoversAll z s) g.2 (subst (λ z. CoversAll (g.0 ++ x ∷ []) z) h.2 (covers-grown g.0 h.0 x (At (index_of k i)) (l g.0 h.0 g.1 h.1) c))

      by : (o : Option ℕ) → grown p (index_step size k o) ≡ Some t → ((x : ℕ) → o ≡ Some x → Some i ≡ Some x) → CoversAll t s
      by None e st = both (Open size) tt (grown-is p (Open size) t e)
      by (Some x) e st = both (At (index_of k x)) (ap (λ y. At (index_of k y)) (sym (some-same i x (st x refl)))) (grown-is p (At (index_of k x)) t e)

  cell-covers : (o : Option program.Cell) (t s : List Step) → option_map (λ c. steps_of c.name) o ≡ Some t → option_map (λ c. steps_of c.name) o ≡ Some s → CoversAll t s
  cell-covers None t s e f = none-some t e
  cell-covers (Some c) t s e f =
      subst (λ z. CoversAll z s) (some-same (steps_of c.name) t e) (subst (λ z. CoversAll (steps_of c.name) z) (some-same (steps_of c.name) s f) (covers-self (steps_of c.name) (name-shut c.name)))

  covers : (l : Left) (t s : List Step) → pattern cs l ≡ Some t → steps_in cs a l ≡ Some s → CoversAll t s
  covers (Cell p n) t s e f = cell-covers (slice_get cs n) t s e f
  covers (Prefix p n) t s e f = subst (λ z. CoversAll z s) (some-same (steps_of n) t e) (subst (λ z. CoversAll (steps_of n) z) (some-same (steps_of n) s f) (covers-self (steps_of n) (name-shut n)))
  covers (Null p) t s e f = none-some t e
  covers (Follow p q l) t s e f = none-some t e
  covers (Member l n) t s e f =
      let g = grown-is (pattern cs l) (Named n) t e in
      let h = grown-is (steps_in cs a l) (Named n) s f in
      subst (λ z. CoversAll z s) g.2 (subst (λ z. CoversAll (g.0 ++ Named n ∷ []) z) h.2 (covers-grown g.0 h.0 (Named n) (Named n) (covers l g.0 h.0 g.1 h.1) refl))
  covers (Index l size i) t s e f = index-covers size (kind_of i) (pattern cs l) (steps_in cs a l) (static cs i) (word_in cs a i) t s (covers l) (static-tells i) e f

  pub has-pattern : (l : Left) (s : List Step) → steps_in cs a l ≡ Some s → (t : List Step) × (pattern cs l ≡ Some t)
  has-pattern (Cell p n) s e = (s, e)
  has-pattern (Prefix p n) s e = (steps_of n, refl)
  has-pattern (Null p) s e = none-some s e
  has-pattern (Follow p q l) s e = none-some s e
  has-pattern (Member l n) s e =
      let h = grown-is (steps_in cs a l) (Named n) s e in
      let t = has-pattern l h.0 h.1 in
      (t.0 ++ Named n ∷ [], ap (λ o. grown o (Named n)) t.1)
  has-pattern (Index l size i) s e =
      let w = then-is (word_in cs a i) (λ j. grown (steps_in cs a l) (At (index_of (kind_of i) j))) s e in
      let h = grown-is (steps_in cs a l) (At (index_of (kind_of i) w.0)) s w.2 in
      let t = has-pattern l h.0 h.1 in
      (t.0 ++ index_step size (kind_of i) (static cs i) ∷ [], ap (λ o. grown o (index_step size (kind_of i) (static cs i))) t.1)

  -- the cell that a location names now is one of those that it may name
  pub named-in : (l : Left) → Sized cs l → (s : List Step) (c : ℕ) → steps_in cs a l ≡ Some s → cell_named cs (Some s) ≡ Some c → among c (cells_of cs l) ≡ true
  named-in l sized s c e f =
      let t = has-pattern l s e in
      let k = map-is (cell_at false 0 s cs) (root_of cs) c f in
      let x = cell-found s 0 cs k.0 k.1 in
      let fit = and-first (fits s (steps_of x.1.name)) (not (is_pointer x.1.sort)) x.4 in
      let plain = and-second (fits s (steps_of x.1.name)) (not (is_pointer x.1.sort)) x.4 in
      let fit' = sized.within t.0 x.0 x.1 t.1 x.3 (not-true (is_pointer x.1.sort) plain) (fits-agrees t.0 s (steps_of x.1.name) (covers l t.0 s t.1 e) fit) in
      let here = among-all t.0 0 cs x.0 x.1 x.3 (and-both (fits t.0 (steps_of x.1.name)) (not (is_pointer x.1.sort)) fit' plain) in
      let there = among-map (root_of cs) (0 + x.0) (cells_at 0 t.0 cs) here in
      ap (λ o. among c (unwrap_or (option_map (λ p. map (root_of cs) (cells_at 0 p cs)) o) [])) t.1
      ∙ subst (λ z. among z (map (root_of cs) (cells_at 0 t.0 cs)) ≡ true) (ap (root_of cs) (sym x.2) ∙ k.2) there
