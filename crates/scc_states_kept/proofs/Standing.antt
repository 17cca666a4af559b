-- What a set of cells holds behind one more cell, or one less.
use Rattle.std.proofs.Common.{◌≡◌, ◌<◌, ◌≤◌, ◌+◌, ℕ, arith, Bool, true, false, List, [], ◌∷◌, take, length, get_or, Option, Some, None, refl, sym, ap, subst, ◌∙◌, inl, inr}
use Rattle.std.specs.Prelude.{◌||◌, ◌&&◌, not, nat_eq, position, Result, Ok, Err, OnOk}
use Rattle.std.specs.List.{list_any}
use Rattle.std.proofs.lemmas.Bool.Decides.{nat_tests}
use Rattle.std.proofs.lemmas.List.Folds.{list_any_more}
use Rattle.std.proofs.lemmas.List.{take_all}
use Rattle.std.proofs.lemmas.List.Quantifiers.{position-Some}
use Rattle.scc_core.specs.declared.statics.Known.{Known}
use Rattle.scc_core_spec.specs.Static.{Cells}
use Rattle.scc_core_spec.specs.Uses.{Use, among, cells_of}
use Rattle.scc_core_view.specs.Terms.{taken_of}
use Rattle.scc_core_flow.specs.declared.set.CellSet.{CellSet}
use Rattle.scc_core_flow.specs.Sets.{holds}
use Rattle.scc_states_kept.specs.declared.own.Own.{Own}
use Rattle.scc_rules_walks.specs.Loads.{use_of, uses_of}
use Rattle.scc_rules_walks.specs.declared.loads.Load.{Load}
use Rattle.scc_states_kept.specs.Needs.{reads_cell}
use Rattle.scc_states_kept.specs.Rows.{cells_in}
use Rattle.scc_states_kept.specs.Slots.{Keeps, TellsUses, slot_in}

pub on_ok : {A E : Type 0} (r : Result A E) {P Q : Type 0} → (P → Q) → OnOk r P → OnOk r Q
on_ok (Ok a) f h = f h
on_ok (Err e) f h = tt

pub same_number : (a b : ℕ) → nat_eq a b ≡ true → a ≡ b
same_number a b e = grind (arith, e)

pub same_test : (a b : ℕ) → a ≡ b → nat_eq a b ≡ true
same_test a b e = grind (arith, nat_tests, e)

abbrev from_some : Option ℕ → ℕ
from_some None = 0
from_some (Some n) = n

spots : (ks : List ℕ) (x c s t : ℕ) → position (nat_eq x) ks ≡ Some s → position (nat_eq c) ks ≡ Some t → nat_eq s t ≡ nat_eq x c
spots ks x c s t h k = by (nat_eq x c) refl
  where
    apart : nat_eq x c ≡ false → (b : Bool) → nat_eq s t ≡ b → nat_eq s t ≡ false
    apart e true d =
        let p = same_number x (get_or ks s 0) (position-Some (nat_eq x) ks s 0 h).1 in
        let q = same_number c (get_or ks t 0) (position-Some (nat_eq c) ks t 0 k).1 in
        let r = same_test x c (p ∙ ap (λ i. get_or ks i 0) (same_number s t d) ∙ sym q) in
        absurd cc
    apart e false d = d

    by : (b : Bool) → nat_eq x c ≡ b → nat_eq s t ≡ nat_eq x c
    by true e = same_test s t (ap from_some (sym h ∙ ap (λ y. position (nat_eq y) ks) (same_number x c e) ∙ k)) ∙ sym e
    by false e = apart e (nat_eq s t) refl ∙ sym e

absent : (ks : List ℕ) (x c s : ℕ) → position (nat_eq x) ks ≡ Some s → position (nat_eq c) ks ≡ None → nat_eq x c ≡ false
absent ks x c s h k = by (nat_eq x c) refl
  where
    by : (b : Bool) → nat_eq x c ≡ b → nat_eq x c ≡ false
    by true e = let p = sym h ∙ ap (λ y. position (nat_eq y) ks) (same_number x c e) ∙ k in absurd cc
    by false e = e

module _ (only : ℕ → Bool) (own : Own) where
  pub keeps_same : (set : CellSet) (f g : ℕ → Bool) → ((x : ℕ) → f x ≡ g x) → Keeps only own set f → Keeps only own set g
  keeps_same set f g h k = record { told = λ x s o i. k.told x s o i ∙ h x }

  pub keeps_told : (set : CellSet) (f g : ℕ → Bool) → ((x : ℕ) → only x ≡ true → f x ≡ g x) → Keeps only own set f → Keeps only own set g
  keeps_told set f g h k = record { told = λ x s o i. k.told x s o i ∙ h x o }

  pub keeps_added : (old new : CellSet) (f : ℕ → Bool) (c t : ℕ) → slot_in own c ≡ Some t → ((n : ℕ) → holds new n ≡ (nat_eq n t || holds old n)) → Keeps only own old f
      → Keeps only own new (λ x. nat_eq x c || f x)
  unfolding slot_in
  keeps_added old new f c t there adds k = record {
    told = λ x s o h. adds s ∙ ap (λ b. b || holds old s) (spots own.cells.keys x c s t h there) ∙ ap (λ b. nat_eq x c || b) (k.told x s o h);
  }

  pub keeps_absent : (old : CellSet) (f : ℕ → Bool) (c : ℕ) → slot_in own c ≡ None → Keeps only own old f → Keeps only own old (λ x. nat_eq x c || f x)
  unfolding slot_in
  keeps_absent old f c there k = record { told = λ x s o h. k.told x s o h ∙ ap (λ b. b || f x) (sym (absent own.cells.keys x c s h there)) }

  pub keeps_removed : (old new : CellSet) (f : ℕ → Bool) (c t : ℕ) → slot_in own c ≡ Some t → ((n : ℕ) → holds new n ≡ (not (nat_eq n t) && holds old n)) → Keeps only own old f
      → Keeps only own new (λ x. not (nat_eq x c) && f x)
  unfolding slot_in
  keeps_removed old new f c t there takes k = record {
    told = λ x s o h. takes s ∙ ap (λ b. not b && holds old s) (spots own.cells.keys x c s t h there) ∙ ap (λ b. not (nat_eq x c) && b) (k.told x s o h);
  }

  pub keeps_unremoved : (old : CellSet) (f : ℕ → Bool) (c : ℕ) → slot_in own c ≡ None → Keeps only own old f → Keeps only own old (λ x. not (nat_eq x c) && f x)
  unfolding slot_in
  keeps_unremoved old f c there k = record { told = λ x s o h. k.told x s o h ∙ ap (λ b. not b && f x) (sym (absent own.cells.keys x c s h there)) }

one_more : (a b f : Bool) → (b || (a || f)) ≡ ((a || b) || f)
one_more true true f = refl
one_more true false f = refl
one_more false true f = refl
one_more false false f = refl

-- behind one more element of a list
pub keeps_more : (only : ℕ → Bool) (own : Own) {A : Type 0} (p : ℕ → A → Bool) (xs : List A) (i : ℕ) (d : A) (set : CellSet) (f : ℕ → Bool) → i < length xs
    → Keeps only own set (λ x. p x (get_or xs i d) || (list_any (p x) (take i xs) || f x)) → Keeps only own set (λ x. list_any (p x) (take (i + 1) xs) || f x)
keeps_more only own p xs i d set f h k =
    keeps_same only own set _ _ (λ x. one_more (list_any (p x) (take i xs)) (p x (get_or xs i d)) (f x) ∙ ap (λ b. b || f x) (sym (list_any_more (p x) xs i d h))) k

-- at the end of a list
pub keeps_all : (only : ℕ → Bool) (own : Own) {A : Type 0} (p : ℕ → A → Bool) (xs : List A) (i : ℕ) (set : CellSet) (f : ℕ → Bool) → length xs ≤ i
    → Keeps only own set (λ x. list_any (p x) (take i xs) || f x) → Keeps only own set (λ x. list_any (p x) xs || f x)
keeps_all only own p xs i set f h k = keeps_same only own set _ _ (λ x. ap (λ ys. list_any (p x) ys || f x) (take_all i xs h)) k

pub keeps_next : (only : ℕ → Bool) (own : Own) {A : Type 0} (p : ℕ → A → Bool) (xs : List A) (i : ℕ) (y : A) (set : CellSet) (f : ℕ → Bool) → i < length xs → y ≡ get_or xs i y
    → Keeps only own set (λ x. p x y || (list_any (p x) (take i xs) || f x)) → Keeps only own set (λ x. list_any (p x) (take (i + 1) xs) || f x)
keeps_next only own p xs i y set f h is k =
    keeps_more only own p xs i y set f h (keeps_same only own set _ _ (λ x. ap (λ z. p x z || (list_any (p x) (take i xs) || f x)) is) k)

-- ---- what loads read is what the definition says

module _ (known : Known) (cs : Cells) (only : ℕ → Bool) where
  pub loads_read : (ls : List Load) → TellsUses known cs only (uses_of ls) → (x : ℕ) → only x ≡ true → list_any (λ l. among x (cells_in known l.left.now)) ls ≡ reads_cell cs x (uses_of ls)
  loads_read [] h x o = refl
  loads_read (l ∷ ls) h x o =
      ap (λ b. b || list_any (λ l. among x (cells_in known l.left.now)) ls) (h l.left.now (use_of l) (inl refl) refl x o)
      ∙ ap (λ b. among x (cells_of cs (taken_of l.left.now).left) || b) (loads_read ls (λ m u i. h m u (inr i)) x o)

  pub loads_as : (ls : List Load) (us : List Use) → uses_of ls ≡ us → TellsUses known cs only us → (x : ℕ) → only x ≡ true → list_any (λ l. among x (cells_in known l.left.now)) ls ≡ reads_cell cs x us
  loads_as ls us is h x o = loads_read ls (subst (TellsUses known cs only) (sym is) h) x o ∙ ap (reads_cell cs x) is
