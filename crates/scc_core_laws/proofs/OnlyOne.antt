-- Of registers that are tied and settled there is one to the same inputs.
use Rattle.std.proofs.Common.{◌≡◌, ℕ, Bool, true, false, not, ◌||◌, nat_eq, List, [], ◌∷◌, ◌++◌, Some, refl, sym, ap, ◌∙◌, arith, slice_get, ◌⊎◌, inl, inr}
use Rattle.std.proofs.lemmas.List.Folds.{list_any-append}
use Rattle.scc_core_spec.specs.Program as program
use Rattle.scc_core_spec.specs.Program.{Program, Process, is_root, is_combinational}
use Rattle.scc_core_spec.specs.Static.{Cells}
use Rattle.scc_core_spec.specs.Uses.{has_sort, among}
use Rattle.scc_core_spec.specs.Kept.{written_by}
use Rattle.scc_core_spec.specs.Feeding.{methods, feeds, ready, IsOrderFrom, done, next}
use Rattle.scc_core_spec.specs.Source.{Home}
use Rattle.scc_blocks_spec.specs.Names.{holds_word}
use Rattle.scc_blocks_spec.specs.Passed.{all_reads}
use Rattle.scc_blocks_spec.specs.Turns.{Regs}
use Rattle.scc_core_effect_laws.specs.Follows.{IsSoundCore, Obeys, Does, Tracks}
use Rattle.scc_core_effect_laws.specs.Ordering.{IsOrdered, Answers, IsSettled, SameInputs}
use Rattle.scc_core_effect_laws.proofs.Names.{and-second, or-left, true-false}
use Rattle.scc_core_effect_laws.proofs.Unsure.{is-false, sort-of}
use Rattle.scc_core_laws.proofs.Asking.{same-asked}
use Rattle.scc_core_laws.proofs.Ordered.{in-methods, all-at, written-next, feeds-is, writer-or}

module _ (home : Home) (p : Program) (resolved : IsSoundCore home p) (obeys : Obeys p) (bounds : ℕ → ℕ) (does : Does home p bounds) (tracks : Tracks home p bounds) (order : List ℕ) (ordered : IsOrdered p order)
    (g h : Regs) (known : Answers p g) (known' : Answers p h) (settled : IsSettled p g) (settled' : IsSettled p h) (inputs : SameInputs p g h) where
  abbrev cs : Cells
  cs = p.cells

  abbrev Same : List ℕ → Type 0
  Same placed = (i x : ℕ) (q : Process) → among i placed ≡ true → slice_get p.processes i ≡ Some q → is_combinational q ≡ true → has_sort is_root cs x ≡ true → among x (written_by cs q) ≡ true → g.word x ≡ h.word x

  same-next : (i : ℕ) (placed : List ℕ) → ready (feeds p) (methods p) placed i ≡ true → Same placed → Same (placed ++ i ∷ [])
  same-next i placed r same j x q a here comb root w = cases (nat_eq j i) refl
    where
      equal : nat_eq j i ≡ true → j ≡ i
      equal e = grind arith

      before : nat_eq j i ≡ false → among j placed ≡ true
      before e = by-last (among j placed) (sym (list_any-append (nat_eq j) placed (i ∷ [])) ∙ a)
        where
          by-last : (b : Bool) → (b || (nat_eq j i || false)) ≡ true → b ≡ true
          by-last true h = refl
          by-last false h = true-false (sym h ∙ ap (λ t. t || false) e)

      agree : j ≡ i → (c : ℕ) → among c (all_reads cs q) ≡ true → has_sort is_root cs c ≡ true → g.word c ≡ h.word c
      agree one c v root' = by (writer-or home p resolved obeys bounds does tracks order ordered c)
        where
          by : (((z : ℕ) × (r : Process) × (slice_get p.processes z ≡ Some r) × (is_combinational r ≡ true) × (among c (written_by cs r) ≡ true))
              ⊎ ((z : ℕ) (r : Process) → slice_get p.processes z ≡ Some r → is_combinational r ≡ true → among c (written_by cs r) ≡ true → ⊥)) → g.word c ≡ h.word c
          by (inr none) = inputs c root' none
          by (inl y) = same y.0 c y.1 placed-there y.2 y.3 root' y.4
            where
              fed : feeds p y.0 i ≡ true
              fed = ap (feeds p y.0) (sym one) ∙ feeds-is home p resolved obeys bounds does tracks order ordered y.0 j c y.1 q y.2 here y.3 comb root' y.4 v

              placed-there : among y.0 placed ≡ true
              placed-there =
                  let all = all-at (λ z. nat_eq i z || (not (feeds p z i) || among z placed)) (methods p) y.0 (and-second (not (among i placed)) _ r) (in-methods p y.0 y.1 y.2 y.3) in
                  last (nat_eq i y.0) (feeds p y.0 i) (among y.0 placed) fed (is-false _ self-fed) all
                where
                  same-index : nat_eq i y.0 ≡ true → y.0 ≡ i
                  same-index e = grind arith

                  self-fed : nat_eq i y.0 ≡ true → ⊥
                  self-fed e = true-false (sym (ap (λ z. feeds p z i) (sym (same-index e)) ∙ fed) ∙ ordered.no_self i)

                  last : (a b c : Bool) → b ≡ true → a ≡ false → (a || (not b || c)) ≡ true → c ≡ true
                  last true b c e f h = true-false f
                  last false true c e f h = h
                  last false false c e f h = true-false (sym e)

      cell : (y : program.Cell) × (slice_get cs x ≡ Some y) × (is_root y.sort ≡ true)
      cell = sort-of is_root cs x root

      holds : holds_word p x ≡ true
      holds = or-left _ _ root

      cases : (b : Bool) → nat_eq j i ≡ b → g.word x ≡ h.word x
      cases false e = same j x q (before e) here comb root w
      cases true e =
          sym (settled x cell.0 cell.1 holds) ∙ written-next home p resolved obeys bounds does tracks order ordered g j x q here comb root w
          ∙ same-asked home p resolved obeys bounds does tracks order ordered g h known known' j x q here comb root w (agree (equal e))
          ∙ sym (written-next home p resolved obeys bounds does tracks order ordered h j x q here comb root w) ∙ settled' x cell.0 cell.1 holds

  all-same : {placed rest : List ℕ} → IsOrderFrom (feeds p) (methods p) placed rest → Same placed
      → (i x : ℕ) (q : Process) → slice_get p.processes i ≡ Some q → is_combinational q ≡ true → has_sort is_root cs x ≡ true → among x (written_by cs q) ≡ true → g.word x ≡ h.word x
  all-same (done placed all) same = λ i x q here comb root w. same i x q (all i (in-methods p i q here comb)) here comb root w
  all-same (next placed i a r least more) same = all-same more (same-next i placed r same)

  pub only-one : (c : ℕ) → has_sort is_root cs c ≡ true → g.word c ≡ h.word c
  only-one c root = by (writer-or home p resolved obeys bounds does tracks order ordered c)
    where
      by : (((z : ℕ) × (r : Process) × (slice_get p.processes z ≡ Some r) × (is_combinational r ≡ true) × (among c (written_by cs r) ≡ true))
          ⊎ ((z : ℕ) (r : Process) → slice_get p.processes z ≡ Some r → is_combinational r ≡ true → among c (written_by cs r) ≡ true → ⊥)) → g.word c ≡ h.word c
      by (inr none) = inputs c root none
      by (inl y) = all-same ordered.stands (λ i x q a. true-false (sym a)) y.0 c y.1 y.2 y.3 root y.4
