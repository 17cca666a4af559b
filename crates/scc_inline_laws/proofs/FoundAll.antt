-- The cell that stands at a local of a process, among all cells.
use Rattle.std.proofs.Common.{◌≡◌, ◌⊎◌, inl, inr, ℕ, zero, suc, ◌+◌, Bool, true, false, List, [], ◌∷◌, Option, Some, None, option_and_then, unwrap_or, slice_get, if◌then◌else◌, refl, sym, ap, ◌∙◌, subst, arith}
use Rattle.std.specs.Prelude.{find}
use Rattle.std.specs.Option.{option_or}
use Rattle.std.specs.List.{list_any}
use Rattle.std.proofs.lemmas.List.Folds.{find-append}
use Rattle.scc_semantics.specs.Location.{Location, Root, Part, same_root, same_path}
use Rattle.scc_semantics.specs.Location as location
use Rattle.scc_semantics.specs.Same.{is_own}
use Rattle.scc_core_spec.specs.Program as prog
use Rattle.scc_core_spec.specs.Source.{process_named, cell_there}
use Rattle.scc_elab_spec.specs.Program.{Plain, Member}
use Rattle.scc_elab_spec.specs.Design as design
use Rattle.scc_elab_spec.specs.Design.{Design}
use Rattle.scc_elab_spec.specs.Cells.{object_cells}
use Rattle.scc_elab_spec.specs.Numbering.{numbered}
use Rattle.scc_inline_spec.specs.Inlined.{home_of, copied_from, process_path, member_of_root, own_cells, all_cells}
use Rattle.scc_inline_laws.specs.OrderlyDesign.{IsOrderly}
use Rattle.scc_inline_laws.proofs.Owned.{owned-numbered}
use Rattle.scc_inline_laws.proofs.Listed.{root-same}
use Rattle.scc_inline_laws.proofs.Found.{home, core, test, roots-apart, path-same, no-object, is_top_root}
use Rattle.scc_inline_laws.proofs.FoundOwn.{hits, owned-in, IsOwnCell, own-find}

module _ (p : Plain) (d : Design) (ord : IsOrderly p d) where
  -- a process is found by its name
  named-at : (k : ℕ) (qs : List design.Process) (path : List Part) (a : ℕ) (q : design.Process) → slice_get qs a ≡ Some q → same_path path (process_path p d q) ≡ true
      → ((b : ℕ) (r : design.Process) → slice_get qs b ≡ Some r → same_path path (process_path p d r) ≡ true → b ≡ a) → process_named k path (copied_from p d k qs) ≡ k + a
  named-at k [] path a q e s f = cc
  named-at k (x ∷ qs) path a q e s f = by (same_path path (process_path p d x)) refl a e f (λ a e f. named-at (suc k) qs path a q e s f)
    where
      by : (b : Bool) → same_path path (process_path p d x) ≡ b → (a : ℕ) → slice_get (x ∷ qs) a ≡ Some q → ((b : ℕ) (r : design.Process) → slice_get (x ∷ qs) b ≡ Some r → same_path path (process_path p d r) ≡ true → b ≡ a)
          → ((a : ℕ) → slice_get qs a ≡ Some q → ((b : ℕ) (r : design.Process) → slice_get qs b ≡ Some r → same_path path (process_path p d r) ≡ true → b ≡ a) → process_named (suc k) path (copied_from p d (suc k) qs) ≡ suc k + a)
          → (if b then k else process_named (suc k) path (copied_from p d (suc k) qs)) ≡ k + a
      by true t a e f ih = let z = f 0 x refl t in omega (arith, z)
      by false t zero e f ih = absurd (let z : x ≡ q = cc in let w = ap (λ x. same_path path (process_path p d x)) z ∙ s in cc)
      by false t (suc a) e f ih = let w = ih a e (λ b r u v. let z = f (suc b) r u v in omega (arith, z)) in omega (arith, w)

  pub named : (i : ℕ) (q : design.Process) → slice_get d.processes i ≡ Some q → process_named 0 (process_path p d q) (core p d).processes ≡ i
  named i q e = let z = named-at 0 d.processes (process_path p d q) i q e (path-same (process_path p d q)) (λ b r u v. sym (ord.names i b q r e u v)) in omega (arith, z)

  -- the numbers of a process lead to what is numbered
  home-at : (j : ℕ) (q : design.Process) → slice_get d.processes j ≡ Some q → (a : ℕ) (x : Root) → slice_get (numbered p j q.function) a ≡ Some x → home_of p d j a ≡ x
  home-at j q e a x g = ap (λ o. unwrap_or (option_and_then (λ q. slice_get (numbered p j q.function) a) o) (location.Local j [] a)) e ∙ ap (λ o. unwrap_or o (location.Local j [] a)) g

  homes : (j : ℕ) (q : design.Process) → slice_get d.processes j ≡ Some q → (a : ℕ) (x : Root) → slice_get (numbered p j q.function) a ≡ Some x → home_of p d j (0 + a) ≡ x
  homes j q e a x g = let z : a ≡ 0 + a = omega arith in subst (λ a. home_of p d j a ≡ x) z (home-at j q e a x g)

  module _ (pointer : Bool) (i : ℕ) (r : Root) (ps : List Part) (own : is_own i r ≡ true) where
    abbrev l : Location
    l = record { root = r; path = ps }

    -- no cell stands there, where none is declared
    abbrev Misses : design.Process → Type 0
    Misses q = list_any (same_root r) (numbered p i q.function) ≡ true → (m : Member) → member_of_root p q.function r ≡ Some m → hits pointer m ps ≡ false

    abbrev pub Finds : Option prog.Cell → Type 0
    Finds o = (c : prog.Cell) × (q : design.Process) × (o ≡ Some c) × (slice_get d.processes i ≡ Some q) × IsOwnCell p d pointer i q.function r ps c

    all-find : (k : ℕ) (qs : List design.Process) → ((a : ℕ) (q : design.Process) → slice_get qs a ≡ Some q → slice_get d.processes (k + a) ≡ Some q)
        → ((find (test p d pointer l) (all_cells p d k qs) ≡ None) × ((a : ℕ) (q : design.Process) → slice_get qs a ≡ Some q → k + a ≡ i → Misses q)) ⊎ Finds (find (test p d pointer l) (all_cells p d k qs))
    all-find k [] f = inl (refl, λ a q e. cc)
    all-find k (q ∷ qs) f =
        subst (λ o. ((o ≡ None) × ((a : ℕ) (u : design.Process) → slice_get (q ∷ qs) a ≡ Some u → k + a ≡ i → Misses u)) ⊎ Finds o)
        (sym (find-append (test p d pointer l) (own_cells p k q.function (process_path p d q) 0 (numbered p k q.function)) (all_cells p d (suc k) qs)))
        (by (own-find p d pointer r ps k q.function (process_path p d q) (named k q at) 0 (numbered p k q.function) (λ a x e. homes k q at a x e))
        (all-find (suc k) qs (λ a u e. let z : k + suc a ≡ suc k + a = omega arith in subst (λ n. slice_get d.processes n ≡ Some u) z (f (suc a) u e))))
      where
        at : slice_get d.processes k ≡ Some q
        at = let z : k + 0 ≡ k = omega arith in subst (λ n. slice_get d.processes n ≡ Some q) z (f 0 q refl)

        A : Option prog.Cell
        A = find (test p d pointer l) (own_cells p k q.function (process_path p d q) 0 (numbered p k q.function))

        B : Option prog.Cell
        B = find (test p d pointer l) (all_cells p d (suc k) qs)

        by : ((A ≡ None) × (list_any (same_root r) (numbered p k q.function) ≡ true → (m : Member) → member_of_root p q.function r ≡ Some m → hits pointer m ps ≡ false))
            ⊎ ((c : prog.Cell) × (A ≡ Some c) × IsOwnCell p d pointer k q.function r ps c × (list_any (same_root r) (numbered p k q.function) ≡ true))
            → ((B ≡ None) × ((a : ℕ) (u : design.Process) → slice_get qs a ≡ Some u → suc k + a ≡ i → Misses u)) ⊎ Finds B
            → ((option_or A B ≡ None) × ((a : ℕ) (u : design.Process) → slice_get (q ∷ qs) a ≡ Some u → k + a ≡ i → Misses u)) ⊎ Finds (option_or A B)
        by (inl x) (inl y) = inl (ap (λ o. option_or o B) x.0 ∙ y.0, λ a u e z. at-index a u e z)
          where
            at-index : (a : ℕ) (u : design.Process) → slice_get (q ∷ qs) a ≡ Some u → k + a ≡ i → Misses u
            at-index zero u e z = let w : q ≡ u = cc in let v : k ≡ i = omega (arith, z) in
                subst (λ u. Misses u) w (subst (λ i. list_any (same_root r) (numbered p i q.function) ≡ true → (m : Member) → member_of_root p q.function r ≡ Some m → hits pointer m ps ≡ false) v x.1)
            at-index (suc a) u e z = y.1 a u e (omega (arith, z))
        by (inl x) (inr y) = inr (y.0, y.1, ap (λ o. option_or o B) x.0 ∙ y.2, y.3, y.4)
        by (inr x) y = let z : k ≡ i = roots-apart k i r r (owned-in k r (numbered p k q.function) (owned-numbered k p q.function) x.3) own (root-same r) in
            inr (x.0, q, ap (λ o. option_or o B) x.1, subst (λ n. slice_get d.processes n ≡ Some q) z at, subst (λ n. IsOwnCell p d pointer n q.function r ps x.0) z x.2)

    -- the cell at a local
    pub find-own : is_top_root r ≡ false → ((cell_there (home p d) (core p d) pointer l ≡ None) × ((q : design.Process) → slice_get d.processes i ≡ Some q → Misses q)) ⊎ Finds (cell_there (home p d) (core p d) pointer l)
    find-own t = subst (λ o. ((o ≡ None) × ((q : design.Process) → slice_get d.processes i ≡ Some q → Misses q)) ⊎ Finds o)
        (sym (find-append (test p d pointer l) (object_cells p d) (all_cells p d 0 d.processes) ∙ ap (λ o. option_or o (find (test p d pointer l) (all_cells p d 0 d.processes))) (no-object p d pointer l t 0 d.objects)))
        (by (all-find 0 d.processes (λ a q e. let z : a ≡ 0 + a = omega arith in subst (λ n. slice_get d.processes n ≡ Some q) z e)))
      where
        C : Option prog.Cell
        C = find (test p d pointer l) (all_cells p d 0 d.processes)

        by : ((C ≡ None) × ((a : ℕ) (q : design.Process) → slice_get d.processes a ≡ Some q → 0 + a ≡ i → Misses q)) ⊎ Finds C
            → ((C ≡ None) × ((q : design.Process) → slice_get d.processes i ≡ Some q → Misses q)) ⊎ Finds C
        by (inl x) = inl (x.0, λ q e. x.1 i q e (omega arith))
        by (inr x) = inr x

  -- no local stands at the top
  pub no-own : (pointer : Bool) (path : List Part) → find (test p d pointer (record { root = location.Top; path = path })) (all_cells p d 0 d.processes) ≡ None
  no-own pointer path = go 0 d.processes (λ a q e. let z : a ≡ 0 + a = omega arith in subst (λ n. slice_get d.processes n ≡ Some q) z e)
    where
      go : (k : ℕ) (qs : List design.Process) → ((a : ℕ) (q : design.Process) → slice_get qs a ≡ Some q → slice_get d.processes (k + a) ≡ Some q)
          → find (test p d pointer (record { root = location.Top; path = path })) (all_cells p d k qs) ≡ None
      go k [] f = refl
      go k (q ∷ qs) f = find-append (test p d pointer (record { root = location.Top; path = path })) (own_cells p k q.function (process_path p d q) 0 (numbered p k q.function)) (all_cells p d (suc k) qs)
          ∙ (ap (λ o. option_or o (find (test p d pointer (record { root = location.Top; path = path })) (all_cells p d (suc k) qs))) (by (own-find p d pointer location.Top path k q.function (process_path p d q) (named k q at) 0 (numbered p k q.function) (λ a x e. homes k q at a x e)))
          ∙ go (suc k) qs (λ a u e. let z : k + suc a ≡ suc k + a = omega arith in subst (λ n. slice_get d.processes n ≡ Some u) z (f (suc a) u e)))
        where
          at : slice_get d.processes k ≡ Some q
          at = let z : k + 0 ≡ k = omega arith in subst (λ n. slice_get d.processes n ≡ Some q) z (f 0 q refl)

          A : Option prog.Cell
          A = find (test p d pointer (record { root = location.Top; path = path })) (own_cells p k q.function (process_path p d q) 0 (numbered p k q.function))

          by : ((A ≡ None) × (list_any (same_root location.Top) (numbered p k q.function) ≡ true → (m : Member) → member_of_root p q.function location.Top ≡ Some m → hits pointer m path ≡ false))
              ⊎ ((c : prog.Cell) × (A ≡ Some c) × IsOwnCell p d pointer k q.function location.Top path c × (list_any (same_root location.Top) (numbered p k q.function) ≡ true)) → A ≡ None
          by (inl x) = x.0
          by (inr x) = absurd (let z = owned-in k location.Top (numbered p k q.function) (owned-numbered k p q.function) x.3 in cc)
