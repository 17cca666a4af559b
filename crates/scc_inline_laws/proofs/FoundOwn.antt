-- The cells of locals by their locations.
use Rattle.std.proofs.Common.{◌≡◌, ◌⊎◌, inl, inr, ℕ, suc, ◌+◌, Bool, true, false, not, ◌&&◌, ◌||◌, List, [], ◌∷◌, map, Option, Some, None, option_map, unwrap_or, slice_get, if◌then◌else◌, refl, sym, ap, ◌∙◌, subst, arith}
use Rattle.std.specs.Prelude.{find}
use Rattle.std.specs.Option.{option_or}
use Rattle.std.specs.List.{list_any}
use Rattle.std.proofs.lemmas.List.Folds.{find-append}
use Rattle.scc_semantics.specs.Location.{Location, Root, Part, Element, same, same_root, same_path}
use Rattle.scc_semantics.specs.Same.{is_own}
use Rattle.scc_core_spec.specs.Program as prog
use Rattle.scc_core_spec.specs.Source.{process_named}
use Rattle.scc_elab_spec.specs.Program.{Plain, Member}
use Rattle.scc_elab_spec.specs.Design.{Design}
use Rattle.scc_elab_spec.specs.Types.{is_direct}
use Rattle.scc_elab_spec.specs.Worth.{is_inside}
use Rattle.scc_elab_spec.specs.Bodies.{elements, number_kind}
use Rattle.scc_inline_spec.specs.Inlined.{home_of, member_of_root, own_cell, own_cells}
use Rattle.scc_inline_laws.proofs.Homed.{same_root-is}
use Rattle.scc_inline_laws.proofs.Listed.{root-same}
use Rattle.scc_inline_laws.proofs.Elements.{listed-inside}
use Rattle.scc_inline_laws.proofs.Owned.{Owned}
use Rattle.scc_inline_laws.proofs.Found.{core, test}

-- a local takes part in a look for pointers, or for others
abbrev pub wants : Bool → Member → Bool
wants pointer m = if pointer then not (is_direct m.shape.reach) else is_direct m.shape.reach

abbrev pub hits : Bool → Member → List Part → Bool
hits pointer m ps = is_inside m.shape.sizes ps && wants pointer m

pub owned-in : (i : ℕ) (r : Root) (rs : List Root) → Owned i rs → list_any (same_root r) rs ≡ true → is_own i r ≡ true
owned-in i r [] o e = cc
owned-in i r (x ∷ rs) o e = by (same_root r x) refl e (λ e. owned-in i r rs o.1 e)
  where
    by : (b : Bool) → same_root r x ≡ b → (b || list_any (same_root r) rs) ≡ true → (list_any (same_root r) rs ≡ true → is_own i r ≡ true) → is_own i r ≡ true
    by true t e ih = subst (λ r. is_own i r ≡ true) (sym (same_root-is r x t)) o.0
    by false t e ih = ih e

module _ (p : Plain) (d : Design) where
  -- the cell of a local that is found
  pub record IsOwnCell (pointer : Bool) (i : ℕ) (f : ℕ) (r : Root) (ps : List Part) (c : prog.Cell) : Type 0 where
    pub member : Member
    pub declared : member_of_root p f r ≡ Some member
    pub kind : c.kind ≡ number_kind member.shape.base
    pub sort : c.sort ≡ (if is_direct member.shape.reach then prog.Local i else prog.Pointer None)
    pub hit : hits pointer member ps ≡ true

  module _ (pointer : Bool) (r : Root) (ps : List Part) where
    abbrev pub l : Location
    l = record { root = r; path = ps }

    module _ (j f : ℕ) (path : List Part) (named : process_named 0 path (core p d).processes ≡ j) where
      abbrev pub Result : List Root → Option prog.Cell → Type 0
      Result rs o = ((o ≡ None) × (list_any (same_root r) rs ≡ true → (m : Member) → member_of_root p f r ≡ Some m → hits pointer m ps ≡ false))
          ⊎ ((c : prog.Cell) × (o ≡ Some c) × IsOwnCell pointer j f r ps c × (list_any (same_root r) rs ≡ true))

      cell-root : (k : ℕ) (m : Member) (is : List ℕ) (x : Root) → home_of p d j k ≡ x → test p d pointer l (own_cell path j k m is) ≡ ((same_root x r && same_path (map Element is) ps) && wants pointer m)
      cell-root k m is x e = ap (λ i. same (record { root = home_of p d i k; path = map Element is }) l && sorted (own_cell path j k m is)) named
          ∙ (ap (λ y. (same_root y r && same_path (map Element is) ps) && sorted (own_cell path j k m is)) e ∙ ap (λ b. (same_root x r && same_path (map Element is) ps) && b) (by pointer (is_direct m.shape.reach)))
        where
          sorted : prog.Cell → Bool
          sorted c = if pointer then prog.is_pointer c.sort else not (prog.is_pointer c.sort)

          by : (b a : Bool) → (if b then prog.is_pointer (if a then prog.Local j else prog.Pointer None) else not (prog.is_pointer (if a then prog.Local j else prog.Pointer None))) ≡ (if b then not a else a)
          by true true = refl
          by true false = refl
          by false true = refl
          by false false = refl

      -- none of another root
      miss : (k : ℕ) (m : Member) (x : Root) → home_of p d j k ≡ x → same_root x r ≡ false → (all : List (List ℕ)) → find (test p d pointer l) (map (own_cell path j k m) all) ≡ None
      miss k m x e n [] = refl
      miss k m x e n (is ∷ all) = ap (λ b. if b then Some (own_cell path j k m is) else find (test p d pointer l) (map (own_cell path j k m) all))
          (cell-root k m is x e ∙ ap (λ b. (b && same_path (map Element is) ps) && wants pointer m) n) ∙ miss k m x e n all

      -- of this root by the path
      look : (k : ℕ) (m : Member) (x : Root) → home_of p d j k ≡ x → same_root x r ≡ true → (all : List (List ℕ))
          → ((find (test p d pointer l) (map (own_cell path j k m) all) ≡ None) × ((list_any (λ is. same_path (map Element is) ps) all && wants pointer m) ≡ false))
          ⊎ ((is : List ℕ) × (find (test p d pointer l) (map (own_cell path j k m) all) ≡ Some (own_cell path j k m is)) × ((list_any (λ is. same_path (map Element is) ps) all && wants pointer m) ≡ true))
      look k m x e t [] = inl (refl, refl)
      look k m x e t (is ∷ all) = by (same_path (map Element is) ps) refl (wants pointer m) refl (look k m x e t all)
        where
          there : test p d pointer l (own_cell path j k m is) ≡ (same_path (map Element is) ps && wants pointer m)
          there = cell-root k m is x e ∙ ap (λ b. (b && same_path (map Element is) ps) && wants pointer m) t

          F : Option prog.Cell
          F = find (test p d pointer l) (map (own_cell path j k m) all)

          by : (a : Bool) → same_path (map Element is) ps ≡ a → (b : Bool) → wants pointer m ≡ b
              → ((find (test p d pointer l) (map (own_cell path j k m) all) ≡ None) × ((list_any (λ is. same_path (map Element is) ps) all && wants pointer m) ≡ false))
              ⊎ ((is : List ℕ) × (find (test p d pointer l) (map (own_cell path j k m) all) ≡ Some (own_cell path j k m is)) × ((list_any (λ is. same_path (map Element is) ps) all && wants pointer m) ≡ true))
              → ((find (test p d pointer l) (map (own_cell path j k m) (is ∷ all)) ≡ None) × ((list_any (λ is. same_path (map Element is) ps) (is ∷ all) && wants pointer m) ≡ false))
              ⊎ ((js : List ℕ) × (find (test p d pointer l) (map (own_cell path j k m) (is ∷ all)) ≡ Some (own_cell path j k m js)) × ((list_any (λ is. same_path (map Element is) ps) (is ∷ all) && wants pointer m) ≡ true))
          by true ea true eb ih = inr (is, ap (λ b. if b then Some (own_cell path j k m is) else F) (there ∙ (ap (λ a. a && wants pointer m) ea ∙ eb)), ap (λ a. (a || list_any (λ is. same_path (map Element is) ps) all) && wants pointer m) ea ∙ eb)
          by true ea false eb (inl ih) = inl (ap (λ b. if b then Some (own_cell path j k m is) else F) (there ∙ (ap (λ a. a && wants pointer m) ea ∙ eb)) ∙ ih.0, ap (λ a. (a || list_any (λ is. same_path (map Element is) ps) all) && wants pointer m) ea ∙ eb)
          by true ea false eb (inr ih) = absurd (never (list_any (λ is. same_path (map Element is) ps) all) (wants pointer m) eb ih.2)
            where
              never : (a b : Bool) → b ≡ false → (a && b) ≡ true → ⊥
              never true b e f = cc
              never false b e f = cc
          by false ea b eb (inl ih) = inl (ap (λ b. if b then Some (own_cell path j k m is) else F) (there ∙ ap (λ a. a && wants pointer m) ea) ∙ ih.0, ap (λ a. (a || list_any (λ is. same_path (map Element is) ps) all) && wants pointer m) ea ∙ ih.1)
          by false ea b eb (inr ih) = inr (ih.0, ap (λ b. if b then Some (own_cell path j k m is) else F) (there ∙ ap (λ a. a && wants pointer m) ea) ∙ ih.1, ap (λ a. (a || list_any (λ is. same_path (map Element is) ps) all) && wants pointer m) ea ∙ ih.2)

      pub own-find : (k : ℕ) (rs : List Root) → ((a : ℕ) (x : Root) → slice_get rs a ≡ Some x → home_of p d j (k + a) ≡ x) → Result rs (find (test p d pointer l) (own_cells p j f path k rs))
      own-find k [] at = inl (refl, λ e. cc)
      own-find k (x ∷ rs) at =
          subst (Result (x ∷ rs)) (sym (find-append (test p d pointer l) (unwrap_or (option_map (λ m. map (own_cell path j k m) (elements m.shape.sizes)) (member_of_root p f x)) []) (own_cells p j f path (suc k) rs)))
          (by (same_root x r) refl (own-find (suc k) rs (λ a y e. let z : k + suc a ≡ suc k + a = omega arith in subst (λ n. home_of p d j n ≡ y) z (at (suc a) y e))))
        where
          here : home_of p d j k ≡ x
          here = let z : k + 0 ≡ k = omega arith in subst (λ n. home_of p d j n ≡ x) z (at 0 x refl)

          none : same_root x r ≡ false → (o : Option Member) → find (test p d pointer l) (unwrap_or (option_map (λ m. map (own_cell path j k m) (elements m.shape.sizes)) o) []) ≡ None
          none n None = refl
          none n (Some m) = miss k m x here n (elements m.shape.sizes)

          back : (b : Bool) → same_root r x ≡ b → same_root x r ≡ false → b ≡ false
          back true e n = let z = same_root-is r x e in absurd (let w = sym (ap (λ y. same_root y r) z) ∙ root-same r in cc)
          back false e n = refl

          later : (a b : Bool) → b ≡ true → (a || b) ≡ true
          later true b e = refl
          later false b e = e

          by : (b : Bool) → same_root x r ≡ b → Result rs (find (test p d pointer l) (own_cells p j f path (suc k) rs))
              → Result (x ∷ rs) (option_or (find (test p d pointer l) (unwrap_or (option_map (λ m. map (own_cell path j k m) (elements m.shape.sizes)) (member_of_root p f x)) [])) (find (test p d pointer l) (own_cells p j f path (suc k) rs)))
          by false n (inl ih) = inl (
            ap (λ o. option_or o (find (test p d pointer l) (own_cells p j f path (suc k) rs))) (none n (member_of_root p f x)) ∙ ih.0,
            λ e. ih.1 (sym (ap (λ b. b || list_any (same_root r) rs) (back (same_root r x) refl n)) ∙ e),
          )
          by false n (inr ih) = inr (ih.0, ap (λ o. option_or o (find (test p d pointer l) (own_cells p j f path (suc k) rs))) (none n (member_of_root p f x)) ∙ ih.1, ih.2, later (same_root r x) (list_any (same_root r) rs) ih.3)
          by true t ih = subst (λ y. Result (x ∷ rs) (option_or (find (test p d pointer l) (unwrap_or (option_map (λ m. map (own_cell path j k m) (elements m.shape.sizes)) (member_of_root p f y)) [])) (find (test p d pointer l) (own_cells p j f path (suc k) rs))))
              (sym (same_root-is x r t)) (go (member_of_root p f r) refl)
            where
              in-here : list_any (same_root r) (x ∷ rs) ≡ true
              in-here = ap (λ b. b || list_any (same_root r) rs) (ap (same_root r) (same_root-is x r t) ∙ root-same r)

              R : Option prog.Cell
              R = find (test p d pointer l) (own_cells p j f path (suc k) rs)

              other : (o : Option Member) → member_of_root p f r ≡ o → ((m : Member) → o ≡ Some m → hits pointer m ps ≡ false) → (w : Option prog.Cell) → w ≡ None
                  → Result rs (find (test p d pointer l) (own_cells p j f path (suc k) rs)) → Result (x ∷ rs) (option_or w (find (test p d pointer l) (own_cells p j f path (suc k) rs)))
              other o e un w z (inl ih) = inl (ap (λ o. option_or o (find (test p d pointer l) (own_cells p j f path (suc k) rs))) z ∙ ih.0, λ u m y. un m (sym e ∙ y))
              other o e un w z (inr ih) = inr (ih.0, ap (λ o. option_or o (find (test p d pointer l) (own_cells p j f path (suc k) rs))) z ∙ ih.1, ih.2, in-here)

              go : (o : Option Member) → member_of_root p f r ≡ o
                  → Result (x ∷ rs) (option_or (find (test p d pointer l) (unwrap_or (option_map (λ m. map (own_cell path j k m) (elements m.shape.sizes)) o) [])) (find (test p d pointer l) (own_cells p j f path (suc k) rs)))
              go None e = other None e (λ m y. cc) None refl ih
              go (Some m) e = found (look k m x here t (elements m.shape.sizes))
                where
                  same : (is_inside m.shape.sizes ps && wants pointer m) ≡ (list_any (λ is. same_path (map Element is) ps) (elements m.shape.sizes) && wants pointer m)
                  same = ap (λ b. b && wants pointer m) (sym (listed-inside m.shape.sizes ps))

                  found : ((find (test p d pointer l) (map (own_cell path j k m) (elements m.shape.sizes)) ≡ None) × ((list_any (λ is. same_path (map Element is) ps) (elements m.shape.sizes) && wants pointer m) ≡ false))
                      ⊎ ((is : List ℕ) × (find (test p d pointer l) (map (own_cell path j k m) (elements m.shape.sizes)) ≡ Some (own_cell path j k m is)) × ((list_any (λ is. same_path (map Element is) ps) (elements m.shape.sizes) && wants pointer m) ≡ true))
                      → Result (x ∷ rs) (option_or (find (test p d pointer l) (map (own_cell path j k m) (elements m.shape.sizes))) (find (test p d pointer l) (own_cells p j f path (suc k) rs)))
                  found (inl y) = other (Some m) e (λ m' z. let w : m ≡ m' = cc in subst (λ m. hits pointer m ps ≡ false) w (same ∙ y.1)) (find (test p d pointer l) (map (own_cell path j k m) (elements m.shape.sizes))) y.0 ih
                  found (inr y) = inr (
                    own_cell path j k m y.0,
                    ap (λ o. option_or o (find (test p d pointer l) (own_cells p j f path (suc k) rs))) y.1,
                    record { member = m; declared = e; kind = refl; sort = refl; hit = same ∙ y.2 },
                    in-here,
                  )
