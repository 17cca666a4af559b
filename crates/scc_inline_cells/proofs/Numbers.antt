-- The number of an object's cell.
use Rattle.std.proofs.Common.{◌≡◌, refl, sym, ap, ◌∙◌, arith, ℕ, zero, suc, ◌+◌, Bool, true, false, not, List, [], ◌∷◌, take, filter, length, Option, Some, None, slice_get, if◌then◌else◌}
use Rattle.scc_elab_spec.specs.Design.{Design, Object, is_module}
use Rattle.scc_elab_spec.specs.Cells.{cell_number}
use Rattle.scc_inline_cells.specs.Listed.{counted}

abbrev has_cell : Object → Bool
has_cell o = not (is_module o.node)

numbered_from : (os : List Object) (m n c : ℕ) → slice_get (counted m os) n ≡ Some (Some c) → c ≡ m + length (filter has_cell (take n os))
numbered_from [] m n c e = cc
numbered_from (o ∷ os) m zero c e = by (is_module o.node) e
  where
    by : (b : Bool) → slice_get (if b then None ∷ counted m os else Some m ∷ counted (suc m) os) 0 ≡ Some (Some c) → c ≡ m + 0
    by true e = absurd cc
    by false e = let s : m ≡ c = same e in omega (arith, s)
      where
        same : Some (Some m) ≡ Some (Some c) → m ≡ c
        same e = cc
numbered_from (o ∷ os) m (suc n) c e = by (is_module o.node) e (λ k f. numbered_from os k n c f)
  where
    by : (b : Bool) → slice_get (if b then None ∷ counted m os else Some m ∷ counted (suc m) os) (suc n) ≡ Some (Some c)
        → ((k : ℕ) → slice_get (counted k os) n ≡ Some (Some c) → c ≡ k + length (filter has_cell (take n os)))
        → c ≡ m + length (if not b then o ∷ filter has_cell (take n os) else filter has_cell (take n os))
    by true e next = next m e
    by false e next = let s : c ≡ suc m + length (filter has_cell (take n os)) = next (suc m) e in omega (arith, s)

pub number_is : (d : Design) (of : List (Option ℕ)) (n c : ℕ) → of ≡ counted 0 d.objects → slice_get of n ≡ Some (Some c) → c ≡ cell_number d n
number_is d of n c e g = let s : c ≡ 0 + length (filter has_cell (take n d.objects)) = numbered_from d.objects 0 n c (ap (λ z. slice_get z n) (sym e) ∙ g) in omega (arith, s)
