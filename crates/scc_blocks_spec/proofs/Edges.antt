-- What stands in a list that is another one in some order stands in that one.
use Rattle.std.proofs.Common.{◌≡◌, ℕ, ◌<◌, List, length, Some, ap, sym, ◌∙◌, subst}
use Rattle.std.specs.Prelude.{slice_get, get_or, IsPermutation}
use Rattle.std.specs.List.Sorted.{apply_swaps}
use Rattle.std.proofs.lemmas.Grind.{get_or_moved}
use Rattle.std.proofs.lemmas.Option.{slice_get_within, get_or_from_slice_get, slice_get-get_or}

pub stands_in : {A : Type 0} (xs ys : List A) (k : ℕ) (a : A) → IsPermutation xs ys → slice_get ys k ≡ Some a → (j : ℕ) × (slice_get xs j ≡ Some a)
stands_in xs ys k a p e =
    let within : k < length (apply_swaps xs p.moves) = subst (λ l. k < length l) p.is (slice_get_within ys k a e) in
    let moved = (get_or_moved xs p.moves k a p.below within).1 in
    let same : get_or xs moved.0 a ≡ a = sym moved.2 ∙ ap (λ l. get_or l k a) (sym p.is) ∙ get_or_from_slice_get ys k a a e in
    (moved.0, slice_get-get_or xs moved.0 a moved.1 ∙ ap (λ x. Some x) same)
