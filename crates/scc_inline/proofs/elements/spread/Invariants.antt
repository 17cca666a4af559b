use Rattle.std.proofs.Common.{◌≡◌, ◌-◌, ◌∷◌, ◌++◌, map, flat_map}
use Rattle.std.specs.List.{range_with_len}
use Rattle.scc_inline.proofs.elements.spread.Given as goal

abbrev pub invariant-loop-i : goal.invariant-loop-i
invariant-loop-i l = l.all ++ flat_map (λ i. map (λ is. i ∷ is) l.inner) (range_with_len l.i (l.size - l.i)) ≡ flat_map (λ i. map (λ is. i ∷ is) l.inner) (range_with_len 0 l.size)
