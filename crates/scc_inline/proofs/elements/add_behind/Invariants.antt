use Rattle.std.proofs.Common.{◌≡◌, ◌∷◌, ◌++◌, map, take}
use Rattle.scc_inline.proofs.elements.add_behind.Given as goal

abbrev pub invariant-loop-rest : goal.invariant-loop-rest
invariant-loop-rest l = l.all ≡ l.initial.all ++ map (λ is. l.i ∷ is) (take l.rest-index l.inner)
