use Rattle.std.proofs.Common.{◌≡◌, ◌<◌, ℕ, zero, suc, Bool, true, false, ◌||◌, [], ◌∷◌, refl, arith}
use Rattle.scc_core_spec.specs.Uses.{among}
use Rattle.scc_core_spec.specs.Feeding.{done, next, ready, feeds, methods}
use Rattle.scc_blocks_spec.specs.Worked.{reader_first}
use Rattle.scc_blocks_spec.proofs.laws.a_reader_stands_behind_its_writer.Goals as goal

swap : (a b : Bool) → (a || (b || false)) ≡ true → (b || (a || false)) ≡ true
swap true true h = refl
swap true false h = refl
swap false true h = refl
swap false false h = cc

-- 0 isn't ready before 1
first : (k : ℕ) → k < 1 → among k (methods reader_first) ≡ true → ready (feeds reader_first) (methods reader_first) [] k ≡ false
first zero h g = refl
first (suc k) h g = absurd (omega (arith, h))

pub returns : goal.returns
returns c = next [] 1 refl refl first (next (1 ∷ []) 0 refl refl (λ k h g. absurd (omega (arith, h))) (done (1 ∷ 0 ∷ []) (λ i h. swap _ _ h)))
