-- What the first answer of a walk tells, and the paths of worked bodies.
use Rattle.std.proofs.Common.{◌≡◌, inl, inr, ◌<◌, ℕ, zero, suc, true, List, [], ◌∷◌, Option, Some, None, refl, sym, ap, arith, true≢false}
use Rattle.scc_core_spec.specs.First.{first_of, or_else, TellsFirst, IsFirst}
use Rattle.scc_core_spec.specs.Feeding.{one, more, IsFirstLoop, feeds}
use Rattle.scc_core_spec.specs.Segments.{Plain, Halt}
use Rattle.scc_core_spec.specs.Code.{End}
use Rattle.scc_core_spec.specs.Term.{Whole}
use Rattle.scc_core_spec.specs.Term as term
use Rattle.scc_core_spec.specs.Paths.{Misses, MayNotWait, puts, cut, ends}
use Rattle.scc_core_spec.specs.Flow.{TellsMisses, TellsEarly, TellsIdle, every}
use Rattle.scc_core_spec.specs.Kept.{IsKept, TellsKept}
use Rattle.scc_core_spec.specs.Paths.{Early}
use Rattle.scc_core_spec.specs.Worked.{here, put, load, byte, count_cells, local_cells}
use Rattle.scc_core_spec.specs.WorkedRules.{at}
use Rattle.scc_blocks_spec.specs.WorkedPaths.{above_one, keeping_thread, passing_thread, looping, clears, shows_count, waits}

pub first_tells : {A B : Type 0} (f : A → Option B) (xs : List A) → TellsFirst f xs (first_of f xs)
first_tells f [] = tt
first_tells {A} {B} f (x ∷ xs) = by (f x) refl (first_of f xs) (first_tells f xs)
  where
    by : (o : Option B) → f x ≡ o → (r : Option B) → TellsFirst f xs r → TellsFirst f (x ∷ xs) (or_else o r)
    by (Some b) e r t = record { front = []; here = x; back = xs; stands = refl; answers = e; none_before = tt }
    by None e None t = (e, t)
    by None e (Some b) t = record { front = x ∷ t.front; here = t.here; back = t.back; stands = ap (λ ys. x ∷ ys) t.stands; answers = t.answers; none_before = (e, t.none_before) }

pub four_is_first : IsFirst above_one (1 ∷ 4 ∷ 9 ∷ []) 4
four_is_first = record { front = 1 ∷ []; here = 4; back = 9 ∷ []; stands = refl; answers = refl; none_before = (refl, tt) }

-- the local's read stands behind the wait that is wait 1
pub local_is_kept : IsKept local_cells 0 keeping_thread 3
local_is_kept = (refl, Plain (put 1 (load 3) End) (Halt here 2 1), inr (inr (inl refl)), here, (_, puts here (term.Cell here 1) Whole (load 3) (cut End), inl (refl, refl)))

pub local_is_not_kept : TellsKept local_cells 0 passing_thread 3 → IsKept local_cells 0 passing_thread 3 → ⊥
local_is_not_kept t k = true≢false (sym (t.seen k))

none_feeds_itself : (k : ℕ) → k < 1 → feeds looping 0 k ≡ true → ⊥
none_feeds_itself zero h e = true≢false (sym e)
none_feeds_itself (suc k) h e = absurd (omega (arith, h))

pub first_loop : IsFirstLoop (feeds looping) 0 1
first_loop = record {
  cycle = more 0 1 refl (one 1 0 refl);
  none_before = λ k h r. absurd (omega (arith, h));
  beside = refl;
  back = inr (one 1 0 refl);
  other_first = λ k h e r. none_feeds_itself k h e;
}

pub output_is_missed : TellsMisses count_cells clears 2
output_is_missed = record { seen = λ m. refl; only = λ e. (_, puts here (term.Cell here 3) Whole (byte 0) ends, refl) }

pub variable_is_written : TellsMisses count_cells clears 3 → Misses count_cells clears 3 → ⊥
variable_is_written t m = true≢false (sym (t.seen m))

pub count_is_early : TellsEarly count_cells shows_count every 3 → Early count_cells shows_count 3 (at 5)
count_is_early t = t.only (at 5) 0 (3 ∷ []) refl refl

pub end_is_idle : TellsIdle count_cells End
end_is_idle = record { seen = λ m. refl; only = λ e. ([], ends, refl) }

pub wait_is_not : TellsIdle count_cells waits → MayNotWait count_cells waits → ⊥
wait_is_not t m = true≢false (sym (t.seen m))
