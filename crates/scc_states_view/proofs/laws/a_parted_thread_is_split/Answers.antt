use Rattle.std.proofs.Common.{◌≡◌, ℕ, zero, suc, List, [], ◌∷◌, map, slice_get, Option, Some, refl, ap, ◌∙◌}
use Rattle.std.specs.Prelude.{option_map}
use Rattle.scc_core_spec.specs.Segments.{Segment, all_segments}
use Rattle.scc_core_spec.specs.Segments as part
use Rattle.scc_core_spec.specs.Sizes.{live_body}
use Rattle.scc_core_view.specs.Programs.{cells_of, process_of}
use Rattle.scc_blocks_spec.specs.Passed.{Thread}
use Rattle.scc_states_view.proofs.laws.a_parted_thread_is_split.Goals as goal

abbrev cut : List Segment → List ℕ → List ℕ → Thread
cut ss ns ks = record { segments = ss; waits = ns; kept = ks }

got_map : {A B : Type 0} (f : A → B) (xs : List A) (n : ℕ) → slice_get (map f xs) n ≡ option_map f (slice_get xs n)
got_map f [] n = refl
got_map f (x ∷ xs) zero = refl
got_map f (x ∷ xs) (suc n) = got_map f xs n

pub returns : goal.returns
returns c = λ core i p s there parted kept.
    let body = live_body (cells_of core) (process_of p).body in record {
      process = process_of p;
      stands = got_map process_of core.processes i ∙ ap (option_map process_of) there;
      same = ap (λ ss. cut ss s.waits s.kept) parted.segments ∙ ap (λ ns. cut (all_segments body) ns s.kept) parted.waits ∙ ap (cut (all_segments body) (part.counts body)) kept;
    }
