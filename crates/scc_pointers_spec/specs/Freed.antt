-- Resolved processes as the pass gives them: a local pointer leads to null before its declaration. So it may stand where null may, as in `T* p = p;`, and
-- is refused where it is followed. `Unpointed` of scc_core_spec refuses it wherever it is looked at; where that refuses nothing, both are the same.
-- This project's own.
use Rattle.std.specs.Prelude.{Bool, true, false, List, [], ◌∷◌, filter, Option, Some, None, option_map, slice_get, if◌then◌else◌}
use Rattle.scc_base.specs.declared.code.Code.TheVariants as reason
use Rattle.scc_core_spec.specs.Term.{Left}
use Rattle.scc_core_spec.specs.Code.{Code, Declared, Assigned, End, Put, Aim, If, Block, Loop, Exit, Wait}
use Rattle.scc_core_spec.specs.Program.{Program, Process}
use Rattle.scc_core_spec.specs.First.{refused}
use Rattle.scc_core_spec.specs.Renumbered.{is_kept_cell, new_number, renamed_process}
use Rattle.scc_core_spec.specs.Resolved.{Leads, Tried, Made, Stopped, and_made, made_map, is_local_name, resolved, walked}
use Rattle.scc_core_spec.specs.Unpointed.{aimed, at_first, declares, leading, of_assigned, resolved_count, resolved_left}

-- where a pointer leads that is looked at, a local one or not
abbrev pub led_before : Bool → Option (Option Left) → Option (Option Left)
led_before local (Some t) = Some t
led_before true None = Some None
led_before false None = None

-- where pointers lead that are looked at
abbrev pub filled : Leads → Leads
filled s = record { cells = s.cells; vectors = s.vectors; local = λ n. led_before (is_local_name (slice_get s.cells n)) (s.local n) }

abbrev pub freed : Leads → Code → Tried Code
freed s End = Made End
freed s (Put p l k e r) = resolved_left (filled s) l k (λ l k. and_made (resolved (filled s) e) (λ e. made_map (Put p l k e) (freed s r)))
freed s (Aim p (Declared n) t r) = and_made (aimed (filled s) t) (λ o. if declares s n then made_map (Block p End) (freed (leading s n o) r) else Stopped (refused reason.PointerAssigned p))
freed s (Aim p (Assigned l) t r) = Stopped (of_assigned p (walked (filled s) false l))
freed s (If p t a b r) = and_made (resolved (filled s) t) (λ t. and_made (freed s a) (λ a. and_made (freed s b) (λ b. made_map (If p t a b) (freed s r))))
freed s (Block p b r) = and_made (freed s b) (λ b. made_map (Block p b) (freed s r))
freed s (Loop p c b r) = and_made (freed s b) (λ b. made_map (Loop p (option_map (resolved_count (filled s)) c) b) (freed s r))
freed s (Exit p n r) = made_map (Exit p n) (freed s r)
freed s (Wait p l n r) = made_map (Wait p l n) (freed s r)

-- the processes in order, or what is refused of the first that is refused
abbrev pub all_freed : Program → List Process → Tried (List Process)
all_freed p [] = Made []
all_freed p (q ∷ qs) = and_made (freed (at_first p) q.body) (λ body. made_map (λ more. renamed_process (new_number p.cells) q body ∷ more) (all_freed p qs))

abbrev pub freed_program : Program → Tried Program
freed_program p = made_map (λ processes. record { top = p.top; cells = filter is_kept_cell p.cells; vectors = p.vectors; processes = processes }) (all_freed p p.processes)
