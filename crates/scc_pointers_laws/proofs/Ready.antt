-- Processes one after another, and what is asked of a core where each begins.
use denote.Ref.{Bor}
use Rattle.std.proofs.Common.{◌≡◌, sym, ap, subst, ◌∙◌, List, [], ◌∷◌, ◌++◌, map, Some, None, Result, Ok, Err}
use Rattle.scc_base.specs.declared.refusal.Refusal.{Refusal}
use Rattle.scc_base.specs.declared.refusal.Stop.{Stop}
use Rattle.scc_core.specs.declared.places.Places.{Places}
use Rattle.scc_core.specs.declared.program.Core.{Core}
use Rattle.scc_core.specs.declared.program.CoreProcess.{CoreProcess}
use Rattle.scc_core.specs.declared.program.VectorSize2.{VectorSize2}
use Rattle.scc_core.specs.declared.statics.Known.{Known}
use Rattle.scc_core.specs.Tables.{IsTable}
use Rattle.scc_core_spec.specs.Code.{Code}
use Rattle.scc_core_spec.specs.Program.{Process, Program}
use Rattle.scc_core_spec.specs.Renumbered.{new_number, renamed_process}
use Rattle.scc_core_spec.specs.Resolved.{Tried, Made, Stopped, and_made, made_map}
use Rattle.scc_core_spec.specs.Unpointed.{at_first}
use Rattle.scc_core_view.specs.Codes.{code_of}
use Rattle.scc_core_view.specs.Programs.{cell_of, process_of, vector_of}
use Rattle.scc_pointers_spec.specs.Freed.{all_freed, freed}
use Rattle.scc_pointers_walk.specs.declared.held.Resolver.{Resolver}
use Rattle.scc_pointers_walk.specs.Led.{leads_of}
use Rattle.scc_pointers_laws.specs.Ready.{AreBodies, IsAccepted, IsAsked, IsFresh, IsOfCore, IsOver, first_leads}
use Rattle.scc_pointers_laws.proofs.Sound.{same_some}

-- where no local pointer is declared
pub fresh_leads : (k : Known) (p : Places) (v : List VectorSize2) (r : Resolver) → IsFresh k p v r → leads_of r ≡ first_leads k v
fresh_leads k p v r h = λ i. record { cells = map cell_of (h.known i).cells.now; vectors = map vector_of (h.vectors i); local = λ n. h.local n i }

pub body_at : (p : Program) (k : Known) (v : List VectorSize2) → IsOver p k v → (c : Code) → freed (at_first p) c ≡ freed (first_leads k v) c
body_at p k v h c = λ i. freed (record { cells = h.cells i; vectors = h.vectors i; local = λ n. None }) c

pub accepted_map : {A B : Type 0} (f : A → B) (t : Tried A) → IsAccepted t → IsAccepted (made_map f t)
accepted_map f (Made a) h = tt
accepted_map f (Stopped r) h = h

module _ (p : Program) where
  abbrev with : Process → Code → List Process → List Process
  with q body more = renamed_process (new_number p.cells) q body ∷ more

  -- one more that is accepted
  pub accepted_more : (xs : List CoreProcess) (q : CoreProcess) → IsAccepted (all_freed p (map process_of xs)) → (b : Code) → freed (at_first p) (code_of q.body) ≡ Made b → IsAccepted (all_freed p (map process_of (xs ++ q ∷ [])))
  accepted_more [] q h b e = subst (λ t. IsAccepted (and_made t (λ body. made_map (with (process_of q) body) (Made [])))) (sym e) tt
  accepted_more (x ∷ xs) q h b e = by (freed (at_first p) (code_of x.body)) (all_freed p (map process_of xs)) (all_freed p (map process_of (xs ++ q ∷ []))) h (λ g. accepted_more xs q g b e)
    where
      by : (t : Tried Code) (u w : Tried (List Process)) → IsAccepted (and_made t (λ body. made_map (with (process_of x) body) u)) → (IsAccepted u → IsAccepted w) → IsAccepted (and_made t (λ body. made_map (with (process_of x) body) w))
      by (Made c) (Made m) w h f = accepted_map (with (process_of x) c) w (f tt)
      by (Made c) (Stopped r) w h f = absurd h
      by (Stopped r) u w h f = absurd h

  -- the first that is refused
  pub stops_at : (xs rest : List CoreProcess) (q : CoreProcess) (z : Refusal) → IsAccepted (all_freed p (map process_of xs)) → freed (at_first p) (code_of q.body) ≡ Stopped z → all_freed p (map process_of (xs ++ q ∷ rest)) ≡ Stopped z
  stops_at [] rest q z h e = ap (λ t. and_made t (λ body. made_map (with (process_of q) body) (all_freed p (map process_of rest)))) e
  stops_at (x ∷ xs) rest q z h e = by (freed (at_first p) (code_of x.body)) (all_freed p (map process_of xs)) (all_freed p (map process_of (xs ++ q ∷ rest))) h (λ g. stops_at xs rest q z g e)
    where
      by : (t : Tried Code) (u w : Tried (List Process)) → IsAccepted (and_made t (λ body. made_map (with (process_of x) body) u)) → (IsAccepted u → w ≡ Stopped z) → and_made t (λ body. made_map (with (process_of x) body) w) ≡ Stopped z
      by (Made c) (Made m) w h f = ap (made_map (with (process_of x) c)) (f tt)
      by (Made c) (Stopped r) w h f = absurd h
      by (Stopped r) u w h f = absurd h

-- each process of a core that meets what is asked begins so
pub ready_is : (c : Core) (k : Known) (b : Bor Places) (p : Places) → k.cells.now ≡ c.cells → k.places ≡ Some b → b.now ≡ p → k.counters ≡ None → IsTable p c.cells c.vectors → IsAsked c → AreBodies k p c.vectors c.processes
ready_is c k b p cells places same counters table h front back q e r f =
    let o : IsOfCore c r = record {
      seen = record {
        cells = ap (λ x. x.cells.now) f.known ∙ cells;
        vectors = f.vectors;
        table = subst (λ x. IsTable x c.cells c.vectors) (sym f.places) table;
        places = λ d g. subst (λ x. IsTable x c.cells c.vectors) (sym same ∙ ap (λ x. x.now) (same_some (sym places ∙ (sym (ap (λ x. x.places) f.known) ∙ g)))) table;
        counters = ap (λ x. x.counters) f.known ∙ counters;
      };
      local = f.local;
    } in ((h r o).0, (h r o).1 front back q e)

-- two errors of one result
pub err_same : {A : Type 0} (a b : Stop) (r : Result A Stop) → r ≡ Err a → r ≡ Err b → a ≡ b
err_same {A = A} a b r e f = ap from (sym e ∙ f)
  where
    from : Result A Stop → Stop
    from (Err x) = x
    from (Ok x) = a
