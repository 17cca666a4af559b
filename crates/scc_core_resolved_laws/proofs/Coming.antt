-- What a process of a resolved core comes to stands, and holds proper words.
use Rattle.std.proofs.Common.{◌≡◌, ℕ, zero, suc, ◌+◌, true, false, List, [], ◌∷◌, Option, Some, refl, sym, ap, subst, ◌∙◌, arith}
use Rattle.std.specs.Prelude.{slice_get, if◌then◌else◌}
use Rattle.scc_semantics.specs.Location.{Location}
use Rattle.scc_semantics.specs.Design as running
use Rattle.scc_semantics.specs.Value.{Held}
use Rattle.scc_semantics.specs.Machine.{Frames, Inner, Outcome, Suspended, Ended}
use Rattle.scc_semantics.specs.Process.{first_frames}
use Rattle.scc_semantics.specs.Same.{is_others}
use Rattle.scc_semantics.specs.Start.{IsProper}
use Rattle.scc_core_spec.specs.Program.{Program, Process}
use Rattle.scc_core_spec.specs.Kept.{written_by}
use Rattle.scc_core_spec.specs.Uses.{among}
use Rattle.scc_core_spec.specs.Source.{Home, source_of, processes_from}
use Rattle.scc_blocks_spec.specs.Comes.{Comes, begins, goes_on, resumes, restarts, repeats, elsewhere, Keeps, next_points}
use Rattle.scc_states_laws.specs.Processes.{running_of}
use Rattle.scc_states_laws.specs.Alike.{TellsApart}
use Rattle.scc_states_laws.proofs.Values.{some_same}
use Rattle.scc_core_spec.specs.IsResolved.{IsResolved}
use Rattle.scc_core_resolved_laws.proofs.Parts.{code-fit}
use Rattle.scc_core_resolved_laws.proofs.Assigned.{Proper, IsFree, holds-fixed}
use Rattle.scc_core_resolved_laws.proofs.Standing.{Stands, stops, Fine, after-fine, points-nothing}
use Rattle.scc_core_resolved_laws.proofs.Standing as standing
use Rattle.scc_core_resolved_laws.proofs.Writes.{frees}

-- a process of the design is one of the core
pub process-of : (home : Home) (p : Program) (qs : List Process) (m k : ℕ) (r : running.Process) → slice_get (processes_from home p m qs) k ≡ Some r → (q : Process) × (slice_get qs k ≡ Some q) × (running_of home p (m + k) q ≡ r)
process-of home p [] m k r e = absurd cc
process-of home p (q ∷ qs) m zero r e = let n : m + zero ≡ m = omega arith in (q, refl, ap (λ j. running_of home p j q) n ∙ some_same e)
process-of home p (q ∷ qs) m (suc k) r e =
    let u = process-of home p qs (suc m) k r e in
    let n : m + suc k ≡ suc m + k = omega arith in
    (u.0, u.1, ap (λ j. running_of home p j u.0) n ∙ u.2)

module _ (home : Home) (constant : Location → Option ℕ) (p : Program) (i : ℕ) (q : Process) (apart : TellsApart home p i q) (r : IsResolved p) (g : slice_get p.processes i ≡ Some q)
    (free : (n : ℕ) → among n (written_by p.cells q) ≡ true → IsFree constant home p n) where
  abbrev D : running.Design
  D = source_of home p constant

  abbrev P : running.Process
  P = running_of home p i q

  pub first-stands : Stands home constant p i q (first_frames i P)
  first-stands = standing.goes_on Inner q.body (code-fit p r i q g) (frees p.cells (IsFree constant home p) q.body free) (λ e. stops) (λ n e. stops)

  pub record Comes' (signals : Location → ℕ) (f : Frames) (h : Held) : Type 0 where
    pub shown : IsProper D signals
    pub stands : Stands home constant p i q f
    pub proper : Proper D h

  moved : (signals : Location → ℕ) (f f' : Frames) (h h' : Held) (o : Outcome) → Fine home constant p i q o → o ≡ Suspended f' h' → Stands home constant p i q f' × Proper D h'
  unfolding Fine
  moved signals f f' h h' o t e = subst (Fine home constant p i q) e t

  ended : (h' : Held) (o : Outcome) → Fine home constant p i q o → o ≡ Ended h' → Proper D h'
  unfolding Fine
  ended h' o t e = subst (Fine home constant p i q) e t

  renewed : (words : Location → ℕ) (targets : Location → Option Location) → IsProper D words → Proper D (record { store = record { words = words; targets = targets }; requests = [] })
  unfolding Proper
  renewed words targets w = (w, tt)

  aside : (h : Held) (others : Location → Option Location) → Proper D h → Proper D (record { store = record { words = h.store.words; targets = λ l. if is_others i l.root then others l else h.store.targets l }; requests = h.requests })
  unfolding Proper
  aside h others ok = ok

  pub comes-fine : {signals : Location → ℕ} {f : Frames} {h : Held} → Comes D i P signals f h → Comes' signals f h
  comes-fine (begins signals words a b) = record { shown = a; stands = first-stands; proper = renewed words D.targets b }
  comes-fine (goes_on {signals = s} {f = f} {g = g'} {h = h} {k = k} c w e) =
      let t = comes-fine c in
      let m = moved s f g' h k _ (after-fine home constant p i q s apart r t.shown f h t.stands t.proper) e in
      record { shown = t.shown; stands = m.0; proper = m.1 }
  comes-fine (resumes {old = s} {f = f} {g = g'} {h = h} {k = k} signals words a b c w e) =
      let t = comes-fine c in
      let m = moved s f g' h k _ (after-fine home constant p i q s apart r t.shown f h t.stands t.proper) e in
      record { shown = a; stands = m.0; proper = renewed words k.store.targets b }
  comes-fine (restarts {h = h} signals words a b c w) = record { shown = a; stands = first-stands; proper = renewed words h.store.targets b }
  comes-fine (elsewhere {h = h} others c) = let t = comes-fine c in record { shown = t.shown; stands = t.stands; proper = aside h others t.proper }
  comes-fine (repeats {k = k} signals words a b c e) = record { shown = a; stands = first-stands; proper = renewed words k.store.targets b }

module _ (home : Home) (constant : Location → Option ℕ) (p : Program) (r : IsResolved p) (apart : (i : ℕ) (q : Process) → slice_get p.processes i ≡ Some q → TellsApart home p i q)
    (free : (i : ℕ) (q : Process) → slice_get p.processes i ≡ Some q → (n : ℕ) → among n (written_by p.cells q) ≡ true → IsFree constant home p n) where
  abbrev E : running.Design
  E = source_of home p constant

  pub keeps : Keeps E
  keeps = record {
    fixed = λ i x signals f h l w g c e. let u = process-of home p p.processes 0 i x g in let n : 0 + i ≡ i = omega arith in
        let same : running_of home p i u.0 ≡ x = ap (λ j. running_of home p j u.0) (sym n) ∙ u.2 in
        fixed-at i u.0 u.1 signals f h (subst (λ z. Comes E i z signals f h) (sym same) c) l w e;
    pointers = λ i x signals f h g c. let u = process-of home p p.processes 0 i x g in let n : 0 + i ≡ i = omega arith in
        let same : running_of home p i u.0 ≡ x = ap (λ j. running_of home p j u.0) (sym n) ∙ u.2 in
        points-at i u.0 u.1 signals f h (subst (λ z. Comes E i z signals f h) (sym same) c);
  }
    where
      fixed-at : (i : ℕ) (q : Process) → slice_get p.processes i ≡ Some q → (signals : Location → ℕ) (f : Frames) (h : Held) → Comes E i (running_of home p i q) signals f h → (l : Location) (w : ℕ) → E.fixed l ≡ Some w → h.store.words l ≡ w
      fixed-at i q g signals f h c l w e = holds-fixed E h (comes-fine home constant p i q (apart i q g) r g (free i q g) c).proper l w e

      points-at : (i : ℕ) (q : Process) → slice_get p.processes i ≡ Some q → (signals : Location → ℕ) (f : Frames) (h : Held) → Comes E i (running_of home p i q) signals f h → next_points f ≡ false
      points-at i q g signals f h c = points-nothing home constant p i q f (comes-fine home constant p i q (apart i q g) r g (free i q g) c).stands
