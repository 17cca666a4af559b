-- What is answered of a thread from what is answered of its cut and of its reset.
use Rattle.std.proofs.Common.{◌≡◌, ◌≤◌, ◌^◌, length, List, [], ◌∷◌, ℕ, Bool, true, false, if◌then◌else◌, drop, Option, Some, None, refl, sym, ap, subst, ◌∙◌}
use Rattle.std.specs.Prelude.{map, option_map, IfOk, Result, Ok, Err}
use Rattle.scc_base.specs.declared.refusal.Place.{Place}
use Rattle.scc_base.specs.declared.refusal.Refusal.{Refusal}
use Rattle.scc_base.specs.declared.refusal.Stop.{Stop}
use Rattle.scc_base.specs.declared.refusal.Stop.TheVariants as stop
use Rattle.scc_base.specs.declared.code.Code.{Code as Reason}
use Rattle.scc_base.specs.declared.code.Code.TheVariants as reason
use denote.Ref.{Bor}
use Rattle.scc_core.specs.declared.places.Places.{Places}
use Rattle.scc_core.specs.declared.program.Cell.{Cell}
use Rattle.scc_core.specs.declared.program.Core.{Core}
use Rattle.scc_core.specs.declared.program.CoreProcess.{CoreProcess}
use Rattle.scc_core.specs.declared.stmt.CoreStmt.{CoreStmt}
use Rattle.scc_core.specs.declared.program.VectorSize2.{VectorSize2}
use Rattle.scc_core.specs.declared.statics.Known.{Known}
use Rattle.scc_core.specs.Known.{counted}
use Rattle.scc_core.specs.Tables.{IsTable}
use Rattle.scc_core_static_laws.specs.Held.{Knows}
use Rattle.scc_core_spec.specs.Code.{Code, numbered}
use Rattle.scc_core_spec.specs.First.{or_else, first_of, refused}
use Rattle.scc_core_spec.specs.Program.{Process, Program}
use Rattle.scc_core_spec.specs.Rules.{waits}
use Rattle.scc_core_spec.specs.Segments as part
use Rattle.scc_core_spec.specs.Segments.{all_segments}
use Rattle.scc_core_spec.specs.Kept.{kept}
use Rattle.scc_core_spec.specs.Live.{live}
use Rattle.scc_core_spec.specs.Split.{first_split, most_waits, too_many_states, segments_too_large, reset_value}
use Rattle.scc_states_cut.specs.declared.body.CutBody.{CutBody}
use Rattle.scc_states_cut.specs.Limits.{IsCutOf, Stops, first_cut, too_many, too_large}
use Rattle.scc_core_view.specs.Codes.{code_of}
use Rattle.scc_core_view.specs.Programs.{cell_of, cells_of, process_of}
use Rattle.scc_states_kept.specs.Gathered.{IsCutThread, cut_segments}
use Rattle.scc_states_kept.specs.Noted.{TellsHere, cells_here}
use Rattle.scc_states_kept.specs.Owned.{is_number}
use Rattle.scc_states_kept.specs.Walks.{TellsAct, TellsCode}
use Rattle.scc_states_kept.proofs.Acts.{live_all}
use Rattle.scc_states.specs.declared.types.Split.{Split}
use Rattle.scc_states.specs.Refusals.{MayStop, is_refusal}
use Rattle.scc_states.specs.Resets.{IsLoaded}
use Rattle.scc_states.specs.Splits.{IsParted, IsSplitBy, IsSplitSo, Refuses, TellsThread, with_kept}

-- ---- by which codes

abbrev from_some : {A : Type 0} → A → Option A → A
from_some d None = d
from_some d (Some x) = x

pub some_same : {A : Type 0} (a b : A) → Some a ≡ Some b → a ≡ b
some_same a b h = ap (from_some a) h

placed_code : (k : Reason) (o : Option Place) (r : Refusal) → is_refusal k ≡ true → option_map (refused k) o ≡ Some r → is_refusal r.code ≡ true
placed_code k None r is h = absurd cc
placed_code k (Some p) r is h = ap (λ x. is_refusal x.code) (sym (some_same (refused k p) r h)) ∙ is

first_code : (ps : List Place) (r : Refusal) → first_of (λ at. Some (refused reason.TooManyStates at)) ps ≡ Some r → is_refusal r.code ≡ true
first_code [] r h = absurd cc
first_code (p ∷ ps) r h = ap (λ x. is_refusal x.code) (sym (some_same (refused reason.TooManyStates p) r h))

or_code : (o p : Option Refusal) (r : Refusal) → (o ≡ Some r → is_refusal r.code ≡ true) → (p ≡ Some r → is_refusal r.code ≡ true) → or_else o p ≡ Some r → is_refusal r.code ≡ true
or_code None p r f g h = g h
or_code (Some a) p r f g h = f h

pub cut_code : (c : Code) (e : Stop) → Stops (first_cut c) e → MayStop e
cut_code c (stop.Refused r) h =
    or_code (too_many (waits c)) (too_large (all_segments (numbered 0 c))) r (first_code (drop most_waits (waits c)) r) (placed_code reason.SegmentsTooLarge _ r refl) h
cut_code c stop.NoMemory h = tt

-- ---- one behind another

none_three : (a b r : Option Refusal) → or_else a b ≡ None → r ≡ None → or_else a (or_else b (or_else r None)) ≡ None
none_three None None r h k = ap (λ o. or_else o None) k
none_three None (Some b) r h k = absurd cc
none_three (Some a) b r h k = absurd cc

stops_two : (a b r : Option Refusal) (e : Stop) → Stops (or_else a b) e → Stops (or_else a (or_else b (or_else r None))) e
stops_two a b r stop.NoMemory h = tt
stops_two None None r (stop.Refused x) h = absurd cc
stops_two None (Some b) r (stop.Refused x) h = h
stops_two (Some a) b r (stop.Refused x) h = h

none_last : (r : Option Refusal) (x : Refusal) → r ≡ Some x → or_else r None ≡ Some x
none_last r x h = ap (λ o. or_else o None) h

stops_third : (a b r : Option Refusal) (e : Stop) → or_else a b ≡ None → Stops r e → Stops (or_else a (or_else b (or_else r None))) e
stops_third a b r stop.NoMemory h k = tt
stops_third None None r (stop.Refused x) h k = none_last r x k
stops_third None (Some b) r (stop.Refused x) h k = absurd cc
stops_third (Some a) b r (stop.Refused x) h k = absurd cc

module _ (p : Program) (q : Process) (c : Code) (is_thread : q.is_thread ≡ true) (is_live : c ≡ live p.cells q.body) where
  abbrev all_three : Option Refusal
  all_three = or_else (too_many_states p.cells q) (or_else (segments_too_large p.cells q) (or_else (reset_value p.cells q) None))

  of_thread : first_split p q ≡ all_three
  of_thread = ap (λ b. if b then all_three else None) is_thread

  fits : (b : CutBody) → IsCutOf c b → or_else (too_many_states p.cells q) (segments_too_large p.cells q) ≡ None
  fits b is = subst (λ d. first_cut d ≡ None) is_live is.fits

  pub is_parted : (b : CutBody) (kept : List ℕ) → IsCutOf c b → reset_value p.cells q ≡ None → IsParted p q (with_kept b kept)
  is_parted b kept is none = record {
    waits = is.counts ∙ ap (λ d. part.counts (numbered 0 d)) is_live;
    segments = is.segments ∙ ap (λ d. all_segments (numbered 0 d)) is_live;
    fits = of_thread ∙ none_three (too_many_states p.cells q) (segments_too_large p.cells q) (reset_value p.cells q) (fits b is) none;
  }

  pub cut_stops : (e : Stop) → Stops (first_cut c) e → Stops (first_split p q) e
  cut_stops e h =
      subst (λ o. Stops o e) (sym of_thread) (stops_two (too_many_states p.cells q) (segments_too_large p.cells q) (reset_value p.cells q) e (subst (λ d. Stops (first_cut d) e) is_live h))

  pub reset_stops : (b : CutBody) (e : Stop) → IsCutOf c b → Stops (reset_value p.cells q) e → Stops (first_split p q) e
  reset_stops b e is h = subst (λ o. Stops o e) (sym of_thread) (stops_third (too_many_states p.cells q) (segments_too_large p.cells q) (reset_value p.cells q) e (fits b is) h)

pub refuses_loaded : (o : Option Place) (r : Result Unit Stop) → IsLoaded o r → Refuses (option_map (refused reason.ResetValue) o) r
refuses_loaded o (Ok u) h = ap (option_map (refused reason.ResetValue)) h
refuses_loaded o (Err e) h = h

-- the reset is looked at where it is asynchronous
pub asked_reset : (o : Option Refusal) (b : Bool) (r : Result Unit Stop) → b ≡ true → Refuses o r → Refuses (if b then o else None) r
asked_reset o b r is h = subst (λ x. Refuses (if x then o else None) r) (sym is) h

pub not_asked : (o : Option Refusal) (b : Bool) → b ≡ false → (if b then o else None) ≡ None
not_asked o b is = ap (λ x. if x then o else None) is

-- ---- what is known by a table alone

pub knows_table : (known : Known) (cells : List Cell) (vs : List VectorSize2) (b : Bor Places) → known.cells.now ≡ cells → length cells ≤ 2 ^ 32 → known.places ≡ Some b → known.counters ≡ None → IsTable b.now cells vs
    → Knows known cells []
knows_table known cells vs b same few at none t = record {
  cells_are = same;
  count = few;
  places = λ q e. record { vectors = vs; table = subst (λ x. IsTable x.now cells vs) (some_same b q (sym at ∙ e)) t };
  counters = λ n. ap (λ o. counted o n) none;
}

-- ---- the kept cells

pub cells_same : (known : Known) (c : Core) → known.cells.now ≡ c.cells → cells_here known ≡ cells_of c
cells_same known c is = ap (map cell_of) is

pub cut_so : (known : Known) (c : Core) (q : CoreProcess) (body : List CoreStmt) (b : CutBody) → known.cells.now ≡ c.cells → code_of body ≡ live (cells_of c) (code_of q.body) → IsCutOf (code_of body) b
    → IsCutThread known (process_of q) body (cut_segments b.waits b)
cut_so known c q body b same is_live is = record {
  live = is_live ∙ ap (λ cs. live cs (code_of q.body)) (sym (cells_same known c same));
  segments = is.segments ∙ ap (λ d. all_segments (numbered 0 d)) (is_live ∙ ap (λ cs. live cs (code_of q.body)) (sym (cells_same known c same)));
}

pub told_live : (known : Known) (c : Core) (i : ℕ) (q : CoreProcess) (body : List CoreStmt) → code_of body ≡ live (cells_of c) (code_of q.body) → TellsThread known c i q → TellsHere known i (code_of body)
told_live known c i q body is_live t =
    subst (λ cs. TellsCode known cs (is_number cs i) (code_of body)) (sym (cells_same known c t.cells))
    (subst (TellsCode known (cells_of c) (is_number (cells_of c) i)) (sym is_live) (live_all (TellsAct known (cells_of c) (is_number (cells_of c) i)) (cells_of c) (code_of q.body) t.acts))

pub whole_split : (p : Program) (i : ℕ) (q : Process) (r : Result Split Stop) → IsSplitSo p q r → IfOk r (λ s. s.kept ≡ kept p.cells i q) → IsSplitBy p i q r
whole_split p i q (Ok s) h k = record { parted = h; kept = k }
whole_split p i q (Err e) h k = h
