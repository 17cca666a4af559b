-- What is refused of a body that is cut.
use Rattle.std.proofs.Common.{◌≡◌, ℕ, zero, suc, ◌+◌, List, [], ◌∷◌, ◌++◌, map, flat_map, drop, slice_get, Option, Some, None, Ok, Err, option_map, refl, sym, ap, subst, ◌∙◌}
use Rattle.std.specs.Prelude.{Result}
use Rattle.scc_base.specs.declared.refusal.Place.{Place}
use Rattle.scc_base.specs.declared.refusal.Refusal.{Refusal}
use Rattle.scc_base.specs.declared.refusal.Stop.{Stop}
use Rattle.scc_base.specs.declared.refusal.Stop.TheVariants as stop
use Rattle.scc_base.specs.declared.code.Code.TheVariants as reason
use Rattle.scc_core_spec.specs.Code.{Code, End, Put, Aim, If, Block, Loop, Exit, Wait, waits_in, numbered}
use Rattle.scc_core_spec.specs.First.{or_else, first_of, refused}
use Rattle.scc_core_spec.specs.Rules.{waits}
use Rattle.scc_core_spec.specs.Segments.{Segment, Finish, all_segments, counts, segment}
use Rattle.scc_core_spec.specs.Split.{Stood, first_past, stood_in, deepest}
use Rattle.scc_states_segments.specs.declared.over.Count.{Count}
use Rattle.scc_states_segments.specs.Limits.{first_after}
use Rattle.scc_states_segments.specs.declared.waits.Halt.{Halt}
use Rattle.scc_states_segments.specs.Parts.{Walk, Walks}
use Rattle.scc_states_cut.specs.declared.body.CutBody.{CutBody}
use Rattle.scc_states_cut.specs.Cut.{Counts, IsPast, IsWithin, segment_of}
use Rattle.scc_states_cut.specs.Limits.{IsBuilt, IsCut, Stops, too_many, too_large}

-- the first behind so many
pub first_behind : {A B : Type 0} (f : A → B) (n : ℕ) (xs : List A) → first_of (λ x. Some (f x)) (drop n xs) ≡ option_map f (slice_get xs n)
first_behind f zero [] = refl
first_behind f zero (x ∷ xs) = refl
first_behind f (suc n) [] = refl
first_behind f (suc n) (x ∷ xs) = first_behind f n xs

pub got_map : {A B : Type 0} (f : A → B) (xs : List A) (n : ℕ) → slice_get (map f xs) n ≡ option_map f (slice_get xs n)
got_map f [] n = refl
got_map f (x ∷ xs) zero = refl
got_map f (x ∷ xs) (suc n) = got_map f xs n

pub counts_numbered : (n : ℕ) (c : Code) → counts (numbered n c) ≡ counts c
counts_numbered n End = refl
counts_numbered n (Put p l k e r) = counts_numbered n r
counts_numbered n (Aim p to t r) = counts_numbered n r
counts_numbered n (If p t a b r) = λ i. counts_numbered n a i ++ (counts_numbered (n + waits_in a) b i ++ counts_numbered (n + (waits_in a + waits_in b)) r i)
counts_numbered n (Block p b r) = λ i. counts_numbered n b i ++ counts_numbered (n + waits_in b) r i
counts_numbered n (Loop p m b r) = λ i. counts_numbered n b i ++ counts_numbered (n + waits_in b) r i
counts_numbered n (Exit p m r) = counts_numbered n r
counts_numbered n (Wait p l m r) = ap (λ ns. m ∷ ns) (counts_numbered (n + 1) r)

nothing_more : {A : Type 0} (xs : List A) → xs ++ [] ≡ xs
nothing_more [] = refl
nothing_more (x ∷ xs) = ap (λ l. x ∷ l) (nothing_more xs)

-- ---- a limit on statements, counted from nothing

module _ (limit : ℕ) (x : Segment) (xs : List Segment) (old mid new : Count) (is : old ≡ record { left = limit; past = None }) where
  abbrev a : List Stood
  a = stood_in 1 x

  abbrev b : List Stood
  b = flat_map (stood_in 1) xs

  abbrev large : Option Refusal
  large = option_map (refused reason.SegmentsTooLarge) (first_past limit deepest (flat_map (stood_in 1) (x ∷ xs)))

  from_old : (ss : List Stood) → first_past limit deepest ss ≡ first_after old ss
  from_old ss = ap (λ c. first_after c ss) (sym is)

  to_old : (o : Option Place) → first_after old (a ++ (b ++ [])) ≡ o → large ≡ option_map (refused reason.SegmentsTooLarge) o
  to_old o h =
      ap (λ l. option_map (refused reason.SegmentsTooLarge) (first_past limit deepest (a ++ l))) (sym (nothing_more b))
      ∙ ap (option_map (refused reason.SegmentsTooLarge)) (from_old (a ++ (b ++ [])) ∙ h)

  pub nothing_past : Counts old mid a → Counts mid new b → IsWithin new (Ok tt) → large ≡ None
  nothing_past f g h = to_old None (sym (f (b ++ [])) ∙ sym (g []) ∙ h)

  pub past_reset : (e : Stop) → IsPast old a e → Stops large e
  past_reset (stop.Refused r) h = to_old (Some r.place) (h.1 (b ++ [])) ∙ ap Some (sym h.0)
  past_reset stop.NoMemory h = tt

  pub past_behind : (e : Stop) → Counts old mid a → IsPast mid b e → Stops large e
  past_behind (stop.Refused r) f h = to_old (Some r.place) (sym (f (b ++ [])) ∙ h.1 []) ∙ ap Some (sym h.0)
  past_behind stop.NoMemory f h = tt

  pub past_end : (e : Stop) → Counts old mid a → Counts mid new b → IsWithin new (Err e) → Stops large e
  past_end (stop.Refused r) f g h = to_old (Some r.place) (sym (f (b ++ [])) ∙ sym (g []) ∙ h.1 []) ∙ ap Some (sym h.0)
  past_end stop.NoMemory f g h = tt

-- the waits first, then the segments
pub none_of_both : (o p : Option Refusal) → o ≡ None → p ≡ None → or_else o p ≡ None
none_of_both o p h k = ap (λ q. or_else q p) h ∙ k

pub stops_first : (o p : Option Refusal) (e : Stop) → Stops o e → Stops (or_else o p) e
stops_first o p (stop.Refused r) h = ap (λ q. or_else q p) h
stops_first o p stop.NoMemory h = tt

pub stops_then : (o p : Option Refusal) (e : Stop) → o ≡ None → Stops p e → Stops (or_else o p) e
stops_then o p (stop.Refused r) h k = ap (λ q. or_else q p) h ∙ k
stops_then o p stop.NoMemory h k = tt

-- the segments of parts are those of their code
pub both_parts : (w : Walk) (c : Code) → Walks w c → w.first Finish [] ∷ w.others Finish [] ≡ all_segments c
both_parts w c r = ap (λ x. x ∷ w.others Finish []) (r.first Finish []) ∙ ap (λ xs. segment c Finish [] ∷ xs) (r.others Finish [])

pub whole_cut : (c : Code) (ns : List ℕ) (x : Segment) (xs : List Segment) (r : Result CutBody Stop) → x ∷ xs ≡ all_segments (numbered 0 c) → ns ≡ counts (numbered 0 c)
    → too_many (waits c) ≡ None → IsBuilt ns x xs r → IsCut c r
whole_cut c ns x xs (Ok b) is number few m = record {
  counts = m.counts ∙ number;
  segments = ap (λ l. segment_of l b.reset ∷ map (segment_of l) b.segments) m.counts ∙ ap (λ y. y ∷ map (segment_of ns) b.segments) m.reset ∙ ap (λ l. x ∷ l) m.segments ∙ is;
  fits = none_of_both (too_many (waits c)) (too_large (all_segments (numbered 0 c))) few (ap too_large (sym is) ∙ m.fits);
}
whole_cut c ns x xs (Err e) is number few h = stops_then (too_many (waits c)) (too_large (all_segments (numbered 0 c))) e few (subst (λ ss. Stops (too_large ss) e) is h)

-- the limit on waits, told by the wait that stands behind so many
pub few_where : (waits : List Halt) (n : ℕ) → slice_get waits n ≡ None → first_of (λ at. Some (refused reason.TooManyStates at)) (drop n (map (λ h. h.place) waits)) ≡ None
few_where waits n h = first_behind (refused reason.TooManyStates) n (map (λ h. h.place) waits) ∙ ap (option_map (refused reason.TooManyStates)) (got_map (λ h. h.place) waits n ∙ ap (option_map (λ h. h.place)) h)

pub many_where : (waits : List Halt) (n : ℕ) (w : Halt) → slice_get waits n ≡ Some w
    → first_of (λ at. Some (refused reason.TooManyStates at)) (drop n (map (λ h. h.place) waits)) ≡ Some (refused reason.TooManyStates w.place)
many_where waits n w h = first_behind (refused reason.TooManyStates) n (map (λ h. h.place) waits) ∙ ap (option_map (refused reason.TooManyStates)) (got_map (λ h. h.place) waits n ∙ ap (option_map (λ h. h.place)) h)
