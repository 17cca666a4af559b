-- The block of the pulsing thread, and its edge.
use Rattle.std.proofs.Common.{◌≡◌, ◌<◌, ◌*◌, ◌+◌, ◌-◌, ◌^◌, ◌||◌, ℕ, zero, suc, nat_eq, true, false, [], ◌∷◌, Some, None, slice_get, refl, sym, ap, ◌∙◌, subst, arith, if◌then◌else◌}
use Rattle.scc_svtree.specs.Term.{Literal}
use Rattle.scc_svtree.specs.Code.{Code, End, Assign}
use Rattle.scc_svtree.specs.Running.{run}
use Rattle.scc_svtree.proofs.Agree.{same_of_eq}
use Rattle.scc_core_spec.specs.Code as core
use Rattle.scc_core_spec.specs.Segments.{Segment, Plain, Halt, counts}
use Rattle.scc_core_spec.specs.Sizes.{live_body}
use Rattle.scc_core_spec.specs.Uses.{among, width_at}
use Rattle.scc_core_spec.specs.Worked.{here, put, byte}
use Rattle.scc_blocks_spec.specs.Acting.{Acting, latest, with_asked}
use Rattle.scc_blocks_spec.specs.Effect.{Effect, Fell, Left_out, Lost, effect}
use Rattle.scc_blocks_spec.specs.Turns.{Regs, Left, found, ran_segment, segment_at}
use Rattle.scc_blocks_spec.specs.Renamed.{code_as}
use Rattle.scc_blocks_spec.specs.Shown.{view_of, sight_of, Sight, Shows, ShowsCell, top_number, state_number, next_state_number, counter_number, next_counter_number}
use Rattle.scc_blocks_spec.specs.Lowered.{Fits, IsLoweredCode}
use Rattle.scc_blocks_run_laws.specs.Pieces.{counted, IsSegmentCode, AreStates, IsThreadCode, first_at, is_source, place_code, whole}
use Rattle.scc_blocks_run_laws.specs.Blocks.{IsBlock, HasVariables, SetsCell, IsEdge, Loads, LoadsCell}
use Rattle.scc_blocks_laws.specs.WorkedThread.{sync, sync_process, sync_reset, sync_body, sync_block, pulse, pulse_process, pulse_body, pulse_registers, pulse_sets, pulse_reset, pulse_module, pulse_id, pulse_declared, pulse_numbers, pulse_wide, gives_one, pulse_segment, pulse_codes, pulse_states, pulse_block}
use Rattle.scc_blocks_run_laws.proofs.Firsts.{fixed_assigned}
use Rattle.scc_blocks_run_laws.proofs.Among.{among-all, all-in, either, mentions-in, assigns-in, code_vars}
use Rattle.scc_blocks_laws.proofs.Worked.{term-is}

abbrev s : Sight
s = sight_of pulse 0 pulse_process

abbrev one : Acting → Acting
one a = with_asked 2 1 a

-- `q.write(1);`
lowered : IsLoweredCode s pulse_numbers.width (put 2 (byte 1) core.End) gives_one
lowered = record { shows = shows; framed = λ v h. among-all (λ v. v < top_number) (code_vars gives_one) (omega arith, tt) v (assigns-in gives_one v h) }
  where
    shows : (a b : Acting) (x : ℕ → ℕ) → Fits s a → Shows s a x → effect pulse.cells (put 2 (byte 1) core.End) a ≡ Fell b → Shows s b (run pulse_numbers.width gives_one x)
    shows a b x f k e =
        let z : one a ≡ b = ap of e in
        subst (λ b. Shows s b (run pulse_numbers.width gives_one x)) z
        (record { cells = among-all (λ c. ShowsCell (s.view c) c (one a) (run pulse_numbers.width gives_one x)) (1 ∷ 2 ∷ 2 ∷ []) (k.cells 1 refl, (((k.cells 2 refl).0, refl), (((k.cells 2 refl).0, refl), tt))); leaving = k.leaving })
      where
        of : Effect → Acting
        of (Fell b) = b
        of (Left_out n b) = b
        of Lost = a

states : AreStates s pulse_numbers.width pulse_wide pulse_process pulse_codes
states = record { state = state; number_fits = number_fits; count_fits = count_fits }
  where
    seg : Segment
    seg = Plain (put 2 (byte 1) core.End) (Halt here 1 2)

    state : (k count : ℕ) → slice_get (counts (live_body pulse.cells pulse_body)) k ≡ Some count → (seg : Segment) × (code : Code)
        × (segment_at pulse.cells pulse_process (suc k) ≡ Some seg) × IsSegmentCode s pulse_numbers.width pulse_wide seg code × (slice_get pulse_codes k ≡ Some (counted pulse_wide count code))
    state zero count h = let z : 1 ≡ count = cc in (Plain (put 2 (byte 1) core.End) (Halt here 1 2), pulse_segment, refl, (gives_one, place_code pulse_wide 1 1, lowered, refl, refl), ap (λ k. Some (counted pulse_wide k pulse_segment)) z)
    state (suc zero) count h = let z : 2 ≡ count = cc in (Plain (put 2 (byte 1) core.End) (Halt here 1 2), pulse_segment, refl, (gives_one, place_code pulse_wide 1 1, lowered, refl, refl), ap (λ k. Some (counted pulse_wide k pulse_segment)) z)
    state (suc (suc k)) count h = absurd (cc)

    number_fits : (k count : ℕ) → slice_get (counts (live_body pulse.cells pulse_body)) k ≡ Some count → k < 2 ^ 1
    number_fits zero count h = omega arith
    number_fits (suc zero) count h = omega arith
    number_fits (suc (suc k)) count h = absurd (cc)

    count_fits : (k count : ℕ) → slice_get (counts (live_body pulse.cells pulse_body)) k ≡ Some count → count - 1 < 2 ^ 1
    count_fits zero count h = let z : 1 ≡ count = cc in omega arith
    count_fits (suc zero) count h = let z : 2 ≡ count = cc in omega arith
    count_fits (suc (suc k)) count h = absurd (cc)

thread : IsThreadCode s pulse_numbers.width pulse_wide pulse_process pulse_states
thread = record {
  reset = record { cell = 1; level = true; asynchronous = true };
  has_reset = refl;
  segment = Plain (put 2 (byte 0) core.End) (Halt here 0 1);
  is_first = refl;
  reset_code = End;
  is_reset = λ h. absurd (cc);
  codes = pulse_codes;
  states = states;
  is_code = refl;
  clocked = refl;
  sees_reset = λ h. absurd (cc);
}

abbrev back : ℕ → ℕ
back v = if nat_eq v 1 then 2 else (if nat_eq v 2 then 4 else (if nat_eq v 3 then 5 else (if nat_eq v 4 then state_number else (if nat_eq v 5 then next_state_number else (if nat_eq v 6 then counter_number else next_counter_number)))))

back-is : (v : ℕ) → among v pulse_declared ≡ true → back (pulse_id v) ≡ v
back-is = among-all (λ v. back (pulse_id v) ≡ v) pulse_declared (refl, (refl, (refl, (refl, (refl, (refl, (refl, tt)))))))

pub block : IsBlock pulse pulse_registers pulse_module 0 pulse_process (code_as pulse_id pulse_block)
block = record {
  wide = pulse_wide;
  numbers = pulse_numbers;
  body = pulse_states;
  is_code = refl;
  is_body = thread;
  injective = λ u v a b e. sym (back-is u a) ∙ ap back e ∙ back-is v b;
  widths = λ v h. refl;
  mentioned = λ v h. among-all (λ v. among v pulse_declared ≡ true) (code_vars pulse_block) (all-in (code_vars pulse_block) pulse_declared refl) v (mentions-in pulse_block v h);
  sources = sources;
  cells = among-all (λ c. HasVariables pulse_registers pulse_numbers (width_at pulse.cells c) (view_of pulse 0 pulse_process c) c) (1 ∷ 2 ∷ 2 ∷ []) (((refl, refl, refl), refl), (((refl, refl, refl), refl, (refl, refl, refl)), (((refl, refl, refl), refl, (refl, refl, refl)), tt)));
  small = record { cells = among-all (λ c. 2 * c + 1 < top_number) (1 ∷ 2 ∷ 2 ∷ []) (omega arith, (omega arith, (omega arith, tt))); leaving = omega arith };
  leaving = λ h. absurd (cc);
  state = (refl, refl, refl, (refl, refl, refl));
  counter = (refl, refl, refl, (refl, refl, refl));
  is_state = refl;
  is_counter = refl;
}
  where
    sources : (u : ℕ) → is_source pulse_numbers.firsts u ≡ true → first_at pulse_numbers.firsts u ≡ None
    sources u h =
        let P : ℕ → Type 0 = λ u. first_at pulse_numbers.firsts u ≡ None in
        either (nat_eq 4 u) (nat_eq state_number u || (nat_eq counter_number u || false)) h (λ k. subst P (same_of_eq 4 u k) refl)
        (λ h. either (nat_eq state_number u) (nat_eq counter_number u || false) h (λ k. subst P (same_of_eq state_number u k) refl)
        (λ h. either (nat_eq counter_number u) false h (λ k. subst P (same_of_eq counter_number u k) refl) (λ h. absurd (cc))))

-- its edge, with the reset that loads what the reset segment leaves
pub edge : IsEdge pulse pulse_registers pulse_module (λ c. c) 0 pulse_process (record { cell = 0; rising = true }) pulse_wide pulse_numbers
edge = record {
  at = 0;
  rising = true;
  clock = record { 0 = 0 };
  reset = Some pulse_reset;
  sets = pulse_sets;
  stands = refl;
  is_clock = refl;
  sets_cells = among-all (λ c. SetsCell pulse_numbers pulse_sets (view_of pulse 0 pulse_process c) c) (1 ∷ 2 ∷ 2 ∷ []) (tt, (ap (λ t. Some t) (term-is 3), (ap (λ t. Some t) (term-is 3), tt)));
  sets_state = ap (λ t. Some t) (term-is 5);
  sets_counter = ap (λ t. Some t) (term-is 7);
  branch = record { branch = pulse_reset; stands = refl; signal = refl; one_bit = refl; level = refl; loads = loads };
}
  where
    is-left : (g : Regs) (l : Left) → ran_segment pulse.cells (segment_at pulse.cells pulse_process 0) (found pulse 0 pulse_process g) ≡ Some l
        → record { acting = with_asked 2 0 (found pulse 0 pulse_process g); place = Some (record { number = 0; left = 0 }) } ≡ l
    is-left g l h = cc

    loads : Loads pulse pulse_registers 0 pulse_process pulse_wide pulse_numbers pulse_reset
    loads = record {
      cells = λ g l c pr h. among-all (λ c. LoadsCell g l pulse_numbers pulse_reset (view_of pulse 0 pulse_process c) c) (1 ∷ 2 ∷ 2 ∷ []) (tt, (ap (λ l. latest l.acting 2) (is-left g l h), (ap (λ l. latest l.acting 2) (is-left g l h), tt))) c;
      state = λ g l place pr h e. let z : Some (record { number = 0; left = 0 }) ≡ Some place = ap (λ l. l.place) (is-left g l h) ∙ e in let y : record { number = 0; left = 0 } ≡ place = cc in ap (λ p. Some p.number) y;
      counter = λ g l place pr h e. let z : Some (record { number = 0; left = 0 }) ≡ Some place = ap (λ l. l.place) (is-left g l h) ∙ e in let y : record { number = 0; left = 0 } ≡ place = cc in ap (λ p. Some p.left) y;
    }

-- ---- the same with a reset that isn't asynchronous

abbrev s' : Sight
s' = sight_of sync 0 sync_process

-- `q.write(0);` and `q.write(1);`
lowered-by : (n : ℕ) → n < 2 ^ 8 → IsLoweredCode s' pulse_numbers.width (put 2 (byte n) core.End) (Assign (whole 5) (Literal 8 n) End)
lowered-by n l = record { shows = shows; framed = λ v h. among-all (λ v. v < top_number) (5 ∷ []) (omega arith, tt) v (assigns-in (Assign (whole 5) (Literal 8 n) End) v h) }
  where
    shows : (a b : Acting) (x : ℕ → ℕ) → Fits s' a → Shows s' a x → effect sync.cells (put 2 (byte n) core.End) a ≡ Fell b → Shows s' b (run pulse_numbers.width (Assign (whole 5) (Literal 8 n) End) x)
    shows a b x f k e =
        let z : with_asked 2 n a ≡ b = ap of e in
        subst (λ b. Shows s' b (run pulse_numbers.width (Assign (whole 5) (Literal 8 n) End) x)) z
        (record {
          cells = among-all (λ c. ShowsCell (s'.view c) c (with_asked 2 n a) (run pulse_numbers.width (Assign (whole 5) (Literal 8 n) End) x)) (1 ∷ 2 ∷ 2 ∷ [])
              (k.cells 1 refl, (((k.cells 2 refl).0, fixed_assigned 8 n l), (((k.cells 2 refl).0, fixed_assigned 8 n l), tt)));
          leaving = k.leaving;
        })
      where
        of : Effect → Acting
        of (Fell b) = b
        of (Left_out n b) = b
        of Lost = a

sync-states : AreStates s' pulse_numbers.width pulse_wide sync_process pulse_codes
sync-states = record { state = state; number_fits = states.number_fits; count_fits = states.count_fits }
  where
    state : (k count : ℕ) → slice_get (counts (live_body sync.cells pulse_body)) k ≡ Some count → (seg : Segment) × (code : Code)
        × (segment_at sync.cells sync_process (suc k) ≡ Some seg) × IsSegmentCode s' pulse_numbers.width pulse_wide seg code × (slice_get pulse_codes k ≡ Some (counted pulse_wide count code))
    state zero count h = let z : 1 ≡ count = cc in (Plain (put 2 (byte 1) core.End) (Halt here 1 2), pulse_segment, refl, (gives_one, place_code pulse_wide 1 1, lowered-by 1 (omega arith), refl, refl), ap (λ k. Some (counted pulse_wide k pulse_segment)) z)
    state (suc zero) count h = let z : 2 ≡ count = cc in (Plain (put 2 (byte 1) core.End) (Halt here 1 2), pulse_segment, refl, (gives_one, place_code pulse_wide 1 1, lowered-by 1 (omega arith), refl, refl), ap (λ k. Some (counted pulse_wide k pulse_segment)) z)
    state (suc (suc k)) count h = absurd (cc)

sync-thread : IsThreadCode s' pulse_numbers.width pulse_wide sync_process sync_body
sync-thread = record {
  reset = record { cell = 1; level = true; asynchronous = false };
  has_reset = refl;
  segment = Plain (put 2 (byte 0) core.End) (Halt here 0 1);
  is_first = refl;
  reset_code = sync_reset;
  is_reset = λ h. (Assign (whole 5) (Literal 8 0) End, place_code pulse_wide 0 0, lowered-by 0 (omega arith), refl, refl);
  codes = pulse_codes;
  states = sync-states;
  is_code = refl;
  clocked = refl;
  sees_reset = λ h. (refl, refl, refl);
}

pub sync-blocked : IsBlock sync pulse_registers pulse_module 0 sync_process (code_as pulse_id sync_block)
unfolding block
sync-blocked = record {
  wide = pulse_wide;
  numbers = pulse_numbers;
  body = sync_body;
  is_code = refl;
  is_body = sync-thread;
  injective = λ u v a b e. sym (back-is u a) ∙ ap back e ∙ back-is v b;
  widths = λ v h. refl;
  mentioned = λ v h. among-all (λ v. among v pulse_declared ≡ true) (code_vars sync_block) (all-in (code_vars sync_block) pulse_declared refl) v (mentions-in sync_block v h);
  sources = block.sources;
  cells = among-all (λ c. HasVariables pulse_registers pulse_numbers (width_at sync.cells c) (view_of sync 0 sync_process c) c) (1 ∷ 2 ∷ 2 ∷ [])
      (((refl, refl, refl), refl), (((refl, refl, refl), refl, (refl, refl, refl)), (((refl, refl, refl), refl, (refl, refl, refl)), tt)));
  small = record { cells = among-all (λ c. 2 * c + 1 < top_number) (1 ∷ 2 ∷ 2 ∷ []) (omega arith, (omega arith, (omega arith, tt))); leaving = omega arith };
  leaving = λ h. absurd (cc);
  state = (refl, refl, refl, (refl, refl, refl));
  counter = (refl, refl, refl, (refl, refl, refl));
  is_state = refl;
  is_counter = refl;
}
