-- From any frames of a body the machine comes to the next wait as the segment of the live part does.
use Rattle.std.proofs.Common.{◌≡◌, ℕ, zero, suc, ◌+◌, ◌-◌, ◌≤◌, ◌<◌, Bool, true, false, ◌||◌, List, [], ◌∷◌, ◌++◌, length, Option, Some, None, refl, sym, ap, subst, ◌∙◌, arith}
use Rattle.std.specs.Prelude.{option_map}
use Rattle.std.proofs.lemmas.Option.{slice_get_within}
use Rattle.scc_base.specs.declared.refusal.Place.{Place}
use Rattle.scc_semantics.specs.Body.{Body}
use Rattle.scc_semantics.specs.Value.{Held}
use Rattle.scc_semantics.specs.Machine.{Frames, Go, Mark, Inner, BehindBlock, Next, Suspended, unless_stuck, pick, leave, one_less, waiting, run}
use Rattle.scc_core_spec.specs.Term.{Term}
use Rattle.scc_core_spec.specs.Code.{Code, Count, End, Put, Aim, If, Block, Loop, Exit, Wait, size, waits_in, numbered}
use Rattle.scc_core_spec.specs.Static.{goes, is_true}
use Rattle.scc_core_spec.specs.Live.{Alive, alive, then_alive, by_test, looped, shut}
use Rattle.scc_core_spec.specs.Segments.{Segment, Plain, Test, Finish, opens, opened, behind, segment}
use Rattle.scc_core_spec.specs.Flow.{Idle, idle}
use Rattle.scc_blocks_spec.specs.Places.{live_ways, if_ends}
use Rattle.scc_blocks_spec.specs.Comes.{next_waits}
use Rattle.scc_states_path_laws.specs.Moved.{World, Done, Fell, Out, Sticks, then_done, shut_done, or_sticks, either_done, Halted, Waits, Ends, Fails, then_run, or_fails, either_halted, effect_on, run_on, put_on, aim_on, word_of, found_or_stop, frames_in, outcome_in}
use Rattle.scc_states_path_laws.specs.Within.{Within, Along, Tests, Chooses}
use Rattle.scc_states_path_laws.proofs.Codes.{MustWait, must_wait-append, or_parts, or_left, or_right, opens-numbered, idle-numbered, idle-append}
use Rattle.scc_states_path_laws.proofs.Alive.{Among, among, among_if, among_shut, loop_waits, ends_then, leaves_first, leaves_then}
use Rattle.scc_states_path_laws.proofs.Appended.{cut-append}
use Rattle.scc_states_path_laws.proofs.Ways.{Way, way, way_either, eq_self}
use Rattle.scc_states_path_laws.proofs.Steps.{step_of, puts, aims, later, pop, stuck, one}
use Rattle.scc_states_path_laws.proofs.Does.{B, L, Cut, Behind, block, picked, chosen, does, aim_free}
use Rattle.scc_states_path_laws.proofs.Tables.{Point, P, rest, blocked, looping, points_if, points_block, points_loop, length-points, if_length, shut_length, HasAt, has_front, has_back}

-- a segment halts at a wait of the table; E says whether it may come to the end
abbrev pub Fine : Type 0 → List Point → Halted → Type 0
Fine E table (Waits number left h) = number < length table
Fine E table (Ends h) = E
Fine E table (Fails h) = Unit {0}

less : (c : ℕ) → one_less c ≡ c - 1
less zero = refl
less (suc c) = omega arith

module _ (w : World) (a : Along w) (E : Type 0) (table : List Point) where
  -- within b steps the frames halt as the segment does
  pub record Good (b : ℕ) (f : Frames) (s : Segment) : Type 0 where
    pub by : (h : Held) → a.Is f h → Within w b f h (outcome_in table (run_on w s h))
    pub ok : (h : Held) → Fine E table (run_on w s h)

  pub more : (b b' : ℕ) (f : Frames) (s : Segment) → b ≤ b' → Good b f s → Good b' f s
  more b b' f s le g = record { by = λ h is. later w b b' f h _ le (g.by h is); ok = g.ok }

  -- a statement that stands as it is
  plain_by : (m : ℕ) (d : Done) (x : Idle) (r : Body) (k : Frames) (s : Segment) → Way 0 x d → ((mark : Mark) → x.ends ≡ true → Good m (Go mark w.names r k) s) → Behind w a m d r k (outcome_in table (then_run d (run_on w s)))
  plain_by m (Fell h) x r k s p g = λ mark is. (g mark p).by h is
  plain_by m (Out j h) x r k s p g = absurd (omega (arith, p.0))
  plain_by m (Sticks h) x r k s p g = refl

  plain_ok : (m : ℕ) (d : Done) (x : Idle) (f : Frames) (s : Segment) → Way 0 x d → (x.ends ≡ true → Good m f s) → Fine E table (then_run d (run_on w s))
  plain_ok m (Fell h) x f s p g = (g p).ok h
  plain_ok m (Out j h) x f s p g = absurd (omega (arith, p.0))
  plain_ok m (Sticks h) x f s p g = tt

  leaf_good : (f f' : Frames) (x : Held → Option Held) (s : Segment) (c : Code) (n : ℕ) → ((next : Next) (h : Held) → step_of w next f h ≡ unless_stuck h (x h) (next f')) → next_waits f ≡ false
      → ((h : Held) → effect_on w c h ≡ or_sticks h (x h) (λ h'. Fell h')) → Good n f' s → Good (1 + n) f (Plain c s)
  leaf_good f f' x s c n st free same g = record {
    by = λ h is. subst (λ d. Within w (1 + n) f h (outcome_in table (then_run d (run_on w s)))) (sym (same h)) (steps h is (x h) (λ next. st next h));
    ok = λ h. subst (λ d. Fine E table (then_run d (run_on w s))) (sym (same h)) (fine h (x h));
  }
    where
      steps : (h : Held) → a.Is f h → (u : Option Held) → ((next : Next) → step_of w next f h ≡ unless_stuck h u (next f')) → Within w (1 + n) f h (outcome_in table (then_run (or_sticks h u (λ h'. Fell h')) (run_on w s)))
      steps h is None su = stuck w (1 + n) f h (omega arith) su
      steps h is (Some h') su = one w a n (1 + n) f f' h h' _ (omega arith) free su is (g.by h')

      fine : (h : Held) (u : Option Held) → Fine E table (then_run (or_sticks h u (λ h'. Fell h')) (run_on w s))
      fine h None = tt
      fine h (Some h') = g.ok h'

  branch : (v b : ℕ) (x z : Body) (k : Frames) (sx sz : Segment) (h : Held) → a.Is (Go Inner w.names (pick v x z) k) h → Good b (Go Inner w.names x k) sx → Good b (Go Inner w.names z k) sz
      → Within w b (Go Inner w.names (pick v x z) k) h (outcome_in table (either_halted v (run_on w sx h) (run_on w sz h)))
  branch zero b x z k sx sz h is gx gz = gz.by h is
  branch (suc v) b x z k sx sz h is gx gz = gx.by h is

  branch_ok : (v b : ℕ) (fx fz : Frames) (sx sz : Segment) (h : Held) → Good b fx sx → Good b fz sz → Fine E table (either_halted v (run_on w sx h) (run_on w sz h))
  branch_ok zero b fx fz sx sz h gx gz = gz.ok h
  branch_ok (suc v) b fx fz sx sz h gx gz = gx.ok h

  -- what follows leaving blocks
  pub leaves_block : (b m : ℕ) (r : Body) (k : Frames) (s : Segment) (outer : List Segment) (T : ℕ → Type 0) → m ≤ b → ((mark : Mark) → T 0 → Good b (Go mark w.names r k) s) → ((j : ℕ) → T (suc j) → Good m (leave j k) (behind j outer))
      → (j : ℕ) → T j → Good b (leave j (Go BehindBlock w.names r k)) (behind j (s ∷ outer))
  leaves_block b m r k s outer T le g e zero t = g Inner t
  leaves_block b m r k s outer T le g e (suc j) t = more m b _ _ le (e j t)

  -- the first statement of a list, and then the list
  seq_good : (x : Alive) (e : Bool) (r : Code) (n : ℕ) (k : Frames) (next : Segment) (outer : List Segment) (m b : ℕ) (f : Frames) (ws : List Point)
      → x.ends ≡ e → Among x → length ws ≡ waits_in x.code → MustWait (then_alive e x (alive w.cells r)).code → HasAt table n (ws ++ if_ends e (P w r k))
      → ((idle (then_alive e x (alive w.cells r)).code).ends ≡ true → Good m k next)
      → ((j : ℕ) → (idle (then_alive e x (alive w.cells r)).code).leaves j ≡ true → Good m (leave j k) (behind j outer))
      → ((n' : ℕ) (mark : Mark) → MustWait (L w a r) → HasAt table n' (P w r k) → ((idle (L w a r)).ends ≡ true → Good m k next) → ((j : ℕ) → (idle (L w a r)).leaves j ≡ true → Good m (leave j k) (behind j outer))
      → Good (size r + m) (Go mark w.names (B w a r) k) (segment (Cut w a n' r) next outer))
      → ((next' : Segment) → MustWait x.code → HasAt table n ws → ((mark : Mark) → (idle x.code).ends ≡ true → Good (size r + m) (Go mark w.names (B w a r) k) next')
      → ((j : ℕ) → (idle x.code).leaves j ≡ true → Good m (leave j k) (behind j outer)) → Good b f (segment (numbered n x.code) next' outer))
      → Good b f (segment (numbered n (then_alive e x (alive w.cells r)).code) next outer)
  seq_good x true r n k next outer m b f ws is am len must at g l ih front =
      let y = L w a r in
      let n' = n + waits_in x.code in
      let must' = must_wait-append x.code y must in
      let back = sym (idle-append x.code y) in
      let rest' : (mark : Mark) → (idle x.code).ends ≡ true → Good (size r + m) (Go mark w.names (B w a r) k) (segment (Cut w a n' r) next outer) =
      λ mark i. ih n' mark must'.1 (has_back table n n' ws (P w r k) (omega (arith, len)) at)
      (λ i'. g (subst (λ z. z.ends ≡ true) back (ends_then (idle x.code).ends (idle x.code).leaves (idle y) i i')))
      (λ j i'. l j (subst (λ z. z.leaves j ≡ true) back (leaves_then (idle x.code).ends (idle x.code).leaves (idle y) j i i'))) in
      subst (λ s. Good b f s) (sym (cut-append x.code y n next outer))
      (front (segment (Cut w a n' r) next outer) must'.0 (has_front table n ws (P w r k) at) rest'
      (λ j i'. l j (subst (λ z. z.leaves j ≡ true) back (leaves_first (idle x.code).ends (idle x.code).leaves (idle y) j i'))))
  seq_good x false r n k next outer m b f ws is am len must at g l ih front =
      front next must (has_front table n ws [] at) (λ mark i. absurd (never (am.ends i))) l
    where
      never : x.ends ≡ true → ⊥
      never i = absurd cc

  front_if : (p : Place) (t : Term) (x z r : Code) (g : Option Bool) (n : ℕ) (mark : Mark) (k : Frames) (next : Segment) (outer : List Segment) (m m' : ℕ) → m' ≤ m → Chooses w a.Holds t → Tests w a.Holds x → Tests w a.Holds z → goes w.cells t ≡ g
      → MustWait (by_test g p t (alive w.cells x) (alive w.cells z)).code → HasAt table n (live_ways g (P w x (rest w r k)) (P w z (rest w r k)))
      → ((mark' : Mark) → (idle (by_test g p t (alive w.cells x) (alive w.cells z)).code).ends ≡ true → Good m (Go mark' w.names (B w a r) k) next)
      → ((j : ℕ) → (idle (by_test g p t (alive w.cells x) (alive w.cells z)).code).leaves j ≡ true → Good m' (leave j k) (behind j outer))
      → ((n' : ℕ) → MustWait (L w a x) → HasAt table n' (P w x (rest w r k)) → ((idle (L w a x)).ends ≡ true → Good m (rest w r k) next) → ((j : ℕ) → (idle (L w a x)).leaves j ≡ true → Good m (leave j (rest w r k)) (behind j outer))
      → Good (size x + m) (Go Inner w.names (B w a x) (rest w r k)) (segment (Cut w a n' x) next outer))
      → ((n' : ℕ) → MustWait (L w a z) → HasAt table n' (P w z (rest w r k)) → ((idle (L w a z)).ends ≡ true → Good m (rest w r k) next) → ((j : ℕ) → (idle (L w a z)).leaves j ≡ true → Good m (leave j (rest w r k)) (behind j outer))
      → Good (size z + m) (Go Inner w.names (B w a z) (rest w r k)) (segment (Cut w a n' z) next outer))
      → Good (1 + (size x + (size z + m))) (Go mark w.names (B w a (If p t x z r)) k) (segment (numbered n (by_test g p t (alive w.cells x) (alive w.cells z)).code) next outer)
  front_if p t x z r (Some true) n mark k next outer m m' le ch tx tz e must at g l ix iz =
      let gx = ix n must at (λ i. g Inner i) (λ j i. more m' m _ _ le (l j i)) in
      record { by = λ h is. chosen w a true t (B w a x) (B w a z) (B w a r) mark k h _ _ ch e is (λ v. by gx h v); ok = gx.ok }
    where
      by : Good (size x + m) (Go Inner w.names (B w a x) (rest w r k)) (segment (Cut w a n x) next outer) → (h : Held) (v : ℕ) → is_true v ≡ true → a.Is (Go Inner w.names (pick v (B w a x) (B w a z)) (rest w r k)) h
          → Within w (size x + (size z + m)) (Go Inner w.names (pick v (B w a x) (B w a z)) (rest w r k)) h (outcome_in table (run_on w (segment (Cut w a n x) next outer) h))
      by gx h zero f is' = absurd cc
      by gx h (suc v) f is' = later w (size x + m) _ _ h _ (omega arith) (gx.by h is')
  front_if p t x z r (Some false) n mark k next outer m m' le ch tx tz e must at g l ix iz =
      let gz = iz n must at (λ i. g Inner i) (λ j i. more m' m _ _ le (l j i)) in
      record { by = λ h is. chosen w a false t (B w a x) (B w a z) (B w a r) mark k h _ _ ch e is (λ v. by gz h v); ok = gz.ok }
    where
      by : Good (size z + m) (Go Inner w.names (B w a z) (rest w r k)) (segment (Cut w a n z) next outer) → (h : Held) (v : ℕ) → is_true v ≡ false → a.Is (Go Inner w.names (pick v (B w a x) (B w a z)) (rest w r k)) h
          → Within w (size x + (size z + m)) (Go Inner w.names (pick v (B w a x) (B w a z)) (rest w r k)) h (outcome_in table (run_on w (segment (Cut w a n z) next outer) h))
      by gz h zero f is' = later w (size z + m) _ _ h _ (omega arith) (gz.by h is')
      by gz h (suc v) f is' = absurd cc
  front_if p t x z r None n mark k next outer m m' le ch tx tz e must at g l ix iz =
      by (opens 0 (If p t (Cut w a n x) (Cut w a n' z) End)) refl
    where
      n' : ℕ
      n' = n + waits_in (L w a x)

      ends_of_if : Bool → Bool
      ends_of_if b = b

      gone : ((idle (L w a x)).ends || (idle (L w a z)).ends) ≡ true → (mark' : Mark) → Good m (Go mark' w.names (B w a r) k) next
      gone i mark' = g mark' (ends_then ((idle (L w a x)).ends || (idle (L w a z)).ends) (λ j. (idle (L w a x)).leaves j || (idle (L w a z)).leaves j) (idle End) i refl)

      left : (j : ℕ) → ((idle (L w a x)).leaves j || (idle (L w a z)).leaves j) ≡ true → Good m (leave j k) (behind j outer)
      left j i = more m' m _ _ le (l j (leaves_first ((idle (L w a x)).ends || (idle (L w a z)).ends) (λ j. (idle (L w a x)).leaves j || (idle (L w a z)).leaves j) (idle End) j i))

      lx : length (P w x (rest w r k)) ≡ waits_in (L w a x)
      lx = length-points w x (rest w r k)

      gx : Good (size x + m) (Go Inner w.names (B w a x) (rest w r k)) (segment (Cut w a n x) next outer)
      gx = ix n must.0 (has_front table n (P w x (rest w r k)) (P w z (rest w r k)) at) (λ i. gone (or_left (idle (L w a x)).ends (idle (L w a z)).ends i) Inner) (λ j i. left j (or_left ((idle (L w a x)).leaves j) ((idle (L w a z)).leaves j) i))

      gz : Good (size z + m) (Go Inner w.names (B w a z) (rest w r k)) (segment (Cut w a n' z) next outer)
      gz = iz n' must.1 (has_back table n n' (P w x (rest w r k)) (P w z (rest w r k)) (omega (arith, lx)) at) (λ i. gone (or_right (idle (L w a x)).ends (idle (L w a z)).ends i) Inner) (λ j i. left j (or_right ((idle (L w a x)).leaves j) ((idle (L w a z)).leaves j) i))

      full : ℕ
      full = size x + (size z + m)

      F : Frames
      F = Go mark w.names (B w a (If p t x z r)) k

      choice : ℕ → Frames
      choice v = Go Inner w.names (pick v (B w a x) (B w a z)) (rest w r k)

      tested : (h : Held) → a.Is F h → (u : Option ℕ) → ((next' : Next) → step_of w next' F h ≡ unless_stuck h u (λ v. next' (choice v) h))
          → Within w (1 + full) F h (outcome_in table (or_fails h u (λ v. either_halted v (run_on w (segment (Cut w a n x) next outer) h) (run_on w (segment (Cut w a n' z) next outer) h))))
      tested h is None st = stuck w (1 + full) F h (omega arith) st
      tested h is (Some v) st = one w a full (1 + full) F (choice v) h h _ (omega arith) refl st is
          (λ is'. branch v full (B w a x) (B w a z) (rest w r k) _ _ h is' (more (size x + m) full _ _ (omega arith) gx) (more (size z + m) full _ _ (omega arith) gz))

      tested_ok : (h : Held) (u : Option ℕ) → Fine E table (or_fails h u (λ v. either_halted v (run_on w (segment (Cut w a n x) next outer) h) (run_on w (segment (Cut w a n' z) next outer) h)))
      tested_ok h None = tt
      tested_ok h (Some v) = branch_ok v full _ _ _ _ h (more (size x + m) full _ _ (omega arith) gx) (more (size z + m) full _ _ (omega arith) gz)

      both : Idle
      both = record { ends = (idle (Cut w a n x)).ends || (idle (Cut w a n' z)).ends; leaves = λ j. (idle (Cut w a n x)).leaves j || (idle (Cut w a n' z)).leaves j }

      same_both : both.ends ≡ true → ((idle (L w a x)).ends || (idle (L w a z)).ends) ≡ true
      same_both i = let ex = idle-numbered (L w a x) n in let ez = idle-numbered (L w a z) n' in subst (λ u. (u.ends || (idle (L w a z)).ends) ≡ true) ex (subst (λ u. ((idle (Cut w a n x)).ends || u.ends) ≡ true) ez i)

      DX : Held → Done
      DX h = effect_on w (Cut w a n x) h

      DZ : Held → Done
      DZ h = effect_on w (Cut w a n' z) h

      fell_same : (d : Done) → then_done d (λ h'. Fell h') ≡ d
      fell_same (Fell h) = refl
      fell_same (Out j h) = refl
      fell_same (Sticks h) = refl

      plain : (h : Held) → a.Is F h → opens 0 (Cut w a n x) ≡ false → opens 0 (Cut w a n' z) ≡ false → (u : Option ℕ) → ((next' : Next) → step_of w next' F h ≡ unless_stuck h u (λ v. next' (choice v) h))
          → Within w (1 + full) F h (outcome_in table (then_run (or_sticks h u (λ v. then_done (either_done v (DX h) (DZ h)) (λ h'. Fell h'))) (run_on w next)))
      plain h is ox oz None st = stuck w (1 + full) F h (omega arith) st
      plain h is ox oz (Some v) st =
          let o = outcome_in table (then_run (then_done (either_done v (DX h) (DZ h)) (λ h'. Fell h')) (run_on w next)) in
          let d = then_done (either_done v (DX h) (DZ h)) (λ h'. Fell h') in
          let way' = subst (λ d'. Way 0 both d') (sym (fell_same (either_done v (DX h) (DZ h)))) (way_either v 0 (idle (Cut w a n x)) (idle (Cut w a n' z)) (DX h) (DZ h) (way w (Cut w a n x) 0 h ox) (way w (Cut w a n' z) 0 h oz)) in
          let q = plain_by m d both (B w a r) k next way' (λ mark' i. gone (same_both i) mark') in
          one w a full (1 + full) F (choice v) h h o (omega arith) refl st is
          (λ is'. picked w a v (B w a x) (B w a z) (B w a r) k h (DX h) (DZ h) m full (size x + m) (size z + m) o (omega arith) (omega arith)
          (λ ix' q'. does w a x tx 0 n Inner (rest w r k) h m o must.0 ox ix' q') (λ iz' q'. does w a z tz 0 n' Inner (rest w r k) h m o must.1 oz iz' q') is' q)

      plain_fine : (h : Held) → opens 0 (Cut w a n x) ≡ false → opens 0 (Cut w a n' z) ≡ false → (u : Option ℕ) → Fine E table (then_run (or_sticks h u (λ v. then_done (either_done v (DX h) (DZ h)) (λ h'. Fell h'))) (run_on w next))
      plain_fine h ox oz None = tt
      plain_fine h ox oz (Some v) =
          let way' = subst (λ d'. Way 0 both d') (sym (fell_same (either_done v (DX h) (DZ h)))) (way_either v 0 (idle (Cut w a n x)) (idle (Cut w a n' z)) (DX h) (DZ h) (way w (Cut w a n x) 0 h ox) (way w (Cut w a n' z) 0 h oz)) in
          plain_ok m (then_done (either_done v (DX h) (DZ h)) (λ h'. Fell h')) both (Go Inner w.names (B w a r) k) next way' (λ i. gone (same_both i) Inner)

      by : (is : Bool) → opens 0 (If p t (Cut w a n x) (Cut w a n' z) End) ≡ is
          → Good (1 + full) F (opened is (Test p t (segment (Cut w a n x) next outer) (segment (Cut w a n' z) next outer)) (Plain (If p t (Cut w a n x) (Cut w a n' z) End) next))
      by true o = record { by = λ h is. tested h is (word_of w t h) (λ next'. refl); ok = λ h. tested_ok h (word_of w t h) }
      by false o =
          let ox = or_parts (opens 0 (Cut w a n x)) (opens 0 (Cut w a n' z) || false) o in
          let oz = or_parts (opens 0 (Cut w a n' z)) false ox.1 in
          record { by = λ h is. plain h is ox.0 oz.0 (word_of w t h) (λ next'. refl); ok = λ h. plain_fine h ox.0 oz.0 (word_of w t h) }

  front_block : (p : Place) (b r : Code) (n : ℕ) (mark : Mark) (k : Frames) (next : Segment) (outer : List Segment) (m m' : ℕ) → m' ≤ m → Tests w a.Holds b
      → MustWait (L w a b) → HasAt table n (P w b (blocked w r k))
      → ((mark' : Mark) → (idle (Block p (L w a b) End)).ends ≡ true → Good m (Go mark' w.names (B w a r) k) next)
      → ((j : ℕ) → (idle (Block p (L w a b) End)).leaves j ≡ true → Good m' (leave j k) (behind j outer))
      → ((next' : Segment) (outer' : List Segment) → ((idle (L w a b)).ends ≡ true → Good m (blocked w r k) next') → ((j : ℕ) → (idle (L w a b)).leaves j ≡ true → Good m (leave j (blocked w r k)) (behind j outer'))
      → Good (size b + m) (Go Inner w.names (B w a b) (blocked w r k)) (segment (Cut w a n b) next' outer'))
      → Good (1 + (size b + m)) (Go mark w.names (B w a (Block p b r)) k) (segment (numbered n (Block p (L w a b) End)) next outer)
  front_block p b r n mark k next outer m m' le tb must at g l ib = by (opens 0 (Block p (Cut w a n b) End)) refl
    where
      F : Frames
      F = Go mark w.names (B w a (Block p b r)) k

      D : Held → Done
      D h = effect_on w (Cut w a n b) h

      x : Idle
      x = idle (L w a b)

      ended : (x.ends || x.leaves 0) ≡ true → (mark' : Mark) → Good m (Go mark' w.names (B w a r) k) next
      ended i mark' = g mark' (ends_then (x.ends || x.leaves 0) (λ j. x.leaves (suc j)) (idle End) i refl)

      left : (j : ℕ) → x.leaves (suc j) ≡ true → Good m' (leave j k) (behind j outer)
      left j i = l j (leaves_first (x.ends || x.leaves 0) (λ j. x.leaves (suc j)) (idle End) j i)

      open' : Good (size b + m) (Go Inner w.names (B w a b) (blocked w r k)) (segment (Cut w a n b) next (next ∷ outer))
      open' = ib next (next ∷ outer) (λ i. ended (or_left x.ends (x.leaves 0) i) BehindBlock)
          (leaves_block m m' (B w a r) k next outer (λ j. x.leaves j ≡ true) le (λ mark' i. ended (or_right x.ends (x.leaves 0) i) mark') left)

      shut_way : (d : Done) → Way 1 (idle (Cut w a n b)) d → Way 0 (record { ends = x.ends || x.leaves 0; leaves = λ j. x.leaves (suc j) }) (shut_done d (λ h. Fell h))
      shut_way (Fell h) y = or_left x.ends (x.leaves 0) (subst (λ z. z.ends ≡ true) (idle-numbered (L w a b) n) y)
      shut_way (Out zero h) y = or_right x.ends (x.leaves 0) (subst (λ z. z.leaves 0 ≡ true) (idle-numbered (L w a b) n) y.1)
      shut_way (Out (suc j) h) y = absurd (omega (arith, y.0))
      shut_way (Sticks h) y = tt

      by : (is : Bool) → opens 0 (Block p (Cut w a n b) End) ≡ is → Good (1 + (size b + m)) F (opened is (segment (Cut w a n b) next (next ∷ outer)) (Plain (Block p (Cut w a n b) End) next))
      by true o = record { by = λ h is. one w a (size b + m) _ F (Go Inner w.names (B w a b) (blocked w r k)) h h _ (omega arith) refl (λ next'. refl) is (open'.by h); ok = open'.ok }
      by false o =
          let ob = (or_parts (opens 1 (Cut w a n b)) false o).0 in
          record {
            by = λ h is. one w a (size b + m) _ F (Go Inner w.names (B w a b) (blocked w r k)) h h _ (omega arith) refl (λ next'. refl) is
                (λ is'. does w a b tb 1 n Inner (blocked w r k) h m _ must ob is'
                (block w a m (D h) (B w a r) k _ (plain_by m (shut_done (D h) (λ h'. Fell h')) (record { ends = x.ends || x.leaves 0; leaves = λ j. x.leaves (suc j) }) (B w a r) k next (shut_way (D h) (way w (Cut w a n b) 1 h ob)) (λ mark' i. ended i mark'))));
            ok = λ h. plain_ok m (shut_done (D h) (λ h'. Fell h')) (record { ends = x.ends || x.leaves 0; leaves = λ j. x.leaves (suc j) }) (Go Inner w.names (B w a r) k) next (shut_way (D h) (way w (Cut w a n b) 1 h ob)) (λ i. ended i Inner);
          }

  good_loop : (p : Place) (c : Option Count) (b r : Code) (e : Bool) (n : ℕ) (mark : Mark) (k : Frames) (next : Segment) (outer : List Segment) (m : ℕ) → (alive w.cells b).ends ≡ e
      → MustWait (looped e p c (alive w.cells b)).code
      → ((j : ℕ) → (idle (looped e p c (alive w.cells b)).code).leaves j ≡ true → Good m (leave j k) (behind j outer))
      → ((next' : Segment) → MustWait (L w a b) → ((idle (L w a b)).ends ≡ true → Good m (looping w b r k) next') → ((j : ℕ) → (idle (L w a b)).leaves j ≡ true → Good m (leave j (looping w b r k)) (behind j outer))
      → Good (size b + m) (Go Inner w.names (B w a b) (looping w b r k)) (segment (Cut w a n b) next' outer))
      → Good (1 + (size b + m)) (Go mark w.names (B w a (Loop p c b r)) k) (segment (numbered n (looped e p c (alive w.cells b)).code) next outer)
  good_loop p c b r true n mark k next outer m is must l ib = by (opens 0 (Loop p c (Cut w a n b) End)) refl
    where
      body' : Good (size b + m) (Go Inner w.names (B w a b) (looping w b r k)) (segment (Cut w a n b) Finish outer)
      body' = ib Finish must.1 (λ i. absurd (never i)) l
        where
          never : (idle (L w a b)).ends ≡ true → ⊥
          never i = let m0 = must.0 in absurd cc

      by : (o : Bool) → opens 0 (Loop p c (Cut w a n b) End) ≡ o → Good (1 + (size b + m)) (Go mark w.names (B w a (Loop p c b r)) k) (opened o (segment (Cut w a n b) Finish outer) (Plain (Loop p c (Cut w a n b) End) next))
      by true o = record { by = λ h at. one w a (size b + m) _ _ (Go Inner w.names (B w a b) (looping w b r k)) h h _ (omega arith) refl (λ next'. refl) at (body'.by h); ok = body'.ok }
      by false o = absurd (loop_waits w.cells b 0 is must.0 (sym (opens-numbered (L w a b) 0 n) ∙ (or_parts (opens 0 (Cut w a n b)) false o).0))
  good_loop p c b r false n mark k next outer m is must l ib =
      let body' = ib next must (λ i. absurd (never ((among w.cells b).ends i))) l in
      record { by = λ h at. one w a (size b + m) _ _ (Go Inner w.names (B w a b) (looping w b r k)) h h _ (omega arith) refl (λ next'. refl) at (body'.by h); ok = body'.ok }
    where
      never : (alive w.cells b).ends ≡ true → ⊥
      never i = absurd cc

  pub good_code : (c : Code) → Tests w a.Holds c → (n : ℕ) (mark : Mark) (k : Frames) (next : Segment) (outer : List Segment) (m : ℕ) → MustWait (L w a c) → HasAt table n (P w c k)
      → ((idle (L w a c)).ends ≡ true → Good m k next) → ((j : ℕ) → (idle (L w a c)).leaves j ≡ true → Good m (leave j k) (behind j outer))
      → Good (size c + m) (Go mark w.names (B w a c) k) (segment (Cut w a n c) next outer)
  good_code End ts n mark k next outer m must at g l =
      record { by = λ h is. later w m _ _ h _ (omega arith) (pop w m mark k h _ ((g refl).by h (a.ends mark k h is))); ok = (g refl).ok }
  good_code (Put p left e v r) ts n mark k next outer m must at g l =
      more (1 + (size r + m)) _ _ _ (omega arith) (leaf_good (Go mark w.names (B w a (Put p left e v r)) k) (Go Inner w.names (B w a r) k) (put_on w left e v) _ (Put p left e v End) (size r + m)
      (λ next' h. puts w next' mark left e v (B w a r) k h) refl (λ h. refl) (good_code r ts n Inner k next outer m must at g l))
  good_code (Aim p to t r) ts n mark k next outer m must at g l =
      more (1 + (size r + m)) _ _ _ (omega arith) (leaf_good (Go mark w.names (B w a (Aim p to t r)) k) (Go Inner w.names (B w a r) k) (aim_on w to t) _ (Aim p to t End) (size r + m)
      (λ next' h. aims w next' mark to t (B w a r) k h) (aim_free w a to t (B w a r) mark k) (λ h. refl) (good_code r ts n Inner k next outer m must at g l))
  good_code (If p t x z r) ts n mark k next outer m must at g l =
      let i = goes w.cells t in
      let u = by_test i p t (alive w.cells x) (alive w.cells z) in
      let ws = live_ways i (P w x (rest w r k)) (P w z (rest w r k)) in
      let at' = subst (λ ps. HasAt table n ps) (points_if w p t x z r k) at in
      more (1 + (size x + (size z + (size r + m)))) _ _ _ (omega arith)
      (seq_good u u.ends r n k next outer m (1 + (size x + (size z + (size r + m)))) (Go mark w.names (B w a (If p t x z r)) k) ws refl
      (among_if i p t (alive w.cells x) (alive w.cells z) (among w.cells x) (among w.cells z))
      (if_length i p t (alive w.cells x) (alive w.cells z) (P w x (rest w r k)) (P w z (rest w r k)) (length-points w x (rest w r k)) (length-points w z (rest w r k)))
      must at' g l (λ n' mark' mr atr gr lr. good_code r ts.3 n' mark' k next outer m mr atr gr lr)
      (λ next' mu atw gu lu. front_if p t x z r i n mark k next' outer (size r + m) m (omega arith) ts.0 ts.1 ts.2 refl mu atw gu lu
      (λ n' mx atx gx lx. good_code x ts.1 n' Inner (rest w r k) next' outer (size r + m) mx atx gx lx)
      (λ n' mz atz gz lz. good_code z ts.2 n' Inner (rest w r k) next' outer (size r + m) mz atz gz lz)))
  good_code (Block p b r) ts n mark k next outer m must at g l =
      let u = shut p (alive w.cells b) in
      let at' = subst (λ ps. HasAt table n ps) (points_block w p b r k) at in
      more (1 + (size b + (size r + m))) _ _ _ (omega arith)
      (seq_good u u.ends r n k next outer m (1 + (size b + (size r + m))) (Go mark w.names (B w a (Block p b r)) k) (P w b (blocked w r k)) refl
      (among_shut p (alive w.cells b) (among w.cells b)) (shut_length p (alive w.cells b) (P w b (blocked w r k)) (length-points w b (blocked w r k)))
      must at' g l (λ n' mark' mr atr gr lr. good_code r ts.1 n' mark' k next outer m mr atr gr lr)
      (λ next' mu atw gu lu. front_block p b r n mark k next' outer (size r + m) m (omega arith) ts.0 mu.0 atw gu lu
      (λ next'' outer' gb lb. good_code b ts.0 n Inner (blocked w r k) next'' outer' (size r + m) mu.0 atw gb lb)))
  good_code (Loop p c b r) ts n mark k next outer m must at g l =
      let at' = subst (λ ps. HasAt table n ps) (points_loop w p c b r k) at in
      more (1 + (size b + m)) _ _ _ (omega arith)
      (good_loop p c b r (alive w.cells b).ends n mark k next outer m refl must l
      (λ next' mb gb lb. good_code b ts.0 n Inner (looping w b r k) next' outer m mb (has_front table n (P w b (looping w b r k)) [] at') gb lb))
  good_code (Exit p j r) ts n mark k next outer m must at g l =
      let out = l j (eq_self j) in
      record { by = λ h is. one w a m _ _ (leave j k) h h _ (omega arith) refl (λ next'. refl) is (out.by h); ok = out.ok }
  good_code (Wait p number count r) ts n mark k next outer m must at g l =
      record { by = λ h is. record { by = halts h }; ok = λ h. slice_get_within table n _ at.0 }
    where
      found : (left : ℕ) → left ≡ count - 1 → waiting number left (Go Inner w.names (B w a r) k) ≡ frames_in table n (count - 1)
      found left e = ap (λ c. waiting number c (Go Inner w.names (B w a r) k)) e ∙ sym (ap (λ o. found_or_stop (option_map (λ q. waiting q.0 (count - 1) q.1) o)) at.0)

      halts : (h : Held) (i : ℕ) → size (Wait p number count r) + m ≤ i → run w.places w.functions w.signals i (Go mark w.names (B w a (Wait p number count r)) k) h ≡ Suspended (frames_in table n (count - 1)) h
      halts h zero le = absurd (omega arith)
      halts h (suc i) le = ap (λ f. Suspended f h) (found (one_less count) (less count))
