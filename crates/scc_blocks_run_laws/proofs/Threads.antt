-- The code of a thread leaves what its turn leaves.
use Rattle.std.proofs.Common.{◌≡◌, ◌<◌, ◌+◌, ◌-◌, ◌^◌, ℕ, zero, suc, nat_eq, true, false, cond, List, [], ◌∷◌, Some, None, slice_get, refl, sym, ap, ◌∙◌, subst, arith}
use Rattle.std.proofs.lemmas.Nat.{pow_pos}
use Rattle.scc_svtree.specs.declared.expr.SvBinary.TheVariants as binary
use Rattle.scc_svtree.specs.Code.{Code, End, Assign}
use Rattle.scc_svtree.specs.Running.{run, run_arms, after_assign}
use Rattle.scc_svtree.specs.Sizes.{sized, value_of, assigned}
use Rattle.scc_svtree.specs.Term.{Literal, Binary}
use Rattle.scc_svtree.proofs.Agree.{eq_same}
use Rattle.scc_lower_spec.proofs.Gives.{gives_own}
use Rattle.scc_core_spec.specs.Program.{Process}
use Rattle.scc_core_spec.specs.Segments.{Segment, counts}
use Rattle.scc_core_spec.specs.Sizes.{live_body}
use Rattle.scc_blocks_spec.specs.Acting.{Acting}
use Rattle.scc_blocks_spec.specs.Effect.{Place, Ran, Waits, Ends, Fails, run_segment}
use Rattle.scc_blocks_spec.specs.Turns.{Left, left_by, ran_segment, segment_at, behind_wait}
use Rattle.scc_blocks_spec.specs.Shown.{Sight, IsSmall, Shows, state_number, next_state_number, counter_number, next_counter_number}
use Rattle.scc_blocks_spec.specs.Lowered.{Fits}
use Rattle.scc_blocks_run_laws.specs.Pieces.{Wide, whole, variable, counted, arms_from, states_code, IsSegmentCode, AreStates}
use Rattle.scc_blocks_run_laws.specs.Blocks.{IsPlaceOf}
use Rattle.scc_blocks_run_laws.specs.Follows.{KeepsSegment}
use Rattle.scc_blocks_run_laws.proofs.Firsts.{updated-same, updated-other}
use Rattle.scc_blocks_run_laws.proofs.Words.{variable-gives, counter-test, counter-less, gives-assigned}
use Rattle.scc_blocks_run_laws.proofs.Segments.{shows-below, Holds, HoldsPlace, HasWidth, Comes, segment-comes, above, waits-acting, waits-place}

-- a segment that leaves a place comes to its wait
pub record Waited (r : Ran) (l : Left) (place : Place) : Type 0 where
  pub waits : r ≡ Waits l.acting place

pub left-is : (a : Acting) (q : Place) (l : Left) (place : Place) → Some (record { acting = a; place = Some q }) ≡ Some l → l.place ≡ Some place → Waits a q ≡ Waits l.acting place
left-is a q l place h e =
    let s : record { acting = a; place = Some q } ≡ l = cc in
    let t : Some q ≡ Some place = ap (λ l. l.place) s ∙ e in
    let u : q ≡ place = cc in
    λ i. Waits ((ap (λ l. l.acting) s) i) (u i)

pub waited : (r : Ran) (l : Left) (place : Place) → left_by None r ≡ Some l → l.place ≡ Some place → r ≡ Waits l.acting place
waited (Waits a q) l place h e = left-is a q l place h e
waited (Ends a) l place h e = let s : record { acting = a; place = None } ≡ l = cc in let t : None ≡ Some place = ap (λ l. l.place) s ∙ e in absurd (cc)
waited Fails l place h e = absurd (cc)

module _ (width : ℕ → ℕ) where
  -- the arm of a label
  pub arm-runs : (w : ℕ) (codes : List Code) (k j m : ℕ) (c : Code) (x : ℕ → ℕ) → m ≡ k + j → slice_get codes j ≡ Some c → run_arms width m (arms_from w k codes) x ≡ run width c x
  arm-runs w [] k j m c x e h = absurd (cc)
  arm-runs w (d ∷ ds) k zero m c x e h =
      let same : nat_eq m k ≡ true = grind arith in
      let t : d ≡ c = cc in
      ap (λ b. cond b (run width d x) (run_arms width m (arms_from w (suc k) ds) x)) same ∙ ap (λ c. run width c x) t
  arm-runs w (d ∷ ds) k (suc j) m c x e h =
      let other : nat_eq m k ≡ false = grind arith in
      ap (λ b. cond b (run width d x) (run_arms width m (arms_from w (suc k) ds) x)) other ∙ arm-runs w ds (suc k) j m c x (omega arith) h

  -- the code of the state that a thread is in
  pub state-runs : (w : ℕ) (codes : List Code) (n : ℕ) (c : Code) (x : ℕ → ℕ) → HasWidth width w state_number → Holds w state_number n x → n < 2 ^ w → slice_get codes n ≡ Some c
      → run width (states_code w codes) x ≡ run width c x
  state-runs zero [] n c x e h l s = absurd (cc)
  state-runs zero (d ∷ ds) n c x e h l s =
      let P : ℕ → Type 0 = λ n. slice_get (d ∷ ds) n ≡ Some c in
      let t : slice_get (d ∷ ds) 0 ≡ Some c = subst P h s in
      let u : d ≡ c = cc in ap (λ c. run width c x) u
  state-runs (suc w) codes n c x e h l s =
      let v : value_of width x (variable state_number) ≡ n = gives_own false (sized false width x (variable state_number)) (suc w) n (variable-gives width x state_number (suc w) n e h l) in
      ap (λ k. run_arms width k (arms_from (suc w) 0 codes) x) v ∙ arm-runs (suc w) codes 0 n n c x (omega arith) s

  test-zero : (wc : ℕ) (x : ℕ → ℕ) → Holds wc counter_number 0 x → 1 < 2 ^ wc → HasWidth width wc counter_number → nat_eq (value_of width x (Binary binary.Ne (variable counter_number) (Literal wc 0))) 0 ≡ true
  test-zero zero x h l e = let l' : 1 < 1 = l in absurd (omega arith)
  test-zero (suc w) x h l e = counter-test width x counter_number (suc w) 0 e h (pow_pos (suc w))

  test-more : (wc n : ℕ) (x : ℕ → ℕ) → Holds wc counter_number (suc n) x → suc n < 2 ^ wc → HasWidth width wc counter_number
      → nat_eq (value_of width x (Binary binary.Ne (variable counter_number) (Literal wc 0))) 0 ≡ false
  test-more zero n x h l e = absurd (omega arith)
  test-more (suc w) n x h l e = counter-test width x counter_number (suc w) (suc n) e h l ∙ grind arith

  abbrev one_less : ℕ → (ℕ → ℕ) → ℕ → ℕ
  one_less wc x = after_assign width (whole next_counter_number) (Binary binary.Sub (variable counter_number) (Literal wc 1)) x

  less-holds : (wc n : ℕ) (x : ℕ → ℕ) → Holds wc counter_number (suc n) x → suc n < 2 ^ wc → HasWidth width wc counter_number → HasWidth width wc next_counter_number → Holds wc next_counter_number n (one_less wc x)
  less-holds zero n x h l e f = absurd (omega arith)
  less-holds (suc w) n x h l e f =
      let t = sized false width x (Binary binary.Sub (variable counter_number) (Literal (suc w) 1)) in
      updated-same next_counter_number next_counter_number (assigned (width next_counter_number) t) x (eq_same next_counter_number)
      ∙ ap (λ k. assigned k t) f ∙ gives-assigned t (suc w) n (omega arith) (counter-less width x counter_number (suc w) n (omega arith) e h l)

  holds-other : (w v n : ℕ) (x y : ℕ → ℕ) → y v ≡ x v → Holds w v n x → Holds w v n y
  holds-other zero v n x y e h = h
  holds-other (suc w) v n x y e h = e ∙ h

  module _ (s : Sight) (w : Wide) (q : Process) (small : IsSmall s) (codes : List Code) (states : AreStates s width w q codes)
      (es : HasWidth width w.state state_number) (en : HasWidth width w.state next_state_number)
      (fs : HasWidth width w.counter counter_number) (fn : HasWidth width w.counter next_counter_number) where
    -- a valuation that holds a thread's place twice: as it is, and as what comes next
    pub record Begins (place : Place) (x : ℕ → ℕ) : Type 0 where
      pub state : Holds w.state state_number place.number x
      pub counter : Holds w.counter counter_number place.left x
      pub next : HoldsPlace w place x

    pub segment-left : (seg : Segment) (code : Code) → IsSegmentCode s width w seg code → KeepsSegment s q seg → (a : Acting) (l : Left) (place : Place) (x : ℕ → ℕ) → Fits s a → Shows s a x
        → left_by None (run_segment s.cells seg a) ≡ Some l → l.place ≡ Some place → Comes width s w q l.acting place (run width code x)
    segment-left seg code i k a l place x fit sh h e =
        segment-comes width s w q small states.number_fits states.count_fits en fn seg code i k a l.acting place x fit sh (waited (run_segment s.cells seg a) l place h e)

    at-segment : (n : ℕ) (seg : Segment) (a : Acting) (l : Left) → segment_at s.cells q n ≡ Some seg → ran_segment s.cells (segment_at s.cells q n) a ≡ Some l → left_by None (run_segment s.cells seg a) ≡ Some l
    at-segment n seg a l e h = sym (ap (λ o. ran_segment s.cells o a) e) ∙ h

    -- only the counter counts
    count-down : (place : Place) (n : ℕ) (a : Acting) (x : ℕ → ℕ) → place.left ≡ suc n → IsPlaceOf s.cells q place → Fits s a → Shows s a x → Begins place x
        → Comes width s w q a (record { number = place.number; left = n })
        (run width (Assign (whole next_counter_number) (Binary binary.Sub (variable counter_number) (Literal w.counter 1)) End) x)
    count-down place n a x e st fit sh b =
        let wc = w.counter in
        let t = sized false width x (Binary binary.Sub (variable counter_number) (Literal wc 1)) in
        let P : ℕ → Type 0 = λ m. Holds wc counter_number m x in
        let top : st.0 - 1 < 2 ^ wc = states.count_fits place.number st.0 st.1 in
        let less : place.left < st.0 = st.2 in
        let low : suc n < 2 ^ wc = omega arith in
        record {
          shows = shows-below s a x (one_less wc x) small (λ v l. updated-other next_counter_number v (assigned (width next_counter_number) t) x (above v next_counter_number l (omega arith))) sh;
          holds = record {
            state = holds-other w.state next_state_number place.number x (one_less wc x) (updated-other next_counter_number next_state_number (assigned (width next_counter_number) t) x refl) b.next.state;
            counter = less-holds wc n x (subst P e b.counter) low fs fn;
          };
          fits = fit;
          stands = (st.0, st.1, omega arith);
        }

    counted-comes : (count : ℕ) (code : Code) (seg : Segment) (place : Place) (a : Acting) (l : Left) (to : Place) (x : ℕ → ℕ) → slice_get (counts (live_body s.cells q.body)) place.number ≡ Some count → place.left < count
        → IsSegmentCode s width w seg code → segment_at s.cells q (suc place.number) ≡ Some seg → KeepsSegment s q seg → Fits s a → Shows s a x → Begins place x
        → behind_wait s.cells q place a ≡ Some l → l.place ≡ Some to → Comes width s w q l.acting to (run width (counted w count code) x)
    counted-comes count code seg place a l to x c less i at k fit sh b h e = go count refl place.left refl
      where
        here : (n : ℕ) → place.left ≡ n → behind_wait s.cells q (record { number = place.number; left = n }) a ≡ Some l
        here n z = sym (λ i. behind_wait s.cells q (record { number = place.number; left = z i }) a) ∙ h

        runs-segment : place.left ≡ 0 → Comes width s w q l.acting to (run width code x)
        runs-segment z = segment-left seg code i k a l to x fit sh (at-segment (suc place.number) seg a l at (here 0 z)) e

        Q : (ℕ → ℕ) → Type 0
        Q = λ y. Comes width s w q l.acting to y

        top : count - 1 < 2 ^ w.counter
        top = states.count_fits place.number count c

        go : (m : ℕ) → count ≡ m → (n : ℕ) → place.left ≡ n → Comes width s w q l.acting to (run width (counted w m code) x)
        go zero f n z = absurd (omega arith)
        go (suc zero) f n z = runs-segment (omega arith)
        go (suc (suc m)) f zero z =
            let H : ℕ → Type 0 = λ n. Holds w.counter counter_number n x in
            let tp : count - 1 < 2 ^ w.counter = top in
            let t = test-zero w.counter x (subst H z b.counter) (omega arith) fs in
            subst Q (sym (ap (λ b. cond b (run width code x) (one_less w.counter x)) t)) (runs-segment z)
        go (suc (suc m)) f (suc n) z =
            let H : ℕ → Type 0 = λ n. Holds w.counter counter_number n x in
            let tp : count - 1 < 2 ^ w.counter = top in
            let t = test-more w.counter n x (subst H z b.counter) (omega arith) fs in
            let there : Place = record { number = place.number; left = n } in
            let lf : Some (record { acting = a; place = Some there }) ≡ Some l = here (suc n) z in
            let wt : Waits a there ≡ Waits l.acting to = left-is a there l to lf e in
            let A : Acting → Type 0 = λ a. Comes width s w q a to (one_less w.counter x) in
            let B : Place → Type 0 = λ p. Comes width s w q a p (one_less w.counter x) in
            subst Q (sym (ap (λ b. cond b (run width code x) (one_less w.counter x)) t))
            (subst A (waits-acting a l.acting there to wt) (subst B (waits-place a l.acting there to wt) (count-down place n a x z (count, c, less) fit sh b)))

    pub states-come : (place : Place) (a : Acting) (l : Left) (to : Place) (x : ℕ → ℕ) → IsPlaceOf s.cells q place → ((n : ℕ) (seg : Segment) → segment_at s.cells q n ≡ Some seg → KeepsSegment s q seg)
        → Fits s a → Shows s a x → Begins place x → behind_wait s.cells q place a ≡ Some l → l.place ≡ Some to → Comes width s w q l.acting to (run width (states_code w.state codes) x)
    states-come place a l to x st k fit sh b h e =
        let t = states.state place.number st.0 st.1 in
        let P : (ℕ → ℕ) → Type 0 = λ y. Comes width s w q l.acting to y in
        subst P (sym (state-runs w.state codes place.number (counted w st.0 t.1) x es b.state (states.number_fits place.number st.0 st.1) t.4))
        (counted-comes st.0 t.1 t.0 place a l to x st.1 st.2 t.3 t.2 (k (suc place.number) t.0 t.2) fit sh b h e)
