-- The code of segments leaves what they leave.
use Rattle.std.proofs.Common.{◌≡◌, ◌<◌, ◌*◌, ◌+◌, ◌-◌, ◌^◌, ℕ, zero, suc, nat_eq, false, cond, length, Option, Some, None, slice_get, refl, sym, ap, ◌∙◌, subst, arith}
use Rattle.scc_svtree.specs.Code.{Code, End, Assign, If, Case}
use Rattle.scc_svtree.specs.Running.{run, run_arms, after_assign}
use Rattle.scc_svtree.specs.Sizes.{sized, value_of, assigned, fixed}
use Rattle.scc_svtree.specs.Term.{Literal}
use Rattle.scc_svtree.proofs.Agree.{eq_same}
use Rattle.scc_bits_kinds.specs.Kinds.{width_of}
use Rattle.scc_core_spec.specs.Term.{kind_of}
use Rattle.scc_core_spec.specs.Program.{Process}
use Rattle.scc_core_spec.specs.Segments.{Segment, Plain, Test, Halt, Finish, counts}
use Rattle.scc_core_spec.specs.Sizes.{live_body}
use Rattle.scc_blocks_spec.specs.Acting.{Acting, word_in}
use Rattle.scc_blocks_spec.specs.Effect.{Place, Waits, Fails, Effect, Fell, Left_out, Lost, effect, then_ran, or_fails, choose, run_segment}
use Rattle.scc_blocks_spec.specs.Shown.{View, Constant, Read, Driven, Delayed, Plain as Own, Next, Sight, IsSmall, Shows, ShowsCell, IsAsked, next_state_number, next_counter_number, top_number}
use Rattle.scc_blocks_spec.specs.Lowered.{Fits}
use Rattle.scc_blocks_run_laws.specs.Pieces.{Wide, whole, then_code, put_number, place_code, IsSegmentCode}
use Rattle.scc_blocks_run_laws.specs.Blocks.{IsPlaceOf}
use Rattle.scc_blocks_run_laws.specs.Follows.{KeepsSegment}
use Rattle.scc_blocks_run_laws.proofs.Firsts.{fixed_assigned, updated-same, updated-other}

pub then-run : (width : ℕ → ℕ) (c d : Code) (x : ℕ → ℕ) → run width (then_code c d) x ≡ run width d (run width c x)
then-run width End d x = refl
then-run width (Assign l e r) d x = then-run width r d (after_assign width l e x)
then-run width (If c a b r) d x = then-run width r d (cond (nat_eq (value_of width x c) 0) (run width b x) (run width a x))
then-run width (Case e arms r) d x = then-run width r d (run_arms width (value_of width x e) arms x)

-- nothing below the top is another
abbrev pub SameBelow : (ℕ → ℕ) → (ℕ → ℕ) → Type 0
SameBelow x y = (v : ℕ) → v < top_number → y v ≡ x v

cell-below : (v : View) (c : ℕ) (a : Acting) (x y : ℕ → ℕ) → 2 * c + 1 < top_number → SameBelow x y → ShowsCell v c a x → ShowsCell v c a y
cell-below (Constant w) c a x y l h s = s
cell-below Read c a x y l h s = h (2 * c) (omega arith) ∙ s
cell-below Driven c a x y l h s = let P : ℕ → Type 0 = λ n. IsAsked (a.asked c) n in subst P (sym (h (2 * c) (omega arith))) s
cell-below Delayed c a x y l h s = (h (2 * c) (omega arith) ∙ s.0, h (2 * c + 1) l ∙ s.1)
cell-below Own c a x y l h s = h (2 * c) (omega arith) ∙ s
cell-below Next c a x y l h s = h (2 * c + 1) l ∙ s

pub shows-below : (s : Sight) (a : Acting) (x y : ℕ → ℕ) → IsSmall s → SameBelow x y → Shows s a x → Shows s a y
shows-below s a x y m h k = record {
  cells = λ c e. cell-below (s.view c) c a x y (m.cells c e) h (k.cells c e);
  leaving = h (2 * length s.cells) m.leaving ∙ k.leaving;
}

-- a state or counter, 0 where there is none
abbrev pub Holds : ℕ → ℕ → ℕ → (ℕ → ℕ) → Type 0
Holds zero v n y = n ≡ 0
Holds (suc w) v n y = y v ≡ n

pub record HoldsPlace (w : Wide) (place : Place) (y : ℕ → ℕ) : Type 0 where
  pub state : Holds w.state next_state_number place.number y
  pub counter : Holds w.counter next_counter_number place.left y

pub above : (v u : ℕ) → v < top_number → top_number < u + 1 → nat_eq u v ≡ false
above v u l m = grind arith

pub waits-acting : (a b : Acting) (p q : Place) → Waits a p ≡ Waits b q → a ≡ b
waits-acting a b p q h = cc

pub waits-place : (a b : Acting) (p q : Place) → Waits a p ≡ Waits b q → p ≡ q
waits-place a b p q h = cc

module _ (width : ℕ → ℕ) where
  put-below : (w v n : ℕ) (rest : Code) → top_number < v + 1 → ((y : ℕ → ℕ) → SameBelow y (run width rest y)) → (x : ℕ → ℕ) → SameBelow x (run width (put_number w v n rest) x)
  put-below zero v n rest t h x = h x
  put-below (suc w) v n rest t h x = λ u l. h (after_assign width (whole v) (Literal (suc w) n) x) u l ∙ updated-other v u (assigned (width v) (fixed (suc w) false n)) x (above u v l t)

  place-below : (w : Wide) (n left : ℕ) (x : ℕ → ℕ) → SameBelow x (run width (place_code w n left) x)
  place-below w n left x = put-below w.state next_state_number n (put_number w.counter next_counter_number left End) (omega arith) (put-below w.counter next_counter_number left End (omega arith) (λ z v l. refl)) x

  zero-small : (n : ℕ) → n < 2 ^ 0 → n ≡ 0
  zero-small n l = let l' : n < 1 = l in omega arith

  put-same : (w v n : ℕ) (x : ℕ → ℕ) → width v ≡ suc w → n < 2 ^ suc w → after_assign width (whole v) (Literal (suc w) n) x v ≡ n
  put-same w v n x e l = updated-same v v _ x (eq_same v) ∙ ap (λ k. assigned k (fixed (suc w) false n)) e ∙ fixed_assigned (suc w) n l

  -- the number that was put, with the width that its variable has
  abbrev pub HasWidth : ℕ → ℕ → Type 0
  HasWidth zero v = Unit {0}
  HasWidth (suc w) v = width v ≡ suc w

  put-holds : (w v n : ℕ) (x : ℕ → ℕ) → n < 2 ^ w → HasWidth w v → Holds w v n (run width (put_number w v n End) x)
  put-holds zero v n x l e = zero-small n l
  put-holds (suc w) v n x l e = put-same w v n x e l

  before-holds : (w v n k u m : ℕ) (x : ℕ → ℕ) → nat_eq u v ≡ false → n < 2 ^ w → HasWidth w v → Holds w v n (run width (put_number w v n (put_number k u m End)) x)
  before-holds zero v n k u m x d l e = zero-small n l
  before-holds (suc w) v n zero u m x d l e = put-same w v n x e l
  before-holds (suc w) v n (suc k) u m x d l e = updated-other u v _ (after_assign width (whole v) (Literal (suc w) n) x) d ∙ put-same w v n x e l

  behind-holds : (w v n k u m : ℕ) (x : ℕ → ℕ) → m < 2 ^ k → HasWidth k u → Holds k u m (run width (put_number w v n (put_number k u m End)) x)
  behind-holds zero v n k u m x l e = put-holds k u m x l e
  behind-holds (suc w) v n k u m x l e = put-holds k u m (after_assign width (whole v) (Literal (suc w) n) x) l e

  place-holds : (w : Wide) (n left : ℕ) (x : ℕ → ℕ) → n < 2 ^ w.state → left < 2 ^ w.counter → HasWidth w.state next_state_number → HasWidth w.counter next_counter_number
      → HoldsPlace w (record { number = n; left = left }) (run width (place_code w n left) x)
  place-holds w n left x l m e f = record {
    state = before-holds w.state next_state_number n w.counter next_counter_number left x refl l e;
    counter = behind-holds w.state next_state_number n w.counter next_counter_number left x m f;
  }

  -- what a segment comes to
  pub record Comes (s : Sight) (w : Wide) (q : Process) (b : Acting) (place : Place) (y : ℕ → ℕ) : Type 0 where
    pub shows : Shows s b y
    pub holds : HoldsPlace w place y
    pub fits : Fits s b
    pub stands : IsPlaceOf s.cells q place

  module _ (s : Sight) (w : Wide) (q : Process) (small : IsSmall s)
      (numbers : (k count : ℕ) → slice_get (counts (live_body s.cells q.body)) k ≡ Some count → k < 2 ^ w.state)
      (lefts : (k count : ℕ) → slice_get (counts (live_body s.cells q.body)) k ≡ Some count → count - 1 < 2 ^ w.counter)
      (e : HasWidth w.state next_state_number) (f : HasWidth w.counter next_counter_number) where
    pub segment-comes : (seg : Segment) (code : Code) → IsSegmentCode s width w seg code → KeepsSegment s q seg → (a b : Acting) (place : Place) (x : ℕ → ℕ) → Fits s a → Shows s a x
        → run_segment s.cells seg a ≡ Waits b place → Comes s w q b place (run width code x)
    segment-comes (Plain c r) code i k a b place x fit sh h = go (λ a' x' fit' sh' h'. segment-comes r i.1 i.3 k.1 a' b place x' fit' sh' h') (effect s.cells c a) refl
      where
        go : ((a' : Acting) (x' : ℕ → ℕ) → Fits s a' → Shows s a' x' → run_segment s.cells r a' ≡ Waits b place → Comes s w q b place (run width i.1 x')) → (o : Effect) → effect s.cells c a ≡ o
            → Comes s w q b place (run width code x)
        go next (Fell a') e =
            let P : (ℕ → ℕ) → Type 0 = λ y. Comes s w q b place y in
            subst P (sym (ap (λ c. run width c x) i.4 ∙ then-run width i.0 i.1 x))
            (next a' (run width i.0 x) (k.0 a a' fit e) (i.2.shows a a' x fit sh e) (sym (ap (λ o. then_ran o (run_segment s.cells r)) e) ∙ h))
        go next (Left_out n a') e = let t : then_ran (effect s.cells c a) (run_segment s.cells r) ≡ Fails = ap (λ o. then_ran o (run_segment s.cells r)) e in absurd (cc)
        go next Lost e = let t : then_ran (effect s.cells c a) (run_segment s.cells r) ≡ Fails = ap (λ o. then_ran o (run_segment s.cells r)) e in absurd (cc)
    segment-comes (Test p t u v) code i k a b place x fit sh h =
        go (λ h'. segment-comes u i.1 i.5 k.0 a b place (run width i.0 x) fit (i.4.shows a x fit sh) h') (λ h'. segment-comes v i.2 i.6 k.1 a b place (run width i.0 x) fit (i.4.shows a x fit sh) h') (word_in s.cells a t) refl
      where
        whole-run : run width code x ≡ cond (nat_eq (value_of width (run width i.0 x) i.3) 0) (run width i.2 (run width i.0 x)) (run width i.1 (run width i.0 x))
        whole-run = ap (λ c. run width c x) i.7 ∙ then-run width i.0 (If i.3 i.1 i.2 End) x

        is-value : (n : ℕ) → word_in s.cells a t ≡ Some n → value_of width (run width i.0 x) i.3 ≡ n
        is-value n e = let g = i.4.gives a x n fit sh e in
            let word : (sized false width (run width i.0 x) i.3).word (width_of (kind_of t)) false ≡ n = let v = g.value in cc in
            (λ j. (sized false width (run width i.0 x) i.3).word (g.length j) (g.unsigned j)) ∙ word

        go : (run_segment s.cells u a ≡ Waits b place → Comes s w q b place (run width i.1 (run width i.0 x))) → (run_segment s.cells v a ≡ Waits b place → Comes s w q b place (run width i.2 (run width i.0 x)))
            → (o : Option ℕ) → word_in s.cells a t ≡ o → Comes s w q b place (run width code x)
        go on_true on_false None e = let r : or_fails (word_in s.cells a t) (λ n. choose n (run_segment s.cells u a) (run_segment s.cells v a)) ≡ Fails = ap (λ o. or_fails o (λ n. choose n (run_segment s.cells u a) (run_segment s.cells v a))) e in absurd (cc)
        go on_true on_false (Some zero) e =
            let P : (ℕ → ℕ) → Type 0 = λ y. Comes s w q b place y in
            let r : run_segment s.cells v a ≡ Waits b place = sym (ap (λ o. or_fails o (λ n. choose n (run_segment s.cells u a) (run_segment s.cells v a))) e) ∙ h in
            subst P (sym (whole-run ∙ ap (λ n. cond (nat_eq n 0) (run width i.2 (run width i.0 x)) (run width i.1 (run width i.0 x))) (is-value zero e))) (on_false r)
        go on_true on_false (Some (suc n)) e =
            let P : (ℕ → ℕ) → Type 0 = λ y. Comes s w q b place y in
            let r : run_segment s.cells u a ≡ Waits b place = sym (ap (λ o. or_fails o (λ n. choose n (run_segment s.cells u a) (run_segment s.cells v a))) e) ∙ h in
            let z : nat_eq (suc n) 0 ≡ false = grind arith in
            subst P (sym (whole-run ∙ ap (λ n. cond (nat_eq n 0) (run width i.2 (run width i.0 x)) (run width i.1 (run width i.0 x))) (is-value (suc n) e)
            ∙ ap (λ b. cond b (run width i.2 (run width i.0 x)) (run width i.1 (run width i.0 x))) z)) (on_true r)
    segment-comes (Halt p n count) code i k a b place x fit sh h =
        let here : Place = record { number = n; left = count - 1 } in
        let ea : a ≡ b = waits-acting a b here place h in
        let ep : here ≡ place = waits-place a b here place h in
        let P : (ℕ → ℕ) → Type 0 = λ y. Comes s w q b place y in
        let Q : Acting → Type 0 = λ a. Comes s w q a place (run width (place_code w n (count - 1)) x) in
        let R : Place → Type 0 = λ l. Comes s w q a l (run width (place_code w n (count - 1)) x) in
        subst P (sym (ap (λ c. run width c x) i)) (subst Q ea (subst R ep (record {
          shows = shows-below s a x (run width (place_code w n (count - 1)) x) small (place-below w n (count - 1) x) sh;
          holds = place-holds w n (count - 1) x (numbers n count k.0) (lefts n count k.0) e f;
          fits = fit;
          stands = (count, k.0, let l = k.1 in omega arith);
        })))
    segment-comes Finish code i k a b place x fit sh h = absurd (cc)
