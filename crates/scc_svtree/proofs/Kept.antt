-- What code leaves as it is, and what a fresh block gives.
use Rattle.std.proofs.Common.{◌≡◌, ℕ, nat_eq, Bool, true, false, not, ◌||◌, ◌&&◌, cond, refl, ap, ◌∙◌, subst}
use Rattle.std.proofs.lemmas.Bool.{and_parts, and_from}
use Rattle.scc_svtree.specs.declared.expr.SvLeft.{SvLeft}
use Rattle.scc_svtree.specs.declared.expr.SvLeft.TheVariants.{Whole, Bit, Range}
use Rattle.scc_svtree.specs.Term.{Term}
use Rattle.scc_svtree.specs.Sizes.{sized, value_of, assigned}
use Rattle.scc_svtree.specs.Code.{Code, End, Assign, If, Case, Arms, None, Arm}
use Rattle.scc_svtree.specs.Running.{run, run_arms, var_of, left_width, replaced, after_assign}
use Rattle.scc_svtree.specs.Mentions.{reads, code_reads, arms_read, assigns, arms_assign}
use Rattle.scc_svtree.specs.Fresh.{Among, ready_after, left_needs, StartsReady, IsFresh}
use Rattle.scc_svtree.proofs.Agree.{Agree, or_first, or_second, or_both_false, eq_same, same_of_eq, updated_agrees, term_agrees, run_agrees}

-- the variables in question are compared from both sides
flipped : (u v : ℕ) → nat_eq u v ≡ false → nat_eq v u ≡ false
flipped u v h = go (nat_eq v u) refl
  where
    go : (b : Bool) → nat_eq v u ≡ b → nat_eq v u ≡ false
    go false e = e
    go true e = let s : v ≡ u = same_of_eq v u e in let P : ℕ → Type 0 = λ n. nat_eq n v ≡ true in let t : nat_eq u v ≡ true = subst P s (eq_same v) in absurd (cc)

choice_keeps : (b : Bool) (y z x : ℕ → ℕ) (v : ℕ) → y v ≡ x v → z v ≡ x v → cond b y z v ≡ x v
choice_keeps true y z x v h k = h
choice_keeps false y z x v h k = k

module _ (width : ℕ → ℕ) where
  mutual
    -- what code doesn't assign stays
    pub run_keeps : (c : Code) (x : ℕ → ℕ) (v : ℕ) → assigns c v ≡ false → run width c x v ≡ x v
    run_keeps End x v h = refl
    run_keeps (Assign l e rest) x v h =
        let p = or_both_false (nat_eq (var_of l) v) (assigns rest v) h in
        run_keeps rest (after_assign width l e x) v p.1 ∙ ap (λ b. cond b (replaced l (assigned (left_width width l) (sized false width x e)) (x (var_of l))) (x v)) (flipped (var_of l) v p.0)
    run_keeps (If c s t rest) x v h =
        let p = or_both_false (assigns s v || assigns t v) (assigns rest v) h in
        let q = or_both_false (assigns s v) (assigns t v) p.0 in
        run_keeps rest _ v p.1 ∙ choice_keeps (nat_eq (value_of width x c) 0) (run width t x) (run width s x) x v (run_keeps t x v q.1) (run_keeps s x v q.0)
    run_keeps (Case e arms rest) x v h =
        let p = or_both_false (arms_assign arms v) (assigns rest v) h in
        run_keeps rest _ v p.1 ∙ arms_keep arms (value_of width x e) x v p.0

    pub arms_keep : (arms : Arms) (m : ℕ) (x : ℕ → ℕ) (v : ℕ) → arms_assign arms v ≡ false → run_arms width m arms x v ≡ x v
    arms_keep None m x v h = refl
    arms_keep (Arm w label body more) m x v h =
        let p = or_both_false (assigns body v) (arms_assign more v) h in
        choice_keeps (nat_eq m label) (run width body x) (run_arms width m more x) x v (run_keeps body x v p.0) (arms_keep more m x v p.1)

-- what is ready behind the code
abbrev final : Code → (ℕ → Bool) → ℕ → Bool
final End ready = ready
final (Assign l e rest) ready = final rest (ready_after l ready)
final (If c s t rest) ready = final rest ready
final (Case e arms rest) ready = final rest ready

after_grows : (l : SvLeft) (ready : ℕ → Bool) (v : ℕ) → ready v ≡ true → ready_after l ready v ≡ true
after_grows (Whole u) ready v h = or_second (nat_eq u.0 v) (ready v) h
after_grows (Bit u at) ready v h = h
after_grows (Range u i j) ready v h = h

final_grows : (c : Code) (ready : ℕ → Bool) (v : ℕ) → ready v ≡ true → final c ready v ≡ true
final_grows End ready v h = h
final_grows (Assign l e rest) ready v h = final_grows rest (ready_after l ready) v (after_grows l ready v h)
final_grows (If c s t rest) ready v h = final_grows rest ready v h
final_grows (Case e arms rest) ready v h = final_grows rest ready v h

or_cases : {P : Type 0} (a b : Bool) → (a || b) ≡ true → (a ≡ true → P) → (b ≡ true → P) → P
or_cases true b h f g = f refl
or_cases false b h f g = g h

left_ready : (l : SvLeft) (ready : ℕ → Bool) (v : ℕ) → Among (left_needs l) ready → nat_eq (var_of l) v ≡ true → ready_after l ready v ≡ true
left_ready (Whole u) ready v n h = or_first (nat_eq u.0 v) (ready v) h
left_ready (Bit u at) ready v n h = n v h
left_ready (Range u i j) ready v n h = n v h

-- what is assigned is ready in the end
assigned_final : (c : Code) (ready : ℕ → Bool) (v : ℕ) → StartsReady ready c → assigns c v ≡ true → final c ready v ≡ true
assigned_final End ready v s h = absurd (cc)
assigned_final (Assign l e rest) ready v s h =
    or_cases (nat_eq (var_of l) v) (assigns rest v) h
    (λ q. final_grows rest (ready_after l ready) v (left_ready l ready v s.1 q))
    (λ q. assigned_final rest (ready_after l ready) v s.2 q)
assigned_final (If c a b rest) ready v s h =
    or_cases (assigns a v || assigns b v) (assigns rest v) h
    (λ q. final_grows rest ready v (or_cases (assigns a v) (assigns b v) q (λ k. s.2 v k) (λ k. s.4 v k)))
    (λ q. assigned_final rest ready v s.5 q)
assigned_final (Case e arms rest) ready v s h =
    or_cases (arms_assign arms v) (assigns rest v) h (λ q. final_grows rest ready v (s.2 v q)) (λ q. assigned_final rest ready v s.3 q)

-- the tests of both
abbrev pub meet : (ℕ → Bool) → (ℕ → Bool) → ℕ → Bool
meet p q v = p v && q v

module _ (width : ℕ → ℕ) (rel : ℕ → Bool) where
  into : (p ready : ℕ → Bool) → Among p ready → Among p rel → Among p (meet ready rel)
  into p ready h k v e = and_from (ready v) (rel v) (h v e) (k v e)

  assign_ready : (l : SvLeft) (e : Term) (ready : ℕ → Bool) (x y : ℕ → ℕ) → Among (reads e) ready → Among (reads e) rel → Among (left_needs l) ready → rel (var_of l) ≡ true
      → Agree (meet ready rel) x y → Agree (meet (ready_after l ready) rel) (after_assign width l e x) (after_assign width l e y)
  assign_ready l e ready x y r k n m h u q =
      let s : sized false width x e ≡ sized false width y e = term_agrees width x y e (λ v w. h v (into (reads e) ready r k v w)) in
      updated_agrees (var_of l) _ _ x y u (words l s n m) (elsewhere l q)
    where
      words : (l : SvLeft) → sized false width x e ≡ sized false width y e → Among (left_needs l) ready → rel (var_of l) ≡ true
          → replaced l (assigned (left_width width l) (sized false width x e)) (x (var_of l)) ≡ replaced l (assigned (left_width width l) (sized false width y e)) (y (var_of l))
      words (Whole v) s n m = ap (λ t. assigned (width v.0) t) s
      words (Bit v at) s n m = ap (λ t. replaced (Bit v at) (assigned 1 t) (x v.0)) s ∙ ap (λ o. replaced (Bit v at) (assigned 1 (sized false width y e)) o) (h v.0 (and_from (ready v.0) (rel v.0) (n v.0 (eq_same v.0)) m))
      words (Range v i j) s n m = ap (λ t. replaced (Range v i j) (assigned (left_width width (Range v i j)) t) (x v.0)) s ∙ ap (λ o. replaced (Range v i j) (assigned (left_width width (Range v i j)) (sized false width y e)) o) (h v.0 (and_from (ready v.0) (rel v.0) (n v.0 (eq_same v.0)) m))

      elsewhere : (l : SvLeft) → meet (ready_after l ready) rel u ≡ true → nat_eq u (var_of l) ≡ false → x u ≡ y u
      elsewhere (Whole v) q ne =
          let p = and_parts (nat_eq v.0 u || ready u) (rel u) q in
          or_cases (nat_eq v.0 u) (ready u) p.0 (λ b. let c = flipped u v.0 ne in absurd (cc)) (λ b. h u (and_from (ready u) (rel u) b p.1))
      elsewhere (Bit v at) q ne = h u q
      elsewhere (Range v i j) q ne = h u q

  pub fresh_agrees : (c : Code) (ready : ℕ → Bool) (x y : ℕ → ℕ) → StartsReady ready c → Among (code_reads c) rel → Among (assigns c) rel → Agree (meet ready rel) x y → Agree (meet (final c ready) rel) (run width c x) (run width c y)
  fresh_agrees End ready x y s r a h = h
  fresh_agrees (Assign l e rest) ready x y s r a h =
      fresh_agrees rest (ready_after l ready) (after_assign width l e x) (after_assign width l e y) s.2 (λ v q. r v (or_second (reads e v) (code_reads rest v) q)) (λ v q. a v (or_second (nat_eq (var_of l) v) (assigns rest v) q))
      (assign_ready l e ready x y s.0 (λ v q. r v (or_first (reads e v) (code_reads rest v) q)) s.1 (a (var_of l) (or_first (nat_eq (var_of l) (var_of l)) (assigns rest (var_of l)) (eq_same (var_of l)))) h)
  fresh_agrees (If c s₁ t rest) ready x y s r a h =
      fresh_agrees rest ready _ _ s.5 (λ v q. r v (or_second (reads c v || (code_reads s₁ v || code_reads t v)) (code_reads rest v) q)) (λ v q. a v (or_second (assigns s₁ v || assigns t v) (assigns rest v) q))
      (run_agrees width (If c s₁ t End) (meet ready rel) x y (λ v q. into (λ v. reads c v || (code_reads s₁ v || code_reads t v)) ready (λ v k. or_cases (reads c v) (code_reads s₁ v || code_reads t v) k (λ d. s.0 v d) (λ d. or_cases (code_reads s₁ v) (code_reads t v) d (λ f. s.1 v f) (λ f. s.3 v f))) (λ v k. r v (or_first (reads c v || (code_reads s₁ v || code_reads t v)) (code_reads rest v) k)) v (or_cases (reads c v || (code_reads s₁ v || code_reads t v)) false q (λ k. k) (λ k. absurd (cc))))
      (λ v q. into (λ v. assigns s₁ v || assigns t v) ready (λ v k. or_cases (assigns s₁ v) (assigns t v) k (λ f. s.2 v f) (λ f. s.4 v f)) (λ v k. a v (or_first (assigns s₁ v || assigns t v) (assigns rest v) k)) v (or_cases (assigns s₁ v || assigns t v) false q (λ k. k) (λ k. absurd (cc)))) h)
  fresh_agrees (Case e arms rest) ready x y s r a h =
      fresh_agrees rest ready _ _ s.3 (λ v q. r v (or_second (reads e v || arms_read arms v) (code_reads rest v) q)) (λ v q. a v (or_second (arms_assign arms v) (assigns rest v) q))
      (run_agrees width (Case e arms End) (meet ready rel) x y (λ v q. into (λ v. reads e v || arms_read arms v) ready (λ v k. or_cases (reads e v) (arms_read arms v) k (λ d. s.0 v d) (λ d. s.1 v d)) (λ v k. r v (or_first (reads e v || arms_read arms v) (code_reads rest v) k)) v (or_cases (reads e v || arms_read arms v) false q (λ k. k) (λ k. absurd (cc))))
      (λ v q. into (arms_assign arms) ready (λ v k. s.2 v k) (λ v k. a v (or_first (arms_assign arms v) (assigns rest v) k)) v (or_cases (arms_assign arms v) false q (λ k. k) (λ k. absurd (cc)))) h)

-- what a fresh block gives to a variable that it assigns depends only on what it reads and doesn't assign
pub fresh_result : (width : ℕ → ℕ) (c : Code) (x y : ℕ → ℕ) → IsFresh c → ((v : ℕ) → code_reads c v ≡ true → assigns c v ≡ false → x v ≡ y v) → (v : ℕ) → assigns c v ≡ true → run width c x v ≡ run width c y v
fresh_result width c x y f h v a =
    fresh_agrees width (λ u. code_reads c u || assigns c u) c (λ u. not (assigns c u)) x y f (λ u q. or_first (code_reads c u) (assigns c u) q) (λ u q. or_second (code_reads c u) (assigns c u) q)
    (λ u q. let p = and_parts (not (assigns c u)) (code_reads c u || assigns c u) q in start u (assigns c u) refl p.0 p.1)
    v (and_from (final c (λ u. not (assigns c u)) v) (code_reads c v || assigns c v) (assigned_final c (λ u. not (assigns c u)) v f a) (or_second (code_reads c v) (assigns c v) a))
  where
    start : (u : ℕ) (b : Bool) → assigns c u ≡ b → not (assigns c u) ≡ true → (code_reads c u || assigns c u) ≡ true → x u ≡ y u
    start u true e n m = let P : Bool → Type 0 = λ t. not t ≡ true in let z : not true ≡ true = subst P e n in absurd (cc)
    start u false e n m = or_cases (code_reads c u) (assigns c u) m (λ r. h u r e) (λ k. absurd (cc))
