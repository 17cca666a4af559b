-- What expressions and code give depends only on the variables that they mention.
use Rattle.std.proofs.Common.{◌≡◌, ℕ, nat_eq, Bool, true, false, ◌||◌, cond, refl, ap, ◌∙◌, subst, eq-eqb}
use borrow.Author.Tests.{eqb-true}
use Rattle.scc_svtree.specs.declared.expr.SvLeft.{SvLeft}
use Rattle.scc_svtree.specs.declared.expr.SvLeft.TheVariants.{Whole, Bit, Range}
use Rattle.scc_svtree.specs.Term.{Term, Literal, Part, Unary, Binary, Cond, Join, Cast, Sign}
use Rattle.scc_svtree.specs.Sizes.{sized, sized_left, sized_unary, sized_binary, sized_cond, sized_join, sized_cast, sized_sign, value_of, assigned, own}
use Rattle.scc_svtree.specs.Code.{Code, End, Assign, If, Case, Arms, None, Arm}
use Rattle.scc_svtree.specs.Running.{run, run_arms, var_of, left_width, replaced, updated, after_assign}
use Rattle.scc_svtree.specs.Mentions.{reads, code_reads, arms_read, assigns, arms_assign}
use Rattle.scc_svtree.specs.Fresh.{Among}

abbrev pub Agree : (ℕ → Bool) → (ℕ → ℕ) → (ℕ → ℕ) → Type 0
Agree p x y = (v : ℕ) → p v ≡ true → x v ≡ y v

pub or_first : (a b : Bool) → a ≡ true → (a || b) ≡ true
or_first true b h = refl
or_first false b h = absurd (cc)

pub or_second : (a b : Bool) → b ≡ true → (a || b) ≡ true
or_second true b h = refl
or_second false b h = h

pub or_both_false : (a b : Bool) → (a || b) ≡ false → (a ≡ false) × (b ≡ false)
or_both_false true b h = absurd (cc)
or_both_false false b h = (refl, h)

pub eq_same : (n : ℕ) → nat_eq n n ≡ true
eq_same n = eq-eqb n n refl

module _ (width x y : ℕ → ℕ) where
  pub left_agrees : (l : SvLeft) → Agree (λ v. nat_eq (var_of l) v) x y → sized_left width x l ≡ sized_left width y l
  left_agrees (Whole v) h = ap (λ w. sized_left width (λ _. w) (Whole v)) (h v.0 (eq_same v.0))
  left_agrees (Bit v at) h = ap (λ w. sized_left width (λ _. w) (Bit v at)) (h v.0 (eq_same v.0))
  left_agrees (Range v i j) h = ap (λ w. sized_left width (λ _. w) (Range v i j)) (h v.0 (eq_same v.0))

  pub term_agrees : (t : Term) → Agree (reads t) x y → sized false width x t ≡ sized false width y t
  term_agrees (Literal w v) h = refl
  term_agrees (Part l) h = left_agrees l h
  term_agrees (Unary o a) h = ap (λ s. sized_unary o s) (term_agrees a h)
  term_agrees (Binary o a b) h =
      ap (λ s. sized_binary o s (sized false width x b)) (term_agrees a (λ v e. h v (or_first (reads a v) (reads b v) e)))
      ∙ ap (λ s. sized_binary o (sized false width y a) s) (term_agrees b (λ v e. h v (or_second (reads a v) (reads b v) e)))
  term_agrees (Cond c a b) h =
      ap (λ s. sized_cond s (sized false width x a) (sized false width x b)) (term_agrees c (λ v e. h v (or_first (reads c v) (reads a v || reads b v) e)))
      ∙ ap (λ s. sized_cond (sized false width y c) s (sized false width x b)) (term_agrees a (λ v e. h v (or_second (reads c v) (reads a v || reads b v) (or_first (reads a v) (reads b v) e))))
      ∙ ap (λ s. sized_cond (sized false width y c) (sized false width y a) s) (term_agrees b (λ v e. h v (or_second (reads c v) (reads a v || reads b v) (or_second (reads a v) (reads b v) e))))
  term_agrees (Join a b) h =
      ap (λ s. sized_join s (sized false width x b)) (term_agrees a (λ v e. h v (or_first (reads a v) (reads b v) e)))
      ∙ ap (λ s. sized_join (sized false width y a) s) (term_agrees b (λ v e. h v (or_second (reads a v) (reads b v) e)))
  term_agrees (Cast w e) h = ap (λ s. sized_cast false w s) (term_agrees e h)
  term_agrees (Sign t e) h = ap (λ s. sized_sign t s) (term_agrees e h)

pub same_of_eq : (u v : ℕ) → nat_eq u v ≡ true → u ≡ v
same_of_eq u v h = eqb-true u v h

pub eq_flip : (u v : ℕ) → nat_eq u v ≡ true → nat_eq v u ≡ true
eq_flip u v h = let e : u ≡ v = same_of_eq u v h in let P : ℕ → Type 0 = λ n. nat_eq n u ≡ true in subst P e (eq_same u)

-- two updated valuations agree where the words do and, elsewhere, the valuations do
pub updated_agrees : (v w w' : ℕ) (x y : ℕ → ℕ) (u : ℕ) → w ≡ w' → (nat_eq u v ≡ false → x u ≡ y u) → updated v w x u ≡ updated v w' y u
updated_agrees v w w' x y u e h = go (nat_eq u v) refl
  where
    go : (b : Bool) → nat_eq u v ≡ b → cond (nat_eq u v) w (x u) ≡ cond (nat_eq u v) w' (y u)
    go true k = rw k e
    go false k = rw k (h k)

module _ (width : ℕ → ℕ) where
  pub assign_agrees : (p : ℕ → Bool) (l : SvLeft) (e : Term) (x y : ℕ → ℕ) → Among (reads e) p → p (var_of l) ≡ true → Agree p x y → Agree p (after_assign width l e x) (after_assign width l e y)
  assign_agrees p l e x y r k h u m =
      let s : sized false width x e ≡ sized false width y e = term_agrees width x y e (λ v q. h v (r v q)) in
      updated_agrees (var_of l) _ _ x y u
      (ap (λ t. replaced l (assigned (left_width width l) t) (x (var_of l))) s ∙ ap (λ o. replaced l (assigned (left_width width l) (sized false width y e)) o) (h (var_of l) k))
      (λ _. h u m)

  pub choice_agrees : (p : ℕ → Bool) (a b : Bool) (x₁ x₂ y₁ y₂ : ℕ → ℕ) → a ≡ b → Agree p x₁ y₁ → Agree p x₂ y₂ → Agree p (cond a x₁ x₂) (cond b y₁ y₂)
  choice_agrees p true true x₁ x₂ y₁ y₂ e h k = h
  choice_agrees p false false x₁ x₂ y₁ y₂ e h k = k
  choice_agrees p true false x₁ x₂ y₁ y₂ e h k = absurd (cc)
  choice_agrees p false true x₁ x₂ y₁ y₂ e h k = absurd (cc)

  value_agrees : (p : ℕ → Bool) (t : Term) (x y : ℕ → ℕ) → Among (reads t) p → Agree p x y → value_of width x t ≡ value_of width y t
  value_agrees p t x y r h = ap own (term_agrees width x y t (λ v q. h v (r v q)))

  mutual
    pub run_agrees : (c : Code) (p : ℕ → Bool) (x y : ℕ → ℕ) → Among (code_reads c) p → Among (assigns c) p → Agree p x y → Agree p (run width c x) (run width c y)
    run_agrees End p x y r a h = h
    run_agrees (Assign l e rest) p x y r a h =
        run_agrees rest p (after_assign width l e x) (after_assign width l e y) (λ v q. r v (or_second (reads e v) (code_reads rest v) q)) (λ v q. a v (or_second (nat_eq (var_of l) v) (assigns rest v) q))
        (assign_agrees p l e x y (λ v q. r v (or_first (reads e v) (code_reads rest v) q)) (a (var_of l) (or_first (nat_eq (var_of l) (var_of l)) (assigns rest (var_of l)) (eq_same (var_of l)))) h)
    run_agrees (If c s t rest) p x y r a h =
        let rc : (v : ℕ) → (reads c v || (code_reads s v || code_reads t v)) ≡ true → p v ≡ true = λ v q. r v (or_first (reads c v || (code_reads s v || code_reads t v)) (code_reads rest v) q) in
        let ac : (v : ℕ) → (assigns s v || assigns t v) ≡ true → p v ≡ true = λ v q. a v (or_first (assigns s v || assigns t v) (assigns rest v) q) in
        let n : value_of width x c ≡ value_of width y c = value_agrees p c x y (λ v q. rc v (or_first (reads c v) (code_reads s v || code_reads t v) q)) h in
        let hs : Agree p (run width s x) (run width s y) = run_agrees s p x y (λ v q. rc v (or_second (reads c v) (code_reads s v || code_reads t v) (or_first (code_reads s v) (code_reads t v) q))) (λ v q. ac v (or_first (assigns s v) (assigns t v) q)) h in
        let ht : Agree p (run width t x) (run width t y) = run_agrees t p x y (λ v q. rc v (or_second (reads c v) (code_reads s v || code_reads t v) (or_second (code_reads s v) (code_reads t v) q))) (λ v q. ac v (or_second (assigns s v) (assigns t v) q)) h in
        run_agrees rest p _ _ (λ v q. r v (or_second (reads c v || (code_reads s v || code_reads t v)) (code_reads rest v) q)) (λ v q. a v (or_second (assigns s v || assigns t v) (assigns rest v) q))
        (choice_agrees p (nat_eq (value_of width x c) 0) (nat_eq (value_of width y c) 0) (run width t x) (run width s x) (run width t y) (run width s y) (ap (λ k. nat_eq k 0) n) ht hs)
    run_agrees (Case e arms rest) p x y r a h =
        let n : value_of width x e ≡ value_of width y e = value_agrees p e x y (λ v q. r v (or_first (reads e v || arms_read arms v) (code_reads rest v) (or_first (reads e v) (arms_read arms v) q))) h in
        run_agrees rest p _ _ (λ v q. r v (or_second (reads e v || arms_read arms v) (code_reads rest v) q)) (λ v q. a v (or_second (arms_assign arms v) (assigns rest v) q))
        (arms_agree arms (value_of width x e) (value_of width y e) p x y n (λ v q. r v (or_first (reads e v || arms_read arms v) (code_reads rest v) (or_second (reads e v) (arms_read arms v) q))) (λ v q. a v (or_first (arms_assign arms v) (assigns rest v) q)) h)

    pub arms_agree : (arms : Arms) (m n : ℕ) (p : ℕ → Bool) (x y : ℕ → ℕ) → m ≡ n → Among (arms_read arms) p → Among (arms_assign arms) p → Agree p x y → Agree p (run_arms width m arms x) (run_arms width n arms y)
    arms_agree None m n p x y e r a h = h
    arms_agree (Arm w label body more) m n p x y e r a h =
        choice_agrees p (nat_eq m label) (nat_eq n label) (run width body x) (run_arms width m more x) (run width body y) (run_arms width n more y) (ap (λ k. nat_eq k label) e)
        (run_agrees body p x y (λ v q. r v (or_first (code_reads body v) (arms_read more v) q)) (λ v q. a v (or_first (assigns body v) (arms_assign more v) q)) h)
        (arms_agree more m n p x y e (λ v q. r v (or_second (code_reads body v) (arms_read more v) q)) (λ v q. a v (or_second (assigns body v) (arms_assign more v) q)) h)
