-- What code behind other code leaves, and what assignments leave.
use Rattle.std.proofs.Common.{◌≡◌, ◌<◌, ◌^◌, ℕ, nat_eq, Bool, true, false, cond, max, refl, sym, ap, ◌∙◌, subst, arith}
use Rattle.std.specs.Prelude.{pos}
use Rattle.scc_bits_kinds.specs.Numbers.{low}
use Rattle.scc_bits_kinds.proofs.Low.{low_word}
use Rattle.scc_svtree.specs.Code.{Code, End, Assign, If, Case}
use Rattle.scc_svtree.specs.Running.{run, run_arms, after_assign, updated}
use Rattle.scc_svtree.specs.Sizes.{Sized, sized, value_of, assigned, fixed}
use Rattle.scc_svtree.specs.Term.{Part}
use Rattle.scc_svtree.proofs.Agree.{eq_flip}
use Rattle.scc_lower_spec.specs.Gives.{Gives}
use Rattle.scc_lower_spec.proofs.Gives.{gives_fixed}
use Rattle.scc_lower_laws.specs.Sequence.{whole, then_code}

pub then-run : (width : ℕ → ℕ) (c d : Code) (x : ℕ → ℕ) → run width (then_code c d) x ≡ run width d (run width c x)
then-run width End d x = refl
then-run width (Assign l e r) d x = then-run width r d (after_assign width l e x)
then-run width (If c a b r) d x = then-run width r d (cond (nat_eq (value_of width x c) 0) (run width b x) (run width a x))
then-run width (Case e arms r) d x = then-run width r d (run_arms width (value_of width x e) arms x)

pub not_flip : (u v : ℕ) → nat_eq u v ≡ false → nat_eq v u ≡ false
not_flip u v h = go (nat_eq v u) refl
  where
    go : (b : Bool) → nat_eq v u ≡ b → nat_eq v u ≡ false
    go false e = e
    go true e = let t : nat_eq u v ≡ true = eq_flip v u e in absurd (cc)

pub updated-same : (v u w : ℕ) (x : ℕ → ℕ) → nat_eq v u ≡ true → updated v w x u ≡ w
updated-same v u w x h = ap (λ b. cond b w (x u)) (eq_flip v u h)

pub updated-other : (v u w : ℕ) (x : ℕ → ℕ) → nat_eq v u ≡ false → updated v w x u ≡ x u
updated-other v u w x h = ap (λ b. cond b w (x u)) (not_flip v u h)

-- what gives a word that fits is assigned as that word
pub gives-assigned : (e : Sized) (w n : ℕ) → n < 2 ^ w → Gives false e w n → assigned w e ≡ n
gives-assigned e w n l g =
    let m : max w e.len ≡ w = ap (λ k. max w k) g.0 ∙ omega arith in
    (λ i. low w (pos (e.word (m i) (g.1 i)))) ∙ ap (λ k. low w (pos k)) g.2 ∙ low_word w n l

-- a variable gives its word
pub variable-gives : (width x : ℕ → ℕ) (v w n : ℕ) → width v ≡ w → x v ≡ n → n < 2 ^ w → Gives false (sized false width x (Part (whole v))) w n
variable-gives width x v w n e f l =
    let P : ℕ → Type 0 = λ m. Gives false (fixed (width v) false m) w n in
    let Q : ℕ → Type 0 = λ k. Gives false (fixed k false n) w n in
    subst P (sym f) (subst Q (sym e) (gives_fixed false w n l))
