-- What holds of the parts of a runner.
use Rattle.std.proofs.Common.{◌≡◌, ◌<◌, ◌≤◌, ◌+◌, ℕ, zero, suc, nat_eq, Bool, true, false, not, ◌&&◌, cond, List, [], ◌∷◌, ◌++◌, ◌^◌, length, map, refl, sym, ap, ◌∙◌, subst, arith}
use Rattle.std.specs.Prelude.{slice_index, slice_get, Option, Some, None}
use Rattle.scc_bits_kinds.specs.declared.kind.Word.{Word}
use Rattle.scc_svtree.specs.declared.expr.VarId.{VarId}
use Rattle.scc_svtree.specs.declared.module.SvModule.{SvModule}
use Rattle.scc_svtree.specs.declared.module.SvVar.{SvVar}
use Rattle.scc_svtree.specs.declared.module.SvBlock.{SvBlock}
use Rattle.scc_svtree.specs.Code.{Code}
use Rattle.scc_svtree.specs.Variables.{width_at, word_at}
use Rattle.scc_svtree.specs.Settled.{combs_of, block_at}
use Rattle.scc_svtree.specs.Steps.{is_input, is_clock, input_at, or_old, with_inputs, SettlesTo}
use Rattle.scc_svtree.proofs.Combs.{are_combinational}
use Rattle.scc_svtree.proofs.Agree.{same_of_eq, eq_same}
use Rattle.std.proofs.lemmas.Bool.{ne_eqb}
use Rattle.scc_svrun.specs.Edged.{over, handed, AreHanded}
use Rattle.scc_svrun.specs.Runnable.{IsRunnable}
use Rattle.scc_svrun.specs.Runs.{IsRunner, inputs_from, inputs_of, given}
use Rattle.std.proofs.lemmas.Nat.{pow_pos}
use Rattle.scc_svrun.specs.Valued.{IsValuation}
use Rattle.scc_svrun.specs.Swept.{swept}
use Rattle.scc_svrun.proofs.Soundly.{comb_runs, sound_runs, placed_within}
use Rattle.scc_svrun.proofs.Sweeping.{swept_settles}

module _ (m : SvModule) (inputs : List VarId) (combs : List Code) (order : List ℕ) (words next : List Word) (r : IsRunner m inputs combs order words next) where
  pub within_by : (os : List ℕ) (n : ℕ) → os ≡ order → n ≡ length combs → (i : ℕ) → i < length os → slice_index os i < n
  within_by os n e f i l =
      let P : List ℕ → Type 0 = λ q. i < length q in
      let a : slice_index order i < length (combs_of m.blocks) = placed_within (combs_of m.blocks) order (λ _. false) r.ordered i (subst P e l) in
      let b : slice_index os i ≡ slice_index order i = ap (λ q. slice_index q i) e in
      let c : n ≡ length (combs_of m.blocks) = f ∙ ap length r.combs_are in
      omega (arith, a, b, c)

  pub runs_by : (cs : List Code) → cs ≡ combs → (k : ℕ) → k < length cs → IsRunnable (width_at m.vars) (block_at cs k)
  runs_by cs e k l =
      let g : cs ≡ combs_of m.blocks = e ∙ r.combs_are in
      let P : List Code → Type 0 = λ q. k < length q in
      let Q : List Code → Type 0 = λ q. IsRunnable (width_at m.vars) (block_at q k) in
      subst Q (sym g) (comb_runs (width_at m.vars) m.blocks k (sound_runs true m r.sound) (subst P g l))

  pub settles_by : (cs : List Code) (os : List ℕ) (x y : ℕ → ℕ) → cs ≡ combs → os ≡ order → y ≡ swept (width_at m.vars) cs os x → SettlesTo m x y
  settles_by cs os x y e f g =
      let h : y ≡ swept (width_at m.vars) (combs_of m.blocks) order x = g ∙ ap (λ q. swept (width_at m.vars) q os x) (e ∙ r.combs_are) ∙ ap (λ q. swept (width_at m.vars) (combs_of m.blocks) q x) f in
      let P : (ℕ → ℕ) → Type 0 = λ u. SettlesTo m x u in
      subst P (sym h) (swept_settles (width_at m.vars) (combs_of m.blocks) (are_combinational true m r.sound) x order r.ordered)

-- ---- inputs

-- only what is asked of these variables tells
pub inputs_agree : (p q : ℕ → Bool) (vs : List SvVar) (n : ℕ) → ((v : ℕ) → v < n + length vs → p v ≡ q v) → inputs_from n p vs ≡ inputs_from n q vs
inputs_agree p q [] n h = refl
inputs_agree p q (x ∷ xs) n h =
    ap (λ b. cond (is_input x.dir && not b) (record { 0 = n } ∷ inputs_from (n + 1) p xs) (inputs_from (n + 1) p xs)) (h n (omega arith))
    ∙ ap (λ l. cond (is_input x.dir && not (q n)) (record { 0 = n } ∷ l) l) (inputs_agree p q xs (n + 1) (λ v l. h v (omega (arith, l))))

module _ (width : ℕ → ℕ) (clocks : ℕ → Bool) where
  -- a word is there for an input from n on that is no clock, and for nothing else
  abbrev Tells : Bool → Option ℕ → Type 0
  Tells true None = ⊥
  Tells true (Some w) = Unit {0}
  Tells false None = Unit {0}
  Tells false (Some w) = ⊥

  below : (vs : List SvVar) (n v : ℕ) (ws : List Word) → v < n → handed (inputs_from n clocks vs) ws v ≡ None
  below [] n v ws h = refl
  below (x ∷ xs) n v ws h = go (λ us. below xs (n + 1) v us (omega arith)) (is_input x.dir && not (clocks n)) ws
    where
      go : ((us : List Word) → handed (inputs_from (n + 1) clocks xs) us v ≡ None) → (b : Bool) (ws : List Word) → handed (cond b (record { 0 = n } ∷ inputs_from (n + 1) clocks xs) (inputs_from (n + 1) clocks xs)) ws v ≡ None
      go r false ws = r ws
      go r true [] = refl
      go r true (w ∷ ws) = let e : nat_eq n v ≡ false = ne_eqb n v (λ q. absurd (omega (arith, q))) in rw e (r ws)

  tells : (vs : List SvVar) (n v : ℕ) (ws : List Word) → AreHanded width (inputs_from n clocks vs) ws → Tells (input_at vs v && not (clocks (n + v))) (handed (inputs_from n clocks vs) ws (n + v))
  tells [] n v ws h = tt
  tells (x ∷ xs) n zero ws h =
      let z : n ≡ n + 0 = omega arith in
      let P : ℕ → Type 0 = λ k. Tells (is_input x.dir && not (clocks k)) (handed (inputs_from n clocks (x ∷ xs)) ws k) in
      subst P z (first (is_input x.dir && not (clocks n)) ws h)
    where
      first : (b : Bool) (ws : List Word) → AreHanded width (cond b (record { 0 = n } ∷ inputs_from (n + 1) clocks xs) (inputs_from (n + 1) clocks xs)) ws → Tells b (handed (cond b (record { 0 = n } ∷ inputs_from (n + 1) clocks xs) (inputs_from (n + 1) clocks xs)) ws n)
      first true [] h = h
      first true (w ∷ ws) h = rw (eq_same n) tt
      first false ws h = rw (below xs (n + 1) n ws (omega arith)) tt
  tells (x ∷ xs) n (suc v) ws h = later (λ us k. tells xs (n + 1) v us k) (is_input x.dir && not (clocks n)) ws h
    where
      same : n + suc v ≡ n + 1 + v
      same = omega arith

      rest : ((us : List Word) → AreHanded width (inputs_from (n + 1) clocks xs) us → Tells (input_at xs v && not (clocks (n + 1 + v))) (handed (inputs_from (n + 1) clocks xs) us (n + 1 + v)))
          → (ws : List Word) → AreHanded width (inputs_from (n + 1) clocks xs) ws → Tells (input_at xs v && not (clocks (n + suc v))) (handed (inputs_from (n + 1) clocks xs) ws (n + suc v))
      rest r ws h = let P : ℕ → Type 0 = λ k. Tells (input_at xs v && not (clocks k)) (handed (inputs_from (n + 1) clocks xs) ws k) in subst P (sym same) (r ws h)

      later : ((us : List Word) → AreHanded width (inputs_from (n + 1) clocks xs) us → Tells (input_at xs v && not (clocks (n + 1 + v))) (handed (inputs_from (n + 1) clocks xs) us (n + 1 + v)))
          → (b : Bool) (ws : List Word) → AreHanded width (cond b (record { 0 = n } ∷ inputs_from (n + 1) clocks xs) (inputs_from (n + 1) clocks xs)) ws
          → Tells (input_at xs v && not (clocks (n + suc v))) (handed (cond b (record { 0 = n } ∷ inputs_from (n + 1) clocks xs) (inputs_from (n + 1) clocks xs)) ws (n + suc v))
      later r false ws h = rest r ws h
      later r true [] h = absurd h
      later r true (w ∷ ws) h = let e : nat_eq n (n + suc v) ≡ false = ne_eqb n (n + suc v) (λ q. absurd (omega (arith, q))) in rw e (rest r ws h.2)

  pub hands : (vs : List SvVar) (ws : List Word) (x : ℕ → ℕ) → AreHanded width (inputs_from 0 clocks vs) ws
      → over (handed (inputs_from 0 clocks vs) ws) x ≡ (λ v. cond (input_at vs v && not (clocks v)) (or_old (handed (inputs_from 0 clocks vs) ws v) 0) (x v))
  hands vs ws x h = λ i v. at v i
    where
      go : (b : Bool) (o : Option ℕ) (y : ℕ) → Tells b o → or_old o y ≡ cond b (or_old o 0) y
      go true None y t = absurd t
      go true (Some w) y t = refl
      go false None y t = refl
      go false (Some w) y t = absurd t

      at : (v : ℕ) → or_old (handed (inputs_from 0 clocks vs) ws v) (x v) ≡ cond (input_at vs v && not (clocks v)) (or_old (handed (inputs_from 0 clocks vs) ws v) 0) (x v)
      at v =
          let P : ℕ → Type 0 = λ k. Tells (input_at vs v && not (clocks k)) (handed (inputs_from 0 clocks vs) ws k) in
          let z : 0 + v ≡ v = omega arith in
          go (input_at vs v && not (clocks v)) (handed (inputs_from 0 clocks vs) ws v) (x v) (subst P z (tells vs 0 v ws h))

-- ---- words that are 0

pub none_zero : (v : ℕ) → word_at [] v ≡ 0
none_zero v = refl

pub more_zero : (xs : List Word) → ((v : ℕ) → word_at xs v ≡ 0) → (v : ℕ) → word_at (xs ++ record { bits = 0 } ∷ []) v ≡ 0
more_zero [] h zero = refl
more_zero [] h (suc v) = refl
more_zero (x ∷ xs) h zero = h 0
more_zero (x ∷ xs) h (suc v) = more_zero xs (λ u. h (suc u)) v

pub zero_fits : (vars : List SvVar) (x : List Word) → ((v : ℕ) → word_at x v ≡ 0) → length x ≡ length vars → IsValuation vars x
zero_fits vars x h l = record { fits = λ i. let P : ℕ → Type 0 = λ n. n < 2 ^ width_at vars i in subst P (sym (h i)) (pow_pos (width_at vars i)); whole = l }
