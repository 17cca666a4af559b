-- What a module without faults gives a runner.
use Rattle.std.proofs.Common.{◌≡◌, ◌<◌, ◌≤◌, ◌+◌, ℕ, zero, suc, nat_eq, Bool, true, false, ◌||◌, cond, List, [], ◌∷◌, ◌++◌, length, take, drop, map, refl, sym, ap, ◌∙◌, subst, arith}
use Rattle.std.specs.Prelude.{slice_index, Option, Some, None}
use Rattle.std.proofs.lemmas.Bool.{or_left, or_right}
use Rattle.scc_svtree.specs.declared.module.SvModule.{SvModule}
use Rattle.scc_svtree.specs.declared.module.SvVar.{SvVar}
use Rattle.scc_svtree.specs.declared.module.SvSet.{SvSet}
use Rattle.scc_svtree.specs.declared.module.SvLoad.{SvLoad}
use Rattle.scc_svtree.specs.declared.module.SvReset.{SvReset}
use Rattle.scc_svtree.specs.declared.module.SvBlock.{SvBlock}
use Rattle.scc_svtree.specs.declared.module.SvBlock.TheVariants.{Comb, Edge}
use Rattle.scc_svtree.specs.Code as code
use Rattle.scc_svtree.specs.Code.{Code, Arms, code_of}
use Rattle.scc_svtree.specs.Variables.{width_at, IsWidth}
use Rattle.scc_svtree.specs.Settled.{combs_of, block_at}
use Rattle.scc_svtree.specs.Sound.{Each, IsSound, IsSizedCode, AreSizedArms, AreSizedSets, AreSizedLoads, IsSizedBlock, is_among, targets, load_targets, loads_of, block_names, sets_read}
use Rattle.scc_svtree.proofs.Agree.{eq_same, or_first, or_second}
use Rattle.scc_svtree_order.specs.Schedule.{Placed, IsSchedule}
use Rattle.scc_svrun.specs.Runnable.{IsRunnable, AreRunnable, AreSettable, AreLoadable, IsRunnableBlock, AreRunnableBlocks}

third : (a b c d : Bool) → c ≡ true → (a || b || c || d) ≡ true
third a b c d h = rw h (ors a b d)
  where
    ors : (a b d : Bool) → (a || b || true || d) ≡ true
    ors true true true = refl
    ors true true false = refl
    ors true false true = refl
    ors true false false = refl
    ors false true true = refl
    ors false true false = refl
    ors false false true = refl
    ors false false false = refl

second : (a b c d : Bool) → b ≡ true → (a || b || c || d) ≡ true
second a b c d h = rw h (ors a c d)
  where
    ors : (a b d : Bool) → (a || true || b || d) ≡ true
    ors true true true = refl
    ors true true false = refl
    ors true false true = refl
    ors true false false = refl
    ors false true true = refl
    ors false true false = refl
    ors false false true = refl
    ors false false false = refl

module _ (width : ℕ → ℕ) where
  mutual
    code_runs : (c : Code) → IsSizedCode width c → IsRunnable width c
    code_runs code.End h = tt
    code_runs (code.Assign l e rest) h = (h.0, h.1, code_runs rest h.2)
    code_runs (code.If c s t rest) h = (h.0, code_runs s h.1, code_runs t h.2, code_runs rest h.3)
    code_runs (code.Case e arms rest) h = (h.0, arms_run arms _ h.1, code_runs rest h.3)

    arms_run : (arms : Arms) (n : ℕ) → AreSizedArms width n arms → AreRunnable width arms
    arms_run code.None n h = tt
    arms_run (code.Arm w label body more) n h = (code_runs body h.2, arms_run more n h.3)

  sets_run : (ss : List SvSet) → AreSizedSets width ss → ((v : ℕ) → is_among (targets ss) v ≡ true → IsWidth (width v)) → AreSettable width ss
  sets_run [] h k = tt
  sets_run (s ∷ ss) h k = (k s.target.0 (or_first (nat_eq s.target.0 s.target.0) (is_among (targets ss) s.target.0) (eq_same s.target.0)), h.0, sets_run ss h.1 (λ v e. k v (or_second (nat_eq s.target.0 v) (is_among (targets ss) v) e)))

  loads_run : (ls : List SvLoad) → AreSizedLoads width ls → ((v : ℕ) → is_among (load_targets ls) v ≡ true → IsWidth (width v)) → AreLoadable width ls
  loads_run [] h k = tt
  loads_run (l ∷ ls) h k = (k l.target.0 (or_first (nat_eq l.target.0 l.target.0) (is_among (load_targets ls) l.target.0) (eq_same l.target.0)), h.0, loads_run ls h.1 (λ v e. k v (or_second (nat_eq l.target.0 v) (is_among (load_targets ls) v) e)))

  block_runs : (b : SvBlock) → IsSizedBlock width b → ((v : ℕ) → block_names b v ≡ true → IsWidth (width v)) → IsRunnableBlock width b
  block_runs (Comb ss) h k = code_runs (code_of ss) h
  block_runs (Edge rising clock None sets) h k =
      (sets_run sets h.0 (λ v e. k v (third (nat_eq clock.0 v) false (is_among (targets sets) v) (sets_read sets v) e)), tt)
  block_runs (Edge rising clock (Some r) sets) h k = (
    sets_run sets h.0 (λ v e. k v (third (nat_eq clock.0 v) (nat_eq r.signal.0 v || is_among (load_targets r.values) v) (is_among (targets sets) v) (sets_read sets v) e)),
    loads_run r.values h.1 (λ v e. k v (second (nat_eq clock.0 v) (nat_eq r.signal.0 v || is_among (load_targets r.values) v) (is_among (targets sets) v) (sets_read sets v) (or_second (nat_eq r.signal.0 v) (is_among (load_targets r.values) v) e))),
  )

  blocks_run : (bs : List SvBlock) → Each (IsSizedBlock width) bs → ((v : ℕ) → Each (λ b. block_names b v ≡ true → IsWidth (width v)) bs) → AreRunnableBlocks width bs
  blocks_run [] h k = tt
  blocks_run (b ∷ bs) h k = (block_runs b h.0 (λ v. (k v).0), blocks_run bs h.1 (λ v. (k v).1))

  pub comb_runs : (bs : List SvBlock) (k : ℕ) → AreRunnableBlocks width bs → k < length (combs_of bs) → IsRunnable width (block_at (combs_of bs) k)
  comb_runs [] k h l = absurd (omega arith)
  comb_runs (Comb ss ∷ bs) zero h l = h.0
  comb_runs (Comb ss ∷ bs) (suc k) h l = comb_runs bs k h.1 (omega arith)
  comb_runs (Edge rising clock reset sets ∷ bs) k h l = comb_runs bs k h.1 l

pub width_of : (vars : List SvVar) → Each (λ v. IsWidth v.width) vars → (v : ℕ) → v < length vars → IsWidth (width_at vars v)
width_of [] h v l = absurd (omega arith)
width_of (x ∷ xs) h zero l = h.0
width_of (x ∷ xs) h (suc v) l = width_of xs h.1 v (omega arith)

each_wide : (vars : List SvVar) → Each (λ v. IsWidth v.width) vars → (v : ℕ) (bs : List SvBlock) → Each (λ b. block_names b v ≡ true → v < length vars) bs → Each (λ b. block_names b v ≡ true → IsWidth (width_at vars v)) bs
each_wide vars w v [] h = tt
each_wide vars w v (b ∷ bs) h = (λ e. width_of vars w v (h.0 e), each_wide vars w v bs h.1)

pub sound_runs : (many : Bool) (m : SvModule) → IsSound many m → AreRunnableBlocks (width_at m.vars) m.blocks
sound_runs many m s = blocks_run (width_at m.vars) m.blocks s.sizes (λ v. each_wide m.vars s.widths v m.blocks (s.declared v))

-- each place of a schedule is a block's
pub placed_within : (cs : List Code) (ks : List ℕ) (done : ℕ → Bool) → Placed cs done ks → (i : ℕ) → i < length ks → slice_index ks i < length cs
placed_within cs [] done p i l = absurd (omega arith)
placed_within cs (k ∷ ks) done p zero l = p.0
placed_within cs (k ∷ ks) done p (suc i) l = placed_within cs ks _ p.2 i (omega arith)

pub map_long : {A B : Type 0} (f : A → B) (xs : List A) → length (map f xs) ≡ length xs
map_long f [] = refl
map_long f (x ∷ xs) = ap (λ n. suc n) (map_long f xs)

-- what a slice that was lent whole leaves
pub whole_back : {A : Type 0} (x y : List A) (n : ℕ) → n ≡ length y → length x ≡ length y → take n (x ++ drop (length x) y) ≡ x
whole_back x y n e f =
    ap (λ m. take m (x ++ drop (length x) y)) (e ∙ sym f) ∙ front x (drop (length x) y)
  where
    front : {A : Type 0} (x z : List A) → take (length x) (x ++ z) ≡ x
    front [] z = refl
    front (a ∷ x) z = ap (λ l. a ∷ l) (front x z)
