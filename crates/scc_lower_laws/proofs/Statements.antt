-- Rules by which statements are lowered.
use Rattle.std.proofs.Common.{◌≡◌, ◌<◌, ◌≤◌, ◌^◌, ◌-◌, ℕ, zero, suc, nat_eq, Bool, true, false, cond, ◌||◌, if◌then◌else◌, Option, Some, None, refl, sym, ap, ◌∙◌, subst, arith}
use Rattle.scc_base.specs.declared.refusal.Place.{Place}
use Rattle.scc_bits_kinds.specs.Kinds.{width_of}
use Rattle.scc_svtree.specs.Code as emitted_code
use Rattle.scc_svtree.specs.Mentions.{assigns}
use Rattle.scc_svtree.specs.Running.{run, updated}
use Rattle.scc_svtree.specs.Sizes.{sized, value_of}
use Rattle.scc_core_spec.specs.Term.{Term, Left, Pick, kind_of}
use Rattle.scc_core_spec.specs.Code.{Code, End, Put, If, Block, Exit}
use Rattle.scc_blocks_spec.specs.Acting.{Acting, word_in}
use Rattle.scc_blocks_spec.specs.Effect.{Effect, Fell, Left_out, Lost, effect, then_effect, shut, or_lost, branch, assigned}
use Rattle.scc_blocks_spec.specs.Shown.{Sight, Shows, top_number}
use Rattle.scc_blocks_spec.specs.Lowered.{Fits, IsLoweredCode}
use Rattle.scc_lower_spec.proofs.Gives.{gives_own}
use Rattle.scc_lower_laws.specs.Sequence.{then_code}
use Rattle.scc_lower_laws.specs.Outcome.{Outcome, text_of}
use Rattle.scc_lower_laws.specs.Lowers.{temporary, IsNumbered, Lowers, Knows}
use Rattle.scc_lower_laws.specs.Puts.{AssignsBelow, Assigns}
use Rattle.scc_lower_laws.specs.Statements.{leaving, ShowsLeaving, ShowsEffect, LowersCode, Skips, FitLeaving, Guarded, leave_code, guard_code, back_code, block_code}
use Rattle.scc_lower_laws.proofs.Sequence.{then-run}
use Rattle.scc_lower_laws.proofs.Frames.{shows-stays, text-gives, either_assigns}
use Rattle.scc_lower_laws.proofs.Rules.{or_by}
use Rattle.scc_lower_laws.proofs.Leaving.{guard-runs, leave-runs, leaving-below, cells-stay, leaving-set, back-ends, back-skips, back-below}

-- what is lowered in no block is shown
pub code-is : (s : Sight) (width : ℕ → ℕ) (depth to : ℕ) (out : ℕ → Bool) (c : Code) (code : emitted_code.Code) → temporary s to ≤ top_number → LowersCode s width depth to out c code → IsLoweredCode s width c code
code-is s width depth to out c code small h = record {
  shows = λ a b x f g e. (subst (λ z. ShowsEffect s depth out z (run width code x)) e (h.shows a x f g)).1;
  framed = λ v d. omega (arith, h.framed v d);
}

module _ (s : Sight) (width : ℕ → ℕ) (depth to : ℕ) where
  then-below : (c d : emitted_code.Code) → AssignsBelow s to c → AssignsBelow s to d → AssignsBelow s to (then_code c d)
  then-below c d p q v e = either_assigns (v < temporary s to) c d v e (p v) (q v)

  -- ---- what stands behind

  -- what is left of a part, and then of the rest
  pub effect-then : (out more : ℕ → Bool) (z : Effect) (r : Code) (rest : emitted_code.Code) (y : ℕ → ℕ) → ((k : ℕ) → out k ≡ true → more k ≡ true) → Guarded s width out rest → FitLeaving s width out → ShowsEffect s depth out z y → LowersCode s width depth to more r rest
      → ShowsEffect s depth more (then_effect z (effect s.cells r)) (run width rest y)
  effect-then out more (Fell b) r rest y u g l h k = k.shows b y h.0 h.1
  effect-then out more (Left_out n b) r rest y u g l h k =
      let some : 1 ≤ depth - n = omega (arith, h.1) in
      let P : ℕ → Type 0 = λ z. (1 ≤ z) × (z < 2 ^ width (leaving s)) in
      let there = subst P (sym h.3.block_is) (some, l (depth - n) h.2) in
      let stays : run width rest y ≡ y = g (depth - n) h.2 y there.0 there.1 in
      (h.0, h.1, u (depth - n) h.2, subst (λ y. ShowsLeaving s b (depth - n) y) (sym stays) h.3)
  effect-then out more Lost r rest y u g l h k = tt

  pub ended : (out : ℕ → Bool) → LowersCode s width depth to out End emitted_code.End
  ended out = record { shows = λ a x f g. (f, g); framed = λ v e. absurd (cc) }

  pub guarded : (out : ℕ → Bool) (c : Code) (code : emitted_code.Code) → LowersCode s width depth to out c code → LowersCode s width depth to out c (guard_code s width code)
  guarded out c code h = record {
    shows = λ a x f g. subst (λ y. ShowsEffect s depth out (effect s.cells c a) y) (sym (guard-runs s width code x g.leaving)) (h.shows a x f g);
    framed = λ v e. h.framed v (ends (assigns code v) e);
  }
    where
      ends : (b : Bool) → ((b || false) || false) ≡ true → b ≡ true
      ends true e = refl
      ends false e = absurd (cc)

  -- ---- assignments

  pub put : (out : ℕ → Bool) (p : Place) (l : Left) (k : Pick) (e : Term) (r : Code) (c rest : emitted_code.Code) → Assigns s width to l k e c → LowersCode s width depth to out r rest → LowersCode s width depth to out (Put p l k e r) (then_code c rest)
  put out p l k e r c rest h t = record { shows = λ a x f g. shows a x f g (assigned s.cells a l k e) refl; framed = then-below c rest h.framed t.framed }
    where
      shows : (a : Acting) (x : ℕ → ℕ) → Fits s a → Shows s a x → (o : Option Acting) → assigned s.cells a l k e ≡ o → ShowsEffect s depth out (or_lost o (effect s.cells r)) (run width (then_code c rest) x)
      shows a x f g None q = tt
      shows a x f g (Some b) q = let d = h.does a b x f g q in subst (λ y. ShowsEffect s depth out (effect s.cells r b) y) (sym (then-run width c rest x)) (t.shows b (run width c x) d.0 d.1)

  -- ---- branches

  cond-is : (n : ℕ) (y z : ℕ → ℕ) (out : ℕ → Bool) (a b : Effect) → ShowsEffect s depth out a y → ShowsEffect s depth out b z → ShowsEffect s depth out (branch n a b) (cond (nat_eq n 0) z y)
  cond-is zero y z out a b h k = k
  cond-is (suc n) y z out a b h k = let e : nat_eq (suc n) 0 ≡ false = grind arith in subst (λ q. ShowsEffect s depth out a (cond q z y)) (sym e) h

  pub either : (n m : ℕ) (out more : ℕ → Bool) (p : Place) (t : Term) (first other r : Code) (front y z rest : emitted_code.Code) (o : Outcome) → IsNumbered s → m ≤ to → Lowers s width n m t front o → LowersCode s width depth to out first y → LowersCode s width depth to out other z
      → ((k : ℕ) → out k ≡ true → more k ≡ true) → Guarded s width out rest → FitLeaving s width out → LowersCode s width depth to more r rest
      → LowersCode s width depth to more (If p t first other r) (then_code front (emitted_code.If (text_of o) y z rest))
  either n m out more p t first other r front y z rest o number below h hy hz u g l hr = record {
    shows = λ a x f q. shows a x f q (word_in s.cells a t) refl;
    framed = then-below front (emitted_code.If (text_of o) y z rest) (λ v e. (let d = h.makes v e in omega (arith, d.1, below)))
        (λ v e. or_by (v < temporary s to) (assigns y v || assigns z v) (assigns rest v) e (λ e. or_by (v < temporary s to) (assigns y v) (assigns z v) e (hy.framed v) (hz.framed v)) (hr.framed v));
  }
    where
      shows : (a : Acting) (x : ℕ → ℕ) → Fits s a → Shows s a x → (w : Option ℕ) → word_in s.cells a t ≡ w
          → ShowsEffect s depth more (or_lost w (λ n. then_effect (branch n (effect s.cells first a) (effect s.cells other a)) (effect s.cells r))) (run width (then_code front (emitted_code.If (text_of o) y z rest)) x)
      shows a x f q None d = tt
      shows a x f q (Some w) d =
          let b = run width front x in
          let shown = shows-stays s width n m front a x number h.makes q in
          let value : value_of width (run width front x) (text_of o) ≡ w = gives_own false (sized false width (run width front x) (text_of o)) (width_of (kind_of t)) w (text-gives width (run width front x) (kind_of t) o w (h.fits a x w f q d) (h.gives a x w f q d)) in
          let chosen = cond-is w (run width y (run width front x)) (run width z (run width front x)) out (effect s.cells first a) (effect s.cells other a) (hy.shows a (run width front x) f shown) (hz.shows a (run width front x) f shown) in
          let moved = subst (λ k. ShowsEffect s depth out (branch w (effect s.cells first a) (effect s.cells other a)) (cond (nat_eq k 0) (run width z (run width front x)) (run width y (run width front x)))) (sym value) chosen in
          let done = effect-then out more (branch w (effect s.cells first a) (effect s.cells other a)) r rest (cond (nat_eq (value_of width (run width front x) (text_of o)) 0) (run width z (run width front x)) (run width y (run width front x))) u g l moved hr in
          subst (λ k. ShowsEffect s depth more (then_effect (branch w (effect s.cells first a) (effect s.cells other a)) (effect s.cells r)) k) (sym (then-run width front (emitted_code.If (text_of o) y z rest) x)) done

  -- a test that is known takes one branch
  pub known-either : (out more : ℕ → Bool) (p : Place) (t : Term) (w : ℕ) (first other r : Code) (y rest : emitted_code.Code) → Knows s t w → LowersCode s width depth to out (if nat_eq w 0 then other else first) y
      → ((k : ℕ) → out k ≡ true → more k ≡ true) → Guarded s width out rest → FitLeaving s width out → LowersCode s width depth to more r rest → LowersCode s width depth to more (If p t first other r) (then_code y rest)
  known-either out more p t w first other r y rest h hy u g l hr = record {
    shows = λ a x f q. shows a x f q (word_in s.cells a t) refl;
    framed = then-below y rest hy.framed hr.framed;
  }
    where
      one : (n : ℕ) (a : Acting) → effect s.cells (if nat_eq n 0 then other else first) a ≡ branch n (effect s.cells first a) (effect s.cells other a)
      one zero a = refl
      one (suc n) a = let e : nat_eq (suc n) 0 ≡ false = grind arith in ap (λ q. effect s.cells (if q then other else first) a) e

      shows : (a : Acting) (x : ℕ → ℕ) → Fits s a → Shows s a x → (v : Option ℕ) → word_in s.cells a t ≡ v
          → ShowsEffect s depth more (or_lost v (λ n. then_effect (branch n (effect s.cells first a) (effect s.cells other a)) (effect s.cells r))) (run width (then_code y rest) x)
      shows a x f q None d = tt
      shows a x f q (Some v) d =
          let same : v ≡ w = h.is a x v f q d in
          let taken : effect s.cells (if nat_eq w 0 then other else first) a ≡ branch v (effect s.cells first a) (effect s.cells other a) = one w a ∙ ap (λ n. branch n (effect s.cells first a) (effect s.cells other a)) (sym same) in
          let here = subst (λ z. ShowsEffect s depth out z (run width y x)) taken (hy.shows a x f q) in
          let done = effect-then out more (branch v (effect s.cells first a) (effect s.cells other a)) r rest (run width y x) u g l here hr in
          subst (λ k. ShowsEffect s depth more (then_effect (branch v (effect s.cells first a) (effect s.cells other a)) (effect s.cells r)) k) (sym (then-run width y rest x)) done

  -- ---- leaving

  pub exit : (out : ℕ → Bool) (p : Place) (n : ℕ) (r : Code) (rest : emitted_code.Code) → IsNumbered s → n < depth → out (depth - n) ≡ true → FitLeaving s width out → Skips s width rest → AssignsBelow s to rest
      → LowersCode s width depth to out (Exit p n r) (leave_code s width (depth - n) rest)
  exit out p n r rest number o e l skips below = record {
    shows = λ a x f g. (
        let k = depth - n in
        let small = l (depth - n) e in
        let set : updated (leaving s) (depth - n) x (leaving s) ≡ depth - n = leaving-set s width (depth - n) x in
        let P : ℕ → Type 0 = λ z. (1 ≤ z) × (z < 2 ^ width (leaving s)) in
        let there = subst P (sym set) (omega (arith, o), small) in
        let stays : run width rest (updated (leaving s) (depth - n) x) ≡ updated (leaving s) (depth - n) x = skips (updated (leaving s) (depth - n) x) there.0 there.1 in
        let is : run width (leave_code s width (depth - n) rest) x ≡ updated (leaving s) (depth - n) x = ap (run width rest) (leave-runs s width (depth - n) x small) ∙ stays in
        (f, o, e, subst (λ y. ShowsLeaving s a (depth - n) y) (sym is) (record { cells = λ c m. cells-stay s width a (depth - n) x c number m (g.cells c m); block_is = set })));
    framed = then-below (leave_code s width (depth - n) emitted_code.End) rest (leaving-below s width to (depth - n)) below;
  }

  -- ---- blocks

  -- what a block leaves of what its body leaves
  abbrev ShowsShut : (out : ℕ → Bool) → Effect → (ℕ → ℕ) → Type 0
  ShowsShut out (Fell b) y = Fits s b × Shows s b y
  ShowsShut out (Left_out zero b) y = Fits s b × Shows s b y
  ShowsShut out (Left_out (suc n) b) y = Fits s b × (n < depth) × (out (depth - n) ≡ true) × ShowsLeaving s b (depth - n) y
  ShowsShut out Lost y = Unit {0}

  shut-then : (out more : ℕ → Bool) (z : Effect) (r : Code) (rest : emitted_code.Code) (y : ℕ → ℕ) → ((k : ℕ) → k < suc depth → out k ≡ true → more k ≡ true) → ((k : ℕ) → k < suc depth → out k ≡ true → Skips s width rest) → FitLeaving s width out → ShowsShut out z y → LowersCode s width depth to more r rest
      → ShowsEffect s depth more (shut z (effect s.cells r)) (run width rest y)
  shut-then out more (Fell b) r rest y u g l h k = k.shows b y h.0 h.1
  shut-then out more (Left_out zero b) r rest y u g l h k = k.shows b y h.0 h.1
  shut-then out more (Left_out (suc n) b) r rest y u g l h k =
      let some : 1 ≤ depth - n = omega (arith, h.1) in
      let less : depth - n < suc depth = omega arith in
      let P : ℕ → Type 0 = λ z. (1 ≤ z) × (z < 2 ^ width (leaving s)) in
      let there = subst P (sym h.3.block_is) (some, l (depth - n) h.2) in
      let stays : run width rest y ≡ y = g (depth - n) less h.2 y there.0 there.1 in
      (h.0, h.1, u (depth - n) less h.2, subst (λ y. ShowsLeaving s b (depth - n) y) (sym stays) h.3)
  shut-then out more Lost r rest y u g l h k = tt

  same-block : (n : ℕ) → suc depth - suc n ≡ depth - n
  same-block n = omega arith

  -- the block that is left ends the leaving
  back-shows : (out : ℕ → Bool) (z : Effect) (y : ℕ → ℕ) → IsNumbered s → FitLeaving s width out → out (suc depth) ≡ true → ShowsEffect s (suc depth) out z y → ShowsShut out z (run width (back_code s width (suc depth)) y)
  back-shows out (Fell b) y number l q h =
      let stays = back-skips s width (suc depth) 0 y h.1.leaving (l-zero (suc depth) (l (suc depth) q)) (l (suc depth) q) (grind arith) in
      (h.0, subst (λ y. Shows s b y) (sym stays) h.1)
    where
      l-zero : (k : ℕ) → k < 2 ^ width (leaving s) → 0 < 2 ^ width (leaving s)
      l-zero k h = omega (arith, h)
  back-shows out (Left_out zero b) y number l q h =
      let top : suc depth - 0 ≡ suc depth = omega arith in
      let ends = back-ends s width (suc depth) y (h.3.block_is ∙ top) (l (suc depth) q) in
      (h.0, subst (λ y. Shows s b y) (sym ends) (record { cells = λ c m. cells-stay s width b 0 y c number m (h.3.cells c m); leaving = leaving-set s width 0 y }))
  back-shows out (Left_out (suc n) b) y number l q h =
      let same = same-block n in
      let e : out (depth - n) ≡ true = ap out (sym same) ∙ h.2 in
      let less : nat_eq (depth - n) (suc depth) ≡ false = grind arith in
      let stays = back-skips s width (suc depth) (depth - n) y (h.3.block_is ∙ same) (l (depth - n) e) (l (suc depth) q) less in
      (h.0, omega (arith, h.1), e, subst (λ y. ShowsLeaving s b (depth - n) y) (sym stays) (record { cells = h.3.cells; block_is = h.3.block_is ∙ same }))
  back-shows out Lost y number l q h = tt

  -- a block that isn't left has nothing to end
  kept-shows : (out : ℕ → Bool) (z : Effect) (y : ℕ → ℕ) → out (suc depth) ≡ false → ShowsEffect s (suc depth) out z y → ShowsShut out z y
  kept-shows out (Fell b) y q h = h
  kept-shows out (Left_out zero b) y q h = let top : suc depth - 0 ≡ suc depth = omega arith in let e : out (suc depth) ≡ true = ap out (sym top) ∙ h.2 in absurd (cc)
  kept-shows out (Left_out (suc n) b) y q h = let same = same-block n in (h.0, omega (arith, h.1), ap out (sym same) ∙ h.2, record { cells = h.3.cells; block_is = h.3.block_is ∙ same })
  kept-shows out Lost y q h = tt

  pub block : (out more : ℕ → Bool) (p : Place) (b r : Code) (body rest : emitted_code.Code) → IsNumbered s → LowersCode s width (suc depth) to out b body → ((k : ℕ) → k < suc depth → out k ≡ true → more k ≡ true) → ((k : ℕ) → k < suc depth → out k ≡ true → Skips s width rest)
      → FitLeaving s width out → LowersCode s width depth to more r rest → LowersCode s width depth to more (Block p b r) (then_code (block_code s width depth out body) rest)
  block out more p b r body rest number h u g l hr = by (out (suc depth)) refl
    where
      shows : (c : emitted_code.Code) → ((a : Acting) (x : ℕ → ℕ) → ShowsEffect s (suc depth) out (effect s.cells b a) (run width body x) → ShowsShut out (effect s.cells b a) (run width c x)) → (a : Acting) (x : ℕ → ℕ) → Fits s a → Shows s a x
          → ShowsEffect s depth more (shut (effect s.cells b a) (effect s.cells r)) (run width (then_code c rest) x)
      shows c f a x w q = subst (λ y. ShowsEffect s depth more (shut (effect s.cells b a) (effect s.cells r)) y) (sym (then-run width c rest x)) (shut-then out more (effect s.cells b a) r rest (run width c x) u g l (f a x (h.shows a x w q)) hr)

      by : (q : Bool) → out (suc depth) ≡ q → LowersCode s width depth to more (Block p b r) (then_code (if q then then_code body (back_code s width (suc depth)) else body) rest)
      by true q = record {
        shows = shows (then_code body (back_code s width (suc depth))) (λ a x e. subst (λ y. ShowsShut out (effect s.cells b a) y) (sym (then-run width body (back_code s width (suc depth)) x)) (back-shows out (effect s.cells b a) (run width body x) number l q e));
        framed = then-below (then_code body (back_code s width (suc depth))) rest (then-below body (back_code s width (suc depth)) h.framed (back-below s width to (suc depth))) hr.framed;
      }
      by false q = record { shows = shows body (λ a x e. kept-shows out (effect s.cells b a) (run width body x) q e); framed = then-below body rest h.framed hr.framed }

-- ---- what is skipped, and which blocks may be left

pub skips-end : (s : Sight) (width : ℕ → ℕ) → Skips s width emitted_code.End
skips-end s width x some small = refl

pub skips-then : (s : Sight) (width : ℕ → ℕ) (c d : emitted_code.Code) → Skips s width c → Skips s width d → Skips s width (then_code c d)
skips-then s width c d p q x some small = then-run width c d x ∙ ap (run width d) (p x some small) ∙ q x some small

effect-wider : (s : Sight) (depth : ℕ) (out more : ℕ → Bool) (z : Effect) (y : ℕ → ℕ) → ((k : ℕ) → out k ≡ true → more k ≡ true) → ShowsEffect s depth out z y → ShowsEffect s depth more z y
effect-wider s depth out more (Fell b) y u h = h
effect-wider s depth out more (Left_out n b) y u h = (h.0, h.1, u (depth - n) h.2, h.3)
effect-wider s depth out more Lost y u h = tt

pub wider : (s : Sight) (width : ℕ → ℕ) (depth to top : ℕ) (out more : ℕ → Bool) (c : Code) (code : emitted_code.Code) → to ≤ top → ((k : ℕ) → out k ≡ true → more k ≡ true) → LowersCode s width depth to out c code → LowersCode s width depth top more c code
wider s width depth to top out more c code l u h = record { shows = λ a x f g. effect-wider s depth out more (effect s.cells c a) (run width code x) u (h.shows a x f g); framed = λ v e. omega (arith, h.framed v e, l) }
