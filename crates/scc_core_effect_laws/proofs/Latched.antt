-- A root that no path misses was asked when the end is come to.
use Rattle.std.proofs.Common.{◌≡◌, ℕ, zero, suc, Bool, true, false, not, ◌&&◌, ◌||◌, nat_eq, Option, Some, None, refl, sym, ap, ◌∙◌, arith, if◌then◌else◌, is_some}
use Rattle.std.specs.Prelude.{option_map, option_and_then}
use Rattle.scc_core_spec.specs.Term.{Term, Left, Pick}
use Rattle.scc_core_spec.specs.Code.{Code, End, Put, Aim, If, Block, Loop, Exit, Wait}
use Rattle.scc_core_spec.specs.Program.{is_root}
use Rattle.scc_core_spec.specs.Static.{Cells}
use Rattle.scc_core_spec.specs.Uses.{cells_of, width_at, has_sort, whole_writes, among}
use Rattle.scc_core_spec.specs.Flow.{CellSet, flow, either, without}
use Rattle.scc_blocks_spec.specs.Acting.{Acting, word_in, steps_in, cell_named, with_word, with_asked, picked, put_in}
use Rattle.scc_blocks_spec.specs.Effect.{Effect, Fell, Left_out, Lost, effect, assigned, then_effect, shut, or_lost, branch}
use Rattle.scc_core_effect_laws.specs.Sound.{FitWords, FixedWords, Each}
use Rattle.scc_core_effect_laws.specs.Ordering.{Alone, AnyTest}
use Rattle.scc_core_effect_laws.proofs.Names.{or-first, or-second, true-false, named-in, then-is, map-is}
use Rattle.scc_core_effect_laws.proofs.Puts.{whole-is, single-named}
use Rattle.scc_core_effect_laws.proofs.Moved.{Within, Did, nothing, asks, takes, put-did, put-moves}

module _ (cs : Cells) (x : ℕ) (root : has_sort is_root cs x ≡ true) where
  abbrev any : ℕ → Bool
  any c = true

  abbrev pub Asked : Bool → Acting → Type 0
  Asked u a = u ≡ false → is_some (a.asked x) ≡ true

  -- what is asked stays asked; a whole write of the root asks it
  put-asks : (l : Left) (k : Pick) (e : Term) (u : CellSet) (a b : Acting) → Alone cs l k e → FixedWords cs a → assigned cs a l k e ≡ Some b → Asked (u x) a → Asked (without (whole_writes cs l k) u x) b
  put-asks l k e u a b h f m asked g = by (u x) refl
    where
      within : Within cs any l k e
      within = record { sound = h.sound; within = λ c q. refl }

      did : Did cs any l a b
      did = put-did cs any l k e a b within f m

      stays : is_some (a.asked x) ≡ true → is_some (b.asked x) ≡ true
      stays s = after did
        where
          after : Did cs any l a b → is_some (b.asked x) ≡ true
          after (nothing q) = ap (λ b. is_some (b.asked x)) q ∙ s
          after (asks c v w r q) = ap (λ b. is_some (b.asked x)) q ∙ either-way (nat_eq c x)
            where
              either-way : (t : Bool) → is_some (if t then Some v else a.asked x) ≡ true
              either-way true = refl
              either-way false = s
          after (takes c v w r there q) = ap (λ b. is_some (b.asked x)) q ∙ s

      asks-it : among x (whole_writes cs l k) ≡ true → is_some (b.asked x) ≡ true
      asks-it w =
          let there = (whole-is cs l k x (cells_of cs l) w).0 in
          let one = h.single x there root in
          let word = then-is (word_in cs a e) (λ v. option_and_then (λ s. put_in cs a (cell_named cs (Some s)) k v) (steps_in cs a l)) b m in
          let steps = then-is (steps_in cs a l) (λ s. put_in cs a (cell_named cs (Some s)) k word.0) b word.2 in
          let c = single-named cs a f l steps.0 x one there steps.1 in
          let same = h.sound.target.alone c.0 x one (named-in cs a f l h.sound.target steps.0 c.0 steps.1 c.1) there in
          let put : put_in cs a (Some x) k word.0 ≡ Some b = ap (λ o. put_in cs a o k word.0) (sym (c.1 ∙ ap Some same)) ∙ steps.2 in
          let asked = map-is (picked cs a (width_at cs x) k 0 word.0) (λ w. with_asked x word.0 a) b
          (ap (λ t. if t then option_map (λ w. with_asked x word.0 a) (picked cs a (width_at cs x) k 0 word.0) else option_map (λ w. with_word x w a) (picked cs a (width_at cs x) k (a.now x) word.0)) (sym root) ∙ put) in
          ap (λ b. is_some (b.asked x)) (sym asked.2) ∙ ap (λ t. is_some (if t then Some word.0 else a.asked x)) self
        where
          self : nat_eq x x ≡ true
          self = grind arith

      by : (t : Bool) → u x ≡ t → is_some (b.asked x) ≡ true
      by false t = stays (asked t)
      by true t = asks-it (in-whole (among x (whole_writes cs l k)) (ap (λ t. t && not (among x (whole_writes cs l k))) (sym t) ∙ g))
        where
          in-whole : (y : Bool) → not y ≡ false → y ≡ true
          in-whole true e = refl
          in-whole false e = true-false e

  -- what it comes to, with whether the root was asked
  pub record Reached (u : Bool) (b : Acting) : Type 0 where
    pub asked : Asked u b
    pub fixed : FixedWords cs b
    pub fit : FitWords cs b

  abbrev pub ReachedBy : Bool → (ℕ → Bool) → Effect → Type 0
  ReachedBy fall out (Fell b) = Reached fall b
  ReachedBy fall out (Left_out n b) = Reached (out n) b
  ReachedBy fall out Lost = Unit {0}

  looser : (u v : Bool) (b : Acting) → (v ≡ false → u ≡ false) → Reached u b → Reached v b
  looser u v b h r = record { asked = λ e. r.asked (h e); fixed = r.fixed; fit = r.fit }

  reached-wider : (fall fall' : Bool) (out out' : ℕ → Bool) (o : Effect) → (fall' ≡ false → fall ≡ false) → ((n : ℕ) → out' n ≡ false → out n ≡ false) → ReachedBy fall out o → ReachedBy fall' out' o
  reached-wider fall fall' out out' (Fell b) f g r = looser fall fall' b f r
  reached-wider fall fall' out out' (Left_out n b) f g r = looser (out n) (out' n) b (g n) r
  reached-wider fall fall' out out' Lost f g r = tt

  reached-then : (mid fall : Bool) (mids out : ℕ → Bool) (o : Effect) (f : Acting → Effect) → ReachedBy mid mids o → ((b : Acting) → Reached mid b → ReachedBy fall out (f b)) → ReachedBy fall (λ n. mids n || out n) (then_effect o f)
  reached-then mid fall mids out (Fell b) f r l = reached-wider fall fall out (λ n. mids n || out n) (f b) (λ e. e) (λ n e. or-second (mids n) (out n) e) (l b r)
  reached-then mid fall mids out (Left_out n b) f r l = looser (mids n) (mids n || out n) b (λ e. or-first (mids n) (out n) e) r
  reached-then mid fall mids out Lost f r l = tt

  reached-shut : (mid fall : Bool) (mids out : ℕ → Bool) (o : Effect) (f : Acting → Effect) → ReachedBy mid mids o → ((b : Acting) → Reached (mid || mids 0) b → ReachedBy fall out (f b)) → ReachedBy fall (λ n. mids (suc n) || out n) (shut o f)
  reached-shut mid fall mids out (Fell b) f r l =
      reached-wider fall fall out (λ n. mids (suc n) || out n) (f b) (λ e. e) (λ n e. or-second (mids (suc n)) (out n) e) (l b (looser mid (mid || mids 0) b (λ e. or-first mid (mids 0) e) r))
  reached-shut mid fall mids out (Left_out zero b) f r l =
      reached-wider fall fall out (λ n. mids (suc n) || out n) (f b) (λ e. e) (λ n e. or-second (mids (suc n)) (out n) e) (l b (looser (mids 0) (mid || mids 0) b (λ e. or-second mid (mids 0) e) r))
  reached-shut mid fall mids out (Left_out (suc n) b) f r l = looser (mids (suc n)) (mids (suc n) || out n) b (λ e. or-first (mids (suc n)) (out n) e) r
  reached-shut mid fall mids out Lost f r l = tt

  lost-reached : {A : Type 0} (fall : Bool) (out : ℕ → Bool) (o : Option A) (f : A → Effect) → ((y : A) → o ≡ Some y → ReachedBy fall out (f y)) → ReachedBy fall out (or_lost o f)
  lost-reached fall out None f l = tt
  lost-reached fall out (Some y) f l = l y refl

  pub effect-asks : (c : Code) (u : CellSet) (a : Acting) → Each (Alone cs) AnyTest c → Reached (u x) a → ReachedBy ((flow cs c u).fall x) (λ n. (flow cs c u).out n x) (effect cs c a)
  effect-asks End u a h r = r
  effect-asks (Put p l k e c) u a h r =
      lost-reached _ _ (assigned cs a l k e) (effect cs c) (λ b m.
      let moved = put-moves cs any l k e a b (record { sound = h.0.sound; within = λ c q. refl }) r.fixed r.fit m in
      effect-asks c (without (whole_writes cs l k) u) b h.1 (record { asked = put-asks l k e u a b h.0 r.fixed m r.asked; fixed = moved.fixed; fit = moved.fit }))
  effect-asks (If p t c d e) u a h r =
      lost-reached _ _ (word_in cs a t) (λ n. then_effect (branch n (effect cs c a) (effect cs d a)) (effect cs e))
      (λ n m. reached-then ((flow cs c u).fall x || (flow cs d u).fall x) _ (λ n. (flow cs c u).out n x || (flow cs d u).out n x) _ (branch n (effect cs c a) (effect cs d a)) (effect cs e)
      (by n (effect-asks c u a h.1 r) (effect-asks d u a h.2 r)) (λ b q. effect-asks e (either (flow cs c u).fall (flow cs d u).fall) b h.3 q))
    where
      by : (n : ℕ) → ReachedBy ((flow cs c u).fall x) (λ n. (flow cs c u).out n x) (effect cs c a) → ReachedBy ((flow cs d u).fall x) (λ n. (flow cs d u).out n x) (effect cs d a)
          → ReachedBy ((flow cs c u).fall x || (flow cs d u).fall x) (λ n. (flow cs c u).out n x || (flow cs d u).out n x) (branch n (effect cs c a) (effect cs d a))
      by zero f g = reached-wider ((flow cs d u).fall x) _ (λ n. (flow cs d u).out n x) _ (effect cs d a) (λ e. or-second ((flow cs c u).fall x) _ e) (λ n e. or-second ((flow cs c u).out n x) _ e) g
      by (suc n) f g = reached-wider ((flow cs c u).fall x) _ (λ n. (flow cs c u).out n x) _ (effect cs c a) (λ e. or-first ((flow cs c u).fall x) _ e) (λ n e. or-first ((flow cs c u).out n x) _ e) f
  effect-asks (Block p c e) u a h r =
      reached-shut ((flow cs c u).fall x) _ (λ n. (flow cs c u).out n x) _ (effect cs c a) (effect cs e) (effect-asks c u a h.0 r) (λ b q. effect-asks e (either (flow cs c u).fall ((flow cs c u).out 0)) b h.1 q)
  effect-asks (Exit p n c) u a h r = looser (u x) _ a (λ e. self n (u x) e) r
    where
      self : (m : ℕ) (z : Bool) → (nat_eq m m && z) ≡ false → z ≡ false
      self m z e = grind (arith, e)
  effect-asks (Aim p to t c) u a h r = tt
  effect-asks (Loop p n c e) u a h r = tt
  effect-asks (Wait p l n c) u a h r = tt
