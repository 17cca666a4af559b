-- What code without waits asks doesn't depend on what it doesn't read.
use Rattle.std.proofs.Common.{◌≡◌, ℕ, zero, suc, Bool, true, false, nat_eq, List, ◌++◌, Option, Some, None, refl, sym, ap, ◌∙◌, subst, if◌then◌else◌}
use Rattle.std.specs.Prelude.{option_map, option_and_then}
use Rattle.std.specs.List.{list_any}
use Rattle.scc_core_spec.specs.Term.{Term, Left, Pick}
use Rattle.scc_core_spec.specs.Code.{Code, End, Put, Aim, If, Block, Loop, Exit, Wait}
use Rattle.scc_core_spec.specs.Program.{is_root}
use Rattle.scc_core_spec.specs.Static.{Cells}
use Rattle.scc_core_spec.specs.Named.{Step}
use Rattle.scc_core_spec.specs.Uses.{Use, loads, inside, cells_of, width_at, has_sort, among}
use Rattle.scc_core_spec.specs.Uses as uses
use Rattle.scc_core_spec.specs.Flow.{CellSet}
use Rattle.scc_blocks_spec.specs.Acting.{Acting, word_in, steps_in, cell_named, with_word, with_asked, picked, put_in}
use Rattle.scc_blocks_spec.specs.Effect.{Effect, Fell, Left_out, Lost, effect, assigned, then_effect, shut, or_lost, branch}
use Rattle.scc_core_effect_laws.specs.Sound.{AllUses, SizedUse, FitWords, SoundPut, SoundTest, Each}
use Rattle.scc_core_effect_laws.specs.Alike.{Both, Alike, Unseen}
use Rattle.scc_core_effect_laws.proofs.Names.{true-false, named-in}
use Rattle.scc_core_effect_laws.proofs.Same.{uses-first, uses-second, same-word, same-steps, same-picked}
use Rattle.scc_core_effect_laws.proofs.Depends.{good-uses}
use Rattle.scc_core_effect_laws.proofs.Puts.{PutAlike, BothPut}
use Rattle.scc_core_effect_laws.proofs.Moved.{fixed-taken}

-- sound, and it reads none of these cells, and writes of them only roots
pub record Blind (cs : Cells) (z : CellSet) (l : Left) (k : Pick) (e : Term) : Type 0 where
  pub sound : SoundPut cs l k e
  pub unseen : Unseen cs z (inside l ++ (uses.picked k ++ loads e))
  pub roots : (c : ℕ) → among c (cells_of cs l) ≡ true → z c ≡ true → has_sort is_root cs c ≡ true

abbrev pub BlindTest : Cells → CellSet → Term → Type 0
BlindTest cs z t = SoundTest cs t × Unseen cs z (loads t)

module _ (cs : Cells) (z : CellSet) where
  abbrev pub AllBlind : Code → Type 0
  AllBlind c = Each (Blind cs z) (BlindTest cs z) c

  same-maps : (o q : Option ℕ) (f g : ℕ → Acting) → o ≡ q → ((w : ℕ) → PutAlike cs z (f w) (g w)) → BothPut cs z (option_map f o) (option_map g q)
  same-maps o q f g e h = subst (λ q. BothPut cs z (option_map f o) (option_map g q)) e (by o)
    where
      by : (o : Option ℕ) → BothPut cs z (option_map f o) (option_map g o)
      by None = tt
      by (Some w) = h w

  put-framed : (a b : Acting) (l : Left) (k : Pick) (e : Term) → Both cs z a b → Blind cs z l k e → BothPut cs z (assigned cs a l k e) (assigned cs b l k e)
  put-framed a b l k e both blind =
      subst (λ o. BothPut cs z (assigned cs a l k e) o) (λ i. option_and_then (λ w. option_and_then (λ s. put_in cs b (cell_named cs (Some s)) k w) (steps i)) (word i))
      (by (word_in cs a e) (steps_in cs a l) refl)
    where
      good : AllUses (λ w. SizedUse cs w × (list_any z (cells_of cs w.left) ≡ false)) (inside l ++ (uses.picked k ++ loads e))
      good = good-uses cs z (inside l ++ (uses.picked k ++ loads e)) blind.sound.reads blind.unseen

      more : AllUses (λ w. SizedUse cs w × (list_any z (cells_of cs w.left) ≡ false)) (uses.picked k ++ loads e)
      more = uses-second _ (inside l) (uses.picked k ++ loads e) good

      picks : AllUses (λ w. SizedUse cs w × (list_any z (cells_of cs w.left) ≡ false)) (uses.picked k)
      picks = uses-first _ (uses.picked k) (loads e) more

      steps : steps_in cs a l ≡ steps_in cs b l
      steps = same-steps cs z a b both l (uses-first _ (inside l) _ good)

      word : word_in cs a e ≡ word_in cs b e
      word = same-word cs z a b both e (uses-second _ (uses.picked k) (loads e) more)

      put : (s : List Step) (new : ℕ) → steps_in cs a l ≡ Some s → (o : Option ℕ) → cell_named cs (Some s) ≡ o → BothPut cs z (put_in cs a o k new) (put_in cs b o k new)
      put s new f None g =
          same-maps (picked cs a 1 k 0 new) (picked cs b 1 k 0 new) (λ w. a) (λ w. b) (same-picked cs z a b both k 1 0 new picks)
          (λ w. record { asked = both.asked; now = both.now; fixed = both.fixed; fixed_too = both.fixed_too })
      put s new f (Some c) g = at (has_sort is_root cs c) refl
        where
          there : among c (cells_of cs l) ≡ true
          there = named-in cs a both.fixed l blind.sound.target s c f g

          sure : has_sort is_root cs c ≡ false → z c ≡ false
          sure r = by-set (z c) refl
            where
              by-set : (t : Bool) → z c ≡ t → t ≡ false
              by-set true t = true-false (sym (blind.roots c there t) ∙ r)
              by-set false t = refl

          at : (t : Bool) → has_sort is_root cs c ≡ t → BothPut cs z (if t then option_map (λ w. with_asked c new a) (picked cs a (width_at cs c) k 0 new) else option_map (λ w. with_word c w a) (picked cs a (width_at cs c) k (a.now c) new))
              (if t then option_map (λ w. with_asked c new b) (picked cs b (width_at cs c) k 0 new) else option_map (λ w. with_word c w b) (picked cs b (width_at cs c) k (b.now c) new))
          at true r =
              same-maps (picked cs a (width_at cs c) k 0 new) (picked cs b (width_at cs c) k 0 new) (λ w. with_asked c new a) (λ w. with_asked c new b) (same-picked cs z a b both k (width_at cs c) 0 new picks)
              (λ w. record {
                asked = λ d. ap (λ o. if nat_eq c d then Some new else o) (both.asked d);
                now = both.now;
                fixed = record { holds = both.fixed.holds };
                fixed_too = record { holds = both.fixed_too.holds };
              })
          at false r =
              same-maps (picked cs a (width_at cs c) k (a.now c) new) (picked cs b (width_at cs c) k (b.now c) new) (λ w. with_word c w a) (λ w. with_word c w b)
              (same-picked cs z a b both k (width_at cs c) (a.now c) new picks ∙ ap (λ o. picked cs b (width_at cs c) k o new) (both.now c (sure r)))
              (λ w. record {
                asked = both.asked;
                now = λ d h. ap (λ o. if nat_eq c d then w else o) (both.now d h);
                fixed = fixed-taken cs z a l k e blind.sound both.fixed c w there;
                fixed_too = fixed-taken cs z b l k e blind.sound both.fixed_too c w there;
              })

      by : (o : Option ℕ) (q : Option (List Step)) → steps_in cs a l ≡ q
          → BothPut cs z (option_and_then (λ w. option_and_then (λ s. put_in cs a (cell_named cs (Some s)) k w) q) o) (option_and_then (λ w. option_and_then (λ s. put_in cs b (cell_named cs (Some s)) k w) q) o)
      by None q f = tt
      by (Some w) None f = tt
      by (Some w) (Some s) f = put s w f (cell_named cs (Some s)) refl

  abbrev Framed : Effect → Effect → Type 0
  Framed o q = Alike cs z (λ n. z) o q

  framed-then : (o q : Effect) (f g : Acting → Effect) → Framed o q → ((a b : Acting) → Both cs z a b → Framed (f a) (g b)) → Framed (then_effect o f) (then_effect q g)
  framed-then (Fell a) (Fell b) f g h l = l a b h
  framed-then (Left_out n a) (Left_out m b) f g h l = h
  framed-then Lost Lost f g h l = tt
  framed-then (Fell a) (Left_out m b) f g h l = absurd h
  framed-then (Fell a) Lost f g h l = absurd h
  framed-then (Left_out n a) (Fell b) f g h l = absurd h
  framed-then (Left_out n a) Lost f g h l = absurd h
  framed-then Lost (Fell b) f g h l = absurd h
  framed-then Lost (Left_out m b) f g h l = absurd h

  framed-shut : (o q : Effect) (f g : Acting → Effect) → Framed o q → ((a b : Acting) → Both cs z a b → Framed (f a) (g b)) → Framed (shut o f) (shut q g)
  framed-shut (Fell a) (Fell b) f g h l = l a b h
  framed-shut (Left_out zero a) (Left_out zero b) f g h l = l a b h.1
  framed-shut (Left_out (suc n) a) (Left_out (suc m) b) f g h l = (less h.0, h.1)
    where
      less : suc n ≡ suc m → n ≡ m
      less e = cc
  framed-shut (Left_out zero a) (Left_out (suc m) b) f g h l = absurd (let q = h.0 in cc)
  framed-shut (Left_out (suc n) a) (Left_out zero b) f g h l = absurd (let q = h.0 in cc)
  framed-shut Lost Lost f g h l = tt
  framed-shut (Fell a) (Left_out m b) f g h l = absurd h
  framed-shut (Fell a) Lost f g h l = absurd h
  framed-shut (Left_out n a) (Fell b) f g h l = absurd h
  framed-shut (Left_out n a) Lost f g h l = absurd h
  framed-shut Lost (Fell b) f g h l = absurd h
  framed-shut Lost (Left_out m b) f g h l = absurd h

  put-or : (o q : Option Acting) (f g : Acting → Effect) → BothPut cs z o q → ((x : Acting) → o ≡ Some x → FitWords cs x) → ((x : Acting) → q ≡ Some x → FitWords cs x)
      → ((x y : Acting) → Both cs z x y → Framed (f x) (g y)) → Framed (or_lost o f) (or_lost q g)
  put-or None None f g h k m l = tt
  put-or (Some x) (Some y) f g h k m l = l x y (record { asked = h.asked; now = h.now; fit = k x refl; fit_too = m y refl; fixed = h.fixed; fixed_too = h.fixed_too })
  put-or None (Some y) f g h k m l = absurd h
  put-or (Some x) None f g h k m l = absurd h

  pub framed-effect : (c : Code) (a b : Acting) → AllBlind c → Both cs z a b → Framed (effect cs c a) (effect cs c b)
  framed-effect End a b h k = k
  framed-effect (Put p l m e r) a b h k =
      put-or (assigned cs a l m e) (assigned cs b l m e) (effect cs r) (effect cs r) (put-framed a b l m e k h.0) (λ x q. h.0.sound.keeps a x k.fit q) (λ x q. h.0.sound.keeps b x k.fit_too q)
      (λ x y n. framed-effect r x y h.1 n)
  framed-effect (If p t c d r) a b h k =
      subst (λ o. Framed (or_lost (word_in cs a t) (λ n. then_effect (branch n (effect cs c a) (effect cs d a)) (effect cs r))) (or_lost o (λ n. then_effect (branch n (effect cs c b) (effect cs d b)) (effect cs r))))
      (same-word cs z a b k t (good-uses cs z (loads t) h.0.0 h.0.1)) (by (word_in cs a t) (framed-effect c a b h.1 k) (framed-effect d a b h.2 k) (λ x y n. framed-effect r x y h.3 n))
    where
      by : (o : Option ℕ) → Framed (effect cs c a) (effect cs c b) → Framed (effect cs d a) (effect cs d b) → ((x y : Acting) → Both cs z x y → Framed (effect cs r x) (effect cs r y))
          → Framed (or_lost o (λ n. then_effect (branch n (effect cs c a) (effect cs d a)) (effect cs r))) (or_lost o (λ n. then_effect (branch n (effect cs c b) (effect cs d b)) (effect cs r)))
      by None x y l = tt
      by (Some zero) x y l = framed-then (effect cs d a) (effect cs d b) (effect cs r) (effect cs r) y l
      by (Some (suc n)) x y l = framed-then (effect cs c a) (effect cs c b) (effect cs r) (effect cs r) x l
  framed-effect (Block p c r) a b h k = framed-shut (effect cs c a) (effect cs c b) (effect cs r) (effect cs r) (framed-effect c a b h.0 k) (λ x y n. framed-effect r x y h.1 n)
  framed-effect (Exit p n r) a b h k = (refl, k)
  framed-effect (Aim p to t r) a b h k = tt
  framed-effect (Loop p n c r) a b h k = tt
  framed-effect (Wait p l n r) a b h k = tt
