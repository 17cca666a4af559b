-- What code without waits leaves depends only on what it reads before it writes it.
use Rattle.std.proofs.Common.{◌≡◌, ℕ, zero, suc, Bool, true, false, ◌&&◌, ◌||◌, nat_eq, List, ◌++◌, Option, Some, None, refl, sym, subst, ◌⊎◌, inl, inr, arith}
use Rattle.std.specs.List.{list_any}
use Rattle.scc_core_spec.specs.Code.{Code, End, Put, Aim, If, Block, Loop, Exit, Wait}
use Rattle.scc_core_spec.specs.Program.{is_root}
use Rattle.scc_core_spec.specs.Static.{Cells}
use Rattle.scc_core_spec.specs.Uses.{Use, loads, inside, cells_of, has_sort, whole_writes}
use Rattle.scc_core_spec.specs.Uses as uses
use Rattle.scc_core_spec.specs.Flow.{CellSet, flow, either, without}
use Rattle.scc_blocks_spec.specs.Acting.{Acting, word_in}
use Rattle.scc_blocks_spec.specs.Effect.{Effect, Fell, Left_out, Lost, effect, assigned, then_effect, shut, or_lost, branch}
use Rattle.scc_core_effect_laws.specs.Sound.{AllUses, SizedUse, FitWords, Sound}
use Rattle.scc_core_effect_laws.specs.Alike.{Both, Alike, Unseen, Late}
use Rattle.scc_core_effect_laws.proofs.Names.{and-first, and-second, or-first, or-second, true-false}
use Rattle.scc_core_effect_laws.proofs.Same.{uses-zip, same-word}
use Rattle.scc_core_effect_laws.proofs.Puts.{BothPut, assigned-both}

pub weaker : (cs : Cells) (u w : CellSet) (a b : Acting) → ((x : ℕ) → w x ≡ false → u x ≡ false) → Both cs u a b → Both cs w a b
weaker cs u w a b h k = record { asked = k.asked; now = λ c e. k.now c (h c e); fit = k.fit; fit_too = k.fit_too; fixed = k.fixed; fixed_too = k.fixed_too }

wider : (cs : Cells) (fall fall' : CellSet) (out out' : ℕ → CellSet) (o q : Effect) → ((x : ℕ) → fall' x ≡ false → fall x ≡ false) → ((n x : ℕ) → out' n x ≡ false → out n x ≡ false)
    → Alike cs fall out o q → Alike cs fall' out' o q
wider cs fall fall' out out' (Fell a) (Fell b) f g h = weaker cs fall fall' a b f h
wider cs fall fall' out out' (Left_out n a) (Left_out m b) f g h = (h.0, weaker cs (out n) (out' n) a b (g n) h.1)
wider cs fall fall' out out' Lost Lost f g h = tt
wider cs fall fall' out out' (Fell a) (Left_out m b) f g h = absurd h
wider cs fall fall' out out' (Fell a) Lost f g h = absurd h
wider cs fall fall' out out' (Left_out n a) (Fell b) f g h = absurd h
wider cs fall fall' out out' (Left_out n a) Lost f g h = absurd h
wider cs fall fall' out out' Lost (Fell b) f g h = absurd h
wider cs fall fall' out out' Lost (Left_out m b) f g h = absurd h

alike-then : (cs : Cells) (mid fall : CellSet) (mids out : ℕ → CellSet) (o q : Effect) (f g : Acting → Effect) → Alike cs mid mids o q → ((a b : Acting) → Both cs mid a b → Alike cs fall out (f a) (g b))
    → Alike cs fall (λ n. either (mids n) (out n)) (then_effect o f) (then_effect q g)
alike-then cs mid fall mids out (Fell a) (Fell b) f g h l = wider cs fall fall out (λ n. either (mids n) (out n)) (f a) (g b) (λ x e. e) (λ n x e. or-second (mids n x) (out n x) e) (l a b h)
alike-then cs mid fall mids out (Left_out n a) (Left_out m b) f g h l = (h.0, weaker cs (mids n) _ a b (λ x e. or-first (mids n x) (out n x) e) h.1)
alike-then cs mid fall mids out Lost Lost f g h l = tt
alike-then cs mid fall mids out (Fell a) (Left_out m b) f g h l = absurd h
alike-then cs mid fall mids out (Fell a) Lost f g h l = absurd h
alike-then cs mid fall mids out (Left_out n a) (Fell b) f g h l = absurd h
alike-then cs mid fall mids out (Left_out n a) Lost f g h l = absurd h
alike-then cs mid fall mids out Lost (Fell b) f g h l = absurd h
alike-then cs mid fall mids out Lost (Left_out m b) f g h l = absurd h

alike-shut : (cs : Cells) (mid fall : CellSet) (mids out : ℕ → CellSet) (o q : Effect) (f g : Acting → Effect) → Alike cs mid mids o q
    → ((a b : Acting) → Both cs (either mid (mids 0)) a b → Alike cs fall out (f a) (g b)) → Alike cs fall (λ n. either (mids (suc n)) (out n)) (shut o f) (shut q g)
alike-shut cs mid fall mids out (Fell a) (Fell b) f g h l =
    wider cs fall fall out (λ n. either (mids (suc n)) (out n)) (f a) (g b) (λ x e. e) (λ n x e. or-second (mids (suc n) x) (out n x) e) (l a b (weaker cs mid _ a b (λ x e. or-first (mid x) (mids 0 x) e) h))
alike-shut cs mid fall mids out (Left_out zero a) (Left_out zero b) f g h l =
    wider cs fall fall out (λ n. either (mids (suc n)) (out n)) (f a) (g b) (λ x e. e) (λ n x e. or-second (mids (suc n) x) (out n x) e) (l a b (weaker cs (mids 0) _ a b (λ x e. or-second (mid x) (mids 0 x) e) h.1))
alike-shut cs mid fall mids out (Left_out (suc n) a) (Left_out (suc m) b) f g h l = (less h.0, weaker cs (mids (suc n)) _ a b (λ x e. or-first (mids (suc n) x) (out n x) e) h.1)
  where
    less : suc n ≡ suc m → n ≡ m
    less e = cc
alike-shut cs mid fall mids out (Left_out zero a) (Left_out (suc m) b) f g h l = absurd (let q = h.0 in cc)
alike-shut cs mid fall mids out (Left_out (suc n) a) (Left_out zero b) f g h l = absurd (let q = h.0 in cc)
alike-shut cs mid fall mids out Lost Lost f g h l = tt
alike-shut cs mid fall mids out (Fell a) (Left_out m b) f g h l = absurd h
alike-shut cs mid fall mids out (Fell a) Lost f g h l = absurd h
alike-shut cs mid fall mids out (Left_out n a) (Fell b) f g h l = absurd h
alike-shut cs mid fall mids out (Left_out n a) Lost f g h l = absurd h
alike-shut cs mid fall mids out Lost (Fell b) f g h l = absurd h
alike-shut cs mid fall mids out Lost (Left_out m b) f g h l = absurd h

module _ (cs : Cells) where
  -- the cells of a set are no roots
  abbrev pub NoRoots : CellSet → Type 0
  NoRoots u = (c : ℕ) → u c ≡ true → has_sort is_root cs c ≡ false

  pub good-uses : (u : CellSet) (us : List Use) → AllUses (SizedUse cs) us → Unseen cs u us → AllUses (λ w. SizedUse cs w × (list_any u (cells_of cs w.left) ≡ false)) us
  good-uses u us h k = uses-zip (SizedUse cs) (λ w. list_any u (cells_of cs w.left) ≡ false) _ us (λ x y z. (y, z)) h k

  -- shrinking
  pub record Shrinks (u : CellSet) (c : Code) : Type 0 where
    pub fall : (x : ℕ) → (flow cs c u).fall x ≡ true → u x ≡ true
    pub out : (n x : ℕ) → (flow cs c u).out n x ≡ true → u x ≡ true

  or-cases : (a b : Bool) → (a || b) ≡ true → (a ≡ true) ⊎ (b ≡ true)
  or-cases true b e = inl refl
  or-cases false b e = inr e

  or-goes : {A : Type 0} (a b : Bool) → (a || b) ≡ true → (a ≡ true → A) → (b ≡ true → A) → A
  or-goes true b e f g = f refl
  or-goes false b e f g = g e

  pub shrinks : (c : Code) (u : CellSet) → Shrinks u c
  shrinks End u = record { fall = λ x e. e; out = λ n x e. true-false (sym e) }
  shrinks (Put p l k e r) u =
      let h = shrinks r (without (whole_writes cs l k) u) in
      record { fall = λ x e. and-first (u x) _ (h.fall x e); out = λ n x e. and-first (u x) _ (h.out n x e) }
  shrinks (Aim p to t r) u = let h = shrinks r u in record { fall = h.fall; out = h.out }
  shrinks (If p e a b r) u =
      let ha = shrinks a u in
      let hb = shrinks b u in
      let h = shrinks r (either (flow cs a u).fall (flow cs b u).fall) in
      let mid : (x : ℕ) → either (flow cs a u).fall (flow cs b u).fall x ≡ true → u x ≡ true = λ x e. or-goes ((flow cs a u).fall x) ((flow cs b u).fall x) e (ha.fall x) (hb.fall x) in
      record {
        fall = λ x e. mid x (h.fall x e);
        out = λ n x e. or-goes (either ((flow cs a u).out n) ((flow cs b u).out n) x) _ e (λ q. or-goes ((flow cs a u).out n x) ((flow cs b u).out n x) q (ha.out n x) (hb.out n x)) (λ q. mid x (h.out n x q));
      }
  shrinks (Block p b r) u =
      let hb = shrinks b u in
      let h = shrinks r (either (flow cs b u).fall ((flow cs b u).out 0)) in
      let mid : (x : ℕ) → either (flow cs b u).fall ((flow cs b u).out 0) x ≡ true → u x ≡ true = λ x e. or-goes ((flow cs b u).fall x) ((flow cs b u).out 0 x) e (hb.fall x) (hb.out 0 x) in
      record {
        fall = λ x e. mid x (h.fall x e);
        out = λ n x e. or-goes ((flow cs b u).out (suc n) x) _ e (hb.out (suc n) x) (λ q. mid x (h.out n x q));
      }
  shrinks (Loop p n b r) u = let hb = shrinks b u in record { fall = λ x e. true-false (sym e); out = hb.out }
  shrinks (Exit p n r) u = record { fall = λ x e. true-false (sym e); out = λ m x e. and-second (nat_eq m n) (u x) e }
  shrinks (Wait p l n r) u = let h = shrinks r u in record { fall = h.fall; out = h.out }

  put-alike : (v : CellSet) (a b : Acting) (o q : Option Acting) (f g : Acting → Effect) (fall : CellSet) (out : ℕ → CellSet) → BothPut cs v o q → ((x : Acting) → o ≡ Some x → FitWords cs x) → ((x : Acting) → q ≡ Some x → FitWords cs x)
      → ((x y : Acting) → Both cs v x y → Alike cs fall out (f x) (g y)) → Alike cs fall out (or_lost o f) (or_lost q g)
  put-alike v a b None None f g fall out h k m l = tt
  put-alike v a b (Some x) (Some y) f g fall out h k m l = l x y (record { asked = h.asked; now = h.now; fit = k x refl; fit_too = m y refl; fixed = h.fixed; fixed_too = h.fixed_too })
  put-alike v a b None (Some y) f g fall out h k m l = absurd h
  put-alike v a b (Some x) None f g fall out h k m l = absurd h

  chosen : (n : ℕ) (fc fd : CellSet) (oc od : ℕ → CellSet) (ca da cb db : Effect) → Alike cs fc oc ca cb → Alike cs fd od da db
      → Alike cs (either fc fd) (λ n. either (oc n) (od n)) (branch n ca da) (branch n cb db)
  chosen zero fc fd oc od ca da cb db h k = wider cs fd (either fc fd) od (λ n. either (oc n) (od n)) da db (λ x e. or-second (fc x) (fd x) e) (λ n x e. or-second (oc n x) (od n x) e) k
  chosen (suc n) fc fd oc od ca da cb db h k = wider cs fc (either fc fd) oc (λ n. either (oc n) (od n)) ca cb (λ x e. or-first (fc x) (fd x) e) (λ n x e. or-first (oc n x) (od n x) e) h

  tested : (o : Option ℕ) (fc fd : CellSet) (oc od : ℕ → CellSet) (fall : CellSet) (out : ℕ → CellSet) (ca da cb db : Effect) (f g : Acting → Effect) → Alike cs fc oc ca cb → Alike cs fd od da db
      → ((a b : Acting) → Both cs (either fc fd) a b → Alike cs fall out (f a) (g b))
      → Alike cs fall (λ n. either (either (oc n) (od n)) (out n)) (or_lost o (λ n. then_effect (branch n ca da) f)) (or_lost o (λ n. then_effect (branch n cb db) g))
  tested None fc fd oc od fall out ca da cb db f g h k l = tt
  tested (Some n) fc fd oc od fall out ca da cb db f g h k l =
      alike-then cs (either fc fd) fall (λ n. either (oc n) (od n)) out (branch n ca da) (branch n cb db) f g (chosen n fc fd oc od ca da cb db h k) l

  pub same-effect : (c : Code) (u : CellSet) (a b : Acting) → Sound cs c → NoRoots u → Late cs u c → Both cs u a b → Alike cs (flow cs c u).fall (flow cs c u).out (effect cs c a) (effect cs c b)
  same-effect End u a b s n l h = h
  same-effect (Put p l k e r) u a b s n late h =
      put-alike (without (whole_writes cs l k) u) a b (assigned cs a l k e) (assigned cs b l k e) (effect cs r) (effect cs r) _ _
      (assigned-both cs u n a b h l k e s.0 (good-uses u (inside l ++ (uses.picked k ++ loads e)) s.0.reads late.0))
      (λ x q. s.0.keeps a x h.fit q) (λ x q. s.0.keeps b x h.fit_too q)
      (λ x y z. same-effect r (without (whole_writes cs l k) u) x y s.1 (λ c e. n c (and-first (u c) _ e)) late.1 z)
  same-effect (Aim p to t r) u a b s n l h = tt
  same-effect (If p t c d r) u a b s n l h =
      subst (λ o. Alike cs (flow cs (If p t c d r) u).fall (flow cs (If p t c d r) u).out (or_lost (word_in cs a t) (λ n. then_effect (branch n (effect cs c a) (effect cs d a)) (effect cs r)))
      (or_lost o (λ n. then_effect (branch n (effect cs c b) (effect cs d b)) (effect cs r))))
      (same-word cs u a b h t (good-uses u (loads t) s.0 l.0))
      (tested (word_in cs a t) (flow cs c u).fall (flow cs d u).fall (flow cs c u).out (flow cs d u).out _ _ (effect cs c a) (effect cs d a) (effect cs c b) (effect cs d b) (effect cs r) (effect cs r)
      (same-effect c u a b s.1 n l.1 h) (same-effect d u a b s.2 n l.2 h)
      (λ x y z. same-effect r (either (flow cs c u).fall (flow cs d u).fall) x y s.3 (λ w e. n w (or-goes ((flow cs c u).fall w) ((flow cs d u).fall w) e ((shrinks c u).fall w) ((shrinks d u).fall w))) l.3 z))
  same-effect (Block p c r) u a b s n l h =
      alike-shut cs (flow cs c u).fall _ (flow cs c u).out _ (effect cs c a) (effect cs c b) (effect cs r) (effect cs r) (same-effect c u a b s.0 n l.0 h)
      (λ x y z. same-effect r (either (flow cs c u).fall ((flow cs c u).out 0)) x y s.1 (λ w e. n w (or-goes ((flow cs c u).fall w) ((flow cs c u).out 0 w) e ((shrinks c u).fall w) ((shrinks c u).out 0 w))) l.1 z)
  same-effect (Loop p m c r) u a b s n l h = tt
  same-effect (Exit p m r) u a b s n l h = (refl, weaker cs u _ a b (λ x e. self m (u x) e) h)
    where
      self : (m : ℕ) (z : Bool) → (nat_eq m m && z) ≡ false → z ≡ false
      self m z e = grind (arith, e)
  same-effect (Wait p m k r) u a b s n l h = tt
