-- What code may write, and what it leaves as it was.
use Rattle.std.proofs.Common.{◌≡◌, ℕ, zero, suc, Bool, true, false, not, ◌&&◌, nat_eq, List, [], ◌∷◌, ◌++◌, flat_map, Option, Some, None, refl, sym, ap, ◌∙◌, subst, arith, if◌then◌else◌, slice_get}
use Rattle.std.specs.Prelude.{option_map, option_and_then}
use Rattle.std.proofs.lemmas.List.Folds.{list_any-append}
use Rattle.std.proofs.lemmas.Grind.{flat_map-append}
use Rattle.scc_core_spec.specs.Term.{Term, Left, Pick}
use Rattle.scc_core_spec.specs.Code.{Code, End, Put, Aim, If, Block, Loop, Exit, Wait}
use Rattle.scc_core_spec.specs.Program as program
use Rattle.scc_core_spec.specs.Program.{is_root}
use Rattle.scc_core_spec.specs.Static.{Cells, fixed_word}
use Rattle.scc_core_spec.specs.Named.{Step}
use Rattle.scc_core_spec.specs.Uses.{Use, Act, acts, loads, inside, picked, cells_of, reads_of, writes_of, width_at, has_sort, among}
use Rattle.scc_core_spec.specs.Segments.{Segment, Plain, Test, Halt, Finish, segment_code}
use Rattle.scc_blocks_spec.specs.Acting.{Acting, word_in, steps_in, cell_named, with_word, with_asked, put_in}
use Rattle.scc_blocks_spec.specs.Acting as acting
use Rattle.scc_blocks_spec.specs.Effect.{Effect, Fell, Left_out, Lost, effect, assigned, then_effect, shut, or_lost, branch, Ran, Waits, Ends, Fails, then_ran, or_fails, choose, run_segment}
use Rattle.scc_core_effect_laws.specs.Sound.{FixedWords, FitWords, SoundPut, SoundTest, Each}
use Rattle.scc_core_effect_laws.specs.Alike.{Singles, UnreadUses, Unread}
use Rattle.scc_core_effect_laws.proofs.Names.{and-both, or-first, or-second, or-left, or-right, none-some, true-false, named-in, then-is, map-is}

-- only these cells are touched
pub record Moved (cs : Cells) (w : ℕ → Bool) (a b : Acting) : Type 0 where
  pub fixed : FixedWords cs b
  pub fit : FitWords cs b
  pub now : (c : ℕ) → (w c && not (has_sort is_root cs c)) ≡ false → b.now c ≡ a.now c
  pub asked : (c : ℕ) → (w c && has_sort is_root cs c) ≡ false → b.asked c ≡ a.asked c

-- sound, and within these cells
pub record Within (cs : Cells) (w : ℕ → Bool) (l : Left) (k : Pick) (e : Term) : Type 0 where
  pub sound : SoundPut cs l k e
  pub within : (x : ℕ) → among x (cells_of cs l) ≡ true → w x ≡ true

abbrev pub AnyTest : Term → Type 0
AnyTest t = Unit {0}

-- nothing, or a root asked, or a word taken, at a cell that may be written
pub data Did (cs : Cells) (w : ℕ → Bool) (l : Left) (a b : Acting) : Type 0 where
  nothing : b ≡ a → Did cs w l a b
  asks : (c v : ℕ) → w c ≡ true → has_sort is_root cs c ≡ true → b ≡ with_asked c v a → Did cs w l a b
  takes : (c v : ℕ) → w c ≡ true → has_sort is_root cs c ≡ false → among c (cells_of cs l) ≡ true → b ≡ with_word c v a → Did cs w l a b

module _ (cs : Cells) (w : ℕ → Bool) where
  abbrev pub Kept : Code → Type 0
  Kept c = Each (Within cs w) AnyTest c

  moved-self : (a : Acting) → FixedWords cs a → FitWords cs a → Moved cs w a a
  moved-self a f g = record { fixed = f; fit = g; now = λ c e. refl; asked = λ c e. refl }

  moved-then : (a b c : Acting) → Moved cs w a b → Moved cs w b c → Moved cs w a c
  moved-then a b c h k = record { fixed = k.fixed; fit = k.fit; now = λ x e. k.now x e ∙ h.now x e; asked = λ x e. k.asked x e ∙ h.asked x e }

  -- a cell that may be touched isn't one that may not
  other : (c d : ℕ) (test : ℕ → Bool) → test c ≡ true → test d ≡ false → nat_eq c d ≡ false
  other c d test h e = by (nat_eq c d) refl
    where
      equal : nat_eq c d ≡ true → c ≡ d
      equal q = grind arith

      by : (b : Bool) → nat_eq c d ≡ b → b ≡ false
      by true q = true-false (sym h ∙ ap test (equal q) ∙ e)
      by false q = refl

  pub put-did : (l : Left) (k : Pick) (e : Term) (a b : Acting) → Within cs w l k e → FixedWords cs a → assigned cs a l k e ≡ Some b → Did cs w l a b
  put-did l k e a b h f m = by (cell_named cs (Some steps.0)) refl steps.2
    where
      word : (v : ℕ) × (word_in cs a e ≡ Some v) × (option_and_then (λ s. put_in cs a (cell_named cs (Some s)) k v) (steps_in cs a l) ≡ Some b)
      word = then-is (word_in cs a e) (λ v. option_and_then (λ s. put_in cs a (cell_named cs (Some s)) k v) (steps_in cs a l)) b m

      steps : (s : List Step) × (steps_in cs a l ≡ Some s) × (put_in cs a (cell_named cs (Some s)) k word.0 ≡ Some b)
      steps = then-is (steps_in cs a l) (λ s. put_in cs a (cell_named cs (Some s)) k word.0) b word.2

      at : (c : ℕ) → among c (cells_of cs l) ≡ true → (t : Bool) → has_sort is_root cs c ≡ t
          → (if t then option_map (λ w. with_asked c word.0 a) (acting.picked cs a (width_at cs c) k 0 word.0) else option_map (λ w. with_word c w a) (acting.picked cs a (width_at cs c) k (a.now c) word.0)) ≡ Some b → Did cs w l a b
      at c there true r q = let x = map-is (acting.picked cs a (width_at cs c) k 0 word.0) (λ w. with_asked c word.0 a) b q in asks c word.0 (h.within c there) r (sym x.2)
      at c there false r q = let x = map-is (acting.picked cs a (width_at cs c) k (a.now c) word.0) (λ w. with_word c w a) b q in takes c x.0 (h.within c there) r there (sym x.2)

      by : (o : Option ℕ) → cell_named cs (Some steps.0) ≡ o → put_in cs a (cell_named cs (Some steps.0)) k word.0 ≡ Some b → Did cs w l a b
      by None n p =
          let x = map-is (acting.picked cs a 1 k 0 word.0) (λ w. a) b (ap (λ o. put_in cs a o k word.0) (sym n) ∙ p) in nothing (sym x.2)
      by (Some c) n p = at c (named-in cs a f l h.sound.target steps.0 c steps.1 n) (has_sort is_root cs c) refl (ap (λ o. put_in cs a o k word.0) (sym n) ∙ p)

  pub fixed-taken : (a : Acting) (l : Left) (k : Pick) (e : Term) → SoundPut cs l k e → FixedWords cs a → (c v : ℕ) → among c (cells_of cs l) ≡ true → FixedWords cs (with_word c v a)
  fixed-taken a l k e s h c v f = record { holds = λ d x y g m. by d x y g m (nat_eq c d) refl }
    where
      by : (d : ℕ) (x : program.Cell) (y : ℕ) → slice_get cs d ≡ Some x → fixed_word x.sort ≡ Some y → (t : Bool) → nat_eq c d ≡ t → (if nat_eq c d then v else a.now d) ≡ y
      by d x y g m true t =
          let same : d ≡ c = grind (arith, t) in
          none-some y (sym (s.unfixed c x f (subst (λ n. slice_get cs n ≡ Some x) same g)) ∙ m)
      by d x y g m false t = ap (λ z. if z then v else a.now d) t ∙ h.holds d x y g m

  pub put-moves : (l : Left) (k : Pick) (e : Term) (a b : Acting) → Within cs w l k e → FixedWords cs a → FitWords cs a → assigned cs a l k e ≡ Some b → Moved cs w a b
  put-moves l k e a b h f g m = by (put-did l k e a b h f m)
    where
      fit : FitWords cs b
      fit = h.sound.keeps a b g m

      by : Did cs w l a b → Moved cs w a b
      by (nothing q) = record { fixed = subst (FixedWords cs) (sym q) f; fit = fit; now = λ c e. ap (λ b. b.now c) q; asked = λ c e. ap (λ b. b.asked c) q }
      by (asks c v u r q) = record {
        fixed = subst (FixedWords cs) (sym q) (record { holds = f.holds });
        fit = fit;
        now = λ d e. ap (λ b. b.now d) q;
        asked = λ d e. ap (λ b. b.asked d) q ∙ ap (λ t. if t then Some v else a.asked d) (other c d (λ x. w x && has_sort is_root cs x) (and-both (w c) (has_sort is_root cs c) u r) e);
      }
      by (takes c v u r there q) = record {
        fixed = subst (FixedWords cs) (sym q) (fixed-taken a l k e h.sound f c v there);
        fit = fit;
        now = λ d e. ap (λ b. b.now d) q ∙ ap (λ t. if t then v else a.now d) (other c d (λ x. w x && not (has_sort is_root cs x)) (and-both (w c) (not (has_sort is_root cs c)) u (ap not r)) e);
        asked = λ d e. ap (λ b. b.asked d) q;
      }

  abbrev pub MovedTo : Acting → Effect → Type 0
  MovedTo a (Fell b) = Moved cs w a b
  MovedTo a (Left_out n b) = Moved cs w a b
  MovedTo a Lost = Unit {0}

  then-moved : (a : Acting) (o : Effect) (f : Acting → Effect) → MovedTo a o → ((b : Acting) → Moved cs w a b → MovedTo b (f b)) → MovedTo a (then_effect o f)
  then-moved a (Fell b) f h k = behind (f b) (k b h)
    where
      behind : (o : Effect) → MovedTo b o → MovedTo a o
      behind (Fell c) m = moved-then a b c h m
      behind (Left_out n c) m = moved-then a b c h m
      behind Lost m = tt
  then-moved a (Left_out n b) f h k = h
  then-moved a Lost f h k = tt

  shut-moved : (a : Acting) (o : Effect) (f : Acting → Effect) → MovedTo a o → ((b : Acting) → Moved cs w a b → MovedTo b (f b)) → MovedTo a (shut o f)
  shut-moved a (Fell b) f h k = then-moved a (Fell b) f h k
  shut-moved a (Left_out zero b) f h k = then-moved a (Fell b) f h k
  shut-moved a (Left_out (suc n) b) f h k = h
  shut-moved a Lost f h k = tt

  lost-moved : {A : Type 0} (a : Acting) (o : Option A) (f : A → Effect) → ((x : A) → o ≡ Some x → MovedTo a (f x)) → MovedTo a (or_lost o f)
  lost-moved a None f k = tt
  lost-moved a (Some x) f k = k x refl

  pub effect-moves : (c : Code) (a : Acting) → Kept c → FixedWords cs a → FitWords cs a → MovedTo a (effect cs c a)
  effect-moves End a h f g = moved-self a f g
  effect-moves (Put p l k e r) a h f g =
      lost-moved a (assigned cs a l k e) (effect cs r) (λ b m.
      let moved = put-moves l k e a b h.0 f g m in
      then-moved a (Fell b) (effect cs r) moved (λ z n. effect-moves r z h.1 n.fixed n.fit))
  effect-moves (If p t c d r) a h f g =
      lost-moved a (word_in cs a t) (λ n. then_effect (branch n (effect cs c a) (effect cs d a)) (effect cs r))
      (λ n m. then-moved a (branch n (effect cs c a) (effect cs d a)) (effect cs r) (by n (effect-moves c a h.1 f g) (effect-moves d a h.2 f g)) (λ z k. effect-moves r z h.3 k.fixed k.fit))
    where
      by : (n : ℕ) → MovedTo a (effect cs c a) → MovedTo a (effect cs d a) → MovedTo a (branch n (effect cs c a) (effect cs d a))
      by zero x y = y
      by (suc n) x y = x
  effect-moves (Block p c r) a h f g = shut-moved a (effect cs c a) (effect cs r) (effect-moves c a h.0 f g) (λ z k. effect-moves r z h.1 k.fixed k.fit)
  effect-moves (Exit p n r) a h f g = moved-self a f g
  effect-moves (Aim p to t r) a h f g = tt
  effect-moves (Loop p n c r) a h f g = tt
  effect-moves (Wait p l n r) a h f g = tt

  abbrev pub RanTo : Acting → Ran → Type 0
  RanTo a (Waits b p) = Moved cs w a b
  RanTo a (Ends b) = Moved cs w a b
  RanTo a Fails = Unit {0}

  ran-then : (a b : Acting) (o : Ran) → Moved cs w a b → RanTo b o → RanTo a o
  ran-then a b (Waits c p) h k = moved-then a b c h k
  ran-then a b (Ends c) h k = moved-then a b c h k
  ran-then a b Fails h k = tt

  ran-moved : (a : Acting) (o : Effect) (f : Acting → Ran) → MovedTo a o → ((b : Acting) → Moved cs w a b → RanTo b (f b)) → RanTo a (then_ran o f)
  ran-moved a (Fell b) f h k = ran-then a b (f b) h (k b h)
  ran-moved a (Left_out n b) f h k = tt
  ran-moved a Lost f h k = tt

  pub segment-moves : (s : Segment) (a : Acting) → Kept (segment_code s) → Singles s → FixedWords cs a → FitWords cs a → RanTo a (run_segment cs s a)
  segment-moves (Plain (Put p l k e End) s) a h o f g =
      ran-moved a (effect cs (Put p l k e End) a) (run_segment cs s) (effect-moves (Put p l k e End) a (h.0, tt) f g) (λ b m. segment-moves s b h.1 o.1 m.fixed m.fit)
  segment-moves (Plain (If p t c d End) s) a h o f g =
      ran-moved a (effect cs (If p t c d End) a) (run_segment cs s) (effect-moves (If p t c d End) a (h.0, h.1, h.2, tt) f g) (λ b m. segment-moves s b h.3 o.1 m.fixed m.fit)
  segment-moves (Plain (Block p c End) s) a h o f g =
      ran-moved a (effect cs (Block p c End) a) (run_segment cs s) (effect-moves (Block p c End) a (h.0, tt) f g) (λ b m. segment-moves s b h.1 o.1 m.fixed m.fit)
  segment-moves (Plain (Aim p to t r) s) a h o f g = tt
  segment-moves (Plain (Loop p n c r) s) a h o f g = tt
  segment-moves (Plain c s) a h o f g = absurd o.0
  segment-moves (Test p t s v) a h o f g = by (word_in cs a t) (segment-moves s a h.1 o.0 f g) (segment-moves v a h.2 o.1 f g)
    where
      by : (w : Option ℕ) → RanTo a (run_segment cs s a) → RanTo a (run_segment cs v a) → RanTo a (or_fails w (λ n. choose n (run_segment cs s a) (run_segment cs v a)))
      by None x y = tt
      by (Some zero) x y = y
      by (Some (suc n)) x y = x
  segment-moves (Halt p number count) a h o f g = moved-self a f g
  segment-moves Finish a h o f g = moved-self a f g

-- ---- from what the statements of a body write and read

pub among-first : (x : ℕ) (ys zs : List ℕ) → among x ys ≡ true → among x (ys ++ zs) ≡ true
among-first x ys zs e = list_any-append (nat_eq x) ys zs ∙ or-left (among x ys) (among x zs) e

pub among-second : (x : ℕ) (ys zs : List ℕ) → among x zs ≡ true → among x (ys ++ zs) ≡ true
among-second x ys zs e = list_any-append (nat_eq x) ys zs ∙ or-right (among x ys) (among x zs) e

not-first : (x : ℕ) (ys zs : List ℕ) → among x (ys ++ zs) ≡ false → among x ys ≡ false
not-first x ys zs e = or-first (among x ys) (among x zs) (sym (list_any-append (nat_eq x) ys zs) ∙ e)

not-second : (x : ℕ) (ys zs : List ℕ) → among x (ys ++ zs) ≡ false → among x zs ≡ false
not-second x ys zs e = or-second (among x ys) (among x zs) (sym (list_any-append (nat_eq x) ys zs) ∙ e)

module _ (cs : Cells) where
  abbrev writes : List Act → List ℕ
  writes xs = flat_map (writes_of cs) xs

  split-writes : (x : ℕ) (xs bs : List Act) → among x (writes xs ++ writes bs) ≡ true → among x (writes (xs ++ bs)) ≡ true
  split-writes x xs bs e = ap (among x) (flat_map-append (writes_of cs) xs bs) ∙ e

  pub all-within : (c : Code) (w : ℕ → Bool) → Each (SoundPut cs) (SoundTest cs) c → ((x : ℕ) → among x (writes (acts c)) ≡ true → w x ≡ true) → Each (Within cs w) AnyTest c
  all-within End w s h = tt
  all-within (Put p l k e r) w s h =
      (record { sound = s.0; within = λ x q. h x (among-first x (cells_of cs l) (writes (acts r)) q) }, all-within r w s.1 (λ x q. h x (among-second x (cells_of cs l) (writes (acts r)) q)))
  all-within (Aim p to t r) w s h = all-within r w s h
  all-within (If p t a b r) w s h =
      let both : (x : ℕ) → among x (writes (acts a) ++ writes (acts b ++ acts r)) ≡ true → w x ≡ true = λ x q. h x (split-writes x (acts a) (acts b ++ acts r) q) in
      let more : (x : ℕ) → among x (writes (acts b) ++ writes (acts r)) ≡ true → w x ≡ true = λ x q. both x (among-second x (writes (acts a)) _ (split-writes x (acts b) (acts r) q)) in
      (tt, all-within a w s.1 (λ x q. both x (among-first x (writes (acts a)) _ q)), all-within b w s.2 (λ x q. more x (among-first x (writes (acts b)) _ q)), all-within r w s.3 (λ x q. more x (among-second x (writes (acts b)) _ q)))
  all-within (Block p b r) w s h =
      let more : (x : ℕ) → among x (writes (acts b) ++ writes (acts r)) ≡ true → w x ≡ true = λ x q. h x (split-writes x (acts b) (acts r) q) in
      (all-within b w s.0 (λ x q. more x (among-first x (writes (acts b)) _ q)), all-within r w s.1 (λ x q. more x (among-second x (writes (acts b)) _ q)))
  all-within (Loop p n b r) w s h =
      let more : (x : ℕ) → among x (writes (acts b) ++ writes (acts r)) ≡ true → w x ≡ true = λ x q. h x (split-writes x (acts b) (acts r) q) in
      (all-within b w s.0 (λ x q. more x (among-first x (writes (acts b)) _ q)), all-within r w s.1 (λ x q. more x (among-second x (writes (acts b)) _ q)))
  all-within (Exit p n r) w s h = all-within r w s h
  all-within (Wait p l n r) w s h = all-within r w s h

  unread-uses : (x : ℕ) (us : List Use) → among x (flat_map (λ u. cells_of cs u.left) us) ≡ false → UnreadUses cs x us
  unread-uses x [] e = tt
  unread-uses x (u ∷ us) e = (not-first x (cells_of cs u.left) _ e, unread-uses x us (not-second x (cells_of cs u.left) _ e))

  abbrev reads : List Act → List ℕ
  reads xs = flat_map (reads_of cs) xs

  pub split-reads : (x : ℕ) (xs bs : List Act) → among x (flat_map (reads_of cs) xs ++ flat_map (reads_of cs) bs) ≡ true → among x (flat_map (reads_of cs) (xs ++ bs)) ≡ true
  split-reads x xs bs e = ap (among x) (flat_map-append (reads_of cs) xs bs) ∙ e

  no-reads : (x : ℕ) (xs bs : List Act) → among x (reads (xs ++ bs)) ≡ false → (among x (reads xs) ≡ false) × (among x (reads bs) ≡ false)
  no-reads x xs bs e = let q = ap (among x) (sym (flat_map-append (reads_of cs) xs bs)) ∙ e in (not-first x (reads xs) (reads bs) q, not-second x (reads xs) (reads bs) q)

  pub all-unread : (c : Code) (x : ℕ) → among x (reads (acts c)) ≡ false → Unread cs x c
  all-unread End x e = tt
  all-unread (Put p l k v r) x e = let us = inside l ++ (picked k ++ loads v) in (unread-uses x us (not-first x (flat_map (λ u. cells_of cs u.left) us) (reads (acts r)) e), all-unread r x (not-second x (flat_map (λ u. cells_of cs u.left) us) (reads (acts r)) e))
  all-unread (Aim p to t r) x e = all-unread r x (not-second x (flat_map (λ u. cells_of cs u.left) (inside t)) (reads (acts r)) e)
  all-unread (If p t a b r) x e =
      let us = flat_map (λ u. cells_of cs u.left) (loads t) in
      let m = no-reads x (acts a) (acts b ++ acts r) (not-second x us _ e) in
      let n = no-reads x (acts b) (acts r) m.1 in
      (unread-uses x (loads t) (not-first x us _ e), all-unread a x m.0, all-unread b x n.0, all-unread r x n.1)
  all-unread (Block p b r) x e = let m = no-reads x (acts b) (acts r) e in (all-unread b x m.0, all-unread r x m.1)
  all-unread (Loop p n b r) x e = let m = no-reads x (acts b) (acts r) e in (all-unread b x m.0, all-unread r x m.1)
  all-unread (Exit p n r) x e = all-unread r x e
  all-unread (Wait p l n r) x e = all-unread r x e
