-- Valuations over which some variables have given words.
use Rattle.std.proofs.Common.{◌≡◌, ◌<◌, ◌≤◌, ◌+◌, ◌-◌, ℕ, zero, suc, nat_eq, Bool, true, false, cond, List, [], ◌∷◌, length, drop, drop-cons, get_or, refl, sym, ap, ◌∙◌, subst, arith}
use Rattle.std.specs.Prelude.{Option, Some, None}
use Rattle.scc_svtree.specs.declared.module.SvLoad.{SvLoad}
use Rattle.scc_svtree.specs.declared.module.SvSet.{SvSet}
use Rattle.scc_svtree.specs.declared.module.SvBlock.{SvBlock}
use Rattle.scc_svtree.specs.Running.{updated}
use Rattle.scc_svtree.specs.declared.module.SvBlock.TheVariants.{Comb, Edge}
use Rattle.scc_svtree.specs.Sizes.{sized, assigned}
use Rattle.scc_svtree.specs.Term.{term_of}
use Rattle.scc_svtree.specs.Steps.{or_old, loaded, set_word, after_resets, after_edges, is_active, reset_word, edge_word}
use Rattle.scc_svtree.specs.declared.module.SvReset.{SvReset}
use Rattle.scc_svtree.specs.declared.expr.VarId.{VarId}
use Rattle.scc_svtree.proofs.Agree.{eq_flip, same_of_eq}
use Rattle.std.proofs.lemmas.Bool.{ne_eqb}
use Rattle.scc_svrun.specs.Edged.{over, reset_by, edge_by, handed, AreHanded}
use Rattle.scc_bits_kinds.specs.declared.kind.Word.{Word}
use Rattle.scc_svrun.specs.Runnable.{AreLoadable, AreSettable, AreRunnableBlocks}

flipped : (u v : ℕ) → nat_eq u v ≡ false → nat_eq v u ≡ false
flipped u v h = go (nat_eq v u) refl
  where
    go : (b : Bool) → nat_eq v u ≡ b → nat_eq v u ≡ false
    go false e = e
    go true e = let f : nat_eq u v ≡ true = eq_flip v u e in absurd (cc)

over_at : (t b : ℕ) (f : ℕ → Option ℕ) (y : ℕ → ℕ) (v : ℕ) → or_old (cond (nat_eq t v) (Some b) (f v)) (y v) ≡ updated t b (over f y) v
over_at t b f y v = go (nat_eq t v) refl
  where
    go : (c : Bool) → nat_eq t v ≡ c → or_old (cond (nat_eq t v) (Some b) (f v)) (y v) ≡ cond (nat_eq v t) b (or_old (f v) (y v))
    go true e = rw (e, eq_flip t v e) refl
    go false e = rw (e, flipped t v e) refl

-- one more word over a valuation
pub over_more : (t b : ℕ) (f : ℕ → Option ℕ) (y : ℕ → ℕ) → over (λ v. cond (nat_eq t v) (Some b) (f v)) y ≡ updated t b (over f y)
over_more t b f y = λ i v. over_at t b f y v i

pub rest_or : {A : Type 0} (xs : List A) (k : ℕ) (d : A) → 0 < k → k ≤ length xs → drop (k - 1) xs ≡ get_or xs (k - 1) d ∷ drop k xs
rest_or xs k d h l =
    let n : suc (k - 1) ≡ k = omega arith in
    drop-cons xs (k - 1) d (omega arith) ∙ ap (λ m. get_or xs (k - 1) d ∷ drop m xs) n

pub rest_at : {A : Type 0} (xs : List A) (k : ℕ) (x : A) → 0 < k → k ≤ length xs → x ≡ get_or xs (k - 1) x → drop (k - 1) xs ≡ x ∷ drop k xs
rest_at xs k x h l e = rest_or xs k x h l ∙ ap (λ y. y ∷ drop k xs) (sym e)

module _ (width : ℕ → ℕ) where
  loadable_rest : (ls : List SvLoad) (n : ℕ) → AreLoadable width ls → AreLoadable width (drop n ls)
  loadable_rest ls zero h = h
  loadable_rest [] (suc n) h = h
  loadable_rest (l ∷ ls) (suc n) h = loadable_rest ls n h.2

  settable_rest : (ss : List SvSet) (n : ℕ) → AreSettable width ss → AreSettable width (drop n ss)
  settable_rest ss zero h = h
  settable_rest [] (suc n) h = h
  settable_rest (s ∷ ss) (suc n) h = settable_rest ss n h.2

  runnable_rest : (bs : List SvBlock) (n : ℕ) → AreRunnableBlocks width bs → AreRunnableBlocks width (drop n bs)
  runnable_rest bs zero h = h
  runnable_rest [] (suc n) h = h
  runnable_rest (b ∷ bs) (suc n) h = runnable_rest bs n h.1

  pub loadable_at : (ls : List SvLoad) (k : ℕ) (d : SvLoad) → AreLoadable width ls → 0 < k → k ≤ length ls → AreLoadable width (get_or ls (k - 1) d ∷ drop k ls)
  loadable_at ls k d h p q = let P : List SvLoad → Type 0 = λ l. AreLoadable width l in subst P (rest_or ls k d p q) (loadable_rest ls (k - 1) h)

  pub settable_at : (ss : List SvSet) (k : ℕ) (s : SvSet) → AreSettable width ss → 0 < k → k ≤ length ss → s ≡ get_or ss (k - 1) s → AreSettable width (s ∷ drop k ss)
  settable_at ss k s h p q e = let P : List SvSet → Type 0 = λ l. AreSettable width l in subst P (rest_at ss k s p q e) (settable_rest ss (k - 1) h)

  pub runnable_at : (bs : List SvBlock) (k : ℕ) (b : SvBlock) → AreRunnableBlocks width bs → 0 < k → k ≤ length bs → b ≡ get_or bs (k - 1) b → AreRunnableBlocks width (b ∷ drop k bs)
  runnable_at bs k b h p q e = let P : List SvBlock → Type 0 = λ l. AreRunnableBlocks width l in subst P (rest_at bs k b p q e) (runnable_rest bs (k - 1) h)

  pub load_turn : (ls : List SvLoad) (k : ℕ) (d : SvLoad) (old y new : ℕ → ℕ) → 0 < k → k ≤ length ls → y ≡ over (loaded (drop k ls)) old
      → new ≡ updated (get_or ls (k - 1) d).target.0 (get_or ls (k - 1) d).value.bits y → new ≡ over (loaded (drop (k - 1) ls)) old
  load_turn ls k d old y new p q e f =
      let l = get_or ls (k - 1) d in
      f ∙ ap (λ u. updated l.target.0 l.value.bits u) e ∙ sym (over_more l.target.0 l.value.bits (loaded (drop k ls)) old)
      ∙ ap (λ m. over (loaded m) old) (sym (rest_or ls k d p q))

  pub set_turn : (ss : List SvSet) (k : ℕ) (s : SvSet) (x old y new : ℕ → ℕ) (b : ℕ) → 0 < k → k ≤ length ss → s ≡ get_or ss (k - 1) s → y ≡ over (set_word width (drop k ss) x) old
      → b ≡ assigned (width s.target.0) (sized false width x (term_of s.value))
      → new ≡ updated s.target.0 b y → new ≡ over (set_word width (drop (k - 1) ss) x) old
  set_turn ss k s x old y new b p q i e w f =
      let a = assigned (width s.target.0) (sized false width x (term_of s.value)) in
      f ∙ ap (λ u. updated s.target.0 u y) w ∙ ap (λ u. updated s.target.0 a u) e
      ∙ (λ i v. set_over v i)
      ∙ ap (λ m. over (set_word width m x) old) (sym (rest_at ss k s p q i))
    where
      set_over : (v : ℕ) → updated s.target.0 (assigned (width s.target.0) (sized false width x (term_of s.value))) (over (set_word width (drop k ss) x) old) v ≡ over (set_word width (s ∷ drop k ss) x) old v
      set_over v = go (nat_eq s.target.0 v) refl
        where
          go : (c : Bool) → nat_eq s.target.0 v ≡ c → cond (nat_eq v s.target.0) (assigned (width s.target.0) (sized false width x (term_of s.value))) (over (set_word width (drop k ss) x) old v) ≡ over (set_word width (s ∷ drop k ss) x) old v
          go true e = rw (e, eq_flip s.target.0 v e) (ap (λ n. assigned (width n) (sized false width x (term_of s.value))) (same_of_eq s.target.0 v e))
          go false e = rw (e, flipped s.target.0 v e) refl

-- a block's turn
pub reset_more : (b : SvBlock) (bs : List SvBlock) (x : ℕ → ℕ) → reset_by b x (after_resets bs x) ≡ after_resets (b ∷ bs) x
reset_more (Comb ss) bs x = refl
reset_more (Edge rising clock reset sets) bs x = refl

pub edge_more : (width : ℕ → ℕ) (clocks : ℕ → Bool) (b : SvBlock) (bs : List SvBlock) (x : ℕ → ℕ) → edge_by width clocks b x (after_edges width clocks bs x) ≡ after_edges width clocks (b ∷ bs) x
edge_more width clocks (Comb ss) bs x = refl
edge_more width clocks (Edge rising clock reset sets) bs x = λ i v. at v i
  where
    go : (b : Bool) (v : ℕ) → cond b (over (edge_word width reset sets x) (after_edges width clocks bs x)) (after_edges width clocks bs x) v
        ≡ cond b (or_old (edge_word width reset sets x v) (after_edges width clocks bs x v)) (after_edges width clocks bs x v)
    go true v = refl
    go false v = refl

    at : (v : ℕ) → edge_by width clocks (Edge rising clock reset sets) x (after_edges width clocks bs x) v ≡ after_edges width clocks (Edge rising clock reset sets ∷ bs) x v
    at v = go (clocks clock.0) v

pub reset_turn : (bs : List SvBlock) (k : ℕ) (b : SvBlock) (x y new : ℕ → ℕ) → 0 < k → k ≤ length bs → b ≡ get_or bs (k - 1) b → y ≡ after_resets (drop k bs) x → new ≡ reset_by b x y → new ≡ after_resets (drop (k - 1) bs) x
reset_turn bs k b x y new p q i e f = f ∙ ap (λ u. reset_by b x u) e ∙ reset_more b (drop k bs) x ∙ ap (λ m. after_resets m x) (sym (rest_at bs k b p q i))

pub edge_turn : (width : ℕ → ℕ) (clocks : ℕ → Bool) (bs : List SvBlock) (k : ℕ) (b : SvBlock) (x y new : ℕ → ℕ) → 0 < k → k ≤ length bs → b ≡ get_or bs (k - 1) b → y ≡ after_edges width clocks (drop k bs) x → new ≡ edge_by width clocks b x y
    → new ≡ after_edges width clocks (drop (k - 1) bs) x
edge_turn width clocks bs k b x y new p q i e f = f ∙ ap (λ u. edge_by width clocks b x u) e ∙ edge_more width clocks b (drop k bs) x ∙ ap (λ m. after_edges width clocks m x) (sym (rest_at bs k b p q i))

-- a reset that has its level, and one that has not
active_at : (r : SvReset) (x y : ℕ → ℕ) → is_active r x ≡ true → over (reset_word (Some r) x) y ≡ over (loaded r.values) y
active_at r x y h = λ i v. (let e : over (reset_word (Some r) x) y v ≡ over (loaded r.values) y v = rw h refl in e) i

edge_active : (width : ℕ → ℕ) (r : SvReset) (ss : List SvSet) (x y : ℕ → ℕ) → is_active r x ≡ true → over (edge_word width (Some r) ss x) y ≡ over (loaded r.values) y
edge_active width r ss x y h = λ i v. (let e : over (edge_word width (Some r) ss x) y v ≡ over (loaded r.values) y v = rw h refl in e) i

edge_idle : (width : ℕ → ℕ) (r : SvReset) (ss : List SvSet) (x y : ℕ → ℕ) → is_active r x ≡ false → over (edge_word width (Some r) ss x) y ≡ over (set_word width ss x) y
edge_idle width r ss x y h = λ i v. (let e : over (edge_word width (Some r) ss x) y v ≡ over (set_word width ss x) y v = rw h refl in e) i

pub reset_acts : (b : SvBlock) (rising : Bool) (clock : VarId) (reset : Option SvReset) (sets : List SvSet) (x y new : ℕ → ℕ) (r : SvReset) (values : List SvLoad) → b ≡ Edge rising clock reset sets
    → reset ≡ Some r → is_active r x ≡ true → values ≡ r.values → new ≡ over (loaded values) y → new ≡ reset_by b x y
reset_acts b rising clock reset sets x y new r values is e h v f = f ∙ ap (λ l. over (loaded l) y) v ∙ sym (active_at r x y h) ∙ ap (λ q. over (reset_word q x) y) (sym e) ∙ ap (λ q. reset_by q x y) (sym is)

module _ (width : ℕ → ℕ) (reset : Option SvReset) (sets : List SvSet) (x y new : ℕ → ℕ) where
  pub edge_loads : (r : SvReset) (values : List SvLoad) → reset ≡ Some r → is_active r x ≡ true → values ≡ r.values → new ≡ over (loaded values) y → new ≡ over (edge_word width reset sets x) y
  edge_loads r values e h v f = f ∙ ap (λ l. over (loaded l) y) v ∙ sym (edge_active width r sets x y h) ∙ ap (λ q. over (edge_word width q sets x) y) (sym e)

  pub edge_sets : (r : SvReset) → reset ≡ Some r → is_active r x ≡ false → new ≡ over (set_word width sets x) y → new ≡ over (edge_word width reset sets x) y
  edge_sets r e h f = f ∙ sym (edge_idle width r sets x y h) ∙ ap (λ q. over (edge_word width q sets x) y) (sym e)

  pub edge_plain : reset ≡ None → new ≡ over (set_word width sets x) y → new ≡ over (edge_word width reset sets x) y
  edge_plain e f = f ∙ ap (λ q. over (edge_word width q sets x) y) (sym e)

-- ---- words that are handed in

module _ (width : ℕ → ℕ) where
  handed_rest : (ns : List VarId) (ws : List Word) (n : ℕ) → AreHanded width ns ws → AreHanded width (drop n ns) (drop n ws)
  handed_rest ns ws zero h = h
  handed_rest [] [] (suc n) h = h
  handed_rest [] (w ∷ ws) (suc n) h = absurd h
  handed_rest (v ∷ ns) [] (suc n) h = absurd h
  handed_rest (v ∷ ns) (w ∷ ws) (suc n) h = handed_rest ns ws n h.2

  pub handed_long : (ns : List VarId) (ws : List Word) → AreHanded width ns ws → length ws ≡ length ns
  handed_long [] [] h = refl
  handed_long [] (w ∷ ws) h = absurd h
  handed_long (v ∷ ns) [] h = absurd h
  handed_long (v ∷ ns) (w ∷ ws) h = ap (λ n. suc n) (handed_long ns ws h.2)

  pub handed_at : (ns : List VarId) (ws : List Word) (k : ℕ) (d : VarId) (e : Word) → AreHanded width ns ws → 0 < k → k ≤ length ns → k ≤ length ws
      → AreHanded width (get_or ns (k - 1) d ∷ drop k ns) (get_or ws (k - 1) e ∷ drop k ws)
  handed_at ns ws k d e h p q r =
      let P : List VarId → Type 0 = λ l. AreHanded width l (drop (k - 1) ws) in
      let Q : List Word → Type 0 = λ l. AreHanded width (get_or ns (k - 1) d ∷ drop k ns) l in
      subst Q (rest_or ws k e p r) (subst P (rest_or ns k d p q) (handed_rest ns ws (k - 1) h))

pub hand_turn : (ns : List VarId) (ws : List Word) (k : ℕ) (d : VarId) (e : Word) (old y new : ℕ → ℕ) → 0 < k → k ≤ length ns → k ≤ length ws → y ≡ over (handed (drop k ns) (drop k ws)) old
    → new ≡ updated (get_or ns (k - 1) d).0 (get_or ws (k - 1) e).bits y → new ≡ over (handed (drop (k - 1) ns) (drop (k - 1) ws)) old
hand_turn ns ws k d e old y new p q r f g =
    let n = get_or ns (k - 1) d in
    let w = get_or ws (k - 1) e in
    g ∙ ap (λ u. updated n.0 w.bits u) f ∙ sym (over_more n.0 w.bits (handed (drop k ns) (drop k ws)) old)
    ∙ ap (λ m. over (handed (n ∷ drop k ns) m) old) (sym (rest_or ws k e p r)) ∙ ap (λ m. over (handed m (drop (k - 1) ws)) old) (sym (rest_or ns k d p q))

pub hand_none : (ns : List VarId) (ws : List Word) (y : ℕ → ℕ) (k : ℕ) → length ns ≤ k → y ≡ over (handed (drop k ns) (drop k ws)) y
hand_none [] ws y zero h = refl
hand_none [] ws y (suc k) h = refl
hand_none (n ∷ ns) ws y zero h = absurd (omega arith)
hand_none (n ∷ ns) [] y (suc k) h = λ i v. none ns k v i
  where
    none : (ns : List VarId) (k v : ℕ) → y v ≡ over (handed (drop k ns) []) y v
    none [] zero v = refl
    none [] (suc k) v = refl
    none (n ∷ ns) zero v = refl
    none (n ∷ ns) (suc k) v = none ns k v
hand_none (n ∷ ns) (w ∷ ws) y (suc k) h = hand_none ns ws y k (omega arith)
