-- Blocks of a module by their places.
use Rattle.std.proofs.Common.{◌≡◌, ◌<◌, ◌||◌, ℕ, zero, suc, nat_eq, Bool, true, false, cond, List, [], ◌∷◌, length, Option, Some, None, slice_get, refl, sym, ap, ◌∙◌, subst, arith}
use Rattle.scc_svtree.specs.declared.module.SvModule.{SvModule}
use Rattle.scc_svtree.specs.declared.module.SvBlock.{SvBlock}
use Rattle.scc_svtree.specs.declared.module.SvBlock.TheVariants.{Comb, Edge}
use Rattle.scc_svtree.specs.declared.module.SvReset.{SvReset}
use Rattle.scc_svtree.specs.declared.module.SvLoad.{SvLoad}
use Rattle.scc_svtree.specs.declared.module.SvSet.{SvSet}
use Rattle.scc_svtree.specs.declared.stmt.SvStmt.{SvStmt}
use Rattle.scc_svtree.specs.declared.expr.VarId.{VarId}
use Rattle.scc_svtree.specs.Term as emitted
use Rattle.scc_svtree.specs.Code.{code_of}
use Rattle.scc_svtree.specs.Mentions.{assigns}
use Rattle.scc_svtree.specs.Settled.{combs_of, block_at}
use Rattle.scc_svtree.specs.Sizes.{sized, assigned}
use Rattle.scc_svtree.specs.Steps.{or_old, loaded, is_active, reset_word, is_reset, set_word, edge_word, after_edges, after_resets}
use Rattle.scc_svtree.specs.Sound.{Each, IsSound, block_assigns, at_block, targets, load_targets, loads_of, is_among}
use Rattle.scc_svtree.proofs.Agree.{or_second, or_both_false}
use Rattle.scc_blocks_run_laws.specs.Blocks.{set_term}

pub each-at : {A : Type 0} (P : A → Type 0) (xs : List A) (k : ℕ) (x : A) → Each P xs → slice_get xs k ≡ Some x → P x
each-at P [] k x h e = absurd (cc)
each-at P (y ∷ ys) zero x h e = let s : y ≡ x = cc in subst P s h.0
each-at P (y ∷ ys) (suc k) x h e = each-at P ys k x h.1 e

pub at-is : (bs : List SvBlock) (k : ℕ) (b : SvBlock) → slice_get bs k ≡ Some b → at_block bs k ≡ b
at-is [] k b e = absurd (cc)
at-is (c ∷ cs) zero b e = cc
at-is (c ∷ cs) (suc k) b e = at-is cs k b e

pub get-within : {A : Type 0} (xs : List A) (k : ℕ) (x : A) → slice_get xs k ≡ Some x → k < length xs
get-within [] k x e = absurd (cc)
get-within (y ∷ ys) zero x e = omega arith
get-within (y ∷ ys) (suc k) x e = let r = get-within ys k x e in omega arith

-- a combinational block stands among the combinational blocks
pub comb-place : (bs : List SvBlock) (k : ℕ) (ss : List SvStmt) → slice_get bs k ≡ Some (Comb ss) → (j : ℕ) × (j < length (combs_of bs)) × (block_at (combs_of bs) j ≡ code_of ss)
comb-place [] k ss e = absurd (cc)
comb-place (Comb ts ∷ bs) zero ss e = let s : ts ≡ ss = cc in (0, omega arith, ap code_of s)
comb-place (Edge rising clock reset sets ∷ bs) zero ss e = absurd (cc)
comb-place (Comb ts ∷ bs) (suc k) ss e = let r = comb-place bs k ss e in let l = r.1 in (suc r.0, omega arith, r.2)
comb-place (Edge rising clock reset sets ∷ bs) (suc k) ss e = comb-place bs k ss e

-- what no combinational block of the module assigns
pub combs-none : (bs : List SvBlock) (v : ℕ) → ((k : ℕ) (ss : List SvStmt) → slice_get bs k ≡ Some (Comb ss) → assigns (code_of ss) v ≡ false) → (j : ℕ) → j < length (combs_of bs) → assigns (block_at (combs_of bs) j) v ≡ false
combs-none [] v h j l = absurd (omega arith)
combs-none (Comb ss ∷ bs) v h zero l = h 0 ss refl
combs-none (Comb ss ∷ bs) v h (suc j) l = combs-none bs v (λ k ts e. h (suc k) ts e) j (omega arith)
combs-none (Edge rising clock reset sets ∷ bs) v h j l = combs-none bs v (λ k ts e. h (suc k) ts e) j l

-- ---- edges and resets

cond-same : (b : Bool) (o : Option ℕ) → cond b o o ≡ o
cond-same true o = refl
cond-same false o = refl

set-none : (width : ℕ → ℕ) (sets : List SvSet) (x : ℕ → ℕ) (v : ℕ) → is_among (targets sets) v ≡ false → set_word width sets x v ≡ None
set-none width [] x v h = refl
set-none width (s ∷ ss) x v h =
    let t = or_both_false (nat_eq s.target.0 v) (is_among (targets ss) v) h in
    ap (λ b. cond b (Some (assigned (width v) (sized false width x (emitted.term_of s.value)))) (set_word width ss x v)) t.0 ∙ set-none width ss x v t.1

pub loaded-none : (ls : List SvLoad) (v : ℕ) → is_among (load_targets ls) v ≡ false → loaded ls v ≡ None
loaded-none [] v h = refl
loaded-none (l ∷ ls) v h = let t = or_both_false (nat_eq l.target.0 v) (is_among (load_targets ls) v) h in ap (λ b. cond b (Some l.value.bits) (loaded ls v)) t.0 ∙ loaded-none ls v t.1

reset-none : (reset : Option SvReset) (x : ℕ → ℕ) (v : ℕ) → is_among (load_targets (loads_of reset)) v ≡ false → reset_word reset x v ≡ None
reset-none None x v h = refl
reset-none (Some s) x v h = ap (λ o. cond (is_active s x) o None) (loaded-none s.values v h) ∙ cond-same (is_active s x) None

pub set-at : (width : ℕ → ℕ) (sets : List SvSet) (x : ℕ → ℕ) (v : ℕ) (t : emitted.Term) → set_term sets v ≡ Some t → set_word width sets x v ≡ Some (assigned (width v) (sized false width x t))
set-at width [] x v t h = absurd (cc)
set-at width (s ∷ ss) x v t h = go (set-at width ss x v t) (nat_eq s.target.0 v) refl
  where
    go : (set_term ss v ≡ Some t → set_word width ss x v ≡ Some (assigned (width v) (sized false width x t))) → (b : Bool) → nat_eq s.target.0 v ≡ b
        → cond (nat_eq s.target.0 v) (Some (assigned (width v) (sized false width x (emitted.term_of s.value)))) (set_word width ss x v) ≡ Some (assigned (width v) (sized false width x t))
    go next true e =
        let f : Some (emitted.term_of s.value) ≡ Some t = sym (ap (λ b. cond b (Some (emitted.term_of s.value)) (set_term ss v)) e) ∙ h in
        let u : emitted.term_of s.value ≡ t = cc in
        ap (λ b. cond b (Some (assigned (width v) (sized false width x (emitted.term_of s.value)))) (set_word width ss x v)) e ∙ ap (λ t. Some (assigned (width v) (sized false width x t))) u
    go next false e =
        let f : set_term ss v ≡ Some t = sym (ap (λ b. cond b (Some (emitted.term_of s.value)) (set_term ss v)) e) ∙ h in
        ap (λ b. cond b (Some (assigned (width v) (sized false width x (emitted.term_of s.value)))) (set_word width ss x v)) e ∙ next f

pub set-among : (sets : List SvSet) (v : ℕ) (t : emitted.Term) → set_term sets v ≡ Some t → is_among (targets sets) v ≡ true
set-among [] v t h = absurd (cc)
set-among (s ∷ ss) v t h = go (set-among ss v t) (nat_eq s.target.0 v) refl
  where
    go : (set_term ss v ≡ Some t → is_among (targets ss) v ≡ true) → (b : Bool) → nat_eq s.target.0 v ≡ b → (nat_eq s.target.0 v || is_among (targets ss) v) ≡ true
    go next true e = ap (λ b. b || is_among (targets ss) v) e
    go next false e = or_second (nat_eq s.target.0 v) (is_among (targets ss) v) (next (sym (ap (λ b. cond b (Some (emitted.term_of s.value)) (set_term ss v)) e) ∙ h))

edge-none : (width : ℕ → ℕ) (reset : Option SvReset) (sets : List SvSet) (x : ℕ → ℕ) (v : ℕ) (rising : Bool) (clock : VarId) → block_assigns (Edge rising clock reset sets) v ≡ false → edge_word width reset sets x v ≡ None
edge-none width reset sets x v rising clock h =
    let t = or_both_false (is_among (targets sets) v) (is_among (load_targets (loads_of reset)) v) h in
    (λ i. cond (is_reset reset x) (reset-none reset x v t.1 i) (set-none width sets x v t.0 i)) ∙ cond-same (is_reset reset x) None

-- the blocks but the one of a place don't assign a variable
abbrev pub NoOther : List SvBlock → ℕ → ℕ → Type 0
NoOther bs k v = (j : ℕ) (b : SvBlock) → slice_get bs j ≡ Some b → block_assigns b v ≡ true → j ≡ k

not-assigned : (bs : List SvBlock) (v j k : ℕ) (b : SvBlock) → NoOther bs k v → slice_get bs j ≡ Some b → (j ≡ k → ⊥) → block_assigns b v ≡ false
not-assigned bs v j k b h e d = go (block_assigns b v) refl
  where
    go : (a : Bool) → block_assigns b v ≡ a → block_assigns b v ≡ false
    go false f = f
    go true f = absurd (d (h j b e f))

module _ (width : ℕ → ℕ) (clocks : ℕ → Bool) (x : ℕ → ℕ) (v : ℕ) where
  keep-or : (a : Bool) (o : Option ℕ) (y : ℕ) → o ≡ None → cond a (or_old o y) y ≡ y
  keep-or true o y e = ap (λ o. or_old o y) e
  keep-or false o y e = refl

  pub edges-none : (bs : List SvBlock) → ((j : ℕ) (rising : Bool) (clock : VarId) (reset : Option SvReset) (sets : List SvSet) → slice_get bs j ≡ Some (Edge rising clock reset sets) → clocks clock.0 ≡ true
      → block_assigns (Edge rising clock reset sets) v ≡ false) → after_edges width clocks bs x v ≡ x v
  edges-none [] h = refl
  edges-none (Comb ss ∷ bs) h = edges-none bs (λ j a b c d e f. h (suc j) a b c d e f)
  edges-none (Edge rising clock reset sets ∷ bs) h = go (edges-none bs (λ j a b c d e f. h (suc j) a b c d e f)) (clocks clock.0) refl
    where
      go : after_edges width clocks bs x v ≡ x v → (a : Bool) → clocks clock.0 ≡ a
          → cond (clocks clock.0) (or_old (edge_word width reset sets x v) (after_edges width clocks bs x v)) (after_edges width clocks bs x v) ≡ x v
      go next true e = ap (λ a. cond a (or_old (edge_word width reset sets x v) (after_edges width clocks bs x v)) (after_edges width clocks bs x v)) e
          ∙ ap (λ o. or_old o (after_edges width clocks bs x v)) (edge-none width reset sets x v rising clock (h 0 rising clock reset sets refl e)) ∙ next
      go next false e = ap (λ a. cond a (or_old (edge_word width reset sets x v) (after_edges width clocks bs x v)) (after_edges width clocks bs x v)) e ∙ next

  pub edges-at : (bs : List SvBlock) (k : ℕ) (rising : Bool) (clock : VarId) (reset : Option SvReset) (sets : List SvSet) → slice_get bs k ≡ Some (Edge rising clock reset sets) → clocks clock.0 ≡ true → NoOther bs k v
      → after_edges width clocks bs x v ≡ or_old (edge_word width reset sets x v) (x v)
  edges-at [] k rising clock reset sets e c h = absurd (cc)
  edges-at (Comb ss ∷ bs) zero rising clock reset sets e c h = absurd (cc)
  edges-at (Edge rising' clock' reset' sets' ∷ bs) zero rising clock reset sets e c h =
      let a : clock' ≡ clock = cc in let o : reset' ≡ reset = cc in let s : sets' ≡ sets = cc in
      (λ i. cond (clocks (a i).0) (or_old (edge_word width (o i) (s i) x v) (after_edges width clocks bs x v)) (after_edges width clocks bs x v))
      ∙ ap (λ t. cond t (or_old (edge_word width reset sets x v) (after_edges width clocks bs x v)) (after_edges width clocks bs x v)) c
      ∙ ap (λ y. or_old (edge_word width reset sets x v) y) (edges-none bs (λ j a b c d e f. not-assigned (Edge rising' clock' reset' sets' ∷ bs) v (suc j) 0 (Edge a b c d) h e (λ z. absurd (omega arith))))
  edges-at (Comb ss ∷ bs) (suc k) rising clock reset sets e c h = edges-at bs k rising clock reset sets e c (λ j b f g. let z : suc j ≡ suc k = h (suc j) b f g in omega arith)
  edges-at (Edge rising' clock' reset' sets' ∷ bs) (suc k) rising clock reset sets e c h =
      keep-or (clocks clock'.0) (edge_word width reset' sets' x v) (after_edges width clocks bs x v)
      (edge-none width reset' sets' x v rising' clock' (not-assigned (Edge rising' clock' reset' sets' ∷ bs) v 0 (suc k) (Edge rising' clock' reset' sets') h refl (λ z. absurd (omega arith))))
      ∙ edges-at bs k rising clock reset sets e c (λ j b f g. let z : suc j ≡ suc k = h (suc j) b f g in omega arith)

module _ (x : ℕ → ℕ) (v : ℕ) where
  pub resets-none : (bs : List SvBlock) → ((j : ℕ) (rising : Bool) (clock : VarId) (reset : Option SvReset) (sets : List SvSet) → slice_get bs j ≡ Some (Edge rising clock reset sets)
      → reset_word reset x v ≡ None) → after_resets bs x v ≡ x v
  resets-none [] h = refl
  resets-none (Comb ss ∷ bs) h = resets-none bs (λ j a b c d e. h (suc j) a b c d e)
  resets-none (Edge rising clock reset sets ∷ bs) h = ap (λ o. or_old o (after_resets bs x v)) (h 0 rising clock reset sets refl) ∙ resets-none bs (λ j a b c d e. h (suc j) a b c d e)

  pub resets-other : (bs : List SvBlock) (k j : ℕ) (rising : Bool) (clock : VarId) (reset : Option SvReset) (sets : List SvSet) → NoOther bs k v → slice_get bs j ≡ Some (Edge rising clock reset sets) → (j ≡ k → ⊥)
      → reset_word reset x v ≡ None
  resets-other bs k j rising clock reset sets h e d =
      reset-none reset x v (or_both_false (is_among (targets sets) v) (is_among (load_targets (loads_of reset)) v) (not-assigned bs v j k (Edge rising clock reset sets) h e d)).1

  pub resets-at : (bs : List SvBlock) (k : ℕ) (rising : Bool) (clock : VarId) (reset : Option SvReset) (sets : List SvSet) → slice_get bs k ≡ Some (Edge rising clock reset sets) → NoOther bs k v
      → after_resets bs x v ≡ or_old (reset_word reset x v) (x v)
  resets-at [] k rising clock reset sets e h = absurd (cc)
  resets-at (Comb ss ∷ bs) zero rising clock reset sets e h = absurd (cc)
  resets-at (Edge rising' clock' reset' sets' ∷ bs) zero rising clock reset sets e h =
      let o : reset' ≡ reset = cc in
      (λ i. or_old (reset_word (o i) x v) (after_resets bs x v))
      ∙ ap (λ y. or_old (reset_word reset x v) y) (resets-none bs (λ j a b c d e. resets-other (Edge rising' clock' reset' sets' ∷ bs) 0 (suc j) a b c d h e (λ z. absurd (omega arith))))
  resets-at (Comb ss ∷ bs) (suc k) rising clock reset sets e h = resets-at bs k rising clock reset sets e (λ j b f g. let z : suc j ≡ suc k = h (suc j) b f g in omega arith)
  resets-at (Edge rising' clock' reset' sets' ∷ bs) (suc k) rising clock reset sets e h =
      ap (λ o. or_old o (after_resets bs x v)) (resets-other (Edge rising' clock' reset' sets' ∷ bs) (suc k) 0 rising' clock' reset' sets' h refl (λ z. absurd (omega arith)))
      ∙ resets-at bs k rising clock reset sets e (λ j b f g. let z : suc j ≡ suc k = h (suc j) b f g in omega arith)

-- in a sound module a variable has one block
pub one-block : (many : Bool) (m : SvModule) → IsSound many m → (k v : ℕ) (b : SvBlock) → slice_get m.blocks k ≡ Some b → block_assigns b v ≡ true → NoOther m.blocks k v
one-block many m s k v b e a j c f g =
    s.one_driver j k v (get-within m.blocks j c f) (get-within m.blocks k b e) (ap (λ b. block_assigns b v) (at-is m.blocks j c f) ∙ g) (ap (λ b. block_assigns b v) (at-is m.blocks k b e) ∙ a)
