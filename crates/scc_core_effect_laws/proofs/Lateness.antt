-- Which cells are read late: all of a set where each of them is; those that nothing reads; those that the walk doesn't list.
use Rattle.std.proofs.Common.{◌≡◌, ℕ, suc, Bool, true, false, not, ◌&&◌, ◌||◌, nat_eq, cond, List, [], ◌∷◌, ◌++◌, map, filter, refl, sym, ap, ◌∙◌, arith}
use Rattle.std.specs.List.{list_any}
use Rattle.scc_base.specs.declared.refusal.Place.{Place}
use Rattle.scc_core_spec.specs.Code.{Code, End, Put, Aim, If, Block, Loop, Exit, Wait}
use Rattle.scc_core_spec.specs.Static.{Cells}
use Rattle.scc_core_spec.specs.Uses.{Use, loads, inside, picked, cells_of, whole_writes, among}
use Rattle.scc_core_spec.specs.Flow.{CellSet, flow, either, without, early_in}
use Rattle.scc_core_effect_laws.specs.Alike.{Unseen, Late, UnreadUses, Unread}
use Rattle.scc_core_effect_laws.proofs.Names.{and-first, and-second, and-both, true-false}
use Rattle.scc_core_effect_laws.proofs.Same.{not-any}
use Rattle.scc_core_effect_laws.proofs.Depends.{shrinks}

pub any-false : (u : CellSet) (xs : List ℕ) → ((n : ℕ) → among n xs ≡ true → u n ≡ false) → list_any u xs ≡ false
any-false u [] h = refl
any-false u (x ∷ xs) h = both (u x) (list_any u xs) (h x (here x)) (any-false u xs (λ n e. h n (there n e)))
  where
    here : (x : ℕ) → (nat_eq x x || among x xs) ≡ true
    here x = grind arith

    there : (n : ℕ) → among n xs ≡ true → (nat_eq n x || among n xs) ≡ true
    there n e = by (nat_eq n x)
      where
        by : (b : Bool) → (b || among n xs) ≡ true
        by true = refl
        by false = e

    both : (a b : Bool) → a ≡ false → b ≡ false → (a || b) ≡ false
    both true b e f = e
    both false b e f = f

module _ (cs : Cells) where
  -- the walk goes cell by cell
  pub record AtOne (u v : CellSet) (c : Code) (x : ℕ) : Type 0 where
    pub fall : (flow cs c u).fall x ≡ (flow cs c v).fall x
    pub out : (n : ℕ) → (flow cs c u).out n x ≡ (flow cs c v).out n x

  at-one : (c : Code) (u v : CellSet) (x : ℕ) → u x ≡ v x → AtOne u v c x
  at-one End u v x e = record { fall = e; out = λ n. refl }
  at-one (Put p l k e r) u v x h =
      let m = at-one r (without (whole_writes cs l k) u) (without (whole_writes cs l k) v) x (ap (λ b. b && not (among x (whole_writes cs l k))) h) in
      record { fall = m.fall; out = m.out }
  at-one (Aim p to t r) u v x h = let m = at-one r u v x h in record { fall = m.fall; out = m.out }
  at-one (If p e a b r) u v x h =
      let ma = at-one a u v x h in
      let mb = at-one b u v x h in
      let m = at-one r (either (flow cs a u).fall (flow cs b u).fall) (either (flow cs a v).fall (flow cs b v).fall) x (λ i. ma.fall i || mb.fall i) in
      record { fall = m.fall; out = λ n i. (ma.out n i || mb.out n i) || m.out n i }
  at-one (Block p b r) u v x h =
      let mb = at-one b u v x h in
      let m = at-one r (either (flow cs b u).fall ((flow cs b u).out 0)) (either (flow cs b v).fall ((flow cs b v).out 0)) x (λ i. mb.fall i || mb.out 0 i) in
      record { fall = m.fall; out = λ n i. mb.out (suc n) i || m.out n i }
  at-one (Loop p n b r) u v x h = let mb = at-one b u v x h in record { fall = refl; out = mb.out }
  at-one (Exit p n r) u v x h = record { fall = refl; out = λ m. ap (λ b. nat_eq m n && b) h }
  at-one (Wait p l n r) u v x h = let m = at-one r u v x h in record { fall = m.fall; out = m.out }

  unseen-grow : (us : List Use) (u : CellSet) (v : ℕ → CellSet) → ((x : ℕ) → u x ≡ true → v x x ≡ true) → ((x : ℕ) → u x ≡ true → Unseen cs (v x) us) → Unseen cs u us
  unseen-grow [] u v h k = tt
  unseen-grow (w ∷ us) u v h k = (any-false u (cells_of cs w.left) (λ n e. by n e (u n) refl), unseen-grow us u v h (λ x e. (k x e).1))
    where
      by : (n : ℕ) → among n (cells_of cs w.left) ≡ true → (b : Bool) → u n ≡ b → b ≡ false
      by n e false f = refl
      by n e true f = true-false (sym (h n f) ∙ not-any (v n) n (cells_of cs w.left) e (k n f).0)

  -- where each cell of a set is read late, with others or alone, the set is
  pub grow : (c : Code) (u : CellSet) (v : ℕ → CellSet) → ((x : ℕ) → u x ≡ true → v x x ≡ true) → ((x : ℕ) → u x ≡ true → Late cs (v x) c) → Late cs u c
  grow End u v h k = tt
  grow (Put p l m e r) u v h k =
      let ws = whole_writes cs l m in (
        unseen-grow (inside l ++ (picked m ++ loads e)) u v h (λ x f. (k x f).0),
        grow r (without ws u) (λ x. without ws (v x)) (λ x f. and-both (v x x) (not (among x ws)) (h x (and-first (u x) (not (among x ws)) f)) (and-second (u x) (not (among x ws)) f)) (λ x f. (k x (and-first (u x) (not (among x ws)) f)).1),
      )
  grow (Aim p to t r) u v h k = grow r u v h k
  grow (If p e a b r) u v h k =
      let inner : (x : ℕ) → either (flow cs a u).fall (flow cs b u).fall x ≡ true → u x ≡ true = λ x f. inside-both x ((flow cs a u).fall x) ((flow cs b u).fall x) f ((shrinks cs a u).fall x) ((shrinks cs b u).fall x) in (
        unseen-grow (loads e) u v h (λ x f. (k x f).0),
        grow a u v h (λ x f. (k x f).1),
        grow b u v h (λ x f. (k x f).2),
        grow r (either (flow cs a u).fall (flow cs b u).fall) (λ x. either (flow cs a (v x)).fall (flow cs b (v x)).fall)
            (λ x f. let same : u x ≡ v x x = inner x f ∙ sym (h x (inner x f)) in (λ i. (at-one a (v x) u x (sym same)).fall i || (at-one b (v x) u x (sym same)).fall i) ∙ f)
            (λ x f. (k x (inner x f)).3),
      )
    where
      inside-both : (x : ℕ) (y z : Bool) → (y || z) ≡ true → (y ≡ true → u x ≡ true) → (z ≡ true → u x ≡ true) → u x ≡ true
      inside-both x true z e f g = f refl
      inside-both x false z e f g = g e
  grow (Block p b r) u v h k =
      let inner : (x : ℕ) → either (flow cs b u).fall ((flow cs b u).out 0) x ≡ true → u x ≡ true = λ x f. inside-both x ((flow cs b u).fall x) ((flow cs b u).out 0 x) f ((shrinks cs b u).fall x) ((shrinks cs b u).out 0 x) in (
        grow b u v h (λ x f. (k x f).0),
        grow r (either (flow cs b u).fall ((flow cs b u).out 0)) (λ x. either (flow cs b (v x)).fall ((flow cs b (v x)).out 0))
            (λ x f. let same : u x ≡ v x x = inner x f ∙ sym (h x (inner x f)) in (λ i. (at-one b (v x) u x (sym same)).fall i || (at-one b (v x) u x (sym same)).out 0 i) ∙ f)
            (λ x f. (k x (inner x f)).1),
      )
    where
      inside-both : (x : ℕ) (y z : Bool) → (y || z) ≡ true → (y ≡ true → u x ≡ true) → (z ≡ true → u x ≡ true) → u x ≡ true
      inside-both x true z e f g = f refl
      inside-both x false z e f g = g e
  grow (Loop p n b r) u v h k = grow b u v h k
  grow (Exit p n r) u v h k = tt
  grow (Wait p l n r) u v h k = grow r u v h k

  -- what the walk doesn't list
  no-more : {A : Type 0} (xs ys : List A) → xs ++ ys ≡ [] → (xs ≡ []) × (ys ≡ [])
  no-more [] ys e = (refl, e)
  no-more (x ∷ xs) ys e = absurd cc

  none-early : (us : List Use) (u : CellSet) → early_in cs us u ≡ [] → Unseen cs u us
  none-early [] u e = tt
  none-early (w ∷ us) u e = by (list_any u (cells_of cs w.left)) refl e (λ f. none-early us u f)
    where
      rest : List Use
      rest = filter (λ w. list_any u (cells_of cs w.left)) us

      entry : Use → Place × List ℕ
      entry w = (w.place, filter u (cells_of cs w.left))

      by : (b : Bool) → list_any u (cells_of cs w.left) ≡ b → map entry (cond b (w ∷ rest) rest) ≡ [] → (early_in cs us u ≡ [] → Unseen cs u us) → (list_any u (cells_of cs w.left) ≡ false) × Unseen cs u us
      by true h f more = absurd cc
      by false h f more = (h, more f)

  pub told : (c : Code) (u : CellSet) → (flow cs c u).early ≡ [] → Late cs u c
  told End u e = tt
  told (Put p l k m r) u e = let s = no-more _ _ e in (none-early (inside l ++ (picked k ++ loads m)) u s.0, told r (without (whole_writes cs l k) u) s.1)
  told (Aim p to t r) u e = told r u (no-more _ _ e).1
  told (If p m a b r) u e =
      let s = no-more _ _ e in
      let t = no-more _ _ s.1 in
      let q = no-more _ _ t.1 in
      (none-early (loads m) u s.0, told a u t.0, told b u q.0, told r (either (flow cs a u).fall (flow cs b u).fall) q.1)
  told (Block p b r) u e = let s = no-more _ _ e in (told b u s.0, told r (either (flow cs b u).fall ((flow cs b u).out 0)) s.1)
  told (Loop p n b r) u e = told b u e
  told (Exit p n r) u e = tt
  told (Wait p l n r) u e = told r u e

  -- what nothing reads
  unseen-unread : (us : List Use) (u : CellSet) (x : ℕ) → ((y : ℕ) → u y ≡ true → y ≡ x) → UnreadUses cs x us → Unseen cs u us
  unseen-unread [] u x h k = tt
  unseen-unread (w ∷ us) u x h k = (any-false u (cells_of cs w.left) (λ n e. by n e (u n) refl), unseen-unread us u x h k.1)
    where
      by : (n : ℕ) → among n (cells_of cs w.left) ≡ true → (b : Bool) → u n ≡ b → b ≡ false
      by n e false f = refl
      by n e true f = true-false (sym e ∙ ap (λ m. among m (cells_of cs w.left)) (h n f) ∙ k.0)

  pub unread-late : (c : Code) (u : CellSet) (x : ℕ) → ((y : ℕ) → u y ≡ true → y ≡ x) → Unread cs x c → Late cs u c
  unread-late End u x h k = tt
  unread-late (Put p l m e r) u x h k = (unseen-unread (inside l ++ (picked m ++ loads e)) u x h k.0, unread-late r (without (whole_writes cs l m) u) x (λ y f. h y (and-first (u y) _ f)) k.1)
  unread-late (Aim p to t r) u x h k = unread-late r u x h k
  unread-late (If p e a b r) u x h k = (
    unseen-unread (loads e) u x h k.0,
    unread-late a u x h k.1,
    unread-late b u x h k.2,
    unread-late r (either (flow cs a u).fall (flow cs b u).fall) x (λ y f. h y (inside-both y ((flow cs a u).fall y) ((flow cs b u).fall y) f ((shrinks cs a u).fall y) ((shrinks cs b u).fall y))) k.3,
  )
    where
      inside-both : (x : ℕ) (y z : Bool) → (y || z) ≡ true → (y ≡ true → u x ≡ true) → (z ≡ true → u x ≡ true) → u x ≡ true
      inside-both x true z e f g = f refl
      inside-both x false z e f g = g e
  unread-late (Block p b r) u x h k = (
    unread-late b u x h k.0,
    unread-late r (either (flow cs b u).fall ((flow cs b u).out 0)) x (λ y f. h y (inside-both y ((flow cs b u).fall y) ((flow cs b u).out 0 y) f ((shrinks cs b u).fall y) ((shrinks cs b u).out 0 y))) k.1,
  )
    where
      inside-both : (x : ℕ) (y z : Bool) → (y || z) ≡ true → (y ≡ true → u x ≡ true) → (z ≡ true → u x ≡ true) → u x ≡ true
      inside-both x true z e f g = f refl
      inside-both x false z e f g = g e
  unread-late (Loop p n b r) u x h k = unread-late b u x h k.0
  unread-late (Exit p n r) u x h k = tt
  unread-late (Wait p l n r) u x h k = unread-late r u x h k
