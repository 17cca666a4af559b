-- Sweeps that place each block behind those that feed it.
use Rattle.std.proofs.Common.{◌≡◌, ◌<◌, ◌≤◌, ◌+◌, ◌⊎◌, inl, inr, ℕ, zero, suc, nat_eq, Bool, true, false, not, ◌||◌, ◌&&◌, cond, List, [], ◌∷◌, ◌++◌, length, refl, sym, ap, ◌∙◌, subst, arith, append_assoc}
use Rattle.std.specs.Prelude.{slice_set, slice_index_or, replicate}
use Rattle.std.specs.List.{list_all}
use Rattle.std.proofs.lemmas.Bool.{and_parts, and_from, cases_order, eqb-true, eq-eqb, ne_eqb}
use Rattle.scc_svtree.specs.Code.{Code}
use Rattle.scc_svtree.specs.Settled.{combs_of, Order}
use Rattle.scc_svtree.specs.declared.module.SvBlock.{SvBlock}
use Rattle.scc_svtree_order.specs.Cycles.{Feeds}
use Rattle.scc_svtree_order.specs.Fed.{Rows, has, row_at, graph_of}
use Rattle.scc_svtree_order.specs.Search.{is_seen}
use Rattle.scc_svtree_order.specs.Schedule.{Placed, IsSchedule, is_ready, done_after, list_after, RowsTell, Going, AreDone, Swept}
use Rattle.scc_svtree_order.proofs.Feeding.{graph_length, step_feeds, feeds_step}

set_long : (d : List Bool) (k : ℕ) → length (slice_set d k true) ≡ length d
set_long [] k = refl
set_long (b ∷ d) zero = refl
set_long (b ∷ d) (suc k) = ap (λ n. suc n) (set_long d k)

set_here : (d : List Bool) (k : ℕ) → k < length d → is_seen (slice_set d k true) k ≡ true
set_here [] k h = absurd (omega arith)
set_here (b ∷ d) zero h = refl
set_here (b ∷ d) (suc k) h = set_here d k (omega arith)

set_there : (d : List Bool) (k i : ℕ) → (i ≡ k → ⊥) → is_seen (slice_set d k true) i ≡ is_seen d i
set_there [] k i h = refl
set_there (b ∷ d) zero zero h = absurd (h refl)
set_there (b ∷ d) zero (suc i) h = refl
set_there (b ∷ d) (suc k) zero h = refl
set_there (b ∷ d) (suc k) (suc i) h = set_there d k i (λ e. h (ap (λ n. suc n) e))

set_seen : (d : List Bool) (k : ℕ) → k < length d → (i : ℕ) → is_seen (slice_set d k true) i ≡ (nat_eq i k || is_seen d i)
set_seen d k h i = go (nat_eq i k) refl
  where
    go : (b : Bool) → nat_eq i k ≡ b → is_seen (slice_set d k true) i ≡ (b || is_seen d i)
    go true e = ap (λ n. is_seen (slice_set d k true) n) (eqb-true i k e) ∙ set_here d k h
    go false e = set_there d k i (λ s. let P : ℕ → Type 0 = λ n. nat_eq i n ≡ true in let t : nat_eq i k ≡ true = subst P s (eq-eqb i i refl) in absurd (cc))

all_have : (d : List Bool) (ks : List ℕ) (j : ℕ) → list_all (λ i. is_seen d i) ks ≡ true → has ks j ≡ true → is_seen d j ≡ true
all_have d [] j a h = absurd (cc)
all_have d (k ∷ ks) j a h = let p = and_parts (is_seen d k) (list_all (λ i. is_seen d i) ks) a in go (nat_eq k j) refl p.0 (λ f. all_have d ks j p.1 f) h
  where
    go : (b : Bool) → nat_eq k j ≡ b → is_seen d k ≡ true → (has ks j ≡ true → is_seen d j ≡ true) → (b || has ks j) ≡ true → is_seen d j ≡ true
    go true e p r h = let P : ℕ → Type 0 = λ n. is_seen d n ≡ true in subst P (eqb-true k j e) p
    go false e p r h = r h

all_from : (d : List Bool) (ks : List ℕ) → ((j : ℕ) → has ks j ≡ true → is_seen d j ≡ true) → list_all (λ i. is_seen d i) ks ≡ true
all_from d [] h = refl
all_from d (k ∷ ks) h = and_from (is_seen d k) (list_all (λ i. is_seen d i) ks) (h k (here (nat_eq k k) (eq-eqb k k refl))) (all_from d ks (λ j f. h j (there (nat_eq k j) f)))
  where
    here : (b : Bool) → b ≡ true → (b || has ks k) ≡ true
    here true e = refl
    here false e = absurd (cc)

    there : (b : Bool) {c : Bool} → c ≡ true → (b || c) ≡ true
    there true f = refl
    there false f = f

module _ (g : Rows) (k : ℕ) (done : List Bool) (l : k < length done) where
  turn_long : length (done_after g k done) ≡ length done
  turn_long = go (is_ready g done k)
    where
      go : (b : Bool) → length (cond b (slice_set done k true) done) ≡ length done
      go true = set_long done k
      go false = refl

  turn_kept : (i : ℕ) → is_seen done i ≡ true → is_seen (done_after g k done) i ≡ true
  turn_kept i h = go (is_ready g done k)
    where
      or_true : (b : Bool) → (b || true) ≡ true
      or_true true = refl
      or_true false = refl

      go : (b : Bool) → is_seen (cond b (slice_set done k true) done) i ≡ true
      go true = set_seen done k l i ∙ ap (λ c. nat_eq i k || c) h ∙ or_true (nat_eq i k)
      go false = h

  turn_placed : AreDone g done k → is_seen (done_after g k done) k ≡ true
  turn_placed a = go (is_seen done k) refl
    where
      go : (b : Bool) → is_seen done k ≡ b → is_seen (done_after g k done) k ≡ true
      go true e = turn_kept k e
      go false e = let f : list_all (λ j. is_seen done j) (row_at g k) ≡ true = all_from done (row_at g k) a in rw (e, f) (set_here done k l)

  turn_going : (cs : List Code) (list : List ℕ) → RowsTell g cs → k < length cs → Going cs done list → Going cs (done_after g k done) (list_after g k done list)
  turn_going cs list t m o = go (is_ready g done k) refl
    where
      go : (b : Bool) → is_ready g done k ≡ b → Going cs (cond b (slice_set done k true) done) (cond b (list ++ k ∷ []) list)
      go false e = o
      go true e = λ rest p.
          let r = and_parts (not (is_seen done k)) (list_all (λ j. is_seen done j) (row_at g k)) e in
          let s : is_seen (slice_set done k true) ≡ (λ i. nat_eq i k || is_seen done i) = λ i v. set_seen done k l v i in
          let P : (ℕ → Bool) → Type 0 = λ d. Placed cs d rest in
          let Q : List ℕ → Type 0 = λ q. IsSchedule cs q in
          subst Q (sym (append_assoc list (k ∷ []) rest)) (o (k ∷ rest) (m, (λ j f. all_have done (row_at g k) j r.1 (t.feeds j k f)), subst P s p))

pub sweep_starts : (g : Rows) (done : List Bool) (list : List ℕ) → Swept g 0 done list done list
sweep_starts g done list = record { long = refl; going = λ cs t o. o; kept = λ i h. h; all = λ i l a. absurd (omega arith) }

pub sweep_turns : (g : Rows) (k : ℕ) (old done next : List Bool) (before list after : List ℕ) → Swept g k old before done list → length old ≡ length g → k < length g
    → next ≡ done_after g k done → after ≡ list_after g k done list → Swept g (k + 1) old before next after
sweep_turns g k old done next before list after s e l n a =
    let f : length done ≡ length old = s.long in
    let m : k < length done = omega (arith, e, f, l) in
    let P : List Bool → Type 0 = λ d. Swept g (k + 1) old before d after in
    let Q : List ℕ → Type 0 = λ q. Swept g (k + 1) old before (done_after g k done) q in
    subst P (sym n) (subst Q (sym a) (record {
      long = turn_long g k done m ∙ f;
      going = λ cs t o. turn_going g k done m cs list t (let h : length g ≡ length cs = t.long in omega (arith, h, l)) (s.going cs t o);
      kept = λ i h. turn_kept g k done m i (s.kept i h);
      all = λ i b d. elim (cases_order i k) [
        | inl q ↦ let R : ℕ → Type 0 = λ v. AreDone g old v in let z : AreDone g old k = subst R q d in let S : ℕ → Type 0 = λ v. is_seen (done_after g k done) v ≡ true in subst S (sym q) (turn_placed g k done m (λ j h. s.kept j (z j h)))
        | inr (inl q) ↦ turn_kept g k done m i (s.all i q d)
        | inr (inr q) ↦ absurd (omega (arith, b, q))
      ];
    }))

-- the turn of a block that is taken out of its order
pub guess_turns : (g : Rows) (k : ℕ) (old done next : List Bool) (before list after : List ℕ) → Swept g 0 old before done list → length old ≡ length g → k < length g
    → next ≡ done_after g k done → after ≡ list_after g k done list → Swept g 0 old before next after
guess_turns g k old done next before list after s e l n a =
    let f : length done ≡ length old = s.long in
    let m : k < length done = omega (arith, e, f, l) in
    let P : List Bool → Type 0 = λ d. Swept g 0 old before d after in
    let Q : List ℕ → Type 0 = λ q. Swept g 0 old before (done_after g k done) q in
    subst P (sym n) (subst Q (sym a) (record {
      long = turn_long g k done m ∙ f;
      going = λ cs t o. turn_going g k done m cs list t (let h : length g ≡ length cs = t.long in omega (arith, h, l)) (s.going cs t o);
      kept = λ i h. turn_kept g k done m i (s.kept i h);
      all = λ i b d. absurd (omega arith);
    }))

append_nil : (xs : List ℕ) → xs ++ [] ≡ xs
append_nil [] = refl
append_nil (x ∷ xs) = ap (λ l. x ∷ l) (append_nil xs)

-- ---- sweep by sweep

-- after r sweeps each block below rank r is done
pub record Rounds (cs : List Code) (o : Order cs) (g : Rows) (r : ℕ) (done : List Bool) (list : List ℕ) : Type 0 where
  pub long : length done ≡ length g
  pub going : Going cs done list
  pub ranked : (k : ℕ) → k < length cs → o.rank k < r → is_seen done k ≡ true

pub rows_tell : (bs : List SvBlock) (g : Rows) → g ≡ graph_of bs → RowsTell g (combs_of bs)
rows_tell bs g e =
    let P : Rows → Type 0 = λ r. RowsTell r (combs_of bs) in
    subst P (sym e) (record { long = graph_length bs; feeds = feeds_step bs; fed = step_feeds bs })

pub round_turns : (cs : List Code) (o : Order cs) (g : Rows) (r : ℕ) (done next : List Bool) (list after : List ℕ) → RowsTell g cs → Rounds cs o g r done list → Swept g (length g) done list next after → Rounds cs o g (r + 1) next after
round_turns cs o g r done next list after t p s = record {
  long = s.long ∙ p.long;
  going = s.going cs t p.going;
  ranked = λ k l h. let m : length g ≡ length cs = t.long in s.all k (omega (arith, m, l)) (λ j f. let q = t.fed j k f in p.ranked j q.first (let w : o.rank j < o.rank k = o.ordered j k q.variable q.first q.second q.assigned q.read q.other in omega (arith, w, h)));
}

pub rounds_start : (cs : List Code) (o : Order cs) (g : Rows) (done next : List Bool) (list : List ℕ) → RowsTell g cs → length done ≡ length g → ((i : ℕ) → is_seen done i ≡ false)
    → Swept g 0 done [] next list → Rounds cs o g 0 next list
rounds_start cs o g done next list t l f s = record {
  long = s.long ∙ l;
  going = s.going cs t (λ rest p. let e : is_seen done ≡ (λ i. false) = λ i v. f v i in let P : (ℕ → Bool) → Type 0 = λ d. Placed cs d rest in subst P e p);
  ranked = λ k l h. absurd (omega arith);
}

pub as_long : (n : ℕ) → length (replicate n false) ≡ n
as_long zero = refl
as_long (suc n) = ap (λ m. suc m) (as_long n)

pub none_seen : (n i : ℕ) → is_seen (replicate n false) i ≡ false
none_seen zero i = refl
none_seen (suc n) zero = refl
none_seen (suc n) (suc i) = none_seen n i

-- where every block is done, the list is whole
pub all_placed : (cs : List Code) (o : Order cs) (g : Rows) (r : ℕ) (done : List Bool) (list : List ℕ) → RowsTell g cs → Rounds cs o g r done list → ((k : ℕ) → k < length g → is_seen done k ≡ true) → IsSchedule cs list
all_placed cs o g r done list t p h =
    let Q : List ℕ → Type 0 = λ q. IsSchedule cs q in
    subst Q (append_nil list) (p.going [] (λ k l. h k (let m : length g ≡ length cs = t.long in omega (arith, m, l))))

pub rounds_end : (cs : List Code) (o : Order cs) (g : Rows) (r : ℕ) (done : List Bool) (list : List ℕ) → RowsTell g cs → Rounds cs o g r done list → length g ≤ r → IsSchedule cs list
rounds_end cs o g r done list t p h =
    let Q : List ℕ → Type 0 = λ q. IsSchedule cs q in
    subst Q (append_nil list) (p.going [] (λ k l. p.ranked k l (let m : length g ≡ length cs = t.long in let w : o.rank k < length cs = o.below k l in omega (arith, m, w, h))))
