-- A segment turns on what follows it only where a path without a wait comes there.
use Rattle.std.proofs.Common.{◌≡◌, ◌⊎◌, inl, inr, ℕ, zero, suc, ◌+◌, ◌<◌, Bool, true, false, ◌||◌, List, ◌∷◌, Option, Some, None, refl, sym, ap, subst, ◌∙◌, arith}
use Rattle.std.specs.Prelude.{not, nat_lt, nat_eq}
use Rattle.std.proofs.lemmas.Bool.{not-false}
use Rattle.scc_base.specs.declared.refusal.Place.{Place}
use Rattle.scc_core_spec.specs.Term.{Term}
use Rattle.scc_core_spec.specs.Code.{Code, Count, End, Put, Aim, If, Block, Loop, Exit, Wait, waits_in, numbered}
use Rattle.scc_core_spec.specs.Static.{Cells, goes}
use Rattle.scc_core_spec.specs.Live.{Alive, alive, live, then_alive, by_test, looped, shut}
use Rattle.scc_core_spec.specs.Segments.{Segment, Plain, Test, Finish, opens, opened, behind, segment}
use Rattle.scc_core_spec.specs.Flow.{idle}
use Rattle.scc_states_path_laws.proofs.Codes.{MustWait, must_wait-append, or_parts, or_left, or_right, opens-append, opens-numbered, idle-append}
use Rattle.scc_states_path_laws.proofs.Alive.{or_true, then_leaves, ends_then, leaves_first, leaves_then, all, loop_waits}
use Rattle.scc_states_path_laws.proofs.Appended.{cut-append, ap₂}
use Rattle.scc_states_path_laws.proofs.Exits.{same_below}

idle_below : (x : Code) (d j : ℕ) → opens d x ≡ false → (idle x).leaves j ≡ true → j < d
idle_below End d j o h = absurd cc
idle_below (Put p l k e r) d j o h = idle_below r d j o h
idle_below (Aim p to t r) d j o h = idle_below r d j o h
idle_below (If p t a b r) d j o h =
    let oa = or_parts (opens d a) (opens d b || opens d r) o in
    let ob = or_parts (opens d b) (opens d r) oa.1 in
    by (idle_below a d j oa.0) (idle_below b d j ob.0) (idle_below r d j ob.1) (then_leaves ((idle a).ends || (idle b).ends) (λ n. (idle a).leaves n || (idle b).leaves n) (idle r) j h)
  where
    two : ((idle a).leaves j ≡ true → j < d) → ((idle b).leaves j ≡ true → j < d) → ((idle a).leaves j ≡ true) ⊎ ((idle b).leaves j ≡ true) → j < d
    two f g (inl u) = f u
    two f g (inr u) = g u

    by : ((idle a).leaves j ≡ true → j < d) → ((idle b).leaves j ≡ true → j < d) → ((idle r).leaves j ≡ true → j < d)
        → (((idle a).leaves j || (idle b).leaves j) ≡ true) ⊎ ((((idle a).ends || (idle b).ends) ≡ true) × ((idle r).leaves j ≡ true)) → j < d
    by f g k (inl u) = two f g (or_true ((idle a).leaves j) ((idle b).leaves j) u)
    by f g k (inr u) = k u.1
idle_below (Block p b r) d j o h =
    let ob = or_parts (opens (suc d) b) (opens d r) o in
    by (idle_below b (suc d) (suc j) ob.0) (idle_below r d j ob.1) (then_leaves ((idle b).ends || (idle b).leaves 0) (λ n. (idle b).leaves (suc n)) (idle r) j h)
  where
    by : ((idle b).leaves (suc j) ≡ true → suc j < suc d) → ((idle r).leaves j ≡ true → j < d) → ((idle b).leaves (suc j) ≡ true) ⊎ ((((idle b).ends || (idle b).leaves 0) ≡ true) × ((idle r).leaves j ≡ true)) → j < d
    by f g (inl u) = let lt = f u in omega arith
    by f g (inr u) = g u.1
idle_below (Loop p n b r) d j o h = idle_below b d j (or_parts (opens d b) (opens d r) o).0 h
idle_below (Exit p n r) d j o h = same_below j n d h (not-false _ (or_parts (not (nat_lt n d)) (opens d r) o).0)
idle_below (Wait p l n r) d j o h = absurd cc

-- some path goes out
abbrev Out : Alive → Type 0
Out x = (x.ends ≡ true) ⊎ ((j : ℕ) × (x.leaves j ≡ true))

module _ (cs : Cells) where
  out_then : (e : Bool) (x y : Alive) (d : ℕ) → x.ends ≡ e → MustWait (then_alive e x y).code → opens d (then_alive e x y).code ≡ false
      → (MustWait x.code → opens d x.code ≡ false → Out x) → (MustWait y.code → opens d y.code ≡ false → Out y) → Out (then_alive e x y)
  out_then true x y d is m o f g = by (g (must_wait-append x.code y.code m).1 (opens-append x.code y.code d o).1)
    where
      by : Out y → Out (then_alive true x y)
      by (inl u) = inl u
      by (inr u) = inr (u.0, or_right (x.leaves u.0) (y.leaves u.0) u.1)
  out_then false x y d is m o f g = f m o

  out_if : (g : Option Bool) (p : Place) (t : Term) (x y : Alive) (d : ℕ) → MustWait (by_test g p t x y).code → opens d (by_test g p t x y).code ≡ false
      → (MustWait x.code → opens d x.code ≡ false → Out x) → (MustWait y.code → opens d y.code ≡ false → Out y) → Out (by_test g p t x y)
  out_if (Some true) p t x y d m o f g = f m o
  out_if (Some false) p t x y d m o f g = g m o
  out_if None p t x y d m o f g = by (f m.0 (or_parts (opens d x.code) (opens d y.code || false) o).0)
    where
      by : Out x → Out (by_test None p t x y)
      by (inl u) = inl (or_left x.ends y.ends u)
      by (inr u) = inr (u.0, or_left (x.leaves u.0) (y.leaves u.0) u.1)

  out_shut : (p : Place) (x : Alive) → Out x → Out (shut p x)
  out_shut p x (inl u) = inl (or_left x.ends (x.leaves 0) u)
  out_shut p x (inr u) = by u.0 u.1
    where
      by : (j : ℕ) → x.leaves j ≡ true → Out (shut p x)
      by zero h = inl (or_right x.ends (x.leaves 0) h)
      by (suc j) h = inr (j, h)

  out_loop : (e : Bool) (p : Place) (n : Option Count) (b : Code) (d : ℕ) → (alive cs b).ends ≡ e → MustWait (looped e p n (alive cs b)).code → opens d (looped e p n (alive cs b)).code ≡ false
      → (MustWait (live cs b) → opens d (live cs b) ≡ false → Out (alive cs b)) → Out (looped e p n (alive cs b))
  out_loop true p n b d is m o f = absurd (loop_waits cs b d is m.0 (or_parts (opens d (live cs b)) false o).0)
  out_loop false p n b d is m o f = f m o

  out : (c : Code) (d : ℕ) → MustWait (live cs c) → opens d (live cs c) ≡ false → Out (alive cs c)
  out End d m o = inl refl
  out (Put p l k e r) d m o = out r d m o
  out (Aim p to t r) d m o = out r d m o
  out (If p t x y r) d m o =
      let u = by_test (goes cs t) p t (alive cs x) (alive cs y) in
      out_then u.ends u (alive cs r) d refl m o (λ m' o'. out_if (goes cs t) p t (alive cs x) (alive cs y) d m' o' (out x d) (out y d)) (out r d)
  out (Block p b r) d m o =
      out_then (shut p (alive cs b)).ends (shut p (alive cs b)) (alive cs r) d refl m o (λ m' o'. out_shut p (alive cs b) (out b (suc d) m'.0 (or_parts (opens (suc d) (live cs b)) false o').0)) (out r d)
  out (Loop p n b r) d m o = out_loop (alive cs b).ends p n b d refl m o (out b d)
  out (Exit p n r) d m o = inr (n, eq n)
    where
      eq : (n : ℕ) → nat_eq n n ≡ true
      eq n = grind arith
  out (Wait p l n r) d m o = absurd cc

  -- code that leaves no open block comes to its end; a block's body to its end or out of the block
  passes : (c : Code) → MustWait (live cs c) → opens 0 (live cs c) ≡ false → (idle (live cs c)).ends ≡ true
  passes c m o = by (out c 0 m o)
    where
      by : Out (alive cs c) → (idle (live cs c)).ends ≡ true
      by (inl u) = (all cs c 0 o).ends u
      by (inr u) = absurd (omega (arith, idle_below (live cs c) 0 u.0 o ((all cs c 0 o).leaves u.0 u.1)))

  passes_block : (c : Code) → MustWait (live cs c) → opens 1 (live cs c) ≡ false → ((idle (live cs c)).ends || (idle (live cs c)).leaves 0) ≡ true
  passes_block c m o = by (out c 1 m o)
    where
      at : (j : ℕ) → j < 1 → (idle (live cs c)).leaves j ≡ true → (idle (live cs c)).leaves 0 ≡ true
      at zero lt h = h
      at (suc j) lt h = absurd (omega arith)

      by : Out (alive cs c) → ((idle (live cs c)).ends || (idle (live cs c)).leaves 0) ≡ true
      by (inl u) = or_left (idle (live cs c)).ends ((idle (live cs c)).leaves 0) ((all cs c 1 o).ends u)
      by (inr u) = let h = (all cs c 1 o).leaves u.0 u.1 in or_right (idle (live cs c)).ends ((idle (live cs c)).leaves 0) (at u.0 (idle_below (live cs c) 1 u.0 o h) h)

  same_then : (e : Bool) (u y : Alive) (n : ℕ) (s s' : Segment) (o o' : List Segment) → MustWait (then_alive e u y).code
      → ((idle (then_alive e u y).code).ends ≡ true → s ≡ s') → ((j : ℕ) → (idle (then_alive e u y).code).leaves j ≡ true → behind j o ≡ behind j o')
      → ((t t' : Segment) → MustWait u.code → ((idle u.code).ends ≡ true → t ≡ t') → ((j : ℕ) → (idle u.code).leaves j ≡ true → behind j o ≡ behind j o') → segment (numbered n u.code) t o ≡ segment (numbered n u.code) t' o')
      → ((m : ℕ) → MustWait y.code → ((idle y.code).ends ≡ true → s ≡ s') → ((j : ℕ) → (idle y.code).leaves j ≡ true → behind j o ≡ behind j o') → segment (numbered m y.code) s o ≡ segment (numbered m y.code) s' o')
      → segment (numbered n (then_alive e u y).code) s o ≡ segment (numbered n (then_alive e u y).code) s' o'
  same_then true u y n s s' o o' m f g front rest =
      let m' = must_wait-append u.code y.code m in
      let back = sym (idle-append u.code y.code) in
      let n' = n + waits_in u.code in
      cut-append u.code y.code n s o
      ∙ (front (segment (numbered n' y.code) s o) (segment (numbered n' y.code) s' o') m'.0
      (λ i. rest n' m'.1 (λ i'. f (subst (λ z. z.ends ≡ true) back (ends_then (idle u.code).ends (idle u.code).leaves (idle y.code) i i'))) (λ j i'. g j (subst (λ z. z.leaves j ≡ true) back (leaves_then (idle u.code).ends (idle u.code).leaves (idle y.code) j i i'))))
      (λ j i. g j (subst (λ z. z.leaves j ≡ true) back (leaves_first (idle u.code).ends (idle u.code).leaves (idle y.code) j i)))
      ∙ sym (cut-append u.code y.code n s' o'))
  same_then false u y n s s' o o' m f g front rest = front s s' m f g

  same_opened : (b : Bool) (x x' z z' : Segment) → (b ≡ true → x ≡ x') → (b ≡ false → z ≡ z') → opened b x z ≡ opened b x' z'
  same_opened true x x' z z' f g = f refl
  same_opened false x x' z z' f g = g refl

  same_if : (g : Option Bool) (p : Place) (t : Term) (x y : Code) (n : ℕ) (s s' : Segment) (o o' : List Segment) → MustWait (by_test g p t (alive cs x) (alive cs y)).code
      → ((idle (by_test g p t (alive cs x) (alive cs y)).code).ends ≡ true → s ≡ s') → ((j : ℕ) → (idle (by_test g p t (alive cs x) (alive cs y)).code).leaves j ≡ true → behind j o ≡ behind j o')
      → ((m : ℕ) → MustWait (live cs x) → ((idle (live cs x)).ends ≡ true → s ≡ s') → ((j : ℕ) → (idle (live cs x)).leaves j ≡ true → behind j o ≡ behind j o') → segment (numbered m (live cs x)) s o ≡ segment (numbered m (live cs x)) s' o')
      → ((m : ℕ) → MustWait (live cs y) → ((idle (live cs y)).ends ≡ true → s ≡ s') → ((j : ℕ) → (idle (live cs y)).leaves j ≡ true → behind j o ≡ behind j o') → segment (numbered m (live cs y)) s o ≡ segment (numbered m (live cs y)) s' o')
      → segment (numbered n (by_test g p t (alive cs x) (alive cs y)).code) s o ≡ segment (numbered n (by_test g p t (alive cs x) (alive cs y)).code) s' o'
  same_if (Some true) p t x y n s s' o o' m f g ix iy = ix n m f g
  same_if (Some false) p t x y n s s' o o' m f g ix iy = iy n m f g
  same_if None p t x y n s s' o o' m f g ix iy =
      let X = numbered n (live cs x) in
      let n' = n + waits_in (live cs x) in
      let Y = numbered n' (live cs y) in
      let e : Bool = (idle (live cs x)).ends || (idle (live cs y)).ends in
      let lv : ℕ → Bool = λ j. (idle (live cs x)).leaves j || (idle (live cs y)).leaves j in
      let f' : e ≡ true → s ≡ s' = λ i. f (ends_then e lv (idle End) i refl) in
      let g' : (j : ℕ) → lv j ≡ true → behind j o ≡ behind j o' = λ j i. g j (leaves_first e lv (idle End) j i) in
      same_opened (opens 0 (If p t X Y End)) (Test p t (segment X s o) (segment Y s o)) (Test p t (segment X s' o') (segment Y s' o')) (Plain (If p t X Y End) s) (Plain (If p t X Y End) s')
      (λ b. ap₂ (Test p t) (ix n m.0 (λ i. f' (or_left (idle (live cs x)).ends (idle (live cs y)).ends i)) (λ j i. g' j (or_left ((idle (live cs x)).leaves j) ((idle (live cs y)).leaves j) i)))
      (iy n' m.1 (λ i. f' (or_right (idle (live cs x)).ends (idle (live cs y)).ends i)) (λ j i. g' j (or_right ((idle (live cs x)).leaves j) ((idle (live cs y)).leaves j) i))))
      (λ b. ap (Plain (If p t X Y End)) (f' (or_left (idle (live cs x)).ends (idle (live cs y)).ends (passes x m.0 (sym (opens-numbered (live cs x) 0 n) ∙ (or_parts (opens 0 X) (opens 0 Y || false) b).0)))))

  same_block : (p : Place) (b : Code) (n : ℕ) (s s' : Segment) (o o' : List Segment) → MustWait (live cs b)
      → ((idle (Block p (live cs b) End)).ends ≡ true → s ≡ s') → ((j : ℕ) → (idle (Block p (live cs b) End)).leaves j ≡ true → behind j o ≡ behind j o')
      → ((q q' : List Segment) → ((idle (live cs b)).ends ≡ true → s ≡ s') → ((j : ℕ) → (idle (live cs b)).leaves j ≡ true → behind j q ≡ behind j q') → segment (numbered n (live cs b)) s q ≡ segment (numbered n (live cs b)) s' q')
      → segment (numbered n (Block p (live cs b) End)) s o ≡ segment (numbered n (Block p (live cs b) End)) s' o'
  same_block p b n s s' o o' m f g ib =
      let X = numbered n (live cs b) in
      same_opened (opens 0 (Block p X End)) (segment X s (s ∷ o)) (segment X s' (s' ∷ o')) (Plain (Block p X End) s) (Plain (Block p X End) s')
      (λ u. ib (s ∷ o) (s' ∷ o') (λ i. f' (or_left (idle (live cs b)).ends ((idle (live cs b)).leaves 0) i)) g')
      (λ u. ap (Plain (Block p X End)) (f' (passes_block b m (sym (opens-numbered (live cs b) 1 n) ∙ (or_parts (opens 1 X) false u).0))))
    where
      f' : ((idle (live cs b)).ends || (idle (live cs b)).leaves 0) ≡ true → s ≡ s'
      f' i = f (ends_then ((idle (live cs b)).ends || (idle (live cs b)).leaves 0) (λ j. (idle (live cs b)).leaves (suc j)) (idle End) i refl)

      g' : (j : ℕ) → (idle (live cs b)).leaves j ≡ true → behind j (s ∷ o) ≡ behind j (s' ∷ o')
      g' zero i = f' (or_right (idle (live cs b)).ends ((idle (live cs b)).leaves 0) i)
      g' (suc j) i = g j (leaves_first ((idle (live cs b)).ends || (idle (live cs b)).leaves 0) (λ j. (idle (live cs b)).leaves (suc j)) (idle End) j i)

  same_loop : (e : Bool) (p : Place) (c : Option Count) (b : Code) (n : ℕ) (s s' : Segment) (o o' : List Segment) → (alive cs b).ends ≡ e → MustWait (looped e p c (alive cs b)).code
      → ((idle (looped e p c (alive cs b)).code).ends ≡ true → s ≡ s') → ((j : ℕ) → (idle (looped e p c (alive cs b)).code).leaves j ≡ true → behind j o ≡ behind j o')
      → ((t t' : Segment) → MustWait (live cs b) → ((idle (live cs b)).ends ≡ true → t ≡ t') → ((j : ℕ) → (idle (live cs b)).leaves j ≡ true → behind j o ≡ behind j o') → segment (numbered n (live cs b)) t o ≡ segment (numbered n (live cs b)) t' o')
      → segment (numbered n (looped e p c (alive cs b)).code) s o ≡ segment (numbered n (looped e p c (alive cs b)).code) s' o'
  same_loop true p c b n s s' o o' is m f g ib =
      let X = numbered n (live cs b) in
      same_opened (opens 0 (Loop p c X End)) (segment X Finish o) (segment X Finish o') (Plain (Loop p c X End) s) (Plain (Loop p c X End) s') (λ u. ib Finish Finish m.1 (λ i. refl) g)
      (λ u. absurd (loop_waits cs b 0 is m.0 (sym (opens-numbered (live cs b) 0 n) ∙ (or_parts (opens 0 X) false u).0)))
  same_loop false p c b n s s' o o' is m f g ib = ib s s' m f g

  pub segment_same : (c : Code) (n : ℕ) (s s' : Segment) (o o' : List Segment) → MustWait (live cs c) → ((idle (live cs c)).ends ≡ true → s ≡ s')
      → ((j : ℕ) → (idle (live cs c)).leaves j ≡ true → behind j o ≡ behind j o') → segment (numbered n (live cs c)) s o ≡ segment (numbered n (live cs c)) s' o'
  segment_same End n s s' o o' m f g = f refl
  segment_same (Put p l k e r) n s s' o o' m f g = ap (Plain (Put p l k e End)) (segment_same r n s s' o o' m f g)
  segment_same (Aim p to t r) n s s' o o' m f g = ap (Plain (Aim p to t End)) (segment_same r n s s' o o' m f g)
  segment_same (If p t x y r) n s s' o o' m f g =
      let u = by_test (goes cs t) p t (alive cs x) (alive cs y) in
      same_then u.ends u (alive cs r) n s s' o o' m f g
      (λ q q' mu fu gu. same_if (goes cs t) p t x y n q q' o o' mu fu gu (λ n' mx fx gx. segment_same x n' q q' o o' mx fx gx) (λ n' my fy gy. segment_same y n' q q' o o' my fy gy))
      (λ n' mr fr gr. segment_same r n' s s' o o' mr fr gr)
  segment_same (Block p b r) n s s' o o' m f g =
      same_then (shut p (alive cs b)).ends (shut p (alive cs b)) (alive cs r) n s s' o o' m f g
      (λ q q' mu fu gu. same_block p b n q q' o o' mu.0 fu gu (λ k k' fb gb. segment_same b n q q' k k' mu.0 fb gb))
      (λ n' mr fr gr. segment_same r n' s s' o o' mr fr gr)
  segment_same (Loop p c b r) n s s' o o' m f g = same_loop (alive cs b).ends p c b n s s' o o' refl m f g (λ q q' mb fb gb. segment_same b n q q' o o' mb fb gb)
  segment_same (Exit p d r) n s s' o o' m f g = g d (eq d)
    where
      eq : (n : ℕ) → nat_eq n n ≡ true
      eq n = grind arith
  segment_same (Wait p l c r) n s s' o o' m f g = refl
