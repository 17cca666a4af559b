-- Steps of a body and of its unrolled one side by side.
use Rattle.std.proofs.Common.{◌≡◌, ℕ, zero, suc, ◌+◌, ◌-◌, ◌*◌, ◌≤◌, Option, Some, None, option_map, option_and_then, refl, sym, ap, ◌∙◌, subst, arith}
use Rattle.scc_semantics.specs.Location.{Location}
use Rattle.scc_semantics.specs.Expressions.{Pick}
use Rattle.scc_semantics.specs.Places.{Places}
use Rattle.scc_semantics.specs.Scene.{Scene, followed}
use Rattle.scc_semantics.specs.Body as machine
use Rattle.scc_semantics.specs.Value.{Held, put_at}
use Rattle.scc_semantics.specs.Machine.{Frames, Outcome, Suspended, Ended, Stuck, Unfinished, unless_stuck, pointed_at}
use Rattle.scc_semantics_laws.specs.Words.{IsOver}
use Rattle.scc_semantics_laws.proofs.Bound.{run-later}
use Rattle.scc_core_unroll_laws.specs.Unrolling.{Around, Tells, IsKept, thrice, go, along, Keeps, Sim}

-- what an assignment comes to
abbrev pub putting : Places → Scene → Held → Option ℕ → Option (Option Location) → Pick → Option Held
putting places s a v l p = option_and_then (λ x. option_and_then (λ l. put_at (places.things l) s a l p x) (followed l)) v

pub unless-put : (places : Places) (s : Scene) (a : Held) (v : Option ℕ) (l : Option (Option Location)) (p : Pick) (next : Held → Outcome)
    → unless_stuck a v (λ x. unless_stuck a (followed l) (λ l. unless_stuck a (put_at (places.things l) s a l p x) next)) ≡ unless_stuck a (putting places s a v l p) next
unless-put places s a None l p next = refl
unless-put places s a (Some x) l p next = by (followed l)
  where
    by : (o : Option Location) → unless_stuck a o (λ l. unless_stuck a (put_at (places.things l) s a l p x) next) ≡ unless_stuck a (option_and_then (λ l. put_at (places.things l) s a l p x) o) next
    by None = refl
    by (Some l) = refl

-- what a pointer's statement comes to
abbrev pub aiming : Places → Held → Option (Option Location) → Option (Option Location) → Option Held
aiming places a t l = option_and_then (λ o. option_map (λ l. pointed_at (places.pointers l) a l o) (followed l)) t

pub unless-aim : (places : Places) (a : Held) (t l : Option (Option Location)) (next : Held → Outcome)
    → unless_stuck a t (λ o. unless_stuck a (followed l) (λ l. next (pointed_at (places.pointers l) a l o))) ≡ unless_stuck a (aiming places a t l) next
unless-aim places a None l next = refl
unless-aim places a (Some o) l next = by (followed l)
  where
    by : (u : Option Location) → unless_stuck a u (λ l. next (pointed_at (places.pointers l) a l o)) ≡ unless_stuck a (option_map (λ l. pointed_at (places.pointers l) a l o) u) next
    by None = refl
    by (Some l) = refl

-- n and s more
abbrev pub plus : ℕ → ℕ → ℕ
plus zero n = n
plus (suc s) n = suc (plus s n)

pub plus-is : (s n : ℕ) → plus s n ≡ s + n
plus-is zero n = omega arith
plus-is (suc s) n = let h = plus-is s n in omega (arith, h)

pub thrice-is : (n b : ℕ) → thrice n b ≡ 3 * n + b
thrice-is zero b = omega arith
thrice-is (suc n) b = let h = thrice-is n b in omega (arith, h)

pub not-over : (o : Outcome) → (IsOver o → ⊥) → o ≡ Unfinished
not-over (Suspended f a) h = absurd (h tt)
not-over (Ended a) h = absurd (h tt)
not-over (Stuck a) h = absurd (h tt)
not-over Unfinished h = refl

module _ (w : Around) where
  pub tells-more : (x y z y' z' : Outcome) → Tells w x y z → (IsOver z → z' ≡ z) → (y ≡ Unfinished → y' ≡ Unfinished) → Tells w x y' z'
  tells-more Unfinished y z y' z' t more un = un t
  tells-more (Suspended f a) y (Suspended g b) y' z' t more un = subst (λ z. Tells w (Suspended f a) y' z) (sym (more tt)) t
  tells-more (Ended a) y (Ended b) y' z' t more un = subst (λ z. Tells w (Ended a) y' z) (sym (more tt)) t
  tells-more (Stuck a) y (Stuck b) y' z' t more un = subst (λ z. Tells w (Stuck a) y' z) (sym (more tt)) t
  tells-more (Suspended f a) y (Ended b) y' z' t more un = absurd t
  tells-more (Suspended f a) y (Stuck b) y' z' t more un = absurd t
  tells-more (Suspended f a) y Unfinished y' z' t more un = absurd t
  tells-more (Ended a) y (Suspended g b) y' z' t more un = absurd t
  tells-more (Ended a) y (Stuck b) y' z' t more un = absurd t
  tells-more (Ended a) y Unfinished y' z' t more un = absurd t
  tells-more (Stuck a) y (Suspended g b) y' z' t more un = absurd t
  tells-more (Stuck a) y (Ended b) y' z' t more un = absurd t
  tells-more (Stuck a) y Unfinished y' z' t more un = absurd t

  module _ (signals : Location → ℕ) where
    -- s statements on one side and one on the other
    pub onward : (s n v u : ℕ) (f f' g g' : Frames) (a b : Held) → ((m : ℕ) → go w signals (plus s m) f a ≡ go w signals m g b) → 1 ≤ s → s + u ≤ 3 + v
        → go w signals (suc n) f' a ≡ go w signals n g' b → Sim w signals n u g g' b → Sim w signals (suc n) v f f' a
    onward s n v u f f' g g' a b there one few here sim =
        let N = thrice (suc n) v in
        let M = thrice n u in
        let hn : N ≡ 3 * (suc n) + v = thrice-is (suc n) v in
        let hm : M ≡ 3 * n + u = thrice-is n u in
        let le : s + M ≤ N = omega (arith, hn, hm, few) in
        let split : N ≡ s + (N - s) = omega (arith, le) in
        let at : N ≡ plus s (N - s) = split ∙ sym (plus-is s (N - s)) in
        let far : M ≤ N - s = omega (arith, le) in
        let rest : go w signals N f a ≡ go w signals (N - s) g b = ap (λ m. go w signals m f a) at ∙ there (N - s) in
        subst (λ x. Tells w x (go w signals (suc n) f a) (go w signals N f a)) (sym here)
        (tells-more (go w signals n g' b) (go w signals n g b) (go w signals M g b) (go w signals (suc n) f a) (go w signals N f a) sim
        (λ over. rest ∙ run-later w.places (λ f. machine.End) signals M (N - s) far g b over)
        (λ un. not-over (go w signals (suc n) f a) (λ over.
        let p = plus-is s n in
        let e : go w signals (plus s n) f a ≡ go w signals (suc n) f a = run-later w.places (λ f. machine.End) signals (suc n) (plus s n) (omega (arith, p, one)) f a over in
        subst IsOver (sym e ∙ there n ∙ un) over)))

    -- a statement that may be stuck, on both sides
    pub by-option : {A : Type 0} (od oe : Option A) → oe ≡ od → (g g' : A → Frames) (b : A → Held) (n v : ℕ) (f f' : Frames) (a : Held)
        → ((m : ℕ) → go w signals (suc m) f a ≡ unless_stuck a od (λ x. go w signals m (g x) (b x)))
        → ((m : ℕ) → go w signals (suc m) f' a ≡ unless_stuck a oe (λ x. go w signals m (g' x) (b x)))
        → ((m : ℕ) → along w signals (suc m) f' a ≡ unless_stuck a oe (λ x. along w signals m (g' x) (b x)))
        → Keeps w signals f' a
        → ((x : A) → od ≡ Some x → Keeps w signals (g' x) (b x) → Sim w signals n v (g x) (g' x) (b x)) → Sim w signals (suc n) v f f' a
    by-option {A} None oe e g g' b n v f f' a dn en ea keep next =
        let x : go w signals (suc n) f' a ≡ Stuck a = en n ∙ ap (λ o. unless_stuck a o (λ x. go w signals n (g' x) (b x))) e in
        let z : go w signals (thrice (suc n) v) f a ≡ Stuck a = dn (suc (suc (thrice n v))) in
        subst (λ x. Tells w x (go w signals (suc n) f a) (go w signals (thrice (suc n) v) f a)) (sym x)
        (subst (λ z. Tells w (Stuck a) (go w signals (suc n) f a) z) (sym z) refl)
    by-option {A} (Some x) oe e g g' b n v f f' a dn en ea keep next =
        onward 1 n v v f f' (g x) (g' x) a (b x) dn (omega arith) (omega arith) (en n ∙ ap (λ o. unless_stuck a o (λ x. go w signals n (g' x) (b x))) e)
        (next x refl (λ j. subst IsKept-at (ea j ∙ ap (λ o. unless_stuck a o (λ x. along w signals j (g' x) (b x))) e) (keep (suc j))))
      where
        IsKept-at : Outcome → Type 0
        IsKept-at o = IsKept w o
