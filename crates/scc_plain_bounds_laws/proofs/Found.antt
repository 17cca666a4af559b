-- Calls of which no two have one number are found by their numbers.
use Rattle.std.proofs.Common.{◌≡◌, ℕ, ◌+◌, ◌≤◌, Bool, true, false, ◌&&◌, nat_eq, Option, Some, None, if◌then◌else◌, refl, sym, ap, ◌∙◌, subst, arith}
use Rattle.scc_core_spec.specs.Counted.{is_it}
use Rattle.scc_elab_spec.specs.Program.{Code, End, Declare, Assign, Point, Write, Call, If, Loop, Block, Exit, Return, Wait, Make, Bind, Process, Sensitive, Quiet, Reset}
use Rattle.scc_elab_spec.specs.Numbering.{callee}
use Rattle.scc_plain_bounds_laws.specs.Bounds.{finds, one, times}
use Rattle.scc_plain_bounds_laws.proofs.Bounded.{both}

self : (n : ℕ) → nat_eq n n ≡ true
self n = grind arith

turned : (m n : ℕ) → nat_eq m n ≡ true → nat_eq n m ≡ true
turned m n e = grind (arith, e)

-- what is found occurs
occurs : (n f : ℕ) (c : Code) → callee c n ≡ Some f → 1 ≤ times n c
occurs n f End e = cc
occurs n f (Declare o m r) e = occurs n f r e
occurs n f (Assign o x k v r) e = occurs n f r e
occurs n f (Point o x t r) e = occurs n f r e
occurs n f (Write o x v r) e = occurs n f r e
occurs n f (Call o m g x args r) e = by (nat_eq m n) refl e (occurs n f r)
  where
    by : (b : Bool) → nat_eq m n ≡ b → (if b then Some g else callee r n) ≡ Some f → (callee r n ≡ Some f → 1 ≤ times n r) → 1 ≤ one (nat_eq n m) + times n r
    by true u e ih = subst (λ b. 1 ≤ one b + times n r) (sym (turned m n u)) (omega arith)
    by false u e ih = let x = ih e in omega (arith, x)
occurs n f (If o t a b r) e = by (callee a n) refl (callee b n) refl (occurs n f a) (occurs n f b) (occurs n f r)
  where
    first : (g : ℕ) → callee a n ≡ Some g → callee (If o t a b r) n ≡ Some g
    first g u = rw u refl

    second : (g : ℕ) → callee a n ≡ None → callee b n ≡ Some g → callee (If o t a b r) n ≡ Some g
    second g u v = rw u (rw v refl)

    third : callee a n ≡ None → callee b n ≡ None → callee (If o t a b r) n ≡ callee r n
    third u v = rw u (rw v refl)

    by : (x : Option ℕ) → callee a n ≡ x → (y : Option ℕ) → callee b n ≡ y → (callee a n ≡ Some f → 1 ≤ times n a) → (callee b n ≡ Some f → 1 ≤ times n b) → (callee r n ≡ Some f → 1 ≤ times n r) → 1 ≤ times n a + (times n b + times n r)
    by (Some g) u y v ia ib ir = let z = ia (u ∙ (sym (first g u) ∙ e)) in omega (arith, z)
    by None u (Some g) v ia ib ir = let z = ib (v ∙ (sym (second g u v) ∙ e)) in omega (arith, z)
    by None u None v ia ib ir = let z = ir (sym (third u v) ∙ e) in omega (arith, z)
occurs n f (Loop o c b r) e = by (callee b n) refl (occurs n f b) (occurs n f r)
  where
    first : (g : ℕ) → callee b n ≡ Some g → callee (Loop o c b r) n ≡ Some g
    first g u = rw u refl

    second : callee b n ≡ None → callee (Loop o c b r) n ≡ callee r n
    second u = rw u refl

    by : (x : Option ℕ) → callee b n ≡ x → (callee b n ≡ Some f → 1 ≤ times n b) → (callee r n ≡ Some f → 1 ≤ times n r) → 1 ≤ times n b + times n r
    by (Some g) u ib ir = let z = ib (u ∙ (sym (first g u) ∙ e)) in omega (arith, z)
    by None u ib ir = let z = ir (sym (second u) ∙ e) in omega (arith, z)
occurs n f (Block o b r) e = by (callee b n) refl (occurs n f b) (occurs n f r)
  where
    first : (g : ℕ) → callee b n ≡ Some g → callee (Block o b r) n ≡ Some g
    first g u = rw u refl

    second : callee b n ≡ None → callee (Block o b r) n ≡ callee r n
    second u = rw u refl

    by : (x : Option ℕ) → callee b n ≡ x → (callee b n ≡ Some f → 1 ≤ times n b) → (callee r n ≡ Some f → 1 ≤ times n r) → 1 ≤ times n b + times n r
    by (Some g) u ib ir = let z = ib (u ∙ (sym (first g u) ∙ e)) in omega (arith, z)
    by None u ib ir = let z = ir (sym (second u) ∙ e) in omega (arith, z)
occurs n f (Exit o m r) e = occurs n f r e
occurs n f (Return o v r) e = occurs n f r e
occurs n f (Wait o m r) e = occurs n f r e
occurs n f (Make o x b args r) e = occurs n f r e
occurs n f (Bind o x t r) e = occurs n f r e
occurs n f (Process o t g v r) e = occurs n f r e
occurs n f (Sensitive o is r) e = occurs n f r e
occurs n f (Quiet o r) e = occurs n f r e
occurs n f (Reset o s v a r) e = occurs n f r e

module _ (look : ℕ → Option ℕ) where
  -- what is found in these statements is what is looked for
  abbrev Looks : Code → Type 0
  Looks c = (n f : ℕ) → callee c n ≡ Some f → look n ≡ Some f

  abbrev Once : Code → Type 0
  Once c = (n : ℕ) → times n c ≤ 1

  -- of two parts that have no number in common
  apart : (a b : Code) → ((n : ℕ) → times n a + times n b ≤ 1) → (n f : ℕ) → callee b n ≡ Some f → callee a n ≡ None
  apart a b few n f e = by (callee a n) refl
    where
      by : (o : Option ℕ) → callee a n ≡ o → callee a n ≡ None
      by None u = u
      by (Some g) u = absurd (let x = occurs n g a u in let y = occurs n f b e in let z = few n in never (times n a) (times n b) x y z)
        where
          never : (i j : ℕ) → 1 ≤ i → 1 ≤ j → i + j ≤ 1 → ⊥
          never i j x y z = omega (arith, x, y, z)

  block-looks : (b r : Code) → ((n : ℕ) → times n b + times n r ≤ 1) → (whole : Code) → ((n f : ℕ) → callee b n ≡ Some f → callee whole n ≡ Some f) → ((n : ℕ) → callee b n ≡ None → callee whole n ≡ callee r n) → Looks whole → Looks b × Looks r
  block-looks b r few whole first second h = ((λ n f e. h n f (first n f e)), (λ n f e. h n f (second n (apart b r few n f e) ∙ e)))

  finds-all : (c : Code) → Once c → Looks c → finds look c ≡ true
  finds-all End few h = refl
  finds-all (Declare o m r) few h = finds-all r few h
  finds-all (Assign o x k v r) few h = finds-all r few h
  finds-all (Point o x t r) few h = finds-all r few h
  finds-all (Write o x v r) few h = finds-all r few h
  finds-all (Call o m g x args r) few h =
      both (is_it g (look m)) (finds look r) (ap (is_it g) (h m g (ap (λ b. if b then Some g else callee r m) (self m))) ∙ self g)
      (finds-all r (λ n. let z = few n in omega (arith, z)) (λ n f e. by n f (nat_eq m n) refl e))
    where
      never : (b : Bool) (i : ℕ) → b ≡ true → one b + i ≤ 1 → 1 ≤ i → ⊥
      never true i u x y = omega (arith, x, y)
      never false i u x y = cc

      by : (n f : ℕ) (b : Bool) → nat_eq m n ≡ b → callee r n ≡ Some f → look n ≡ Some f
      by n f true u e = absurd (never (nat_eq n m) (times n r) (turned m n u) (few n) (occurs n f r e))
      by n f false u e = h n f (ap (λ b. if b then Some g else callee r n) u ∙ e)
  finds-all (If o t a b r) few h =
      both (finds look a) (finds look b && finds look r) (finds-all a (λ n. let z = few n in omega (arith, z)) (λ n f e. h n f (first n f e)))
      (both (finds look b) (finds look r) (finds-all b (λ n. let z = few n in omega (arith, z)) (λ n f e. h n f (second n f (apart a b (λ n. let z = few n in omega (arith, z)) n f e) e)))
      (finds-all r (λ n. let z = few n in omega (arith, z)) (λ n f e. h n f (third n (apart a r (λ n. let z = few n in omega (arith, z)) n f e) (apart b r (λ n. let z = few n in omega (arith, z)) n f e) ∙ e))))
    where
      first : (n g : ℕ) → callee a n ≡ Some g → callee (If o t a b r) n ≡ Some g
      first n g u = rw u refl

      second : (n g : ℕ) → callee a n ≡ None → callee b n ≡ Some g → callee (If o t a b r) n ≡ Some g
      second n g u v = rw u (rw v refl)

      third : (n : ℕ) → callee a n ≡ None → callee b n ≡ None → callee (If o t a b r) n ≡ callee r n
      third n u v = rw u (rw v refl)
  finds-all (Loop o c b r) few h =
      let l = block-looks b r few (Loop o c b r) first second h in
      both (finds look b) (finds look r) (finds-all b (λ n. let z = few n in omega (arith, z)) l.0) (finds-all r (λ n. let z = few n in omega (arith, z)) l.1)
    where
      first : (n g : ℕ) → callee b n ≡ Some g → callee (Loop o c b r) n ≡ Some g
      first n g u = rw u refl

      second : (n : ℕ) → callee b n ≡ None → callee (Loop o c b r) n ≡ callee r n
      second n u = rw u refl
  finds-all (Block o b r) few h =
      let l = block-looks b r few (Block o b r) first second h in
      both (finds look b) (finds look r) (finds-all b (λ n. let z = few n in omega (arith, z)) l.0) (finds-all r (λ n. let z = few n in omega (arith, z)) l.1)
    where
      first : (n g : ℕ) → callee b n ≡ Some g → callee (Block o b r) n ≡ Some g
      first n g u = rw u refl

      second : (n : ℕ) → callee b n ≡ None → callee (Block o b r) n ≡ callee r n
      second n u = rw u refl
  finds-all (Exit o m r) few h = finds-all r few h
  finds-all (Return o v r) few h = finds-all r few h
  finds-all (Wait o m r) few h = finds-all r few h
  finds-all (Make o x b args r) few h = finds-all r few h
  finds-all (Bind o x t r) few h = finds-all r few h
  finds-all (Process o t g v r) few h = finds-all r few h
  finds-all (Sensitive o is r) few h = finds-all r few h
  finds-all (Quiet o r) few h = finds-all r few h
  finds-all (Reset o s v a r) few h = finds-all r few h

pub finds-own : (c : Code) → ((n : ℕ) → times n c ≤ 1) → finds (callee c) c ≡ true
finds-own c few = finds-all (callee c) c few (λ n f e. e)
