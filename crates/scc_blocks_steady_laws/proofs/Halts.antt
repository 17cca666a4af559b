-- The waits in the segments of a thread are those of its live body, and each is for one edge at least.
use Rattle.std.proofs.Common.{◌≡◌, ◌<◌, ◌+◌, ℕ, zero, suc, Bool, true, false, ◌&&◌, List, [], ◌∷◌, ◌++◌, length, Option, Some, None, refl, ap, ◌∙◌, subst, slice_get, arith}
use Rattle.std.specs.Prelude.{nat_lt}
use Rattle.scc_base.specs.declared.refusal.Place.{Place}
use Rattle.scc_core_spec.specs.Term.{Term}
use Rattle.scc_core_spec.specs.Code.{Code, Count, End, Put, Aim, If, Block, Loop, Exit, Wait, append, numbered, waits_in}
use Rattle.scc_core_spec.specs.Fit.{fit_term, fit_put, fit_code}
use Rattle.scc_core_spec.specs.Live.{Alive, alive, live, then_alive, by_test, looped, shut}
use Rattle.scc_core_spec.specs.Program.{Process}
use Rattle.scc_core_spec.specs.Segments.{Segment, Plain, Test, Halt, Finish, opens, opened, behind, segment, segments, all_segments, counts}
use Rattle.scc_core_spec.specs.Sizes.{live_body}
use Rattle.scc_core_spec.specs.Static.{Cells, goes}
use Rattle.scc_core_resolved_laws.proofs.Bools.{and-first, and-second, nat_lt-is}

-- ---- counts

pub length-two : {A : Type 0} (xs ys : List A) → length (xs ++ ys) ≡ length xs + length ys
length-two [] ys = omega arith
length-two (x ∷ xs) ys = let e = length-two xs ys in omega (arith, e)

pub length-counts : (c : Code) → length (counts c) ≡ waits_in c
length-counts End = refl
length-counts (Put p l k e r) = length-counts r
length-counts (Aim p to t r) = length-counts r
length-counts (If p t a b r) =
    let x = length-two (counts a) (counts b ++ counts r) in let y = length-two (counts b) (counts r) in
    let u = length-counts a in let v = length-counts b in let w = length-counts r in omega (arith, x, y, u, v, w)
length-counts (Block p b r) = let x = length-two (counts b) (counts r) in let v = length-counts b in let w = length-counts r in omega (arith, x, v, w)
length-counts (Loop p n b r) = let x = length-two (counts b) (counts r) in let v = length-counts b in let w = length-counts r in omega (arith, x, v, w)
length-counts (Exit p n r) = length-counts r
length-counts (Wait p l n r) = let w = length-counts r in omega (arith, w)

pub counts-numbered : (c : Code) (m : ℕ) → counts (numbered m c) ≡ counts c
counts-numbered End m = refl
counts-numbered (Put p l k e r) m = counts-numbered r m
counts-numbered (Aim p to t r) m = counts-numbered r m
counts-numbered (If p t a b r) m = λ i. counts-numbered a m i ++ (counts-numbered b (m + waits_in a) i ++ counts-numbered r (m + (waits_in a + waits_in b)) i)
counts-numbered (Block p b r) m = λ i. counts-numbered b m i ++ counts-numbered r (m + waits_in b) i
counts-numbered (Loop p n b r) m = λ i. counts-numbered b m i ++ counts-numbered r (m + waits_in b) i
counts-numbered (Exit p n r) m = counts-numbered r m
counts-numbered (Wait p l n r) m = ap (λ xs. n ∷ xs) (counts-numbered r (m + 1))

-- ---- each wait is for one edge at least

Positive : Code → Type 0
Positive End = Unit {0}
Positive (Put p l k e r) = Positive r
Positive (Aim p to t r) = Positive r
Positive (If p t a b r) = Positive a × Positive b × Positive r
Positive (Block p b r) = Positive b × Positive r
Positive (Loop p n b r) = Positive b × Positive r
Positive (Exit p n r) = Positive r
Positive (Wait p l n r) = (0 < n) × Positive r

positive-code : (cs : Cells) (q : Process) (c : Code) → fit_code cs q c ≡ true → Positive c
unfolding Positive
positive-code cs q End h = tt
positive-code cs q (Put p l k e r) h = positive-code cs q r (and-second (fit_put cs q l k e) (fit_code cs q r) h)
positive-code cs q (Aim p to t r) h = absurd cc
positive-code cs q (If p t a b r) h =
    let x = and-second (fit_term cs q t) (fit_code cs q a && (fit_code cs q b && fit_code cs q r)) h in
    let y = and-second (fit_code cs q a) (fit_code cs q b && fit_code cs q r) x in
    (positive-code cs q a (and-first (fit_code cs q a) (fit_code cs q b && fit_code cs q r) x), positive-code cs q b (and-first (fit_code cs q b) (fit_code cs q r) y), positive-code cs q r (and-second (fit_code cs q b) (fit_code cs q r) y))
positive-code cs q (Block p b r) h = (positive-code cs q b (and-first (fit_code cs q b) (fit_code cs q r) h), positive-code cs q r (and-second (fit_code cs q b) (fit_code cs q r) h))
positive-code cs q (Loop p n b r) h = (positive-code cs q b (and-first (fit_code cs q b) (fit_code cs q r) h), positive-code cs q r (and-second (fit_code cs q b) (fit_code cs q r) h))
positive-code cs q (Exit p n r) h = positive-code cs q r h
positive-code cs q (Wait p l n r) h = (nat_lt-is 0 n (and-first (nat_lt 0 n) (fit_code cs q r) h), positive-code cs q r (and-second (nat_lt 0 n) (fit_code cs q r) h))

positive-append : (c d : Code) → Positive c → Positive d → Positive (append c d)
unfolding Positive
positive-append End d f g = g
positive-append (Put p l k e r) d f g = positive-append r d f g
positive-append (Aim p to t r) d f g = positive-append r d f g
positive-append (If p t a b r) d f g = (f.0, f.1, positive-append r d f.2 g)
positive-append (Block p b r) d f g = (f.0, positive-append r d f.1 g)
positive-append (Loop p n b r) d f g = (f.0, positive-append r d f.1 g)
positive-append (Exit p n r) d f g = positive-append r d f g
positive-append (Wait p l n r) d f g = (f.0, positive-append r d f.1 g)

positive-then : (e : Bool) (x y : Alive) → Positive x.code → Positive y.code → Positive (then_alive e x y).code
positive-then true x y f g = positive-append x.code y.code f g
positive-then false x y f g = f

positive-if : (g : Option Bool) (p : Place) (t : Term) (x y : Alive) → Positive x.code → Positive y.code → Positive (by_test g p t x y).code
unfolding Positive
positive-if (Some true) p t x y f g = f
positive-if (Some false) p t x y f g = g
positive-if None p t x y f g = (f, g, tt)

positive-loop : (e : Bool) (p : Place) (n : Option Count) (x : Alive) → Positive x.code → Positive (looped e p n x).code
unfolding Positive
positive-loop true p n x f = (f, tt)
positive-loop false p n x f = f

positive-live : (cs : Cells) (c : Code) → Positive c → Positive (live cs c)
unfolding Positive
positive-live cs End f = tt
positive-live cs (Put p l k e r) f = positive-live cs r f
positive-live cs (Aim p to t r) f = positive-live cs r f
positive-live cs (If p t a b r) f =
    let x = by_test (goes cs t) p t (alive cs a) (alive cs b) in
    positive-then x.ends x (alive cs r) (positive-if (goes cs t) p t (alive cs a) (alive cs b) (positive-live cs a f.0) (positive-live cs b f.1)) (positive-live cs r f.2)
positive-live cs (Block p b r) f = positive-then (shut p (alive cs b)).ends (shut p (alive cs b)) (alive cs r) (positive-live cs b f.0, tt) (positive-live cs r f.1)
positive-live cs (Loop p n b r) f = positive-loop (alive cs b).ends p n (alive cs b) (positive-live cs b f.0)
positive-live cs (Exit p n r) f = tt
positive-live cs (Wait p l n r) f = (f.0, positive-live cs r f.1)

-- ---- the waits of segments

get-first : {A : Type 0} (xs ys : List A) (n : ℕ) (x : A) → slice_get xs n ≡ Some x → slice_get (xs ++ ys) n ≡ Some x
get-first [] ys n x e = absurd cc
get-first (y ∷ xs) ys zero x e = e
get-first (y ∷ xs) ys (suc n) x e = get-first xs ys n x e

get-second : {A : Type 0} (xs ys : List A) (n : ℕ) (x : A) → slice_get ys n ≡ Some x → slice_get (xs ++ ys) (length xs + n) ≡ Some x
get-second [] ys n x e = ap (slice_get ys) same ∙ e
  where
    same : 0 + n ≡ n
    same = omega arith
get-second (y ∷ xs) ys n x e = ap (slice_get (y ∷ (xs ++ ys))) same ∙ get-second xs ys n x e
  where
    same : suc (length xs) + n ≡ suc (length xs + n)
    same = omega arith

module _ (table : List ℕ) where
  abbrev pub HaltsIn : Segment → Type 0
  HaltsIn (Plain c s) = HaltsIn s
  HaltsIn (Test p t s u) = HaltsIn s × HaltsIn u
  HaltsIn (Halt p n count) = (slice_get table n ≡ Some count) × (0 < count)
  HaltsIn Finish = Unit {0}

  abbrev AllHalt : List Segment → Type 0
  AllHalt [] = Unit {0}
  AllHalt (s ∷ ss) = HaltsIn s × AllHalt ss

  -- the counts stand in the table from m on
  abbrev Stands : ℕ → List ℕ → Type 0
  Stands m xs = (k x : ℕ) → slice_get xs k ≡ Some x → slice_get table (m + k) ≡ Some x

  stands-first : (m : ℕ) (xs ys : List ℕ) → Stands m (xs ++ ys) → Stands m xs
  stands-first m xs ys h k x e = h k x (get-first xs ys k x e)

  stands-second : (m n : ℕ) (xs ys : List ℕ) → length xs ≡ n → Stands m (xs ++ ys) → Stands (m + n) ys
  stands-second m n xs ys l h k x e = ap (slice_get table) same ∙ h (length xs + k) x (get-second xs ys k x e)
    where
      same : (m + n) + k ≡ m + (length xs + k)
      same = omega (arith, l)

  all-both : (xs ys : List Segment) → AllHalt xs → AllHalt ys → AllHalt (xs ++ ys)
  all-both [] ys f g = g
  all-both (x ∷ xs) ys f g = (f.0, all-both xs ys f.1 g)

  opened-halts : (b : Bool) (s u : Segment) → HaltsIn s → HaltsIn u → HaltsIn (opened b s u)
  opened-halts true s u f g = f
  opened-halts false s u f g = g

  behind-halts : (n : ℕ) (ss : List Segment) → AllHalt ss → HaltsIn (behind n ss)
  behind-halts n [] f = tt
  behind-halts zero (s ∷ ss) f = f.0
  behind-halts (suc n) (s ∷ ss) f = behind-halts n ss f.1

  -- where the counts of the parts stand
  rest-if : (m : ℕ) (a b r : Code) → Stands m (counts a ++ (counts b ++ counts r)) → Stands m (counts a) × Stands (m + waits_in a) (counts b) × Stands (m + (waits_in a + waits_in b)) (counts r)
  rest-if m a b r h =
      let two = stands-second m (waits_in a) (counts a) (counts b ++ counts r) (length-counts a) h in
      let last = stands-second (m + waits_in a) (waits_in b) (counts b) (counts r) (length-counts b) two in
      (stands-first m (counts a) (counts b ++ counts r) h, stands-first (m + waits_in a) (counts b) (counts r) two, subst (λ n. Stands n (counts r)) same last)
    where
      same : (m + waits_in a) + waits_in b ≡ m + (waits_in a + waits_in b)
      same = omega arith

  segment-halts : (c : Code) (m : ℕ) (next : Segment) (outer : List Segment) → Positive c → Stands m (counts c) → HaltsIn next → AllHalt outer → HaltsIn (segment (numbered m c) next outer)
  unfolding Positive
  segment-halts End m next outer f h g o = g
  segment-halts (Put p l k e r) m next outer f h g o = segment-halts r m next outer f h g o
  segment-halts (Aim p to t r) m next outer f h g o = segment-halts r m next outer f h g o
  segment-halts (If p t a b r) m next outer f h g o =
      let s = rest-if m a b r h in
      let a' = numbered m a in let b' = numbered (m + waits_in a) b in
      let rest = segment (numbered (m + (waits_in a + waits_in b)) r) next outer in
      let z = segment-halts r (m + (waits_in a + waits_in b)) next outer f.2 s.2 g o in
      opened-halts (opens 0 (If p t a' b' End)) (Test p t (segment a' rest outer) (segment b' rest outer)) (Plain (If p t a' b' End) rest)
      (segment-halts a m rest outer f.0 s.0 z o, segment-halts b (m + waits_in a) rest outer f.1 s.1 z o) z
  segment-halts (Block p b r) m next outer f h g o =
      let b' = numbered m b in
      let rest = segment (numbered (m + waits_in b) r) next outer in
      let z = segment-halts r (m + waits_in b) next outer f.1 (stands-second m (waits_in b) (counts b) (counts r) (length-counts b) h) g o in
      opened-halts (opens 0 (Block p b' End)) (segment b' rest (rest ∷ outer)) (Plain (Block p b' End) rest) (segment-halts b m rest (rest ∷ outer) f.0 (stands-first m (counts b) (counts r) h) z (z, o)) z
  segment-halts (Loop p n b r) m next outer f h g o =
      let b' = numbered m b in
      let z = segment-halts r (m + waits_in b) next outer f.1 (stands-second m (waits_in b) (counts b) (counts r) (length-counts b) h) g o in
      opened-halts (opens 0 (Loop p n b' End)) (segment b' Finish outer) (Plain (Loop p n b' End) (segment (numbered (m + waits_in b) r) next outer)) (segment-halts b m Finish outer f.0 (stands-first m (counts b) (counts r) h) tt o) z
  segment-halts (Exit p n r) m next outer f h g o = behind-halts n outer o
  segment-halts (Wait p l n r) m next outer f h g o = (ap (slice_get table) first ∙ h 0 n refl, f.0)
    where
      first : m ≡ m + 0
      first = omega arith

  segments-halt : (c : Code) (m : ℕ) (next : Segment) (outer : List Segment) → Positive c → Stands m (counts c) → HaltsIn next → AllHalt outer → AllHalt (segments (numbered m c) next outer)
  unfolding Positive
  segments-halt End m next outer f h g o = tt
  segments-halt (Put p l k e r) m next outer f h g o = segments-halt r m next outer f h g o
  segments-halt (Aim p to t r) m next outer f h g o = segments-halt r m next outer f h g o
  segments-halt (If p t a b r) m next outer f h g o =
      let s = rest-if m a b r h in
      let a' = numbered m a in let b' = numbered (m + waits_in a) b in
      let r' = numbered (m + (waits_in a + waits_in b)) r in
      let rest = segment r' next outer in
      let z = segment-halts r (m + (waits_in a + waits_in b)) next outer f.2 s.2 g o in
      all-both (segments a' rest outer) (segments b' rest outer ++ segments r' next outer) (segments-halt a m rest outer f.0 s.0 z o)
      (all-both (segments b' rest outer) (segments r' next outer) (segments-halt b (m + waits_in a) rest outer f.1 s.1 z o) (segments-halt r (m + (waits_in a + waits_in b)) next outer f.2 s.2 g o))
  segments-halt (Block p b r) m next outer f h g o =
      let r' = numbered (m + waits_in b) r in
      let rest = segment r' next outer in
      let there = stands-second m (waits_in b) (counts b) (counts r) (length-counts b) h in
      let z = segment-halts r (m + waits_in b) next outer f.1 there g o in
      all-both (segments (numbered m b) rest (rest ∷ outer)) (segments r' next outer) (segments-halt b m rest (rest ∷ outer) f.0 (stands-first m (counts b) (counts r) h) z (z, o)) (segments-halt r (m + waits_in b) next outer f.1 there g o)
  segments-halt (Loop p n b r) m next outer f h g o =
      let whole = segment (numbered m (Loop p n b r)) next outer in
      let r' = numbered (m + waits_in b) r in
      all-both (segments (numbered m b) whole outer) (segments r' next outer)
      (segments-halt b m whole outer f.0 (stands-first m (counts b) (counts r) h) (segment-halts (Loop p n b r) m next outer f h g o) o)
      (segments-halt r (m + waits_in b) next outer f.1 (stands-second m (waits_in b) (counts b) (counts r) (length-counts b) h) g o)
  segments-halt (Exit p n r) m next outer f h g o = segments-halt r m next outer f h g o
  segments-halt (Wait p l n r) m next outer f h g o = (segment-halts r (m + 1) next outer f.1 later g o, segments-halt r (m + 1) next outer f.1 later g o)
    where
      later : Stands (m + 1) (counts r)
      later k x e = ap (slice_get table) same ∙ h (suc k) x e
        where
          same : (m + 1) + k ≡ m + suc k
          same = omega arith

  halts-at : (ss : List Segment) (n : ℕ) (s : Segment) → AllHalt ss → slice_get ss n ≡ Some s → HaltsIn s
  halts-at [] n s f e = absurd cc
  halts-at (x ∷ ss) zero s f e = subst HaltsIn (same e) f.0
    where
      same : Some x ≡ Some s → x ≡ s
      same z = cc
  halts-at (x ∷ ss) (suc n) s f e = halts-at ss n s f.1 e

-- each segment of a thread's live body comes to waits of it
pub segment-waits : (cs : Cells) (q : Process) (n : ℕ) (s : Segment) → fit_code cs q q.body ≡ true → slice_get (all_segments (live_body cs q.body)) n ≡ Some s → HaltsIn (counts (live_body cs q.body)) s
segment-waits cs q n s fit e =
    halts-at table (all_segments (live_body cs q.body)) n s (segment-halts table (live cs q.body) 0 Finish [] positive there tt tt, segments-halt table (live cs q.body) 0 Finish [] positive there tt tt) e
  where
    table : List ℕ
    table = counts (live_body cs q.body)

    positive : Positive (live cs q.body)
    positive = positive-live cs q.body (positive-code cs q q.body fit)

    there : (k x : ℕ) → slice_get (counts (live cs q.body)) k ≡ Some x → slice_get table (0 + k) ≡ Some x
    there k x h = ap (slice_get table) same ∙ (ap (λ xs. slice_get xs k) (counts-numbered (live cs q.body) 0) ∙ h)
      where
        same : 0 + k ≡ k
        same = omega arith
