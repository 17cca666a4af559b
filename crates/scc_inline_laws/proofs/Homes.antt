-- The numbers of processes lead each to a root of its own.
use Rattle.std.proofs.Common.{◌≡◌, ℕ, zero, suc, ◌+◌, ◌≤◌, ◌<◌, Bool, true, false, not, ◌||◌, cond, List, [], ◌∷◌, ◌++◌, length, filter, Option, Some, None, option_map, option_and_then, unwrap_or, slice_get, if◌then◌else◌, refl, sym, ap, ◌∙◌, subst, arith}
use Rattle.std.specs.List.{list_any, range_with_len}
use Rattle.std.proofs.lemmas.Option.{slice_get_within}
use Rattle.scc_bits_kinds.specs.declared.kind.Kind.{Kind}
use Rattle.scc_semantics.specs.Location.{Root, same_root, same_calls}
use Rattle.scc_semantics.specs.Location as location
use Rattle.scc_blocks_spec.specs.Passed.{IsHome}
use Rattle.scc_elab_spec.specs.Term.{Left, Local, Answer, This, Follow, Member, Index}
use Rattle.scc_elab_spec.specs.Program.{Code, End, Declare, Assign, Point, Write, Call, If, Loop, Block, Exit, Return, Wait, Make, Bind, Process, Sensitive, Quiet, Reset, Function, Plain}
use Rattle.scc_elab_spec.specs.Design as design
use Rattle.scc_elab_spec.specs.Design.{Design}
use Rattle.scc_elab_spec.specs.Numbering.{Calling, declares, body_declares, call_declares, first_locals, result_root, whole_local, once, numbered, levels}
use Rattle.scc_inline_spec.specs.Inlined.{home_of}
use Rattle.scc_inline_laws.specs.Orderly.{IsOrderlyCode, IsOrderlyLeft}
use Rattle.scc_inline_laws.specs.OrderlyDesign.{IsOrderly}
use Rattle.scc_inline_laws.proofs.Elements.{Each, each-append, each-map, each-range}
use Rattle.scc_inline_laws.proofs.Homed.{same_root-is}
use Rattle.scc_inline_laws.proofs.Listed.{IsIn, Lists, root-same, lists-once, lists-back, lists-local}
use Rattle.scc_inline_laws.proofs.Owned.{own-home, each-get}
use Rattle.scc_inline_laws.proofs.Found.{roots-apart}

-- what holds of all locals and results of calls inside
module _ (i k : ℕ) (P : Root → Type 0) (loc : (cs : List ℕ) → k ≤ length cs → (n : ℕ) → P (location.Local i cs n)) (ans : (cs : List ℕ) → k ≤ length cs → P (location.Answer i cs)) where
  walk-locals : (cs : List ℕ) → k ≤ length cs → (n : ℕ) → Each P (first_locals i cs n)
  walk-locals cs le n = each-map P (location.Local i cs) (range_with_len 0 n) (each-range (λ m. P (location.Local i cs m)) 0 n (λ m l. loc cs le m))

  walk-left : (cs : List ℕ) → k ≤ length cs → (l : Left) → Each P (whole_local i cs l)
  walk-left cs le (Local p n) = (loc cs le n, tt)
  walk-left cs le (Answer p n) = tt
  walk-left cs le (This p) = tt
  walk-left cs le (Follow p l) = tt
  walk-left cs le (Member l m) = tt
  walk-left cs le (Index l e) = tt

  walk-code : (call : Calling) → ((cs : List ℕ) → k ≤ length cs → (f : ℕ) → Each P (call cs f)) → (cs : List ℕ) → k ≤ length cs → (b : Code) → Each P (declares call i cs b)
  walk-code call o cs le End = tt
  walk-code call o cs le (Declare p n r) = (loc cs le n, walk-code call o cs le r)
  walk-code call o cs le (Assign p l k e r) = each-append P (whole_local i cs l) (declares call i cs r) (walk-left cs le l) (walk-code call o cs le r)
  walk-code call o cs le (Point p l t r) = each-append P (whole_local i cs l) (declares call i cs r) (walk-left cs le l) (walk-code call o cs le r)
  walk-code call o cs le (Write p l e r) = walk-code call o cs le r
  walk-code call o cs le (Call p n f x args r) = each-append P (call (n ∷ cs) f) (declares call i cs r) (o (n ∷ cs) (omega (arith, le)) f) (walk-code call o cs le r)
  walk-code call o cs le (If p t a b r) = each-append P (declares call i cs a) (declares call i cs b ++ declares call i cs r) (walk-code call o cs le a) (each-append P (declares call i cs b) (declares call i cs r) (walk-code call o cs le b) (walk-code call o cs le r))
  walk-code call o cs le (Loop p c b r) = each-append P (declares call i cs b) (declares call i cs r) (walk-code call o cs le b) (walk-code call o cs le r)
  walk-code call o cs le (Block p b r) = each-append P (declares call i cs b) (declares call i cs r) (walk-code call o cs le b) (walk-code call o cs le r)
  walk-code call o cs le (Exit p n r) = walk-code call o cs le r
  walk-code call o cs le (Return p v r) = walk-code call o cs le r
  walk-code call o cs le (Wait p n r) = walk-code call o cs le r
  walk-code call o cs le (Make p l b args r) = walk-code call o cs le r
  walk-code call o cs le (Bind p l t r) = walk-code call o cs le r
  walk-code call o cs le (Process p t f e r) = walk-code call o cs le r
  walk-code call o cs le (Sensitive p items r) = walk-code call o cs le r
  walk-code call o cs le (Quiet p r) = walk-code call o cs le r
  walk-code call o cs le (Reset p s e a r) = walk-code call o cs le r

  walk-result : (cs : List ℕ) → k ≤ length cs → (t : Option Kind) → Each P (result_root i cs t)
  walk-result cs le None = tt
  walk-result cs le (Some t) = (ans cs le, tt)

  walk-call : (p : Plain) (left : ℕ) (cs : List ℕ) → k ≤ length cs → (f : ℕ) → Each P (call_declares p i left cs f)
  walk-call p zero cs le f = tt
  walk-call p (suc left) cs le f = by (slice_get p.functions f) (λ g. walk-code (call_declares p i left) (walk-call p left) cs le g.body)
    where
      by : (o : Option Function) → ((g : Function) → Each P (declares (call_declares p i left) i cs g.body))
          → Each P (unwrap_or (option_map (λ f. result_root i cs f.result ++ (first_locals i cs f.params ++ body_declares (call_declares p i left) i cs f)) o) [])
      by None ih = tt
      by (Some g) ih = each-append P (result_root i cs g.result) (first_locals i cs g.params ++ body_declares (call_declares p i left) i cs g) (walk-result cs le g.result)
          (each-append P (first_locals i cs g.params) (body_declares (call_declares p i left) i cs g) (walk-locals cs le g.params)
          (each-append P (declares (call_declares p i left) i cs g.body) (first_locals i cs (length g.locals)) (ih g) (walk-locals cs le (length g.locals))))

-- locals of the process's own function are declared there
abbrev Declared : ℕ → ℕ → Root → Type 0
Declared i size r = (n : ℕ) → r ≡ location.Local i [] n → n < size

module _ (p : Plain) (i : ℕ) (g : Function) where
  deeper : (cs : List ℕ) → 1 ≤ length cs → (n : ℕ) → Declared i (length g.locals) (location.Local i cs n)
  deeper [] le n = absurd (omega (arith, le))
  deeper (c ∷ cs) le n = λ m e. cc

  deeper-answer : (cs : List ℕ) → 1 ≤ length cs → Declared i (length g.locals) (location.Answer i cs)
  deeper-answer cs le = λ m e. cc

  here-local : (n : ℕ) → n < length g.locals → Declared i (length g.locals) (location.Local i [] n)
  here-local n l = λ m e. let z : n ≡ m = cc in omega (arith, l, z)

  here-left : (l : Left) → IsOrderlyLeft p g l → Each (Declared i (length g.locals)) (whole_local i [] l)
  here-left (Local o n) x = (here-local n (slice_get_within g.locals n x.0 x.1), tt)
  here-left (Answer o n) x = tt
  here-left (This o) x = tt
  here-left (Follow o l) x = tt
  here-left (Member l m) x = tt
  here-left (Index l e) x = tt

  here-code : (d : ℕ) (b : Code) → IsOrderlyCode p g d b → Each (Declared i (length g.locals)) (declares (call_declares p i levels) i [] b)
  here-code d End x = tt
  here-code d (Declare o n r) x = (here-local n (slice_get_within g.locals n x.0.0 x.0.1), here-code d r x.1)
  here-code d (Assign o l k e r) x = each-append (Declared i (length g.locals)) (whole_local i [] l) (declares (call_declares p i levels) i [] r) (here-left l x.0) (here-code d r x.3)
  here-code d (Point o l t r) x = each-append (Declared i (length g.locals)) (whole_local i [] l) (declares (call_declares p i levels) i [] r) (here-left l x.0) (here-code d r x.2)
  here-code d (Write o l e r) x = here-code d r x.2
  here-code d (Call o n f u args r) x = each-append (Declared i (length g.locals)) (call_declares p i levels (n ∷ []) f) (declares (call_declares p i levels) i [] r) (walk-call i 1 (Declared i (length g.locals)) deeper deeper-answer p levels (n ∷ []) (omega arith) f) (here-code d r x.4)
  here-code d (If o t a b r) x = each-append (Declared i (length g.locals)) (declares (call_declares p i levels) i [] a) (declares (call_declares p i levels) i [] b ++ declares (call_declares p i levels) i [] r) (here-code d a x.1) (each-append (Declared i (length g.locals)) (declares (call_declares p i levels) i [] b) (declares (call_declares p i levels) i [] r) (here-code d b x.2) (here-code d r x.3))
  here-code d (Loop o n b r) x = each-append (Declared i (length g.locals)) (declares (call_declares p i levels) i [] b) (declares (call_declares p i levels) i [] r) (here-code d b x.0) (here-code d r x.1)
  here-code d (Block o b r) x = each-append (Declared i (length g.locals)) (declares (call_declares p i levels) i [] b) (declares (call_declares p i levels) i [] r) (here-code (suc d) b x.0) (here-code d r x.1)
  here-code d (Exit o n r) x = here-code d r x.1
  here-code d (Return o v r) x = here-code d r x.1
  here-code d (Wait o n r) x = here-code d r x
  here-code d (Make o l b args r) x = here-code d r x
  here-code d (Bind o l t r) x = here-code d r x
  here-code d (Process o t f e r) x = here-code d r x
  here-code d (Sensitive o items r) x = here-code d r x
  here-code d (Quiet o r) x = here-code d r x
  here-code d (Reset o s e a r) x = here-code d r x

-- once: each root is listed once
once-fresh : (seen xs : List Root) (n : ℕ) (r : Root) → slice_get (once seen xs) n ≡ Some r → list_any (same_root r) seen ≡ false
once-fresh seen [] n r e = cc
once-fresh seen (x ∷ xs) n r e = by (list_any (same_root x) seen) refl n e (λ n e. once-fresh seen xs n r e) (λ n e. once-fresh (x ∷ seen) xs n r e)
  where
    second : (a b : Bool) → (a || b) ≡ false → b ≡ false
    second true b e = cc
    second false b e = e

    by : (b : Bool) → list_any (same_root x) seen ≡ b → (n : ℕ) → slice_get (if b then once seen xs else x ∷ once (x ∷ seen) xs) n ≡ Some r
        → ((n : ℕ) → slice_get (once seen xs) n ≡ Some r → list_any (same_root r) seen ≡ false) → ((n : ℕ) → slice_get (once (x ∷ seen) xs) n ≡ Some r → list_any (same_root r) (x ∷ seen) ≡ false) → list_any (same_root r) seen ≡ false
    by true t n e ih jh = ih n e
    by false t zero e ih jh = let z : x ≡ r = cc in subst (λ r. list_any (same_root r) seen ≡ false) z t
    by false t (suc n) e ih jh = second (same_root r x) (list_any (same_root r) seen) (jh n e)

once-apart : (seen xs : List Root) (m n : ℕ) (r : Root) → slice_get (once seen xs) m ≡ Some r → slice_get (once seen xs) n ≡ Some r → m ≡ n
once-apart seen [] m n r e f = cc
once-apart seen (x ∷ xs) m n r e f = by (list_any (same_root x) seen) m n e f (λ m n e f. once-apart seen xs m n r e f) (λ m n e f. once-apart (x ∷ seen) xs m n r e f)
  where
    not-again : (n : ℕ) → x ≡ r → slice_get (once (x ∷ seen) xs) n ≡ Some r → ⊥
    not-again n z f = let w = once-fresh (x ∷ seen) xs n r f in let y = ap (same_root r) z ∙ root-same r in first (same_root r x) (list_any (same_root r) seen) w y
      where
        first : (a b : Bool) → (a || b) ≡ false → a ≡ true → ⊥
        first true b e f = cc
        first false b e f = cc

    by : (b : Bool) (m n : ℕ) → slice_get (if b then once seen xs else x ∷ once (x ∷ seen) xs) m ≡ Some r → slice_get (if b then once seen xs else x ∷ once (x ∷ seen) xs) n ≡ Some r
        → ((m n : ℕ) → slice_get (once seen xs) m ≡ Some r → slice_get (once seen xs) n ≡ Some r → m ≡ n) → ((m n : ℕ) → slice_get (once (x ∷ seen) xs) m ≡ Some r → slice_get (once (x ∷ seen) xs) n ≡ Some r → m ≡ n) → m ≡ n
    by true m n e f ih jh = ih m n e f
    by false zero zero e f ih jh = refl
    by false zero (suc n) e f ih jh = absurd (not-again n (let z : x ≡ r = cc in z) f)
    by false (suc m) zero e f ih jh = absurd (not-again m (let z : x ≡ r = cc in z) e)
    by false (suc m) (suc n) e f ih jh = ap suc (jh m n e f)

-- a list that has so many different roots is as long
shorter : (r : Root) (xs : List Root) → IsIn xs r → length (filter (λ x. not (same_root r x)) xs) < length xs
shorter r [] e = cc
shorter r (x ∷ xs) e = by (same_root r x) e (λ e. shorter r xs e) (at-most xs)
  where
    at-most : (xs : List Root) → length (filter (λ x. not (same_root r x)) xs) ≤ length xs
    at-most [] = omega arith
    at-most (y ∷ ys) = go (same_root r y) (at-most ys)
      where
        go : (b : Bool) → length (filter (λ x. not (same_root r x)) ys) ≤ length ys → length (cond (not b) (y ∷ filter (λ x. not (same_root r x)) ys) (filter (λ x. not (same_root r x)) ys)) ≤ suc (length ys)
        go true l = omega (arith, l)
        go false l = omega (arith, l)

    by : (b : Bool) → (b || list_any (same_root r) xs) ≡ true → (IsIn xs r → length (filter (λ x. not (same_root r x)) xs) < length xs) → length (filter (λ x. not (same_root r x)) xs) ≤ length xs
        → length (cond (not b) (x ∷ filter (λ x. not (same_root r x)) xs) (filter (λ x. not (same_root r x)) xs)) < suc (length xs)
    by true e ih l = omega (arith, l)
    by false e ih l = let z = ih e in omega (arith, z)

kept : (r s : Root) (xs : List Root) → same_root r s ≡ false → IsIn xs s → IsIn (filter (λ x. not (same_root r x)) xs) s
kept r s [] n e = cc
kept r s (x ∷ xs) n e = by (same_root r x) refl (same_root s x) refl e (λ e. kept r s xs n e)
  where
    by : (b : Bool) → same_root r x ≡ b → (c : Bool) → same_root s x ≡ c → (c || list_any (same_root s) xs) ≡ true → (IsIn xs s → IsIn (filter (λ x. not (same_root r x)) xs) s)
        → IsIn (cond (not b) (x ∷ filter (λ x. not (same_root r x)) xs) (filter (λ x. not (same_root r x)) xs)) s
    by true t true u e ih = absurd (let z = same_root-is s x u in let w = ap (same_root r) z ∙ t in cc)
    by true t false u e ih = ih e
    by false t true u e ih = ap (λ b. b || list_any (same_root s) (filter (λ x. not (same_root r x)) xs)) u
    by false t false u e ih = ap (λ b. b || list_any (same_root s) (filter (λ x. not (same_root r x)) xs)) u ∙ ih e

as-long : (i size : ℕ) (xs : List Root) → ((n : ℕ) → n < size → IsIn xs (location.Local i [] n)) → size ≤ length xs
as-long i zero xs f = omega arith
as-long i (suc size) xs f =
    let s = shorter (location.Local i [] size) xs (f size (omega arith)) in
    let w = as-long i size (filter (λ x. not (same_root (location.Local i [] size) x)) xs) (λ n l. kept (location.Local i [] size) (location.Local i [] n) xs (other n l) (f n (omega (arith, l)))) in
    omega (arith, s, w)
  where
    other : (n : ℕ) → n < size → same_root (location.Local i [] size) (location.Local i [] n) ≡ false
    other n l = by (same_root (location.Local i [] size) (location.Local i [] n)) refl
      where
        by : (b : Bool) → same_root (location.Local i [] size) (location.Local i [] n) ≡ b → b ≡ false
        by true e = absurd (let z = same_root-is (location.Local i [] size) (location.Local i [] n) e in let y : size ≡ n = cc in omega (arith, l, y))
        by false e = refl

module _ (p : Plain) (d : Design) (ord : IsOrderly p d) where
  at-home : (i : ℕ) (o : Option design.Process) → slice_get d.processes i ≡ o → (n : ℕ) → home_of p d i n ≡ unwrap_or (option_and_then (λ q. slice_get (numbered p i q.function) n) o) (location.Local i [] n)
  at-home i o e n = ap (λ o. unwrap_or (option_and_then (λ q. slice_get (numbered p i q.function) n) o) (location.Local i [] n)) e

  module _ (i : ℕ) (q : design.Process) (there : slice_get d.processes i ≡ Some q) where
    abbrev g : Function
    g = (ord.processes i q there).function

    abbrev order : List Root
    order = numbered p i q.function

    order-is : order ≡ once [] (body_declares (call_declares p i levels) i [] g)
    order-is = ap (λ o. once [] (unwrap_or (option_map (body_declares (call_declares p i levels) i []) o) [])) (ord.processes i q there).stands

    listed : Lists order (body_declares (call_declares p i levels) i [] g)
    listed = subst (λ o. Lists o (body_declares (call_declares p i levels) i [] g)) (sym order-is) (lists-once (body_declares (call_declares p i levels) i [] g))

    long : length g.locals ≤ length order
    long = as-long i (length g.locals) order (λ n l. let z : n ≡ 0 + n = omega arith in
        subst (λ z. IsIn order (location.Local i [] z)) (sym z) (lists-local order i [] 0 (length g.locals) n (lists-back order (declares (call_declares p i levels) i [] g.body) (first_locals i [] (length g.locals)) listed) l))

    all-declared : Each (Declared i (length g.locals)) order
    all-declared = subst (Each (Declared i (length g.locals))) (sym order-is) (once-each [] (body_declares (call_declares p i levels) i [] g)
        (each-append (Declared i (length g.locals)) (declares (call_declares p i levels) i [] g.body) (first_locals i [] (length g.locals))
        (here-code p i g 0 g.body ((ord.processes i q there).functions [] q.function g refl (ord.processes i q there).stands).body)
        (each-map (Declared i (length g.locals)) (location.Local i []) (range_with_len 0 (length g.locals)) (each-range (λ n. Declared i (length g.locals) (location.Local i [] n)) 0 (length g.locals) (λ n l. here-local p i g n (omega (arith, l)))))))
      where
        once-each : (seen xs : List Root) → Each (Declared i (length g.locals)) xs → Each (Declared i (length g.locals)) (once seen xs)
        once-each seen [] o = tt
        once-each seen (x ∷ xs) o = by (list_any (same_root x) seen) (once-each seen xs o.1) (once-each (x ∷ seen) xs o.1)
          where
            by : (b : Bool) → Each (Declared i (length g.locals)) (once seen xs) → Each (Declared i (length g.locals)) (once (x ∷ seen) xs) → Each (Declared i (length g.locals)) (if b then once seen xs else x ∷ once (x ∷ seen) xs)
            by true a b = a
            by false a b = (o.0, b)

    -- past the end no local is listed
    past : (m n : ℕ) → slice_get order m ≡ Some (location.Local i [] n) → slice_get order n ≡ None → ⊥
    past m n e f =
        let l = each-get (Declared i (length g.locals)) order m (location.Local i [] n) all-declared e n refl in
        let k = long in absurd (get-past order n f (omega (arith, l, k)))
      where
        get-past : (xs : List Root) (n : ℕ) → slice_get xs n ≡ None → n < length xs → ⊥
        get-past [] n e l = absurd (omega (arith, l))
        get-past (x ∷ xs) zero e l = cc
        get-past (x ∷ xs) (suc n) e l = get-past xs n e (omega (arith, l))

    apart : (m n : ℕ) → (a : Option Root) → slice_get order m ≡ a → (b : Option Root) → slice_get order n ≡ b → unwrap_or a (location.Local i [] m) ≡ unwrap_or b (location.Local i [] n) → m ≡ n
    apart m n None e None f z = cc
    apart m n (Some r) e None f z = absurd (past m n (e ∙ ap Some z) f)
    apart m n None e (Some r) f z = absurd (past n m (f ∙ ap Some (sym z)) e)
    apart m n (Some r) e (Some s) f z = once-apart [] (body_declares (call_declares p i levels) i [] g) m n r (ap (λ o. slice_get o m) (sym order-is) ∙ e) (ap (λ o. slice_get o n) (sym order-is) ∙ (f ∙ ap Some (sym z)))

  one-process : (i m n : ℕ) → (o : Option design.Process) → slice_get d.processes i ≡ o → home_of p d i m ≡ home_of p d i n → m ≡ n
  one-process i m n None e z = let y = sym (at-home i None e m) ∙ (z ∙ at-home i None e n) in cc
  one-process i m n (Some q) e z = apart i q e m n (slice_get (numbered p i q.function) m) refl (slice_get (numbered p i q.function) n) refl (sym (at-home i (Some q) e m) ∙ (z ∙ at-home i (Some q) e n))

  pub is-home : IsHome (home_of p d)
  is-home = record {
    injective = λ i j m n z. let x : i ≡ j = roots-apart i j (home_of p d i m) (home_of p d j n) (own-home p d i m) (own-home p d j n) (ap (same_root (home_of p d i m)) (sym z) ∙ root-same (home_of p d i m)) in
        (x, one-process i m n (slice_get d.processes i) refl (z ∙ ap (λ j. home_of p d j n) (sym x)));
    own = own-home p d;
  }
