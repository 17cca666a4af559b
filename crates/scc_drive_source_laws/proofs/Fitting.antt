-- With what the static stage gives, what fits is orderly.
use Rattle.std.proofs.Common.{◌≡◌, ℕ, zero, suc, ◌^◌, Bool, true, false, ◌&&◌, List, [], ◌∷◌, length, map, Option, Some, None, is_some, option_map, unwrap_or, slice_get, refl, sym, ap, ◌∙◌, arith}
use Rattle.std.specs.Prelude.{nat_lt, nat_le}
use Rattle.std.specs.List.{list_all}
use Rattle.scc_bits.specs.Values.{kind_of as operator_kind}
use Rattle.scc_core_spec.specs.Counted.{is_it}
use Rattle.scc_core_spec.specs.Fit.{is_kind}
use Rattle.scc_elab_spec.specs.Term.{Term, Literal, Load, Read, Convert, Unary, Binary, Choose, Bit, Range, Join, Left, Local, Answer, This, Follow, Index, Pick, Whole, OneBit, Bits, Target, Null, Address, Copy, Argument, Value, Leads, ModuleName, kind_of}
use Rattle.scc_elab_spec.specs.Term as term
use Rattle.scc_elab_spec.specs.Program.{Base, Number, OfClass, Input, Output, Signal, Named, Reach, Direct, Pointer, Reference, Code, End, Declare, Assign, Point, Write, Call, If, Loop, Block, Exit, Return, Wait, Make, Bind, Process, Sensitive, Quiet, Reset, Function, Plain, Member}
use Rattle.scc_elab_spec.specs.Design as design
use Rattle.scc_elab_spec.specs.Design.{Design}
use Rattle.scc_elab_spec.specs.Numbering.{callee}
use Rattle.scc_elab_spec.specs.Types.{is_direct, is_reference}
use Rattle.scc_inline_core_laws.specs.Kinded.{is_kinded, kinded_term, kinded_left, kinded_pick, kinded_target, kinded_object, kinded_arguments, kinded_code}
use Rattle.scc_inline_counter_laws.specs.Even.{are_even}
use Rattle.scc_inline_laws.specs.Orderly.{is_object}
use Rattle.scc_inline_orderly_laws.specs.Program.{is_orderly_program, same_run}
use Rattle.scc_inline_orderly_laws.specs.Reached.{among, is_closed, reached}
use Rattle.scc_inline_orderly_laws.specs.Test.{is_typed, is_typed_left, is_number_if, are_small, is_orderly_local, takes, is_orderly_term, is_orderly_left, is_orderly_pick, is_orderly_target, is_orderly_object, are_orderly_arguments, is_orderly_call, is_orderly_code, is_orderly_function}
use Rattle.scc_inline_orderly_laws.specs.Whole.{are_orderly, differ, is_orderly_at}
use Rattle.scc_inline_orderly_laws.proofs.Bools.{and-first, and-second, all-at}
use Rattle.scc_inline_orderly_laws.proofs.Closed.{reached-closed, reached-itself}
use Rattle.scc_plain_bounds_laws.specs.Bounds.{are_sizes, finds, is_bounded, is_bounded_function, is_bounded_local, leaves, may_stand}
use Rattle.scc_plain_bounds_laws.specs.Within.{is_object as is_within_object, within_arguments, within_code, within_left, within_object, within_pick, within_target, within_term}
use Rattle.scc_drive_source_laws.specs.Fitting.{holds_no_name, fits_term, fits_left, fits_pick, fits_target, fits_object, fit_arguments, fits_call, fits_code, is_unnamed, is_fitting_function, is_fitting_at, is_fitting_program}

both : (a b : Bool) → a ≡ true → b ≡ true → (a && b) ≡ true
both a b e f = λ z. e z && f z

-- the same test by two names
mutual
  typed-term : (e : Term) → kinded_term e ≡ is_typed e
  typed-term (Literal p k w) = refl
  typed-term (Load p k l) = typed-left l
  typed-term (Read p k l) = typed-left l
  typed-term (Convert p k e) = typed-term e
  typed-term (Unary p k o a) = λ z. is_kind (operator_kind o (kind_of a) (kind_of a)) k && typed-term a z
  typed-term (Binary p k o a b) = λ z. is_kind (operator_kind o (kind_of a) (kind_of b)) k && (typed-term a z && typed-term b z)
  typed-term (Choose p k t a b) = λ z. typed-term t z && (typed-term a z && typed-term b z)
  typed-term (Bit p a e) = λ z. typed-term a z && typed-term e z
  typed-term (Range p k a h l) = typed-term a
  typed-term (Join p k a b) = λ z. typed-term a z && typed-term b z

  typed-left : (l : Left) → kinded_left l ≡ is_typed_left l
  typed-left (Local p n) = refl
  typed-left (Answer p n) = refl
  typed-left (This p) = refl
  typed-left (Follow p l) = typed-left l
  typed-left (term.Member l m) = typed-left l
  typed-left (Index l e) = λ z. typed-left l z && typed-term e z

-- of a declaration
number-base : (r : Reach) (b : Base) → may_stand r b ≡ true → holds_no_name r b ≡ true → is_number_if (is_direct r) b ≡ true
number-base Direct (Number k) e f = refl
number-base Direct (OfClass c) e f = cc
number-base Direct (Input k) e f = cc
number-base Direct (Output k) e f = cc
number-base Direct (Signal k) e f = cc
number-base Direct Named e f = cc
number-base Pointer b e f = refl
number-base Reference b e f = refl

small : (n : ℕ) → nat_le n 65536 ≡ true → nat_le n (2 ^ 31) ≡ true
small n e = grind (arith, e)

sizes-small : (ns : List ℕ) → are_sizes ns ≡ true → are_small ns ≡ true
sizes-small [] e = refl
sizes-small (n ∷ ns) e = both (nat_le n (2 ^ 31)) (are_small ns) (small n (and-first (nat_le n 65536) (are_sizes ns) e)) (sizes-small ns (and-second (nat_le n 65536) (are_sizes ns) e))

locals-orderly : (ms : List Member) → list_all is_bounded_local ms ≡ true → list_all is_unnamed ms ≡ true → list_all is_orderly_local ms ≡ true
locals-orderly [] e f = refl
locals-orderly (m ∷ ms) e f =
    let b = and-first (is_bounded_local m) (list_all is_bounded_local ms) e in
    let s = may_stand m.shape.reach m.shape.base in
    both (is_orderly_local m) (list_all is_orderly_local ms)
    (both (is_number_if (is_direct m.shape.reach) m.shape.base) (are_small m.shape.sizes) (number-base m.shape.reach m.shape.base (and-first s (are_sizes m.shape.sizes) b) (and-first (is_unnamed m) (list_all is_unnamed ms) f))
    (sizes-small m.shape.sizes (and-second s (are_sizes m.shape.sizes) b)))
    (locals-orderly ms (and-second (is_bounded_local m) (list_all is_bounded_local ms) e) (and-second (is_unnamed m) (list_all is_unnamed ms) f))

there : {A : Type 0} (xs : List A) (n : ℕ) → nat_lt n (length xs) ≡ true → is_some (slice_get xs n) ≡ true
there [] n e = absurd (let z = never n e in cc)
  where
    never : (n : ℕ) → nat_lt n 0 ≡ true → true ≡ false
    never n e = grind (arith, e)
there (x ∷ xs) zero e = refl
there (x ∷ xs) (suc n) e = there xs n (down n (length xs) e)
  where
    down : (n m : ℕ) → nat_lt (suc n) (suc m) ≡ true → nat_lt n m ≡ true
    down n m e = grind (arith, e)

length-map : {A B : Type 0} (f : A → B) (xs : List A) → length (map f xs) ≡ length xs
length-map f [] = refl
length-map f (x ∷ xs) = ap suc (length-map f xs)

module _ (p : Plain) (g : Function) where
  -- what the locals hold
  abbrev b : List Reach
  b = map (λ m. m.shape.reach) g.locals

  there-by : (n : ℕ) → nat_lt n (length b) ≡ true → is_some (slice_get g.locals n) ≡ true
  there-by n e = there g.locals n (ap (nat_lt n) (sym (length-map (λ (m : Member). m.shape.reach) g.locals)) ∙ e)

  reference-at : (ms : List Member) (n : ℕ) → unwrap_or (option_map is_reference (slice_get (map (λ (m : Member). m.shape.reach) ms) n)) false ≡ unwrap_or (option_map (λ (m : Member). is_reference m.shape.reach) (slice_get ms n)) false
  reference-at [] n = refl
  reference-at (m ∷ ms) zero = refl
  reference-at (m ∷ ms) (suc n) = reference-at ms n

  -- the same objects
  object-by : (l : Left) → is_within_object b l ≡ true → is_object p g l ≡ true
  object-by (Local q n) e = sym (reference-at g.locals n) ∙ e
  object-by (Answer q n) e = e
  object-by (This q) e = refl
  object-by (Follow q l) e = refl
  object-by (term.Member l m) e = object-by l e
  object-by (Index l i) e = object-by l e

  two : (a c : Term) → (fits_term p g a ≡ true → kinded_term a ≡ true → within_term b a ≡ true → is_orderly_term p g a ≡ true) → (fits_term p g c ≡ true → kinded_term c ≡ true → within_term b c ≡ true → is_orderly_term p g c ≡ true)
      → (fits_term p g a && fits_term p g c) ≡ true → (kinded_term a && kinded_term c) ≡ true → (within_term b a && within_term b c) ≡ true → (is_orderly_term p g a && is_orderly_term p g c) ≡ true
  two a c h i x y z = both (is_orderly_term p g a) (is_orderly_term p g c) (h (and-first (fits_term p g a) (fits_term p g c) x) (and-first (kinded_term a) (kinded_term c) y) (and-first (within_term b a) (within_term b c) z))
      (i (and-second (fits_term p g a) (fits_term p g c) x) (and-second (kinded_term a) (kinded_term c) y) (and-second (within_term b a) (within_term b c) z))

  mutual
    term-orderly : (e : Term) → fits_term p g e ≡ true → kinded_term e ≡ true → within_term b e ≡ true → is_orderly_term p g e ≡ true
    term-orderly (Literal q k w) x y z = refl
    term-orderly (Load q k l) x y z = left-orderly l x y z
    term-orderly (Read q k l) x y z = left-orderly l x y z
    term-orderly (Convert q k e) x y z = term-orderly e x y z
    term-orderly (Unary q k o a) x y z = term-orderly a x (and-second (is_kind (operator_kind o (kind_of a) (kind_of a)) k) (kinded_term a) y) z
    term-orderly (Binary q k o a c) x y z = two a c (λ x y z. term-orderly a x y z) (λ x y z. term-orderly c x y z) x (and-second (is_kind (operator_kind o (kind_of a) (kind_of c)) k) (kinded_term a && kinded_term c) y) z
    term-orderly (Choose q k t a c) x y z =
        both (is_orderly_term p g t) (is_orderly_term p g a && is_orderly_term p g c)
        (term-orderly t (and-first (fits_term p g t) (fits_term p g a && fits_term p g c) x) (and-first (kinded_term t) (kinded_term a && kinded_term c) y) (and-first (within_term b t) (within_term b a && within_term b c) z))
        (two a c (λ x y z. term-orderly a x y z) (λ x y z. term-orderly c x y z) (and-second (fits_term p g t) (fits_term p g a && fits_term p g c) x) (and-second (kinded_term t) (kinded_term a && kinded_term c) y) (and-second (within_term b t) (within_term b a && within_term b c) z))
    term-orderly (Bit q a e) x y z = two a e (λ x y z. term-orderly a x y z) (λ x y z. term-orderly e x y z) x y z
    term-orderly (Range q k a m l) x y z = term-orderly a x y z
    term-orderly (Join q k a c) x y z = two a c (λ x y z. term-orderly a x y z) (λ x y z. term-orderly c x y z) x y z

    left-orderly : (l : Left) → fits_left p g l ≡ true → kinded_left l ≡ true → within_left b l ≡ true → is_orderly_left p g l ≡ true
    left-orderly (Local q n) x y z = there-by n z
    left-orderly (Answer q n) x y z = x
    left-orderly (This q) x y z = refl
    left-orderly (Follow q l) x y z = left-orderly l x y z
    left-orderly (term.Member l m) x y z = both (is_orderly_left p g l) (is_object p g l) (left-orderly l x y (and-first (within_left b l) (is_within_object b l) z)) (object-by l (and-second (within_left b l) (is_within_object b l) z))
    left-orderly (Index l e) x y z =
        let k = and-second (kinded_left l) (kinded_term e) y in
        both (is_orderly_left p g l) (is_orderly_term p g e && is_typed e) (left-orderly l (and-first (fits_left p g l) (fits_term p g e) x) (and-first (kinded_left l) (kinded_term e) y) (and-first (within_left b l) (within_term b e) z))
        (both (is_orderly_term p g e) (is_typed e) (term-orderly e (and-second (fits_left p g l) (fits_term p g e) x) k (and-second (within_left b l) (within_term b e) z)) (sym (typed-term e) ∙ k))

  pick-orderly : (k : Pick) → fits_pick p g k ≡ true → kinded_pick k ≡ true → within_pick b k ≡ true → is_orderly_pick p g k ≡ true
  pick-orderly Whole x y z = refl
  pick-orderly (OneBit e) x y z = term-orderly e x y z
  pick-orderly (Bits h l) x y z = refl

  target-orderly : (t : Target) → fits_target p g t ≡ true → kinded_target t ≡ true → within_target b t ≡ true → is_orderly_target p g t ≡ true
  target-orderly Null x y z = refl
  target-orderly (Address l) x y z = left-orderly l x y z
  target-orderly (Copy l) x y z = left-orderly l x y z

  object-orderly : (o : Option Left) → fits_object p g o ≡ true → kinded_object o ≡ true → within_object b o ≡ true → is_orderly_object p g o ≡ true
  object-orderly None x y z = refl
  object-orderly (Some l) x y z = both (is_orderly_left p g l) (is_object p g l) (left-orderly l x y (and-first (within_left b l) (is_within_object b l) z)) (object-by l (and-second (within_left b l) (is_within_object b l) z))

  arguments-orderly : (f : Function) (n : ℕ) (args : List Argument) → fit_arguments p g f n args ≡ true → kinded_arguments args ≡ true → within_arguments b args ≡ true → are_orderly_arguments p g f n args ≡ true
  arguments-orderly f n [] x y z = refl
  arguments-orderly f n (Value e ∷ args) x y z =
      let T = takes f n true in let R = fit_arguments p g f (suc n) args in let u = and-second (fits_term p g e) (T && R) x in
      both (is_orderly_term p g e) (T && are_orderly_arguments p g f (suc n) args) (term-orderly e (and-first (fits_term p g e) (T && R) x) (and-first (kinded_term e) (kinded_arguments args) y) (and-first (within_term b e) (within_arguments b args) z))
      (both T (are_orderly_arguments p g f (suc n) args) (and-first T R u) (arguments-orderly f (suc n) args (and-second T R u) (and-second (kinded_term e) (kinded_arguments args) y) (and-second (within_term b e) (within_arguments b args) z)))
  arguments-orderly f n (Leads t ∷ args) x y z =
      let T = takes f n false in let R = fit_arguments p g f (suc n) args in let u = and-second (fits_target p g t) (T && R) x in
      both (is_orderly_target p g t) (T && are_orderly_arguments p g f (suc n) args) (target-orderly t (and-first (fits_target p g t) (T && R) x) (and-first (kinded_target t) (kinded_arguments args) y) (and-first (within_target b t) (within_arguments b args) z))
      (both T (are_orderly_arguments p g f (suc n) args) (and-first T R u) (arguments-orderly f (suc n) args (and-second T R u) (and-second (kinded_target t) (kinded_arguments args) y) (and-second (within_target b t) (within_arguments b args) z)))
  arguments-orderly f n (ModuleName ∷ args) x y z = arguments-orderly f (suc n) args x y z

  call-orderly : (n f : ℕ) (args : List Argument) (o : Option Function) → fits_call p g args o ≡ true → kinded_arguments args ≡ true → within_arguments b args ≡ true → is_it f (callee g.body n) ≡ true → is_orderly_call p g n f args o ≡ true
  call-orderly n f args None x y z i = x
  call-orderly n f args (Some h) x y z i = both (is_it f (callee g.body n)) (are_orderly_arguments p g h 0 args) i (arguments-orderly h 0 args x y z)

  abbrev L : ℕ → Code → Bool
  L d c = leaves (is_some g.result) d c

  abbrev F : Code → Bool
  F c = finds (callee g.body) c

  abbrev W : Code → Bool
  W c = within_code b c

  code-orderly : (d : ℕ) (c : Code) → fits_code p g c ≡ true → kinded_code c ≡ true → L d c ≡ true → F c ≡ true → W c ≡ true → is_orderly_code p g d c ≡ true
  code-orderly d End x y h i j = refl
  code-orderly d (Declare q n r) x y h i j =
      let A = is_some (slice_get g.locals n) in both A (is_orderly_code p g d r) (there-by n (and-first (nat_lt n (length b)) (W r) j)) (code-orderly d r x y h i (and-second (nat_lt n (length b)) (W r) j))
  code-orderly d (Assign q l k e r) x y h i j =
      let X = fits_pick p g k && (fits_term p g e && fits_code p g r) in let Y = kinded_pick k && (kinded_term e && kinded_code r) in let Z = within_pick b k && (within_term b e && W r) in
      let x1 = and-second (fits_left p g l) X x in let x2 = and-second (fits_pick p g k) (fits_term p g e && fits_code p g r) x1 in
      let y1 = and-second (kinded_left l) Y y in let y2 = and-second (kinded_pick k) (kinded_term e && kinded_code r) y1 in
      let z1 = and-second (within_left b l) Z j in let z2 = and-second (within_pick b k) (within_term b e && W r) z1 in
      both (is_orderly_left p g l) (is_orderly_pick p g k && (is_orderly_term p g e && is_orderly_code p g d r)) (left-orderly l (and-first (fits_left p g l) X x) (and-first (kinded_left l) Y y) (and-first (within_left b l) Z j))
      (both (is_orderly_pick p g k) (is_orderly_term p g e && is_orderly_code p g d r) (pick-orderly k (and-first (fits_pick p g k) (fits_term p g e && fits_code p g r) x1) (and-first (kinded_pick k) (kinded_term e && kinded_code r) y1) (and-first (within_pick b k) (within_term b e && W r) z1))
      (both (is_orderly_term p g e) (is_orderly_code p g d r) (term-orderly e (and-first (fits_term p g e) (fits_code p g r) x2) (and-first (kinded_term e) (kinded_code r) y2) (and-first (within_term b e) (W r) z2))
      (code-orderly d r (and-second (fits_term p g e) (fits_code p g r) x2) (and-second (kinded_term e) (kinded_code r) y2) h i (and-second (within_term b e) (W r) z2))))
  code-orderly d (Point q l t r) x y h i j =
      let x1 = and-second (fits_left p g l) (fits_target p g t && fits_code p g r) x in let y1 = and-second (kinded_left l) (kinded_target t && kinded_code r) y in let z1 = and-second (within_left b l) (within_target b t && W r) j in
      both (is_orderly_left p g l) (is_orderly_target p g t && is_orderly_code p g d r) (left-orderly l (and-first (fits_left p g l) (fits_target p g t && fits_code p g r) x) (and-first (kinded_left l) (kinded_target t && kinded_code r) y) (and-first (within_left b l) (within_target b t && W r) j))
      (both (is_orderly_target p g t) (is_orderly_code p g d r) (target-orderly t (and-first (fits_target p g t) (fits_code p g r) x1) (and-first (kinded_target t) (kinded_code r) y1) (and-first (within_target b t) (W r) z1))
      (code-orderly d r (and-second (fits_target p g t) (fits_code p g r) x1) (and-second (kinded_target t) (kinded_code r) y1) h i (and-second (within_target b t) (W r) z1)))
  code-orderly d (Write q l e r) x y h i j =
      let x1 = and-second (fits_left p g l) (fits_term p g e && fits_code p g r) x in let y1 = and-second (kinded_left l) (kinded_term e && kinded_code r) y in let z1 = and-second (within_left b l) (within_term b e && W r) j in
      both (is_orderly_left p g l) (is_orderly_term p g e && is_orderly_code p g d r) (left-orderly l (and-first (fits_left p g l) (fits_term p g e && fits_code p g r) x) (and-first (kinded_left l) (kinded_term e && kinded_code r) y) (and-first (within_left b l) (within_term b e && W r) j))
      (both (is_orderly_term p g e) (is_orderly_code p g d r) (term-orderly e (and-first (fits_term p g e) (fits_code p g r) x1) (and-first (kinded_term e) (kinded_code r) y1) (and-first (within_term b e) (W r) z1))
      (code-orderly d r (and-second (fits_term p g e) (fits_code p g r) x1) (and-second (kinded_term e) (kinded_code r) y1) h i (and-second (within_term b e) (W r) z1)))
  code-orderly d (Call q n f o args r) x y h i j =
      let C = fits_call p g args (slice_get p.functions f) in let x1 = and-second C (fits_object p g o && fits_code p g r) x in
      let y1 = and-second (kinded_object o) (kinded_arguments args && kinded_code r) y in
      let z1 = and-second (within_object b o) (within_arguments b args && W r) j in
      let T = is_it f (callee g.body n) in
      both (is_orderly_call p g n f args (slice_get p.functions f)) (is_orderly_object p g o && is_orderly_code p g d r)
      (call-orderly n f args (slice_get p.functions f) (and-first C (fits_object p g o && fits_code p g r) x) (and-first (kinded_arguments args) (kinded_code r) y1) (and-first (within_arguments b args) (W r) z1) (and-first T (F r) i))
      (both (is_orderly_object p g o) (is_orderly_code p g d r) (object-orderly o (and-first (fits_object p g o) (fits_code p g r) x1) (and-first (kinded_object o) (kinded_arguments args && kinded_code r) y) (and-first (within_object b o) (within_arguments b args && W r) j))
      (code-orderly d r (and-second (fits_object p g o) (fits_code p g r) x1) (and-second (kinded_arguments args) (kinded_code r) y1) h (and-second T (F r) i) (and-second (within_arguments b args) (W r) z1)))
  code-orderly d (If q t a c r) x y h i j =
      let X = fits_code p g a && (fits_code p g c && fits_code p g r) in let Y = kinded_code a && (kinded_code c && kinded_code r) in let Z = W a && (W c && W r) in
      let x1 = and-second (fits_term p g t) X x in let x2 = and-second (fits_code p g a) (fits_code p g c && fits_code p g r) x1 in
      let y1 = and-second (kinded_term t) Y y in let y2 = and-second (kinded_code a) (kinded_code c && kinded_code r) y1 in
      let z1 = and-second (within_term b t) Z j in let z2 = and-second (W a) (W c && W r) z1 in
      let h1 = and-second (L d a) (L d c && L d r) h in let i1 = and-second (F a) (F c && F r) i in
      both (is_orderly_term p g t) (is_orderly_code p g d a && (is_orderly_code p g d c && is_orderly_code p g d r)) (term-orderly t (and-first (fits_term p g t) X x) (and-first (kinded_term t) Y y) (and-first (within_term b t) Z j))
      (both (is_orderly_code p g d a) (is_orderly_code p g d c && is_orderly_code p g d r) (code-orderly d a (and-first (fits_code p g a) (fits_code p g c && fits_code p g r) x1) (and-first (kinded_code a) (kinded_code c && kinded_code r) y1) (and-first (L d a) (L d c && L d r) h) (and-first (F a) (F c && F r) i) (and-first (W a) (W c && W r) z1))
      (both (is_orderly_code p g d c) (is_orderly_code p g d r) (code-orderly d c (and-first (fits_code p g c) (fits_code p g r) x2) (and-first (kinded_code c) (kinded_code r) y2) (and-first (L d c) (L d r) h1) (and-first (F c) (F r) i1) (and-first (W c) (W r) z2))
      (code-orderly d r (and-second (fits_code p g c) (fits_code p g r) x2) (and-second (kinded_code c) (kinded_code r) y2) (and-second (L d c) (L d r) h1) (and-second (F c) (F r) i1) (and-second (W c) (W r) z2))))
  code-orderly d (Loop q n c r) x y h i j =
      both (is_orderly_code p g d c) (is_orderly_code p g d r) (code-orderly d c (and-first (fits_code p g c) (fits_code p g r) x) (and-first (kinded_code c) (kinded_code r) y) (and-first (L d c) (L d r) h) (and-first (F c) (F r) i) (and-first (W c) (W r) j))
      (code-orderly d r (and-second (fits_code p g c) (fits_code p g r) x) (and-second (kinded_code c) (kinded_code r) y) (and-second (L d c) (L d r) h) (and-second (F c) (F r) i) (and-second (W c) (W r) j))
  code-orderly d (Block q c r) x y h i j =
      both (is_orderly_code p g (suc d) c) (is_orderly_code p g d r) (code-orderly (suc d) c (and-first (fits_code p g c) (fits_code p g r) x) (and-first (kinded_code c) (kinded_code r) y) (and-first (L (suc d) c) (L d r) h) (and-first (F c) (F r) i) (and-first (W c) (W r) j))
      (code-orderly d r (and-second (fits_code p g c) (fits_code p g r) x) (and-second (kinded_code c) (kinded_code r) y) (and-second (L (suc d) c) (L d r) h) (and-second (F c) (F r) i) (and-second (W c) (W r) j))
  code-orderly d (Exit q n r) x y h i j = both (nat_lt n d) (is_orderly_code p g d r) (and-first (nat_lt n d) (L d r) h) (code-orderly d r x y (and-second (nat_lt n d) (L d r) h) i j)
  code-orderly d (Return q None r) x y h i j = code-orderly d r x y h i j
  code-orderly d (Return q (Some e) r) x y h i j =
      let V = is_some g.result in
      both (is_orderly_term p g e && V) (is_orderly_code p g d r) (both (is_orderly_term p g e) V (term-orderly e (and-first (fits_term p g e) (fits_code p g r) x) (and-first (kinded_term e) (kinded_code r) y) (and-first (within_term b e) (W r) j)) (and-first V (L d r) h))
      (code-orderly d r (and-second (fits_term p g e) (fits_code p g r) x) (and-second (kinded_term e) (kinded_code r) y) (and-second V (L d r) h) i (and-second (within_term b e) (W r) j))
  code-orderly d (Wait q n r) x y h i j = code-orderly d r x y h i j
  code-orderly d (Make q l c args r) x y h i j = code-orderly d r x y h i j
  code-orderly d (Bind q l t r) x y h i j = code-orderly d r x y h i j
  code-orderly d (Process q t f e r) x y h i j = code-orderly d r x y h i j
  code-orderly d (Sensitive q items r) x y h i j = code-orderly d r x y h i j
  code-orderly d (Quiet q r) x y h i j = code-orderly d r x y h i j
  code-orderly d (Reset q s e a r) x y h i j = code-orderly d r x y h i j

pub function-orderly : (p : Plain) (g : Function) → is_fitting_function p g ≡ true → kinded_code g.body ≡ true → is_bounded_function g ≡ true → is_orderly_function p g ≡ true
function-orderly p g x y h =
    let L = leaves (is_some g.result) 0 g.body in let F = finds (callee g.body) g.body in let W = within_code (map (λ m. m.shape.reach) g.locals) g.body in let B = list_all is_bounded_local g.locals in
    let h1 = and-second L (F && (W && B)) h in let h2 = and-second F (W && B) h1 in
    both (list_all is_orderly_local g.locals) (is_orderly_code p g 0 g.body)
    (locals-orderly g.locals (and-second W B h2) (and-first (list_all is_unnamed g.locals) (fits_code p g g.body) x))
    (code-orderly p g 0 g.body (and-second (list_all is_unnamed g.locals) (fits_code p g g.body) x) y (and-first L (F && (W && B)) h) (and-first F (W && B) h1) (and-first W B h2))

module _ (p : Plain) (d : Design) (kinded : is_kinded p ≡ true) (bounded : is_bounded p ≡ true) where
  at-orderly : (f : ℕ) → is_fitting_at p f ≡ true → is_orderly_at p d f ≡ true
  at-orderly f x = by (slice_get p.functions f) refl x
    where
      by : (o : Option Function) → slice_get p.functions f ≡ o → unwrap_or (option_map (is_fitting_function p) o) true ≡ true → unwrap_or (option_map (is_orderly_function p) (slice_get p.functions f)) true ≡ true
      by None e x = ap (λ o. unwrap_or (option_map (is_orderly_function p) o) true) e
      by (Some g) e x = ap (λ o. unwrap_or (option_map (is_orderly_function p) o) true) e ∙ function-orderly p g x (all-at (λ f. kinded_code f.body) p.functions f g kinded e) (all-at is_bounded_function p.functions f g bounded e)

  all-orderly : (fs : List ℕ) → list_all (is_fitting_at p) fs ≡ true → list_all (is_orderly_at p d) fs ≡ true
  all-orderly [] x = refl
  all-orderly (f ∷ fs) x = both (is_orderly_at p d f) (list_all (is_orderly_at p d) fs) (at-orderly f (and-first (is_fitting_at p f) (list_all (is_fitting_at p) fs) x)) (all-orderly fs (and-second (is_fitting_at p f) (list_all (is_fitting_at p) fs) x))

  process-orderly : (f : ℕ) → list_all (is_fitting_at p) (reached p f) ≡ true → are_orderly p d f (reached p f) ≡ true
  process-orderly f x =
      let fs = reached p f in
      both (among f fs) (is_closed p fs && list_all (is_orderly_at p d) fs) (reached-itself p f) (both (is_closed p fs) (list_all (is_orderly_at p d) fs) (reached-closed p f) (all-orderly fs x))

  processes-orderly : (qs : List design.Process) → list_all (λ (q : design.Process). list_all (is_fitting_at p) (reached p q.function)) qs ≡ true → list_all (λ (q : design.Process). are_orderly p d q.function (reached p q.function)) qs ≡ true
  processes-orderly [] x = refl
  processes-orderly (q ∷ qs) x =
      let A = list_all (is_fitting_at p) (reached p q.function) in let R = list_all (λ (q : design.Process). list_all (is_fitting_at p) (reached p q.function)) qs in
      both (are_orderly p d q.function (reached p q.function)) (list_all (λ (q : design.Process). are_orderly p d q.function (reached p q.function)) qs) (process-orderly q.function (and-first A R x)) (processes-orderly qs (and-second A R x))

  pub program-orderly : is_fitting_program p d ≡ true → is_orderly_program p d ≡ true
  program-orderly x =
      let A = list_all (λ (q : design.Process). list_all (is_fitting_at p) (reached p q.function)) d.processes in let B = differ (same_run p) d.processes && are_even p d 0 d.processes in
      both (list_all (λ (q : design.Process). are_orderly p d q.function (reached p q.function)) d.processes) B (processes-orderly d.processes (and-first A B x)) (and-second A B x)
