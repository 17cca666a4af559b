-- A function that passes the test is orderly.
use Rattle.std.proofs.Common.{◌≡◌, ℕ, suc, Bool, true, false, ◌&&◌, List, [], ◌∷◌, Option, Some, None, is_some, option_map, option_and_then, unwrap_or, slice_get, refl, sym, ap, ◌∙◌}
use Rattle.std.specs.Prelude.{◌^◌, nat_lt, nat_le}
use Rattle.std.specs.List.{list_all}
use Rattle.scc_bits_kinds.specs.declared.kind.Kind.{Kind}
use Rattle.scc_bits.specs.Values.{kind_of as operator_kind}
use Rattle.scc_core_spec.specs.Counted.{is_it}
use Rattle.scc_core_spec.specs.Fit.{is_kind, is_nil, same_bool}
use Rattle.scc_elab_spec.specs.Term.{Term, Literal, Load, Read, Convert, Unary, Binary, Choose, Bit, Range, Join, Left, Local, Answer, This, Follow, Index, Pick, Whole, OneBit, Bits, Target, Null, Address, Copy, Argument, Value, Leads, ModuleName, kind_of}
use Rattle.scc_elab_spec.specs.Term as term
use Rattle.scc_elab_spec.specs.Program.{Base, Number, Code, End, Declare, Assign, Point, Write, Call, If, Loop, Block, Exit, Return, Wait, Make, Bind, Process, Sensitive, Quiet, Reset, Function, Plain, Member}
use Rattle.scc_elab_spec.specs.Program as plain
use Rattle.scc_elab_spec.specs.Types.{is_direct}
use Rattle.scc_elab_spec.specs.Numbering.{callee}
use Rattle.scc_elab_spec.specs.Typed.{IsTyped, IsTypedLeft}
use Rattle.scc_inline_laws.specs.Orderly.{AreSmall, IsOrderlyLocal, Takes, Calls, is_object, IsOrderlyTerm, IsOrderlyLeft, IsOrderlyPick, IsOrderlyTarget, IsOrderlyObject, AreOrderlyArguments, IsOrderlyReturn, IsOrderlyCode, IsOrderlyFunction}
use Rattle.scc_inline_orderly_laws.specs.Test.{is_typed, is_typed_left, are_small, is_number_if, is_orderly_local, takes, callee_at, has_result, is_orderly_term, is_orderly_left, is_orderly_pick, is_orderly_target, is_orderly_object, are_orderly_arguments, is_orderly_return, is_orderly_call, is_orderly_code, is_orderly_function}
use Rattle.scc_inline_orderly_laws.proofs.Bools.{and-first, and-second, some-there, lt-is, le-is, it-is, same-bool-is, kind-is, nil-is, all-at}

mutual
  typed : (e : Term) → is_typed e ≡ true → IsTyped e
  typed (Literal q k w) x = tt
  typed (Load q k l) x = typed-left l x
  typed (Read q k l) x = typed-left l x
  typed (Convert q k e) x = typed e x
  typed (Unary q k o a) x = (kind-is (operator_kind o (kind_of a) (kind_of a)) k (and-first (is_kind (operator_kind o (kind_of a) (kind_of a)) k) (is_typed a) x), typed a (and-second (is_kind (operator_kind o (kind_of a) (kind_of a)) k) (is_typed a) x))
  typed (Binary q k o a b) x =
      let t = is_kind (operator_kind o (kind_of a) (kind_of b)) k in let y = and-second t (is_typed a && is_typed b) x in
      (kind-is (operator_kind o (kind_of a) (kind_of b)) k (and-first t (is_typed a && is_typed b) x), typed a (and-first (is_typed a) (is_typed b) y), typed b (and-second (is_typed a) (is_typed b) y))
  typed (Choose q k t a b) x =
      let y = and-second (is_typed t) (is_typed a && is_typed b) x in
      (typed t (and-first (is_typed t) (is_typed a && is_typed b) x), typed a (and-first (is_typed a) (is_typed b) y), typed b (and-second (is_typed a) (is_typed b) y))
  typed (Bit q a e) x = (typed a (and-first (is_typed a) (is_typed e) x), typed e (and-second (is_typed a) (is_typed e) x))
  typed (Range q k a h l) x = typed a x
  typed (Join q k a b) x = (typed a (and-first (is_typed a) (is_typed b) x), typed b (and-second (is_typed a) (is_typed b) x))

  typed-left : (l : Left) → is_typed_left l ≡ true → IsTypedLeft l
  typed-left (Local q n) x = tt
  typed-left (Answer q n) x = tt
  typed-left (This q) x = tt
  typed-left (Follow q l) x = typed-left l x
  typed-left (term.Member l m) x = typed-left l x
  typed-left (Index l e) x = (typed-left l (and-first (is_typed_left l) (is_typed e) x), typed e (and-second (is_typed_left l) (is_typed e) x))

small : (ns : List ℕ) → are_small ns ≡ true → AreSmall ns
small [] x = tt
small (n ∷ ns) x = (le-is n (2 ^ 31) (and-first (nat_le n (2 ^ 31)) (are_small ns) x), small ns (and-second (nat_le n (2 ^ 31)) (are_small ns) x))

local-orderly : (m : Member) → is_orderly_local m ≡ true → IsOrderlyLocal m
local-orderly m x = record {
  number = λ e. by m.shape.base (ap (λ b. is_number_if b m.shape.base) (sym e) ∙ and-first (is_number_if (is_direct m.shape.reach) m.shape.base) (are_small m.shape.sizes) x);
  small = small m.shape.sizes (and-second (is_number_if (is_direct m.shape.reach) m.shape.base) (are_small m.shape.sizes) x);
}
  where
    by : (b : Base) → is_number_if true b ≡ true → (k : Kind) × (b ≡ Number k)
    by (Number k) e = (k, refl)
    by (plain.OfClass c) e = cc
    by (plain.Input k) e = cc
    by (plain.Output k) e = cc
    by (plain.Signal k) e = cc
    by plain.Named e = cc

takes-is : (f : Function) (n : ℕ) (direct : Bool) → takes f n direct ≡ true → Takes f n direct
takes-is f n direct x = by (slice_get f.locals n) refl x
  where
    by : (o : Option Member) → slice_get f.locals n ≡ o → unwrap_or (option_map (λ m. same_bool (is_direct m.shape.reach) direct && is_nil m.shape.sizes) o) false ≡ true → Takes f n direct
    by None e x = cc
    by (Some m) e x = (
      m,
      e,
      same-bool-is (is_direct m.shape.reach) direct (and-first (same_bool (is_direct m.shape.reach) direct) (is_nil m.shape.sizes) x),
      nil-is m.shape.sizes (and-second (same_bool (is_direct m.shape.reach) direct) (is_nil m.shape.sizes) x),
    )

module _ (p : Plain) (g : Function) where
  answers : (n : ℕ) → has_result p g (callee_at p g n) ≡ true → (f : ℕ) × (h : Function) × (k : Kind) × Calls p g n f h × (h.result ≡ Some k)
  answers n x = by (callee g.body n) refl x
    where
      found : (f : ℕ) → callee g.body n ≡ Some f → (o : Option Function) → slice_get p.functions f ≡ o → has_result p g o ≡ true → (f : ℕ) × (h : Function) × (k : Kind) × Calls p g n f h × (h.result ≡ Some k)
      found f e None u x = cc
      found f e (Some h) u x = let r = some-there h.result x in (f, h, r.0, (e, u), r.1)

      by : (o : Option ℕ) → callee g.body n ≡ o → has_result p g (option_and_then (λ f. slice_get p.functions f) o) ≡ true → (f : ℕ) × (h : Function) × (k : Kind) × Calls p g n f h × (h.result ≡ Some k)
      by None e x = cc
      by (Some f) e x = found f e (slice_get p.functions f) refl x

  mutual
    term-orderly : (e : Term) → is_orderly_term p g e ≡ true → IsOrderlyTerm p g e
    term-orderly (Literal q k w) x = tt
    term-orderly (Load q k l) x = left-orderly l x
    term-orderly (Read q k l) x = left-orderly l x
    term-orderly (Convert q k e) x = term-orderly e x
    term-orderly (Unary q k o a) x = term-orderly a x
    term-orderly (Binary q k o a b) x = (term-orderly a (and-first (is_orderly_term p g a) (is_orderly_term p g b) x), term-orderly b (and-second (is_orderly_term p g a) (is_orderly_term p g b) x))
    term-orderly (Choose q k t a b) x =
        let A = is_orderly_term p g a in let B = is_orderly_term p g b in let y = and-second (is_orderly_term p g t) (A && B) x in
        (term-orderly t (and-first (is_orderly_term p g t) (A && B) x), term-orderly a (and-first A B y), term-orderly b (and-second A B y))
    term-orderly (Bit q a e) x = (term-orderly a (and-first (is_orderly_term p g a) (is_orderly_term p g e) x), term-orderly e (and-second (is_orderly_term p g a) (is_orderly_term p g e) x))
    term-orderly (Range q k a m l) x = term-orderly a x
    term-orderly (Join q k a b) x = (term-orderly a (and-first (is_orderly_term p g a) (is_orderly_term p g b) x), term-orderly b (and-second (is_orderly_term p g a) (is_orderly_term p g b) x))

    left-orderly : (l : Left) → is_orderly_left p g l ≡ true → IsOrderlyLeft p g l
    left-orderly (Local q n) x = some-there (slice_get g.locals n) x
    left-orderly (Answer q n) x = answers n x
    left-orderly (This q) x = tt
    left-orderly (Follow q l) x = left-orderly l x
    left-orderly (term.Member l m) x = (left-orderly l (and-first (is_orderly_left p g l) (is_object p g l) x), and-second (is_orderly_left p g l) (is_object p g l) x)
    left-orderly (Index l e) x =
        let L = is_orderly_left p g l in let E = is_orderly_term p g e in let y = and-second L (E && is_typed e) x in
        (left-orderly l (and-first L (E && is_typed e) x), term-orderly e (and-first E (is_typed e) y), typed e (and-second E (is_typed e) y))

  pick-orderly : (k : Pick) → is_orderly_pick p g k ≡ true → IsOrderlyPick p g k
  pick-orderly Whole x = tt
  pick-orderly (OneBit e) x = term-orderly e x
  pick-orderly (Bits h l) x = tt

  target-orderly : (t : Target) → is_orderly_target p g t ≡ true → IsOrderlyTarget p g t
  target-orderly Null x = tt
  target-orderly (Address l) x = left-orderly l x
  target-orderly (Copy l) x = left-orderly l x

  object-orderly : (o : Option Left) → is_orderly_object p g o ≡ true → IsOrderlyObject p g o
  object-orderly None x = tt
  object-orderly (Some l) x = (left-orderly l (and-first (is_orderly_left p g l) (is_object p g l) x), and-second (is_orderly_left p g l) (is_object p g l) x)

  arguments-orderly : (f : Function) (n : ℕ) (args : List Argument) → are_orderly_arguments p g f n args ≡ true → AreOrderlyArguments p g f n args
  arguments-orderly f n [] x = tt
  arguments-orderly f n (Value e ∷ args) x =
      let E = is_orderly_term p g e in let T = takes f n true in let R = are_orderly_arguments p g f (suc n) args in let y = and-second E (T && R) x in
      (term-orderly e (and-first E (T && R) x), takes-is f n true (and-first T R y), arguments-orderly f (suc n) args (and-second T R y))
  arguments-orderly f n (Leads t ∷ args) x =
      let E = is_orderly_target p g t in let T = takes f n false in let R = are_orderly_arguments p g f (suc n) args in let y = and-second E (T && R) x in
      (target-orderly t (and-first E (T && R) x), takes-is f n false (and-first T R y), arguments-orderly f (suc n) args (and-second T R y))
  arguments-orderly f n (ModuleName ∷ args) x = arguments-orderly f (suc n) args x

  return-orderly : (v : Option Term) → is_orderly_return p g v ≡ true → IsOrderlyReturn p g v
  return-orderly None x = tt
  return-orderly (Some e) x = let r = some-there g.result (and-second (is_orderly_term p g e) (is_some g.result) x) in (term-orderly e (and-first (is_orderly_term p g e) (is_some g.result) x), r.0, r.1)

  call-orderly : (n f : ℕ) (args : List Argument) → is_orderly_call p g n f args (slice_get p.functions f) ≡ true → (h : Function) × Calls p g n f h × AreOrderlyArguments p g h 0 args
  call-orderly n f args x = by (slice_get p.functions f) refl x
    where
      by : (o : Option Function) → slice_get p.functions f ≡ o → is_orderly_call p g n f args o ≡ true → (h : Function) × Calls p g n f h × AreOrderlyArguments p g h 0 args
      by None e x = cc
      by (Some h) e x =
          let T = is_it f (callee g.body n) in let R = are_orderly_arguments p g h 0 args in
          (h, (it-is f (callee g.body n) (and-first T R x), e), arguments-orderly h 0 args (and-second T R x))

  code-orderly : (d : ℕ) (c : Code) → is_orderly_code p g d c ≡ true → IsOrderlyCode p g d c
  code-orderly d End x = tt
  code-orderly d (Declare q n r) x = let A = is_some (slice_get g.locals n) in let R = is_orderly_code p g d r in (some-there (slice_get g.locals n) (and-first A R x), code-orderly d r (and-second A R x))
  code-orderly d (Assign q l k e r) x =
      let L = is_orderly_left p g l in let K = is_orderly_pick p g k in let E = is_orderly_term p g e in let R = is_orderly_code p g d r in
      let y = and-second L (K && (E && R)) x in let z = and-second K (E && R) y in
      (left-orderly l (and-first L (K && (E && R)) x), pick-orderly k (and-first K (E && R) y), term-orderly e (and-first E R z), code-orderly d r (and-second E R z))
  code-orderly d (Point q l t r) x =
      let L = is_orderly_left p g l in let T = is_orderly_target p g t in let R = is_orderly_code p g d r in let y = and-second L (T && R) x in
      (left-orderly l (and-first L (T && R) x), target-orderly t (and-first T R y), code-orderly d r (and-second T R y))
  code-orderly d (Write q l e r) x =
      let L = is_orderly_left p g l in let E = is_orderly_term p g e in let R = is_orderly_code p g d r in let y = and-second L (E && R) x in
      (left-orderly l (and-first L (E && R) x), term-orderly e (and-first E R y), code-orderly d r (and-second E R y))
  code-orderly d (Call q n f o args r) x =
      let C = is_orderly_call p g n f args (slice_get p.functions f) in let O = is_orderly_object p g o in let R = is_orderly_code p g d r in
      let y = and-second C (O && R) x in let c = call-orderly n f args (and-first C (O && R) x) in
      (c.0, c.1, object-orderly o (and-first O R y), c.2, code-orderly d r (and-second O R y))
  code-orderly d (If q t a b r) x =
      let T = is_orderly_term p g t in let A = is_orderly_code p g d a in let B = is_orderly_code p g d b in let R = is_orderly_code p g d r in
      let y = and-second T (A && (B && R)) x in let z = and-second A (B && R) y in
      (term-orderly t (and-first T (A && (B && R)) x), code-orderly d a (and-first A (B && R) y), code-orderly d b (and-first B R z), code-orderly d r (and-second B R z))
  code-orderly d (Loop q c b r) x = let B = is_orderly_code p g d b in let R = is_orderly_code p g d r in (code-orderly d b (and-first B R x), code-orderly d r (and-second B R x))
  code-orderly d (Block q b r) x = let B = is_orderly_code p g (suc d) b in let R = is_orderly_code p g d r in (code-orderly (suc d) b (and-first B R x), code-orderly d r (and-second B R x))
  code-orderly d (Exit q n r) x = let T = nat_lt n d in let R = is_orderly_code p g d r in (lt-is n d (and-first T R x), code-orderly d r (and-second T R x))
  code-orderly d (Return q v r) x = let V = is_orderly_return p g v in let R = is_orderly_code p g d r in (return-orderly v (and-first V R x), code-orderly d r (and-second V R x))
  code-orderly d (Wait q n r) x = code-orderly d r x
  code-orderly d (Make q l b args r) x = code-orderly d r x
  code-orderly d (Bind q l t r) x = code-orderly d r x
  code-orderly d (Process q t f e r) x = code-orderly d r x
  code-orderly d (Sensitive q items r) x = code-orderly d r x
  code-orderly d (Quiet q r) x = code-orderly d r x
  code-orderly d (Reset q s e a r) x = code-orderly d r x

pub function-orderly : (p : Plain) (g : Function) → is_orderly_function p g ≡ true → IsOrderlyFunction p g
function-orderly p g x = record {
  locals = λ n m e. local-orderly m (all-at is_orderly_local g.locals n m (and-first (list_all is_orderly_local g.locals) (is_orderly_code p g 0 g.body) x) e);
  body = code-orderly p g 0 g.body (and-second (list_all is_orderly_local g.locals) (is_orderly_code p g 0 g.body) x);
}
