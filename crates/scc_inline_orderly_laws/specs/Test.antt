-- What the law of copied bodies asks of a function, as a test. This project's own.
use Rattle.std.specs.Prelude.{ℕ, suc, ◌^◌, Bool, true, false, ◌&&◌, nat_le, nat_lt, List, [], ◌∷◌, Option, Some, None, is_some, option_map, option_and_then, slice_get, unwrap_or}
use Rattle.std.specs.List.{list_all}
use Rattle.scc_bits.specs.Values.{kind_of as operator_kind}
use Rattle.scc_core_spec.specs.Counted.{is_it}
use Rattle.scc_core_spec.specs.Fit.{is_kind, is_nil, same_bool}
use Rattle.scc_elab_spec.specs.Term.{Term, Literal, Load, Read, Convert, Unary, Binary, Choose, Bit, Range, Join, Left, Local, Answer, This, Follow, Index, Pick, Whole, OneBit, Bits, Target, Null, Address, Copy, Argument, Value, Leads, ModuleName, kind_of}
use Rattle.scc_elab_spec.specs.Term as term
use Rattle.scc_elab_spec.specs.Program.{Base, Number, Code, End, Declare, Assign, Point, Write, Call, If, Loop, Block, Exit, Return, Wait, Make, Bind, Process, Sensitive, Quiet, Reset, Function, Plain, Member}
use Rattle.scc_elab_spec.specs.Types.{is_direct}
use Rattle.scc_elab_spec.specs.Numbering.{callee}
use Rattle.scc_inline_laws.specs.Orderly.{is_object}

-- operations have the kinds that their operators give
abbrev mutual
  pub is_typed : Term → Bool
  is_typed (Literal q k w) = true
  is_typed (Load q k l) = is_typed_left l
  is_typed (Read q k l) = is_typed_left l
  is_typed (Convert q k e) = is_typed e
  is_typed (Unary q k o a) = is_kind (operator_kind o (kind_of a) (kind_of a)) k && is_typed a
  is_typed (Binary q k o a b) = is_kind (operator_kind o (kind_of a) (kind_of b)) k && (is_typed a && is_typed b)
  is_typed (Choose q k t a b) = is_typed t && (is_typed a && is_typed b)
  is_typed (Bit q a e) = is_typed a && is_typed e
  is_typed (Range q k a h l) = is_typed a
  is_typed (Join q k a b) = is_typed a && is_typed b

  pub is_typed_left : Left → Bool
  is_typed_left (Local q n) = true
  is_typed_left (Answer q n) = true
  is_typed_left (This q) = true
  is_typed_left (Follow q l) = is_typed_left l
  is_typed_left (term.Member l m) = is_typed_left l
  is_typed_left (Index l e) = is_typed_left l && is_typed e

abbrev pub is_number_base : Base → Bool
is_number_base (Number k) = true
is_number_base b = false

abbrev pub are_small : List ℕ → Bool
are_small [] = true
are_small (n ∷ ns) = nat_le n (2 ^ 31) && are_small ns

abbrev pub is_number_if : Bool → Base → Bool
is_number_if true b = is_number_base b
is_number_if false b = true

abbrev pub is_orderly_local : Member → Bool
is_orderly_local m = is_number_if (is_direct m.shape.reach) m.shape.base && are_small m.shape.sizes

-- a parameter of its own, no array
abbrev pub takes : Function → ℕ → Bool → Bool
takes f n direct = unwrap_or (option_map (λ m. same_bool (is_direct m.shape.reach) direct && is_nil m.shape.sizes) (slice_get f.locals n)) false

module _ (p : Plain) (g : Function) where
  -- the function of a call
  abbrev pub callee_at : ℕ → Option Function
  callee_at n = option_and_then (λ f. slice_get p.functions f) (callee g.body n)

  abbrev pub has_result : Option Function → Bool
  has_result None = false
  has_result (Some h) = is_some h.result

  abbrev mutual
    pub is_orderly_term : Term → Bool
    is_orderly_term (Literal q k w) = true
    is_orderly_term (Load q k l) = is_orderly_left l
    is_orderly_term (Read q k l) = is_orderly_left l
    is_orderly_term (Convert q k e) = is_orderly_term e
    is_orderly_term (Unary q k o a) = is_orderly_term a
    is_orderly_term (Binary q k o a b) = is_orderly_term a && is_orderly_term b
    is_orderly_term (Choose q k t a b) = is_orderly_term t && (is_orderly_term a && is_orderly_term b)
    is_orderly_term (Bit q a e) = is_orderly_term a && is_orderly_term e
    is_orderly_term (Range q k a m l) = is_orderly_term a
    is_orderly_term (Join q k a b) = is_orderly_term a && is_orderly_term b

    pub is_orderly_left : Left → Bool
    is_orderly_left (Local q n) = is_some (slice_get g.locals n)
    is_orderly_left (Answer q n) = has_result (callee_at n)
    is_orderly_left (This q) = true
    is_orderly_left (Follow q l) = is_orderly_left l
    is_orderly_left (term.Member l m) = is_orderly_left l && is_object p g l
    is_orderly_left (Index l e) = is_orderly_left l && (is_orderly_term e && is_typed e)

  abbrev pub is_orderly_pick : Pick → Bool
  is_orderly_pick Whole = true
  is_orderly_pick (OneBit e) = is_orderly_term e
  is_orderly_pick (Bits h l) = true

  abbrev pub is_orderly_target : Target → Bool
  is_orderly_target Null = true
  is_orderly_target (Address l) = is_orderly_left l
  is_orderly_target (Copy l) = is_orderly_left l

  abbrev pub is_orderly_object : Option Left → Bool
  is_orderly_object None = true
  is_orderly_object (Some l) = is_orderly_left l && is_object p g l

  -- arguments of a call of f, from the n-th on
  abbrev pub are_orderly_arguments : Function → ℕ → List Argument → Bool
  are_orderly_arguments f n [] = true
  are_orderly_arguments f n (Value e ∷ args) = is_orderly_term e && (takes f n true && are_orderly_arguments f (suc n) args)
  are_orderly_arguments f n (Leads t ∷ args) = is_orderly_target t && (takes f n false && are_orderly_arguments f (suc n) args)
  are_orderly_arguments f n (ModuleName ∷ args) = are_orderly_arguments f (suc n) args

  abbrev pub is_orderly_return : Option Term → Bool
  is_orderly_return None = true
  is_orderly_return (Some e) = is_orderly_term e && is_some g.result

  -- the call of that number calls this function, with arguments that fit it
  abbrev pub is_orderly_call : ℕ → ℕ → List Argument → Option Function → Bool
  is_orderly_call n f args None = false
  is_orderly_call n f args (Some h) = is_it f (callee g.body n) && are_orderly_arguments h 0 args

  -- statements inside so many blocks
  abbrev pub is_orderly_code : ℕ → Code → Bool
  is_orderly_code d End = true
  is_orderly_code d (Declare q n r) = is_some (slice_get g.locals n) && is_orderly_code d r
  is_orderly_code d (Assign q l k e r) = is_orderly_left l && (is_orderly_pick k && (is_orderly_term e && is_orderly_code d r))
  is_orderly_code d (Point q l t r) = is_orderly_left l && (is_orderly_target t && is_orderly_code d r)
  is_orderly_code d (Write q l e r) = is_orderly_left l && (is_orderly_term e && is_orderly_code d r)
  is_orderly_code d (Call q n f o args r) = is_orderly_call n f args (slice_get p.functions f) && (is_orderly_object o && is_orderly_code d r)
  is_orderly_code d (If q t a b r) = is_orderly_term t && (is_orderly_code d a && (is_orderly_code d b && is_orderly_code d r))
  is_orderly_code d (Loop q c b r) = is_orderly_code d b && is_orderly_code d r
  is_orderly_code d (Block q b r) = is_orderly_code (suc d) b && is_orderly_code d r
  is_orderly_code d (Exit q n r) = nat_lt n d && is_orderly_code d r
  is_orderly_code d (Return q v r) = is_orderly_return v && is_orderly_code d r
  is_orderly_code d (Wait q n r) = is_orderly_code d r
  is_orderly_code d (Make q l b args r) = is_orderly_code d r
  is_orderly_code d (Bind q l t r) = is_orderly_code d r
  is_orderly_code d (Process q t f e r) = is_orderly_code d r
  is_orderly_code d (Sensitive q items r) = is_orderly_code d r
  is_orderly_code d (Quiet q r) = is_orderly_code d r
  is_orderly_code d (Reset q s e a r) = is_orderly_code d r

abbrev pub is_orderly_function : Plain → Function → Bool
is_orderly_function p g = list_all is_orderly_local g.locals && is_orderly_code p g 0 g.body
