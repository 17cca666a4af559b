-- Programs in which operators have the kinds that their operands give, wherever statements are copied (ISO C++ [expr]; IEEE 1666-2011, 7.2): all that the
-- static stage makes.
use Rattle.std.specs.Prelude.{Bool, true, ◌&&◌, List, [], ◌∷◌, Option, Some, None}
use Rattle.std.specs.List.{list_all}
use Rattle.scc_bits.specs.Values.{kind_of as operator_kind}
use Rattle.scc_core_spec.specs.Fit.{is_kind}
use Rattle.scc_elab_spec.specs.Term.{Term, Literal, Load, Read, Convert, Unary, Binary, Choose, Bit, Range, Join, Left, Local, Answer, This, Follow, Index, Pick, Whole, OneBit, Bits, Target, Null, Address, Copy, Argument, Value, Leads, ModuleName, kind_of}
use Rattle.scc_elab_spec.specs.Term as term
use Rattle.scc_elab_spec.specs.Program.{Code, End, Declare, Assign, Point, Write, Call, If, Loop, Block, Exit, Return, Wait, Make, Bind, Process, Sensitive, Quiet, Reset, Plain}

abbrev mutual
  pub kinded_term : Term → Bool
  kinded_term (Literal p k w) = true
  kinded_term (Load p k l) = kinded_left l
  kinded_term (Read p k l) = kinded_left l
  kinded_term (Convert p k e) = kinded_term e
  kinded_term (Unary p k o a) = is_kind (operator_kind o (kind_of a) (kind_of a)) k && kinded_term a
  kinded_term (Binary p k o a b) = is_kind (operator_kind o (kind_of a) (kind_of b)) k && (kinded_term a && kinded_term b)
  kinded_term (Choose p k t a b) = kinded_term t && (kinded_term a && kinded_term b)
  kinded_term (Bit p a e) = kinded_term a && kinded_term e
  kinded_term (Range p k a h l) = kinded_term a
  kinded_term (Join p k a b) = kinded_term a && kinded_term b

  pub kinded_left : Left → Bool
  kinded_left (Local p n) = true
  kinded_left (Answer p n) = true
  kinded_left (This p) = true
  kinded_left (Follow p l) = kinded_left l
  kinded_left (term.Member l m) = kinded_left l
  kinded_left (Index l e) = kinded_left l && kinded_term e

abbrev pub kinded_pick : Pick → Bool
kinded_pick Whole = true
kinded_pick (OneBit e) = kinded_term e
kinded_pick (Bits h l) = true

abbrev pub kinded_target : Target → Bool
kinded_target Null = true
kinded_target (Address l) = kinded_left l
kinded_target (Copy l) = kinded_left l

abbrev pub kinded_object : Option Left → Bool
kinded_object None = true
kinded_object (Some l) = kinded_left l

abbrev pub kinded_arguments : List Argument → Bool
kinded_arguments [] = true
kinded_arguments (Value e ∷ args) = kinded_term e && kinded_arguments args
kinded_arguments (Leads t ∷ args) = kinded_target t && kinded_arguments args
kinded_arguments (ModuleName ∷ args) = kinded_arguments args

abbrev pub kinded_value : Option Term → Bool
kinded_value None = true
kinded_value (Some e) = kinded_term e

-- statements of construction alone aren't copied
abbrev pub kinded_code : Code → Bool
kinded_code End = true
kinded_code (Declare p n r) = kinded_code r
kinded_code (Assign p l k e r) = kinded_left l && (kinded_pick k && (kinded_term e && kinded_code r))
kinded_code (Point p l t r) = kinded_left l && (kinded_target t && kinded_code r)
kinded_code (Write p l e r) = kinded_left l && (kinded_term e && kinded_code r)
kinded_code (Call p n f o args r) = kinded_object o && (kinded_arguments args && kinded_code r)
kinded_code (If p t a b r) = kinded_term t && (kinded_code a && (kinded_code b && kinded_code r))
kinded_code (Loop p c b r) = kinded_code b && kinded_code r
kinded_code (Block p b r) = kinded_code b && kinded_code r
kinded_code (Exit p n r) = kinded_code r
kinded_code (Return p v r) = kinded_value v && kinded_code r
kinded_code (Wait p n r) = kinded_code r
kinded_code (Make p l b args r) = kinded_code r
kinded_code (Bind p l t r) = kinded_code r
kinded_code (Process p t f e r) = kinded_code r
kinded_code (Sensitive p items r) = kinded_code r
kinded_code (Quiet p r) = kinded_code r
kinded_code (Reset p s e a r) = kinded_code r

abbrev pub is_kinded : Plain → Bool
is_kinded p = list_all (λ f. kinded_code f.body) p.functions
