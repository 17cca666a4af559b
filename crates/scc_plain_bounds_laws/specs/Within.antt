-- Statements that name no locals but some ([basic.scope.block]), and of which members and calls are those of objects (ISO C++ [expr.ref]), as a test; statements of
-- construction alone count only by their rest.
use Rattle.std.specs.Prelude.{ℕ, Bool, true, false, ◌&&◌, nat_lt, List, [], ◌∷◌, length, Option, Some, None, option_map, slice_get, unwrap_or}
use Rattle.scc_elab_spec.specs.Term.{Term, Literal, Load, Read, Convert, Unary, Binary, Choose, Bit, Range, Join, Left, Local, Answer, This, Follow, Index, Pick, Whole, OneBit, Bits, Target, Null, Address, Copy, Argument, Value, Leads, ModuleName}
use Rattle.scc_elab_spec.specs.Term as term
use Rattle.scc_elab_spec.specs.Types.{is_reference}
use Rattle.scc_elab_spec.specs.Program.{Reach, Code, End, Declare, Assign, Point, Write, Call, If, Loop, Block, Exit, Return, Wait, Make, Bind, Process, Sensitive, Quiet, Reset}

-- What the locals hold: a number, a pointer or a reference each.
module _ (locals : List Reach) where
  -- an object: no element of a local
  abbrev pub is_object : Left → Bool
  is_object (Local p n) = unwrap_or (option_map is_reference (slice_get locals n)) false
  is_object (Answer p n) = false
  is_object (This p) = true
  is_object (Follow p l) = true
  is_object (term.Member l m) = is_object l
  is_object (Index l e) = is_object l

  abbrev mutual
    pub within_term : Term → Bool
    within_term (Literal p k w) = true
    within_term (Load p k l) = within_left l
    within_term (Read p k l) = within_left l
    within_term (Convert p k e) = within_term e
    within_term (Unary p k o a) = within_term a
    within_term (Binary p k o a b) = within_term a && within_term b
    within_term (Choose p k t a b) = within_term t && (within_term a && within_term b)
    within_term (Bit p a e) = within_term a && within_term e
    within_term (Range p k a h l) = within_term a
    within_term (Join p k a b) = within_term a && within_term b

    pub within_left : Left → Bool
    within_left (Local p n) = nat_lt n (length locals)
    within_left (Answer p n) = true
    within_left (This p) = true
    within_left (Follow p l) = within_left l
    within_left (term.Member l m) = within_left l && is_object l
    within_left (Index l e) = within_left l && within_term e

  abbrev pub within_pick : Pick → Bool
  within_pick Whole = true
  within_pick (OneBit e) = within_term e
  within_pick (Bits h l) = true

  abbrev pub within_target : Target → Bool
  within_target Null = true
  within_target (Address l) = within_left l
  within_target (Copy l) = within_left l

  abbrev pub within_object : Option Left → Bool
  within_object None = true
  within_object (Some l) = within_left l && is_object l

  abbrev pub within_arguments : List Argument → Bool
  within_arguments [] = true
  within_arguments (Value e ∷ args) = within_term e && within_arguments args
  within_arguments (Leads t ∷ args) = within_target t && within_arguments args
  within_arguments (ModuleName ∷ args) = within_arguments args

  abbrev pub within_value : Option Term → Bool
  within_value None = true
  within_value (Some e) = within_term e

  abbrev pub within_code : Code → Bool
  within_code End = true
  within_code (Declare p n r) = nat_lt n (length locals) && within_code r
  within_code (Assign p l k e r) = within_left l && (within_pick k && (within_term e && within_code r))
  within_code (Point p l t r) = within_left l && (within_target t && within_code r)
  within_code (Write p l e r) = within_left l && (within_term e && within_code r)
  within_code (Call p n f o args r) = within_object o && (within_arguments args && within_code r)
  within_code (If p t a b r) = within_term t && (within_code a && (within_code b && within_code r))
  within_code (Loop p c b r) = within_code b && within_code r
  within_code (Block p b r) = within_code b && within_code r
  within_code (Exit p n r) = within_code r
  within_code (Return p v r) = within_value v && within_code r
  within_code (Wait p n r) = within_code r
  within_code (Make p l b args r) = within_code r
  within_code (Bind p l t r) = within_code r
  within_code (Process p t f e r) = within_code r
  within_code (Sensitive p items r) = within_code r
  within_code (Quiet p r) = within_code r
  within_code (Reset p s e a r) = within_code r
