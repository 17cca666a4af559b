-- What the law of copied bodies asks of a program and its design, and the static stage isn't proved to give: results that are there, arguments that fit, names of
-- processes, elements that are alike. This project's own.
use Rattle.std.specs.Prelude.{ℕ, suc, Bool, true, false, ◌&&◌, List, [], ◌∷◌, Option, Some, None, option_map, slice_get, unwrap_or}
use Rattle.std.specs.List.{list_all}
use Rattle.scc_elab_spec.specs.Term.{Term, Literal, Load, Read, Convert, Unary, Binary, Choose, Bit, Range, Join, Left, Local, Answer, This, Follow, Index, Pick, Whole, OneBit, Bits, Target, Null, Address, Copy, Argument, Value, Leads, ModuleName}
use Rattle.scc_elab_spec.specs.Term as term
use Rattle.scc_elab_spec.specs.Program.{Base, Named, Reach, Direct, Code, End, Declare, Assign, Point, Write, Call, If, Loop, Block, Exit, Return, Wait, Make, Bind, Process, Sensitive, Quiet, Reset, Function, Plain, Member}
use Rattle.scc_elab_spec.specs.Design.{Design}
use Rattle.scc_inline_counter_laws.specs.Even.{are_even}
use Rattle.scc_inline_orderly_laws.specs.Program.{same_run}
use Rattle.scc_inline_orderly_laws.specs.Reached.{reached}
use Rattle.scc_inline_orderly_laws.specs.Test.{callee_at, has_result, takes}
use Rattle.scc_inline_orderly_laws.specs.Whole.{differ}

-- no module's name
abbrev pub holds_no_name : Reach → Base → Bool
holds_no_name Direct Named = false
holds_no_name r b = true

module _ (p : Plain) (g : Function) where
  abbrev mutual
    pub fits_term : Term → Bool
    fits_term (Literal q k w) = true
    fits_term (Load q k l) = fits_left l
    fits_term (Read q k l) = fits_left l
    fits_term (Convert q k e) = fits_term e
    fits_term (Unary q k o a) = fits_term a
    fits_term (Binary q k o a b) = fits_term a && fits_term b
    fits_term (Choose q k t a b) = fits_term t && (fits_term a && fits_term b)
    fits_term (Bit q a e) = fits_term a && fits_term e
    fits_term (Range q k a m l) = fits_term a
    fits_term (Join q k a b) = fits_term a && fits_term b

    pub fits_left : Left → Bool
    fits_left (Local q n) = true
    fits_left (Answer q n) = has_result p g (callee_at p g n)
    fits_left (This q) = true
    fits_left (Follow q l) = fits_left l
    fits_left (term.Member l m) = fits_left l
    fits_left (Index l e) = fits_left l && fits_term e

  abbrev pub fits_pick : Pick → Bool
  fits_pick Whole = true
  fits_pick (OneBit e) = fits_term e
  fits_pick (Bits h l) = true

  abbrev pub fits_target : Target → Bool
  fits_target Null = true
  fits_target (Address l) = fits_left l
  fits_target (Copy l) = fits_left l

  abbrev pub fits_object : Option Left → Bool
  fits_object None = true
  fits_object (Some l) = fits_left l

  -- arguments of a call of f, from the n-th on
  abbrev pub fit_arguments : Function → ℕ → List Argument → Bool
  fit_arguments f n [] = true
  fit_arguments f n (Value e ∷ args) = fits_term e && (takes f n true && fit_arguments f (suc n) args)
  fit_arguments f n (Leads t ∷ args) = fits_target t && (takes f n false && fit_arguments f (suc n) args)
  fit_arguments f n (ModuleName ∷ args) = fit_arguments f (suc n) args

  abbrev pub fits_value : Option Term → Bool
  fits_value None = true
  fits_value (Some e) = fits_term e

  abbrev pub fits_call : List Argument → Option Function → Bool
  fits_call args None = false
  fits_call args (Some h) = fit_arguments h 0 args

  abbrev pub fits_code : Code → Bool
  fits_code End = true
  fits_code (Declare q n r) = fits_code r
  fits_code (Assign q l k e r) = fits_left l && (fits_pick k && (fits_term e && fits_code r))
  fits_code (Point q l t r) = fits_left l && (fits_target t && fits_code r)
  fits_code (Write q l e r) = fits_left l && (fits_term e && fits_code r)
  fits_code (Call q n f o args r) = fits_call args (slice_get p.functions f) && (fits_object o && fits_code r)
  fits_code (If q t a b r) = fits_term t && (fits_code a && (fits_code b && fits_code r))
  fits_code (Loop q c b r) = fits_code b && fits_code r
  fits_code (Block q b r) = fits_code b && fits_code r
  fits_code (Exit q n r) = fits_code r
  fits_code (Return q v r) = fits_value v && fits_code r
  fits_code (Wait q n r) = fits_code r
  fits_code (Make q l b args r) = fits_code r
  fits_code (Bind q l t r) = fits_code r
  fits_code (Process q t f e r) = fits_code r
  fits_code (Sensitive q items r) = fits_code r
  fits_code (Quiet q r) = fits_code r
  fits_code (Reset q s e a r) = fits_code r

abbrev pub is_unnamed : Member → Bool
is_unnamed m = holds_no_name m.shape.reach m.shape.base

abbrev pub is_fitting_function : Plain → Function → Bool
is_fitting_function p g = list_all is_unnamed g.locals && fits_code p g g.body

module _ (p : Plain) where
  abbrev pub is_fitting_at : ℕ → Bool
  is_fitting_at f = unwrap_or (option_map (is_fitting_function p) (slice_get p.functions f)) true

-- the functions that calls of processes lead to, names of processes, and elements from which counters choose for calls
abbrev pub is_fitting_program : Plain → Design → Bool
is_fitting_program p d = list_all (λ q. list_all (is_fitting_at p) (reached p q.function)) d.processes && (differ (same_run p) d.processes && are_even p d 0 d.processes)
