-- A design without pointers, whose words stay proper. This project's own: what the rules leave of a program is one.
use Rattle.std.specs.Prelude.{◌≡◌, ℕ, ◌+◌, Bool, true, false, ◌&&◌, List, [], ◌∷◌, None}
use Rattle.std.specs.List.{list_any}
use Rattle.scc_semantics.specs.Location.{Location, same}
use Rattle.scc_semantics.specs.Expressions.{Expr, Literal, Load, Read, Convert, Unary, Binary, Choose, Bit, Range, Join, Left, Declared, Result, This, At, Null, Follow, Field, Indexed, Pick, Whole, OneBit, Bits}
use Rattle.scc_semantics.specs.Store.{Request}
use Rattle.scc_semantics.specs.Body.{Body, End, Assign, If, Block, Loop, Exit, Wait}
use Rattle.scc_semantics.specs.Design.{Process, Design, inputs}
use Rattle.scc_semantics.specs.Run.{FitsThing}
use Rattle.scc_semantics.specs.Same.{Turn, Seen, Plays, AllProper, at_first}
use Rattle.scc_semantics.specs.Start.{IsProper, HoldsConstant}

-- no pointer is followed
abbrev mutual
  pub plain_expr : Expr → Bool
  plain_expr (Literal k w) = true
  plain_expr (Load k l) = plain_left l
  plain_expr (Read k l) = plain_left l
  plain_expr (Convert k e) = plain_expr e
  plain_expr (Unary o a) = plain_expr a
  plain_expr (Binary o a b) = plain_expr a && plain_expr b
  plain_expr (Choose k t a b) = plain_expr t && (plain_expr a && plain_expr b)
  plain_expr (Bit a e) = plain_expr a && plain_expr e
  plain_expr (Range k a h l) = plain_expr a
  plain_expr (Join k a b) = plain_expr a && plain_expr b

  pub plain_left : Left → Bool
  plain_left (Declared d) = true
  plain_left (Result c) = true
  plain_left This = true
  plain_left (At l) = true
  plain_left Null = true
  plain_left (Follow p) = false
  plain_left (Field p n) = plain_left p
  plain_left (Indexed p e) = plain_left p && plain_expr e

abbrev pub plain_pick : Pick → Bool
plain_pick Whole = true
plain_pick (OneBit e) = plain_expr e
plain_pick (Bits h l) = true

-- no pointer is followed or set, and nothing is called or declared
abbrev pub plain_body : Body → Bool
plain_body End = true
plain_body (Assign l p e r) = plain_left l && (plain_pick p && (plain_expr e && plain_body r))
plain_body (If t a b r) = plain_expr t && (plain_body a && (plain_body b && plain_body r))
plain_body (Block b r) = plain_body b && plain_body r
plain_body (Loop b r) = plain_body b && plain_body r
plain_body (Exit n r) = plain_body r
plain_body (Wait number count r) = plain_body r
plain_body _ = false

-- a word that the location may hold, and the one that it holds for good
pub record IsProperAt (d : Design) (l : Location) (x : ℕ) : Type 0 where
  pub fits : FitsThing (d.places.things l) x
  pub fixed : HoldsConstant (d.fixed l) x
  pub constants : HoldsConstant (d.constant l) x

abbrev pub AllProperRequests : Design → List Request → Type 0
AllProperRequests d [] = Unit {0}
AllProperRequests d (r ∷ rs) = IsProperAt d r.root r.word × AllProperRequests d rs

abbrev pub AllProperSeen : Design → List Seen → Type 0
AllProperSeen d [] = Unit {0}
AllProperSeen d (o ∷ os) = IsProper d o.words × AllProperRequests d o.requests × AllProperSeen d os

-- over resumes from proper words, what a process without pointers shows is proper
pub record IsSteadyProcess (d : Design) (i : ℕ) (p : Process) : Type 0 where
  pub plain : plain_body p.body ≡ true
  pub proper : (ns : List ℕ) (ts : List Turn) (os : List Seen) → AllProper d ts → Plays d i p (at_first d i p) ns ts os → AllProperSeen d os

abbrev pub AllSteady : Design → ℕ → List Process → Type 0
AllSteady d i [] = Unit {0}
AllSteady d i (p ∷ ps) = IsSteadyProcess d i p × AllSteady d (i + 1) ps

-- its processes are steady, and inputs hold no constants
pub record IsSteady (d : Design) : Type 0 where
  pub processes : AllSteady d 0 d.processes
  pub inputs : (l : Location) → list_any (same l) (inputs d) ≡ true → (d.fixed l ≡ None) × (d.constant l ≡ None)
