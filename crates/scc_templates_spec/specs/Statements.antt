-- Statements of a source, each with what follows it (ISO C++ [stmt.stmt]; IEEE 1666-2011, 5.2). Each declared variable is a statement of its own.
use Rattle.std.specs.Prelude.{ℕ, Bool, List, Option}
use Rattle.scc_base.specs.declared.refusal.Place.{Place}
use Rattle.scc_bits_kinds.specs.declared.op.Op.{Op}
use Rattle.scc_tree.specs.declared.local.Hold.{Hold}
use Rattle.scc_templates_spec.specs.Tree.{Tree, Trees, Ty}

-- a variable with the sizes of its arrays and its first value, at the place of its name
pub record Local : Type 0 where
  pub place : Place
  pub name : ℕ
  pub type : Ty
  pub hold : Hold
  pub sizes : Trees
  pub value : Option Tree

-- an assignment, `++` or `--`, a call: with the place of its first token and that of its operator
pub data Simple : Type 0 where
  Assign : (place : Place) (left : Tree) (op : Option Op) (at : Place) (value : Tree) → Simple
  Step : (place : Place) (of : Tree) (op : Op) (at : Place) → Simple
  Calls : (place : Place) (call : Tree) → Simple

-- the first part of the head of a `for`
pub data First : Type 0 where
  Nothing : First
  Locals : (all : List Local) → First
  Does : (simple : Simple) → First

-- `SC_METHOD`, `SC_THREAD`, or `SC_CTHREAD` with its edge
pub data Process : Type 0 where
  Method : Process
  Thread : Process
  Clocked : (edge : Tree) → Process

mutual
  pub data Stmts : Type 0 where
    End : Stmts
    Brace : (body rest : Stmts) → Stmts
    Declare : (local : Local) (rest : Stmts) → Stmts
    If : (place : Place) (test : Tree) (yes no rest : Stmts) → Stmts
    Switch : (place : Place) (of : Tree) (items : Items) (rest : Stmts) → Stmts
    While : (place : Place) (test : Tree) (body rest : Stmts) → Stmts
    Do : (place : Place) (body : Stmts) (test : Tree) (rest : Stmts) → Stmts
    For : (place : Place) (first : First) (test : Option Tree) (step : Option Simple) (body rest : Stmts) → Stmts
    Break : (place : Place) (rest : Stmts) → Stmts
    Continue : (place : Place) (rest : Stmts) → Stmts
    Return : (place : Place) (value : Option Tree) (rest : Stmts) → Stmts
    Wait : (place : Place) (count : Option Tree) (rest : Stmts) → Stmts
    -- a process on the function of a name, which has its own place; no name where it is a template's parameter
    Runs : (place at : Place) (name : Option ℕ) (process : Process) (rest : Stmts) → Stmts
    Sensitive : (place : Place) (to : Trees) (rest : Stmts) → Stmts
    Quiet : (place : Place) (rest : Stmts) → Stmts
    Reset : (place : Place) (signal level : Tree) (asynchronous : Bool) (rest : Stmts) → Stmts
    Simply : (simple : Simple) (rest : Stmts) → Stmts

  -- what stands in the braces of a `switch`: labels, and statements between them
  pub data Items : Type 0 where
    NoItems : Items
    Case : (place : Place) (value : Tree) (rest : Items) → Items
    Otherwise : (place : Place) (rest : Items) → Items
    Between : (stmts : Stmts) (rest : Items) → Items
