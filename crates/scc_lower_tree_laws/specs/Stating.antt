-- What becomes of statements inside so many open blocks, from one state of a lowering to another. This project's own.
use Rattle.std.specs.Prelude.{◌≡◌, ℕ, suc, ◌-◌, ◌*◌, ◌<◌, ◌≤◌, ◌^◌, max, nat_eq, nat_lt, Bool, true, false, ◌&&◌, ◌||◌, if◌then◌else◌, List, [], ◌∷◌, ◌++◌, length, slice_get, Some}
use Rattle.scc_bits.specs.Value.{Number}
use Rattle.scc_core.specs.declared.expr.CoreExpr.{CoreExpr}
use Rattle.scc_core.specs.declared.expr.CoreLeft.{CoreLeft}
use Rattle.scc_core.specs.declared.stmt.CoreStmt.{CoreStmt}
use Rattle.scc_core.specs.declared.stmt.CoreNode.TheVariants as node
use Rattle.scc_core_spec.specs.Code as core
use Rattle.scc_core_view.specs.Codes.{code_of}
use Rattle.scc_svtree.specs.declared.expr.SvBinary.TheVariants as binary
use Rattle.scc_svtree.specs.Code.{Code, End, Assign, If}
use Rattle.scc_svtree.specs.Term as emitted
use Rattle.scc_blocks_spec.specs.Shown.{Sight}
use Rattle.scc_lower_laws.specs.Elements.{variable_of}
use Rattle.scc_lower_laws.specs.Sequence.{then_code, whole}
use Rattle.scc_lower_laws.specs.Statements.{LowersCode, leaving}
use Rattle.scc_lower_tree_laws.specs.Assigning.{IsRightPut}
use Rattle.scc_lower_tree_laws.specs.Sound.{IsSound}
use Rattle.scc_lower_tree_laws.specs.States.{Agrees, Given, Seen, Sees, State}

-- More temporaries, and nothing stands before; all else stays.
pub record Keeps (old new : State) : Type 0 where
  pub more : List ℕ
  pub views : new.views ≡ old.views
  pub exit : new.exit ≡ old.exit
  pub temporaries : new.temporaries ≡ old.temporaries ++ more
  pub before : new.before ≡ End

-- what stands before is taken
abbrev pub cleared : State → State
cleared a = record { views = a.views; exit = a.exit; temporaries = a.temporaries; before = End }

-- the greatest number of a block that is left, with so many open around; 0 where none is
abbrev pub greatest : ℕ → core.Code → ℕ
greatest d core.End = 0
greatest d (core.Put p l k e r) = greatest d r
greatest d (core.Aim p to t r) = greatest d r
greatest d (core.If p t a b r) = max (max (greatest d a) (greatest d b)) (greatest d r)
greatest d (core.Block p b r) = max (greatest (suc d) b) (greatest d r)
greatest d (core.Loop p n b r) = max (greatest d b) (greatest d r)
greatest d (core.Exit p n r) = max (d - n) (greatest d r)
greatest d (core.Wait p l n r) = greatest d r

-- ---- what stands in statements

pub data Under (x : CoreStmt) : CoreStmt → Type 0 where
  yes_part : (t : CoreExpr) (a b : List CoreStmt) (n : ℕ) (y : CoreStmt) → x.node ≡ node.If t a b → slice_get a n ≡ Some y → Under x y
  no_part : (t : CoreExpr) (a b : List CoreStmt) (n : ℕ) (y : CoreStmt) → x.node ≡ node.If t a b → slice_get b n ≡ Some y → Under x y
  inside : (b : List CoreStmt) (n : ℕ) (y : CoreStmt) → x.node ≡ node.Block b → slice_get b n ≡ Some y → Under x y

pub data Within : CoreStmt → CoreStmt → Type 0 where
  itself : (x : CoreStmt) → Within x x
  deeper : (x y z : CoreStmt) → Under x y → Within y z → Within x z

pub record IsFine (g : Given) (s : Sight) (x : CoreStmt) : Type 0 where
  pub put : (l : CoreLeft) (e : CoreExpr) → x.node ≡ node.Assign l e → IsRightPut g s l e
  pub test : (t : CoreExpr) (a b : List CoreStmt) → x.node ≡ node.If t a b → IsSound g s t

-- statements that can be lowered: all that stands in them is as it has to be
abbrev pub AreFine : Given → Sight → List CoreStmt → Type 0
AreFine g s ss = (n : ℕ) (x y : CoreStmt) → slice_get ss n ≡ Some x → Within x y → IsFine g s y

-- The statements are lowered: whatever a process sees there, the code does what they do, and of the blocks around it leaves those that `out` tells.
pub record Stating (g : Given) (depth : ℕ) (ss : List CoreStmt) (old : State) (code : Code) (out : ℕ → Bool) (new : State) : Type 0 where
  pub keeps : Keeps old new
  pub least : (k : ℕ) → out k ≡ true → k ≤ greatest depth (code_of ss)
  pub lowers : (s : Sight) (width : ℕ → ℕ) → Sees g.cells old.views s width → Agrees s width new.temporaries → width (leaving s) ≡ old.exit → greatest depth (code_of ss) < 2 ^ old.exit → AreFine g s ss
      → LowersCode s width depth (length new.temporaries) out (code_of ss) code

-- ---- the texts, with so many cells

abbrev pub is_leaving : (cells exit : ℕ) → ℕ → emitted.Term
is_leaving n exit k = emitted.Binary binary.Eq (variable_of (2 * n)) (emitted.Literal exit k)

abbrev pub leave : (cells exit : ℕ) → ℕ → Code
leave n exit k = Assign (whole (2 * n)) (emitted.Literal exit k) End

abbrev pub guard : (cells exit : ℕ) → Code → Code
guard n exit code = If (is_leaving n exit 0) code End End

abbrev pub back : (cells exit : ℕ) → ℕ → Code
back n exit k = If (is_leaving n exit k) (leave n exit 0) End End

-- no block is left; one of two sets; those around a block
abbrev pub none_left : ℕ → Bool
none_left k = false

abbrev pub either_left : (ℕ → Bool) → (ℕ → Bool) → ℕ → Bool
either_left f g k = f k || g k

abbrev pub around : ℕ → (ℕ → Bool) → ℕ → Bool
around depth f k = nat_lt k (suc depth) && f k

abbrev pub one_left : ℕ → ℕ → Bool
one_left n k = nat_eq k n
