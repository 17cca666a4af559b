-- What it means that statements are lowered inside so many open blocks. A variable holds the number of the block that is being left, 0 where none is. This project's own.
use Rattle.std.specs.Prelude.{◌≡◌, ℕ, suc, ◌-◌, ◌*◌, ◌<◌, ◌≤◌, ◌^◌, Bool, true, false, if◌then◌else◌, length}
use Rattle.scc_svtree.specs.declared.expr.SvBinary.TheVariants as binary
use Rattle.scc_svtree.specs.Term as emitted
use Rattle.scc_svtree.specs.Code as emitted_code
use Rattle.scc_svtree.specs.Running.{run}
use Rattle.scc_core_spec.specs.Code.{Code}
use Rattle.scc_blocks_spec.specs.Acting.{Acting}
use Rattle.scc_blocks_spec.specs.Effect.{Effect, Fell, Left_out, Lost, effect}
use Rattle.scc_blocks_spec.specs.Shown.{Sight, Shows, ShowsCell}
use Rattle.scc_blocks_spec.specs.Lowered.{Fits}
use Rattle.scc_lower_laws.specs.Sequence.{whole, then_code}
use Rattle.scc_lower_laws.specs.Elements.{variable_of}
use Rattle.scc_lower_laws.specs.Puts.{AssignsBelow}

-- the variable of the number of the block that is being left
abbrev pub leaving : Sight → ℕ
leaving s = 2 * length s.cells

-- A valuation shows a store with requests while a block is being left.
pub record ShowsLeaving (s : Sight) (a : Acting) (block : ℕ) (x : ℕ → ℕ) : Type 0 where
  pub cells : (c : ℕ) → s.mine c ≡ true → ShowsCell (s.view c) c a x
  pub block_is : x (leaving s) ≡ block

-- A valuation shows what is left; of the blocks around, which are numbered from 1 on, one of those may be left that `out` tells.
abbrev pub ShowsEffect : Sight → (depth : ℕ) → (out : ℕ → Bool) → Effect → (ℕ → ℕ) → Type 0
ShowsEffect s depth out (Fell b) y = Fits s b × Shows s b y
ShowsEffect s depth out (Left_out n b) y = Fits s b × (n < depth) × (out (depth - n) ≡ true) × ShowsLeaving s b (depth - n) y
ShowsEffect s depth out Lost y = Unit {0}

pub record LowersCode (s : Sight) (width : ℕ → ℕ) (depth to : ℕ) (out : ℕ → Bool) (c : Code) (code : emitted_code.Code) : Type 0 where
  pub shows : (a : Acting) (x : ℕ → ℕ) → Fits s a → Shows s a x → ShowsEffect s depth out (effect s.cells c a) (run width code x)
  pub framed : AssignsBelow s to code

-- while a block is being left, code does nothing
abbrev pub Skips : Sight → (ℕ → ℕ) → emitted_code.Code → Type 0
Skips s width code = (x : ℕ → ℕ) → 1 ≤ x (leaving s) → x (leaving s) < 2 ^ width (leaving s) → run width code x ≡ x

-- no block is left
abbrev pub none : ℕ → Bool
none k = false

-- the blocks that may be left have numbers that fit the variable
abbrev pub FitLeaving : Sight → (ℕ → ℕ) → (ℕ → Bool) → Type 0
FitLeaving s width out = (k : ℕ) → out k ≡ true → k < 2 ^ width (leaving s)

-- where a block may be left, what follows is skipped while it is
abbrev pub Guarded : Sight → (ℕ → ℕ) → (ℕ → Bool) → emitted_code.Code → Type 0
Guarded s width out code = (k : ℕ) → out k ≡ true → Skips s width code

-- ---- the texts

abbrev pub leaving_is : Sight → (ℕ → ℕ) → ℕ → emitted.Term
leaving_is s width k = emitted.Binary binary.Eq (variable_of (leaving s)) (emitted.Literal (width (leaving s)) k)

abbrev pub leave_code : Sight → (ℕ → ℕ) → ℕ → emitted_code.Code → emitted_code.Code
leave_code s width k rest = emitted_code.Assign (whole (leaving s)) (emitted.Literal (width (leaving s)) k) rest

-- statements that run where no block is being left
abbrev pub guard_code : Sight → (ℕ → ℕ) → emitted_code.Code → emitted_code.Code
guard_code s width code = emitted_code.If (leaving_is s width 0) code emitted_code.End emitted_code.End

-- behind a block that may be left: the leaving ends there
abbrev pub back_code : Sight → (ℕ → ℕ) → ℕ → emitted_code.Code
back_code s width k = emitted_code.If (leaving_is s width k) (leave_code s width 0 emitted_code.End) emitted_code.End emitted_code.End

-- a body inside so many blocks, and what ends its leaving, if it may be left
abbrev pub block_code : Sight → (ℕ → ℕ) → (depth : ℕ) → (out : ℕ → Bool) → emitted_code.Code → emitted_code.Code
block_code s width depth out body = if out (suc depth) then then_code body (back_code s width (suc depth)) else body
