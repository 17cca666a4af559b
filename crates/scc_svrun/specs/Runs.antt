-- A module that runs.
use Rattle.std.specs.Prelude.{◌≡◌, ℕ, ◌<◌, ◌+◌, Bool, cond, not, ◌&&◌, true, List, [], ◌∷◌, length, map, slice_index}
use Rattle.scc_bits_kinds.specs.declared.kind.Word.{Word}
use Rattle.scc_svtree.specs.declared.expr.VarId.{VarId}
use Rattle.scc_svtree.specs.declared.module.SvModule.{SvModule}
use Rattle.scc_svtree.specs.declared.module.SvVar.{SvVar}
use Rattle.scc_svtree.specs.declared.module.SvBlock.{SvBlock}
use Rattle.scc_svtree.specs.declared.module.Dir.{Dir}
use Rattle.scc_svtree.specs.Code.{Code}
use Rattle.scc_svtree.specs.Settled.{combs_of}
use Rattle.scc_svtree.specs.Sound.{IsSound}
use Rattle.scc_svtree.specs.Steps.{is_input, is_clock, or_old}
use Rattle.scc_svtree_order.specs.Schedule.{IsSchedule}
use Rattle.scc_svrun.specs.Edged.{handed}
use Rattle.scc_svrun.specs.Valued.{IsValuation}

-- the inputs but the clocks, from variable n on
abbrev pub inputs_from : ℕ → (ℕ → Bool) → List SvVar → List VarId
inputs_from n clocks [] = []
inputs_from n clocks (v ∷ vs) = cond (is_input v.dir && not (clocks n)) (record { 0 = n } ∷ inputs_from (n + 1) clocks vs) (inputs_from (n + 1) clocks vs)

abbrev pub inputs_of : SvModule → List VarId
inputs_of m = inputs_from 0 (is_clock m.blocks) m.vars

-- what words for the inputs but the clocks give each variable
abbrev pub given : SvModule → List Word → ℕ → ℕ
given m ws v = or_old (handed (inputs_of m) ws v) 0

-- a module and a word for each of its variables
pub record Ran : Type 0 where
  pub top : SvModule
  pub words : List Word

-- What a runner of a module holds: its inputs, blocks and their order, and a word for each variable.
pub record IsRunner (m : SvModule) (inputs : List VarId) (combs : List Code) (order : List ℕ) (words next : List Word) : Type 0 where
  pub sound : IsSound true m
  pub inputs_are : inputs ≡ inputs_of m
  pub combs_are : combs ≡ combs_of m.blocks
  pub ordered : IsSchedule (combs_of m.blocks) order
  pub words_fit : IsValuation m.vars words
  pub room : length next ≡ length words
