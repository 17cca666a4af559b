-- What running an emitted text on a stimulus answers.
use Rattle.std.specs.Prelude.{◌≡◌, ◌≢◌, ℕ, false, Result, Ok, Err, ◌⊎◌}
use Rattle.scc_base.specs.declared.code.Code.TheVariants.{SvName}
use Rattle.scc_base.specs.declared.refusal.Stop.{Stop}
use Rattle.scc_base.specs.declared.refusal.Stop.TheVariants as stop
use Rattle.scc_svtree.specs.declared.module.SvModule.{SvModule}
use Rattle.scc_svread.specs.Read.{ReadAs, RefusedAs, refusal}
use Rattle.scc_trace.specs.Cut.{Bytes}
use Rattle.scc_svrun_trace.specs.Traced.{IsTrace, IsRefused}

-- The text is that of a module of this name, and this is its trace on the stimulus, which is the second file.
pub record IsSimulated (name text stimulus trace : Bytes) : Type 0 where
  pub top : SvModule
  pub read : ReadAs false text top
  pub named : top.name ≡ name
  pub traced : IsTrace 1 top stimulus trace

-- The module has another name, which stands behind the word `module` and a blank.
pub record IsMisnamed (name text : Bytes) (e : Stop) : Type 0 where
  pub top : SvModule
  pub read : ReadAs false text top
  pub other : top.name ≢ name
  pub said : e ≡ refusal SvName 7

-- The module has this name, and the stimulus is refused for its ports.
pub record IsUnstimulated (name text stimulus : Bytes) (e : Stop) : Type 0 where
  pub top : SvModule
  pub read : ReadAs false text top
  pub named : top.name ≡ name
  pub refused : IsRefused 1 top stimulus e

-- the first refusal of the text, of its module's name, of the stimulus; or memory ran out
abbrev pub Unsimulated : Bytes → Bytes → Bytes → Stop → Type 0
Unsimulated name text stimulus e = e ≡ stop.NoMemory ⊎ RefusedAs false text e ⊎ IsMisnamed name text e ⊎ IsUnstimulated name text stimulus e

-- The answer: a trace, or the first refusal.
abbrev pub Simulates : Bytes → Bytes → Bytes → Result Bytes Stop → Type 0
Simulates name text stimulus (Ok trace) = IsSimulated name text stimulus trace
Simulates name text stimulus (Err e) = Unsimulated name text stimulus e
