-- What one pass behind another gives, and as what it refuses.
use Rattle.scc_base.specs.declared.refusal.Refusal.{Refusal}
use Rattle.scc_core.specs.declared.program.Core.{Core}

-- some core is given by the first, for which the second gives m
pub record Through (first second : Core → Core → Type 0) (c m : Core) : Type 0 where
  pub between : Core
  pub by_first : first c between
  pub by_second : second between m

-- the first refuses, or the second refuses a core that the first gives
pub data Stopped (gives : Core → Core → Type 0) (first second : Core → Refusal → Type 0) (c : Core) (r : Refusal) : Type 0 where
  at_first : first c r → Stopped gives first second c r
  at_second : (between : Core) → gives c between → second between r → Stopped gives first second c r
