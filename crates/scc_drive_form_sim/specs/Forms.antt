-- Emitted texts of forms: what is read of them, and what they are refused for.
use Rattle.std.specs.Prelude.{◌≡◌, ◌<◌, ◌^◌, length, Bool, true, ◌&&◌, nat_le}
use Rattle.scc_base.specs.Code.{code_number}
use Rattle.scc_base.specs.declared.code.Code.{Code}
use Rattle.scc_base.specs.declared.refusal.Stop.{Stop}
use Rattle.scc_base.specs.declared.refusal.Stop.TheVariants as stop
use Rattle.scc_svtree.specs.declared.module.SvModule.{SvModule}
use Rattle.scc_svtree.specs.Sound.{IsSound}
use Rattle.scc_drive_form_sim.specs.declared.read.Runnable.{Runnable}
use Rattle.scc_drive_form_sim.specs.declared.read.Runnable.TheVariants.{Flat, Clocked}

abbrev pub module_of : Runnable → SvModule
module_of (Flat m) = m
module_of (Clocked m) = m

-- a module of whose sizes, names, drivers and order nothing is wrong, and with numbers for its variables
pub record CanRun (r : Runnable) : Type 0 where
  pub sound : IsSound true (module_of r)
  pub few : length (module_of r).vars < 2 ^ 32

-- what may be wrong with the text of a form
abbrev pub is_of_text : Code → Bool
is_of_text code = nat_le 701 (code_number code) && nat_le (code_number code) 708

-- such a refusal, or want of memory
abbrev pub may_stop : Stop → Bool
may_stop (stop.Refused r) = is_of_text r.code
may_stop stop.NoMemory = true
