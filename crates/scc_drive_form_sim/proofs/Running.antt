-- Modules that are read can run.
use Rattle.std.proofs.Common.{◌≡◌, ◌≤◌, ◌<◌, ◌^◌, List, ℕ, length, true, false, Result, Ok, Err, arith}
use Rattle.std.specs.Prelude.{IfOk}
use Rattle.scc_base.specs.declared.refusal.Stop.{Stop}
use Rattle.scc_svtree.specs.declared.module.SvModule.{SvModule}
use Rattle.scc_svtree.specs.Sound.{IsSound}
use Rattle.scc_svread.specs.Read.{ReadAs}
use Rattle.scc_drive_svsim.proofs.Taken.{sound_many}
use Rattle.scc_drive_form_sim.specs.declared.read.Runnable.TheVariants.{Flat, Clocked}
use Rattle.scc_drive_form_sim.specs.Forms.{CanRun}

pub sound_read : (bytes : List ℕ) (r : Result SvModule Stop) → IfOk r (λ m. ReadAs true bytes m) → IfOk r (IsSound true)
sound_read bytes (Ok m) h = h.text.sound
sound_read bytes (Err e) h = tt

pub sound_flat : (r : Result SvModule Stop) → IfOk r (λ m. IsSound false m) → IfOk r (IsSound true)
sound_flat (Ok m) h = sound_many m h
sound_flat (Err e) h = tt

pub clocked_runs : (m : SvModule) → IsSound true m → length m.vars ≤ 4294967295 → CanRun (Clocked m)
clocked_runs m sound few = record { sound = sound; few = omega (arith, few) }

pub flat_runs : (m : SvModule) → IsSound true m → length m.vars ≤ 4294967295 → CanRun (Flat m)
flat_runs m sound few = record { sound = sound; few = omega (arith, few) }
