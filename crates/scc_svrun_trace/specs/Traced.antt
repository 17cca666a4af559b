-- The trace of a module on the text of a stimulus.
use Rattle.std.specs.Prelude.{◌≡◌, ℕ, List, ◌++◌, map, Some, Ok, Err, ◌⊎◌}
use Rattle.scc_base.specs.declared.refusal.Refusal.{Refusal}
use Rattle.scc_base.specs.declared.refusal.Stop.{Stop}
use Rattle.scc_base.specs.declared.refusal.Stop.TheVariants as stop
use Rattle.scc_svtree.specs.declared.module.SvModule.{SvModule}
use Rattle.scc_trace.specs.declared.stim.StimStep.{StimStep}
use Rattle.scc_trace.specs.declared.stim.Version.{Version}
use Rattle.scc_trace.specs.Cut.{Bytes, first}
use Rattle.scc_trace.specs.Head.{version_of}
use Rattle.scc_trace.specs.Stimulus.{stim_of}
use Rattle.scc_svrun_trace.specs.Ports.{in_ports}
use Rattle.scc_svrun_trace.specs.Trace.{Shown, input_of, header}

-- The trace on a stimulus, which is the file of this number, from a valuation in which every variable is 0.
pub record IsTrace (file : ℕ) (m : SvModule) (stimulus trace : Bytes) : Type 0 where
  pub steps : List StimStep
  pub said : stim_of file (in_ports m) stimulus ≡ Ok steps
  pub version : Version
  pub named : version_of (first 10 stimulus) ≡ Some version
  pub lines : Bytes
  pub shown : Shown m (λ v. 0) 0 (map (input_of m) steps) lines
  pub whole : trace ≡ header version ++ lines

-- the first refusal of a stimulus
pub record IsRefused (file : ℕ) (m : SvModule) (stimulus : Bytes) (e : Stop) : Type 0 where
  pub refusal : Refusal
  pub stands : stim_of file (in_ports m) stimulus ≡ Err refusal
  pub said : e ≡ stop.Refused refusal

-- it, or memory ran out
abbrev pub IsUntraced : ℕ → SvModule → Bytes → Stop → Type 0
IsUntraced file m stimulus e = e ≡ stop.NoMemory ⊎ IsRefused file m stimulus e
