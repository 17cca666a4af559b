-- The trace of a module of several clocks on the text of a stimulus of version 3.
use Rattle.std.specs.Prelude.{◌≡◌, ℕ, ◌+◌, ◌/◌, ◌%◌, nat_eq, Bool, true, false, not, ◌&&◌, cond, List, [], ◌∷◌, ◌++◌, map, Option, Some, None, Ok, Err, ◌⊎◌}
use Rattle.scc_base.specs.declared.refusal.Refusal.{Refusal}
use Rattle.scc_base.specs.declared.refusal.Stop.{Stop}
use Rattle.scc_base.specs.declared.refusal.Stop.TheVariants as stop
use Rattle.scc_svtree.specs.declared.expr.VarId.{VarId}
use Rattle.scc_svtree.specs.declared.module.SvModule.{SvModule}
use Rattle.scc_svtree.specs.declared.module.SvVar.{SvVar}
use Rattle.scc_svtree.specs.Steps.{StepInput, is_input, is_clock}
use Rattle.scc_svtree.specs.Variables.{width_at}
use Rattle.scc_svrun.specs.Edged.{AreHanded, is_listed}
use Rattle.scc_svrun.specs.Runs.{given, inputs_of}
use Rattle.scc_trace.specs.declared.stim.ClockStep.{ClockStep}
use Rattle.scc_trace.specs.declared.stim.Version.TheVariants.{Two}
use Rattle.scc_trace.specs.Clocks.{clock_stim_of}
use Rattle.scc_trace.specs.Cut.{Bytes}
use Rattle.scc_svrun_trace.specs.Ports.{name_at, in_ports}
use Rattle.scc_svrun_trace.specs.Trace.{Shown, header}

-- the inputs that are clocks, from variable n on
abbrev pub clocks_from : ℕ → (ℕ → Bool) → List SvVar → List VarId
clocks_from n clocks [] = []
clocks_from n clocks (v ∷ vs) = cond (is_input v.dir && clocks n) (record { 0 = n } ∷ clocks_from (n + 1) clocks vs) (clocks_from (n + 1) clocks vs)

abbrev pub clocks_of : SvModule → List VarId
clocks_of m = clocks_from 0 (is_clock m.blocks) m.vars

abbrev pub names_at : List SvVar → List VarId → List Bytes
names_at vars vs = map (λ v. name_at vars v.0) vs

abbrev pub clock_names : SvModule → List Bytes
clock_names m = names_at m.vars (clocks_of m)

-- the variables behind one, where it is the first of them
abbrev pub behind : ℕ → List VarId → Option (List VarId)
behind n [] = None
behind n (v ∷ vs) = cond (nat_eq v.0 n) (Some vs) None

-- ---- steps

-- a clock, if it is chosen
abbrev pub kept : VarId → Bool → List VarId
kept c is_chosen = cond is_chosen (c ∷ []) []

-- the clocks that a mask chooses: bit i is 1 where the i-th has an edge
abbrev pub chosen : List VarId → ℕ → List VarId
chosen [] mask = []
chosen (c ∷ cs) mask = kept c (nat_eq (mask % 2) 1) ++ chosen cs (mask / 2)

abbrev pub is_any : List VarId → Bool
is_any [] = false
is_any (c ∷ cs) = true

-- the edges of these clocks as a step of the module, if there are any
abbrev pub edges_of : SvModule → ClockStep → List VarId → StepInput
edges_of m s clocks = record { inputs = given m s.words; clocks = is_listed clocks; has_edge = is_any clocks }

-- a step of a stimulus as a step of the module
abbrev pub input_of : SvModule → ClockStep → StepInput
input_of m s = edges_of m s (chosen (clocks_of m) s.mask.bits)

-- a step has a fitting word for each input
abbrev pub IsHanded : SvModule → ClockStep → Type 0
IsHanded m s = AreHanded (width_at m.vars) (inputs_of m) s.words

abbrev pub AreAllHanded : SvModule → List ClockStep → Type 0
AreAllHanded m [] = Unit {0}
AreAllHanded m (s ∷ ss) = IsHanded m s × AreAllHanded m ss

-- ---- traces

-- The trace on a stimulus, which is the file of this number, from a valuation in which every variable is 0.
pub record IsClockTrace (file : ℕ) (m : SvModule) (stimulus trace : Bytes) : Type 0 where
  pub steps : List ClockStep
  pub said : clock_stim_of file (clock_names m) (in_ports m) stimulus ≡ Ok steps
  pub lines : Bytes
  pub shown : Shown m (λ v. 0) 0 (map (input_of m) steps) lines
  pub whole : trace ≡ header Two ++ lines

-- the first refusal of a stimulus
pub record IsClockRefused (file : ℕ) (m : SvModule) (stimulus : Bytes) (e : Stop) : Type 0 where
  pub refusal : Refusal
  pub stands : clock_stim_of file (clock_names m) (in_ports m) stimulus ≡ Err refusal
  pub said : e ≡ stop.Refused refusal

-- it, or memory ran out
abbrev pub IsClockUntraced : ℕ → SvModule → Bytes → Stop → Type 0
IsClockUntraced file m stimulus e = e ≡ stop.NoMemory ⊎ IsClockRefused file m stimulus e
