-- The trace of a module on a stimulus (IEEE 1800-2017, 4.4): its observations, step by step.
use Rattle.std.specs.Prelude.{◌≡◌, ℕ, ◌+◌, Bool, true, false, List, [], ◌∷◌, ◌++◌, map, codes}
use Rattle.scc_bits_kinds.specs.declared.kind.Word.{Word}
use Rattle.scc_svtree.specs.declared.expr.VarId.{VarId}
use Rattle.scc_svtree.specs.declared.module.SvModule.{SvModule}
use Rattle.scc_svtree.specs.Steps.{StepInput, Step, Steps}
use Rattle.scc_svtree.specs.Variables.{width_at}
use Rattle.scc_svrun.specs.Edged.{AreHanded}
use Rattle.scc_svrun.specs.Runs.{given, inputs_of}
use Rattle.scc_trace.specs.declared.stim.StimStep.{StimStep}
use Rattle.scc_trace.specs.declared.stim.Version.{Version}
use Rattle.scc_trace.specs.declared.stim.Version.TheVariants.{One, Two}
use Rattle.scc_trace.specs.Cut.{Bytes}
use Rattle.scc_trace.specs.Text.{trace_text}
use Rattle.scc_svrun_trace.specs.Ports.{outputs_of, out_ports}

-- a step of a stimulus as a step of the module: an edge of its clock, or none
abbrev pub input_of : SvModule → StimStep → StepInput
input_of m s = record { inputs = given m s.words; clocks = λ v. true; has_edge = s.edge }

-- a step has a fitting word for each input
abbrev pub IsHanded : SvModule → StimStep → Type 0
IsHanded m s = AreHanded (width_at m.vars) (inputs_of m) s.words

abbrev pub AreAllHanded : SvModule → List StimStep → Type 0
AreAllHanded m [] = Unit {0}
AreAllHanded m (s ∷ ss) = IsHanded m s × AreAllHanded m ss

-- the words of variables
abbrev pub words_of : List VarId → (ℕ → ℕ) → List Word
words_of vars x = map (λ v. record { bits = x v.0 }) vars

-- the line of an observation
abbrev pub line_of : SvModule → ℕ → Bool → (ℕ → ℕ) → Bytes
line_of m n after x = trace_text n after (out_ports m) (words_of (outputs_of m) x)

-- the lines of a step: one before its edge, and one behind it
abbrev pub lines_of : SvModule → ℕ → List (ℕ → ℕ) → Bytes
lines_of m n [] = []
lines_of m n (x ∷ []) = line_of m n false x
lines_of m n (x ∷ y ∷ more) = line_of m n false x ++ line_of m n true y

-- the lines of steps, counted from n on
abbrev pub trace_from : SvModule → ℕ → List (List (ℕ → ℕ)) → Bytes
trace_from m n [] = []
trace_from m n (o ∷ os) = lines_of m n o ++ trace_from m (n + 1) os

-- Steps from a valuation are observed, and this is what they show.
pub record Shown (m : SvModule) (x : ℕ → ℕ) (n : ℕ) (steps : List StepInput) (text : Bytes) : Type 0 where
  pub observed : List (List (ℕ → ℕ))
  pub ran : Steps m x steps observed
  pub lines : text ≡ trace_from m n observed

-- one step
pub record Turned (m : SvModule) (n : ℕ) (s : StepInput) (x z : ℕ → ℕ) (old new : Bytes) : Type 0 where
  pub observed : List (ℕ → ℕ)
  pub step : Step m s x z observed
  pub lines : new ≡ old ++ lines_of m n observed

-- steps whose lines stand behind what was there
pub record Appended (m : SvModule) (x : ℕ → ℕ) (n : ℕ) (steps : List StepInput) (old new : Bytes) : Type 0 where
  pub text : Bytes
  pub shown : Shown m x n steps text
  pub behind : new ≡ old ++ text

-- the first line, by the version of the stimulus
abbrev pub header : Version → Bytes
header One = codes "scc-trace 1\n"
header Two = codes "scc-trace 2\n"
