-- The line of a generated design, and the run of its module behind it. This project's own.
-- A design of N stages runs from storage 0 for N + 1 steps, each with an edge and 1 at d, the reset at 1 in the first step alone.
use Rattle.std.specs.Prelude.{◌≡◌, ℕ, true, List, [], ◌∷◌, ◌++◌, map, filter, length, replicate, sum, Some, slice_get, bytes_eq, codes, decimal, if◌then◌else◌}
use Rattle.scc_svtree.specs.declared.module.SvModule.{SvModule}
use Rattle.scc_svtree.specs.declared.module.SvVar.{SvVar}
use Rattle.scc_svtree.specs.Steps.{StepInput, Steps}
use Rattle.scc_blocks_spec.specs.Emitted.{is_output}
use Rattle.scc_blocks_spec.specs.Matches.{name_at, registers}
use Rattle.scc_core_spec.specs.Program.{Program}
use Rattle.scc_core_spec.specs.Sizes.{states}
use Rattle.scc_trace.specs.Cut.{Bytes}
use Rattle.scc_trace.specs.Text.{hex_text}

-- by its resolved core and its module, and the word at the output
abbrev pub generated_line : (stages : ℕ) → Program → SvModule → (q : ℕ) → Bytes
generated_line n p m q = codes "stages " ++ (decimal n ++ (codes " processes " ++ (decimal (length p.processes) ++ (codes " registers " ++ (decimal (length (registers m))
    ++ (codes " states " ++ (decimal (sum (map (λ r. states p.cells r.body) (filter (λ r. r.is_thread) p.processes))) ++ (codes " q " ++ (hex_text 4 q ++ codes "\n")))))))))

-- the words of the inputs, by their names
abbrev pub given_at : SvModule → (reset : ℕ) → ℕ → ℕ
given_at m reset v = if bytes_eq (name_at m v) (codes "rst") then reset else (if bytes_eq (name_at m v) (codes "d") then 1 else 0)

abbrev pub step_with : SvModule → (reset : ℕ) → StepInput
step_with m reset = record { inputs = given_at m reset; clocks = λ v. true; has_edge = true }

abbrev pub steps_of : SvModule → (stages : ℕ) → List StepInput
steps_of m n = step_with m 1 ∷ replicate n (step_with m 0)

abbrev pub last_of : {A : Type 0} → A → List A → A
last_of a [] = a
last_of a (b ∷ bs) = last_of b bs

-- the word of a variable behind the last edge
abbrev pub word_behind : List (List (ℕ → ℕ)) → ℕ → ℕ
word_behind observed v = last_of (λ u. 0) (last_of [] observed) v

-- The line says what the module of the design comes to.
pub record IsGenerated (stages : ℕ) (p : Program) (m : SvModule) (line : Bytes) : Type 0 where
  pub observed : List (List (ℕ → ℕ))
  pub ran : Steps m (λ v. 0) (steps_of m stages) observed
  pub output : ℕ
  pub here : SvVar
  pub stands : slice_get m.vars output ≡ Some here
  pub is_named : here.name ≡ codes "q"
  pub goes_out : is_output here.dir ≡ true
  pub said : line ≡ generated_line stages p m (word_behind observed output)
