-- What is observed of a module is what registers show: the outputs in their order, and the registers that have a location's name. This project's own.
use Rattle.std.specs.Prelude.{◌≡◌, ◌+◌, ℕ, Bool, true, false, List, [], ◌∷◌, map, Option, Some, None}
use Rattle.scc_semantics.specs.Location.{Location}
use Rattle.scc_semantics.specs.Statement.{Shot, Seen}
use Rattle.scc_svtree.specs.declared.module.SvModule.{SvModule}
use Rattle.scc_svtree.specs.declared.module.SvVar.{SvVar}
use Rattle.scc_blocks_spec.specs.Emitted.{is_output, AreSeen}
use Rattle.scc_blocks_spec.specs.Matches.{register_of, first}
use Rattle.scc_svtree.specs.Steps.{StepInput, Steps}
use Rattle.scc_core_spec.specs.Program.{Program}
use Rattle.scc_blocks_spec.specs.Tied.{Registers, MirrorsRegisters}
use Rattle.scc_blocks_spec.specs.Turns.{Regs}
use Rattle.scc_blocks_run_laws.specs.Blocks.{IsProper}
use Rattle.scc_blocks_run_laws.specs.Follows.{Turn, AllSameTurns, FindResets, registers_shown}

-- the output variables, numbered from i on, are those of these cells in their order
abbrev pub AreOutputsBy : Bool → Registers → (i : ℕ) → List ℕ → (List ℕ → Type 0) → Type 0
AreOutputsBy true r i [] rest = ⊥
AreOutputsBy true r i (c ∷ cs) rest = (r.variable c ≡ Some i) × rest cs
AreOutputsBy false r i cs rest = rest cs

abbrev pub AreOutputs : Registers → ℕ → List SvVar → List ℕ → Type 0
AreOutputs r i [] [] = Unit {0}
AreOutputs r i [] (c ∷ cs) = ⊥
AreOutputs r i (w ∷ ws) cs = AreOutputsBy (is_output w.dir) r i cs (λ cs. AreOutputs r (i + 1) ws cs)

-- Names stand for cells: outputs in order, and each register that has a location's name is that location's cell.
pub record IsNamed (text : Location → List ℕ) (at : Location → ℕ) (r : Registers) (m : SvModule) (outputs : List ℕ) : Type 0 where
  pub outputs_stand : AreOutputs r 0 m.vars outputs
  pub registers_stand : (l : Location) (v : ℕ) → first (register_of text m l) ≡ Some v → r.variable (at l) ≡ Some v

-- a shot is of registers
pub record ShowsRegs (at : Location → ℕ) (outputs : List ℕ) (g : Regs) (s : Shot) : Type 0 where
  pub same_outputs : map g.word outputs ≡ s.outputs
  pub same_registers : (l : Location) (w : ℕ) → s.registers l ≡ Some w → g.word (at l) ≡ w

abbrev pub ShowsAfter : (at : Location → ℕ) (outputs : List ℕ) → List Regs → Option Shot → Type 0
ShowsAfter at outputs [] None = Unit {0}
ShowsAfter at outputs (g ∷ []) (Some s) = ShowsRegs at outputs g s
ShowsAfter at outputs gs s = ⊥

abbrev pub ShowsStep : (at : Location → ℕ) (outputs : List ℕ) → List Regs → Seen → Type 0
ShowsStep at outputs [] s = ⊥
ShowsStep at outputs (g ∷ gs) s = ShowsRegs at outputs g s.before × ShowsAfter at outputs gs s.after

abbrev pub ShowAll : (at : Location → ℕ) (outputs : List ℕ) → List (List Regs) → List Seen → Type 0
ShowAll at outputs [] [] = Unit {0}
ShowAll at outputs (gs ∷ gss) (s ∷ ss) = ShowsStep at outputs gs s × ShowAll at outputs gss ss
ShowAll at outputs _ _ = ⊥

-- What is observed of a module of a core over steps is what its registers show.
abbrev pub ModuleShowsRegs : (text : Location → List ℕ) (at : Location → ℕ) → Program → Registers → SvModule → (ℕ → ℕ) → (outputs : List ℕ) → Type 0
ModuleShowsRegs text at p r m clock_variable outputs = (ts : List Turn) (ss : List StepInput) (x : ℕ → ℕ) (g : Regs) (seen : List (List (ℕ → ℕ))) (shots : List Seen) → AllSameTurns p r m clock_variable ts ss → IsProper p r g
    → MirrorsRegisters p r x g → FindResets p ts g → Steps m x ss seen → AreSeen text m seen shots → ShowAll at outputs (registers_shown p ts g) shots
