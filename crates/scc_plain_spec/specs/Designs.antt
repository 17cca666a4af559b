-- What a source and the name of a top come to over all stages (IEEE 1666-2011, 4.1, 5.2): a design, or the first refusal. What no process writes is constant, which is
-- read off the core behind all stages.
use Rattle.std.specs.Prelude.{◌≡◌, ℕ, Bool, [], Option, Some, option_map, option_and_then}
use Rattle.scc_base.specs.declared.refusal.Refusal.{Refusal}
use Rattle.scc_semantics.specs.Location.{Answer}
use Rattle.scc_semantics.specs.Design.{Design}
use Rattle.scc_core_spec.specs.Program as core
use Rattle.scc_core_spec.specs.Resolved.{Tried, Made, Stopped, and_made, made_map}
use Rattle.scc_core_spec.specs.Source.{Home}
use Rattle.scc_core_spec.specs.Constants.{constants_of}
use Rattle.scc_elab_spec.specs.Program.{Plain}
use Rattle.scc_elab_spec.specs.Design as made
use Rattle.scc_elab_spec.specs.Elaborated.{elaborated}
use Rattle.scc_inline_spec.specs.Static.{inlined}
use Rattle.scc_inline_spec.specs.Stages.{accepted}
use Rattle.scc_elab_spec.specs.Meant.{design_of}
use Rattle.scc_plain_first.specs.Stages.{refusal_in}
use Rattle.scc_tree.specs.declared.item.FileTree.{FileTree}
use Rattle.scc_templates_spec.specs.SourceView.{source_of}
use Rattle.scc_plain_spec.specs.Program.{program_of}

-- what a source comes to: its plain program, what construction leaves of it, and its core behind all stages
pub record Compiled : Type 0 where
  pub plain : Plain
  pub built : made.Design
  pub core : core.Program

-- `many`: with several clocks
abbrev pub staged : (many : Bool) → Plain → Option (Tried Compiled)
staged many p = option_map (λ d. and_made d (λ d. and_made (inlined p d) (λ c. made_map (λ r. record { plain = p; built = d; core = r }) (accepted c)))) (elaborated many p)

abbrev pub if_made : {A B : Type 0} → Tried A → (A → Option (Tried B)) → Option (Tried B)
if_made (Made a) f = f a
if_made (Stopped r) f = Some (Stopped r)

-- None where construction gives no answer
abbrev pub compiled : (many : Bool) → FileTree → ℕ → Option (Tried Compiled)
compiled many tree top = if_made (program_of (source_of tree) top) (staged many)

-- Locals are none of the locations that are constant, so any places stand for them.
abbrev pub any_home : Home
any_home process local = Answer process []

abbrev pub design_in : Compiled → Design
design_in c = design_of c.plain c.built (constants_of any_home c.core)

-- the design of a source, and what is refused of it first
abbrev pub IsDesignOf : (many : Bool) → FileTree → ℕ → Design → Type 0
IsDesignOf many tree top d = option_map (made_map design_in) (compiled many tree top) ≡ Some (Made d)

abbrev pub first_refusal : (many : Bool) → FileTree → ℕ → Option Refusal
first_refusal many tree top = option_and_then refusal_in (compiled many tree top)
