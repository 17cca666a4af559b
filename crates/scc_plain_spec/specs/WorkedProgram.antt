-- Programs that the checker computes, in a world with room for the chains that they need.
use Rattle.std.specs.Prelude.{ℕ, false, [], ◌∷◌, Option, Some, None, option_map, slice_get}
use Rattle.scc_base.specs.declared.refusal.Refusal.{Refusal}
use Rattle.scc_base.specs.declared.code.Code.TheVariants as reason
use Rattle.scc_core_spec.specs.Resolved.{Tried, Made, Stopped}
use Rattle.scc_templates_spec.specs.Walk.{refusal}
use Rattle.scc_elab_spec.specs.Program as code
use Rattle.scc_templates_spec.specs.Source.{Source, OfClass}
use Rattle.scc_templates_spec.specs.WorkedSource.{at, empty_class}
use Rattle.scc_plain_spec.specs.Keys.{behind_chain}
use Rattle.scc_plain_spec.specs.Program.{program_in}

abbrev pub program_by : Source → ℕ → Tried code.Plain
program_by s top = program_in s (behind_chain s 12 []) top

-- `struct T {};`, with the name 20
abbrev pub bare : Source
bare = record { items = OfClass (at 2) (Some 20) empty_class ∷ []; end = at 9 }

abbrev pub bare_program : code.Plain
bare_program = record { classes = record { name = 20; place = at 2; is_module = false; members = []; constructor = None } ∷ []; functions = []; top = 0 }

-- the same twice is refused at the second
abbrev pub second : Refusal
second = refusal reason.DuplicateName (at 4) (Some (at 2))

-- the body of a function of a program
abbrev pub body_by : Tried code.Plain → ℕ → Option code.Code
body_by (Stopped r) n = None
body_by (Made p) n = option_map (λ f. f.body) (slice_get p.functions n)
