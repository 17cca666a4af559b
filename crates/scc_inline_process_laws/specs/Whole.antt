-- A process of a design and its copy: what is asked of both.
use Rattle.std.specs.Prelude.{◌≡◌, ℕ, false, [], Option, Some, slice_get}
use Rattle.scc_semantics.specs.Location.{Location}
use Rattle.scc_semantics.specs.Scene.{Names}
use Rattle.scc_semantics.specs.Design as running
use Rattle.scc_semantics.specs.Same.{at_first}
use Rattle.scc_core_spec.specs.Program as prog
use Rattle.scc_core_spec.specs.Source as source
use Rattle.scc_core_spec.specs.Source.{Home, at_top, source_of, sort_of}
use Rattle.scc_elab_spec.specs.Program.{Function, Plain}
use Rattle.scc_elab_spec.specs.Design as design
use Rattle.scc_elab_spec.specs.Design.{Design}
use Rattle.scc_elab_spec.specs.Cells.{path_of}
use Rattle.scc_elab_spec.specs.Meant as meant
use Rattle.scc_elab_spec.specs.Meant.{design_of, at_path}
use Rattle.scc_elab_spec.specs.Spoken.{function_body}
use Rattle.scc_elab_spec.specs.Numbering.{levels}
use Rattle.scc_inline_spec.specs.Inlined.{here_of, copied_program, copied_process, home_of}
use Rattle.scc_core_unroll_laws.specs.Unrolling.{Counters}
use Rattle.scc_inline_process_laws.specs.Relation.{IsSoundAt, around}
use Rattle.scc_inline_process_laws.specs.Standing.{KeepsAlways}

-- what no process writes is the same in both
module _ (p : Plain) (d : Design) (constant : Location → Option ℕ) where
  abbrev pub spoken_design : running.Design
  spoken_design = design_of p d constant

  abbrev pub copied_design : running.Design
  copied_design = source_of (home_of p d) (copied_program p d) constant

  module _ (i : ℕ) (q : design.Process) where
    abbrev pub own_names : Names
    own_names = record { process = i; calls = []; object = Some (at_top []) }

    abbrev pub spoken_process : running.Process
    spoken_process = record { object = at_path p d (path_of d q.object); sort = meant.sort_of p d q q.is_thread q.edge; body = function_body p q.function }

    abbrev pub copy_of : prog.Process
    copy_of = copied_process p d i q

    abbrev pub copied_as_process : running.Process
    copied_as_process = record { object = at_top []; sort = sort_of (home_of p d) (copied_program p d) copy_of copy_of.is_thread copy_of.edge; body = source.body_of (home_of p d) (copied_program p d).cells i copy_of.body }

    -- the function of the process stands, everything in it is found again, and the copy's runs assign no pointer
    pub record IsReady : Type 0 where
      pub function : Function
      pub stands : slice_get p.functions q.function ≡ Some function
      pub places : copied_design.places ≡ spoken_design.places
      pub targets : copied_design.targets ≡ spoken_design.targets
      pub sound : IsSoundAt (home_of p d) spoken_design.places own_names (here_of p d i q function) levels (here_of p d i q function) (λ o. false) 0 function.body
      pub counters : Counters (around (home_of p d) spoken_design.places own_names (here_of p d i q function))
      pub keeps : KeepsAlways (home_of p d) spoken_design.places own_names (here_of p d i q function) spoken_design copied_design i copied_as_process (at_first copied_design i copied_as_process)
