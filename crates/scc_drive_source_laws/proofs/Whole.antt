-- What is proved of compiled programs, of a source that all stages accept.
use Rattle.std.proofs.Common.{◌≡◌, ℕ, Bool, true, Option, Some, List}
use Rattle.scc_semantics.specs.Location.{Location}
use Rattle.scc_semantics.specs.Rounds.{EndsSoon}
use Rattle.scc_semantics.specs.Same.{SameDesign}
use Rattle.scc_semantics.specs.Schedule.{AnyOrder}
use Rattle.scc_svtree.specs.declared.module.SvModule.{SvModule}
use Rattle.scc_svtree.specs.Sound.{IsSound}
use Rattle.scc_core_spec.specs.Constants.{constants_of}
use Rattle.scc_core_spec.specs.IsResolved.{IsResolved}
use Rattle.scc_core_spec.specs.Program.{Program}
use Rattle.scc_core_spec.specs.Resolved.{Made}
use Rattle.scc_core_spec.specs.Source.{Home, source_of}
use Rattle.scc_core_effect_laws.specs.Follows.{design_of as core_design}
use Rattle.scc_core_laws.proofs.Orders.{order-there}
use Rattle.scc_core_resolvable_laws.specs.Fitting.{statements_fit}
use Rattle.scc_core_resolved_laws.proofs.Owned.{no-reset}
use Rattle.scc_blocks_spec.specs.Emitted.{ModuleShows}
use Rattle.scc_blocks_spec.specs.Matches.{Matches}
use Rattle.scc_blocks_spec.specs.Names.{is_kept_at}
use Rattle.scc_blocks_spec.specs.Passed.{Law}
use Rattle.scc_blocks_spec.specs.Tied.{Registers}
use Rattle.scc_blocks_run_laws.specs.Blocks.{Built}
use Rattle.scc_blocks_laws.proofs.Ranked.{order-ranks, rank_in}
use Rattle.scc_blocks_laws.proofs.Settles.{method-thread}
use Rattle.scc_blocks_steady_laws.proofs.Steady.{steady}
use Rattle.scc_states_laws.specs.InTime.{DesignInTime}
use Rattle.scc_elab_spec.specs.Design.{Design}
use Rattle.scc_elab_spec.specs.Elaborated.{elaborated}
use Rattle.scc_elab_spec.specs.Meant.{design_of}
use Rattle.scc_elab_spec.specs.Program.{Plain}
use Rattle.scc_elab_growth_laws.specs.Apart.{is_whole_plain}
use Rattle.scc_inline_spec.specs.Inlined.{home_of}
use Rattle.scc_inline_spec.specs.Stages.{compiled}
use Rattle.scc_inline_laws.specs.OrderlyDesign.{IsOrderly}
use Rattle.scc_inline_laws.proofs.Homes.{is-home}
use Rattle.scc_inline_core_laws.specs.Kinded.{is_kinded}
use Rattle.scc_inline_orderly_laws.specs.Program.{is_orderly_program}
use Rattle.scc_inline_orderly_laws.proofs.Elaborated.{made-orderly}
use Rattle.scc_inline_orderly_laws.proofs.Elaborated as elaborated_
use Rattle.scc_drive_stages_laws.specs.Written.{IsWritten, number_at}
use Rattle.scc_drive_stages_laws.proofs.Joined.{module-shows}
use Rattle.scc_drive_stages_laws.proofs.Written.{joined}
use Rattle.scc_drive_compiled_laws.proofs.Joined.{all-same, source-shows}
use Rattle.scc_drive_compiled_laws.proofs.Passed.{both-passes, resolves}
use Rattle.scc_drive_compiled_laws.proofs.Timely.{timely, orders}
use Rattle.scc_templates_spec.specs.Source.{Source}
use Rattle.scc_plain_spec.specs.Program.{program_of}
use Rattle.scc_plain_kinds_laws.proofs.Different.{what-is-whole}
use Rattle.scc_plain_kinds_laws.proofs.Program.{what-is-kinded}
use Rattle.scc_plain_bounds_laws.proofs.Program.{what-is-bounded}
use Rattle.scc_drive_source_laws.specs.Fitting.{is_fitting_program}
use Rattle.scc_drive_source_laws.proofs.Fitting.{program-orderly}
use Rattle.scc_drive_source_laws.proofs.Accepted.{Stages, stages-of}

module _ (many : Bool) (s : Source) (top : ℕ) (p : Plain) (r : Program) (gives : program_of s top ≡ Made p) (accepts : compiled many p ≡ Some (Made r)) (fit : statements_fit r ≡ true) where
  whole : is_whole_plain p ≡ true
  whole = what-is-whole s top p gives

  kinded : is_kinded p ≡ true
  kinded = what-is-kinded s top p gives

  stages : Stages many p r
  stages = stages-of many p r accepts

  abbrev d : Design
  d = stages.design

  abbrev home : Home
  home = home_of p d

  abbrev constant : Location → Option ℕ
  constant = constants_of home r

  module _ (fits : is_fitting_program p d ≡ true) where
    orderly : IsOrderly p d
    orderly = made-orderly many p d stages.elaborates whole (elaborated_.program-orderly p d (program-orderly p d kinded (what-is-bounded s top p gives) fits))

    law : Law 3 constant stages.core r
    law = both-passes many p d stages.core r constant whole kinded stages.elaborates orderly stages.copies stages.resolves

    core : IsResolved r
    core = resolves many p d stages.core r constant whole kinded stages.elaborates orderly stages.copies stages.resolves fit

    same : SameDesign 3 (design_of p d constant) (source_of home r constant)
    same = all-same p d stages.core r 3 orderly stages.copies law core

    soon : DesignInTime 3 (design_of p d constant) r × AnyOrder (is_kept_at home r) (design_of p d constant) × EndsSoon (design_of p d constant)
    soon = let o = orders p d stages.core r 3 orderly stages.copies law core stages.none in (timely p d stages.core r 3 orderly stages.copies law core stages.none, o.0, o.1)

    shows : (text : Location → List ℕ) (own : List ℕ → Bool) (g : Registers) (m : SvModule) (name : List ℕ) (built : Built r g m) → IsSound many m → Matches text own (is_kept_at home r) (core_design home r) m name
        → IsWritten home r text own g m built.clock_variable → ModuleShows text (design_of p d constant) m
    shows text own g m name built sound matches written =
        let is = is-home p d orderly in
        let o = order-there r stages.none in
        let names = joined home r text own g m built.clock_variable name sound.names matches written in
        source-shows p d stages.core r 3 orderly stages.copies law core text m
        (module-shows home r text (number_at home r) many g m
        (record { sound = sound; built = built; steady = steady r core stages.none g; rank = rank_in r o.0; ranked = order-ranks r o.0 o.1 (λ i q h k. no-reset home is r core i q h (method-thread q k)) })
        is core stages.none names)

  pub means-same : (d : Design) × (elaborated many p ≡ Some (Made d)) × (is_fitting_program p d ≡ true → SameDesign 3 (design_of p d (constants_of (home_of p d) r)) (source_of (home_of p d) r (constants_of (home_of p d) r)))
  means-same = (d, stages.elaborates, λ fits. same fits)

  pub is-timely : (d : Design) × (elaborated many p ≡ Some (Made d)) × (is_fitting_program p d ≡ true → DesignInTime 3 (design_of p d (constants_of (home_of p d) r)) r × AnyOrder (is_kept_at (home_of p d) r) (design_of p d (constants_of (home_of p d) r))
      × EndsSoon (design_of p d (constants_of (home_of p d) r)))
  is-timely = (d, stages.elaborates, λ fits. soon fits)

  pub module-is : (d : Design) × (elaborated many p ≡ Some (Made d)) × (is_fitting_program p d ≡ true → (text : Location → List ℕ) (own : List ℕ → Bool) (g : Registers) (m : SvModule) (name : List ℕ) (built : Built r g m) → IsSound many m
      → Matches text own (is_kept_at (home_of p d) r) (core_design (home_of p d) r) m name → IsWritten (home_of p d) r text own g m built.clock_variable → ModuleShows text (design_of p d (constants_of (home_of p d) r)) m)
  module-is = (d, stages.elaborates, λ fits. shows fits)

pub fits-orderly : (s : Source) (top : ℕ) (p : Plain) (d : Design) → program_of s top ≡ Made p → is_fitting_program p d ≡ true → is_orderly_program p d ≡ true
fits-orderly s top p d gives fits = program-orderly p d (what-is-kinded s top p gives) (what-is-bounded s top p gives) fits
