-- What a resolved core keeps of time and of any order, the design keeps.
use Rattle.std.proofs.Common.{◌≡◌, ℕ, ◌*◌, None, refl}
use Rattle.scc_semantics.specs.Rounds.{EndsSoon}
use Rattle.scc_semantics.specs.Schedule.{AnyOrder}
use Rattle.scc_semantics_laws.proofs.Carried.{start-too, starting_with, steps-fit}
use Rattle.scc_semantics_laws.proofs.Orders.{any-order-too}
use Rattle.scc_semantics_laws.proofs.Runs.{slow-runs}
use Rattle.scc_semantics_laws.proofs.Soon.{ends-too}
use Rattle.scc_core_spec.specs.Constants.{constants_of}
use Rattle.scc_core_spec.specs.IsResolved.{IsResolved}
use Rattle.scc_core_spec.specs.Program.{Program}
use Rattle.scc_core_spec.specs.Resolved.{Made}
use Rattle.scc_core_spec.specs.Rules.{first_rule}
use Rattle.scc_core_spec.specs.Source.{source_of}
use Rattle.scc_blocks_spec.specs.Names.{is_kept_at}
use Rattle.scc_blocks_spec.specs.Passed.{Law}
use Rattle.scc_core_laws.proofs.Resolved.{in-time}
use Rattle.scc_core_order_laws.proofs.Resolved.{in-any-order, soon}
use Rattle.scc_core_resolved_laws.proofs.Inputs.{is-steady}
use Rattle.scc_states_laws.specs.InTime.{bounds_of, DesignInTime}
use Rattle.scc_elab_spec.specs.Design.{Design}
use Rattle.scc_elab_spec.specs.Meant.{design_of}
use Rattle.scc_elab_spec.specs.Program.{Plain}
use Rattle.scc_inline_spec.specs.Inlined.{home_of}
use Rattle.scc_inline_spec.specs.Static.{inlined}
use Rattle.scc_inline_laws.specs.OrderlyDesign.{IsOrderly}
use Rattle.scc_inline_laws.proofs.Homes.{is-home}
use Rattle.scc_drive_compiled_laws.proofs.Joined.{all-same}

module _ (p : Plain) (d : Design) (c r : Program) (n : ℕ) (orderly : IsOrderly p d) (made : inlined p d ≡ Made c) (law : Law n (constants_of (home_of p d) r) c r) (resolved : IsResolved r) (none : first_rule r ≡ None) where
  pub timely : DesignInTime (1 * n) (design_of p d (constants_of (home_of p d) r)) r
  timely s start xs fit =
      let e = source_of (home_of p d) r (constants_of (home_of p d) r) in
      let same = all-same p d c r n orderly made law resolved in
      let is = is-home p d orderly in
      let from = start-too (1 * n) (design_of p d (constants_of (home_of p d) r)) e same s start in
      let o = in-time (home_of p d) is r resolved none (starting_with e s) from xs (steps-fit (1 * n) (design_of p d (constants_of (home_of p d) r)) e same xs fit) in
      (o.0, slow-runs (1 * n) (design_of p d (constants_of (home_of p d) r)) e same (is-steady (home_of p d) is r resolved) s (starting_with e s) start from (λ l. refl) xs fit (bounds_of r) o.0 o.1)

  pub orders : AnyOrder (is_kept_at (home_of p d) r) (design_of p d (constants_of (home_of p d) r)) × EndsSoon (design_of p d (constants_of (home_of p d) r))
  orders =
      let e = source_of (home_of p d) r (constants_of (home_of p d) r) in
      let same = all-same p d c r n orderly made law resolved in
      let is = is-home p d orderly in
      let steady = is-steady (home_of p d) is r resolved in (
        any-order-too (1 * n) (design_of p d (constants_of (home_of p d) r)) e same steady (is_kept_at (home_of p d) r) (in-any-order (home_of p d) r is resolved none),
        ends-too (1 * n) (design_of p d (constants_of (home_of p d) r)) e same steady (soon (home_of p d) r is resolved none),
      )
