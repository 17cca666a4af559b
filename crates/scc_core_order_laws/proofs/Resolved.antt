-- Resolved cores of which no rule is broken run in any order.
use Rattle.std.proofs.Common.{◌≡◌, None}
use Rattle.std.specs.List.{list_any}
use Rattle.scc_semantics.specs.Rounds.{EndsSoon}
use Rattle.scc_semantics.specs.Schedule.{AnyOrder}
use Rattle.scc_core_spec.specs.IsResolved.{IsResolved}
use Rattle.scc_core_spec.specs.Constants.{written}
use Rattle.scc_core_spec.specs.Program.{Program, is_input}
use Rattle.scc_core_spec.specs.Uses.{has_sort}
use Rattle.scc_core_spec.specs.Rules.{first_rule}
use Rattle.scc_core_spec.specs.Source.{Home}
use Rattle.scc_blocks_spec.specs.Names.{is_kept_at}
use Rattle.scc_blocks_spec.specs.Passed.{IsHome}
use Rattle.scc_states_laws.specs.InTime.{bounds_of}
use Rattle.scc_core_effect_laws.specs.Follows.{design_of}
use Rattle.scc_core_laws.proofs.Resolved.{own-bounds, core, rules, does, threads, order, ordered}
use Rattle.scc_core_laws.proofs.Rules.{senses}
use Rattle.scc_core_resolved_laws.proofs.Bools.{not-false}
use Rattle.scc_core_resolved_laws.proofs.Parts.{inputs-kept}
use Rattle.scc_core_order_laws.specs.Inputs.{KeepsInputs}
use Rattle.scc_core_order_laws.proofs.Anyhow.{any-order, kept-at}
use Rattle.scc_core_order_laws.proofs.Soon.{ends-soon}

module _ (home : Home) (p : Program) (is : IsHome home) (r : IsResolved p) (none : first_rule p ≡ None) where
  -- no process writes an input
  pub kept : KeepsInputs p
  kept = not-false (list_any (has_sort is_input p.cells) (written p)) (inputs-kept p r)

  pub in-any-order : AnyOrder (is_kept_at home p) (design_of home p)
  in-any-order = any-order home p (is_kept_at home p) (kept-at home p) (core home is p r none) (rules home is p r none) (bounds_of p) (does home is p r none (bounds_of p) (own-bounds p)) (threads home is p r none (bounds_of p) (own-bounds p)) (order home is p r none)
      (ordered home is p r none) (senses p none) kept

  pub soon : EndsSoon (design_of home p)
  soon b n s reached restless = ends-soon home p (core home is p r none) (rules home is p r none) (bounds_of p) (does home is p r none (bounds_of p) (own-bounds p)) (threads home is p r none (bounds_of p) (own-bounds p)) (order home is p r none)
      (ordered home is p r none) (senses p none) kept b n s reached restless
