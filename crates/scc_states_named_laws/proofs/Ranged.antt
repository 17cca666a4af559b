-- What a table of names tells of a location in an array.
use Rattle.std.proofs.Common.{◌≡◌, ℕ, true, false, List, [], ◌++◌, map, refl, sym, ap, ◌∙◌}
use Rattle.std.specs.Prelude.{option_map, unwrap_or}
use Rattle.std.specs.List.{list_all}
use Rattle.scc_core.specs.declared.expr.CoreLeft.{CoreLeft}
use Rattle.scc_core.specs.declared.program.Core.{Core}
use Rattle.scc_core.specs.declared.statics.Known.{Known}
use Rattle.scc_core.specs.Elements.{Part, found}
use Rattle.scc_core.specs.Known.{facts_in}
use Rattle.scc_core.specs.Located.{array_in, named_by, named_in, of_array, row_from}
use Rattle.scc_core.specs.Statics.{part_in}
use Rattle.scc_core_spec.specs.IsResolved.{cells_apart, fit_cell}
use Rattle.scc_core_spec.specs.Named.{Step, cells_at, steps_of}
use Rattle.scc_core_spec.specs.Program.{Process}
use Rattle.scc_core_spec.specs.Uses.{among, cells_of, root_of}
use Rattle.scc_core_static_laws.specs.Held.{Knows}
use Rattle.scc_core_view.specs.Programs.{cells_of as all_cells}
use Rattle.scc_core_view.specs.Terms.{name_of, taken_of}
use Rattle.scc_states_kept.specs.Owned.{is_number}
use Rattle.scc_states_kept.specs.Rows.{cells_by, cells_in}
use Rattle.scc_states_named_laws.specs.Arrays.{AreIndices, done, unknown, static, AreUnder, size_of}
use Rattle.scc_states_named_laws.specs.InArrays.{IsInArray}
use Rattle.scc_states_named_laws.proofs.Corners.{array_found}
use Rattle.scc_states_named_laws.proofs.Names.{closed_name}
use Rattle.scc_states_named_laws.proofs.Roots.{among_roots}
use Rattle.scc_states_named_laws.proofs.Spans.{rows_named}
use Rattle.scc_states_named_laws.proofs.Strides.{rows_found}

under : {qs : List Part} {ps : List Step} {ss : List ℕ} → AreIndices qs ps ss → AreUnder ps ss
under done = tt
under (unknown s pos r) = (refl, under r)
under (static s i v below sm r) = (below, under r)

module _ (known : Known) (c : Core) (knows : Knows known c.cells []) (ps : List Process) (apart : cells_apart (all_cells c) ≡ true)
    (fit : list_all (fit_cell ps (all_cells c)) (all_cells c) ≡ true) (l : CoreLeft) (first : ℕ) (at : IsInArray known c l first) where
  abbrev qs : List Part
  qs = map (part_in (facts_in known)) l.parts

  named_so : named_in known l ≡ row_from qs first (size_of at.sizes) 0 []
  unfolding named_in
  named_so =
      ap (named_by known l.parts) at.base
      ∙ ap (λ o. of_array (array_in o qs at.name) (found (facts_in known) false qs at.name) qs) at.has
      ∙ ap (λ a. of_array a (found (facts_in known) false qs at.name) qs)
      (array_found at.places.now c.cells (knows.places at.places at.has) at.name at.named at.indices first at.stands at.bound at.places refl)

  cells_so : cells_of (all_cells c) (taken_of l).left ≡ map (root_of (all_cells c)) (cells_at 0 (steps_of (name_of at.name) ++ at.behind) (all_cells c))
  cells_so = ap (λ o. unwrap_or (option_map (λ q. map (root_of (all_cells c)) (cells_at 0 q (all_cells c))) o) []) at.reads

  pub in_array : (i x : ℕ) → is_number (all_cells c) i x ≡ true → among x (cells_in known l) ≡ among x (cells_of (all_cells c) (taken_of l).left)
  unfolding cells_in
  in_array i x number =
      ap (among x) (ap cells_by named_so ∙ rows_found at.indices first at.bound)
      ∙ rows_named (all_cells c) apart x at.behind at.sizes (steps_of (name_of at.name)) first (closed_name (name_of at.name)) at.stands (under at.indices)
      ∙ sym (among_roots (all_cells c) ps fit i x number (cells_at 0 (steps_of (name_of at.name) ++ at.behind) (all_cells c)))
      ∙ ap (among x) (sym cells_so)
