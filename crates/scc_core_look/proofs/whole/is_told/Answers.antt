use Rattle.std.proofs.Common.{◌≡◌, ◌∙◌, ap, subst, sym, true, map}
use Rattle.std.specs.List.{list_all}
use Rattle.scc_core_spec.specs.IsResolved.{cells_apart, processes_apart}
use Rattle.scc_core_view.specs.Programs.{cell_of, process_of, program_of}
use Rattle.scc_core_whole.specs.Parts.{HaveNames}
use Rattle.scc_core_look.specs.Clocked.{is_clocked}
use Rattle.scc_core_look.specs.Fits.{body_fits}
use Rattle.scc_core_look.proofs.Dry.{whole}
use Rattle.scc_core_look.proofs.whole.is_told.Goals as goal

pub returns : goal.returns
returns c = λ e cells_whole.
    let core = c.args.core.now in
    let all = c.all_of.ensures e in
    let vectors = core.vectors in
    let table = c.in_ok-places.ensures in
    let same = c.as_slice-processes.ensures.elements in
    let apart : cells_apart (map cell_of core.cells) ≡ true = ap (λ cs. cells_apart (map cell_of cs)) (sym c.as_slice.ensures.elements) ∙ c.names_differ-named.ensures.apart vectors (subst (λ cs. Rattle.scc_core.specs.Tables.IsTable c.in_ok-places.places cs vectors) (sym c.as_slice.ensures.elements) table) all.1 in
    let names : HaveNames core.cells = subst HaveNames c.as_slice.ensures.elements (c.names_differ-named.ensures.names vectors (subst (λ cs. Rattle.scc_core.specs.Tables.IsTable c.in_ok-places.places cs vectors) (sym c.as_slice.ensures.elements) table) all.1) in
    let covered = c.in_ok-covered.ensures vectors table all.2 in
    whole (program_of core)
    (ap (λ ps. processes_apart (map process_of ps)) (sym same) ∙ c.in_ok-differ.ensures all.0)
    apart
    (c.cells_fit-placed.ensures vectors table all.3)
    (ap (λ ps. list_all (is_clocked (map cell_of core.cells)) (map process_of ps)) (sym same) ∙ c.are_clocked-clocked.ensures all.4)
    (ap (λ ps. list_all (body_fits (map cell_of core.cells)) (map process_of ps)) (sym same) ∙ c.in_ok-fit.ensures vectors table apart names cells_whole covered all.5)
