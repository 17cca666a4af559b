use Rattle.std.proofs.Common.{◌≡◌, ◌∙◌, ap, sym, map, true, option_and_then, slice_get}
use Rattle.scc_core_spec.specs.IsResolved.{root_is, sort_is}
use Rattle.scc_core_spec.specs.Program.{Port}
use Rattle.scc_core_view.specs.Programs.{cell_of, path_of, sort_of}
use Rattle.scc_core_look.proofs.Sorts.{port-fits}
use Rattle.scc_core_look.proofs.locals.sort_fits.Goals as goal

pub returns-in-Port : goal.returns-in-Port
returns-in-Port c = λ vectors table e.
    let cs = map cell_of c.args.cells.now in
    let k = c.args.kind in
    let path = c.as_slice.result.now in
    let found = c.root_fits.ensures ∙ ap (λ n. root_is k (option_and_then (λ n. slice_get cs n) n)) c.at_path.ensures in
    ap (λ s. sort_is cs k (sort_of s)) c.in-Port.is
    ∙ ap (λ q. sort_is cs k (Port (path_of q))) (sym c.as_slice.ensures.parts)
    ∙ port-fits c.args.places.now c.args.cells.now vectors table path k c.root_fits.result found e
