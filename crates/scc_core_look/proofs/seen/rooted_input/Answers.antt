use Rattle.std.proofs.Common.{◌≡◌, ◌∙◌, ap, sym, map}
use Rattle.scc_core_spec.specs.Program.{Port}
use Rattle.scc_core_view.specs.Programs.{cell_of, path_of, sort_of}
use Rattle.scc_core_look.specs.Seen.{input_by, is_input_at}
use Rattle.scc_core_look.proofs.Sorts.{at-path}
use Rattle.scc_core_look.proofs.seen.rooted_input.Goals as goal

pub returns-in-Port : goal.returns-in-Port
returns-in-Port c = λ vectors table.
    let cs = map cell_of c.args.cells.now in
    c.is_input_at.ensures ∙ ap (is_input_at cs) (c.at_path.ensures ∙ at-path c.args.places.now c.args.cells.now vectors table c.as_slice.result.now)
    ∙ sym (ap (λ s. input_by cs (sort_of s)) c.in-Port.is ∙ ap (λ q. input_by cs (Port (path_of q))) (sym c.as_slice.ensures.parts))
