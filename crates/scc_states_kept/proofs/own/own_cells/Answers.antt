use Rattle.std.proofs.Common.{refl, false, length, ◌∙◌}
use Rattle.scc_core_view.specs.Codes.{code_of}
use Rattle.scc_states_kept.specs.Noted.{cells_here, owns_any}
use Rattle.scc_states_kept.proofs.Ascending.{list_is}
use Rattle.scc_states_kept.proofs.Noting.{notes_empty, owned_below}
use Rattle.scc_states_kept.proofs.own.own_cells.Goals as goal

pub returns : goal.returns
returns c = λ d.
    let code = code_of c.args.live.now in
    let cs = cells_here c.args.known in
    let noted = c.in_ok-note_all.ensures (λ x. false) d (notes_empty c.new-cells.result.keys c.new-cells.ensures.empty) in
    record {
      same = refl;
      cells = list_is c.sort.new.self.keys (owns_any c.args.known c.args.process code) (length cs) c.in_ok-sort.ensures.sorted c.in_ok-sort.ensures.unique
          (λ z. c.in_ok-sort.ensures.reordered.2 z ∙ noted.told z) (λ z h. owned_below cs c.args.process z code h);
    }
