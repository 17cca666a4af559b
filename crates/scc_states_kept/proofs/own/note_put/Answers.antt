use Rattle.std.proofs.Common.{◌≡◌, ◌++◌, append_assoc, ap, subst, true, false, ◌∙◌}
use Rattle.std.specs.Prelude.{◌||◌, ◌&&◌}
use Rattle.std.specs.List.{list_any}
use Rattle.scc_core_spec.specs.Uses.{among, inside, loads, picked}
use Rattle.scc_core_view.specs.Terms.{taken_of, term_of}
use Rattle.scc_rules_walks.specs.Loads.{uses_of}
use Rattle.scc_states_kept.specs.Noted.{Notes, owns_at}
use Rattle.scc_states_kept.specs.Rows.{cells_in}
use Rattle.scc_states_kept.specs.Slots.{put_reads}
use Rattle.scc_states_kept.proofs.Noting.{put_noted}
use Rattle.scc_states_kept.proofs.Standing.{on_ok}
use Rattle.scc_states_kept.proofs.own.note_put.Goals as goal

pub returns : goal.returns
returns c = λ p f t k.
    let l = c.args.left.now in
    let e = c.args.value.now in
    let known = c.args.known in
    let i = c.args.process in
    let read : uses_of c.as_slice.result.now ≡ put_reads l e =
    ap uses_of c.as_slice.ensures.value ∙ c.in_ok-value_loads.ensures
    ∙ ap (λ us. us ++ loads (term_of e)) (c.in_ok-left_loads.ensures ∙ ap (λ ls. uses_of ls ++ (inside (taken_of l).left ++ picked (taken_of l).pick)) c.new-loads.ensures.items)
    ∙ append_assoc (inside (taken_of l).left) (picked (taken_of l).pick) (loads (term_of e)) in
    let written = c.as_slice-2.ensures.value ∙ c.in_ok-written.ensures in
    on_ok c.note_cells.result (λ m. put_noted known i p l e c.as_slice.result.now c.note_cells.new.cells.keys f read t
    (subst (λ ns. Notes c.note_cells.new.cells.keys (λ x. (f x || (owns_at known i false x && list_any (λ y. among x (cells_in known y.left.now)) c.as_slice.result.now)) || (owns_at known i true x && among x ns))) written m))
    (c.note_cells.ensures _ (c.in_ok-note_reads.ensures f k))
