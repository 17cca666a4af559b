use Rattle.std.proofs.Common.{◌≡◌, ◌++◌, append_assoc, ap, ◌∙◌}
use Rattle.std.specs.Prelude.{◌||◌, ◌&&◌, not}
use Rattle.scc_core_spec.specs.Uses.{inside, loads, picked}
use Rattle.scc_core_view.specs.Terms.{taken_of, term_of}
use Rattle.scc_rules_walks.specs.Loads.{uses_of}
use Rattle.scc_states_kept.specs.Filled.{filled_in}
use Rattle.scc_states_kept.specs.Needs.{reads_cell}
use Rattle.scc_states_kept.specs.Slots.{is_at, put_reads}
use Rattle.scc_states_kept.proofs.Standing.{keeps_told, loads_as, on_ok}
use Rattle.scc_states_kept.proofs.slots.before_put.Goals as goal

pub returns : goal.returns
returns c = λ cs only f h k.
    let l = c.args.left.now in
    let e = c.args.value.now in
    let read : uses_of c.as_slice.result.now ≡ put_reads l e =
    ap uses_of c.as_slice.ensures.value ∙ c.in_ok-value_loads.ensures
    ∙ ap (λ us. us ++ loads (term_of e)) (c.in_ok-left_loads.ensures ∙ ap (λ ls. uses_of ls ++ (inside (taken_of l).left ++ picked (taken_of l).pick)) c.new-loads.ensures.items)
    ∙ append_assoc (inside (taken_of l).left) (picked (taken_of l).pick) (loads (term_of e)) in
    on_ok c.add_reads.result (keeps_told only c.args.own.now c.add_reads.new.live _ _ (λ x o.
    ap (λ b. b || (not (is_at x (filled_in c.args.own.now.known l)) && f x)) (loads_as c.args.own.now.known cs only c.as_slice.result.now (put_reads l e) read h.reads x o)
    ∙ ap (λ b. reads_cell cs x (put_reads l e) || (not b && f x)) (h.fills x o)))
    (c.add_reads.ensures only _ (c.in_ok-kill.ensures only f k))
