use Rattle.std.proofs.Common.{◌≡◌, ◌+◌, ◌*◌, ◌++◌, ◌∷◌, [], arith, sym, ap, ◌∙◌, append_assoc}
use Rattle.std.proofs.lemmas.List.FromFn.{map-range_with_len_more}
use Rattle.scc_rules_walks.specs.Cells.{row}
use Rattle.scc_rules_walks.proofs.cells.row.Goals as goal

pub loop-i-preserved : goal.loop-i-preserved
loop-i-preserved c =
    let old = c.args.out.now.items in
    c.in_ok-push.ensures.ok ∙ ap (λ x. c.loop-i.out.items ++ x ∷ []) c.in_ok-at.ensures
    ∙ ap (λ xs. xs ++ (c.args.cell + c.loop-i.i * c.args.stride) ∷ []) c.loop-i.invariant
    ∙ append_assoc old (row c.loop-i.i c.args.stride c.args.cell) ((c.args.cell + c.loop-i.i * c.args.stride) ∷ [])
    ∙ ap (λ xs. old ++ xs) (sym (map-range_with_len_more (λ i. c.args.cell + i * c.args.stride) 0 c.loop-i.i c.loop-i.i (omega arith)))
