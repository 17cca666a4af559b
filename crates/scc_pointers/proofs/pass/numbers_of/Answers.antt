use Rattle.std.proofs.Common.{◌≡◌, ◌+◌, ◌<◌, length, arith, ap, ◌∙◌, sym, min, [], ◌∷◌, ◌++◌, take, true, false, if◌then◌else◌}
use Rattle.scc_pointers.specs.Resolved.{gone, new_numbers}
use Rattle.scc_pointers_walk.specs.Pointers.{is_pointer}
use Rattle.scc_pointers.proofs.Numbering.{with_next, stays_next, stays, next_cut}
use Rattle.scc_pointers.proofs.pass.numbers_of.Goals as goal
use Rattle.scc_pointers.proofs.pass.numbers_of.Goals.{then-is_pointer+in_ok-push, else-is_pointer+in_ok-push-2}

pub loop-cell-preserved : goal.loop-cell-preserved
loop-cell-preserved c =
    let i = c.loop-cell.cell-index in
    let cells = c.args.cells.now in
    let h : i < length cells = omega arith in
    let w = with_next cells i c.cell-item.result h c.cell-item.is in
    let s = stays_next cells i c.cell-item.result h c.cell-item.is in
    elim c.if-is_pointer.branch [
      | then-is_pointer+in_ok-push x ↦ (
          let p : is_pointer c.cell-item.result ≡ true = sym c.is_pointer.ensures ∙ x.if-is_pointer.true in (
            ap (λ v. v.items) x.numbers-is ∙ x.in_ok-push.ensures.ok
                ∙ ap (λ l. l ++ gone ∷ []) c.loop-cell.invariant.0
                ∙ ap (λ b. new_numbers 0 (take i cells) ++ (if b then gone else min (stays (take i cells)) gone) ∷ []) (sym p)
                ∙ sym w,
            x.next-is ∙ c.loop-cell.invariant.1
                ∙ ap (λ n. min n gone) (sym (s ∙ ap (λ b. stays (take i cells) + (if b then 0 else 1)) p ∙ (let e : stays (take i cells) + 0 ≡ stays (take i cells) = omega arith in e))),
          )
          )
      | else-is_pointer+in_ok-push-2 x ↦ (
          let p : is_pointer c.cell-item.result ≡ false = sym c.is_pointer.ensures ∙ x.if-is_pointer.false in (
            ap (λ v. v.items) x.numbers-is ∙ x.in_ok-push-2.ensures.ok
                ∙ ap (λ l. l ++ c.loop-cell.next ∷ []) c.loop-cell.invariant.0
                ∙ ap (λ n. new_numbers 0 (take i cells) ++ n ∷ []) c.loop-cell.invariant.1
                ∙ ap (λ b. new_numbers 0 (take i cells) ++ (if b then gone else min (stays (take i cells)) gone) ∷ []) (sym p)
                ∙ sym w,
            x.next-is ∙ next_cut (stays (take i cells)) c.loop-cell.next _ c.loop-cell.invariant.1 x.saturating_add-next.ensures
                ∙ ap (λ n. min n gone) (sym (s ∙ ap (λ b. stays (take i cells) + (if b then 0 else 1)) p)),
          )
          )
    ]
