use Rattle.std.proofs.Common.{option_map, ◌≡◌, ◌-◌, ◌<◌, ◌≤◌, sym, ap, ◌∙◌, arith, length, get_or, Bor, Some}
use Rattle.scc_core.specs.declared.expr.CoreExpr.{CoreExpr}
use Rattle.scc_core.specs.declared.expr.CoreLeft.{CoreLeft}
use Rattle.scc_core.specs.Operands.{first_of}
use Rattle.scc_core.specs.Copies.{pointer_in_left}
use Rattle.scc_pointers_numbers.specs.Numbered.{numbered, numbered_left}
use Rattle.scc_core.proofs.Chains.{at_place, one_before}
use Rattle.scc_pointers_numbers.proofs.numbering.Numbering.+numbered.Goals as goal

abbrev lent : Bor CoreExpr → CoreExpr
lent x = x.now

abbrev lent_left : Bor CoreLeft → CoreLeft
lent_left x = x.now

pub expr_in-loop-left-preserved : goal.expr_in-loop-left-preserved
expr_in-loop-left-preserved t c =
    let below : c.loop-left.left - 1 ≤ length c.in_ok-list.list.items = omega arith in
    let some : 0 < c.loop-left.left = omega arith in
    let inside : c.loop-left.left - 1 < length c.in_ok-list.list.items = omega arith in
    let is : c.index.result.now ≡ get_or c.in_ok-list.list.items (c.loop-left.left - 1) c.index.result.now = c.index.ensures in (
      below,
      λ f h.
          let first = c.loop-left.invariant.1 f h ∙ ap (option_map (numbered f)) (one_before first_of lent c.args.e.now c.in_ok-list.list.items c.loop-left.left c.index.result.now some
          c.loop-left.invariant.0 c.in_ok-list.ensures is) in
          ap Some (c.in_ok-over.ensures f h first) ∙ sym (ap (option_map (numbered f)) (at_place first_of lent c.in_ok-list.list.items (c.loop-left.left - 1) c.index.result.now inside is)),
    )

pub left_in-loop-more-preserved : goal.left_in-loop-more-preserved
left_in-loop-more-preserved t c =
    let below : c.loop-more.more - 1 ≤ length c.in_ok-list.list.items = omega arith in
    let some : 0 < c.loop-more.more = omega arith in
    let inside : c.loop-more.more - 1 < length c.in_ok-list.list.items = omega arith in
    let is : c.index.result.now ≡ get_or c.in_ok-list.list.items (c.loop-more.more - 1) c.index.result.now = c.index.ensures in (
      below,
      λ f h.
          let first = c.loop-more.invariant.1 f h ∙ ap (option_map (numbered_left f)) (one_before pointer_in_left lent_left c.args.left.now c.in_ok-list.list.items c.loop-more.more c.index.result.now some
          c.loop-more.invariant.0 c.in_ok-list.ensures is) in
          ap Some (c.in_ok-behind.ensures f h first) ∙ sym (ap (option_map (numbered_left f)) (at_place pointer_in_left lent_left c.in_ok-list.list.items (c.loop-more.more - 1) c.index.result.now inside is)),
    )
