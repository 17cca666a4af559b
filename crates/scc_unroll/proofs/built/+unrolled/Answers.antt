use Rattle.std.proofs.Common.{ℕ, List, get_or, ◌≡◌, sym, ap, subst, ◌∙◌, arith, ◌+◌, ◌<◌, nat_eq, length, drop, [], ◌∷◌, map, Some, None, option_map}
use Rattle.std.specs.Prelude.{IfSome}
use Rattle.std.proofs.lemmas.Result.{IfOk-weaker, on_ok_weaker}
use Rattle.scc_core.specs.declared.stmt.CoreNode.TheVariants as node
use Rattle.scc_core.proofs.Trees.{get_own}
use Rattle.scc_core_spec.specs.Code.{Code, Loop}
use Rattle.scc_core_spec.specs.Counted as spec
use Rattle.scc_core_spec.specs.Unrolled.{counting_count, stepped, unrolled}
use Rattle.scc_core_view.specs.Codes.{code_of, counted}
use Rattle.scc_unroll_asked.specs.Asked.{AreTaken, IsItself, IsTaken, asked}
use Rattle.scc_unroll.specs.Shape.{HasParts, setting_of, stand_of, turned}
use Rattle.scc_unroll.specs.Turns.{ended_of, turn_of}
use Rattle.scc_unroll_asked.proofs.Asked.{all_first, all_rest, all_yes, all_no, all_block, all_count, all_loop, all_second, all_read, all_themselves}
use Rattle.scc_unroll_asked.specs.Copied.{AreWithin, IsWithin, OneOf, of_aim, of_put}
use Rattle.scc_unroll_asked.specs.Items.{Item}
use Rattle.scc_unroll_asked.specs.Read.{AreCounters}
use Rattle.scc_unroll_asked.proofs.Items.{all_first as first_items, all_rest as rest_items, all_test as test_items, all_yes as yes_items, all_no as no_items, all_block as block_items, all_count as count_items, all_loop as loop_items, all_put as put_items, all_aim as aim_items, all_second as second_items}
use Rattle.scc_unroll_asked.proofs.Made.{block_copies, exit_copies, if_copies, loop_copies, made_copies, one_copied, turn_copied, wait_copies}
use Rattle.scc_unroll_laws.specs.Counters.{counters_of}
use Rattle.scc_unroll_laws.specs.Writing.{each_turn, set_before}
use Rattle.scc_unroll_laws.proofs.Copied.{if_copied, loop_copied, loop_written}
use Rattle.scc_unroll_laws.proofs.Heads.{from_here, last_is}
use Rattle.scc_unroll_laws.proofs.Stmts.{as_block}
use Rattle.scc_unroll_laws.proofs.Writing.{mapped_here, set_one, turns_in}
use Rattle.scc_unroll.proofs.built.+unrolled.Goals as goal

-- ---- statements

pub unrolled-loop-s-preserved : goal.unrolled-loop-s-preserved
unrolled-loop-s-preserved t c = (
  ap (λ n. n + 1) c.loop-s.invariant.0,
  λ b a taken st.
      let i : c.loop-s.s-index < length c.args.body.now = omega arith in
      let inv = c.loop-s.invariant.1 b a taken st in
      let s = c.s-item.result in
      let k = c.args.at.now.known in
      let rest = code_of (drop (c.loop-s.s-index + 1) c.args.body.now) in
      let last : spec.is_end rest ≡ c.are_all-last.result = last_is c.args.body.now c.loop-s.s-index i ∙ ap (λ n. nat_eq (n + 1) (length c.args.body.now)) (sym c.loop-s.invariant.0) ∙ sym c.are_all-last.ensures in
      let first = all_first (IsTaken k) c.args.body.now c.loop-s.s-index s i c.s-item.is inv.0 in
      let here = c.in_ok-unroll.ensures.code b rest a first inv.1 last in
      let S = setting_of c.args.at.now b in
      let ns = counters_of c.args.counters.now in
      let w = stand_of c.loop-s.stand in (
        all_rest (IsTaken k) c.args.body.now c.loop-s.s-index s i c.s-item.is inv.0,
        c.behind-stand.ensures.read k (all_read k (asked (s ∷ [])) first),
        ap (λ v. set_before c.unroll.new.out (unrolled S ns v rest)) c.behind-stand.ensures.stands
            ∙ sym here ∙ sym (ap (λ x. set_before c.loop-s.out (unrolled S ns w x)) (from_here c.args.body.now c.loop-s.s-index s i c.s-item.is)) ∙ inv.2,
      ),
  λ xs a within.
      let i : c.loop-s.s-index < length c.args.body.now = omega arith in
      let inv = c.loop-s.invariant.2 xs a within in
      let s = c.s-item.result in (
        rest_items (λ x. OneOf x xs) c.args.body.now c.loop-s.s-index s i c.s-item.is inv.0,
        c.in_ok-unroll.ensures.copies xs a (first_items (λ x. OneOf x xs) c.args.body.now c.loop-s.s-index s i c.s-item.is inv.0) inv.1,
      ),
)

-- ---- a statement

pub unroll-returns-in-Some-clause-code : goal.unroll-returns-in-Some-clause-code
unroll-returns-in-Some-clause-code t c = λ b r a taken st e.
    let S = setting_of c.args.at.now b in
    let ns = counters_of c.args.counters.now in
    let w = stand_of c.args.stand in
    let s = c.args.s.now in
    let k = c.args.at.now.known in
    let n = c.in-Loop.count in
    let list = c.as_slice-list.result.now in
    let is : s.node ≡ node.Loop n list = c.in-Loop.is ∙ ap (node.Loop n) (sym c.as_slice-list.ensures.elements) in
    let inside : AreTaken k (asked list) = all_loop (IsTaken k) s taken n list is in
    let g = ended_of c.in-Some.of in
    let so : spec.ended (spec.counted_by S ns w (counted n) (code_of list) r) ≡ Some g =
    sym (ap (option_map ended_of) (sym c.in-Some.is) ∙ c.in_ok-ended-in-Loop.ensures.ended b r a (all_read k _ (all_count (IsTaken k) s taken n list is)) (all_read k (asked list) inside) st e) in
    let itself = subst (λ o. IfSome o (λ e. IsItself e.turning.step.now)) c.in-Some.is (c.in_ok-ended-in-Loop.ensures.itself (all_themselves k (asked list) inside)) in
    let parts = subst (λ o. IfSome o (λ e. HasParts e.turning (code_of list))) c.in-Some.is c.in_ok-ended-in-Loop.ensures.parts in
    on_ok_weaker c.write_loop.result (λ h. loop_written S ns s w r c.args.out.now c.write_loop.new.out n list g is so h) (c.write_loop.ensures.code b a inside itself parts)

pub unroll-returns-in_ok-copy-in-None-clause-code : goal.unroll-returns-in_ok-copy-in-None-clause-code
unroll-returns-in_ok-copy-in-None-clause-code t c = λ b r a taken st e.
    let S = setting_of c.args.at.now b in
    let ns = counters_of c.args.counters.now in
    let w = stand_of c.args.stand in
    let s = c.args.s.now in
    let k = c.args.at.now.known in
    let n = c.in-Loop.count in
    let z = c.in_ok-copy-in-None.copy in
    let list = c.as_slice-list.result.now in
    let is : s.node ≡ node.Loop n list = c.in-Loop.is ∙ ap (node.Loop n) (sym c.as_slice-list.ensures.elements) in
    let inside : AreTaken k (asked list) = all_loop (IsTaken k) s taken n list is in
    let so : spec.ended (spec.counted_by S ns w (counted n) (code_of list) r) ≡ None =
    sym (ap (option_map ended_of) (sym c.in-None.is) ∙ c.in_ok-ended-in-Loop.ensures.ended b r a (all_read k _ (all_count (IsTaken k) s taken n list is)) (all_read k (asked list) inside) st e) in
    on_ok_weaker c.push.result
    (λ p. ap (set_before c.args.out.now) (loop_copied S ns s z w r n list is so (c.in_ok-copy-in-None.ensures.code b a inside)) ∙ sym (set_one c.args.out.now c.push.new.self z _ p)) c.push.ensures.ok

pub unroll-returns-in_ok-copy-in_default-clause-code : goal.unroll-returns-in_ok-copy-in_default-clause-code
unroll-returns-in_ok-copy-in_default-clause-code t c = λ b r a taken st e.
    on_ok_weaker c.push-in_default.result
    (λ p. ap (set_before c.args.out.now) (c.in_ok-copy-in_default.ensures.code b a taken (stand_of c.args.stand) r) ∙ sym (set_one c.args.out.now c.push-in_default.new.self c.in_ok-copy-in_default.copy _ p)) c.push-in_default.ensures.ok

pub copied-returns-in_ok-no-in-If-clause-code : goal.copied-returns-in_ok-no-in-If-clause-code
copied-returns-in_ok-no-in-If-clause-code t c = λ b a taken.
    let S = setting_of c.args.at.now b in
    let ns = counters_of c.args.counters.now in
    let s = c.args.s.now in
    let k = c.args.at.now.known in
    let test = c.in-If.test in
    let yes = c.in-If.yes in
    let no = c.in-If.no in
    let one : c.as_slice.result.now ≡ yes = c.as_slice.ensures.elements in
    let two : c.as_slice-in-If.result.now ≡ no = c.as_slice-in-If.ensures.elements in
    let f = c.in_ok-yes-in-If.ensures.code b a (subst (λ x. AreTaken k (asked x)) (sym one) (all_yes (IsTaken k) s taken test yes no c.in-If.is)) tt ∙ ap (λ x. unrolled S ns spec.Elsewhere (code_of x)) one in
    let g = c.in_ok-no-in-If.ensures.code b a (subst (λ x. AreTaken k (asked x)) (sym two) (all_no (IsTaken k) s taken test yes no c.in-If.is)) tt ∙ ap (λ x. unrolled S ns spec.Elsewhere (code_of x)) two in
    IfOk-weaker c.choice.result _ _ (λ z h w r. if_copied S ns s z w r test yes no c.in_ok-yes-in-If.yes c.in_ok-no-in-If.no c.in-If.is f g h) c.choice.ensures.code

-- ---- loops

pub kept_loop-returns-clause-code : goal.kept_loop-returns-clause-code
kept_loop-returns-clause-code t c = λ b a taken.
    let count = option_map (counting_count (counters_of c.args.counters.now)) (counted c.args.count.now) in
    IfOk-weaker c.kept.result _ _ (λ z h r. h r ∙ ap (λ x. Loop c.args.place count x r) (c.in_ok-body.ensures.code b a taken tt)) c.kept.ensures.code

pub write_loop-returns-in-Block-clause-code : goal.write_loop-returns-in-Block-clause-code
write_loop-returns-in-Block-clause-code t c = λ b a taken itself parts.
    let S = setting_of c.args.at.now b in
    let ns = counters_of c.args.counters.now in
    let k = c.args.at.now.known in
    let body = c.args.body.now in
    let of = c.args.of.now in
    let y = c.block-item.result in
    let inner = c.as_slice.result.now in
    let h : 1 < length body = omega (arith, c.in-len3.len_at_least) in
    let is : y.node ≡ node.Block inner = c.in-Block.is ∙ ap node.Block (sym c.as_slice.ensures.elements) in
    let inside : AreTaken k (asked inner) = all_block (IsTaken k) y (all_second (IsTaken k) body y h c.block-item.is taken) inner is in
    on_ok_weaker c.write_turns.result
    (λ p r. p r ∙ sym (ap (set_before c.args.out.now) (turns_in body y (code_of inner) (turned of.turning) h c.block-item.is (as_block y inner is) parts.turning S ns of.cell (map turn_of of.list) r)))
    (c.write_turns.ensures.code b a inside itself parts.whole)

-- ---- copies

pub unroll-returns-in-Some-clause-copies : goal.unroll-returns-in-Some-clause-copies
unroll-returns-in-Some-clause-copies t c = λ xs a within so.
    let list = c.as_slice-list.result.now in
    let is : c.args.s.now.node ≡ node.Loop c.in-Loop.count list = c.in-Loop.is ∙ ap (node.Loop c.in-Loop.count) (sym c.as_slice-list.ensures.elements) in
    let inside = loop_items (λ x. OneOf x xs) c.args.s.now within c.in-Loop.count list is in
    let step = subst (λ o. IfSome o (λ e. IsWithin xs e.turning.step_left.now)) c.in-Some.is (c.in_ok-ended-in-Loop.ensures.within xs inside) in
    c.write_loop.ensures.copies xs a inside step so

pub unroll-returns-in_ok-copy-in-None-clause-copies : goal.unroll-returns-in_ok-copy-in-None-clause-copies
unroll-returns-in_ok-copy-in-None-clause-copies t c = λ xs a within so.
    let s = c.args.s.now in
    let list = c.as_slice-list.result.now in
    let is : s.node ≡ node.Loop c.in-Loop.count list = c.in-Loop.is ∙ ap (node.Loop c.in-Loop.count) (sym c.as_slice-list.ensures.elements) in
    let Q : Item → Type 0 = λ x. OneOf x xs in
    let here = c.in_ok-copy-in-None.ensures.copies xs a (count_items Q s within c.in-Loop.count list is) (loop_items Q s within c.in-Loop.count list is) in
    on_ok_weaker c.push.result (λ p. one_copied c.args.at.now.known.cells.now xs c.args.out.now c.push.new.self c.in_ok-copy-in-None.copy p so here) c.push.ensures.ok

pub unroll-returns-in_ok-copy-in_default-clause-copies : goal.unroll-returns-in_ok-copy-in_default-clause-copies
unroll-returns-in_ok-copy-in_default-clause-copies t c = λ xs a within so.
    on_ok_weaker c.push-in_default.result
    (λ p. one_copied c.args.at.now.known.cells.now xs c.args.out.now c.push-in_default.new.self c.in_ok-copy-in_default.copy p so (c.in_ok-copy-in_default.ensures.copies xs a within)) c.push-in_default.ensures.ok

pub copied-returns-in_ok-no-in-If-clause-copies : goal.copied-returns-in_ok-no-in-If-clause-copies
copied-returns-in_ok-no-in-If-clause-copies t c = λ xs a within.
    let cells = c.args.at.now.known.cells.now in
    let s = c.args.s.now in
    let test = c.in-If.test in
    let yes = c.in-If.yes in
    let no = c.in-If.no in
    let Q : Item → Type 0 = λ x. OneOf x xs in
    let f = c.in_ok-yes-in-If.ensures.copies xs a (subst (AreWithin xs) (sym c.as_slice.ensures.elements) (yes_items Q s within test yes no c.in-If.is)) in
    let g = c.in_ok-no-in-If.ensures.copies xs a (subst (AreWithin xs) (sym c.as_slice-in-If.ensures.elements) (no_items Q s within test yes no c.in-If.is)) in
    IfOk-weaker c.choice.result _ _
    (λ z h. if_copies cells xs c.args.counters.now a z test c.in_ok-yes-in-If.yes c.in_ok-no-in-If.no h ((test_items Q s within test yes no c.in-If.is).0, tt) f g) c.choice.ensures.items

pub copied-returns-in_ok-body-in-Block-clause-copies : goal.copied-returns-in_ok-body-in-Block-clause-copies
copied-returns-in_ok-body-in-Block-clause-copies t c = λ xs a within.
    let inner = c.as_slice-in-Block.result.now in
    let is : c.args.s.now.node ≡ node.Block inner = c.in-Block.is ∙ ap node.Block (sym c.as_slice-in-Block.ensures.elements) in
    block_copies c.args.at.now.known.cells.now xs c.args.s.now.place c.in_ok-body-in-Block.body (c.in_ok-body-in-Block.ensures.copies xs a (block_items (λ x. OneOf x xs) c.args.s.now within inner is))

pub copied-returns-in-Assign-clause-copies : goal.copied-returns-in-Assign-clause-copies
copied-returns-in-Assign-clause-copies t c = λ xs a within.
    let l = c.in-Assign.left in
    let e = c.in-Assign.value in
    IfOk-weaker c.put.result _ _
    (λ z h. made_copies c.args.at.now.known.cells.now xs c.args.counters.now a z (of_put l e) h (put_items (λ x. OneOf x xs) c.args.s.now within l e c.in-Assign.is)) c.put.ensures.items

pub copied-returns-in-Exit-clause-copies : goal.copied-returns-in-Exit-clause-copies
copied-returns-in-Exit-clause-copies t c = λ xs a within. exit_copies c.args.at.now.known.cells.now xs c.args.s.now.place _

pub copied-returns-in-Wait-clause-copies : goal.copied-returns-in-Wait-clause-copies
copied-returns-in-Wait-clause-copies t c = λ xs a within. wait_copies c.args.at.now.known.cells.now xs c.args.s.now.place _

pub copied-returns-in-Alias-clause-copies : goal.copied-returns-in-Alias-clause-copies
copied-returns-in-Alias-clause-copies t c = λ xs a within.
    let to = c.in-Alias.to in
    let l = c.in-Alias.target in
    IfOk-weaker c.aim.result _ _
    (λ z h. made_copies c.args.at.now.known.cells.now xs c.args.counters.now a z (of_aim to l) h (aim_items (λ x. OneOf x xs) c.args.s.now within to l c.in-Alias.is)) c.aim.ensures.items

pub kept_loop-returns-clause-copies : goal.kept_loop-returns-clause-copies
kept_loop-returns-clause-copies t c = λ xs a counts within.
    IfOk-weaker c.kept.result _ _
    (λ z h. loop_copies c.args.at.now.known.cells.now xs c.args.counters.now a z c.args.count.now c.in_ok-body.body h counts (c.in_ok-body.ensures.copies xs a within)) c.kept.ensures.items

pub write_loop-returns-in-Block-clause-copies : goal.write_loop-returns-in-Block-clause-copies
write_loop-returns-in-Block-clause-copies t c = λ xs a within step so.
    let Q : Item → Type 0 = λ x. OneOf x xs in
    let body = c.args.body.now in
    let y = c.block-item.result in
    let inner = c.as_slice.result.now in
    let h : 1 < length body = omega (arith, c.in-len3.len_at_least) in
    let is : y.node ≡ node.Block inner = c.in-Block.is ∙ ap node.Block (sym c.as_slice.ensures.elements) in
    c.write_turns.ensures.copies xs a (block_items Q y (second_items Q body y h c.block-item.is within) inner is) step so

pub turn_block-returns-clause-copies : goal.turn_block-returns-clause-copies
turn_block-returns-clause-copies t c = λ xs a within.
    let cells = c.args.at.now.known.cells.now in
    block_copies cells xs c.args.place c.in_ok-body.body (c.in_ok-body.ensures.copies xs (subst (AreCounters cells) (sym c.as_slice.ensures.value) (c.in_ok-around.ensures.counters a)) within)

own_there : {A : Type 0} (xs ys : List A) (i : ℕ) (d : A) → xs ≡ ys → get_or xs i d ≡ get_or ys i (get_or xs i d)
own_there xs ys i d e = ap (λ z. get_or z i d) e ∙ get_own ys i d ∙ ap (λ z. get_or ys i (get_or z i d)) (sym e)

pub write_turns-loop-turn-preserved : goal.write_turns-loop-turn-preserved
write_turns-loop-turn-preserved t c = (
  λ b r a taken itself whole.
      let n = c.loop-turn.turn-index in
      let L = c.args.of.now.list in
      let j : n < length c.as_slice-turn-items.result.now = omega arith in
      let i : n < length L = subst (λ z. n < length z) c.as_slice-turn-items.ensures.elements j in
      let G : List spec.Turn → Code = λ ts. each_turn (setting_of c.args.at.now b) (counters_of c.args.counters.now) c.args.of.now.cell c.args.place (code_of c.args.inner.now) (turned c.args.of.now.turning) ts r in
      c.in_ok-push_turn.ensures.code itself whole (G (map turn_of (drop (n + 1) L)))
      ∙ ap (set_before c.loop-turn.out) (c.in_ok-block.ensures.code b a taken (stepped (Some (turned c.args.of.now.turning)) _ (G (map turn_of (drop (n + 1) L)))))
      ∙ sym (ap (λ x. set_before c.loop-turn.out (G x)) (mapped_here turn_of L n _ i (own_there c.as_slice-turn-items.result.now L n _ c.as_slice-turn-items.ensures.elements)))
      ∙ c.loop-turn.invariant.0 b r a taken itself whole,
  λ xs a within step so.
      turn_copied c.args.at.now.known.cells.now xs c.loop-turn.out c.push_turn.new.out c.in_ok-block.block c.args.of.now.turning.step_left.now c.args.of.now.turning.step.now _ c.in_ok-push_turn.ensures.items
      (c.loop-turn.invariant.1 xs a within step so) (c.in_ok-block.ensures.copies xs a within) step,
)

pub unrolled-returns-clause-copies : goal.unrolled-returns-clause-copies
unrolled-returns-clause-copies t c = λ xs a within. (c.loop-s.invariant.2 xs a within).1
