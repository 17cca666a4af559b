use Rattle.std.proofs.Common.{◌≡◌, refl, sym, ap, subst, ◌∙◌, arith, ◌+◌, ◌<◌, length, drop, take, List, [], ◌∷◌, ◌++◌, Ok, Err}
use Rattle.std.proofs.lemmas.Result.{err_from_is_err_and, on_ok_weaker}
use Rattle.scc_core.specs.declared.stmt.CoreNode.TheVariants as node
use Rattle.scc_core_spec.specs.Code as code
use Rattle.scc_core_spec.specs.Resolved.{made_map}
use Rattle.scc_core_view.specs.Codes.{code_of, counted, pointed_of}
use Rattle.scc_core_view.specs.Terms.{taken_of, term_of}
use Rattle.scc_pointers_spec.specs.Freed.{freed}
use Rattle.scc_pointers_walk.specs.Led.{leads_of}
use Rattle.scc_pointers_walk.specs.Walked.{expr_in}
use Rattle.scc_pointers_walk.specs.declared.held.Resolver.{Resolver}
use Rattle.scc_pointers_laws.specs.Asked.{AreAsked, Asks, IsBeside}
use Rattle.scc_unroll_asked.specs.Items.{asked, asked_count}
use Rattle.scc_pointers_laws.specs.Followed.{IsKnown}
use Rattle.scc_pointers_laws.proofs.Asked.{all_aim, all_back, all_block, all_first, all_front, all_if, all_loop, all_put, all_rest, asked_beside}
use Rattle.scc_pointers_laws.proofs.Turning.{alias_known, alias_turns, behind_ok, exit_gives, exit_turns, if_made, if_no, if_test, if_yes, known_on, leads_behind, list_more, list_stops, loop_behind, put_turns, turns_by}
use Rattle.scc_pointers.proofs.Begun.{begins_then, same_leads}
use Rattle.scc_unroll_laws.proofs.Stmts.{as_aim, as_block, as_if, as_loop, as_put}
use Rattle.scc_pointers.proofs.stmt.+resolved.Goals as goal

beside : (a b : Resolver) → a.known ≡ b.known → a.places ≡ b.places → a.vectors ≡ b.vectors → IsBeside a b
beside a b k p v = record { known = k; places = p; vectors = v }

-- ---- loops

pub looped-returns-clause-freed : goal.looped-returns-clause-freed
looped-returns-clause-freed t c = λ h k p.
    let r = c.args.r.now in
    let s = c.resolved_stmts.new.r in
    let e = c.in_ok-body.ensures in
    let n = c.args.count.now in
    let body = c.args.body.now in
    loop_behind r s (beside s r e.known e.places e.vectors) k e.held e.leads p n c.in_ok-count.count (asked body) h c.in_ok-count.ensures (code_of body) c.in_ok-body.body
    (e.freed (all_back (Asks r) (asked_count n) (asked body) h) k)

-- ---- an `if`

pub resolved_node-returns-in_err-test-in-If-clause-freed : goal.resolved_node-returns-in_err-test-in-If-clause-freed
resolved_node-returns-in_err-test-in-If-clause-freed t c = λ h k.
    let r = c.args.r.now in
    let s = c.args.s.now in
    let test = c.in-If.test in
    let yes = c.in-If.yes in
    let no = c.in-If.no in
    let q = all_if (Asks r) s h test yes no c.in-If.is in
    let f = code.If s.place (term_of test) (code_of yes) (code_of no) in
    let x = err_from_is_err_and c.from_residual.result c.from_residual.ensures.1 in
    turns_by (leads_of r) _ s f c.from_residual.result (as_if s test yes no c.in-If.is)
    (exit_turns (leads_of r) _ s.place f (λ x. x) c.from_residual.result x.0 c.in_err-test-in-If.field-0.0 x.1 x.2 (expr_in r test) c.in_err-test-in-If.ensures.trees
    (λ u e. if_test r k test (asked yes ++ asked no) q s.place (code_of yes) (code_of no) u e))

pub resolved_node-returns-in_err-yes-in-If-clause-freed : goal.resolved_node-returns-in_err-yes-in-If-clause-freed
resolved_node-returns-in_err-yes-in-If-clause-freed t c = λ h k.
    let r = c.args.r.now in
    let s = c.args.s.now in
    let test = c.in-If.test in
    let yes = c.in-If.yes in
    let no = c.in-If.no in
    let one : c.as_slice.result.now ≡ yes = c.as_slice.ensures.elements in
    let q = all_if (Asks r) s h test yes no c.in-If.is in
    let f = code.If s.place (term_of test) (code_of yes) (code_of no) in
    let x = err_from_is_err_and c.from_residual-in_err-yes-in-If.result c.from_residual-in_err-yes-in-If.ensures.1 in
    let g = c.in_err-yes-in-If.ensures.freed (subst (λ z. AreAsked r (asked z)) (sym one) (all_front (Asks r) (asked yes) (asked no) q.1)) k in
    turns_by (leads_of r) _ s f c.from_residual-in_err-yes-in-If.result (as_if s test yes no c.in-If.is)
    (exit_turns (leads_of r) _ s.place f code_of c.from_residual-in_err-yes-in-If.result x.0 c.in_err-yes-in-If.field-0.0 x.1 x.2 (freed (leads_of r) (code_of c.as_slice.result.now)) g
    (λ u e. if_yes r k test (asked yes ++ asked no) q s.place (code_of yes) (code_of no) c.in_ok-test-in-If.test c.in_ok-test-in-If.ensures.trees u (ap (λ z. freed (leads_of r) (code_of z)) (sym one) ∙ e)))

pub resolved_node-returns-in_err-no-in-If-clause-freed : goal.resolved_node-returns-in_err-no-in-If-clause-freed
resolved_node-returns-in_err-no-in-If-clause-freed t c = λ h k.
    let r = c.args.r.now in
    let s = c.args.s.now in
    let test = c.in-If.test in
    let yes = c.in-If.yes in
    let no = c.in-If.no in
    let r1 = c.resolved_stmts.new.r in
    let y = c.in_ok-yes-in-If.ensures in
    let b1 = beside r1 r y.known y.places y.vectors in
    let one : c.as_slice.result.now ≡ yes = c.as_slice.ensures.elements in
    let two : c.as_slice-in-If.result.now ≡ no = c.as_slice-in-If.ensures.elements in
    let q = all_if (Asks r) s h test yes no c.in-If.is in
    let f = code.If s.place (term_of test) (code_of yes) (code_of no) in
    let x = err_from_is_err_and c.from_residual-in_err-no-in-If.result c.from_residual-in_err-no-in-If.ensures.1 in
    let gy = ap (λ z. freed (leads_of r) (code_of z)) (sym one) ∙ y.freed (subst (λ z. AreAsked r (asked z)) (sym one) (all_front (Asks r) (asked yes) (asked no) q.1)) k in
    let gn = c.in_err-no-in-If.ensures.freed (subst (λ z. AreAsked r1 (asked z)) (sym two) (asked_beside r1 r b1 (asked no) (all_back (Asks r) (asked yes) (asked no) q.1))) (known_on r1 r b1 k y.held) in
    turns_by (leads_of r) _ s f c.from_residual-in_err-no-in-If.result (as_if s test yes no c.in-If.is)
    (exit_turns (leads_of r) _ s.place f code_of c.from_residual-in_err-no-in-If.result x.0 c.in_err-no-in-If.field-0.0 x.1 x.2 (freed (leads_of r1) (code_of c.as_slice-in-If.result.now)) gn
    (λ u e. if_no r k test (asked yes ++ asked no) q s.place (code_of yes) (code_of no) c.in_ok-test-in-If.test c.in_ok-test-in-If.ensures.trees (code_of c.in_ok-yes-in-If.yes) gy u
    ((λ i. freed (sym y.leads i) (code_of (sym two i))) ∙ e)))

pub resolved_node-returns-in_ok-no-in-If-clause-freed : goal.resolved_node-returns-in_ok-no-in-If-clause-freed
resolved_node-returns-in_ok-no-in-If-clause-freed t c = λ h k.
    let r = c.args.r.now in
    let s = c.args.s.now in
    let test = c.in-If.test in
    let yes = c.in-If.yes in
    let no = c.in-If.no in
    let r1 = c.resolved_stmts.new.r in
    let r2 = c.resolved_stmts-in-If.new.r in
    let y = c.in_ok-yes-in-If.ensures in
    let n = c.in_ok-no-in-If.ensures in
    let b1 = beside r1 r y.known y.places y.vectors in
    let one : c.as_slice.result.now ≡ yes = c.as_slice.ensures.elements in
    let two : c.as_slice-in-If.result.now ≡ no = c.as_slice-in-If.ensures.elements in
    let q = all_if (Asks r) s h test yes no c.in-If.is in
    let f = code.If s.place (term_of test) (code_of yes) (code_of no) in
    let gy = ap (λ z. freed (leads_of r) (code_of z)) (sym one) ∙ y.freed (subst (λ z. AreAsked r (asked z)) (sym one) (all_front (Asks r) (asked yes) (asked no) q.1)) k in
    let gn = (λ i. freed (sym y.leads i) (code_of (sym two i)))
    ∙ n.freed (subst (λ z. AreAsked r1 (asked z)) (sym two) (asked_beside r1 r b1 (asked no) (all_back (Asks r) (asked yes) (asked no) q.1))) (known_on r1 r b1 k y.held) in
    turns_by (leads_of r) (leads_of r2) s f (Ok (node.If c.in_ok-test-in-If.test c.in_ok-yes-in-If.yes c.in_ok-no-in-If.no)) (as_if s test yes no c.in-If.is)
    (leads_behind (leads_of r) (leads_of r) (leads_of r2) s.place f (Ok (node.If c.in_ok-test-in-If.test c.in_ok-yes-in-If.yes c.in_ok-no-in-If.no)) (sym (n.leads ∙ y.leads))
    (if_made r k test (asked yes ++ asked no) q s.place (code_of yes) (code_of no) c.in_ok-test-in-If.test c.in_ok-test-in-If.ensures.trees c.in_ok-yes-in-If.yes c.in_ok-no-in-If.no gy gn))

pub resolved_node-returns-in_ok-no-in-If-clause-sound : goal.resolved_node-returns-in_ok-no-in-If-clause-sound
resolved_node-returns-in_ok-no-in-If-clause-sound t c = λ h k.
    let r = c.args.r.now in
    let r1 = c.resolved_stmts.new.r in
    let r2 = c.resolved_stmts-in-If.new.r in
    let y = c.in_ok-yes-in-If.ensures in
    let n = c.in_ok-no-in-If.ensures in
    known_on r2 r1 (beside r2 r1 n.known n.places n.vectors) (known_on r1 r (beside r1 r y.known y.places y.vectors) k y.held) n.held

-- ---- other statements

pub resolved_node-returns-in-Assign-clause-freed : goal.resolved_node-returns-in-Assign-clause-freed
resolved_node-returns-in-Assign-clause-freed t c = λ h k.
    let r = c.args.r.now in
    let s = c.args.s.now in
    let left = c.in-Assign.left in
    let value = c.in-Assign.value in
    turns_by (leads_of r) (leads_of r) s (code.Put s.place (taken_of left).left (taken_of left).pick (term_of value)) c.put.result (as_put s left value c.in-Assign.is)
    (put_turns r k left value (all_put (Asks r) s h left value c.in-Assign.is) s.place c.put.result c.put.ensures.trees)

pub resolved_node-returns-in-Block-clause-freed : goal.resolved_node-returns-in-Block-clause-freed
resolved_node-returns-in-Block-clause-freed t c = λ h k.
    let r = c.args.r.now in
    let s = c.args.s.now in
    let r1 = c.block.new.r in
    let e = c.block.ensures in
    let list = c.as_slice-in-Block.result.now in
    let is : s.node ≡ node.Block list = c.in-Block.is ∙ ap node.Block (sym c.as_slice-in-Block.ensures.elements) in
    turns_by (leads_of r) (leads_of r1) s (code.Block s.place (code_of list)) c.block.result (as_block s list is)
    (behind_ok (leads_of r) (leads_of r1) s.place (code.Block s.place (code_of list)) c.block.result (on_ok_weaker c.block.result (λ g. same_leads r1 r e.known e.vectors g) e.held) (e.freed (all_block (Asks r) s h list is) k s.place))

pub resolved_node-returns-in-Block-clause-sound : goal.resolved_node-returns-in-Block-clause-sound
resolved_node-returns-in-Block-clause-sound t c = λ h k.
    let r = c.args.r.now in
    let r1 = c.block.new.r in
    let e = c.block.ensures in
    on_ok_weaker c.block.result (λ g. known_on r1 r (beside r1 r e.known e.places e.vectors) k g) e.held

pub resolved_node-returns-in-Loop-clause-freed : goal.resolved_node-returns-in-Loop-clause-freed
resolved_node-returns-in-Loop-clause-freed t c = λ h k.
    let r = c.args.r.now in
    let s = c.args.s.now in
    let r1 = c.looped.new.r in
    let e = c.looped.ensures in
    let n = c.in-Loop.count in
    let list = c.as_slice-in-Loop.result.now in
    let is : s.node ≡ node.Loop n list = c.in-Loop.is ∙ ap (node.Loop n) (sym c.as_slice-in-Loop.ensures.elements) in
    let f = code.Loop s.place (counted n) (code_of list) in
    turns_by (leads_of r) (leads_of r1) s f c.looped.result (as_loop s n list is)
    (behind_ok (leads_of r) (leads_of r1) s.place f c.looped.result (on_ok_weaker c.looped.result (λ g. same_leads r1 r e.known e.vectors g) e.held) (e.freed (all_loop (Asks r) s h n list is) k s.place))

pub resolved_node-returns-in-Loop-clause-sound : goal.resolved_node-returns-in-Loop-clause-sound
resolved_node-returns-in-Loop-clause-sound t c = λ h k.
    let r = c.args.r.now in
    let r1 = c.looped.new.r in
    let e = c.looped.ensures in
    on_ok_weaker c.looped.result (λ g. known_on r1 r (beside r1 r e.known e.places e.vectors) k g) e.held

pub resolved_node-returns-in-Alias-clause-freed : goal.resolved_node-returns-in-Alias-clause-freed
resolved_node-returns-in-Alias-clause-freed t c = λ h k.
    let r = c.args.r.now in
    let s = c.args.s.now in
    let r1 = c.alias.new.r in
    let to = c.in-Alias.to in
    let of = c.in-Alias.target in
    turns_by (leads_of r) (leads_of r1) s (code.Aim s.place (pointed_of to) (taken_of of).left) c.alias.result (as_aim s to of c.in-Alias.is)
    (alias_turns r k r1 s.place to of (all_aim (Asks r) s h to of c.in-Alias.is) c.alias.result c.alias.ensures.trees c.alias.ensures.leads)

pub resolved_node-returns-in-Alias-clause-sound : goal.resolved_node-returns-in-Alias-clause-sound
resolved_node-returns-in-Alias-clause-sound t c = λ h k.
    let r = c.args.r.now in
    let s = c.args.s.now in
    let r1 = c.alias.new.r in
    let e = c.alias.ensures in
    let to = c.in-Alias.to in
    let of = c.in-Alias.target in
    alias_known r k r1 (beside r1 r e.known e.places e.vectors) s.place to of (all_aim (Asks r) s h to of c.in-Alias.is) c.alias.result e.trees e.entries

-- ---- lists

pub resolved_stmts-returns-in_err-node-clause-freed : goal.resolved_stmts-returns-in_err-node-clause-freed
resolved_stmts-returns-in_err-node-clause-freed t c = λ h k.
    let i : c.loop-s.s-index < length c.args.body.now = omega arith in
    let r = c.args.r.now in
    let r1 = c.loop-s.r in
    let v = c.loop-s.invariant in
    let inv = v.4 h k in
    let s = c.s-item.result in
    let body = c.args.body.now in
    let first = all_first (Asks r) body c.loop-s.s-index s i c.s-item.is inv.0 in
    let here = asked_beside r1 r (beside r1 r v.1 v.2 v.3) (asked (s ∷ [])) first in
    let x = err_from_is_err_and c.from_residual.result c.from_residual.ensures.1 in
    exit_gives c.from_residual.result x.0 c.in_err-node.field-0.0 x.1 x.2 (freed (leads_of r) (code_of body))
    (list_stops (leads_of r1) (leads_of c.resolved_node.new.r) body c.loop-s.s-index s i c.s-item.is c.loop-s.out (freed (leads_of r) (code_of body)) inv.2 c.in_err-node.field-0.0 (c.in_err-node.ensures.freed here inv.1))

pub resolved_stmts-loop-s-preserved : goal.resolved_stmts-loop-s-preserved
resolved_stmts-loop-s-preserved t c =
    let i : c.loop-s.s-index < length c.args.body.now = omega arith in
    let r = c.args.r.now in
    let r1 = c.loop-s.r in
    let r2 = c.resolved_node.new.r in
    let v = c.loop-s.invariant in
    let e = c.in_ok-node.ensures in (
      begins_then r.held.entries r1.held.entries r2.held.entries v.0 e.held,
      e.known ∙ v.1,
      e.places ∙ v.2,
      e.vectors ∙ v.3,
      λ h k.
          let inv = v.4 h k in
          let s = c.s-item.result in
          let body = c.args.body.now in
          let first = all_first (Asks r) body c.loop-s.s-index s i c.s-item.is inv.0 in
          let here = asked_beside r1 r (beside r1 r v.1 v.2 v.3) (asked (s ∷ [])) first in (
            all_rest (Asks r) body c.loop-s.s-index s i c.s-item.is inv.0,
            e.sound here inv.1,
            list_more (leads_of r1) (leads_of r2) body c.loop-s.s-index s i c.s-item.is c.loop-s.out c.push.new.self c.in_ok-node.node c.in_ok-push.ensures.ok (freed (leads_of r) (code_of body)) inv.2 (e.freed here inv.1),
          ),
    )
