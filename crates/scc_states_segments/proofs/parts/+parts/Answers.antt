use Rattle.std.proofs.Common.{◌≡◌, refl, sym, ap, ◌∙◌, arith, ℕ, ◌+◌, ◌<◌, List, length, drop, map, subst, [], ◌∷◌}
use Rattle.scc_core.specs.declared.expr.CoreExpr.{CoreExpr}
use Rattle.scc_core.specs.declared.stmt.CoreStmt.{CoreStmt}
use Rattle.scc_core.specs.declared.stmt.CoreNode.{CoreNode}
use Rattle.scc_core.specs.declared.stmt.CoreNode.TheVariants as stmt
use Rattle.scc_core_spec.specs.Code.{waits_in, numbered}
use Rattle.scc_core_view.specs.Codes.{code_of}
use Rattle.scc_states_segments.specs.declared.parts.PartNode.TheVariants as variant
use Rattle.scc_states_segments.specs.Parts.{Walk, Walks, chain, part_walk, IsPart}
use Rattle.scc_states_segments.proofs.Adds.{waits_here}
use Rattle.scc_states_segments.proofs.Stands.{at}
use Rattle.scc_states_segments.proofs.Walking.{is_plain, plain_waits, is_test, is_block, is_loop, one_part}
use Rattle.scc_states_segments.proofs.parts.+parts.Goals as goal

no_more : (n a : ℕ) → a ≡ 0 → n ≡ n + a
no_more n a h = omega (arith, h)

pub part_of-returns-then-not-opens-clause-number : goal.part_of-returns-then-not-opens-clause-number
part_of-returns-then-not-opens-clause-number t c = no_more c.args.next.now _ (plain_waits c.args.s.now (sym c.opens.ensures ∙ c.if-not-opens.true))

pub part_of-returns-then-not-opens-clause-part : goal.part_of-returns-then-not-opens-clause-part
part_of-returns-then-not-opens-clause-part t c =
    subst (λ s. IsPart c.args.next.now c.args.next.now c.args.s.now (at c.args.s.now.place (variant.Plain s))) (sym (c.in_ok-stmt.ensures c.plain.ensures.plain))
    (is_plain c.args.s.now c.args.next.now (sym c.opens.ensures ∙ c.if-not-opens.true))

-- the parts of a test are read and copied
same_test : (n : CoreNode) (t t' : CoreExpr) (a a' b b' : List CoreStmt) → n ≡ stmt.If t a b → t' ≡ t → a' ≡ a → b' ≡ b → n ≡ stmt.If t' a' b'
same_test n t t' a a' b b' is et ea eb = is ∙ ap (λ x. stmt.If x a b) (sym et) ∙ ap (λ x. stmt.If t' x b) (sym ea) ∙ ap (stmt.If t' a') (sym eb)

pub part_of-returns-in_ok-test-in-If-clause-part : goal.part_of-returns-in_ok-test-in-If-clause-part
part_of-returns-in_ok-test-in-If-clause-part t c =
    is_test c.args.s.now c.in_ok-test-in-If.test c.as_slice.result.now c.as_slice-in-If.result.now c.args.next.now c.parts_of.new.next c.parts_of-in-If.new.next c.in_ok-yes-in-If.yes c.in_ok-no-in-If.no
    (same_test c.args.s.now.node c.in-If.test _ c.in-If.yes _ c.in-If.no _ c.in-If.is (c.in_ok-test-in-If.ensures.plain c.plain-in-If.ensures.plain) c.as_slice.ensures.elements c.as_slice-in-If.ensures.elements)
    (sym c.opens.ensures ∙ c.if-not-opens.false) c.in_ok-yes-in-If.ensures.number c.in_ok-no-in-If.ensures.number c.in_ok-yes-in-If.ensures.parts c.in_ok-no-in-If.ensures.parts

pub part_of-returns-in_ok-parts_of-in-Block-clause-part : goal.part_of-returns-in_ok-parts_of-in-Block-clause-part
part_of-returns-in_ok-parts_of-in-Block-clause-part t c =
    is_block c.args.s.now c.as_slice-in-Block.result.now c.args.next.now c.parts_of-in-Block.new.next c.in_ok-parts_of-in-Block.field-0
    (c.in-Block.is ∙ ap stmt.Block (sym c.as_slice-in-Block.ensures.elements)) (sym c.opens.ensures ∙ c.if-not-opens.false) c.in_ok-parts_of-in-Block.ensures.number c.in_ok-parts_of-in-Block.ensures.parts

pub part_of-returns-in_ok-parts_of-in-Loop-clause-part : goal.part_of-returns-in_ok-parts_of-in-Loop-clause-part
part_of-returns-in_ok-parts_of-in-Loop-clause-part t c =
    is_loop c.args.s.now c.in-Loop.count c.as_slice-in-Loop.result.now c.args.next.now c.parts_of-in-Loop.new.next c.in_ok-parts_of-in-Loop.field-0
    (c.in-Loop.is ∙ ap (stmt.Loop c.in-Loop.count) (sym c.as_slice-in-Loop.ensures.elements)) (sym c.opens.ensures ∙ c.if-not-opens.false) c.in_ok-parts_of-in-Loop.ensures.number c.in_ok-parts_of-in-Loop.ensures.parts

one_further : (n m m' total a b ab : ℕ) → n + ab ≡ total → ab ≡ a + b → m' ≡ n + a → m' + b ≡ total
one_further n m m' total a b ab h i j = omega (arith, h, i, j)

pub parts_of-loop-s-preserved : goal.parts_of-loop-s-preserved
parts_of-loop-s-preserved t c =
    let i : c.loop-s.s-index < length c.args.body.now = omega arith in
    let ss = c.args.body.now in (
      one_further c.loop-s.next 0 c.part_of.new.next _ (waits_in (code_of (c.s-item.result ∷ []))) (waits_in (code_of (drop (c.loop-s.s-index + 1) ss))) (waits_in (code_of (drop c.loop-s.s-index ss)))
          c.loop-s.invariant.0 (waits_here ss c.loop-s.s-index c.s-item.result i c.s-item.is) c.in_ok-part_of.ensures.number,
      subst (λ ps. (w : Walk) → Walks w (numbered c.part_of.new.next (code_of (drop (c.loop-s.s-index + 1) ss))) → Walks (chain (map part_walk ps) w) (numbered c.args.next.now (code_of ss))) (sym c.in_ok-push.ensures.ok)
          (one_part ss c.loop-s.s-index c.s-item.result c.loop-s.list c.in_ok-part_of.field-0 c.args.next.now c.loop-s.next c.part_of.new.next i c.s-item.is c.in_ok-part_of.ensures.part c.loop-s.invariant.1),
    )
