use Rattle.std.proofs.Common.{◌≡◌, ◌≤◌, ◌<◌, [], List, Some, None, length, map, refl, sym, ap, ◌∙◌, subst, arith}
use Rattle.std.proofs.lemmas.List.{take_all}
use Rattle.std.proofs.lemmas.Result.{IfOk-weaker}
use Rattle.std.specs.Option.{option_copied}
use denote.Ref.{Bor}
use Rattle.scc_core.specs.declared.expr.CoreExpr.{CoreExpr}
use Rattle.scc_core.specs.declared.expr.CoreExprNode.TheVariants as node
use Rattle.scc_core.specs.Located.{named_in}
use Rattle.scc_svtree.specs.declared.expr.SvExpr.{SvExpr}
use Rattle.scc_svtree.specs.Term as emitted
use Rattle.scc_svtree.specs.Term.{joined, term_of}
use Rattle.scc_lower_laws.specs.Joins.{joined_text}
use Rattle.scc_lower_laws.specs.Outcome as outcome
use Rattle.scc_lower_laws.specs.Outcome.{Outcome}
use Rattle.scc_lower_tree_laws.specs.Becoming.{Becomes}
use Rattle.scc_lower_tree_laws.specs.Finding.{BitAt, LoweringAll, Opening, Picking, Reading, location_of}
use Rattle.scc_lower_tree_laws.proofs.Nodes.{lowering-pick}
use Rattle.scc_lower_tree_laws.proofs.Opening.{lowering-none, opening-none}
use Rattle.scc_lower_tree_laws.proofs.Picks.{reading-nowhere}
use Rattle.scc_lower_expressions.specs.declared.convert.Lowered.{Lowered}
use Rattle.scc_lower_expressions.specs.declared.index.Open.{Open}
use Rattle.scc_lower_expressions.specs.declared.place.Chosen.{Chosen}
use Rattle.scc_lower_expressions.specs.Becoming.{IsLocated, IsPath, chosen_of, found_of, given_of, opened_of, outcome_of, state_of}
use Rattle.scc_lower_expressions.specs.Lowered.{Converts}
use Rattle.scc_lower_expressions.specs.Operated.{Chosen as IsChoice, Operated, OperatedAlone}
use Rattle.scc_lower_expressions.proofs.Closed.{closed-open}
use Rattle.scc_lower_expressions.proofs.Leaves.{joined-parts, located-read, valued-pick}
use Rattle.scc_lower_expressions.proofs.Outcomes.{operand}
use Rattle.scc_lower_expressions.proofs.Shapes.{out-bit, out-convert, out-alone, out-two, out-choice, out-join, out-pick}
use Rattle.scc_lower_expressions.proofs.Steps.{joined-more, map-more, opened-more, over-convert, over-alone, over-two, over-choice, path-less}
use Rattle.scc_lower_expressions.proofs.+lowering.Goals as goal

-- ---- an expression along its first operands

pub expr::lowered-loop-outer-init : goal.expr::lowered-loop-outer-init
expr::lowered-loop-outer-init t c = (c.in_ok-chain.innermost.now, c.in_ok-chain.ensures, c.in_ok-made.ensures)

pub expr::lowered-loop-outer-preserved : goal.expr::lowered-loop-outer-preserved
expr::lowered-loop-outer-preserved t c =
    let here = c.loop-outer.invariant in
    let P : List CoreExpr → Type 0 = λ ys. IsPath c.args.e.now ys here.0 in
    let rest = map (λ (x : Bor CoreExpr). x.now) c.pop.new.self.items in
    let shorter = path-less c.args.e.now c.in-Some.outer.now here.0 rest (subst P (ap (map (λ (x : Bor CoreExpr). x.now)) c.in-Some.ensures.items ∙ map-more (λ (x : Bor CoreExpr). x.now) c.pop.new.self.items c.in-Some.outer) here.1) in
    (c.in-Some.outer.now, shorter.0, c.in_ok-made-2.ensures here.0 (state_of c.args.cx.now) shorter.1 here.2)

-- ---- an expression behind its first operand

pub expr::over-returns-in-Convert : goal.expr::over-returns-in-Convert
expr::over-returns-in-Convert t c = λ f a p h.
    let g = given_of c.args.cells in
    let e = c.args.e.now in
    let b = state_of c.args.cx.now in
    let P : Lowered → Type 0 = λ o. Converts c.in-Convert.of.kind e.kind c.args.inner o in
    let Q : Lowered → Type 0 = λ o. Becomes g e a (outcome_of o) b in
    IfOk-weaker c.converted.result P Q
    (λ o k. over-convert g e a b c.in-Convert.of f c.args.inner o (out-convert e.node c.in-Convert.of (sym c.get.ensures.value ∙ c.in-Convert.is)) p h k)
    c.converted.ensures

pub expr::over-returns-in-None : goal.expr::over-returns-in-None
expr::over-returns-in-None t c = λ f a p h.
    let g = given_of c.args.cells in
    let e = c.args.e.now in
    let b = state_of c.args.cx.now in
    let x = c.in-Operate in
    let is : e.node ≡ node.Operate x.op x.left None = sym c.get.ensures.value ∙ cc in
    let P : Lowered → Type 0 = λ o. OperatedAlone x.op (operand c.args.inner x.left.kind) o in
    let Q : Lowered → Type 0 = λ o. Becomes g e a (outcome_of o) b in
    IfOk-weaker c.operated_alone.result P Q
    (λ o k. over-alone g e a b x.left f x.op c.args.inner o (out-alone e.node x.op x.left is) p h k)
    c.operated_alone.ensures

pub expr::over-returns-in_ok-lowered-in-Some : goal.expr::over-returns-in_ok-lowered-in-Some
expr::over-returns-in_ok-lowered-in-Some t c = λ f a p h.
    let g = given_of c.args.cells in
    let e = c.args.e.now in
    let b = state_of c.args.cx.now in
    let x = c.in-Operate in
    let r = c.in-Some.right in
    let is : e.node ≡ node.Operate x.op x.left (Some r) = sym c.get.ensures.value ∙ cc in
    let P : Lowered → Type 0 = λ o. Operated x.op (operand c.args.inner x.left.kind) (operand c.in_ok-lowered-in-Some.field-0 r.kind) o in
    let Q : Lowered → Type 0 = λ o. Becomes g e a (outcome_of o) (state_of c.lowered.new.cx) in
    IfOk-weaker c.operated.result P Q
    (λ o k. over-two g e a b x.left f r x.op (state_of c.lowered.new.cx) c.args.inner c.in_ok-lowered-in-Some.field-0 o r.kind (out-two e.node x.op x.left r is) p h c.in_ok-lowered-in-Some.ensures refl k)
    c.operated.ensures

pub expr::over-returns-in_ok-lowered-in-Choose-2 : goal.expr::over-returns-in_ok-lowered-in-Choose-2
expr::over-returns-in_ok-lowered-in-Choose-2 t c = λ f a p h.
    let g = given_of c.args.cells in
    let e = c.args.e.now in
    let b = state_of c.args.cx.now in
    let x = c.in-Choose in
    let is : e.node ≡ node.Choose x.test x.yes x.no = sym c.get.ensures.value ∙ c.in-Choose.is in
    let y = c.in_ok-lowered-in-Choose.field-0 in
    let n = c.in_ok-lowered-in-Choose-2.field-0 in
    let P : Lowered → Type 0 = λ o. IsChoice (operand c.args.inner x.test.kind) (operand y x.yes.kind) (operand n x.no.kind) e.kind o in
    let Q : Lowered → Type 0 = λ o. Becomes g e a (outcome_of o) (state_of c.lowered-in-Choose-2.new.cx) in
    IfOk-weaker c.chosen.result P Q
    (λ o k. over-choice g e a b x.test f x.yes x.no (state_of c.lowered-in-Choose.new.cx) (state_of c.lowered-in-Choose-2.new.cx) c.args.inner y n o x.yes.kind x.no.kind (out-choice e.node x.test x.yes x.no is) p h c.in_ok-lowered-in-Choose.ensures refl c.in_ok-lowered-in-Choose-2.ensures refl k)
    c.chosen.ensures

-- ---- concatenations

pub expr::joined-loop-part-init : goal.expr::joined-loop-part-init
expr::joined-loop-part-init t c = ([], ap (map term_of) c.new-texts.ensures.empty, lowering-none (given_of c.args.cells) (state_of c.args.cx.now))

pub expr::joined-loop-part-preserved : goal.expr::joined-loop-part-preserved
expr::joined-loop-part-preserved t c =
    let i : c.loop-part.part-index < length c.args.parts.now = omega arith in
    joined-more (given_of c.args.cells) c.args.parts.now c.loop-part.part-index c.part-item.result c.loop-part.texts c.push.new.self c.in_ok-expression.field-0 c.in_ok-x.x (state_of c.args.cx.now) (state_of c.loop-part.cx) (state_of c.lowered.new.cx) i c.part-item.is
    c.in_ok-push.ensures.ok c.in_ok-expression.ensures c.loop-part.invariant c.in_ok-x.ensures

pub expr::joined-returns : goal.expr::joined-returns
expr::joined-returns t c =
    let g = given_of c.args.cells in
    let a = state_of c.args.cx.now in
    let b = state_of c.loop-part.cx in
    let end : length c.args.parts.now ≤ c.loop-part.part-index = omega arith in
    let made = c.loop-part.invariant in
    let R : List CoreExpr → Type 0 = λ es. LoweringAll g es a made.0 b in
    let all = subst R (take_all c.loop-part.part-index c.args.parts.now end) made.2 in
    let P : SvExpr → Type 0 = λ u. term_of u ≡ joined (map term_of c.loop-part.texts) in
    let Q : SvExpr → Type 0 = λ u. (os : List Outcome) × (term_of u ≡ joined_text os) × LoweringAll g c.args.parts.now a os b in
    IfOk-weaker c.concatenation.result P Q (λ u k. (made.0, k ∙ ap joined made.1, all)) c.concatenation.ensures

-- ---- expressions without a first operand

pub expr::text-returns-in-Some : goal.expr::text-returns-in-Some
expr::text-returns-in-Some t c =
    let g = given_of c.args.cells in
    let e = c.args.e.now in
    let a = state_of c.args.cx.now in
    let b = state_of c.read.new.cx in
    let l = c.in-Some.of.now in
    let q = option_copied c.as_ref.result in
    let there : location_of e ≡ Some l = sym c.location.ensures ∙ ap option_copied c.in-Some.is in
    let P : SvExpr → Type 0 = λ u. Reading g l q e.kind a (term_of u) b in
    let Q : SvExpr → Type 0 = λ u. Becomes g e a (outcome.Made (term_of u)) b in
    IfOk-weaker c.read.result P Q (λ u k. located-read g e l q a b (term_of u) there c.as_ref.ensures.value k) c.read.ensures

pub expr::text-returns-in-Pick : goal.expr::text-returns-in-Pick
expr::text-returns-in-Pick t c =
    let g = given_of c.args.cells in
    let e = c.args.e.now in
    let a = state_of c.args.cx.now in
    let b = state_of c.pick_of.new.cx in
    let f = c.in-Pick.of in
    let q = c.in-Pick.pick in
    let P : SvExpr → Type 0 = λ u. Picking g f q e.kind a (term_of u) b in
    let Q : SvExpr → Type 0 = λ u. Becomes g e a (outcome.Made (term_of u)) b in
    IfOk-weaker c.pick_of.result P Q (λ u k. lowering-pick g e f q a b (term_of u) (out-pick e.node f q (sym c.get.ensures.value ∙ c.in-Pick.is)) k) c.pick_of.ensures

pub expr::text-returns-in-Join : goal.expr::text-returns-in-Join
expr::text-returns-in-Join t c =
    let g = given_of c.args.cells in
    let e = c.args.e.now in
    let a = state_of c.args.cx.now in
    let b = state_of c.joined.new.cx in
    let P : SvExpr → Type 0 = λ u. (os : List Outcome) × (term_of u ≡ joined_text os) × LoweringAll g c.as_slice.result.now a os b in
    let Q : SvExpr → Type 0 = λ u. Becomes g e a (outcome.Made (term_of u)) b in
    IfOk-weaker c.joined.result P Q
    (λ u k. joined-parts g e c.in-Join.parts c.as_slice.result.now a b (term_of u) (out-join e.node c.in-Join.parts (sym c.get.ensures.value ∙ c.in-Join.is)) c.as_slice.ensures.elements k)
    c.joined.ensures

pub expr::pick_of-returns-in_ok-e-in-Bit : goal.expr::pick_of-returns-in_ok-e-in-Bit
expr::pick_of-returns-in_ok-e-in-Bit t c =
    let g = given_of c.args.cells in
    let a = state_of c.args.cx.now in
    let b = state_of c.lowered.new.cx in
    let d = state_of c.bit_at.new.cx in
    let e = c.in_ok-e-in-Bit.e in
    let none : location_of c.args.of.now ≡ None = sym c.location.ensures ∙ ap option_copied c.in-None.is in
    let P : SvExpr → Type 0 = λ u. BitAt g (term_of e) c.in-Bit.at b (term_of u) d in
    let Q : SvExpr → Type 0 = λ u. Picking g c.args.of.now c.args.pick.now c.args.kind a (term_of u) d in
    IfOk-weaker c.bit_at.result P Q
    (λ u k. valued-pick g c.args.of.now c.in-Bit.at c.args.pick.now c.in-Bit.of c.args.kind c.in_ok-x-in-Bit.x (term_of e) (term_of u) a b d none (out-bit c.args.pick.now c.in-Bit.of c.in-Bit.at c.in-Bit.is) c.in_ok-x-in-Bit.ensures c.in_ok-e-in-Bit.ensures k)
    c.bit_at.ensures

-- ---- locations

pub expr::read-returns-in-None : goal.expr::read-returns-in-None
expr::read-returns-in-None t c =
    let g = given_of c.args.cells in
    let l = c.args.left.now in
    let a = state_of c.args.cx.now in
    let q = option_copied c.args.pick in
    let none : named_in g.known l ≡ None = subst (IsLocated g l) c.in-None.is c.in_ok-found.ensures in
    let P : SvExpr → Type 0 = λ u. term_of u ≡ emitted.Literal c.width.result 0 in
    let Q : SvExpr → Type 0 = λ u. Reading g l q c.args.kind a (term_of u) a in
    IfOk-weaker c.literal.result P Q (λ u k. reading-nowhere g l c.args.kind q a (term_of u) none (k ∙ ap (λ n. emitted.Literal n 0) c.width.ensures)) c.literal.ensures

pub expr::read_found-returns-in-None : goal.expr::read_found-returns-in-None
expr::read_found-returns-in-None t c = λ l k h.
    let g = given_of c.args.cells in
    let f = found_of c.args.found.now in
    let a = state_of c.args.cx.now in
    let b = state_of c.opened.new.cx in
    let P : List Chosen → Type 0 = λ ds. Opening g (map chosen_of ds) a (map opened_of c.in_ok-opens.opens.items) b in
    let Q : List Open → Type 0 = λ os. Opening g f.dims a (map opened_of os) b in
    c.read_closed.ensures l k f a refl h (subst Q (sym c.as_slice-in-None.ensures.value) (subst P c.as_slice.ensures.value c.in_ok-opens.ensures))

pub expr::read_found-returns : goal.expr::read_found-returns
expr::read_found-returns t c = λ l k h.
    let g = given_of c.args.cells in
    let f = found_of c.args.found.now in
    let a = state_of c.args.cx.now in
    let b = state_of c.opened.new.cx in
    let d = state_of c.bit_at.new.cx in
    let q = option_copied c.args.pick in
    let R : List Chosen → Type 0 = λ ds. Opening g (map chosen_of ds) a (map opened_of c.in_ok-opens.opens.items) b in
    let S : List Open → Type 0 = λ os. Opening g f.dims a (map opened_of os) b in
    let opening = subst S (sym c.as_slice-in-Some.ensures.value) (subst R c.as_slice.ensures.value c.in_ok-opens.ensures) in
    let e = term_of c.in_ok-e-in-Some.e in
    let P : SvExpr → Type 0 = λ u. BitAt g e c.in-Some.at.now b (term_of u) d in
    let Q : SvExpr → Type 0 = λ u. Reading g l q k a (term_of u) d in
    IfOk-weaker c.bit_at.result P Q
    (λ u r. closed-open g l k f (map opened_of c.as_slice-in-Some.result.now) a b f.first q e d c.in-Some.at.now (term_of u) c.in-Some.ensures refl h opening c.in_ok-e-in-Some.ensures r)
    c.bit_at.ensures

-- ---- indices

pub index::opened-loop-dim-init : goal.index::opened-loop-dim-init
index::opened-loop-dim-init t c =
    let g = given_of c.args.cells in
    let a = state_of c.args.cx.now in
    let P : List Open → Type 0 = λ os. Opening g [] a (map opened_of os) a in
    subst P (sym c.new-opens.ensures.items) (opening-none g a)

pub index::opened-loop-dim-preserved : goal.index::opened-loop-dim-preserved
index::opened-loop-dim-preserved t c =
    let i : c.loop-dim.dim-index < length c.args.dims.now = omega arith in
    opened-more (given_of c.args.cells) c.args.dims.now c.loop-dim.dim-index c.dim-item.result c.loop-dim.opens.items c.push.new.items.items _ (state_of c.args.cx.now) (state_of c.loop-dim.cx) (state_of c.indexed.new.cx) i c.dim-item.is c.in_ok-push.ensures.ok
    c.loop-dim.invariant refl refl c.in_ok-at.ensures

pub index::opened-returns : goal.index::opened-returns
index::opened-returns t c =
    let end : length c.args.dims.now ≤ c.loop-dim.dim-index = omega arith in
    let P : List Chosen → Type 0 = λ ds. Opening (given_of c.args.cells) (map chosen_of ds) (state_of c.args.cx.now) (map opened_of c.loop-dim.opens.items) (state_of c.loop-dim.cx) in
    subst P (take_all c.loop-dim.dim-index c.args.dims.now end) c.loop-dim.invariant
