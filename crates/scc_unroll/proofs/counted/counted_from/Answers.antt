use Rattle.std.proofs.Common.{sym, ap, subst, ◌∙◌, Option, Some}
use Rattle.std.specs.Prelude.{IfSome}
use Rattle.scc_core_view.specs.Codes.{code_of}
use Rattle.scc_core_view.specs.Terms.{term_of}
use Rattle.scc_core_spec.specs.Counted as spec
use Rattle.scc_unroll_laws.specs.Counters.{counters_of}
use Rattle.scc_unroll.specs.Shape.{cells_at, turned}
use Rattle.scc_unroll_asked.specs.Read.{IsRead}
use Rattle.scc_unroll.proofs.Forms.{not_counted, is_counted, parts_found}
use Rattle.scc_unroll.proofs.counted.counted_from.Goals as goal

pub returns-then-not-counted-clause-counted : goal.returns-then-not-counted-clause-counted
returns-then-not-counted-clause-counted c = λ b r a reads e.
    let v = term_of c.args.value.now in
    not_counted _ _ (sym (c.in_ok-counted.ensures b r v a reads e) ∙ c.if-not-counted.true)

pub returns-in-Some-clause-counted : goal.returns-in-Some-clause-counted
returns-in-Some-clause-counted c = λ b r a reads e.
    let v = term_of c.args.value.now in
    let cs = cells_at c.args.at.now in
    let ns = counters_of c.args.counters.now in
    let t : Option spec.Turning → Option spec.Counting = λ o. Some (record { cell = c.args.count.now.cell; turns = spec.turns_by cs ns c.args.count.now.cell v o }) in
    ap t (sym (parts_found _ (turned c.in-Some.turning) (spec.turning_of (code_of c.args.body.now)) (ap (Rattle.std.specs.Prelude.option_map turned) (sym c.in-Some.is) ∙ c.turning_in.ensures.parts)))
    ∙ is_counted _ _ (sym (c.in_ok-counted.ensures b r v a reads e) ∙ c.if-not-counted.false)

pub returns-in-Some-clause-told : goal.returns-in-Some-clause-told
returns-in-Some-clause-told c = λ a v reads.
    let k = c.args.at.now.known in
    let t = subst (λ o. IfSome o (λ t. IsRead k t.test.now × IsRead k t.step.now)) c.in-Some.is (c.turning_in.ensures.read k reads) in
    record { counters = a; start = v; test = t.0; step = t.1 }
