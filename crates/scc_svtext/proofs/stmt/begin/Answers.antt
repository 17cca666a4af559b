use Rattle.std.proofs.Common.{◌≤◌, ◌<◌, length, arith}
use Rattle.scc_svtext.specs.declared.fixed.Fixed.TheVariants as piece
use Rattle.scc_svtext.proofs.Grown.{grown, grown_by}
use Rattle.scc_svtext.proofs.stmt.begin.Goals as goal

pub returns-in_ok-fixed-in-Assign-2-clause-grows : goal.returns-in_ok-fixed-in-Assign-2-clause-grows
returns-in_ok-fixed-in-Assign-2-clause-grows c =
    let a : length c.args.out.now ≤ length c.blank.new.out = grown _ _ _ c.in_ok-blank.ensures in
    let b : length c.blank.new.out ≤ length c.left.new.out = grown _ _ _ c.in_ok-left-in-Assign.ensures in
    let d : length c.left.new.out ≤ length c.fixed.new.out = grown _ _ _ c.in_ok-fixed-in-Assign.ensures in
    let e : length c.fixed.new.out ≤ length c.expr.new.out = grown _ _ _ c.in_ok-expr-in-Assign.ensures in
    let f : length c.expr.new.out < length c.fixed-in-Assign.new.out = grown_by _ _ piece.LineEnd c.in_ok-fixed-in-Assign-2.ensures in
    omega arith

pub returns-in_ok-fixed-in-If-2-clause-grows : goal.returns-in_ok-fixed-in-If-2-clause-grows
returns-in_ok-fixed-in-If-2-clause-grows c =
    let a : length c.args.out.now ≤ length c.blank.new.out = grown _ _ _ c.in_ok-blank.ensures in
    let d : length c.blank.new.out ≤ length c.fixed-in-If.new.out = grown _ _ _ c.in_ok-fixed-in-If.ensures in
    let e : length c.fixed-in-If.new.out ≤ length c.expr-in-If.new.out = grown _ _ _ c.in_ok-expr-in-If.ensures in
    let f : length c.expr-in-If.new.out < length c.fixed-in-If-2.new.out = grown_by _ _ piece.Then c.in_ok-fixed-in-If-2.ensures in
    omega arith

pub returns-in_ok-fixed-in-Case-2-clause-grows : goal.returns-in_ok-fixed-in-Case-2-clause-grows
returns-in_ok-fixed-in-Case-2-clause-grows c =
    let a : length c.args.out.now ≤ length c.blank.new.out = grown _ _ _ c.in_ok-blank.ensures in
    let d : length c.blank.new.out ≤ length c.fixed-in-Case.new.out = grown _ _ _ c.in_ok-fixed-in-Case.ensures in
    let e : length c.fixed-in-Case.new.out ≤ length c.expr-in-Case.new.out = grown _ _ _ c.in_ok-expr-in-Case.ensures in
    let f : length c.expr-in-Case.new.out < length c.fixed-in-Case-2.new.out = grown_by _ _ piece.CaseOpen c.in_ok-fixed-in-Case-2.ensures in
    omega arith
