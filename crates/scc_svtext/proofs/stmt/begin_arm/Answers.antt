use Rattle.std.proofs.Common.{◌≤◌, ◌<◌, length, arith}
use Rattle.scc_svtext.specs.declared.fixed.Fixed.TheVariants as piece
use Rattle.scc_svtext.proofs.Grown.{grown, grown_by}
use Rattle.scc_svtext.proofs.stmt.begin_arm.Goals as goal

pub returns-clause-grows : goal.returns-clause-grows
returns-clause-grows c =
    let a : length c.args.out.now ≤ length c.blank.new.out = grown _ _ _ c.in_ok-blank.ensures in
    let d : length c.blank.new.out ≤ length c.literal.new.out = grown _ _ _ c.in_ok-literal.ensures in
    let f : length c.literal.new.out < length c.fixed.new.out = grown_by _ _ piece.ArmOpen c.in_ok-fixed.ensures in
    omega arith
