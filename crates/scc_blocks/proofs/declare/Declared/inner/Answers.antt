use Rattle.std.proofs.Common.{refl}
use Rattle.scc_svtree.specs.declared.module.Dir.TheVariants as dir
use Rattle.scc_blocks.proofs.Declaring.{any_one, has_one}
use Rattle.scc_blocks.proofs.declare.Declared.inner.Goals as goal

pub returns-clause-adds : goal.returns-clause-adds
returns-clause-adds c = any_one c.in_ok-id.id (record { name = c.args.name; width = c.args.width; dir = dir.Inner }) c.args.self.now c.put.new.self refl c.in_ok-id.ensures.vars c.in_ok-id.ensures.cells

pub returns-clause-number : goal.returns-clause-number
returns-clause-number c = has_one c.in_ok-id.id (record { name = c.args.name; width = c.args.width; dir = dir.Inner }) c.args.self.now.vars c.put.new.self.vars c.in_ok-id.ensures.declared c.in_ok-id.ensures.number c.in_ok-id.ensures.vars
