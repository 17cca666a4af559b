use Rattle.std.proofs.Common.{◌++◌, map}
use Rattle.scc_core.specs.Names.{step_of}
use Rattle.scc_core.specs.Tables.{own_steps}
use Rattle.scc_core.proofs.Trees.{entered_as, entered_on}
use Rattle.scc_core.proofs.places.Places.enter_name.Goals as goal

pub returns : goal.returns
returns c = λ t.
    let a = c.in_ok-front.ensures t in
    entered_as c.args.self.now c.enter_own.new.self _ _ _ (entered_on c.args.self.now c.enter_path.new.self c.enter_own.new.self _ _ _ _ a (c.in_ok-at.ensures _ a.extends.tree a.reaches)) (λ i. map step_of (c.as_slice.ensures.parts i) ++ own_steps c.args.name.now.local (c.as_slice-2.ensures.elements i))
