use Rattle.std.proofs.Common.{◌++◌, [], ◌∷◌, ap, sym}
use Rattle.scc_core.specs.Tables.{own_steps}
use Rattle.scc_core.proofs.Trees.{entered_as, local_on, none_on}
use Rattle.scc_core.proofs.places.Places.enter_own.Goals as goal

pub returns-in_ok-at-in-Some : goal.returns-in_ok-at-in-Some
returns-in_ok-at-in-Some c = λ ss t r.
    let a = c.in_ok-mine-in-Some.ensures ss t r in
    entered_as c.args.self.now c.enter_indices.new.self _ _ _ (local_on c.args.self.now c.enter.new.self c.enter_indices.new.self ss _ _ _ _ a (c.in_ok-at-in-Some.ensures _ a.extends.tree a.reaches)) (ap (λ o. ss ++ own_steps o c.args.indices.now) (sym c.in-Some.is))

pub returns-in-None : goal.returns-in-None
returns-in-None c = λ ss t r. entered_as c.args.self.now c.args.self.now (ss ++ []) _ c.args.from (none_on c.args.self.now ss c.args.from t r) (ap (λ o. ss ++ own_steps o c.args.indices.now) (sym c.in-None.is))
